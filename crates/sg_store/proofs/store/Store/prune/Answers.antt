use Rattle.std.proofs.Common.{◌≡◌, refl, sym, ap, ◌∙◌, subst}
use Rattle.sg_layout.specs.declared.shape.Shape.{Shape}
use Rattle.sg_flat.specs.declared.state.FlatLayout.{FlatLayout}
use Rattle.sg_store.specs.StoreWords.{StoreWords}
use Rattle.sg_store.specs.WellFormed.{IsWellFormed}
use Rattle.sg_store.specs.StandsFor.{StandsFor}
use Rattle.sg_store.specs.Pruning.{pruned}
use Rattle.sg_store.specs.Links.{GrowsLinks}
use Rattle.sg_store.specs.steps.Marks.{marked_from}
use Rattle.sg_store.specs.steps.StorePlans.{has_word}
use Rattle.sg_store.proofs.Marked.{used_all}
use Rattle.sg_store.proofs.Emptied.{word_reached, words_kept}
use Rattle.sg_store.proofs.PrunedStands.{trimmed_stands}
use Rattle.sg_store.proofs.TrimmedStore.{with_words}
use Rattle.sg_store.proofs.StoreTrimmed as lemmas
use Rattle.sg_store.proofs.store.Store.prune.Goals as goal

pub plans-requires : goal.plans-requires
plans-requires c = λ cell on.
    let store : StoreWords = c.args.self.now in
    let well : IsWellFormed store = subst IsWellFormed c.self.view_is c.self.invariant in
    used_all store (marked_from store.shape.nodes store.nodes 1) well refl cell (word_reached store well cell (sym (c.in_ok-cells.ensures cell) ∙ on))

pub trim_all-requires-clause-many : goal.trim_all-requires-clause-many
trim_all-requires-clause-many c =
    let inside : StoreWords = record { shape = c.self.inside.layout; nodes = c.self.inside.nodes.items; fields = c.self.inside.fields.items } in
    let shapes : c.as_slice.result.now ≡ inside.shape.nodes = c.as_slice.ensures ∙ ap (λ (s : Shape). s.nodes) c.shape.ensures.value in
    lemmas.as_many inside c.as_slice.result.now c.self.invariant shapes

pub trim_all-requires-clause-planned : goal.trim_all-requires-clause-planned
trim_all-requires-clause-planned c =
    let inside : StoreWords = record { shape = c.self.inside.layout; nodes = c.self.inside.nodes.items; fields = c.self.inside.fields.items } in
    let laws : lemmas.TrimLaws inside.shape = record { rules = c.rules_decide.ensures.accepted inside.shape; fill = c.paths_tell.ensures.fill inside.shape; bounds = c.extents.ensures.bounds } in
    let shapes : c.as_slice.result.now ≡ inside.shape.nodes = c.as_slice.ensures ∙ ap (λ (s : Shape). s.nodes) c.shape.ensures.value in
    lemmas.fit_plans inside c.args.self.now c.in_ok-cells.cells c.in_ok-plans.plans.items c.as_slice-2.result.now c.as_slice.result.now c.self.view_is c.self.invariant laws c.in_ok-plans.ensures c.as_slice-2.ensures.value shapes

pub invariant_of-self : goal.invariant_of-self
invariant_of-self c =
    let inside : StoreWords = record { shape = c.self.inside.layout; nodes = c.self.inside.nodes.items; fields = c.self.inside.fields.items } in
    let laws : lemmas.TrimLaws inside.shape = record { rules = c.rules_decide.ensures.accepted inside.shape; fill = c.paths_tell.ensures.fill inside.shape; bounds = c.extents.ensures.bounds } in
    let shapes : c.as_slice.result.now ≡ inside.shape.nodes = c.as_slice.ensures ∙ ap (λ (s : Shape). s.nodes) c.shape.ensures.value in
    let has : lemmas.HasTrimmed inside (has_word inside) c.in_ok-plans.plans.items c.trim_all.new.nodes.items =
    lemmas.run inside c.args.self.now (has_word inside) c.in_ok-cells.cells c.in_ok-plans.plans.items c.as_slice-2.result.now c.as_slice.result.now c.trim_all.new.nodes.items c.self.view_is c.self.invariant laws
    (λ cell. c.in_ok-cells.ensures cell ∙ ap (λ (s : StoreWords). has_word s cell) (sym c.self.view_is)) (word_reached inside c.self.invariant) c.in_ok-plans.ensures c.as_slice-2.ensures.value shapes c.trim_all.ensures in
    lemmas.run_well inside (has_word inside) c.in_ok-plans.plans.items c.trim_all.new.nodes.items inside.fields has c.self.invariant.field_count (words_kept inside c.self.invariant)

pub returns-clause-pruned : goal.returns-clause-pruned
returns-clause-pruned c =
    let inside : StoreWords = record { shape = c.self.inside.layout; nodes = c.self.inside.nodes.items; fields = c.self.inside.fields.items } in
    let laws : lemmas.TrimLaws inside.shape = record { rules = c.rules_decide.ensures.accepted inside.shape; fill = c.paths_tell.ensures.fill inside.shape; bounds = c.extents.ensures.bounds } in
    let shapes : c.as_slice.result.now ≡ inside.shape.nodes = c.as_slice.ensures ∙ ap (λ (s : Shape). s.nodes) c.shape.ensures.value in
    let has : lemmas.HasTrimmed inside (has_word inside) c.in_ok-plans.plans.items c.trim_all.new.nodes.items =
    lemmas.run inside c.args.self.now (has_word inside) c.in_ok-cells.cells c.in_ok-plans.plans.items c.as_slice-2.result.now c.as_slice.result.now c.trim_all.new.nodes.items c.self.view_is c.self.invariant laws
    (λ cell. c.in_ok-cells.ensures cell ∙ ap (λ (s : StoreWords). has_word s cell) (sym c.self.view_is)) (word_reached inside c.self.invariant) c.in_ok-plans.ensures c.as_slice-2.ensures.value shapes c.trim_all.ensures in
    subst (λ (old : StoreWords). (flat : FlatLayout) → StandsFor old flat → StandsFor (with_words inside c.trim_all.new.nodes.items inside.fields) (pruned old.shape flat)) c.self.view_is
    (trimmed_stands inside c.trim_all.new.nodes.items (record {
      inside_test = c.numbering.ensures.inside_test;
      row_of_point = c.numbering.ensures.row_of_point;
      closure_inside = c.closure_members.ensures.inside inside.shape;
      extends = c.closure_closes.ensures.extends inside.shape;
      closed = c.closure_closes.ensures.closed inside.shape;
      active = c.cells_are_active.ensures.active inside;
    }) (record {
      inside = c.numbering.ensures.inside_test;
      is_slot = c.paths_tell.ensures.is_slot inside.shape;
      whole = c.paths_tell.ensures.whole inside.shape;
      is_path = c.paths_tell.ensures.is_path inside.shape;
    }) (c.live_absorbs.ensures.absorbs inside.shape) (lemmas.run_trims inside (has_word inside) c.in_ok-plans.plans.items c.trim_all.new.nodes.items has))

pub returns-clause-links : goal.returns-clause-links
returns-clause-links c =
    let inside : StoreWords = record { shape = c.self.inside.layout; nodes = c.self.inside.nodes.items; fields = c.self.inside.fields.items } in
    let laws : lemmas.TrimLaws inside.shape = record { rules = c.rules_decide.ensures.accepted inside.shape; fill = c.paths_tell.ensures.fill inside.shape; bounds = c.extents.ensures.bounds } in
    let shapes : c.as_slice.result.now ≡ inside.shape.nodes = c.as_slice.ensures ∙ ap (λ (s : Shape). s.nodes) c.shape.ensures.value in
    let has : lemmas.HasTrimmed inside (has_word inside) c.in_ok-plans.plans.items c.trim_all.new.nodes.items =
    lemmas.run inside c.args.self.now (has_word inside) c.in_ok-cells.cells c.in_ok-plans.plans.items c.as_slice-2.result.now c.as_slice.result.now c.trim_all.new.nodes.items c.self.view_is c.self.invariant laws
    (λ cell. c.in_ok-cells.ensures cell ∙ ap (λ (s : StoreWords). has_word s cell) (sym c.self.view_is)) (word_reached inside c.self.invariant) c.in_ok-plans.ensures c.as_slice-2.ensures.value shapes c.trim_all.ensures in
    let well = lemmas.run_well inside (has_word inside) c.in_ok-plans.plans.items c.trim_all.new.nodes.items inside.fields has c.self.invariant.field_count (words_kept inside c.self.invariant) in
    subst (λ (old : StoreWords). GrowsLinks (with_words inside c.trim_all.new.nodes.items inside.fields) old) c.self.view_is
    (lemmas.run_links inside (has_word inside) c.in_ok-plans.plans.items c.trim_all.new.nodes.items inside.fields has well)
