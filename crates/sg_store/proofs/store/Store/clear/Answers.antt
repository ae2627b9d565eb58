use Rattle.std.proofs.Common.{◌≡◌, ℕ, Bool, false, List, length, refl, sym, ap, ◌∙◌, subst}
use Rattle.std.specs.List.{All}
use Rattle.std.proofs.lemmas.Bool.{false≢true}
use Rattle.sg_layout.specs.declared.shape.Shape.{Shape}
use Rattle.sg_flat.specs.State.{opening_layout}
use Rattle.sg_store.specs.StoreWords.{StoreWords}
use Rattle.sg_store.specs.WellFormed.{cell_count}
use Rattle.sg_store.specs.StandsFor.{StandsFor}
use Rattle.sg_store.specs.Links.{GrowsLinks}
use Rattle.sg_store.specs.steps.Fresh.{IsZeroRow}
use Rattle.sg_store.proofs.PrunedStands.{emptied_stands}
use Rattle.sg_store.proofs.TrimmedStore.{with_words}
use Rattle.sg_store.proofs.StoreTrimmed as lemmas
use Rattle.sg_store.proofs.store.Store.clear.Goals as goal

pub plans-requires : goal.plans-requires
plans-requires c = λ cell on. absurd (false≢true (sym (lemmas.none_in_row c.new-none.result c.new-none.ensures cell) ∙ on))

pub trim_all-requires-clause-many : goal.trim_all-requires-clause-many
trim_all-requires-clause-many c =
    let inside : StoreWords = record { shape = c.self.inside.layout; nodes = c.self.inside.nodes.items; fields = c.self.inside.fields.items } in
    let shapes : c.as_slice.result.now ≡ inside.shape.nodes = c.as_slice.ensures ∙ ap (λ (s : Shape). s.nodes) c.shape.ensures.value in
    lemmas.as_many inside c.as_slice.result.now c.self.invariant shapes

pub trim_all-requires-clause-planned : goal.trim_all-requires-clause-planned
trim_all-requires-clause-planned c =
    let inside : StoreWords = record { shape = c.self.inside.layout; nodes = c.self.inside.nodes.items; fields = c.self.inside.fields.items } in
    let laws : lemmas.TrimLaws inside.shape = record { rules = c.rules_decide.ensures.accepted inside.shape; fill = c.paths_tell.ensures.fill inside.shape; bounds = c.extents.ensures.bounds } in
    let shapes : c.as_slice.result.now ≡ inside.shape.nodes = c.as_slice.ensures ∙ ap (λ (s : Shape). s.nodes) c.shape.ensures.value in
    lemmas.fit_plans inside c.args.self.now c.new-none.result c.in_ok-plans.plans.items c.as_slice-2.result.now c.as_slice.result.now c.self.view_is c.self.invariant laws c.in_ok-plans.ensures c.as_slice-2.ensures.value shapes

pub invariant_of-self : goal.invariant_of-self
invariant_of-self c =
    let inside : StoreWords = record { shape = c.self.inside.layout; nodes = c.self.inside.nodes.items; fields = c.self.inside.fields.items } in
    let laws : lemmas.TrimLaws inside.shape = record { rules = c.rules_decide.ensures.accepted inside.shape; fill = c.paths_tell.ensures.fill inside.shape; bounds = c.extents.ensures.bounds } in
    let shapes : c.as_slice.result.now ≡ inside.shape.nodes = c.as_slice.ensures ∙ ap (λ (s : Shape). s.nodes) c.shape.ensures.value in
    let none = lemmas.none_in_row c.new-none.result c.new-none.ensures in
    let nothing : ℕ → Bool = λ _. false in
    let has : lemmas.HasTrimmed inside nothing c.in_ok-plans.plans.items c.trim_all.new.nodes.items =
    lemmas.run inside c.args.self.now nothing c.new-none.result c.in_ok-plans.plans.items c.as_slice-2.result.now c.as_slice.result.now c.trim_all.new.nodes.items c.self.view_is c.self.invariant laws
    none (lemmas.none_reached inside) c.in_ok-plans.ensures c.as_slice-2.ensures.value shapes c.trim_all.ensures in
    let fields : List (List ℕ) = c.empty_rows.new.rows.items in
    let many : length fields ≡ length inside.shape.fields = c.empty_rows.ensures.many ∙ c.self.invariant.field_count in
    let zeros : All (IsZeroRow (cell_count inside.shape)) fields = c.empty_rows.ensures.zeros (cell_count inside.shape) (λ k d below. (c.self.invariant.rows_fit k d below).cells) in
    lemmas.run_well inside nothing c.in_ok-plans.plans.items c.trim_all.new.nodes.items fields has many (lemmas.zero_kept inside nothing fields zeros)

pub returns-clause-cleared : goal.returns-clause-cleared
returns-clause-cleared c =
    let inside : StoreWords = record { shape = c.self.inside.layout; nodes = c.self.inside.nodes.items; fields = c.self.inside.fields.items } in
    let laws : lemmas.TrimLaws inside.shape = record { rules = c.rules_decide.ensures.accepted inside.shape; fill = c.paths_tell.ensures.fill inside.shape; bounds = c.extents.ensures.bounds } in
    let shapes : c.as_slice.result.now ≡ inside.shape.nodes = c.as_slice.ensures ∙ ap (λ (s : Shape). s.nodes) c.shape.ensures.value in
    let none = lemmas.none_in_row c.new-none.result c.new-none.ensures in
    let nothing : ℕ → Bool = λ _. false in
    let has : lemmas.HasTrimmed inside nothing c.in_ok-plans.plans.items c.trim_all.new.nodes.items =
    lemmas.run inside c.args.self.now nothing c.new-none.result c.in_ok-plans.plans.items c.as_slice-2.result.now c.as_slice.result.now c.trim_all.new.nodes.items c.self.view_is c.self.invariant laws
    none (lemmas.none_reached inside) c.in_ok-plans.ensures c.as_slice-2.ensures.value shapes c.trim_all.ensures in
    let fields : List (List ℕ) = c.empty_rows.new.rows.items in
    let many : length fields ≡ length inside.shape.fields = c.empty_rows.ensures.many ∙ c.self.invariant.field_count in
    let zeros : All (IsZeroRow (cell_count inside.shape)) fields = c.empty_rows.ensures.zeros (cell_count inside.shape) (λ k d below. (c.self.invariant.rows_fit k d below).cells) in
    subst (λ (old : StoreWords). StandsFor (with_words inside c.trim_all.new.nodes.items fields) (opening_layout old.shape)) c.self.view_is
    (emptied_stands inside c.trim_all.new.nodes.items fields nothing (record { closed = c.closure_closes.ensures.closed inside.shape; absorbs = c.live_absorbs.ensures.absorbs inside.shape }) (record {
      inside = c.numbering.ensures.inside_test;
      is_slot = c.paths_tell.ensures.is_slot inside.shape;
      whole = c.paths_tell.ensures.whole inside.shape;
      is_path = c.paths_tell.ensures.is_path inside.shape;
    }) (lemmas.run_trims inside nothing c.in_ok-plans.plans.items c.trim_all.new.nodes.items has) (λ cell. refl) many zeros)

pub returns-clause-links : goal.returns-clause-links
returns-clause-links c =
    let inside : StoreWords = record { shape = c.self.inside.layout; nodes = c.self.inside.nodes.items; fields = c.self.inside.fields.items } in
    let laws : lemmas.TrimLaws inside.shape = record { rules = c.rules_decide.ensures.accepted inside.shape; fill = c.paths_tell.ensures.fill inside.shape; bounds = c.extents.ensures.bounds } in
    let shapes : c.as_slice.result.now ≡ inside.shape.nodes = c.as_slice.ensures ∙ ap (λ (s : Shape). s.nodes) c.shape.ensures.value in
    let none = lemmas.none_in_row c.new-none.result c.new-none.ensures in
    let nothing : ℕ → Bool = λ _. false in
    let has : lemmas.HasTrimmed inside nothing c.in_ok-plans.plans.items c.trim_all.new.nodes.items =
    lemmas.run inside c.args.self.now nothing c.new-none.result c.in_ok-plans.plans.items c.as_slice-2.result.now c.as_slice.result.now c.trim_all.new.nodes.items c.self.view_is c.self.invariant laws
    none (lemmas.none_reached inside) c.in_ok-plans.ensures c.as_slice-2.ensures.value shapes c.trim_all.ensures in
    let fields : List (List ℕ) = c.empty_rows.new.rows.items in
    let many : length fields ≡ length inside.shape.fields = c.empty_rows.ensures.many ∙ c.self.invariant.field_count in
    let zeros : All (IsZeroRow (cell_count inside.shape)) fields = c.empty_rows.ensures.zeros (cell_count inside.shape) (λ k d below. (c.self.invariant.rows_fit k d below).cells) in
    subst (λ (old : StoreWords). GrowsLinks (with_words inside c.trim_all.new.nodes.items fields) old) c.self.view_is
    (lemmas.run_links inside nothing c.in_ok-plans.plans.items c.trim_all.new.nodes.items fields has (lemmas.run_well inside nothing c.in_ok-plans.plans.items c.trim_all.new.nodes.items fields has many (lemmas.zero_kept inside nothing fields zeros)))
