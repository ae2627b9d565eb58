use Rattle.std.proofs.Common.{◌≡◌, ℕ, List, [], ap, ◌∙◌, subst}
use Rattle.std.specs.Prelude.{slice_index_or}
use Rattle.std.specs.List.{concat}
use Rattle.sg_store.specs.StoreWords.{StoreWords}
use Rattle.sg_store.specs.WellFormed.{IsWellFormed}
use Rattle.sg_store.specs.StandsFor.{StandsFor}
use Rattle.sg_store.specs.Rows.{put_over}
use Rattle.sg_store.proofs.CellWords.{cell_is_reached}
use Rattle.sg_store.proofs.FieldRows as lemmas
use Rattle.sg_store.proofs.store.Store.set_field_front.Goals as goal

pub invariant_of-self : goal.invariant_of-self
invariant_of-self c =
    let store : StoreWords = c.args.self.now in
    let well : IsWellFormed store = subst IsWellFormed c.self.view_is c.self.invariant in
    let words : List ℕ = concat c.args.parts.now in
    let row : List ℕ = slice_index_or store.fields c.args.place [] in
    let row_at : c.index_mut-row.result.now ≡ row =
    lemmas.row_is store c.self.inside.fields.items c.index_mut-row.result.now c.args.place well (ap (λ (s : StoreWords). s.fields) c.self.view_is) c.index_mut-row.ensures.value c.requires.field in
    let written = lemmas.row_put store c.self.inside.layout c.self.inside.nodes.items c.self.inside.fields.items c.rewrite.new.row (put_over words row) c.args.place c.self.view_is
    (c.rewrite.ensures ∙ ap (put_over words) row_at) in
    subst IsWellFormed written (lemmas.front_well_formed store c.args.place words well c.requires.field c.requires.front)

pub returns-clause-stands : goal.returns-clause-stands
returns-clause-stands c = λ flat now stands sets.
    let store : StoreWords = c.args.self.now in
    let well : IsWellFormed store = subst IsWellFormed c.self.view_is c.self.invariant in
    let words : List ℕ = concat c.args.parts.now in
    let row : List ℕ = slice_index_or store.fields c.args.place [] in
    let row_at : c.index_mut-row.result.now ≡ row =
    lemmas.row_is store c.self.inside.fields.items c.index_mut-row.result.now c.args.place well (ap (λ (s : StoreWords). s.fields) c.self.view_is) c.index_mut-row.ensures.value c.requires.field in
    let written = lemmas.row_put store c.self.inside.layout c.self.inside.nodes.items c.self.inside.fields.items c.rewrite.new.row (put_over words row) c.args.place c.self.view_is
    (c.rewrite.ensures ∙ ap (put_over words) row_at) in
    subst (λ s. StandsFor s now) written
    (lemmas.front_stands store c.args.place words well c.requires.field
    (λ at cell leads. c.requires.front.all_reached cell (cell_is_reached store (c.paths_tell.ensures.is_slot store.shape) (c.paths_tell.ensures.whole store.shape) well at cell leads))
    flat now stands sets)
