use Rattle.std.proofs.Common.{◌≡◌, ℕ, ◌-◌, length, ap, ◌∙◌, subst, arith}
use Rattle.sg_store.specs.StoreWords.{StoreWords}
use Rattle.sg_store.specs.WellFormed.{IsWellFormed}
use Rattle.sg_store.specs.steps.Widths.{IsWidths}
use Rattle.sg_store.proofs.CellWords.{row_reads}
use Rattle.sg_store.proofs.CellsOfFields.{are_cells}
use Rattle.sg_store.proofs.store.Store.field_cells.Goals as goal

pub returns : goal.returns
returns c =
    let store : StoreWords = c.args.self.now in
    let well : IsWellFormed store = subst IsWellFormed c.self.view_is c.self.invariant in
    let index : ℕ = c.nodes-nodes.result - 1 in
    let many : c.nodes-nodes.result ≡ length store.shape.nodes = c.nodes-nodes.ensures.value ∙ ap (λ (s : StoreWords). length s.shape.nodes) c.self.view_is in
    let is : IsWidths store.shape.nodes index c.widths-widths.result = subst (λ (s : StoreWords). IsWidths s.shape.nodes index c.widths-widths.result) c.self.view_is c.widths-widths.ensures in
    let rows = c.as_slice.ensures.value ∙ ap (λ (s : StoreWords). s.fields) c.self.view_is in
    are_cells store c.args.place index c.widths-widths.result c.standing-words.result.now well (c.paths_tell.ensures.is_path store.shape) c.numbering.ensures.inside_test is (omega (arith, c.nodes-nodes.ensures.some, many)) c.requires.field
    (λ cell. c.standing-words.ensures.words cell ∙ row_reads store _ c.index-as_slice-place.result c.args.place cell well rows c.index-as_slice-place.is c.requires.field)
