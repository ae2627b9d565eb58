use Rattle.std.proofs.Common.{◌≡◌, ◌+◌, ◌*◌, ◌-◌, suc, length, ℕ, ap, ◌∙◌, refl, subst, arith}
use Rattle.sg_store.specs.declared.spot.Spot.{Spot}
use Rattle.sg_store.specs.StoreWords.{StoreWords}
use Rattle.sg_store.specs.WellFormed.{IsWellFormed}
use Rattle.sg_store.specs.Spots.{width_after}
use Rattle.sg_store.specs.steps.Widths.{IsWidths}
use Rattle.sg_store.proofs.SpotCells as lemmas
use Rattle.sg_store.proofs.store.Store.cell_at.Goals as goal

pub overflow_cast-result : goal.overflow_cast-result
overflow_cast-result c =
    let store : StoreWords = c.args.self.now in
    let spot : Spot = c.args.spot in
    let index : ℕ = c.nodes-nodes.result - 1 in
    let width : ℕ = c.widths-width.result.after in
    let many : c.nodes-nodes.result ≡ length store.shape.nodes = c.nodes-nodes.ensures.value ∙ ap (λ (s : StoreWords). length s.shape.nodes) c.self.view_is in
    let is : IsWidths store.shape.nodes index c.widths-width.result = subst (λ (s : StoreWords). IsWidths s.shape.nodes index c.widths-width.result) c.self.view_is c.widths-width.ensures in
    let end : suc index ≡ spot.node = omega (arith, c.nodes-nodes.ensures.some, many, c.requires.whole) in
    let last : lemmas.IsLast store spot c.requires.leads.0 width (spot.part * width + spot.slot) = record {
      well = subst IsWellFormed c.self.view_is c.self.invariant;
      leads = c.requires.leads.1;
      whole = c.requires.whole;
      wide = is.after_is ∙ ap (width_after store.shape.nodes) end;
      placed = refl;
    } in
    omega (arith, lemmas.last_small store spot c.requires.leads.0 width _ last)

pub returns-clause-cell : goal.returns-clause-cell
returns-clause-cell c = λ path leads.
    let store : StoreWords = c.args.self.now in
    let spot : Spot = c.args.spot in
    let index : ℕ = c.nodes-nodes.result - 1 in
    let width : ℕ = c.widths-width.result.after in
    let many : c.nodes-nodes.result ≡ length store.shape.nodes = c.nodes-nodes.ensures.value ∙ ap (λ (s : StoreWords). length s.shape.nodes) c.self.view_is in
    let is : IsWidths store.shape.nodes index c.widths-width.result = subst (λ (s : StoreWords). IsWidths s.shape.nodes index c.widths-width.result) c.self.view_is c.widths-width.ensures in
    let end : suc index ≡ spot.node = omega (arith, c.nodes-nodes.ensures.some, many, c.requires.whole) in
    let last : lemmas.IsLast store spot path width (spot.part * width + spot.slot) = record {
      well = subst IsWellFormed c.self.view_is c.self.invariant;
      leads = leads;
      whole = c.requires.whole;
      wide = is.after_is ∙ ap (width_after store.shape.nodes) end;
      placed = refl;
    } in
    lemmas.last_leads store spot path width _ last

pub returns-clause-at : goal.returns-clause-at
returns-clause-at c = λ path leads.
    let store : StoreWords = c.args.self.now in
    let spot : Spot = c.args.spot in
    let index : ℕ = c.nodes-nodes.result - 1 in
    let width : ℕ = c.widths-width.result.after in
    let many : c.nodes-nodes.result ≡ length store.shape.nodes = c.nodes-nodes.ensures.value ∙ ap (λ (s : StoreWords). length s.shape.nodes) c.self.view_is in
    let is : IsWidths store.shape.nodes index c.widths-width.result = subst (λ (s : StoreWords). IsWidths s.shape.nodes index c.widths-width.result) c.self.view_is c.widths-width.ensures in
    let end : suc index ≡ spot.node = omega (arith, c.nodes-nodes.ensures.some, many, c.requires.whole) in
    let last : lemmas.IsLast store spot path width (spot.part * width + spot.slot) = record {
      well = subst IsWellFormed c.self.view_is c.self.invariant;
      leads = leads;
      whole = c.requires.whole;
      wide = is.after_is ∙ ap (width_after store.shape.nodes) end;
      placed = refl;
    } in
    lemmas.last_cell store spot path width _ (c.paths_tell.ensures.is_path store.shape) c.numbering.ensures.inside_test last

pub returns-clause-reached : goal.returns-clause-reached
returns-clause-reached c =
    let store : StoreWords = c.args.self.now in
    let spot : Spot = c.args.spot in
    let index : ℕ = c.nodes-nodes.result - 1 in
    let width : ℕ = c.widths-width.result.after in
    let many : c.nodes-nodes.result ≡ length store.shape.nodes = c.nodes-nodes.ensures.value ∙ ap (λ (s : StoreWords). length s.shape.nodes) c.self.view_is in
    let is : IsWidths store.shape.nodes index c.widths-width.result = subst (λ (s : StoreWords). IsWidths s.shape.nodes index c.widths-width.result) c.self.view_is c.widths-width.ensures in
    let end : suc index ≡ spot.node = omega (arith, c.nodes-nodes.ensures.some, many, c.requires.whole) in
    let last : lemmas.IsLast store spot c.requires.leads.0 width (spot.part * width + spot.slot) = record {
      well = subst IsWellFormed c.self.view_is c.self.invariant;
      leads = c.requires.leads.1;
      whole = c.requires.whole;
      wide = is.after_is ∙ ap (width_after store.shape.nodes) end;
      placed = refl;
    } in
    lemmas.last_reached store spot c.requires.leads.0 width _ last
