use Rattle.std.proofs.Common.{ℕ, List, Option, Some, map, sym, ap, ◌∙◌, subst}
use Rattle.std.specs.Prelude.{All}
use Rattle.std.proofs.lemmas.List.{take_all}
use Rattle.sg_store.specs.Walks.{cell_in}
use Rattle.sg_store.specs.WellFormed.{IsReached}
use Rattle.sg_snapshot.proofs.Writings.{cells_more}
use Rattle.sg_snapshot.proofs.writing.cells_of.Goals as goal

pub loop-at-preserved : goal.loop-at-preserved
loop-at-preserved c = record {
  reached = c.in_ok-push_cell.ensures.reached c.loop-at.invariant.reached;
  cells = λ flat stands all.
      cells_more c.args.store.now c.args.coords.now c.loop-at.at-index _ c.loop-at.cells.items c.push_cell.new.cells.items c.loop-at-test.true (c.in_ok-push_cell.ensures.cells flat stands (all c.loop-at.at-index _ c.loop-at-test.true))
      (c.loop-at.invariant.cells flat stands all);
}

pub returns : goal.returns
returns c =
    let store = c.args.store.now in
    let coords = c.args.coords.now in
    record {
      reached = subst (λ (l : List ℕ). All (IsReached store) l) (sym c.from_vec.ensures) c.loop-at.invariant.reached;
      cells = λ flat stands all.
          ap (map (cell_in store)) (sym (take_all c.loop-at.at-index coords c.loop-at-test.false))
          ∙ sym (c.loop-at.invariant.cells flat stands all)
          ∙ ap (map (λ (cell : ℕ). let out : Option ℕ = Some cell in out)) (sym c.from_vec.ensures);
    }
