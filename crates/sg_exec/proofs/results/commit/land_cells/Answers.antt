use Rattle.std.proofs.Common.{◌≡◌, List, length, refl, ap, ◌∙◌, subst, arith}
use Rattle.std.proofs.lemmas.List.{take_all}
use Rattle.std.proofs.lemmas.List.Elements.{Contains-get_or}
use Rattle.sg_flat.specs.declared.effects.Write.{Write}
use Rattle.sg_exec.specs.declared.lanes.cell_write.CellWrite.{CellWrite}
use Rattle.sg_exec.specs.steps.Landing.{landing, Lands}
use Rattle.sg_exec.proofs.StoresLanded.{lands_nothing}
use Rattle.sg_exec.proofs.Following.{lands_next, no_write}
use Rattle.sg_exec.proofs.CellsLanded.{item_of, map_long}
use Rattle.sg_exec.proofs.TreesKept.{trees_itself, trees_then, cell_over}
use Rattle.sg_exec.proofs.results.commit.land_cells.Goals as goal

pub loop-write-init : goal.loop-write-init
loop-write-init c = record { trees = trees_itself c.args.stores.now.items; lands = λ base made trees is. lands_nothing c.args.stores.now.items; kept = λ layout none. refl }

pub land_cell-requires : goal.land_cell-requires
land_cell-requires c = record { cell = cell_over c.args.stores.now.items c.loop-write.stores.items _ _ c.loop-write.invariant.trees (c.requires.cells c.loop-write.write-index _ (omega arith)) }

pub loop-write-preserved : goal.loop-write-preserved
loop-write-preserved c =
    let olds = c.args.stores.now.items in
    let mids = c.loop-write.stores.items in
    let news = c.land_cell.new.stores.items in
    record {
      trees = trees_then olds mids news c.loop-write.invariant.trees c.land_cell.ensures.trees;
      lands = λ base made trees is.
          let long : length c.args.writes.now ≡ length made = ap (λ (ws : List CellWrite). length ws) is ∙ map_long (landing base) made in
          lands_next olds mids news made c.loop-write.write-index no_write (omega (arith, long)) (c.loop-write.invariant.lands base made trees is)
          (c.land_cell.ensures.lands base _ (trees_then base olds mids trees c.loop-write.invariant.trees) (item_of (landing base) made c.args.writes.now c.loop-write.write-index _ no_write _ is (omega arith) refl));
      kept = λ layout none.
          c.land_cell.ensures.kept layout (none _ (Contains-get_or c.args.writes.now c.loop-write.write-index _ (omega arith))) ∙ c.loop-write.invariant.kept layout none;
    }

pub returns : goal.returns
returns c = record {
  trees = c.loop-write.invariant.trees;
  lands = λ base made trees is.
      let long : length c.args.writes.now ≡ length made = ap (λ (ws : List CellWrite). length ws) is ∙ map_long (landing base) made in
      subst (λ (ws : List Write). Lands c.args.stores.now.items c.loop-write.stores.items ws)
      (take_all c.loop-write.write-index made (omega (arith, long))) (c.loop-write.invariant.lands base made trees is);
  kept = c.loop-write.invariant.kept;
}
