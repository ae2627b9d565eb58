use Rattle.std.proofs.Common.{List, Vec, sym, ap, ◌∙◌, subst}
use Rattle.std.specs.Prelude.{Contains}
use Rattle.std.proofs.lemmas.List.Elements.{Contains-append_left, Contains-append_right}
use Rattle.std.specs.declared.alloc.Global.{Global}
use Rattle.sg_exec.specs.declared.lanes.cell_write.CellWrite.{CellWrite}
use Rattle.sg_exec.specs.steps.Machines.{AreCells}
use Rattle.sg_exec.specs.steps.Puts.{in_lists}
use Rattle.sg_exec.proofs.KeptLand.{cells_front, cells_back, land_both}
use Rattle.sg_exec.proofs.TreesKept.{cells_over, trees_then}
use Rattle.sg_exec.proofs.results.commit.land_puts.Goals as goal

pub land_lists-requires : goal.land_lists-requires
land_lists-requires c =
    let olds = c.args.stores.now.items in
    let puts = c.args.puts.now in
    record {
      cells = subst (λ (lists : List (Vec CellWrite Global)). AreCells olds (in_lists lists)) (sym c.as_slice.ensures.value)
          (cells_front olds (in_lists puts.before.items) puts.last.items c.requires.cells);
    }

pub land_cells-requires : goal.land_cells-requires
land_cells-requires c =
    let olds = c.args.stores.now.items in
    let mids = c.land_lists.new.stores.items in
    let puts = c.args.puts.now in
    record {
      cells = subst (λ (writes : List CellWrite). AreCells mids writes) (sym c.as_slice-2.ensures.value)
          (cells_over olds mids puts.last.items c.land_lists.ensures.trees (cells_back olds (in_lists puts.before.items) puts.last.items c.requires.cells));
    }

pub returns : goal.returns
returns c = record {
  trees = trees_then c.args.stores.now.items c.land_lists.new.stores.items c.land_cells.new.stores.items c.land_lists.ensures.trees c.land_cells.ensures.trees;
  lands = λ base made here is.
      land_both base c.args.stores.now.items c.land_lists.new.stores.items c.land_cells.new.stores.items (in_lists c.args.puts.now.before.items) c.args.puts.now.last.items made
      here c.land_lists.ensures.trees is
      (λ ws trees same. c.land_lists.ensures.lands base ws trees (ap in_lists c.as_slice.ensures.value ∙ same))
      (λ ws trees same. c.land_cells.ensures.lands base ws trees (c.as_slice-2.ensures.value ∙ same));
  kept = λ layout none.
      let before = in_lists c.args.puts.now.before.items in
      let last = c.args.puts.now.last.items in
      c.land_cells.ensures.kept layout (λ write has. none write (Contains-append_right before last write (subst (λ (ws : List CellWrite). Contains ws write) c.as_slice-2.ensures.value has)))
      ∙ c.land_lists.ensures.kept layout (λ write has. none write (Contains-append_left before last write (subst (λ (lists : List (Vec CellWrite Global)). Contains (in_lists lists) write) c.as_slice.ensures.value has)));
}
