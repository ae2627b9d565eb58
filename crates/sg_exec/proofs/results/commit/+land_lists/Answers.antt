use Rattle.std.proofs.Common.{◌++◌, List, Vec, sym, ap, ◌∙◌, subst, arith}
use Rattle.std.specs.Prelude.{Contains}
use Rattle.std.proofs.lemmas.List.Elements.{Contains-append_left, Contains-append_right}
use Rattle.std.specs.declared.alloc.Global.{Global}
use Rattle.sg_exec.specs.declared.lanes.cell_write.CellWrite.{CellWrite}
use Rattle.sg_exec.specs.steps.Machines.{AreCells}
use Rattle.sg_exec.specs.steps.Made.{NoWriteInto}
use Rattle.sg_exec.specs.steps.Puts.{in_lists}
use Rattle.sg_exec.proofs.KeptLand.{cells_front, cells_back, land_both, land_none}
use Rattle.sg_exec.proofs.TreesKept.{trees_itself, trees_then, cells_over}
use Rattle.sg_exec.proofs.results.commit.+land_lists.Goals as goal

pub returns-in_default-clause-trees : goal.returns-in_default-clause-trees
returns-in_default-clause-trees t c = trees_itself c.args.stores.now.items

pub returns-in_default-clause-lands : goal.returns-in_default-clause-lands
returns-in_default-clause-lands t c = λ base made trees is.
    land_none base c.args.stores.now.items c.args.lists.now made c.in_default.ensures.cases is

pub land_cells-requires : goal.land_cells-requires
land_cells-requires t c =
    let olds = c.args.stores.now.items in
    let first = c.in-Some.first.now in
    let rest = in_lists c.in-Some.rest.now in
    record {
      cells = subst (λ (writes : List CellWrite). AreCells olds writes) (sym c.as_slice.ensures.value)
          (cells_front olds first.items rest (subst (λ (lists : List (Vec CellWrite Global)). AreCells olds (in_lists lists)) c.in-Some.ensures.cases.0 c.requires.cells));
    }

pub land_lists-requires : goal.land_lists-requires
land_lists-requires t c =
    let olds = c.args.stores.now.items in
    let mids = c.land_cells.new.stores.items in
    let first = c.in-Some.first.now in
    let rest = in_lists c.in-Some.rest.now in (
      omega (arith, c.in-Some.ensures.cases.1, c.decreases),
      cells_over olds mids rest c.land_cells.ensures.trees
          (cells_back olds first.items rest (subst (λ (lists : List (Vec CellWrite Global)). AreCells olds (in_lists lists)) c.in-Some.ensures.cases.0 c.requires.cells)),
    )

pub returns-clause-trees : goal.returns-clause-trees
returns-clause-trees t c = trees_then c.args.stores.now.items c.land_cells.new.stores.items c.land_lists.new.stores.items c.land_cells.ensures.trees c.land_lists.ensures.trees

pub returns-clause-lands : goal.returns-clause-lands
returns-clause-lands t c = λ base made here is.
    land_both base c.args.stores.now.items c.land_cells.new.stores.items c.land_lists.new.stores.items c.in-Some.first.now.items (in_lists c.in-Some.rest.now) made
    here c.land_cells.ensures.trees (ap in_lists (sym c.in-Some.ensures.cases.0) ∙ is)
    (λ ws trees same. c.land_cells.ensures.lands base ws trees (c.as_slice.ensures.value ∙ same))
    (λ ws trees same. c.land_lists.ensures.lands base ws trees same)

pub returns-clause-kept : goal.returns-clause-kept
returns-clause-kept t c = λ layout none.
    let first = c.in-Some.first.now.items in
    let rest = in_lists c.in-Some.rest.now in
    let all : NoWriteInto (first ++ rest) layout = subst (λ (lists : List (Vec CellWrite Global)). NoWriteInto (in_lists lists) layout) c.in-Some.ensures.cases.0 none in
    c.land_lists.ensures.kept layout (λ write has. all write (Contains-append_right first rest write has))
    ∙ c.land_cells.ensures.kept layout (λ write has. all write (Contains-append_left first rest write (subst (λ (ws : List CellWrite). Contains ws write) c.as_slice.ensures.value has)))
