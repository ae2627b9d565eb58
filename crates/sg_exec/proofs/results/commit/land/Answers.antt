use Rattle.std.specs.List.{AllZip}
use Rattle.std.specs.Prelude.{Contains, slice_get}
use Rattle.sg_store.specs.Links.{GrowsLinks}
use Rattle.std.proofs.Common.{◌≡◌, ◌++◌, All, List, sym, ap, ◌∙◌, subst}
use Rattle.sg_store.specs.StoreWords.{StoreWords}
use Rattle.sg_exec.specs.declared.results.sums.Sum.{Sum}
use Rattle.sg_exec.specs.steps.Machines.{AreCells}
use Rattle.sg_exec.specs.steps.Landing.{current, Lands}
use Rattle.sg_exec.specs.steps.Made.{AreSums, HasRow, HaveTrees, summed}
use Rattle.sg_exec.specs.steps.Puts.{kept_writes}
use Rattle.sg_exec.specs.Standing.{shapes_of}
use Rattle.sg_exec.proofs.TreesKept.{cells_over, trees_then, trees_shapes}
use Rattle.sg_exec.proofs.PreparedRuns.{kept_unwritten}
use Rattle.sg_exec.proofs.LinksKept.{links_over, links_then}
use Rattle.sg_exec.proofs.results.commit.land.Goals as goal

pub land_sums-requires : goal.land_sums-requires
land_sums-requires c =
    let copies = c.args.made.copies.items in
    let sums = c.args.made.ended.sums.items in
    let owned = c.move_all.new.owned.items in
    let is : owned ≡ current copies c.args.stores.now.list =
    c.move_all.ensures.items ∙ ap (λ (front : List StoreWords). front ++ current copies c.replace-list.result) c.requires.none ∙ ap (current copies) c.replace-list.ensures.value in
    record {
      rows = subst (λ (list : List Sum). All (HasRow owned) list) (sym c.as_slice.ensures.value)
          (subst (λ (stores : List StoreWords). All (HasRow stores) sums) (sym is) c.requires.rows);
    }

pub land_puts-requires : goal.land_puts-requires
land_puts-requires c =
    let copies = c.args.made.copies.items in
    let puts = (kept_writes c.args.made.ended.puts) in
    let owned = c.move_all.new.owned.items in
    let is : owned ≡ current copies c.args.stores.now.list =
    c.move_all.ensures.items ∙ ap (λ (front : List StoreWords). front ++ current copies c.replace-list.result) c.requires.none ∙ ap (current copies) c.replace-list.ensures.value in
    record {
      cells = cells_over owned c.land_sums.new.stores.items puts c.land_sums.ensures.trees (subst (λ (stores : List StoreWords). AreCells stores puts) (sym is) c.requires.cells);
    }

pub returns-clause-landed : goal.returns-clause-landed
returns-clause-landed c =
    let sums = c.args.made.ended.sums.items in
    let base = current c.args.made.copies.items c.args.stores.now.list in
    let owned = c.move_all.new.owned.items in
    let mids = c.land_sums.new.stores.items in
    let is : owned ≡ base =
    c.move_all.ensures.items ∙ ap (λ (front : List StoreWords). front ++ current c.args.made.copies.items c.replace-list.result) c.requires.none ∙ ap (current c.args.made.copies.items) c.replace-list.ensures.value in
    record {
      landed = record {
        mids = c.land_sums.new.stores.items;
        sums_land = λ writes are.
            subst (λ (stores : List StoreWords). Lands stores mids (summed sums writes)) is
            (subst (λ (list : List Sum). Lands owned mids (summed list writes)) c.as_slice.ensures.value
            (c.land_sums.ensures.lands writes
            (subst (λ (list : List Sum). AreSums owned list writes) (sym c.as_slice.ensures.value) (subst (λ (stores : List StoreWords). AreSums stores sums writes) (sym is) are))));
        puts_land = λ made given.
            subst (λ (news : List StoreWords). Lands mids news made) (sym c.from_vec.ensures)
            (c.land_puts.ensures.lands base made (subst (λ (stores : List StoreWords). HaveTrees stores mids) is c.land_sums.ensures.trees) given);
      };
      mids_shapes = trees_shapes owned mids c.land_sums.ensures.trees ∙ ap shapes_of is;
      mids_same = λ layout none.
          c.land_sums.ensures.kept layout (λ sum has. none sum (subst (λ (list : List Sum). Contains list sum) c.as_slice.ensures.value has)) ∙ ap (λ (ss : List StoreWords). slice_get ss layout) is;
      news_shapes = ap shapes_of c.from_vec.ensures ∙ trees_shapes mids c.land_puts.new.stores.items c.land_puts.ensures.trees;
      news_same = λ layout none. ap (λ (ss : List StoreWords). slice_get ss layout) c.from_vec.ensures ∙ c.land_puts.ensures.kept layout none;
    }

pub returns-clause-kept : goal.returns-clause-kept
returns-clause-kept c = λ kernel for_it. kept_unwritten kernel c.args.stores.now.list c.args.made _ for_it (returns-clause-landed c)

pub returns-clause-links : goal.returns-clause-links
returns-clause-links c =
    let copies = c.args.made.copies.items in
    let stores = c.args.stores.now.list in
    let base = current c.args.made.copies.items c.args.stores.now.list in
    let owned = c.move_all.new.owned.items in
    let news = c.land_puts.new.stores.items in
    let is : owned ≡ base =
    c.move_all.ensures.items ∙ ap (λ (front : List StoreWords). front ++ current copies c.replace-list.result) c.requires.none ∙ ap (current copies) c.replace-list.ensures.value in
    let trees : HaveTrees base news = subst (λ (ss : List StoreWords). HaveTrees ss news) is (trees_then owned c.land_sums.new.stores.items news c.land_sums.ensures.trees c.land_puts.ensures.trees) in
    subst (λ (ss : List StoreWords). AllZip GrowsLinks stores ss) (sym c.from_vec.ensures)
    (links_then stores base news c.requires.links (links_over base news trees))
