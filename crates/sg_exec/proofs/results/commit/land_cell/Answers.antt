use Rattle.std.proofs.Common.{◌≡◌, ◌∷◌, [], ℕ, length, refl, sym, ap, ◌∙◌, subst, arith}
use Rattle.std.specs.Prelude.{Some, None, slice_get, slice_set}
use Rattle.std.proofs.lemmas.Option.{slice_get_read}
use Rattle.sg_exec.specs.declared.lanes.cell_write.CellWrite.{CellWrite}
use Rattle.sg_exec.specs.steps.Landing.{Lands}
use Rattle.sg_exec.proofs.StoresLanded.{lands_past, lands_one}
use Rattle.sg_exec.proofs.Reading.{reached_in}
use Rattle.sg_exec.proofs.CellsLanded.{tree_shape, landing_is, landing_tree}
use Rattle.sg_exec.proofs.TreesKept.{trees_itself, tree_there, trees_set, set_other, past_none}
use Rattle.sg_exec.proofs.results.commit.land_cell.Goals as goal

pub returns-then-len-number-clause-trees : goal.returns-then-len-number-clause-trees
returns-then-len-number-clause-trees c = trees_itself c.args.stores.now.items

pub returns-then-len-number-clause-lands : goal.returns-then-len-number-clause-lands
returns-then-len-number-clause-lands c = λ base made trees is.
    let olds = c.args.stores.now.items in
    let none : slice_get olds c.args.write.now.layout ≡ None = past_none olds c.args.write.now.layout (omega arith) in
    lands_past olds made (ap (slice_get olds) (sym (ap (λ (w : CellWrite). w.layout) is)) ∙ none)

pub put_cell-requires : goal.put_cell-requires
put_cell-requires c =
    let olds = c.args.stores.now.items in
    let layout = c.args.write.now.layout in
    let old = c.index_mut-store.result.now in
    let at : slice_get olds layout ≡ Some old = slice_get_read olds (length olds) layout old refl (omega arith) c.index_mut-store.ensures.value in
    record { cell = reached_in olds layout old c.args.write.now.cell at c.requires.cell }

pub returns-clause-trees : goal.returns-clause-trees
returns-clause-trees c =
    let olds = c.args.stores.now.items in
    let layout = c.args.write.now.layout in
    let old = c.index_mut-store.result.now in
    let at : slice_get olds layout ≡ Some old = slice_get_read olds (length olds) layout old refl (omega arith) c.index_mut-store.ensures.value in
    trees_set olds layout old c.put_cell.new.store at c.put_cell.ensures.same

pub returns-clause-lands : goal.returns-clause-lands
returns-clause-lands c = λ base made trees is.
    let olds = c.args.stores.now.items in
    let write = c.args.write.now in
    let layout = c.args.write.now.layout in
    let old = c.index_mut-store.result.now in
    let now = c.put_cell.new.store in
    let at : slice_get olds layout ≡ Some old = slice_get_read olds (length olds) layout old refl (omega arith) c.index_mut-store.ensures.value in
    let same : layout ≡ made.layout = ap (λ (w : CellWrite). w.layout) is in
    let found = tree_there base olds layout old trees at in
    subst (λ (l : ℕ). Lands olds (slice_set olds l now) (made ∷ [])) (sym same)
    (lands_one olds old now made (ap (slice_get olds) (sym same) ∙ at) (tree_shape old now c.put_cell.ensures.same)
    (λ flat stands active. c.put_cell.ensures.lands flat stands made (landing_tree found.0 old write made found.1.1 (landing_is base found.0 write made found.1.0 is)) active))

pub returns-clause-kept : goal.returns-clause-kept
returns-clause-kept c = λ layout apart. set_other c.args.stores.now.items c.args.write.now.layout layout c.put_cell.new.store apart
