use Rattle.std.proofs.Common.{◌≡◌, ◌-◌, ◌<◌, ℕ, suc, List, length, Some, refl, sym, ap, subst, ◌∙◌, arith}
use Rattle.std.specs.Prelude.{slice_get, slice_set}
use Rattle.std.proofs.lemmas.Option.{slice_get_read, slice_get_within}
use Rattle.sg_audit.specs.declared.table.NodeTable.{NodeTable}
use Rattle.sg_audit.specs.steps.Tables.{FreesNumber, table_at}
use Rattle.sg_audit.proofs.LayoutTakes.{none_of, some_of}
use Rattle.sg_audit.proofs.LayoutFrees.{frees_refused, frees_none, frees_followed}
use Rattle.sg_audit.proofs.tables.LayoutTables.free.Goals as goal

pub returns-then-has_child : goal.returns-then-has_child
returns-then-has_child c = frees_refused c.args.self.now c.args.node c.args.number (sym c.has_child.ensures ∙ c.if-has_child.true)

pub returns-then-not-has_table : goal.returns-then-not-has_table
returns-then-not-has_table c = frees_none c.args.self.now c.args.node c.args.number (none_of (table_at c.args.self.now c.args.node) (sym c.has_table.ensures ∙ c.if-not-has_table.true))

pub index_mut-table-requires : goal.index_mut-table-requires
index_mut-table-requires c =
    let there = some_of c.args.self.now c.args.node (sym c.has_table.ensures ∙ c.if-not-has_table.false) in
    let below : there.index < length c.args.self.now = slice_get_within c.args.self.now there.index there.table there.at in
    omega (arith, below, there.numbered, ap length c.self.view_is, c.self.inside.nodes.ok.0)

pub returns : goal.returns
returns c =
    let tables : List NodeTable = c.args.self.now in
    let index : ℕ = c.args.node - 1 in
    let there = some_of tables c.args.node (sym c.has_table.ensures ∙ c.if-not-has_table.false) in
    let place : there.index ≡ index = omega (arith, there.numbered) in
    let numbered : c.args.node ≡ suc index = omega (arith, there.numbered) in
    let below : index < length c.self.inside.nodes.items = omega (arith, slice_get_within tables there.index there.table there.at, place, ap length c.self.view_is) in
    let at : slice_get tables index ≡ Some c.index_mut-table.result.now =
    ap (λ (l : List NodeTable). slice_get l index) (sym c.self.view_is) ∙ slice_get_read c.self.inside.nodes.items (length c.self.inside.nodes.items) index c.index_mut-table.result.now refl below c.index_mut-table.ensures.value in
    let now : List NodeTable → List NodeTable = λ (l : List NodeTable). slice_set l index c.free.new.self in
    subst (λ (l : List NodeTable). FreesNumber tables (now l) c.args.node c.args.number c.free.result) (sym c.self.view_is)
    (frees_followed tables c.args.node c.args.number index c.index_mut-table.result.now c.free.new.self c.free.result numbered at (sym c.has_child.ensures ∙ c.if-has_child.false) c.free.ensures)
