use Rattle.std.proofs.Common.{◌≡◌, ◌-◌, ◌<◌, ℕ, suc, List, length, Some, refl, sym, ap, subst, ◌∙◌, arith}
use Rattle.std.specs.Prelude.{slice_get, slice_set, Option}
use Rattle.std.proofs.lemmas.Option.{slice_get_read, slice_get_within}
use Rattle.std.proofs.lemmas.Result.{IfOk-weaker}
use Rattle.sg_journal.specs.declared.rooms.Room.{Room}
use Rattle.sg_audit.specs.declared.table.NodeTable.{NodeTable}
use Rattle.sg_audit.specs.steps.Tables.{Takes, TakesLink, node_link}
use Rattle.sg_audit.proofs.LayoutTakes.{node_there, takes_refused, takes_followed}
use Rattle.sg_audit.proofs.tables.LayoutTables.take.Goals as goal

pub returns-then-not-has_parent : goal.returns-then-not-has_parent
returns-then-not-has_parent c = takes_refused c.args.self.now c.args.link (sym c.has_parent.ensures ∙ c.if-not-has_parent.true)

pub index_mut-table-requires : goal.index_mut-table-requires
index_mut-table-requires c =
    let there = node_there c.args.self.now c.args.link.node c.args.link.parent (sym c.has_parent.ensures ∙ c.if-not-has_parent.false) in
    let below : there.index < length c.args.self.now = slice_get_within c.args.self.now there.index there.table there.at in
    omega (arith, below, there.numbered, ap length c.self.view_is, c.self.inside.nodes.ok.0)

pub returns : goal.returns
returns c =
    let tables : List NodeTable = c.args.self.now in
    let index : ℕ = c.args.link.node - 1 in
    let parent = sym c.has_parent.ensures ∙ c.if-not-has_parent.false in
    let there = node_there tables c.args.link.node c.args.link.parent parent in
    let place : there.index ≡ index = omega (arith, there.numbered) in
    let numbered : c.args.link.node ≡ suc index = omega (arith, there.numbered) in
    let below : index < length c.self.inside.nodes.items = omega (arith, slice_get_within tables there.index there.table there.at, place, ap length c.self.view_is) in
    let at : slice_get tables index ≡ Some c.index_mut-table.result.now =
    ap (λ (l : List NodeTable). slice_get l index) (sym c.self.view_is) ∙ slice_get_read c.self.inside.nodes.items (length c.self.inside.nodes.items) index c.index_mut-table.result.now refl below c.index_mut-table.ensures.value in
    let now : List NodeTable → List NodeTable = λ (l : List NodeTable). slice_set l index c.take.new.self in
    IfOk-weaker c.take.result (λ done. (room : Option Room) (parents : ℕ) → Takes room parents c.index_mut-table.result.now c.take.new.self (node_link c.args.link) done)
    (TakesLink tables (now c.self.inside.nodes.items) c.args.link)
    (λ done takes. subst (λ (l : List NodeTable). TakesLink tables (now l) c.args.link done) (sym c.self.view_is)
    (takes_followed tables c.args.link index c.index_mut-table.result.now c.take.new.self done numbered at (sym c.has_parent.ensures ∙ c.if-not-has_parent.false) takes))
    c.take.ensures
