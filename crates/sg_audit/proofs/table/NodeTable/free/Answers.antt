use Rattle.std.proofs.Common.{ℕ, false, cond, sym, ap, ◌∙◌}
use Rattle.std.specs.BTreeSet.{contains}
use Rattle.std.specs.BTreeMap.{is_at}
use Rattle.std.specs.Ordering.{nat_cmp}
use Rattle.sg_audit.specs.declared.table.NodeTable.{NodeTable}
use Rattle.sg_audit.proofs.TakesLetsGo.{lets_absent, lets_go}
use Rattle.sg_audit.proofs.table.NodeTable.free.Goals as goal

pub returns-in_default-standing_of : goal.returns-in_default-standing_of
returns-in_default-standing_of c = lets_absent c.args.self.now c.in-Some.room c.args.number c.in-Some.is (sym c.in_default-standing_of.ensures)

pub returns : goal.returns
returns c =
    let is = c.take_out.ensures in
    lets_go c.args.self.now c.take_out.new.self c.in-Some.room c.args.number c.in-Some-standing_of.standing c.in-Some.is (sym c.in-Some-standing_of.ensures)
    (λ q. ap (λ (t : NodeTable). contains nat_cmp t.taken q) is ∙ c.remove.ensures.updates.0 q
    ∙ ap (λ (n : ℕ). cond (is_at (nat_cmp n) q) false (contains nat_cmp c.args.self.now.taken q)) c.slot_number.ensures)
    (record {
      room = ap (λ (t : NodeTable). t.room) is;
      standing = ap (λ (t : NodeTable). t.standing) is;
      children = ap (λ (t : NodeTable). t.children) is;
      count = ap (λ (t : NodeTable). t.count) is;
    })
