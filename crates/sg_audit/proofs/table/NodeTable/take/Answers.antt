use Rattle.std.proofs.Common.{◌≡◌, ℕ, true, cond, sym, ap, ◌∙◌}
use Rattle.std.specs.BTreeSet.{contains}
use Rattle.std.specs.BTreeMap.{is_at}
use Rattle.std.specs.Ordering.{nat_cmp}
use Rattle.sg_audit.specs.declared.table.NodeTable.{NodeTable}
use Rattle.sg_audit.proofs.TakesLetsGo.{takes_closed, takes_it, was_added}
use Rattle.sg_audit.proofs.table.NodeTable.take.Goals as goal

pub returns-then-not-is_open : goal.returns-then-not-is_open
returns-then-not-is_open c =
    takes_closed c.args.self.now c.in-Some.room c.args.link c.in-Some.is (sym c.is_open.ensures.value ∙ c.if-not-is_open.true)

pub returns : goal.returns
returns c =
    let is = c.put_in.ensures in
    let clear : c.is_open.result ≡ true = c.if-not-is_open.false in
    takes_it c.args.self.now c.put_in.new.self c.in-Some.room c.args.link c.in-Some.is (sym c.is_open.ensures.value ∙ clear) (c.is_open.ensures.few clear)
    (ap (λ (n : ℕ). contains nat_cmp c.args.self.now.taken n) (sym c.slot_number.ensures) ∙ was_added c.in_ok-insert.field-0 (contains nat_cmp c.args.self.now.taken c.slot_number.result) c.in_ok-insert.ensures.added c.if-not-branch.false)
    (λ q. ap (λ (t : NodeTable). contains nat_cmp t.taken q) is ∙ c.in_ok-insert.ensures.updates.0 q
    ∙ ap (λ (n : ℕ). cond (is_at (nat_cmp n) q) true (contains nat_cmp c.args.self.now.taken q)) c.slot_number.ensures)
    (record {
      room = ap (λ (t : NodeTable). t.room) is;
      standing = ap (λ (t : NodeTable). t.standing) is;
      children = ap (λ (t : NodeTable). t.children) is;
      count = ap (λ (t : NodeTable). t.count) is;
    })
