use Rattle.std.proofs.Common.{◌≡◌, ℕ, suc, ◌-◌, ◌<◌, false, length, drop, subst, sym, ap, ◌∙◌, arith}
use Rattle.std.specs.List.{list_any}
use Rattle.sg_ir.specs.WellTyped.{holds_of}
use Rattle.sg_ir.specs.steps.Targets.{leaves}
use Rattle.sg_ir.proofs.Scanning.{get-some}
use Rattle.sg_ir.proofs.before.last_setter.Goals as goal

pub returns-then-leaves : goal.returns-then-leaves
returns-then-leaves c =
    let xs = c.args.done.now in
    let at = length xs - 1 - c.loop-back.back in
    let inside : at < length xs = omega arith in
    let is = get-some xs at c.index-done-at.result inside c.index-done-at.is in
    let next : length xs - c.loop-back.back ≡ suc at = omega arith in
    let P = λ (n : ℕ). list_any (leaves c.args.what) (drop n xs) ≡ false in
    record {
      within = inside;
      there = ap (holds_of (leaves c.args.what)) is ∙ sym c.leaves.ensures ∙ c.if-leaves.true;
      behind = subst P next c.loop-back.invariant;
    }
