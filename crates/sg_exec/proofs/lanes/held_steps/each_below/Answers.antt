use Rattle.std.proofs.Common.{◌≡◌, ℕ, get_or, refl, sym, subst, arith}
use Rattle.sg_exec.specs.declared.lanes.held_row.HeldWords.{HeldWords}
use Rattle.sg_exec.specs.steps.Machines.{StepsDown}
use Rattle.sg_exec.specs.steps.Holding.{held_of, held_at}
use Rattle.sg_exec.proofs.HeldWords.{three_none, three_more, one_at}
use Rattle.sg_exec.proofs.PlacesHeld.{steps_none}
use Rattle.sg_exec.proofs.lanes.held_steps.each_below.Goals as goal

pub loop-k-init : goal.loop-k-init
loop-k-init c = record { three = three_none _ _ _ _ refl refl refl; last = steps_none c.args.view.now c.args.node 0 }

pub step_from-last-requires : goal.step_from-last-requires
step_from-last-requires c = record {
  known = c.known_by-known.ensures;
  one = one_at c.args.one c.args.row.now.kinds c.loop-k.k (omega arith) c.requires.one;
  held = c.requires.held c.loop-k.k (omega arith);
  last = c.loop-k.invariant.last;
}

pub loop-k-preserved : goal.loop-k-preserved
loop-k-preserved c =
    let step = c.step_from-last.result in
    let k : ℕ = c.loop-k.k in
    record {
      three = three_more _ k c.loop-k.below_kinds c.loop-k.below_parts c.loop-k.below_slots step.below.kind step.below.part step.below.slot (omega arith) c.loop-k.invariant.three
          (subst (λ (offset : ℕ). StepsDown c.args.view.now c.args.node offset (held_at c.args.row.now k) (held_of step.below.kind step.below.part step.below.slot)) c.step_from-last.ensures.offset
          (subst (λ (from : HeldWords). StepsDown c.args.view.now c.args.node step.offset (held_of from.kind from.part from.slot) (held_of step.below.kind step.below.part step.below.slot)) c.step_from-last.ensures.from
          c.step_from-last.ensures.step));
      last = c.step_from-last.ensures.step;
    }

pub returns : goal.returns
returns c = λ k small. c.loop-k.invariant.three.each k (omega (arith, small))
