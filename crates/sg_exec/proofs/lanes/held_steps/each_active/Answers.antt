use Rattle.std.proofs.Common.{refl, sym, subst, arith}
use Rattle.std.specs.Prelude.{Option, IfSome}
use Rattle.sg_exec.specs.declared.lanes.held.Held.{Held}
use Rattle.sg_exec.specs.steps.Machines.{IsHeld}
use Rattle.sg_exec.specs.steps.Accessing.{TellsActive}
use Rattle.sg_exec.proofs.EachLane.{are_none, are_more}
use Rattle.sg_exec.proofs.HeldWords.{one_at}
use Rattle.sg_exec.proofs.lanes.held_steps.each_active.Goals as goal

pub loop-k-init : goal.loop-k-init
loop-k-init c = are_none _ _ refl

pub held_where-held-requires : goal.held_where-held-requires
held_where-held-requires c = one_at c.args.one c.args.row.now.kinds c.loop-k.k (omega arith) c.requires.one

pub active_word-requires : goal.active_word-requires
active_word-requires c = record {
  known = c.known_by-known.ensures;
  held = subst (λ (held : Option Held). IfSome held (IsHeld c.args.view.now)) (sym c.held_where-held.ensures.is) (c.requires.held c.loop-k.k (omega arith));
}

pub loop-k-preserved : goal.loop-k-preserved
loop-k-preserved c =
    are_more _ c.loop-k.k c.loop-k.words c.active_word.result (omega arith) c.loop-k.invariant
    (subst (λ (held : Option Held). TellsActive c.args.view.now held c.active_word.result) c.held_where-held.ensures.is c.active_word.ensures)

pub returns : goal.returns
returns c = λ k small. c.loop-k.invariant.each k (omega (arith, small))
