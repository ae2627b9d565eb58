use Rattle.std.proofs.Common.{◌≡◌, ℕ, ◌+◌, ◌%◌, length, ap, ◌∙◌, subst, arith}
use Rattle.sg_hash.specs.Tables.{place, Passes}
use Rattle.sg_hash.proofs.Turns.{home_below, place_first, place_next}
use Rattle.sg_hash.proofs.Uses.{full_by_turns, passes_more}
use Rattle.sg_hash.proofs.table.probe.Goals as goal

pub loop-turn-init : goal.loop-turn-init
loop-turn-init c =
    let n : ℕ = length c.args.keys.now in
    let below = home_below n c.args.key c.requires in
    record {
      at_turn = λ some. c.first_place-first.ensures ∙ place_first n c.args.key some;
      below = omega (arith, c.first_place-first.ensures, below);
      passed = λ j before. absurd (omega (arith, before));
    }

pub loop-turn-preserved : goal.loop-turn-preserved
loop-turn-preserved c =
    let n : ℕ = length c.args.keys.now in
    let at : c.loop-turn.at ≡ place n c.args.key c.loop-turn._turn = c.loop-turn.invariant.at_turn (omega arith) in
    record {
      at_turn = λ more. c.following-at.ensures ∙ ap (λ x. (x + 1) % n) at ∙ place_next n c.args.key c.loop-turn._turn more;
      below = omega arith;
      passed = passes_more c.args.keys.now c.args.key c.loop-turn._turn c.loop-turn.at at c.loop-turn.invariant.passed (c.if-word-eq0.false, λ e. c.if-word-wanted.false (omega arith));
    }

pub returns : goal.returns
returns c =
    let all : c.loop-turn._turn ≡ length c.args.keys.now = omega arith in
    full_by_turns c.args.keys.now c.args.key (subst (Passes c.args.keys.now c.args.key) all c.loop-turn.invariant.passed)
