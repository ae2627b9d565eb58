use Rattle.std.proofs.Common.{◌≡◌, ℕ, ◌+◌, ◌%◌, ◌<◌, length, sym, ap, ◌∙◌, subst, arith}
use Rattle.sg_words.specs.RaceMachine.{home}
use Rattle.sg_hash.specs.Tables.{place, Passes}
use Rattle.sg_hash.proofs.Turns.{home_below, place_first, place_next}
use Rattle.sg_hash.proofs.Uses.{full_by_turns, passes_more}
use Rattle.sg_hash.proofs.row_table.probe.Goals as goal

pub loop-turn-init : goal.loop-turn-init
loop-turn-init c =
    let n : ℕ = length c.args.keys.now in
    let below = home_below n c.args.key c.requires in
    let at = c.first_place-at.ensures ∙ ap (λ m. home m c.args.key) c.len-places.ensures in
    record {
      at_turn = λ some. at ∙ place_first n c.args.key some;
      below = subst (λ p. p < n) (sym at) below;
      passed = λ j before. absurd (omega (arith, before));
    }

pub loop-turn-preserved : goal.loop-turn-preserved
loop-turn-preserved c =
    let n : ℕ = length c.args.keys.now in
    let at : c.loop-turn.at ≡ place n c.args.key c.loop-turn._turn = c.loop-turn.invariant.at_turn (omega arith) in
    record {
      at_turn = λ more. c.following-at.ensures ∙ ap (λ m. (c.loop-turn.at + 1) % m) c.len-places.ensures ∙ ap (λ x. (x + 1) % n) at ∙ place_next n c.args.key c.loop-turn._turn more;
      below = omega arith;
      passed = passes_more c.args.keys.now c.args.key c.loop-turn._turn c.loop-turn.at at c.loop-turn.invariant.passed (λ e. c.if-word-eq0.false (c.get-word.ensures ∙ e), λ e. c.if-word-wanted.false (omega (arith, c.get-word.ensures, e)));
    }

pub returns : goal.returns
returns c =
    let all : c.loop-turn._turn ≡ length c.args.keys.now = omega arith in
    full_by_turns c.args.keys.now c.args.key (subst (Passes c.args.keys.now c.args.key) all c.loop-turn.invariant.passed)
