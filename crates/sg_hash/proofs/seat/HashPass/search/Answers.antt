use Rattle.std.proofs.Common.{◌≡◌, ℕ, ◌+◌, ◌%◌, length, refl, ap, ◌∙◌, subst, arith}
use Rattle.sg_words.specs.RaceMachine.{home, place_in_order}
use Rattle.sg_hash.specs.steps.Searching.{HasLookedPast}
use Rattle.sg_hash.proofs.Turns.{home_below, place_first, place_next}
use Rattle.sg_hash.proofs.Searches.{start-passed, more-passed, none-there}
use Rattle.sg_hash.proofs.seat.HashPass.search.Goals as goal

pub loop-turn-init : goal.loop-turn-init
loop-turn-init c =
    let n : ℕ = length c.args.self.now.start.links in
    let at : c.first_place-first.result ≡ home n c.args.key = c.first_place-first.ensures ∙ ap (λ m. home m c.args.key) c.len-places.ensures in
    let below = home_below n c.args.key c.args.self.now.slots in
    record {
      at_turn = λ some. at ∙ place_first n c.args.key some;
      below = omega (arith, at, below);
      own = c.requires.own;
      full = refl;
      passed = start-passed n c.args.key c.args.seat.now.seat.me.0;
    }

pub loop-turn-preserved : goal.loop-turn-preserved
loop-turn-preserved c =
    let n : ℕ = length c.args.self.now.start.links in
    let at : c.loop-turn.at ≡ place_in_order n c.args.key c.loop-turn._turn = c.loop-turn.invariant.at_turn (omega arith) in
    record {
      at_turn = λ more. c.following-at.ensures ∙ ap (λ m. (c.loop-turn.at + 1) % m) c.len-places.ensures ∙ ap (λ x. (x + 1) % n) at ∙ place_next n c.args.key c.loop-turn._turn more;
      below = omega arith;
      own = c.probe-word.ensures.own;
      full = c.probe-word.ensures.full ∙ c.loop-turn.invariant.full;
      passed = more-passed n c.args.key c.loop-turn._turn c.loop-turn.at c.probe-word.result c.args.seat.now.seat.me.0 c.loop-turn.seat.seat.me.0 c.probe-word.new.seat.seat.me.0 at
          c.loop-turn.invariant.passed c.probe-word.ensures.searched c.probe-word.ensures.put c.probe-word.ensures.found c.probe-word.ensures.tells (λ e. c.if-word-wanted.false (omega arith));
    }

pub returns-clause-found : goal.returns-clause-found
returns-clause-found c =
    let slots = c.args.self.now.slots in
    let all : c.loop-turn._turn ≡ length c.args.self.now.start.links = omega arith in
    none-there _ c.args.key c.args.seat.now.seat.me.0 c.loop-turn.seat.seat.me.0 slots
    (subst (λ j. HasLookedPast (length c.args.self.now.start.links) c.args.key j c.args.seat.now.seat.me.0 c.loop-turn.seat.seat.me.0) all c.loop-turn.invariant.passed)
