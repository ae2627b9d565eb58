use Rattle.std.proofs.Common.{subst, List, ℕ}
use Rattle.sg_simplify.specs.steps.Pass.{Making, place_made}
use Rattle.sg_simplify.specs.steps.Made.{given_in, Goes}
use Rattle.sg_simplify.proofs.Acting.{contribute-goes}
use Rattle.sg_simplify.proofs.made.Made.contribute.Goals as goal

pub returns : goal.returns
returns c = λ there.
    let given = given_in c.args.given.now in
    let goes = subst (λ (names : List ℕ). (go : ℕ → Making) → Goes c.args.self.now c.place.new.self c.args.out.now c.place.new.out (place_made given c.args.layout names go) (go c.in_ok-place.place)) c.as_slice.ensures c.in_ok-place.ensures in
    contribute-goes given c.args.self.now c.place.new.self c.args.out.now c.place.new.out c.push.new.self c.args.op c.args.layout c.args.field there c.args.from c.args.index.now c.args.stmt c.name-from.result c.in_ok-index.index c.in_ok-place.place
    c.name-from.ensures c.in_ok-index.ensures goes c.in_ok-push.ensures.ok
