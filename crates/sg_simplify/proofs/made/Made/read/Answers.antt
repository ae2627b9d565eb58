use Rattle.std.proofs.Common.{ap, subst, List, ℕ, refl}
use Rattle.sg_words.specs.declared.operators.Ty.{Ty}
use Rattle.sg_ir.specs.declared.op.Op.TheVariants as op
use Rattle.sg_ir.specs.Blocks.{Value}
use Rattle.sg_simplify.specs.steps.Pass.{Making, place_made, taken}
use Rattle.sg_simplify.specs.steps.Made.{given_in, next_of, Goes}
use Rattle.sg_simplify.proofs.Acting.{read-goes}
use Rattle.sg_simplify.proofs.Taking.{with_names}
use Rattle.sg_simplify.proofs.made.Made.read.Goals as goal

pub returns : goal.returns
returns c = λ there.
    let given = given_in c.args.given.now in
    let place = c.in_ok-place.place in
    let to = c.in_ok-to.to in
    let goes = subst (λ (names : List ℕ). (go : ℕ → Making) → Goes c.args.self.now c.place.new.self c.args.out.now c.place.new.out (place_made given c.args.layout names go) (go place)) c.as_slice.ensures c.in_ok-place.ensures in
    let takes = subst (λ (type : Ty). (go : ℕ → Making) → Goes c.place.new.self c.taken.new.self c.place.new.out c.taken.new.out (taken given type (op.Read place c.args.layout c.args.field) c.in_ok-index.index go) (go to)) c.ty.ensures c.in_ok-to.ensures in
    read-goes given c.args.self.now c.place.new.self c.taken.new.self _ c.args.out.now c.place.new.out c.taken.new.out c.args.from there (Value c.args.layout c.args.field) c.args.index.now c.in_ok-index.index place to
    c.in_ok-index.ensures goes takes (ap (with_names (next_of c.taken.new.self)) c.in_ok-insert.ensures.entries) refl
