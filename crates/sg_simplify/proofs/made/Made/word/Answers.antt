use Rattle.std.proofs.Common.{ap, refl, subst}
use Rattle.sg_words.specs.declared.operators.Ty.{Ty}
use Rattle.sg_ir.specs.Shared.{is_pure}
use Rattle.sg_simplify.specs.steps.Pass.{numbered}
use Rattle.sg_simplify.specs.steps.Made.{given_in, next_of, onward, Goes}
use Rattle.sg_simplify.proofs.Taking.{onward-goes, with_names}
use Rattle.sg_simplify.proofs.made.Made.word.Goals as goal

pub returns : goal.returns
returns c = λ rest.
    let given = given_in c.args.given.now in
    let mid = c.numbered.new.self in
    let to = c.in_ok-to.to in
    let goes = subst (λ (type : Ty). Goes c.args.self.now mid c.args.out.now c.numbered.new.out (numbered (is_pure given.single c.args.op) given type c.args.op (onward given c.args.from rest)) (onward given c.args.from rest to)) c.ty.ensures (c.in_ok-to.ensures (onward given c.args.from rest)) in
    onward-goes given c.args.from to rest c.args.self.now mid _ c.args.out.now c.numbered.new.out _ (ap (with_names (next_of mid)) c.in_ok-insert.ensures.entries) refl goes
