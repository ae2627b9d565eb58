use Rattle.std.proofs.Common.{refl}
use Rattle.std.proofs.lemmas.Result.{IfOk-weaker}
use Rattle.sg_simplify.specs.Simplified.{IsSimplified}
use Rattle.sg_simplify.specs.steps.Left.{IsLeft}
use Rattle.sg_simplify.specs.steps.Made.{put_out}
use Rattle.sg_simplify.proofs.Clauses.{left_of_simple}
use Rattle.sg_simplify.proofs.simple.simplify.Goals as goal

pub returns : goal.returns
returns c =
    let shapes = c.args.layouts.now.list in
    let domain = c.args.domain.now in
    let code = c.args.code.now in
    let made = c.in_ok-simple.ensures in
    IfOk-weaker c.lean.result (IsLeft c.in_ok-simple.simple) (IsSimplified shapes domain code)
    (left_of_simple c.words_are_numbers.ensures.number c.words_are_numbers.ensures.word c.arithmetic_is_modular.ensures.sum c.arithmetic_is_modular.ensures.difference c.arithmetic_is_modular.ensures.product
    c.operators_give_words.ensures.applied c.operators_give_words.ensures.applied_un c.operators_give_words.ensures.mulq c.closure_members.ensures.inside c.box_in_order.ensures.points
    c.numbering.ensures.inside_test c.paths_tell.ensures.is_slot c.paths_tell.ensures.whole
    shapes domain code c.in_ok-simple.simple c.layouts_keep.ensures c.requires.typed c.requires.named made.words (put_out shapes domain code) refl made.block made.regs made.places made.vars)
    c.lean.ensures
