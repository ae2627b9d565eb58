use Rattle.sg_ir.proofs.SpanStart as start
use Rattle.sg_ir.proofs.laws.words_lie_in_spans.Goals as goal

pub returns : goal.returns
returns c = start.words_lie_in_spans c.words_are_numbers.ensures.number c.words_are_numbers.ensures.word
    c.arithmetic_is_modular.ensures.sum c.arithmetic_is_modular.ensures.difference c.arithmetic_is_modular.ensures.product
    c.operators_give_words.ensures.applied c.operators_give_words.ensures.applied_un c.operators_give_words.ensures.mulq
    c.closure_members.ensures.inside c.box_in_order.ensures.points
