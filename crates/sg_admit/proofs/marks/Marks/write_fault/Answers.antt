use Rattle.std.proofs.Common.{◌∙◌}
use Rattle.sg_admit.specs.steps.Marked.{marked_facts}
use Rattle.sg_admit.proofs.FaultWords.{write_is}
use Rattle.sg_admit.proofs.marks.Marks.write_fault.Goals as goal

pub returns : goal.returns
returns c = λ around e.
    c.broken.ensures
    ∙ write_is (marked_facts c.args.self.now) c.args.number c.args.layout c.args.place c.args.index.now c.args.way c.args.value.now around
    c.keeps_way-one_way.result c.is_own_good-own.result c.is_good_write-acc.result c.is_foreseen-foreseen.result c.is_askable_write-unwritten.result c.args.clean
    c.keeps_way-one_way.ensures c.is_own_good-own.ensures c.is_good_write-acc.ensures c.is_foreseen-foreseen.ensures c.is_askable_write-unwritten.ensures e
