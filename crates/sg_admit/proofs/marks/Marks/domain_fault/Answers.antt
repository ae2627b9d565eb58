use Rattle.sg_admit.specs.steps.Marked.{marked_facts}
use Rattle.sg_admit.proofs.FaultWords.{opens_found}
use Rattle.sg_admit.proofs.marks.Marks.domain_fault.Goals as goal

pub returns-in-Ranges : goal.returns-in-Ranges
returns-in-Ranges c =
    opens_found (marked_facts c.args.self.now) c.args.domain.now c.in-Ranges.ranges c.as_slice.result.now c.in-Ranges.is c.as_slice.ensures c.ranges_fault.result c.ranges_fault.ensures
