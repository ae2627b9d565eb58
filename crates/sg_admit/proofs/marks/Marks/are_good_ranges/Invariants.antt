use Rattle.std.proofs.Common.{◌≡◌, drop}
use Rattle.std.specs.List.{list_all}
use Rattle.sg_admit.specs.steps.Marked.{marked_facts}
use Rattle.sg_admit.specs.steps.Reading.{good_by, is_good_range}
use Rattle.sg_admit.proofs.marks.Marks.are_good_ranges.Given as goal

abbrev pub invariant-loop-range : goal.invariant-loop-range
invariant-loop-range l =
    list_all (is_good_range l.self.vars (good_by (marked_facts l.self) l.reading)) (drop l.range-index l.ranges) ≡ list_all (is_good_range l.self.vars (good_by (marked_facts l.self) l.reading)) l.ranges
