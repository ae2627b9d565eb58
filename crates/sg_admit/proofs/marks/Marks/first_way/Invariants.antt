use Rattle.std.proofs.Common.{◌≡◌, drop}
use Rattle.sg_admit.specs.Rules.{first_way}
use Rattle.sg_admit.proofs.marks.Marks.first_way.Given as goal

abbrev pub invariant-loop-it : goal.invariant-loop-it
invariant-loop-it l = first_way (drop l.it-index l.it-items) l.layout l.place ≡ first_way l.self.ways l.layout l.place
