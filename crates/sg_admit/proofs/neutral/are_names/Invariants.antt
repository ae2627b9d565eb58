use Rattle.std.proofs.Common.{◌≡◌, drop, map}
use Rattle.sg_admit.specs.Rules.{are_names, name_of}
use Rattle.sg_admit.proofs.neutral.are_names.Given as goal

abbrev pub invariant-loop-var : goal.invariant-loop-var
invariant-loop-var l = are_names l.vars l.var (map name_of (drop l.var l.index)) ≡ are_names l.vars 0 (map name_of l.index)
