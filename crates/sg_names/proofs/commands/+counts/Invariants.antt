use Rattle.std.proofs.Common.{◌≡◌, ◌^◌, ◌-◌, min, map, sum, take}
use Rattle.sg_names.specs.Declares.{command_count}
use Rattle.sg_names.proofs.commands.+counts.Given as goal

abbrev pub invariant-body_count-loop-command : goal.invariant-body_count-loop-command
invariant-body_count-loop-command l = l.count ≡ min (sum (map command_count (take l.command-index l.body))) (2 ^ 32 - 1)
