use Rattle.std.proofs.Common.{◌≡◌, ℕ, get_or, [], take}
use Rattle.sg_words.specs.steps.SpreadSteps.{targets_of}
use Rattle.sg_words.proofs.spreads.targets.Given as goal

abbrev pub invariant-loop-link : goal.invariant-loop-link
invariant-loop-link l = (place : ℕ) → get_or l.targets.items place [] ≡ targets_of (take l.link-index l.links) place
