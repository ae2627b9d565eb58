use Rattle.std.proofs.Common.{◌-◌, ◌≤◌, length}
use Rattle.sg_store.specs.steps.KeptWords.{AreKeptLinks}
use Rattle.sg_store.proofs.kept_words.kept_links.Given as goal

abbrev pub invariant-loop-next : goal.invariant-loop-next
invariant-loop-next l = AreKeptLinks l.links l.kept l.row l.slot × (l.slot ≤ length l.links)

abbrev pub decreases-loop-next : goal.decreases-loop-next
decreases-loop-next l = length l.links - l.slot
