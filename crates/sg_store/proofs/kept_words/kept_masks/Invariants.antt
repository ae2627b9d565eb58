use Rattle.sg_store.specs.steps.KeptWords.{AreKeptBits}
use Rattle.sg_store.proofs.kept_words.kept_masks.Given as goal

abbrev pub invariant-loop-slot : goal.invariant-loop-slot
invariant-loop-slot l = AreKeptBits l.masks l.kept l.row l.slot
