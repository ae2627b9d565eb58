-- A step on masks that are a range of a larger table keeps the race invariant.
use Rattle.std.proofs.Common.{ℕ, ◌+◌, ◌/◌, ◌%◌, ◌^◌, List, set, subst}
use Rattle.std.specs.Prelude.{slice_index, bit_or}
use Rattle.sg_words.specs.declared.race.Worker.{Worker}
use Rattle.sg_words.specs.RaceMachine.{Setting, Race, after_mark}
use Rattle.sg_words.specs.RaceInvariant.{MeetsRaceInvariant}
use Rattle.sg_words.proofs.Uses.{kept-mark, stands, word-there, written}
use Rattle.sg_mask.specs.RangeLaws.{with_masks, MarkKeeps}

pub mark_keeps : (g : Setting) (s : Race) (id : ℕ) (v : Worker) (words : List ℕ) (from b : ℕ) → MarkKeeps g s id v words from b
mark_keeps g s id v words from b at is below known =
    let x = slice_index words (from + b / 64) in
    subst (λ c. MeetsRaceInvariant g (with_masks s c id (after_mark b v))) (written s.masks words from (b / 64) (bit_or x (2 ^ (b % 64))) is below)
    (subst (λ x. MeetsRaceInvariant g (with_masks s (set s.masks (b / 64) (bit_or x (2 ^ (b % 64)))) id (after_mark b v))) (word-there s.masks words from (b / 64) is below)
    (kept-mark g s id v b at.stands (stands s.workers id v at.kept.team at.stands at.share) below known at.kept))
