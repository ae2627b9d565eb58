-- Each kind of step on slots and counts that are a range of a larger table keeps the race invariant.
use Rattle.std.proofs.Common.{ℕ, ◌+◌, ◌==◌, List, length, set, subst}
use Rattle.std.specs.Prelude.{slice_index}
use prog.Atomic.{either}
use Rattle.sg_words.specs.declared.race.Worker.{Worker}
use Rattle.sg_words.specs.RaceMachine.{Setting, Race, ticket_number, after_draw}
use Rattle.sg_words.specs.RaceInvariant.{MeetsRaceInvariant, Standing}
use Rattle.sg_words.specs.steps.RaceSteps.{after_look, after_try}
use Rattle.sg_words.proofs.Uses.{kept-look, kept-try, kept-draw, stands, word-there, written}
use Rattle.sg_words.specs.Ranges.{IsAtWork}
use Rattle.sg_pointer.specs.RangeLaws.{with_slots, with_counts, LookKeeps, TryKeeps, DrawKeeps}

standing : (g : Setting) (s : Race) (id : ℕ) (v : Worker) → IsAtWork g s id v → Standing v
standing g s id v at = stands s.workers id v at.kept.team at.stands at.share

pub look_keeps : (g : Setting) (s : Race) (id : ℕ) (v : Worker) (words : List ℕ) (from i : ℕ) → LookKeeps g s id v words from i
look_keeps g s id v words from i at is below =
    subst (λ x. MeetsRaceInvariant g (with_slots s s.slots id (after_look i x v))) (word-there s.slots words from i is below)
    (kept-look g s id v i at.stands (standing g s id v at) at.kept)

pub try_keeps : (g : Setting) (s : Race) (id : ℕ) (v : Worker) (words : List ℕ) (from i t : ℕ) → TryKeeps g s id v words from i t
try_keeps g s id v words from i t at is below has known =
    let new = ticket_number g (g.node i) t + 1 in
    let x = slice_index words (from + i) in
    subst (λ l. MeetsRaceInvariant g (with_slots s l id (after_try (g.node i) i t (ticket_number g (g.node i) t) x v))) (written s.slots words from i (either (x == 0) new x) is below)
    (subst (λ x. MeetsRaceInvariant g (with_slots s (set s.slots i (either (x == 0) new x)) id (after_try (g.node i) i t (ticket_number g (g.node i) t) x v))) (word-there s.slots words from i is below)
    (kept-try g s id v i t at.stands (standing g s id v at) below has known at.kept))

pub draw_keeps : (g : Setting) (s : Race) (id : ℕ) (v : Worker) (words : List ℕ) (from l : ℕ) → DrawKeeps g s id v words from l
draw_keeps g s id v words from l at is below none past =
    let x = slice_index words (from + l) in
    subst (λ c. MeetsRaceInvariant g (with_counts s c id (after_draw l (length (g.stock l)) x v))) (written s.counts words from l (x + 1) is below)
    (subst (λ x. MeetsRaceInvariant g (with_counts s (set s.counts l (x + 1)) id (after_draw l (length (g.stock l)) x v))) (word-there s.counts words from l is below)
    (kept-draw g s id v l at.stands (standing g s id v at) none past below at.kept))
