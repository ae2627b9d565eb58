-- What the worked files mean, from their bytes to their text and status.
use Rattle.std.proofs.Common.{◌≡◌, [], ◌∷◌, Some, None, ap, refl}
use Rattle.std.specs.Prelude.{codes}
use Rattle.std.specs.FinMap.{get}
use Rattle.std.specs.Fmt.{digits}
use Rattle.sg_outside.specs.Files.{Held}
use Rattle.sparsegrid.specs.Moves.{ReadsFile, WritesText, Reaches}
use Rattle.sparsegrid.specs.Meaning.{Meaning, text_meant, at_state, meaning_of_tasks, meaning}
use Rattle.sparsegrid.specs.WorkedRun.{inside_file, outside_file, WorkedRun}
use Rattle.sparsegrid.proofs.WorkedSpelled.{spelled_inside, spelled_outside}
use Rattle.sparsegrid.proofs.WorkedCompiled.{compiled_to, compiled_is}
use Rattle.sparsegrid.proofs.WorkedEffects.{start, after, run_inside, run_outside}

module _ (held : Held) where
  inside : get held (codes "p.sg") ≡ Some inside_file → meaning (codes "p.sg" ∷ []) held None
      ≡ record {
        moves = ReadsFile (codes "p.sg") ∷ Reaches (at_state (compiled_to 5) start) ∷ Reaches (at_state (compiled_to 5) after) ∷ WritesText (codes "grid 1 2\n4 0\n5 3\n")
            ∷ Reaches (at_state (compiled_to 5) after) ∷ [];
        line = [];
        status = 0;
        last = Some after;
      }
  unfolding meaning_of_tasks digits
  inside given = rw given (rw (compiled_is inside_file 5 spelled_inside) (rw run_inside refl))

  outside : get held (codes "p.sg") ≡ Some outside_file → meaning (codes "p.sg" ∷ []) held None
      ≡ record { moves = ReadsFile (codes "p.sg") ∷ Reaches (at_state (compiled_to 8) start) ∷ []; line = codes "refused: write outside: kernel k statement 1 at 0\n"; status = 7; last = Some start }
  unfolding meaning_of_tasks digits
  outside given = rw given (rw (compiled_is outside_file 8 spelled_outside) (rw run_outside refl))

pub worked_run : WorkedRun
worked_run = (
  λ held given. (ap text_meant (inside held given), ap (λ (m : Meaning). m.status) (inside held given)),
  λ held given. (ap text_meant (outside held given), ap (λ (m : Meaning). m.status) (outside held given)),
)
