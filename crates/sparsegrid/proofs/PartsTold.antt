-- The parts of a journal, told as the texts of commands.
use Rattle.std.proofs.Common.{◌≡◌, ℕ, zero, suc, List, [], ◌∷◌, ◌++◌, drop, Option, Some, None, Result, Ok, Err, refl, sym, ap, ◌∙◌, append_assoc}
use Rattle.sg_layout.specs.declared.shape.Shape.{Shape}
use Rattle.sg_flat.specs.declared.state.FlatState.{FlatState}
use Rattle.sg_outside.specs.Files.{Missing}
use Rattle.sg_names.specs.Tables.{Tables}
use Rattle.sg_grid.specs.Limits.{most_grid_bytes}
use Rattle.sg_journal.specs.declared.lines.Line.{Line}
use Rattle.sg_journal.specs.Lines.{lines_text}
use Rattle.sg_session.specs.declared.refusal.RunRefusal.{RunRefusal}
use Rattle.sg_session.specs.declared.tasks.Task.{Task}
use Rattle.sg_session.specs.Commands.{Left, task_meaning}
use Rattle.sg_session.specs.Compiled.{CheckedProgram}
use Rattle.sg_session.specs.Bindings.{Binding, file_of_task}
use Rattle.sparsegrid.specs.declared.showing.Showing.TheVariants.{Changes}
use Rattle.sparsegrid.specs.Moves.{Move, Reaches, Reached, writing, reaching}
use Rattle.sparsegrid.specs.Parts.{Parts, before_reached, with_parts}
use Rattle.sparsegrid.specs.Telling.{Telling, telling_of}
use Rattle.sparsegrid.specs.Meaning.{Meaning, Readings, after_moves, asking_for, at_state, after_task, task_and_more, meaning_of_tasks, meaning_from}
use Rattle.sparsegrid.specs.Journaling.{with_journal}
use Rattle.sparsegrid.specs.steps.Leading.{part_text, telling_parts}

-- the next part is that of the number, and then those behind it are left
part_there : (parts : Parts) (number : ℕ) (at : Reached) (more : Parts → List Move)
    → before_reached (drop number parts) at more ≡ writing (part_text parts number) ++ Reaches at ∷ more (drop (suc number) parts)
part_there [] zero at more = refl
part_there [] (suc number) at more = refl
part_there (part ∷ parts) zero at more = refl
part_there (part ∷ parts) (suc number) at more = part_there parts number at more

module _ (program : CheckedProgram) (bindings : List Binding) (names : Tables) (shapes : List Shape) (parts : Parts) where
  abbrev plain : Telling
  plain = telling_of names shapes Changes

  -- a state is reached, and its part was written before it
  part_before : (number : ℕ) (at : Reached) (m : Meaning)
      → with_journal (drop number parts) (after_moves (reaching [] at) m) ≡ after_moves (reaching (part_text parts number) at) (with_journal (drop (suc number) parts) m)
  part_before number at m =
      ap (λ (moves : List Move). let n : Meaning = record { moves = moves; line = m.line; status = m.status; last = m.last } in n)
      (part_there parts number at (λ left. with_parts left m.moves) ∙ sym (append_assoc (writing (part_text parts number)) (Reaches at ∷ []) (with_parts (drop (suc number) parts) m.moves)))

  -- what tasks mean with the parts is what they mean where these are told of them
  pub parts_told : (readings : Readings) (number n : ℕ) (state : FlatState) (tasks : List Task)
      → with_journal (drop number parts) (meaning_of_tasks program bindings plain readings number n state tasks) ≡ meaning_of_tasks program bindings (telling_parts parts) readings number n state tasks
  unfolding meaning_of_tasks
  parts_told readings number n state [] = refl
  parts_told readings number n state (task ∷ tasks) = by_file (file_of_task program.names bindings task) (λ after next. parts_told readings (suc number) after next tasks) where
    more : ℕ → FlatState → Meaning
    more after next = meaning_of_tasks program bindings plain readings (suc number) after next tasks

    told : ℕ → FlatState → Meaning
    told after next = meaning_of_tasks program bindings (telling_parts parts) readings (suc number) after next tasks

    by_answer : (file : Option (List ℕ)) (after : ℕ) (answer : Result Left RunRefusal) → ((next : FlatState) → with_journal (drop (suc number) parts) (more after next) ≡ told after next)
        → with_journal (drop number parts) (after_task program plain number state file task (more after) answer) ≡ after_task program (telling_parts parts) number state file task (told after) answer
    by_answer file after (Ok left) rest = part_before number (at_state program left.state) (more after left.state)
        ∙ ap (λ (m : Meaning). after_moves (reaching (part_text parts number) (at_state program left.state)) m) (rest left.state)
    by_answer file after (Err why) rest = refl

    by_file : (file : Option (List ℕ)) → ((after : ℕ) (next : FlatState) → with_journal (drop (suc number) parts) (more after next) ≡ told after next)
        → with_journal (drop number parts) (task_and_more program plain readings number n state task more file) ≡ task_and_more program (telling_parts parts) readings number n state task told file
    by_file None rest = by_answer None n (task_meaning program state task Missing) (rest n)
    by_file (Some name) rest =
        ap (λ (m : Meaning). asking_for name m) (by_answer (Some name) (suc n) (task_meaning program state task (readings (suc n) name most_grid_bytes)) (rest (suc n)))

-- and so do all tasks, behind the first part
pub parts_meant : (program : CheckedProgram) (bindings : List Binding) (names : Tables) (shapes : List Shape) (first : List Line) (more : Parts) (readings : Readings) (earlier : ℕ) (start : FlatState) (tasks : List Task)
    → with_journal (first ∷ more) (meaning_from program bindings (telling_of names shapes Changes) readings earlier start tasks)
    ≡ after_moves (reaching (lines_text first) (at_state program start)) (meaning_of_tasks program bindings (telling_parts more) readings 0 earlier start tasks)
parts_meant program bindings names shapes first more readings earlier start tasks =
    part_before program bindings names shapes (first ∷ more) 0 (at_state program start) (meaning_of_tasks program bindings (telling_of names shapes Changes) readings 0 earlier start tasks)
    ∙ ap (λ (m : Meaning). after_moves (reaching (lines_text first) (at_state program start)) m) (parts_told program bindings names shapes more readings 0 earlier start tasks)
