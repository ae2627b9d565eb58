-- What is done before the first task.
use Rattle.std.proofs.Common.{◌≡◌, ℕ, true, false, List, [], ◌∷◌, Result, refl, append-nil, arith}
use Rattle.sg_words.specs.declared.memory.Stop.{Stop}
use Rattle.sg_flat.specs.declared.state.FlatState.{FlatState}
use Rattle.sg_session.specs.declared.tasks.Task.{Task}
use Rattle.sg_session.specs.Compiled.{CheckedProgram}
use Rattle.sg_session.specs.Bindings.{Binding}
use Rattle.sparsegrid.specs.declared.output.PutFailed.{PutFailed}
use Rattle.sparsegrid.specs.declared.session.Done.{Done}
use Rattle.sparsegrid.specs.declared.showing.Showing.{Showing}
use Rattle.sparsegrid.specs.declared.showing.Showing.TheVariants.{Texts, Image, Advice, Changes}
use Rattle.sg_layout.specs.declared.shape.Shape.{Shape}
use Rattle.sg_names.specs.Tables.{Tables}
use Rattle.sparsegrid.specs.Moves.{Reaches, Reached, writing}
use Rattle.sparsegrid.specs.Telling.{telling_of, shows_journal}
use Rattle.sparsegrid.specs.Meaning.{Meaning, Readings, moves_of, done_with, at_state, after_moves, meaning_of_tasks, meaning_from}
use Rattle.sparsegrid.specs.Outcome.{Outside, Made}
use Rattle.sparsegrid.specs.steps.Along.{Went}
use Rattle.sparsegrid.specs.steps.Leading.{Kept}
use Rattle.sparsegrid.proofs.Writing.{made_none}
use Rattle.sparsegrid.proofs.Going.{stays_same, compose}
use Rattle.sparsegrid.proofs.Kept.{kept_of}

-- without a journal what is written at the end is one text
pub one_text : (names : Tables) (shapes : List Shape) (what : Showing) (state : FlatState) → shows_journal what ≡ false
    → moves_of (done_with (telling_of names shapes what) state) ≡ writing ((telling_of names shapes what).ending state)
one_text names shapes Texts state plain = refl
one_text names shapes Image state plain = append-nil (writing ((telling_of names shapes Image).ending state))
one_text names shapes Advice state plain = append-nil (writing ((telling_of names shapes Advice).ending state))
one_text names shapes Changes state plain = absurd (cc)

only_reached : (at : Reached) (now : Outside) → Made (Reaches at ∷ []) [] now now
only_reached at now =
    let none = made_none now now (stays_same now.output) refl refl in
    record { output = record { written = none.output.written; pieces = none.output.pieces }; asked = none.asked; reads = none.reads }

went_reached : (m : Readings → Meaning) (at : Reached) (n : ℕ) (before after : Outside) (result : Result Done (Stop PutFailed)) → Went m n before after result
    → Went (λ readings. after_moves (Reaches at ∷ []) (m readings)) n before after result
went_reached m at n before after result went =
    compose (λ readings. after_moves (Reaches at ∷ []) (m readings)) m n n [] (Reaches at ∷ []) before before after result (omega arith) (λ readings agree. refl) refl
    (only_reached at before) refl (record { no_fault = refl; told = λ h e. tt }) went

module _ (program : CheckedProgram) (bindings : List Binding) (what : Showing) (earlier : ℕ) (state : FlatState) (tasks : List Task) (before after : Outside) (result : Result Done (Stop PutFailed)) where
  -- tasks whose texts are shown, or the image of the last state
  pub kept_plain : shows_journal what ≡ false → Went (λ readings. meaning_of_tasks program bindings (telling_of program.names program.layouts what) readings 0 earlier state tasks) earlier before after result
      → Kept (shows_journal what) (λ readings. meaning_from program bindings (telling_of program.names program.layouts what) readings earlier state tasks) earlier before after result
  kept_plain plain went =
      kept_of (shows_journal what) (λ readings. meaning_from program bindings (telling_of program.names program.layouts what) readings earlier state tasks) earlier before after result plain
      (went_reached (λ readings. meaning_of_tasks program bindings (telling_of program.names program.layouts what) readings 0 earlier state tasks) (at_state program state) earlier before after result went)

-- tasks whose journal is shown
pub kept_changes : (program : CheckedProgram) (bindings : List Binding) (what : Showing) (earlier : ℕ) (state : FlatState) (tasks : List Task) (before after : Outside) (result : Result Done (Stop PutFailed))
    → shows_journal what ≡ true → Kept true (λ readings. meaning_from program bindings (telling_of program.names program.layouts Changes) readings earlier state tasks) earlier before after result
    → Kept (shows_journal what) (λ readings. meaning_from program bindings (telling_of program.names program.layouts what) readings earlier state tasks) earlier before after result
kept_changes program bindings Texts earlier state tasks before after result shown kept = absurd (cc)
kept_changes program bindings Advice earlier state tasks before after result shown kept = absurd (cc)
kept_changes program bindings Image earlier state tasks before after result shown kept = absurd (cc)
kept_changes program bindings Changes earlier state tasks before after result shown kept = kept
