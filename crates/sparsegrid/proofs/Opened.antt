-- What a run does with what the read of its file gave, and with the program that it is compiled to, where it may write a journal.
use Rattle.std.proofs.Common.{◌≡◌, ℕ, Bool, false, List, [], Option, Some, None, Result, Ok, Err, IfOk, refl, sym, ap, ◌∙◌, subst, arith}
use Rattle.std.specs.Prelude.{map}
use Rattle.std.specs.Result.{IsOkAnd}
use Rattle.sg_words.specs.declared.memory.Stop.{Stop}
use Rattle.sg_words.specs.declared.memory.Stop.TheVariants as stop
use Rattle.sg_outside.specs.Counts.{Rose, one_more}
use Rattle.sg_outside.specs.Files.{Held, Reading, Missing, reading, asked_too}
use Rattle.sg_lexer.specs.Limits.{most_file_bytes}
use Rattle.sg_layout.specs.declared.shape.Shape.{Shape}
use Rattle.sg_flat.specs.declared.state.FlatState.{FlatState}
use Rattle.sg_flat.specs.State.{opening}
use Rattle.sg_exec.specs.Standing.{StandForState}
use Rattle.sg_session.specs.declared.refusal.Refusal.{Refusal}
use Rattle.sg_session.specs.Performed.{SessionParts}
use Rattle.sg_session.specs.declared.binds.Bind.{Bind}
use Rattle.sg_session.specs.Bindings.{binding_read}
use Rattle.sg_session.specs.Compiled.{CheckedProgram, CompiledProgram, Compiles, unfolded_tasks}
use Rattle.sparsegrid.specs.declared.output.PutFailed.{PutFailed}
use Rattle.sparsegrid.specs.declared.session.Done.{Done}
use Rattle.sparsegrid.specs.Words.{Asked, doing, is_gen}
use Rattle.sparsegrid.specs.Telling.{Telling}
use Rattle.sparsegrid.specs.Lines.{read_last}
use Rattle.sparsegrid.specs.Meaning.{Meaning, Readings, asking_for, meaning_of_run, meaning_in, meaning_of_compiled, meaning_of_source, meaning_of_asked}
use Rattle.sparsegrid.specs.Outcome.{Outside, StaysWritten}
use Rattle.sparsegrid.specs.steps.Along.{Sends, line_text}
use Rattle.sparsegrid.specs.steps.Leading.{Kept}
use Rattle.sparsegrid.proofs.Writing.{made_read}
use Rattle.sparsegrid.proofs.Going.{stays_same}
use Rattle.sparsegrid.proofs.Sources.{of_file, source_ends, gone_refused}
use Rattle.sparsegrid.proofs.Kept.{kept_memory, kept_failed, kept_asking, holds_none}

-- the read of the file of this name gave this, and what it means was done
pub read_gave : (b : Bool) (asked : Asked) → is_gen asked.mode ≡ false → (name : List ℕ) (given : Reading) (before mid after : Outside) (result : Result Done (Stop PutFailed)) → name ≡ asked.file
    → ((held : Held) → before.held ≡ Some held → reading held name most_file_bytes ≡ given)
    → mid.asked ≡ asked_too before.asked name → mid.reads ≡ one_more before.reads → mid.failed_reads ≡ before.failed_reads → mid.held ≡ before.held → StaysWritten before.output mid.output
    → Kept b (λ readings. meaning_of_source asked readings given) 1 mid after result → Kept b (meaning_of_asked asked) 0 before after result
read_gave b asked file name given before mid after result same told names reads faults held stays kept =
    kept_asking b (meaning_of_asked asked) (λ readings. meaning_of_source asked readings given) 0 1 (record { name = asked.file; limit = most_file_bytes; given = given }) before mid after result (omega arith)
    (λ readings agree. of_file asked file readings ∙ ap (λ (r : Reading). asking_for asked.file (meaning_of_source asked readings r)) agree.0)
    (made_read asked.file before mid stays (names ∙ ap (asked_too before.asked) same) reads) held
    (record { no_fault = faults; told = λ h e. (sym (ap (λ (n : List ℕ). reading h n most_file_bytes) (sym same) ∙ told h e), tt) }) kept

-- the read failed
pub read_failed : (b : Bool) (asked : Asked) → is_gen asked.mode ≡ false → (name : List ℕ) (before after : Outside) (result : Result Done (Stop PutFailed)) → name ≡ asked.file
    → after.asked ≡ asked_too before.asked name → after.reads ≡ one_more before.reads → Rose before.failed_reads after.failed_reads
    → Sends result before.output after.output (line_text (read_last name)) → IfOk result (λ done. done.status ≡ 2) → IfOk result (λ done. done.session ≡ None)
    → Kept b (meaning_of_asked asked) 0 before after result
read_failed b asked file name before after result same names reads rose sent status none =
    kept_failed b (meaning_of_asked asked) None (read_last asked.file) 0 asked.file most_file_bytes before after result
    (λ readings missing. of_file asked file readings ∙ ap (λ (r : Reading). asking_for asked.file (meaning_of_source asked readings r)) missing)
    (gone_refused (read_last asked.file) before.output after.output result (subst (λ (n : List ℕ). Sends result before.output after.output (line_text (read_last n))) same sent) status none)
    (holds_none result none) (names ∙ ap (asked_too before.asked) same) reads rose status

-- there was no memory for what was read
pub read_memory : (b : Bool) (asked : Asked) → is_gen asked.mode ≡ false → (name : List ℕ) (before after : Outside) → name ≡ asked.file
    → after.asked ≡ asked_too before.asked name → after.reads ≡ one_more before.reads → after.failed_reads ≡ before.failed_reads → after.held ≡ before.held → StaysWritten before.output after.output
    → Kept b (meaning_of_asked asked) 0 before after (Err stop.Memory)
read_memory b asked file name before after same names reads faults held stays =
    read_gave b asked file name (given before.held) before after after (Err stop.Memory) same (told before.held) names reads faults held stays
    (kept_memory b (λ readings. meaning_of_source asked readings (given before.held)) 1 after after (λ readings. source_ends asked readings (given before.held)) (stays_same after.output) refl refl refl)
  where
    given : Option Held → Reading
    given None = Missing
    given (Some held) = reading held name most_file_bytes

    told : (o : Option Held) (h : Held) → o ≡ Some h → reading h name most_file_bytes ≡ given o
    told None h e = absurd (cc)
    told (Some held) h e = ap (λ (f : Held). reading f name most_file_bytes) (sym (same_held held h e)) where
      same_held : (a b : Held) → Some a ≡ Some b → a ≡ b
      same_held a b s = cc

-- what tasks do from the opening state of a session is what they do from that of its program
pub from_opened : (b : Bool) (program : CheckedProgram) (compiled : CompiledProgram) (opened : SessionParts) (m : FlatState → Readings → Meaning) (n : ℕ) (before after : Outside) (result : Result Done (Stop PutFailed))
    → Compiles program compiled → opened.compiled ≡ compiled → StandForState compiled.layouts opened.stores (opening compiled.layouts)
    → (Compiles program opened.compiled → (state : FlatState) → StandForState opened.compiled.layouts opened.stores state → Kept b (m state) n before after result)
    → Kept b (m (opening program.layouts)) n before after result
from_opened b program compiled opened m n before after result compiles same stand kept =
    kept (subst (Compiles program) (sym same) compiles) (opening program.layouts)
    (subst (λ (ls : List Shape). StandForState opened.compiled.layouts opened.stores (opening ls)) compiles.layouts
    (subst (λ (c : CompiledProgram). StandForState c.layouts opened.stores (opening compiled.layouts)) (sym same) stand))

-- what is done with a compiled program is what its file means
pub compiled_kept : (b : Bool) (asked : Asked) (bytes : List ℕ) (answer : Result CheckedProgram Refusal) (compiled : CompiledProgram) (before after : Outside) (result : Result Done (Stop PutFailed))
    → IsOkAnd answer (λ program. Compiles program compiled) → ((program : CheckedProgram) → Compiles program compiled → Kept b (meaning_in (doing asked.mode) program asked.from asked.bindings) 1 before after result)
    → Kept b (λ readings. meaning_of_compiled asked readings bytes answer) 1 before after result
compiled_kept b asked bytes (Ok program) compiled before after result compiles kept = kept program compiles
compiled_kept b asked bytes (Err why) compiled before after result compiles kept = absurd compiles

-- if no name is bound, and no snapshot is given
pub unbound_kept : (b : Bool) (program : CheckedProgram) (telling : Telling) (from : Option (List ℕ)) (binds : List Bind) (before after : Outside) (result : Result Done (Stop PutFailed)) → from ≡ None → binds ≡ []
    → Kept b (λ readings. meaning_of_run program telling from (map binding_read binds) readings (unfolded_tasks program.commands)) 1 before after result
    → Kept b (λ readings. meaning_of_run program telling None [] readings (unfolded_tasks program.commands)) 1 before after result
unbound_kept b program telling from binds before after result bare none kept =
    subst (λ (f : Option (List ℕ)). Kept b (λ readings. meaning_of_run program telling f [] readings (unfolded_tasks program.commands)) 1 before after result) bare
    (subst (λ (bs : List Bind). Kept b (λ readings. meaning_of_run program telling from (map binding_read bs) readings (unfolded_tasks program.commands)) 1 before after result) none kept)
