-- What a step answered, and what it did to the outside.
use Rattle.std.specs.Prelude.{◌≡◌, ℕ, List, Option, Some, None, Result, Ok, Err, IsSome}
use Rattle.sg_words.specs.declared.memory.Stop.{Stop}
use Rattle.sg_words.specs.declared.memory.Stop.TheVariants as stop
use Rattle.sg_words.specs.declared.text.Text.{Text}
use Rattle.sg_layout.specs.declared.shape.Shape.{Shape}
use Rattle.sg_flat.specs.declared.state.FlatState.{FlatState}
use Rattle.sg_flat.specs.State.{opening}
use Rattle.sg_store.specs.StoreWords.{StoreWords}
use Rattle.sg_names.specs.Tables.{Tables}
use Rattle.sg_exec.specs.Standing.{StandForState}
use Rattle.sg_grid.specs.Limits.{most_grid_bytes}
use Rattle.sg_outside.specs.Counts.{one_more, Rose}
use Rattle.sg_outside.specs.Files.{Held, Reading, Missing, reading, asked_too}
use Rattle.sg_session.specs.declared.refusal.RunRefusal.{RunRefusal}
use Rattle.sg_session.specs.declared.refusal.RunRefusal.TheVariants as refusal
use Rattle.sg_session.specs.declared.tasks.Task.{Task}
use Rattle.sg_session.specs.declared.tasks.Task.TheVariants.{Load, Run, Dump, Image, Stats, Prune, Clear}
use Rattle.sg_session.specs.Compiled.{CompiledProgram}
use Rattle.sg_session.specs.Bindings.{Binding, file_of_field}
use Rattle.sg_session.specs.Commands.{Left}

-- some flat state of these layouts is what the stores stand for
abbrev pub HasState : List Shape → List StoreWords → Type 0
HasState layouts stores = (state : FlatState) × StandForState layouts stores state

-- a session: its compiled program, and what its stores are made of
pub record SessionParts : Type 0 where
  pub compiled : CompiledProgram
  pub stores : List StoreWords

-- a session as it is opened: it has this compiled program, and its stores stand for the opening state
pub record IsOpened (program : CompiledProgram) (session : SessionParts) : Type 0 where
  pub compiled : session.compiled ≡ program
  pub opening : StandForState program.layouts session.stores (opening program.layouts)

-- the stores stand for what the meaning leaves, and the text is its text
pub record LeavesMeaning (layouts : List Shape) (stores : List StoreWords) (text : List ℕ) (meaning : Result Left RunRefusal) : Type 0 where
  pub left : Left
  pub is : meaning ≡ Ok left
  pub stand : StandForState layouts stores left.state
  pub text_is : text ≡ left.text

-- what a step answered is what its command means: with Ok its text, and the stores stand for the state after it; a refusal is that of the
-- meaning; running out of memory is free
abbrev pub Performs : List Shape → List StoreWords → Result Text (Stop RunRefusal) → Result Left RunRefusal → Type 0
Performs layouts stores (Ok text) meaning = LeavesMeaning layouts stores text.bytes meaning
Performs layouts stores (Err stop.Memory) meaning = Unit {0}
Performs layouts stores (Err (stop.Refused refusal)) meaning = meaning ≡ Err refusal

-- what the read of a file that may be there gave, where the files tell what they hold: nothing if it failed, which a step tells by
-- its refusal alone
abbrev pub reading_of : Held → Option (List ℕ) → Result Text (Stop RunRefusal) → Reading
reading_of held None result = Missing
reading_of held (Some name) (Err (stop.Refused (refusal.Read field))) = Missing
reading_of held (Some name) _ = reading held name most_grid_bytes

-- the count of faults rose where the read failed, and stays at every other answer
abbrev pub StepCause : Result Text (Stop RunRefusal) → ℕ → ℕ → Type 0
StepCause (Err (stop.Refused (refusal.Read field))) before now = Rose before now
StepCause _ before now = now ≡ before

-- the count of reads after a task with this file: one more if it has one
abbrev pub reads_after : Option (List ℕ) → ℕ → ℕ
reads_after None reads = reads
reads_after (Some name) reads = one_more reads

-- the names that were read, with that of the file
abbrev pub asked_after : Option (List ℕ) → Option (List (List ℕ)) → Option (List (List ℕ))
asked_after None asked = asked
asked_after (Some name) asked = asked_too asked name

-- a load's field has a file
abbrev pub HasFile : Tables → List Binding → Task → Type 0
HasFile names bindings (Load field) = IsSome (file_of_field names bindings field)
HasFile names bindings (Run kernel) = Unit {0}
HasFile names bindings (Dump field) = Unit {0}
HasFile names bindings (Image field lo hi) = Unit {0}
HasFile names bindings (Stats layout) = Unit {0}
HasFile names bindings (Prune layout) = Unit {0}
HasFile names bindings (Clear layout) = Unit {0}
