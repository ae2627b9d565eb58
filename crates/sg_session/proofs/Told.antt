-- What a load's answer says of its read.
use Rattle.std.proofs.Common.{◌≡◌, ℕ, false, List, Some, Result, Ok, Err, refl}
use Rattle.sg_words.specs.declared.memory.Stop.{Stop}
use Rattle.sg_words.specs.declared.memory.Stop.TheVariants as stop
use Rattle.sg_words.specs.declared.text.Text.{Text}
use Rattle.sg_grid.specs.Limits.{most_grid_bytes}
use Rattle.sg_outside.specs.Files.{Held, reading}
use Rattle.sg_session.specs.declared.refusal.RunRefusal.{RunRefusal}
use Rattle.sg_session.specs.declared.refusal.RunRefusal.TheVariants as refusal
use Rattle.sg_session.specs.Performed.{reading_of, StepCause}
use Rattle.sg_session.specs.steps.Reads.{is_read_refusal}

-- an answer that isn't a failed read tells what the file has
pub reading_told : (held : Held) (name : List ℕ) (result : Result Text (Stop RunRefusal)) → is_read_refusal result ≡ false → reading_of held (Some name) result ≡ reading held name most_grid_bytes
reading_told held name (Ok text) e = refl
reading_told held name (Err stop.Memory) e = refl
reading_told held name (Err (stop.Refused (refusal.Read field))) e = absurd (cc)
reading_told held name (Err (stop.Refused (refusal.GridBytes field))) e = refl
reading_told held name (Err (stop.Refused (refusal.GridRows field))) e = refl
reading_told held name (Err (stop.Refused (refusal.Grid field line))) e = refl
reading_told held name (Err (stop.Refused (refusal.Run kernel fault))) e = refl

-- and leaves the count of faults
pub cause_stays : (before now : ℕ) (result : Result Text (Stop RunRefusal)) → is_read_refusal result ≡ false → now ≡ before → StepCause result before now
cause_stays before now (Ok text) e h = h
cause_stays before now (Err stop.Memory) e h = h
cause_stays before now (Err (stop.Refused (refusal.Read field))) e h = absurd (cc)
cause_stays before now (Err (stop.Refused (refusal.GridBytes field))) e h = h
cause_stays before now (Err (stop.Refused (refusal.GridRows field))) e h = h
cause_stays before now (Err (stop.Refused (refusal.Grid field line))) e h = h
cause_stays before now (Err (stop.Refused (refusal.Run kernel fault))) e h = h
