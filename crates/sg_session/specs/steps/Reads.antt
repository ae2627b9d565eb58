-- Which answers tell a failed read.
use Rattle.std.specs.Prelude.{Bool, true, false, Result, Err}
use Rattle.sg_words.specs.declared.memory.Stop.{Stop}
use Rattle.sg_words.specs.declared.memory.Stop.TheVariants as stop
use Rattle.sg_words.specs.declared.text.Text.{Text}
use Rattle.sg_session.specs.declared.refusal.RunRefusal.{RunRefusal}
use Rattle.sg_session.specs.declared.refusal.RunRefusal.TheVariants as refusal

-- the answer is that the read failed
abbrev pub is_read_refusal : Result Text (Stop RunRefusal) → Bool
is_read_refusal (Err (stop.Refused (refusal.Read field))) = true
is_read_refusal _ = false
