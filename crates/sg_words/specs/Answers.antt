use Rattle.std.specs.Prelude.{◌≡◌, Option, Some, None, Result, Ok, Err}
use Rattle.sg_words.specs.declared.memory.Stop.{Stop}
use Rattle.sg_words.specs.declared.memory.Stop.TheVariants as stop

-- what a call answered is the defined answer, unless memory ran out
abbrev pub Answers : {A E : Type 0} → Result A (Stop E) → Result A E → Type 0
Answers (Ok value) meaning = meaning ≡ Ok value
Answers (Err stop.Memory) meaning = Unit {0}
Answers (Err (stop.Refused fault)) meaning = meaning ≡ Err fault

-- the same, where the defined answer is about what the call's value stands for
abbrev pub AnswersAs : {A B E : Type 0} → (A → B) → Result A (Stop E) → Result B E → Type 0
AnswersAs view (Ok value) meaning = meaning ≡ Ok (view value)
AnswersAs view (Err stop.Memory) meaning = Unit {0}
AnswersAs view (Err (stop.Refused fault)) meaning = meaning ≡ Err fault

-- what a call reads is what is meant, unless memory ran out; it refuses exactly where nothing is meant. `view` is how what is read is seen.
abbrev pub AnswersOption : {A B E : Type 0} → (A → B) → Result A (Stop E) → Option B → Type 0
AnswersOption view (Ok value) meant = meant ≡ Some (view value)
AnswersOption view (Err stop.Memory) meant = Unit {0}
AnswersOption view (Err (stop.Refused fault)) meant = meant ≡ None
