-- A worker after an atomic step on a slot or key word, by the word that the step found: each is one event.
use Rattle.std.specs.Prelude.{ℕ, ◌-◌, ◌==◌, if◌then◌else◌}
use Rattle.sg_words.specs.declared.race.Worker.{Worker}
use Rattle.sg_words.specs.RaceMachine.{Event, see, miss, link, after_see, after_miss, after_link}

-- a load of slot i that found a word: it was seen, or missed if it is 0
abbrev pub after_look : ℕ → ℕ → Worker → Worker
after_look i word v = if word == 0 then after_miss i v else after_see i (word - 1) v

-- the event of a load of slot i by worker v: a miss where the word was 0, else a sight
abbrev pub look_event : ℕ → ℕ → ℕ → Event
look_event v i word = if word == 0 then miss v i else see v i

-- an exchange of 0 for the number n of ticket t of node l at slot i: it is linked where 0 was found, else the word was seen
abbrev pub after_try : ℕ → ℕ → ℕ → ℕ → ℕ → Worker → Worker
after_try l i t n word v = if word == 0 then after_link l i t n v else after_see i (word - 1) v

-- the event of such an exchange by worker v: a link where the word was 0, else a sight
abbrev pub try_event : ℕ → ℕ → ℕ → ℕ → Event
try_event v i t word = if word == 0 then link v i t else see v i
