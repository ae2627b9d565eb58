-- A load of a key word: a worker after it, and what it then knows of keys.
use Rattle.std.specs.Prelude.{◌≡◌, ℕ, ◌+◌, ◌-◌, ◌<◌, ◌==◌, if◌then◌else◌}
use Rattle.sg_words.specs.declared.race.Worker.{Worker}
use Rattle.sg_words.specs.Counts.{pairs}
use Rattle.sg_words.specs.RaceMachine.{after_key}

-- a load of the key word at place p: the key that stands there was found, if any
abbrev pub after_look_key : ℕ → ℕ → Worker → Worker
after_look_key p word v = if word == 0 then v else after_key p (word - 1) v

-- among so many places, at place p of which a word stands: the keys that a worker found stand in places, one key in each, and where the
-- word is of a key that it found, it found it there
pub record TellKeys (n p word : ℕ) (w : Worker) : Type 0 where
  pub inside : (q k : ℕ) → 0 < pairs q k w.keys → q < n
  pub agree : (q a b : ℕ) → 0 < pairs q a w.keys → 0 < pairs q b w.keys → a ≡ b
  pub once : (q k : ℕ) → word ≡ k + 1 → 0 < pairs q k w.keys → q ≡ p
