-- What an ask answers.
use Rattle.std.specs.Prelude.{◌≡◌, ℕ, ◌<◌, Bool, true, ◌⊎◌, [], ◌∷◌, ◌++◌}
use Rattle.sg_words.specs.declared.asking.Ask.{Ask}
use Rattle.sg_words.specs.declared.asking.Ask.TheVariants as ask
use Rattle.sg_words.specs.declared.race.Worker.{Worker}
use Rattle.sg_words.specs.Asking.{Answered}
use Rattle.sg_words.specs.Counts.{times_in, pairs}
use Rattle.sg_words.specs.RaceMachine.{HasOthersBefore}
use Rattle.sg_words.specs.Stocks.{is_dry}

-- an asked key was put once, or not at all
abbrev pub HasPut : ℕ → Worker → Worker → Type 0
HasPut key v w = (w.put ≡ v.put) ⊎ (w.put ≡ v.put ++ key ∷ [])

-- the slot at the place where the worker found the key was asked for
abbrev pub AnsweredBeside : ℕ → Worker → Ask → Worker → Type 0
AnsweredBeside key v answer w = (p : ℕ) × (0 < pairs p key w.keys) × Answered p v answer w

-- each link that a worker made stands at a place where it has found or put a key
abbrev pub HasLinkedBesideKeys : Worker → Type 0
HasLinkedBesideKeys v = (p t : ℕ) → 0 < pairs p t v.made → (k : ℕ) × (0 < pairs p k v.keys)

-- for each key that a worker put, it found the key at a place and has seen a link beside it; or it is dry
abbrev pub HasLinkedItsKeys : Worker → Type 0
HasLinkedItsKeys v = (k : ℕ) → 0 < times_in k v.put → ((p n : ℕ) × (0 < pairs p k v.keys) × (0 < pairs p n v.seen)) ⊎ (is_dry v ≡ true)

-- What a seat knows after an ask for a key among n places: it asked for the slot beside the key. Or it found another key in every place,
-- did no more, and is full
abbrev pub AnsweredKey : ℕ → ℕ → Worker → Bool → Ask → Worker → Bool → Type 0
AnsweredKey n key v full (ask.Node x) w full' = (full' ≡ full) × AnsweredBeside key v (ask.Node x) w
AnsweredKey n key v full ask.Dry w full' = ((full' ≡ full) × AnsweredBeside key v ask.Dry w)
    ⊎ ((full' ≡ true) × HasOthersBefore n key n w × (w.seen ≡ v.seen) × (w.made ≡ v.made) × (w.missed ≡ v.missed) × (w.past ≡ v.past))
