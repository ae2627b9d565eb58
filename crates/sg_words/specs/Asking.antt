-- What an ask answers.
use Rattle.std.specs.Prelude.{◌≡◌, ℕ, true, ◌⊎◌, [], ◌∷◌, ◌++◌}
use Rattle.sg_words.specs.declared.asking.Ask.{Ask}
use Rattle.sg_words.specs.declared.asking.Ask.TheVariants as ask
use Rattle.sg_words.specs.declared.race.Worker.{Worker}
use Rattle.sg_words.specs.Stocks.{is_dry}

-- What a seat knows after an ask for a slot. It has seen the number that is answered in the slot, and made at most this link; or it
-- found the slot empty, and holds a ticket past the stock
abbrev pub Answered : ℕ → Worker → Ask → Worker → Type 0
Answered slot v (ask.Node n) w = (w.seen ≡ v.seen ++ (slot, n) ∷ []) × ((w.made ≡ v.made) ⊎ ((t : ℕ) × (w.made ≡ v.made ++ (slot, t) ∷ [])))
Answered slot v ask.Dry w = (w.seen ≡ v.seen) × (w.made ≡ v.made) × (w.missed ≡ v.missed ++ slot ∷ []) × (is_dry w ≡ true)
