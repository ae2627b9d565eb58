-- Worked equations: four places, with the keys 6 and 1, whose first places are the same.
use Rattle.std.specs.Prelude.{◌≡◌, ◌<◌, ◌≤◌, ℕ, zero, suc, Some, None, List, [], ◌∷◌, slice_index, refl}
use Rattle.std.proofs.Common.{lit<, arith}
use Rattle.sg_words.specs.RaceMachine.{home}
use Rattle.sg_hash.specs.Tables.{place, beside}
use Rattle.sg_hash.specs.Finishing.{LinksHaveKeys}
use Rattle.sg_hash.specs.Rows.{IsNext}

abbrev pub keys : List ℕ
keys = 0 ∷ 0 ∷ 7 ∷ 2 ∷ []

abbrev pub links : List ℕ
links = 0 ∷ 0 ∷ 1 ∷ 5 ∷ []

pub six_begins_at_two : place 4 6 0 ≡ 2
unfolding home
six_begins_at_two = refl

pub one_begins_at_two : place 4 1 0 ≡ 2
unfolding home
one_begins_at_two = refl

pub one_goes_on_at_three : place 4 1 1 ≡ 3
unfolding home
one_goes_on_at_three = refl

-- the last place is followed by the first
pub one_then_goes_to_zero : place 4 1 2 ≡ 0
unfolding home
one_then_goes_to_zero = refl

-- keys that differ by multiples of the number of places begin at places far apart
pub zero_begins_at_zero : home 65536 0 ≡ 0
unfolding home
zero_begins_at_zero = refl

pub next_row_begins_far_on : home 65536 65536 ≡ 31161
unfolding home
next_row_begins_far_on = refl

pub row_after_begins_between : home 65536 131072 ≡ 62322
unfolding home
row_after_begins_between = refl

-- of a number of places that is no power of two
pub six_of_five : home 5 6 ≡ 3
unfolding home
six_of_five = refl

pub beside_one : beside keys links 1 ≡ Some 4
beside_one = refl

pub beside_six : beside keys links 6 ≡ Some 0
beside_six = refl

pub beside_ten : beside keys links 10 ≡ None
beside_ten = refl

-- links stand at the last two places, and keys do
pub two_links_have_keys : LinksHaveKeys keys links
two_links_have_keys zero linked = linked
two_links_have_keys (suc zero) linked = linked
two_links_have_keys (suc (suc zero)) linked = lit< tt
two_links_have_keys (suc (suc (suc zero))) linked = lit< tt
two_links_have_keys (suc (suc (suc (suc p)))) linked = linked

-- a key without a link is no fault
pub seven_without_link : LinksHaveKeys (8 ∷ []) (0 ∷ [])
seven_without_link zero linked = lit< tt
seven_without_link (suc p) linked = linked

-- a link without a key is one
pub four_without_key : LinksHaveKeys (0 ∷ []) (5 ∷ []) → ⊥
four_without_key have = let key = have 0 (lit< tt) in omega arith

-- from place 1 on the next place in use is 2, and from 4 on there is none
pub two_is_next : IsNext links 1 (Some 2)
two_is_next = (omega arith, omega arith, λ none. absurd (omega (arith, none)), between)
  where
    between : (other : ℕ) → 1 ≤ other → other < 2 → slice_index links other ≡ 0
    between zero low below = refl
    between (suc zero) low below = refl
    between (suc (suc other)) low below = absurd (omega (arith, below))

pub none_is_next : IsNext links 4 None
none_is_next zero low = refl
none_is_next (suc zero) low = refl
none_is_next (suc (suc zero)) low = absurd (omega (arith, low))
none_is_next (suc (suc (suc zero))) low = absurd (omega (arith, low))
none_is_next (suc (suc (suc (suc place)))) low = refl
