-- The reads of a run, and readings that agree with them.
use Rattle.std.proofs.Common.{◌≡◌, ◌≢◌, ℕ, suc, ◌+◌, ◌<◌, ◌≤◌, ◌⊎◌, inl, inr, ◌==◌, true, false, List, [], ◌∷◌, ◌++◌, length, Option, Some, None, refl, sym, ap, ◌∙◌, subst, append_assoc, arith}
use Rattle.std.proofs.lemmas.Bool.Decides.{nat_tests}
use Rattle.std.specs.Prelude.{if◌then◌else◌}
use Rattle.std.proofs.lemmas.List.{append-nil}
use Rattle.sg_outside.specs.Counts.{Rose, one_more, last_count}
use Rattle.sg_outside.specs.Files.{Held, Missing}
use Rattle.sparsegrid.specs.Meaning.{Readings, readings_in}
use Rattle.sparsegrid.specs.Outcome.{counted_more}
use Rattle.sparsegrid.specs.steps.Along.{ReadMade, Agree, AreTold, names_of}

test_same : (a b : ℕ) → a ≡ b → (a == b) ≡ true
test_same a b h = grind (arith, nat_tests)

test_other : (a b : ℕ) → a ≢ b → (a == b) ≡ false
test_other a b h = grind (arith, nat_tests)

-- ---- lists of reads one after the other

pub names_twice : (made more : List ReadMade) → names_of (made ++ more) ≡ names_of made ++ names_of more
names_twice [] more = refl
names_twice (read ∷ made) more = ap (λ (names : List (List ℕ)). read.name ∷ names) (names_twice made more)

pub told_twice : (held : Held) (made more : List ReadMade) → AreTold held made → AreTold held more → AreTold held (made ++ more)
told_twice held [] more a b = b
told_twice held (read ∷ made) more a b = (a.0, told_twice held made more a.1 b)

pub agree_twice : (readings : Readings) (n k : ℕ) (made more : List ReadMade) → k ≡ length made + n → Agree readings n (made ++ more) → Agree readings n made × Agree readings k more
agree_twice readings n k [] more at agree = (tt, subst (λ (m : ℕ). Agree readings m more) (omega arith) agree)
agree_twice readings n k (read ∷ made) more at agree =
    let rest = agree_twice readings (suc n) k made more (omega arith) agree.1 in
    ((agree.0, rest.0), rest.1)

-- ---- how many reads there were

pub count_low : (count : ℕ) (names : List (List ℕ)) → counted_more count names < last_count → counted_more count names ≡ count + length names
count_low count [] low = omega arith
count_low count (name ∷ names) low =
    let rest : counted_more (one_more count) names ≡ one_more count + length names = count_low (one_more count) names low in
    omega arith

counted_last : (names : List (List ℕ)) → counted_more last_count names ≡ last_count
counted_last [] = refl
counted_last (name ∷ names) = counted_last names

counted_up : (count : ℕ) (names : List (List ℕ)) → (count ≤ counted_more count names) ⊎ (last_count ≤ counted_more count names)
counted_up count [] = inl (omega arith)
counted_up count (name ∷ names) = by_rest (counted_up (one_more count) names) where
  by_rest : (one_more count ≤ counted_more (one_more count) names) ⊎ (last_count ≤ counted_more (one_more count) names)
      → (count ≤ counted_more (one_more count) names) ⊎ (last_count ≤ counted_more (one_more count) names)
  by_rest (inl up) = grind arith
  by_rest (inr last) = inr last

pub count_rose : (count : ℕ) (name : List ℕ) (names : List (List ℕ)) → Rose count (counted_more count (name ∷ names))
count_rose count name names = by_rest (counted_up (one_more count) names) where
  by_rest : (one_more count ≤ counted_more (one_more count) names) ⊎ (last_count ≤ counted_more (one_more count) names) → Rose count (counted_more (one_more count) names)
  by_rest (inl up) = grind arith
  by_rest (inr last) = inr last

-- ---- readings that agree

-- what the files hold, if no read failed
pub agree_told : (held : Held) (n : ℕ) (made : List ReadMade) → AreTold held made → Agree (readings_in held None) n made
agree_told held n [] told = tt
agree_told held n (read ∷ made) told = (sym told.0, agree_told held (suc n) made told.1)

-- what the files hold, where the last read is the one that failed
pub agree_stopped : (held : Held) (stop n : ℕ) (earlier : List ReadMade) (last : ReadMade) → stop ≡ suc (length earlier + n) → AreTold held earlier → last.given ≡ Missing
    → Agree (readings_in held (Some stop)) n (earlier ++ last ∷ [])
agree_stopped held stop n [] last at told missing =
    let same : (stop == suc n) ≡ true = test_same stop (suc n) (omega arith) in
    (rw same (sym missing), tt)
agree_stopped held stop n (read ∷ earlier) last at told missing =
    let other : (stop == suc n) ≡ false = test_other stop (suc n) (λ same. absurd (omega arith)) in
    (rw other (sym told.0), agree_stopped held stop (suc n) earlier last (omega arith) told.1 missing)

-- what the reads themselves gave
pub readings_of : ℕ → List ReadMade → Readings
readings_of n [] number name limit = Missing
readings_of n (read ∷ made) number name limit = if number == suc n then read.given else readings_of (suc n) made number name limit

agree_later : (readings other : Readings) (n : ℕ) (made : List ReadMade)
    → ((number : ℕ) (name : List ℕ) (limit : ℕ) → n < number → readings number name limit ≡ other number name limit) → Agree other n made → Agree readings n made
agree_later readings other n [] same agree = tt
agree_later readings other n (read ∷ made) same agree =
    (same (suc n) read.name read.limit (omega arith) ∙ agree.0, agree_later readings other (suc n) made (λ number name limit above. same number name limit (omega arith)) agree.1)

pub agree_own : (n : ℕ) (made : List ReadMade) → Agree (readings_of n made) n made
unfolding readings_of
agree_own n [] = tt
agree_own n (read ∷ made) =
    let here : (suc n == suc n) ≡ true = test_same (suc n) (suc n) refl in
    (rw here refl, agree_later (readings_of n (read ∷ made)) (readings_of (suc n) made) (suc n) made later (agree_own (suc n) made))
  where
    later : (number : ℕ) (name : List ℕ) (limit : ℕ) → suc n < number → readings_of n (read ∷ made) number name limit ≡ readings_of (suc n) made number name limit
    later number name limit above = rw (test_other number (suc n) (λ same. absurd (omega arith))) refl
