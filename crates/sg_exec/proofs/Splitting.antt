-- Seats that are split, and joined, one after the other.
use Rattle.std.proofs.Common.{◌≡◌, ℕ, zero, suc, ◌+◌, ◌-◌, ◌<◌, ◌≤◌, inl, inr, List, [], ◌∷◌, ◌++◌, length, take, get_or, Some, refl, sym, ap, ◌∙◌, subst, arith}
use Rattle.std.specs.Prelude.{slice_get, slice_set, slice_index_or}
use Rattle.std.proofs.lemmas.Bool.{cases_eq}
use Rattle.std.proofs.lemmas.Option.{same_Some, slice_get_within, slice_get_read}
use Rattle.std.proofs.lemmas.List.{length-append, length-take-le, take_all, take-take, get_or-take}
use Rattle.sg_accum.specs.declared.seat.AccSeat.{AccSeat}
use Rattle.sg_accum.specs.Folding.{IsSeatOf, IsCut, IsMerged}
use Rattle.sg_exec.specs.declared.results.shared.Accumulated.{Accumulated}
use Rattle.sg_exec.specs.steps.Racing.{AreSeats, AreSplit, AreJoined}
use Rattle.sg_exec.proofs.Giving.{set_same, set_other, seats_set}

pub before_push : {X : Type 0} (xs : List X) (x : X) (k : ℕ) → k < length xs → slice_get (xs ++ x ∷ []) k ≡ slice_get xs k
before_push [] x k below = absurd (omega arith)
before_push (y ∷ ys) x zero below = refl
before_push (y ∷ ys) x (suc k) below = before_push ys x k (omega arith)

pub at_push : {X : Type 0} (xs : List X) (x : X) → slice_get (xs ++ x ∷ []) (length xs) ≡ Some x
at_push [] x = refl
at_push (y ∷ ys) x = at_push ys x

-- the first so many seats are split
pub record Splitting (accumulated : List Accumulated) (number : ℕ) (olds nows others : List AccSeat) : Type 0 where
  pub seats : AreSeats accumulated nows
  pub long : length others ≡ number
  pub within : number ≤ length accumulated
  pub other_own : (k : ℕ) (it : Accumulated) (seat : AccSeat) → slice_get accumulated k ≡ Some it → slice_get others k ≡ Some seat → IsSeatOf it.pass seat
  pub split : AreSplit olds nows others
  pub later : (k : ℕ) → number ≤ k → slice_get nows k ≡ slice_get olds k

pub splitting_none : (accumulated : List Accumulated) (seats : List AccSeat) → AreSeats accumulated seats → Splitting accumulated 0 seats seats []
splitting_none accumulated seats are = record {
  seats = are;
  long = refl;
  within = omega arith;
  other_own = λ k it seat is at. absurd (cc);
  split = λ k old now other a b c. absurd (cc);
  later = λ k above. refl;
}

pub splitting_more : (accumulated : List Accumulated) (number : ℕ) (olds nows others : List AccSeat) (it : Accumulated) (old now other : AccSeat) → Splitting accumulated number olds nows others
    → slice_get accumulated number ≡ Some it → slice_get nows number ≡ Some old → IsSeatOf it.pass now → IsSeatOf it.pass other → IsCut old now other
    → Splitting accumulated (number + 1) olds (slice_set nows number now) (others ++ other ∷ [])
splitting_more accumulated number olds nows others it old now other so is at own other_own cut =
    let below : number < length accumulated = slice_get_within accumulated number it is in
    let within : number < length nows = slice_get_within nows number old at in
    let long = so.long in
    record {
      seats = seats_set accumulated nows number it now so.seats is own;
      long = length-append others (other ∷ []) ∙ ap (λ (n : ℕ). n + 1) long;
      within = omega arith;
      other_own = λ k that seat is_that is_seat. elim (cases_eq k number) [
        | inl here ↦ (
            let here' : k ≡ length others = omega arith in
            let item : it ≡ that = same_Some _ _ (sym is ∙ sym (ap (slice_get accumulated) here) ∙ is_that) in
            let seat_is : other ≡ seat = same_Some _ _ (sym (at_push others other) ∙ sym (ap (slice_get (others ++ other ∷ [])) here') ∙ is_seat) in
            subst (λ (o : Accumulated). IsSeatOf o.pass seat) item (subst (λ (s : AccSeat). IsSeatOf it.pass s) seat_is other_own)
            )
        | inr elsewhere ↦ (
            let short : k < length (others ++ other ∷ []) = slice_get_within (others ++ other ∷ []) k seat is_seat in
            let total : length (others ++ other ∷ []) ≡ length others + 1 = length-append others (other ∷ []) in
            so.other_own k that seat is_that (sym (before_push others other k (omega arith)) ∙ is_seat)
            )
      ];
      split = λ k before after half is_before is_after is_half. elim (cases_eq k number) [
        | inl here ↦ (
            let here' : k ≡ length others = omega arith in
            let was : old ≡ before = same_Some _ _ (sym at ∙ so.later number (omega arith) ∙ sym (ap (slice_get olds) here) ∙ is_before) in
            let seat_is : now ≡ after = same_Some _ _ (sym (set_same nows number now within) ∙ sym (ap (slice_get (slice_set nows number now)) here) ∙ is_after) in
            let half_is : other ≡ half = same_Some _ _ (sym (at_push others other) ∙ sym (ap (slice_get (others ++ other ∷ [])) here') ∙ is_half) in
            subst (λ (s : AccSeat). IsCut before after s) half_is (subst (λ (s : AccSeat). IsCut before s other) seat_is (subst (λ (s : AccSeat). IsCut s now other) was cut))
            )
        | inr elsewhere ↦ (
            let short : k < length (others ++ other ∷ []) = slice_get_within (others ++ other ∷ []) k half is_half in
            let total : length (others ++ other ∷ []) ≡ length others + 1 = length-append others (other ∷ []) in
            so.split k before after half is_before (sym (set_other nows number k now elsewhere) ∙ is_after) (sym (before_push others other k (omega arith)) ∙ is_half)
            )
      ];
      later = λ k above. set_other nows number k now (λ (same : k ≡ number). absurd (omega arith)) ∙ so.later k (omega arith);
    }

pub all_split : (accumulated : List Accumulated) (number : ℕ) (olds nows others : List AccSeat) → length accumulated ≤ number → Splitting accumulated number olds nows others → AreSeats accumulated others
all_split accumulated number olds nows others past so =
    let long = so.long in let within = so.within in
    record { long = omega arith; own = so.other_own }

-- ---- joins, the last first

-- the seats from this number on are joined, and the others before it are left
pub record Joining (accumulated : List Accumulated) (number : ℕ) (olds others nows lefts : List AccSeat) : Type 0 where
  pub seats : AreSeats accumulated nows
  pub left : lefts ≡ take number others
  pub within : number ≤ length accumulated
  pub joined : (k : ℕ) (old other now : AccSeat) → number ≤ k → slice_get olds k ≡ Some old → slice_get others k ≡ Some other → slice_get nows k ≡ Some now → IsMerged old other now
  pub earlier : (k : ℕ) → k < number → slice_get nows k ≡ slice_get olds k

pub joining_none : (accumulated : List Accumulated) (number : ℕ) (olds others : List AccSeat) → number ≡ length accumulated → AreSeats accumulated olds → AreSeats accumulated others → Joining accumulated number olds others olds others
joining_none accumulated number olds others all are also =
    let long = are.long in let other_long = also.long in
    record {
      seats = are;
      left = sym (take_all number others (omega arith));
      within = omega arith;
      joined = λ k old other now above is_old is_other is_now. let below : k < length olds = slice_get_within olds k old is_old in absurd (omega arith);
      earlier = λ k below. refl;
    }

-- the last of the others is the one with the number before
pub last_left : (others lefts : List AccSeat) (number last : ℕ) → number ≡ last + 1 → number ≤ length others → lefts ≡ take number others
    → (length lefts ≡ number) × ((d : AccSeat) → slice_index_or lefts (length lefts - 1) d ≡ get_or others last d) × (take (length lefts - 1) lefts ≡ take last others)
last_left others lefts number last is within are =
    let long : length lefts ≡ number = ap length are ∙ length-take-le number others within in
    let before : length lefts - 1 ≡ last = omega arith in (
      long,
      (λ d. ap (λ (i : ℕ). get_or lefts i d) before ∙ ap (λ (ls : List AccSeat). get_or ls last d) are ∙ get_or-take number others last d (omega arith)),
      (ap (λ (n : ℕ). take n lefts) before ∙ ap (λ (ls : List AccSeat). take last ls) are ∙ take-take last number others (omega arith)),
    )

pub joining_more : (accumulated : List Accumulated) (number last : ℕ) (olds others nows lefts rest : List AccSeat) (it : Accumulated) (old other now : AccSeat) → number ≡ last + 1 → Joining accumulated number olds others nows lefts
    → AreSeats accumulated others → slice_get accumulated last ≡ Some it → slice_get nows last ≡ Some old → other ≡ get_or others last other → rest ≡ take last others → IsSeatOf it.pass now → IsMerged old other now
    → Joining accumulated last olds others (slice_set nows last now) rest
joining_more accumulated number last olds others nows lefts rest it old other now next so also is at is_other is_rest own merged =
    let within : last < length nows = slice_get_within nows last old at in
    let inside : last < length accumulated = slice_get_within accumulated last it is in
    let other_long = also.long in
    let there : slice_get others last ≡ Some other = slice_get_read others (length others) last other refl (omega arith) is_other in
    record {
      seats = seats_set accumulated nows last it now so.seats is own;
      left = is_rest;
      within = omega arith;
      joined = λ k before that after above is_before is_that is_after. elim (cases_eq k last) [
        | inl here ↦ (
            let was : old ≡ before = same_Some _ _ (sym at ∙ so.earlier last (omega arith) ∙ sym (ap (slice_get olds) here) ∙ is_before) in
            let seat_is : now ≡ after = same_Some _ _ (sym (set_same nows last now within) ∙ sym (ap (slice_get (slice_set nows last now)) here) ∙ is_after) in
            let other_is : other ≡ that = same_Some _ _ (sym there ∙ sym (ap (slice_get others) here) ∙ is_that) in
            subst (λ (s : AccSeat). IsMerged before s after) other_is (subst (λ (s : AccSeat). IsMerged before other s) seat_is (subst (λ (s : AccSeat). IsMerged s other now) was merged))
            )
        | inr elsewhere ↦ so.joined k before that after (omega arith) is_before is_that (sym (set_other nows last k now elsewhere) ∙ is_after)
      ];
      earlier = λ k below. set_other nows last k now (λ (same : k ≡ last). absurd (omega arith)) ∙ so.earlier k (omega arith);
    }

pub all_joined : (accumulated : List Accumulated) (number : ℕ) (olds others nows lefts : List AccSeat) → number ≡ 0 → Joining accumulated number olds others nows lefts → AreJoined olds others nows
all_joined accumulated number olds others nows lefts none so = λ k old other now is_old is_other is_now. so.joined k old other now (omega arith) is_old is_other is_now
