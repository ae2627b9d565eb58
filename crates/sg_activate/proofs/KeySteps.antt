-- What a seat of a race for keys knows after an ask, a split and a join.
use Rattle.std.proofs.Common.{◌≡◌, ℕ, ◌+◌, ◌<◌, ◌⊎◌, inl, inr, Bool, true, false, ◌||◌, List, [], ◌∷◌, ◌++◌, refl, sym, ap, ◌∙◌, subst, arith}
use Rattle.std.specs.Prelude.{◌==◌, Some}
use Rattle.std.proofs.lemmas.Bool.{cases_lt, cases_eq}
use Rattle.std.proofs.lemmas.Bool.Decides.{nat_tests}
use Rattle.sg_words.specs.declared.race.Worker.{Worker}
use Rattle.sg_words.specs.Counts.{one, pairs, firsts, times_in}
use Rattle.sg_words.specs.RaceMachine.{newcomer, after_split, after_join}
use Rattle.sg_words.proofs.Uses.{total-append}
use Rattle.sg_coord.specs.declared.coord.Coord.{Coord}
use Rattle.sg_words.specs.declared.asking.Ask.{Ask}
use Rattle.sg_words.specs.declared.asking.Ask.TheVariants as ask
use Rattle.sg_words.specs.Stocks.{is_dry}
use Rattle.sg_hash.specs.Asking.{AnsweredKey, HasPut}
use Rattle.sg_store.specs.StoreWords.{StoreWords}
use Rattle.sg_store.specs.Walks.{place_in}
use Rattle.sg_store.specs.Opening.{IsInLive}
use Rattle.sg_activate.specs.steps.Keys.{IsKnown, HasFound, AreKeyed}
use Rattle.sg_activate.proofs.LinkSteps.{pairs-append, firsts-append, pair_at_end, pair_before}

dry_from : (v : Worker) → 0 < firsts 0 v.past → is_dry v ≡ true
dry_from v some = grind (arith, nat_tests)

dry_has : (v : Worker) → is_dry v ≡ true → 0 < firsts 0 v.past
dry_has v dry = grind (arith, nat_tests)

times-append : (a : ℕ) (xs ys : List ℕ) → times_in a (xs ++ ys) ≡ times_in a xs + times_in a ys
times-append a xs ys = total-append (λ (x : ℕ). one (x == a)) xs ys

-- ---- asks
module _ (n key : ℕ) (v : Worker) (full : Bool) (w : Worker) (full' : Bool) where
  pub known_asked : (answer : Ask) → AnsweredKey n key v full answer w full' → IsKnown w full' key
  known_asked (ask.Node x) (same, beside) = inl (record {
    place = beside.0;
    number = x;
    found = beside.1;
    seen = subst (λ xs. 0 < pairs beside.0 x xs) (sym beside.2.0) (pair_at_end beside.0 x v.seen);
  })
  known_asked ask.Dry (inl (same, beside)) = inr (inl beside.2.3)
  known_asked ask.Dry (inr filled) = inr (inr filled.0)

  seen_stays : (answer : Ask) → AnsweredKey n key v full answer w full' → (p m : ℕ) → 0 < pairs p m v.seen → 0 < pairs p m w.seen
  seen_stays (ask.Node x) (same, beside) p m some =
      let e = pairs-append p m v.seen ((beside.0, x) ∷ []) in
      subst (λ xs. 0 < pairs p m xs) (sym beside.2.0) (let h : 0 < pairs p m (v.seen ++ (beside.0, x) ∷ []) = omega arith in h)
  seen_stays ask.Dry (inl (same, beside)) p m some = subst (λ xs. 0 < pairs p m xs) (sym beside.2.0) some
  seen_stays ask.Dry (inr filled) p m some = subst (λ xs. 0 < pairs p m xs) (sym filled.2) some

  full_stays : (answer : Ask) → AnsweredKey n key v full answer w full' → full ≡ true → full' ≡ true
  full_stays (ask.Node x) (same, beside) is = same ∙ is
  full_stays ask.Dry (inl (same, beside)) is = same ∙ is
  full_stays ask.Dry (inr filled) is = filled.0

  pub known_stays : (answer : Ask) → AnsweredKey n key v full answer w full' → ((p k : ℕ) → 0 < pairs p k v.keys → 0 < pairs p k w.keys) → (is_dry v ≡ true → is_dry w ≡ true)
      → (other : ℕ) → IsKnown v full other → IsKnown w full' other
  known_stays answer answered keys dries other (inl linked) = inl (record {
    place = linked.place;
    number = linked.number;
    found = keys linked.place other linked.found;
    seen = seen_stays answer answered linked.place linked.number linked.seen;
  })
  known_stays answer answered keys dries other (inr (inl dry)) = inr (inl (dries dry))
  known_stays answer answered keys dries other (inr (inr is)) = inr (inr (full_stays answer answered is))

  made_beside : (answer : Ask) → AnsweredKey n key v full answer w full' → (p t : ℕ) → 0 < pairs p t w.made → (0 < pairs p t v.made) ⊎ (0 < pairs p key w.keys)
  made_beside (ask.Node x) (same, beside) p t some = go beside.2.1
    where
      go : (w.made ≡ v.made) ⊎ ((u : ℕ) × (w.made ≡ v.made ++ (beside.0, u) ∷ [])) → (0 < pairs p t v.made) ⊎ (0 < pairs p key w.keys)
      go (inl e) = inl (subst (λ xs. 0 < pairs p t xs) e some)
      go (inr (u, e)) = elim (pair_before p t beside.0 u v.made (subst (λ xs. 0 < pairs p t xs) e some)) [
        | inl old ↦ inl old
        | inr here ↦ inr (subst (λ q. 0 < pairs q key w.keys) here beside.1)
      ]
  made_beside ask.Dry (inl (same, beside)) p t some = inl (subst (λ xs. 0 < pairs p t xs) beside.2.1 some)
  made_beside ask.Dry (inr filled) p t some = inl (subst (λ xs. 0 < pairs p t xs) filled.3 some)

-- what holds of each key that was put
pub puts_hold : (Holds : ℕ → Type 0) (key : ℕ) (v w : Worker) → HasPut key v w → Holds key → ((k : ℕ) → 0 < times_in k v.put → Holds k)
    → (k : ℕ) → 0 < times_in k w.put → Holds k
puts_hold Holds key v w (inl same) here before k some = before k (subst (λ xs. 0 < times_in k xs) same some)
puts_hold Holds key v w (inr e) here before k some = elim (cases_eq key k) [
  | inl is ↦ subst Holds is here
  | inr other ↦
      let after : 0 < times_in k (v.put ++ key ∷ []) = subst (λ xs. 0 < times_in k xs) e some in
      let count = times-append k v.put (key ∷ []) in
      let test : (key == k) ≡ false = grind (arith, nat_tests) in
      let miss : one (key == k) ≡ 0 = ap one test in
      before k (omega arith)
]

pub keyed_asked : (store : StoreWords) (n key : ℕ) (v : Worker) (full : Bool) (answer : Ask) (w : Worker) (full' : Bool) → AnsweredKey n key v full answer w full' → HasPut key v w
    → ((p k : ℕ) → 0 < pairs p k v.keys → 0 < pairs p k w.keys) → (is_dry v ≡ true → is_dry w ≡ true) → IsInLive store 1 key → AreKeyed store v full → AreKeyed store w full'
keyed_asked store n key v full answer w full' answered put keys dries live before = record {
  in_live = puts_hold (IsInLive store 1) key v w put live before.in_live;
  known = puts_hold (IsKnown w full') key v w put (known_asked n key v full w full' answer answered)
      (λ k some. known_stays n key v full w full' answer answered keys dries k (before.known k some));
  beside = λ p t some. elim (made_beside n key v full w full' answer answered p t some) [
    | inl old ↦ let b = before.beside p t old in (b.0, keys p b.0 b.1)
    | inr here ↦ (key, here)
  ];
}

pub found_asked : (store : StoreWords) (at : Coord) (key : ℕ) (w : Worker) (full : Bool) → place_in store 1 at ≡ Some key → IsKnown w full key → HasFound store at w full
found_asked store at key w full is known other here = let same : key ≡ other = (cc) in subst (IsKnown w full) same known

-- ---- joins
or_left : (f g : Bool) → f ≡ true → (f || g) ≡ true
or_left f g is = ap (λ b. b || g) is

or_right : (f g : Bool) → g ≡ true → (f || g) ≡ true
or_right true g is = refl
or_right false g is = is

module _ (v w : Worker) (f g both : Bool) (e : both ≡ (f || g)) where
  pub known_left : (key : ℕ) → IsKnown v f key → IsKnown (after_join v w) both key
  known_left key (inl linked) =
      let a = pairs-append linked.place key v.keys w.keys in
      let b = pairs-append linked.place linked.number v.seen w.seen in
      let x = linked.found in
      let y = linked.seen in
      inl (record { place = linked.place; number = linked.number; found = (omega arith); seen = (omega arith) })
  known_left key (inr (inl dry)) = let a = firsts-append 0 v.past w.past in let some = dry_has v dry in inr (inl (dry_from (after_join v w) (omega arith)))
  known_left key (inr (inr is)) = inr (inr (e ∙ or_left f g is))

  pub known_right : (key : ℕ) → IsKnown w g key → IsKnown (after_join v w) both key
  known_right key (inl linked) =
      let a = pairs-append linked.place key v.keys w.keys in
      let b = pairs-append linked.place linked.number v.seen w.seen in
      let x = linked.found in
      let y = linked.seen in
      inl (record { place = linked.place; number = linked.number; found = (omega arith); seen = (omega arith) })
  known_right key (inr (inl dry)) = let a = firsts-append 0 v.past w.past in let some = dry_has w dry in inr (inl (dry_from (after_join v w) (omega arith)))
  known_right key (inr (inr is)) = inr (inr (e ∙ or_right f g is))

pub puts_joined : (Holds : ℕ → Type 0) (v w : Worker) → ((k : ℕ) → 0 < times_in k v.put → Holds k) → ((k : ℕ) → 0 < times_in k w.put → Holds k)
    → (k : ℕ) → 0 < times_in k (after_join v w).put → Holds k
puts_joined Holds v w mine theirs k some = elim (cases_lt 0 (times_in k v.put)) [
  | inl here ↦ mine k here
  | inr none ↦ let e = times-append k v.put w.put in theirs k (omega arith)
]

pub keyed_joined : (store : StoreWords) (v w : Worker) (f g both : Bool) → both ≡ (f || g) → AreKeyed store v f → AreKeyed store w g → AreKeyed store (after_join v w) both
keyed_joined store v w f g both e mine theirs = record {
  in_live = puts_joined (IsInLive store 1) v w mine.in_live theirs.in_live;
  known = puts_joined (IsKnown (after_join v w) both) v w (λ k some. known_left v w f g both e k (mine.known k some)) (λ k some. known_right v w f g both e k (theirs.known k some));
  beside = λ p t some. elim (cases_lt 0 (pairs p t v.made)) [
    | inl here ↦ let b = mine.beside p t here in let a = pairs-append p b.0 v.keys w.keys in let x = b.1 in (b.0, omega arith)
    | inr none ↦ let m = pairs-append p t v.made w.made in let b = theirs.beside p t (omega arith) in let a = pairs-append p b.0 v.keys w.keys in let x = b.1 in (b.0, omega arith)
  ];
}

-- ---- splits
pub known_split : (v : Worker) (f : Bool) (key : ℕ) → IsKnown v f key → IsKnown (after_split v) f key
known_split v f key (inl linked) = inl (record { place = linked.place; number = linked.number; found = linked.found; seen = linked.seen })
known_split v f key (inr other) = inr other

pub keyed_split : (store : StoreWords) (v : Worker) (f : Bool) → AreKeyed store v f → AreKeyed store (after_split v) f
keyed_split store v f keyed = record {
  in_live = keyed.in_live;
  known = λ k some. known_split v f k (keyed.known k some);
  beside = keyed.beside;
}

-- a newcomer has put and made nothing
pub none_put : (Holds : ℕ → Type 0) (v : Worker) (told : List ℕ) (share : ℕ) → v ≡ newcomer told share → (k : ℕ) → 0 < times_in k v.put → Holds k
none_put Holds v told share is k some = absurd (let h : 0 < times_in k (newcomer told share).put = subst (λ (w : Worker). 0 < times_in k w.put) is some in omega arith)

pub none_keyed : (store : StoreWords) (v : Worker) (told : List ℕ) (share : ℕ) (full : Bool) → v ≡ newcomer told share → AreKeyed store v full
none_keyed store v told share full is = record {
  in_live = none_put (IsInLive store 1) v told share is;
  known = none_put (IsKnown v full) v told share is;
  beside = λ p t some. absurd (let h : 0 < pairs p t (newcomer told share).made = subst (λ (w : Worker). 0 < pairs p t w.made) is some in omega arith);
}
