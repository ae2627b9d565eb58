-- What the invariant of a race for the slots of one node gives the last seat: the links, and the spares.
use Rattle.std.proofs.Common.{◌≡◌, ℕ, zero, suc, ◌+◌, ◌-◌, ◌^◌, ◌<◌, ◌≤◌, ◌≢◌, ◌⊎◌, inl, inr, ⊎_elim, min, Bool, true, false, cond, not, ◌&&◌, ◌==◌, nat_lt, List, [], ◌∷◌, length, take, drop, refl, sym, ap, ◌∙◌, subst, arith}
use Rattle.std.specs.Prelude.{slice_index}
use Rattle.std.proofs.lemmas.Bool.Decides.{nat_tests}
use mathlib.Core.Option.{some, some-injective}
use mathlib.Core.Logic.{dite}
use native.Mathlib.Decide.{ℕ_discrete, dec_le}
use lib.ListN.{get_elem?}
use Rattle.sg_words.specs.declared.race.Worker.{Worker}
use Rattle.sg_words.specs.Counts.{one, once_below, times_in, pairs, firsts}
use Rattle.sg_words.specs.RaceMachine.{Setting, Race}
use Rattle.sg_words.specs.RaceInvariant.{MeetsRaceInvariant, handed_share, made_at, holds_ticket, has_seen, has_made, has_linked, links_from}
use Rattle.sg_words.specs.RaceLaws.{IsFreshSetting}
use Rattle.sg_words.specs.SlotRaces.{slot_setting, slot_race}
use Rattle.sg_words.specs.Stocks.{AreLinks, IsFreshStock, is_dry, full_words, taken_of, outside, stands_in, Settled, AreSpares}
use Rattle.sg_words.specs.steps.SlotSteps.{Ended}
use Rattle.sg_words.proofs.RaceTotals.{le-total, part-of, pair_cases, first_cases, total-le}
use Rattle.sg_words.proofs.RaceParts.{stands}
use Rattle.sg_words.proofs.RaceFound.{alone}
use Rattle.sg_words.proofs.RacePools.{made-held, made-ticket, new_links_differ, spares_never_fill, sum_below, sum-same, sum-add, spread}
use Rattle.sg_words.proofs.OutsideSums.{sum-some, times-take, times-drawn, stood, stand_at, more_in, length-outside}

-- ---- states with the same words
pub same_race : (slots slots' keys keys' counts counts' : List ℕ) (views views' : List Worker) → slots ≡ slots' → keys ≡ keys' → counts ≡ counts' → views ≡ views'
    → slot_race slots keys counts views ≡ slot_race slots' keys' counts' views'
same_race slots slots' keys keys' counts counts' views views' a b c d = ap (λ l. slot_race l keys counts views) a ∙ ap (λ l. slot_race slots' l counts views) b ∙ ap (λ l. slot_race slots' keys' l views) c ∙ ap (slot_race slots' keys' counts') d

pub kept_as : (g : Setting) (slots slots' keys keys' counts counts' : List ℕ) (views : List Worker) → slots ≡ slots' → keys ≡ keys' → counts ≡ counts'
    → MeetsRaceInvariant g (slot_race slots keys counts views) → MeetsRaceInvariant g (slot_race slots' keys' counts' views)
kept_as g slots slots' keys keys' counts counts' views a b c k = subst (MeetsRaceInvariant g) (same_race slots slots' keys keys' counts counts' views views a b c refl) k

-- the last of so many words
pub last-word : (words : List ℕ) (n x : ℕ) → length words ≡ n + 1 → get_elem? words n ≡ some x → drop n words ≡ x ∷ []
last-word [] zero x long at = absurd (omega arith)
last-word [] (suc n) x long at = absurd (omega arith)
last-word (w ∷ []) zero x long at = ap (λ (a : ℕ). a ∷ []) (some-injective w x at)
last-word (w ∷ (u ∷ us)) zero x long at = absurd (omega arith)
last-word (w ∷ ws) (suc n) x long at = last-word ws n x (omega arith) at

-- a slot word is 0 or one more than a number of 32 bits
pub slot-small : (links old_keys stock told : List ℕ) (s : Race) (i : ℕ) → AreLinks links → ((t : ℕ) → slice_index stock t < 2 ^ 32) → MeetsRaceInvariant (slot_setting links old_keys stock told) s → slice_index s.slots i ≤ 2 ^ 32
slot-small links old_keys stock told s i small numbers k =
    dite (ℕ_discrete (slice_index s.slots i) 0) (λ e. omega arith) (λ full. dite (ℕ_discrete (slice_index links i) 0)
    (λ new. let m = made-ticket (slot_setting links old_keys stock told) s i k new (omega arith) in let word = m.2 in let n = numbers m.0 in omega arith)
    (λ old. let stay = k.slots_stay.1 i (omega arith) in let n = small i in omega arith))

-- ---- the links
full-links : (i : ℕ) (words : List ℕ) → links_from (λ _. 0) 0 i words ≡ full_words words
full-links i [] = refl
full-links i (w ∷ ws) = let r = full-links (i + 1) ws in omega arith

pub settled : (old old_keys stock told : List ℕ) (v : Worker) (links keys : List ℕ) (count : ℕ) (dry : Bool) → IsFreshStock old stock → handed_share v ≡ 16 → length links ≡ length old
    → Ended (slot_setting old old_keys stock told) v links keys count → dry ≡ is_dry v → Settled old stock v links dry
settled old old_keys stock told v links keys count dry fresh all long end is_dry' =
    let g = slot_setting old old_keys stock told in
    let s = slot_race links keys (count ∷ []) end.0 in
    let k = end.2 in
    let at = end.3 in
    let ws = end.0 in
    let id = end.1 in
    let fresh' : IsFreshSetting g 0 = record { distinct = fresh.distinct; unlinked = λ t i below _. fresh.unlinked t i below } in
    record {
      long = long;
      stay = k.slots_stay.1;
      seen = λ i n has. k.seen i n (let le = le-total (has_seen i n) ws id v at in omega arith);
      made = λ i t has.
          (let le = le-total (has_made i t) ws id v at in
          let m = k.links.made i t (omega arith) in
          let held = made-held g i t ws in
          let w = k.tickets.within 0 t in
          (m.0, omega arith, m.2));
      bare = λ i start' none. k.links.bare i start' (alone (has_linked i) ws id v at k.team all refl ∙ none);
      of_stock = λ i start' full. (let m = made-ticket g s i k start' full in (m.0, m.3, m.2));
      once = λ i j start' full same. new_links_differ g s i j k fresh' start' full refl same;
      ran_dry = is_dry';
      filled = λ c room ran.
          (let past : 0 < firsts 0 v.past = (let h : nat_lt 0 (firsts 0 v.past) ≡ true = sym is_dry' ∙ ran in grind (arith, nat_tests)) in
          let le = le-total (λ (v : Worker). firsts 0 v.past) ws id v at in
          let old' = full-links 0 old in
          let new' = full-links 0 links in
          let fill = spares_never_fill g s 0 c k (omega arith) (omega arith) in omega arith);
    }

-- ---- the spares
-- if a number was taken, an empty slot got it
taken_case : (P : List ℕ → Type 0) (o n : ℕ) (rest : List ℕ) → (o ≡ 0 → n ≢ 0 → P ((n - 1) ∷ rest)) → ((o ≢ 0) ⊎ (n ≡ 0) → P rest) → P (cond ((o == 0) && not (n == 0)) ((n - 1) ∷ rest) rest)
taken_case P o n rest hit miss = go (o == 0) refl (n == 0) refl
  where
    go : (p : Bool) → (o == 0) ≡ p → (q : Bool) → (n == 0) ≡ q → P (cond (p && not q) ((n - 1) ∷ rest) rest)
    go true e true e' = miss (inr (grind (arith, nat_tests)))
    go true e false e' = hit (grind (arith, nat_tests)) (λ z. grind (arith, nat_tests))
    go false e q e' = miss (inl (λ z. grind (arith, nat_tests)))

pub from-taken : (old new : List ℕ) (x : ℕ) → 0 < times_in x (taken_of old new) → (i : ℕ) × (slice_index old i ≡ 0) × (slice_index new i ≡ x + 1)
from-taken [] new x h = absurd (omega arith)
from-taken (o ∷ os) [] x h = absurd (omega arith)
from-taken (o ∷ os) (n ∷ ns) x h =
    taken_case (λ l. 0 < times_in x l → (i : ℕ) × (slice_index (o ∷ os) i ≡ 0) × (slice_index (n ∷ ns) i ≡ x + 1)) o n (taken_of os ns)
    (λ empty full. first_cases (λ k. 0 < k + times_in x (taken_of os ns) → (i : ℕ) × (slice_index (o ∷ os) i ≡ 0) × (slice_index (n ∷ ns) i ≡ x + 1)) (n - 1) x
    (λ e _. (zero, empty, omega arith)) (λ _ rest. let r = from-taken os ns x (omega arith) in (suc r.0, r.1, r.2)))
    (λ _ rest. let r = from-taken os ns x rest in (suc r.0, r.1, r.2)) h

pub into-taken : (old new : List ℕ) (i x : ℕ) → i < length old → length new ≡ length old → slice_index old i ≡ 0 → slice_index new i ≡ x + 1 → 0 < times_in x (taken_of old new)
into-taken [] new i x below long empty is = absurd (omega arith)
into-taken (o ∷ os) [] i x below long empty is = absurd (omega arith)
into-taken (o ∷ os) (n ∷ ns) zero x below long empty is =
    taken_case (λ l. 0 < times_in x l) o n (taken_of os ns)
    (λ _ full. first_cases (λ k. 0 < k + times_in x (taken_of os ns)) (n - 1) x (λ _. omega arith) (λ ne. absurd (ne (omega arith))))
    (λ none. absurd (⊎_elim (λ f. f empty) (λ z. omega arith) none))
into-taken (o ∷ os) (n ∷ ns) (suc i) x below long empty is =
    let r = into-taken os ns i x (omega arith) (omega arith) empty is in
    taken_case (λ l. 0 < times_in x l) o n (taken_of os ns) (λ _ _. omega arith) (λ _. r)

pairs-le-made : (i t : ℕ) (xs : List (ℕ × ℕ)) → pairs i t xs ≤ made_at (λ _. 0) 0 t xs
pairs-le-made i t xs = total-le (λ (x : ℕ × ℕ). one ((x.0 == i) && (x.1 == t))) (λ (x : ℕ × ℕ). one ((0 == 0) && (x.1 == t))) xs
    (λ x. pair_cases (λ n. n ≤ one ((0 == 0) && (x.1 == t))) x.0 x.1 i t (λ _ e'. pair_cases (λ n. 1 ≤ n) 0 x.1 0 t (λ _ _. omega arith) (λ miss. absurd (miss refl e'))) (λ _. omega arith))

made-pair : (t : ℕ) (xs : List (ℕ × ℕ)) → 0 < made_at (λ _. 0) 0 t xs → (i : ℕ) × (0 < pairs i t xs)
made-pair t xs h =
    let p = part-of (λ (x : ℕ × ℕ). one ((0 == 0) && (x.1 == t))) xs h in
    let here : 0 < one ((p.1.0 == p.1.0) && (p.1.1 == t)) = pair_cases (λ n. 0 < n) p.1.0 p.1.1 p.1.0 t (λ _ _. omega arith)
    (λ miss. absurd (pair_cases (λ n. 0 < n → ⊥) 0 p.1.1 0 t (λ _ e _. miss refl e) (λ _ z. omega arith) p.3)) in
    let le = le-total (λ (x : ℕ × ℕ). one ((x.0 == p.1.0) && (x.1 == t))) xs p.0 p.1 p.2 in
    (p.1.0, omega arith)

module _ (old old_keys stock told : List ℕ) (v : Worker) (links keys : List ℕ) (count : ℕ) (fresh : IsFreshStock old stock) (live : 0 < v.share) (all : handed_share v ≡ 16)
    (long : length links ≡ length old) (end : Ended (slot_setting old old_keys stock told) v links keys count) where
  -- whether a number was taken
  abbrev test : ℕ → Bool
  test = stands_in (taken_of old links)

  -- the tickets of the last seat are all tickets
  all-tickets : (t : ℕ) → holds_ticket (λ _. 0) 0 t v ≡ once_below t (min count (length stock))
  all-tickets t = sym (alone (holds_ticket (λ _. 0) 0 t) end.0 end.1 v end.3 end.2.team all refl) ∙ end.2.tickets.within 0 t

  -- a drawn ticket was linked exactly when its number was taken
  spare-once : (t : ℕ) → t < min count (length stock) → pairs 0 t v.spare + pairs 0 t v.left ≡ one (not (test (slice_index stock t)))
  spare-once t below =
      let num = slice_index stock t in
      let k = end.2 in
      let s = slot_race links keys (count ∷ []) end.0 in
      let held = all-tickets t in
      dite (ℕ_discrete (times_in num (taken_of old links)) 0)
      (λ none.
      let out : test num ≡ false = ap (nat_lt 0) none in
      let unmade : made_at (λ _. 0) 0 t v.made ≡ 0 = dite (ℕ_discrete (made_at (λ _. 0) 0 t v.made) 0) (λ e. e)
      (λ some'.
      let p = made-pair t v.made (omega arith) in
      let le = le-total (has_made p.0 t) end.0 end.1 v end.3 in
      let has = p.1 in
      let m = k.links.made p.0 t (omega arith) in
      let inside : p.0 < length old = (let b = m.1 in omega arith) in
      let there = into-taken old links p.0 num inside long m.0 m.2 in absurd (omega arith)) in
      let one' : one (not (test num)) ≡ 1 = ap (λ b. one (not b)) out in omega arith)
      (λ some'.
      let positive : 0 < times_in num (taken_of old links) = omega arith in
      let in' : test num ≡ true = (let h : nat_lt 0 (times_in num (taken_of old links)) ≡ true = grind (arith, nat_tests) in h) in
      let f = from-taken old links num positive in
      let new = f.2 in
      let m = made-ticket (slot_setting old old_keys stock told) s f.0 k f.1 (omega arith) in
      let word = m.2 in
      let same : m.0 ≡ t = fresh.distinct m.0 t m.3 (omega arith) (omega arith) in
      let mine = alone (has_made f.0 m.0) end.0 end.1 v end.3 k.team all refl in
      let have = m.1 in
      let made : 0 < pairs f.0 t v.made = subst (λ u. 0 < pairs f.0 u v.made) same (omega arith) in
      let le = pairs-le-made f.0 t v.made in
      let one' : one (not (test num)) ≡ 0 = ap (λ b. one (not b)) in' in omega arith)

  no-spare : (t : ℕ) → min count (length stock) ≤ t → pairs 0 t v.spare + pairs 0 t v.left ≡ 0
  no-spare t past = let held = all-tickets t in omega arith

  pub are_spares : AreSpares stock v (outside (stands_in (taken_of old links)) (take (min count (length stock)) stock))
  unfolding sum_below
  are_spares =
      let n = min count (length stock) in
      let few : n ≤ length stock = omega arith in
      let drawn = take n stock in
      record {
        stand = λ t below.
            (let num = slice_index stock t in
            let once = times-drawn stock t n fresh.distinct few below in
            dite (dec_le n t)
            (λ past. let none = no-spare t past in stood test num drawn (omega arith) ∙ sym none)
            (λ under. let spare = spare-once t (omega arith) in stand_at test num drawn (omega arith) ∙ sym spare));
        of_stock = λ x has.
            (let some' : 0 < times_in x drawn = more_in test x drawn has in
            let sum = times-take x stock n few in
            let u = sum-some (λ u. one (slice_index stock u == x)) n (omega arith) in
            let under = u.1 in
            (u.0, omega arith, first_cases (λ k. 0 < k → slice_index stock u.0 ≡ x) (slice_index stock u.0) x (λ e _. e) (λ _ z. absurd (omega arith)) u.2));
        few =
            (let st = stands end.0 end.1 v end.2.team end.3 live in
            let a = length-outside test stock n few in
            let b = sum-same (λ u. one (not (test (slice_index stock u)))) (λ u. pairs 0 u v.spare + pairs 0 u v.left) n (λ u under. sym (spare-once u under)) in
            let c = sum-add (λ u. pairs 0 u v.spare) (λ u. pairs 0 u v.left) n in
            let d = spread (λ x. x.0 == 0) v.spare n in
            let e = spread (λ x. x.0 == 0) v.left n in
            let f = st.spare 0 in
            let h = st.left 0 in omega arith);
      }
