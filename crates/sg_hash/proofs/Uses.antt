-- Lemmas on tables for the crates above, and what `find` and `put` rest on.
use Rattle.std.proofs.Common.{◌≡◌, ◌≢◌, ℕ, zero, suc, ◌+◌, ◌-◌, ◌<◌, ◌^◌, ◌==◌, List, [], ◌∷◌, length, get_or, set, refl, sym, ap, ◌∙◌, subst, arith, inl, inr, ◌⊎◌}
use Rattle.std.specs.Prelude.{Some, None, if◌then◌else◌, replicate}
use Rattle.std.proofs.lemmas.Bool.{cases_eq, cases_lt}
use Rattle.std.proofs.lemmas.Bool.Decides.{eqb_tells}
use Rattle.std.proofs.lemmas.List.{length-set, get_or-set_same, get_or-set_other, length-replicate, get_or-replicate}
use Rattle.sg_hash.specs.Tables.{place, HoldsOther, Passes, IsTable, AreBeside, beside, IsAbsent, IsFull}
use Rattle.sg_hash.proofs.Turns.{place_below, place_once, place_comes}

-- if all of a key's turns pass, every place holds another key
pub full_by_turns : (keys : List ℕ) (key : ℕ) → Passes keys key (length keys) → IsFull keys key
full_by_turns keys key passes p below =
    let at = place_comes (length keys) key p below in
    subst (λ q. HoldsOther (get_or keys q 0) key) at.2 (passes at.0 at.1)

-- if every place holds another key, the key stands nowhere
pub absent_by_full : (keys : List ℕ) (key : ℕ) → IsFull keys key → IsAbsent keys key
absent_by_full keys key full p below = (full p below).1

-- one turn further
pub passes_more : (keys : List ℕ) (key turn p : ℕ) → p ≡ place (length keys) key turn → Passes keys key turn → HoldsOther (get_or keys p 0) key → Passes keys key (turn + 1)
passes_more keys key turn p is passes other j before = elim (cases_eq j turn) [
  | inl same ↦ subst (λ q. HoldsOther (get_or keys q 0) key) (is ∙ ap (place (length keys) key) (sym same)) other
  | inr apart ↦ passes j (omega arith)
]

pub held_below : (keys : List ℕ) (key p turn : ℕ) → 0 < length keys → p ≡ place (length keys) key turn → p < length keys
held_below keys key p turn some is = subst (λ q. q < length keys) (sym is) (place_below (length keys) key turn some)

-- if the key is absent, its probe ends at an empty place
pub put_empty : (keys : List ℕ) (key p : ℕ) → p < length keys → IsAbsent keys key → (get_or keys p 0 ≡ 0) ⊎ (get_or keys p 0 ≡ key + 1) → get_or keys p 0 ≡ 0
put_empty keys key p below absent (inl empty) = empty
put_empty keys key p below absent (inr holds) = absurd (absent p below holds)

-- a key stands in one place alone
pub stands_once : (keys : List ℕ) → IsTable keys → (key p q : ℕ) → p < length keys → q < length keys → get_or keys p 0 ≡ key + 1 → get_or keys q 0 ≡ key + 1 → p ≡ q
stands_once keys table key p q first second at also =
    let n : ℕ = length keys in
    let one = place_comes n key p first in
    let two = place_comes n key q second in
    let one_is : get_or keys (place n key one.0) 0 ≡ key + 1 = ap (λ k. get_or keys k 0) one.2 ∙ at in
    let two_is : get_or keys (place n key two.0) 0 ≡ key + 1 = ap (λ k. get_or keys k 0) two.2 ∙ also in
    elim (cases_eq one.0 two.0) [
      | inl same ↦ sym one.2 ∙ ap (place n key) same ∙ two.2
      | inr other ↦ elim (cases_lt one.0 two.0) [
        | inl before ↦ absurd ((table key two.0 two.1 two_is one.0 before).1 one_is)
        | inr behind ↦ absurd ((table key one.0 one.1 one_is two.0 (omega arith)).1 two_is)
      ]
    ]

-- an empty place after places with other keys: the key stands nowhere
pub absent_by_empty : (keys : List ℕ) (key p turn : ℕ) → IsTable keys → turn < length keys → p ≡ place (length keys) key turn → Passes keys key turn → get_or keys p 0 ≡ 0 → IsAbsent keys key
absent_by_empty keys key p turn table below is passes empty q there holds =
    let n : ℕ = length keys in
    let at = place_comes n key q there in
    let held : get_or keys (place n key at.0) 0 ≡ key + 1 = ap (λ k. get_or keys k 0) at.2 ∙ holds in
    let none : get_or keys (place n key turn) 0 ≡ 0 = ap (λ k. get_or keys k 0) (sym is) ∙ empty in
    elim (cases_eq at.0 turn) [
      | inl same ↦ let both : get_or keys (place n key turn) 0 ≡ key + 1 = subst (λ t. get_or keys (place n key t) 0 ≡ key + 1) same held in absurd (omega arith)
      | inr other ↦ elim (cases_lt at.0 turn) [
        | inl before ↦ absurd ((passes at.0 before).1 held)
        | inr behind ↦ absurd ((table key at.0 at.1 held turn (omega arith)).0 none)
      ]
    ]

-- ── What stands beside a key ──

beside_here : (word link : ℕ) (keys links : List ℕ) (key : ℕ) → word ≡ key + 1 → beside (word ∷ keys) (link ∷ links) key ≡ Some (link - 1)
beside_here word link keys links key is = elim (eqb_tells word (key + 1)) [
  | inl yes_is ↦ ap (λ b. if b then Some (link - 1) else beside keys links key) yes_is.0
  | inr no_is ↦ absurd (no_is.1 is)
]

beside_later : (word link : ℕ) (keys links : List ℕ) (key : ℕ) → word ≢ key + 1 → beside (word ∷ keys) (link ∷ links) key ≡ beside keys links key
beside_later word link keys links key other = elim (eqb_tells word (key + 1)) [
  | inl yes_is ↦ absurd (other yes_is.1)
  | inr no_is ↦ ap (λ b. if b then Some (link - 1) else beside keys links key) no_is.0
]

pub beside_none : (keys links : List ℕ) (key : ℕ) → IsAbsent keys key → beside keys links key ≡ None
beside_none [] links key absent = refl
beside_none (word ∷ keys) [] key absent = refl
beside_none (word ∷ keys) (link ∷ links) key absent =
    beside_later word link keys links key (absent 0 (omega arith)) ∙ beside_none keys links key (λ p below. absent (suc p) (omega arith))

pub beside_at : (keys links : List ℕ) (key p : ℕ) → length keys ≡ length links → p < length keys → get_or keys p 0 ≡ key + 1 → ((q : ℕ) → q < length keys → get_or keys q 0 ≡ key + 1 → q ≡ p) → beside keys links key ≡ Some (get_or links p 0 - 1)
beside_at [] links key p many below is once = absurd (omega arith)
beside_at (word ∷ keys) [] key p many below is once = absurd (omega arith)
beside_at (word ∷ keys) (link ∷ links) key zero many below is once = beside_here word link keys links key is
beside_at (word ∷ keys) (link ∷ links) key (suc p) many below is once =
    let other : word ≢ key + 1 = λ e. let same : 0 ≡ suc p = once 0 (omega arith) e in absurd (omega arith) in
    beside_later word link keys links key other ∙ beside_at keys links key p (omega arith) (omega arith) is
    (λ q there holds. let same : suc q ≡ suc p = once (suc q) (omega arith) holds in omega arith)

-- a key that has nothing beside it is absent
pub absent_of_none : (keys links : List ℕ) (key : ℕ) → length keys ≡ length links → beside keys links key ≡ None → IsAbsent keys key
absent_of_none [] links key many none p below is = absurd (omega arith)
absent_of_none (word ∷ keys) [] key many none p below is = absurd (omega arith)
absent_of_none (word ∷ keys) (link ∷ links) key many none zero below is = absurd (let some = beside_here word link keys links key is in cc)
absent_of_none (word ∷ keys) (link ∷ links) key many none (suc p) below is = elim (cases_eq word (key + 1)) [
  | inl same ↦ absurd (let some = beside_here word link keys links key same in cc)
  | inr other ↦ absent_of_none keys links key (omega arith) (sym (beside_later word link keys links key other) ∙ none) p (omega arith) is
]

-- a key put at an empty place
pub beside_put : (keys links : List ℕ) (key number p : ℕ) → length keys ≡ length links → p < length keys → get_or keys p 0 ≡ 0 → IsAbsent keys key → (k : ℕ) → beside (set keys p (key + 1)) (set links p (number + 1)) k ≡ (if k == key then Some number else beside keys links k)
beside_put [] links key number p many below empty absent k = absurd (omega arith)
beside_put (word ∷ keys) [] key number p many below empty absent k = absurd (omega arith)
beside_put (word ∷ keys) (link ∷ links) key number zero many below empty absent k = elim (eqb_tells k key) [
  | inl yes_is ↦
      let here : key + 1 ≡ k + 1 = ap (λ x. x + 1) (sym yes_is.1) in
      beside_here (key + 1) (number + 1) keys links k here ∙ ap Some (omega arith) ∙ sym (ap (λ b. if b then Some number else beside (word ∷ keys) (link ∷ links) k) yes_is.0)
  | inr no_is ↦
      let apart : k ≢ key = no_is.1 in
      let other : key + 1 ≢ k + 1 = λ e. apart (omega arith) in
      let was : word ≢ k + 1 = λ e. absurd (omega arith) in
      beside_later (key + 1) (number + 1) keys links k other ∙ sym (beside_later word link keys links k was) ∙ sym (ap (λ b. if b then Some number else beside (word ∷ keys) (link ∷ links) k) no_is.0)
]
beside_put (word ∷ keys) (link ∷ links) key number (suc p) many below empty absent k =
    let rest = beside_put keys links key number p (omega arith) (omega arith) empty (λ q there. absent (suc q) (omega arith)) k in
    elim (cases_eq word (k + 1)) [
      | inl same ↦ elim (eqb_tells k key) [
        | inl yes_is ↦ absurd (absent 0 (omega arith) (same ∙ ap (λ x. x + 1) yes_is.1))
        | inr no_is ↦ beside_here word link (set keys p (key + 1)) (set links p (number + 1)) k same ∙ sym (beside_here word link keys links k same) ∙ sym (ap (λ b. if b then Some number else beside (word ∷ keys) (link ∷ links) k) no_is.0)
      ]
      | inr other ↦ beside_later word link (set keys p (key + 1)) (set links p (number + 1)) k other ∙ rest ∙ ap (λ later. if (k == key) then Some number else later) (sym (beside_later word link keys links k other))
    ]

-- ── A key put at the first empty place of its order ──

pub table_put : (keys : List ℕ) (key p turn : ℕ) → IsTable keys → turn < length keys → p ≡ place (length keys) key turn → Passes keys key turn → get_or keys p 0 ≡ 0 → IsTable (set keys p (key + 1))
table_put keys key p turn table below is passes empty other t within holds j before =
    let n : ℕ = length keys in
    let m : ℕ = length (set keys p (key + 1)) in
    let same : m ≡ n = length-set keys p (key + 1) in
    let here : p < n = subst (λ q. q < n) (sym is) (place_below n key turn (omega arith)) in
    let within_n : t < n = omega arith in
    let q_is : place m other t ≡ place n other t = ap (λ x. place x other t) same in
    let j_is : place m other j ≡ place n other j = ap (λ x. place x other j) same in
    let q : ℕ = place n other t in
    let at : ℕ = place n other j in
    let held : get_or (set keys p (key + 1)) q 0 ≡ other + 1 = ap (λ x. get_or (set keys p (key + 1)) x 0) (sym q_is) ∙ holds in
    let finish : HoldsOther (get_or (set keys p (key + 1)) at 0) other → HoldsOther (get_or (set keys p (key + 1)) (place m other j) 0) other =
    λ h. subst (λ x. HoldsOther (get_or (set keys p (key + 1)) x 0) other) (sym j_is) h in
    let kept : at ≢ p → HoldsOther (get_or keys at 0) other → HoldsOther (get_or (set keys p (key + 1)) at 0) other =
    λ away h. subst (λ w. HoldsOther w other) (sym (get_or-set_other keys p at (key + 1) 0 away)) h in
    elim (cases_eq q p) [
      | inl there ↦
          let new : get_or (set keys p (key + 1)) q 0 ≡ key + 1 = ap (λ x. get_or (set keys p (key + 1)) x 0) there ∙ get_or-set_same keys p (key + 1) 0 here in
          let own : key ≡ other = omega arith in
          let turns : t ≡ turn = place_once n key t turn within_n below (ap (λ k. place n k t) own ∙ there ∙ is) in
          let old : HoldsOther (get_or keys (place n key j) 0) key = passes j (omega arith) in
          let old_other : HoldsOther (get_or keys at 0) other = subst (λ k. HoldsOther (get_or keys (place n k j) 0) k) own old in
          let away : at ≢ p = λ e. let once : j ≡ turn = place_once n key j turn (omega arith) below (ap (λ k. place n k j) own ∙ e ∙ is) in absurd (omega arith) in
          finish (kept away old_other)
      | inr elsewhere ↦
          let was : get_or keys q 0 ≡ other + 1 = sym (get_or-set_other keys p q (key + 1) 0 elsewhere) ∙ held in
          let old : HoldsOther (get_or keys at 0) other = table other t within_n was j before in
          let away : at ≢ p = λ e. old.0 (ap (λ x. get_or keys x 0) e ∙ empty) in
          finish (kept away old)
    ]

pub beside_set : (keys links : List ℕ) (key number p : ℕ) → AreBeside keys links → p < length keys → number < 2 ^ 32 → AreBeside (set keys p (key + 1)) (set links p (number + 1))
beside_set keys links key number p are here small = record {
  many = omega (arith, length-set keys p (key + 1), length-set links p (number + 1), are.many);
  linked = λ q within holds. elim (cases_eq q p) [
    | inl same ↦
        let new : get_or (set links p (number + 1)) q 0 ≡ number + 1 = ap (λ x. get_or (set links p (number + 1)) x 0) same ∙ get_or-set_same links p (number + 1) 0 (omega (arith, are.many)) in
        (omega arith, omega arith)
    | inr other ↦
        let word : get_or (set keys p (key + 1)) q 0 ≡ get_or keys q 0 = get_or-set_other keys p q (key + 1) 0 other in
        let link : get_or (set links p (number + 1)) q 0 ≡ get_or links q 0 = get_or-set_other links p q (number + 1) 0 other in
        let old = are.linked q (omega (arith, length-set keys p (key + 1))) (λ e. holds (word ∙ e)) in
        (omega (arith, old.0), omega (arith, old.1))
  ];
  empty = λ q within none. elim (cases_eq q p) [
    | inl same ↦
        let new : get_or (set keys p (key + 1)) q 0 ≡ key + 1 = ap (λ x. get_or (set keys p (key + 1)) x 0) same ∙ get_or-set_same keys p (key + 1) 0 here in
        absurd (omega arith)
    | inr other ↦
        let word : get_or (set keys p (key + 1)) q 0 ≡ get_or keys q 0 = get_or-set_other keys p q (key + 1) 0 other in
        let link : get_or (set links p (number + 1)) q 0 ≡ get_or links q 0 = get_or-set_other links p q (number + 1) 0 other in
        link ∙ are.empty q (omega (arith, length-set keys p (key + 1))) (sym word ∙ none)
  ];
}

-- ── At the start ──

pub empty_table : (n : ℕ) → IsTable (replicate n 0)
empty_table n key turn within holds =
    let zeros : List ℕ = replicate n 0 in
    let long : length zeros ≡ n = length-replicate n 0 in
    let here : place (length zeros) key turn < n = omega (arith, place_below (length zeros) key turn (omega arith)) in
    let none : get_or zeros (place (length zeros) key turn) 0 ≡ 0 = get_or-replicate n (place (length zeros) key turn) 0 0 here in
    absurd (omega arith)

pub empty_beside : (n : ℕ) → AreBeside (replicate n 0) (replicate n 0)
empty_beside n =
    let zeros : List ℕ = replicate n 0 in
    let long : length zeros ≡ n = length-replicate {A = ℕ} n 0 in
    record {
      many = refl;
      linked = λ p within holds. absurd (holds (get_or-replicate n p 0 0 (let short : p < n = omega (arith, within, long) in short)));
      empty = λ p within none. get_or-replicate n p 0 0 (let short : p < n = omega (arith, within, long) in short);
    }
