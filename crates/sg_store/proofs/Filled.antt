-- Slots that are filled one after the other with numbers of a stock.
use Rattle.std.proofs.Common.{◌≡◌, ◌≢◌, ℕ, suc, ◌+◌, ◌<◌, ◌≤◌, true, List, [], ◌∷◌, ◌++◌, length, take, get_or, refl, sym, ap, ◌∙◌, subst, arith, inl, inr, ◌⊎◌}
use Rattle.std.specs.Prelude.{slice_index, slice_set}
use Rattle.std.specs.List.{Contains, AllPairs, All}
use Rattle.std.proofs.lemmas.Bool.{false≢true, cases_eq}
use Rattle.std.proofs.lemmas.List.{length-set, get_or-set_same, get_or-set_other, get_or_default, length-take-le, get_or-take, take_more}
use Rattle.std.proofs.lemmas.List.Elements.{Contains-push_cases, Contains-push, Contains-append_left, All-contains}
use Rattle.sg_pool.specs.Numbers.{place_count, is_live_number, live_count, IsFree, CanSettle}
use Rattle.sg_store.specs.declared.node.NodeWords.{NodeWords}
use Rattle.sg_store.specs.steps.Filling.{IsFill, IsUnlinkedStock, HasEnough}
use Rattle.sg_store.proofs.Walking.{index_contains}

-- before any slot
pub fill_none : (links : List ℕ) → IsFill links links [] []
fill_none links = record {
  as_many = refl;
  stays = λ slot some. refl;
  of_taken = λ slot number empty word. cc;
  all_taken = λ number has. absurd (omega (arith, has.1));
  once = λ x y number has left right. absurd (omega (arith, has.1));
  filled = λ slot has. absurd (omega (arith, has.1));
  of_slots = λ slot empty word. absurd (word empty);
}

-- a slot that isn't empty
pub fill_skip : (before after taken slots : List ℕ) (slot : ℕ) → IsFill before after taken slots → slice_index after slot ≢ 0 → IsFill before after taken (slots ++ slot ∷ [])
fill_skip before after taken slots slot is some = record {
  as_many = is.as_many;
  stays = is.stays;
  of_taken = is.of_taken;
  all_taken = is.all_taken;
  once = is.once;
  filled = λ q has. elim (Contains-push_cases slots slot q has) [
    | inl old ↦ is.filled q old
    | inr same ↦ subst (λ n. slice_index after n ≢ 0) same some
  ];
  of_slots = λ q empty word. Contains-append_left slots (slot ∷ []) q (is.of_slots q empty word);
}

word_of : (xs : List ℕ) (n : ℕ) → Contains xs (suc n) → (k : ℕ) × (k < length xs) × (slice_index xs k ≡ suc n)
word_of xs n has = (has.0, has.1, get_or_default xs has.0 0 (suc n) has.1 ∙ has.2)

-- an empty slot, with a number that no link has yet
pub fill_more : (before after taken slots : List ℕ) (slot number : ℕ) → IsFill before after taken slots → slice_index after slot ≡ 0 → slot < length before → (Contains taken number → ⊥) → (Contains before (suc number) → ⊥) → IsFill before (slice_set after slot (suc number)) (taken ++ number ∷ []) (slots ++ slot ∷ [])
fill_more before after taken slots slot number is empty within fresh unlinked =
    let now : List ℕ = slice_set after slot (suc number) in
    let here : slice_index now slot ≡ suc number = get_or-set_same after slot (suc number) 0 (omega (arith, within, is.as_many)) in
    let other : (q : ℕ) → q ≢ slot → slice_index now q ≡ slice_index after q = λ q apart. get_or-set_other after slot q (suc number) 0 apart in
    let was_empty : slice_index before slot ≡ 0 = elim (cases_eq (slice_index before slot) 0) [ inl e ↦ e | inr some ↦ absurd (some (sym (is.stays slot some) ∙ empty)) ] in
    let unused : (q : ℕ) → slice_index after q ≡ suc number → ⊥ = λ q word. elim (cases_eq (slice_index before q) 0) [
      | inl none ↦ fresh (is.of_taken q number none word)
      | inr some ↦ unlinked (index_contains before q number (sym (is.stays q some) ∙ word))
    ] in
    record {
      as_many = length-set after slot (suc number) ∙ is.as_many;
      stays = λ q some. elim (cases_eq q slot) [
        | inl same ↦ absurd (some (ap (slice_index before) same ∙ was_empty))
        | inr apart ↦ other q apart ∙ is.stays q some
      ];
      of_taken = λ q n none word. elim (cases_eq q slot) [
        | inl same ↦
            let e : suc number ≡ suc n = sym here ∙ ap (slice_index now) (sym same) ∙ word in
            let e2 : number ≡ n = omega (arith, e) in
            subst (λ m. Contains (taken ++ number ∷ []) m) e2 (Contains-push taken number)
        | inr apart ↦ Contains-append_left taken (number ∷ []) n (is.of_taken q n none (sym (other q apart) ∙ word))
      ];
      all_taken = λ n has. elim (Contains-push_cases taken number n has) [
        | inl old ↦
            let found = word_of after n (is.all_taken n old) in
            let apart : found.0 ≢ slot = λ same. cc (ap (slice_index after) same) in
            index_contains now found.0 n (other found.0 apart ∙ found.2)
        | inr same ↦ index_contains now slot n (here ∙ ap suc same)
      ];
      once = λ x y n has left right. elim (cases_eq x slot) [
        | inl xs ↦ elim (cases_eq y slot) [
          | inl ys ↦ xs ∙ sym ys
          | inr apart ↦
              let e : suc number ≡ suc n = sym here ∙ ap (slice_index now) (sym xs) ∙ left in
              absurd (unused y (sym (other y apart) ∙ right ∙ sym e))
        ]
        | inr apart ↦ elim (cases_eq y slot) [
          | inl ys ↦
              let e : suc number ≡ suc n = sym here ∙ ap (slice_index now) (sym ys) ∙ right in
              absurd (unused x (sym (other x apart) ∙ left ∙ sym e))
          | inr away ↦ elim (Contains-push_cases taken number n has) [
            | inl old ↦ is.once x y n old (sym (other x apart) ∙ left) (sym (other y away) ∙ right)
            | inr same ↦ absurd (unused x (sym (other x apart) ∙ left ∙ ap suc (sym same)))
          ]
        ]
      ];
      filled = λ q has. elim (cases_eq q slot) [
        | inl same ↦ λ none. cc (sym here ∙ ap (slice_index now) (sym same) ∙ none)
        | inr apart ↦ elim (Contains-push_cases slots slot q has) [
          | inl old ↦ λ none. is.filled q old (sym (other q apart) ∙ none)
          | inr same ↦ absurd (apart (sym same))
        ]
      ];
      of_slots = λ q none some. elim (cases_eq q slot) [
        | inl same ↦ subst (λ n. Contains (slots ++ slot ∷ []) n) (sym same) (Contains-push slots slot)
        | inr apart ↦ Contains-append_left slots (slot ∷ []) q (is.of_slots q none (λ e. some (other q apart ∙ e)))
      ];
    }

-- the next number of a stock is fresh
pub next_fresh : (stock : List ℕ) (taken number : ℕ) → AllPairs (λ x y. x ≢ y) stock → taken < length stock → number ≡ get_or stock taken number → Contains (take taken stock) number → ⊥
next_fresh stock taken number once below is has =
    let k : ℕ = has.0 in
    let before : k < taken = omega (arith, has.1, length-take-le taken stock (omega arith)) in
    once k taken number before below (sym (get_or-take taken stock k number before) ∙ has.2 ∙ is)

-- one slot more of a list, where it was empty: it has the next number of the stock
pub filled_more : (before after now stock slots : List ℕ) (taken i d e : ℕ) → IsUnlinkedStock before stock → taken < length stock → All (λ slot. slot < length before) slots → i < length slots → slice_index after (get_or slots i d) ≡ 0 → now ≡ slice_set after (get_or slots i d) (get_or stock taken e + 1) → IsFill before after (take taken stock) (take i slots) → IsFill before now (take (taken + 1) stock) (take (i + 1) slots)
filled_more before after now stock slots taken i d e fresh there within below empty is fill =
    let slot : ℕ = get_or slots i d in
    let number : ℕ = get_or stock taken e in
    let same : number ≡ get_or stock taken number = get_or_default stock taken e number there in
    let more = fill_more before after (take taken stock) (take i slots) slot number fill empty (within i d below)
    (next_fresh stock taken number fresh.once there same) (fresh.unlinked number (taken, there, sym same)) in
    let one : suc number ≡ number + 1 = omega arith in
    subst (λ l. IsFill before l (take (taken + 1) stock) (take (i + 1) slots)) (ap (slice_set after slot) one ∙ sym is)
    (subst (λ l. IsFill before (slice_set after slot (suc number)) l (take (i + 1) slots)) (sym (take_more stock taken e there))
    (subst (λ l. IsFill before (slice_set after slot (suc number)) (take taken stock ++ number ∷ []) l) (sym (take_more slots i d below)) more))

-- if it wasn't, nothing changes
pub filled_same : (before after now taken slots : List ℕ) (i d : ℕ) → i < length slots → slice_index after (get_or slots i d) ≢ 0 → now ≡ after → IsFill before after taken (take i slots) → IsFill before now taken (take (i + 1) slots)
filled_same before after now taken slots i d below some is fill =
    subst (λ l. IsFill before l taken (take (i + 1) slots)) (sym is)
    (subst (λ l. IsFill before after taken l) (sym (take_more slots i d below)) (fill_skip before after taken (take i slots) (get_or slots i d) fill some))

-- there is a number for the next slot, if those before it have taken no more than the room
pub number_there : (stock slots : List ℕ) (room taken i : ℕ) → HasEnough stock room slots → i < length slots → taken ≤ i → taken ≤ room → taken < length stock
number_there stock slots room taken i (inl all) below low few = omega (arith, all, below, low)
number_there stock slots room taken i (inr past) below low few = omega (arith, past, few)

-- as many numbers as slots, or all, are enough
pub enough_of : (kept : NodeWords) (stock slots same : List ℕ) (cap room : ℕ) → (length slots ≤ length stock) ⊎ (length stock + live_count kept.pool ≡ place_count kept.pool) → place_count kept.pool ≡ cap + 17 → room + live_count kept.pool ≡ cap → same ≡ stock → HasEnough same room slots
enough_of kept stock slots same cap room (inl all) places spare is = inl (omega (arith, all, ap length is))
enough_of kept stock slots same cap room (inr rest) places spare is = inr (omega (arith, rest, places, spare, ap length is))

-- no link of a node has a number that can be made live
pub stock_fresh : (kept : NodeWords) (stock links same : List ℕ) → CanSettle kept.pool stock → ((number : ℕ) → Contains kept.links (suc number) → is_live_number kept.pool number ≡ true) → links ≡ kept.links → same ≡ stock → IsUnlinkedStock links same
stock_fresh kept stock links same is linked links_are stock_is =
    subst (λ l. IsUnlinkedStock links l) (sym stock_is) (record {
      once = is.once;
      unlinked = λ number has link.
          let free : IsFree kept.pool number = All-contains (IsFree kept.pool) stock number is.free has in
          false≢true (sym free.not_live ∙ linked number (subst (λ l. Contains l (suc number)) links_are link));
    })
