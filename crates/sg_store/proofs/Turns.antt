-- A chain that is turned once round.
use Rattle.std.proofs.Common.{◌≡◌, ◌≢◌, ℕ, zero, suc, ◌+◌, ◌<◌, ◌≤◌, Bool, true, false, not, ◌&&◌, ◌==◌, nat_lt, cond, List, [], ◌∷◌, ◌++◌, length, get_or, take, drop, Some, refl, sym, ap, ◌∙◌, subst, arith, inl, inr, append_assoc}
use Rattle.std.specs.Prelude.{IsTrue, slice_get}
use Rattle.std.proofs.lemmas.Bool.{cases_Bool, cases_eq, cases_lt}
use Rattle.std.proofs.lemmas.Bool.Decides.{eqb_tells, leb_tells}
use Rattle.std.proofs.lemmas.List.{length-set, length-take, length-append, get_or-set_same, get_or-set_other, set-set, set-get_or, take_more, drop_more, take_all, drop_all, take-append-le, append-nil}
use Rattle.std.proofs.lemmas.Option.{none-some, same_Some}
use Rattle.sg_links.specs.Lists.{Lists, list_of, with_list, times, times_in_lists, AreDisjoint}
use Rattle.sg_links.proofs.Uses.{times-cons, times-append, times_same, times_other, times_in_set, times_at, stands, one_if}
use Rattle.sg_pool.specs.Numbers.{PoolNumbers, is_live_number, IsGivenBack}
use Rattle.sg_dynamic.specs.Chunks.{chunks_of, IsExact}
use Rattle.sg_store.specs.steps.Cuts.{CutSoFar}

pub list_there : (l : Lists) (head : ℕ) (xs : List ℕ) → head < length l.lists → list_of (with_list l head xs) head ≡ xs
list_there l head xs there = get_or-set_same l.lists head xs [] there

pub with_same : (l : Lists) (head : ℕ) → with_list l head (list_of l head) ≡ l
with_same l head = ap (λ (lists : List (List ℕ)). (let it : Lists = record { numbers = l.numbers; lists = lists } in it)) (set-get_or l.lists head [])

pub with_twice : (l : Lists) (head : ℕ) (xs ys : List ℕ) → with_list (with_list l head xs) head ys ≡ with_list l head ys
with_twice l head xs ys = ap (λ (lists : List (List ℕ)). (let it : Lists = record { numbers = l.numbers; lists = lists } in it)) (set-set l.lists head xs ys)

pub many_there : (l now : Lists) (head : ℕ) (xs : List ℕ) → head < length l.lists → now ≡ with_list l head xs → head < length now.lists
many_there l now head xs there is = omega (arith, there, ap (λ (j : Lists). length j.lists) is, length-set l.lists head xs)

front_of : (xs : List ℕ) (x : ℕ) → slice_get xs 0 ≡ Some x → xs ≡ x ∷ drop 1 xs
front_of [] x is = absurd (none-some x is)
front_of (y ∷ ys) x is = ap (λ z. z ∷ ys) (same_Some y x is)

-- ── One number ──

-- what is taken out at the front is live, is a number, and is in no list then
pub front_is_live : (l : Lists) (pool : PoolNumbers) (head x : ℕ) → head < length l.lists → IsExact l pool → slice_get (list_of l head) 0 ≡ Some x → IsTrue (is_live_number pool x)
front_is_live l pool head x there exact at = elim (cases_Bool (is_live_number pool x)) [
  | inl live ↦ live
  | inr dead ↦
      let here : 0 < times x (list_of l head) = stands (list_of l head) 0 x at in
      absurd (omega (arith, here, times_at x l.lists head there, exact.live x, ap one_if dead))
]

pub front_below : (l : Lists) (head x : ℕ) → AreDisjoint l → head < length l.lists → slice_get (list_of l head) 0 ≡ Some x → x < l.numbers
front_below l head x disjoint there at = disjoint.below x (omega (arith, stands (list_of l head) 0 x at, times_at x l.lists head there))

pub front_out : (l : Lists) (head x : ℕ) → AreDisjoint l → head < length l.lists → slice_get (list_of l head) 0 ≡ Some x → times_in_lists x (with_list l head (drop 1 (list_of l head))).lists ≡ 0
front_out l head x disjoint there at =
    let rest : List ℕ = drop 1 (list_of l head) in
    let count = times_in_set x l.lists head rest there in
    let list : times x (list_of l head) ≡ 1 + times x rest = ap (times x) (front_of (list_of l head) x at) ∙ times_same x rest in
    let once : times_in_lists x l.lists ≤ 1 = disjoint.once x in
    omega (arith, count, list, once)

-- ── One turn ──

pub turned_back : (l now new : Lists) (head x : ℕ) (keep : Bool) → keep ≡ true → head < length l.lists → slice_get (list_of l head) 0 ≡ Some x → now ≡ with_list l head (drop 1 (list_of l head)) → new ≡ with_list now head (list_of now head ++ x ∷ [])
    → (number : ℕ) (rest : List ℕ) → list_of l head ≡ number ∷ rest → new ≡ with_list l head (rest ++ cond keep (number ∷ []) [])
turned_back l now new head x keep on there at popped pushed number rest is =
    let same : number ≡ x = same_Some number x (sym (ap (λ xs. slice_get xs 0) is) ∙ at) in
    let rest_is : drop 1 (list_of l head) ≡ rest = ap (drop 1) is in
    let put : cond keep (number ∷ []) [] ≡ x ∷ [] = ap (λ b. cond b (number ∷ []) []) on ∙ ap (λ y. y ∷ []) same in
    let list : list_of now head ≡ rest = ap (λ (k : Lists). list_of k head) popped ∙ list_there l head (drop 1 (list_of l head)) there ∙ rest_is in
    pushed ∙ ap (λ xs. with_list now head (xs ++ x ∷ [])) list ∙ ap (λ (k : Lists). with_list k head (rest ++ x ∷ [])) popped
    ∙ with_twice l head (drop 1 (list_of l head)) (rest ++ x ∷ []) ∙ ap (λ ys. with_list l head (rest ++ ys)) (sym put)

pub turned_out : (l now : Lists) (head : ℕ) (keep : Bool) → keep ≡ false → now ≡ with_list l head (drop 1 (list_of l head))
    → (number : ℕ) (rest : List ℕ) → list_of l head ≡ number ∷ rest → now ≡ with_list l head (rest ++ cond keep (number ∷ []) [])
turned_out l now head keep off popped number rest is =
    let rest_is : drop 1 (list_of l head) ≡ rest = ap (drop 1) is in
    let none : cond keep (number ∷ []) [] ≡ [] = ap (λ b. cond b (number ∷ []) []) off in
    popped ∙ ap (λ xs. with_list l head xs) (rest_is ∙ sym (append-nil rest)) ∙ ap (λ ys. with_list l head (rest ++ ys)) (sym none)

-- the numbers in chains stay, or the one that is out is live no longer
pub exact_back : (l now new : Lists) (pool : PoolNumbers) (head x : ℕ) → head < length l.lists → IsExact l pool → slice_get (list_of l head) 0 ≡ Some x → now ≡ with_list l head (drop 1 (list_of l head)) → new ≡ with_list now head (list_of now head ++ x ∷ []) → IsExact new pool
exact_back l now new pool head x there exact at popped pushed =
    let rest : List ℕ = drop 1 (list_of l head) in
    let new_is : new ≡ with_list l head (rest ++ cond true (x ∷ []) []) = turned_back l now new head x true refl there at popped pushed x rest (front_of (list_of l head) x at) in
    record {
      places = ap (λ (j : Lists). j.numbers) new_is ∙ exact.places;
      live = λ y.
          let count = times_in_set y l.lists head (rest ++ x ∷ []) there in
          let list : times y (list_of l head) ≡ times y (x ∷ rest) = ap (times y) (front_of (list_of l head) x at) in
          let same : times_in_lists y (with_list l head (rest ++ x ∷ [])).lists ≡ times_in_lists y l.lists = omega (arith, count, list, times-cons y x rest, times-append y rest (x ∷ []), times-cons y x []) in
          ap (λ (j : Lists). times_in_lists y j.lists) new_is ∙ same ∙ exact.live y;
    }

pub exact_out : (l now : Lists) (old new : PoolNumbers) (head x : ℕ) → head < length l.lists → IsExact l old → slice_get (list_of l head) 0 ≡ Some x → now ≡ with_list l head (drop 1 (list_of l head)) → IsGivenBack old new x → IsExact now new
exact_out l now old new head x there exact at popped given =
    let rest : List ℕ = drop 1 (list_of l head) in
    record {
      places = ap (λ (j : Lists). j.numbers) popped ∙ exact.places ∙ sym given.places;
      live = λ y.
          let count = times_in_set y l.lists head rest there in
          let list : times y (list_of l head) ≡ times y (x ∷ rest) = ap (times y) (front_of (list_of l head) x at) in
          let now_is : times_in_lists y now.lists ≡ times_in_lists y (with_list l head rest).lists = ap (λ (j : Lists). times_in_lists y j.lists) popped in
          elim (eqb_tells y x) [
            | inl yes_is ↦
                let was : is_live_number old y ≡ true = subst (λ z. is_live_number old z ≡ true) (sym yes_is.1) (front_is_live l old head x there exact at) in
                let gone : is_live_number new y ≡ false = given.live y ∙ ap (λ b. b && not (y == x)) was ∙ ap not yes_is.0 in
                let one : times y (x ∷ rest) ≡ 1 + times y rest = subst (λ z. times y (z ∷ rest) ≡ 1 + times y rest) yes_is.1 (times_same y rest) in
                omega (arith, count, list, now_is, one, exact.live y, ap one_if was, ap one_if gone)
            | inr no_is ↦
                let same : is_live_number new y ≡ is_live_number old y = given.live y ∙ ap (λ b. is_live_number old y && not b) no_is.0 ∙ and_true (is_live_number old y) in
                omega (arith, count, list, now_is, times_other y x rest (λ e. no_is.1 (sym e)), exact.live y, ap one_if same)
          ];
    }
  where
    and_true : (a : Bool) → (a && true) ≡ a
    and_true true = refl
    and_true false = refl

-- ── All turns ──

abbrev pub cut_to : Lists → ℕ → ℕ → ℕ → Lists
cut_to l head wanted i = with_list l head (drop i (list_of l head) ++ take wanted (take i (list_of l head)))

pub cut_begins : (l : Lists) (head wanted : ℕ) → l ≡ cut_to l head wanted 0
cut_begins l head wanted = sym (ap (λ xs. with_list l head (list_of l head ++ xs)) (none wanted (list_of l head)) ∙ ap (λ xs. with_list l head xs) (append-nil (list_of l head)) ∙ with_same l head)
  where
    none : (n : ℕ) (xs : List ℕ) → take n (take 0 xs) ≡ []
    none zero xs = refl
    none (suc n) xs = refl

-- a front of one number more
front_more : (wanted i x : ℕ) (front : List ℕ) → length front ≡ i → take wanted (front ++ x ∷ []) ≡ take wanted front ++ cond (nat_lt i wanted) (x ∷ []) []
front_more wanted i x front long = elim (leb_tells (suc i) wanted) [
  | inl yes_is ↦
      take_all wanted (front ++ x ∷ []) (omega (arith, long, yes_is.1, length-append front (x ∷ [])))
      ∙ ap (λ xs. xs ++ x ∷ []) (sym (take_all wanted front (omega (arith, long, yes_is.1))))
      ∙ ap (λ b. take wanted front ++ cond b (x ∷ []) []) (sym yes_is.0)
  | inr no_is ↦
      take-append-le wanted front (x ∷ []) (omega (arith, long, no_is.1)) ∙ sym (append-nil (take wanted front))
      ∙ ap (λ b. take wanted front ++ cond b (x ∷ []) []) (sym no_is.0)
]

pub cut_further : (l now new : Lists) (head wanted i : ℕ) (keep : Bool) → head < length l.lists → i < length (list_of l head) → keep ≡ nat_lt i wanted → now ≡ cut_to l head wanted i
    → ((number : ℕ) (rest : List ℕ) → list_of now head ≡ number ∷ rest → new ≡ with_list now head (rest ++ cond keep (number ∷ []) [])) → new ≡ cut_to l head wanted (i + 1)
cut_further l now new head wanted i keep there below kept is turned =
    let list : List ℕ = list_of l head in
    let x : ℕ = get_or list i 0 in
    let before : List ℕ = take wanted (take i list) in
    let later : List ℕ = drop (i + 1) list in
    let put : List ℕ = cond keep (x ∷ []) [] in
    let split : drop i list ≡ x ∷ later = drop_more list i 0 below in
    let list_is : list_of now head ≡ x ∷ (later ++ before) = ap (λ (k : Lists). list_of k head) is ∙ list_there l head (drop i list ++ before) there ∙ ap (λ xs. xs ++ before) split in
    let long : length (take i list) ≡ i = omega (arith, length-take i list) in
    let more : take wanted (take (i + 1) list) ≡ before ++ put =
    ap (take wanted) (take_more list i 0 below) ∙ front_more wanted i x (take i list) long ∙ ap (λ b. before ++ cond b (x ∷ []) []) (sym kept) in
    let joined : (later ++ before) ++ put ≡ later ++ take wanted (take (i + 1) list) = append_assoc later before put ∙ ap (λ xs. later ++ xs) (sym more) in
    turned x (later ++ before) list_is ∙ ap (λ (k : Lists). with_list k head ((later ++ before) ++ put)) is
    ∙ with_twice l head (drop i list ++ before) ((later ++ before) ++ put) ∙ ap (λ xs. with_list l head xs) joined

pub cut_ends : (l now : Lists) (head wanted i : ℕ) → length (list_of l head) ≤ i → now ≡ cut_to l head wanted i → now ≡ with_list l head (take wanted (list_of l head))
cut_ends l now head wanted i end is =
    let list : List ℕ = list_of l head in
    is ∙ ap (λ xs. with_list l head (xs ++ take wanted (take i list))) (drop_all i list end) ∙ ap (λ xs. with_list l head (take wanted xs)) (take_all i list end)

-- ── All chains ──

pub cut_none : (l : Lists) (lengths : List ℕ) (chunk : ℕ) → CutSoFar l l lengths chunk 0
cut_none l lengths chunk = record { numbers = refl; many = refl; cut = λ i below. absurd (omega arith); later = λ i above. refl }

pub cut_more : (old now new : Lists) (lengths : List ℕ) (chunk done wanted : ℕ) → CutSoFar old now lengths chunk done → done < length old.lists → wanted ≡ chunks_of chunk (get_or lengths done 0) → new ≡ with_list now done (take wanted (list_of now done)) → CutSoFar old new lengths chunk (done + 1)
cut_more old now new lengths chunk done wanted so_far below wants is =
    let there : done < length now.lists = omega (arith, so_far.many) in
    let here : list_of new done ≡ take wanted (list_of now done) = ap (λ (l : Lists). list_of l done) is ∙ list_there now done (take wanted (list_of now done)) there in
    let others : (i : ℕ) → i ≢ done → list_of new i ≡ list_of now i = λ i other.
    ap (λ (l : Lists). list_of l i) is ∙ get_or-set_other now.lists done i (take wanted (list_of now done)) [] other in
    record {
      numbers = ap (λ (l : Lists). l.numbers) is ∙ so_far.numbers;
      many = ap (λ (l : Lists). length l.lists) is ∙ length-set now.lists done (take wanted (list_of now done)) ∙ so_far.many;
      cut = λ i before. elim (cases_eq i done) [
        | inl same ↦
            ap (list_of new) same ∙ here ∙ ap (λ xs. take wanted xs) (so_far.later done (omega arith)) ∙ ap (λ n. take n (list_of old done)) wants
            ∙ ap (λ j. take (chunks_of chunk (get_or lengths j 0)) (list_of old j)) (sym same)
        | inr other ↦ others i other ∙ so_far.cut i (omega arith)
      ];
      later = λ i above. others i (λ e. omega arith) ∙ so_far.later i (omega arith);
    }

none_taken : (n : ℕ) → take {A = ℕ} n [] ≡ []
none_taken zero = refl
none_taken (suc n) = refl

-- chains that were empty have nothing to cut
pub cut_end : (old new : Lists) (lengths : List ℕ) (chunk done all : ℕ) → CutSoFar old new lengths chunk done → ((head : ℕ) → done ≤ head → list_of old head ≡ []) → done ≤ all → CutSoFar old new lengths chunk all
cut_end old new lengths chunk done all so_far empty few = record {
  numbers = so_far.numbers;
  many = so_far.many;
  cut = λ i below. elim (cases_lt i done) [
    | inl before ↦ so_far.cut i before
    | inr past ↦
        let wanted : ℕ = chunks_of chunk (get_or lengths i 0) in
        so_far.later i past ∙ empty i past ∙ sym (none_taken wanted) ∙ ap (λ (xs : List ℕ). take wanted xs) (sym (empty i past))
  ];
  later = λ i above. so_far.later i (omega (arith, few, above));
}
