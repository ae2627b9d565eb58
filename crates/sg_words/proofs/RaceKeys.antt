-- KeysArePut, bits, lengths, cells and what hangs in a container, where an event changes them.
use Rattle.std.proofs.Common.{◌≡◌, ℕ, zero, suc, ◌+◌, ◌*◌, ◌/◌, ◌%◌, ◌^◌, ◌<◌, ◌≤◌, ◌≢◌, inl, inr, min, max, Bool, true, false, cond, ◌==◌, List, [], ◌∷◌, ◌++◌, length, set, refl, sym, ap, ◌∙◌, subst, arith}
use Rattle.std.specs.Prelude.{slice_index}
use Rattle.std.specs.Int.{bit_at}
use Rattle.std.proofs.lemmas.List.{length-set, get_or-set_same, get_or-set_other, set_comm}
use Rattle.std.proofs.lemmas.Bool.Decides.{nat_tests}
use Rattle.std.proofs.lemmas.Nat.Bits.{bit_at_or, bit_at-pow_same, bit_at-pow_other, bit_at-lt}
use mathlib.Core.Option.{some, some-injective, some-ne-none}
use mathlib.Core.Logic.{dite}
use native.Mathlib.Decide.{ℕ_discrete, dec_le}
use lib.ListN.{get_elem?}
use Rattle.sg_words.specs.declared.race.Worker.{Worker}
use Rattle.sg_words.specs.Counts.{one, total, greatest, bit_in}
use Rattle.sg_words.specs.RaceMachine.{Setting, home, place_in_order, KnowsContainer, MayPut, after_mark, after_raise, after_add, after_key_put, mark_word}
use Rattle.sg_words.specs.RaceInvariant.{has_seen, has_key, SeenIsThere, SeenKeysAreThere, has_put, KeysArePut, Probed, has_marked, BitsAreMarked, raised_to, LengthsAreRaised, with_one, fold_in, fold_all, CellsAreFolded, IsReachedContainer, Hanging}
use Rattle.sg_words.proofs.RaceTotals.{total-more, total-snoc, le-total, first_cases, greatest-more, greatest-append, set_other_at}
use Rattle.sg_words.proofs.RaceLinks.{written, full-stays}

-- ---- keys
-- two places of one order below its length are one place where their numbers are
turn_apart : (n k i j : ℕ) → i < j → j < n → (k + i) % n ≡ (k + j) % n → ⊥
turn_apart n k i j lt below e =
    let a : n * ((k + i) / n) + (k + i) % n ≡ k + i = omega arith in
    let b : n * ((k + j) / n) + (k + j) % n ≡ k + j = omega arith in
    apart n ((k + i) / n) ((k + j) / n) (k + i) (k + j) ((k + i) % n) a (ap (λ r. n * ((k + j) / n) + r) e ∙ b) (omega arith) (omega arith)
  where
    apart : (n p q x y r : ℕ) → n * p + r ≡ x → n * q + r ≡ y → x < y → y < x + n → ⊥
    apart n p q x y r a b lt near = dite (dec_le q p)
        (λ le. let m = mul-le n q p le in omega arith)
        (λ gt. let m = mul-le n (suc p) q (omega arith) in let s : n * suc p ≡ n * p + n = mul-suc' n p in omega arith)
      where
        mul-le : (n p q : ℕ) → p ≤ q → n * p ≤ n * q
        mul-le n p q h = grind arith

        mul-suc' : (n p : ℕ) → n * suc p ≡ n * p + n
        mul-suc' n p = grind arith

pub one_place : (n k i j : ℕ) → i < n → j < n → place_in_order n k i ≡ place_in_order n k j → i ≡ j
one_place n k i j a b e = dite (ℕ_discrete i j) (λ h. h) (λ ne. dite (dec_le i j)
    (λ le. absurd (turn_apart n (home n k) i j (omega arith) b e))
    (λ gt. absurd (turn_apart n (home n k) j i (omega arith) a (sym e))))

-- a key is put in a place before which others stand
pub probed-put : (keys : List ℕ) (ws : List Worker) (id p k : ℕ) (v : Worker) → get_elem? ws id ≡ some v → slice_index keys p ≡ 0 → MayPut (length keys) p k v
    → SeenKeysAreThere keys ws → Probed keys → p < length keys → Probed (set keys p (k + 1))
probed-put keys ws id p k v at empty may seen probed below = λ m j i under is lt.
    let n = length keys in
    let long : length (set keys p (k + 1)) ≡ n = length-set keys p (k + 1) in
    let under' : j < n = omega arith in
    let is' : slice_index (set keys p (k + 1)) (place_in_order n m j) ≡ m + 1 = subst (λ n. slice_index (set keys p (k + 1)) (place_in_order n m j) ≡ m + 1) long is in
    subst (λ n. (slice_index (set keys p (k + 1)) (place_in_order n m i) ≢ 0) × (slice_index (set keys p (k + 1)) (place_in_order n m i) ≢ m + 1)) (sym long)
    (goal m j i under' is' lt)
  where
    goal : (m j i : ℕ) → j < length keys → slice_index (set keys p (k + 1)) (place_in_order (length keys) m j) ≡ m + 1 → i < j
        → (slice_index (set keys p (k + 1)) (place_in_order (length keys) m i) ≢ 0) × (slice_index (set keys p (k + 1)) (place_in_order (length keys) m i) ≢ m + 1)
    goal m j i under is lt =
        let n = length keys in
        let keep : (slice_index keys (place_in_order n m i) ≢ 0) × (slice_index keys (place_in_order n m i) ≢ m + 1)
        → (slice_index (set keys p (k + 1)) (place_in_order n m i) ≢ 0) × (slice_index (set keys p (k + 1)) (place_in_order n m i) ≢ m + 1) =
        λ old. written keys p (place_in_order n m i) (k + 1) (λ w. (w ≢ 0) × (w ≢ m + 1)) below
        (λ e. absurd (old.0 (ap (λ q. slice_index keys q) (sym e) ∙ empty))) (λ _. old) in
        dite (ℕ_discrete p (place_in_order n m j))
        (λ e.
        let word : k + 1 ≡ m + 1 = sym (get_or-set_same keys p (k + 1) 0 below) ∙ subst (λ q. slice_index (set keys p (k + 1)) q ≡ m + 1) (sym e) is in
        let same : k ≡ m = omega arith in
        let place : place_in_order n k may.0 ≡ place_in_order n k j = sym may.2 ∙ e ∙ ap (λ x. place_in_order n x j) (sym same) in
        let turn : may.0 ≡ j = one_place n k may.0 j may.1 under place in
        let lt' : i < may.0 = omega arith in
        let other = may.3 i lt' in
        let found : slice_index keys (place_in_order n k i) ≡ other.0 + 1 = seen (place_in_order n k i) other.0 (let le = le-total (has_key (place_in_order n k i) other.0) ws id v at in let h = other.2 in omega arith) in
        let found' : slice_index keys (place_in_order n m i) ≡ other.0 + 1 = subst (λ x. slice_index keys (place_in_order n x i) ≡ other.0 + 1) same found in
        let ne = other.1 in
        keep ((λ z. omega arith), (λ z. ne (omega arith))))
        (λ ne. keep (probed m j i under (sym (get_or-set_other keys p (place_in_order n m j) (k + 1) 0 (λ h. ne (sym h))) ∙ is) lt))

pub keys-put : (g : Setting) (keys : List ℕ) (ws : List Worker) (id p k : ℕ) (v : Worker) → get_elem? ws id ≡ some v → slice_index keys p ≡ 0 → MayPut (length keys) p k v
    → SeenKeysAreThere keys ws → p < length keys → KeysArePut g keys ws → KeysArePut g (set keys p (k + 1)) (set ws id (after_key_put p k v))
keys-put g keys ws id p k v at empty may seen below old =
    let w = after_key_put p k v in
    record {
      probed = probed-put keys ws id p k v at empty may seen old.probed below;
      put = λ q m start is.
          (let more = total-more (has_put m) ws id v w (one (k == m)) at (total-snoc (λ x. one (x == m)) v.put k) in
          written keys p q (k + 1) (λ x. x ≡ m + 1 → 0 < total (has_put m) (set ws id w)) below
          (λ _ e. first_cases (λ x. total (has_put m) (set ws id w) ≡ total (has_put m) ws + x → 0 < total (has_put m) (set ws id w)) k m (λ _ h. omega arith) (λ ne _. absurd (ne (omega arith))) more)
          (λ _ e. let h = old.put q m start e in omega arith) is);
    }

-- ---- bits
pub bit-mark : (masks : List ℕ) (b c : ℕ) → b / 64 < length masks
    → bit_in (set masks (b / 64) (mark_word b (slice_index masks (b / 64)))) c ≡ min 1 (bit_in masks c + one (b == c))
bit-mark masks b c below =
    let word = slice_index masks (b / 64) in
    let small : bit_in masks c < 2 = bit_at-lt (slice_index masks (c / 64)) (c % 64) in
    written masks (b / 64) (c / 64) (mark_word b word) (λ w. bit_at w (c % 64) ≡ min 1 (bit_in masks c + one (b == c))) below
    (λ e.
    let split = bit_at_or word (2 ^ (b % 64)) (c % 64) in
    let old : bit_at word (c % 64) ≡ bit_in masks c = ap (λ q. bit_at (slice_index masks q) (c % 64)) e in
    dite (ℕ_discrete (b % 64) (c % 64))
    (λ e'.
    let set' : bit_at (2 ^ (b % 64)) (c % 64) ≡ 1 = subst (λ i. bit_at (2 ^ (b % 64)) i ≡ 1) e' (bit_at-pow_same (b % 64)) in
    let same : b ≡ c = omega arith in
    first_cases (λ x. bit_at (mark_word b word) (c % 64) ≡ min 1 (bit_in masks c + x)) b c (λ _. omega arith) (λ ne. absurd (ne same)))
    (λ ne'.
    let clear : bit_at (2 ^ (b % 64)) (c % 64) ≡ 0 = bit_at-pow_other (b % 64) (c % 64) (λ h. ne' (sym h)) in
    first_cases (λ x. bit_at (mark_word b word) (c % 64) ≡ min 1 (bit_in masks c + x)) b c (λ h. absurd (ne' (ap (λ q. q % 64) h))) (λ _. omega arith)))
    (λ ne. first_cases (λ x. bit_in masks c ≡ min 1 (bit_in masks c + x)) b c (λ h. absurd (ne (ap (λ q. q / 64) h))) (λ _. omega arith))

pub bits-mark : (g : Setting) (masks : List ℕ) (ws : List Worker) (id b : ℕ) (v : Worker) → get_elem? ws id ≡ some v → b / 64 < length masks
    → BitsAreMarked g masks ws → BitsAreMarked g (set masks (b / 64) (mark_word b (slice_index masks (b / 64)))) (set ws id (after_mark b v))
bits-mark g masks ws id b v at below k =
    let word = mark_word b (slice_index masks (b / 64)) in (
      length-set masks (b / 64) word ∙ k.0,
      λ c. let more = total-more (has_marked c) ws id v (after_mark b v) (one (b == c)) at (total-snoc (λ x. one (x == c)) v.marked b) in
          let old = k.1 c in let bit = bit-mark masks b c below in omega arith,
    )

-- ---- lengths
pub lengths-raise : (g : Setting) (lengths : List ℕ) (ws : List Worker) (id q i : ℕ) (v : Worker) → get_elem? ws id ≡ some v → q < length lengths
    → LengthsAreRaised g lengths ws → LengthsAreRaised g (set lengths q (max (slice_index lengths q) (i + 1))) (set ws id (after_raise q i v))
lengths-raise g lengths ws id q i v at below k =
    let w = after_raise q i v in
    let n = max (slice_index lengths q) (i + 1) in (
      length-set lengths q n ∙ k.0,
      λ r. let up = greatest-append (λ (x : ℕ × ℕ). cond (x.0 == r) (x.1 + 1) 0) v.raised ((q, i) ∷ []) in
          let more = greatest-more (raised_to r) ws id v w (max (cond (q == r) (i + 1) 0) 0) at up in
          let old = k.1 r in
          written lengths q r n (λ x. x ≡ max (slice_index g.lengths r) (greatest (raised_to r) (set ws id w))) below
          (λ e. let test : cond (q == r) (i + 1) 0 ≡ i + 1 = grind (arith, nat_tests) in
          let here : slice_index lengths q ≡ slice_index lengths r = ap (λ q. slice_index lengths q) e in omega arith)
          (λ ne. let test : cond (q == r) (i + 1) 0 ≡ 0 = grind (arith, nat_tests) in omega arith),
    )

-- ---- cells
module _ (into : ℕ → ℕ → ℕ) (exchanged : (a x y : ℕ) → into (into a x) y ≡ into (into a y) x) (c : ℕ) where
  one_exchanged : (a : ℕ) (x y : ℕ × ℕ) → with_one into c (with_one into c a x) y ≡ with_one into c (with_one into c a y) x
  one_exchanged a x y = go (x.0 == c) (y.0 == c)
    where
      go : (p q : Bool) → cond q (into (cond p (into a x.1) a) y.1) (cond p (into a x.1) a) ≡ cond p (into (cond q (into a y.1) a) x.1) (cond q (into a y.1) a)
      go true true = exchanged a x.1 y.1
      go true false = refl
      go false true = refl
      go false false = refl

  fold-one : (a : ℕ) (y : ℕ × ℕ) (xs : List (ℕ × ℕ)) → fold_in into c (with_one into c a y) xs ≡ with_one into c (fold_in into c a xs) y
  fold-one a y [] = refl
  fold-one a y (x ∷ xs) = ap (λ b. fold_in into c b xs) (one_exchanged a y x) ∙ fold-one (with_one into c a x) y xs

  fold-append : (a : ℕ) (xs ys : List (ℕ × ℕ)) → fold_in into c a (xs ++ ys) ≡ fold_in into c (fold_in into c a xs) ys
  fold-append a [] ys = refl
  fold-append a (x ∷ xs) ys = fold-append (with_one into c a x) xs ys

  fold-fold : (a : ℕ) (xs ys : List (ℕ × ℕ)) → fold_in into c (fold_in into c a xs) ys ≡ fold_in into c (fold_in into c a ys) xs
  fold-fold a xs [] = refl
  fold-fold a xs (y ∷ ys) = ap (λ b. fold_in into c b ys) (sym (fold-one a y xs)) ∙ fold-fold (with_one into c a y) xs ys

  all-fold : (ws : List Worker) (a : ℕ) (ys : List (ℕ × ℕ)) → fold_all into c (fold_in into c a ys) ws ≡ fold_in into c (fold_all into c a ws) ys
  all-fold [] a ys = refl
  all-fold (v ∷ vs) a ys = ap (λ b. fold_all into c b vs) (fold-fold a ys v.given) ∙ all-fold vs (fold_in into c a v.given) ys

  -- what one worker gave more goes into the whole
  pub all-more : (ws : List Worker) (id : ℕ) (v w : Worker) (ys : List (ℕ × ℕ)) (a : ℕ) → get_elem? ws id ≡ some v → w.given ≡ v.given ++ ys
      → fold_all into c a (set ws id w) ≡ fold_in into c (fold_all into c a ws) ys
  all-more [] id v w ys a at e = absurd (some-ne-none v (sym at))
  all-more (x ∷ xs) zero v w ys a at e =
      let is : w.given ≡ x.given ++ ys = e ∙ ap (λ (u : Worker). u.given ++ ys) (sym (some-injective x v at)) in
      ap (λ l. fold_all into c (fold_in into c a l) xs) is ∙ ap (λ b. fold_all into c b xs) (fold-append a x.given ys) ∙ all-fold xs (fold_in into c a x.given) ys
  all-more (x ∷ xs) (suc id) v w ys a at e = all-more xs id v w ys (fold_in into c a x.given) at e

  -- a worker that is taken out
  pub all-out : (ws : List Worker) (id : ℕ) (v w : Worker) (a : ℕ) → get_elem? ws id ≡ some v → w.given ≡ [] → fold_in into c (fold_all into c a (set ws id w)) v.given ≡ fold_all into c a ws
  all-out [] id v w a at e = absurd (some-ne-none v (sym at))
  all-out (x ∷ xs) zero v w a at e =
      ap (λ l. fold_in into c (fold_all into c (fold_in into c a l) xs) v.given) e ∙ sym (all-fold xs a v.given) ∙ ap (λ (u : Worker). fold_all into c (fold_in into c a u.given) xs) (sym (some-injective x v at))
  all-out (x ∷ xs) (suc id) v w a at e = all-out xs id v w (fold_in into c a x.given) at e

  pub all-join : (ws : List Worker) (i j : ℕ) (v w both none : Worker) (a : ℕ) → j ≢ i → get_elem? ws i ≡ some v → get_elem? ws j ≡ some w
      → both.given ≡ v.given ++ w.given → none.given ≡ [] → fold_all into c a (set (set ws i both) j none) ≡ fold_all into c a ws
  all-join ws i j v w both none a n at at' e e' =
      ap (fold_all into c a) (set_comm ws i j both none (λ h. n (sym h)))
      ∙ all-more (set ws j none) i v both w.given a (set_other_at ws j i none (λ h. n (sym h)) ∙ at) e
      ∙ all-out ws j w none a at' e'

pub all-same : (into : ℕ → ℕ → ℕ) (c a : ℕ) (ws : List Worker) (id : ℕ) (v w : Worker) → get_elem? ws id ≡ some v → w.given ≡ v.given → fold_all into c a (set ws id w) ≡ fold_all into c a ws
all-same into c a [] id v w at e = absurd (some-ne-none v (sym at))
all-same into c a (x ∷ xs) zero v w at e = ap (λ l. fold_all into c (fold_in into c a l) xs) (e ∙ ap (λ (u : Worker). u.given) (sym (some-injective x v at)))
all-same into c a (x ∷ xs) (suc id) v w at e = all-same into c (fold_in into c a x.given) xs id v w at e

pub all-snoc : (into : ℕ → ℕ → ℕ) (c a : ℕ) (ws : List Worker) (w : Worker) → w.given ≡ [] → fold_all into c a (ws ++ w ∷ []) ≡ fold_all into c a ws
all-snoc into c a [] w e = ap (fold_in into c a) e
all-snoc into c a (x ∷ xs) w e = all-snoc into c (fold_in into c a x.given) xs w e

pub cells-add : (g : Setting) (cells : List ℕ) (ws : List Worker) (id c x : ℕ) (v : Worker) → ((a x y : ℕ) → g.into (g.into a x) y ≡ g.into (g.into a y) x)
    → get_elem? ws id ≡ some v → c < length cells → CellsAreFolded g cells ws → CellsAreFolded g (set cells c (g.into (slice_index cells c) x)) (set ws id (after_add c x v))
cells-add g cells ws id c x v ex at below k =
    let n = g.into (slice_index cells c) x in
    let w = after_add c x v in (
      length-set cells c n ∙ k.0,
      λ d under.
          (let under' : d < length cells = subst (λ n. d < n) (length-set cells c n) under in
          let old = k.1 d under' in
          let more = all-more g.into ex d ws id v w ((c, x) ∷ []) (slice_index g.cells d) at refl in
          written cells c d n (λ m. m ≡ fold_all g.into d (slice_index g.cells d) (set ws id w)) below
          (λ e. let test : (c == d) ≡ true = grind (arith, nat_tests) in
          let word : slice_index cells c ≡ fold_all g.into d (slice_index g.cells d) ws = ap (λ c. slice_index cells c) e ∙ old in
          ap (λ a. g.into a x) word ∙ sym (more ∙ ap (λ b. cond b (g.into (fold_all g.into d (slice_index g.cells d) ws) x) (fold_all g.into d (slice_index g.cells d) ws)) test))
          (λ ne. let test : (c == d) ≡ false = grind (arith, nat_tests) in
          old ∙ sym (more ∙ ap (λ b. cond b (g.into (fold_all g.into d (slice_index g.cells d) ws) x) (fold_all g.into d (slice_index g.cells d) ws)) test))),
    )

-- ---- containers
pub known-reached : (g : Setting) (slots : List ℕ) (ws : List Worker) (id : ℕ) (v : Worker) (c : ℕ × ℕ) → get_elem? ws id ≡ some v → SeenIsThere slots ws → KnowsContainer g v c → IsReachedContainer g slots c
known-reached g slots ws id v c at seen (inl live) = inl live
known-reached g slots ws id v c at seen (inr k) = inr (k.0, k.1, seen k.0 c.1 (let le = le-total (has_seen k.0 c.1) ws id v at in let h = k.2 in omega arith))

reached-stays : (g : Setting) (slots : List ℕ) (i n : ℕ) (c : ℕ × ℕ) → i < length slots → slice_index slots i ≡ 0 → IsReachedContainer g slots c → IsReachedContainer g (set slots i n) c
reached-stays g slots i n c below empty (inl live) = inl live
reached-stays g slots i n c below empty (inr k) = inr (k.0, k.1, full-stays slots i n k.0 c.1 below empty k.2)

pub hanging-link : (g : Setting) (slots masks lengths : List ℕ) (i n : ℕ) → i < length slots → slice_index slots i ≡ 0 → IsReachedContainer g slots (g.over_slot i)
    → Hanging g slots masks lengths → Hanging g (set slots i n) masks lengths
hanging-link g slots masks lengths i n below empty known k = record {
  by_slot = λ j full. written slots i j n (λ m. 0 < m → IsReachedContainer g (set slots i n) (g.over_slot j)) below
      (λ e _. subst (λ j. IsReachedContainer g (set slots i n) (g.over_slot j)) e (reached-stays g slots i n (g.over_slot i) below empty known))
      (λ _ h. reached-stays g slots i n (g.over_slot j) below empty (k.by_slot j h)) full;
  by_bit = λ b h. reached-stays g slots i n (g.over_bit b) below empty (k.by_bit b h);
  by_length = λ q h. reached-stays g slots i n (g.over_length q) below empty (k.by_length q h);
}

pub hanging-mark : (g : Setting) (slots masks lengths : List ℕ) (b : ℕ) → b / 64 < length masks → IsReachedContainer g slots (g.over_bit b)
    → Hanging g slots masks lengths → Hanging g slots (set masks (b / 64) (mark_word b (slice_index masks (b / 64)))) lengths
hanging-mark g slots masks lengths b below known k = record {
  by_slot = k.by_slot;
  by_bit = λ c h.
      (let bit = bit-mark masks b c below in
      first_cases (λ x. bit_in (set masks (b / 64) (mark_word b (slice_index masks (b / 64)))) c ≡ min 1 (bit_in masks c + x) → IsReachedContainer g slots (g.over_bit c)) b c
      (λ e _. subst (λ c. IsReachedContainer g slots (g.over_bit c)) e known) (λ _ e. k.by_bit c (omega arith)) bit);
  by_length = k.by_length;
}

pub hanging-raise : (g : Setting) (slots masks lengths : List ℕ) (q n : ℕ) → q < length lengths → IsReachedContainer g slots (g.over_length q)
    → Hanging g slots masks lengths → Hanging g slots masks (set lengths q n)
hanging-raise g slots masks lengths q n below known k = record {
  by_slot = k.by_slot;
  by_bit = k.by_bit;
  by_length = λ r h. written lengths q r n (λ m. 0 < m → IsReachedContainer g slots (g.over_length r)) below
      (λ e _. subst (λ r. IsReachedContainer g slots (g.over_length r)) e known) (λ _ old. k.by_length r old) h;
}
