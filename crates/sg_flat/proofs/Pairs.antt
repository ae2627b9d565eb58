-- A loop over two lists side by side with the index.
use Rattle.std.proofs.Common.{◌≡◌, ℕ, ◌+◌, ◌<◌, ◌≤◌, ◌⊎◌, inl, inr, min, List, length, get_or, Option, Some, None, Iter, ap, ◌∙◌, arith, zero-add}
use Rattle.std.specs.List.{zip, enumerate_from}
use Rattle.std.specs.Borrow.{Bor}
use Rattle.std.specs.Iterator.{Yields}
use Rattle.std.specs.Iterator.Adapters.{enumerate_source, enumerate_count, enumerate_steps, zip_first, zip_second}
use Rattle.std.specs.Slice.Iter.{iter_rest}
use Rattle.std.specs.declared.iter.Zip.{Zip}
use Rattle.std.specs.declared.iter.Enumerate.{Enumerate}
use Rattle.std.proofs.iter.Yields.{fronts}
use Rattle.std.proofs.lemmas.Iterator.{YieldsList, YieldsList-from_slice, YieldsList-from_zip, zips}
use Rattle.std.proofs.lemmas.Iterator.Consumers.{YieldsList-from_enumerate, YieldsList-turn, YieldsList-end}
use Rattle.std.proofs.lemmas.Bool.{cases_lt}
use Rattle.std.proofs.lemmas.List.FromFn.{length-enumerate_from, get_or-enumerate_from}
use Rattle.std.proofs.lemmas.Slice.Zip.{length-zip, get_or-zip}

-- where an item of the loop stands in the two lists
pub record StandsAt {A B : Type 0} (xs : List A) (ys : List B) (i n : ℕ) (x : A) (y : B) : Type 0 where
  pub index : n ≡ i
  pub in_first : i < length xs
  pub in_second : i < length ys
  pub first : x ≡ get_or xs i x
  pub second : y ≡ get_or ys i y

pub stands_at : {A B : Type 0} (xs : List A) (ys : List B) (i n : ℕ) (x : A) (y : B) → (i < length (enumerate_from 0 (zip xs ys))) × ((n, (x, y)) ≡ get_or (enumerate_from 0 (zip xs ys)) i (n, (x, y))) → StandsAt xs ys i n x y
stands_at {A} {B} xs ys i n x y turn =
    let below : i < length (zip xs ys) = omega (arith, turn.0, length-enumerate_from 0 (zip xs ys)) in
    let in_first : i < length xs = omega (arith, length-zip xs ys) in
    let in_second : i < length ys = omega (arith, length-zip xs ys) in
    let item : (n, (x, y)) ≡ (0 + i, get_or (zip xs ys) i (x, y)) = turn.1 ∙ get_or-enumerate_from 0 (zip xs ys) i (n, (x, y)) below in
    let pair : (x, y) ≡ (get_or xs i x, get_or ys i y) = ap (λ (p : ℕ × (A × B)). p.1) item ∙ get_or-zip xs ys i (x, y) in_first in_second in
    record {
      index = ap (λ (p : ℕ × (A × B)). p.0) item ∙ zero-add i;
      in_first = in_first;
      in_second = in_second;
      first = ap (λ (p : A × B). p.0) pair;
      second = ap (λ (p : A × B). p.1) pair;
    }

-- at the end of the loop
pub one_is_over : {A B : Type 0} (xs : List A) (ys : List B) (i : ℕ) → i ≡ length (enumerate_from 0 (zip xs ys)) → (length xs ≤ i) ⊎ (length ys ≤ i)
one_is_over xs ys i over =
    let is_min : i ≡ min (length xs) (length ys) = over ∙ length-enumerate_from 0 (zip xs ys) ∙ length-zip xs ys in
    elim (cases_lt i (length xs)) [
      | inl below ↦ inr (omega arith)
      | inr past ↦ inl past
    ]

-- where the loop's next item stands, and what its end says, by the calls that made its iterator
module _ {A B : Type 0} (xs : List A) (ys : List B) (made given : Enumerate (Zip (Iter A) (Iter B))) (pairs : Zip (Iter A) (Iter B)) (items : Iter A)
    (is_given : made ≡ given) (source : enumerate_source given ≡ pairs) (count : enumerate_count given ≡ 0) (first : zip_first pairs ≡ items)
    (first_rest : iter_rest items ≡ xs) (second_rest : iter_rest (zip_second pairs) ≡ ys)
    (yielded : List (ℕ × (Bor A × Bor B))) (now later : Enumerate (Zip (Iter A) (Iter B))) (by : Yields (enumerate_steps (zips fronts fronts)) made yielded now) where
  walks : YieldsList {B = ℕ × (A × B)} (enumerate_steps (zips fronts fronts)) (λ p. (p.0, (p.1.0.now, p.1.1.now))) made (enumerate_from 0 (zip xs ys))
  walks =
      let same_pairs : enumerate_source made ≡ pairs = ap enumerate_source is_given ∙ source in
      YieldsList-from_enumerate
      (YieldsList-from_zip
      (YieldsList-from_slice xs (ap (λ (p : Zip (Iter A) (Iter B)). iter_rest (zip_first p)) same_pairs ∙ ap iter_rest first ∙ first_rest))
      (YieldsList-from_slice ys (ap (λ (p : Zip (Iter A) (Iter B)). iter_rest (zip_second p)) same_pairs ∙ second_rest)))
      (ap enumerate_count is_given ∙ count)

  pub pair_turn : (n : ℕ) (x : Bor A) (y : Bor B) (result : Option (ℕ × (Bor A × Bor B))) → result ≡ Some (n, (x, y)) → enumerate_steps (zips fronts fronts) now result later → StandsAt xs ys (length yielded) n x.now y.now
  pair_turn n x y result is step = stands_at xs ys (length yielded) n x.now y.now (YieldsList-turn walks yielded now by result later (n, (x, y)) is step)

  pub pair_end : (result : Option (ℕ × (Bor A × Bor B))) → result ≡ None → enumerate_steps (zips fronts fronts) now result later → (length xs ≤ length yielded) ⊎ (length ys ≤ length yielded)
  pair_end result is step = one_is_over xs ys (length yielded) (YieldsList-end walks yielded now by result later is step).1
