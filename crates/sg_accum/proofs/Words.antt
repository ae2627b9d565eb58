-- Words and the cells for which they stand: what each step makes of a word, and what a pass over a closed table reads.
use Rattle.std.proofs.Common.{◌≡◌, ℕ, zero, suc, ◌+◌, ◌%◌, ◌^◌, ◌<◌, min, max, true, false, List, [], ◌∷◌, ◌++◌, map, length, set, take, refl, sym, ap, ◌∙◌, subst, arith}
use Rattle.std.specs.Prelude.{slice_index, bit_and, bit_or, bit_xor}
use Rattle.std.proofs.lemmas.List.{map-append}
use Rattle.std.proofs.lemmas.Nat.{and_le_l, or_of_32, xor_of_32}
use mathlib.Core.Option.{some, some-injective, some-ne-none}
use lib.ListN.{get_elem?}
use Rattle.sg_words.specs.declared.operators.Ty.{Ty}
use Rattle.sg_words.specs.declared.operators.Ty.TheVariants as ty
use Rattle.sg_words.specs.declared.operators.AccOp.{AccOp}
use Rattle.sg_words.specs.declared.operators.AccOp.TheVariants as acc
use Rattle.sg_words.specs.Words.{rank_of, unrank_of, folded}
use Rattle.sg_words.proofs.Uses.{at_or}
use Rattle.sg_accum.specs.AccRace.{cell_of, IsEntry, AreEntries}
use Rattle.sg_accum.specs.steps.Signs.{is_signed}

-- what a word becomes is what the cell becomes
abbrev pub Follows : AccOp → Ty → ℕ → ℕ → ℕ → Type 0
Follows op t n x m = (cell_of op t m ≡ folded op t (cell_of op t n) x) × IsEntry op m

pub follows-add : (op : AccOp) (t : Ty) (n x : ℕ) → op ≡ acc.Add → Follows op t n x ((n + x) % 2 ^ 64)
follows-add op t n x e = subst (λ (o : AccOp). Follows o t n x ((n + x) % 2 ^ 64)) (sym e) (omega arith, tt)

lowered : (t : Ty) (n x p : ℕ) → x < 2 ^ 32 → p ≡ rank_of t x → n < 2 ^ 32 → Follows acc.Min t n x (min n p)
lowered ty.I32 n x p below is low = (omega arith, omega arith)
lowered ty.U32 n x p below is low = (omega arith, omega arith)
lowered ty.Bool n x p below is low = (omega arith, omega arith)

pub follows-min : (op : AccOp) (t : Ty) (n x p : ℕ) → op ≡ acc.Min → x < 2 ^ 32 → p ≡ rank_of t x → IsEntry op n → Follows op t n x (min n p)
follows-min op t n x p e below is = subst (λ (o : AccOp). IsEntry o n → Follows o t n x (min n p)) (sym e) (lowered t n x p below is)

raised : (t : Ty) (n x p : ℕ) → x < 2 ^ 32 → p ≡ rank_of t x → n < 2 ^ 32 → Follows acc.Max t n x (max n p)
raised ty.I32 n x p below is low = (omega arith, omega arith)
raised ty.U32 n x p below is low = (omega arith, omega arith)
raised ty.Bool n x p below is low = (omega arith, omega arith)

pub follows-max : (op : AccOp) (t : Ty) (n x p : ℕ) → op ≡ acc.Max → x < 2 ^ 32 → p ≡ rank_of t x → IsEntry op n → Follows op t n x (max n p)
follows-max op t n x p e below is = subst (λ (o : AccOp). IsEntry o n → Follows o t n x (max n p)) (sym e) (raised t n x p below is)

pub follows-or : (op : AccOp) (t : Ty) (n x : ℕ) → op ≡ acc.Or → x < 2 ^ 32 → IsEntry op n → Follows op t n x (bit_or n x)
follows-or op t n x e below = subst (λ (o : AccOp). IsEntry o n → Follows o t n x (bit_or n x)) (sym e) (λ low. (refl, or_of_32 n x low below))

pub follows-and : (op : AccOp) (t : Ty) (n x : ℕ) → op ≡ acc.And → IsEntry op n → Follows op t n x (bit_and n x)
follows-and op t n x e = subst (λ (o : AccOp). IsEntry o n → Follows o t n x (bit_and n x)) (sym e) (λ low. (refl, omega (arith, and_le_l n x, low)))

pub follows-xor : (op : AccOp) (t : Ty) (n x : ℕ) → op ≡ acc.Xor → x < 2 ^ 32 → IsEntry op n → Follows op t n x (bit_xor n x)
follows-xor op t n x e below = subst (λ (o : AccOp). IsEntry o n → Follows o t n x (bit_xor n x)) (sym e) (λ low. (refl, xor_of_32 n x low below))

-- a rank tells its word
pub ranked-signed : (t : Ty) (x p : ℕ) → true ≡ is_signed t → x < 2 ^ 32 → p ≡ rank_of t x → unrank_of ty.I32 p ≡ x
ranked-signed ty.I32 x p e below is = omega arith
ranked-signed ty.U32 x p e below is = absurd (cc)
ranked-signed ty.Bool x p e below is = absurd (cc)

pub ranked-plain : (t : Ty) (x p : ℕ) → false ≡ is_signed t → p ≡ rank_of t x → unrank_of ty.U32 p ≡ x
ranked-plain ty.I32 x p e is = absurd (cc)
ranked-plain ty.U32 x p e is = is
ranked-plain ty.Bool x p e is = is

-- ---- lists of words
pub all-set : (P : ℕ → Type 0) (words : List ℕ) (i m : ℕ) → P m → ((c : ℕ) → P (slice_index words c)) → (c : ℕ) → P (slice_index (set words i m) c)
all-set P [] i m p each c = each c
all-set P (x ∷ xs) zero m p each zero = p
all-set P (x ∷ xs) zero m p each (suc c) = each (suc c)
all-set P (x ∷ xs) (suc i) m p each zero = each zero
all-set P (x ∷ xs) (suc i) m p each (suc c) = all-set P xs i m p (λ c. each (suc c)) c

pub none-yet : (op : AccOp) → AreEntries op []
none-yet acc.Add c = tt
none-yet acc.Min c = omega arith
none-yet acc.Max c = omega arith
none-yet acc.Or c = omega arith
none-yet acc.And c = omega arith
none-yet acc.Xor c = omega arith

all-snoc : (P : ℕ → Type 0) (words : List ℕ) (m : ℕ) → P m → P 0 → ((c : ℕ) → P (slice_index words c)) → (c : ℕ) → P (slice_index (words ++ m ∷ []) c)
all-snoc P [] m p z each zero = p
all-snoc P [] m p z each (suc c) = z
all-snoc P (x ∷ xs) m p z each zero = each zero
all-snoc P (x ∷ xs) m p z each (suc c) = all-snoc P xs m p z (λ c. each (suc c)) c

pub one-more-entry : (op : AccOp) (words : List ℕ) (m : ℕ) → IsEntry op m → AreEntries op words → AreEntries op (words ++ m ∷ [])
one-more-entry op words m p each = all-snoc (IsEntry op) words m p (none-yet op 0) each

take-more : (xs : List ℕ) (i : ℕ) → i < length xs → take (suc i) xs ≡ take i xs ++ slice_index xs i ∷ []
take-more [] i below = absurd (omega arith)
take-more (x ∷ xs) zero below = refl
take-more (x ∷ xs) (suc i) below = ap (λ l. x ∷ l) (take-more xs i (omega arith))

pub one-more-cell : (f : ℕ → ℕ) (words values : List ℕ) (i m x : ℕ) → i < length values → map f words ≡ take i values → f m ≡ x → x ≡ slice_index values i → map f (words ++ m ∷ []) ≡ take (i + 1) values
one-more-cell f words values i m x below e is at =
    let next : suc i ≡ i + 1 = omega arith in
    map-append f words (m ∷ []) ∙ ap (λ l. l ++ f m ∷ []) e ∙ ap (λ n. take i values ++ n ∷ []) (is ∙ at) ∙ sym (take-more values i below) ∙ ap (λ n. take n values) next

pub mapped-at : (f : ℕ → ℕ) (words : List ℕ) (i x : ℕ) → get_elem? words i ≡ some x → get_elem? (map f words) i ≡ some (f x)
mapped-at f [] i x at = absurd (some-ne-none x (sym at))
mapped-at f (w ∷ ws) zero x at = ap (λ n. some (f n)) (some-injective w x at)
mapped-at f (w ∷ ws) (suc i) x at = mapped-at f ws i x at

pub entry-at : (op : AccOp) (words : List ℕ) (i x : ℕ) → get_elem? words i ≡ some x → AreEntries op words → IsEntry op x
entry-at op words i x at each = subst (IsEntry op) (at_or words i 0 x at) (each i)

-- ---- a closed table
copied-suc : (words from : List ℕ) (i x : ℕ) → i < length words → take i words ≡ take i from → get_elem? from i ≡ some x → take (suc i) (set words i x) ≡ take (suc i) from
copied-suc [] from i x below e at = absurd (omega arith)
copied-suc (y ∷ ys) [] i x below e at = absurd (some-ne-none x (sym at))
copied-suc (y ∷ ys) (w ∷ ws) zero x below e at = ap (λ (a : ℕ). a ∷ []) (sym (some-injective w x at))
copied-suc (y ∷ ys) (w ∷ ws) (suc i) x below e at =
    let head : y ≡ w = (cc) in
    let tail : take i ys ≡ take i ws = (cc) in
    ap (λ (a : ℕ). a ∷ take (suc i) (set ys i x)) head ∙ ap (λ l. w ∷ l) (copied-suc ys ws i x (omega arith) tail at)

pub copied : (words from : List ℕ) (i x : ℕ) → i < length words → take i words ≡ take i from → get_elem? from i ≡ some x → take (i + 1) (set words i x) ≡ take (i + 1) from
copied words from i x below e at =
    let next : suc i ≡ i + 1 = omega arith in
    subst (λ n. take n (set words i x) ≡ take n from) next (copied-suc words from i x below e at)

take-whole : (xs : List ℕ) (n : ℕ) → length xs ≡ n → take n xs ≡ xs
take-whole [] zero e = refl
take-whole [] (suc n) e = refl
take-whole (x ∷ xs) zero e = absurd (omega arith)
take-whole (x ∷ xs) (suc n) e = ap (λ l. x ∷ l) (take-whole xs n (omega arith))

pub copied-all : (words from : List ℕ) (n : ℕ) → take n words ≡ take n from → length words ≡ n → length from ≡ n → words ≡ from
copied-all words from n e a b = sym (take-whole words n a) ∙ e ∙ take-whole from n b
