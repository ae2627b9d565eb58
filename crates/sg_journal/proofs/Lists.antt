-- Lists whose members have partners.
use Rattle.std.proofs.Common.{◌≡◌, ◌≢◌, ℕ, zero, suc, ◌+◌, ◌<◌, ◌≤◌, List, [], ◌∷◌, length, get_or, refl, sym, ap, ◌∙◌, subst, arith}
use Rattle.std.specs.List.{Contains, AllPairs, remove}
use Rattle.std.proofs.lemmas.List.{get_or_default}
use Rattle.sg_words.proofs.Uses.{contains_head, contains_rest}

-- what a list has, and what it has once the element at a place is gone
pub without : {X : Type 0} (xs : List X) (k j : ℕ) (x : X) → j < length xs → j ≢ k → get_or xs j x ≡ x → Contains (remove xs k) x
without [] k j x below other same = absurd (omega arith)
without (y ∷ ys) zero zero x below other same = absurd (other refl)
without (y ∷ ys) zero (suc j) x below other same = (j, omega arith, same)
without (y ∷ ys) (suc k) zero x below other same = contains_head x y (remove ys k) same
without (y ∷ ys) (suc k) (suc j) x below other same =
    let apart : j ≢ k = λ e. other (ap suc e) in
    contains_rest x y (remove ys k) (without ys k j x (omega arith) apart same)

length_remove : {X : Type 0} (xs : List X) (k : ℕ) → k < length xs → length (remove xs k) + 1 ≡ length xs
length_remove [] k below = absurd (omega arith)
length_remove (y ∷ ys) zero below = omega arith
length_remove (y ∷ ys) (suc k) below = omega (arith, length_remove ys k (omega arith))

-- what stands at one place, read with two defaults
read_both : {Y : Type 0} (ys : List Y) (k j : ℕ) (y z : Y) → j < length ys → j ≡ k → get_or ys k z ≡ z → get_or ys j y ≡ z
read_both ys k j y z below e same = get_or_default ys j y z below ∙ ap (λ i. get_or ys i z) e ∙ same

-- the head of a list with each member once is not in the rest
later_apart : {X : Type 0} (x : X) (xs : List X) → AllPairs (λ a b. a ≢ b) (x ∷ xs) → ¬ Contains xs x
later_apart {X} x xs once (k, below, same) = once zero (suc k) x (omega arith) (omega arith) (sym same)

once_rest : {X : Type 0} (x : X) (xs : List X) → AllPairs (λ a b. a ≢ b) (x ∷ xs) → AllPairs (λ a b. a ≢ b) xs
once_rest {X} x xs once i j d before below = once (suc i) (suc j) d (omega arith) (omega arith)

-- where each member of a list, there once, has a partner in another list, no two of them the same one, the other list
-- is as long
pub fewer : {X Y : Type 0} (R : X → Y → Type 0) (xs : List X) (ys : List Y) → AllPairs (λ a b. a ≢ b) xs → ((x : X) → Contains xs x → (y : Y) × Contains ys y × R x y) → ((a b : X) (y : Y) → Contains xs a → Contains xs b → R a y → R b y → a ≡ b) → length xs ≤ length ys
fewer R [] ys once partner apart = omega arith
fewer {X} {Y} R (x ∷ xs) ys once partner apart =
    let mine = partner x (contains_head x x xs refl) in
    let k : ℕ = mine.1.0 in
    let rest : List Y = remove ys k in
    let shorter : length rest + 1 ≡ length ys = length_remove ys k mine.1.1 in
    let theirs : (z : X) → Contains xs z → (y : Y) × Contains rest y × R z y = λ z has.
    let their = partner z (contains_rest z x xs has) in
    let other : their.1.0 ≢ k = λ e.
    let one : their.0 ≡ mine.0 = sym their.1.2 ∙ read_both ys k their.1.0 their.0 mine.0 their.1.1 e mine.1.2 in
    let same : z ≡ x = apart z x mine.0 (contains_rest z x xs has) (contains_head x x xs refl) (subst (λ y. R z y) one their.2) mine.2 in
    later_apart x xs once (subst (λ y. Contains xs y) same has) in
    (their.0, without ys k their.1.0 their.0 their.1.1 other their.1.2, their.2) in
    let less : length xs ≤ length rest = fewer R xs rest (once_rest x xs once) theirs (λ a b y p q r s. apart a b y (contains_rest a x xs p) (contains_rest b x xs q) r s) in
    omega arith
