-- Nothing is set twice: where numbers go up, and where each is counted once.
use Rattle.std.proofs.Common.{◌≡◌, ℕ, ◌+◌, ◌<◌, ◌≤◌, ◌==◌, min, nat_lt, Bool, true, false, not, ◌&&◌, ◌||◌, cond, List, [], ◌∷◌, Option, Some, None, refl, sym, ap, ◌∙◌, subst, zero-add, lit≤, arith}
use Rattle.std.specs.Prelude.{option_and_then, count_by, if◌then◌else◌}
use Rattle.std.specs.List.{flat_map, list_all, list_any}
use Rattle.std.proofs.lemmas.Bool.Decides.{nat_tests}
use Rattle.sg_ir.specs.declared.settings.Target.TheVariants as t
use Rattle.sg_ir.specs.declared.settings.Next.{Next}
use Rattle.sg_ir.specs.WellTyped.{SetName, SetsReg, SetsPlace, SetsVar, reg_number, place_number, has_no_twice}
use Rattle.sg_ir.specs.steps.Targets.{is_setting, past, with_next_reg, with_next_place, passes, ascends, once_in}
use Rattle.sg_ir.proofs.Counting.{count-regs, count-places, count-cons}

-- numbers that go up from one
abbrev Above : ℕ → List ℕ → Type 0
Above from [] = Unit {0}
Above from (x ∷ xs) = (from ≤ x) × Above (x + 1) xs

above-none : (xs : List ℕ) (from x : ℕ) → x < from → Above from xs → list_any (λ y. y == x) xs ≡ false
above-none [] from x h above = refl
above-none (y ∷ ys) from x h above =
    let other : (y == x) ≡ false = differ y x (omega (arith, above.0)) in
    rw other (above-none ys (y + 1) x (omega (arith, above.0)) above.1)
  where
    differ : (a b : ℕ) → b < a → (a == b) ≡ false
    differ a b h = grind (arith, nat_tests)

above-once : (xs : List ℕ) (from : ℕ) → Above from xs → has_no_twice xs ≡ true
above-once [] from above = refl
above-once (x ∷ xs) from above = rw (above-none xs (x + 1) x (omega arith) above.1) (above-once xs (x + 1) above.1)

-- what passes, by cases of the test
past-is : (x next end : ℕ) → past x next ≡ Some end → (next ≤ x) × (end ≡ x + 1)
past-is x next end h = by (nat_lt x next) refl h
  where
    by : (b : Bool) → nat_lt x next ≡ b → (if b then None else Some (x + 1)) ≡ Some end → (next ≤ x) × (end ≡ x + 1)
    by true e h = absurd cc
    by false e h = let q : x + 1 ≡ end = cc in (grind (arith, nat_tests), sym q)

next-reg : (from next : Next) (found : Option ℕ) → with_next_reg from found ≡ Some next → (reg : ℕ) × ((found ≡ Some reg) × (record { reg = reg; place = from.place } ≡ next))
next-reg from next None h = absurd cc
next-reg from next (Some reg) h = (reg, (refl, some-is _ _ h))
  where
    some-is : (a b : Next) → Some a ≡ Some b → a ≡ b
    some-is a b e = cc

next-place : (from next : Next) (found : Option ℕ) → with_next_place from found ≡ Some next → (place : ℕ) × ((found ≡ Some place) × (record { reg = from.reg; place = place } ≡ next))
next-place from next None h = absurd cc
next-place from next (Some place) h = (place, (refl, some-is _ _ h))
  where
    some-is : (a b : Next) → Some a ≡ Some b → a ≡ b
    some-is a b e = cc

behind-is : (one : Option Next) (more : List SetName) (end : Next) → option_and_then (λ next. ascends next more) one ≡ Some end → (next : Next) × ((one ≡ Some next) × (ascends next more ≡ Some end))
behind-is None more end h = absurd cc
behind-is (Some next) more end h = (next, (refl, h))

ascends-above : (set : List SetName) (from end : Next) → ascends from set ≡ Some end → Above from.reg (flat_map reg_number set) × Above from.place (flat_map place_number set)
ascends-above [] from end h = (tt, tt)
ascends-above (SetsVar v ∷ set) from end h = ascends-above set from end h
ascends-above (SetsReg r ∷ set) from end h =
    let one = behind-is (passes (SetsReg r) from) set end h in
    let next = next-reg from one.0 (past r from.reg) one.1.0 in
    let step = past-is r from.reg next.0 next.1.0 in
    let rest = ascends-above set one.0 end one.1.1 in
    let P : Next → Type 0 = λ (n : Next). Above n.reg (flat_map reg_number set) × Above n.place (flat_map place_number set) in
    let there : Above next.0 (flat_map reg_number set) × Above from.place (flat_map place_number set) = subst P (sym next.1.1) rest in
    let Q : ℕ → Type 0 = λ (n : ℕ). Above n (flat_map reg_number set) in
    ((step.0, subst Q step.1 there.0), there.1)
ascends-above (SetsPlace p ∷ set) from end h =
    let one = behind-is (passes (SetsPlace p) from) set end h in
    let next = next-place from one.0 (past p from.place) one.1.0 in
    let step = past-is p from.place next.0 next.1.0 in
    let rest = ascends-above set one.0 end one.1.1 in
    let P : Next → Type 0 = λ (n : Next). Above n.reg (flat_map reg_number set) × Above n.place (flat_map place_number set) in
    let there : Above from.reg (flat_map reg_number set) × Above next.0 (flat_map place_number set) = subst P (sym next.1.1) rest in
    let Q : ℕ → Type 0 = λ (n : ℕ). Above n (flat_map place_number set) in
    (there.0, (step.0, subst Q step.1 there.1))

pub ascends-once : (set : List SetName) (from end : Next) → ascends from set ≡ Some end → true ≡ (has_no_twice (flat_map reg_number set) && has_no_twice (flat_map place_number set))
ascends-once set from end h =
    let above = ascends-above set from end h in
    rw (above-once (flat_map reg_number set) from.reg above.0, above-once (flat_map place_number set) from.place above.1) refl

-- each is counted once
abbrev count : ℕ → List ℕ → ℕ
count x xs = count_by (λ y. y == x) xs

abbrev counted_once : List ℕ → ℕ → Bool
counted_once xs x = nat_lt (count x xs) 2

none-counted : (x : ℕ) (xs : List ℕ) → list_any (λ y. y == x) xs ≡ false → count x xs ≡ 0
none-counted x [] h = refl
none-counted x (y ∷ ys) h =
    let parts = or-parts (y == x) (list_any (λ z. z == x) ys) h in
    count-cons (λ z. z == x) y ys ∙ ap (λ (b : Bool). cond b 1 0 + count x ys) parts.0 ∙ zero-add (count x ys) ∙ none-counted x ys parts.1
  where
    or-parts : (a b : Bool) → (a || b) ≡ false → (a ≡ false) × (b ≡ false)
    or-parts true b h = absurd cc
    or-parts false b h = (refl, h)

counted-none : (x : ℕ) (xs : List ℕ) → count x xs ≡ 0 → list_any (λ y. y == x) xs ≡ false
counted-none x [] h = refl
counted-none x (y ∷ ys) h = by (y == x) refl (sym (count-cons (λ z. z == x) y ys) ∙ h) (counted-none x ys)
  where
    by : (b : Bool) → (y == x) ≡ b → cond (y == x) 1 0 + count x ys ≡ 0 → (count x ys ≡ 0 → list_any (λ z. z == x) ys ≡ false) → ((y == x) || list_any (λ z. z == x) ys) ≡ false
    by true e h more = let g : cond true 1 0 + count x ys ≡ 0 = sym (ap (λ (b : Bool). cond b 1 0 + count x ys) e) ∙ h in absurd (omega (arith, g))
    by false e h more = let g : cond false 1 0 + count x ys ≡ 0 = sym (ap (λ (b : Bool). cond b 1 0 + count x ys) e) ∙ h in rw e (more (omega (arith, g)))

at_most_one : (xs : List ℕ) → has_no_twice xs ≡ true → (x : ℕ) → count x xs ≤ 1
at_most_one [] h x = lit≤ tt
at_most_one (y ∷ ys) h x = by (y == x) refl (count-cons (λ z. z == x) y ys) (none-counted x ys) (at_most_one ys (and-second _ _ h) x) (and-first _ _ h)
  where
    and-first : (a b : Bool) → (not a && b) ≡ true → a ≡ false
    and-first true b h = absurd cc
    and-first false b h = refl

    and-second : (a b : Bool) → (a && b) ≡ true → b ≡ true
    and-second true b h = h
    and-second false b h = absurd cc

    by : (b : Bool) → (y == x) ≡ b → count x (y ∷ ys) ≡ cond (y == x) 1 0 + count x ys → (list_any (λ z. z == x) ys ≡ false → count x ys ≡ 0) → count x ys ≤ 1 → list_any (λ z. z == y) ys ≡ false → count x (y ∷ ys) ≤ 1
    by true e c none more other =
        let same : y ≡ x = grind (arith, nat_tests) in
        let P : ℕ → Type 0 = λ (k : ℕ). list_any (λ z. z == k) ys ≡ false in
        let zero_more = none (subst P same other) in
        let g : count x (y ∷ ys) ≡ cond true 1 0 + count x ys = c ∙ ap (λ (b : Bool). cond b 1 0 + count x ys) e in
        omega (arith, g, zero_more)
    by false e c none more other =
        let g : count x (y ∷ ys) ≡ cond false 1 0 + count x ys = c ∙ ap (λ (b : Bool). cond b 1 0 + count x ys) e in
        omega (arith, g, more)

all-pass : (p : ℕ → Bool) (xs : List ℕ) → ((x : ℕ) → p x ≡ true) → list_all p xs ≡ true
all-pass p [] h = refl
all-pass p (x ∷ xs) h = rw (h x) (all-pass p xs h)

once-counted : (all ys : List ℕ) → ((x : ℕ) → count x ys ≤ count x all) → list_all (counted_once all) ys ≡ true → has_no_twice ys ≡ true
once-counted all [] few h = refl
once-counted all (y ∷ ys) few h =
    let first : nat_lt (count y all) 2 ≡ true = and-first _ _ h in
    let own : count y (y ∷ ys) ≡ cond (y == y) 1 0 + count y ys = count-cons (λ z. z == y) y ys in
    let own_one : count y (y ∷ ys) ≡ 1 + count y ys = own ∙ ap (λ (b : Bool). cond b 1 0 + count y ys) (same y) in
    let none : count y ys ≡ 0 = at-most (count y all) (count y (y ∷ ys)) (count y ys) first (few y) own_one in
    rw (counted-none y ys none) (once-counted all ys (λ x. fewer (count x (y ∷ ys)) (cond (y == x) 1 0) (count x ys) (count x all) (count-cons (λ z. z == x) y ys) (few x)) (and-second _ _ h))
  where
    and-first : (a b : Bool) → (a && b) ≡ true → a ≡ true
    and-first true b h = refl
    and-first false b h = h

    and-second : (a b : Bool) → (a && b) ≡ true → b ≡ true
    and-second true b h = h
    and-second false b h = absurd cc

    same : (n : ℕ) → (n == n) ≡ true
    same n = grind (arith, nat_tests)

    at-most : (whole here more : ℕ) → nat_lt whole 2 ≡ true → here ≤ whole → here ≡ 1 + more → more ≡ 0
    at-most whole here more h l e = grind (arith, nat_tests)

    fewer : (here one more whole : ℕ) → here ≡ one + more → here ≤ whole → more ≤ whole
    fewer here one more whole e l = omega arith

no-twice : (xs : List ℕ) → list_all (counted_once xs) xs ≡ has_no_twice xs
no-twice xs = both (list_all (counted_once xs) xs) (has_no_twice xs) (once-counted xs xs (λ x. omega arith)) (λ h. all-pass (counted_once xs) xs (λ x. below (count x xs) (at_most_one xs h x)))
  where
    below : (n : ℕ) → n ≤ 1 → nat_lt n 2 ≡ true
    below n h = grind (arith, nat_tests)

    both : (a b : Bool) → (a ≡ true → b ≡ true) → (b ≡ true → a ≡ true) → a ≡ b
    both true b f g = sym (f refl)
    both false true f g = g refl
    both false false f g = refl

capped : (n k : ℕ) → n ≡ k → nat_lt (min 2 n) 2 ≡ nat_lt k 2
capped n k e = ap (λ (m : ℕ). nat_lt (min 2 m) 2) e ∙ by k
  where
    by : (k : ℕ) → nat_lt (min 2 k) 2 ≡ nat_lt k 2
    by k = grind (arith, nat_tests)

swap-and : (a b c : Bool) → (a && (b && c)) ≡ (b && (a && c))
swap-and true true c = refl
swap-and true false c = refl
swap-and false true c = refl
swap-and false false c = refl

take-and : (a b c : Bool) → (a && (b && c)) ≡ ((a && b) && c)
take-and true b c = refl
take-and false b c = refl

once-split : (all set : List SetName) →
    list_all (once_in all) set
    ≡ (list_all (counted_once (flat_map reg_number all)) (flat_map reg_number set) && list_all (counted_once (flat_map place_number all)) (flat_map place_number set))
once-split all [] = refl
once-split all (SetsVar v ∷ set) = once-split all set
once-split all (SetsReg r ∷ set) =
    ap (λ (b : Bool). b && list_all (once_in all) set) (capped (count_by (is_setting (t.Reg r)) all) (count r (flat_map reg_number all)) (count-regs r all))
    ∙ ap (λ (b : Bool). counted_once (flat_map reg_number all) r && b) (once-split all set)
    ∙ take-and (counted_once (flat_map reg_number all) r) (list_all (counted_once (flat_map reg_number all)) (flat_map reg_number set)) (list_all (counted_once (flat_map place_number all)) (flat_map place_number set))
once-split all (SetsPlace p ∷ set) =
    ap (λ (b : Bool). b && list_all (once_in all) set) (capped (count_by (is_setting (t.Place p)) all) (count p (flat_map place_number all)) (count-places p all))
    ∙ ap (λ (b : Bool). counted_once (flat_map place_number all) p && b) (once-split all set)
    ∙ swap-and (counted_once (flat_map place_number all) p) (list_all (counted_once (flat_map reg_number all)) (flat_map reg_number set)) (list_all (counted_once (flat_map place_number all)) (flat_map place_number set))

pub once-is : (set : List SetName) → list_all (once_in set) set ≡ (has_no_twice (flat_map reg_number set) && has_no_twice (flat_map place_number set))
once-is set =
    once-split set set
    ∙ ap (λ (b : Bool). b && list_all (counted_once (flat_map place_number set)) (flat_map place_number set)) (no-twice (flat_map reg_number set))
    ∙ ap (λ (b : Bool). has_no_twice (flat_map reg_number set) && b) (no-twice (flat_map place_number set))
