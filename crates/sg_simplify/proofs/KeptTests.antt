-- What tests of what is kept decide.
use Rattle.std.specs.Prelude.{◌≡◌, refl, ℕ, ◌==◌, Bool, true, false, not, ◌&&◌, ◌||◌, if◌then◌else◌}
use Rattle.std.proofs.Common.{sym, ap, ◌∙◌}
use Rattle.std.proofs.lemmas.Bool.{eqb-true}
use Rattle.sg_ir.specs.Blocks.{Block, End, Word, Spot, Cell, Do, Branch, Loop}
use Rattle.sg_simplify.specs.Kept.{is_end}

pub clash : {A : Type 0} (b : Bool) → b ≡ true → b ≡ false → A
clash b e f = absurd (cc)

pub none_set : {A : Type 0} → false ≡ true → A
none_set h = absurd (cc)

pub both_if : {A : Type 0} (test : Bool) (x y a b : A) → x ≡ y → a ≡ b → (if test then x else a) ≡ (if test then y else b)
both_if true x y a b e f = e
both_if false x y a b e f = f

-- what isn't kept may change on one side
pub past : {A : Type 0} (kept : ℕ → Bool) (to k : ℕ) (x y z : A) → kept to ≡ false → kept k ≡ true → z ≡ y → z ≡ (if k == to then x else y)
past kept to k x y z off on e = by_test (k == to) refl
  where
    by_test : (test : Bool) → (k == to) ≡ test → z ≡ (if test then x else y)
    by_test true is = clash (kept k) on (ap kept (eqb-true k to is) ∙ off)
    by_test false is = e

pub end_is : (block : Block) → is_end block ≡ true → block ≡ End
end_is End e = refl
end_is (Word to how rest) e = absurd (cc)
end_is (Spot to how rest) e = absurd (cc)
end_is (Cell to place sight index rest) e = absurd (cc)
end_is (Do what rest) e = absurd (cc)
end_is (Branch cond block otherwise rest) e = absurd (cc)
end_is (Loop var lo hi body rest) e = absurd (cc)

-- two tests, of which one fails, or neither
pub first_fails : (a b : Bool) → a ≡ false → not (a && b) ≡ true
first_fails true b e = none_set (sym e)
first_fails false b e = refl

pub second_fails : (a b : Bool) → b ≡ false → not (a && b) ≡ true
second_fails true true e = none_set (sym e)
second_fails true false e = refl
second_fails false b e = refl

pub neither_fails : (a b : Bool) → a ≡ true → b ≡ true → not (a && b) ≡ false
neither_fails true true e f = refl
neither_fails true false e f = none_set f
neither_fails false b e f = none_set e

pub first_holds : (a b : Bool) → a ≡ true → (a || b) ≡ true
first_holds true b e = refl
first_holds false b e = none_set e

pub or_fails : (a b : Bool) → b ≡ false → (a || not b) ≡ true
or_fails true b e = refl
or_fails false true e = none_set (sym e)
or_fails false false e = refl

pub only_second : (a b : Bool) → a ≡ false → b ≡ true → (a || not b) ≡ false
only_second true b e f = none_set (sym e)
only_second false true e f = refl
only_second false false e f = none_set f
