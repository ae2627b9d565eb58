-- Scopes, places and ways that go on.
use Rattle.std.specs.Prelude.{◌≡◌, refl, ℕ, ◌<◌, ◌≤◌, ◌==◌, Bool, true, false, ◌&&◌, if◌then◌else◌, List, [], ◌∷◌, ◌++◌, length, nat_lt}
use Rattle.std.proofs.Common.{arith, sym, ap, ◌∙◌}
use Rattle.std.proofs.lemmas.Bool.{eqb-true, ltb-true}
use Rattle.std.proofs.lemmas.Bool.Decides.{nat_tests}
use Rattle.sg_ir.specs.declared.op.Step.{Step}
use Rattle.sg_ir.specs.declared.op.Step.TheVariants as step
use Rattle.sg_ir.specs.Runs.{put}
use Rattle.sg_ir.specs.Trimmed.{Way, Ways, way_of, way_behind}
use Rattle.sg_ir.specs.InScope.{InScope, step_places, AreSet}
use Rattle.sg_simplify.specs.steps.Pass.{Pass, Next, offset}
use Rattle.sg_simplify.specs.steps.Sets.{Sets}
use Rattle.sg_simplify.specs.steps.Trims.{Onward}
use Rattle.sg_simplify.proofs.Setting.{wider_same, wider_on, put_still}

differ : {A : Type 0} → true ≡ false → A
differ h = absurd (cc)

pub both_true : (a b : Bool) → a ≡ true → b ≡ true → (a && b) ≡ true
both_true true true e f = refl
both_true true false e f = absurd (cc)
both_true false b e f = absurd (cc)

not_less : (a b : ℕ) → nat_lt a b ≡ false → b ≤ a
not_less a b h = grind (arith, nat_tests)

pub places_wider : (n : ℕ) (scope : InScope) (ps : List ℕ) → AreSet scope.places ps → AreSet (put n true scope.places) ps
places_wider n scope [] set = tt
places_wider n scope (p ∷ ps) set = (put_still n scope.places p set.0, places_wider n scope ps set.1)

-- ---- onward
pub onward_same : (scope : InScope) (next : Next) (ways : Ways) → Onward scope next ways scope next ways
onward_same scope next ways = record { wider = wider_same scope; names = refl; spans = λ r is. refl; kept = λ p is. refl }

pub onward_on : (a : InScope) (x : Next) (u : Ways) (b : InScope) (y : Next) (v : Ways) (c : InScope) (z : Next) (w : Ways) → Onward a x u b y v → Onward b y v c z w → Onward a x u c z w
onward_on a x u b y v c z w first second = record {
  wider = wider_on a b c first.wider second.wider;
  names = second.names ∙ first.names;
  spans = λ r is. second.spans r (first.wider.regs r is) ∙ first.spans r is;
  kept = λ p is. second.kept p (first.wider.places p is) ∙ first.kept p is;
}

-- a number in scope was given before
pub given_before : (scope : InScope) (known : Pass) (next : Next) → Sets scope known next → (r : ℕ) → scope.regs r ≡ true → r < length next.spans
given_before scope known next h r is = by_test (nat_lt r (length next.spans)) refl
  where
    by_test : (test : Bool) → nat_lt r (length next.spans) ≡ test → r < length next.spans
    by_test true e = ltb-true r (length next.spans) e
    by_test false e = differ (sym is ∙ h.free_regs r (not_less r (length next.spans) e))

-- the way to a place in scope isn't changed by one that is put out
pub way_kept : (ways : Ways) (n p : ℕ) (way : Way) → (n == p) ≡ false → way_of ((n, way) ∷ ways) p ≡ way_of ways p
way_kept ways n p way e = ap (λ (test : Bool). if test then way else way_of ways p) e

pub way_here : (ways : Ways) (n : ℕ) (way : Way) → way_of ((n, way) ∷ ways) n ≡ way
way_here ways n way = by_test (n == n) (grind arith)
  where
    by_test : (test : Bool) → test ≡ true → (if test then way else way_of ways n) ≡ way
    by_test true e = refl
    by_test false e = absurd (cc)

pub other_place : (scope : InScope) (n p : ℕ) → scope.places n ≡ false → scope.places p ≡ true → (n == p) ≡ false
other_place scope n p free is = by_test (n == p) refl
  where
    by_test : (test : Bool) → (n == p) ≡ test → (n == p) ≡ false
    by_test true e = differ (sym is ∙ (ap scope.places (sym (eqb-true n p e)) ∙ free))
    by_test false e = e

other_reg : (scope : InScope) (n r : ℕ) → scope.regs n ≡ false → scope.regs r ≡ true → (r == n) ≡ false
other_reg scope n r free is = by_test (r == n) refl
  where
    by_test : (test : Bool) → (r == n) ≡ test → (r == n) ≡ false
    by_test true e = differ (sym is ∙ (ap scope.regs (eqb-true r n e) ∙ free))
    by_test false e = e

-- the way after a step isn't changed either
pub behind_kept : (scope : InScope) (ways : Ways) (n to : ℕ) (way : Way) (how : Step) → scope.places n ≡ false → AreSet scope.places (step_places how) → way_behind ((n, way) ∷ ways) to how ≡ way_behind ways to how
behind_kept scope ways n to way (step.Root layout) free set = refl
behind_kept scope ways n to way (step.Check place axis extent index) free set = ap (λ (before : Way). record { root = before.root; checks = before.checks ++ record { axis = axis; index = index; place = to } ∷ [] }) (way_kept ways n place way (other_place scope n place free set.0))
behind_kept scope ways n to way (step.Down descent place node offset) free set = way_kept ways n place way (other_place scope n place free set.0)
