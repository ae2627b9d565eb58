-- That a coordinate is active in a layout of a state, as a test and as a fact.
use Rattle.std.proofs.Common.{◌≡◌, ℕ, zero, suc, ◌<◌, Bool, true, false, ◌&&◌, ◌||◌, ◌==◌, int_eq, List, [], ◌∷◌, length, Option, Some, refl, ap, ◌∙◌, arith}
use Rattle.std.specs.Prelude.{slice_get, get_or, Contains}
use Rattle.std.specs.List.{list_any}
use Rattle.std.proofs.lemmas.Bool.{and_parts, and_from, or_right, eqb-true, eq-eqb}
use Rattle.std.proofs.lemmas.Bool.Decides.{Decides-int_eq}
use Rattle.std.proofs.lemmas.Map.Views.{Contains-from_any}
use Rattle.sg_coord.specs.declared.coord.Coord.{Coord}
use Rattle.sg_coord.proofs.Uses.{same_parts}
use Rattle.sg_flat.specs.declared.state.FlatLayout.{FlatLayout}
use Rattle.sg_flat.specs.declared.state.FlatState.{FlatState}
use Rattle.sg_flat.specs.Domain.{active_in, same_coord, is_active}

-- the test that two coordinates are one
pub same_is : (x y : Coord) → same_coord x y ≡ true → x ≡ y
same_is x y test =
    let first = and_parts (x.n == y.n) (int_eq x.a y.a && (int_eq x.b y.b && int_eq x.c y.c)) test in
    let second = and_parts (int_eq x.a y.a) (int_eq x.b y.b && int_eq x.c y.c) first.1 in
    let third = and_parts (int_eq x.b y.b) (int_eq x.c y.c) second.1 in
    same_parts x y (eqb-true x.n y.n first.0) ((Decides-int_eq x.a y.a).0 second.0) ((Decides-int_eq x.b y.b).0 third.0) ((Decides-int_eq x.c y.c).0 third.1)

pub same_itself : (x : Coord) → same_coord x x ≡ true
same_itself x =
    and_from (x.n == x.n) (int_eq x.a x.a && (int_eq x.b x.b && int_eq x.c x.c)) (eq-eqb x.n x.n refl)
    (and_from (int_eq x.a x.a) (int_eq x.b x.b && int_eq x.c x.c) ((Decides-int_eq x.a x.a).1 refl)
    (and_from (int_eq x.b x.b) (int_eq x.c x.c) ((Decides-int_eq x.b x.b).1 refl) ((Decides-int_eq x.c x.c).1 refl)))

any_of : (at : Coord) (xs : List Coord) (k : ℕ) → k < length xs → get_or xs k at ≡ at → list_any (same_coord at) xs ≡ true
any_of at [] k below e = absurd (omega (arith, below))
any_of at (x ∷ xs) zero below e =
    ap (λ (y : Coord). same_coord at y || list_any (same_coord at) xs) e ∙ ap (λ (b : Bool). b || list_any (same_coord at) xs) (same_itself at)
any_of at (x ∷ xs) (suc k) below e = or_right (same_coord at x) (list_any (same_coord at) xs) (any_of at xs k (omega (arith, below)) e)

module _ (state : FlatState) (layout : ℕ) (flat : FlatLayout) (at : Coord) (there : slice_get state.layouts layout ≡ Some flat) where
  tested : is_active state layout at ≡ list_any (same_coord at) flat.active
  tested = ap (λ (found : Option FlatLayout). list_any (same_coord at) (active_in found)) there

  pub active_is : Contains flat.active at → is_active state layout at ≡ true
  active_is has = tested ∙ any_of at flat.active has.0 has.1 has.2

  pub active_not : (Contains flat.active at → ⊥) → is_active state layout at ≡ false
  active_not none = tested ∙ by_test (list_any (same_coord at) flat.active) refl
    where
      by_test : (test : Bool) → list_any (same_coord at) flat.active ≡ test → list_any (same_coord at) flat.active ≡ false
      by_test true e = absurd (none (Contains-from_any same_is at flat.active e))
      by_test false e = e
