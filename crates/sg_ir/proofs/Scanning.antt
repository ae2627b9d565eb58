-- The last instruction after which something is set, and what is known of a place there.
use Rattle.std.proofs.Common.{◌++◌, ◌≡◌, ℕ, zero, suc, ◌<◌, length, get_or, is_some, MatchOption, Bool, true, false, ◌||◌, ◌==◌, List, [], ◌∷◌, Option, Some, None, take, drop, slice_get, refl, sym, ap, ◌∙◌, arith}
use Rattle.std.specs.List.{list_any}
use Rattle.std.proofs.lemmas.Bool.Decides.{nat_tests}
use Rattle.sg_ir.specs.declared.code.Inst.{Inst}
use Rattle.sg_ir.specs.declared.settings.Target.{Target}
use Rattle.sg_ir.specs.declared.settings.Target.TheVariants as t
use Rattle.sg_ir.specs.declared.before.Passed.{Passed}
use Rattle.sg_ir.specs.WellTyped.{holds_of}
use Rattle.sg_ir.specs.steps.Targets.{is_setting, settings_of, left, leaves}
use Rattle.sg_ir.specs.steps.Scopes.{IsLast, KnownPlaces, origin, known_from, places_then, place_step, places_after}

-- something is there, where one at an index is
pub any-at : {X : Type 0} (p : X → Bool) (xs : List X) (at : ℕ) → holds_of p (slice_get xs at) ≡ true → list_any p xs ≡ true
any-at p [] at h = cc
any-at p (x ∷ xs) zero h = rw h refl
any-at p (x ∷ xs) (suc at) h = rw (any-at p xs at h) (or-true (p x))
  where
    or-true : (b : Bool) → (b || true) ≡ true
    or-true true = refl
    or-true false = refl

or-parts : (a b : Bool) → (a || b) ≡ false → (a ≡ false) × (b ≡ false)
or-parts true b h = absurd cc
or-parts false b h = (refl, h)

eq-swap : (a b : ℕ) → (a == b) ≡ (b == a)
eq-swap a b = grind (arith, nat_tests)

-- a place that isn't set stays, and one that is set is known where something is known of what it comes from
placed-other : (p : ℕ) (set : Option Target) (known : Option Passed) (places : KnownPlaces) →
    list_any (is_setting (t.Place p)) (settings_of set) ≡ false → places_then set known places p ≡ places p
placed-other p None known places h = refl
placed-other p (Some (t.Reg r)) known places h = refl
placed-other p (Some (t.Var v)) known places h = refl
placed-other p (Some (t.Place q)) None places h = refl
placed-other p (Some (t.Place q)) (Some known) places h = rw (eq-swap p q ∙ (or-parts _ _ h).0) refl

abbrev pub or_earlier : Option Passed → Option Passed → Option Passed
or_earlier None earlier = earlier
or_earlier (Some known) earlier = Some known

placed-here : (p : ℕ) (set : Option Target) (known : Option Passed) (places : KnownPlaces) →
    list_any (is_setting (t.Place p)) (settings_of set) ≡ true → places_then set known places p ≡ or_earlier known (places p)
placed-here p None known places h = absurd cc
placed-here p (Some (t.Reg r)) known places h = absurd cc
placed-here p (Some (t.Var v)) known places h = absurd cc
placed-here p (Some (t.Place q)) None places h = refl
placed-here p (Some (t.Place q)) (Some known) places h = rw (eq-swap p q ∙ or-first (q == p) h) refl
  where
    or-first : (b : Bool) → (b || false) ≡ true → b ≡ true
    or-first true h = refl
    or-first false h = h

pub places-none : (p : ℕ) (places : KnownPlaces) (done : List Inst) → list_any (leaves (t.Place p)) done ≡ false → places_after places done p ≡ places p
places-none p places [] h = refl
places-none p places (x ∷ xs) h =
    let parts = or-parts (leaves (t.Place p) x) (list_any (leaves (t.Place p)) xs) h in
    places-none p (place_step places x) xs parts.1 ∙ placed-other p (left x) (known_from places (origin x)) places parts.0

places-last : (p : ℕ) (places : KnownPlaces) (done : List Inst) (at : ℕ) (inst : Inst) → slice_get done at ≡ Some inst →
    list_any (leaves (t.Place p)) (drop (suc at) done) ≡ false → places_after places done p ≡ place_step (places_after places (take at done)) inst p
places-last p places [] at inst is h = absurd cc
places-last p places (x ∷ xs) zero inst is h =
    let same : x ≡ inst = cc in
    places-none p (place_step places x) xs h ∙ ap (λ (y : Inst). place_step places y p) same
places-last p places (x ∷ xs) (suc at) inst is h = places-last p (place_step places x) xs at inst is h

pub places-at : (p : ℕ) (places : KnownPlaces) (done : List Inst) (at : ℕ) (inst : Inst) (known : Option Passed) → IsLast (t.Place p) done at →
    slice_get done at ≡ Some inst → known_from (places_after places (take at done)) (origin inst) ≡ known →
    places_after places done p ≡ or_earlier known (places_after places (take at done) p)
places-at p places done at inst known last is from =
    let there : leaves (t.Place p) inst ≡ true = sym (ap (holds_of (leaves (t.Place p))) is) ∙ last.there in
    places-last p places done at inst is last.behind
    ∙ placed-here p (left inst) (known_from (places_after places (take at done)) (origin inst)) (places_after places (take at done)) there
    ∙ ap (λ (k : Option Passed). or_earlier k (places_after places (take at done) p)) from

-- an item that was read
pub get-some : {X : Type 0} (xs : List X) (i : ℕ) (x : X) → i < length xs → x ≡ get_or xs i x → slice_get xs i ≡ Some x
get-some [] i x h e = absurd (omega arith)
get-some (y ∷ ys) zero x h e = ap Some (sym e)
get-some (y ∷ ys) (suc i) x h e = get-some ys i x (omega arith) e

pub found-any : (what : Target) (done : List Inst) (found : Option ℕ) →
    MatchOption found (list_any (leaves what) done ≡ false) (λ at. IsLast what done at) → is_some found ≡ list_any (leaves what) done
found-any what done None h = sym h
found-any what done (Some at) h = sym (any-at (leaves what) done at h.there)

pub take-next : {X : Type 0} (xs : List X) (i : ℕ) (x : X) → i < length xs → x ≡ get_or xs i x → take (suc i) xs ≡ take i xs ++ x ∷ []
take-next {X} [] i x h e = absurd (omega arith)
take-next {X} (y ∷ ys) zero x h e = ap (λ (z : X). z ∷ []) (sym e)
take-next {X} (y ∷ ys) (suc i) x h e = ap (λ (more : List X). y ∷ more) (take-next ys i x (omega arith) e)
