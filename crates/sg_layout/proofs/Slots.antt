-- What makes a slot live: each slot itself, and step by step.
use Rattle.std.proofs.Common.{◌≡◌, ℕ, ◌≤◌, true, false, List, [], ◌∷◌, refl, ◌∙◌, arith, eqb}
use Rattle.std.specs.List.{Contains}
use Rattle.std.specs.Str.{bytes_eq}
use Rattle.std.specs.Cmp.Lexicographic.{bytes_decides}
use Rattle.std.proofs.lemmas.Bool.{and_parts, and_from, leb-true, le-leb, eqb-true, eq-eqb}
use Rattle.std.proofs.lemmas.List.Folds.{Any-from_list_any, list_any-from_Any}
use Rattle.sg_coord.specs.declared.coord.Coord.{Coord}
use Rattle.sg_layout.specs.declared.shape.Kind.{Kind}
use Rattle.sg_layout.specs.declared.shape.Kind.TheVariants.{Dense, Bitmasked, Pointer, Hash, Dynamic}
use Rattle.sg_layout.specs.declared.shape.Shape.{Shape}
use Rattle.sg_layout.specs.Path.{path}
use Rattle.sg_layout.specs.Live.{is_at_or_below, makes_live, kind_at, is_live}

same_slot : (x : List ℕ) → bytes_eq x x ≡ true
same_slot x = (bytes_decides x x).1 refl

same_slots : (x y z : List ℕ) → bytes_eq x y ≡ true → bytes_eq y z ≡ true → bytes_eq x z ≡ true
same_slots x y z p q = (bytes_decides x z).1 ((bytes_decides x y).0 p ∙ (bytes_decides y z).0 q)

below_itself : (x : List ℕ) → is_at_or_below x x ≡ true
below_itself [] = refl
below_itself (a ∷ []) = le-leb a a (omega arith)
below_itself (a ∷ b ∷ x) = and_from _ _ (eq-eqb a a refl) (below_itself (b ∷ x))

below_below : (x y z : List ℕ) → is_at_or_below x y ≡ true → is_at_or_below y z ≡ true → is_at_or_below x z ≡ true
below_below [] [] z p q = q
below_below [] (b ∷ y) z p q = cc
below_below (a ∷ x) [] z p q = cc
below_below (a ∷ []) (b ∷ []) [] p q = q
below_below (a ∷ []) (b ∷ []) (c ∷ []) p q =
    let first : b ≤ a = leb-true b a p in
    let second : c ≤ b = leb-true c b q in
    le-leb c a (omega arith)
below_below (a ∷ []) (b ∷ []) (c ∷ d ∷ z) p q = let parts = and_parts (eqb b c) false q in cc
below_below (a ∷ []) (b ∷ e ∷ y) z p q = let parts = and_parts (eqb a b) false p in cc
below_below (a ∷ f ∷ x) (b ∷ []) z p q = let parts = and_parts (eqb a b) false p in cc
below_below (a ∷ f ∷ x) (b ∷ e ∷ y) [] p q = q
below_below (a ∷ f ∷ x) (b ∷ e ∷ y) (c ∷ []) p q = let parts = and_parts (eqb b c) false q in cc
below_below (a ∷ f ∷ x) (b ∷ e ∷ y) (c ∷ d ∷ z) p q =
    let left = and_parts (eqb a b) (is_at_or_below (f ∷ x) (e ∷ y)) p in
    let right = and_parts (eqb b c) (is_at_or_below (e ∷ y) (d ∷ z)) q in
    and_from (eqb a c) (is_at_or_below (f ∷ x) (d ∷ z))
    (eq-eqb a c (eqb-true a b left.0 ∙ eqb-true b c right.0))
    (below_below (f ∷ x) (e ∷ y) (d ∷ z) left.1 right.1)

-- a slot that is reached is live
pub live_itself : (kind : Kind) (slot : List ℕ) → makes_live kind slot slot ≡ true
live_itself Dense slot = same_slot slot
live_itself Bitmasked slot = same_slot slot
live_itself Pointer slot = same_slot slot
live_itself Hash slot = same_slot slot
live_itself Dynamic slot = below_itself slot

-- what a live slot makes live was live already
pub live_onward : (kind : Kind) (x y z : List ℕ) → makes_live kind x y ≡ true → makes_live kind y z ≡ true → makes_live kind x z ≡ true
live_onward Dense x y z p q = same_slots x y z p q
live_onward Bitmasked x y z p q = same_slots x y z p q
live_onward Pointer x y z p q = same_slots x y z p q
live_onward Hash x y z p q = same_slots x y z p q
live_onward Dynamic x y z p q = below_below x y z p q

-- a coordinate makes a slot of a node live
abbrev pub MakesLive : Shape → ℕ → List ℕ → Coord → Type 0
MakesLive shape number slot at = makes_live (kind_at shape.nodes number) (path shape at number) slot ≡ true

-- a slot is live exactly when a coordinate of the list makes it so
pub from_live : (shape : Shape) (written : List Coord) (number : ℕ) (slot : List ℕ) → is_live shape written number slot ≡ true → (at : Coord) × Contains written at × MakesLive shape number slot at
from_live shape written number slot live =
    let found = Any-from_list_any (λ (at : Coord). makes_live (kind_at shape.nodes number) (path shape at number) slot) written live in
    (found.1, (found.0, found.2, found.3), found.4)

pub into_live : (shape : Shape) (written : List Coord) (number : ℕ) (slot : List ℕ) (at : Coord) → Contains written at → MakesLive shape number slot at → is_live shape written number slot ≡ true
into_live shape written number slot at found makes =
    list_any-from_Any (λ (at : Coord). makes_live (kind_at shape.nodes number) (path shape at number) slot) written (found.0, at, found.1, found.2, makes)
