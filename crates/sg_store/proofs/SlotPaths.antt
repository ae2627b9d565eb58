-- Slots of nodes, and the paths that make them live.
use Rattle.std.proofs.Common.{◌≡◌, ◌≢◌, ℕ, zero, suc, ◌<◌, ◌≤◌, Bool, true, false, List, [], ◌∷◌, length, take, get_or, refl, sym, ap, ◌∙◌, arith}
use Rattle.std.specs.Str.{bytes_eq}
use Rattle.std.specs.Cmp.Lexicographic.{bytes_decides}
use Rattle.std.proofs.lemmas.Bool.Decides.{same_from_decides}
use Rattle.std.proofs.lemmas.List.Folds.{Any-from_list_any, list_any-from_Any}
use Rattle.std.proofs.lemmas.List.{get_or_default}
use Rattle.sg_coord.specs.declared.coord.Coord.{Coord}
use Rattle.sg_layout.specs.declared.shape.Kind.{Kind}
use Rattle.sg_layout.specs.declared.shape.Kind.TheVariants.{Dense, Bitmasked, Pointer, Hash, Dynamic}
use Rattle.sg_layout.specs.declared.shape.NodeShape.{NodeShape}
use Rattle.sg_layout.specs.declared.shape.Shape.{Shape}
use Rattle.sg_layout.specs.Path.{path}
use Rattle.sg_layout.specs.Live.{kind_at, makes_live, is_live}
use Rattle.sg_layout.specs.Slots.{IsSlot}
use Rattle.sg_store.specs.steps.Walking.{AreOffsets}

pub slot_offsets : (nodes : List NodeShape) (n : ℕ) (slot : List ℕ) → IsSlot (take n nodes) slot → AreOffsets nodes slot
slot_offsets nodes n [] is = tt
slot_offsets [] zero (o ∷ slot) is = absurd is
slot_offsets [] (suc n) (o ∷ slot) is = absurd is
slot_offsets (node ∷ later) zero (o ∷ slot) is = absurd is
slot_offsets (node ∷ later) (suc n) (o ∷ slot) is = (is.0, slot_offsets later n slot is.1)

pub slot_long : (nodes : List NodeShape) (n : ℕ) (slot : List ℕ) → n ≤ length nodes → IsSlot (take n nodes) slot → length slot ≡ n
slot_long nodes zero [] within is = refl
slot_long [] (suc n) slot within is = absurd (omega (arith, within))
slot_long (node ∷ later) (suc n) [] within is = absurd is
slot_long [] zero (o ∷ slot) within is = absurd is
slot_long (node ∷ later) zero (o ∷ slot) within is = absurd is
slot_long (node ∷ later) (suc n) (o ∷ slot) within is = ap suc (slot_long later n slot (omega (arith, within)) is.1)

-- at a node that isn't dynamic a path makes its own slot live alone
pub live_alone : (kind : Kind) (x y : List ℕ) → kind ≢ Dynamic → makes_live kind x y ≡ bytes_eq x y
live_alone Dense x y other = refl
live_alone Bitmasked x y other = refl
live_alone Pointer x y other = refl
live_alone Hash x y other = refl
live_alone Dynamic x y other = absurd (other refl)

-- a slot is live where some coordinate has it as its path
pub live_from_path : (shape : Shape) (coords : List Coord) (number : ℕ) (slot : List ℕ) → kind_at shape.nodes number ≢ Dynamic → (k : ℕ) (d : Coord) → k < length coords → path shape (get_or coords k d) number ≡ slot → is_live shape coords number slot ≡ true
live_from_path shape coords number slot other k d below same =
    list_any-from_Any _ coords (
      k,
      get_or coords k d,
      below,
      get_or_default coords k (get_or coords k d) d below,
      live_alone (kind_at shape.nodes number) (path shape (get_or coords k d) number) slot other ∙ (bytes_decides _ slot).1 same,
    )

-- and only there
pub path_from_live : (shape : Shape) (coords : List Coord) (number : ℕ) (slot : List ℕ) → kind_at shape.nodes number ≢ Dynamic → is_live shape coords number slot ≡ true → (k : ℕ) × (d : Coord) × (k < length coords) × (path shape (get_or coords k d) number ≡ slot)
path_from_live shape coords number slot other live =
    let found = Any-from_list_any _ coords live in
    let at : Coord = found.1 in
    let makes : bytes_eq (path shape at number) slot ≡ true = sym (live_alone (kind_at shape.nodes number) (path shape at number) slot other) ∙ found.4 in
    (found.0, at, found.2, ap (λ c. path shape c number) found.3 ∙ (bytes_decides (path shape at number) slot).0 makes)

-- tests
pub same_bool : (a b : Bool) → (a ≡ true → b ≡ true) → (b ≡ true → a ≡ true) → a ≡ b
same_bool a b there back = same_from_decides a b (there, back) ((λ e. e), (λ e. e))

pub not_true : (b : Bool) → (b ≡ true → ⊥) → b ≡ false
not_true true h = absurd (h refl)
not_true false h = refl
