-- The slots of nodes are numbered from 0 to below the product of the sizes.
use Rattle.std.proofs.Common.{◌≡◌, ℕ, zero, suc, ◌+◌, ◌*◌, ◌/◌, ◌%◌, ◌<◌, List, [], ◌∷◌, get_or, take, refl, sym, ap, ◌∙◌, subst, arith}
use Rattle.std.proofs.Math.Nat.{pos_of_ne-zero}
use Rattle.std.proofs.lemmas.Nat.{mul-add-lt, div-mul-add, mod-mul-add, div_below, mod_below, div-add-mod'}
use Rattle.std.proofs.lemmas.List.FromFn.{length-map-range_with_len, get_or-map-range_with_len}
use Rattle.sg_layout.specs.declared.shape.NodeShape.{NodeShape}
use Rattle.sg_layout.specs.Axes.{size_of, slots_of}
use Rattle.sg_layout.specs.Slots.{IsSlot, slot_number, slot_at, slots}
use Rattle.sg_layout.specs.PathLaws.{SlotHasNumber, NumberHasSlot, SlotsAreListed, SlotsAreCounted, SlotsAreInOrder}

-- a list by its head and its rest
pub same_cons : (a b : ℕ) (x y : List ℕ) → a ≡ b → x ≡ y → a ∷ x ≡ b ∷ y
same_cons a b x y p q = ap (λ n. n ∷ x) p ∙ ap (λ z. b ∷ z) q

pub slot_has_number : (nodes : List NodeShape) → SlotHasNumber nodes
slot_has_number [] [] is = (omega arith, refl)
slot_has_number [] (offset ∷ slot) is = absurd is
slot_has_number (node ∷ later) [] is = absurd is
slot_has_number (node ∷ later) (offset ∷ slot) is =
    let rest = slot_has_number later slot is.1 in
    let below = mul-add-lt offset (slots_of later) (slot_number later slot) (size_of node.sizes) is.0 rest.0 in
    let first = div-mul-add offset (slots_of later) (slot_number later slot) rest.0 in
    let second = mod-mul-add offset (slots_of later) (slot_number later slot) rest.0 in (
      omega (arith, below),
      same_cons _ offset _ slot first (ap (slot_at later) second ∙ rest.1),
    )

pub number_has_slot : (nodes : List NodeShape) → NumberHasSlot nodes
number_has_slot [] number below = (tt, omega arith)
number_has_slot (node ∷ later) number below =
    let some : 0 < slots_of later = pos_of_ne-zero (λ e. omega (arith, ap (λ s. size_of node.sizes * s) e)) in
    let first = div_below number (slots_of later) (size_of node.sizes) some below in
    let second = mod_below number (slots_of later) some in
    let rest = number_has_slot later (number % slots_of later) second in (
      (first, rest.0),
      ap (λ k. number / slots_of later * slots_of later + k) rest.1 ∙ div-add-mod' number (slots_of later),
    )

pub slots_are_counted : (nodes : List NodeShape) → SlotsAreCounted nodes
slots_are_counted nodes = length-map-range_with_len (slot_at nodes) 0 (slots_of nodes)

listed_at : (nodes : List NodeShape) (k : ℕ) (default : List ℕ) → k < slots_of nodes → get_or (slots nodes) k default ≡ slot_at nodes k
listed_at nodes k default below = get_or-map-range_with_len (slot_at nodes) 0 (slots_of nodes) k k default below (omega arith)

pub slots_are_listed : (nodes : List NodeShape) → SlotsAreListed nodes
slots_are_listed nodes slot = (
  (λ found.
      let below : found.0 < slots_of nodes = omega (arith, slots_are_counted nodes, found.1) in
      subst (λ s. IsSlot nodes s) (sym (listed_at nodes found.0 slot below) ∙ found.2) (number_has_slot nodes found.0 below).0),
  (λ is.
      let number = slot_has_number nodes slot is in
      (slot_number nodes slot, omega (arith, slots_are_counted nodes, number.0), listed_at nodes (slot_number nodes slot) slot number.0 ∙ number.1)),
)

pub slots_are_in_order : (nodes : List NodeShape) → SlotsAreInOrder nodes
slots_are_in_order nodes i j default before below =
    let last : j < slots_of nodes = omega (arith, slots_are_counted nodes) in
    let first : i < slots_of nodes = omega arith in
    let left : slot_number nodes (get_or (slots nodes) i default) ≡ i = ap (slot_number nodes) (listed_at nodes i default first) ∙ (number_has_slot nodes i first).1 in
    let right : slot_number nodes (get_or (slots nodes) j default) ≡ j = ap (slot_number nodes) (listed_at nodes j default last) ∙ (number_has_slot nodes j last).1 in
    omega arith

-- a slot's first offsets are a slot of the nodes there
pub slot_through : (through : ℕ) (nodes : List NodeShape) (slot : List ℕ) → IsSlot nodes slot → IsSlot (take through nodes) (take through slot)
slot_through zero nodes slot is = tt
slot_through (suc n) [] [] is = is
slot_through (suc n) [] (offset ∷ slot) is = absurd is
slot_through (suc n) (node ∷ later) [] is = absurd is
slot_through (suc n) (node ∷ later) (offset ∷ slot) is = (is.0, slot_through n later slot is.1)
