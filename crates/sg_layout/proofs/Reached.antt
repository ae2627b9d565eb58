-- What a need counts are live slots.
use Rattle.std.proofs.Common.{◌≡◌, ◌≢◌, ℕ, suc, ◌+◌, ◌-◌, ◌≤◌, true, false, eqb, List, [], ◌∷◌, ◌++◌, length, get_or, map, take, refl, sym, ap, ◌∙◌, subst, arith, inl, inr}
use Rattle.std.specs.List.{Contains}
use Rattle.std.specs.Cmp.Lexicographic.{bytes_decides}
use Rattle.std.proofs.lemmas.Bool.{and_parts, and_from, eq-eqb, le-leb}
use Rattle.std.proofs.lemmas.List.{take_at, take_more, length_push, get_or_push}
use Rattle.sg_coord.specs.declared.coord.Coord.{Coord}
use Rattle.sg_layout.specs.declared.shape.Kind.{Kind}
use Rattle.sg_layout.specs.declared.shape.Kind.TheVariants.{Dense, Bitmasked, Pointer, Hash, Dynamic}
use Rattle.sg_layout.specs.declared.shape.Shape.{Shape}
use Rattle.sg_layout.specs.Path.{offsets, path}
use Rattle.sg_layout.specs.Live.{is_at_or_below, makes_live, kind_at, is_live}
use Rattle.sg_layout.specs.Need.{reached_slots, under_slot}
use Rattle.sg_layout.specs.NeedLaws.{IsNumberedDynamicNode, ReachedAreLive, ReachedOnce, ParentsHaveLive, LiveUpToGreatest}
use Rattle.sg_layout.proofs.Slots.{from_live, into_live, live_itself}
use Rattle.sg_layout.proofs.Distinct.{into_distinct, from_distinct, distinct_once, once_pairs}
use Rattle.sg_words.proofs.Uses.{into_map, from_map}
use Rattle.sg_layout.proofs.Paths.{offsets_long}
use Rattle.sg_layout.proofs.Needs.{offset_there, into_under, from_under, greatest_member, fold_reached, below_take, below_last, path_front, path_long, path_offset}

-- the reached slots are the paths of the list
from_reached : (shape : Shape) (written : List Coord) (number : ℕ) (slot : List ℕ) → Contains (reached_slots shape written number) slot → (at : Coord) × Contains written at × (path shape at number ≡ slot)
from_reached shape written number slot has =
    from_map (λ (at : Coord). path shape at number) written slot (from_distinct (map (λ at. path shape at number) written) slot has)

into_reached : (shape : Shape) (written : List Coord) (number : ℕ) (slot : List ℕ) (at : Coord) → Contains written at → path shape at number ≡ slot → Contains (reached_slots shape written number) slot
into_reached shape written number slot at has same =
    into_distinct (map (λ at. path shape at number) written) slot
    (subst (λ s. Contains (map (λ at. path shape at number) written) s) same (into_map (λ (at : Coord). path shape at number) written at has))

-- at a node that isn't dynamic a slot makes itself live alone
live_alone : (kind : Kind) (x y : List ℕ) → kind ≢ Dynamic → makes_live kind x y ≡ true → x ≡ y
live_alone Dynamic x y other live = absurd (other refl)
live_alone Dense x y other live = (bytes_decides x y).0 live
live_alone Bitmasked x y other live = (bytes_decides x y).0 live
live_alone Pointer x y other live = (bytes_decides x y).0 live
live_alone Hash x y other live = (bytes_decides x y).0 live

pub reached_are_live : (shape : Shape) → ReachedAreLive shape
reached_are_live shape written number other slot = (
  (λ has.
      let found = from_reached shape written number slot has in
      into_live shape written number slot found.0 found.1
      (subst (λ s. makes_live (kind_at shape.nodes number) (path shape found.0 number) s ≡ true) found.2 (live_itself (kind_at shape.nodes number) (path shape found.0 number)))),
  (λ live.
      let found = from_live shape written number slot live in
      into_reached shape written number slot found.0 found.1 (live_alone (kind_at shape.nodes number) (path shape found.0 number) slot other found.2)),
)

pub reached_once : (shape : Shape) → ReachedOnce shape
reached_once shape written number = once_pairs (reached_slots shape written number) (distinct_once (map (λ at. path shape at number) written))

-- slots that differ by the last offset at most have one length
below_long : (x y : List ℕ) → is_at_or_below x y ≡ true → length x ≡ length y
below_long [] [] below = refl
below_long [] (c ∷ y) below = cc
below_long (a ∷ []) [] below = cc
below_long (a ∷ []) (c ∷ []) below = refl
below_long (a ∷ []) (c ∷ d ∷ y) below = (let parts = and_parts (eqb a c) false below in cc)
below_long (a ∷ b ∷ x) [] below = cc
below_long (a ∷ b ∷ x) (c ∷ []) below = (let parts = and_parts (eqb a c) false below in cc)
below_long (a ∷ b ∷ x) (c ∷ d ∷ y) below = (let parts = and_parts (eqb a c) (is_at_or_below (b ∷ x) (d ∷ y)) below in ap suc (below_long (b ∷ x) (d ∷ y) parts.1))

-- a slot is at or below one with the same parent and an offset that isn't less
below_step : (p a b : ℕ) (x y : List ℕ) → is_at_or_below (a ∷ x) (b ∷ y) ≡ true → is_at_or_below (p ∷ a ∷ x) (p ∷ b ∷ y) ≡ true
below_step p a b x y below = and_from (eqb p p) (is_at_or_below (a ∷ x) (b ∷ y)) (eq-eqb p p refl) below

below_push : (parent : List ℕ) (i j : ℕ) → j ≤ i → is_at_or_below (parent ++ i ∷ []) (parent ++ j ∷ []) ≡ true
below_push [] i j below = le-leb j i below
below_push (p ∷ []) i j below = below_step p i j [] [] (le-leb j i below)
below_push (p ∷ q ∷ parent) i j below = below_step p q q (parent ++ i ∷ []) (parent ++ j ∷ []) (below_push (q ∷ parent) i j below)

-- the slot of a coordinate at a dynamic node: its parent and its offset
slot_split : (shape : Shape) (number : ℕ) (at : Coord) → 1 ≤ number → number ≤ length shape.nodes → path shape at number ≡ path shape at (number - 1) ++ offset_there shape number at ∷ []
slot_split shape number at first within =
    let place : number - 1 + 1 ≡ number = omega arith in
    ap (λ n. take n (offsets shape.nodes at)) (sym place) ∙ take_more (offsets shape.nodes at) (number - 1) 0 (omega (arith, offsets_long shape.nodes at))

-- a live slot under a parent, at a dynamic node
makes_dynamic : (shape : Shape) (number : ℕ) (x y : List ℕ) → kind_at shape.nodes number ≡ Dynamic → makes_live (kind_at shape.nodes number) x y ≡ true → is_at_or_below x y ≡ true
makes_dynamic shape number x y dynamic live = subst (λ k. makes_live k x y ≡ true) dynamic live

from_dynamic : (shape : Shape) (number : ℕ) (x y : List ℕ) → kind_at shape.nodes number ≡ Dynamic → is_at_or_below x y ≡ true → makes_live (kind_at shape.nodes number) x y ≡ true
from_dynamic shape number x y dynamic below = subst (λ k. makes_live k x y ≡ true) (sym dynamic) below

-- a coordinate that makes an index under a parent live is under this parent, at that index or past it
live_under : (shape : Shape) (number : ℕ) (parent : List ℕ) (index : ℕ) (at : Coord) → IsNumberedDynamicNode shape number → makes_live (kind_at shape.nodes number) (path shape at number) (parent ++ index ∷ []) ≡ true → (path shape at (number - 1) ≡ parent) × (index ≤ offset_there shape number at)
live_under shape number parent index at is live =
    let below = makes_dynamic shape number (path shape at number) (parent ++ index ∷ []) is.dynamic live in
    let long = path_long shape at number is.within in
    let pushed = length_push parent index in
    let parent_long : length parent ≡ number - 1 = omega (arith, below_long (path shape at number) (parent ++ index ∷ []) below) in
    let front : take (number - 1) (path shape at number) ≡ take (number - 1) (parent ++ index ∷ []) = below_take (path shape at number) (parent ++ index ∷ []) (number - 1) below (omega (arith, is.first)) in
    let last : get_or (parent ++ index ∷ []) (number - 1) 0 ≤ get_or (path shape at number) (number - 1) 0 = below_last (path shape at number) (parent ++ index ∷ []) (number - 1) below (omega (arith, is.first)) in
    let here : get_or (parent ++ index ∷ []) (number - 1) 0 ≡ index = get_or_push parent index 0 (number - 1) parent_long in
    let there : get_or (path shape at number) (number - 1) 0 ≡ offset_there shape number at = path_offset shape at (number - 1) number (omega (arith, is.first)) in (
      path_front shape at (number - 1) number (omega arith) ∙ front ∙ take_at parent (index ∷ []) (number - 1) parent_long,
      omega arith,
    )

-- an index up to that of a coordinate under the parent is live
live_up_to : (shape : Shape) (written : List Coord) (number : ℕ) (parent : List ℕ) (index : ℕ) (at : Coord) → IsNumberedDynamicNode shape number → Contains written at → path shape at (number - 1) ≡ parent → index ≤ offset_there shape number at → is_live shape written number (parent ++ index ∷ []) ≡ true
live_up_to shape written number parent index at is has same below =
    let split : path shape at number ≡ parent ++ offset_there shape number at ∷ [] = slot_split shape number at is.first is.within ∙ ap (λ p. p ++ offset_there shape number at ∷ []) same in
    let reaches : is_at_or_below (path shape at number) (parent ++ index ∷ []) ≡ true = subst (λ s. is_at_or_below s (parent ++ index ∷ []) ≡ true) (sym split) (below_push parent (offset_there shape number at) index below) in
    into_live shape written number (parent ++ index ∷ []) at has (from_dynamic shape number (path shape at number) (parent ++ index ∷ []) is.dynamic reaches)

pub parents_have_live : (shape : Shape) → ParentsHaveLive shape
parents_have_live shape written number is parent = (
  (λ has.
      let found = from_reached shape written (number - 1) parent has in
      (offset_there shape number found.0, live_up_to shape written number parent (offset_there shape number found.0) found.0 is found.1 found.2 (omega arith))),
  (λ live.
      let found = from_live shape written number (parent ++ live.0 ∷ []) live.1 in
      into_reached shape written (number - 1) parent found.0 found.1 (live_under shape number parent live.0 found.0 is found.2).0),
)

pub live_up_to_greatest : (shape : Shape) → LiveUpToGreatest shape
live_up_to_greatest shape written number is parent reached index = (
  (λ live.
      let found = from_live shape written number (parent ++ index ∷ []) live in
      let under = live_under shape number parent index found.0 is found.2 in
      let most = greatest_member shape number (under_slot shape written (number - 1) parent) found.0 (into_under shape written (number - 1) parent found.0 found.1 under.0) in
      omega (arith, under.1)),
  (λ below. elim (fold_reached 0 (map (offset_there shape number) (under_slot shape written (number - 1) parent))) [
    | inl none ↦
        let found = from_reached shape written (number - 1) parent reached in
        live_up_to shape written number parent index found.0 is found.1 found.2 (omega (arith, none))
    | inr has ↦
        let found = from_map (offset_there shape number) (under_slot shape written (number - 1) parent) _ has in
        let here = from_under shape written (number - 1) parent found.0 found.1 in
        live_up_to shape written number parent index found.0 is here.0 here.1 (omega (arith, found.2))
  ]),
)
