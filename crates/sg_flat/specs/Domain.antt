use Rattle.std.specs.Prelude.{◌≡◌, refl, ℕ, ℤ, pos, ◌+ℤ◌, ◌-ℤ◌, ◌==◌, ◌&&◌, Bool, true, false, List, [], ◌∷◌, map, if◌then◌else◌, nat_le, Option, Some, None, slice_get}
use Rattle.std.specs.Ordering.{int_eq}
use Rattle.std.specs.List.{flat_map, list_any, range_with_len}
use Rattle.sg_coord.specs.declared.coord.Coord.{Coord}
use Rattle.sg_layout.specs.Axes.{count_of}
use Rattle.sg_flat.specs.declared.effects.Domain.{Domain}
use Rattle.sg_flat.specs.declared.effects.Domain.TheVariants.{Walk, Range}
use Rattle.sg_flat.specs.declared.state.FlatLayout.{FlatLayout}
use Rattle.sg_flat.specs.declared.state.FlatState.{FlatState}

-- the whole numbers from lo up to below hi: none if hi isn't above lo
abbrev pub numbers : ℤ → ℤ → List ℤ
numbers lo hi = map (λ k. lo +ℤ pos k) (range_with_len 0 (count_of (hi -ℤ lo)))

-- the parts of an axis in a box: the range's numbers, and 0 alone for an axis that isn't there
abbrev pub parts_of : Bool → ℤ → ℤ → List ℤ
parts_of used lo hi = if used then numbers lo hi else pos 0 ∷ []

-- the points of a box, in row order
abbrev pub box_points : Coord → Coord → List Coord
box_points lo hi =
    flat_map (λ a. flat_map (λ b. map (λ c. record { n = lo.n; a = a; b = b; c = c }) (parts_of (nat_le 3 lo.n) lo.c hi.c)) (parts_of (nat_le 2 lo.n) lo.b hi.b)) (parts_of (nat_le 1 lo.n) lo.a hi.a)

-- the active coordinates of a layout that may be there; none if it isn't
abbrev pub active_in : Option FlatLayout → List Coord
active_in None = []
active_in (Some layout) = layout.active

-- the points that a loop visits, in row order
abbrev pub domain_points : FlatState → Domain → List Coord
domain_points state (Walk number) = active_in (slice_get state.layouts number)
domain_points state (Range lo hi) = box_points lo hi

-- two coordinates are one
abbrev pub same_coord : Coord → Coord → Bool
same_coord x y = (x.n == y.n) && (int_eq x.a y.a && (int_eq x.b y.b && int_eq x.c y.c))

-- a coordinate is active in the layout with this number; none is if there is no such layout, and none outside its extents
abbrev pub is_active : FlatState → ℕ → Coord → Bool
is_active state layout at = list_any (same_coord at) (active_in (slice_get state.layouts layout))

-- worked equations: a layout in which 4 and 5 are active
abbrev two_active : FlatState
two_active = record { layouts = record { active = record { n = 1; a = pos 4; b = pos 0; c = pos 0 } ∷ record { n = 1; a = pos 5; b = pos 0; c = pos 0 } ∷ []; fields = [] } ∷ [] }

active_there : is_active two_active 0 (record { n = 1; a = pos 5; b = pos 0; c = pos 0 }) ≡ true
active_there = refl

not_there : is_active two_active 0 (record { n = 1; a = pos 6; b = pos 0; c = pos 0 }) ≡ false
not_there = refl

no_such_layout : is_active two_active 1 (record { n = 1; a = pos 5; b = pos 0; c = pos 0 }) ≡ false
no_such_layout = refl
