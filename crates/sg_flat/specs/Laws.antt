-- What writes to one cell leave in it, and which points a box has.
use Rattle.std.specs.Prelude.{◌≡◌, ◌↔◌, ℕ, ℤ, pos, ◌≤ℤ◌, ◌<ℤ◌, nat_le, Bool, true, false, List, ◌∷◌, map, length, All, AllPairs, Contains, slice_index}
use Rattle.std.specs.List.{fold}
use Rattle.sg_coord.specs.declared.coord.Coord.{Coord}
use Rattle.sg_coord.specs.Coord.{ComesBefore}
use Rattle.sg_words.specs.declared.operators.Ty.{Ty}
use Rattle.sg_words.specs.declared.operators.AccOp.{AccOp}
use Rattle.sg_words.specs.Words.{folded}
use Rattle.sg_flat.specs.declared.effects.Way.TheVariants.{Own, Acc}
use Rattle.sg_flat.specs.declared.effects.Write.{Write}
use Rattle.sg_flat.specs.Domain.{box_points}
use Rattle.sg_flat.specs.Effects.{landed}

-- the values of writes, in order
abbrev pub values_of : List Write → List ℕ
values_of writes = map (λ write. write.value) writes

-- if all writes are own, the last value stays, and the old word if there is none
abbrev pub LastValueStays : Ty → ℕ → List Write → Type 0
LastValueStays ty old writes = All (λ write. write.way ≡ Own) writes → landed ty old writes ≡ slice_index (old ∷ values_of writes) (length writes)

-- if all writes are contributions by one operator, they leave its fold over the old word and their values
abbrev pub ContributionsFold : AccOp → Ty → ℕ → List Write → Type 0
ContributionsFold op ty old writes = All (λ write. write.way ≡ Acc op) writes → landed ty old writes ≡ fold (folded op ty) old (values_of writes)

-- a part is in the range of its axis, and 0 on an axis that isn't there
abbrev pub IsPartOf : Bool → ℤ → ℤ → ℤ → Type 0
IsPartOf true lo hi part = (lo ≤ℤ part) × (part <ℤ hi)
IsPartOf false lo hi part = part ≡ pos 0

-- the coordinate has the box's number of axes, and its parts are in the ranges
pub record IsInBox (lo hi at : Coord) : Type 0 where
  pub same_axes : at.n ≡ lo.n
  pub a_part : IsPartOf (nat_le 1 lo.n) lo.a hi.a at.a
  pub b_part : IsPartOf (nat_le 2 lo.n) lo.b hi.b at.b
  pub c_part : IsPartOf (nat_le 3 lo.n) lo.c hi.c at.c

-- the points of a box are exactly the coordinates in it
abbrev pub BoxIsRanges : Coord → Coord → Type 0
BoxIsRanges lo hi = (at : Coord) → Contains (box_points lo hi) at ↔ IsInBox lo hi at

-- of two points of a box the earlier comes before the later in row order, so each is there once
abbrev pub BoxIsInOrder : Coord → Coord → Type 0
BoxIsInOrder lo hi = AllPairs ComesBefore (box_points lo hi)
