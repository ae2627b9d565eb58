-- Layouts with the same values: what holds of two of them before a run holds after it.
use Rattle.std.proofs.Common.{◌≡◌, ℕ, zero, suc, ◌+◌, ◌<◌, inl, inr, Bool, true, false, ◌&&◌, cond, eqb, ℤ, List, [], ◌∷◌, ◌++◌, map, Option, Some, None, Result, Ok, refl, sym, ap, ◌∙◌, subst, arith}
use Rattle.std.specs.Prelude.{Contains, filter, slice_get, if◌then◌else◌}
use Rattle.std.specs.List.{AllByRecursion, flat_map}
use Rattle.std.proofs.lemmas.Bool.{cases_eq, eqb-true, and_parts, both_ways}
use Rattle.std.proofs.lemmas.List.Sums.{AllPass-from_list_all}
use Rattle.std.proofs.lemmas.List.Elements.{All-contains, Contains-append_left, Contains-append_right}
use Rattle.sg_words.proofs.Uses.{fault_or-ok, contains_head, contains_rest, into_map, from_filter, into_filter}
use Rattle.sg_words.specs.declared.operators.Ty.{Ty}
use Rattle.sg_words.specs.declared.operators.Ty.TheVariants as ty
use Rattle.sg_words.specs.WordLaws.{NumberHasWord}
use Rattle.sg_coord.specs.declared.coord.Coord.{Coord}
use Rattle.sg_coord.specs.Bounds.{Bounds, volume}
use Rattle.sg_coord.specs.Coord.{Inside, is_inside, row_of, point_at}
use Rattle.sg_coord.specs.Laws.{InsideTest, PointInside, RowOfPoint, RowBelow, PointOfRow}
use Rattle.sg_layout.specs.declared.shape.Shape.{Shape}
use Rattle.sg_layout.specs.Axes.{bounds_of_shape}
use Rattle.sg_layout.specs.Closure.{is_in_closure, points, closure}
use Rattle.sg_layout.specs.ClosureLaws.{PointsAreInside, ClosureExtends}
use Rattle.sg_flat.specs.declared.effects.RunFault.{RunFault}
use Rattle.sg_flat.specs.declared.effects.Turn.{Turn}
use Rattle.sg_flat.specs.declared.effects.Write.{Write}
use Rattle.sg_flat.specs.declared.state.FlatLayout.{FlatLayout}
use Rattle.sg_flat.specs.declared.state.FlatState.{FlatState}
use Rattle.sg_flat.specs.Words.{word_at}
use Rattle.sg_flat.specs.Effects.{landed, is_to, writes_of, writes_to, written_in}
use Rattle.sg_flat.specs.State.{value_in, words_or_none, value_at, value_or_zero, value_of}
use Rattle.sg_flat.specs.Kernel.{is_inside_of, first_outside, first_full_layout, field_after, fields_after, layout_after, layouts_after, kernel_meaning}
use Rattle.sg_flat.proofs.Uses.{word_at-words_of, is_inside_its, all_inside}

-- the laws of words, coordinates and closures that this rests on
pub record FlatLaws : Type 0 where
  pub inside_test : InsideTest
  pub point_inside : PointInside
  pub row_of_point : RowOfPoint
  pub row_below : RowBelow
  pub point_of_row : PointOfRow
  pub points_inside : (bounds : Bounds) → PointsAreInside bounds
  pub extends : (shape : Shape) → ClosureExtends shape
  pub numbers_have_words : (z : ℤ) → NumberHasWord ty.I32 z

-- ---- one layout

-- each row with a word other than 0 is that of an active coordinate
abbrev pub HasActive : Shape → List Coord → List (ℕ × ℕ) → Type 0
HasActive shape active words = (row : ℕ) → row < volume (bounds_of_shape shape) → (word_at words row ≡ 0 → ⊥) → Contains active (point_at (bounds_of_shape shape) row)

-- the active coordinates are a closure, and each value other than 0 is at one of them
pub record IsValued (shape : Shape) (flat : FlatLayout) : Type 0 where
  pub given : List Coord
  pub closed : flat.active ≡ closure shape given
  pub valued : AllByRecursion (HasActive shape flat.active) flat.fields

zero_if : (b : Bool) (word : ℕ) → word ≡ 0 → (if b then word else 0) ≡ 0
zero_if true word none = none
zero_if false word none = refl

skipped : {X Y : Type 0} (p : X → Bool) (w : X → List Y) (xs : List X) → ((x : X) → Contains xs x → p x ≡ false → w x ≡ []) → flat_map w (filter p xs) ≡ flat_map w xs
skipped p w [] h = refl
skipped {X} {Y} p w (x ∷ xs) h = by_test (skipped p w xs (λ y there out. h y (contains_rest y x xs there) out)) (p x) refl
  where
    by_test : flat_map w (filter p xs) ≡ flat_map w xs → (b : Bool) → p x ≡ b → flat_map w (cond b (x ∷ filter p xs) (filter p xs)) ≡ w x ++ flat_map w xs
    by_test rest true is = ap (λ (ys : List Y). w x ++ ys) rest
    by_test rest false is = rest ∙ sym (ap (λ (ys : List Y). ys ++ flat_map w xs) (h x (contains_head x x xs refl) is))

-- the writes to the layout of a number are inside
abbrev pub StaysIn : ℕ → Shape → List Write → Type 0
StaysIn number shape writes = (write : Write) → Contains writes write → eqb write.layout number ≡ true → Inside (bounds_of_shape shape) write.at

module _ (laws : FlatLaws) where
  module _ (shape : Shape) (flat : FlatLayout) (is : IsValued shape flat) where
    abbrev bounds : Bounds
    bounds = bounds_of_shape shape

    -- a point that isn't active has no value other than 0
    zero_word : (at : Coord) → Inside (bounds_of_shape shape) at → is_in_closure shape is.given at ≡ false → (words : List (ℕ × ℕ)) → HasActive shape flat.active words → word_at words (row_of (bounds_of_shape shape) at) ≡ 0
    zero_word at inside out words has = elim (cases_eq (word_at words (row_of bounds at)) 0) [
      | inl none ↦ none
      | inr some ↦ (
          let row : Contains (closure shape is.given) (point_at bounds (row_of bounds at)) = subst (λ (ats : List Coord). Contains ats (point_at bounds (row_of bounds at))) is.closed (has (row_of bounds at) (laws.row_below bounds at inside) some) in
          let there : Contains (closure shape is.given) at = subst (λ (it : Coord). Contains (closure shape is.given) it) (laws.point_of_row bounds at inside) row in
          absurd (both_ways (is_in_closure shape is.given at) out (from_filter (is_in_closure shape is.given) (points bounds) at there).1)
          )
    ]

    zero_at : (at : Coord) → Inside (bounds_of_shape shape) at → is_in_closure shape is.given at ≡ false → (place : ℕ) (fields : List (List (ℕ × ℕ))) → AllByRecursion (HasActive shape flat.active) fields
        → value_in (bounds_of_shape shape) (words_or_none (slice_get fields place)) at ≡ 0
    zero_at at inside out zero [] all = zero_if (is_inside bounds at) 0 refl
    zero_at at inside out (suc place) [] all = zero_if (is_inside bounds at) 0 refl
    zero_at at inside out zero (words ∷ fields) all = zero_if (is_inside bounds at) (word_at words (row_of bounds at)) (zero_word at inside out words all.0)
    zero_at at inside out (suc place) (words ∷ fields) all = zero_at at inside out place fields all.1

    -- if nothing is written from points without values, the writes from the active coordinates are those from all points
    pub walk_writes : (w : Coord → List Write) → ((at : Coord) → Inside (bounds_of_shape shape) at → ((place : ℕ) → value_at shape flat place at ≡ 0) → w at ≡ []) → flat_map w flat.active ≡ flat_map w (points (bounds_of_shape shape))
    walk_writes w none =
        ap (flat_map w) is.closed
        ∙ skipped (is_in_closure shape is.given) w (points bounds)
        (λ at there out. let inside : Inside bounds at = (laws.points_inside bounds at).0 there in none at inside (λ place. zero_at at inside out place flat.fields is.valued))

  -- ---- a layout after a run

  module _ (number : ℕ) (shape : Shape) (flat : FlatLayout) (turns : List Turn) (stays : StaysIn number shape (writes_of turns)) where
    abbrev whole : Bounds
    whole = bounds_of_shape shape

    abbrev wanted : List Coord
    wanted = flat.active ++ written_in number turns

    kept : (row : ℕ) → row < volume (bounds_of_shape shape) → Contains (flat.active ++ written_in number turns) (point_at (bounds_of_shape shape) row) → Contains (closure shape (flat.active ++ written_in number turns)) (point_at (bounds_of_shape shape) row)
    kept row below there = laws.extends shape wanted (point_at whole row) there (laws.point_inside whole row below)

    row_active : (place : ℕ) (given : Ty) (words : List (ℕ × ℕ)) → HasActive shape flat.active words → (row : ℕ) → row < volume (bounds_of_shape shape)
        → (landed given (word_at words row) (writes_to (bounds_of_shape shape) number place row (writes_of turns)) ≡ 0 → ⊥) → Contains (closure shape (flat.active ++ written_in number turns)) (point_at (bounds_of_shape shape) row)
    row_active place given words has row below some = by_writes (writes_to whole number place row (writes_of turns)) refl
      where
        by_writes : (writes : List Write) → writes_to (bounds_of_shape shape) number place row (writes_of turns) ≡ writes → Contains (closure shape (flat.active ++ written_in number turns)) (point_at (bounds_of_shape shape) row)
        by_writes [] none = kept row below (Contains-append_left flat.active (written_in number turns) (point_at whole row) (has row below (λ zero. some (ap (landed given (word_at words row)) none ∙ zero))))
        by_writes (write ∷ writes) is =
            let found = from_filter (is_to whole number place row) (writes_of turns) write (subst (λ (ws : List Write). Contains ws write) (sym is) (contains_head write write writes refl)) in
            let parts = and_parts (eqb write.layout number) (eqb write.place place && eqb (row_of whole write.at) row) found.1 in
            let same_row = eqb-true (row_of whole write.at) row (and_parts (eqb write.place place) (eqb (row_of whole write.at) row) parts.1).1 in
            let at_row : write.at ≡ point_at whole row = sym (laws.point_of_row whole write.at (stays write found.0 parts.0)) ∙ ap (point_at whole) same_row in
            let there : Contains (written_in number turns) write.at = into_map (λ (w : Write). w.at) (filter (λ (w : Write). eqb w.layout number) (writes_of turns)) write (into_filter (λ (w : Write). eqb w.layout number) (writes_of turns) write found.0 parts.0) in
            kept row below (Contains-append_right flat.active (written_in number turns) (point_at whole row) (subst (λ (at : Coord). Contains (written_in number turns) at) at_row there))

    fields_active : (place : ℕ) (types : List Ty) (fields : List (List (ℕ × ℕ))) → AllByRecursion (HasActive shape flat.active) fields
        → AllByRecursion (HasActive shape (closure shape (flat.active ++ written_in number turns))) (fields_after (bounds_of_shape shape) number place types fields turns)
    fields_active place [] fields all = tt
    fields_active place (given ∷ types) [] all = tt
    fields_active place (given ∷ types) (words ∷ fields) all =
        let f : ℕ → ℕ = λ row. landed given (word_at words row) (writes_to whole number place row (writes_of turns)) in (
          λ row below some. row_active place given words all.0 row below (λ zero. some (word_at-words_of (volume whole) f row below ∙ zero)),
          fields_active (suc place) types fields all.1,
        )

    pub valued_after : IsValued shape flat → IsValued shape (layout_after number shape flat turns)
    valued_after is = record { given = wanted; closed = refl; valued = fields_active 0 shape.fields flat.fields is.valued }

-- the fields after a run depend on the writes alone
fields_of_writes : (extents : Bounds) (number place : ℕ) (types : List Ty) (fields : List (List (ℕ × ℕ))) (ones others : List Turn) → writes_of ones ≡ writes_of others
    → fields_after extents number place types fields ones ≡ fields_after extents number place types fields others
fields_of_writes extents number place [] fields ones others same = refl
fields_of_writes extents number place (given ∷ types) [] ones others same = refl
fields_of_writes extents number place (given ∷ types) (words ∷ fields) ones others same =
    ap (λ (ws : List Write). field_after extents number place given words ws ∷ fields_after extents number (suc place) types fields ones) same
    ∙ ap (λ (fs : List (List (ℕ × ℕ))). field_after extents number place given words (writes_of others) ∷ fs) (fields_of_writes extents number (suc place) types fields ones others same)

-- ---- two layouts

-- a layout of the one program beside that of the other
pub record Pair : Type 0 where
  pub one_shape : Shape
  pub other_shape : Shape
  pub one : FlatLayout
  pub other : FlatLayout

-- they have the same extents and fields, and the same values
pub record IsSame (pair : Pair) : Type 0 where
  pub bounds : bounds_of_shape pair.one_shape ≡ bounds_of_shape pair.other_shape
  pub types : pair.one_shape.fields ≡ pair.other_shape.fields
  pub fields : pair.one.fields ≡ pair.other.fields
  pub one_valued : IsValued pair.one_shape pair.one
  pub other_valued : IsValued pair.other_shape pair.other

abbrev pub one_shapes : List Pair → List Shape
one_shapes pairs = map (λ pair. pair.one_shape) pairs

abbrev pub other_shapes : List Pair → List Shape
other_shapes pairs = map (λ pair. pair.other_shape) pairs

abbrev pub ones : List Pair → List FlatLayout
ones pairs = map (λ pair. pair.one) pairs

abbrev pub others : List Pair → List FlatLayout
others pairs = map (λ pair. pair.other) pairs

-- two states whose layouts are such
pub record AreSame (shapes shapes' : List Shape) (state state' : FlatState) : Type 0 where
  pub pairs : List Pair
  pub shapes_are : shapes ≡ one_shapes pairs
  pub shapes_are' : shapes' ≡ other_shapes pairs
  pub state_is : state.layouts ≡ ones pairs
  pub state_is' : state'.layouts ≡ others pairs
  pub all : AllByRecursion IsSame pairs

pub value_same : (pair : Pair) → IsSame pair → (place : ℕ) (at : Coord) → value_at pair.one_shape pair.one place at ≡ value_at pair.other_shape pair.other place at
value_same pair same place at =
    ap (λ (b : Bounds). value_in b (words_or_none (slice_get pair.one.fields place)) at) same.bounds
    ∙ ap (λ (fs : List (List (ℕ × ℕ))). value_in (bounds_of_shape pair.other_shape) (words_or_none (slice_get fs place)) at) same.fields

pairs_values : (pairs : List Pair) → AllByRecursion IsSame pairs → (number place : ℕ) (at : Coord)
    → value_or_zero (slice_get (one_shapes pairs) number) (slice_get (ones pairs) number) place at ≡ value_or_zero (slice_get (other_shapes pairs) number) (slice_get (others pairs) number) place at
pairs_values [] all zero place at = refl
pairs_values [] all (suc number) place at = refl
pairs_values (pair ∷ pairs) all zero place at = value_same pair all.0 place at
pairs_values (pair ∷ pairs) all (suc number) place at = pairs_values pairs all.1 number place at

pub values_same : (shapes shapes' : List Shape) (state state' : FlatState) → AreSame shapes shapes' state state' → (number place : ℕ) (at : Coord) → value_of shapes state number place at ≡ value_of shapes' state' number place at
values_same shapes shapes' state state' same number place at =
    ap (λ (ss : List Shape). value_or_zero (slice_get ss number) (slice_get state.layouts number) place at) same.shapes_are
    ∙ ap (λ (ls : List FlatLayout). value_or_zero (slice_get (one_shapes same.pairs) number) (slice_get ls number) place at) same.state_is
    ∙ pairs_values same.pairs same.all number place at
    ∙ sym (ap (λ (ss : List Shape). value_or_zero (slice_get ss number) (slice_get state'.layouts number) place at) same.shapes_are'
    ∙ ap (λ (ls : List FlatLayout). value_or_zero (slice_get (other_shapes same.pairs) number) (slice_get ls number) place at) same.state_is')

-- ---- after runs with the same writes

abbrev after_runs : ℕ → List Turn → List Turn → List Pair → List Pair
after_runs number turns turns' [] = []
after_runs number turns turns' (pair ∷ pairs) =
    record {
      one_shape = pair.one_shape;
      other_shape = pair.other_shape;
      one = layout_after number pair.one_shape pair.one turns;
      other = layout_after number pair.other_shape pair.other turns';
    }
    ∷ after_runs (suc number) turns turns' pairs

module _ (laws : FlatLaws) (turns turns' : List Turn) (same : writes_of turns ≡ writes_of turns') where
  pair_after : (number : ℕ) (pair : Pair) → IsSame pair → StaysIn number pair.one_shape (writes_of turns) → StaysIn number pair.other_shape (writes_of turns')
      → IsSame (record { one_shape = pair.one_shape; other_shape = pair.other_shape; one = layout_after number pair.one_shape pair.one turns; other = layout_after number pair.other_shape pair.other turns' })
  pair_after number pair is stays stays' = record {
    bounds = is.bounds;
    types = is.types;
    fields = ap (λ (b : Bounds). fields_after b number 0 pair.one_shape.fields pair.one.fields turns) is.bounds
        ∙ ap (λ (types : List Ty). fields_after (bounds_of_shape pair.other_shape) number 0 types pair.one.fields turns) is.types
        ∙ ap (λ (fields : List (List (ℕ × ℕ))). fields_after (bounds_of_shape pair.other_shape) number 0 pair.other_shape.fields fields turns) is.fields
        ∙ fields_of_writes (bounds_of_shape pair.other_shape) number 0 pair.other_shape.fields pair.other.fields turns turns' same;
    one_valued = valued_after laws number pair.one_shape pair.one turns stays is.one_valued;
    other_valued = valued_after laws number pair.other_shape pair.other turns' stays' is.other_valued;
  }

  -- each layout, by its number, is not written outside
  abbrev EachStays : ℕ → List Shape → List Write → Type 0
  EachStays number shapes writes = (k : ℕ) (shape : Shape) → slice_get shapes k ≡ Some shape → StaysIn (number + k) shape writes

  stays_on : (number : ℕ) (shape : Shape) (shapes : List Shape) (writes : List Write) → EachStays number (shape ∷ shapes) writes → EachStays (suc number) shapes writes
  stays_on number shape shapes writes each k it is = let next : number + suc k ≡ suc number + k = omega arith in subst (λ n. StaysIn n it writes) next (each (suc k) it is)

  stays_here : (number : ℕ) (shape : Shape) (shapes : List Shape) (writes : List Write) → EachStays number (shape ∷ shapes) writes → StaysIn number shape writes
  stays_here number shape shapes writes each = let first : number + 0 ≡ number = omega arith in subst (λ n. StaysIn n shape writes) first (each 0 shape refl)

  all_after : (number : ℕ) (pairs : List Pair) → AllByRecursion IsSame pairs → EachStays number (one_shapes pairs) (writes_of turns) → EachStays number (other_shapes pairs) (writes_of turns')
      → AllByRecursion IsSame (after_runs number turns turns' pairs)
  all_after number [] all each each' = tt
  all_after number (pair ∷ pairs) all each each' = (
    pair_after number pair all.0 (stays_here number pair.one_shape (one_shapes pairs) (writes_of turns) each) (stays_here number pair.other_shape (other_shapes pairs) (writes_of turns') each'),
    all_after (suc number) pairs all.1 (stays_on number pair.one_shape (one_shapes pairs) (writes_of turns) each) (stays_on number pair.other_shape (other_shapes pairs) (writes_of turns') each'),
  )

one_shapes_after : (number : ℕ) (turns turns' : List Turn) (pairs : List Pair) → one_shapes pairs ≡ one_shapes (after_runs number turns turns' pairs)
one_shapes_after number turns turns' [] = refl
one_shapes_after number turns turns' (pair ∷ pairs) = ap (λ (ss : List Shape). pair.one_shape ∷ ss) (one_shapes_after (suc number) turns turns' pairs)

other_shapes_after : (number : ℕ) (turns turns' : List Turn) (pairs : List Pair) → other_shapes pairs ≡ other_shapes (after_runs number turns turns' pairs)
other_shapes_after number turns turns' [] = refl
other_shapes_after number turns turns' (pair ∷ pairs) = ap (λ (ss : List Shape). pair.other_shape ∷ ss) (other_shapes_after (suc number) turns turns' pairs)

ones_after : (number : ℕ) (turns turns' : List Turn) (pairs : List Pair) → layouts_after number (one_shapes pairs) (ones pairs) turns ≡ ones (after_runs number turns turns' pairs)
ones_after number turns turns' [] = refl
ones_after number turns turns' (pair ∷ pairs) = ap (λ (ls : List FlatLayout). layout_after number pair.one_shape pair.one turns ∷ ls) (ones_after (suc number) turns turns' pairs)

others_after : (number : ℕ) (turns turns' : List Turn) (pairs : List Pair) → layouts_after number (other_shapes pairs) (others pairs) turns' ≡ others (after_runs number turns turns' pairs)
others_after number turns turns' [] = refl
others_after number turns turns' (pair ∷ pairs) = ap (λ (ls : List FlatLayout). layout_after number pair.other_shape pair.other turns' ∷ ls) (others_after (suc number) turns turns' pairs)

-- if no write is outside, each layout is written inside
each_stays : (laws : FlatLaws) (shapes : List Shape) (turns : List Turn) → first_outside shapes turns ≡ None → (k : ℕ) (shape : Shape) → slice_get shapes k ≡ Some shape → StaysIn k shape (writes_of turns)
each_stays laws shapes turns none k shape is write there to =
    let passes : is_inside_its shapes write ≡ true = All-contains (λ (w : Write). is_inside_its shapes w ≡ true) (writes_of turns) write (AllPass-from_list_all (is_inside_its shapes) (writes_of turns) (all_inside shapes turns none)) there in
    let found : slice_get shapes write.layout ≡ Some shape = ap (slice_get shapes) (eqb-true write.layout k to) ∙ is in
    (laws.inside_test (bounds_of_shape shape) write.at).0 (sym (ap (λ (o : Option Shape). is_inside_of o write.at) found) ∙ passes)

-- a run that isn't refused writes nothing outside, and leaves the layouts after it
pub record HasRun (shapes : List Shape) (state : FlatState) (turns : List Turn) (after : FlatState) : Type 0 where
  pub outside : first_outside shapes turns ≡ None
  pub layouts : after.layouts ≡ layouts_after 0 shapes state.layouts turns

abbrev state_of : Result FlatState RunFault → FlatState → FlatState
state_of (Ok state) default = state
state_of _ default = default

has_run : (shapes : List Shape) (state : FlatState) (turns : List Turn) (after : FlatState) → kernel_meaning shapes state (record { turns = turns }) ≡ Ok after → HasRun shapes state turns after
has_run shapes state turns after e =
    let first = fault_or-ok (first_outside shapes turns) _ after e in
    let second = fault_or-ok (first_full_layout 0 shapes state.layouts turns) _ after first.1 in
    record { outside = first.0; layouts = sym (ap (λ (r : Result FlatState RunFault). (state_of r after).layouts) second.1) }

pub run_same : (laws : FlatLaws) (shapes shapes' : List Shape) (state state' after after' : FlatState) (turns turns' : List Turn) → AreSame shapes shapes' state state'
    → kernel_meaning shapes state (record { turns = turns }) ≡ Ok after → kernel_meaning shapes' state' (record { turns = turns' }) ≡ Ok after' → writes_of turns ≡ writes_of turns' → AreSame shapes shapes' after after'
run_same laws shapes shapes' state state' after after' turns turns' same e e' writes =
    let run = has_run shapes state turns after e in
    let run' = has_run shapes' state' turns' after' e' in
    let pairs = same.pairs in
    let each : (k : ℕ) (shape : Shape) → slice_get (one_shapes pairs) k ≡ Some shape → StaysIn (0 + k) shape (writes_of turns) =
    λ k shape is. subst (λ n. StaysIn n shape (writes_of turns)) (let zero_first : k ≡ 0 + k = omega arith in zero_first) (each_stays laws shapes turns run.outside k shape (ap (λ (ss : List Shape). slice_get ss k) same.shapes_are ∙ is)) in
    let each' : (k : ℕ) (shape : Shape) → slice_get (other_shapes pairs) k ≡ Some shape → StaysIn (0 + k) shape (writes_of turns') =
    λ k shape is. subst (λ n. StaysIn n shape (writes_of turns')) (let zero_first : k ≡ 0 + k = omega arith in zero_first) (each_stays laws shapes' turns' run'.outside k shape (ap (λ (ss : List Shape). slice_get ss k) same.shapes_are' ∙ is)) in
    record {
      pairs = after_runs 0 turns turns' pairs;
      shapes_are = same.shapes_are ∙ one_shapes_after 0 turns turns' pairs;
      shapes_are' = same.shapes_are' ∙ other_shapes_after 0 turns turns' pairs;
      state_is = run.layouts ∙ ap (λ (ss : List Shape). layouts_after 0 ss state.layouts turns) same.shapes_are ∙ ap (λ (ls : List FlatLayout). layouts_after 0 (one_shapes pairs) ls turns) same.state_is ∙ ones_after 0 turns turns' pairs;
      state_is' = run'.layouts ∙ ap (λ (ss : List Shape). layouts_after 0 ss state'.layouts turns') same.shapes_are' ∙ ap (λ (ls : List FlatLayout). layouts_after 0 (other_shapes pairs) ls turns') same.state_is' ∙ others_after 0 turns turns' pairs;
      all = all_after laws turns turns' writes 0 pairs same.all each each';
    }
