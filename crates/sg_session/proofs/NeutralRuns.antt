-- Over two states with the same values a neutral kernel makes the same writes.
use Rattle.std.proofs.Common.{◌≡◌, ℕ, zero, suc, ◌≤◌, true, List, [], ◌∷◌, ◌++◌, map, Option, Some, Ok, refl, sym, ap, ◌∙◌, subst}
use Rattle.std.specs.Prelude.{slice_get, option_map}
use Rattle.std.specs.List.{AllByRecursion, flat_map, list_all}
use Rattle.std.proofs.lemmas.Bool.{and_parts, eqb-true}
use Rattle.sg_coord.specs.declared.coord.Coord.{Coord}
use Rattle.sg_coord.specs.Bounds.{Bounds}
use Rattle.sg_coord.specs.Coord.{Inside}
use Rattle.sg_layout.specs.declared.shape.Shape.{Shape}
use Rattle.sg_layout.specs.Axes.{bounds_of_shape}
use Rattle.sg_layout.specs.Closure.{points}
use Rattle.sg_layout.specs.Rules.{checked_shape}
use Rattle.sg_flat.specs.declared.effects.Domain.{Domain}
use Rattle.sg_flat.specs.declared.effects.Turn.{Turn}
use Rattle.sg_flat.specs.declared.effects.Write.{Write}
use Rattle.sg_flat.specs.declared.state.FlatLayout.{FlatLayout}
use Rattle.sg_flat.specs.declared.state.FlatState.{FlatState}
use Rattle.sg_flat.specs.Domain.{active_in, domain_points}
use Rattle.sg_flat.specs.Effects.{writes_of}
use Rattle.sg_flat.specs.Kernel.{kernel_meaning}
use Rattle.sg_flat.specs.State.{value_at, value_or_zero, value_of}
use Rattle.sg_types.specs.declared.typed.TypedDomain.{TypedDomain}
use Rattle.sg_types.specs.declared.typed.TypedDomain.TheVariants as domain
use Rattle.sg_types.specs.declared.typed.TypedKernel.{TypedKernel}
use Rattle.sg_types.specs.Expressions.{equals_some}
use Rattle.sg_types.specs.Values.{World}
use Rattle.sg_types.specs.Iterations.{writes_at, domain_of, kernel_effects}
use Rattle.sg_types.specs.WellTyped.{axes_in, is_well_typed_domain, is_well_typed_kernel}
use Rattle.sg_admit.specs.Lines.{Opens, line_of, nothing_round, block_lines, domain_ranges}
use Rattle.sg_admit.specs.Neutral.{is_guarded_body, asks_nothing_in, asks_nothing, is_neutral_over, is_neutral_kernel}
use Rattle.sg_session.proofs.Lists.{all_at}
use Rattle.sg_session.proofs.SameWorlds.{writes_same, domain_same}
use Rattle.sg_session.proofs.GuardedBodies.{HasPlainElses, writes_nothing}
use Rattle.sg_session.proofs.WholePoints.{inside_whole}
use Rattle.sg_session.proofs.SameLayouts.{FlatLaws, walk_writes, Pair, IsSame, ones, others, AreSame, value_same, values_same, run_same}

-- ---- lists

flat_same : {X Y : Type 0} (f g : X → List Y) → ((x : X) → f x ≡ g x) → (xs : List X) → flat_map f xs ≡ flat_map g xs
flat_same f g h [] = refl
flat_same {X} {Y} f g h (x ∷ xs) = ap (λ (ys : List Y). ys ++ flat_map f xs) (h x) ∙ ap (λ (ys : List Y). g x ++ ys) (flat_same f g h xs)

mapped_at : {X Y : Type 0} (f : X → Y) (xs : List X) (k : ℕ) → slice_get (map f xs) k ≡ option_map f (slice_get xs k)
mapped_at f [] zero = refl
mapped_at f [] (suc k) = refl
mapped_at f (x ∷ xs) zero = refl
mapped_at f (x ∷ xs) (suc k) = mapped_at f xs k

-- the turn of an iteration, and the writes of turns
abbrev turn_of : World → TypedKernel → Coord → Turn
turn_of world kernel at = record { at = at; writes = writes_at world kernel at }

writes_of_turns : (world : World) (kernel : TypedKernel) (ats : List Coord) → writes_of (map (turn_of world kernel) ats) ≡ flat_map (writes_at world kernel) ats
writes_of_turns world kernel [] = refl
writes_of_turns world kernel (at ∷ ats) = ap (λ (ws : List Write). writes_at world kernel at ++ ws) (writes_of_turns world kernel ats)

-- ---- walks

-- What is written at a coordinate of a layout is nothing if all values there are 0: then it is the same from the active coordinates of both.
module _ (laws : FlatLaws) (w : Coord → List Write) where
  abbrev NoneAt : Pair → Type 0
  NoneAt pair = (at : Coord) → Inside (bounds_of_shape pair.one_shape) at → ((place : ℕ) → value_at pair.one_shape pair.one place at ≡ 0) → w at ≡ []

  pair_walk : (pair : Pair) → IsSame pair → NoneAt pair → flat_map w pair.one.active ≡ flat_map w pair.other.active
  pair_walk pair same none =
      walk_writes laws pair.one_shape pair.one same.one_valued w none
      ∙ (ap (λ (bounds : Bounds). flat_map w (points bounds)) same.bounds
      ∙ sym (walk_writes laws pair.other_shape pair.other same.other_valued w
      (λ at inside zeros. none at (subst (λ (bounds : Bounds). Inside bounds at) (sym same.bounds) inside) (λ place. value_same pair same place at ∙ zeros place))))

  pairs_walk : (pairs : List Pair) → AllByRecursion IsSame pairs → (number : ℕ) → ((pair : Pair) → slice_get pairs number ≡ Some pair → NoneAt pair)
      → flat_map w (active_in (slice_get (ones pairs) number)) ≡ flat_map w (active_in (slice_get (others pairs) number))
  pairs_walk [] all zero none = refl
  pairs_walk [] all (suc number) none = refl
  pairs_walk (pair ∷ pairs) all zero none = pair_walk pair all.0 (none pair refl)
  pairs_walk (pair ∷ pairs) all (suc number) none = pairs_walk pairs all.1 number none

-- ---- kernels

-- what typing and the rules of layouts keep of a kernel over the layouts that it was typed over
pub record IsFit (shapes : List Shape) (kernel : TypedKernel) : Type 0 where
  pub typed : is_well_typed_kernel shapes kernel ≡ true
  pub few : kernel.vars ≤ 3
  pub plain : HasPlainElses kernel.body

-- each layout keeps the rules
abbrev pub KeepRules : List Shape → Type 0
KeepRules = AllByRecursion (λ shape. checked_shape shape ≡ Ok shape)

axes_from : (found : Option Shape) (shape : Shape) (vars : ℕ) → found ≡ Some shape → equals_some (option_map (λ (it : Shape). it.axes) found) vars ≡ true → shape.axes ≡ vars
axes_from found shape vars is h = eqb-true shape.axes vars (ap (λ (f : Option Shape). equals_some (option_map (λ (it : Shape). it.axes) f) vars) (sym is) ∙ h)

module _ (laws : FlatLaws) (shapes shapes' : List Shape) (state state' : FlatState) (same : AreSame shapes shapes' state state') (rules : KeepRules shapes) (kernel : TypedKernel) (fit : IsFit shapes kernel) where
  abbrev one : World
  one = record { shapes = shapes; state = state }

  abbrev other : World
  other = record { shapes = shapes'; state = state' }

  written_same : asks_nothing kernel ≡ true → (at : Coord) → writes_at one kernel at ≡ writes_at other kernel at
  written_same quiet at = writes_same one other (values_same shapes shapes' state state' same) kernel at quiet

  -- over the points of a domain that is the same
  over_points : asks_nothing kernel ≡ true → (ats : List Coord) → writes_of (map (turn_of one kernel) ats) ≡ writes_of (map (turn_of other kernel) ats)
  over_points quiet ats = writes_of_turns one kernel ats ∙ (flat_same (writes_at one kernel) (writes_at other kernel) (written_same quiet) ats ∙ sym (writes_of_turns other kernel ats))

  shape_at : (number : ℕ) (pair : Pair) → slice_get same.pairs number ≡ Some pair → slice_get shapes number ≡ Some pair.one_shape
  shape_at number pair is =
      ap (λ (ss : List Shape). slice_get ss number) same.shapes_are ∙ (mapped_at (λ (pair : Pair). pair.one_shape) same.pairs number ∙ ap (option_map (λ (pair : Pair). pair.one_shape)) is)

  flat_at : (number : ℕ) (pair : Pair) → slice_get same.pairs number ≡ Some pair → slice_get state.layouts number ≡ Some pair.one
  flat_at number pair is =
      ap (λ (ls : List FlatLayout). slice_get ls number) same.state_is ∙ (mapped_at (λ (pair : Pair). pair.one) same.pairs number ∙ ap (option_map (λ (pair : Pair). pair.one)) is)

  value_here : (number : ℕ) (pair : Pair) → slice_get same.pairs number ≡ Some pair → (place : ℕ) (at : Coord) → value_of shapes state number place at ≡ value_at pair.one_shape pair.one place at
  value_here number pair is place at =
      ap (λ (found : Option Shape). value_or_zero found (slice_get state.layouts number) place at) (shape_at number pair is)
      ∙ ap (λ (found : Option FlatLayout). value_or_zero (Some pair.one_shape) found place at) (flat_at number pair is)

  typed_domain : is_well_typed_domain shapes kernel.vars kernel.domain ≡ true
  typed_domain = (and_parts _ _ (and_parts _ _ fit.typed).0).0

  -- an iteration of a guarded body writes nothing if all values are 0
  none_at : (number : ℕ) → is_guarded_body number kernel.vars kernel.body ≡ true → equals_some (axes_in shapes number) kernel.vars ≡ true → (pair : Pair) → slice_get same.pairs number ≡ Some pair
      → NoneAt laws (writes_at one kernel) pair
  none_at number guarded axes pair is at inside zeros =
      let shape = pair.one_shape in
      let there = shape_at number pair is in
      let vars : shape.axes ≡ kernel.vars = axes_from (slice_get shapes number) shape kernel.vars there axes in
      let few : shape.axes ≤ 3 = subst (λ (n : ℕ). n ≤ 3) (sym vars) fit.few in
      let whole = inside_whole laws.numbers_have_words shape at (all_at (λ (it : Shape). checked_shape it ≡ Ok it) shapes number shape there rules) few inside in
      writes_nothing number kernel.vars one at (whole.0 ∙ (inside.same_axes ∙ vars)) whole.1 (λ place. value_here number pair is place at ∙ zeros place) kernel guarded fit.plain

  walk_same : asks_nothing kernel ≡ true → (number : ℕ) → is_guarded_body number kernel.vars kernel.body ≡ true → equals_some (axes_in shapes number) kernel.vars ≡ true
      → writes_of (map (turn_of one kernel) (active_in (slice_get state.layouts number))) ≡ writes_of (map (turn_of other kernel) (active_in (slice_get state'.layouts number)))
  walk_same quiet number guarded axes =
      writes_of_turns one kernel (active_in (slice_get state.layouts number))
      ∙ (ap (λ (ls : List FlatLayout). flat_map (writes_at one kernel) (active_in (slice_get ls number))) same.state_is
      ∙ (pairs_walk laws (writes_at one kernel) same.pairs same.all number (none_at number guarded axes)
      ∙ (flat_same (writes_at one kernel) (writes_at other kernel) (written_same quiet) (active_in (slice_get (others same.pairs) number))
      ∙ (sym (ap (λ (ls : List FlatLayout). flat_map (writes_at other kernel) (active_in (slice_get ls number))) same.state_is')
      ∙ sym (writes_of_turns other kernel (active_in (slice_get state'.layouts number)))))))

  by_domain : asks_nothing kernel ≡ true → (it : TypedDomain) → asks_nothing_in (line_of 0 nothing_round (Opens (domain_ranges it))) ≡ true → is_neutral_over kernel it ≡ true → is_well_typed_domain shapes kernel.vars it ≡ true
      → writes_of (map (turn_of one kernel) (domain_points state (domain_of one it))) ≡ writes_of (map (turn_of other kernel) (domain_points state' (domain_of other it)))
  by_domain quiet (domain.Walk number) silent neutral axes = walk_same quiet number neutral axes
  by_domain quiet (domain.Ranges ranges) silent neutral axes =
      over_points quiet (domain_points state (domain_of one (domain.Ranges ranges)))
      ∙ ap (λ (it : Domain). writes_of (map (turn_of other kernel) (domain_points state' it))) (domain_same one other (values_same shapes shapes' state state' same) (domain.Ranges ranges) silent)

  pub neutral_writes : is_neutral_kernel kernel ≡ true → writes_of (kernel_effects one kernel).turns ≡ writes_of (kernel_effects other kernel).turns
  neutral_writes neutral =
      let each = and_parts (asks_nothing kernel) (is_neutral_over kernel kernel.domain) neutral in
      let lines = and_parts (asks_nothing_in (line_of 0 nothing_round (Opens (domain_ranges kernel.domain)))) (list_all asks_nothing_in (block_lines kernel.body nothing_round)) each.0 in
      by_domain each.0 kernel.domain lines.0 each.1 typed_domain

  -- so two runs that aren't refused leave the same values
  pub neutral_run : (after after' : FlatState) → is_neutral_kernel kernel ≡ true → kernel_meaning shapes state (kernel_effects one kernel) ≡ Ok after → kernel_meaning shapes' state' (kernel_effects other kernel) ≡ Ok after'
      → AreSame shapes shapes' after after'
  neutral_run after after' neutral e e' = run_same laws shapes shapes' state state' after after' (kernel_effects one kernel).turns (kernel_effects other kernel).turns same e e' (neutral_writes neutral)
