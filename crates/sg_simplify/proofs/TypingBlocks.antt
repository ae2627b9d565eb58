-- What the pass puts out for a block is judged good where the given block is.
use Rattle.std.specs.Prelude.{◌≡◌, refl, ℕ, zero, suc, ◌<◌, ◌==◌, nat_lt, nat_eq, unwrap_or, Bool, true, false, not, ◌&&◌, if◌then◌else◌, List, [], ◌∷◌, length, map, get_or, slice_get, Option, Some, None}
use Rattle.std.specs.List.{list_all}
use Rattle.std.specs.Map.{lookup}
use Rattle.std.proofs.Common.{arith, sym, ap, subst, ◌∙◌}
use Rattle.std.proofs.lemmas.Bool.{eqb-true, and_parts}
use Rattle.std.proofs.lemmas.Bool.Decides.{nat_tests}
use Rattle.sg_words.specs.declared.operators.Ty.{Ty}
use Rattle.sg_words.specs.declared.operators.Ty.TheVariants as ty
use Rattle.sg_layout.specs.declared.shape.Shape.{Shape}
use Rattle.sg_layout.specs.Axes.{bounds_of_shape}
use Rattle.sg_ir.specs.declared.op.Op.{Op}
use Rattle.sg_ir.specs.declared.op.Op.TheVariants as op
use Rattle.sg_ir.specs.Places.{extents_in}
use Rattle.sg_ir.specs.Blocks.{sight_op, Block, End, Word, Spot, Cell, Do, Branch, Loop, SetVar, WriteOwn, Contribute, Wish, Sight, Value, Activity}
use Rattle.sg_ir.specs.Shared.{is_pure}
use Rattle.sg_ir.specs.WellTyped as well
use Rattle.sg_ir.specs.WellTyped.{KnownPlace, Scope, Frame, is_truth, is_truth_as, reads, indexes, holds_of, is_i32, takes_truth, is_lnot, is_cell, checkable}
use Rattle.sg_ir.specs.InScope.{InScope, and_reg, and_place, IsScoped}
use Rattle.sg_simplify.specs.steps.Pass.{Given, Pass, Next, Making, made_name, with_name, given_type, renamed, put_in_front, taken, place_made, looped, simplified, layout_seen}
use Rattle.sg_simplify.specs.steps.Judged.{gives_type, field_truth, truth_of, operands_fit, index_fits, IndexIsGood, step_known, and_known, act_fits, is_no_read, fits_scope, sight_fits}
use Rattle.sg_simplify.specs.steps.Typed.{Fixed, frame_by, Starts, Widens, Types, Typed, GoesDown, AllRead, ChecksFit, IsWalked, AreWalked, IsNamedTyped, NamesTyped}
use Rattle.sg_simplify.specs.steps.Ruled.{HasRoots}
use Rattle.sg_simplify.proofs.Sights.{sight_truth}
use Rattle.sg_simplify.proofs.Fitted.{Rooted, step_rooted}
use Rattle.sg_simplify.proofs.Growing.{name_here, name_other, simplified_grows}
use Rattle.sg_simplify.proofs.TypingSteps.{both, eq_same, gives_on, widens_same, widens_on, starts_same, starts_on, reads_on, index_on, types_var, types_grown, types_named, unnamed}
use Rattle.sg_simplify.proofs.Typing.{taken_typed, numbered_typed, placed_typed, act_typed}

-- ---- types of truth values
-- two types that are both as is known are alike
alike_types : (known : Option Bool) (o p : Option Ty) → gives_type known o ≡ true → gives_type known p ≡ true → (truth : Bool) → is_truth_as truth o ≡ true → is_truth_as truth p ≡ true
alike_types None o p e f truth g = absurd (cc)
alike_types (Some known) None p e f truth g = absurd (no_type truth g)
  where
    no_type : (truth : Bool) → is_truth_as truth None ≡ true → ⊥
    no_type true e = absurd (cc)
    no_type false e = absurd (cc)
alike_types (Some known) (Some t) None e f truth g = absurd (no_type known f)
  where
    no_type : (truth : Bool) → is_truth_as truth None ≡ true → ⊥
    no_type true e = absurd (cc)
    no_type false e = absurd (cc)
alike_types (Some known) (Some t) (Some u) e f truth g = subst (λ (b : Bool). is_truth_as b (Some u) ≡ true) (same known truth (is_truth t) (is_of_known known t e) (is_of_known truth t g)) f
  where
    is_of_known : (b : Bool) (t : Ty) → is_truth_as b (Some t) ≡ true → is_truth t ≡ b
    is_of_known true t e = e
    is_of_known false t e = flip (is_truth t) e
      where
        flip : (b : Bool) → not b ≡ true → b ≡ false
        flip true e = absurd (cc)
        flip false e = refl

    same : (a b c : Bool) → c ≡ a → c ≡ b → a ≡ b
    same a b c e f = sym e ∙ f

-- the type of a register that is there
type_there : (known : Option Bool) (types : List Ty) (r : ℕ) → gives_type known (slice_get types r) ≡ true → gives_type known (Some (get_or types r ty.U32)) ≡ true
type_there None types r e = absurd (cc)
type_there (Some known) [] r e = absurd (no_type known e)
  where
    no_type : (truth : Bool) → is_truth_as truth None ≡ true → ⊥
    no_type true e = absurd (cc)
    no_type false e = absurd (cc)
type_there (Some known) (t ∷ types) zero e = e
type_there (Some known) (t ∷ types) (suc r) e = type_there (Some known) types r e

-- ---- names
-- the same names where more is in scope and more was put out
pub names_on : (types : List Ty) (given scope wide : Scope) (next further : Next) → ((r : ℕ) → given.regs r ≡ true → made_name further r ≡ made_name next r) → Widens scope wide → Starts next further
    → NamesTyped types given scope next → NamesTyped types given wide further
names_on types given scope wide next further same widens starts all r is =
    let it = all r is in
    let name = same r is in
    record {
      set = ap wide.regs name ∙ widens.regs (made_name next r) it.set;
      same = λ truth e. subst (λ k. is_truth_as truth (slice_get further.types k) ≡ true) (sym name)
          (gives_on (Some truth) (slice_get next.types (made_name next r)) (slice_get further.types (made_name next r)) (starts.regs (made_name next r)) (it.same truth e));
    }

same_names : (next further : Next) → further.names ≡ next.names → (r : ℕ) → made_name further r ≡ made_name next r
same_names next further names r = ap (λ (table : List (ℕ × ℕ)). unwrap_or (lookup (nat_eq r) table) r) names

-- one more name
names_with : (types : List Ty) (given scope : Scope) (next : Next) (to t : ℕ) → scope.regs t ≡ true → ((truth : Bool) → is_truth_as truth (slice_get types to) ≡ true → is_truth_as truth (slice_get next.types t) ≡ true)
    → NamesTyped types given scope next → NamesTyped types (well.with_reg to given) scope (with_name to t next)
names_with types given scope next to t is alike all r set = by_test (r == to) refl set
  where
    by_test : (test : Bool) → (r == to) ≡ test → (if test then true else given.regs r) ≡ true → IsNamedTyped types scope (with_name to t next) r
    by_test true e h =
        let same = eqb-true r to e in
        let name : made_name (with_name to t next) r ≡ t = ap (made_name (with_name to t next)) same ∙ name_here next to t in
        record {
          set = ap scope.regs name ∙ is;
          same = λ truth f. subst (λ k. is_truth_as truth (slice_get next.types k) ≡ true) (sym name) (alike truth (subst (λ k. is_truth_as truth (slice_get types k) ≡ true) same f));
        }
    by_test false e h =
        let it = all r h in
        let name = name_other next to t r e in
        record {
          set = ap scope.regs name ∙ it.set;
          same = λ truth f. subst (λ k. is_truth_as truth (slice_get next.types k) ≡ true) (sym name) (it.same truth f);
        }

put_within : (to : ℕ) (f g : ℕ → Bool) → ((r : ℕ) → f r ≡ true → g r ≡ true) → (r : ℕ) → (if r == to then true else f r) ≡ true → (if r == to then true else g r) ≡ true
put_within to f g h r = by_test (r == to)
  where
    by_test : (test : Bool) → (if test then true else f r) ≡ true → (if test then true else g r) ≡ true
    by_test true e = refl
    by_test false e = h r e

-- a place has no part in registers and variables
known_regs : (to : ℕ) (o : Option KnownPlace) (scope : Scope) (r : ℕ) → (and_known to o scope).regs r ≡ scope.regs r
known_regs to None scope r = refl
known_regs to (Some known) scope r = refl

known_vars : (to : ℕ) (o : Option KnownPlace) (scope : Scope) (v : ℕ) → (and_known to o scope).vars v ≡ scope.vars v
known_vars to None scope v = refl
known_vars to (Some known) scope v = refl

length_map : {A B : Type 0} (f : A → B) (xs : List A) → length (map f xs) ≡ length xs
length_map f [] = refl
length_map f (x ∷ xs) = ap suc (length_map f xs)

-- index registers of an access, which has its layout
record HasIndex (at : Frame) (scope : Scope) (layout : ℕ) (index : List ℕ) : Type 0 where
  shape : Shape
  there : slice_get at.shapes layout ≡ Some shape
  long : length index ≡ shape.axes
  all : list_all (reads at scope false) index ≡ true

has_index : (at : Frame) (scope : Scope) (layout : ℕ) (index : List ℕ) → index_fits at scope layout index ≡ true → HasIndex at scope layout index
has_index at scope layout index e = by_shape (slice_get at.shapes layout) refl e
  where
    by_shape : (o : Option Shape) → slice_get at.shapes layout ≡ o → holds_of (λ (shape : Shape). indexes at scope shape index) o ≡ true → HasIndex at scope layout index
    by_shape None there e = absurd (cc)
    by_shape (Some shape) there e =
        let parts = and_parts (length index == shape.axes) (list_all (reads at scope false) index) e in
        record { shape = shape; there = there; long = eqb-true (length index) shape.axes parts.0; all = parts.1 }

-- the axes of index registers can be checked
checks_fit : (at : Frame) (layout : ℕ) (shape : Shape) (index : List ℕ) → slice_get at.shapes layout ≡ Some shape → IsWalked shape → length index ≡ shape.axes → ChecksFit at layout 0 (extents_in (bounds_of_shape shape)) index
checks_fit at layout shape index there walked long = by_index index (λ axis below. below_axes axis (subst (λ n. axis < n) long below))
  where
    below_axes : (axis : ℕ) → axis < shape.axes → nat_lt axis shape.axes ≡ true
    below_axes axis h = grind (arith, nat_tests)

    checkable_at : (axis extent : ℕ) → nat_lt axis shape.axes ≡ true → holds_of (λ e. e == extent) (slice_get (extents_in (bounds_of_shape shape)) axis) ≡ true → checkable at axis extent (record { layout = layout; passed = 0 }) ≡ true
    checkable_at axis extent below is =
        subst (λ (o : Option Shape). holds_of (λ (it : Shape). nat_lt axis it.axes && holds_of (λ e. e == extent) (slice_get (extents_in (bounds_of_shape it)) axis)) o ≡ true) (sym there) (both _ _ below is)

    by_index : (rs : List ℕ) → ((axis : ℕ) → axis < length rs → nat_lt axis shape.axes ≡ true) → ChecksFit at layout 0 (extents_in (bounds_of_shape shape)) rs
    by_index [] below = tt
    by_index (r ∷ []) below = (walked.a, checkable_at 0 _ (below 0 (omega arith)) (eq_same _), tt)
    by_index (r ∷ s ∷ []) below = (walked.a, checkable_at 0 _ (below 0 (omega arith)) (eq_same _), (walked.b, checkable_at 1 _ (below 1 (omega arith)) (eq_same _), tt))
    by_index (r ∷ s ∷ q ∷ rs) below = (walked.a, checkable_at 0 _ (below 0 (omega arith)) (eq_same _), (walked.b, checkable_at 1 _ (below 1 (omega arith)) (eq_same _), (walked.c, checkable_at 2 _ (below 2 (omega arith)) (eq_same _), tt)))

module _ (given : Given) (vars : List Ty) (setters : ℕ → ℕ) (places : ℕ) (walked : AreWalked given.shapes) where
  abbrev fixed : Fixed
  fixed = record { shapes = given.shapes; vars = vars; setters = setters }

  -- the frame of the given code
  abbrev at : Frame
  at = record { shapes = given.shapes; regs = given.types; places = places; vars = vars; setters = setters }

  -- ---- what the given code reads, by its new names
  reads_named : (gscope scope : Scope) (next : Next) → NamesTyped given.types gscope scope next → (truth : Bool) (r : ℕ) → reads at gscope truth r ≡ true → reads (frame_by fixed next) scope truth (made_name next r) ≡ true
  reads_named gscope scope next all truth r e =
      let parts = and_parts (gscope.regs r) (is_truth_as truth (slice_get given.types r)) e in
      let it = all r parts.0 in
      both _ _ it.set (it.same truth parts.1)

  from_named : (gscope scope : Scope) (next : Next) → NamesTyped given.types gscope scope next → (known : Option Bool) (r : ℕ) → (gscope.regs r && gives_type known (slice_get given.types r)) ≡ true
      → (scope.regs (made_name next r) && gives_type known (slice_get next.types (made_name next r))) ≡ true
  from_named gscope scope next all None r e = absurd (no_more (gscope.regs r) e)
    where
      no_more : (b : Bool) → (b && false) ≡ true → ⊥
      no_more true e = absurd (cc)
      no_more false e = absurd (cc)
  from_named gscope scope next all (Some truth) r e = reads_named gscope scope next all truth r e

  operands_named : (gscope scope : Scope) (next : Next) → NamesTyped given.types gscope scope next → ((v : ℕ) → gscope.vars v ≡ true → scope.vars v ≡ true) → (how : Op) → is_no_read how ≡ true → operands_fit at gscope how ≡ true
      → operands_fit (frame_by fixed next) scope (renamed next how) ≡ true
  operands_named gscope scope next all set (op.Const word truth) plain e = refl
  operands_named gscope scope next all set (op.Var var) plain e = set var e
  operands_named gscope scope next all set (op.Bin how kind a b) plain e =
      let parts = and_parts (reads at gscope (takes_truth how) a) (reads at gscope (takes_truth how) b) e in
      both _ _ (reads_named gscope scope next all (takes_truth how) a parts.0) (reads_named gscope scope next all (takes_truth how) b parts.1)
  operands_named gscope scope next all set (op.Un how kind a) plain e = reads_named gscope scope next all (is_lnot how) a e
  operands_named gscope scope next all set (op.Mulq a b s) plain e =
      let parts = and_parts (reads at gscope false a) (reads at gscope false b && reads at gscope false s) e in
      let more = and_parts (reads at gscope false b) (reads at gscope false s) parts.1 in
      both _ _ (reads_named gscope scope next all false a parts.0) (both _ _ (reads_named gscope scope next all false b more.0) (reads_named gscope scope next all false s more.1))
  operands_named gscope scope next all set (op.Extract div size from) plain e =
      let parts = and_parts (nat_lt 0 div) (nat_lt 0 size && reads at gscope false from) e in
      let more = and_parts (nat_lt 0 size) (reads at gscope false from) parts.1 in
      both _ _ parts.0 (both _ _ more.0 (reads_named gscope scope next all false from more.1))
  operands_named gscope scope next all set (op.Offset high size low) plain e =
      let parts = and_parts (nat_lt 0 size) (reads at gscope false high && reads at gscope false low) e in
      let more = and_parts (reads at gscope false high) (reads at gscope false low) parts.1 in
      both _ _ parts.0 (both _ _ (reads_named gscope scope next all false high more.0) (reads_named gscope scope next all false low more.1))
  operands_named gscope scope next all set (op.Read place layout field) plain e = absurd (cc)
  operands_named gscope scope next all set (op.Active place) plain e = absurd (cc)
  operands_named gscope scope next all set (op.OwnRead layout field) plain e = refl

  truth_named : (next : Next) (how : Op) → truth_of given.shapes vars (renamed next how) ≡ truth_of given.shapes vars how
  truth_named next (op.Const word truth) = refl
  truth_named next (op.Var var) = refl
  truth_named next (op.Bin how kind a b) = refl
  truth_named next (op.Un how kind a) = refl
  truth_named next (op.Mulq a b s) = refl
  truth_named next (op.Extract div size from) = refl
  truth_named next (op.Offset high size low) = refl
  truth_named next (op.Read place layout field) = refl
  truth_named next (op.Active place) = refl
  truth_named next (op.OwnRead layout field) = refl

  no_index : (scope : Scope) (next : Next) (how : Op) → is_no_read how ≡ true → IndexIsGood (frame_by fixed next) scope (renamed next how) []
  no_index scope next (op.Const word truth) plain = tt
  no_index scope next (op.Var var) plain = tt
  no_index scope next (op.Bin how kind a b) plain = tt
  no_index scope next (op.Un how kind a) plain = tt
  no_index scope next (op.Mulq a b s) plain = tt
  no_index scope next (op.Extract div size from) plain = tt
  no_index scope next (op.Offset high size low) plain = tt
  no_index scope next (op.Read place layout field) plain = absurd (cc)
  no_index scope next (op.Active place) plain = absurd (cc)
  no_index scope next (op.OwnRead layout field) plain = tt

  all_named : (gscope scope : Scope) (next : Next) → NamesTyped given.types gscope scope next → (index : List ℕ) → list_all (reads at gscope false) index ≡ true → AllRead fixed scope next (map (made_name next) index)
  all_named gscope scope next all [] e = tt
  all_named gscope scope next all (r ∷ index) e =
      let parts = and_parts (reads at gscope false r) (list_all (reads at gscope false) index) e in
      (reads_named gscope scope next all false r parts.0, all_named gscope scope next all index parts.1)

  list_named : (gscope scope : Scope) (next : Next) → NamesTyped given.types gscope scope next → (index : List ℕ) → list_all (reads at gscope false) index ≡ true → list_all (reads (frame_by fixed next) scope false) (map (made_name next) index) ≡ true
  list_named gscope scope next all [] e = refl
  list_named gscope scope next all (r ∷ index) e =
      let parts = and_parts (reads at gscope false r) (list_all (reads at gscope false) index) e in
      both _ _ (reads_named gscope scope next all false r parts.0) (list_named gscope scope next all index parts.1)

  index_named : (gscope scope : Scope) (next : Next) → NamesTyped given.types gscope scope next → (layout : ℕ) (index : List ℕ) → HasIndex at gscope layout index → index_fits (frame_by fixed next) scope layout (map (made_name next) index) ≡ true
  index_named gscope scope next all layout index has =
      subst (λ (o : Option Shape). holds_of (λ (shape : Shape). indexes (frame_by fixed next) scope shape (map (made_name next) index)) o ≡ true) (sym has.there)
      (both _ _ (subst (λ n. (n == has.shape.axes) ≡ true) (sym (length_map (made_name next) index ∙ has.long)) (eq_same has.shape.axes)) (list_named gscope scope next all index has.all))

  -- the place of an access has passed all nodes of its layout
  cell_there : (layout : ℕ) (shape : Shape) (next : Next) → slice_get given.shapes layout ≡ Some shape → is_cell (frame_by fixed next) layout (record { layout = layout; passed = length shape.nodes }) ≡ true
  cell_there layout shape next there = both _ _ (eq_same layout) (subst (λ (o : Option Shape). holds_of (λ (it : Shape). length shape.nodes == length it.nodes) o ≡ true) (sym there) (eq_same (length shape.nodes)))

  cell_at : (wide : Scope) (further : Next) (layout p : ℕ) (shape : Shape) → slice_get given.shapes layout ≡ Some shape → wide.places p ≡ Some (record { layout = layout; passed = length shape.nodes })
      → holds_of (is_cell (frame_by fixed further) layout) (wide.places p) ≡ true
  cell_at wide further layout p shape there is = subst (λ (o : Option KnownPlace). holds_of (is_cell (frame_by fixed further) layout) o ≡ true) (sym is) (cell_there layout shape further there)

  -- a place for an access
  access_typed : (gscope scope : Scope) (known : Pass) (next : Next) (layout : ℕ) (index : List ℕ) (go : ℕ → Making) → NamesTyped given.types gscope scope next → Types fixed scope known next → (has : HasIndex at gscope layout index)
      → GoesDown fixed scope next (record { layout = layout; passed = length has.shape.nodes }) go → Typed fixed scope next (place_made given layout (map (made_name next) index) go known next)
  access_typed gscope scope known next layout [] go all h has goes = let long = has.long in let some = (walked layout has.shape has.there).some in absurd (omega arith)
  access_typed gscope scope known next layout (r ∷ index) go all h has goes =
      let it = walked layout has.shape has.there in
      placed_typed given vars setters has.shape layout (made_name next r) (map (made_name next) index) go scope known next has.there h (all_named gscope scope next all (r ∷ index) has.all)
      (checks_fit (frame_by fixed next) layout has.shape (map (made_name next) (r ∷ index)) has.there it (length_map (made_name next) (r ∷ index) ∙ has.long)) it.nodes goes

  -- what is seen at a place: the layout in which its index registers name a coordinate, and the new place
  seen_index : (gscope : Scope) (place : ℕ) (sight : Sight) (index : List ℕ) → Rooted given.roots gscope → sight_fits at gscope place sight index ≡ true → index_fits at gscope (layout_seen given place sight) index ≡ true
  seen_index gscope place (Value layout field) index rooted e = e
  seen_index gscope place Activity index rooted e = by_known (gscope.places place) refl e
    where
      by_known : (found : Option KnownPlace) → gscope.places place ≡ found → holds_of (λ known. index_fits at gscope known.layout index) found ≡ true → index_fits at gscope (layout_seen given place Activity) index ≡ true
      by_known None is h = absurd (cc)
      by_known (Some known) is h = subst (λ (layout : ℕ). index_fits at gscope layout index ≡ true) (sym (rooted place known is)) h

  sight_at : (wide : Scope) (further : Next) (place p : ℕ) (sight : Sight) (shape : Shape) → slice_get given.shapes (layout_seen given place sight) ≡ Some shape
      → wide.places p ≡ Some (record { layout = layout_seen given place sight; passed = length shape.nodes }) → operands_fit (frame_by fixed further) wide (sight_op p sight) ≡ true
  sight_at wide further place p (Value layout field) shape there is = cell_at wide further layout p shape there is
  sight_at wide further place p Activity shape there is =
      subst (λ (o : Option KnownPlace). holds_of (λ known. is_cell (frame_by fixed further) known.layout known) o ≡ true) (sym is) (cell_there (layout_seen given place Activity) shape further there)

  sight_index : (wide : Scope) (further : Next) (place p : ℕ) (sight : Sight) (index : List ℕ) (passed : ℕ) → wide.places p ≡ Some (record { layout = layout_seen given place sight; passed = passed })
      → index_fits (frame_by fixed further) wide (layout_seen given place sight) index ≡ true → IndexIsGood (frame_by fixed further) wide (sight_op p sight) index
  sight_index wide further place p (Value layout field) index passed is good = good
  sight_index wide further place p Activity index passed is good =
      subst (λ (o : Option KnownPlace). holds_of (λ known. index_fits (frame_by fixed further) wide known.layout index) o ≡ true) (sym is) good

  -- ---- over blocks
  pub simplified_typed : (block : Block) (inner : InScope) (gscope scope : Scope) (known : Pass) (next : Next) → IsScoped inner block → ((r : ℕ) → gscope.regs r ≡ true → inner.regs r ≡ true) → fits_scope at gscope block ≡ true → HasRoots given.roots block → Rooted given.roots gscope
      → ((v : ℕ) → gscope.vars v ≡ true → scope.vars v ≡ true) → NamesTyped given.types gscope scope next → Types fixed scope known next → Typed fixed scope next (simplified given block known next)
  simplified_typed End inner gscope scope known next scoped within good are rooted set all h = record { grows = λ final s. s; even = h.even; longer = omega arith; good = λ final s. refl }
  simplified_typed (Word to how rest) inner gscope scope known next scoped within good are rooted set all h =
      let parts = and_parts (is_no_read how && (operands_fit at gscope how && gives_type (truth_of given.shapes vars how) (slice_get given.types to))) (fits_scope at (well.with_reg to gscope) rest) good in
      let own = and_parts (is_no_read how) (operands_fit at gscope how && gives_type (truth_of given.shapes vars how) (slice_get given.types to)) parts.0 in
      let it = and_parts (operands_fit at gscope how) (gives_type (truth_of given.shapes vars how) (slice_get given.types to)) own.1 in
      let type_ok = subst (λ (o : Option Bool). gives_type o (Some (given_type given to)) ≡ true) (sym (truth_named next how)) (type_there (truth_of given.shapes vars how) given.types to it.1) in
      numbered_typed given vars setters (is_pure given.single how) (given_type given to) (renamed next how) (λ t now later. simplified given rest now (with_name to t later)) scope known next h
      (operands_named gscope scope next all set how own.0 it.0) type_ok (no_index scope next how own.0)
      (λ t known' further wide widens names starts holds t_is t_type.
      let t_type' = subst (λ (o : Option Bool). gives_type o (slice_get further.types t) ≡ true) (truth_named next how) t_type in
      unnamed fixed wide further to t (simplified given rest known' (with_name to t further))
      (simplified_typed rest (and_reg to inner) (well.with_reg to gscope) wide known' (with_name to t further) scoped.3 (put_within to gscope.regs inner.regs within) parts.1 are rooted
      (λ v e. widens.vars v (set v e))
      (names_with given.types gscope wide further to t t_is (alike_types (truth_of given.shapes vars how) (slice_get given.types to) (slice_get further.types t) it.1 t_type')
      (names_on given.types gscope scope wide next further (λ r is. same_names next further names r) widens starts all))
      (types_named fixed wide known' further to t holds)))
  simplified_typed (Spot to how rest) inner gscope scope known next scoped within good are rooted set all h =
      let gbehind = and_known to (step_known gscope how) gscope in
      let parts = and_parts _ (fits_scope at gbehind rest) good in
      simplified_typed rest (and_place to inner) gbehind scope known next scoped.3 (λ r is. within r (sym (known_regs to (step_known gscope how) gscope r) ∙ is)) parts.1 are.1 (step_rooted given.roots gscope to how rooted are.0)
      (λ v is. set v (sym (known_vars to (step_known gscope how) gscope v) ∙ is)) (λ r is. all r (sym (known_regs to (step_known gscope how) gscope r) ∙ is)) h
  simplified_typed (Cell to place sight index rest) inner gscope scope known next scoped within good are rooted set all h =
      let fresh_index = map (made_name next) index in
      let layout = layout_seen given place sight in
      let truth = truth_of given.shapes vars (sight_op place sight) in
      let parts = and_parts (operands_fit at gscope (sight_op place sight) && (gives_type truth (slice_get given.types to) && sight_fits at gscope place sight index)) (fits_scope at (well.with_reg to gscope) rest) good in
      let own = and_parts (operands_fit at gscope (sight_op place sight)) (gives_type truth (slice_get given.types to) && sight_fits at gscope place sight index) parts.0 in
      let it = and_parts (gives_type truth (slice_get given.types to)) (sight_fits at gscope place sight index) own.1 in
      let has = has_index at gscope layout index (seen_index gscope place sight index rooted it.1) in
      access_typed gscope scope known next layout index (λ p. taken given (given_type given to) (sight_op p sight) fresh_index (λ t now later. simplified given rest now (with_name to t later))) all h has
      (λ p known' further wide widens names starts holds p_is.
      taken_typed given vars setters (given_type given to) (sight_op p sight) fresh_index (λ t now later. simplified given rest now (with_name to t later)) wide known' further holds
      (sight_at wide further place p sight has.shape has.there p_is)
      (subst (λ (o : Option Bool). gives_type o (Some (given_type given to)) ≡ true) (sym (sight_truth given.shapes vars p place sight)) (type_there truth given.types to it.0))
      (sight_index wide further place p sight fresh_index (length has.shape.nodes) p_is (index_on fixed next further scope wide starts widens layout fresh_index (index_named gscope scope next all layout index has)))
      (λ t known'' further' wide' widens' names' starts' holds' t_is t_type.
      unnamed fixed wide' further' to t (simplified given rest known'' (with_name to t further'))
      (simplified_typed rest (and_reg to inner) (well.with_reg to gscope) wide' known'' (with_name to t further') scoped.2 (put_within to gscope.regs inner.regs within) parts.1 are rooted
      (λ v e. widens'.vars v (widens.vars v (set v e)))
      (names_with given.types gscope wide' further' to t t_is (alike_types truth (slice_get given.types to) (slice_get further'.types t) it.0
      (subst (λ (o : Option Bool). gives_type o (slice_get further'.types t) ≡ true) (sight_truth given.shapes vars p place sight) t_type))
      (names_on given.types gscope scope wide' next further' (λ r is. same_names next further' (names' ∙ names) r) (widens_on scope wide wide' widens widens') (starts_on next further further' starts starts') all))
      (types_named fixed wide' known'' further' to t holds'))))
  simplified_typed (Do (SetVar var from) rest) inner gscope scope known next scoped within good are rooted set all h =
      let parts = and_parts (act_fits at gscope (SetVar var from)) (fits_scope at (well.with_var var gscope) rest) good in
      act_typed given vars setters (SetVar var (made_name next from)) scope next (simplified given rest known next)
      (λ final s. from_final scope next final s _ (made_name next from) (from_named gscope scope next all _ from parts.0))
      (simplified_typed rest inner (well.with_var var gscope) (well.with_var var scope) known next scoped.2 within parts.1 are rooted (put_within var gscope.vars scope.vars set) (λ r is. let it = all r is in record { set = it.set; same = it.same })
      (types_var fixed scope known next var h))
    where
      from_final : (scope : Scope) (next final : Next) → Starts next final → (known : Option Bool) (r : ℕ) → (scope.regs r && gives_type known (slice_get next.types r)) ≡ true → (scope.regs r && gives_type known (slice_get final.types r)) ≡ true
      from_final scope next final s known r e =
          let parts = and_parts (scope.regs r) (gives_type known (slice_get next.types r)) e in
          both _ _ parts.0 (gives_on known (slice_get next.types r) (slice_get final.types r) (s.regs r) parts.1)
  simplified_typed (Do (WriteOwn layout field from stmt) rest) inner gscope scope known next scoped within good are rooted set all h =
      let parts = and_parts (act_fits at gscope (WriteOwn layout field from stmt)) (fits_scope at gscope rest) good in
      act_typed given vars setters (WriteOwn layout field (made_name next from) stmt) scope next (simplified given rest known next)
      (λ final s. from_final scope next final s _ (made_name next from) (from_named gscope scope next all _ from parts.0))
      (simplified_typed rest inner gscope scope known next scoped.2 within parts.1 are rooted set all h)
    where
      from_final : (scope : Scope) (next final : Next) → Starts next final → (known : Option Bool) (r : ℕ) → (scope.regs r && gives_type known (slice_get next.types r)) ≡ true → (scope.regs r && gives_type known (slice_get final.types r)) ≡ true
      from_final scope next final s known r e =
          let parts = and_parts (scope.regs r) (gives_type known (slice_get next.types r)) e in
          both _ _ parts.0 (gives_on known (slice_get next.types r) (slice_get final.types r) (s.regs r) parts.1)
  simplified_typed (Do (Contribute how layout field place from index stmt) rest) inner gscope scope known next scoped within good are rooted set all h =
      let fresh_index = map (made_name next) index in
      let truth = field_truth given.shapes layout field in
      let parts = and_parts (act_fits at gscope (Contribute how layout field place from index stmt)) (fits_scope at gscope rest) good in
      let own = and_parts (holds_of (is_cell at layout) (gscope.places place)) (gscope.regs from && (gives_type truth (slice_get given.types from) && index_fits at gscope layout index)) parts.0 in
      let more = and_parts (gscope.regs from) (gives_type truth (slice_get given.types from) && index_fits at gscope layout index) own.1 in
      let it = and_parts (gives_type truth (slice_get given.types from)) (index_fits at gscope layout index) more.1 in
      let has = has_index at gscope layout index it.1 in
      let value = and_parts (scope.regs (made_name next from)) (gives_type truth (slice_get next.types (made_name next from))) (from_named gscope scope next all truth from (both _ _ more.0 it.0)) in
      access_typed gscope scope known next layout index (λ p now later. put_in_front (Do (Contribute how layout field p (made_name next from) fresh_index stmt)) (simplified given rest now later)) all h has
      (λ p known' further wide widens names starts holds p_is.
      act_typed given vars setters (Contribute how layout field p (made_name next from) fresh_index stmt) wide further (simplified given rest known' further)
      (λ final s.
      let onward = starts_on next further final starts s in
      both _ _ (cell_at wide final layout p has.shape has.there p_is)
      (both _ _ (widens.regs (made_name next from) value.0)
      (both _ _ (gives_on truth (slice_get next.types (made_name next from)) (slice_get final.types (made_name next from)) (onward.regs (made_name next from)) value.1)
      (index_on fixed next final scope wide onward widens layout fresh_index (index_named gscope scope next all layout index has)))))
      (simplified_typed rest inner gscope wide known' further scoped.2 within parts.1 are rooted (λ v e. widens.vars v (set v e))
      (names_on given.types gscope scope wide next further (λ r is. same_names next further names r) widens starts all) holds))
  simplified_typed (Do (Wish layout index stmt) rest) inner gscope scope known next scoped within good are rooted set all h =
      let parts = and_parts (act_fits at gscope (Wish layout index stmt)) (fits_scope at gscope rest) good in
      let has = has_index at gscope layout index parts.0 in
      act_typed given vars setters (Wish layout (map (made_name next) index) stmt) scope next (simplified given rest known next)
      (λ final s. index_on fixed next final scope scope s (widens_same scope) layout (map (made_name next) index) (index_named gscope scope next all layout index has))
      (simplified_typed rest inner gscope scope known next scoped.2 within parts.1 are rooted set all h)
  simplified_typed (Branch cond block otherwise rest) inner gscope scope known next scoped within good are rooted set all h =
      let parts = and_parts (reads at gscope true cond && (fits_scope at gscope block && fits_scope at gscope otherwise)) (fits_scope at gscope rest) good in
      let own = and_parts (reads at gscope true cond) (fits_scope at gscope block && fits_scope at gscope otherwise) parts.0 in
      let it = and_parts (fits_scope at gscope block) (fits_scope at gscope otherwise) own.1 in
      let first = simplified given block known next in
      let one = simplified_typed block inner gscope scope known next scoped.1 within it.0 are.0 rooted set all h in
      let to_first = one.grows first.1 (starts_same first.1) in
      let all' = names_on given.types gscope scope scope next first.1 (λ r is. (simplified_grows given block inner scoped.1 known next).names r (within r is)) (widens_same scope) to_first all in
      let h' = types_grown fixed scope known next first.1 to_first one.even one.longer h in
      let second = simplified given otherwise known first.1 in
      let two = simplified_typed otherwise inner gscope scope known first.1 scoped.2 within it.1 are.1 rooted set all' h' in
      let to_second = two.grows second.1 (starts_same second.1) in
      let all'' = names_on given.types gscope scope scope first.1 second.1 (λ r is. (simplified_grows given otherwise inner scoped.2 known first.1).names r (within r is)) (widens_same scope) to_second all' in
      let h'' = types_grown fixed scope known first.1 second.1 to_second two.even two.longer h' in
      let three = simplified_typed rest inner gscope scope known second.1 scoped.3 within parts.1 are.2 rooted set all'' h'' in
      record {
        grows = λ final s. one.grows final (two.grows final (three.grows final s));
        even = three.even;
        longer = let a = one.longer in let b = two.longer in let c = three.longer in omega arith;
        good = λ final s.
            let third = three.grows final s in
            let mid = two.grows final third in
            let start = one.grows final mid in
            both _ _ (both _ _ (reads_on fixed next final scope scope start (widens_same scope) true (made_name next cond) (reads_named gscope scope next all true cond own.0)) (both _ _ (one.good final mid) (two.good final third)))
            (three.good final s);
      }
  simplified_typed (Loop var lo hi body rest) inner gscope scope known next scoped within good are rooted set all h =
      let parts = and_parts (holds_of is_i32 (slice_get vars var) && ((setters var == 1) && fits_scope at (well.with_var var gscope) body)) (fits_scope at gscope rest) good in
      let own = and_parts (holds_of is_i32 (slice_get vars var)) ((setters var == 1) && fits_scope at (well.with_var var gscope) body) parts.0 in
      let it = and_parts (setters var == 1) (fits_scope at (well.with_var var gscope) body) own.1 in
      let turn = simplified given body (looped var lo hi known) next in
      let mid = types_var fixed scope known next var h in
      let one = simplified_typed body inner (well.with_var var gscope) (well.with_var var scope) (looped var lo hi known) next scoped.0 within it.1 are.0 rooted (put_within var gscope.vars scope.vars set)
      (λ r is. let named = all r is in record { set = named.set; same = named.same })
      (record { even = mid.even; ops = mid.ops; steps = mid.steps; free_regs = mid.free_regs; free_places = mid.free_places }) in
      let to_turn = one.grows turn.1 (starts_same turn.1) in
      let all' = names_on given.types gscope scope scope next turn.1 (λ r is. (simplified_grows given body inner scoped.0 (looped var lo hi known) next).names r (within r is)) (widens_same scope) to_turn all in
      let h' = types_grown fixed scope known next turn.1 to_turn one.even one.longer h in
      let two = simplified_typed rest inner gscope scope known turn.1 scoped.1 within parts.1 are.1 rooted set all' h' in
      record {
        grows = λ final s. one.grows final (two.grows final s);
        even = two.even;
        longer = let a = one.longer in let b = two.longer in omega arith;
        good = λ final s. both _ _ (both _ _ own.0 (both _ _ it.0 (one.good final (two.grows final s)))) (two.good final s);
      }
