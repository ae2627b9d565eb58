-- A task that neither of two programs refuses leaves states with the same values, where they had the same values before it.
use Rattle.std.proofs.Common.{◌≡◌, ℕ, zero, suc, ◌<◌, Bool, true, false, not, eqb, ℤ, pos, List, [], ◌∷◌, map, Option, Some, None, Result, Ok, refl, sym, ap, ◌∙◌, subst}
use Rattle.std.specs.Prelude.{Contains, slice_get}
use Rattle.std.specs.List.{AllByRecursion, list_any}
use Rattle.std.proofs.lemmas.Bool.{cond-true, not_from_false, ne_eqb, or_left, or_right}
use Rattle.sg_words.proofs.Uses.{into_filter}
use Rattle.sg_words.specs.Results.{◌>>=◌, fault_as}
use Rattle.sg_words.specs.Words.{number}
use Rattle.sg_words.specs.declared.operators.Ty.{Ty}
use Rattle.sg_coord.specs.declared.coord.Coord.{Coord}
use Rattle.sg_coord.specs.Bounds.{Bounds, volume}
use Rattle.sg_coord.specs.Coord.{is_inside, row_of, point_at, plane_point}
use Rattle.sg_layout.specs.declared.shape.Shape.{Shape}
use Rattle.sg_layout.specs.Axes.{bounds_of_shape}
use Rattle.sg_layout.specs.Closure.{closure}
use Rattle.sg_flat.specs.declared.effects.Write.{Write}
use Rattle.sg_flat.specs.declared.state.FlatLayout.{FlatLayout}
use Rattle.sg_flat.specs.declared.state.FlatState.{FlatState}
use Rattle.sg_flat.specs.Effects.{writes_of}
use Rattle.sg_flat.specs.Words.{word_at}
use Rattle.sg_flat.specs.State.{value_in, words_or_none, opening_layout}
use Rattle.sg_names.specs.declared.tables.FieldAt.{FieldAt}
use Rattle.sg_admit.specs.declared.admitted.Admitted.{Admitted}
use Rattle.sg_store.specs.Pruning.{has_value, valued_coordinates, pruned}
use Rattle.sg_grid.specs.declared.grid.GridFault.{GridFault}
use Rattle.sg_grid.specs.Reading.{rows_of}
use Rattle.sg_image.specs.Grey.{grey_of}
use Rattle.sg_image.specs.Pgm.{pgm_text}
use Rattle.sg_image.specs.Image.{type_or}
use Rattle.sg_exec.specs.Running.{turn_of, load_meaning}
use Rattle.sg_outside.specs.Files.{Reading, Bytes, TooMany, Missing}
use Rattle.sg_session.specs.declared.refusal.RunRefusal.{RunRefusal}
use Rattle.sg_session.specs.declared.refusal.RunRefusal.TheVariants as refusal
use Rattle.sg_session.specs.declared.tasks.Task.{Task}
use Rattle.sg_session.specs.declared.tasks.Task.TheVariants.{Load, Run, Dump, Image, Stats, Prune, Clear}
use Rattle.sg_session.specs.Compiled.{CheckedProgram}
use Rattle.sg_session.specs.Commands.{Left, without_text, after_kernel, grid_refusal, bounds_or_none, row_write, field_writes, loaded_state, after_load, image_of_field, changed_at, cleared_layout, task_meaning}
use Rattle.sg_session.specs.Independence.{RunsNeutral, is_image}
use Rattle.sg_session.proofs.Answered.{bound_ok, as_ok}
use Rattle.sg_session.proofs.Lists.{all_at}
use Rattle.sg_session.proofs.SameLayouts.{FlatLaws, HasActive, IsValued, Pair, IsSame, one_shapes, other_shapes, ones, others, AreSame, run_same}
use Rattle.sg_session.proofs.NeutralRuns.{IsFit, KeepRules, neutral_run}

-- ---- freeing

-- if a test of one in a list holds, some of the list passes
some_of : {X : Type 0} (test : X → Bool) (xs : List X) → AllByRecursion (λ x. test x ≡ true → list_any test xs ≡ true) xs
some_of {X} test [] = tt
some_of {X} test (x ∷ xs) = ((λ h. or_left (test x) (list_any test xs) h), later xs (some_of test xs))
  where
    later : (ys : List X) → AllByRecursion (λ y. test y ≡ true → list_any test xs ≡ true) ys → AllByRecursion (λ y. test y ≡ true → list_any test (x ∷ xs) ≡ true) ys
    later [] all = tt
    later (y ∷ ys) all = ((λ h. or_right (test x) (list_any test xs) (all.0 h)), later ys all.1)

module _ (laws : FlatLaws) where
  -- the word of a row is the value at its point
  word_value : (bounds : Bounds) (words : List (ℕ × ℕ)) (row : ℕ) → row < volume bounds → value_in bounds words (point_at bounds row) ≡ word_at words row
  word_value bounds words row below =
      cond-true (is_inside bounds (point_at bounds row)) (word_at words (row_of bounds (point_at bounds row))) 0 ((laws.inside_test bounds (point_at bounds row)).1 (laws.point_inside bounds row below))
      ∙ ap (word_at words) (laws.row_of_point bounds row below)

  module _ (shape : Shape) (flat : FlatLayout) where
    abbrev is_valued : Coord → List (ℕ × ℕ) → Bool
    is_valued at words = not (eqb (value_in (bounds_of_shape shape) words at) 0)

    -- a row with a word other than 0 stays active
    stays_active : (row : ℕ) → row < volume (bounds_of_shape shape) → (words : List (ℕ × ℕ)) → (is_valued (point_at (bounds_of_shape shape) row) words ≡ true → has_value shape flat (point_at (bounds_of_shape shape) row) ≡ true)
        → (word_at words row ≡ 0 → ⊥) → Contains flat.active (point_at (bounds_of_shape shape) row) → Contains (closure shape (valued_coordinates shape flat)) (point_at (bounds_of_shape shape) row)
    stays_active row below words any some there =
        let bounds = bounds_of_shape shape in
        let at = point_at bounds row in
        let valued : is_valued at words ≡ true = not_from_false _ (ne_eqb (value_in bounds words at) 0 (λ zero. some (sym (word_value bounds words row below) ∙ zero))) in
        laws.extends shape (valued_coordinates shape flat) at (into_filter (has_value shape flat) flat.active at there (any valued)) (laws.point_inside bounds row below)

    rows_stay : (fields : List (List (ℕ × ℕ))) → AllByRecursion (HasActive shape flat.active) fields → ((at : Coord) → AllByRecursion (λ words. is_valued at words ≡ true → has_value shape flat at ≡ true) fields)
        → AllByRecursion (HasActive shape (closure shape (valued_coordinates shape flat))) fields
    rows_stay [] all any = tt
    rows_stay (words ∷ fields) all any = (
      λ row below some. stays_active row below words (any (point_at (bounds_of_shape shape) row)).0 some (all.0 row below some),
      rows_stay fields all.1 (λ at. (any at).1),
    )

    valued_pruned : IsValued shape flat → IsValued shape (pruned shape flat)
    valued_pruned is = record {
      given = valued_coordinates shape flat;
      closed = refl;
      valued = rows_stay flat.fields is.valued (λ at. some_of (is_valued at) flat.fields);
    }

  pair_pruned : (pair : Pair) → IsSame pair → IsSame (record { one_shape = pair.one_shape; other_shape = pair.other_shape; one = pruned pair.one_shape pair.one; other = pruned pair.other_shape pair.other })
  pair_pruned pair is = record {
    bounds = is.bounds;
    types = is.types;
    fields = is.fields;
    one_valued = valued_pruned pair.one_shape pair.one is.one_valued;
    other_valued = valued_pruned pair.other_shape pair.other is.other_valued;
  }

-- a layout without values
no_rows : (shape : Shape) (active : List Coord) (types : List Ty) → AllByRecursion (HasActive shape active) (map (λ _. []) types)
no_rows shape active [] = tt
no_rows shape active (given ∷ types) = ((λ row below some. absurd (some refl)), no_rows shape active types)

valued_opening : (shape : Shape) → IsValued shape (opening_layout shape)
valued_opening shape = record { given = []; closed = refl; valued = no_rows shape (closure shape []) shape.fields }

pub pair_opening : (shape shape' : Shape) → bounds_of_shape shape ≡ bounds_of_shape shape' → shape.fields ≡ shape'.fields → IsSame (record { one_shape = shape; other_shape = shape'; one = opening_layout shape; other = opening_layout shape' })
pair_opening shape shape' bounds types = record {
  bounds = bounds;
  types = types;
  fields = ap (λ (ts : List Ty). map (λ _. []) ts) types;
  one_valued = valued_opening shape;
  other_valued = valued_opening shape';
}

-- ---- one layout of each state changes

abbrev Change : Type 0
Change = Shape → FlatLayout → FlatLayout

abbrev changed : Change → List Pair → ℕ → List Pair
changed change [] place = []
changed change (pair ∷ pairs) zero = record { one_shape = pair.one_shape; other_shape = pair.other_shape; one = change pair.one_shape pair.one; other = change pair.other_shape pair.other } ∷ pairs
changed change (pair ∷ pairs) (suc place) = pair ∷ changed change pairs place

one_shapes_changed : (change : Change) (pairs : List Pair) (place : ℕ) → one_shapes pairs ≡ one_shapes (changed change pairs place)
one_shapes_changed change [] place = refl
one_shapes_changed change (pair ∷ pairs) zero = refl
one_shapes_changed change (pair ∷ pairs) (suc place) = ap (λ (ss : List Shape). pair.one_shape ∷ ss) (one_shapes_changed change pairs place)

other_shapes_changed : (change : Change) (pairs : List Pair) (place : ℕ) → other_shapes pairs ≡ other_shapes (changed change pairs place)
other_shapes_changed change [] place = refl
other_shapes_changed change (pair ∷ pairs) zero = refl
other_shapes_changed change (pair ∷ pairs) (suc place) = ap (λ (ss : List Shape). pair.other_shape ∷ ss) (other_shapes_changed change pairs place)

ones_changed : (change : Change) (pairs : List Pair) (place : ℕ) → changed_at change (one_shapes pairs) (ones pairs) place ≡ ones (changed change pairs place)
ones_changed change [] place = refl
ones_changed change (pair ∷ pairs) zero = refl
ones_changed change (pair ∷ pairs) (suc place) = ap (λ (ls : List FlatLayout). pair.one ∷ ls) (ones_changed change pairs place)

others_changed : (change : Change) (pairs : List Pair) (place : ℕ) → changed_at change (other_shapes pairs) (others pairs) place ≡ others (changed change pairs place)
others_changed change [] place = refl
others_changed change (pair ∷ pairs) zero = refl
others_changed change (pair ∷ pairs) (suc place) = ap (λ (ls : List FlatLayout). pair.other ∷ ls) (others_changed change pairs place)

-- two layouts of the same values have the same values after the change
abbrev KeepsPairs : Change → Type 0
KeepsPairs change = (pair : Pair) → IsSame pair → IsSame (record { one_shape = pair.one_shape; other_shape = pair.other_shape; one = change pair.one_shape pair.one; other = change pair.other_shape pair.other })

all_changed : (change : Change) → KeepsPairs change → (pairs : List Pair) (place : ℕ) → AllByRecursion IsSame pairs → AllByRecursion IsSame (changed change pairs place)
all_changed change keeps [] place all = tt
all_changed change keeps (pair ∷ pairs) zero all = (keeps pair all.0, all.1)
all_changed change keeps (pair ∷ pairs) (suc place) all = (all.0, all_changed change keeps pairs place all.1)

changed_same : (change : Change) → KeepsPairs change → (shapes shapes' : List Shape) (state state' : FlatState) (place : ℕ) → AreSame shapes shapes' state state'
    → AreSame shapes shapes' (record { layouts = changed_at change shapes state.layouts place }) (record { layouts = changed_at change shapes' state'.layouts place })
changed_same change keeps shapes shapes' state state' place same =
    let pairs = same.pairs in
    record {
      pairs = changed change pairs place;
      shapes_are = same.shapes_are ∙ one_shapes_changed change pairs place;
      shapes_are' = same.shapes_are' ∙ other_shapes_changed change pairs place;
      state_is = ap (λ (ss : List Shape). changed_at change ss state.layouts place) same.shapes_are ∙ (ap (λ (ls : List FlatLayout). changed_at change (one_shapes pairs) ls place) same.state_is ∙ ones_changed change pairs place);
      state_is' = ap (λ (ss : List Shape). changed_at change ss state'.layouts place) same.shapes_are' ∙ (ap (λ (ls : List FlatLayout). changed_at change (other_shapes pairs) ls place) same.state_is' ∙ others_changed change pairs place);
      all = all_changed change keeps pairs place same.all;
    }

-- ---- loads

pairs_bounds : (pairs : List Pair) → AllByRecursion IsSame pairs → (number : ℕ) → bounds_or_none (slice_get (one_shapes pairs) number) ≡ bounds_or_none (slice_get (other_shapes pairs) number)
pairs_bounds [] all zero = refl
pairs_bounds [] all (suc number) = refl
pairs_bounds (pair ∷ pairs) all zero = all.0.bounds
pairs_bounds (pair ∷ pairs) all (suc number) = pairs_bounds pairs all.1 number

bounds_same : (shapes shapes' : List Shape) (state state' : FlatState) (number : ℕ) → AreSame shapes shapes' state state' → bounds_or_none (slice_get shapes number) ≡ bounds_or_none (slice_get shapes' number)
bounds_same shapes shapes' state state' number same =
    ap (λ (ss : List Shape). bounds_or_none (slice_get ss number)) same.shapes_are
    ∙ (pairs_bounds same.pairs same.all number ∙ sym (ap (λ (ss : List Shape). bounds_or_none (slice_get ss number)) same.shapes_are'))

-- a text is read as the same rows
writes_read : (shapes shapes' : List Shape) (state state' : FlatState) (at : FieldAt) (bytes : List ℕ) (writes writes' : List Write) → AreSame shapes shapes' state state'
    → field_writes shapes at bytes ≡ Ok writes → field_writes shapes' at bytes ≡ Ok writes' → writes ≡ writes'
writes_read shapes shapes' state state' at bytes writes writes' same e e' =
    let read : field_writes shapes at bytes ≡ field_writes shapes' at bytes =
    ap (λ (bounds : Bounds). rows_of bounds at.ty bytes >>= (λ rows. Ok (map (row_write at.layout at.place) rows))) (bounds_same shapes shapes' state state' at.layout same) in
    let both : ◌≡◌ {A = Result (List Write) GridFault} (Ok writes) (Ok writes') = sym e ∙ (read ∙ e') in cc

loaded_same : FlatLaws → (shapes shapes' : List Shape) (state state' after after' : FlatState) (at : FieldAt) (bytes : List ℕ) → AreSame shapes shapes' state state'
    → loaded_state shapes state at bytes ≡ Ok after → loaded_state shapes' state' at bytes ≡ Ok after' → AreSame shapes shapes' after after'
loaded_same laws shapes shapes' state state' after after' at bytes same e e' =
    let rows = bound_ok (fault_as (grid_refusal at.number) (field_writes shapes at bytes)) (λ (rows : List Write). fault_as (refusal.Run None) (load_meaning shapes state rows)) after e in
    let rows' = bound_ok (fault_as (grid_refusal at.number) (field_writes shapes' at bytes)) (λ (rows : List Write). fault_as (refusal.Run None) (load_meaning shapes' state' rows)) after' e' in
    let read = writes_read shapes shapes' state state' at bytes rows.x rows'.x same (as_ok (grid_refusal at.number) (field_writes shapes at bytes) rows.x rows.is) (as_ok (grid_refusal at.number) (field_writes shapes' at bytes) rows'.x rows'.is) in
    let run = as_ok (refusal.Run None) (load_meaning shapes state rows.x) after rows.gives in
    let run' = as_ok (refusal.Run None) (load_meaning shapes' state' rows'.x) after' rows'.gives in
    run_same laws shapes shapes' state state' after after' (map turn_of rows.x) (map turn_of rows'.x) same run run' (ap (λ (ws : List Write). writes_of (map turn_of ws)) read)

after_load_same : FlatLaws → (shapes shapes' : List Shape) (state state' after after' : FlatState) (at : FieldAt) (reading : Reading) → AreSame shapes shapes' state state'
    → after_load shapes state at reading ≡ Ok after → after_load shapes' state' at reading ≡ Ok after' → AreSame shapes shapes' after after'
after_load_same laws shapes shapes' state state' after after' at Missing same e e' = absurd (cc)
after_load_same laws shapes shapes' state state' after after' at TooMany same e e' = absurd (cc)
after_load_same laws shapes shapes' state state' after after' at (Bytes bytes) same e e' = loaded_same laws shapes shapes' state state' after after' at bytes same e e'

-- ---- images

-- the image of a field by the extents of its layout, the types of the fields, and their words
abbrev drawn : ℕ → (lo hi : ℤ) → Bounds → List Ty → List (List (ℕ × ℕ)) → List ℕ
drawn place lo hi bounds types fields =
    pgm_text bounds.b bounds.a (λ row column. grey_of lo hi (number (type_or (slice_get types place)) (value_in bounds (words_or_none (slice_get fields place)) (plane_point (pos row) (pos column)))))

pairs_image : (pairs : List Pair) → AllByRecursion IsSame pairs → (number place : ℕ) (lo hi : ℤ)
    → image_of_field place lo hi (slice_get (one_shapes pairs) number) (slice_get (ones pairs) number) ≡ image_of_field place lo hi (slice_get (other_shapes pairs) number) (slice_get (others pairs) number)
pairs_image [] all zero place lo hi = refl
pairs_image [] all (suc number) place lo hi = refl
pairs_image (pair ∷ pairs) all (suc number) place lo hi = pairs_image pairs all.1 number place lo hi
pairs_image (pair ∷ pairs) all zero place lo hi =
    ap (λ (b : Bounds). drawn place lo hi b pair.one_shape.fields pair.one.fields) all.0.bounds
    ∙ (ap (λ (types : List Ty). drawn place lo hi (bounds_of_shape pair.other_shape) types pair.one.fields) all.0.types
    ∙ ap (λ (fields : List (List (ℕ × ℕ))). drawn place lo hi (bounds_of_shape pair.other_shape) pair.other_shape.fields fields) all.0.fields)

image_same : (shapes shapes' : List Shape) (state state' : FlatState) → AreSame shapes shapes' state state' → (layout place : ℕ) (lo hi : ℤ)
    → image_of_field place lo hi (slice_get shapes layout) (slice_get state.layouts layout) ≡ image_of_field place lo hi (slice_get shapes' layout) (slice_get state'.layouts layout)
image_same shapes shapes' state state' same layout place lo hi =
    ap (λ (ss : List Shape). image_of_field place lo hi (slice_get ss layout) (slice_get state.layouts layout)) same.shapes_are
    ∙ (ap (λ (ls : List FlatLayout). image_of_field place lo hi (slice_get (one_shapes same.pairs) layout) (slice_get ls layout)) same.state_is
    ∙ (pairs_image same.pairs same.all layout place lo hi
    ∙ sym (ap (λ (ss : List Shape). image_of_field place lo hi (slice_get ss layout) (slice_get state'.layouts layout)) same.shapes_are'
    ∙ ap (λ (ls : List FlatLayout). image_of_field place lo hi (slice_get (other_shapes same.pairs) layout) (slice_get ls layout)) same.state_is')))

-- ---- tasks

-- what two equal answers have
ok_same : {x y : Left} → ◌≡◌ {A = Result Left RunRefusal} (Ok x) (Ok y) → x ≡ y
ok_same e = cc

-- what a task leaves in two programs: the same values, and the same text of an image
pub record Same (shapes shapes' : List Shape) (task : Task) (left right : Left) : Type 0 where
  pub states : AreSame shapes shapes' left.state right.state
  pub image : is_image task ≡ true → left.text ≡ right.text

module _ (laws : FlatLaws) (first second : CheckedProgram) (rules : KeepRules first.layouts) (fits : AllByRecursion (λ kernel. IsFit first.layouts kernel.kernel) first.kernels) (kernels : first.kernels ≡ second.kernels) where
  -- a task that leaves a state without a text, whatever it is
  plain : (task : Task) (after after' : FlatState) (left right : Left) → AreSame first.layouts second.layouts after after' → without_text after ≡ left → without_text after' ≡ right → Same first.layouts second.layouts task left right
  plain task after after' left right same e e' =
      subst (λ (l : Left). Same first.layouts second.layouts task l right) e
      (subst (λ (r : Left). Same first.layouts second.layouts task (without_text after) r) e' (record { states = same; image = λ yes. refl }))

  -- one that leaves the state as it was, with a text that is no image's
  quiet : (task : Task) (state state' : FlatState) (text text' : List ℕ) (left right : Left) → is_image task ≡ false → AreSame first.layouts second.layouts state state'
      → record { state = state; text = text } ≡ left → record { state = state'; text = text' } ≡ right → Same first.layouts second.layouts task left right
  quiet task state state' text text' left right silent same e e' =
      subst (λ (l : Left). Same first.layouts second.layouts task l right) e
      (subst (λ (r : Left). Same first.layouts second.layouts task (record { state = state; text = text }) r) e' (record { states = same; image = λ yes. absurd (let never : true ≡ false = sym yes ∙ silent in cc) }))

  kernel_same : (state state' after after' : FlatState) (number : ℕ) (found : Option Admitted) → slice_get first.kernels number ≡ found → AreSame first.layouts second.layouts state state' → RunsNeutral first (Run number)
      → after_kernel first.layouts state found ≡ Ok after → after_kernel second.layouts state' found ≡ Ok after' → AreSame first.layouts second.layouts after after'
  kernel_same state state' after after' number None is same neutral e e' =
      let here : state ≡ after = cc in
      let here' : state' ≡ after' = cc in
      subst (λ (s : FlatState). AreSame first.layouts second.layouts s after') here (subst (λ (s : FlatState). AreSame first.layouts second.layouts state s) here' same)
  kernel_same state state' after after' number (Some kernel) is same neutral e e' =
      neutral_run laws first.layouts second.layouts state state' same rules kernel.kernel (all_at (λ (it : Admitted). IsFit first.layouts it.kernel) first.kernels number kernel is fits) after after' (neutral kernel is) e e'

  pub task_same : (state state' : FlatState) (task : Task) (reading : Reading) (left right : Left) → AreSame first.layouts second.layouts state state' → RunsNeutral first task
      → task_meaning first state task reading ≡ Ok left → task_meaning second state' task reading ≡ Ok right → Same first.layouts second.layouts task left right
  task_same state state' (Load field) reading left right same neutral e e' =
      let one = bound_ok (after_load first.layouts state field reading) (λ (after : FlatState). Ok (without_text after)) left e in
      let two = bound_ok (after_load second.layouts state' field reading) (λ (after : FlatState). Ok (without_text after)) right e' in
      plain (Load field) one.x two.x left right (after_load_same laws first.layouts second.layouts state state' one.x two.x field reading same one.is two.is) (ok_same one.gives) (ok_same two.gives)
  task_same state state' (Run number) reading left right same neutral e e' =
      let one = bound_ok (fault_as (refusal.Run (Some number)) (after_kernel first.layouts state (slice_get first.kernels number))) (λ (after : FlatState). Ok (without_text after)) left e in
      let two = bound_ok (fault_as (refusal.Run (Some number)) (after_kernel second.layouts state' (slice_get second.kernels number))) (λ (after : FlatState). Ok (without_text after)) right e' in
      let run = as_ok (refusal.Run (Some number)) (after_kernel first.layouts state (slice_get first.kernels number)) one.x one.is in
      let run' = as_ok (refusal.Run (Some number)) (after_kernel second.layouts state' (slice_get second.kernels number)) two.x two.is in
      let here : after_kernel second.layouts state' (slice_get first.kernels number) ≡ Ok two.x = ap (λ (ks : List Admitted). after_kernel second.layouts state' (slice_get ks number)) kernels ∙ run' in
      plain (Run number) one.x two.x left right (kernel_same state state' one.x two.x number (slice_get first.kernels number) refl same neutral run here) (ok_same one.gives) (ok_same two.gives)
  task_same state state' (Dump field) reading left right same neutral e e' = quiet (Dump field) state state' _ _ left right refl same (ok_same e) (ok_same e')
  task_same state state' (Stats layout) reading left right same neutral e e' = quiet (Stats layout) state state' _ _ left right refl same (ok_same e) (ok_same e')
  task_same state state' (Prune layout) reading left right same neutral e e' =
      plain (Prune layout) _ _ left right (changed_same pruned (pair_pruned laws) first.layouts second.layouts state state' layout same) (ok_same e) (ok_same e')
  task_same state state' (Clear layout) reading left right same neutral e e' =
      plain (Clear layout) _ _ left right (changed_same cleared_layout (λ pair is. pair_opening pair.one_shape pair.other_shape is.bounds is.types) first.layouts second.layouts state state' layout same) (ok_same e) (ok_same e')
  task_same state state' (Image field lo hi) reading left right same neutral e e' =
      let drawn = image_same first.layouts second.layouts state state' same field.layout field.place lo hi in
      subst (λ (l : Left). Same first.layouts second.layouts (Image field lo hi) l right) (ok_same e)
      (subst (λ (r : Left). Same first.layouts second.layouts (Image field lo hi) (record { state = state; text = image_of_field field.place lo hi (slice_get first.layouts field.layout) (slice_get state.layouts field.layout) }) r) (ok_same e')
      (record { states = same; image = λ yes. drawn }))
