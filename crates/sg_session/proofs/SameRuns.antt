-- Runs of programs that differ in the nodes of their layouts alone leave the same values.
use Rattle.std.proofs.Common.{◌≡◌, ℕ, suc, List, [], ◌∷◌, map, Ok, refl, ap, ◌∙◌, subst}
use Rattle.std.specs.List.{AllByRecursion}
use Rattle.sg_words.specs.Results.{◌>>=◌}
use Rattle.sg_layout.specs.declared.shape.Shape.{Shape}
use Rattle.sg_layout.specs.Axes.{bounds_of_shape}
use Rattle.sg_flat.specs.declared.state.FlatLayout.{FlatLayout}
use Rattle.sg_flat.specs.declared.state.FlatState.{FlatState}
use Rattle.sg_flat.specs.State.{opening_layout, opening}
use Rattle.sg_outside.specs.Files.{Reading}
use Rattle.sg_session.specs.declared.tasks.Task.{Task}
use Rattle.sg_session.specs.Compiled.{CheckedProgram, unfolded_tasks}
use Rattle.sg_session.specs.Commands.{Left, task_meaning}
use Rattle.sg_session.specs.Independence.{left_by, last_after, RunsNeutral, AllLeaveSame, LayoutsDontMatter}
use Rattle.sg_session.proofs.Answered.{bound_ok}
use Rattle.sg_session.proofs.SameLayouts.{FlatLaws, AreSame, values_same}
use Rattle.sg_session.proofs.SameTasks.{pair_opening, task_same}
use Rattle.sg_session.proofs.SamePrograms.{TextLaws, HaveSameParts, programs_same}

-- ---- at the start

parts_same : {X : Type 0} (x y : X) (xs ys : List X) → x ∷ xs ≡ y ∷ ys → (x ≡ y) × (xs ≡ ys)
parts_same x y xs ys e = (cc, cc)

opening_same : (shapes shapes' : List Shape) → map bounds_of_shape shapes ≡ map bounds_of_shape shapes' → map (λ shape. shape.fields) shapes ≡ map (λ shape. shape.fields) shapes' → AreSame shapes shapes' (opening shapes) (opening shapes')
opening_same [] [] bounds types = record { pairs = []; shapes_are = refl; shapes_are' = refl; state_is = refl; state_is' = refl; all = tt }
opening_same [] (shape' ∷ shapes') bounds types = absurd (cc)
opening_same (shape ∷ shapes) [] bounds types = absurd (cc)
opening_same (shape ∷ shapes) (shape' ∷ shapes') bounds types =
    let first = parts_same (bounds_of_shape shape) (bounds_of_shape shape') (map bounds_of_shape shapes) (map bounds_of_shape shapes') bounds in
    let second = parts_same shape.fields shape'.fields (map (λ (it : Shape). it.fields) shapes) (map (λ (it : Shape). it.fields) shapes') types in
    let rest = opening_same shapes shapes' first.1 second.1 in
    record {
      pairs = record { one_shape = shape; other_shape = shape'; one = opening_layout shape; other = opening_layout shape' } ∷ rest.pairs;
      shapes_are = ap (λ (ss : List Shape). shape ∷ ss) rest.shapes_are;
      shapes_are' = ap (λ (ss : List Shape). shape' ∷ ss) rest.shapes_are';
      state_is = ap (λ (ls : List FlatLayout). opening_layout shape ∷ ls) rest.state_is;
      state_is' = ap (λ (ls : List FlatLayout). opening_layout shape' ∷ ls) rest.state_is';
      all = (pair_opening shape shape' first.0 second.0, rest.all);
    }

-- ---- one task after the other

-- what tasks leave, where all of them are performed
record Follow (shapes shapes' : List Shape) (tasks : List Task) (state state' : FlatState) (lefts rights : List Left) : Type 0 where
  each : AllLeaveSame shapes shapes' tasks lefts rights
  last : AreSame shapes shapes' (last_after state lefts) (last_after state' rights)

module _ (laws : FlatLaws) (first second : CheckedProgram) (parts : HaveSameParts first second) (readings : ℕ → Reading) where
  abbrev shapes : List Shape
  shapes = first.layouts

  abbrev shapes' : List Shape
  shapes' = second.layouts

  follow : (place : ℕ) (tasks : List Task) (state state' : FlatState) (lefts rights : List Left) → AreSame first.layouts second.layouts state state' → AllByRecursion (RunsNeutral first) tasks
      → left_by first readings place tasks state ≡ Ok lefts → left_by second readings place tasks state' ≡ Ok rights → Follow first.layouts second.layouts tasks state state' lefts rights
  follow place [] state state' lefts rights same neutral e e' =
      let none : [] ≡ lefts = cc in
      let none' : [] ≡ rights = cc in
      subst (λ (ls : List Left). Follow shapes shapes' [] state state' ls rights) none (subst (λ (rs : List Left). Follow shapes shapes' [] state state' [] rs) none' (record { each = tt; last = same }))
  follow place (task ∷ tasks) state state' lefts rights same neutral e e' =
      let one = bound_ok (task_meaning first state task (readings place)) (λ (left : Left). left_by first readings (suc place) tasks left.state >>= (λ more. Ok (left ∷ more))) lefts e in
      let two = bound_ok (task_meaning second state' task (readings place)) (λ (left : Left). left_by second readings (suc place) tasks left.state >>= (λ more. Ok (left ∷ more))) rights e' in
      let more = bound_ok (left_by first readings (suc place) tasks one.x.state) (λ (more : List Left). Ok (one.x ∷ more)) lefts one.gives in
      let more' = bound_ok (left_by second readings (suc place) tasks two.x.state) (λ (more : List Left). Ok (two.x ∷ more)) rights two.gives in
      let here = task_same laws first second parts.rules parts.fits parts.kernels state state' task (readings place) one.x two.x same neutral.0 one.is two.is in
      let rest = follow (suc place) tasks one.x.state two.x.state more.x more'.x here.states neutral.1 more.is more'.is in
      let made : one.x ∷ more.x ≡ lefts = cc in
      let made' : two.x ∷ more'.x ≡ rights = cc in
      subst (λ (ls : List Left). Follow shapes shapes' (task ∷ tasks) state state' ls rights) made
      (subst (λ (rs : List Left). Follow shapes shapes' (task ∷ tasks) state state' (one.x ∷ more.x) rs) made'
      (record { each = (record { values = values_same shapes shapes' one.x.state two.x.state here.states; image = here.image }, rest.each); last = rest.last }))

-- the law
pub layouts_dont_matter : FlatLaws → TextLaws → LayoutsDontMatter
layouts_dont_matter laws texts file file' first second readings lefts rights alike neutral e e' =
    let parts = programs_same texts file file' first second alike in
    let tasks : unfolded_tasks first.commands ≡ unfolded_tasks second.commands = ap unfolded_tasks parts.commands in
    let run : left_by second readings 0 (unfolded_tasks first.commands) (opening second.layouts) ≡ Ok rights = ap (λ (ts : List Task). left_by second readings 0 ts (opening second.layouts)) tasks ∙ e' in
    let all = follow laws first second parts readings 0 (unfolded_tasks first.commands) (opening first.layouts) (opening second.layouts) lefts rights (opening_same first.layouts second.layouts alike.extents parts.types) neutral e run in
    record {
      names = parts.names;
      tasks = tasks;
      each = all.each;
      last = values_same first.layouts second.layouts (last_after (opening first.layouts) lefts) (last_after (opening second.layouts) rights) all.last;
    }
