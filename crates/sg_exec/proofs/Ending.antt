-- From the steps of a run to its meaning.
use Rattle.std.proofs.Common.{◌≡◌, ℕ, zero, suc, ◌+◌, ◌<◌, Bool, true, not, ◌||◌, eqb, List, [], ◌∷◌, ◌++◌, length, Option, Some, None, Result, Ok, Err, refl, sym, ap, ◌∙◌, subst, arith}
use Rattle.std.specs.Prelude.{filter, slice_get, Contains, IsTrue}
use Rattle.std.specs.Result.{IsOkAnd}
use Rattle.std.specs.List.{AllZip}
use Rattle.std.proofs.lemmas.Bool.{eq-eqb}
use Rattle.std.proofs.lemmas.Option.{same_Some, slice_get_within, get_or_from_slice_get}
use Rattle.std.proofs.lemmas.List.Sums.{AllPass-from_list_all}
use Rattle.std.proofs.lemmas.List.Elements.{All-contains, Contains-append_right}
use Rattle.sg_words.specs.Results.{fault_or}
use Rattle.sg_words.proofs.Uses.{into_map, into_filter}
use Rattle.sg_coord.specs.declared.coord.Coord.{Coord}
use Rattle.sg_coord.specs.Coord.{Inside, is_inside}
use Rattle.sg_coord.specs.Laws.{InsideTest}
use Rattle.sg_layout.specs.declared.shape.Shape.{Shape}
use Rattle.sg_layout.specs.Axes.{bounds_of_shape}
use Rattle.sg_layout.specs.Closure.{closure}
use Rattle.sg_layout.specs.ClosureLaws.{ClosureExtends}
use Rattle.sg_flat.specs.declared.effects.Write.{Write}
use Rattle.sg_flat.specs.declared.effects.Turn.{Turn}
use Rattle.sg_flat.specs.declared.effects.RunFault.{RunFault}
use Rattle.sg_flat.specs.declared.state.FlatLayout.{FlatLayout}
use Rattle.sg_flat.specs.declared.state.FlatState.{FlatState}
use Rattle.sg_flat.specs.Effects.{writes_of, written_in}
use Rattle.sg_flat.specs.Kernel.{first_outside, first_full_layout, fields_after, layouts_after, kernel_meaning}
use Rattle.sg_flat.specs.steps.Landing.{stay_inside}
use Rattle.sg_flat.proofs.Uses.{stay_inside_each}
use Rattle.sg_store.specs.StoreWords.{StoreWords}
use Rattle.sg_store.specs.StandsFor.{StandsFor}
use Rattle.sg_exec.specs.Standing.{shapes_of, StandForState}
use Rattle.sg_exec.specs.steps.Landing.{landed_layouts, AreActive, Lands}
use Rattle.sg_exec.specs.steps.Wants.{reached_layouts}
use Rattle.sg_exec.proofs.FieldsLanded.{landed_turns}

abbrev made : List Coord → List (List (ℕ × ℕ)) → FlatLayout
made active fields = record { active = active; fields = fields }

abbrev fields_after_of : Shape → ℕ → FlatLayout → List Turn → List (List (ℕ × ℕ))
fields_after_of shape k flat turns = fields_after (bounds_of_shape shape) k 0 shape.fields flat.fields turns

-- what is reached and then landed is the layouts after the run
after_is : (k : ℕ) (shapes : List Shape) (flats : List FlatLayout) (turns : List Turn)
    → landed_layouts k shapes (reached_layouts k shapes flats turns) (writes_of turns) ≡ layouts_after k shapes flats turns
after_is k [] flats turns = refl
after_is k (shape ∷ shapes) [] turns = refl
after_is k (shape ∷ shapes) (flat ∷ flats) turns =
    ap (λ (fs : List (List (ℕ × ℕ))). made (closure shape (flat.active ++ written_in k turns)) fs ∷ landed_layouts (suc k) shapes (reached_layouts (suc k) shapes flats turns) (writes_of turns))
    (landed_turns (bounds_of_shape shape) k 0 shape.fields flat.fields turns)
    ∙ ap (λ (ls : List FlatLayout). made (closure shape (flat.active ++ written_in k turns)) (fields_after_of shape k flat turns) ∷ ls) (after_is (suc k) shapes flats turns)

-- the layout with a number, once what is written is reached
reached_at : (k : ℕ) (shapes : List Shape) (flats : List FlatLayout) (turns : List Turn) (i : ℕ) (now : FlatLayout) → slice_get (reached_layouts k shapes flats turns) i ≡ Some now
    → (shape : Shape) × (flat : FlatLayout) × (slice_get shapes i ≡ Some shape) × (now.active ≡ closure shape (flat.active ++ written_in (k + i) turns))
reached_at k [] flats turns i now is = absurd (cc)
reached_at k (shape ∷ shapes) [] turns i now is = absurd (cc)
reached_at k (shape ∷ shapes) (flat ∷ flats) turns zero now is =
    let here : k ≡ k + 0 = omega arith in
    (shape, flat, refl, ap (λ (l : FlatLayout). l.active) (sym (same_Some _ _ is)) ∙ ap (λ (n : ℕ). closure shape (flat.active ++ written_in n turns)) here)
reached_at k (shape ∷ shapes) (flat ∷ flats) turns (suc i) now is =
    let found = reached_at (suc k) shapes flats turns i now is in
    let next : suc k + i ≡ k + suc i = omega arith in
    (found.0, found.1, found.2, found.3 ∙ ap (λ (n : ℕ). closure found.0 (found.1.active ++ written_in n turns)) next)

zero_plus : (n : ℕ) → 0 + n ≡ n
zero_plus n = omega arith

-- every write is at a coordinate that is active once what is written is reached
pub writes_active : (shapes : List Shape) (flats : List FlatLayout) (turns : List Turn) → InsideTest → ((shape : Shape) → ClosureExtends shape) → first_outside shapes turns ≡ None
    → AreActive (reached_layouts 0 shapes flats turns) (writes_of turns)
writes_active shapes flats turns test extends none = λ number now write is has same.
    let found = reached_at 0 shapes flats turns number now is in
    let shape = found.0 in
    let below : number < length shapes = slice_get_within shapes number shape found.2 in
    let inside_all : IsTrue (stay_inside (bounds_of_shape shape) number (writes_of turns)) =
    stay_inside_each shapes number number shape turns refl below (sym (get_or_from_slice_get shapes number shape shape found.2)) none in
    let passes : (not (eqb write.layout number) || is_inside (bounds_of_shape shape) write.at) ≡ true =
    All-contains (λ (w : Write). (not (eqb w.layout number) || is_inside (bounds_of_shape shape) w.at) ≡ true) (writes_of turns) write
    (AllPass-from_list_all (λ (w : Write). not (eqb w.layout number) || is_inside (bounds_of_shape shape) w.at) (writes_of turns) inside_all) has in
    let inside : Inside (bounds_of_shape shape) write.at =
    (test (bounds_of_shape shape) write.at).0 (sym (ap (λ (b : Bool). not b || is_inside (bounds_of_shape shape) write.at) (eq-eqb write.layout number same)) ∙ passes) in
    let written : Contains (written_in number turns) write.at =
    into_map (λ (w : Write). w.at) (filter (λ (w : Write). eqb w.layout number) (writes_of turns)) write (into_filter (λ (w : Write). eqb w.layout number) (writes_of turns) write has (eq-eqb write.layout number same)) in
    let there : Contains (closure shape (found.1.active ++ written_in number turns)) write.at =
    extends shape (found.1.active ++ written_in number turns) write.at (Contains-append_right found.1.active (written_in number turns) write.at written) inside in
    subst (λ (ats : List Coord). Contains ats write.at)
    (sym (found.3 ∙ ap (λ (n : ℕ). closure shape (found.1.active ++ written_in n turns)) (zero_plus number))) there

-- the run is refused for a write outside, or for a pool that is full
pub meaning_outside : (shapes : List Shape) (state : FlatState) (turns : List Turn) (fault : RunFault) → first_outside shapes turns ≡ Some fault → kernel_meaning shapes state (record { turns = turns }) ≡ Err fault
meaning_outside shapes state turns fault outside =
    ap (λ (f : Option RunFault). fault_or f (fault_or (first_full_layout 0 shapes state.layouts turns) (Ok (record { layouts = layouts_after 0 shapes state.layouts turns })))) outside

pub meaning_full : (shapes : List Shape) (state : FlatState) (turns : List Turn) (fault : RunFault) → first_outside shapes turns ≡ None → first_full_layout 0 shapes state.layouts turns ≡ Some fault
    → kernel_meaning shapes state (record { turns = turns }) ≡ Err fault
meaning_full shapes state turns fault inside full =
    ap (λ (f : Option RunFault). fault_or f (fault_or (first_full_layout 0 shapes state.layouts turns) (Ok (record { layouts = layouts_after 0 shapes state.layouts turns })))) inside
    ∙ ap (λ (f : Option RunFault). fault_or f (Ok (record { layouts = layouts_after 0 shapes state.layouts turns }))) full

meaning_ok : (shapes : List Shape) (state : FlatState) (turns : List Turn) → first_outside shapes turns ≡ None → first_full_layout 0 shapes state.layouts turns ≡ None
    → kernel_meaning shapes state (record { turns = turns }) ≡ Ok (record { layouts = layouts_after 0 shapes state.layouts turns })
meaning_ok shapes state turns inside room =
    ap (λ (f : Option RunFault). fault_or f (fault_or (first_full_layout 0 shapes state.layouts turns) (Ok (record { layouts = layouts_after 0 shapes state.layouts turns })))) inside
    ∙ ap (λ (f : Option RunFault). fault_or f (Ok (record { layouts = layouts_after 0 shapes state.layouts turns }))) room

-- all has landed
pub ended : (stores mids news : List StoreWords) (state : FlatState) (turns : List Turn) → InsideTest → ((shape : Shape) → ClosureExtends shape)
    → first_outside (shapes_of stores) turns ≡ None → first_full_layout 0 (shapes_of stores) state.layouts turns ≡ None
    → shapes_of mids ≡ shapes_of stores → AllZip StandsFor mids (reached_layouts 0 (shapes_of stores) state.layouts turns) → Lands mids news (writes_of turns)
    → IsOkAnd (kernel_meaning (shapes_of stores) state (record { turns = turns })) (StandForState (shapes_of stores) news)
ended stores mids news state turns test extends inside room same stand lands =
    let shapes = shapes_of stores in
    let landed = lands.stand (reached_layouts 0 shapes state.layouts turns) stand (writes_active shapes state.layouts turns test extends inside) in
    let after : AllZip StandsFor news (layouts_after 0 shapes state.layouts turns) =
    subst (λ (ls : List FlatLayout). AllZip StandsFor news ls)
    (ap (λ (ss : List Shape). landed_layouts 0 ss (reached_layouts 0 shapes state.layouts turns) (writes_of turns)) same ∙ after_is 0 shapes state.layouts turns) landed in
    subst (λ (m : Result FlatState RunFault). IsOkAnd m (StandForState shapes news)) (sym (meaning_ok shapes state turns inside room))
    (record { shapes_are = lands.same_shapes ∙ same; stand = after })
