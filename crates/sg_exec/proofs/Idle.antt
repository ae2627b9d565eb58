-- Idle wants: none of them is outside, and all are active.
use Rattle.std.proofs.Common.{◌≡◌, Bool, true, List, [], ◌∷◌, map, Option, Some, None, Ok, refl, sym, ap, ◌∙◌, subst}
use Rattle.std.specs.Prelude.{if◌then◌else◌, slice_get, option_and_then, All, Contains, IsSome}
use Rattle.std.specs.Option.{option_or}
use Rattle.std.proofs.lemmas.List.Elements.{All-nil, All-cons, All-head, All-tail, All-append}
use Rattle.sg_words.proofs.Uses.{contains_head, contains_rest}
use Rattle.sg_coord.specs.declared.coord.Coord.{Coord}
use Rattle.sg_flat.specs.declared.effects.RunFault.TheVariants as fault
use Rattle.sg_flat.specs.declared.effects.RunFault.{RunFault}
use Rattle.sg_flat.specs.declared.state.FlatState.{FlatState}
use Rattle.sg_flat.specs.Effects.{writes_of}
use Rattle.sg_flat.specs.Kernel.{is_inside_of, outside_among, first_outside}
use Rattle.sg_layout.specs.declared.shape.Shape.{Shape}
use Rattle.sg_store.specs.StoreWords.{StoreWords}
use Rattle.sg_store.specs.Walks.{cell_in}
use Rattle.sg_ir.specs.declared.code.Inst.{Inst}
use Rattle.sg_ir.specs.Runs.{CodeWant, iteration, iteration_start}
use Rattle.sg_exec.specs.declared.activation.limits.Limits.{Limits}
use Rattle.sg_exec.specs.declared.workers.points.Most.{Most}
use Rattle.sg_exec.specs.Standing.{shapes_of}
use Rattle.sg_exec.specs.steps.Boxes.{IsUpToMost}
use Rattle.sg_exec.specs.steps.Limiting.{BlockIsLimited, IsIdleWant, StartsLimited}
use Rattle.sg_exec.specs.steps.Machines.{Sees, seen_in, want_write}
use Rattle.sg_exec.specs.steps.Moments.{slice_turn}
use Rattle.sg_exec.specs.steps.Turning.{IsActive, SliceTells}
use Rattle.sg_exec.proofs.Limited.{start_limited}
use Rattle.sg_exec.proofs.StoreLists.{flat_at, shape_at}

module _ (stores : List StoreWords) where
  within : (want : CodeWant) → IsIdleWant stores want → is_inside_of (slice_get (shapes_of stores) want.layout) want.at ≡ true
  within want idle = ap (λ (shape : Option Shape). is_inside_of shape want.at) (shape_at stores want.layout idle.store idle.there) ∙ idle.inside

  none_among : (at : Coord) (wants : List CodeWant) → All (IsIdleWant stores) wants → outside_among (shapes_of stores) at (map want_write wants) ≡ None
  none_among at [] all = refl
  none_among at (want ∷ wants) all =
      ap (λ (b : Bool). if b then outside_among (shapes_of stores) at (map want_write wants) else Some (fault.WriteOutside want.stmt at)) (within want (All-head (IsIdleWant stores) want wants all))
      ∙ none_among at wants (All-tail (IsIdleWant stores) want wants all)

  active : (state : FlatState) → Sees stores state → (want : CodeWant) → IsIdleWant stores want → IsActive stores (want_write want)
  active state sees want idle =
      let found = flat_at stores state.layouts want.layout idle.store sees.stand idle.there in
      subst (λ (o : Option StoreWords). IsSome (option_and_then (λ (s : StoreWords). cell_in s want.at) o)) (sym idle.there) (idle.active found.0 found.2)

  active_all : (state : FlatState) → Sees stores state → (wants : List CodeWant) → All (IsIdleWant stores) wants → All (IsActive stores) (map want_write wants)
  active_all state sees [] all = All-nil (IsActive stores)
  active_all state sees (want ∷ wants) all =
      All-cons (IsActive stores) (want_write want) (map want_write wants) (active state sees want (All-head (IsIdleWant stores) want wants all)) (active_all state sees wants (All-tail (IsIdleWant stores) want wants all))

  module _ (state : FlatState) (block : List Inst) where
    abbrev Idle : Coord → Type 0
    Idle at = All (IsIdleWant stores) (iteration (seen_in stores state at) block).wants

    none_outside : (points : List Coord) → ((at : Coord) → Contains points at → Idle at) → first_outside (shapes_of stores) (map (slice_turn stores state block) points) ≡ None
    none_outside [] each = refl
    none_outside (at ∷ points) each =
        ap (λ (found : Option RunFault). option_or found (first_outside (shapes_of stores) (map (slice_turn stores state block) points)))
        (none_among at (iteration (seen_in stores state at) block).wants (each at (contains_head at at points refl)))
        ∙ none_outside points (λ other has. each other (contains_rest other at points has))

    all_active : Sees stores state → (points : List Coord) → ((at : Coord) → Contains points at → Idle at) → All (IsActive stores) (writes_of (map (slice_turn stores state block) points))
    all_active sees [] each = All-nil (IsActive stores)
    all_active sees (at ∷ points) each =
        All-append (IsActive stores) (map want_write (iteration (seen_in stores state at) block).wants) (writes_of (map (slice_turn stores state block) points))
        (active_all state sees (iteration (seen_in stores state at) block).wants (each at (contains_head at at points refl)))
        (all_active sees points (λ other has. each other (contains_rest other at points has)))

-- so a slice tells where its block keeps to limits from the start
pub idle_tells : (stores : List StoreWords) (limits : Limits) (most : Most) (block : List Inst) (points : List Coord) → StartsLimited limits most → BlockIsLimited stores limits block
    → ((at : Coord) → Contains points at → IsUpToMost most at) → SliceTells stores block points (Ok true)
idle_tells stores limits most block points starts keeps up state sees named =
    (none_outside stores state block points each, λ told. all_active stores state block sees points each)
  where
    each : (at : Coord) → Contains points at → Idle stores state block at
    each at has = (keeps (seen_in stores state at) (iteration_start (seen_in stores state at)) (start_limited stores limits most state at starts (up at has))).wants
