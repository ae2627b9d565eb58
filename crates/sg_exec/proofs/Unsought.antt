-- A slice that wants nothing wants nothing outside, and nothing that isn't active.
use Rattle.std.proofs.Common.{◌≡◌, ℕ, Bool, true, false, cond, List, [], ◌∷◌, ◌++◌, map, None, Ok, refl, sym, ap, ◌∙◌, subst}
use Rattle.std.specs.Prelude.{◌==◌, All, filter}
use Rattle.std.specs.Option.{option_or}
use Rattle.std.proofs.lemmas.Bool.{eq-eqb}
use Rattle.std.proofs.lemmas.List.Elements.{All-nil}
use Rattle.sg_coord.specs.declared.coord.Coord.{Coord}
use Rattle.sg_flat.specs.declared.effects.Write.{Write}
use Rattle.sg_flat.specs.declared.state.FlatState.{FlatState}
use Rattle.sg_flat.specs.Effects.{writes_of}
use Rattle.sg_flat.specs.Kernel.{outside_among, first_outside}
use Rattle.sg_store.specs.StoreWords.{StoreWords}
use Rattle.sg_ir.specs.declared.code.Inst.{Inst}
use Rattle.sg_ir.specs.Runs.{Seen, CodeWant, iteration, iteration_start}
use Rattle.sg_exec.specs.Standing.{shapes_of}
use Rattle.sg_exec.specs.steps.Machines.{seen_in, want_write}
use Rattle.sg_exec.specs.steps.Moments.{slice_turn}
use Rattle.sg_exec.specs.steps.Turning.{BlockSeeksNone, IsActive, TellsOutside}

none_left : (wants : List CodeWant) → ((layout : ℕ) → filter (λ (want : CodeWant). want.layout == layout) wants ≡ []) → wants ≡ []
none_left [] none = refl
none_left (want ∷ wants) none = by_test (want.layout == want.layout) (eq-eqb want.layout want.layout refl) (none want.layout)
  where
    by_test : (b : Bool) → b ≡ true → cond b (want ∷ filter (λ (w : CodeWant). w.layout == want.layout) wants) (filter (λ (w : CodeWant). w.layout == want.layout) wants) ≡ [] → want ∷ wants ≡ []
    by_test true is none' = absurd (cc)
    by_test false is none' = absurd (cc)

unsought : (seen : Seen) (block : List Inst) → BlockSeeksNone block → (iteration seen block).wants ≡ []
unsought seen block none = none_left (iteration seen block).wants (λ layout. none layout seen (iteration_start seen))

none_sought : (stores : List StoreWords) (state : FlatState) (block : List Inst) (points : List Coord) → BlockSeeksNone block
    → first_outside (shapes_of stores) (map (slice_turn stores state block) points) ≡ None
none_sought stores state block [] none = refl
none_sought stores state block (at ∷ points) none =
    ap (λ (wants : List CodeWant). option_or (outside_among (shapes_of stores) at (map want_write wants)) (first_outside (shapes_of stores) (map (slice_turn stores state block) points)))
    (unsought (seen_in stores state at) block none)
    ∙ none_sought stores state block points none

no_writes : (stores : List StoreWords) (state : FlatState) (block : List Inst) (points : List Coord) → BlockSeeksNone block → writes_of (map (slice_turn stores state block) points) ≡ []
no_writes stores state block [] none = refl
no_writes stores state block (at ∷ points) none =
    ap (λ (wants : List CodeWant). map want_write wants ++ writes_of (map (slice_turn stores state block) points)) (unsought (seen_in stores state at) block none)
    ∙ no_writes stores state block points none

pub nothing_sought : (stores : List StoreWords) (state : FlatState) (block : List Inst) (points : List Coord) → BlockSeeksNone block → TellsOutside stores (map (slice_turn stores state block) points) (Ok true)
nothing_sought stores state block points none = (
  none_sought stores state block points none,
  λ all. subst (λ (ws : List Write). All (IsActive stores) ws) (sym (no_writes stores state block points none)) (All-nil (IsActive stores)),
)
