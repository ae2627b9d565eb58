-- From the images and counts of stores to those of the state that they stand for.
use Rattle.std.proofs.Common.{◌≡◌, ℕ, ◌<◌, ℤ, List, map, length, Option, Some, Result, Ok, Err, IfOk, sym, ap, ◌∙◌, subst, arith}
use Rattle.std.specs.Prelude.{slice_get}
use Rattle.sg_words.specs.declared.memory.Memory.{Memory}
use Rattle.sg_words.specs.declared.text.Text.{Text}
use Rattle.sg_ast.specs.declared.token.Name.{Name}
use Rattle.sg_layout.specs.declared.shape.Shape.{Shape}
use Rattle.sg_flat.specs.declared.state.FlatLayout.{FlatLayout}
use Rattle.sg_flat.specs.declared.state.FlatState.{FlatState}
use Rattle.sg_store.specs.StoreWords.{StoreWords}
use Rattle.sg_store.specs.StandsFor.{StandsFor}
use Rattle.sg_image.specs.Image.{image_text}
use Rattle.sg_image.specs.Counts.{stats_text}
use Rattle.sg_exec.specs.Standing.{StandForState}
use Rattle.sg_words.specs.declared.memory.Stop.{Stop}
use Rattle.sg_names.specs.declared.tables.FieldAt.{FieldAt}
use Rattle.sg_session.specs.declared.refusal.RunRefusal.{RunRefusal}
use Rattle.sg_session.specs.Commands.{image_of_field, image_made, counts_of_layout}
use Rattle.sg_session.specs.Performed.{HasState, Performs}
use Rattle.sg_session.proofs.Lists.{count_map}
use Rattle.sg_session.proofs.Performing.{stands_at, shape_at}

pub image_done : (layouts : List Shape) (stores : List StoreWords) (place k : ℕ) (lo hi : ℤ) (store : StoreWords) (result : Result Text Memory) → slice_get stores k ≡ Some store
    → IfOk result (λ text. (flat : FlatLayout) → StandsFor store flat → text.bytes ≡ image_text store.shape flat place lo hi)
    → IfOk result (λ text. (state : FlatState) → StandForState layouts stores state → text.bytes ≡ image_of_field place lo hi (slice_get layouts k) (slice_get state.layouts k))
image_done layouts stores place k lo hi store (Ok text) at h = λ state stand.
    let here = stands_at layouts stores state k store stand at in
    h here.flat here.stands ∙ sym (ap (λ (o : Option Shape). image_of_field place lo hi o (slice_get state.layouts k)) (shape_at layouts stores state k store stand at)
    ∙ ap (λ (o : Option FlatLayout). image_of_field place lo hi (Some store.shape) o) here.there)
image_done layouts stores place k lo hi store (Err why) at h = tt

pub stats_done : (layouts : List Shape) (stores : List StoreWords) (named : Option Name) (name : Name) (bytes : List ℕ) (k : ℕ) (store : StoreWords) (result : Result Text Memory) → named ≡ Some name → bytes ≡ name.text → slice_get stores k ≡ Some store
    → IfOk result (λ text. (flat : FlatLayout) → StandsFor store flat → text.bytes ≡ stats_text store.shape flat bytes)
    → IfOk result (λ text. (state : FlatState) → StandForState layouts stores state → text.bytes ≡ counts_of_layout named (slice_get layouts k) (slice_get state.layouts k))
stats_done layouts stores named name bytes k store (Ok text) is spelled at h = λ state stand.
    let here = stands_at layouts stores state k store stand at in
    h here.flat here.stands ∙ ap (λ (bs : List ℕ). stats_text store.shape here.flat bs) spelled
    ∙ sym (ap (λ (n : Option Name). counts_of_layout n (slice_get layouts k) (slice_get state.layouts k)) is
    ∙ ap (λ (o : Option Shape). counts_of_layout (Some name) o (slice_get state.layouts k)) (shape_at layouts stores state k store stand at)
    ∙ ap (λ (o : Option FlatLayout). counts_of_layout (Some name) (Some store.shape) o) here.there)
stats_done layouts stores named name bytes k store (Err why) is spelled at h = tt

-- a layout has a store
pub has_own_store : (layouts : List Shape) (stores : List StoreWords) (k : ℕ) → HasState layouts stores → k < length layouts → k < length stores
has_own_store layouts stores k stand below =
    let many : length (map (λ (s : StoreWords). s.shape) stores) ≡ length layouts = ap length stand.1.shapes_are in
    omega (arith, many, below, count_map (λ (s : StoreWords). s.shape) stores)

-- ---- bounds

-- an image between bounds that are these
pub image_between : (layouts : List Shape) (stores : List StoreWords) (result : Result Text (Stop RunRefusal)) (state : FlatState) (at : FieldAt) (lo hi low high : ℤ) → low ≡ lo → high ≡ hi
    → Performs layouts stores result (image_made layouts state at low high) → Performs layouts stores result (image_made layouts state at lo hi)
image_between layouts stores result state at lo hi low high low_is high_is h =
    subst (λ (z : ℤ). Performs layouts stores result (image_made layouts state at lo z)) high_is
    (subst (λ (z : ℤ). Performs layouts stores result (image_made layouts state at z high)) low_is h)
