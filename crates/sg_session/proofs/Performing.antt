-- From what a run or a dump over stores answers to what a task makes of a state.
use Rattle.std.proofs.Common.{◌≡◌, ℕ, zero, suc, ◌<◌, List, [], ◌∷◌, map, length, Option, Some, Result, Ok, Err, IfOk, refl, sym, ap, ◌∙◌, subst, arith}
use Rattle.std.specs.Prelude.{slice_get, option_map, OnErr}
use Rattle.std.specs.List.{AllZip}
use Rattle.std.specs.Result.{IsOkAnd}
use Rattle.std.proofs.lemmas.Option.{slice_get-map, slice_get_within}
use Rattle.sg_words.specs.Results.{◌>>=◌, fault_as}
use Rattle.sg_words.specs.declared.memory.Memory.{Memory}
use Rattle.sg_words.specs.declared.memory.Stop.{Stop}
use Rattle.sg_words.specs.declared.text.Text.{Text}
use Rattle.sg_layout.specs.declared.shape.Shape.{Shape}
use Rattle.sg_flat.specs.declared.effects.RunFault.{RunFault}
use Rattle.sg_ir.specs.declared.code.KernelCode.{KernelCode}
use Rattle.sg_flat.specs.declared.state.FlatLayout.{FlatLayout}
use Rattle.sg_flat.specs.declared.state.FlatState.{FlatState}
use Rattle.sg_store.specs.StoreWords.{StoreWords}
use Rattle.sg_store.specs.declared.store.Stores.{Stores}
use Rattle.sg_store.specs.StandsFor.{StandsFor}
use Rattle.sg_names.specs.declared.tables.FieldAt.{FieldAt}
use Rattle.sg_words.specs.declared.operators.Ty.{Ty}
use Rattle.sg_types.specs.WellTyped.{field_in}
use Rattle.sg_grid.specs.Dump.{dump_text}
use Rattle.sg_exec.specs.Standing.{StandForState}
use Rattle.sg_exec.specs.Running.{run_meaning}
use Rattle.sg_session.specs.declared.refusal.RunRefusal.{RunRefusal}
use Rattle.sg_session.specs.declared.refusal.RunRefusal.TheVariants as refusal
use Rattle.sg_session.specs.Commands.{without_text, after_code, text_of_field, run_made, dump_made}
use Rattle.sg_session.specs.Performed.{LeavesMeaning, HasState}
use Rattle.sg_session.proofs.Lists.{then_some, count_map}

-- ---- the state that stores stand for

-- the store at a place stands for the flat layout there
pub record StandsAt (flats : List FlatLayout) (place : ℕ) (store : StoreWords) : Type 0 where
  pub flat : FlatLayout
  pub there : slice_get flats place ≡ Some flat
  pub stands : StandsFor store flat

stands_in : (stores : List StoreWords) (flats : List FlatLayout) (k : ℕ) (store : StoreWords) → AllZip StandsFor stores flats → slice_get stores k ≡ Some store → StandsAt flats k store
stands_in [] [] k store h e = absurd (cc)
stands_in [] (flat ∷ flats) k store h e = absurd h
stands_in (other ∷ stores) [] k store h e = absurd h
stands_in (other ∷ stores) (flat ∷ flats) zero store h e =
    let same : other ≡ store = cc in record { flat = flat; there = refl; stands = subst (λ (s : StoreWords). StandsFor s flat) same h.0 }
stands_in (other ∷ stores) (flat ∷ flats) (suc k) store h e =
    let rest = stands_in stores flats k store h.1 e in record { flat = rest.flat; there = rest.there; stands = rest.stands }

pub stands_at : (layouts : List Shape) (stores : List StoreWords) (state : FlatState) (k : ℕ) (store : StoreWords) → StandForState layouts stores state → slice_get stores k ≡ Some store → StandsAt state.layouts k store
stands_at layouts stores state k store stand e = stands_in stores state.layouts k store stand.stand e

pub shape_at : (layouts : List Shape) (stores : List StoreWords) (state : FlatState) (k : ℕ) (store : StoreWords) → StandForState layouts stores state → slice_get stores k ≡ Some store → slice_get layouts k ≡ Some store.shape
shape_at layouts stores state k store stand e =
    ap (λ (shapes : List Shape). slice_get shapes k) (sym stand.shapes_are)
    ∙ slice_get-map (λ (s : StoreWords). s.shape) stores k ∙ ap (option_map (λ (s : StoreWords). s.shape)) e

-- ---- runs and loads

leaves_by : (layouts : List Shape) (after : List StoreWords) (text : List ℕ) (tell : RunFault → RunRefusal) (meaning : Result FlatState RunFault)
    → text ≡ [] → IsOkAnd meaning (StandForState layouts after) → LeavesMeaning layouts after text (fault_as tell meaning >>= (λ state. Ok (without_text state)))
leaves_by layouts after text tell (Ok state) none h = record { left = without_text state; is = refl; stand = h; text_is = none }
leaves_by layouts after text tell (Err fault) none h = absurd h

-- ---- dumps

pub dump_done : (layouts : List Shape) (stores : List StoreWords) (place k : ℕ) (store : StoreWords) (result : Result Text Memory) → slice_get stores k ≡ Some store
    → IfOk result (λ text. (flat : FlatLayout) → StandsFor store flat → text.bytes ≡ dump_text store.shape flat place)
    → IfOk result (λ text. (state : FlatState) → StandForState layouts stores state → text.bytes ≡ text_of_field place (slice_get layouts k) (slice_get state.layouts k))
dump_done layouts stores place k store (Ok text) at h = λ state stand.
    let here = stands_at layouts stores state k store stand at in
    h here.flat here.stands ∙ sym (ap (λ (o : Option Shape). text_of_field place o (slice_get state.layouts k)) (shape_at layouts stores state k store stand at)
    ∙ ap (λ (o : Option FlatLayout). text_of_field place (Some store.shape) o) here.there)
dump_done layouts stores place k store (Err why) at h = tt

-- what a dump answers
pub dump_performs : (layouts : List Shape) (stores : List StoreWords) (at : FieldAt) (result : Result Text Memory)
    → IfOk result (λ text. (state : FlatState) → StandForState layouts stores state → text.bytes ≡ text_of_field at.place (slice_get layouts at.layout) (slice_get state.layouts at.layout))
    → IfOk result (λ text. (state : FlatState) → StandForState layouts stores state → LeavesMeaning layouts stores text.bytes (dump_made layouts state at))
dump_performs layouts stores at (Ok text) h = λ state stand. record {
  left = record { state = state; text = text_of_field at.place (slice_get layouts at.layout) (slice_get state.layouts at.layout) };
  is = refl;
  stand = stand;
  text_is = h state stand;
}
dump_performs layouts stores at (Err why) h = tt

-- ---- runs of code

module _ (layouts inner : List Shape) (kernels : List KernelCode) (kernel : ℕ) (code : KernelCode) (stores after : List StoreWords) (same : inner ≡ layouts) (there : slice_get kernels kernel ≡ Some code) where
  -- the run of the code that is there
  means : (state : FlatState) → run_made kernel (after_code layouts state (slice_get kernels kernel)) ≡ run_made kernel (run_meaning inner state code)
  means state =
      ap (λ (o : Option KernelCode). run_made kernel (after_code layouts state o)) there
      ∙ ap (λ (ls : List Shape). run_made kernel (run_meaning ls state code)) (sym same)

  over : (state : FlatState) → StandForState layouts stores state → StandForState inner stores state
  over state stand = subst (λ (ls : List Shape). StandForState ls stores state) (sym same) stand

  pub run_done_over : (text : List ℕ) → text ≡ [] → ((state : FlatState) → StandForState inner stores state → IsOkAnd (run_meaning inner state code) (StandForState inner after))
      → (state : FlatState) → StandForState layouts stores state → LeavesMeaning layouts after text (run_made kernel (after_code layouts state (slice_get kernels kernel)))
  run_done_over text none h state stand =
      subst (LeavesMeaning layouts after text) (sym (means state))
      (leaves_by layouts after text (refusal.Run (Some kernel)) (run_meaning inner state code) none
      (subst (λ (ls : List Shape). IsOkAnd (run_meaning inner state code) (StandForState ls after)) same (h state (over state stand))))

  pub run_refused_over : (fault : RunFault) → ((state : FlatState) → StandForState inner stores state → run_meaning inner state code ≡ Err fault)
      → (state : FlatState) → StandForState layouts stores state → run_made kernel (after_code layouts state (slice_get kernels kernel)) ≡ Err (refusal.Run (Some kernel) fault)
  run_refused_over fault h state stand = means state ∙ ap (run_made kernel) (h state (over state stand))

-- ---- what stores stand for after a run

ok_state : (P : FlatState → Type 0) (m : Result FlatState RunFault) → IsOkAnd m P → (state : FlatState) × P state
ok_state P (Ok state) h = (state, h)
ok_state P (Err fault) h = absurd h

-- a run leaves stores that stand for a state
pub run_stands : (layouts inner : List Shape) (code : KernelCode) (stores after : List StoreWords) → inner ≡ layouts
    → ((state : FlatState) → StandForState inner stores state → IsOkAnd (run_meaning inner state code) (StandForState inner after)) → HasState layouts stores → HasState layouts after
run_stands layouts inner code stores after same ran had =
    subst (λ (ls : List Shape). HasState ls after) same
    (ok_state (StandForState inner after) (run_meaning inner had.0 code) (ran had.0 (subst (λ (ls : List Shape). StandForState ls stores had.0) (sym same) had.1)))

-- whatever a task answered
pub still_stand : (layouts : List Shape) (old new : Stores) (result : Result Text (Stop RunRefusal)) → HasState layouts old.list → IfOk result (λ text. HasState layouts old.list → HasState layouts new.list)
    → OnErr result (new ≡ old) → HasState layouts new.list
still_stand layouts old new (Ok text) had stand stays = stand had
still_stand layouts old new (Err why) had stand stays = subst (λ (ss : Stores). HasState layouts ss.list) (sym stays) had

-- a field's layout has a store
pub has_store : (layouts : List Shape) (stores : List StoreWords) (k place : ℕ) (type : Ty) → HasState layouts stores → field_in layouts k place ≡ Some type → k < length stores
has_store layouts stores k place type stand e =
    let found = then_some (λ (shape : Shape). slice_get shape.fields place) (slice_get layouts k) type e in
    let below : k < length layouts = slice_get_within layouts k found.0 found.1 in
    let many : length (map (λ (s : StoreWords). s.shape) stores) ≡ length layouts = ap length stand.1.shapes_are in
    omega (arith, count_map (λ (s : StoreWords). s.shape) stores)
