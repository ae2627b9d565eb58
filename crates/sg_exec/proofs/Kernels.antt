-- The meaning of a kernel run, from what its steps found.
use Rattle.std.proofs.Common.{◌≡◌, ℕ, ◌+◌, false, inl, inr, List, [], ◌∷◌, map, Option, Some, None, Result, Err, refl, sym, ap, ◌∙◌, subst, arith}
use Rattle.std.specs.Prelude.{filter, slice_get, Contains}
use Rattle.std.specs.Option.{option_or}
use Rattle.std.specs.Result.{IsOkAnd}
use Rattle.std.specs.List.{AllZip, list_any}
use Rattle.sg_coord.specs.declared.coord.Coord.{Coord}
use Rattle.sg_coord.specs.Laws.{InsideTest}
use Rattle.sg_layout.specs.declared.shape.Shape.{Shape}
use Rattle.sg_layout.specs.ClosureLaws.{ClosureIsInside, ClosureExtends}
use Rattle.sg_flat.specs.declared.effects.Write.{Write}
use Rattle.sg_flat.specs.declared.effects.Turn.{Turn}
use Rattle.sg_flat.specs.declared.effects.RunFault.{RunFault}
use Rattle.sg_flat.specs.declared.state.FlatLayout.{FlatLayout}
use Rattle.sg_flat.specs.declared.state.FlatState.{FlatState}
use Rattle.sg_flat.specs.Domain.{domain_points, is_active, same_coord}
use Rattle.sg_flat.specs.Effects.{writes_of, written_in}
use Rattle.sg_flat.specs.Kernel.{outside_among, first_outside, first_full_layout, kernel_meaning}
use Rattle.sg_flat.specs.State.{IsFlat}
use Rattle.sg_store.specs.StoreWords.{StoreWords}
use Rattle.sg_store.specs.StandsFor.{StandsFor}
use Rattle.sg_ir.specs.declared.code.KernelCode.{KernelCode}
use Rattle.sg_ir.specs.Runs.{iteration}
use Rattle.sg_ir.specs.Trimmed.{asked_in}
use Rattle.sg_words.proofs.Uses.{contains_none, contains_cases}
use Rattle.sg_ir.proofs.Uses.{well_typed_asks}
use Rattle.sg_exec.specs.Standing.{shapes_of, StandForState}
use Rattle.sg_exec.specs.Running.{IsRunnable, code_turn, run_meaning, load_meaning, turn_of}
use Rattle.sg_exec.specs.steps.Machines.{seen_in}
use Rattle.sg_exec.specs.steps.Moments.{slice_turn, AreNamedAt}
use Rattle.sg_exec.specs.steps.Landing.{AreTurnsOf, Lands}
use Rattle.sg_exec.specs.steps.Wants.{acts, AreWants, reached_layouts}
use Rattle.sg_exec.proofs.Covered.{turn_writes}
use Rattle.sg_exec.proofs.Ending.{ended, meaning_outside, meaning_full}
use Rattle.sg_exec.proofs.Sliced.{wants_of, wants_of_turns, first_same, wants_same, of_writes}
use Rattle.sg_exec.proofs.Seeing.{reached_state, AsksTheSame}
use Rattle.sg_exec.proofs.Settled.{is_in, wants_none, none_written, unwritten_same}
use Rattle.sg_exec.proofs.UsedWrites.{write_used}
use Rattle.sg_exec.proofs.Located.{wanted_are, located_made, left_at_loop}
use Rattle.sg_exec.proofs.Walked.{all_flat, StandsActive, left_out, stands_inside, stands_active}

-- the laws by which a kernel's slice stands for its code
pub record KernelLaws : Type 0 where
  pub test : InsideTest
  pub inside : (shape : Shape) → ClosureIsInside shape
  pub extends : (shape : Shape) → ClosureExtends shape

inside_each : (f : Coord → Turn) (shapes : List Shape) (points : List Coord) (at : Coord) → first_outside shapes (map f points) ≡ None → Contains points at → outside_among shapes (f at).at (f at).writes ≡ None
inside_each f shapes [] at none has = absurd (contains_none at has)
inside_each f shapes (first ∷ points) at none has = elim (contains_cases at first points has) [
  | inl same ↦ subst (λ (x : Coord). outside_among shapes (f x).at (f x).writes ≡ None) same both.0
  | inr later ↦ inside_each f shapes points at both.1 later
]
  where
    by_found : (a b : Option RunFault) → option_or a b ≡ None → (a ≡ None) × (b ≡ None)
    by_found None b is = (refl, is)
    by_found (Some fault) b is = absurd (cc)

    both : (outside_among shapes (f first).at (f first).writes ≡ None) × (first_outside shapes (map f points) ≡ None)
    both = by_found (outside_among shapes (f first).at (f first).writes) (first_outside shapes (map f points)) none

module _ (laws : KernelLaws) (stores : List StoreWords) (state : FlatState) (kernel : KernelCode) (points : List Coord)
    (all : AllZip StandsFor stores state.layouts) (runnable : IsRunnable (shapes_of stores) kernel) (are_points : points ≡ domain_points state kernel.domain) where
  abbrev code : Coord → Turn
  code = code_turn (shapes_of stores) state kernel

  abbrev slice : Coord → Turn
  slice = slice_turn stores state kernel.slice.body

  flat : IsFlat (shapes_of stores) state
  flat = all_flat stores state.layouts all

  visited : (at : Coord) → Contains points at → Contains (domain_points state kernel.domain) at
  visited at has = subst (λ (ps : List Coord). Contains ps at) are_points has

  each_slice : (at : Coord) → Contains points at → (slice at).writes ≡ wants_of (acts kernel.domain) (code at).writes
  each_slice at has = wanted_are kernel.domain at (shapes_of stores) _ _ (runnable.apt.wants state flat at (visited at has))

  outs : (at : Coord) → Contains points at → (write : Write) → Contains (code at).writes write → acts kernel.domain write ≡ false → StandsActive stores state.layouts write
  outs at has write is_write out =
      let left = left_at_loop kernel.domain at _ _ write is_write out in
      left_out stores state all kernel.domain at (visited at has) write left.0 left.1

  same_first : first_outside (shapes_of stores) (map slice points) ≡ first_outside (shapes_of stores) (map code points)
  same_first =
      first_same (acts kernel.domain) (shapes_of stores) code slice points each_slice (λ at. (refl, refl))
      (λ at has write is_write out. stands_inside stores state.layouts write laws.test laws.inside (outs at has write is_write out))

  same_wants : (wants : List (List Coord)) → AreWants state.layouts wants (writes_of (map slice points)) → AreWants state.layouts wants (writes_of (map code points))
  same_wants wants are =
      wants_same (acts kernel.domain) state.layouts wants (writes_of (map code points))
      (of_writes (λ (write : Write). acts kernel.domain write ≡ false → (flat : FlatLayout) → slice_get state.layouts write.layout ≡ Some flat → Contains flat.active write.at) code points
      (λ at has write is_write out. stands_active stores state.layouts write (outs at has write is_write out)))
      (subst (λ (ws : List Write). AreWants state.layouts wants ws) (wants_of_turns (acts kernel.domain) code slice points each_slice) are)

  meaning_is : kernel_meaning (shapes_of stores) state (record { turns = map code points }) ≡ run_meaning (shapes_of stores) state kernel
  meaning_is = ap (λ (ps : List Coord). kernel_meaning (shapes_of stores) state (record { turns = map code ps })) are_points

  pub slice_is_named : AreNamedAt stores state kernel.slice.body points
  slice_is_named = λ at has. runnable.apt.slice_named state flat at (visited at has)

  pub code_is_named : AreNamedAt stores state kernel.code.body points
  code_is_named = λ at has. runnable.apt.code_named state flat at (visited at has)

  -- a layout that the code asks isn't written, so what the slice wants activates nothing in it
  asked_same : (layout : ℕ) → Contains (asked_in kernel.code.body) layout → (there : Coord) → is_active state layout there ≡ is_active (reached_state (shapes_of stores) state (map slice points)) layout there
  asked_same layout has there =
      let place : layout ≡ 0 + layout = omega arith in
      ap (list_any (same_coord there)) (sym (unwritten_same 0 (shapes_of stores) state.layouts (map slice points) layout flat
      (subst (λ (n : ℕ). written_in n (map slice points) ≡ []) place
      (none_written layout slice points (λ at visit.
      ap (filter (is_in layout)) (each_slice at visit)
      ∙ wants_none kernel.domain at layout (iteration (seen_in stores state at) kernel.slice.body).wants (iteration (seen_in stores state at) kernel.code.body).writes
      (λ write is same. runnable.apt.asks write.layout write.field write.way (write_used (seen_in stores state at) kernel.code.body write is).0 (subst (λ (l : ℕ). Contains (asked_in kernel.code.body) l) (sym same) has)))))))

  pub asks_settled : AsksTheSame (shapes_of stores) state (reached_state (shapes_of stores) state (map slice points)) kernel.code.body points
  asks_settled = λ at has k access below asks there. asked_same _ (well_typed_asks (shapes_of stores) kernel.code runnable.code_typed (seen_in stores state at) k access below asks) there

  -- if the slice wants nothing outside, the code's writes are at the coordinates that it has
  pub turns_are : first_outside (shapes_of stores) (map slice points) ≡ None → AreTurnsOf stores state kernel.code.body points code
  turns_are none = λ at has loop.
      let seen = seen_in stores state at in
      located_made kernel.domain at (shapes_of stores) (iteration seen kernel.slice.body).wants (iteration seen kernel.code.body).writes
      (runnable.apt.wants state flat at (visited at has)) loop (inside_each code (shapes_of stores) points at (sym same_first ∙ none) has)

  pub kernel_outside : (fault : RunFault) → first_outside (shapes_of stores) (map slice points) ≡ Some fault → run_meaning (shapes_of stores) state kernel ≡ Err fault
  kernel_outside fault outside = sym meaning_is ∙ meaning_outside (shapes_of stores) state (map code points) fault (sym same_first ∙ outside)

  pub kernel_full : (wants : List (List Coord)) (fault : RunFault) → (first_outside (shapes_of stores) (map slice points) ≡ None) × AreWants state.layouts wants (writes_of (map slice points))
      → ((flats : List FlatLayout) (turns : List Turn) → AllZip StandsFor stores flats → AreWants flats wants (writes_of turns) → first_full_layout 0 (shapes_of stores) flats turns ≡ Some fault)
      → run_meaning (shapes_of stores) state kernel ≡ Err fault
  kernel_full wants fault found full =
      sym meaning_is ∙ meaning_full (shapes_of stores) state (map code points) fault (sym same_first ∙ found.0) (full state.layouts (map code points) all (same_wants wants found.1))

  pub kernel_ran : (wants : List (List Coord)) (mids news : List StoreWords) → (first_outside (shapes_of stores) (map slice points) ≡ None) × AreWants state.layouts wants (writes_of (map slice points))
      → ((flats : List FlatLayout) (turns : List Turn) → AllZip StandsFor stores flats → AreWants flats wants (writes_of turns)
      → (first_full_layout 0 (shapes_of stores) flats turns ≡ None) × AllZip StandsFor mids (reached_layouts 0 (shapes_of stores) flats turns))
      → shapes_of mids ≡ shapes_of stores → Lands mids news (writes_of (map code points))
      → IsOkAnd (run_meaning (shapes_of stores) state kernel) (StandForState (shapes_of stores) news)
  kernel_ran wants mids news found reached same lands =
      let both = reached state.layouts (map code points) all (same_wants wants found.1) in
      subst (λ (m : Result FlatState RunFault). IsOkAnd m (StandForState (shapes_of stores) news)) meaning_is
      (ended stores mids news state (map code points) laws.test laws.extends (sym same_first ∙ found.0) both.0 same both.1 lands)

-- ---- loads

pub load_outside : (stores : List StoreWords) (state : FlatState) (rows : List Write) (fault : RunFault) → first_outside (shapes_of stores) (map turn_of rows) ≡ Some fault → load_meaning (shapes_of stores) state rows ≡ Err fault
load_outside stores state rows fault outside = meaning_outside (shapes_of stores) state (map turn_of rows) fault outside

pub load_full : (stores : List StoreWords) (state : FlatState) (rows : List Write) (wants : List (List Coord)) (fault : RunFault) → AllZip StandsFor stores state.layouts
    → (first_outside (shapes_of stores) (map turn_of rows) ≡ None) × AreWants state.layouts wants (writes_of (map turn_of rows))
    → ((flats : List FlatLayout) (turns : List Turn) → AllZip StandsFor stores flats → AreWants flats wants (writes_of turns) → first_full_layout 0 (shapes_of stores) flats turns ≡ Some fault)
    → load_meaning (shapes_of stores) state rows ≡ Err fault
load_full stores state rows wants fault all found full = meaning_full (shapes_of stores) state (map turn_of rows) fault found.0 (full state.layouts (map turn_of rows) all found.1)

pub load_ran : (stores : List StoreWords) (state : FlatState) (rows : List Write) (wants : List (List Coord)) (mids news : List StoreWords) → InsideTest → ((shape : Shape) → ClosureExtends shape) → AllZip StandsFor stores state.layouts
    → (first_outside (shapes_of stores) (map turn_of rows) ≡ None) × AreWants state.layouts wants (writes_of (map turn_of rows))
    → ((flats : List FlatLayout) (turns : List Turn) → AllZip StandsFor stores flats → AreWants flats wants (writes_of turns)
    → (first_full_layout 0 (shapes_of stores) flats turns ≡ None) × AllZip StandsFor mids (reached_layouts 0 (shapes_of stores) flats turns))
    → shapes_of mids ≡ shapes_of stores → Lands mids news rows → IsOkAnd (load_meaning (shapes_of stores) state rows) (StandForState (shapes_of stores) news)
load_ran stores state rows wants mids news test extends all found reached same lands =
    let both = reached state.layouts (map turn_of rows) all found.1 in
    ended stores mids news state (map turn_of rows) test extends found.0 both.0 same both.1 (subst (λ (ws : List Write). Lands mids news ws) (sym (turn_writes rows)) lands)
