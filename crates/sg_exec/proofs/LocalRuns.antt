-- A run goes by the layouts that its kernel touches, and leaves those that it doesn't write.
use Rattle.std.proofs.Common.{◌≡◌, ℕ, suc, ◌+◌, Bool, true, false, ◌==◌, cond, inl, inr, ◌⊎◌, List, [], ◌∷◌, ◌++◌, map, length, Option, Some, None, Result, Ok, Err, refl, sym, ap, ◌∙◌, subst, arith, append-nil}
use Rattle.std.specs.Prelude.{slice_get, filter, Contains}
use Rattle.std.specs.List.{flat_map}
use Rattle.std.specs.Option.{option_or}
use Rattle.std.proofs.lemmas.Bool.{cases_Bool, cond-true, cond-false, both_ways, ne_eqb, eqb-true, eq-eqb, or_cases, or_left, or_right}
use Rattle.std.proofs.lemmas.List.Elements.{Contains-append_left, Contains-append_right, Contains-append_cases}
use Rattle.sg_words.specs.Results.{fault_or}
use Rattle.sg_words.proofs.Uses.{contains_none, contains_head, contains_rest, contains_cases, from_map}
use Rattle.sg_coord.specs.declared.coord.Coord.{Coord}
use Rattle.sg_layout.specs.declared.shape.Shape.{Shape}
use Rattle.sg_layout.specs.Need.{first_full}
use Rattle.sg_flat.specs.declared.effects.Domain.{Domain}
use Rattle.sg_flat.specs.declared.effects.Domain.TheVariants.{Walk, Range}
use Rattle.sg_flat.specs.declared.effects.RunFault.{RunFault}
use Rattle.sg_flat.specs.declared.effects.Turn.{Turn}
use Rattle.sg_flat.specs.declared.effects.Way.{Way}
use Rattle.sg_flat.specs.declared.effects.Write.{Write}
use Rattle.sg_flat.specs.declared.state.FlatLayout.{FlatLayout}
use Rattle.sg_flat.specs.declared.state.FlatState.{FlatState}
use Rattle.sg_flat.specs.Domain.{active_in, domain_points}
use Rattle.sg_flat.specs.Effects.{writes_of, written_in}
use Rattle.sg_flat.specs.State.{IsFlatLayout}
use Rattle.sg_flat.specs.Kernel.{full_fault, first_outside, first_full_layout, layout_after, layouts_after, kernel_meaning}
use Rattle.sg_flat.specs.Wants.{UnwrittenStays}
use Rattle.sg_ir.specs.declared.code.Inst.{Inst}
use Rattle.sg_ir.specs.declared.code.KernelCode.{KernelCode}
use Rattle.sg_ir.specs.Runs.{CodeWrite, CodeWant, iteration}
use Rattle.sg_ir.specs.Apt.{Use, Writes, Reads, ReadsOwn, uses_in, may_activate}
use Rattle.sg_ir.specs.Touches.{layout_written, layout_touched, wanted_by, layouts_wanted, uses_by, rooted_by, written_by, touched_by, layouts_written, layouts_walked, layouts_touched, is_among, AreSameFor, ReadsDecide}
use Rattle.sg_exec.specs.Running.{coord_of_write, wants_left, write_at, located, seen_at, code_turn, code_effects, run_meaning}
use Rattle.sg_exec.proofs.UsedWrites.{write_used}
use Rattle.sg_exec.proofs.PassesLanded.{from_flat, into_flat}
use Rattle.sg_exec.proofs.RacedRun.{all_from}
use Rattle.sg_exec.proofs.Mixed.{mixed}

-- ---- the number is in a list

pub among_from : (list : List ℕ) (number : ℕ) → Contains list number → is_among list number ≡ true
among_from [] number has = absurd (contains_none number has)
among_from (first ∷ list) number has = elim (contains_cases number first list has) [
  | inl same ↦ or_left (first == number) (is_among list number) (eq-eqb first number same)
  | inr later ↦ or_right (first == number) (is_among list number) (among_from list number later)
]

pub from_among : (list : List ℕ) (number : ℕ) → is_among list number ≡ true → Contains list number
from_among [] number is = absurd (cc)
from_among (first ∷ list) number is = elim (or_cases (first == number) (is_among list number) is) [
  | inl same ↦ contains_head number first list (eqb-true first number same)
  | inr later ↦ contains_rest number first list (from_among list number later)
]

-- ---- what a kernel does

map_same : {X Y : Type 0} (f g : X → Y) (xs : List X) → ((x : X) → f x ≡ g x) → map f xs ≡ map g xs
map_same f g [] same = refl
map_same {X} {Y} f g (x ∷ xs) same = ap (λ (y : Y). y ∷ map f xs) (same x) ∙ ap (λ (ys : List Y). g x ∷ ys) (map_same f g xs same)

domain_same : (domain : Domain) (one other : FlatState) → ((layout : ℕ) → Contains (layouts_walked domain) layout → slice_get one.layouts layout ≡ slice_get other.layouts layout)
    → domain_points one domain ≡ domain_points other domain
domain_same (Walk number) one other same = ap active_in (same number (contains_head number number [] refl))
domain_same (Range lo hi) one other same = refl

located_from : (domain : Domain) (at : Coord) (wants : List CodeWant) (writes : List CodeWrite) (write : Write) → Contains (located domain at wants writes) write
    → (made : CodeWrite) × Contains writes made × (made.layout ≡ write.layout)
located_from domain at wants [] write has = absurd (contains_none write has)
located_from domain at wants (first ∷ writes) write has =
    by (λ later. located_from domain at (wants_left (may_activate domain first) wants) writes write later)
    (contains_cases write (write_at first (coord_of_write (may_activate domain first) wants at)) (located domain at (wants_left (may_activate domain first) wants) writes) has)
  where
    by : (Contains (located domain at (wants_left (may_activate domain first) wants) writes) write → (made : CodeWrite) × Contains writes made × (made.layout ≡ write.layout))
        → (write_at first (coord_of_write (may_activate domain first) wants at) ≡ write) ⊎ Contains (located domain at (wants_left (may_activate domain first) wants) writes) write
        → (made : CodeWrite) × Contains (first ∷ writes) made × (made.layout ≡ write.layout)
    by rest (inl same) = (first, contains_head first first writes refl, ap (λ (w : Write). w.layout) same)
    by rest (inr later) = let found = rest later in (found.0, contains_rest found.0 first writes found.1, found.2)

-- what the slice wants and what the code writes is written, and what is written or read is touched
in_both : (f : Inst → List ℕ) (kernel : KernelCode) (inst : Inst) (layout : ℕ) → Contains kernel.slice.body inst ⊎ Contains kernel.code.body inst → Contains (f inst) layout
    → Contains (flat_map f kernel.slice.body ++ flat_map f kernel.code.body) layout
in_both f kernel inst layout (inl has) is = Contains-append_left (flat_map f kernel.slice.body) (flat_map f kernel.code.body) layout (into_flat f kernel.slice.body inst layout has is)
in_both f kernel inst layout (inr has) is = Contains-append_right (flat_map f kernel.slice.body) (flat_map f kernel.code.body) layout (into_flat f kernel.code.body inst layout has is)

pub want_written : (kernel : KernelCode) (layout : ℕ) → Contains (layouts_wanted kernel.slice.body) layout → Contains (layouts_written kernel) layout
want_written kernel layout has =
    let inst = from_flat wanted_by kernel.slice.body layout has in
    in_both written_by kernel inst.0 layout (inl inst.1.0) (Contains-append_left (wanted_by inst.0) (flat_map layout_written (uses_by inst.0)) layout inst.1.1)

pub use_written : (kernel : KernelCode) (layout field : ℕ) (way : Way) → Contains (uses_in kernel.code.body) (Writes layout field way) → Contains (layouts_written kernel) layout
use_written kernel layout field way has =
    let inst = from_flat uses_by kernel.code.body (Writes layout field way) has in
    in_both written_by kernel inst.0 layout (inr inst.1.0)
    (Contains-append_right (wanted_by inst.0) (flat_map layout_written (uses_by inst.0)) layout
    (into_flat layout_written (uses_by inst.0) (Writes layout field way) layout inst.1.1 (contains_head layout layout [] refl)))

touch_left : (kernel : KernelCode) (layout : ℕ) → Contains (flat_map touched_by kernel.slice.body ++ flat_map touched_by kernel.code.body) layout → Contains (layouts_touched kernel) layout
touch_left kernel layout has = elim (Contains-append_cases (flat_map touched_by kernel.slice.body) (flat_map touched_by kernel.code.body) layout has) [
  | inl slice ↦ Contains-append_left (flat_map touched_by kernel.slice.body) (flat_map touched_by kernel.code.body ++ layouts_walked kernel.domain) layout slice
  | inr code ↦ Contains-append_right (flat_map touched_by kernel.slice.body) (flat_map touched_by kernel.code.body ++ layouts_walked kernel.domain) layout
      (Contains-append_left (flat_map touched_by kernel.code.body) (layouts_walked kernel.domain) layout code)
]

use_touched : (it : Use) (layout : ℕ) → Contains (layout_written it) layout → Contains (layout_touched it) layout
use_touched (Writes other field way) layout has = has
use_touched (Reads other field) layout has = absurd (contains_none layout has)
use_touched (ReadsOwn other field) layout has = absurd (contains_none layout has)

-- what an instruction wants or uses, behind the layouts of its places
behind_roots : (inst : Inst) (layout : ℕ) → Contains (wanted_by inst ++ flat_map layout_touched (uses_by inst)) layout → Contains (touched_by inst) layout
behind_roots inst layout has = Contains-append_right (rooted_by inst) (wanted_by inst ++ flat_map layout_touched (uses_by inst)) layout has

inst_touched : (inst : Inst) (layout : ℕ) → Contains (written_by inst) layout → Contains (touched_by inst) layout
inst_touched inst layout has = elim (Contains-append_cases (wanted_by inst) (flat_map layout_written (uses_by inst)) layout has) [
  | inl wanted ↦ behind_roots inst layout (Contains-append_left (wanted_by inst) (flat_map layout_touched (uses_by inst)) layout wanted)
  | inr used ↦ (let it = from_flat layout_written (uses_by inst) layout used in
      behind_roots inst layout (Contains-append_right (wanted_by inst) (flat_map layout_touched (uses_by inst)) layout
      (into_flat layout_touched (uses_by inst) it.0 layout it.1.0 (use_touched it.0 layout it.1.1))))
]

pub written_touched : (kernel : KernelCode) (layout : ℕ) → Contains (layouts_written kernel) layout → Contains (layouts_touched kernel) layout
written_touched kernel layout has = elim (Contains-append_cases (flat_map written_by kernel.slice.body) (flat_map written_by kernel.code.body) layout has) [
  | inl slice ↦ (let inst = from_flat written_by kernel.slice.body layout slice in
      touch_left kernel layout (in_both touched_by kernel inst.0 layout (inl inst.1.0) (inst_touched inst.0 layout inst.1.1)))
  | inr code ↦ (let inst = from_flat written_by kernel.code.body layout code in
      touch_left kernel layout (in_both touched_by kernel inst.0 layout (inr inst.1.0) (inst_touched inst.0 layout inst.1.1)))
]

-- a use in either text
abbrev InEither : KernelCode → Use → Type 0
InEither kernel it = Contains (uses_in kernel.slice.body) it ⊎ Contains (uses_in kernel.code.body) it

read_touched : (kernel : KernelCode) (it : Use) (layout : ℕ) → InEither kernel it → Contains (layout_touched it) layout → Contains (layouts_touched kernel) layout
read_touched kernel it layout (inl has) is =
    let inst = from_flat uses_by kernel.slice.body it has in
    touch_left kernel layout (in_both touched_by kernel inst.0 layout (inl inst.1.0)
    (behind_roots inst.0 layout (Contains-append_right (wanted_by inst.0) (flat_map layout_touched (uses_by inst.0)) layout (into_flat layout_touched (uses_by inst.0) it layout inst.1.1 is))))
read_touched kernel it layout (inr has) is =
    let inst = from_flat uses_by kernel.code.body it has in
    touch_left kernel layout (in_both touched_by kernel inst.0 layout (inr inst.1.0)
    (behind_roots inst.0 layout (Contains-append_right (wanted_by inst.0) (flat_map layout_touched (uses_by inst.0)) layout (into_flat layout_touched (uses_by inst.0) it layout inst.1.1 is))))

-- a layout in which either text takes a place
root_touched : (kernel : KernelCode) (layout : ℕ) → Contains (flat_map rooted_by kernel.slice.body) layout ⊎ Contains (flat_map rooted_by kernel.code.body) layout → Contains (layouts_touched kernel) layout
root_touched kernel layout (inl has) =
    let inst = from_flat rooted_by kernel.slice.body layout has in
    touch_left kernel layout (in_both touched_by kernel inst.0 layout (inl inst.1.0)
    (Contains-append_left (rooted_by inst.0) (wanted_by inst.0 ++ flat_map layout_touched (uses_by inst.0)) layout inst.1.1))
root_touched kernel layout (inr has) =
    let inst = from_flat rooted_by kernel.code.body layout has in
    touch_left kernel layout (in_both touched_by kernel inst.0 layout (inr inst.1.0)
    (Contains-append_left (rooted_by inst.0) (wanted_by inst.0 ++ flat_map layout_touched (uses_by inst.0)) layout inst.1.1))

module _ (shapes : List Shape) (kernel : KernelCode) where
  -- each write of a kernel is into a layout that it writes
  pub writes_into : (state : FlatState) (write : Write) → Contains (writes_of (code_effects shapes state kernel).turns) write → Contains (layouts_written kernel) write.layout
  writes_into state write has =
      let turn = from_flat (λ (t : Turn). t.writes) (map (code_turn shapes state kernel) (domain_points state kernel.domain)) write has in
      let at = from_map (code_turn shapes state kernel) (domain_points state kernel.domain) turn.0 turn.1.0 in
      let there : Contains (code_turn shapes state kernel at.0).writes write = subst (λ (t : Turn). Contains t.writes write) (sym at.2) turn.1.1 in
      let made = located_from kernel.domain at.0 (iteration (seen_at shapes state at.0) kernel.slice.body).wants (iteration (seen_at shapes state at.0) kernel.code.body).writes write there in
      let used = (write_used (seen_at shapes state at.0) kernel.code.body made.0 made.1).0 in
      subst (λ (l : ℕ). Contains (layouts_written kernel) l) made.2 (use_written kernel made.0.layout made.0.field made.0.way used)

  module _ (reads : ReadsDecide) (one other : FlatState) (same : (layout : ℕ) → Contains (layouts_touched kernel) layout → slice_get one.layouts layout ≡ slice_get other.layouts layout) where
    walked_same : (layout : ℕ) → Contains (layouts_walked kernel.domain) layout → slice_get one.layouts layout ≡ slice_get other.layouts layout
    walked_same layout has =
        same layout (Contains-append_right (flat_map touched_by kernel.slice.body) (flat_map touched_by kernel.code.body ++ layouts_walked kernel.domain) layout
        (Contains-append_right (flat_map touched_by kernel.code.body) (layouts_walked kernel.domain) layout has))

    use_same : (it : Use) → InEither kernel it → AreSameFor one other it
    use_same (Writes layout field way) has = tt
    use_same (Reads layout field) has = same layout (read_touched kernel (Reads layout field) layout has (contains_head layout layout [] refl))
    use_same (ReadsOwn layout field) has = same layout (read_touched kernel (ReadsOwn layout field) layout has (contains_head layout layout [] refl))

    turn_same : (at : Coord) → code_turn shapes one kernel at ≡ code_turn shapes other kernel at
    turn_same at =
        let slice = reads shapes kernel.slice.body one other (λ it has. use_same it (inl has)) (λ layout has. same layout (root_touched kernel layout (inl has))) at in
        let code = reads shapes kernel.code.body one other (λ it has. use_same it (inr has)) (λ layout has. same layout (root_touched kernel layout (inr has))) at in
        ap (λ (wants : List CodeWant). record { at = at; writes = located kernel.domain at wants (iteration (seen_at shapes one at) kernel.code.body).writes }) slice.1
        ∙ ap (λ (writes : List CodeWrite). record { at = at; writes = located kernel.domain at (iteration (seen_at shapes other at) kernel.slice.body).wants writes }) code.0

    pub effects_same : code_effects shapes one kernel ≡ code_effects shapes other kernel
    effects_same =
        ap (λ (points : List Coord). record { turns = map (code_turn shapes one kernel) points }) (domain_same kernel.domain one other walked_same)
        ∙ ap (λ (turns : List Turn). record { turns = turns }) (map_same (code_turn shapes one kernel) (code_turn shapes other kernel) (domain_points other kernel.domain) turn_same)

-- ---- what turns that write into some layouts mean

-- of two flat layouts: if their number passes a test, they are the same; each has room for what is active; the second is flat
pub record BesideAt (test : ℕ → Bool) (number : ℕ) (shape : Shape) (flat other : FlatLayout) : Type 0 where
  pub same : test number ≡ true → flat ≡ other
  pub room : first_full shape flat.active ≡ None
  pub other_room : first_full shape other.active ≡ None
  pub other_flat : IsFlatLayout shape other

-- so it is for all that are there, the numbers counted from the given one
abbrev pub AreBeside : (ℕ → Bool) → ℕ → List Shape → List FlatLayout → List FlatLayout → Type 0
AreBeside test k shapes flats others =
    (i : ℕ) (shape : Shape) (flat other : FlatLayout) → slice_get shapes i ≡ Some shape → slice_get flats i ≡ Some flat → slice_get others i ≡ Some other → BesideAt test (k + i) shape flat other

module _ (test : ℕ → Bool) (turns : List Turn) (into : (write : Write) → Contains (writes_of turns) write → test write.layout ≡ true) where
  elsewhere : (k : ℕ) → test k ≡ false → (write : Write) → Contains (writes_of turns) write → write.layout ≡ k → ⊥
  elsewhere k fails write has there = both_ways (test k) fails (ap test (sym there) ∙ into write has)

  none_passes : (k : ℕ) (writes : List Write) → ((write : Write) → Contains writes write → write.layout ≡ k → ⊥) → filter (λ (write : Write). write.layout == k) writes ≡ []
  none_passes k [] none = refl
  none_passes k (write ∷ writes) none =
      cond-false (write.layout == k) (write ∷ filter (λ (w : Write). w.layout == k) writes) (filter (λ (w : Write). w.layout == k) writes)
      (ne_eqb write.layout k (none write (contains_head write write writes refl)))
      ∙ none_passes k writes (λ one has. none one (contains_rest one write writes has))

  none_written : (k : ℕ) → test k ≡ false → written_in k turns ≡ []
  none_written k fails = ap (map (λ (write : Write). write.at)) (none_passes k (writes_of turns) (elsewhere k fails))

  number_here : (k : ℕ) → k + 0 ≡ k
  number_here k = omega arith

  number_next : (k i : ℕ) → k + suc i ≡ suc k + i
  number_next k i = omega arith

  head_of : (k : ℕ) (shape : Shape) (shapes : List Shape) (flat other : FlatLayout) (flats others : List FlatLayout) → AreBeside test k (shape ∷ shapes) (flat ∷ flats) (other ∷ others) → BesideAt test k shape flat other
  head_of k shape shapes flat other flats others all = subst (λ (n : ℕ). BesideAt test n shape flat other) (number_here k) (all 0 shape flat other refl refl refl)

  tail_of : (k : ℕ) (shape : Shape) (shapes : List Shape) (flat other : FlatLayout) (flats others : List FlatLayout) → AreBeside test k (shape ∷ shapes) (flat ∷ flats) (other ∷ others) → AreBeside test (suc k) shapes flats others
  tail_of k shape shapes flat other flats others all i s f g at at' at'' = subst (λ (n : ℕ). BesideAt test n s f g) (number_next k i) (all (suc i) s f g at at' at'')

  full_here : (k : ℕ) (shape : Shape) (flat other : FlatLayout) → BesideAt test k shape flat other → (test k ≡ true) ⊎ (test k ≡ false)
      → full_fault k (first_full shape (flat.active ++ written_in k turns)) ≡ full_fault k (first_full shape (other.active ++ written_in k turns))
  full_here k shape flat other is (inl passes) = ap (λ (l : FlatLayout). full_fault k (first_full shape (l.active ++ written_in k turns))) (is.same passes)
  full_here k shape flat other is (inr fails) = ap (full_fault k) (roomy flat is.room ∙ sym (roomy other is.other_room))
    where
      roomy : (l : FlatLayout) → first_full shape l.active ≡ None → first_full shape (l.active ++ written_in k turns) ≡ None
      roomy l room = ap (λ (more : List Coord). first_full shape (l.active ++ more)) (none_written k fails) ∙ ap (first_full shape) (append-nil l.active) ∙ room

  full_same : (k : ℕ) (shapes : List Shape) (flats others : List FlatLayout) → length flats ≡ length others → AreBeside test k shapes flats others
      → first_full_layout k shapes flats turns ≡ first_full_layout k shapes others turns
  full_same k [] flats others long all = refl
  full_same k (shape ∷ shapes) [] [] long all = refl
  full_same k (shape ∷ shapes) [] (other ∷ others) long all = absurd (omega (arith, long))
  full_same k (shape ∷ shapes) (flat ∷ flats) [] long all = absurd (omega (arith, long))
  full_same k (shape ∷ shapes) (flat ∷ flats) (other ∷ others) long all =
      ap (λ (fault : Option RunFault). option_or fault (first_full_layout (suc k) shapes flats turns)) (full_here k shape flat other (head_of k shape shapes flat other flats others all) (cases_Bool (test k)))
      ∙ ap (option_or (full_fault k (first_full shape (other.active ++ written_in k turns)))) (full_same (suc k) shapes flats others (omega (arith, long)) (tail_of k shape shapes flat other flats others all))

  after_here : UnwrittenStays → (k : ℕ) (shape : Shape) (flat other : FlatLayout) → BesideAt test k shape flat other → (test k ≡ true) ⊎ (test k ≡ false)
      → layout_after k shape other turns ≡ cond (test k) (layout_after k shape flat turns) other
  after_here stays k shape flat other is (inl passes) = ap (λ (l : FlatLayout). layout_after k shape l turns) (sym (is.same passes)) ∙ sym (cond-true (test k) (layout_after k shape flat turns) other passes)
  after_here stays k shape flat other is (inr fails) =
      stays k shape other turns is.other_flat (all_from (λ (write : Write). write.layout ≡ k → ⊥) (writes_of turns) (elsewhere k fails))
      ∙ sym (cond-false (test k) (layout_after k shape flat turns) other fails)

  after_same : UnwrittenStays → (k : ℕ) (shapes : List Shape) (flats others : List FlatLayout) → length flats ≡ length others → AreBeside test k shapes flats others
      → layouts_after k shapes others turns ≡ mixed test k (layouts_after k shapes flats turns) others
  after_same stays k [] flats others long all = refl
  after_same stays k (shape ∷ shapes) [] [] long all = refl
  after_same stays k (shape ∷ shapes) [] (other ∷ others) long all = absurd (omega (arith, long))
  after_same stays k (shape ∷ shapes) (flat ∷ flats) [] long all = absurd (omega (arith, long))
  after_same stays k (shape ∷ shapes) (flat ∷ flats) (other ∷ others) long all =
      ap (λ (l : FlatLayout). l ∷ layouts_after (suc k) shapes others turns) (after_here stays k shape flat other (head_of k shape shapes flat other flats others all) (cases_Bool (test k)))
      ∙ ap (λ (ls : List FlatLayout). cond (test k) (layout_after k shape flat turns) other ∷ ls)
      (after_same stays (suc k) shapes flats others (omega (arith, long)) (tail_of k shape shapes flat other flats others all))

-- ---- the meaning of a run

err_same : (outside full full' : Option RunFault) (next next' : FlatState) (fault : RunFault) → full ≡ full' → fault_or outside (fault_or full (Ok next)) ≡ Err fault → fault_or outside (fault_or full' (Ok next')) ≡ Err fault
err_same (Some why) full full' next next' fault same is = is
err_same None (Some why) full' next next' fault same is = ap (λ (f : Option RunFault). fault_or f (Ok next')) (sym same) ∙ is
err_same None None full' next next' fault same is = absurd (cc (is))

ok_same : (f : FlatState → FlatState) (outside full full' : Option RunFault) (next next' end : FlatState) → full ≡ full' → next' ≡ f next → fault_or outside (fault_or full (Ok next)) ≡ Ok end → fault_or outside (fault_or full' (Ok next')) ≡ Ok (f end)
ok_same f (Some why) full full' next next' end same moved is = absurd (cc (is))
ok_same f None (Some why) full' next next' end same moved is = absurd (cc (is))
ok_same f None None full' next next' end same moved is =
    ap (λ (o : Option RunFault). fault_or o (Ok next')) (sym same) ∙ ap Ok (moved ∙ ap f (ap (λ (r : Result FlatState RunFault). value_or r next) is))
  where
    value_or : Result FlatState RunFault → FlatState → FlatState
    value_or (Ok x) d = x
    value_or (Err why) d = d

-- a state with the layouts of one whose numbers pass a test, and the others of another
abbrev pub beside : (ℕ → Bool) → FlatState → FlatState → FlatState
beside test other state = record { layouts = mixed test 0 state.layouts other.layouts }

module _ (stays : UnwrittenStays) (reads : ReadsDecide) (shapes : List Shape) (kernel : KernelCode) (one other : FlatState) (long : length one.layouts ≡ length other.layouts)
    (same : (layout : ℕ) → Contains (layouts_touched kernel) layout → slice_get one.layouts layout ≡ slice_get other.layouts layout)
    (all : AreBeside (is_among (layouts_written kernel)) 0 shapes one.layouts other.layouts) where
  abbrev turns : List Turn
  turns = (code_effects shapes one kernel).turns

  into : (write : Write) → Contains (writes_of turns) write → is_among (layouts_written kernel) write.layout ≡ true
  into write has = among_from (layouts_written kernel) write.layout (writes_into shapes kernel one write has)

  other_is : kernel_meaning shapes other (code_effects shapes one kernel) ≡ run_meaning shapes other kernel
  other_is = ap (kernel_meaning shapes other) (effects_same shapes kernel reads one other same)

  pub refused_same : (fault : RunFault) → run_meaning shapes one kernel ≡ Err fault → run_meaning shapes other kernel ≡ Err fault
  refused_same fault is = sym other_is
      ∙ err_same (first_outside shapes turns) (first_full_layout 0 shapes one.layouts turns) (first_full_layout 0 shapes other.layouts turns)
      (record { layouts = layouts_after 0 shapes one.layouts turns }) (record { layouts = layouts_after 0 shapes other.layouts turns }) fault
      (full_same (is_among (layouts_written kernel)) turns into 0 shapes one.layouts other.layouts long all) is

  pub done_beside : (end : FlatState) → run_meaning shapes one kernel ≡ Ok end → run_meaning shapes other kernel ≡ Ok (beside (is_among (layouts_written kernel)) other end)
  done_beside end is = sym other_is
      ∙ ok_same (beside (is_among (layouts_written kernel)) other) (first_outside shapes turns) (first_full_layout 0 shapes one.layouts turns) (first_full_layout 0 shapes other.layouts turns)
      (record { layouts = layouts_after 0 shapes one.layouts turns }) (record { layouts = layouts_after 0 shapes other.layouts turns }) end
      (full_same (is_among (layouts_written kernel)) turns into 0 shapes one.layouts other.layouts long all)
      (ap (λ (ls : List FlatLayout). record { layouts = ls }) (after_same (is_among (layouts_written kernel)) turns into stays 0 shapes one.layouts other.layouts long all)) is
