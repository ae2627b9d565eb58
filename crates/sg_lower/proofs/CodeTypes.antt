-- The code of a kernel and of its slice is well typed.
use Rattle.std.proofs.Common.{◌≡◌, ℕ, zero, suc, ◌+◌, ◌<◌, ◌≤◌, true, false, ◌&&◌, ◌==◌, nat_lt, List, [], map, length, Ok, refl, sym, ap, subst, ◌∙◌, ⊎_elim, arith}
use Rattle.std.specs.List.{range_with_len}
use Rattle.std.proofs.lemmas.Bool.{and_parts, and_from, both_ways, or_cases, eqb-true, eq-eqb, lt-ltb}
use Rattle.sg_words.specs.declared.operators.Ty.{Ty}
use Rattle.sg_layout.specs.declared.shape.Shape.{Shape}
use Rattle.sg_types.specs.declared.typed.TypedStmt.{TypedStmt}
use Rattle.sg_types.specs.WellTyped.{is_visible, is_local, all_fit, fitting, loop_scope, is_well_typed_kernel}
use Rattle.sg_types.specs.Numbers.{block_vars, kernel_vars}
use Rattle.sg_admit.specs.declared.admitted.Admitted.{Admitted}
use Rattle.sg_admit.specs.Admission.{admission}
use Rattle.sg_admit.specs.Clean.{unclean_in}
use Rattle.sg_admit.specs.Lines.{nothing_round, block_lines, kernel_lines}
use Rattle.sg_admit.specs.Slices.{walked_by, block_slice}
use Rattle.sg_admit.specs.Laws.{DirtyIsClosed, FaultsAreFirst, Says}
use Rattle.sg_ir.specs.declared.code.Code.{Code}
use Rattle.sg_ir.specs.WellTyped.{has_no_twice, set_regs, set_places, set_vars, setters_in, most_loop_vars, judged, frame_of, first_scope, is_well_typed}
use Rattle.sg_lower.specs.declared.lowering.Field.{Field}
use Rattle.sg_lower.specs.steps.Basis.{is_owned}
use Rattle.sg_lower.specs.steps.Typing.{line_sets, line_turns, AddsBlock, SetsBlock}
use Rattle.sg_admit.specs.Rules.{ways_in, has_own}
use Rattle.sg_lower.proofs.Counts.{itself_le, none_of, one_of, times, counted, once_behind, none_behind}
use Rattle.sg_lower.proofs.SettingLines.{range_once}
use Rattle.sg_lower.proofs.SettingCounts.{no_local, block_counts, once_of}
use Rattle.sg_lower.proofs.SliceTypes.{slice_fewer, slice_typed}
use Rattle.sg_lower.proofs.Sounding.{kernel_needs}

-- a loop's variables are no locals, and have the first numbers
loops_fresh : (var n v : ℕ) → is_local (loop_scope var n) v ≡ false
loops_fresh var zero v = refl
loops_fresh var (suc n) v = no_local (var == v) (is_local (loop_scope (suc var) n) v) (loops_fresh (suc var) n v)

loop_seen : (var n v : ℕ) → is_visible (loop_scope var n) v ≡ true → v < var + n
loop_seen var zero v h = absurd (both_ways false refl h)
loop_seen var (suc n) v h = ⊎_elim
    (λ e. let same = eqb-true var v e in omega (arith, same))
    (λ m. let low = loop_seen (suc var) n v m in omega (arith, low))
    (or_cases (var == v) (is_visible (loop_scope (suc var) n) v) h)

-- statements over a loop of few variables, which declare each variable once and none of the loop's
module _ (shapes : List Shape) (types : List Ty) (vars : ℕ) (few : vars ≤ 3) (stmts : List TypedStmt) (typed : (all_fit (map (fitting shapes types) stmts) (loop_scope 0 vars)).0 ≡ true)
    (once : (v : ℕ) → times v (block_vars stmts) ≤ 1) (unset : (v : ℕ) → v < vars → times v (block_vars stmts) ≡ 0) (code : Code) (sets : SetsBlock stmts [] code.body) where
  setters : (v : ℕ) → setters_in code.body v ≡ times v (line_sets (block_lines stmts nothing_round))
  setters v = counted v (set_vars code.body) ∙ ap (times v) (sets nothing_round)

  sets_turns : (v : ℕ) → times v (block_vars stmts) ≡ times v (line_turns (block_lines stmts nothing_round)) → setters_in code.body v ≡ times v (line_turns (block_lines stmts nothing_round))
  sets_turns v same = setters v ∙ ((block_counts shapes types v stmts nothing_round).sets (loop_scope 0 vars) typed (loops_fresh 0 vars v) same).0

  loop_unset : (v : ℕ) → v < vars → setters_in code.body v ≡ 0
  loop_unset v below =
      let none = none_of _ _ (block_counts shapes types v stmts nothing_round).turns (unset v below) in
      sets_turns v (unset v below ∙ sym none) ∙ none

  turned_once : (v : ℕ) → 1 ≤ times v (line_turns (block_lines stmts nothing_round)) → setters_in code.body v ≡ 1
  turned_once v there =
      let turns = (block_counts shapes types v stmts nothing_round).turns in
      let one = one_of _ _ there turns (once v) in
      sets_turns v (all_one (times v (line_turns (block_lines stmts nothing_round))) (times v (block_vars stmts)) one turns (once v)) ∙ one
    where
      all_one : (t d : ℕ) → t ≡ 1 → t ≤ d → d ≤ 1 → d ≡ t
      all_one t d h g k = omega (arith, h, g, k)

  loop_reads : (v : ℕ) → v < vars → (first_scope code.body).vars v ≡ true
  loop_reads v below = and_from (nat_lt v most_loop_vars) (setters_in code.body v == 0) (lt-ltb v most_loop_vars (under v vars below few)) (eq-eqb (setters_in code.body v) 0 (loop_unset v below))
    where
      under : (v n : ℕ) → v < n → n ≤ 3 → v < 3
      under v n h g = omega (arith, h, g)

  loop_bound : (v : ℕ) → is_visible (loop_scope 0 vars) v ≡ true → v < vars
  loop_bound v seen = let below = loop_seen 0 vars v seen in omega (arith, below)

  pub code_typed : code.vars ≡ types → AddsBlock shapes stmts (record { regs = []; places = 0 }) (record { regs = code.regs; places = code.places }) [] code.body → is_well_typed shapes code ≡ true
  code_typed same adds =
      let at = frame_of shapes code in
      let it = adds types (loop_scope 0 vars) nothing_round typed in
      let good = it.good at refl (record { regs = λ r below. refl; places = itself_le code.places }) (first_scope code.body) refl
      ((same, λ v seen. loop_reads v (loop_bound v seen)), once_of at (block_lines stmts nothing_round) turned_once) in
      and_from (judged at code.body (first_scope code.body)).0 (has_no_twice (set_regs code.body) && has_no_twice (set_places code.body)) good.0
      (and_from (has_no_twice (set_regs code.body)) (has_no_twice (set_places code.body))
      (ap has_no_twice it.set_regs.list ∙ range_once 0 it.set_regs.count) (ap has_no_twice it.set_places.list ∙ range_once 0 it.set_places.count))

module _ (shapes : List Shape) (kept : Admitted) (admitted : admission kept.kernel ≡ Ok kept) (typed : is_well_typed_kernel shapes kept.kernel ≡ true)
    (numbered : kernel_vars kept.kernel ≡ range_with_len 0 (length kept.kernel.types)) (few : kept.kernel.vars ≤ 3) where
  body_typed : (all_fit (map (fitting shapes kept.kernel.types) kept.kernel.body) (loop_scope 0 kept.kernel.vars)).0 ≡ true
  body_typed = (and_parts _ (all_fit (map (fitting shapes kept.kernel.types) kept.kernel.body) (loop_scope 0 kept.kernel.vars)).0 typed).1

  once : (v : ℕ) → times v (block_vars kept.kernel.body) ≤ 1
  once v = once_behind v kept.kernel.vars (length kept.kernel.types) (block_vars kept.kernel.body) numbered

  unset : (v : ℕ) → v < kept.kernel.vars → times v (block_vars kept.kernel.body) ≡ 0
  unset v = none_behind v kept.kernel.vars (length kept.kernel.types) (block_vars kept.kernel.body) numbered

  pub body_code : (given : List TypedStmt) → given ≡ kept.kernel.body → (code : Code) → code.vars ≡ kept.kernel.types
      → AddsBlock shapes given (record { regs = []; places = 0 }) (record { regs = code.regs; places = code.places }) [] code.body → SetsBlock given [] code.body → is_well_typed shapes code ≡ true
  body_code given same code vars adds sets =
      code_typed shapes kept.kernel.types kept.kernel.vars few kept.kernel.body body_typed once unset code (subst (λ (it : List TypedStmt). SetsBlock it [] code.body) same sets) vars
      (subst (λ (it : List TypedStmt). AddsBlock shapes it (record { regs = []; places = 0 }) (record { regs = code.regs; places = code.places }) [] code.body) same adds)

  module _ (dirty : DirtyIsClosed) (faults : FaultsAreFirst) (owned : List Field) (owned_is : (layout place : ℕ) → is_owned owned layout place ≡ has_own (ways_in (kernel_lines kept.kernel)) layout place) where
    says : Says kept.kernel (Ok kept)
    says = subst (Says kept.kernel) admitted (faults kept.kernel)

    abbrev slice : List TypedStmt
    slice = block_slice (walked_by kept.kernel.domain) (unclean_in (kernel_lines kept.kernel)) kept.kernel.body

    slice_is : kept.slice ≡ slice
    slice_is = ap (λ (it : Admitted). it.slice) says.0

    fewer : (v : ℕ) → times v (block_vars slice) ≤ times v (block_vars kept.kernel.body)
    fewer v = slice_fewer (walked_by kept.kernel.domain) (unclean_in (kernel_lines kept.kernel)) v kept.kernel.body

    slice_once : (v : ℕ) → times v (block_vars slice) ≤ 1
    slice_once v = by_numbers (times v (block_vars slice)) (times v (block_vars kept.kernel.body)) (fewer v) (once v)
      where
        by_numbers : (a b : ℕ) → a ≤ b → b ≤ 1 → a ≤ 1
        by_numbers a b h g = omega (arith, h, g)

    slice_fits : (all_fit (map (fitting shapes kept.kernel.types) slice) (loop_scope 0 kept.kernel.vars)).0 ≡ true
    slice_fits =
        slice_typed shapes kept.kernel.types (walked_by kept.kernel.domain) (unclean_in (kernel_lines kept.kernel)) kept.kernel.body nothing_round
        (kernel_needs shapes kept.kernel owned dirty owned_is says.1.0) (loop_scope 0 kept.kernel.vars) body_typed

    pub slice_code : (given : List TypedStmt) → given ≡ kept.slice → (code : Code) → code.vars ≡ kept.kernel.types
        → AddsBlock shapes given (record { regs = []; places = 0 }) (record { regs = code.regs; places = code.places }) [] code.body → SetsBlock given [] code.body → is_well_typed shapes code ≡ true
    slice_code given same code vars adds sets =
        let is = same ∙ slice_is in
        code_typed shapes kept.kernel.types kept.kernel.vars few slice slice_fits slice_once (λ v below. none_of (times v (block_vars slice)) (times v (block_vars kept.kernel.body)) (fewer v) (unset v below)) code
        (subst (λ (it : List TypedStmt). SetsBlock it [] code.body) is sets) vars
        (subst (λ (it : List TypedStmt). AddsBlock shapes it (record { regs = []; places = 0 }) (record { regs = code.regs; places = code.places }) [] code.body) is adds)
