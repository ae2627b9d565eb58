-- What the code and the slice of a kernel tell, from the agreement of their runs.
use Rattle.std.proofs.Common.{◌≡◌, ℕ, Bool, true, false, List, [], ◌∷◌, map, length, Ok, refl, sym, ap, subst, ◌∙◌}
use Rattle.std.specs.List.{filter, list_all, range_with_len}
use Rattle.sg_words.specs.declared.operators.Ty.{Ty}
use Rattle.sg_words.specs.declared.operators.BinOp.{BinOp}
use Rattle.sg_words.specs.declared.operators.UnOp.{UnOp}
use Rattle.sg_words.specs.WordLaws.{AppliedIsWord, AppliedUnIsWord, MulqIsWord}
use Rattle.sg_coord.specs.Laws.{InsideTest}
use Rattle.sg_layout.specs.declared.shape.Shape.{Shape}
use Rattle.sg_layout.specs.PathLaws.{CoordinateOfPath}
use Rattle.sg_layout.specs.ClosureLaws.{ClosureIsInside}
use Rattle.sg_flat.specs.declared.effects.Write.{Write}
use Rattle.sg_types.specs.declared.typed.TypedKernel.{TypedKernel}
use Rattle.sg_types.specs.declared.typed.TypedStmt.{TypedStmt}
use Rattle.sg_types.specs.WellTyped.{is_well_typed_kernel}
use Rattle.sg_types.specs.Numbers.{kernel_vars}
use Rattle.sg_types.specs.Iterations.{writes_at}
use Rattle.sg_admit.specs.declared.admitted.Admitted.{Admitted}
use Rattle.sg_admit.specs.Admission.{admission}
use Rattle.sg_admit.specs.Slices.{walked_by, may_activate}
use Rattle.sg_admit.specs.Lines.{Around, nothing_round, block_lines, kernel_lines}
use Rattle.sg_admit.specs.Rules.{ways_in, has_own}
use Rattle.sg_admit.specs.Laws.{without_value, SliceWantsWhatIsWritten, DirtyIsClosed, Says, FaultsAreFirst}
use Rattle.sg_ir.specs.declared.code.Inst.{Inst}
use Rattle.sg_lower.specs.declared.lowering.Field.{Field}
use Rattle.sg_lower.specs.Lowered.{want_of, WritesAsKernel, WantsAsKernel, NamesItsAccesses}
use Rattle.sg_lower.specs.steps.Basis.{Basis, is_owned}
use Rattle.sg_lower.specs.steps.Fitting.{stmt_fits}
use Rattle.sg_lower.specs.steps.Agreeing.{Tells}
use Rattle.sg_lower.proofs.Sounding.{kernel_fits}
use Rattle.sg_lower.proofs.Worlds.{flat_world, is_point}

wanted_without : (writes : List Write) → map want_of (map without_value writes) ≡ map want_of writes
wanted_without [] = refl
wanted_without (write ∷ writes) = ap (λ rest. want_of write ∷ rest) (wanted_without writes)

module _ (inside_test : InsideTest) (closures : (shape : Shape) → ClosureIsInside shape) (paths : (shape : Shape) → CoordinateOfPath shape) (applied : (op : BinOp) (given : Ty) (a b : ℕ) → AppliedIsWord op given a b)
    (applied_un : (op : UnOp) (a : ℕ) → AppliedUnIsWord op a) (mulq : (a b s : ℕ) → MulqIsWord a b s) (shapes : List Shape) (kernel : TypedKernel) (owned : List Field) where
  abbrev of_kernel : Bool → Basis
  of_kernel slicing = record { shapes = shapes; owned = owned; vars = kernel.vars; slicing = slicing }

  pub writes_told : (block : List Inst) → Tells (of_kernel false) kernel.body block → WritesAsKernel shapes kernel block
  writes_told block tells state flat at parts whole =
      (tells (record { shapes = shapes; state = state }) (flat_world inside_test closures paths applied applied_un mulq shapes state flat) at (is_point kernel.vars at parts whole)).writes

  pub named_told : (slicing : Bool) (stmts : List TypedStmt) (block : List Inst) → Tells (of_kernel slicing) stmts block → NamesItsAccesses shapes kernel block
  named_told slicing stmts block tells state flat at parts whole =
      (tells (record { shapes = shapes; state = state }) (flat_world inside_test closures paths applied applied_un mulq shapes state flat) at (is_point kernel.vars at parts whole)).named

  pub wants_told : SliceWantsWhatIsWritten → (kept : Admitted) → admission kernel ≡ Ok kept → (block : List Inst) → Tells (of_kernel true) kept.slice block → WantsAsKernel shapes kernel block
  wants_told law kept admitted block tells state flat at parts whole =
      let agrees = tells (record { shapes = shapes; state = state }) (flat_world inside_test closures paths applied applied_un mulq shapes state flat) at (is_point kernel.vars at parts whole) in
      agrees.wants
      ∙ (ap (map want_of) (law (record { shapes = shapes; state = state }) kernel kept at admitted)
      ∙ wanted_without (filter (λ write. may_activate (walked_by kernel.domain) write.layout write.way) (writes_at (record { shapes = shapes; state = state }) kernel at)))

-- the same of a list that is another's
pub tells_same : (basis : Basis) (given stmts : List TypedStmt) (block : List Inst) → given ≡ stmts → (list_all (stmt_fits basis) given ≡ true → Tells basis given block)
    → list_all (stmt_fits basis) stmts ≡ true → Tells basis stmts block
tells_same basis given stmts block same tells = subst (λ (it : List TypedStmt). list_all (stmt_fits basis) it ≡ true → Tells basis it block) same tells

-- the body and the slice of an admitted kernel can be lowered
module _ (shapes : List Shape) (kept : Admitted) (owned : List Field) (dirty : DirtyIsClosed) (faults : FaultsAreFirst) (admitted : admission kept.kernel ≡ Ok kept)
    (typed : is_well_typed_kernel shapes kept.kernel ≡ true) (numbered : kernel_vars kept.kernel ≡ range_with_len 0 (length kept.kernel.types))
    (given : List TypedStmt) (same : given ≡ kept.kernel.body)
    (noted : (around : Around) (layout place : ℕ) → is_owned owned layout place ≡ has_own (ways_in (block_lines given around)) layout place) where
  pub owned_is : (layout place : ℕ) → is_owned owned layout place ≡ has_own (ways_in (kernel_lines kept.kernel)) layout place
  owned_is layout place = noted nothing_round layout place ∙ ap (λ (body : List TypedStmt). has_own (ways_in (block_lines body nothing_round)) layout place) same

  says : Says kept.kernel (Ok kept)
  says = subst (Says kept.kernel) admitted (faults kept.kernel)

  pub body_fit : list_all (stmt_fits (record { shapes = shapes; owned = owned; vars = kept.kernel.vars; slicing = false })) kept.kernel.body ≡ true
  body_fit = (kernel_fits shapes kept.kernel owned dirty owned_is says.1.0 typed numbered).whole

  pub slice_fit : list_all (stmt_fits (record { shapes = shapes; owned = owned; vars = kept.kernel.vars; slicing = true })) kept.slice ≡ true
  slice_fit = subst (λ (slice : List TypedStmt). list_all (stmt_fits (record { shapes = shapes; owned = owned; vars = kept.kernel.vars; slicing = true })) slice ≡ true)
      (sym (ap (λ (it : Admitted). it.slice) says.0)) (kernel_fits shapes kept.kernel owned dirty owned_is says.1.0 typed numbered).sliced
