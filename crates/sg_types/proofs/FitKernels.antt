-- Typed kernels are well typed, and so are typed programs.
use Rattle.std.proofs.Common.{◌≡◌, ℕ, zero, suc, ◌+◌, ◌<◌, Bool, true, false, ◌&&◌, ◌||◌, ◌==◌, slice_get, replicate, List, [], ◌∷◌, ◌++◌, map, length, Option, Some, option_map, Result, Ok, Err, refl, sym, ap, ◌∙◌, append_assoc, append-nil, length-append, arith}
use Rattle.std.specs.Option.{option_and_then}
use Rattle.std.specs.List.{list_all, range_with_len}
use Rattle.std.proofs.lemmas.Bool.{and_parts, and_from}
use Rattle.sg_words.specs.declared.operators.Ty.{Ty}
use Rattle.sg_words.specs.declared.operators.Ty.TheVariants as ty
use Rattle.sg_layout.specs.declared.shape.Shape.{Shape}
use Rattle.sg_ast.specs.declared.token.Name.{Name}
use Rattle.sg_ast.specs.declared.stmt.RangeDecl.{RangeDecl}
use Rattle.sg_ast.specs.declared.kernel.DomainDecl.{DomainDecl}
use Rattle.sg_ast.specs.declared.kernel.DomainDecl.TheVariants as domain
use Rattle.sg_ast.specs.declared.kernel.KernelDecl.{KernelDecl}
use Rattle.sg_ast.specs.declared.program.Item.{Item}
use Rattle.sg_ast.specs.declared.program.Item.TheVariants as item
use Rattle.sg_names.specs.Tables.{Tables, layout_named, axes_of}
use Rattle.sg_types.specs.declared.fault.TypeFault.{TypeFault}
use Rattle.sg_types.specs.declared.typed.TypedRange.{TypedRange}
use Rattle.sg_types.specs.declared.typed.TypedStmt.{TypedStmt}
use Rattle.sg_types.specs.declared.typed.TypedDomain.{TypedDomain}
use Rattle.sg_types.specs.declared.typed.TypedDomain.TheVariants as typed
use Rattle.sg_types.specs.declared.typed.TypedKernel.{TypedKernel}
use Rattle.sg_types.specs.declared.typed.Typed.{Typed}
use Rattle.sg_types.specs.Scopes.{Known}
use Rattle.sg_types.specs.Expressions.{equals_some, all_some}
use Rattle.sg_types.specs.Statements.{Reached, stmt_fault, counts_range, typed_range, in_turn, typed_stmt, typed_block}
use Rattle.sg_words.specs.Results.{◌>>=◌}
use Rattle.sg_types.specs.Programs.{counts_domain, typed_domain, loop_wrongs, loop_part, first_reached, typed_kernel, typed_items}
use Rattle.sg_types.specs.WellTyped.{Visible, setting, is_ty, is_visible, all_fit, fitting, is_well_typed_range, is_well_typed_domain, loop_scope, is_well_typed_kernel}
use Rattle.sg_types.specs.Laws.{TablesFit, TypedIsWellTyped}
use Rattle.sg_types.proofs.Outcomes.{then_ok, stmt_fault_ok, judged_ok, ok_same, option_and_then_some, option_map_some, some_same}
use Rattle.sg_types.proofs.Walk.{kernel_parts}
use Rattle.sg_types.proofs.Moves.{over_statements}
use Rattle.sg_types.proofs.Beginnings.{one, begun}
use Rattle.sg_types.proofs.FitExprs.{is_ty-some, AllSeen, axes_fit}
use Rattle.sg_types.proofs.FitStmts.{not_false, all_seen_push, same_number, range_fits, statements_fit}

-- the types of the loop's variables
begun_types : (at : Reached) (names : List Name) → (begun at names).types ≡ at.types ++ replicate (length names) ty.I32
begun_types at [] = sym (append-nil at.types)
begun_types at (name ∷ names) = begun_types (one at name) names ∙ append_assoc at.types (ty.I32 ∷ []) (replicate (length names) ty.I32)

slice_get-replicate : {A : Type 0} (n k : ℕ) (x : A) (more : List A) → k < n → slice_get (replicate n x ++ more) k ≡ Some x
slice_get-replicate zero k x more h = absurd (omega arith)
slice_get-replicate (suc n) zero x more h = refl
slice_get-replicate (suc n) (suc k) x more h = slice_get-replicate n k x more (omega arith)

all_from : (test : ℕ → Bool) (v n : ℕ) → ((k : ℕ) → k < n → test (v + k) ≡ true) → list_all test (range_with_len v n) ≡ true
all_from test v zero h = refl
all_from test v (suc n) h =
    let here : test v ≡ true = ap test (omega arith) ∙ h 0 (omega arith) in
    and_from (test v) (list_all test (range_with_len (v + 1) n)) here
    (all_from test (v + 1) n (λ k below. ap test (omega arith) ∙ h (suc k) (omega arith)))

visible_loop : (v n k : ℕ) → k < n → is_visible (loop_scope v n) (v + k) ≡ true
visible_loop v zero k h = absurd (omega arith)
visible_loop v (suc n) zero h =
    let same : (v == (v + 0)) ≡ true = ap (λ (m : ℕ). v == m) (omega arith) ∙ same_number v in
    rw same refl
visible_loop v (suc n) (suc k) h =
    let rest = visible_loop (suc v) n k (omega arith) in
    let moved : is_visible (loop_scope (suc v) n) (v + suc k) ≡ true = ap (is_visible (loop_scope (suc v) n)) (omega arith) ∙ rest in
    go (v == (v + suc k)) moved
  where
    go : (b : Bool) → is_visible (loop_scope (suc v) n) (v + suc k) ≡ true → (b || is_visible (loop_scope (suc v) n) (v + suc k)) ≡ true
    go true m = refl
    go false m = m

-- the loop's variables are seen
begun_seen : (types : List Ty) (visible : List Visible) (at : Reached) (names : List Name)
    → ((k : ℕ) → k < length names → slice_get types (length at.types + k) ≡ Some ty.I32) → ((k : ℕ) → k < length names → is_visible visible (length at.types + k) ≡ true)
    → AllSeen types visible at.scope → AllSeen types visible (begun at names).scope
begun_seen types visible at [] typed seen all = all
begun_seen types visible at (name ∷ names) typed seen all =
    let count : length (one at name).types ≡ length at.types + 1 = length-append at.types (ty.I32 ∷ []) in
    let here : length at.types + 0 ≡ length at.types = omega arith in
    begun_seen types visible (one at name) names
    (λ k h. ap (slice_get types) (omega (arith, count)) ∙ typed (suc k) (omega arith))
    (λ k h. ap (is_visible visible) (omega (arith, count)) ∙ seen (suc k) (omega arith))
    (all_seen_push types visible at.scope (record { name = name; local = record { var = length at.types; ty = ty.I32; is_loop = true } }) all
    (record {
      typed = ap (slice_get types) (sym here) ∙ typed 0 (omega arith);
      seen = ap (is_visible visible) (sym here) ∙ seen 0 (omega arith);
      free = λ f. let clash : true ≡ false = f in absurd (cc);
    }))

module _ (known : Known) (shapes : List Shape) (fit : TablesFit known.tables shapes) where
  ranges_fit : (ranges : List RangeDecl) (bounds : List TypedRange) → all_some (map (typed_range known []) ranges) ≡ Some bounds → list_all (counts_range known) ranges ≡ true
      → (list_all (is_well_typed_range (setting shapes [] [])) bounds ≡ true) × (length bounds ≡ length ranges)
  ranges_fit [] bounds h g = let is = some_same [] bounds h in (ap (list_all (is_well_typed_range (setting shapes [] []))) (sym is), ap (λ (xs : List TypedRange). length xs) (sym is))
  ranges_fit (range ∷ ranges) bounds h g =
      let one = option_and_then_some (λ a. option_map (λ more. a ∷ more) (all_some (map (typed_range known []) ranges))) (typed_range known [] range) bounds h in
      let rest = option_map_some (λ more. one.0 ∷ more) (all_some (map (typed_range known []) ranges)) bounds one.2 in
      let parts = and_parts (counts_range known range) (list_all (counts_range known) ranges) g in
      let more = ranges_fit ranges rest.0 rest.1 parts.1 in (
        ap (list_all (is_well_typed_range (setting shapes [] []))) (sym rest.2)
            ∙ and_from (is_well_typed_range (setting shapes [] []) one.0) (list_all (is_well_typed_range (setting shapes [] [])) rest.0)
            (range_fits known shapes fit [] [] [] range one.0 tt one.1 parts.0) more.0,
        ap (λ (xs : List TypedRange). length xs) (sym rest.2) ∙ ap suc more.1,
      )

  domain_fits : (given : DomainDecl) (vars : ℕ) (loop : TypedDomain) → typed_domain known given ≡ Some loop → counts_domain known vars given ≡ true → is_well_typed_domain shapes vars loop ≡ true
  domain_fits (domain.Layout name) vars loop h g =
      let found = option_map_some typed.Walk (layout_named known.tables name) loop h in
      ap (is_well_typed_domain shapes vars) (sym found.2)
      ∙ axes_fit known shapes fit found.0 vars (ap (λ (o : Option ℕ). equals_some (option_and_then (axes_of known.tables) o) vars) (sym found.1) ∙ g)
  domain_fits (domain.Ranges ranges) vars loop h g =
      let found = option_map_some typed.Ranges (all_some (map (typed_range known []) ranges)) loop h in
      let parts = and_parts (length ranges == vars) (list_all (counts_range known) ranges) g in
      let fits = ranges_fit ranges found.0 found.1 parts.1 in
      ap (is_well_typed_domain shapes vars) (sym found.2)
      ∙ and_from (length found.0 == vars) (list_all (is_well_typed_range (setting shapes [] [])) found.0) (ap (λ (n : ℕ). n == vars) fits.1 ∙ parts.0) fits.0

  pub kernel_fits : (decl : KernelDecl) (kernel : TypedKernel) → typed_kernel known decl ≡ Ok kernel → is_well_typed_kernel shapes kernel ≡ true
  kernel_fits decl kernel h =
      let n = length decl.vars in
      let start = first_reached decl.vars in
      let parts = kernel_parts known decl kernel h in
      let loop = parts.loop in
      let says = parts.fits in
      let after = parts.last in
      let moved = over_statements known decl.body start parts.body after parts.in_body in
      let types_are : after.types ≡ replicate n ty.I32 ++ moved.new_types = moved.types ∙ ap (λ (xs : List Ty). xs ++ moved.new_types) (begun_types (record { number = 1; types = []; scope = [] }) decl.vars) in
      let each : (k : ℕ) → k < n → slice_get after.types (0 + k) ≡ Some ty.I32 = λ k below. ap (slice_get after.types) (omega arith) ∙ (ap (λ (xs : List Ty). slice_get xs k) types_are ∙ slice_get-replicate n k ty.I32 moved.new_types below) in
      let all = begun_seen after.types (loop_scope 0 n) (record { number = 1; types = []; scope = [] }) decl.vars each (visible_loop 0 n) tt in
      let body_fits = statements_fit known shapes fit after.types decl.body start parts.body after (loop_scope 0 n) [] parts.in_body (sym (append-nil after.types)) all in
      ap (is_well_typed_kernel shapes) (sym parts.is)
      ∙ and_from (is_well_typed_domain shapes n loop && list_all (λ var. is_ty (slice_get after.types var) ty.I32) (range_with_len 0 n))
      (all_fit (map (fitting shapes after.types) parts.body) (loop_scope 0 n)).0
      (and_from (is_well_typed_domain shapes n loop) (list_all (λ var. is_ty (slice_get after.types var) ty.I32) (range_with_len 0 n))
      (domain_fits decl.domain n loop says.is (not_false (counts_domain known n decl.domain) says.counted))
      (all_from (λ var. is_ty (slice_get after.types var) ty.I32) 0 n (λ k below. is_ty-some (slice_get after.types (0 + k)) ty.I32 (each k below)))) body_fits

items_fit : (tables : Tables) (shapes : List Shape) → TablesFit tables shapes → (number constants : ℕ) (items : List Item) (kernels : List TypedKernel) → typed_items tables number constants items ≡ Ok kernels → list_all (is_well_typed_kernel shapes) kernels ≡ true
items_fit tables shapes fit number constants [] kernels h = ap (list_all (is_well_typed_kernel shapes)) (sym (ok_same [] kernels h))
items_fit tables shapes fit number constants (item.Const decl ∷ items) kernels h = items_fit tables shapes fit number (suc constants) items kernels h
items_fit tables shapes fit number constants (item.Layout decl ∷ items) kernels h = items_fit tables shapes fit number constants items kernels h
items_fit tables shapes fit number constants (item.Kernel decl ∷ items) kernels h =
    let known : Known = record { kernel = number; tables = tables; constants = constants } in
    let one = then_ok (typed_kernel known decl) _ kernels h in
    let rest = then_ok (typed_items tables (suc number) constants items) _ kernels one.2 in
    ap (list_all (is_well_typed_kernel shapes)) (sym (ok_same (one.0 ∷ rest.0) kernels rest.2))
    ∙ and_from (is_well_typed_kernel shapes one.0) (list_all (is_well_typed_kernel shapes) rest.0) (kernel_fits known shapes fit decl one.0 one.1) (items_fit tables shapes fit (suc number) constants items rest.0 rest.1)
items_fit tables shapes fit number constants (item.Command command ∷ items) kernels h = items_fit tables shapes fit number constants items kernels h

pub typed_is_well_typed : TypedIsWellTyped
typed_is_well_typed tables shapes program given fit h =
    let done = then_ok (typed_items tables 0 0 program.items) (λ kernels. Ok (record { kernels = kernels })) given h in
    ap (λ (t : Typed). list_all (is_well_typed_kernel shapes) t.kernels) (sym (ok_same (record { kernels = done.0 }) given done.2))
    ∙ items_fit tables shapes fit 0 0 program.items done.0 done.1
