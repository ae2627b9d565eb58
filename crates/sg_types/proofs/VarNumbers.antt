-- Variables are numbered in the order of their first tokens.
use Rattle.std.proofs.Common.{◌≡◌, ℕ, ◌+◌, ◌++◌, Bool, false, true, List, [], ◌∷◌, map, length, Option, Some, None, option_map, Result, Ok, refl, sym, ap, subst, ◌∙◌, length-append, arith}
use Rattle.std.specs.List.{range_with_len, AllByRecursion}
use Rattle.sg_words.specs.declared.operators.Ty.{Ty}
use Rattle.sg_words.specs.declared.operators.Ty.TheVariants as ty
use Rattle.sg_ast.specs.declared.token.Name.{Name}
use Rattle.sg_ast.specs.declared.expr.Expr.{Expr}
use Rattle.sg_ast.specs.declared.stmt.WayDecl.{WayDecl}
use Rattle.sg_ast.specs.declared.stmt.RangeDecl.{RangeDecl}
use Rattle.sg_ast.specs.declared.stmt.Stmt.{Stmt}
use Rattle.sg_ast.specs.declared.stmt.Stmt.TheVariants as stmt
use Rattle.sg_flat.specs.declared.effects.Way.{Way}
use Rattle.sg_names.specs.declared.tables.FieldAt.{FieldAt}
use Rattle.sg_names.specs.Tables.{field_named}
use Rattle.sg_types.specs.declared.fault.TypeFault.{TypeFault}
use Rattle.sg_types.specs.declared.scope.Local.{Local}
use Rattle.sg_types.specs.declared.typed.TypedExpr.{TypedExpr}
use Rattle.sg_types.specs.declared.typed.TypedRange.{TypedRange}
use Rattle.sg_types.specs.declared.typed.TypedDomain.{TypedDomain}
use Rattle.sg_types.specs.declared.typed.TypedKind.{TypedKind, fold-TypedKind, fold-roll-TypedKind}
use Rattle.sg_types.specs.declared.typed.TypedKind.TheVariants as kind
use Rattle.sg_types.specs.declared.typed.TypedKind.TheVariants.{rolls-Let, rolls-Assign, rolls-Write, rolls-If, rolls-For}
use Rattle.sg_types.specs.declared.typed.TypedKind.TheOpen as k
use Rattle.sg_types.specs.declared.typed.TypedKind.TheOpen.{TypedStmt-F}
use Rattle.sg_types.specs.declared.typed.TypedStmt.{TypedStmt}
use Rattle.sg_types.specs.declared.typed.TypedKernel.{TypedKernel}
use Rattle.sg_types.specs.TypeTable.{same_ty}
use Rattle.sg_types.specs.Scopes.{Known, local_named}
use Rattle.sg_types.specs.Expressions.{typed_expr, all_some}
use Rattle.sg_types.specs.Statements.{Reached, assign_kind, write_kind, declared_way}
use Rattle.sg_words.specs.Options.{only_where}
use Rattle.sg_types.specs.Programs.{first_reached}
use Rattle.sg_types.specs.Numbers.{var_step, stmt_vars, block_vars, kernel_vars}
use Rattle.sg_types.specs.Laws.{VariablesAreNumbered}
use Rattle.sg_types.proofs.Outcomes.{option_and_then_some, option_map_some}
use Rattle.sg_types.proofs.Walk.{Cases, walk_turn, kernel_parts}
use Rattle.sg_types.proofs.FoldWords.{fold-stmt}
use Rattle.sg_types.proofs.Beginnings.{length_begun}
use Rattle.sg_types.proofs.Numbered.{range-append}

-- ---- the variables at each kind of statement

abbrev shown_vars : TypedStmt-F (List ℕ) (List ℕ) → List ℕ
shown_vars stmt = stmt.kind

module _ (number : ℕ) where
  abbrev inside : TypedKind → List ℕ
  inside = fold-TypedKind (List ℕ) (List ℕ) var_step shown_vars

  abbrev vars_with : TypedKind → List ℕ
  vars_with it = stmt_vars (record { number = number; kind = it })

  vars_of_kind : (it : TypedKind) → vars_with it ≡ inside it
  vars_of_kind it = fold-stmt (List ℕ) (List ℕ) var_step shown_vars (record { number = number; kind = it })

  vars-Let : (var : ℕ) (value : TypedExpr) → vars_with (kind.Let var value) ≡ var ∷ []
  vars-Let var value =
      vars_of_kind (kind.Let var value) ∙ (ap inside (sym (rolls-Let var value)) ∙ fold-roll-TypedKind (List ℕ) (List ℕ) var_step shown_vars (k.Let var value))

  vars-Assign : (var : ℕ) (value : TypedExpr) → vars_with (kind.Assign var value) ≡ []
  vars-Assign var value =
      vars_of_kind (kind.Assign var value) ∙ (ap inside (sym (rolls-Assign var value)) ∙ fold-roll-TypedKind (List ℕ) (List ℕ) var_step shown_vars (k.Assign var value))

  vars-Write : (layout place : ℕ) (index : List TypedExpr) (way : Way) (value : TypedExpr) → vars_with (kind.Write layout place index way value) ≡ []
  vars-Write layout place index way value =
      vars_of_kind (kind.Write layout place index way value)
      ∙ (ap inside (sym (rolls-Write layout place index way value)) ∙ fold-roll-TypedKind (List ℕ) (List ℕ) var_step shown_vars (k.Write layout place index way value))

  vars-If : (condition : TypedExpr) (block otherwise : List TypedStmt) (has_else : Bool)
      → vars_with (kind.If condition block otherwise has_else) ≡ block_vars block ++ block_vars otherwise
  vars-If condition block otherwise has_else =
      vars_of_kind (kind.If condition block otherwise has_else)
      ∙ (ap inside (sym (rolls-If condition block otherwise has_else)) ∙ fold-roll-TypedKind (List ℕ) (List ℕ) var_step shown_vars (k.If condition block otherwise has_else))

  vars-For : (var : ℕ) (range : TypedRange) (body : List TypedStmt) → vars_with (kind.For var range body) ≡ var ∷ block_vars body
  vars-For var range body =
      vars_of_kind (kind.For var range body) ∙ (ap inside (sym (rolls-For var range body)) ∙ fold-roll-TypedKind (List ℕ) (List ℕ) var_step shown_vars (k.For var range body))

  -- an assignment and a write declare nothing
  vars_assigned : (local : Option Local) (value : Option TypedExpr) (it : TypedKind) → assign_kind local value ≡ Some it → vars_with it ≡ []
  vars_assigned None value it h = let no_such : ◌≡◌ {A = Option TypedKind} None (Some it) = h in absurd (cc)
  vars_assigned (Some local) value it h =
      let made = option_map_some (λ typed. kind.Assign local.var typed) (only_where (λ typed. same_ty typed.ty local.ty) value) it h in
      ap vars_with (sym made.2) ∙ vars-Assign local.var made.0

  vars_written : (how : WayDecl) (place : Option FieldAt) (index : Option (List TypedExpr)) (value : Option TypedExpr) (it : TypedKind)
      → write_kind how place index value ≡ Some it → vars_with it ≡ []
  vars_written how None index value it h = let no_such : ◌≡◌ {A = Option TypedKind} None (Some it) = h in absurd (cc)
  vars_written how (Some place) index value it h =
      let found = option_and_then_some (λ is. option_map (λ typed. kind.Write place.layout place.place is (declared_way how) typed) (only_where (λ typed. same_ty typed.ty place.ty) value)) _ it h in
      let made = option_map_some (λ typed. kind.Write place.layout place.place found.0 (declared_way how) typed) (only_where (λ typed. same_ty typed.ty place.ty) value) it found.2 in
      ap vars_with (sym made.2) ∙ vars-Write place.layout place.place found.0 (declared_way how) made.0

-- ---- how many variables come in, and their numbers

record Adds (old new : List Ty) (vars : List ℕ) : Type 0 where
  count : ℕ
  types : length new ≡ length old + count
  row : vars ≡ range_with_len (length old) count

adds_none : (old : List Ty) → Adds old old []
adds_none old = record { count = 0; types = omega arith; row = refl }

adds_one : (old : List Ty) (given : Ty) → Adds old (old ++ given ∷ []) (length old ∷ [])
adds_one old given = record { count = 1; types = length-append old (given ∷ []); row = refl }

adds_both : (a b c : List Ty) (vars more : List ℕ) → Adds a b vars → Adds b c more → Adds a c (vars ++ more)
adds_both a b c vars more p q = record {
  count = p.count + q.count;
  types = omega (arith, p.types, q.types);
  row = ap (λ vs. vs ++ more) p.row
      ∙ (ap (λ vs. range_with_len (length a) p.count ++ vs) (q.row ∙ ap (λ from. range_with_len from q.count) p.types)
      ∙ sym (range-append (length a) p.count q.count));
}

-- ---- statements

module _ (known : Known) where
  abbrev AddsInRow : Stmt → Reached → TypedStmt → Reached → Type 0
  AddsInRow statement at typed after = Adds at.types after.types (stmt_vars typed)

  abbrev AddAllInRow : List Stmt → Reached → List TypedStmt → Reached → Type 0
  AddAllInRow block at typed after = Adds at.types after.types (block_vars typed)

  -- what a kind of statement adds
  of_vars : (number : ℕ) (it : TypedKind) (old new : List Ty) (vars : List ℕ) → vars_with number it ≡ vars → Adds old new vars → Adds old new (vars_with number it)
  of_vars number it old new vars is adds = subst (Adds old new) (sym is) adds

  adding : Cases known AddsInRow AddAllInRow
  adding = record {
    on_none = λ at. adds_none at.types;
    on_more = λ statement more at t mid ts last is one rest. adds_both at.types mid.types last.types (stmt_vars t) (block_vars ts) one rest.holds;
    on_let = λ name value at it fits.
        of_vars at.number (kind.Let (length at.types) it) at.types (at.types ++ it.ty ∷ []) (length at.types ∷ []) (vars-Let at.number (length at.types) it) (adds_one at.types it.ty);
    on_assign = λ name value at it fits.
        of_vars at.number it at.types at.types [] (vars_assigned at.number (local_named at.scope name) (typed_expr known at.scope value) it fits.is) (adds_none at.types);
    on_write = λ field index how value at it fits.
        of_vars at.number it at.types at.types []
        (vars_written at.number how (field_named known.tables field) (all_some (map (typed_expr known at.scope) index)) (typed_expr known at.scope value) it fits.is) (adds_none at.types);
    on_if = λ condition block at it ys mid fits inside.
        of_vars at.number (kind.If it ys [] false) at.types mid.types (block_vars ys ++ []) (vars-If at.number it ys [] false)
        (adds_both at.types mid.types mid.types (block_vars ys) [] inside.holds (adds_none mid.types));
    on_if_else = λ condition block otherwise at it ys mid ns last fits inside outside.
        of_vars at.number (kind.If it ys ns true) at.types last.types (block_vars ys ++ block_vars ns) (vars-If at.number it ys ns true)
        (adds_both at.types mid.types last.types (block_vars ys) (block_vars ns) inside.holds outside.holds);
    on_for = λ name range body at bounds typed last fits inside.
        of_vars at.number (kind.For (length at.types) bounds typed) at.types last.types (length at.types ∷ block_vars typed) (vars-For at.number (length at.types) bounds typed)
        (adds_both at.types (at.types ++ ty.I32 ∷ []) last.types (length at.types ∷ []) (block_vars typed) (adds_one at.types ty.I32) inside.holds);
  }

-- ---- kernels

pub variables_are_numbered : VariablesAreNumbered
variables_are_numbered known decl kernel h =
    let n = length decl.vars in
    let parts = kernel_parts known decl kernel h in
    let start = first_reached decl.vars in
    let adds = walk_turn known (AddsInRow known) (AddAllInRow known) (adding known) decl.body start parts.body parts.last parts.in_body in
    let count : length start.types ≡ 0 + n = omega (arith, length_begun (record { number = 1; types = []; scope = [] }) decl.vars) in
    let all : n + adds.count ≡ length parts.last.types = omega (arith, count, adds.types) in
    let row = adds.row ∙ ap (λ from. range_with_len from adds.count) count in
    let whole : range_with_len 0 n ++ block_vars parts.body ≡ range_with_len 0 (length parts.last.types) =
    ap (λ vs. range_with_len 0 n ++ vs) row ∙ (sym (range-append 0 n adds.count) ∙ ap (range_with_len 0) all) in
    subst (λ (k : TypedKernel). kernel_vars k ≡ range_with_len 0 (length k.types)) parts.is whole
