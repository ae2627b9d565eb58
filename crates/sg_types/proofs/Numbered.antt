-- Statements are numbered in the order of their first tokens.
use Rattle.std.proofs.Common.{◌≡◌, ℕ, zero, suc, ◌+◌, ◌++◌, Bool, true, false, List, [], ◌∷◌, map, length, Option, Some, None, option_map, Ok, refl, append-nil, sym, ap, ◌∙◌, arith}
use Rattle.std.specs.List.{concat, range_with_len, AllByRecursion}
use Rattle.sg_words.specs.declared.operators.Ty.TheVariants as ty
use Rattle.sg_ast.specs.declared.token.Name.{Name}
use Rattle.sg_ast.specs.declared.expr.Expr.{Expr}
use Rattle.sg_ast.specs.declared.stmt.WayDecl.{WayDecl}
use Rattle.sg_ast.specs.declared.stmt.RangeDecl.{RangeDecl}
use Rattle.sg_ast.specs.declared.stmt.Stmt.{Stmt}
use Rattle.sg_ast.specs.declared.stmt.Stmt.TheVariants as stmt
use Rattle.sg_flat.specs.declared.effects.Way.{Way}
use Rattle.sg_names.specs.declared.tables.FieldAt.{FieldAt}
use Rattle.sg_names.specs.Tables.{field_named}
use Rattle.sg_types.specs.declared.scope.Local.{Local}
use Rattle.sg_types.specs.declared.typed.TypedExpr.{TypedExpr}
use Rattle.sg_types.specs.declared.typed.TypedRange.{TypedRange}
use Rattle.sg_types.specs.declared.typed.TypedDomain.{TypedDomain}
use Rattle.sg_types.specs.declared.typed.TypedKind.{TypedKind, fold-TypedKind, fold-roll-TypedKind}
use Rattle.sg_types.specs.declared.typed.TypedKind.TheVariants as kind
use Rattle.sg_types.specs.declared.typed.TypedKind.TheVariants.{rolls-Let, rolls-Assign, rolls-Write, rolls-If, rolls-For}
use Rattle.sg_types.specs.declared.typed.TypedKind.TheOpen as k
use Rattle.sg_types.specs.declared.typed.TypedKind.TheOpen.{TypedStmt-F}
use Rattle.sg_types.specs.declared.typed.TypedStmt.{TypedStmt}
use Rattle.sg_types.specs.TypeTable.{same_ty}
use Rattle.sg_types.specs.Scopes.{Known, local_named}
use Rattle.sg_types.specs.Expressions.{typed_expr, all_some}
use Rattle.sg_types.specs.Statements.{Reached, next_statement, assign_kind, write_kind, declared_way}
use Rattle.sg_words.specs.Options.{only_where}
use Rattle.sg_types.specs.Programs.{first_reached}
use Rattle.sg_types.specs.Counting.{stmt_count, block_count}
use Rattle.sg_types.specs.Numbers.{inner_numbers, stmt_numbers, kernel_numbers}
use Rattle.sg_types.specs.Laws.{StatementsAreNumbered}
use Rattle.sg_types.proofs.Outcomes.{option_and_then_some, option_map_some}
use Rattle.sg_types.proofs.FoldWords.{fold-stmt}
use Rattle.sg_types.proofs.StmtWords.{count-Let, count-Assign, count-Write, count-If, count-For}
use Rattle.sg_types.proofs.Walk.{Cases, walk_turn, kernel_parts}
use Rattle.sg_types.proofs.Moves.{moves, over_statements}
use Rattle.sg_types.proofs.Beginnings.{number_begun}

-- ---- the numbers at each kind of statement

abbrev shown_numbers : TypedStmt-F (List ℕ) (List ℕ) → List ℕ
shown_numbers stmt = stmt.number ∷ stmt.kind

module _ (number : ℕ) where
  abbrev inside : TypedKind → List ℕ
  inside = fold-TypedKind (List ℕ) (List ℕ) inner_numbers shown_numbers

  abbrev numbers_with : TypedKind → List ℕ
  numbers_with it = stmt_numbers (record { number = number; kind = it })

  numbers_of_kind : (it : TypedKind) → numbers_with it ≡ number ∷ inside it
  numbers_of_kind it = fold-stmt (List ℕ) (List ℕ) inner_numbers shown_numbers (record { number = number; kind = it })

  numbers-Let : (var : ℕ) (value : TypedExpr) → numbers_with (kind.Let var value) ≡ number ∷ []
  numbers-Let var value =
      numbers_of_kind (kind.Let var value)
      ∙ ap (λ ns. number ∷ ns) (ap inside (sym (rolls-Let var value)) ∙ fold-roll-TypedKind (List ℕ) (List ℕ) inner_numbers shown_numbers (k.Let var value))

  numbers-Assign : (var : ℕ) (value : TypedExpr) → numbers_with (kind.Assign var value) ≡ number ∷ []
  numbers-Assign var value =
      numbers_of_kind (kind.Assign var value)
      ∙ ap (λ ns. number ∷ ns) (ap inside (sym (rolls-Assign var value)) ∙ fold-roll-TypedKind (List ℕ) (List ℕ) inner_numbers shown_numbers (k.Assign var value))

  numbers-Write : (layout place : ℕ) (index : List TypedExpr) (way : Way) (value : TypedExpr) → numbers_with (kind.Write layout place index way value) ≡ number ∷ []
  numbers-Write layout place index way value =
      numbers_of_kind (kind.Write layout place index way value)
      ∙ ap (λ ns. number ∷ ns) (ap inside (sym (rolls-Write layout place index way value)) ∙ fold-roll-TypedKind (List ℕ) (List ℕ) inner_numbers shown_numbers (k.Write layout place index way value))

  numbers-If : (condition : TypedExpr) (block otherwise : List TypedStmt) (has_else : Bool)
      → numbers_with (kind.If condition block otherwise has_else) ≡ number ∷ (concat (map stmt_numbers block) ++ concat (map stmt_numbers otherwise))
  numbers-If condition block otherwise has_else =
      numbers_of_kind (kind.If condition block otherwise has_else)
      ∙ ap (λ ns. number ∷ ns) (ap inside (sym (rolls-If condition block otherwise has_else)) ∙ fold-roll-TypedKind (List ℕ) (List ℕ) inner_numbers shown_numbers (k.If condition block otherwise has_else))

  numbers-For : (var : ℕ) (range : TypedRange) (body : List TypedStmt) → numbers_with (kind.For var range body) ≡ number ∷ concat (map stmt_numbers body)
  numbers-For var range body =
      numbers_of_kind (kind.For var range body)
      ∙ ap (λ ns. number ∷ ns) (ap inside (sym (rolls-For var range body)) ∙ fold-roll-TypedKind (List ℕ) (List ℕ) inner_numbers shown_numbers (k.For var range body))

  -- an assignment and a write have no statements in them
  numbers_assigned : (local : Option Local) (value : Option TypedExpr) (it : TypedKind) → assign_kind local value ≡ Some it → numbers_with it ≡ number ∷ []
  numbers_assigned None value it h = let no_such : ◌≡◌ {A = Option TypedKind} None (Some it) = h in absurd (cc)
  numbers_assigned (Some local) value it h =
      let made = option_map_some (λ typed. kind.Assign local.var typed) (only_where (λ typed. same_ty typed.ty local.ty) value) it h in
      ap numbers_with (sym made.2) ∙ numbers-Assign local.var made.0

  numbers_written : (how : WayDecl) (place : Option FieldAt) (index : Option (List TypedExpr)) (value : Option TypedExpr) (it : TypedKind)
      → write_kind how place index value ≡ Some it → numbers_with it ≡ number ∷ []
  numbers_written how None index value it h = let no_such : ◌≡◌ {A = Option TypedKind} None (Some it) = h in absurd (cc)
  numbers_written how (Some place) index value it h =
      let found = option_and_then_some (λ is. option_map (λ typed. kind.Write place.layout place.place is (declared_way how) typed) (only_where (λ typed. same_ty typed.ty place.ty) value)) _ it h in
      let made = option_map_some (λ typed. kind.Write place.layout place.place found.0 (declared_way how) typed) (only_where (λ typed. same_ty typed.ty place.ty) value) it found.2 in
      ap numbers_with (sym made.2) ∙ numbers-Write place.layout place.place found.0 (declared_way how) made.0

-- ---- numbers in a row

pub range-append : (from n more : ℕ) → range_with_len from (n + more) ≡ range_with_len from n ++ range_with_len (from + n) more
range-append from zero more =
    let start : from ≡ from + 0 = omega arith in
    let same : 0 + more ≡ more = omega arith in
    ap (range_with_len from) same ∙ ap (λ a. range_with_len a more) start
range-append from (suc n) more =
    let count : suc n + more ≡ suc (n + more) = omega arith in
    let start : from + 1 + n ≡ from + suc n = omega arith in
    ap (range_with_len from) count
    ∙ ap (λ ns. from ∷ ns) (range-append (from + 1) n more ∙ ap (λ a. range_with_len (from + 1) n ++ range_with_len a more) start)

no_more : (n : ℕ) → 1 + n ≡ 1 + (n + 0)
no_more n = omega arith

range-begin : (from n : ℕ) → from ∷ range_with_len (suc from) n ≡ range_with_len from (1 + n)
range-begin from n =
    let next : suc from ≡ from + 1 = omega arith in
    let count : suc n ≡ 1 + n = omega arith in
    ap (λ a. from ∷ range_with_len a n) next ∙ ap (range_with_len from) count

-- ---- statements

module _ (known : Known) where
  abbrev IsNumbered : Stmt → Reached → TypedStmt → Reached → Type 0
  IsNumbered statement at typed after = stmt_numbers typed ≡ range_with_len at.number (stmt_count statement)

  abbrev AreNumbered : List Stmt → Reached → List TypedStmt → Reached → Type 0
  AreNumbered block at typed after = concat (map stmt_numbers typed) ≡ range_with_len at.number (block_count block)

  numbering : Cases known IsNumbered AreNumbered
  numbering = record {
    on_none = λ at. refl;
    on_more = λ statement more at t mid ts last is one rest.
        let count = stmt_count statement in
        let tail = rest.holds ∙ ap (λ a. range_with_len a (block_count more)) (moves known statement at t mid is).number in
        ap (λ ns. ns ++ concat (map stmt_numbers ts)) one
        ∙ (ap (λ ns. range_with_len at.number count ++ ns) tail ∙ sym (range-append at.number count (block_count more)));
    on_let = λ name value at it fits. numbers-Let at.number (length at.types) it ∙ ap (range_with_len at.number) (sym (count-Let name value));
    on_assign = λ name value at it fits.
        numbers_assigned at.number (local_named at.scope name) (typed_expr known at.scope value) it fits.is ∙ ap (range_with_len at.number) (sym (count-Assign name value));
    on_write = λ field index how value at it fits.
        numbers_written at.number how (field_named known.tables field) (all_some (map (typed_expr known at.scope) index)) (typed_expr known at.scope value) it fits.is
        ∙ ap (range_with_len at.number) (sym (count-Write field index how value));
    on_if = λ condition block at it ys mid fits inside.
        numbers-If at.number it ys [] false
        ∙ (ap (λ ns. at.number ∷ (ns ++ [])) inside.holds
        ∙ (ap (λ ns. at.number ∷ ns) (append-nil (range_with_len (suc at.number) (block_count block)))
        ∙ (range-begin at.number (block_count block) ∙ ap (range_with_len at.number) (no_more (block_count block) ∙ sym (count-If condition block None)))));
    on_if_else = λ condition block otherwise at it ys mid others last fits inside outside.
        let begin = suc at.number in
        let yes_count = block_count block in
        let no_count = block_count otherwise in
        let no_numbers = outside.holds ∙ ap (λ a. range_with_len a no_count) (over_statements known block (next_statement at) ys mid inside.is).number in
        numbers-If at.number it ys others true
        ∙ (ap (λ ns. at.number ∷ (ns ++ concat (map stmt_numbers others))) inside.holds
        ∙ (ap (λ ns. at.number ∷ (range_with_len begin yes_count ++ ns)) no_numbers
        ∙ (ap (λ ns. at.number ∷ ns) (sym (range-append begin yes_count no_count))
        ∙ (range-begin at.number (yes_count + no_count) ∙ ap (range_with_len at.number) (sym (count-If condition block (Some otherwise)))))));
    on_for = λ name range body at bounds typed last fits inside.
        numbers-For at.number (length at.types) bounds typed
        ∙ (ap (λ ns. at.number ∷ ns) inside.holds ∙ (range-begin at.number (block_count body) ∙ ap (range_with_len at.number) (sym (count-For name range body))));
  }

-- ---- kernels

pub statements_are_numbered : StatementsAreNumbered
statements_are_numbered known decl kernel h =
    let parts = kernel_parts known decl kernel h in
    ap kernel_numbers (sym parts.is)
    ∙ (walk_turn known (IsNumbered known) (AreNumbered known) (numbering known) decl.body (first_reached decl.vars) parts.body parts.last parts.in_body
    ∙ ap (λ a. range_with_len a (block_count decl.body)) (number_begun (record { number = 1; types = []; scope = [] }) decl.vars))
