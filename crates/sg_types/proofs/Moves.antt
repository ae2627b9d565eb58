-- How far typing comes over statements: numbers go on by the number of statements, types and names are added at the end.
use Rattle.std.proofs.Common.{◌≡◌, ℕ, ◌+◌, ◌≤◌, ◌++◌, take, List, [], ◌∷◌, map, length, Bool, true, false, Option, Some, None, option_map, Result, Ok, refl, sym, ap, subst, ◌∙◌, append_assoc, append-nil, length-append, arith}
use Rattle.std.proofs.Math.Seq.{take-append_seam}
use Rattle.std.specs.List.{AllByRecursion}
use Rattle.sg_words.specs.declared.operators.Ty.{Ty}
use Rattle.sg_words.specs.declared.operators.Ty.TheVariants as ty
use Rattle.sg_ast.specs.declared.token.Name.{Name}
use Rattle.sg_ast.specs.declared.stmt.Stmt.{Stmt}
use Rattle.sg_ast.specs.declared.stmt.Stmt.TheVariants as stmt
use Rattle.sg_types.specs.declared.fault.TypeFault.{TypeFault}
use Rattle.sg_types.specs.declared.typed.TypedKind.{TypedKind}
use Rattle.sg_types.specs.declared.typed.TypedStmt.{TypedStmt}
use Rattle.sg_types.specs.Scopes.{Known, NamedLocal}
use Rattle.sg_types.specs.Statements.{Reached, next_statement, with_variable, in_turn, in_block, typed_stmt}
use Rattle.sg_types.specs.Counting.{stmt_count, block_count}
use Rattle.sg_types.proofs.Walk.{block_end, Cases, walk, walk_turn, walk_block}
use Rattle.sg_types.proofs.StmtWords.{count-Let, count-Assign, count-Write, count-If, count-For}

-- from one place to another over n statements
pub record Moved (at : Reached) (n : ℕ) (after : Reached) : Type 0 where
  pub number : after.number ≡ at.number + n
  pub new_types : List Ty
  pub types : after.types ≡ at.types ++ new_types
  pub few : length new_types ≤ n
  pub new_names : List NamedLocal
  pub scope : after.scope ≡ at.scope ++ new_names

pub stays : (at : Reached) → Moved at 0 at
stays at = record { number = omega arith; new_types = []; types = sym (append-nil at.types); few = omega arith; new_names = []; scope = sym (append-nil at.scope) }

pub moved_twice : (a b c : Reached) (n m : ℕ) → Moved a n b → Moved b m c → Moved a (n + m) c
moved_twice a b c n m p q = record {
  number = omega arith;
  new_types = p.new_types ++ q.new_types;
  types = q.types ∙ (ap (λ xs. xs ++ q.new_types) p.types ∙ append_assoc a.types p.new_types q.new_types);
  few = omega (arith, length-append p.new_types q.new_types);
  new_names = p.new_names ++ q.new_names;
  scope = q.scope ∙ (ap (λ xs. xs ++ q.new_names) p.scope ∙ append_assoc a.scope p.new_names q.new_names);
}

-- at the end of a block the names of its start are in scope
pub left : (a b : Reached) (n : ℕ) → Moved a n b → Moved a n (record b { scope = a.scope })
left a b n p = record { number = p.number; new_types = p.new_types; types = p.types; few = p.few; new_names = []; scope = sym (append-nil a.scope) }

pub passed : (at : Reached) → Moved at 1 (next_statement at)
passed at = record { number = omega arith; new_types = []; types = sym (append-nil at.types); few = omega arith; new_names = []; scope = sym (append-nil at.scope) }

pub declares : (name : Name) (given : Ty) (is_loop : Bool) (at : Reached) → Moved at 1 (with_variable name given is_loop (next_statement at))
declares name given is_loop at = record {
  number = omega arith;
  new_types = given ∷ [];
  types = refl;
  few = omega arith;
  new_names = record { name = name; local = record { var = length at.types; ty = given; is_loop = is_loop } } ∷ [];
  scope = refl;
}

-- the names of the start stand at the front
pub front : (a b : Reached) (n : ℕ) → Moved a n b → take (length a.scope) b.scope ≡ a.scope
front a b n p = ap (take (length a.scope)) p.scope ∙ take-append_seam a.scope p.new_names

-- as many statements by another count
moved_over : (a b : Reached) (n m : ℕ) → n ≡ m → Moved a n b → Moved a m b
moved_over a b n m e p = subst (λ (k : ℕ). Moved a k b) e p

module _ (known : Known) where
  abbrev Moves : Stmt → Reached → TypedStmt → Reached → Type 0
  Moves statement at typed after = Moved at (stmt_count statement) after

  abbrev MovesAll : List Stmt → Reached → List TypedStmt → Reached → Type 0
  MovesAll block at typed after = Moved at (block_count block) after

  moving : Cases known Moves MovesAll
  moving = record {
    on_none = λ at. stays at;
    on_more = λ statement more at t mid ts last is one rest. moved_twice at mid last (stmt_count statement) (block_count more) one rest.holds;
    on_let = λ name value at it fits.
        moved_over at (with_variable name it.ty false (next_statement at)) 1 (stmt_count (stmt.Let name value)) (sym (count-Let name value)) (declares name it.ty false at);
    on_assign = λ name value at it fits. moved_over at (next_statement at) 1 (stmt_count (stmt.Assign name value)) (sym (count-Assign name value)) (passed at);
    on_write = λ field index how value at it fits.
        moved_over at (next_statement at) 1 (stmt_count (stmt.Write field index how value)) (sym (count-Write field index how value)) (passed at);
    on_if = λ condition block at it ys mid fits inside.
        moved_over at (block_end at mid) (1 + (block_count block + 0)) (stmt_count (stmt.If condition block None)) (sym (count-If condition block None))
        (moved_twice at (next_statement at) (block_end at mid) 1 (block_count block + 0) (passed at)
        (moved_twice (next_statement at) (block_end at mid) (block_end at mid) (block_count block) 0 (left (next_statement at) mid (block_count block) inside.holds) (stays (block_end at mid))));
    on_if_else = λ condition block otherwise at it ys mid ns last fits inside outside.
        moved_over at (block_end at last) (1 + (block_count block + block_count otherwise)) (stmt_count (stmt.If condition block (Some otherwise))) (sym (count-If condition block (Some otherwise)))
        (moved_twice at (next_statement at) (block_end at last) 1 (block_count block + block_count otherwise) (passed at)
        (moved_twice (next_statement at) (block_end at mid) (block_end at last) (block_count block) (block_count otherwise) (left (next_statement at) mid (block_count block) inside.holds)
        (left (block_end at mid) last (block_count otherwise) outside.holds)));
    on_for = λ name range body at bounds typed last fits inside.
        moved_over at (block_end at last) (1 + block_count body) (stmt_count (stmt.For name range body)) (sym (count-For name range body))
        (left at last (1 + block_count body)
        (moved_twice at (with_variable name ty.I32 true (next_statement at)) last 1 (block_count body) (declares name ty.I32 true at) inside.holds));
  }

  pub moves : (statement : Stmt) (at : Reached) (typed : TypedStmt) (after : Reached) → typed_stmt known statement at ≡ Ok (typed, after) → Moved at (stmt_count statement) after
  moves = walk known Moves MovesAll moving

  pub over_statements : (block : List Stmt) (at : Reached) (typed : List TypedStmt) (after : Reached) → in_turn (map (typed_stmt known) block) at ≡ Ok (typed, after) → Moved at (block_count block) after
  over_statements = walk_turn known Moves MovesAll moving

  pub over_block : (block : List Stmt) (at : Reached) (typed : List TypedStmt) (after : Reached) → in_block (map (typed_stmt known) block) at ≡ Ok (typed, after) → Moved at (block_count block) after
  over_block block at typed after h =
      let found = walk_block known Moves MovesAll moving block at (typed, after) h in
      subst (λ (p : List TypedStmt × Reached). Moved at (block_count block) p.1) found.3 (left at found.1 (block_count block) found.2)
