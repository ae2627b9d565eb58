-- One statement after the other.
use Rattle.std.proofs.Common.{◌≡◌, ℕ, zero, suc, ◌+◌, ◌≤◌, ◌<◌, ◌++◌, take, drop, get_or, List, [], ◌∷◌, map, length, Result, Ok, Err, refl, sym, ap, ◌∙◌, append_assoc, append-nil, length-append, true, arith}
use Rattle.std.proofs.lemmas.List.{at_drop_more, at_drop_all}
use Rattle.sg_words.specs.declared.operators.Ty.{Ty}
use Rattle.sg_ast.specs.declared.stmt.Stmt.{Stmt}
use Rattle.sg_types.specs.declared.fault.TypeFault.{TypeFault}
use Rattle.sg_types.specs.declared.typed.TypedStmt.{TypedStmt}
use Rattle.sg_types.specs.Scopes.{Known, NamedLocal}
use Rattle.sg_ast.specs.declared.token.Name.{Name}
use Rattle.sg_ast.specs.declared.stmt.RangeDecl.{RangeDecl}
use Rattle.sg_words.specs.declared.operators.Ty.TheVariants as ty
use Rattle.sg_types.specs.declared.typed.TypedRange.{TypedRange}
use Rattle.sg_types.specs.declared.typed.TypedKind.TheVariants as kind
use Rattle.sg_words.specs.Results.{◌>>=◌}
use Rattle.sg_types.specs.Statements.{Reached, next_statement, with_variable, stmt_fault, for_part, in_turn, in_block, typed_stmt, for_step}
use Rattle.sg_types.specs.Counting.{stmt_count, block_count}
use Rattle.sg_types.specs.steps.Views.{HasRoom}
use Rattle.sg_types.proofs.Moves.{moves, over_statements, over_block, front, moved_twice, declares}

-- typed statements, before others
abbrev pub after : List TypedStmt → Result (List TypedStmt × Reached) TypeFault → Result (List TypedStmt × Reached) TypeFault
after done rest = (rest >>= (λ more. Ok (done ++ more.0, more.1)))

pub after-none : (rest : Result (List TypedStmt × Reached) TypeFault) → after [] rest ≡ rest
after-none (Ok more) = refl
after-none (Err fault) = refl

after-more : (done : List TypedStmt) (typed : TypedStmt) (rest : Result (List TypedStmt × Reached) TypeFault)
    → after done (rest >>= (λ more. Ok (typed ∷ more.0, more.1))) ≡ after (done ++ typed ∷ []) rest
after-more done typed (Ok more) = ap (λ (xs : List TypedStmt). Ok (xs, more.1)) (sym (append_assoc done (typed ∷ []) more.0))
after-more done typed (Err fault) = refl

module _ (known : Known) (block : List Stmt) (i : ℕ) (statement : Stmt) (within : i < length block) (is : statement ≡ get_or block i statement) (done : List TypedStmt) (at : Reached) where
  split : after done (in_turn (map (typed_stmt known) (drop i block)) at)
      ≡ after done ((typed_stmt known statement at) >>= (λ one. ((in_turn (map (typed_stmt known) (drop (i + 1) block)) one.1) >>= (λ more. Ok (one.0 ∷ more.0, more.1)))))
  split =
      at_drop_more (λ rest. after done (in_turn (map (typed_stmt known) rest) at)) block i statement within
      ∙ ap (λ (first : Stmt). after done ((typed_stmt known first at) >>= (λ one. ((in_turn (map (typed_stmt known) (drop (i + 1) block)) one.1) >>= (λ more. Ok (one.0 ∷ more.0, more.1)))))) (sym is)

  -- one more statement is typed
  pub one_more : (typed : TypedStmt) (next : Reached) → typed_stmt known statement at ≡ Ok (typed, next)
      → after (done ++ typed ∷ []) (in_turn (map (typed_stmt known) (drop (i + 1) block)) next) ≡ after done (in_turn (map (typed_stmt known) (drop i block)) at)
  one_more typed next e =
      sym (after-more done typed (in_turn (map (typed_stmt known) (drop (i + 1) block)) next))
      ∙ sym (split ∙ ap (λ one. after done (one >>= (λ one. ((in_turn (map (typed_stmt known) (drop (i + 1) block)) one.1) >>= (λ more. Ok (one.0 ∷ more.0, more.1)))))) e)

  -- one has a fault
  pub one_fault : (fault : TypeFault) → typed_stmt known statement at ≡ Err fault → after done (in_turn (map (typed_stmt known) (drop i block)) at) ≡ Err fault
  one_fault fault e = split ∙ ap (λ one. after done (one >>= (λ one. ((in_turn (map (typed_stmt known) (drop (i + 1) block)) one.1) >>= (λ more. Ok (one.0 ∷ more.0, more.1)))))) e

  counted : block_count (drop i block) ≡ stmt_count statement + block_count (drop (i + 1) block)
  counted = at_drop_more block_count block i statement within ∙ ap (λ (first : Stmt). stmt_count first + block_count (drop (i + 1) block)) (sym is)

  pub room_here : HasRoom at (block_count (drop i block)) → HasRoom at (stmt_count statement)
  room_here room = record { numbers = omega (arith, counted, room.numbers); vars = omega (arith, counted, room.vars) }

  pub room_next : (typed : TypedStmt) (next : Reached) → typed_stmt known statement at ≡ Ok (typed, next) → HasRoom at (block_count (drop i block)) → HasRoom next (block_count (drop (i + 1) block))
  room_next typed next e room =
      let moved = moves known statement at typed next e in
      record {
        numbers = omega (arith, counted, room.numbers, moved.number);
        vars = omega (arith, counted, room.vars, moved.few, ap (λ (xs : List Ty). length xs) moved.types, length-append at.types moved.new_types);
      }

-- all statements are typed
pub all_typed : (known : Known) (block : List Stmt) (i : ℕ) (done : List TypedStmt) (at : Reached) → length block ≤ i → after done (in_turn (map (typed_stmt known) (drop i block)) at) ≡ Ok (done, at)
all_typed known block i done at h =
    at_drop_all (λ rest. after done (in_turn (map (typed_stmt known) rest) at)) block i h ∙ ap (λ (xs : List TypedStmt). Ok (xs, at)) (append-nil done)

-- a statement of a block is no larger than the block
pub count_within : (block : List Stmt) (i : ℕ) (d : Stmt) → i < length block → stmt_count (get_or block i d) ≤ block_count block
count_within [] i d h = absurd (omega arith)
count_within (statement ∷ more) zero d h = omega arith
count_within (statement ∷ more) (suc i) d h = omega (arith, count_within more i d (omega arith))

-- a block is typed, and what it declared leaves the scope
pub block_done : (known : Known) (block : List Stmt) (at : Reached) (typed : List TypedStmt) (after : Reached) (n : ℕ) (scope : List NamedLocal)
    → in_turn (map (typed_stmt known) block) at ≡ Ok (typed, after) → n ≡ length at.scope → scope ≡ take n after.scope
    → in_block (map (typed_stmt known) block) at ≡ Ok (typed, record { number = after.number; types = after.types; scope = scope })
block_done known block at typed after n scope h p q =
    let scope_is : scope ≡ at.scope = q ∙ (ap (λ k. take k after.scope) p ∙ front at after (block_count block) (over_statements known block at typed after h)) in
    ap (λ (r : Result (List TypedStmt × Reached) TypeFault). (r >>= (λ done. Ok (done.0, record done.1 { scope = at.scope })))) h
    ∙ ap (λ (names : List NamedLocal). Ok (typed, record { number = after.number; types = after.types; scope = names })) (sym scope_is)

-- an inner loop is typed, and its variable leaves the scope
pub for_done : (known : Known) (name : Name) (range : RangeDecl) (body : List Stmt) (at start after : Reached) (bounds : TypedRange) (typed : List TypedStmt) (var n : ℕ) (scope : List NamedLocal)
    → stmt_fault known at.number (for_part known at.scope name range) ≡ Ok bounds
    → start ≡ with_variable name ty.I32 true (record { number = at.number + 1; types = at.types; scope = at.scope })
    → in_turn (map (typed_stmt known) body) start ≡ Ok (typed, after) → var ≡ length at.types → n ≡ length at.scope → scope ≡ take n after.scope
    → for_step known name range (map (typed_stmt known) body) at
    ≡ Ok (record { number = at.number; kind = kind.For var bounds typed }, record { number = after.number; types = after.types; scope = scope })
for_done known name range body at start after bounds typed var n scope part is h v p q =
    let begin = with_variable name ty.I32 true (next_statement at) in
    let start_is : start ≡ begin = is ∙ ap (λ (k : ℕ). with_variable name ty.I32 true (record { number = k; types = at.types; scope = at.scope })) (omega arith) in
    let g : in_turn (map (typed_stmt known) body) begin ≡ Ok (typed, after) = ap (in_turn (map (typed_stmt known) body)) (sym start_is) ∙ h in
    let moved = moved_twice at begin after 1 (block_count body) (declares name ty.I32 true at) (over_statements known body begin typed after g) in
    let scope_is : scope ≡ at.scope = q ∙ (ap (λ k. take k after.scope) p ∙ front at after (1 + block_count body) moved) in
    ap (λ (r : Result TypedRange TypeFault). (r >>= (λ bounds. ((in_turn (map (typed_stmt known) body) begin) >>= (λ done. Ok (record { number = at.number; kind = kind.For (length at.types) bounds done.0 }, record done.1 { scope = at.scope })))))) part
    ∙ (ap (λ (r : Result (List TypedStmt × Reached) TypeFault). (r >>= (λ done. Ok (record { number = at.number; kind = kind.For (length at.types) bounds done.0 }, record done.1 { scope = at.scope })))) g
    ∙ (ap (λ (k : ℕ). Ok (record { number = at.number; kind = kind.For k bounds typed }, record { number = after.number; types = after.types; scope = at.scope })) (sym v)
    ∙ ap (λ (names : List NamedLocal). Ok (record { number = at.number; kind = kind.For var bounds typed }, record { number = after.number; types = after.types; scope = names })) (sym scope_is)))

-- after the block of an `if` there is room for its `else`
pub else_room : (known : Known) (block : List Stmt) (more : ℕ) (at start after : Reached) (typed : List TypedStmt)
    → start ≡ record { number = at.number + 1; types = at.types; scope = at.scope }
    → in_block (map (typed_stmt known) block) start ≡ Ok (typed, after) → HasRoom at (1 + (block_count block + more)) → HasRoom after more
else_room known block more at start after typed is h room =
    let moved = over_block known block start typed after h in
    let numbers = ap (λ (r : Reached). r.number) is in
    let types = ap (λ (r : Reached). length r.types) is in
    record {
      numbers = omega (arith, room.numbers, moved.number, numbers);
      vars = omega (arith, room.vars, moved.few, types, ap (λ (xs : List Ty). length xs) moved.types, length-append start.types moved.new_types);
    }
