-- The variables that the code of statements sets, and numbers that stand once.
use Rattle.std.proofs.Common.{◌≡◌, ℕ, zero, suc, ◌+◌, ◌<◌, ℤ, Bool, true, false, not, ◌||◌, ◌==◌, List, [], ◌∷◌, ◌++◌, refl, sym, ap, ◌∙◌, append_assoc, arith}
use Rattle.std.specs.List.{flat_map, list_any, range_with_len}
use Rattle.std.proofs.lemmas.Bool.{and_from, eqb-true}
use Rattle.std.proofs.lemmas.List.Concat.{flat_map-append}
use Rattle.sg_flat.specs.declared.effects.Way.{Way}
use Rattle.sg_types.specs.declared.typed.TypedExpr.{TypedExpr}
use Rattle.sg_types.specs.declared.typed.TypedRange.{TypedRange}
use Rattle.sg_types.specs.declared.typed.TypedKind.TheVariants as kind
use Rattle.sg_types.specs.declared.typed.TypedStmt.{TypedStmt}
use Rattle.sg_admit.specs.Lines.{Line, within_if, within_loop, stmt_lines, block_lines}
use Rattle.sg_ir.specs.declared.code.Inst.{Inst, fold-Inst}
use Rattle.sg_ir.specs.declared.code.Inst.TheVariants as v
use Rattle.sg_ir.specs.WellTyped.{SetName, sets_step, var_number, set_vars, has_no_twice}
use Rattle.sg_ir.proofs.Uses.{fold-Set, set_vars-append}
use Rattle.sg_lower.specs.steps.Fitting.{write_stmt}
use Rattle.sg_lower.specs.steps.Typing.{deed_sets, line_sets, SetsStmt, SetsBlock}
use Rattle.sg_lower.proofs.LineWords.{lines-Let, lines-Assign, lines-Write, lines-If, lines-For}
use Rattle.sg_lower.proofs.Stepping.{of_kind}
use Rattle.sg_lower.proofs.TypingBlocks.{if_sets, for_sets}
use Rattle.sg_lower.proofs.UsingLines.{lines_more}

-- an instruction after what sets no variable
inst_sets : (vars : List ℕ) (inst : Inst) (a b z : List Inst) → set_vars b ≡ set_vars a → z ≡ b ++ inst ∷ [] → set_vars (inst ∷ []) ≡ vars → set_vars z ≡ set_vars a ++ vars
inst_sets vars inst a b z same pushed is =
    ap set_vars pushed ∙ (set_vars-append b (inst ∷ []) ∙ (ap (λ (l : List ℕ). l ++ set_vars (inst ∷ [])) same ∙ ap (λ (l : List ℕ). set_vars a ++ l) is))

pub none_set : (inst : Inst) → fold-Inst (List SetName) sets_step inst ≡ [] → set_vars (inst ∷ []) ≡ []
none_set inst is = ap (λ (ss : List SetName). flat_map var_number (ss ++ [])) is

of_lines : (xs ys : List Line) (vars : List ℕ) (a z : List Inst) → xs ≡ ys → line_sets ys ≡ vars → set_vars z ≡ set_vars a ++ vars → set_vars z ≡ set_vars a ++ line_sets xs
of_lines xs ys vars a z same is sets = sets ∙ ap (λ (l : List ℕ). set_vars a ++ l) (sym (ap line_sets same ∙ is))

set_sets : (var r : ℕ) → set_vars (v.Set var r ∷ []) ≡ var ∷ []
set_sets var r = ap (λ (ss : List SetName). flat_map var_number (ss ++ [])) (fold-Set sets_step var r)

pub sets_let : (stmt : TypedStmt) (var : ℕ) (value : TypedExpr) (r : ℕ) (a b z : List Inst) → stmt.kind ≡ kind.Let var value → set_vars b ≡ set_vars a → z ≡ b ++ v.Set var r ∷ [] → SetsStmt stmt a z
sets_let stmt var value r a b z is same pushed = of_kind (λ (it : TypedStmt). SetsStmt it a z) stmt (kind.Let var value) is (λ around.
    of_lines _ _ (var ∷ []) a z (lines-Let stmt.number var value around) refl (inst_sets (var ∷ []) (v.Set var r) a b z same pushed (set_sets var r)))

pub sets_assign : (stmt : TypedStmt) (var : ℕ) (value : TypedExpr) (r : ℕ) (a b z : List Inst) → stmt.kind ≡ kind.Assign var value → set_vars b ≡ set_vars a → z ≡ b ++ v.Set var r ∷ [] → SetsStmt stmt a z
sets_assign stmt var value r a b z is same pushed = of_kind (λ (it : TypedStmt). SetsStmt it a z) stmt (kind.Assign var value) is (λ around.
    of_lines _ _ (var ∷ []) a z (lines-Assign stmt.number var value around) refl (inst_sets (var ∷ []) (v.Set var r) a b z same pushed (set_sets var r)))

pub sets_write : (number layout place : ℕ) (index : List TypedExpr) (given : Way) (value : TypedExpr) (inst : Inst) (a b z : List Inst) → set_vars b ≡ set_vars a → z ≡ b ++ inst ∷ [] → set_vars (inst ∷ []) ≡ []
    → SetsStmt (write_stmt number layout place index given value) a z
sets_write number layout place index given value inst a b z same pushed none = λ around.
    of_lines _ _ [] a z (lines-Write number layout place index given value around) refl (inst_sets [] inst a b z same pushed none)

pub sets_if : (stmt : TypedStmt) (condition : TypedExpr) (block otherwise : List TypedStmt) (has_else : Bool) (r : ℕ) (yes_code no_code a b z : List Inst) → stmt.kind ≡ kind.If condition block otherwise has_else → set_vars b ≡ set_vars a
    → SetsBlock block [] yes_code → SetsBlock otherwise [] no_code → z ≡ b ++ v.If r yes_code no_code ∷ [] → SetsStmt stmt a z
sets_if stmt condition block otherwise has_else r yes_code no_code a b z is same one two pushed = of_kind (λ (it : TypedStmt). SetsStmt it a z) stmt (kind.If condition block otherwise has_else) is (λ around.
    let inside = within_if condition around in
    let first = block_lines block inside in
    let second = block_lines otherwise inside in
    of_lines _ _ (line_sets first ++ line_sets second) a z (lines-If stmt.number condition block otherwise has_else around) (flat_map-append (λ (line : Line). deed_sets line.deed) first second)
    (inst_sets (line_sets first ++ line_sets second) (v.If r yes_code no_code) a b z same pushed
    (if_sets var_number r yes_code no_code ∙ (ap (λ (l : List ℕ). l ++ set_vars no_code) (one inside) ∙ ap (λ (l : List ℕ). line_sets first ++ l) (two inside)))))

pub sets_for : (stmt : TypedStmt) (var : ℕ) (range : TypedRange) (body : List TypedStmt) (lo hi : ℤ) (code a z : List Inst) → stmt.kind ≡ kind.For var range body → SetsBlock body [] code → z ≡ a ++ v.For var lo hi code ∷ [] → SetsStmt stmt a z
sets_for stmt var range body lo hi code a z is one pushed = of_kind (λ (it : TypedStmt). SetsStmt it a z) stmt (kind.For var range body) is (λ around.
    let inside = within_loop range around in
    of_lines _ _ (var ∷ line_sets (block_lines body inside)) a z (lines-For stmt.number var range body around) refl
    (inst_sets (var ∷ line_sets (block_lines body inside)) (v.For var lo hi code) a a z refl pushed (for_sets var_number var lo hi code ∙ ap (λ (l : List ℕ). var ∷ l) (one inside))))

pub sets_next : (done : List TypedStmt) (stmt : TypedStmt) (a b z : List Inst) → SetsBlock done a b → SetsStmt stmt b z → SetsBlock (done ++ stmt ∷ []) a z
sets_next done stmt a b z one two = λ around.
    of_lines _ _ (line_sets (block_lines done around) ++ line_sets (stmt_lines stmt around)) a z (lines_more done stmt around) (flat_map-append (λ (line : Line). deed_sets line.deed) (block_lines done around) (stmt_lines stmt around))
    (two around ∙ (ap (λ (l : List ℕ). l ++ line_sets (stmt_lines stmt around)) (one around) ∙ append_assoc (set_vars a) (line_sets (block_lines done around)) (line_sets (stmt_lines stmt around))))

-- ---- numbers one after the other stand once

past : (x a n : ℕ) → x < a → list_any (λ y. y == x) (range_with_len a n) ≡ false
past x a zero below = refl
past x a (suc n) below = by_test (a == x) refl (past x (a + 1) n (omega (arith, below)))
  where
    by_test : (b : Bool) → (a == x) ≡ b → list_any (λ y. y == x) (range_with_len (a + 1) n) ≡ false → (b || list_any (λ y. y == x) (range_with_len (a + 1) n)) ≡ false
    by_test true e rest = let same = eqb-true a x e in absurd (omega (arith, same, below))
    by_test false e rest = rest

pub range_once : (a n : ℕ) → has_no_twice (range_with_len a n) ≡ true
range_once a zero = refl
range_once a (suc n) = and_from (not (list_any (λ y. y == a) (range_with_len (a + 1) n))) (has_no_twice (range_with_len (a + 1) n)) (ap not (past a (a + 1) n (omega arith))) (range_once (a + 1) n)
