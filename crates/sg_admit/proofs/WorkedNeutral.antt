-- Worked neutral kernels.
use Rattle.std.proofs.Common.{◌≡◌, Bool, true, false, ◌&&◌, List, [], ◌∷◌, refl, ap, sym, ◌∙◌}
use Rattle.std.specs.List.{list_all}
use Rattle.sg_words.specs.declared.operators.BinOp.TheVariants as b
use Rattle.sg_flat.specs.declared.effects.Way.TheVariants.{Own}
use Rattle.sg_types.specs.declared.typed.TypedExpr.{TypedExpr}
use Rattle.sg_types.specs.declared.typed.TypedKind.{out-TypedKind, out-roll-TypedKind}
use Rattle.sg_types.specs.declared.typed.TypedKind.TheVariants as kind
use Rattle.sg_types.specs.declared.typed.TypedKind.TheVariants.{rolls-If}
use Rattle.sg_types.specs.declared.typed.TypedKind.TheOpen as k
use Rattle.sg_types.specs.declared.typed.TypedStmt.{TypedStmt}
use Rattle.sg_admit.specs.Lines.{Tests, Line, line_of, nothing_round, within_if, kernel_lines}
use Rattle.sg_admit.specs.Neutral.{is_guard, is_neutral_over, asks_nothing_in, asks_nothing, is_neutral_kernel}
use Rattle.sg_types.proofs.Uses.{expr_folds}
use Rattle.sg_admit.proofs.Silent.{asks_no}
use Rattle.sg_admit.proofs.StmtWords.{line_equations}
use Rattle.sg_admit.proofs.WorkedAdmission.{literal, name, bin, read, write, writes, kernel, walk, box, loop, asking}

abbrev own_cell : TypedExpr
own_cell = bin b.Ne (read 0 (name 0)) (literal 0)

-- `if x[i] != 0 { x[i] = 0; }`, with another condition or with an `else`
abbrev guarded : TypedExpr → Bool → TypedStmt
guarded condition has_else = record { number = 1; kind = kind.If condition (write 2 0 (name 0) Own (literal 0) ∷ []) [] has_else }

-- nothing is asked in such a kernel if nothing is in the condition
quiet : (condition : TypedExpr) (has_else : Bool) → asks_no condition ≡ true → asks_nothing (kernel walk (guarded condition has_else ∷ [])) ≡ true
quiet condition has_else h =
    let last : Line = line_of 2 (within_if condition nothing_round) (writes 0 (name 0) Own (literal 0)) in
    let lines : kernel_lines (kernel walk (guarded condition has_else ∷ [])) ≡ loop walk ∷ line_of 1 nothing_round (Tests condition) ∷ last ∷ [] = simp line_equations in
    ap (list_all asks_nothing_in) lines ∙ (ap (λ (b : Bool). (b && true) && list_all asks_nothing_in (last ∷ [])) h ∙ simp expr_folds)

opened : (condition : TypedExpr) (has_else : Bool) → asks_no condition ≡ true
    → is_neutral_kernel (kernel walk (guarded condition has_else ∷ [])) ≡ is_guard 0 1 (k.If condition (write 2 0 (name 0) Own (literal 0) ∷ []) [] has_else)
opened condition has_else h =
    ap (λ (b : Bool). b && is_neutral_over (kernel walk (guarded condition has_else ∷ [])) walk) (quiet condition has_else h)
    ∙ ap (is_guard 0 1)
    (ap out-TypedKind (sym (rolls-If condition (write 2 0 (name 0) Own (literal 0) ∷ []) [] has_else)) ∙ out-roll-TypedKind (k.If condition (write 2 0 (name 0) Own (literal 0) ∷ []) [] has_else))

own_cell_is_neutral : is_neutral_kernel (kernel walk (guarded own_cell false ∷ [])) ≡ true
own_cell_is_neutral = opened own_cell false (simp expr_folds) ∙ simp expr_folds

else_is_not : is_neutral_kernel (kernel walk (guarded own_cell true ∷ [])) ≡ false
else_is_not = opened own_cell true (simp expr_folds)

first_operand_is_neutral : is_neutral_kernel (kernel walk (guarded (bin b.LAnd own_cell (bin b.Gt (name 0) (literal 2))) false ∷ [])) ≡ true
first_operand_is_neutral = opened (bin b.LAnd own_cell (bin b.Gt (name 0) (literal 2))) false (simp expr_folds) ∙ simp expr_folds

last_operand_is_not : is_neutral_kernel (kernel walk (guarded (bin b.LAnd (bin b.Gt (name 0) (literal 2)) own_cell) false ∷ [])) ≡ false
last_operand_is_not = opened (bin b.LAnd (bin b.Gt (name 0) (literal 2)) own_cell) false (simp expr_folds) ∙ simp expr_folds

other_layout_is_not : is_neutral_kernel (kernel walk (guarded (bin b.Ne (read 1 (name 0)) (literal 0)) false ∷ [])) ≡ false
other_layout_is_not = opened (bin b.Ne (read 1 (name 0)) (literal 0)) false (simp expr_folds) ∙ simp expr_folds

never : (a : Bool) → (a && false) ≡ false
never true = refl
never false = refl

two_statements_are_not : is_neutral_kernel (kernel walk (guarded own_cell false ∷ guarded own_cell false ∷ [])) ≡ false
two_statements_are_not = never (asks_nothing (kernel walk (guarded own_cell false ∷ guarded own_cell false ∷ [])))

no_statement_is_not : is_neutral_kernel (kernel walk []) ≡ false
no_statement_is_not = refl

box_is_neutral : is_neutral_kernel (kernel box []) ≡ true
box_is_neutral = simp expr_folds

-- `for i in 0..1 { if active(x[i]) {} }`
asked : TypedStmt
asked = record { number = 1; kind = kind.If asking [] [] false }

question_is_not : is_neutral_kernel (kernel box (asked ∷ [])) ≡ false
unfolding asked
question_is_not =
    let lines : kernel_lines (kernel box (asked ∷ [])) ≡ loop box ∷ line_of 1 nothing_round (Tests asking) ∷ [] = simp line_equations in
    ap (λ (it : List Line). list_all asks_nothing_in it && true) lines ∙ simp expr_folds
