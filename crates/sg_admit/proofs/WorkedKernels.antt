-- Worked kernels: lines in blocks, dirty variables, what stands in a slice, and the smallest broken rule of the first statement.
use Rattle.std.proofs.Common.{◌≡◌, true, false, List, [], ◌∷◌, map, Err, refl, ap, ◌∙◌}
use Rattle.sg_words.specs.declared.operators.BinOp.TheVariants as b
use Rattle.sg_words.specs.declared.operators.AccOp.TheVariants as acc
use Rattle.sg_flat.specs.declared.effects.Way.TheVariants.{Own, Acc}
use Rattle.sg_types.specs.declared.typed.TypedExpr.{TypedExpr}
use Rattle.sg_types.specs.declared.typed.TypedKind.TheVariants as kind
use Rattle.sg_types.specs.declared.typed.TypedStmt.{TypedStmt}
use Rattle.sg_types.specs.declared.typed.TypedDomain.{TypedDomain}
use Rattle.sg_admit.specs.declared.admitted.AdmitFault.TheVariants.{Rule}
use Rattle.sg_admit.specs.Lines.{Sets, Tests, Turns, Line, line_of, nothing_round, within_if, kernel_lines}
use Rattle.sg_admit.specs.Clean.{unclean_in}
use Rattle.sg_admit.specs.Slices.{walked_by, block_slice, slice_of}
use Rattle.sg_admit.specs.Admission.{admission}
use Rattle.sg_types.proofs.Uses.{expr_folds}
use Rattle.sg_admit.proofs.StmtWords.{line_equations, slice_equations}
use Rattle.sg_admit.proofs.WorkedAdmission.{literal, name, bin, read, write, writes, range, kernel, walk, box, loop, read_equations, refused}

-- ---- `for i in A { let t = x[i]; if i > 2 { for k in 0..4 { y[k] += t; } } else { x[i] = 0; } }`

abbrev above_two : TypedExpr
above_two = bin b.Gt (name 0) (literal 2)

nested : List TypedStmt
nested =
    record { number = 1; kind = kind.Let 1 (read 0 (name 0)) }
    ∷ record {
      number = 2;
      kind = kind.If above_two (record { number = 3; kind = kind.For 2 (range 0 4) (write 4 1 (name 2) (Acc acc.Add) (name 1) ∷ []) } ∷ []) (write 5 0 (name 0) Own (literal 0) ∷ []) true;
    } ∷ []

nested_lines : TypedDomain → List Line
nested_lines over =
    loop over
    ∷ line_of 1 nothing_round (Sets 1 (read 0 (name 0)))
    ∷ line_of 2 nothing_round (Tests above_two)
    ∷ line_of 3 (record { conditions = above_two ∷ []; ranges = [] }) (Turns 2 (range 0 4))
    ∷ line_of 4 (record { conditions = above_two ∷ []; ranges = range 0 4 ∷ [] }) (writes 1 (name 2) (Acc acc.Add) (name 1))
    ∷ line_of 5 (record { conditions = above_two ∷ []; ranges = [] }) (writes 0 (name 0) Own (literal 0)) ∷ []

lines_in_order : (over : TypedDomain) → kernel_lines (kernel over nested) ≡ nested_lines over
unfolding nested nested_lines
lines_in_order over = simp line_equations

-- the fields at place 0 of both layouts are written, and those at place 1 of none
fields_by_layout_and_place : map (λ layout. (unclean_in (nested_lines walk)).fields layout 0) (0 ∷ 1 ∷ 2 ∷ []) ≡ true ∷ true ∷ false ∷ []
unfolding nested_lines
fields_by_layout_and_place = refl

other_place : (unclean_in (nested_lines walk)).fields 0 1 ≡ false
unfolding nested_lines
other_place = refl

-- `i` and `k` are clean, and `t` is dirty
only_t_is_dirty : map (unclean_in (nested_lines walk)).vars (0 ∷ 1 ∷ 2 ∷ []) ≡ false ∷ true ∷ false ∷ []
unfolding nested_lines
only_t_is_dirty = simp expr_folds

-- what is kept of the `if`, where this is kept of its second block
abbrev kept_if : List TypedStmt → List TypedStmt
kept_if otherwise =
    record {
      number = 2;
      kind = kind.If above_two (record { number = 3; kind = kind.For 2 (range 0 4) (write 4 1 (name 2) (Acc acc.Add) (literal 0) ∷ []) } ∷ []) otherwise true;
    } ∷ []

slice_in_a_walk : slice_of (kernel walk nested) ≡ kept_if []
unfolding nested nested_lines
slice_in_a_walk = ap (λ (it : List Line). block_slice (walked_by walk) (unclean_in it) nested) (lines_in_order walk) ∙ simp (slice_equations, expr_folds)

-- over a box each own write may activate too
slice_in_a_box : slice_of (kernel box nested) ≡ kept_if (write 5 0 (name 0) Own (literal 0) ∷ [])
unfolding nested nested_lines
slice_in_a_box = ap (λ (it : List Line). block_slice (walked_by box) (unclean_in it) nested) (lines_in_order box) ∙ simp (slice_equations, expr_folds)

-- ---- `s = t; t = x[i]; if s > 2 { u = 5; } v = 5; x[i] = 0;`: `s` depends on what stands after it, and `u` on the condition round it
hanging_lines : List Line
hanging_lines =
    line_of 1 nothing_round (Sets 2 (name 1))
    ∷ line_of 2 nothing_round (Sets 1 (read 0 (name 0)))
    ∷ line_of 3 nothing_round (Tests (bin b.Gt (name 2) (literal 2)))
    ∷ line_of 4 (within_if (bin b.Gt (name 2) (literal 2)) nothing_round) (Sets 3 (literal 5))
    ∷ line_of 5 nothing_round (Sets 4 (literal 5))
    ∷ line_of 6 nothing_round (writes 0 (name 0) Own (literal 0)) ∷ []

dirt_spreads : map (unclean_in hanging_lines).vars (1 ∷ 2 ∷ 3 ∷ 4 ∷ []) ≡ true ∷ true ∷ true ∷ false ∷ []
unfolding hanging_lines
dirt_spreads = simp expr_folds

-- ---- faults
-- `x[i] += 1; x[i - 1] = x[0];`: the second statement breaks rules 1, 2 and 3
abbrev below : TypedExpr
below = bin b.Sub (name 0) (literal 1)

smallest_rule : admission (kernel walk (write 1 0 (name 0) (Acc acc.Add) (literal 1) ∷ write 2 0 below Own (read 0 (literal 0)) ∷ [])) ≡ Err (Rule 2 1)
smallest_rule = refused walk (write 1 0 (name 0) (Acc acc.Add) (literal 1) ∷ write 2 0 below Own (read 0 (literal 0)) ∷ [])
    (loop walk ∷ line_of 1 nothing_round (writes 0 (name 0) (Acc acc.Add) (literal 1)) ∷ line_of 2 nothing_round (writes 0 below Own (read 0 (literal 0))) ∷ [])
    (Rule 2 1) (simp line_equations) (simp (read_equations, expr_folds))

-- `y[i] += y[i]; y[i] = 1;`: the first statement breaks rule 3, and the second rule 1
first_statement : admission (kernel walk (write 1 1 (name 0) (Acc acc.Add) (read 1 (name 0)) ∷ write 2 1 (name 0) Own (literal 1) ∷ [])) ≡ Err (Rule 1 3)
first_statement = refused walk (write 1 1 (name 0) (Acc acc.Add) (read 1 (name 0)) ∷ write 2 1 (name 0) Own (literal 1) ∷ [])
    (loop walk ∷ line_of 1 nothing_round (writes 1 (name 0) (Acc acc.Add) (read 1 (name 0))) ∷ line_of 2 nothing_round (writes 1 (name 0) Own (literal 1)) ∷ [])
    (Rule 1 3) (simp line_equations) (simp (read_equations, expr_folds))
