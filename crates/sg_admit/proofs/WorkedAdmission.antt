-- Worked kernels: which are admitted, which rule the others break, what stands in a slice, and which are neutral.
use Rattle.std.proofs.Common.{◌≡◌, ℕ, Bool, true, false, ◌&&◌, List, [], ◌∷◌, map, Option, Some, None, Err, refl, ap, ◌∙◌}
use Rattle.std.specs.List.{list_all}
use Rattle.sg_words.specs.declared.operators.Ty.{Ty}
use Rattle.sg_words.specs.declared.operators.Ty.TheVariants as ty
use Rattle.sg_words.specs.declared.operators.BinOp.{BinOp}
use Rattle.sg_words.specs.declared.operators.BinOp.TheVariants as b
use Rattle.sg_words.specs.declared.operators.AccOp.TheVariants as acc
use Rattle.sg_words.specs.Results.{fault_or}
use Rattle.sg_flat.specs.declared.effects.Way.{Way}
use Rattle.sg_flat.specs.declared.effects.Way.TheVariants.{Own, Acc}
use Rattle.sg_types.specs.declared.typed.TypedExpr.{TypedExpr}
use Rattle.sg_types.specs.declared.typed.Form.TheVariants as form
use Rattle.sg_types.specs.declared.typed.Form.TheOpen.{TypedExpr-F}
use Rattle.sg_types.specs.declared.typed.TypedRange.{TypedRange}
use Rattle.sg_types.specs.declared.typed.TypedKind.TheVariants as kind
use Rattle.sg_types.specs.declared.typed.TypedStmt.{TypedStmt}
use Rattle.sg_types.specs.declared.typed.TypedDomain.{TypedDomain}
use Rattle.sg_types.specs.declared.typed.TypedDomain.TheVariants as domain
use Rattle.sg_types.specs.declared.typed.TypedKernel.{TypedKernel}
use Rattle.sg_admit.specs.declared.admitted.AdmitFault.{AdmitFault}
use Rattle.sg_admit.specs.declared.admitted.AdmitFault.TheVariants.{Rule}
use Rattle.sg_admit.specs.Lines.{Deed, Sets, Writes, Tests, Turns, Opens, Line, line_of, nothing_round, within_if, within_loop, kernel_lines, domain_ranges}
use Rattle.sg_admit.specs.Clean.{unclean_in}
use Rattle.sg_admit.specs.Bounds.{nowhere}
use Rattle.sg_admit.specs.Slices.{walked_by, block_slice, slice_of}
use Rattle.sg_admit.specs.Rules.{Facts, name_of, are_names, SeenPart, seen_step, has_good_reads, ways_in, first_way, has_own, has_acc, writes_layout}
use Rattle.sg_admit.specs.Admission.{first_fault, box_answer, admission}
use Rattle.sg_admit.specs.Neutral.{guard_of}
use Rattle.sg_types.proofs.Uses.{expr_folds, fold-Literal, fold-Var, fold-Bin, value-Literal}
use Rattle.sg_admit.proofs.FaultWords.{read_good, asked_reads}
use Rattle.sg_admit.proofs.StmtWords.{line_equations, slice_equations}

-- ---- small kernels over the layout 0 with the field 0, and the layout 1 with the field 0

abbrev pub literal : ℕ → TypedExpr
literal word = record { ty = ty.I32; form = form.Literal word }

abbrev pub name : ℕ → TypedExpr
name var = record { ty = ty.I32; form = form.Var var }

abbrev pub bin : BinOp → TypedExpr → TypedExpr → TypedExpr
bin op left right = record { ty = ty.I32; form = form.Bin op left right }

abbrev pub read : ℕ → TypedExpr → TypedExpr
read layout at = record { ty = ty.I32; form = form.Read layout 0 (at ∷ []) }

abbrev pub write : ℕ → ℕ → TypedExpr → Way → TypedExpr → TypedStmt
write number layout at way value = record { number = number; kind = kind.Write layout 0 (at ∷ []) way value }

abbrev pub writes : ℕ → TypedExpr → Way → TypedExpr → Deed
writes layout at way value = Writes layout 0 (at ∷ []) way value

abbrev pub range : ℕ → ℕ → TypedRange
range lo hi = record { lo = literal lo; hi = literal hi }

abbrev pub kernel : TypedDomain → List TypedStmt → TypedKernel
kernel over body = record { vars = 1; domain = over; types = ty.I32 ∷ ty.I32 ∷ ty.I32 ∷ []; body = body }

abbrev pub walk : TypedDomain
walk = domain.Walk 0

abbrev pub box : TypedDomain
box = domain.Ranges (range 0 1 ∷ [])

-- the line of the kernel's loop
abbrev pub loop : TypedDomain → Line
loop over = line_of 0 nothing_round (Opens (domain_ranges over))

-- ---- whether the reads of an expression are good, at the forms that stand here

abbrev its_reads : TypedExpr-F SeenPart SeenPart → SeenPart
its_reads expr = expr.form

module _ (vars : ℕ) (good : ℕ → ℕ → Bool → Bool) where
  pub good-Literal : (given : Ty) (word : ℕ) → has_good_reads vars good (record { ty = given; form = form.Literal word }) ≡ true
  good-Literal given word = ap (λ (seen : SeenPart). seen.1) (fold-Literal (seen_step vars good) its_reads given word)

  pub good-Var : (given : Ty) (var : ℕ) → has_good_reads vars good (record { ty = given; form = form.Var var }) ≡ true
  good-Var given var = ap (λ (seen : SeenPart). seen.1) (fold-Var (seen_step vars good) its_reads given var)

  pub good-Bin : (given : Ty) (op : BinOp) (left right : TypedExpr)
      → has_good_reads vars good (record { ty = given; form = form.Bin op left right }) ≡ (has_good_reads vars good left && has_good_reads vars good right)
  good-Bin given op left right = ap (λ (seen : SeenPart). seen.1) (fold-Bin (seen_step vars good) its_reads given op left right)

  pub good-Read : (given : Ty) (layout place : ℕ) (index : List TypedExpr)
      → has_good_reads vars good (record { ty = given; form = form.Read layout place index }) ≡ (good layout place (are_names vars 0 (map name_of index)) && list_all (has_good_reads vars good) index)
  good-Read given layout place index = read_good vars good (record { ty = given; form = form.Read layout place index }) layout place index refl

  pub good-Active : (given : Ty) (layout : ℕ) (index : List TypedExpr)
      → has_good_reads vars good (record { ty = given; form = form.Active layout index }) ≡ list_all (has_good_reads vars good) index
  good-Active given layout index = asked_reads vars good (record { ty = given; form = form.Active layout index }) layout index refl

pub ruleset read_equations = (good-Literal, good-Var, good-Bin, good-Read, good-Active)

-- ---- the fault of plain lines is that of the kernel

abbrev facts_from : ℕ → Option ℕ → List Line → Facts
facts_from vars walked lines = record {
  first = first_way (ways_in lines);
  own = has_own (ways_in lines);
  acc = has_acc (ways_in lines);
  written = writes_layout (ways_in lines);
  vars = vars;
  walked = walked;
  unclean = unclean_in lines;
}

abbrev fault_in : TypedDomain → List Line → Option AdmitFault
fault_in over lines = first_fault (facts_from 1 (walked_by over) lines) lines

pub refused : (over : TypedDomain) (body : List TypedStmt) (lines : List Line) (fault : AdmitFault) → kernel_lines (kernel over body) ≡ lines → fault_in over lines ≡ Some fault
    → admission (kernel over body) ≡ Err fault
refused over body lines fault l f = ap (λ (found : Option AdmitFault). fault_or found (box_answer (kernel over body))) (ap (fault_in over) l ∙ f)

kept : (over : TypedDomain) (body : List TypedStmt) (lines : List Line) → kernel_lines (kernel over body) ≡ lines → fault_in over lines ≡ None
    → admission (kernel over body) ≡ box_answer (kernel over body)
kept over body lines l f = ap (λ (found : Option AdmitFault). fault_or found (box_answer (kernel over body))) (ap (fault_in over) l ∙ f)

-- ---- rules

-- `for i in 0..1 { x[0] min= 5; }`
least_body : List TypedStmt
least_body = write 1 0 (literal 0) (Acc acc.Min) (literal 5) ∷ []

least_is_kept : admission (kernel box least_body) ≡ box_answer (kernel box least_body)
unfolding least_body
least_is_kept = kept box least_body (loop box ∷ line_of 1 nothing_round (writes 0 (literal 0) (Acc acc.Min) (literal 5)) ∷ []) (simp line_equations) (simp (read_equations, expr_folds))

-- `for i in 0..1 { x[i] = x[i - 1] + 4; }`: an own-written field is read at another index
beside_value : TypedExpr
beside_value = bin b.Add (read 0 (bin b.Sub (name 0) (literal 1))) (literal 4)

beside : admission (kernel box (write 1 0 (name 0) Own beside_value ∷ [])) ≡ Err (Rule 1 2)
unfolding beside_value
beside = refused box (write 1 0 (name 0) Own beside_value ∷ []) (loop box ∷ line_of 1 nothing_round (writes 0 (name 0) Own beside_value) ∷ []) (Rule 1 2) (simp line_equations) (simp (read_equations, expr_folds))

-- `for i in A { x[i] += x[i]; }`: an accumulated field is read
doubled : admission (kernel walk (write 1 0 (name 0) (Acc acc.Add) (read 0 (name 0)) ∷ [])) ≡ Err (Rule 1 3)
doubled = refused walk (write 1 0 (name 0) (Acc acc.Add) (read 0 (name 0)) ∷ [])
    (loop walk ∷ line_of 1 nothing_round (writes 0 (name 0) (Acc acc.Add) (read 0 (name 0))) ∷ []) (Rule 1 3) (simp line_equations) (simp (read_equations, expr_folds))

-- `for i in A { if x[i] > 0 { y[i + 1] += 1; x[i] = 0; } }`: a write that may activate stands in an `if` whose condition isn't clean
guarded_condition : TypedExpr
guarded_condition = bin b.Gt (read 0 (name 0)) (literal 0)

guarded_body : List TypedStmt
guarded_body =
    record { number = 1; kind = kind.If guarded_condition (write 2 1 (bin b.Add (name 0) (literal 1)) (Acc acc.Add) (literal 1) ∷ write 3 0 (name 0) Own (literal 0) ∷ []) [] false } ∷ []

guarded_lines : List Line
guarded_lines =
    loop walk
    ∷ line_of 1 nothing_round (Tests guarded_condition)
    ∷ line_of 2 (within_if guarded_condition nothing_round) (writes 1 (bin b.Add (name 0) (literal 1)) (Acc acc.Add) (literal 1))
    ∷ line_of 3 (within_if guarded_condition nothing_round) (writes 0 (name 0) Own (literal 0)) ∷ []

guarded : admission (kernel walk guarded_body) ≡ Err (Rule 2 4)
unfolding guarded_body guarded_condition guarded_lines
guarded = refused walk guarded_body guarded_lines (Rule 2 4) (simp line_equations) (simp (read_equations, expr_folds))

-- `for i in A { y[i] += 1; y[i] min= 2; }`: a field is written in two ways
two_ways : admission (kernel walk (write 1 1 (name 0) (Acc acc.Add) (literal 1) ∷ write 2 1 (name 0) (Acc acc.Min) (literal 2) ∷ [])) ≡ Err (Rule 2 1)
two_ways = refused walk (write 1 1 (name 0) (Acc acc.Add) (literal 1) ∷ write 2 1 (name 0) (Acc acc.Min) (literal 2) ∷ [])
    (loop walk ∷ line_of 1 nothing_round (writes 1 (name 0) (Acc acc.Add) (literal 1)) ∷ line_of 2 nothing_round (writes 1 (name 0) (Acc acc.Min) (literal 2)) ∷ [])
    (Rule 2 1) (simp line_equations) (simp (read_equations, expr_folds))

-- `for i in A { for j in 0..64 { for k in 0..65 {} } }`: 64 times 65 turns
inner : ℕ → ℕ → List TypedStmt → TypedStmt
inner number hi body = record { number = number; kind = kind.For number (range 0 hi) body }

many_turns : admission (kernel walk (inner 1 64 (inner 2 65 [] ∷ []) ∷ [])) ≡ Err (Rule 2 5)
unfolding inner
many_turns = refused walk (inner 1 64 (inner 2 65 [] ∷ []) ∷ [])
    (loop walk ∷ line_of 1 nothing_round (Turns 1 (range 0 64)) ∷ line_of 2 (within_loop (range 0 64) nothing_round) (Turns 2 (range 0 65)) ∷ [])
    (Rule 2 5) (simp line_equations) (simp (read_equations, expr_folds, value-Literal nowhere))

-- `for i in A { if active(x[i]) { x[i] = 1; } }`: a layout into which the kernel writes is asked
abbrev pub asking : TypedExpr
asking = record { ty = ty.Bool; form = form.Active 0 (name 0 ∷ []) }

asking_body : List TypedStmt
asking_body = record { number = 1; kind = kind.If asking (write 2 0 (name 0) Own (literal 1) ∷ []) [] false } ∷ []

asking_lines : List Line
asking_lines =
    loop walk ∷ line_of 1 nothing_round (Tests asking) ∷ line_of 2 (within_if asking nothing_round) (writes 0 (name 0) Own (literal 1)) ∷ []

written_is_asked : admission (kernel walk asking_body) ≡ Err (Rule 1 6)
unfolding asking_body asking_lines
written_is_asked = refused walk asking_body asking_lines (Rule 1 6) (simp line_equations) (simp (read_equations, expr_folds))

-- `for i in 0..x[0] {}`: a bound that isn't constant, at the kernel's loop
open_box : TypedDomain
open_box = domain.Ranges (record { lo = literal 0; hi = read 0 (literal 0) } ∷ [])

open_bound : admission (kernel open_box []) ≡ Err (Rule 0 5)
unfolding open_box
open_bound = refused open_box [] (loop open_box ∷ []) (Rule 0 5) refl (simp (read_equations, expr_folds))

-- ---- slices

-- `for i in A { let t = x[i]; let n = i + 1; y[n] += t; x[i] = 0; }`: `t` is dirty, `n` is clean, and `x[i] = 0` writes where the loop walks
spread_body : List TypedStmt
spread_body =
    record { number = 1; kind = kind.Let 1 (read 0 (name 0)) }
    ∷ record { number = 2; kind = kind.Let 2 (bin b.Add (name 0) (literal 1)) }
    ∷ write 3 1 (name 2) (Acc acc.Add) (name 1)
    ∷ write 4 0 (name 0) Own (literal 0) ∷ []

spread_lines : List Line
spread_lines =
    loop walk
    ∷ line_of 1 nothing_round (Sets 1 (read 0 (name 0)))
    ∷ line_of 2 nothing_round (Sets 2 (bin b.Add (name 0) (literal 1)))
    ∷ line_of 3 nothing_round (writes 1 (name 2) (Acc acc.Add) (name 1))
    ∷ line_of 4 nothing_round (writes 0 (name 0) Own (literal 0)) ∷ []

spread_is_kept : admission (kernel walk spread_body) ≡ box_answer (kernel walk spread_body)
unfolding spread_body spread_lines
spread_is_kept = kept walk spread_body spread_lines (simp line_equations) (simp (read_equations, expr_folds))

spread_slice : slice_of (kernel walk spread_body) ≡ record { number = 2; kind = kind.Let 2 (bin b.Add (name 0) (literal 1)) } ∷ write 3 1 (name 2) (Acc acc.Add) (literal 0) ∷ []
unfolding spread_body spread_lines
spread_slice =
    let lines : kernel_lines (kernel walk spread_body) ≡ spread_lines = simp line_equations in
    ap (λ (it : List Line). block_slice (walked_by walk) (unclean_in it) spread_body) lines ∙ simp (slice_equations, expr_folds)

-- ---- neutral kernels

-- `x[i] != 0 && i > 2`, and with parentheses round its first operand
own_cell : TypedExpr
own_cell = bin b.Ne (read 0 (name 0)) (literal 0)

own_cell_guards : (guard_of 0 1 (bin b.LAnd own_cell (bin b.Gt (name 0) (literal 2)))).is_guarded ≡ true
unfolding own_cell
own_cell_guards = simp expr_folds

parentheses_guard_nothing : (guard_of 0 1 (bin b.LAnd (record { ty = ty.Bool; form = form.Paren own_cell }) (bin b.Gt (name 0) (literal 2)))).is_guarded ≡ false
unfolding own_cell
parentheses_guard_nothing = simp expr_folds

other_index_guards_nothing : (guard_of 0 1 (bin b.Ne (read 0 (literal 0)) (literal 0))).is_guarded ≡ false
other_index_guards_nothing = simp expr_folds
