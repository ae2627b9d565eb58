-- How the code of statements uses fields.
use Rattle.std.proofs.Common.{◌≡◌, ℕ, Bool, true, false, if◌then◌else◌, List, [], ◌∷◌, ◌++◌, map, refl, sym, ap, subst, ◌∙◌, append_assoc, ℤ}
use Rattle.std.specs.List.{flat_map}
use Rattle.std.proofs.lemmas.List.{append-nil}
use Rattle.std.proofs.lemmas.List.Concat.{flat_map-append}
use Rattle.std.proofs.lemmas.List.Folds.{flat_map-map}
use Rattle.sg_words.specs.declared.operators.AccOp.{AccOp}
use Rattle.sg_flat.specs.declared.effects.Way.{Way}
use Rattle.sg_flat.specs.declared.effects.Way.TheVariants as way
use Rattle.sg_types.specs.declared.typed.TypedExpr.{TypedExpr}
use Rattle.sg_types.specs.declared.typed.TypedRange.{TypedRange}
use Rattle.sg_types.specs.declared.typed.TypedKind.TheVariants as kind
use Rattle.sg_types.specs.declared.typed.TypedStmt.{TypedStmt}
use Rattle.sg_admit.specs.Lines.{Around, Line, within_if, within_loop, stmt_lines, block_lines}
use Rattle.sg_ir.specs.declared.code.Inst.{Inst, fold-Inst}
use Rattle.sg_ir.specs.declared.code.Inst.TheVariants as v
use Rattle.sg_ir.specs.Apt.{Use, Writes, uses_step, uses_in}
use Rattle.sg_ir.proofs.Uses.{fold-Set, fold-OwnWrite, fold-Acc, fold-Want, fold-If, fold-For}
use Rattle.sg_lower.specs.steps.Basis.{Basis}
use Rattle.sg_lower.specs.steps.Fitting.{write_stmt}
use Rattle.sg_lower.specs.steps.Using.{expr_uses, all_uses, way_uses, deed_uses, line_uses, Uses, UsesStmt, UsesBlock}
use Rattle.sg_lower.proofs.LineWords.{lines-Let, lines-Assign, lines-Write, lines-If, lines-For}
use Rattle.sg_lower.proofs.Stepping.{of_kind}
use Rattle.sg_lower.proofs.UsingForms.{uses-none, uses-trans, uses-quiet, uses-one}

-- statements at the end of others, round which the same stands
pub lines_more : (block : List TypedStmt) (stmt : TypedStmt) (around : Around) → block_lines (block ++ stmt ∷ []) around ≡ block_lines block around ++ stmt_lines stmt around
lines_more [] stmt around = append-nil (stmt_lines stmt around)
lines_more (first ∷ block) stmt around =
    ap (λ (l : List Line). stmt_lines first around ++ l) (lines_more block stmt around) ∙ sym (append_assoc (stmt_lines first around) (block_lines block around) (stmt_lines stmt around))

module _ (basis : Basis) where
  to_lines : (xs ys : List Line) (us : List Use) (a z : List Inst) → xs ≡ ys → line_uses basis ys ≡ us → Uses us a z → Uses (line_uses basis xs) a z
  to_lines xs ys us a z same is uses = subst (λ (more : List Use). Uses more a z) (sym (ap (line_uses basis) same ∙ is)) uses

  pub uses_let : (stmt : TypedStmt) (var : ℕ) (value : TypedExpr) (from : ℕ) (a b z : List Inst) → stmt.kind ≡ kind.Let var value → Uses (expr_uses basis.owned value) a b → z ≡ b ++ v.Set var from ∷ [] → UsesStmt basis stmt a z
  uses_let stmt var value from a b z is has pushed = of_kind (λ (it : TypedStmt). UsesStmt basis it a z) stmt (kind.Let var value) is (λ around.
      to_lines _ _ (expr_uses basis.owned value) a z (lines-Let stmt.number var value around) (append-nil (expr_uses basis.owned value))
      (uses-quiet (expr_uses basis.owned value) a b z has (uses-one [] (v.Set var from) b z (fold-Set uses_step var from) pushed)))

  pub uses_assign : (stmt : TypedStmt) (var : ℕ) (value : TypedExpr) (from : ℕ) (a b z : List Inst) → stmt.kind ≡ kind.Assign var value → Uses (expr_uses basis.owned value) a b → z ≡ b ++ v.Set var from ∷ [] → UsesStmt basis stmt a z
  uses_assign stmt var value from a b z is has pushed = of_kind (λ (it : TypedStmt). UsesStmt basis it a z) stmt (kind.Assign var value) is (λ around.
      to_lines _ _ (expr_uses basis.owned value) a z (lines-Assign stmt.number var value around) (append-nil (expr_uses basis.owned value))
      (uses-quiet (expr_uses basis.owned value) a b z has (uses-one [] (v.Set var from) b z (fold-Set uses_step var from) pushed)))

  module _ (number layout place : ℕ) (index : List TypedExpr) (given : Way) (value : TypedExpr) where
    abbrev here : List Use
    here = if basis.slicing then all_uses basis.owned index else way_uses given layout place (expr_uses basis.owned value) (all_uses basis.owned index)

    written : (us : List Use) (a z : List Inst) → here ≡ us → Uses us a z → UsesStmt basis (write_stmt number layout place index given value) a z
    written us a z is uses = λ around. to_lines _ _ us a z (lines-Write number layout place index given value around) (append-nil here ∙ is) uses

    pub uses_want : (regs : List ℕ) (a b z : List Inst) → basis.slicing ≡ true → Uses (all_uses basis.owned index) a b → z ≡ b ++ v.Want layout regs number ∷ [] → UsesStmt basis (write_stmt number layout place index given value) a z
    uses_want regs a b z slicing has pushed = written (all_uses basis.owned index) a z
        (ap (λ (s : Bool). if s then all_uses basis.owned index else way_uses given layout place (expr_uses basis.owned value) (all_uses basis.owned index)) slicing)
        (uses-quiet (all_uses basis.owned index) a b z has (uses-one [] (v.Want layout regs number) b z (fold-Want uses_step layout regs number) pushed))

    way_is : basis.slicing ≡ false → (it : Way) → given ≡ it → here ≡ way_uses it layout place (expr_uses basis.owned value) (all_uses basis.owned index)
    way_is slicing it same =
        ap (λ (s : Bool). if s then all_uses basis.owned index else way_uses given layout place (expr_uses basis.owned value) (all_uses basis.owned index)) slicing
        ∙ ap (λ (w : Way). way_uses w layout place (expr_uses basis.owned value) (all_uses basis.owned index)) same

    pub uses_own : (from : ℕ) (a b z : List Inst) → basis.slicing ≡ false → given ≡ way.Own → Uses (expr_uses basis.owned value) a b → z ≡ b ++ v.OwnWrite layout place from number ∷ []
        → UsesStmt basis (write_stmt number layout place index given value) a z
    uses_own from a b z slicing own has pushed = written (expr_uses basis.owned value ++ Writes layout place way.Own ∷ []) a z (way_is slicing way.Own own)
        (uses-trans (expr_uses basis.owned value) (Writes layout place way.Own ∷ []) a b z has (uses-one (Writes layout place way.Own ∷ []) (v.OwnWrite layout place from number) b z (fold-OwnWrite uses_step layout place from number) pushed))

    pub uses_acc : (op : AccOp) (from p : ℕ) (regs : List ℕ) (a b c d z : List Inst) → basis.slicing ≡ false → given ≡ way.Acc op → Uses (expr_uses basis.owned value) a b → Uses (all_uses basis.owned index) b c → uses_in d ≡ uses_in c
        → z ≡ d ++ v.Acc op layout place p from regs number ∷ [] → UsesStmt basis (write_stmt number layout place index given value) a z
    uses_acc op from p regs a b c d z slicing acc one two quiet pushed = written (expr_uses basis.owned value ++ (all_uses basis.owned index ++ Writes layout place (way.Acc op) ∷ [])) a z (way_is slicing (way.Acc op) acc)
        (uses-trans (expr_uses basis.owned value) (all_uses basis.owned index ++ Writes layout place (way.Acc op) ∷ []) a b z one
        (uses-trans (all_uses basis.owned index) (Writes layout place (way.Acc op) ∷ []) b d z (uses-quiet (all_uses basis.owned index) b c d two (uses-none c d quiet))
        (uses-one (Writes layout place (way.Acc op) ∷ []) (v.Acc op layout place p from regs number) d z (fold-Acc uses_step op layout place p from regs number) pushed)))

  inner_uses : (block : List Inst) → flat_map (λ (uses : List Use). uses) (map (fold-Inst (List Use) uses_step) block) ≡ uses_in block
  inner_uses block = flat_map-map (λ (uses : List Use). uses) (fold-Inst (List Use) uses_step) block

  pub uses_if : (stmt : TypedStmt) (condition : TypedExpr) (block otherwise : List TypedStmt) (has_else : Bool) (cond : ℕ) (yes_code no_code a b z : List Inst) → stmt.kind ≡ kind.If condition block otherwise has_else
      → Uses (expr_uses basis.owned condition) a b → UsesBlock basis block [] yes_code → UsesBlock basis otherwise [] no_code → z ≡ b ++ v.If cond yes_code no_code ∷ [] → UsesStmt basis stmt a z
  uses_if stmt condition block otherwise has_else cond yes_code no_code a b z is has one two pushed = of_kind (λ (it : TypedStmt). UsesStmt basis it a z) stmt (kind.If condition block otherwise has_else) is (λ around.
      let inside = within_if condition around in
      let first = line_uses basis (block_lines block inside) in
      let second = line_uses basis (block_lines otherwise inside) in
      to_lines _ _ (expr_uses basis.owned condition ++ (first ++ second)) a z (lines-If stmt.number condition block otherwise has_else around)
      (ap (λ (l : List Use). expr_uses basis.owned condition ++ l) (flat_map-append (λ (line : Line). deed_uses basis line.deed) (block_lines block inside) (block_lines otherwise inside)))
      (uses-trans (expr_uses basis.owned condition) (first ++ second) a b z has
      (uses-one (first ++ second) (v.If cond yes_code no_code) b z
      (fold-If uses_step cond yes_code no_code
      ∙ (ap (λ (l : List Use). l ++ flat_map (λ (uses : List Use). uses) (map (fold-Inst (List Use) uses_step) no_code)) (inner_uses yes_code ∙ one inside)
      ∙ ap (λ (l : List Use). first ++ l) (inner_uses no_code ∙ two inside))) pushed)))

  pub uses_for : (stmt : TypedStmt) (var : ℕ) (range : TypedRange) (body : List TypedStmt) (lo hi : ℤ) (code a z : List Inst) → stmt.kind ≡ kind.For var range body → UsesBlock basis body [] code → z ≡ a ++ v.For var lo hi code ∷ [] → UsesStmt basis stmt a z
  uses_for stmt var range body lo hi code a z is one pushed = of_kind (λ (it : TypedStmt). UsesStmt basis it a z) stmt (kind.For var range body) is (λ around.
      let inside = within_loop range around in
      to_lines _ _ (line_uses basis (block_lines body inside)) a z (lines-For stmt.number var range body around) refl
      (uses-one (line_uses basis (block_lines body inside)) (v.For var lo hi code) a z (fold-For uses_step var lo hi code ∙ (inner_uses code ∙ one inside)) pushed))

  -- a block that is another's list of statements
  pub uses_same : (given stmts : List TypedStmt) (a z : List Inst) → given ≡ stmts → UsesBlock basis given a z → UsesBlock basis stmts a z
  uses_same given stmts a z same = subst (λ (it : List TypedStmt). UsesBlock basis it a z) same

  -- one more statement
  pub uses_next : (done : List TypedStmt) (stmt : TypedStmt) (a b z : List Inst) → UsesBlock basis done a b → UsesStmt basis stmt b z → UsesBlock basis (done ++ stmt ∷ []) a z
  uses_next done stmt a b z one two = λ around.
      to_lines _ _ (line_uses basis (block_lines done around) ++ line_uses basis (stmt_lines stmt around)) a z (lines_more done stmt around)
      (flat_map-append (λ (line : Line). deed_uses basis line.deed) (block_lines done around) (stmt_lines stmt around))
      (uses-trans (line_uses basis (block_lines done around)) (line_uses basis (stmt_lines stmt around)) a b z (one around) (two around))
