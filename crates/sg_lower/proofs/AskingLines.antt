-- Which layouts the code of statements asks.
use Rattle.std.proofs.Common.{◌≡◌, ℕ, Bool, true, false, not, ◌&&◌, ◌||◌, ◌==◌, if◌then◌else◌, inl, inr, List, [], ◌∷◌, ◌++◌, Some, refl, sym, ap, subst, ◌∙◌, ℤ}
use Rattle.std.specs.Prelude.{find, option_map, Contains}
use Rattle.std.specs.List.{list_all, AllByRecursion}
use Rattle.std.proofs.lemmas.Bool.{and_parts, and_from, both_ways}
use Rattle.std.proofs.lemmas.List.Folds.{list_all-append}
use Rattle.sg_words.proofs.Uses.{contains_none, contains_cases}
use Rattle.sg_words.specs.declared.operators.AccOp.{AccOp}
use Rattle.sg_flat.specs.declared.effects.Way.{Way}
use Rattle.sg_types.specs.declared.typed.TypedExpr.{TypedExpr}
use Rattle.sg_types.specs.declared.typed.TypedRange.{TypedRange}
use Rattle.sg_types.specs.declared.typed.TypedKind.TheVariants as kind
use Rattle.sg_types.specs.declared.typed.TypedStmt.{TypedStmt}
use Rattle.sg_admit.specs.declared.ways.FieldWay.{FieldWay}
use Rattle.sg_admit.specs.Lines.{Around, Line, within_if, within_loop, stmt_lines, block_lines}
use Rattle.sg_admit.specs.Rules.{Facts, is_of_field, first_way, writes_layout, range_exprs, has_good_asks, is_unwritten}
use Rattle.sg_admit.specs.Laws.{KeepsAll}
use Rattle.sg_ir.specs.declared.code.Inst.{Inst}
use Rattle.sg_ir.specs.declared.code.Inst.TheVariants as v
use Rattle.sg_ir.specs.Trimmed.{Ways}
use Rattle.sg_ir.specs.Trails.{asked_by, ways_after}
use Rattle.sg_ir.proofs.Uses.{trail-Set, trail-OwnWrite, trail-Acc, trail-Want, trail-If, trail-For}
use Rattle.sg_lower.specs.steps.Fitting.{write_stmt}
use Rattle.sg_lower.specs.steps.Asking.{AsksExpr, AsksExprs, line_asks, AsksStmt, AsksBlock}
use Rattle.sg_lower.proofs.LineWords.{lines-Let, lines-Assign, lines-Write, lines-If, lines-For}
use Rattle.sg_lower.proofs.Stepping.{of_kind}
use Rattle.sg_lower.proofs.UsingLines.{lines_more}
use Rattle.sg_lower.proofs.Sounding.{rules_kept}
use Rattle.sg_lower.proofs.AskingForms.{keeps-more, keeps-quiet, keeps-trans, asks-same}

-- the one expression of a line
alone : (good : ℕ → Bool) (expr : TypedExpr) → ((has_good_asks good expr && true) && true) ≡ true → has_good_asks good expr ≡ true
alone good expr h = (and_parts (has_good_asks good expr) true (and_parts (has_good_asks good expr && true) true h).0).0

module _ (stmt : TypedStmt) where
  pub asks_let : (var : ℕ) (value : TypedExpr) (from : ℕ) (a b z : List Inst) → stmt.kind ≡ kind.Let var value → AsksExpr value a b → z ≡ b ++ v.Set var from ∷ [] → AsksStmt stmt a z
  asks_let var value from a b z is has pushed = of_kind (λ (it : TypedStmt). AsksStmt it a z) stmt (kind.Let var value) is (λ good around h.
      keeps-trans good a b z (has good (alone good value (sym (ap (list_all (line_asks good)) (lines-Let stmt.number var value around)) ∙ h)))
      (keeps-quiet good (v.Set var from) b z pushed (λ ways. ap (λ (t : List ℕ × Ways). t.0) (trail-Set var from ways))))

  pub asks_assign : (var : ℕ) (value : TypedExpr) (from : ℕ) (a b z : List Inst) → stmt.kind ≡ kind.Assign var value → AsksExpr value a b → z ≡ b ++ v.Set var from ∷ [] → AsksStmt stmt a z
  asks_assign var value from a b z is has pushed = of_kind (λ (it : TypedStmt). AsksStmt it a z) stmt (kind.Assign var value) is (λ good around h.
      keeps-trans good a b z (has good (alone good value (sym (ap (list_all (line_asks good)) (lines-Assign stmt.number var value around)) ∙ h)))
      (keeps-quiet good (v.Set var from) b z pushed (λ ways. ap (λ (t : List ℕ × Ways). t.0) (trail-Set var from ways))))

  -- both blocks of an `if` begin anew
  pub asks_if : (condition : TypedExpr) (block otherwise : List TypedStmt) (has_else : Bool) (cond : ℕ) (yes_code no_code a b z : List Inst) → stmt.kind ≡ kind.If condition block otherwise has_else
      → AsksExpr condition a b → AsksBlock block [] yes_code → AsksBlock otherwise [] no_code → z ≡ b ++ v.If cond yes_code no_code ∷ [] → AsksStmt stmt a z
  asks_if condition block otherwise has_else cond yes_code no_code a b z is has one two pushed = of_kind (λ (it : TypedStmt). AsksStmt it a z) stmt (kind.If condition block otherwise has_else) is (λ good around h.
      let inside = within_if condition around in
      let first = block_lines block inside in
      let second = block_lines otherwise inside in
      let p = and_parts (has_good_asks good condition && true) (list_all (line_asks good) (first ++ second)) (sym (ap (list_all (line_asks good)) (lines-If stmt.number condition block otherwise has_else around)) ∙ h) in
      let q = and_parts (list_all (line_asks good) first) (list_all (line_asks good) second) (sym (list_all-append (line_asks good) first second) ∙ p.1) in
      keeps-trans good a b z (has good (and_parts (has_good_asks good condition) true p.0).0)
      (keeps-more good (v.If cond yes_code no_code) b z pushed (λ ways.
      let here = ways_after b ways in
      ap (λ (t : List ℕ × Ways). list_all good t.0) (trail-If cond yes_code no_code here)
      ∙ (list_all-append good (asked_by yes_code here) (asked_by no_code here)
      ∙ and_from (list_all good (asked_by yes_code here)) (list_all good (asked_by no_code here)) (one good inside q.0 here refl) (two good inside q.1 here refl)))))

  pub asks_for : (var : ℕ) (range : TypedRange) (body : List TypedStmt) (lo hi : ℤ) (code a z : List Inst) → stmt.kind ≡ kind.For var range body → AsksBlock body [] code → z ≡ a ++ v.For var lo hi code ∷ [] → AsksStmt stmt a z
  asks_for var range body lo hi code a z is one pushed = of_kind (λ (it : TypedStmt). AsksStmt it a z) stmt (kind.For var range body) is (λ good around h.
      let inside = within_loop range around in
      let p = and_parts (list_all (has_good_asks good) (range_exprs range)) (list_all (line_asks good) (block_lines body inside)) (sym (ap (list_all (line_asks good)) (lines-For stmt.number var range body around)) ∙ h) in
      keeps-more good (v.For var lo hi code) a z pushed (λ ways.
      ap (λ (t : List ℕ × Ways). list_all good t.0) (trail-For var lo hi code (ways_after a ways)) ∙ one good inside p.1 (ways_after a ways) refl))

module _ (number layout place : ℕ) (index : List TypedExpr) (given : Way) (value : TypedExpr) where
  -- the indices of a write, and its value
  parts : (good : ℕ → Bool) (around : Around) → list_all (line_asks good) (stmt_lines (write_stmt number layout place index given value) around) ≡ true
      → (list_all (has_good_asks good) index ≡ true) × (has_good_asks good value ≡ true)
  parts good around h =
      let whole = (and_parts (list_all (has_good_asks good) (index ++ value ∷ [])) true (sym (ap (list_all (line_asks good)) (lines-Write number layout place index given value around)) ∙ h)).0 in
      let p = and_parts (list_all (has_good_asks good) index) (has_good_asks good value && true) (sym (list_all-append (has_good_asks good) index (value ∷ [])) ∙ whole) in
      (p.0, (and_parts (has_good_asks good value) true p.1).0)

  pub asks_want : (regs : List ℕ) (a b z : List Inst) → AsksExprs index a b → z ≡ b ++ v.Want layout regs number ∷ [] → AsksStmt (write_stmt number layout place index given value) a z
  asks_want regs a b z has pushed = λ good around h.
      keeps-trans good a b z (has good (parts good around h).0) (keeps-quiet good (v.Want layout regs number) b z pushed (λ ways. ap (λ (t : List ℕ × Ways). t.0) (trail-Want layout regs number ways)))

  pub asks_own : (from : ℕ) (a b z : List Inst) → AsksExpr value a b → z ≡ b ++ v.OwnWrite layout place from number ∷ [] → AsksStmt (write_stmt number layout place index given value) a z
  asks_own from a b z has pushed = λ good around h.
      keeps-trans good a b z (has good (parts good around h).1) (keeps-quiet good (v.OwnWrite layout place from number) b z pushed (λ ways. ap (λ (t : List ℕ × Ways). t.0) (trail-OwnWrite layout place from number ways)))

  pub asks_acc : (op : AccOp) (from p : ℕ) (regs : List ℕ) (a b c d z : List Inst) → AsksExpr value a b → AsksExprs index b c → ((ways : Ways) → asked_by d ways ≡ asked_by c ways)
      → z ≡ d ++ v.Acc op layout place p from regs number ∷ [] → AsksStmt (write_stmt number layout place index given value) a z
  asks_acc op from p regs a b c d z one two same pushed = λ good around h.
      let both = parts good around h in
      keeps-trans good a b z (one good both.1) (keeps-trans good b c z (two good both.0) (keeps-trans good c d z (asks-same good c d same)
      (keeps-quiet good (v.Acc op layout place p from regs number) d z pushed (λ ways. ap (λ (t : List ℕ × Ways). t.0) (trail-Acc op layout place p from regs number ways)))))

-- one more statement
pub asks_next : (done : List TypedStmt) (stmt : TypedStmt) (a b z : List Inst) → AsksBlock done a b → AsksStmt stmt b z → AsksBlock (done ++ stmt ∷ []) a z
asks_next done stmt a b z one two = λ good around h.
    let p = and_parts (list_all (line_asks good) (block_lines done around)) (list_all (line_asks good) (stmt_lines stmt around))
    (sym (list_all-append (line_asks good) (block_lines done around) (stmt_lines stmt around)) ∙ (sym (ap (list_all (line_asks good)) (lines_more done stmt around)) ∙ h)) in
    keeps-trans good a b z (one good around p.0) (two good around p.1)

-- ---- admitted kernels

-- lines that keep the rules ask no layout into which the kernel writes
pub lines_ask : (facts : Facts) (lines : List Line) → AllByRecursion (KeepsAll facts) lines → list_all (line_asks (is_unwritten facts)) lines ≡ true
lines_ask facts [] keep = refl
lines_ask facts (line ∷ lines) keep =
    and_from (line_asks (is_unwritten facts) line) (list_all (line_asks (is_unwritten facts)) lines) (rules_kept facts line keep.0).asks (lines_ask facts lines keep.1)

-- a field that has a first way is one of a layout that is written into
pub has_written : (ways : List FieldWay) (layout place : ℕ) (way : Way) → first_way ways layout place ≡ Some way → writes_layout ways layout ≡ true
has_written [] layout place way is = absurd (cc)
has_written (it ∷ ways) layout place way is = by_test (is_of_field layout place it) refl is (has_written ways layout place way)
  where
    behind : (b : Bool) → writes_layout ways layout ≡ true → (b || writes_layout ways layout) ≡ true
    behind true h = refl
    behind false h = h

    by_test : (here : Bool) → is_of_field layout place it ≡ here → option_map (λ (w : FieldWay). w.way) (if here then Some it else find (is_of_field layout place) ways) ≡ Some way
        → (first_way ways layout place ≡ Some way → writes_layout ways layout ≡ true) → writes_layout (it ∷ ways) layout ≡ true
    by_test true e found rest = ap (λ (b : Bool). b || writes_layout ways layout) (and_parts (it.layout == layout) (it.place == place) e).0
    by_test false e found rest = behind (it.layout == layout) (rest found)

-- each of a list of good layouts is good
pub each_good : (good : ℕ → Bool) (layouts : List ℕ) → list_all good layouts ≡ true → (layout : ℕ) → Contains layouts layout → good layout ≡ true
each_good good [] all layout has = absurd (contains_none layout has)
each_good good (first ∷ layouts) all layout has =
    let p = and_parts (good first) (list_all good layouts) all in
    elim (contains_cases layout first layouts has) [
      | inl same ↦ subst (λ (n : ℕ). good n ≡ true) same p.0
      | inr later ↦ each_good good layouts p.1 layout later
    ]

-- a layout can't be both
pub not_both : (written : Bool) → written ≡ true → not written ≡ true → ⊥
not_both true w u = both_ways false refl u
not_both false w u = both_ways false refl w
