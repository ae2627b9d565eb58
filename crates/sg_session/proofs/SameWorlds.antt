-- Worlds with the same values give the same words where nothing is asked by `active`, and iterations that write the same.
use Rattle.std.proofs.Common.{◌≡◌, ℕ, Bool, true, false, ◌&&◌, ◌==◌, if◌then◌else◌, ℤ, List, [], ◌∷◌, ◌++◌, map, fold, refl, sym, ap, ◌∙◌}
use Rattle.std.specs.List.{AllByRecursion, list_all, flat_map}
use Rattle.std.proofs.lemmas.Bool.{and_parts, and_from, both_ways}
use Rattle.sg_words.specs.declared.operators.Ty.TheVariants as ty
use Rattle.sg_words.specs.Words.{number, applied, applied_un, mulq_of, word_of}
use Rattle.sg_coord.specs.declared.coord.Coord.{Coord}
use Rattle.sg_flat.specs.declared.effects.Domain.TheVariants.{Range}
use Rattle.sg_flat.specs.declared.effects.Way.{Way}
use Rattle.sg_flat.specs.Domain.{numbers}
use Rattle.sg_flat.specs.State.{value_of}
use Rattle.sg_types.specs.declared.typed.TypedExpr.{TypedExpr}
use Rattle.sg_types.specs.declared.typed.Form.TheOpen.{TypedExpr-F, Form-F}
use Rattle.sg_types.specs.declared.typed.TypedRange.{TypedRange}
use Rattle.sg_types.specs.declared.typed.TypedStmt.{TypedStmt}
use Rattle.sg_types.specs.declared.typed.TypedKind.TheOpen.{TypedStmt-F}
use Rattle.sg_types.specs.declared.typed.TypedDomain.{TypedDomain}
use Rattle.sg_types.specs.declared.typed.TypedDomain.TheVariants as domain
use Rattle.sg_types.specs.declared.typed.TypedKernel.{TypedKernel}
use Rattle.sg_types.specs.Values.{World, Moment, coord_of, own_write, value_or_own, read_word, expr_word}
use Rattle.sg_types.specs.Iterations.{set_var, add_write, run_all, range_numbers, action_of, first_moment, before_all, writes_at, domain_of}
use Rattle.sg_types.proofs.Uses as folds
use Rattle.sg_types.proofs.Uses.{value-Literal, value-Constant, value-Var, value-Read, value-Paren, value-Un, value-Bin, value-Mulq, value-Convert}
use Rattle.sg_types.proofs.Uses.{action-Let, action-Assign, action-Write, action-If, action-For}
use Rattle.sg_types.proofs.Uses.{by_exprs, all_stmts}
use Rattle.sg_admit.specs.Lines.{Opens, Around, Line, line_of, nothing_round, within_if, within_loop, line_step, stmt_lines, block_lines, domain_ranges}
use Rattle.sg_admit.specs.Rules.{range_exprs, asks_step, has_good_asks}
use Rattle.sg_admit.specs.Neutral.{asks_nothing_in, asks_nothing}

module _ (one other : World) (same : (layout place : ℕ) (at : Coord) → value_of one.shapes one.state layout place at ≡ value_of other.shapes other.state layout place at) where
  -- an expression in which no `active` stands
  abbrev asks_none : TypedExpr → Bool
  asks_none = has_good_asks (λ layout. false)

  -- the layers of that test
  abbrev asks : Form-F Bool Bool → Bool
  asks = asks_step (λ layout. false)

  abbrev its_form : TypedExpr-F Bool Bool → Bool
  its_form expr = expr.form

  abbrev SameWord : TypedExpr → Type 0
  SameWord expr = asks_none expr ≡ true → (now : Moment) → expr_word one now expr ≡ expr_word other now expr

  -- what is asked in an expression is asked in its layer
  asked : {a b : Bool} → a ≡ b → a ≡ true → b ≡ true
  asked e h = sym e ∙ h

  parts_same : (exprs : List TypedExpr) → AllByRecursion SameWord exprs → list_all (λ part. part) (map asks_none exprs) ≡ true → (now : Moment)
      → map (expr_word one now) exprs ≡ map (expr_word other now) exprs
  parts_same [] all quiet now = refl
  parts_same (expr ∷ exprs) all quiet now =
      let each = and_parts (asks_none expr) (list_all (λ part. part) (map asks_none exprs)) quiet in
      ap (λ (word : ℕ). word ∷ map (expr_word one now) exprs) (all.0 each.0 now) ∙ ap (λ (words : List ℕ). expr_word other now expr ∷ words) (parts_same exprs all.1 each.1 now)

  read_same : (now : Moment) (layout place : ℕ) (at : Coord) → read_word one now layout place at ≡ read_word other now layout place at
  read_same now layout place at = ap (value_or_own (own_write layout place now.writes)) (same layout place at)

  pub word_same : (expr : TypedExpr) → SameWord expr
  word_same = by_exprs SameWord
      (λ ty word quiet now. value-Literal one now ty word ∙ sym (value-Literal other now ty word))
      (λ ty word quiet now. value-Constant one now ty word ∙ sym (value-Constant other now ty word))
      (λ ty var quiet now. value-Var one now ty var ∙ sym (value-Var other now ty var))
      (λ ty layout place index all quiet now.
      value-Read one now ty layout place index
      ∙ ap (λ (words : List ℕ). read_word one now layout place (coord_of words)) (parts_same index all (asked (folds.fold-Read asks its_form ty layout place index) quiet) now)
      ∙ read_same now layout place (coord_of (map (expr_word other now) index))
      ∙ sym (value-Read other now ty layout place index))
      (λ ty inner h quiet now. value-Paren one now ty inner ∙ h (asked (folds.fold-Paren asks its_form ty inner) quiet) now ∙ sym (value-Paren other now ty inner))
      (λ ty op operand h quiet now.
      value-Un one now ty op operand ∙ ap (applied_un op) (h (asked (folds.fold-Un asks its_form ty op operand) quiet) now) ∙ sym (value-Un other now ty op operand))
      (λ ty op left right h k quiet now.
      let each = and_parts (asks_none left) (asks_none right) (asked (folds.fold-Bin asks its_form ty op left right) quiet) in
      value-Bin one now ty op left right
      ∙ ap (λ (word : ℕ). applied op left.ty word (expr_word one now right)) (h each.0 now)
      ∙ ap (applied op left.ty (expr_word other now left)) (k each.1 now)
      ∙ sym (value-Bin other now ty op left right))
      (λ ty a b shift h k l quiet now.
      let each = and_parts (asks_none a) (asks_none b && asks_none shift) (asked (folds.fold-Mulq asks its_form ty a b shift) quiet) in
      let more = and_parts (asks_none b) (asks_none shift) each.1 in
      value-Mulq one now ty a b shift
      ∙ ap (λ (word : ℕ). mulq_of word (expr_word one now b) (expr_word one now shift)) (h each.0 now)
      ∙ ap (λ (word : ℕ). mulq_of (expr_word other now a) word (expr_word one now shift)) (k more.0 now)
      ∙ ap (mulq_of (expr_word other now a) (expr_word other now b)) (l more.1 now)
      ∙ sym (value-Mulq other now ty a b shift))
      (λ ty inner h quiet now. value-Convert one now ty inner ∙ h (asked (folds.fold-Convert asks its_form ty inner) quiet) now ∙ sym (value-Convert other now ty inner))
      (λ ty layout index all quiet now. absurd (both_ways false refl (asked (folds.fold-Active asks its_form ty layout index) quiet)))

  words_same : (exprs : List TypedExpr) → list_all asks_none exprs ≡ true → (now : Moment) → map (expr_word one now) exprs ≡ map (expr_word other now) exprs
  words_same [] quiet now = refl
  words_same (expr ∷ exprs) quiet now =
      let each = and_parts (asks_none expr) (list_all asks_none exprs) quiet in
      ap (λ (word : ℕ). word ∷ map (expr_word one now) exprs) (word_same expr each.0 now)
      ∙ ap (λ (words : List ℕ). expr_word other now expr ∷ words) (words_same exprs each.1 now)

  range_same : (range : TypedRange) → list_all asks_none (range_exprs range) ≡ true → (now : Moment) → range_numbers one now range ≡ range_numbers other now range
  range_same range quiet now =
      let each = and_parts (asks_none range.lo) (asks_none range.hi && true) quiet in
      let last = and_parts (asks_none range.hi) true each.1 in
      ap (λ (word : ℕ). numbers (number ty.I32 word) (number ty.I32 (expr_word one now range.hi))) (word_same range.lo each.0 now)
      ∙ ap (λ (word : ℕ). numbers (number ty.I32 (expr_word other now range.lo)) (number ty.I32 word)) (word_same range.hi last.0 now)

  -- ---- statements

  -- what holds of the lines of a statement holds of those of its layer
  lines_of : {one other : Around → List Line} → one ≡ other → (around : Around) → list_all asks_nothing_in (one around) ≡ true → list_all asks_nothing_in (other around) ≡ true
  lines_of e around h = sym (ap (λ (lines : Around → List Line). list_all asks_nothing_in (lines around)) e) ∙ h

  apart : (xs ys : List Line) → list_all asks_nothing_in (xs ++ ys) ≡ true → (list_all asks_nothing_in xs ≡ true) × (list_all asks_nothing_in ys ≡ true)
  apart [] ys h = (refl, h)
  apart (x ∷ xs) ys h =
      let each = and_parts (asks_nothing_in x) (list_all asks_nothing_in (xs ++ ys)) h in
      let more = apart xs ys each.1 in
      (and_from (asks_nothing_in x) (list_all asks_nothing_in xs) each.0 more.0, more.1)

  both : (index : List TypedExpr) (value : TypedExpr) → list_all asks_none (index ++ value ∷ []) ≡ true → (list_all asks_none index ≡ true) × (asks_none value ≡ true)
  both [] value h = (refl, (and_parts (asks_none value) true h).0)
  both (expr ∷ index) value h =
      let each = and_parts (asks_none expr) (list_all asks_none (index ++ value ∷ [])) h in
      let more = both index value each.1 in
      (and_from (asks_none expr) (list_all asks_none index) each.0 more.0, more.1)

  abbrev SameAction : TypedStmt → Type 0
  SameAction stmt = (around : Around) → list_all asks_nothing_in (stmt_lines stmt around) ≡ true → (now : Moment) → action_of one stmt now ≡ action_of other stmt now

  pub run_same : (stmts : List TypedStmt) → AllByRecursion SameAction stmts → (around : Around) → list_all asks_nothing_in (block_lines stmts around) ≡ true → (now : Moment)
      → run_all (map (action_of one) stmts) now ≡ run_all (map (action_of other) stmts) now
  run_same [] all around quiet now = refl
  run_same (stmt ∷ stmts) all around quiet now =
      let each = apart (stmt_lines stmt around) (block_lines stmts around) quiet in
      ap (run_all (map (action_of one) stmts)) (all.0 around each.0 now) ∙ run_same stmts all.1 around each.1 (action_of other stmt now)

  turns_same : (var : ℕ) (body : List TypedStmt) → AllByRecursion SameAction body → (around : Around) → list_all asks_nothing_in (block_lines body around) ≡ true → (turns : List ℤ) (now : Moment)
      → fold (λ reached turn. run_all (map (action_of one) body) (set_var var (word_of turn) reached)) now turns ≡ fold (λ reached turn. run_all (map (action_of other) body) (set_var var (word_of turn) reached)) now turns
  turns_same var body all around quiet [] now = refl
  turns_same var body all around quiet (turn ∷ turns) now =
      ap (λ (reached : Moment). fold (λ reached turn. run_all (map (action_of one) body) (set_var var (word_of turn) reached)) reached turns) (run_same body all around quiet (set_var var (word_of turn) now))
      ∙ turns_same var body all around quiet turns (run_all (map (action_of other) body) (set_var var (word_of turn) now))

  branch_same : (word : ℕ) (block otherwise : List TypedStmt) → AllByRecursion SameAction block → AllByRecursion SameAction otherwise → (around : Around)
      → list_all asks_nothing_in (block_lines block around) ≡ true → list_all asks_nothing_in (block_lines otherwise around) ≡ true → (now : Moment)
      → run_all (if word == 0 then map (action_of one) otherwise else map (action_of one) block) now ≡ run_all (if word == 0 then map (action_of other) otherwise else map (action_of other) block) now
  branch_same word block otherwise all none around quiet silent now = by_test (word == 0)
    where
      by_test : (b : Bool) → run_all (if b then map (action_of one) otherwise else map (action_of one) block) now ≡ run_all (if b then map (action_of other) otherwise else map (action_of other) block) now
      by_test true = run_same otherwise none around silent now
      by_test false = run_same block all around quiet now

  write_same : (layout place stmt : ℕ) (index : List TypedExpr) (way : Way) (value : TypedExpr) → list_all asks_none index ≡ true → asks_none value ≡ true → (now : Moment)
      → add_write (record { layout = layout; place = place; stmt = stmt; at = coord_of (map (expr_word one now) index); way = way; value = expr_word one now value }) now
      ≡ add_write (record { layout = layout; place = place; stmt = stmt; at = coord_of (map (expr_word other now) index); way = way; value = expr_word other now value }) now
  write_same layout place stmt index way value quiet silent now =
      ap (λ (words : List ℕ). add_write (record { layout = layout; place = place; stmt = stmt; at = coord_of words; way = way; value = expr_word one now value }) now) (words_same index quiet now)
      ∙ ap (λ (word : ℕ). add_write (record { layout = layout; place = place; stmt = stmt; at = coord_of (map (expr_word other now) index); way = way; value = word }) now) (word_same value silent now)

  alone : (value : TypedExpr) (more : List Line) → list_all asks_none (value ∷ []) && list_all asks_nothing_in more ≡ true → asks_none value ≡ true
  alone value more h = (and_parts (asks_none value) true (and_parts (list_all asks_none (value ∷ [])) (list_all asks_nothing_in more) h).0).0

  -- the lines of a statement are those of what it is, with its number
  abbrev lines_in : TypedStmt-F (ℕ → Around → List Line) (Around → List Line) → Around → List Line
  lines_in stmt = stmt.kind stmt.number

  actions_same : (stmts : List TypedStmt) → AllByRecursion SameAction stmts
  actions_same = all_stmts SameAction
      (λ no var value around quiet now.
      action-Let one no var value now
      ∙ ap (λ (word : ℕ). set_var var word now) (word_same value (alone value [] (lines_of (folds.fold-Let line_step lines_in no var value) around quiet)) now)
      ∙ sym (action-Let other no var value now))
      (λ no var value around quiet now.
      action-Assign one no var value now
      ∙ ap (λ (word : ℕ). set_var var word now) (word_same value (alone value [] (lines_of (folds.fold-Assign line_step lines_in no var value) around quiet)) now)
      ∙ sym (action-Assign other no var value now))
      (λ no layout place index way value around quiet now.
      let each = both index value (and_parts (list_all asks_none (index ++ value ∷ [])) true (lines_of (folds.fold-Write line_step lines_in no layout place index way value) around quiet)).0 in
      action-Write one no layout place index way value now ∙ write_same layout place no index way value each.0 each.1 now ∙ sym (action-Write other no layout place index way value now))
      (λ no condition block otherwise has_else all none around quiet now.
      let inside = within_if condition around in
      let whole = lines_of (folds.fold-If line_step lines_in no condition block otherwise has_else) around quiet in
      let each = apart (block_lines block inside) (block_lines otherwise inside) (and_parts (list_all asks_none (condition ∷ [])) (list_all asks_nothing_in (block_lines block inside ++ block_lines otherwise inside)) whole).1 in
      action-If one no condition block otherwise has_else now
      ∙ ap (λ (word : ℕ). run_all (if word == 0 then map (action_of one) otherwise else map (action_of one) block) now)
      (word_same condition (alone condition (block_lines block inside ++ block_lines otherwise inside) whole) now)
      ∙ branch_same (expr_word other now condition) block otherwise all none inside each.0 each.1 now
      ∙ sym (action-If other no condition block otherwise has_else now))
      (λ no var range body all around quiet now.
      let inside = within_loop range around in
      let each = and_parts (list_all asks_none (range_exprs range)) (list_all asks_nothing_in (block_lines body inside)) (lines_of (folds.fold-For line_step lines_in no var range body) around quiet) in
      action-For one no var range body now
      ∙ ap (λ (turns : List ℤ). fold (λ reached turn. run_all (map (action_of one) body) (set_var var (word_of turn) reached)) now turns) (range_same range each.0 now)
      ∙ turns_same var body all inside each.1 (range_numbers other now range) now
      ∙ sym (action-For other no var range body now))

  -- the lines of a kernel's loop, and of its body
  abbrev opens : TypedDomain → Line
  opens it = line_of 0 nothing_round (Opens (domain_ranges it))

  pub writes_same : (kernel : TypedKernel) (at : Coord) → asks_nothing kernel ≡ true → writes_at one kernel at ≡ writes_at other kernel at
  writes_same kernel at quiet =
      let each = and_parts (asks_nothing_in (opens kernel.domain)) (list_all asks_nothing_in (block_lines kernel.body nothing_round)) quiet in
      ap (λ (now : Moment). now.writes) (run_same kernel.body (actions_same kernel.body) nothing_round each.1 (first_moment at))

  los_same : (ranges : List TypedRange) → list_all asks_none (flat_map range_exprs ranges) ≡ true
      → map (λ range. expr_word one before_all range.lo) ranges ≡ map (λ range. expr_word other before_all range.lo) ranges
  los_same [] quiet = refl
  los_same (range ∷ ranges) quiet =
      let low = and_parts (asks_none range.lo) (asks_none range.hi && list_all asks_none (flat_map range_exprs ranges)) quiet in
      let high = and_parts (asks_none range.hi) (list_all asks_none (flat_map range_exprs ranges)) low.1 in
      ap (λ (word : ℕ). word ∷ map (λ (range : TypedRange). expr_word one before_all range.lo) ranges) (word_same range.lo low.0 before_all)
      ∙ ap (λ (words : List ℕ). expr_word other before_all range.lo ∷ words) (los_same ranges high.1)

  his_same : (ranges : List TypedRange) → list_all asks_none (flat_map range_exprs ranges) ≡ true
      → map (λ range. expr_word one before_all range.hi) ranges ≡ map (λ range. expr_word other before_all range.hi) ranges
  his_same [] quiet = refl
  his_same (range ∷ ranges) quiet =
      let low = and_parts (asks_none range.lo) (asks_none range.hi && list_all asks_none (flat_map range_exprs ranges)) quiet in
      let high = and_parts (asks_none range.hi) (list_all asks_none (flat_map range_exprs ranges)) low.1 in
      ap (λ (word : ℕ). word ∷ map (λ (range : TypedRange). expr_word one before_all range.hi) ranges) (word_same range.hi high.0 before_all)
      ∙ ap (λ (words : List ℕ). expr_word other before_all range.hi ∷ words) (his_same ranges high.1)

  pub domain_same : (it : TypedDomain) → asks_nothing_in (opens it) ≡ true → domain_of one it ≡ domain_of other it
  domain_same (domain.Walk layout) quiet = refl
  domain_same (domain.Ranges ranges) quiet =
      ap (λ (words : List ℕ). Range (coord_of words) (coord_of (map (λ (range : TypedRange). expr_word one before_all range.hi) ranges))) (los_same ranges quiet)
      ∙ ap (λ (words : List ℕ). Range (coord_of (map (λ (range : TypedRange). expr_word other before_all range.lo) ranges)) (coord_of words)) (his_same ranges quiet)
