-- Statements in which no layout is asked.
use Rattle.std.proofs.Common.{◌≡◌, ℕ, ◌+◌, ◌<◌, ◌≤◌, Bool, true, false, ◌&&◌, List, [], ◌∷◌, ◌++◌, length, drop, get_or, refl, sym, ap, ◌∙◌}
use Rattle.std.specs.List.{list_all}
use Rattle.std.proofs.lemmas.List.{drop_more, drop_all}
use Rattle.std.proofs.lemmas.List.Folds.{list_all-append}
use Rattle.sg_flat.specs.declared.effects.Way.{Way}
use Rattle.sg_types.specs.declared.typed.TypedExpr.{TypedExpr}
use Rattle.sg_types.specs.declared.typed.TypedRange.{TypedRange}
use Rattle.sg_types.specs.declared.typed.TypedKind.{TypedKind}
use Rattle.sg_types.specs.declared.typed.TypedKind.TheVariants as kind
use Rattle.sg_types.specs.declared.typed.TypedStmt.{TypedStmt}
use Rattle.sg_types.specs.declared.typed.TypedDomain.{TypedDomain}
use Rattle.sg_types.specs.declared.typed.TypedDomain.TheVariants as domain
use Rattle.sg_admit.specs.Lines.{Opens, Around, Line, line_of, nothing_round, within_if, within_loop, domain_ranges, stmt_lines, block_lines}
use Rattle.sg_admit.specs.Slices.{stmt_of}
use Rattle.sg_admit.specs.Rules.{has_good_asks}
use Rattle.sg_admit.specs.Neutral.{asks_nothing_in}
use Rattle.sg_admit.specs.steps.Reading.{is_askable_range}
use Rattle.sg_admit.proofs.Asked.{ranges_ask}
use Rattle.sg_admit.proofs.StmtWords.{lines-Let, lines-Assign, lines-Write, lines-If, lines-For}

-- no line of these asks
abbrev pub is_silent : List Line → Bool
is_silent = list_all asks_nothing_in

-- no `active` stands in an expression
abbrev pub asks_no : TypedExpr → Bool
asks_no = has_good_asks (λ layout. false)

and_true : (a : Bool) → (a && true) ≡ a
and_true true = refl
and_true false = refl

of_kind : (stmt : TypedStmt) (it : TypedKind) → stmt.kind ≡ it → (around : Around) → is_silent (stmt_lines stmt around) ≡ is_silent (stmt_lines (stmt_of stmt.number it) around)
of_kind stmt it is around = ap (λ (x : TypedKind). is_silent (stmt_lines (stmt_of stmt.number x) around)) is

pub silent-Let : (stmt : TypedStmt) (var : ℕ) (value : TypedExpr) → stmt.kind ≡ kind.Let var value → (around : Around) → asks_no value ≡ is_silent (stmt_lines stmt around)
silent-Let stmt var value is around =
    sym (of_kind stmt (kind.Let var value) is around
    ∙ (ap is_silent (lines-Let stmt.number var value around) ∙ (and_true (asks_no value && true) ∙ and_true (asks_no value))))

pub silent-Assign : (stmt : TypedStmt) (var : ℕ) (value : TypedExpr) → stmt.kind ≡ kind.Assign var value → (around : Around) → asks_no value ≡ is_silent (stmt_lines stmt around)
silent-Assign stmt var value is around =
    sym (of_kind stmt (kind.Assign var value) is around
    ∙ (ap is_silent (lines-Assign stmt.number var value around) ∙ (and_true (asks_no value && true) ∙ and_true (asks_no value))))

pub silent-Write : (stmt : TypedStmt) (layout place : ℕ) (index : List TypedExpr) (way : Way) (value : TypedExpr) → stmt.kind ≡ kind.Write layout place index way value → (around : Around)
    → (list_all asks_no index && asks_no value) ≡ is_silent (stmt_lines stmt around)
silent-Write stmt layout place index way value is around =
    sym (of_kind stmt (kind.Write layout place index way value) is around
    ∙ (ap is_silent (lines-Write stmt.number layout place index way value around)
    ∙ (and_true (list_all asks_no (index ++ value ∷ []))
    ∙ (list_all-append asks_no index (value ∷ []) ∙ ap (λ (b : Bool). list_all asks_no index && b) (and_true (asks_no value))))))

pub silent-If : (stmt : TypedStmt) (condition : TypedExpr) (block otherwise : List TypedStmt) (has_else : Bool) → stmt.kind ≡ kind.If condition block otherwise has_else → (around : Around)
    → (asks_no condition && (is_silent (block_lines block (within_if condition around)) && is_silent (block_lines otherwise (within_if condition around)))) ≡ is_silent (stmt_lines stmt around)
silent-If stmt condition block otherwise has_else is around =
    let first = block_lines block (within_if condition around) in
    let second = block_lines otherwise (within_if condition around) in
    sym (of_kind stmt (kind.If condition block otherwise has_else) is around
    ∙ (ap is_silent (lines-If stmt.number condition block otherwise has_else around)
    ∙ (ap (λ (b : Bool). b && is_silent (first ++ second)) (and_true (asks_no condition))
    ∙ ap (λ (b : Bool). asks_no condition && b) (list_all-append asks_nothing_in first second))))

pub silent-For : (stmt : TypedStmt) (var : ℕ) (range : TypedRange) (body : List TypedStmt) → stmt.kind ≡ kind.For var range body → (around : Around)
    → (is_askable_range (λ layout. false) range && is_silent (block_lines body (within_loop range around))) ≡ is_silent (stmt_lines stmt around)
silent-For stmt var range body is around =
    sym (of_kind stmt (kind.For var range body) is around
    ∙ (ap is_silent (lines-For stmt.number var range body around)
    ∙ ap (λ (b : Bool). (asks_no range.lo && b) && is_silent (block_lines body (within_loop range around))) (and_true (asks_no range.hi))))

-- ---- the same, as the code meets it

pub write_silent : (stmt : TypedStmt) (layout place : ℕ) (index given : List TypedExpr) (way : Way) (value : TypedExpr) → stmt.kind ≡ kind.Write layout place index way value → given ≡ index → (around : Around)
    → (first second : Bool) → first ≡ list_all asks_no given → second ≡ asks_no value → (first && second) ≡ is_silent (stmt_lines stmt around)
write_silent stmt layout place index given way value is same around first second f s =
    ap (λ (b : Bool). b && second) (f ∙ ap (list_all asks_no) same)
    ∙ (ap (λ (b : Bool). list_all asks_no index && b) s ∙ silent-Write stmt layout place index way value is around)

pub if_silent : (stmt : TypedStmt) (condition : TypedExpr) (block otherwise : List TypedStmt) (has_else : Bool) → stmt.kind ≡ kind.If condition block otherwise has_else → (around : Around)
    → (here first second : Bool) → here ≡ asks_no condition → first ≡ is_silent (block_lines block (within_if condition around)) → second ≡ is_silent (block_lines otherwise (within_if condition around))
    → (here && (first && second)) ≡ is_silent (stmt_lines stmt around)
if_silent stmt condition block otherwise has_else is around here first second h f s =
    ap (λ (b : Bool). b && (first && second)) h
    ∙ (ap (λ (b : Bool). asks_no condition && (b && second)) f
    ∙ (ap (λ (b : Bool). asks_no condition && (is_silent (block_lines block (within_if condition around)) && b)) s
    ∙ silent-If stmt condition block otherwise has_else is around))

pub for_silent : (stmt : TypedStmt) (var : ℕ) (range : TypedRange) (body : List TypedStmt) → stmt.kind ≡ kind.For var range body → (around : Around)
    → (here inside : Bool) → here ≡ is_askable_range (λ layout. false) range → inside ≡ is_silent (block_lines body (within_loop range around)) → (here && inside) ≡ is_silent (stmt_lines stmt around)
for_silent stmt var range body is around here inside h i =
    ap (λ (b : Bool). b && inside) h
    ∙ (ap (λ (b : Bool). is_askable_range (λ layout. false) range && b) i ∙ silent-For stmt var range body is around)

silent_append : (block : List TypedStmt) (i : ℕ) (around : Around) (stmt : TypedStmt)
    → is_silent (block_lines (stmt ∷ drop (i + 1) block) around) ≡ (is_silent (stmt_lines stmt around) && is_silent (block_lines (drop (i + 1) block) around))
silent_append block i around stmt = list_all-append asks_nothing_in (stmt_lines stmt around) (block_lines (drop (i + 1) block) around)

-- the statement of a block that comes next
pub silent_more : (block : List TypedStmt) (i : ℕ) (stmt : TypedStmt) → i < length block → stmt ≡ get_or block i stmt → (around : Around) (here : Bool)
    → here ≡ is_silent (stmt_lines stmt around) → is_silent (block_lines (drop i block) around) ≡ (here && is_silent (block_lines (drop (i + 1) block) around))
silent_more block i stmt l is around here h =
    ap (λ (stmts : List TypedStmt). is_silent (block_lines stmts around)) (drop_more block i stmt l)
    ∙ (silent_append block i around (get_or block i stmt)
    ∙ ap (λ (b : Bool). b && is_silent (block_lines (drop (i + 1) block) around)) (ap (λ (s : TypedStmt). is_silent (stmt_lines s around)) (sym is) ∙ sym h))

pub silent_end : (block : List TypedStmt) (i : ℕ) → length block ≤ i → (around : Around) → true ≡ is_silent (block_lines (drop i block) around)
silent_end block i l around = sym (ap (λ (stmts : List TypedStmt). is_silent (block_lines stmts around)) (drop_all i block l))

-- the kernel's loop, by its ranges
pub ranges_silent : (given : TypedDomain) (ranges slice : List TypedRange) → given ≡ domain.Ranges ranges → slice ≡ ranges → (found : Bool) → found ≡ list_all (is_askable_range (λ layout. false)) slice
    → found ≡ asks_nothing_in (line_of 0 nothing_round (Opens (domain_ranges given)))
ranges_silent given ranges slice is e found h =
    h ∙ (ap (list_all (is_askable_range (λ layout. false))) e
    ∙ (sym (ranges_ask (λ layout. false) ranges) ∙ ap (λ (it : TypedDomain). asks_nothing_in (line_of 0 nothing_round (Opens (domain_ranges it)))) (sym is)))
