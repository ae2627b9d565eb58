-- What an iteration writes stands in the text of its kernel.
use Rattle.std.proofs.Common.{◌≡◌, ℕ, zero, suc, ◌≤◌, max, Bool, true, false, ◌&&◌, ◌||◌, ◌==◌, if◌then◌else◌, ℤ, List, [], ◌∷◌, ◌++◌, map, fold, length, refl, sym, ap, ◌∙◌, arith}
use Rattle.std.specs.List.{list_all, list_any, AllByRecursion}
use Rattle.std.proofs.Math.Nat.{le-max_left, le-max_right}
use Rattle.std.proofs.Math.ListN.{length-map}
use Rattle.std.proofs.lemmas.Bool.{and_from, eq-eqb}
use Rattle.std.proofs.lemmas.List.Folds.{list_all-append}
use Rattle.sg_words.specs.declared.operators.AccOp.{AccOp}
use Rattle.sg_words.specs.declared.operators.AccOp.TheVariants as acc
use Rattle.sg_words.specs.Words.{word_of}
use Rattle.sg_ast.specs.Expr.{largest}
use Rattle.sg_flat.specs.declared.effects.Way.{Way}
use Rattle.sg_flat.specs.declared.effects.Way.TheVariants.{Own, Acc}
use Rattle.sg_flat.specs.declared.effects.Write.{Write}
use Rattle.sg_types.specs.declared.typed.TypedExpr.{TypedExpr}
use Rattle.sg_types.specs.declared.typed.TypedRange.{TypedRange}
use Rattle.sg_types.specs.declared.typed.TypedKind.{TypedKind, fold-TypedKind, fold-roll-TypedKind, out-TypedKind, roll-TypedKind, roll-out-TypedKind}
use Rattle.sg_types.specs.declared.typed.TypedKind.TheVariants as kind
use Rattle.sg_types.specs.declared.typed.TypedKind.TheVariants.{rolls-Let, rolls-Assign, rolls-Write, rolls-If, rolls-For}
use Rattle.sg_types.specs.declared.typed.TypedKind.TheOpen as k
use Rattle.sg_types.specs.declared.typed.TypedKind.TheOpen.{TypedKind-F, TypedStmt-F}
use Rattle.sg_types.specs.declared.typed.TypedStmt.{TypedStmt, fold-TypedStmt}
use Rattle.sg_types.specs.Values.{World, Moment, coord_of, expr_word}
use Rattle.sg_types.specs.Iterations.{StmtAction, set_var, run_all, range_numbers, action_of, first_moment}
use Rattle.sg_ast.specs.Stmt.{joined_lists}
use Rattle.sg_types.specs.Written.{TextWrite, writes_step, text_writes, kernel_writes, same_acc, same_way, is_write_of, is_written}
use Rattle.sg_types.specs.Laws.{EffectsAreWritten}
use Rattle.sg_types.proofs.FoldWords.{fold-stmt}
use Rattle.sg_types.proofs.FormWords.{action-Let, action-Assign, action-Write, action-If, action-For}

-- ---- induction over typed statements

abbrev depth_step : TypedKind-F ℕ ℕ → ℕ
depth_step (k.Let var value) = 0
depth_step (k.Assign var value) = 0
depth_step (k.Write layout place index way value) = 0
depth_step (k.If condition block otherwise has_else) = suc (max (largest block) (largest otherwise))
depth_step (k.For var range body) = suc (largest body)

abbrev shown_depth : TypedStmt-F ℕ ℕ → ℕ
shown_depth stmt = stmt.kind

abbrev kind_depth : TypedKind → ℕ
kind_depth = fold-TypedKind ℕ ℕ depth_step shown_depth

abbrev stmt_depth : TypedStmt → ℕ
stmt_depth = fold-TypedStmt ℕ ℕ depth_step shown_depth

depth-kind : (stmt : TypedStmt) → stmt_depth stmt ≡ kind_depth stmt.kind
depth-kind stmt = fold-stmt ℕ ℕ depth_step shown_depth stmt

depth-If : (condition : TypedExpr) (block otherwise : List TypedStmt) (has_else : Bool) → kind_depth (kind.If condition block otherwise has_else) ≡ suc (max (largest (map stmt_depth block)) (largest (map stmt_depth otherwise)))
depth-If condition block otherwise has_else = ap kind_depth (sym (rolls-If condition block otherwise has_else)) ∙ fold-roll-TypedKind ℕ ℕ depth_step shown_depth (k.If condition block otherwise has_else)

depth-For : (var : ℕ) (range : TypedRange) (body : List TypedStmt) → kind_depth (kind.For var range body) ≡ suc (largest (map stmt_depth body))
depth-For var range body = ap kind_depth (sym (rolls-For var range body)) ∙ fold-roll-TypedKind ℕ ℕ depth_step shown_depth (k.For var range body)

module _ (P : TypedKind → Type 0)
    (on_let : (var : ℕ) (value : TypedExpr) → P (kind.Let var value))
    (on_assign : (var : ℕ) (value : TypedExpr) → P (kind.Assign var value))
    (on_write : (layout place : ℕ) (index : List TypedExpr) (way : Way) (value : TypedExpr) → P (kind.Write layout place index way value))
    (on_if : (condition : TypedExpr) (block otherwise : List TypedStmt) (has_else : Bool) → P (kind.If condition block otherwise has_else))
    (on_for : (var : ℕ) (range : TypedRange) (body : List TypedStmt) → P (kind.For var range body)) where
  by_layer : (layer : TypedKind-F TypedKind TypedStmt) → P (roll-TypedKind layer)
  by_layer (k.Let var value) = rw (rolls-Let var value) (on_let var value)
  by_layer (k.Assign var value) = rw (rolls-Assign var value) (on_assign var value)
  by_layer (k.Write layout place index way value) = rw (rolls-Write layout place index way value) (on_write layout place index way value)
  by_layer (k.If condition block otherwise has_else) = rw (rolls-If condition block otherwise has_else) (on_if condition block otherwise has_else)
  by_layer (k.For var range body) = rw (rolls-For var range body) (on_for var range body)

  by_kind : (it : TypedKind) → P it
  by_kind it = rw (← roll-out-TypedKind it) (by_layer (out-TypedKind it))

-- ---- the writes in the text

abbrev shown_text : TypedStmt-F (ℕ → List TextWrite) (List TextWrite) → List TextWrite
shown_text stmt = stmt.kind stmt.number

module _ (number : ℕ) where
  abbrev text_of : TypedKind → List TextWrite
  text_of it = fold-TypedKind (ℕ → List TextWrite) (List TextWrite) writes_step shown_text it number

  text_of_kind : (it : TypedKind) → text_writes (record { number = number; kind = it }) ≡ text_of it
  text_of_kind it = fold-stmt (ℕ → List TextWrite) (List TextWrite) writes_step shown_text (record { number = number; kind = it })

  text-Write : (layout place : ℕ) (index : List TypedExpr) (way : Way) (value : TypedExpr) → text_writes (record { number = number; kind = kind.Write layout place index way value })
      ≡ record { stmt = number; layout = layout; place = place; indices = length index; way = way } ∷ []
  text-Write layout place index way value = text_of_kind (kind.Write layout place index way value) ∙ (ap text_of (sym (rolls-Write layout place index way value))
      ∙ ap (λ (it : ℕ → List TextWrite). it number) (fold-roll-TypedKind (ℕ → List TextWrite) (List TextWrite) writes_step shown_text (k.Write layout place index way value)))

  text-If : (condition : TypedExpr) (block otherwise : List TypedStmt) (has_else : Bool) → text_writes (record { number = number; kind = kind.If condition block otherwise has_else })
      ≡ joined_lists (map text_writes block) ++ joined_lists (map text_writes otherwise)
  text-If condition block otherwise has_else = text_of_kind (kind.If condition block otherwise has_else) ∙ (ap text_of (sym (rolls-If condition block otherwise has_else))
      ∙ ap (λ (it : ℕ → List TextWrite). it number) (fold-roll-TypedKind (ℕ → List TextWrite) (List TextWrite) writes_step shown_text (k.If condition block otherwise has_else)))

  text-For : (var : ℕ) (range : TypedRange) (body : List TypedStmt) → text_writes (record { number = number; kind = kind.For var range body }) ≡ joined_lists (map text_writes body)
  text-For var range body = text_of_kind (kind.For var range body) ∙ (ap text_of (sym (rolls-For var range body))
      ∙ ap (λ (it : ℕ → List TextWrite). it number) (fold-roll-TypedKind (ℕ → List TextWrite) (List TextWrite) writes_step shown_text (k.For var range body)))

-- ---- what is written stands in the text

same_number : (n : ℕ) → (n == n) ≡ true
same_number n = eq-eqb n n refl

same_acc-same : (op : AccOp) → same_acc op op ≡ true
same_acc-same acc.Add = refl
same_acc-same acc.Min = refl
same_acc-same acc.Max = refl
same_acc-same acc.Or = refl
same_acc-same acc.And = refl
same_acc-same acc.Xor = refl

same_way-same : (way : Way) → same_way way way ≡ true
same_way-same Own = refl
same_way-same (Acc op) = same_acc-same op

same_acc_is : (x y : AccOp) → same_acc x y ≡ true → x ≡ y
same_acc_is acc.Add acc.Add h = refl
same_acc_is acc.Min acc.Min h = refl
same_acc_is acc.Max acc.Max h = refl
same_acc_is acc.Or acc.Or h = refl
same_acc_is acc.And acc.And h = refl
same_acc_is acc.Xor acc.Xor h = refl
same_acc_is _ _ h = absurd (cc)

-- ways that are counted as one are the same
pub same_way_is : (x y : Way) → same_way x y ≡ true → x ≡ y
same_way_is Own Own h = refl
same_way_is Own (Acc y) h = absurd (cc)
same_way_is (Acc x) Own h = absurd (cc)
same_way_is (Acc x) (Acc y) h = ap Acc (same_acc_is x y h)

list_any-append : (test : TextWrite → Bool) (xs ys : List TextWrite) → list_any test (xs ++ ys) ≡ (list_any test xs || list_any test ys)
list_any-append test [] ys = refl
list_any-append test (x ∷ xs) ys = ap (λ b. test x || b) (list_any-append test xs ys) ∙ go (test x)
  where
    go : (b : Bool) → (b || (list_any test xs || list_any test ys)) ≡ ((b || list_any test xs) || list_any test ys)
    go true = refl
    go false = refl

or_right : (x y : Bool) → y ≡ true → (x || y) ≡ true
or_right true y h = refl
or_right false y h = h

or_left : (x y : Bool) → x ≡ true → (x || y) ≡ true
or_left true y h = refl
or_left false y h = let clash : false ≡ true = h in absurd (cc)

-- texts among others
abbrev Among : List TextWrite → List TextWrite → Type 0
Among some texts = (write : Write) → is_written some write ≡ true → is_written texts write ≡ true

among_front : (xs ys texts : List TextWrite) → Among (xs ++ ys) texts → Among xs texts
among_front xs ys texts h write w = h write (list_any-append (is_write_of write) xs ys ∙ or_left (is_written xs write) (is_written ys write) w)

among_back : (xs ys texts : List TextWrite) → Among (xs ++ ys) texts → Among ys texts
among_back xs ys texts h write w = h write (list_any-append (is_write_of write) xs ys ∙ or_right (is_written xs write) (is_written ys write) w)

module _ (world : World) (texts : List TextWrite) where
  abbrev Stands : Moment → Type 0
  Stands now = list_all (is_written texts) now.writes ≡ true

  abbrev Keeps : StmtAction → Type 0
  Keeps action = (now : Moment) → Stands now → Stands (action now)

  all_keep : (actions : List StmtAction) → AllByRecursion Keeps actions → Keeps (run_all actions)
  all_keep [] all now h = h
  all_keep (action ∷ actions) all now h = all_keep actions all.1 (action now) (all.0 now h)

  turns_keep : (var : ℕ) (actions : List StmtAction) → AllByRecursion Keeps actions → (turns : List ℤ) → Keeps (λ now. fold (λ reached turn. run_all actions (set_var var (word_of turn) reached)) now turns)
  turns_keep var actions all [] now h = h
  turns_keep var actions all (turn ∷ turns) now h =
      turns_keep var actions all turns (run_all actions (set_var var (word_of turn) now)) (all_keep actions all (set_var var (word_of turn) now) h)

  abbrev KeepsWithin : TypedStmt → Type 0
  KeepsWithin stmt = Among (text_writes stmt) texts → Keeps (action_of world stmt)

  keeps_block : (block : List TypedStmt) → AllByRecursion KeepsWithin block → Among (joined_lists (map text_writes block)) texts → AllByRecursion Keeps (map (action_of world) block)
  keeps_block [] all among = tt
  keeps_block (stmt ∷ block) all among = (
    all.0 (among_front (text_writes stmt) (joined_lists (map text_writes block)) texts among),
    keeps_block block all.1 (among_back (text_writes stmt) (joined_lists (map text_writes block)) texts among),
  )

  keeps_write : (number layout place : ℕ) (index : List TypedExpr) (way : Way) (value : TypedExpr) → KeepsWithin (record { number = number; kind = kind.Write layout place index way value })
  keeps_write number layout place index way value among now h =
      let text : TextWrite = record { stmt = number; layout = layout; place = place; indices = length index; way = way } in
      let write : Write = record { layout = layout; place = place; stmt = number; at = coord_of (map (expr_word world now) index); way = way; value = expr_word world now value } in
      let count : (length (map (expr_word world now) index) == length index) ≡ true = ap (λ (n : ℕ). n == length index) (length-map index (expr_word world now)) ∙ same_number (length index) in
      let is : is_write_of write text ≡ true = and_from ((number == number) && ((layout == layout) && (place == place))) ((length (map (expr_word world now) index) == length index) && same_way way way)
      (and_from (number == number) ((layout == layout) && (place == place)) (same_number number) (and_from (layout == layout) (place == place) (same_number layout) (same_number place)))
      (and_from (length (map (expr_word world now) index) == length index) (same_way way way) count (same_way-same way)) in
      let stands : is_written texts write ≡ true = among write (ap (λ (xs : List TextWrite). is_written xs write) (text-Write number layout place index way value) ∙ or_left (is_write_of write text) false is) in
      ap (λ (m : Moment). list_all (is_written texts) m.writes) (action-Write world number layout place index way value now)
      ∙ (list_all-append (is_written texts) now.writes (write ∷ []) ∙ and_from (list_all (is_written texts) now.writes) (is_written texts write && true) h (and_from (is_written texts write) true stands refl))

  module _ (d : ℕ) (below : (stmt : TypedStmt) → suc (stmt_depth stmt) ≤ d → KeepsWithin stmt) where
    parts : (block : List TypedStmt) → suc (largest (map stmt_depth block)) ≤ d → AllByRecursion KeepsWithin block
    parts [] h = tt
    parts (stmt ∷ block) h = (
      below stmt (omega (arith, le-max_left (stmt_depth stmt) (largest (map stmt_depth block)))),
      parts block (omega (arith, le-max_right (stmt_depth stmt) (largest (map stmt_depth block)))),
    )

    at_depth : (number : ℕ) (it : TypedKind) → kind_depth it ≤ d → KeepsWithin (record { number = number; kind = it })
    at_depth number = by_kind (λ it. kind_depth it ≤ d → KeepsWithin (record { number = number; kind = it }))
        (λ var value h among now stands. ap (λ (m : Moment). list_all (is_written texts) m.writes) (action-Let world number var value now) ∙ stands)
        (λ var value h among now stands. ap (λ (m : Moment). list_all (is_written texts) m.writes) (action-Assign world number var value now) ∙ stands)
        (λ layout place index way value h. keeps_write number layout place index way value)
        (λ condition block otherwise has_else h among now stands.
        let within : Among (joined_lists (map text_writes block) ++ joined_lists (map text_writes otherwise)) texts =
        λ write w. among write (ap (λ (xs : List TextWrite). is_written xs write) (text-If number condition block otherwise has_else) ∙ w) in
        let b = keeps_block block (parts block (omega (arith, depth-If condition block otherwise has_else, le-max_left (largest (map stmt_depth block)) (largest (map stmt_depth otherwise)))))
        (among_front (joined_lists (map text_writes block)) (joined_lists (map text_writes otherwise)) texts within) in
        let o = keeps_block otherwise (parts otherwise (omega (arith, depth-If condition block otherwise has_else, le-max_right (largest (map stmt_depth block)) (largest (map stmt_depth otherwise)))))
        (among_back (joined_lists (map text_writes block)) (joined_lists (map text_writes otherwise)) texts within) in
        ap (λ (m : Moment). list_all (is_written texts) m.writes) (action-If world number condition block otherwise has_else now)
        ∙ either (expr_word world now condition == 0) (map (action_of world) block) (map (action_of world) otherwise) b o now stands)
        (λ var range body h among now stands.
        let within : Among (joined_lists (map text_writes body)) texts =
        λ write w. among write (ap (λ (xs : List TextWrite). is_written xs write) (text-For number var range body) ∙ w) in
        let b = keeps_block body (parts body (omega (arith, depth-For var range body))) within in
        ap (λ (m : Moment). list_all (is_written texts) m.writes) (action-For world number var range body now)
        ∙ turns_keep var (map (action_of world) body) b (range_numbers world now range) now stands)
      where
        either : (no : Bool) (block otherwise : List StmtAction) → AllByRecursion Keeps block → AllByRecursion Keeps otherwise → Keeps (run_all (if no then otherwise else block))
        either true block otherwise b o = all_keep otherwise o
        either false block otherwise b o = all_keep block b

  below_depth : (d : ℕ) (stmt : TypedStmt) → suc (stmt_depth stmt) ≤ d → KeepsWithin stmt
  below_depth zero stmt h = absurd (omega arith)
  below_depth (suc d) stmt h = at_depth d (below_depth d) stmt.number stmt.kind (omega (arith, depth-kind stmt))

  keeps : (stmt : TypedStmt) → KeepsWithin stmt
  keeps stmt = below_depth (suc (stmt_depth stmt)) stmt (omega arith)

  keeps_all : (block : List TypedStmt) → AllByRecursion KeepsWithin block
  keeps_all [] = tt
  keeps_all (stmt ∷ block) = (keeps stmt, keeps_all block)

pub effects_are_written : EffectsAreWritten
effects_are_written world kernel at =
    all_keep world (kernel_writes kernel) (map (action_of world) kernel.body)
    (keeps_block world (kernel_writes kernel) kernel.body (keeps_all world (kernel_writes kernel) kernel.body) (λ write w. w)) (first_moment at) refl
