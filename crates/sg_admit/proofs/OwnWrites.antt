-- The own writes of an admitted kernel stand at their iteration's coordinate.
use Rattle.std.proofs.Common.{◌≡◌, ℕ, zero, suc, ◌+◌, ◌<◌, ◌≤◌, Bool, true, false, not, ◌&&◌, ◌||◌, ◌==◌, if◌then◌else◌, ℤ, List, [], ◌∷◌, ◌++◌, map, fold, length, get_or, drop, Option, None, refl, sym, ap, subst, ◌∙◌, ⊎_elim, arith}
use Rattle.std.specs.List.{range_with_len, AllByRecursion}
use Rattle.std.proofs.lemmas.Bool.{and_parts, or_cases, both_ways, eqb-true, ne_eqb, not-true}
use Rattle.std.proofs.lemmas.List.{drop_more, drop_all}
use Rattle.sg_words.specs.declared.operators.Ty.{Ty}
use Rattle.sg_words.specs.Words.{word_of}
use Rattle.sg_coord.specs.declared.coord.Coord.{Coord}
use Rattle.sg_layout.specs.declared.shape.Shape.{Shape}
use Rattle.sg_flat.specs.declared.effects.Way.{Way}
use Rattle.sg_flat.specs.declared.effects.Write.{Write}
use Rattle.sg_types.specs.declared.typed.TypedExpr.{TypedExpr}
use Rattle.sg_types.specs.declared.typed.Form.TheOpen.{TypedExpr-F}
use Rattle.sg_types.specs.declared.typed.TypedRange.{TypedRange}
use Rattle.sg_types.specs.declared.typed.TypedKind.TheVariants as kind
use Rattle.sg_types.specs.declared.typed.TypedKind.TheOpen.{TypedStmt-F}
use Rattle.sg_types.specs.declared.typed.TypedStmt.{TypedStmt}
use Rattle.sg_types.specs.Values.{World, Moment, is_own, coord_of, expr_word}
use Rattle.sg_types.specs.Iterations.{StmtAction, set_var, run_all, range_numbers, action_of, part_words}
use Rattle.sg_types.specs.WellTyped.{Visible, is_local, Fitting, all_fit, kind_fits, fitting, loop_scope}
use Rattle.sg_types.specs.Numbers.{var_step, stmt_vars, block_vars}
use Rattle.sg_types.proofs.Uses.{value-Var, action-Let, action-Assign, action-Write, action-If, action-For}
use Rattle.sg_admit.specs.Lines.{Around, Line, nothing_round, within_if, within_loop, stmt_lines, block_lines, kernel_lines}
use Rattle.sg_admit.specs.Slices.{stmt_of}
use Rattle.sg_admit.specs.Rules.{Facts, facts_of, name_step, name_of, is_name_of, are_names, is_own_in_place}
use Rattle.sg_admit.specs.Laws.{KeepsAll, OwnWritesStand}
use Rattle.sg_types.proofs.Uses as folds
use Rattle.sg_types.proofs.Uses.{by_exprs, by_stmts}
use Rattle.sg_admit.proofs.StmtWords.{lines-Write, lines-If, lines-For}
use Rattle.sg_admit.proofs.Follow.{all_front, all_back}
use Rattle.sg_admit.proofs.FirstFaults.{admitted_is}
use Rattle.sg_admit.proofs.Wants.{all_mapped, rules_kept}

-- ---- bare names

abbrev its_name : TypedExpr-F (Option ℕ) (Option ℕ) → Option ℕ
its_name expr = expr.form

module _ (world : World) (now : Moment) (var : ℕ) where
  abbrev NamedHere : TypedExpr → Type 0
  NamedHere expr = is_name_of var (name_of expr) ≡ true → expr_word world now expr ≡ now.words var

  other : (expr : TypedExpr) → name_of expr ≡ None → NamedHere expr
  other expr is h = absurd (both_ways false refl (ap (is_name_of var) (sym is) ∙ h))

  pub name_word : (expr : TypedExpr) → NamedHere expr
  name_word = by_exprs NamedHere
      (λ ty word. other _ (folds.fold-Literal name_step its_name ty word))
      (λ ty word. other _ (folds.fold-Constant name_step its_name ty word))
      (λ ty name h. value-Var world now ty name ∙ ap now.words (eqb-true name var (ap (is_name_of var) (sym (folds.fold-Var name_step its_name ty name)) ∙ h)))
      (λ ty layout place index all. other _ (folds.fold-Read name_step its_name ty layout place index))
      (λ ty inner h. other _ (folds.fold-Paren name_step its_name ty inner))
      (λ ty op operand h. other _ (folds.fold-Un name_step its_name ty op operand))
      (λ ty op left right h k. other _ (folds.fold-Bin name_step its_name ty op left right))
      (λ ty a b shift h k l. other _ (folds.fold-Mulq name_step its_name ty a b shift))
      (λ ty inner h. other _ (folds.fold-Convert name_step its_name ty inner))
      (λ ty layout index all. other _ (folds.fold-Active name_step its_name ty layout index))

names_reach : (vars var : ℕ) (names : List (Option ℕ)) → are_names vars var names ≡ true → var ≤ vars
names_reach vars var [] h = let e = eqb-true var vars h in omega (arith, e)
names_reach vars var (name ∷ names) h = let l = names_reach vars (var + 1) names (and_parts (is_name_of var name) (are_names vars (var + 1) names) h).1 in omega (arith, l)

-- ---- numbers past those of the loop

range_past : (a n : ℕ) → AllByRecursion (λ v. a ≤ v) (range_with_len a n)
range_past a zero = tt
range_past a (suc n) = (omega arith, all_mapped (λ v. a + 1 ≤ v) (λ v. a ≤ v) (λ v h. omega (arith, h)) (range_with_len (a + 1) n) (range_past (a + 1) n))

tail_of : List ℕ → List ℕ
tail_of [] = []
tail_of (x ∷ xs) = xs

rest_past : (a n m : ℕ) (rest : List ℕ) → range_with_len a n ++ rest ≡ range_with_len a m → AllByRecursion (λ v. a + n ≤ v) rest
rest_past a zero m rest h =
    subst (AllByRecursion (λ v. a + 0 ≤ v)) (sym h) (all_mapped (λ v. a ≤ v) (λ v. a + 0 ≤ v) (λ v l. omega (arith, l)) (range_with_len a m) (range_past a m))
rest_past a (suc n) zero rest h = absurd (cc)
rest_past a (suc n) (suc m) rest h =
    all_mapped (λ v. (a + 1) + n ≤ v) (λ v. a + suc n ≤ v) (λ v l. omega (arith, l)) rest (rest_past (a + 1) n m rest (tails h))
  where
    tails : a ∷ (range_with_len (a + 1) n ++ rest) ≡ a ∷ range_with_len (a + 1) m → range_with_len (a + 1) n ++ rest ≡ range_with_len (a + 1) m
    tails h = cc

-- ---- statements

abbrev its_fit : TypedStmt-F Fitting Fitting → Fitting
its_fit stmt = stmt.kind

abbrev its_vars : TypedStmt-F (List ℕ) (List ℕ) → List ℕ
its_vars stmt = stmt.kind

module _ (world : World) (shapes : List Shape) (types : List Ty) (facts : Facts) (words : List ℕ) (at : Coord) (long : length words ≡ facts.vars) (stands : coord_of words ≡ at) where
  abbrev vars : ℕ
  vars = facts.vars

  -- the loop's variables have their words, and own writes stand
  pub record Good (now : Moment) : Type 0 where
    pub here : (var : ℕ) → var < vars → now.words var ≡ get_or words var 0
    pub own : AllByRecursion (λ write. is_own write.way ≡ true → write.at ≡ at) now.writes

  abbrev Keeps : StmtAction → Type 0
  Keeps action = (now : Moment) → Good now → Good (action now)

  -- no local in scope is a variable of the loop
  abbrev LocalsPast : List Visible → Type 0
  LocalsPast = AllByRecursion (λ seen. seen.is_loop ≡ false → vars ≤ seen.var)

  abbrev IsOwnLine : Line → Type 0
  IsOwnLine line = is_own_in_place facts line.deed ≡ true

  local_past : (scope : List Visible) (var : ℕ) → LocalsPast scope → is_local scope var ≡ true → vars ≤ var
  local_past [] var past h = absurd (both_ways false refl h)
  local_past (seen ∷ scope) var past h =
      ⊎_elim
      (λ e.
      let p = and_parts (seen.var == var) (not seen.is_loop) e in
      let same = eqb-true seen.var var p.0 in
      let l : vars ≤ seen.var = past.0 (not-true seen.is_loop p.1) in
      omega (arith, same, l))
      (local_past scope var past.1) (or_cases ((seen.var == var) && not seen.is_loop) (is_local scope var) h)

  set_keeps : (var word : ℕ) → vars ≤ var → Keeps (set_var var word)
  set_keeps var word past now good = record {
    here = λ v below. ap (λ (same : Bool). if same then word else now.words v) (ne_eqb v var (λ e. absurd (omega (arith, e)))) ∙ good.here v below;
    own = good.own;
  }

  named_words : (now : Moment) → Good now → (var : ℕ) (index : List TypedExpr) → are_names vars var (map name_of index) ≡ true → map (expr_word world now) index ≡ drop var words
  named_words now good var [] h = sym (drop_all var words (let e = eqb-true var vars h in omega (arith, e, long)))
  named_words now good var (expr ∷ index) h =
      let p = and_parts (is_name_of var (name_of expr)) (are_names vars (var + 1) (map name_of index)) h in
      let reach = names_reach vars (var + 1) (map name_of index) p.1 in
      let below : var < vars = omega (arith, reach) in
      let within : var < length words = omega (arith, below, long) in
      ap (λ (word : ℕ). word ∷ map (expr_word world now) index) (name_word world now var expr p.0 ∙ good.here var below)
      ∙ (ap (λ (more : List ℕ). get_or words var 0 ∷ more) (named_words now good (var + 1) index p.1) ∙ sym (drop_more words var 0 within))

  all_more : (writes : List Write) (write : Write) → AllByRecursion (λ write. is_own write.way ≡ true → write.at ≡ at) writes → (is_own write.way ≡ true → write.at ≡ at)
      → AllByRecursion (λ write. is_own write.way ≡ true → write.at ≡ at) (writes ++ write ∷ [])
  all_more [] write all h = (h, tt)
  all_more (it ∷ writes) write all h = (all.0, all_more writes write all.1 h)

  record Stood (stmt : TypedStmt) (scope : List Visible) : Type 0 where
    keeps : Keeps (action_of world stmt)
    past : LocalsPast (fitting shapes types stmt scope).1

  abbrev Stands : TypedStmt → Type 0
  Stands stmt = (around : Around) → AllByRecursion IsOwnLine (stmt_lines stmt around) → (scope : List Visible) → LocalsPast scope
      → (fitting shapes types stmt scope).0 ≡ true → AllByRecursion (λ v. vars ≤ v) (stmt_vars stmt) → Stood stmt scope

  abbrev BlockStands : List TypedStmt → Type 0
  BlockStands block = (around : Around) → AllByRecursion IsOwnLine (block_lines block around) → (scope : List Visible) → LocalsPast scope
      → (all_fit (map (fitting shapes types) block) scope).0 ≡ true → AllByRecursion (λ v. vars ≤ v) (block_vars block) → Keeps (run_all (map (action_of world) block))

  block_stands : (block : List TypedStmt) → AllByRecursion Stands block → BlockStands block
  block_stands [] all around lines scope past fits numbers now good = good
  block_stands (stmt ∷ block) all around lines scope past fits numbers now good =
      let p = and_parts (fitting shapes types stmt scope).0 (all_fit (map (fitting shapes types) block) (fitting shapes types stmt scope).1).0 fits in
      let one = all.0 around (all_front IsOwnLine (stmt_lines stmt around) (block_lines block around) lines) scope past p.0 (all_front (λ v. vars ≤ v) (stmt_vars stmt) (block_vars block) numbers) in
      block_stands block all.1 around (all_back IsOwnLine (stmt_lines stmt around) (block_lines block around) lines) (fitting shapes types stmt scope).1 one.past p.1
      (all_back (λ v. vars ≤ v) (stmt_vars stmt) (block_vars block) numbers) (action_of world stmt now) (one.keeps now good)

  abbrev Judged : Type 0
  Judged = Bool × List Visible

  lets : (number var : ℕ) (value : TypedExpr) → Stands (stmt_of number (kind.Let var value))
  lets number var value around lines scope past fits numbers =
      let v : vars ≤ var = (subst (AllByRecursion (λ v. vars ≤ v)) (folds.fold-Let var_step its_vars number var value) numbers).0 in
      record {
        keeps = λ now good. rw (action-Let world number var value now) (set_keeps var (expr_word world now value) v now good);
        past = subst LocalsPast (sym (ap (λ (fit : Fitting). (fit scope).1) (folds.fold-Let (kind_fits shapes types) its_fit number var value))) (λ e. v, past);
      }

  assigns : (number var : ℕ) (value : TypedExpr) → Stands (stmt_of number (kind.Assign var value))
  assigns number var value around lines scope past fits numbers =
      let f = sym (ap (λ (fit : Fitting). (fit scope).0) (folds.fold-Assign (kind_fits shapes types) its_fit number var value)) ∙ fits in
      let v : vars ≤ var = local_past scope var past (and_parts (is_local scope var) _ f).0 in
      record {
        keeps = λ now good. rw (action-Assign world number var value now) (set_keeps var (expr_word world now value) v now good);
        past = subst LocalsPast (sym (ap (λ (fit : Fitting). (fit scope).1) (folds.fold-Assign (kind_fits shapes types) its_fit number var value))) past;
      }

  writes : (number layout place : ℕ) (index : List TypedExpr) (way : Way) (value : TypedExpr) → Stands (stmt_of number (kind.Write layout place index way value))
  writes number layout place index way value around lines scope past fits numbers =
      let line = (subst (AllByRecursion IsOwnLine) (lines-Write number layout place index way value around) lines).0 in
      record {
        keeps = λ now good. rw (action-Write world number layout place index way value now) (record {
          here = good.here;
          own = all_more now.writes _ good.own (λ own. ap coord_of (named_words now good 0 index (named (is_own way) own line)) ∙ stands);
        });
        past = subst LocalsPast (sym (ap (λ (fit : Fitting). (fit scope).1) (folds.fold-Write (kind_fits shapes types) its_fit number layout place index way value))) past;
      }
    where
      named : (own : Bool) → own ≡ true → (not own || are_names vars 0 (map name_of index)) ≡ true → are_names vars 0 (map name_of index) ≡ true
      named true e h = h
      named false e h = absurd (both_ways false refl e)

  ifs : (number : ℕ) (condition : TypedExpr) (block otherwise : List TypedStmt) (has_else : Bool) → BlockStands block → BlockStands otherwise
      → Stands (stmt_of number (kind.If condition block otherwise has_else))
  ifs number condition block otherwise has_else on_block on_otherwise around lines scope past fits numbers =
      let inside = (subst (AllByRecursion IsOwnLine) (lines-If number condition block otherwise has_else around) lines).1 in
      let f = sym (ap (λ (fit : Fitting). (fit scope).0) (folds.fold-If (kind_fits shapes types) its_fit number condition block otherwise has_else)) ∙ fits in
      let g = (and_parts _ ((all_fit (map (fitting shapes types) block) scope).0 && (all_fit (map (fitting shapes types) otherwise) scope).0) f).1 in
      let h = and_parts (all_fit (map (fitting shapes types) block) scope).0 (all_fit (map (fitting shapes types) otherwise) scope).0 g in
      let n = subst (AllByRecursion (λ v. vars ≤ v)) (folds.fold-If var_step its_vars number condition block otherwise has_else) numbers in
      let b = on_block (within_if condition around) (all_front IsOwnLine (block_lines block (within_if condition around)) (block_lines otherwise (within_if condition around)) inside) scope past h.0
      (all_front (λ v. vars ≤ v) (block_vars block) (block_vars otherwise) n) in
      let o = on_otherwise (within_if condition around) (all_back IsOwnLine (block_lines block (within_if condition around)) (block_lines otherwise (within_if condition around)) inside) scope past h.1
      (all_back (λ v. vars ≤ v) (block_vars block) (block_vars otherwise) n) in
      record {
        keeps = λ now good. rw (action-If world number condition block otherwise has_else now) (either b o (expr_word world now condition == 0) now good);
        past = subst LocalsPast (sym (ap (λ (fit : Fitting). (fit scope).1) (folds.fold-If (kind_fits shapes types) its_fit number condition block otherwise has_else))) past;
      }
    where
      either : Keeps (run_all (map (action_of world) block)) → Keeps (run_all (map (action_of world) otherwise)) → (is_zero : Bool)
          → Keeps (run_all (if is_zero then map (action_of world) otherwise else map (action_of world) block))
      either b o true = o
      either b o false = b

  fors : (number var : ℕ) (range : TypedRange) (body : List TypedStmt) → BlockStands body → Stands (stmt_of number (kind.For var range body))
  fors number var range body on_body around lines scope past fits numbers =
      let inside = (subst (AllByRecursion IsOwnLine) (lines-For number var range body around) lines).1 in
      let f = sym (ap (λ (fit : Fitting). (fit scope).0) (folds.fold-For (kind_fits shapes types) its_fit number var range body)) ∙ fits in
      let g = (and_parts _ (_ && (all_fit (map (fitting shapes types) body) (record { var = var; is_loop = true } ∷ scope)).0) f).1 in
      let h = (and_parts _ (all_fit (map (fitting shapes types) body) (record { var = var; is_loop = true } ∷ scope)).0 g).1 in
      let n = subst (AllByRecursion (λ v. vars ≤ v)) (folds.fold-For var_step its_vars number var range body) numbers in
      let b = on_body (within_loop range around) inside (record { var = var; is_loop = true } ∷ scope) (λ e. absurd (both_ways true e refl), past) h n.1 in
      record {
        keeps = λ now good. rw (action-For world number var range body now) (turns_keep n.0 b (range_numbers world now range) now good);
        past = subst LocalsPast (sym (ap (λ (fit : Fitting). (fit scope).1) (folds.fold-For (kind_fits shapes types) its_fit number var range body))) past;
      }
    where
      turns_keep : vars ≤ var → Keeps (run_all (map (action_of world) body)) → (turns : List ℤ) → Keeps (λ now. fold (λ reached turn. run_all (map (action_of world) body) (set_var var (word_of turn) reached)) now turns)
      turns_keep v b [] now good = good
      turns_keep v b (turn ∷ turns) now good =
          turns_keep v b turns (run_all (map (action_of world) body) (set_var var (word_of turn) now)) (b (set_var var (word_of turn) now) (set_keeps var (word_of turn) v now good))

  stmt_stands : (stmt : TypedStmt) → Stands stmt
  stmt_stands = by_stmts Stands lets assigns writes
      (λ number condition block otherwise has_else b o. ifs number condition block otherwise has_else (block_stands block b) (block_stands otherwise o))
      (λ number var range body b. fors number var range body (block_stands body b))

  all_stand : (block : List TypedStmt) → AllByRecursion Stands block
  all_stand [] = tt
  all_stand (stmt ∷ block) = (stmt_stands stmt, all_stand block)

  pub body_stands : (block : List TypedStmt) → BlockStands block
  body_stands block = block_stands block (all_stand block)

  loops_past : (var n : ℕ) → LocalsPast (loop_scope var n)
  loops_past var zero = tt
  loops_past var (suc n) = (λ e. absurd (both_ways true e refl), loops_past (suc var) n)

  pub kernel_stands : (body : List TypedStmt) → AllByRecursion IsOwnLine (block_lines body nothing_round) → (all_fit (map (fitting shapes types) body) (loop_scope 0 vars)).0 ≡ true
      → AllByRecursion (λ v. vars ≤ v) (block_vars body)
      → AllByRecursion (λ write. is_own write.way ≡ true → write.at ≡ at) (run_all (map (action_of world) body) (record { words = λ var. get_or words var 0; writes = [] })).writes
  kernel_stands body lines fits numbers =
      (body_stands body nothing_round lines (loop_scope 0 vars) (loops_past 0 vars) fits numbers (record { words = λ var. get_or words var 0; writes = [] }) (record { here = λ var below. refl; own = tt })).own

pub own_writes_stand : OwnWritesStand
own_writes_stand world shapes kernel kept at h typed numbered long stands =
    let is = admitted_is kernel kept h in
    let own = all_mapped (KeepsAll (facts_of kernel)) (λ line. is_own_in_place (facts_of kernel) line.deed ≡ true) (λ line k. (rules_kept (facts_of kernel) line k).own_in_place) (kernel_lines kernel) is.keep in
    let fits = (and_parts _ (all_fit (map (fitting shapes kernel.types) kernel.body) (loop_scope 0 kernel.vars)).0 typed).1 in
    let past = rest_past 0 kernel.vars (length kernel.types) (block_vars kernel.body) numbered in
    kernel_stands world shapes kernel.types (facts_of kernel) (part_words at) at long stands kernel.body own.1 fits
    (all_mapped (λ v. 0 + kernel.vars ≤ v) (λ v. kernel.vars ≤ v) (λ v l. omega (arith, l)) (block_vars kernel.body) past)
