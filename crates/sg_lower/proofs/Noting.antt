-- The fields that lines own-write.
use Rattle.std.proofs.Common.{◌≡◌, ℕ, ◌+◌, ◌<◌, ◌≤◌, Bool, true, false, ◌&&◌, ◌||◌, ◌==◌, List, [], ◌∷◌, ◌++◌, length, get_or, drop, refl, sym, ap, ◌∙◌}
use Rattle.std.specs.List.{list_any}
use Rattle.std.proofs.lemmas.Bool.{and_parts, eqb-true}
use Rattle.std.proofs.lemmas.List.{drop_more, drop_all}
use Rattle.std.proofs.lemmas.List.Concat.{flat_map-append}
use Rattle.sg_flat.specs.declared.effects.Way.{Way}
use Rattle.sg_flat.specs.declared.effects.Way.TheVariants as way
use Rattle.sg_words.specs.declared.operators.AccOp.{AccOp}
use Rattle.sg_types.specs.declared.typed.TypedExpr.{TypedExpr}
use Rattle.sg_types.specs.declared.typed.TypedRange.{TypedRange}
use Rattle.sg_types.specs.declared.typed.TypedKind.TheVariants as kind
use Rattle.sg_types.specs.declared.typed.TypedStmt.{TypedStmt}
use Rattle.sg_types.specs.Values.{is_own}
use Rattle.sg_admit.specs.declared.ways.FieldWay.{FieldWay}
use Rattle.sg_admit.specs.Lines.{Around, Line, within_if, within_loop, stmt_lines, block_lines}
use Rattle.sg_admit.specs.Rules.{deed_ways, ways_in, is_of_field, has_own}
use Rattle.sg_lower.specs.declared.lowering.Field.{Field}
use Rattle.sg_lower.specs.steps.Basis.{is_owned}
use Rattle.sg_lower.proofs.LineWords.{lines-Let, lines-Assign, lines-Write, lines-If, lines-For}
use Rattle.sg_lower.proofs.Stepping.{of_kind}

or_false : (b : Bool) → b ≡ (b || false)
or_false true = refl
or_false false = refl

or_assoc : (a b c : Bool) → ((a || b) || c) ≡ (a || (b || c))
or_assoc true b c = refl
or_assoc false b c = refl

any_append : {X : Type 0} (p : X → Bool) (xs ys : List X) → list_any p (xs ++ ys) ≡ (list_any p xs || list_any p ys)
any_append p [] ys = refl
any_append p (x ∷ xs) ys = ap (λ (b : Bool). p x || b) (any_append p xs ys) ∙ sym (or_assoc (p x) (list_any p xs) (list_any p ys))

abbrev own_in : List Line → ℕ → ℕ → Bool
own_in lines layout place = has_own (ways_in lines) layout place

own_append : (xs ys : List Line) (layout place : ℕ) → own_in (xs ++ ys) layout place ≡ (own_in xs layout place || own_in ys layout place)
own_append xs ys layout place =
    ap (λ (ways : List FieldWay). has_own ways layout place) (flat_map-append (λ (line : Line). deed_ways line.deed) xs ys)
    ∙ any_append (λ it. is_of_field layout place it && is_own it.way) (ways_in xs) (ways_in ys)

-- from what was noted before to what is after a statement
abbrev pub Noted : List Field → List Field → TypedStmt → Type 0
Noted old new stmt = (around : Around) (layout place : ℕ) → is_owned new layout place ≡ (is_owned old layout place || own_in (stmt_lines stmt around) layout place)

abbrev pub NotedBlock : List Field → List Field → List TypedStmt → Type 0
NotedBlock old new block = (around : Around) (layout place : ℕ) → is_owned new layout place ≡ (is_owned old layout place || own_in (block_lines block around) layout place)

module _ (old new : List Field) (stmt : TypedStmt) where
  pub noted_let : (var : ℕ) (value : TypedExpr) → stmt.kind ≡ kind.Let var value → new ≡ old → Noted old new stmt
  noted_let var value is same = of_kind (Noted old new) stmt (kind.Let var value) is (λ around layout place.
      ap (λ (fields : List Field). is_owned fields layout place) same
      ∙ (or_false (is_owned old layout place) ∙ ap (λ (lines : List Line). is_owned old layout place || own_in lines layout place) (sym (lines-Let stmt.number var value around))))

  pub noted_assign : (var : ℕ) (value : TypedExpr) → stmt.kind ≡ kind.Assign var value → new ≡ old → Noted old new stmt
  noted_assign var value is same = of_kind (Noted old new) stmt (kind.Assign var value) is (λ around layout place.
      ap (λ (fields : List Field). is_owned fields layout place) same
      ∙ (or_false (is_owned old layout place) ∙ ap (λ (lines : List Line). is_owned old layout place || own_in lines layout place) (sym (lines-Assign stmt.number var value around))))

  pub noted_write : (at_layout at_place : ℕ) (index : List TypedExpr) (given : Way) (value : TypedExpr) → stmt.kind ≡ kind.Write at_layout at_place index given value
      → ((layout place : ℕ) → is_owned new layout place ≡ (is_owned old layout place || has_own (record { layout = at_layout; place = at_place; way = given } ∷ []) layout place)) → Noted old new stmt
  noted_write at_layout at_place index given value is noted = of_kind (Noted old new) stmt (kind.Write at_layout at_place index given value) is (λ around layout place.
      noted layout place ∙ ap (λ (lines : List Line). is_owned old layout place || own_in lines layout place) (sym (lines-Write stmt.number at_layout at_place index given value around)))

  pub noted_if : (mid : List Field) (condition : TypedExpr) (block otherwise : List TypedStmt) (has_else : Bool) → stmt.kind ≡ kind.If condition block otherwise has_else
      → NotedBlock old mid block → NotedBlock mid new otherwise → Noted old new stmt
  noted_if mid condition block otherwise has_else is one two = of_kind (Noted old new) stmt (kind.If condition block otherwise has_else) is (λ around layout place.
      let inside = within_if condition around in
      let a = own_in (block_lines block inside) layout place in
      let b = own_in (block_lines otherwise inside) layout place in
      two inside layout place
      ∙ (ap (λ (it : Bool). it || b) (one inside layout place)
      ∙ (or_assoc (is_owned old layout place) a b
      ∙ (ap (λ (it : Bool). is_owned old layout place || it) (sym (own_append (block_lines block inside) (block_lines otherwise inside) layout place))
      ∙ ap (λ (lines : List Line). is_owned old layout place || own_in lines layout place) (sym (lines-If stmt.number condition block otherwise has_else around))))))

  pub noted_for : (var : ℕ) (range : TypedRange) (block : List TypedStmt) → stmt.kind ≡ kind.For var range block → NotedBlock old new block → Noted old new stmt
  noted_for var range block is one = of_kind (Noted old new) stmt (kind.For var range block) is (λ around layout place.
      one (within_loop range around) layout place
      ∙ ap (λ (lines : List Line). is_owned old layout place || own_in lines layout place) (sym (lines-For stmt.number var range block around)))

-- one more statement of a block
pub noted_next : (first old new : List Field) (block : List TypedStmt) (i : ℕ) (stmt : TypedStmt) → i < length block → stmt ≡ get_or block i stmt
    → (around : Around) (layout place : ℕ)
    → (is_owned old layout place || own_in (block_lines (drop i block) around) layout place) ≡ (is_owned first layout place || own_in (block_lines block around) layout place)
    → Noted old new stmt
    → (is_owned new layout place || own_in (block_lines (drop (i + 1) block) around) layout place) ≡ (is_owned first layout place || own_in (block_lines block around) layout place)
noted_next first old new block i stmt below is around layout place before noted =
    let rest = block_lines (drop (i + 1) block) around in
    let cut : drop i block ≡ stmt ∷ drop (i + 1) block = drop_more block i stmt below ∙ ap (λ (it : TypedStmt). it ∷ drop (i + 1) block) (sym is) in
    ap (λ (it : Bool). it || own_in rest layout place) (noted around layout place)
    ∙ (or_assoc (is_owned old layout place) (own_in (stmt_lines stmt around) layout place) (own_in rest layout place)
    ∙ (ap (λ (it : Bool). is_owned old layout place || it) (sym (own_append (stmt_lines stmt around) rest layout place))
    ∙ (ap (λ (it : List TypedStmt). is_owned old layout place || own_in (block_lines it around) layout place) (sym cut) ∙ before)))

pub noted_done : (first old : List Field) (block : List TypedStmt) (i : ℕ) → length block ≤ i → (around : Around) (layout place : ℕ)
    → (is_owned old layout place || own_in (block_lines (drop i block) around) layout place) ≡ (is_owned first layout place || own_in (block_lines block around) layout place)
    → is_owned old layout place ≡ (is_owned first layout place || own_in (block_lines block around) layout place)
noted_done first old block i past around layout place before =
    or_false (is_owned old layout place) ∙ (ap (λ (it : List TypedStmt). is_owned old layout place || own_in (block_lines it around) layout place) (sym (drop_all i block past)) ∙ before)

-- a field is put at the end, or is there
pub pushed_field : (old : List Field) (at_layout at_place layout place : ℕ)
    → is_owned (old ++ record { layout = at_layout; place = at_place } ∷ []) layout place ≡ (is_owned old layout place || has_own (record { layout = at_layout; place = at_place; way = way.Own } ∷ []) layout place)
pushed_field old at_layout at_place layout place =
    any_append (λ field. (field.layout == layout) && (field.place == place)) old (record { layout = at_layout; place = at_place } ∷ [])
    ∙ ap (λ (it : Bool). is_owned old layout place || (it || false)) (and_true ((at_layout == layout) && (at_place == place)))
  where
    and_true : (b : Bool) → b ≡ (b && true)
    and_true true = refl
    and_true false = refl

pub there_field : (old : List Field) (at_layout at_place layout place : ℕ) → is_owned old at_layout at_place ≡ true
    → is_owned old layout place ≡ (is_owned old layout place || has_own (record { layout = at_layout; place = at_place; way = way.Own } ∷ []) layout place)
there_field old at_layout at_place layout place there = by_test ((at_layout == layout) && (at_place == place)) refl
  where
    by_test : (b : Bool) → ((at_layout == layout) && (at_place == place)) ≡ b
        → is_owned old layout place ≡ (is_owned old layout place || ((((at_layout == layout) && (at_place == place)) && true) || false))
    by_test false e = or_false (is_owned old layout place) ∙ ap (λ (b : Bool). is_owned old layout place || ((b && true) || false)) (sym e)
    by_test true e =
        let p = and_parts (at_layout == layout) (at_place == place) e in
        let same : is_owned old layout place ≡ true =
        ap (λ (l : ℕ). is_owned old l place) (sym (eqb-true at_layout layout p.0)) ∙ (ap (λ (x : ℕ). is_owned old at_layout x) (sym (eqb-true at_place place p.1)) ∙ there) in
        same ∙ sym (ap (λ (b : Bool). b || ((((at_layout == layout) && (at_place == place)) && true) || false)) same)

pub acc_field : (old : List Field) (at_layout at_place : ℕ) (op : AccOp) (layout place : ℕ)
    → is_owned old layout place ≡ (is_owned old layout place || has_own (record { layout = at_layout; place = at_place; way = way.Acc op } ∷ []) layout place)
acc_field old at_layout at_place op layout place = or_false (is_owned old layout place) ∙ ap (λ (b : Bool). is_owned old layout place || (b || false)) (and_false ((at_layout == layout) && (at_place == place)))
  where
    and_false : (b : Bool) → false ≡ (b && false)
    and_false true = refl
    and_false false = refl
