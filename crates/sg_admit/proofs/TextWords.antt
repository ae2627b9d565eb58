-- What statements add to what is noted.
use Rattle.std.proofs.Common.{◌≡◌, ℕ, ◌+◌, ◌<◌, Bool, true, false, not, ◌&&◌, ◌||◌, ◌==◌, if◌then◌else◌, List, [], ◌∷◌, ◌++◌, find, take, length, get_or, Option, Some, None, option_map, Result, Ok, Err, refl, sym, ap, subst, ◌∙◌, arith}
use Rattle.std.specs.List.{list_any, flat_map}
use Rattle.std.specs.Option.{option_or}
use Rattle.std.specs.Result.{OnOk}
use Rattle.std.proofs.lemmas.Bool.{and_parts, both_ways, eqb-true}
use Rattle.std.proofs.lemmas.List.{take_more, append_assoc, append-nil, length-append}
use Rattle.std.proofs.lemmas.List.Folds.{list_any-append, find-append}
use Rattle.sg_flat.specs.declared.effects.Way.{Way}
use Rattle.sg_types.specs.declared.typed.TypedExpr.{TypedExpr}
use Rattle.sg_types.specs.declared.typed.TypedRange.{TypedRange}
use Rattle.sg_types.specs.declared.typed.TypedKind.{TypedKind}
use Rattle.sg_types.specs.declared.typed.TypedKind.TheVariants as kind
use Rattle.sg_types.specs.declared.typed.TypedStmt.{TypedStmt}
use Rattle.sg_types.specs.Values.{is_own}
use Rattle.sg_admit.specs.declared.ways.FieldWay.{FieldWay}
use Rattle.sg_admit.specs.declared.text.Text.{Text}
use Rattle.sg_admit.specs.Lines.{Around, Line, within_if, within_loop, stmt_lines, block_lines}
use Rattle.sg_admit.specs.Rules.{is_of_field, first_way, has_own, has_acc, deed_ways, ways_in}
use Rattle.sg_admit.specs.Slices.{stmt_of}
use Rattle.sg_admit.specs.steps.Noting.{AreAlike, has_noted, deed_loops, loops_in, deed_tests, tests_in, IsNoted, AreNoted}
use Rattle.sg_admit.proofs.StmtWords.{lines-If, lines-For}

pub flat_append : {X Y : Type 0} (f : X → List Y) (xs ys : List X) → flat_map f (xs ++ ys) ≡ flat_map f xs ++ flat_map f ys
flat_append f [] ys = refl
flat_append f (x ∷ xs) ys = ap (λ more. f x ++ more) (flat_append f xs ys) ∙ sym (append_assoc (f x) (flat_map f xs) (flat_map f ys))

pub on_ok : {A E P Q : Type 0} (r : Result A E) → (P → Q) → OnOk r P → OnOk r Q
on_ok (Ok x) f h = f h
on_ok (Err e) f h = h

-- ---- lists of writes that tell the same

pub alike_then : (xs ys zs : List FieldWay) → AreAlike xs ys → AreAlike ys zs → AreAlike xs zs
alike_then xs ys zs h k = record {
  first = λ layout place. h.first layout place ∙ k.first layout place;
  own = λ layout place. h.own layout place ∙ k.own layout place;
  acc = λ layout place. h.acc layout place ∙ k.acc layout place;
}

either_way : (x y : Option FieldWay) → option_map (λ (it : FieldWay). it.way) (option_or x y) ≡ option_or (option_map (λ (it : FieldWay). it.way) x) (option_map (λ (it : FieldWay). it.way) y)
either_way None y = refl
either_way (Some x) y = refl

first_append : (xs ys : List FieldWay) (layout place : ℕ) → first_way (xs ++ ys) layout place ≡ option_or (first_way xs layout place) (first_way ys layout place)
first_append xs ys layout place =
    ap (option_map (λ (it : FieldWay). it.way)) (find-append (is_of_field layout place) xs ys) ∙ either_way (find (is_of_field layout place) xs) (find (is_of_field layout place) ys)

own_append : (xs ys : List FieldWay) (layout place : ℕ) → has_own (xs ++ ys) layout place ≡ (has_own xs layout place || has_own ys layout place)
own_append xs ys layout place = list_any-append (λ (it : FieldWay). is_of_field layout place it && is_own it.way) xs ys

acc_append : (xs ys : List FieldWay) (layout place : ℕ) → has_acc (xs ++ ys) layout place ≡ (has_acc xs layout place || has_acc ys layout place)
acc_append xs ys layout place = list_any-append (λ (it : FieldWay). is_of_field layout place it && not (is_own it.way)) xs ys

pub alike_more : (xs ys zs : List FieldWay) → AreAlike xs ys → AreAlike (xs ++ zs) (ys ++ zs)
alike_more xs ys zs h = record {
  first = λ layout place. first_append xs zs layout place ∙ (ap (λ (x : Option Way). option_or x (first_way zs layout place)) (h.first layout place) ∙ sym (first_append ys zs layout place));
  own = λ layout place. own_append xs zs layout place ∙ (ap (λ (x : Bool). x || has_own zs layout place) (h.own layout place) ∙ sym (own_append ys zs layout place));
  acc = λ layout place. acc_append xs zs layout place ∙ (ap (λ (x : Bool). x || has_acc zs layout place) (h.acc layout place) ∙ sym (acc_append ys zs layout place));
}

-- a field of which a way is there has a first way
first_known : (q : FieldWay → Bool) (xs : List FieldWay) (layout place : ℕ) → list_any (λ (it : FieldWay). is_of_field layout place it && q it) xs ≡ true
    → (more : Option Way) → option_or (first_way xs layout place) more ≡ first_way xs layout place
first_known q [] layout place h more = absurd (both_ways false refl h)
first_known q (x ∷ xs) layout place h more = at_head (is_of_field layout place x) (λ h. first_known q xs layout place h more) h
  where
    at_head : (here : Bool) → (list_any (λ (it : FieldWay). is_of_field layout place it && q it) xs ≡ true → option_or (first_way xs layout place) more ≡ first_way xs layout place)
        → ((here && q x) || list_any (λ (it : FieldWay). is_of_field layout place it && q it) xs) ≡ true
        → option_or (option_map (λ (it : FieldWay). it.way) (if here then Some x else find (is_of_field layout place) xs)) more
        ≡ option_map (λ (it : FieldWay). it.way) (if here then Some x else find (is_of_field layout place) xs)
    at_head true next h = refl
    at_head false next h = next h

or_false : (a : Bool) → (a || false) ≡ a
or_false true = refl
or_false false = refl

or_nothing : (first : Option Way) → option_or first None ≡ first
or_nothing None = refl
or_nothing (Some way) = refl

module _ (xs : List FieldWay) (it : FieldWay) where
  -- the field is the other one's
  same_field : (layout place : ℕ) → is_of_field layout place it ≡ true → (P : ℕ → ℕ → Type 0) → P it.layout it.place → P layout place
  same_field layout place e P h =
      let parts = and_parts (it.layout == layout) (it.place == place) e in
      subst (λ (n : ℕ). P layout n) (eqb-true it.place place parts.1) (subst (λ (n : ℕ). P n it.place) (eqb-true it.layout layout parts.0) h)

  first_stays : (layout place : ℕ) → has_noted xs it ≡ true → option_or (first_way xs layout place) (first_way (it ∷ []) layout place) ≡ first_way xs layout place
  first_stays layout place h = at (is_of_field layout place it) refl
    where
      known : (own : Bool) → is_own it.way ≡ own → (if own then has_own xs it.layout it.place else has_acc xs it.layout it.place) ≡ true → (more : Option Way)
          → option_or (first_way xs it.layout it.place) more ≡ first_way xs it.layout it.place
      known true e h more = first_known (λ (other : FieldWay). is_own other.way) xs it.layout it.place h more
      known false e h more = first_known (λ (other : FieldWay). not (is_own other.way)) xs it.layout it.place h more

      at : (here : Bool) → is_of_field layout place it ≡ here
          → option_or (first_way xs layout place) (option_map (λ (it : FieldWay). it.way) (if here then Some it else None)) ≡ first_way xs layout place
      at true e = same_field layout place e (λ layout place. option_or (first_way xs layout place) (Some it.way) ≡ first_way xs layout place) (known (is_own it.way) refl h (Some it.way))
      at false e = or_nothing (first_way xs layout place)

  own_stays : (layout place : ℕ) → has_noted xs it ≡ true → (has_own xs layout place || has_own (it ∷ []) layout place) ≡ has_own xs layout place
  own_stays layout place h = at (is_of_field layout place it) refl
    where
      known : (own : Bool) → (if own then has_own xs it.layout it.place else has_acc xs it.layout it.place) ≡ true → (has_own xs it.layout it.place || (own || false)) ≡ has_own xs it.layout it.place
      known true h = ap (λ (x : Bool). x || true) h ∙ sym h
      known false h = or_false (has_own xs it.layout it.place)

      at : (here : Bool) → is_of_field layout place it ≡ here → (has_own xs layout place || ((here && is_own it.way) || false)) ≡ has_own xs layout place
      at true e = same_field layout place e (λ layout place. (has_own xs layout place || (is_own it.way || false)) ≡ has_own xs layout place) (known (is_own it.way) h)
      at false e = or_false (has_own xs layout place)

  acc_stays : (layout place : ℕ) → has_noted xs it ≡ true → (has_acc xs layout place || has_acc (it ∷ []) layout place) ≡ has_acc xs layout place
  acc_stays layout place h = at (is_of_field layout place it) refl
    where
      known : (own : Bool) → (if own then has_own xs it.layout it.place else has_acc xs it.layout it.place) ≡ true → (has_acc xs it.layout it.place || (not own || false)) ≡ has_acc xs it.layout it.place
      known true h = or_false (has_acc xs it.layout it.place)
      known false h = ap (λ (x : Bool). x || true) h ∙ sym h

      at : (here : Bool) → is_of_field layout place it ≡ here → (has_acc xs layout place || ((here && not (is_own it.way)) || false)) ≡ has_acc xs layout place
      at true e = same_field layout place e (λ layout place. (has_acc xs layout place || (not (is_own it.way) || false)) ≡ has_acc xs layout place) (known (is_own it.way) h)
      at false e = or_false (has_acc xs layout place)

  -- a write that is noted already tells nothing more
  pub alike_noted : has_noted xs it ≡ true → AreAlike xs (xs ++ it ∷ [])
  alike_noted h = record {
    first = λ layout place. sym (first_append xs (it ∷ []) layout place ∙ first_stays layout place h);
    own = λ layout place. sym (own_append xs (it ∷ []) layout place ∙ own_stays layout place h);
    acc = λ layout place. sym (acc_append xs (it ∷ []) layout place ∙ acc_stays layout place h);
  }

-- ---- what lines add

pub noted_both : (xs ys : List Line) (a b c : Text) → IsNoted xs a b → IsNoted ys b c → IsNoted (xs ++ ys) a c
noted_both xs ys a b c h k = record {
  writes =
      let e : (a.writes ++ ways_in xs) ++ ways_in ys ≡ a.writes ++ ways_in (xs ++ ys) =
      append_assoc a.writes (ways_in xs) (ways_in ys) ∙ ap (λ (more : List FieldWay). a.writes ++ more) (sym (flat_append (λ (line : Line). deed_ways line.deed) xs ys)) in
      alike_then c.writes (b.writes ++ ways_in ys) (a.writes ++ ways_in (xs ++ ys)) k.writes (subst (AreAlike (b.writes ++ ways_in ys)) e (alike_more b.writes (a.writes ++ ways_in xs) (ways_in ys) h.writes));
  loops = k.loops ∙ (ap (λ (front : List ℕ). front ++ loops_in ys) h.loops ∙ (append_assoc a.loops (loops_in xs) (loops_in ys)
      ∙ ap (λ (more : List ℕ). a.loops ++ more) (sym (flat_append (λ (line : Line). deed_loops line.deed) xs ys))));
  ifs =
      let l = ap length (flat_append (λ (line : Line). deed_tests line.around line.deed) xs ys) ∙ length-append (tests_in xs) (tests_in ys) in
      let hi = h.ifs in
      let ki = k.ifs in
      omega (arith, l, hi, ki);
}

pub noted_like : (xs ys : List Line) (a b : Text) → ys ≡ xs → IsNoted xs a b → IsNoted ys a b
noted_like xs ys a b e h = subst (λ (lines : List Line). IsNoted lines a b) (sym e) h

abbrev lines_at : TypedStmt → Around → TypedKind → List Line
lines_at stmt around it = stmt_lines (stmt_of stmt.number it) around

pub noted-If : (stmt : TypedStmt) (condition : TypedExpr) (block otherwise ys ns : List TypedStmt) (has_else : Bool) → stmt.kind ≡ kind.If condition block otherwise has_else → ys ≡ block → ns ≡ otherwise
    → (a b c d : Text) → b.writes ≡ a.writes → b.loops ≡ a.loops → b.ifs ≡ a.ifs + 1 → AreNoted (block_lines ys) b c → AreNoted (block_lines ns) c d → AreNoted (stmt_lines stmt) a d
noted-If stmt condition block otherwise ys ns has_else is ey en a b c d w l i h k around =
    let inside = within_if condition around in
    let both = noted_both (block_lines ys inside) (block_lines ns inside) b c d (h inside) (k inside) in
    let same : block_lines ys inside ++ block_lines ns inside ≡ block_lines block inside ++ block_lines otherwise inside =
    ap (λ (xs : List TypedStmt). block_lines xs inside ++ block_lines ns inside) ey ∙ ap (λ (xs : List TypedStmt). block_lines block inside ++ block_lines xs inside) en in
    let whole = subst (λ (lines : List Line). IsNoted lines b d) same both in
    noted_like _ (stmt_lines stmt around) a d (ap (lines_at stmt around) is ∙ lines-If stmt.number condition block otherwise has_else around)
    (record {
      writes = subst (λ (front : List FieldWay). AreAlike d.writes (front ++ ways_in (block_lines block inside ++ block_lines otherwise inside))) w whole.writes;
      loops = whole.loops ∙ ap (λ (front : List ℕ). front ++ loops_in (block_lines block inside ++ block_lines otherwise inside)) l;
      ifs = let n = whole.ifs in omega (arith, n, i);
    })

pub noted-For : (stmt : TypedStmt) (var : ℕ) (range : TypedRange) (body bs : List TypedStmt) → stmt.kind ≡ kind.For var range body → bs ≡ body
    → (a b c : Text) → b.writes ≡ a.writes → b.loops ≡ a.loops ++ var ∷ [] → b.ifs ≡ a.ifs → AreNoted (block_lines bs) b c → AreNoted (stmt_lines stmt) a c
noted-For stmt var range body bs is eb a b c w l i k around =
    let inside = within_loop range around in
    let whole = subst (λ (stmts : List TypedStmt). IsNoted (block_lines stmts inside) b c) eb (k inside) in
    noted_like _ (stmt_lines stmt around) a c (ap (lines_at stmt around) is ∙ lines-For stmt.number var range body around)
    (record {
      writes = subst (λ (front : List FieldWay). AreAlike c.writes (front ++ ways_in (block_lines body inside))) w whole.writes;
      loops = whole.loops ∙ (ap (λ (front : List ℕ). front ++ loops_in (block_lines body inside)) l ∙ append_assoc a.loops (var ∷ []) (loops_in (block_lines body inside)));
      ifs = let n = whole.ifs in omega (arith, n, i);
    })

lines_append : (front back : List TypedStmt) (around : Around) → block_lines (front ++ back) around ≡ block_lines front around ++ block_lines back around
lines_append [] back around = refl
lines_append (stmt ∷ front) back around = ap (λ (more : List Line). stmt_lines stmt around ++ more) (lines_append front back around) ∙ sym (append_assoc (stmt_lines stmt around) (block_lines front around) (block_lines back around))

-- the lines of one more statement of a block
pub one_more : (block : List TypedStmt) (i : ℕ) (stmt : TypedStmt) → i < length block → stmt ≡ get_or block i stmt → (around : Around)
    → block_lines (take (i + 1) block) around ≡ block_lines (take i block) around ++ stmt_lines stmt around
one_more block i stmt l is around =
    ap (λ (stmts : List TypedStmt). block_lines stmts around) (take_more block i stmt l)
    ∙ (lines_append (take i block) (get_or block i stmt ∷ []) around
    ∙ (ap (λ (lines : List Line). block_lines (take i block) around ++ lines) (append-nil (stmt_lines (get_or block i stmt) around)) ∙ ap (λ (s : TypedStmt). block_lines (take i block) around ++ stmt_lines s around) (sym is)))

pub noted_more : (block : List TypedStmt) (i : ℕ) (stmt : TypedStmt) → i < length block → stmt ≡ get_or block i stmt → (a b c : Text) → AreNoted (block_lines (take i block)) a b → AreNoted (stmt_lines stmt) b c
    → AreNoted (block_lines (take (i + 1) block)) a c
noted_more block i stmt l is a b c h k around =
    noted_like (block_lines (take i block) around ++ stmt_lines stmt around) (block_lines (take (i + 1) block) around) a c (one_more block i stmt l is around)
    (noted_both (block_lines (take i block) around) (stmt_lines stmt around) a b c (h around) (k around))
