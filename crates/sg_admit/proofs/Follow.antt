-- The slice of a statement follows the statement.
use Rattle.std.proofs.Common.{◌≡◌, ℕ, Bool, true, false, not, ◌&&◌, ◌==◌, if◌then◌else◌, ℤ, List, [], ◌∷◌, ◌++◌, map, fold, Option, refl, sym, ap, subst, ◌∙◌}
use Rattle.std.specs.List.{list_all, AllByRecursion}
use Rattle.std.proofs.lemmas.Bool.{and_left, and_right, both_ways, true_from_ne_false}
use Rattle.std.proofs.lemmas.List.{map-append}
use Rattle.std.proofs.lemmas.List.Sums.{fold-append}
use Rattle.sg_words.specs.declared.operators.Ty.TheVariants as ty
use Rattle.sg_words.specs.Words as w
use Rattle.sg_words.specs.Words.{word_of}
use Rattle.sg_flat.specs.declared.effects.Way.{Way}
use Rattle.sg_flat.specs.Domain.{numbers}
use Rattle.sg_types.specs.declared.typed.TypedExpr.{TypedExpr}
use Rattle.sg_types.specs.declared.typed.TypedRange.{TypedRange}
use Rattle.sg_types.specs.declared.typed.TypedKind.TheVariants as kind
use Rattle.sg_types.specs.declared.typed.TypedStmt.{TypedStmt}
use Rattle.sg_types.specs.Values.{World, Moment, coord_of, expr_word}
use Rattle.sg_types.specs.Iterations.{StmtAction, set_var, add_write, run_all, range_numbers, action_of}
use Rattle.sg_types.proofs.Uses.{value-Literal, action-Let, action-Assign, action-Write, action-If, action-For}
use Rattle.sg_admit.specs.Lines.{Deed, Sets, Writes, Tests, Turns, Opens, Around, Line, line_of, within_if, within_loop, stmt_lines, block_lines}
use Rattle.sg_admit.specs.Clean.{Unclean, is_clean}
use Rattle.sg_admit.specs.Slices.{may_activate, no_value, stmt_of, stmt_if, stmt_slice, block_slice}
use Rattle.sg_types.proofs.Uses.{by_stmts}
use Rattle.sg_admit.proofs.StmtWords.{lines-Let, lines-Assign, lines-Write, lines-If, lines-For, slice-Let, slice-Assign, slice-Write, slice-If, slice-For}
use Rattle.sg_admit.proofs.Agree.{Agree, same_word, same_all, set_both, set_one, write_both, write_one}

pub all_front : {X : Type 0} (P : X → Type 0) (xs ys : List X) → AllByRecursion P (xs ++ ys) → AllByRecursion P xs
all_front P [] ys h = tt
all_front P (x ∷ xs) ys h = (h.0, all_front P xs ys h.1)

pub all_back : {X : Type 0} (P : X → Type 0) (xs ys : List X) → AllByRecursion P (xs ++ ys) → AllByRecursion P ys
all_back P [] ys h = h
all_back P (x ∷ xs) ys h = all_back P xs ys h.1

-- statements one after the other in two parts
pub run_parts : (world : World) (front back : List TypedStmt) (now : Moment)
    → run_all (map (action_of world) (front ++ back)) now ≡ run_all (map (action_of world) back) (run_all (map (action_of world) front) now)
run_parts world front back now =
    ap (λ (actions : List StmtAction). run_all actions now) (map-append (action_of world) front back)
    ∙ fold-append (λ (reached : Moment) (action : StmtAction). action reached) now (map (action_of world) front) (map (action_of world) back)

module _ (walked : Option ℕ) (unclean : Unclean) where
  abbrev all_clean : List TypedExpr → Bool
  all_clean = list_all (is_clean unclean)

  -- what the rules and the dirty set give of a line
  abbrev pub IsSound : Around → Deed → Type 0
  IsSound around (Sets var value) = (is_clean unclean value && all_clean around.conditions) ≡ false → unclean.vars var ≡ true
  IsSound around (Writes layout place index way value) =
      (unclean.fields layout place ≡ true) × (may_activate walked layout way ≡ true → (all_clean index ≡ true) × (all_clean around.conditions ≡ true))
  IsSound around (Tests condition) = Unit {0}
  IsSound around (Turns var range) =
      (all_clean around.conditions ≡ false → unclean.vars var ≡ true) × ((is_clean unclean range.lo ≡ true) × (is_clean unclean range.hi ≡ true))
  IsSound around (Opens ranges) = Unit {0}

  abbrev pub SoundLine : Line → Type 0
  SoundLine line = IsSound line.around line.deed

  -- what is kept where all conditions round it are clean; nothing is elsewhere
  abbrev pub kept_if : Bool → List TypedStmt → List TypedStmt
  kept_if clean stmts = if clean then stmts else []

  module _ (world : World) where
    abbrev acts : List TypedStmt → StmtAction
    acts stmts = run_all (map (action_of world) stmts)

    abbrev Both : Moment → Moment → Type 0
    Both = Agree walked unclean

    abbrev Follows : TypedStmt → Type 0
    Follows stmt = (around : Around) (clean : Bool) → all_clean around.conditions ≡ clean → AllByRecursion SoundLine (stmt_lines stmt around)
        → (now beside : Moment) → Both now beside → Both (action_of world stmt now) (acts (kept_if clean (stmt_slice walked unclean stmt)) beside)

    abbrev BlockFollows : List TypedStmt → Type 0
    BlockFollows block = (around : Around) (clean : Bool) → all_clean around.conditions ≡ clean → AllByRecursion SoundLine (block_lines block around)
        → (now beside : Moment) → Both now beside → Both (acts block now) (acts (kept_if clean (block_slice walked unclean block)) beside)

    in_turn : (clean : Bool) (front back : List TypedStmt) (beside : Moment) → acts (kept_if clean (front ++ back)) beside ≡ acts (kept_if clean back) (acts (kept_if clean front) beside)
    in_turn true front back beside = run_parts world front back beside
    in_turn false front back beside = refl

    block_follows : (block : List TypedStmt) → AllByRecursion Follows block → BlockFollows block
    block_follows [] all around true e sound now beside agree = agree
    block_follows [] all around false e sound now beside agree = agree
    block_follows (stmt ∷ block) all around clean e sound now beside agree =
        let here = all.0 around clean e (all_front SoundLine (stmt_lines stmt around) (block_lines block around) sound) now beside agree in
        subst (λ (m : Moment). Both (acts block (action_of world stmt now)) m) (sym (in_turn clean (stmt_slice walked unclean stmt) (block_slice walked unclean block) beside))
        (block_follows block all.1 around clean e (all_back SoundLine (stmt_lines stmt around) (block_lines block around) sound)
        (action_of world stmt now) (acts (kept_if clean (stmt_slice walked unclean stmt)) beside) here)

    -- a variable gets a word: the slice sets a clean one, where it stands there
    sets : (stmt : TypedStmt) (var : ℕ) (value : TypedExpr)
        → ((now : Moment) → action_of world stmt now ≡ set_var var (expr_word world now value) now)
        → stmt_slice walked unclean stmt ≡ stmt_if (not (unclean.vars var)) stmt
        → (around : Around) (clean : Bool) → all_clean around.conditions ≡ clean → IsSound around (Sets var value)
        → (now beside : Moment) → Both now beside → Both (action_of world stmt now) (acts (kept_if clean (stmt_slice walked unclean stmt)) beside)
    sets stmt var value does kept around clean e sound now beside agree =
        rw (does now, kept) (at_var (unclean.vars var) refl clean e)
      where
        at_var : (dirty : Bool) → unclean.vars var ≡ dirty → (clean : Bool) → all_clean around.conditions ≡ clean
            → Both (set_var var (expr_word world now value) now) (acts (kept_if clean (stmt_if (not dirty) stmt)) beside)
        at_var true d true e = set_one walked unclean now beside agree var (expr_word world now value) d
        at_var true d false e = set_one walked unclean now beside agree var (expr_word world now value) d
        at_var false d false e = absurd (both_ways (unclean.vars var) d (sound (and_right (is_clean unclean value) (all_clean around.conditions) e)))
        at_var false d true e =
            let is : is_clean unclean value ≡ true = true_from_ne_false (is_clean unclean value) (λ h. both_ways (unclean.vars var) d (sound (and_left (is_clean unclean value) (all_clean around.conditions) h))) in
            rw (does beside) (set_both walked unclean now beside agree var (expr_word world now value) (expr_word world beside value) (same_word walked unclean world now beside agree value is))

    writes : (number layout place : ℕ) (index : List TypedExpr) (way : Way) (value : TypedExpr) → Follows (stmt_of number (kind.Write layout place index way value))
    writes number layout place index way value around clean e sounds now beside agree =
        rw (action-Write world number layout place index way value now, slice-Write number walked unclean layout place index way value) (at_way (may_activate walked layout way) refl clean e)
      where
        sound : IsSound around (Writes layout place index way value)
        sound = (subst (AllByRecursion SoundLine) (lines-Write number layout place index way value around) sounds).0

        kept_write : all_clean index ≡ true → action_of world (stmt_of number (kind.Write layout place index way (no_value value))) beside
            ≡ add_write (record { layout = layout; place = place; stmt = number; at = coord_of (map (expr_word world now) index); way = way; value = 0 }) beside
        kept_write h =
            action-Write world number layout place index way (no_value value) beside
            ∙ (ap (λ (words : List ℕ). add_write (record { layout = layout; place = place; stmt = number; at = coord_of words; way = way; value = expr_word world beside (no_value value) }) beside)
            (sym (same_all walked unclean world now beside agree index h))
            ∙ ap (λ (word : ℕ). add_write (record { layout = layout; place = place; stmt = number; at = coord_of (map (expr_word world now) index); way = way; value = word }) beside)
            (value-Literal world beside value.ty 0))

        at_way : (active : Bool) → may_activate walked layout way ≡ active → (clean : Bool) → all_clean around.conditions ≡ clean
            → Both (add_write (record { layout = layout; place = place; stmt = number; at = coord_of (map (expr_word world now) index); way = way; value = expr_word world now value }) now)
            (acts (kept_if clean (stmt_if active (stmt_of number (kind.Write layout place index way (no_value value))))) beside)
        at_way false a true e = write_one walked unclean now beside agree _ sound.0 a
        at_way false a false e = write_one walked unclean now beside agree _ sound.0 a
        at_way true a false e = absurd (both_ways (all_clean around.conditions) e (sound.1 a).1)
        at_way true a true e = rw (kept_write (sound.1 a).0) (write_both walked unclean now beside agree _ sound.0 a)

    within : (condition : TypedExpr) (around : Around) (here clean : Bool) → is_clean unclean condition ≡ here → all_clean around.conditions ≡ clean → all_clean (within_if condition around).conditions ≡ (here && clean)
    within condition around here clean h e = ap (λ (b : Bool). b && all_clean around.conditions) h ∙ ap (λ (b : Bool). here && b) e

    ifs : (number : ℕ) (condition : TypedExpr) (block otherwise : List TypedStmt) (has_else : Bool) → BlockFollows block → BlockFollows otherwise
        → Follows (stmt_of number (kind.If condition block otherwise has_else))
    ifs number condition block otherwise has_else on_block on_otherwise around clean e sounds now beside agree =
        rw (action-If world number condition block otherwise has_else now, slice-If number walked unclean condition block otherwise has_else)
        (at_clean (is_clean unclean condition) refl clean e)
      where
        sound : AllByRecursion SoundLine (block_lines block (within_if condition around) ++ block_lines otherwise (within_if condition around))
        sound = (subst (AllByRecursion SoundLine) (lines-If number condition block otherwise has_else around) sounds).1

        branch : (here clean : Bool) → is_clean unclean condition ≡ here → all_clean around.conditions ≡ clean → (is_zero : Bool)
            → Both (run_all (if is_zero then map (action_of world) otherwise else map (action_of world) block) now)
            (acts (kept_if (here && clean) (if is_zero then block_slice walked unclean otherwise else block_slice walked unclean block)) beside)
        branch here clean h e true = on_otherwise (within_if condition around) (here && clean) (within condition around here clean h e)
            (all_back SoundLine (block_lines block (within_if condition around)) (block_lines otherwise (within_if condition around)) sound) now beside agree
        branch here clean h e false = on_block (within_if condition around) (here && clean) (within condition around here clean h e)
            (all_front SoundLine (block_lines block (within_if condition around)) (block_lines otherwise (within_if condition around)) sound) now beside agree

        nothing : (is_zero : Bool) → acts (kept_if false (if is_zero then block_slice walked unclean otherwise else block_slice walked unclean block)) beside ≡ beside
        nothing is_zero = refl

        chosen : (is_zero : Bool) → map (action_of world) (if is_zero then block_slice walked unclean otherwise else block_slice walked unclean block)
            ≡ (if is_zero then map (action_of world) (block_slice walked unclean otherwise) else map (action_of world) (block_slice walked unclean block))
        chosen true = refl
        chosen false = refl

        at_clean : (here : Bool) → is_clean unclean condition ≡ here → (clean : Bool) → all_clean around.conditions ≡ clean
            → Both (run_all (if expr_word world now condition == 0 then map (action_of world) otherwise else map (action_of world) block) now)
            (acts (kept_if clean (stmt_if here (stmt_of number (kind.If condition (block_slice walked unclean block) (block_slice walked unclean otherwise) has_else)))) beside)
        at_clean false h true e = branch false true h e (expr_word world now condition == 0)
        at_clean false h false e = branch false false h e (expr_word world now condition == 0)
        at_clean true h false e = branch true false h e (expr_word world now condition == 0)
        at_clean true h true e =
            let other = action-If world number condition (block_slice walked unclean block) (block_slice walked unclean otherwise) has_else beside in
            let same = same_word walked unclean world now beside agree condition h in
            subst (λ (m : Moment). Both (run_all (if expr_word world now condition == 0 then map (action_of world) otherwise else map (action_of world) block) now) m)
            (ap (λ (actions : List StmtAction). run_all actions beside) (chosen (expr_word world now condition == 0))
            ∙ (ap (λ (word : ℕ). run_all (if word == 0 then map (action_of world) (block_slice walked unclean otherwise) else map (action_of world) (block_slice walked unclean block)) beside) same ∙ sym other))
            (branch true true h e (expr_word world now condition == 0))

    fors : (number var : ℕ) (range : TypedRange) (body : List TypedStmt) → BlockFollows body → Follows (stmt_of number (kind.For var range body))
    fors number var range body on_body around clean e sounds now beside agree =
        rw (action-For world number var range body now, slice-For number walked unclean var range body) (at_clean clean e)
      where
        lines : AllByRecursion SoundLine (line_of number around (Turns var range) ∷ block_lines body (within_loop range around))
        lines = subst (AllByRecursion SoundLine) (lines-For number var range body around) sounds

        turns_both : all_clean around.conditions ≡ true → (turns : List ℤ) (now beside : Moment) → Both now beside
            → Both (fold (λ reached turn. acts body (set_var var (word_of turn) reached)) now turns)
            (fold (λ reached turn. acts (block_slice walked unclean body) (set_var var (word_of turn) reached)) beside turns)
        turns_both e [] now beside agree = agree
        turns_both e (turn ∷ turns) now beside agree =
            turns_both e turns (acts body (set_var var (word_of turn) now)) (acts (block_slice walked unclean body) (set_var var (word_of turn) beside))
            (on_body (within_loop range around) true e lines.1 (set_var var (word_of turn) now) (set_var var (word_of turn) beside) (set_both walked unclean now beside agree var (word_of turn) (word_of turn) refl))

        turns_one : all_clean around.conditions ≡ false → (turns : List ℤ) (now beside : Moment) → Both now beside
            → Both (fold (λ reached turn. acts body (set_var var (word_of turn) reached)) now turns) beside
        turns_one e [] now beside agree = agree
        turns_one e (turn ∷ turns) now beside agree =
            turns_one e turns (acts body (set_var var (word_of turn) now)) beside
            (on_body (within_loop range around) false e lines.1 (set_var var (word_of turn) now) beside (set_one walked unclean now beside agree var (word_of turn) (lines.0.0 e)))

        same_turns : range_numbers world now range ≡ range_numbers world beside range
        same_turns =
            ap (λ (word : ℕ). numbers (number' word) (number' (expr_word world now range.hi))) (same_word walked unclean world now beside agree range.lo lines.0.1.0)
            ∙ ap (λ (word : ℕ). numbers (number' (expr_word world beside range.lo)) (number' word)) (same_word walked unclean world now beside agree range.hi lines.0.1.1)
          where
            number' : ℕ → ℤ
            number' = w.number ty.I32

        at_clean : (clean : Bool) → all_clean around.conditions ≡ clean
            → Both (fold (λ reached turn. acts body (set_var var (word_of turn) reached)) now (range_numbers world now range))
            (acts (kept_if clean (stmt_of number (kind.For var range (block_slice walked unclean body)) ∷ [])) beside)
        at_clean false e = turns_one e (range_numbers world now range) now beside agree
        at_clean true e =
            subst (λ (m : Moment). Both (fold (λ reached turn. acts body (set_var var (word_of turn) reached)) now (range_numbers world now range)) m)
            (ap (λ (turns : List ℤ). fold (λ reached turn. acts (block_slice walked unclean body) (set_var var (word_of turn) reached)) beside turns) same_turns
            ∙ sym (action-For world number var range (block_slice walked unclean body) beside))
            (turns_both e (range_numbers world now range) now beside agree)

    pub follows : (stmt : TypedStmt) → Follows stmt
    follows = by_stmts Follows
        (λ number var value around clean e sounds. sets (stmt_of number (kind.Let var value)) var value (action-Let world number var value) (slice-Let number walked unclean var value) around clean e
        (subst (AllByRecursion SoundLine) (lines-Let number var value around) sounds).0)
        (λ number var value around clean e sounds. sets (stmt_of number (kind.Assign var value)) var value (action-Assign world number var value) (slice-Assign number walked unclean var value) around clean e
        (subst (AllByRecursion SoundLine) (lines-Assign number var value around) sounds).0)
        writes
        (λ number condition block otherwise has_else b o. ifs number condition block otherwise has_else (block_follows block b) (block_follows otherwise o))
        (λ number var range body b. fors number var range body (block_follows body b))

    all_follow : (block : List TypedStmt) → AllByRecursion Follows block
    all_follow [] = tt
    all_follow (stmt ∷ block) = (follows stmt, all_follow block)

    pub body_follows : (block : List TypedStmt) → BlockFollows block
    body_follows block = block_follows block (all_follow block)
