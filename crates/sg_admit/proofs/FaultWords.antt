-- The faults of statements, and reads that are good.
use Rattle.std.proofs.Common.{◌≡◌, ℕ, ◌+◌, ◌*◌, ◌<◌, ◌≤◌, Bool, true, false, not, ◌&&◌, ◌||◌, if◌then◌else◌, nat_le, List, [], ◌∷◌, ◌++◌, map, length, drop, get_or, Option, Some, None, refl, sym, ap, ◌∙◌, arith}
use Rattle.std.specs.List.{list_all, flat_map}
use Rattle.std.specs.Option.{option_or}
use Rattle.std.proofs.lemmas.List.{drop_more, drop_all}
use Rattle.std.proofs.lemmas.List.Folds.{list_all-append, list_all-map}
use Rattle.sg_flat.specs.declared.effects.Way.{Way}
use Rattle.sg_types.specs.declared.typed.TypedExpr.{TypedExpr}
use Rattle.sg_types.specs.declared.typed.TypedRange.{TypedRange}
use Rattle.sg_types.specs.declared.typed.Form.{Form}
use Rattle.sg_types.specs.declared.typed.Form.TheVariants as form
use Rattle.sg_types.specs.declared.typed.Form.TheOpen.{TypedExpr-F}
use Rattle.sg_types.specs.declared.typed.TypedKind.{TypedKind}
use Rattle.sg_types.specs.declared.typed.TypedKind.TheVariants as kind
use Rattle.sg_types.specs.declared.typed.TypedStmt.{TypedStmt}
use Rattle.sg_types.specs.declared.typed.TypedDomain.{TypedDomain}
use Rattle.sg_types.specs.declared.typed.TypedDomain.TheVariants as domain
use Rattle.sg_types.specs.Values.{is_own}
use Rattle.sg_admit.specs.declared.admitted.AdmitFault.{AdmitFault}
use Rattle.sg_admit.specs.Lines.{Sets, Writes, Tests, Turns, Opens, Around, Line, line_of, nothing_round, within_if, within_loop, stmt_lines, block_lines, domain_ranges}
use Rattle.sg_admit.specs.Clean.{is_clean}
use Rattle.sg_admit.specs.Slices.{stmt_of, may_activate}
use Rattle.sg_admit.specs.Bounds.{is_constant_range, turns_of, turns_over}
use Rattle.sg_admit.specs.Limits.{most_loops, most_loop_turns}
use Rattle.sg_admit.specs.Rules.{Facts, name_step, name_of, are_names, SeenPart, seen_step, reads_in, has_good_reads, range_exprs, is_first, is_own_read, is_unaccumulated, is_bounded, is_foreseen, has_good_asks, is_unwritten}
use Rattle.sg_admit.specs.Admission.{first_broken, line_fault, first_fault}
use Rattle.sg_admit.specs.steps.Reading.{turns_if_constant, turns_if_few, IsRound, is_good_range, is_askable_range}
use Rattle.sg_admit.specs.steps.Marked.{unclean_of}
use Rattle.sg_admit.specs.declared.marks.Marks.{Marks}
use Rattle.sg_types.proofs.Uses as folds
use Rattle.sg_types.proofs.Uses.{by_exprs}
use Rattle.sg_admit.proofs.Asked.{ranges_ask}
use Rattle.sg_admit.proofs.StmtWords.{lines-Let, lines-Assign, lines-Write, lines-If, lines-For}

and_true : (a : Bool) → (a && true) ≡ a
and_true true = refl
and_true false = refl

or_none : (o : Option AdmitFault) → option_or o None ≡ o
or_none None = refl
or_none (Some fault) = refl

or_assoc : (a b c : Option AdmitFault) → option_or (option_or a b) c ≡ option_or a (option_or b c)
or_assoc None b c = refl
or_assoc (Some fault) b c = refl

-- ---- reads

abbrev its_reads : TypedExpr-F SeenPart SeenPart → SeenPart
its_reads expr = expr.form

abbrev its_name : TypedExpr-F (Option ℕ) (Option ℕ) → Option ℕ
its_name expr = expr.form

each_same : {X Y : Type 0} (f g : X → Y) → ((x : X) → f x ≡ g x) → (xs : List X) → map f xs ≡ map g xs
each_same f g h [] = refl
each_same f g h (x ∷ xs) = ap (λ y. y ∷ map f xs) (h x) ∙ ap (λ ys. g x ∷ ys) (each_same f g h xs)

map_twice : {X Y Z : Type 0} (g : Y → Z) (f : X → Y) (xs : List X) → map g (map f xs) ≡ map (λ x. g (f x)) xs
map_twice g f [] = refl
map_twice g f (x ∷ xs) = ap (λ zs. g (f x) ∷ zs) (map_twice g f xs)

module _ (vars : ℕ) (good : ℕ → ℕ → Bool → Bool) where
  reads_name : (expr : TypedExpr) → (reads_in vars good expr).0 ≡ name_of expr
  reads_name = by_exprs (λ expr. (reads_in vars good expr).0 ≡ name_of expr)
      (λ ty word. name (folds.fold-Literal (seen_step vars good) its_reads ty word) ∙ sym (folds.fold-Literal name_step its_name ty word))
      (λ ty word. name (folds.fold-Constant (seen_step vars good) its_reads ty word) ∙ sym (folds.fold-Constant name_step its_name ty word))
      (λ ty var. name (folds.fold-Var (seen_step vars good) its_reads ty var) ∙ sym (folds.fold-Var name_step its_name ty var))
      (λ ty layout place index h. name (folds.fold-Read (seen_step vars good) its_reads ty layout place index) ∙ sym (folds.fold-Read name_step its_name ty layout place index))
      (λ ty inner h. name (folds.fold-Paren (seen_step vars good) its_reads ty inner) ∙ sym (folds.fold-Paren name_step its_name ty inner))
      (λ ty op operand h. name (folds.fold-Un (seen_step vars good) its_reads ty op operand) ∙ sym (folds.fold-Un name_step its_name ty op operand))
      (λ ty op left right h k. name (folds.fold-Bin (seen_step vars good) its_reads ty op left right) ∙ sym (folds.fold-Bin name_step its_name ty op left right))
      (λ ty a b shift h k l. name (folds.fold-Mulq (seen_step vars good) its_reads ty a b shift) ∙ sym (folds.fold-Mulq name_step its_name ty a b shift))
      (λ ty inner h. name (folds.fold-Convert (seen_step vars good) its_reads ty inner) ∙ sym (folds.fold-Convert name_step its_name ty inner))
      (λ ty layout index h. name (folds.fold-Active (seen_step vars good) its_reads ty layout index) ∙ sym (folds.fold-Active name_step its_name ty layout index))
    where
      name : {x y : SeenPart} → x ≡ y → x.0 ≡ y.0
      name e = ap (λ (seen : SeenPart). seen.0) e

  -- a read is good by its field and its indices, and those in it are
  pub read_good : (expr : TypedExpr) (layout place : ℕ) (index : List TypedExpr) → expr.form ≡ form.Read layout place index
      → has_good_reads vars good expr ≡ (good layout place (are_names vars 0 (map name_of index)) && list_all (has_good_reads vars good) index)
  read_good expr layout place index is =
      ap (λ (it : Form). has_good_reads vars good (record { ty = expr.ty; form = it })) is
      ∙ (ap (λ (seen : SeenPart). seen.1) (folds.fold-Read (seen_step vars good) its_reads expr.ty layout place index)
      ∙ (ap (λ (names : List (Option ℕ)). good layout place (are_names vars 0 names) && list_all (λ (part : SeenPart). part.1) (map (reads_in vars good) index))
      (map_twice (λ (part : SeenPart). part.0) (reads_in vars good) index ∙ each_same (λ (x : TypedExpr). (reads_in vars good x).0) name_of reads_name index)
      ∙ ap (λ (b : Bool). good layout place (are_names vars 0 (map name_of index)) && b) (list_all-map (λ (part : SeenPart). part.1) (reads_in vars good) index)))

  -- a question is good by its indices: it reads no field
  pub asked_reads : (expr : TypedExpr) (layout : ℕ) (index : List TypedExpr) → expr.form ≡ form.Active layout index
      → has_good_reads vars good expr ≡ list_all (has_good_reads vars good) index
  asked_reads expr layout index is =
      ap (λ (it : Form). has_good_reads vars good (record { ty = expr.ty; form = it })) is
      ∙ (ap (λ (seen : SeenPart). seen.1) (folds.fold-Active (seen_step vars good) its_reads expr.ty layout index)
      ∙ list_all-map (λ (part : SeenPart). part.1) (reads_in vars good) index)

  pub ranges_good : (ranges : List TypedRange) → list_all (has_good_reads vars good) (flat_map range_exprs ranges) ≡ list_all (is_good_range vars good) ranges
  ranges_good [] = refl
  ranges_good (range ∷ ranges) =
      list_all-append (has_good_reads vars good) (range_exprs range) (flat_map range_exprs ranges)
      ∙ (ap (λ (b : Bool). (has_good_reads vars good range.lo && b) && list_all (has_good_reads vars good) (flat_map range_exprs ranges)) (and_true (has_good_reads vars good range.hi))
      ∙ ap (λ (b : Bool). is_good_range vars good range && b) (ranges_good ranges))

-- ---- faults

module _ (facts : Facts) where
  abbrev own : TypedExpr → Bool
  own = has_good_reads facts.vars (is_own_read facts)

  abbrev acc : TypedExpr → Bool
  acc = has_good_reads facts.vars (is_unaccumulated facts)

  abbrev asks : TypedExpr → Bool
  asks = has_good_asks (is_unwritten facts)

  pub first_append : (xs ys : List Line) → first_fault facts (xs ++ ys) ≡ option_or (first_fault facts xs) (first_fault facts ys)
  first_append [] ys = refl
  first_append (x ∷ xs) ys = ap (option_or (line_fault facts x)) (first_append xs ys) ∙ sym (or_assoc (line_fault facts x) (first_fault facts xs) (first_fault facts ys))

  -- the fault of a line with one expression, which only the rules on reads and questions look at
  abbrev pub expr_fault : ℕ → TypedExpr → Option AdmitFault
  expr_fault number expr = first_broken number 1 (true ∷ own expr ∷ acc expr ∷ true ∷ true ∷ asks expr ∷ [])

  alone : (number : ℕ) (expr : TypedExpr) → first_broken number 1 (true ∷ (own expr && true) ∷ (acc expr && true) ∷ true ∷ true ∷ (asks expr && true) ∷ []) ≡ expr_fault number expr
  alone number expr =
      ap (λ (b : Bool). first_broken number 1 (true ∷ b ∷ (acc expr && true) ∷ true ∷ true ∷ (asks expr && true) ∷ [])) (and_true (own expr))
      ∙ (ap (λ (b : Bool). first_broken number 1 (true ∷ own expr ∷ b ∷ true ∷ true ∷ (asks expr && true) ∷ [])) (and_true (acc expr))
      ∙ ap (λ (b : Bool). first_broken number 1 (true ∷ own expr ∷ acc expr ∷ true ∷ true ∷ b ∷ [])) (and_true (asks expr)))

  pub fault-Let : (stmt : TypedStmt) (var : ℕ) (value : TypedExpr) → stmt.kind ≡ kind.Let var value → (around : Around) → first_fault facts (stmt_lines stmt around) ≡ expr_fault stmt.number value
  fault-Let stmt var value is around =
      ap (λ (it : TypedKind). first_fault facts (stmt_lines (stmt_of stmt.number it) around)) is
      ∙ (ap (first_fault facts) (lines-Let stmt.number var value around) ∙ (or_none (line_fault facts (line_of stmt.number around (Sets var value))) ∙ alone stmt.number value))

  pub fault-Assign : (stmt : TypedStmt) (var : ℕ) (value : TypedExpr) → stmt.kind ≡ kind.Assign var value → (around : Around) → first_fault facts (stmt_lines stmt around) ≡ expr_fault stmt.number value
  fault-Assign stmt var value is around =
      ap (λ (it : TypedKind). first_fault facts (stmt_lines (stmt_of stmt.number it) around)) is
      ∙ (ap (first_fault facts) (lines-Assign stmt.number var value around) ∙ (or_none (line_fault facts (line_of stmt.number around (Sets var value))) ∙ alone stmt.number value))

  pub fault-Write : (stmt : TypedStmt) (layout place : ℕ) (index : List TypedExpr) (way : Way) (value : TypedExpr) → stmt.kind ≡ kind.Write layout place index way value → (around : Around)
      → first_fault facts (stmt_lines stmt around) ≡ line_fault facts (line_of stmt.number around (Writes layout place index way value))
  fault-Write stmt layout place index way value is around =
      ap (λ (it : TypedKind). first_fault facts (stmt_lines (stmt_of stmt.number it) around)) is
      ∙ (ap (first_fault facts) (lines-Write stmt.number layout place index way value around) ∙ or_none (line_fault facts (line_of stmt.number around (Writes layout place index way value))))

  pub fault-If : (stmt : TypedStmt) (condition : TypedExpr) (block otherwise : List TypedStmt) (has_else : Bool) → stmt.kind ≡ kind.If condition block otherwise has_else → (around : Around)
      → first_fault facts (stmt_lines stmt around)
      ≡ option_or (expr_fault stmt.number condition) (option_or (first_fault facts (block_lines block (within_if condition around))) (first_fault facts (block_lines otherwise (within_if condition around))))
  fault-If stmt condition block otherwise has_else is around =
      ap (λ (it : TypedKind). first_fault facts (stmt_lines (stmt_of stmt.number it) around)) is
      ∙ (ap (first_fault facts) (lines-If stmt.number condition block otherwise has_else around)
      ∙ (ap (option_or (line_fault facts (line_of stmt.number around (Tests condition)))) (first_append (block_lines block (within_if condition around)) (block_lines otherwise (within_if condition around)))
      ∙ ap (λ (o : Option AdmitFault). option_or o (option_or (first_fault facts (block_lines block (within_if condition around))) (first_fault facts (block_lines otherwise (within_if condition around)))))
      (alone stmt.number condition)))

  -- the fault of an inner loop, where it is known whether it is bounded
  abbrev pub range_fault : ℕ → TypedRange → Bool → Option AdmitFault
  range_fault number range bounded =
      first_broken number 1 (true ∷ is_good_range facts.vars (is_own_read facts) range ∷ is_good_range facts.vars (is_unaccumulated facts) range ∷ true ∷ bounded ∷ is_askable_range (is_unwritten facts) range ∷ [])

  both_alone : (number : ℕ) (range : TypedRange) (bounded : Bool)
      → first_broken number 1 (true ∷ (own range.lo && (own range.hi && true)) ∷ (acc range.lo && (acc range.hi && true)) ∷ true ∷ bounded ∷ (asks range.lo && (asks range.hi && true)) ∷ []) ≡ range_fault number range bounded
  both_alone number range bounded =
      ap (λ (b : Bool). first_broken number 1 (true ∷ (own range.lo && b) ∷ (acc range.lo && (acc range.hi && true)) ∷ true ∷ bounded ∷ (asks range.lo && (asks range.hi && true)) ∷ [])) (and_true (own range.hi))
      ∙ (ap (λ (b : Bool). first_broken number 1 (true ∷ is_good_range facts.vars (is_own_read facts) range ∷ (acc range.lo && b) ∷ true ∷ bounded ∷ (asks range.lo && (asks range.hi && true)) ∷ [])) (and_true (acc range.hi))
      ∙ ap (λ (b : Bool). first_broken number 1 (true ∷ is_good_range facts.vars (is_own_read facts) range ∷ is_good_range facts.vars (is_unaccumulated facts) range ∷ true ∷ bounded ∷ (asks range.lo && b) ∷ [])) (and_true (asks range.hi)))

  pub fault-For : (stmt : TypedStmt) (var : ℕ) (range : TypedRange) (body : List TypedStmt) → stmt.kind ≡ kind.For var range body → (around : Around)
      → first_fault facts (stmt_lines stmt around) ≡ option_or (range_fault stmt.number range (is_bounded around (Turns var range))) (first_fault facts (block_lines body (within_loop range around)))
  fault-For stmt var range body is around =
      ap (λ (it : TypedKind). first_fault facts (stmt_lines (stmt_of stmt.number it) around)) is
      ∙ (ap (first_fault facts) (lines-For stmt.number var range body around)
      ∙ ap (λ (o : Option AdmitFault). option_or o (first_fault facts (block_lines body (within_loop range around)))) (both_alone stmt.number range (is_bounded around (Turns var range))))

  -- the fault of the kernel's loop, by its ranges
  abbrev pub opens_fault : List TypedRange → Option AdmitFault
  opens_fault ranges = first_broken 0 1 (true
      ∷ list_all (is_good_range facts.vars (is_own_read facts)) ranges
      ∷ list_all (is_good_range facts.vars (is_unaccumulated facts)) ranges
      ∷ true ∷ list_all is_constant_range ranges
      ∷ list_all (is_askable_range (is_unwritten facts)) ranges ∷ [])

  pub fault-Opens : (ranges : List TypedRange) → line_fault facts (line_of 0 nothing_round (Opens ranges)) ≡ opens_fault ranges
  fault-Opens ranges =
      ap (λ (b : Bool). first_broken 0 1 (true ∷ b ∷ list_all acc (flat_map range_exprs ranges) ∷ true ∷ list_all is_constant_range ranges ∷ list_all asks (flat_map range_exprs ranges) ∷ [])) (ranges_good facts.vars (is_own_read facts) ranges)
      ∙ (ap (λ (b : Bool). first_broken 0 1 (true ∷ list_all (is_good_range facts.vars (is_own_read facts)) ranges ∷ b ∷ true ∷ list_all is_constant_range ranges ∷ list_all asks (flat_map range_exprs ranges) ∷ [])) (ranges_good facts.vars (is_unaccumulated facts) ranges)
      ∙ ap (λ (b : Bool). first_broken 0 1 (true ∷ list_all (is_good_range facts.vars (is_own_read facts)) ranges ∷ list_all (is_good_range facts.vars (is_unaccumulated facts)) ranges ∷ true ∷ list_all is_constant_range ranges ∷ b ∷ [])) (ranges_ask (is_unwritten facts) ranges))

abbrev pub is_there : Option ℕ → Bool
is_there None = false
is_there (Some n) = true

-- a loop is bounded where its turns can be told and are few
pub bounded_is : (around : Around) (var : ℕ) (range : TypedRange) (depth turns : ℕ) → length around.ranges ≡ depth → turns_over around.ranges ≡ turns
    → is_bounded around (Turns var range) ≡ is_there (turns_if_few depth turns (turns_if_constant range))
bounded_is around var range depth turns d t =
    ap (λ (n : ℕ). is_constant_range range && (nat_le (n + 1) most_loops && nat_le (turns_of range * turns_over around.ranges) most_loop_turns)) d
    ∙ (ap (λ (n : ℕ). is_constant_range range && (nat_le (depth + 1) most_loops && nat_le (turns_of range * n) most_loop_turns)) t ∙ at (is_constant_range range))
  where
    few : (b : Bool) → b ≡ is_there (if b then Some (turns_of range * turns) else None)
    few true = refl
    few false = refl

    at : (constant : Bool) → (constant && (nat_le (depth + 1) most_loops && nat_le (turns_of range * turns) most_loop_turns)) ≡ is_there (turns_if_few depth turns (if constant then Some (turns_of range) else None))
    at true = few (nat_le (depth + 1) most_loops && nat_le (turns_of range * turns) most_loop_turns)
    at false = refl

-- the same, as the code meets it
pub read_good_is : (vars : ℕ) (good : ℕ → ℕ → Bool → Bool) (expr : TypedExpr) (layout place : ℕ) (index given other : List TypedExpr) → expr.form ≡ form.Read layout place index → given ≡ index → other ≡ index
    → (named hit rest : Bool) → named ≡ are_names vars 0 (map name_of given) → hit ≡ good layout place named → rest ≡ list_all (has_good_reads vars good) other → has_good_reads vars good expr ≡ (hit && rest)
read_good_is vars good expr layout place index given other is eg eo named hit rest n h r =
    read_good vars good expr layout place index is
    ∙ (ap (λ (b : Bool). good layout place b && list_all (has_good_reads vars good) index) (sym (n ∙ ap (λ (xs : List TypedExpr). are_names vars 0 (map name_of xs)) eg))
    ∙ (ap (λ (b : Bool). b && list_all (has_good_reads vars good) index) (sym h)
    ∙ ap (λ (b : Bool). hit && b) (sym (r ∙ ap (list_all (has_good_reads vars good)) eo))))

-- a write, by what is known of it
pub write_is : (facts : Facts) (number layout place : ℕ) (index : List TypedExpr) (way : Way) (value : TypedExpr) (around : Around) (one_way own_good acc_good foreseen asks_good clean : Bool)
    → one_way ≡ is_first (facts.first layout place) way
    → own_good ≡ ((not (is_own way) || are_names facts.vars 0 (map name_of index)) && (list_all (has_good_reads facts.vars (is_own_read facts)) index && has_good_reads facts.vars (is_own_read facts) value))
    → acc_good ≡ (list_all (has_good_reads facts.vars (is_unaccumulated facts)) index && has_good_reads facts.vars (is_unaccumulated facts) value)
    → foreseen ≡ (not (may_activate facts.walked layout way) || (list_all (is_clean facts.unclean) index && clean))
    → asks_good ≡ (list_all (has_good_asks (is_unwritten facts)) index && has_good_asks (is_unwritten facts) value)
    → list_all (is_clean facts.unclean) around.conditions ≡ clean
    → first_broken number 1 (one_way ∷ own_good ∷ acc_good ∷ foreseen ∷ true ∷ asks_good ∷ []) ≡ line_fault facts (line_of number around (Writes layout place index way value))
write_is facts number layout place index way value around one_way own_good acc_good foreseen asks_good clean w o a f g c =
    ap (λ (b : Bool). first_broken number 1 (b ∷ own_good ∷ acc_good ∷ foreseen ∷ true ∷ asks_good ∷ [])) w
    ∙ (ap (λ (b : Bool). first_broken number 1 (first ∷ b ∷ acc_good ∷ foreseen ∷ true ∷ asks_good ∷ []))
    (o ∙ ap (λ (b : Bool). (not (is_own way) || are_names facts.vars 0 (map name_of index)) && b) (whole (has_good_reads facts.vars (is_own_read facts))))
    ∙ (ap (λ (b : Bool). first_broken number 1 (first ∷ placed ∷ b ∷ foreseen ∷ true ∷ asks_good ∷ [])) (a ∙ whole (has_good_reads facts.vars (is_unaccumulated facts)))
    ∙ (ap (λ (b : Bool). first_broken number 1 (first ∷ placed ∷ unread ∷ b ∷ true ∷ asks_good ∷ []))
    (f ∙ ap (λ (b : Bool). not (may_activate facts.walked layout way) || (list_all (is_clean facts.unclean) index && b)) (sym c))
    ∙ ap (λ (b : Bool). first_broken number 1 (first ∷ placed ∷ unread ∷ is_foreseen facts around (Writes layout place index way value) ∷ true ∷ b ∷ [])) (g ∙ whole (has_good_asks (is_unwritten facts))))))
  where
    first : Bool
    first = is_first (facts.first layout place) way

    placed : Bool
    placed = (not (is_own way) || are_names facts.vars 0 (map name_of index)) && list_all (has_good_reads facts.vars (is_own_read facts)) (index ++ value ∷ [])

    unread : Bool
    unread = list_all (has_good_reads facts.vars (is_unaccumulated facts)) (index ++ value ∷ [])

    whole : (good : TypedExpr → Bool) → (list_all good index && good value) ≡ list_all good (index ++ value ∷ [])
    whole good = sym (list_all-append good index (value ∷ []) ∙ ap (λ (b : Bool). list_all good index && b) (and_true (good value)))

-- the statement of a block that comes next
pub block_more : (facts : Facts) (block : List TypedStmt) (i : ℕ) (stmt : TypedStmt) → i < length block → stmt ≡ get_or block i stmt → (around : Around) (here : Option AdmitFault)
    → here ≡ first_fault facts (stmt_lines stmt around) → first_fault facts (block_lines (drop i block) around) ≡ option_or here (first_fault facts (block_lines (drop (i + 1) block) around))
block_more facts block i stmt l is around here h =
    ap (λ (stmts : List TypedStmt). first_fault facts (block_lines stmts around)) (drop_more block i stmt l)
    ∙ (first_append facts (stmt_lines (get_or block i stmt) around) (block_lines (drop (i + 1) block) around)
    ∙ ap (λ (o : Option AdmitFault). option_or o (first_fault facts (block_lines (drop (i + 1) block) around))) (ap (λ (s : TypedStmt). first_fault facts (stmt_lines s around)) (sym is) ∙ sym h))

pub block_done : (facts : Facts) (block : List TypedStmt) (i : ℕ) → length block ≤ i → (around : Around) → None ≡ first_fault facts (block_lines (drop i block) around)
block_done facts block i l around = sym (ap (λ (stmts : List TypedStmt). first_fault facts (block_lines stmts around)) (drop_all i block l))

-- an `if`, by what is found of its condition and its blocks
pub if_found : (facts : Facts) (stmt : TypedStmt) (condition : TypedExpr) (block otherwise : List TypedStmt) (has_else : Bool) → stmt.kind ≡ kind.If condition block otherwise has_else → (around : Around)
    → (here first second : Option AdmitFault) → here ≡ expr_fault facts stmt.number condition → first ≡ first_fault facts (block_lines block (within_if condition around))
    → second ≡ first_fault facts (block_lines otherwise (within_if condition around)) → option_or here (option_or first second) ≡ first_fault facts (stmt_lines stmt around)
if_found facts stmt condition block otherwise has_else is around here first second h f s =
    ap (λ (o : Option AdmitFault). option_or o (option_or first second)) h
    ∙ (ap (λ (o : Option AdmitFault). option_or (expr_fault facts stmt.number condition) (option_or o second)) f
    ∙ (ap (λ (o : Option AdmitFault). option_or (expr_fault facts stmt.number condition) (option_or (first_fault facts (block_lines block (within_if condition around))) o)) s
    ∙ sym (fault-If facts stmt condition block otherwise has_else is around)))

-- an inner loop, by what is found of its range and its body
pub for_found : (facts : Facts) (stmt : TypedStmt) (var : ℕ) (range : TypedRange) (body : List TypedStmt) → stmt.kind ≡ kind.For var range body → (around : Around) (depth turns : ℕ)
    → length around.ranges ≡ depth → turns_over around.ranges ≡ turns → (inside : Option ℕ) → inside ≡ turns_if_few depth turns (turns_if_constant range) → (bounded : Bool) → bounded ≡ is_there inside
    → (here more : Option AdmitFault) → here ≡ range_fault facts stmt.number range bounded → more ≡ first_fault facts (block_lines body (within_loop range around))
    → option_or here more ≡ first_fault facts (stmt_lines stmt around)
for_found facts stmt var range body is around depth turns d t inside i bounded b here more h m =
    ap (λ (o : Option AdmitFault). option_or o more) (h ∙ ap (range_fault facts stmt.number range) (b ∙ (ap is_there i ∙ sym (bounded_is around var range depth turns d t))))
    ∙ (ap (option_or (range_fault facts stmt.number range (is_bounded around (Turns var range)))) m ∙ sym (fault-For facts stmt var range body is around))

pub opens_found : (facts : Facts) (given : TypedDomain) (ranges slice : List TypedRange) → given ≡ domain.Ranges ranges → slice ≡ ranges → (found : Option AdmitFault) → found ≡ opens_fault facts slice
    → found ≡ line_fault facts (line_of 0 nothing_round (Opens (domain_ranges given)))
opens_found facts given ranges slice is e found h =
    h ∙ (ap (opens_fault facts) e ∙ (sym (fault-Opens facts ranges) ∙ ap (λ (it : TypedDomain). line_fault facts (line_of 0 nothing_round (Opens (domain_ranges it)))) (sym is)))

-- what stands round a statement in an `if`,
pub round_within_if : (marks : Marks) (clean inside : Bool) (depth turns : ℕ) (around : Around) (condition : TypedExpr) → IsRound marks clean depth turns around
    → inside ≡ (is_clean (unclean_of marks) condition && clean) → IsRound marks inside depth turns (within_if condition around)
round_within_if marks clean inside depth turns around condition round e = record {
  conditions = ap (λ (b : Bool). is_clean (unclean_of marks) condition && b) round.conditions ∙ sym e;
  loops = round.loops;
  product = round.product;
}

few_turns : (depth turns product : ℕ) (own : ℕ) (constant : Bool) → Some product ≡ turns_if_few depth turns (if constant then Some own else None) → own * turns ≡ product
few_turns depth turns product own false h = absurd (cc)
few_turns depth turns product own true h = at (nat_le (depth + 1) most_loops && nat_le (own * turns) most_loop_turns) h
  where
    at : (few : Bool) → Some product ≡ (if few then Some (own * turns) else None) → own * turns ≡ product
    at true h = cc
    at false h = absurd (cc)

-- and in an inner loop of few turns
pub round_within_loop : (marks : Marks) (clean : Bool) (depth turns product : ℕ) (around : Around) (range : TypedRange) → IsRound marks clean depth turns around
    → Some product ≡ turns_if_few depth turns (turns_if_constant range) → IsRound marks clean (depth + 1) product (within_loop range around)
round_within_loop marks clean depth turns product around range round h = record {
  conditions = round.conditions;
  loops = omega (arith, round.loops);
  product = ap (λ (n : ℕ). turns_of range * n) round.product ∙ few_turns depth turns product (turns_of range) (is_constant_range range) h;
}
