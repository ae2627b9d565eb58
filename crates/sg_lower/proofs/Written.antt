-- Each line of an admitted kernel writes its field as the lines do, with as many indices as its layout has axes.
use Rattle.std.proofs.Common.{◌≡◌, ℕ, Bool, true, false, not, ◌&&◌, ◌||◌, ◌==◌, List, [], ◌∷◌, map, length, refl, sym, ap, subst, ◌∙◌}
use Rattle.std.specs.List.{list_all, list_any, AllByRecursion}
use Rattle.std.proofs.lemmas.Bool.{and_parts, and_from, both_ways, eq-eqb}
use Rattle.sg_types.specs.declared.typed.TypedExpr.{TypedExpr}
use Rattle.sg_types.specs.declared.typed.TypedRange.{TypedRange}
use Rattle.sg_types.specs.declared.typed.TypedKind.TheVariants as kind
use Rattle.sg_types.specs.declared.typed.TypedStmt.{TypedStmt}
use Rattle.sg_types.specs.declared.typed.TypedKernel.{TypedKernel}
use Rattle.sg_types.specs.Expressions.{equals_some}
use Rattle.sg_types.specs.WellTyped.{axes_in}
use Rattle.sg_types.specs.Values.{is_own}
use Rattle.sg_types.proofs.Uses.{all_stmts}
use Rattle.sg_admit.specs.declared.ways.FieldWay.{FieldWay}
use Rattle.sg_admit.specs.Lines.{Deed, Sets, Writes, Tests, Turns, Opens, Around, Line, nothing_round, within_if, within_loop, stmt_lines, block_lines, kernel_lines}
use Rattle.sg_admit.specs.Slices.{stmt_of}
use Rattle.sg_admit.specs.Bounds.{is_constant_range}
use Rattle.sg_admit.specs.Rules.{Facts, facts_of, deed_ways, ways_in, is_of_field, name_of, are_names, is_unaccumulated, are_good_reads}
use Rattle.sg_admit.specs.Laws.{KeepsAll}
use Rattle.sg_lower.specs.declared.lowering.Field.{Field}
use Rattle.sg_lower.specs.steps.Basis.{Basis, is_owned}
use Rattle.sg_lower.specs.steps.Fitting.{can_be_lowered, stmt_fits}
use Rattle.sg_lower.specs.steps.Using.{line_uses}
use Rattle.sg_lower.proofs.Fitted.{fits-Write, fits-If, fits-For}
use Rattle.sg_lower.proofs.LineWords.{lines-Let, lines-Assign, lines-Write, lines-If, lines-For, all_mapped}
use Rattle.sg_lower.proofs.Stepping.{write_kept}
use Rattle.sg_lower.proofs.Sounding.{Keeps, rules_kept, any_front, any_back}
use Rattle.sg_lower.proofs.UsedReads.{all_append}
use Rattle.sg_lower.proofs.Ways.{IsWritten, GoodUse, lines_good, first_is}

-- ---- a write of a line is one of the lines

-- whatever holds of the write holds of one of the lines' writes
abbrev IsIn : List Line → Deed → Type 0
IsIn lines (Writes layout place index way value) = (p : FieldWay → Bool) → p (record { layout = layout; place = place; way = way }) ≡ true → list_any p (ways_in lines) ≡ true
IsIn lines (Sets var value) = Unit {0}
IsIn lines (Tests condition) = Unit {0}
IsIn lines (Turns var range) = Unit {0}
IsIn lines (Opens ranges) = Unit {0}

or_first : (a b : Bool) → a ≡ true → (a || b) ≡ true
or_first true b h = refl
or_first false b h = absurd (both_ways false refl h)

head_in : (deed : Deed) (line : Line) → line.deed ≡ deed → (lines : List Line) → IsIn (line ∷ lines) deed
head_in (Writes layout place index way value) line is lines = λ p holds.
    any_front p (deed_ways line.deed) (ways_in lines) (subst (λ (deed : Deed). list_any p (deed_ways deed) ≡ true) (sym is) (or_first (p (record { layout = layout; place = place; way = way })) false holds))
head_in (Sets var value) line is lines = tt
head_in (Tests condition) line is lines = tt
head_in (Turns var range) line is lines = tt
head_in (Opens ranges) line is lines = tt

more_in : (first : Line) (lines : List Line) (deed : Deed) → IsIn lines deed → IsIn (first ∷ lines) deed
more_in first lines (Writes layout place index way value) h = λ p holds. any_back p (deed_ways first.deed) (ways_in lines) (h p holds)
more_in first lines (Sets var value) h = tt
more_in first lines (Tests condition) h = tt
more_in first lines (Turns var range) h = tt
more_in first lines (Opens ranges) h = tt

all_in : (lines : List Line) → AllByRecursion (λ line. IsIn lines line.deed) lines
all_in [] = tt
all_in (line ∷ lines) = (head_in line.deed line refl lines, all_mapped (λ it. IsIn lines it.deed) (λ it. IsIn (line ∷ lines) it.deed) (λ it h. more_in line lines it.deed h) lines (all_in lines))

-- ---- as many indices as axes

module _ (basis : Basis) where
  abbrev AxesDeed : Deed → Type 0
  AxesDeed (Writes layout place index way value) = equals_some (axes_in basis.shapes layout) (length index) ≡ true
  AxesDeed (Sets var value) = Unit {0}
  AxesDeed (Tests condition) = Unit {0}
  AxesDeed (Turns var range) = Unit {0}
  AxesDeed (Opens ranges) = Unit {0}

  abbrev pub HasAxes : Line → Type 0
  HasAxes line = AxesDeed line.deed

  abbrev Claim : TypedStmt → Type 0
  Claim stmt = (around : Around) → stmt_fits basis stmt ≡ true → AllByRecursion HasAxes (stmt_lines stmt around)

  block_claim : (block : List TypedStmt) → AllByRecursion Claim block → (around : Around) → list_all (stmt_fits basis) block ≡ true → AllByRecursion HasAxes (block_lines block around)
  block_claim [] all around h = tt
  block_claim (stmt ∷ block) all around h =
      let p = and_parts (stmt_fits basis stmt) (list_all (stmt_fits basis) block) h in
      all_append HasAxes (stmt_lines stmt around) (block_lines block around) (all.0 around p.0) (block_claim block all.1 around p.1)

  ifs : (number : ℕ) (condition : TypedExpr) (block otherwise : List TypedStmt) (has_else : Bool) → AllByRecursion Claim block → AllByRecursion Claim otherwise → Claim (stmt_of number (kind.If condition block otherwise has_else))
  ifs number condition block otherwise has_else on_block on_otherwise around h =
      let p = and_parts (can_be_lowered basis condition) (list_all (stmt_fits basis) block && list_all (stmt_fits basis) otherwise) (sym (fits-If basis number condition block otherwise has_else) ∙ h) in
      let q = and_parts (list_all (stmt_fits basis) block) (list_all (stmt_fits basis) otherwise) p.1 in
      let inside = within_if condition around in
      subst (AllByRecursion HasAxes) (sym (lines-If number condition block otherwise has_else around))
      (tt, all_append HasAxes (block_lines block inside) (block_lines otherwise inside) (block_claim block on_block inside q.0) (block_claim otherwise on_otherwise inside q.1))

  fors : (number var : ℕ) (range : TypedRange) (block : List TypedStmt) → AllByRecursion Claim block → Claim (stmt_of number (kind.For var range block))
  fors number var range block on_block around h =
      let p = and_parts _ (is_constant_range range && list_all (stmt_fits basis) block) (sym (fits-For basis number var range block) ∙ h) in
      let q = and_parts (is_constant_range range) (list_all (stmt_fits basis) block) p.1 in
      subst (AllByRecursion HasAxes) (sym (lines-For number var range block around)) (tt, block_claim block on_block (within_loop range around) q.1)

  pub block_axes : (block : List TypedStmt) (around : Around) → list_all (stmt_fits basis) block ≡ true → AllByRecursion HasAxes (block_lines block around)
  block_axes block = block_claim block (all_stmts Claim
      (λ number var value around h. subst (AllByRecursion HasAxes) (sym (lines-Let number var value around)) (tt, tt))
      (λ number var value around h. subst (AllByRecursion HasAxes) (sym (lines-Assign number var value around)) (tt, tt))
      (λ number layout place index way value around h. subst (AllByRecursion HasAxes) (sym (lines-Write number layout place index way value around))
      ((write_kept basis layout place index way value (sym (fits-Write basis number layout place index way value) ∙ h)).axes, tt))
      ifs fors block)

-- ---- all lines

module _ (kernel : TypedKernel) (basis : Basis) where
  abbrev facts : Facts
  facts = facts_of kernel

  abbrev lines : List Line
  lines = kernel_lines kernel

  if_not : (a b : Bool) → (not a || b) ≡ true → a ≡ true → b ≡ true
  if_not true b h e = h
  if_not false b h e = absurd (both_ways false refl e)

  written : (number : ℕ) (around : Around) (deed : Deed) → Keeps facts (record { number = number; around = around; deed = deed }) → IsIn lines deed → AxesDeed basis deed → IsWritten basis.shapes facts deed
  written number around (Writes layout place index way value) keeps is_in axes =
      let here = and_from (layout == layout) (place == place) (eq-eqb layout layout refl) (eq-eqb place place refl) in (
        first_is (ways_in lines) layout place way (is_in (is_of_field layout place) here) keeps.one_way,
        axes,
        λ own. (
          is_in (λ it. is_of_field layout place it && is_own it.way) (and_from ((layout == layout) && (place == place)) (is_own way) here own),
          if_not (is_own way) (are_names facts.vars 0 (map name_of index)) keeps.own_in_place own,
        ),
        λ acc. is_in (λ it. is_of_field layout place it && not (is_own it.way)) (and_from ((layout == layout) && (place == place)) (not (is_own way)) here (ap not acc)),
      )
  written number around (Sets var value) keeps is_in axes = tt
  written number around (Tests condition) keeps is_in axes = tt
  written number around (Turns var range) keeps is_in axes = tt
  written number around (Opens ranges) keeps is_in axes = tt

  all_written : (some : List Line) → AllByRecursion (KeepsAll facts) some → AllByRecursion (λ line. IsIn lines line.deed) some → AllByRecursion (HasAxes basis) some → AllByRecursion (λ line. IsWritten basis.shapes facts line.deed) some
  all_written [] keep is_in axes = tt
  all_written (line ∷ some) keep is_in axes = (written line.number line.around line.deed (rules_kept facts line keep.0) is_in.0 axes.0, all_written some keep.1 is_in.1 axes.1)

  unaccumulated : (some : List Line) → AllByRecursion (KeepsAll facts) some → AllByRecursion (λ line. are_good_reads facts (is_unaccumulated facts) line.deed ≡ true) some
  unaccumulated = all_mapped (KeepsAll facts) (λ line. are_good_reads facts (is_unaccumulated facts) line.deed ≡ true) (λ line h. (rules_kept facts line h).unaccumulated)

  -- the uses of the body of an admitted kernel
  pub uses_good : (owned : List Field) (owned_is : (layout place : ℕ) → is_owned owned layout place ≡ facts.own layout place) → AllByRecursion (KeepsAll facts) lines → list_all (stmt_fits basis) kernel.body ≡ true
      → AllByRecursion (GoodUse basis.shapes facts) (line_uses (record { shapes = basis.shapes; owned = owned; vars = kernel.vars; slicing = false }) (block_lines kernel.body nothing_round))
  uses_good owned owned_is keep fit =
      let some = block_lines kernel.body nothing_round in
      lines_good basis.shapes facts owned owned_is some (unaccumulated some keep.1) (all_written some keep.1 (all_in lines).1 (block_axes basis kernel.body nothing_round fit))
