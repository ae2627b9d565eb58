-- The lines of an admitted kernel keep what lowering asks of them.
use Rattle.std.proofs.Common.{◌≡◌, ℕ, ◌+◌, ◌≤◌, zero, suc, Bool, true, false, not, ◌&&◌, ◌||◌, ◌==◌, List, [], ◌∷◌, ◌++◌, map, length, refl, sym, ap, subst, ◌∙◌, arith}
use Rattle.std.specs.List.{AllByRecursion, list_all, list_any, range_with_len}
use Rattle.std.proofs.lemmas.Bool.{and_parts, and_from, both_ways, eq-eqb}
use Rattle.sg_layout.specs.declared.shape.Shape.{Shape}
use Rattle.sg_types.specs.declared.typed.TypedExpr.{TypedExpr}
use Rattle.sg_types.specs.declared.typed.TypedKernel.{TypedKernel}
use Rattle.sg_types.specs.Values.{is_own}
use Rattle.sg_types.specs.WellTyped.{Visible, all_fit, fitting, loop_scope, is_well_typed_kernel}
use Rattle.sg_types.specs.Numbers.{block_vars, kernel_vars}
use Rattle.sg_admit.specs.declared.ways.FieldWay.{FieldWay}
use Rattle.sg_admit.specs.Clean.{Unclean, is_clean, deed_writes, writes_field, givings_of, givings, is_clean_giving, unclean_in}
use Rattle.sg_admit.specs.Lines.{Deed, Sets, Writes, Tests, Turns, Opens, Around, Line, line_of, nothing_round, block_lines, kernel_lines}
use Rattle.sg_admit.specs.Slices.{walked_by, may_activate}
use Rattle.sg_admit.specs.Bounds.{is_constant_range}
use Rattle.sg_admit.specs.Rules.{Facts, facts_of, deed_ways, ways_in, is_of_field, has_own, name_of, are_names, has_good_reads, keeps_one_way, is_own_in_place, are_good_reads, is_own_read, is_unaccumulated, is_foreseen, is_bounded, asks_unwritten}
use Rattle.sg_admit.specs.Laws.{KeepsAll, IsClosed, DirtyIsClosed}
use Rattle.sg_lower.specs.declared.lowering.Field.{Field}
use Rattle.sg_lower.specs.steps.Basis.{is_owned}
use Rattle.sg_lower.proofs.LineWords.{all_front, all_back, all_mapped}
use Rattle.sg_lower.proofs.KernelFits.{Sound, BlockFits, block_fits}
use Rattle.sg_lower.proofs.SliceTypes.{Needs}

-- ---- what each rule says, where all are kept

pub record Keeps (facts : Facts) (line : Line) : Type 0 where
  pub one_way : keeps_one_way facts line.deed ≡ true
  pub own_in_place : is_own_in_place facts line.deed ≡ true
  pub own_reads : are_good_reads facts (is_own_read facts) line.deed ≡ true
  pub unaccumulated : are_good_reads facts (is_unaccumulated facts) line.deed ≡ true
  pub foreseen : is_foreseen facts line.around line.deed ≡ true
  pub bounded : is_bounded line.around line.deed ≡ true
  pub asks : asks_unwritten facts line.deed ≡ true

pub rules_kept : (facts : Facts) (line : Line) → KeepsAll facts line → Keeps facts line
rules_kept facts line h =
    let own = is_own_in_place facts line.deed in
    let reads = are_good_reads facts (is_own_read facts) line.deed in
    let acc = are_good_reads facts (is_unaccumulated facts) line.deed in
    let foreseen = is_foreseen facts line.around line.deed in
    let bounded = is_bounded line.around line.deed in
    let asks = asks_unwritten facts line.deed in
    let a = and_parts (keeps_one_way facts line.deed) ((own && reads) && (acc && (foreseen && (bounded && (asks && true))))) h in
    let b = and_parts (own && reads) (acc && (foreseen && (bounded && (asks && true)))) a.1 in
    let c = and_parts acc (foreseen && (bounded && (asks && true))) b.1 in
    let d = and_parts foreseen (bounded && (asks && true)) c.1 in
    let e = and_parts bounded (asks && true) d.1 in
    let o = and_parts own reads b.0 in
    record { one_way = a.0; own_in_place = o.0; own_reads = o.1; unaccumulated = c.0; foreseen = d.0; bounded = e.0; asks = (and_parts asks true e.1).0 }

-- ---- an own write of a line is one of the lines

abbrev OwnsIn : List Line → Deed → Type 0
OwnsIn lines (Writes layout place index way value) = is_own way ≡ true → has_own (ways_in lines) layout place ≡ true
OwnsIn lines (Sets var value) = Unit {0}
OwnsIn lines (Tests condition) = Unit {0}
OwnsIn lines (Turns var range) = Unit {0}
OwnsIn lines (Opens ranges) = Unit {0}

pub any_front : {X : Type 0} (p : X → Bool) (xs ys : List X) → list_any p xs ≡ true → list_any p (xs ++ ys) ≡ true
any_front p [] ys h = absurd (both_ways false refl h)
any_front p (x ∷ xs) ys h = at_head (p x) (any_front p xs ys) h
  where
    at_head : (b : Bool) → (list_any p xs ≡ true → list_any p (xs ++ ys) ≡ true) → (b || list_any p xs) ≡ true → (b || list_any p (xs ++ ys)) ≡ true
    at_head true f h = refl
    at_head false f h = f h

pub any_back : {X : Type 0} (p : X → Bool) (xs ys : List X) → list_any p ys ≡ true → list_any p (xs ++ ys) ≡ true
any_back p [] ys h = h
any_back p (x ∷ xs) ys h = at_head (p x) (any_back p xs ys h)
  where
    at_head : (b : Bool) → list_any p (xs ++ ys) ≡ true → (b || list_any p (xs ++ ys)) ≡ true
    at_head true h = refl
    at_head false h = h

head_owns : (deed : Deed) (line : Line) → line.deed ≡ deed → (lines : List Line) → OwnsIn (line ∷ lines) deed
head_owns (Writes layout place index way value) line is lines = λ own.
    any_front (λ it. is_of_field layout place it && is_own it.way) (deed_ways line.deed) (ways_in lines)
    (subst (λ (deed : Deed). list_any (λ it. is_of_field layout place it && is_own it.way) (deed_ways deed) ≡ true) (sym is)
    (any_front (λ it. is_of_field layout place it && is_own it.way) (record { layout = layout; place = place; way = way } ∷ []) []
    (first_or (((layout == layout) && (place == place)) && is_own way) false
    (and_from ((layout == layout) && (place == place)) (is_own way) (and_from (layout == layout) (place == place) (eq-eqb layout layout refl) (eq-eqb place place refl)) own))))
  where
    first_or : (a b : Bool) → a ≡ true → (a || b) ≡ true
    first_or true b h = refl
    first_or false b h = absurd (both_ways false refl h)
head_owns (Sets var value) line is lines = tt
head_owns (Tests condition) line is lines = tt
head_owns (Turns var range) line is lines = tt
head_owns (Opens ranges) line is lines = tt

more_owns : (first : Line) (lines : List Line) (deed : Deed) → OwnsIn lines deed → OwnsIn (first ∷ lines) deed
more_owns first lines (Writes layout place index way value) h = λ own. any_back (λ it. is_of_field layout place it && is_own it.way) (deed_ways first.deed) (ways_in lines) (h own)
more_owns first lines (Sets var value) h = tt
more_owns first lines (Tests condition) h = tt
more_owns first lines (Turns var range) h = tt
more_owns first lines (Opens ranges) h = tt

all_own : (lines : List Line) → AllByRecursion (λ line. OwnsIn lines line.deed) lines
all_own [] = tt
all_own (line ∷ lines) = (head_owns line.deed line refl lines, all_mapped (λ it. OwnsIn lines it.deed) (λ it. OwnsIn (line ∷ lines) it.deed) (λ it h. more_owns line lines it.deed h) lines (all_own lines))

-- an own-written field is written
deed_owned : (layout place : ℕ) (deed : Deed) → has_own (deed_ways deed) layout place ≡ true → deed_writes layout place deed ≡ true
deed_owned layout place (Writes at_layout at_place index way value) h = left_part ((at_layout == layout) && (at_place == place)) (is_own way) h
  where
    left_part : (a b : Bool) → ((a && b) || false) ≡ true → a ≡ true
    left_part true b h = refl
    left_part false b h = h
deed_owned layout place (Sets var value) h = absurd (both_ways false refl h)
deed_owned layout place (Tests condition) h = absurd (both_ways false refl h)
deed_owned layout place (Turns var range) h = absurd (both_ways false refl h)
deed_owned layout place (Opens ranges) h = absurd (both_ways false refl h)

pub own_writes_field : (lines : List Line) (layout place : ℕ) → has_own (ways_in lines) layout place ≡ true → writes_field lines layout place ≡ true
own_writes_field [] layout place h = absurd (both_ways false refl h)
own_writes_field (line ∷ lines) layout place h =
    split (deed_ways line.deed) h (own_writes_field lines layout place) (deed_owned layout place line.deed)
  where
    test : FieldWay → Bool
    test it = is_of_field layout place it && is_own it.way

    split : (ways : List FieldWay) → list_any test (ways ++ ways_in lines) ≡ true → (list_any test (ways_in lines) ≡ true → writes_field lines layout place ≡ true)
        → (list_any test ways ≡ true → deed_writes layout place line.deed ≡ true) → (deed_writes layout place line.deed || writes_field lines layout place) ≡ true
    split [] h more here = right_or (deed_writes layout place line.deed) (writes_field lines layout place) (more h)
      where
        right_or : (a b : Bool) → b ≡ true → (a || b) ≡ true
        right_or true b h = refl
        right_or false b h = h
    split (way ∷ ways) h more here = at_head (test way) h (split ways) here more
      where
        at_head : (b : Bool) → (b || list_any test (ways ++ ways_in lines)) ≡ true
            → (list_any test (ways ++ ways_in lines) ≡ true → (list_any test (ways_in lines) ≡ true → writes_field lines layout place ≡ true) → (list_any test ways ≡ true → deed_writes layout place line.deed ≡ true) → (deed_writes layout place line.deed || writes_field lines layout place) ≡ true)
            → ((b || list_any test ways) ≡ true → deed_writes layout place line.deed ≡ true) → (list_any test (ways_in lines) ≡ true → writes_field lines layout place ≡ true) → (deed_writes layout place line.deed || writes_field lines layout place) ≡ true
        at_head true h rest here more = ap (λ (b : Bool). b || writes_field lines layout place) (here refl)
        at_head false h rest here more = rest h more here

-- ---- what the closed set says of each line

abbrev ClosedAt : (ℕ → ℕ → Bool) → (ℕ → Bool) → Line → Type 0
ClosedAt fields vars line = IsClosed fields (givings_of line.around line.deed) vars

closed_lines : (fields : ℕ → ℕ → Bool) (vars : ℕ → Bool) (lines : List Line) → IsClosed fields (givings lines) vars → AllByRecursion (ClosedAt fields vars) lines
closed_lines fields vars [] h = tt
closed_lines fields vars (line ∷ lines) h = (
  all_front (λ giving. is_clean_giving (record { fields = fields; vars = vars }) giving ≡ false → vars giving.var ≡ true) (givings_of line.around line.deed) (givings lines) h,
  closed_lines fields vars lines (all_back (λ giving. is_clean_giving (record { fields = fields; vars = vars }) giving ≡ false → vars giving.var ≡ true) (givings_of line.around line.deed) (givings lines) h),
)

-- ---- numbers past those of the loop

range_past : (a n : ℕ) → AllByRecursion (λ v. a ≤ v) (range_with_len a n)
range_past a zero = tt
range_past a (suc n) = (omega arith, all_mapped (λ v. a + 1 ≤ v) (λ v. a ≤ v) (λ v h. omega (arith, h)) (range_with_len (a + 1) n) (range_past (a + 1) n))

rest_past : (a n m : ℕ) (rest : List ℕ) → range_with_len a n ++ rest ≡ range_with_len a m → AllByRecursion (λ v. a + n ≤ v) rest
rest_past a zero m rest h =
    subst (AllByRecursion (λ v. a + 0 ≤ v)) (sym h) (all_mapped (λ v. a ≤ v) (λ v. a + 0 ≤ v) (λ v l. omega (arith, l)) (range_with_len a m) (range_past a m))
rest_past a (suc n) zero rest h = absurd (cc)
rest_past a (suc n) (suc m) rest h =
    all_mapped (λ v. (a + 1) + n ≤ v) (λ v. a + suc n ≤ v) (λ v l. omega (arith, l)) rest (rest_past (a + 1) n m rest (tails h))
  where
    tails : a ∷ (range_with_len (a + 1) n ++ rest) ≡ a ∷ range_with_len (a + 1) m → range_with_len (a + 1) n ++ rest ≡ range_with_len (a + 1) m
    tails h = cc

module _ (shapes : List Shape) (kernel : TypedKernel) (owned : List Field) (dirty_closed : DirtyIsClosed)
    (owned_is : (layout place : ℕ) → is_owned owned layout place ≡ has_own (ways_in (kernel_lines kernel)) layout place) where
  abbrev lines : List Line
  lines = kernel_lines kernel

  abbrev facts : Facts
  facts = facts_of kernel

  abbrev unclean : Unclean
  unclean = unclean_in lines

  pub good_owned : (layout place : ℕ) (named : Bool) → is_own_read facts layout place named ≡ true → (not (is_owned owned layout place) || named) ≡ true
  good_owned layout place named h = ap (λ (b : Bool). not b || named) (owned_is layout place) ∙ h

  pub own_written : (layout place : ℕ) → is_owned owned layout place ≡ true → unclean.fields layout place ≡ true
  own_written layout place h = own_writes_field lines layout place (sym (owned_is layout place) ∙ h)

  abbrev IsSound : Line → Type 0
  IsSound = Sound shapes kernel.types owned kernel.vars (walked_by kernel.domain) unclean (is_own_read facts) good_owned own_written

  clean_value : (value : TypedExpr) (conditions : List TypedExpr) (dirty : Bool) → ((is_clean unclean value && list_all (is_clean unclean) conditions) ≡ false → dirty ≡ true) → dirty ≡ false → is_clean unclean value ≡ true
  clean_value value conditions dirty h clean = by_test (is_clean unclean value) refl
    where
      by_test : (b : Bool) → is_clean unclean value ≡ b → is_clean unclean value ≡ true
      by_test true e = e
      by_test false e = absurd (both_ways dirty clean (h (ap (λ (b : Bool). b && list_all (is_clean unclean) conditions) e)))

  split_reads : (index : List TypedExpr) (value : TypedExpr) → list_all (has_good_reads facts.vars (is_own_read facts)) (index ++ value ∷ []) ≡ true
      → (list_all (has_good_reads facts.vars (is_own_read facts)) index ≡ true) × (has_good_reads facts.vars (is_own_read facts) value ≡ true)
  split_reads [] value h = (refl, (and_parts (has_good_reads facts.vars (is_own_read facts) value) true h).0)
  split_reads (expr ∷ index) value h =
      let p = and_parts (has_good_reads facts.vars (is_own_read facts) expr) (list_all (has_good_reads facts.vars (is_own_read facts)) (index ++ value ∷ [])) h in
      let q = split_reads index value p.1 in
      (and_from (has_good_reads facts.vars (is_own_read facts) expr) (list_all (has_good_reads facts.vars (is_own_read facts)) index) p.0 q.0, q.1)

  if_not : (a b : Bool) → (not a || b) ≡ true → a ≡ true → b ≡ true
  if_not true b h e = h
  if_not false b h e = absurd (both_ways false refl e)

  sound : (number : ℕ) (around : Around) (deed : Deed) → Keeps facts (line_of number around deed) → OwnsIn lines deed → ClosedAt unclean.fields unclean.vars (line_of number around deed) → IsSound (line_of number around deed)
  sound number around (Sets var value) keeps own closed =
      ((and_parts (has_good_reads facts.vars (is_own_read facts) value) true keeps.own_reads).0, clean_value value around.conditions (unclean.vars var) closed.0)
  sound number around (Writes layout place index way value) keeps own closed =
      let reads = split_reads index value keeps.own_reads in (
        reads.0,
        reads.1,
        λ e. (if_not (is_own way) (are_names facts.vars 0 (map name_of index)) keeps.own_in_place e, owned_is layout place ∙ own e),
        λ e. (and_parts (list_all (is_clean unclean) index) (list_all (is_clean unclean) around.conditions) (if_not (may_activate (walked_by kernel.domain) layout way) (list_all (is_clean unclean) index && list_all (is_clean unclean) around.conditions) keeps.foreseen e)).0,
      )
  sound number around (Tests condition) keeps own closed = (and_parts (has_good_reads facts.vars (is_own_read facts) condition) true keeps.own_reads).0
  sound number around (Turns var range) keeps own closed = (and_parts (is_constant_range range) _ keeps.bounded).0
  sound number around (Opens ranges) keeps own closed = tt

  all_sound : (some : List Line) → AllByRecursion (KeepsAll facts) some → AllByRecursion (λ line. OwnsIn lines line.deed) some → AllByRecursion (ClosedAt unclean.fields unclean.vars) some → AllByRecursion IsSound some
  all_sound [] keep own closed = tt
  all_sound (line ∷ some) keep own closed = (sound line.number line.around line.deed (rules_kept facts line keep.0) own.0 closed.0, all_sound some keep.1 own.1 closed.1)

  loops_past : (var n : ℕ) → AllByRecursion (λ (seen : Visible). seen.is_loop ≡ false → kernel.vars ≤ seen.var) (loop_scope var n)
  loops_past var zero = tt
  loops_past var (suc n) = (λ e. absurd (both_ways true e refl), loops_past (suc var) n)

  -- an admitted kernel's body and its slice can be lowered
  pub kernel_fits : AllByRecursion (KeepsAll facts) lines → is_well_typed_kernel shapes kernel ≡ true → kernel_vars kernel ≡ range_with_len 0 (length kernel.types)
      → BlockFits shapes kernel.types owned kernel.vars (walked_by kernel.domain) unclean (is_own_read facts) good_owned own_written kernel.body
  kernel_fits keep typed numbered =
      let closed = closed_lines unclean.fields unclean.vars lines (dirty_closed (writes_field lines) (givings lines)) in
      let past = rest_past 0 kernel.vars (length kernel.types) (block_vars kernel.body) numbered in
      block_fits shapes kernel.types owned kernel.vars (walked_by kernel.domain) unclean (is_own_read facts) good_owned own_written kernel.body nothing_round
      (all_sound lines keep (all_own lines) closed).1 (loop_scope 0 kernel.vars) (loops_past 0 kernel.vars)
      (and_parts _ (all_fit (map (fitting shapes kernel.types) kernel.body) (loop_scope 0 kernel.vars)).0 typed).1
      (all_mapped (λ v. 0 + kernel.vars ≤ v) (λ v. kernel.vars ≤ v) (λ v l. omega (arith, l)) (block_vars kernel.body) past)

  deed_needs : (number : ℕ) (around : Around) (deed : Deed) → IsSound (line_of number around deed) → Needs (walked_by kernel.domain) unclean (line_of number around deed)
  deed_needs number around (Sets var value) h = h.1
  deed_needs number around (Writes layout place index way value) h = h.3
  deed_needs number around (Tests condition) h = tt
  deed_needs number around (Turns var range) h = h
  deed_needs number around (Opens ranges) h = tt

  -- and keeps to what its slice needs
  pub kernel_needs : AllByRecursion (KeepsAll facts) lines → AllByRecursion (Needs (walked_by kernel.domain) unclean) (block_lines kernel.body nothing_round)
  kernel_needs keep =
      let closed = closed_lines unclean.fields unclean.vars lines (dirty_closed (writes_field lines) (givings lines)) in
      all_mapped IsSound (Needs (walked_by kernel.domain) unclean) (λ line h. deed_needs line.number line.around line.deed h) (block_lines kernel.body nothing_round) (all_sound lines keep (all_own lines) closed).1
