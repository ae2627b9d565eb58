-- In code from which nothing can be left out each check serves an access.
use Rattle.std.specs.Prelude.{◌≡◌, refl, ℕ, ℤ, ◌≤◌, ◌==◌, Bool, true, false, not, ◌&&◌, ◌||◌, if◌then◌else◌, List, [], ◌∷◌, ◌++◌}
use Rattle.std.specs.List.{list_all, list_any}
use Rattle.std.proofs.Common.{arith, sym, ap, subst, ◌∙◌}
use Rattle.std.proofs.lemmas.Bool.{eqb-true, eq-eqb, and_from, or_parts, or_from, or_right}
use Rattle.std.proofs.lemmas.List.Folds.{list_any-append}
use Rattle.sg_ir.specs.declared.op.Op.{Op}
use Rattle.sg_ir.specs.declared.op.Step.{Step}
use Rattle.sg_ir.specs.declared.op.Step.TheVariants as step
use Rattle.sg_ir.specs.Trimmed.{AxisCheck, Way, Ways, way_of, way_to, way_behind, checks_of, passed_in}
use Rattle.sg_ir.specs.Blocks.{Block, End, Word, Spot, Cell, Do, Branch, Loop, Act, SetVar, WriteOwn, Contribute, Wish}
use Rattle.sg_ir.specs.InScope.{InScope, and_reg, and_place, nothing, AreSet, IsScoped, op_regs, op_places, step_regs, step_places}
use Rattle.sg_simplify.specs.steps.Counted.{one_where, places_set}
use Rattle.sg_simplify.specs.Kept.{Keep, behind_where, is_end, keeps_act, kept_part, op_vars, ReadsKept, IsLean}
use Rattle.sg_simplify.proofs.KeptTests.{none_set, clash}

all_on : (rs : List ℕ) → AreSet (λ r. true) rs
all_on [] = tt
all_on (r ∷ rs) = (refl, all_on rs)

-- whether a check is among these
abbrev has_check : ℕ → List AxisCheck → Bool
has_check c checks = list_any (λ (it : AxisCheck). it.place == c) checks

-- all ways that a block adds, those of the blocks in it too
abbrev all_ways : Ways → Block → Ways
all_ways ways End = ways
all_ways ways (Word to how rest) = all_ways ways rest
all_ways ways (Spot to how rest) = all_ways ((to, way_behind ways to how) ∷ ways) rest
all_ways ways (Cell to place sight index rest) = all_ways ways rest
all_ways ways (Do what rest) = all_ways ways rest
all_ways ways (Branch cond block otherwise rest) = all_ways (all_ways (all_ways ways block) otherwise) rest
all_ways ways (Loop var lo hi body rest) = all_ways (all_ways ways body) rest

-- ---- a place that is set nowhere in a block has the way that it had
other_way : (to p : ℕ) (w : Way) (ways : Ways) → one_where (to == p) ≡ 0 → way_of ((to, w) ∷ ways) p ≡ way_of ways p
other_way to p w ways none = by_test (to == p) none
  where
    by_test : (test : Bool) → one_where test ≡ 0 → (if test then w else way_of ways p) ≡ way_of ways p
    by_test true e = absurd (cc)
    by_test false e = refl

ways_stay : (p : ℕ) (block : Block) (ways : Ways) → places_set p block ≡ 0 → way_of (all_ways ways block) p ≡ way_of ways p
ways_stay p End ways none = refl
ways_stay p (Word to how rest) ways none = ways_stay p rest ways none
ways_stay p (Spot to how rest) ways none = ways_stay p rest ((to, way_behind ways to how) ∷ ways) (omega (arith, none)) ∙ other_way to p (way_behind ways to how) ways (omega (arith, none))
ways_stay p (Cell to place sight index rest) ways none = ways_stay p rest ways none
ways_stay p (Do what rest) ways none = ways_stay p rest ways none
ways_stay p (Branch cond block otherwise rest) ways none =
    ways_stay p rest (all_ways (all_ways ways block) otherwise) (omega (arith, none)) ∙ (ways_stay p otherwise (all_ways ways block) (omega (arith, none)) ∙ ways_stay p block ways (omega (arith, none)))
ways_stay p (Loop var lo hi body rest) ways none = ways_stay p rest (all_ways ways body) (omega (arith, none)) ∙ ways_stay p body ways (omega (arith, none))

-- no plain operation reads a place: a read of a cell has its index registers beside it
abbrev pub HasNoReads : Block → Type 0
HasNoReads End = Unit {0}
HasNoReads (Word to how rest) = (op_places how ≡ []) × HasNoReads rest
HasNoReads (Spot to how rest) = HasNoReads rest
HasNoReads (Cell to place sight index rest) = HasNoReads rest
HasNoReads (Do what rest) = HasNoReads rest
HasNoReads (Branch cond block otherwise rest) = HasNoReads block × HasNoReads otherwise × HasNoReads rest
HasNoReads (Loop var lo hi body rest) = HasNoReads body × HasNoReads rest

module _ (c : ℕ) (tainted : ℕ → Bool) where
  -- a place is tainted exactly when its way has the check, wherever it is set
  abbrev Tells : Ways → Block → Type 0
  Tells ways End = Unit {0}
  Tells ways (Word to how rest) = Tells ways rest
  Tells ways (Spot to how rest) = (tainted to ≡ has_check c (way_behind ways to how).checks) × Tells ((to, way_behind ways to how) ∷ ways) rest
  Tells ways (Cell to place sight index rest) = Tells ways rest
  Tells ways (Do what rest) = Tells ways rest
  Tells ways (Branch cond block otherwise rest) = Tells ways block × Tells ways otherwise × Tells ways rest
  Tells ways (Loop var lo hi body rest) = Tells ways body × Tells ways rest

  abbrev untainted : Keep
  untainted = record { regs = λ r. true; places = λ p. not (tainted p); vars = λ v. true }

  -- so it is in scope
  abbrev TellsScope : InScope → Ways → Type 0
  TellsScope scope ways = (p : ℕ) → scope.places p ≡ true → tainted p ≡ has_check c (way_to ways p)

  scope_on : (scope : InScope) (ways : Ways) (to : ℕ) (w : Way) → tainted to ≡ has_check c w.checks → TellsScope scope ways → TellsScope (and_place to scope) ((to, w) ∷ ways)
  scope_on scope ways to w is tells p on = by_test (to == p) refl
    where
      by_test : (test : Bool) → (to == p) ≡ test → tainted p ≡ has_check c (if test then w else way_of ways p).checks
      by_test true e = ap tainted (sym (eqb-true to p e)) ∙ is
      by_test false e = tells p (was (p == to) refl on)
        where
          was : (same : Bool) → (p == to) ≡ same → (if same then true else scope.places p) ≡ true → scope.places p ≡ true
          was true f h = clash (to == p) (eq-eqb to p (sym (eqb-true p to f))) e
          was false f h = h

  -- if a place's way has it not, that of the place before hasn't
  before_free : (scope : InScope) (ways : Ways) (to : ℕ) (how : Step) → AreSet scope.places (step_places how) → TellsScope scope ways → has_check c (way_behind ways to how).checks ≡ false → AreSet untainted.places (step_places how)
  before_free scope ways to (step.Root layout) set tells none = tt
  before_free scope ways to (step.Check place axis extent index) set tells none =
      let parts = or_parts (has_check c (way_to ways place)) (has_check c (record { axis = axis; index = index; place = to } ∷ []))
      (sym (list_any-append (λ (it : AxisCheck). it.place == c) (way_to ways place) (record { axis = axis; index = index; place = to } ∷ [])) ∙ none) in
      (ap not (tells place set.0 ∙ parts.0), tt)
  before_free scope ways to (step.Down descent place node offset) set tells none = (ap not (tells place set.0 ∙ none), tt)

  access_free : (scope : InScope) (ways : Ways) (place : ℕ) (more : List AxisCheck) → scope.places place ≡ true → TellsScope scope ways → has_check c (way_to ways place ++ more) ≡ false → (not (tainted place) ≡ true) × (has_check c more ≡ false)
  access_free scope ways place more set tells none =
      let parts = or_parts (has_check c (way_to ways place)) (has_check c more) (sym (list_any-append (λ (it : AxisCheck). it.place == c) (way_to ways place) more) ∙ none) in
      (ap not (tells place set ∙ parts.0), parts.1)

  append_free : (checks more : List AxisCheck) → has_check c (checks ++ more) ≡ false → (has_check c checks ≡ false) × (has_check c more ≡ false)
  append_free checks more none = or_parts (has_check c checks) (has_check c more) (sym (list_any-append (λ (it : AxisCheck). it.place == c) checks more) ∙ none)

  abbrev Free : Block → Type 0
  Free block = (scope : InScope) (ways : Ways) → IsScoped scope block → TellsScope scope ways → Tells ways block → has_check c (passed_in ways block) ≡ false → ReadsKept untainted (kept_part untainted block)

  spot_free : (to : ℕ) (how : Step) (rest : Block) → Free rest → Free (Spot to how rest)
  spot_free to how rest more scope ways scoped tells told none = by_test (tainted to) refl
    where
      next : ReadsKept untainted (kept_part untainted rest)
      next = more (and_place to scope) ((to, way_behind ways to how) ∷ ways) scoped.3 (scope_on scope ways to (way_behind ways to how) told.0 tells) told.1 none

      by_test : (test : Bool) → tainted to ≡ test → ReadsKept untainted (behind_where (not test) (Spot to how) (kept_part untainted rest))
      by_test true is = next
      by_test false is = (all_on (step_regs how), before_free scope ways to how scoped.1 tells (sym told.0 ∙ is), next)

  branch_free : (cond : ℕ) (a b kept : Block) (test : Bool) → ReadsKept untainted a → ReadsKept untainted b → ReadsKept untainted kept → ReadsKept untainted (behind_where test (Branch cond a b) kept)
  branch_free cond a b kept true one two more = (refl, one, two, more)
  branch_free cond a b kept false one two more = more

  loop_free : (var : ℕ) (lo hi : ℤ) (a kept : Block) (test : Bool) → ReadsKept untainted a → ReadsKept untainted kept → ReadsKept untainted (behind_where test (Loop var lo hi a) kept)
  loop_free var lo hi a kept true one more = (refl, one, more)
  loop_free var lo hi a kept false one more = more

  places_free : (how : Op) → op_places how ≡ [] → AreSet untainted.places (op_places how)
  places_free how none = subst (AreSet untainted.places) (sym none) tt

  do_free : (what : Act) (rest : Block) → Free rest → Free (Do what rest)
  do_free (SetVar var from) rest more scope ways scoped tells told none = (all_on (from ∷ []), tt, more scope ways scoped.2 tells told none)
  do_free (WriteOwn layout field from stmt) rest more scope ways scoped tells told none = (all_on (from ∷ []), tt, more scope ways scoped.2 tells told none)
  do_free (Contribute how layout field place from index stmt) rest more scope ways scoped tells told none =
      let parts = access_free scope ways place (passed_in ways rest) scoped.1.0 tells none in
      (all_on (from ∷ index), (parts.0, tt), more scope ways scoped.2 tells told parts.1)
  do_free (Wish layout index stmt) rest more scope ways scoped tells told none = (all_on index, tt, more scope ways scoped.2 tells told none)

  pub is_free : (block : Block) → HasNoReads block → Free block
  is_free End plain = λ scope ways scoped tells told none. tt
  is_free (Word to how rest) plain = λ scope ways scoped tells told none. (all_on (op_regs how), places_free how plain.0, all_on (op_vars how), is_free rest plain.1 (and_reg to scope) ways scoped.3 tells told none)
  is_free (Spot to how rest) plain = spot_free to how rest (is_free rest plain)
  is_free (Cell to place sight index rest) plain = λ scope ways scoped tells told none.
      let parts = access_free scope ways place (passed_in ways rest) scoped.0.0 tells none in
      (all_on index, parts.0, is_free rest plain (and_reg to scope) ways scoped.2 tells told parts.1)
  is_free (Do what rest) plain = do_free what rest (is_free rest plain)
  is_free (Branch cond block otherwise rest) plain = λ scope ways scoped tells told none.
      let first = append_free (passed_in ways block) (passed_in ways otherwise ++ passed_in ways rest) none in
      let second = append_free (passed_in ways otherwise) (passed_in ways rest) first.1 in
      branch_free cond (kept_part untainted block) (kept_part untainted otherwise) (kept_part untainted rest) (not (is_end (kept_part untainted block) && is_end (kept_part untainted otherwise)))
      (is_free block plain.0 scope ways scoped.1 tells told.0 first.0) (is_free otherwise plain.1 scope ways scoped.2 tells told.1 second.0) (is_free rest plain.2 scope ways scoped.3 tells told.2 second.1)
  is_free (Loop var lo hi body rest) plain = λ scope ways scoped tells told none.
      let parts = append_free (passed_in ways body) (passed_in ways rest) none in
      (refl, is_free body plain.0 scope ways scoped.0 tells told.0 parts.0, is_free rest plain.1 scope ways scoped.1 tells told.1 parts.1)

  -- ---- the check itself is left out
  check_gone : (to : ℕ) (how : Step) (ways : Ways) (kept : Block) → tainted to ≡ has_check c (way_behind ways to how).checks → list_any (λ q. q == c) (checks_of kept) ≡ false
      → (test : Bool) → tainted to ≡ test → list_any (λ q. q == c) (checks_of (behind_where (not test) (Spot to how) kept)) ≡ false
  check_gone to how ways kept is none true e = none
  check_gone to (step.Root layout) ways kept is none false e = none
  check_gone to (step.Check place axis extent index) ways kept is none false e =
      let parts = or_parts (has_check c (way_to ways place)) (has_check c (record { axis = axis; index = index; place = to } ∷ []))
      (sym (list_any-append (λ (it : AxisCheck). it.place == c) (way_to ways place) (record { axis = axis; index = index; place = to } ∷ [])) ∙ (sym is ∙ e)) in
      or_from (to == c) (list_any (λ q. q == c) (checks_of kept)) (or_parts (to == c) false parts.1).0 none
  check_gone to (step.Down descent place node offset) ways kept is none false e = none

  no_checks : (xs ys : List ℕ) → list_any (λ q. q == c) xs ≡ false → list_any (λ q. q == c) ys ≡ false → list_any (λ q. q == c) (xs ++ ys) ≡ false
  no_checks xs ys e f = list_any-append (λ q. q == c) xs ys ∙ or_from (list_any (λ q. q == c) xs) (list_any (λ q. q == c) ys) e f

  skips : (inst : Block → Block) (kept : Block) (test : Bool) → ((b : Block) → checks_of (inst b) ≡ checks_of b) → list_any (λ q. q == c) (checks_of kept) ≡ false → list_any (λ q. q == c) (checks_of (behind_where test inst kept)) ≡ false
  skips inst kept true same none = ap (list_any (λ q. q == c)) (same kept) ∙ none
  skips inst kept false same none = none

  branch_gone : (cond : ℕ) (a b kept : Block) (test : Bool) → list_any (λ q. q == c) (checks_of a) ≡ false → list_any (λ q. q == c) (checks_of b) ≡ false → list_any (λ q. q == c) (checks_of kept) ≡ false
      → list_any (λ q. q == c) (checks_of (behind_where test (Branch cond a b) kept)) ≡ false
  branch_gone cond a b kept true e f g = no_checks (checks_of a) (checks_of b ++ checks_of kept) e (no_checks (checks_of b) (checks_of kept) f g)
  branch_gone cond a b kept false e f g = g

  loop_gone : (var : ℕ) (lo hi : ℤ) (a kept : Block) (test : Bool) → list_any (λ q. q == c) (checks_of a) ≡ false → list_any (λ q. q == c) (checks_of kept) ≡ false
      → list_any (λ q. q == c) (checks_of (behind_where test (Loop var lo hi a) kept)) ≡ false
  loop_gone var lo hi a kept true e g = no_checks (checks_of a) (checks_of kept) e g
  loop_gone var lo hi a kept false e g = g

  pub is_gone : (block : Block) (ways : Ways) → Tells ways block → list_any (λ q. q == c) (checks_of (kept_part untainted block)) ≡ false
  is_gone End ways told = refl
  is_gone (Word to how rest) ways told = skips (Word to how) (kept_part untainted rest) true (λ b. refl) (is_gone rest ways told)
  is_gone (Spot to how rest) ways told = check_gone to how ways (kept_part untainted rest) told.0 (is_gone rest ((to, way_behind ways to how) ∷ ways) told.1) (tainted to) refl
  is_gone (Cell to place sight index rest) ways told = skips (Cell to place sight index) (kept_part untainted rest) true (λ b. refl) (is_gone rest ways told)
  is_gone (Do what rest) ways told = skips (Do what) (kept_part untainted rest) (keeps_act untainted what) (λ b. refl) (is_gone rest ways told)
  is_gone (Branch cond block otherwise rest) ways told =
      branch_gone cond (kept_part untainted block) (kept_part untainted otherwise) (kept_part untainted rest) (not (is_end (kept_part untainted block) && is_end (kept_part untainted otherwise)))
      (is_gone block ways told.0) (is_gone otherwise ways told.1) (is_gone rest ways told.2)
  is_gone (Loop var lo hi body rest) ways told =
      loop_gone var lo hi (kept_part untainted body) (kept_part untainted rest) true (is_gone body ways told.0) (is_gone rest ways told.1)

-- ---- which places are tainted, by all ways of the whole block
module _ (c : ℕ) (whole : Ways) where
  abbrev by_ways : ℕ → Bool
  by_ways p = has_check c (way_to whole p)

  abbrev Found : Block → Type 0
  Found block = (scope : InScope) (ways known : Ways) → IsScoped scope block → ((p : ℕ) → scope.places p ≡ true → way_of known p ≡ way_of ways p) → ((p : ℕ) → scope.places p ≡ true → places_set p block ≡ 0)
      → ((p : ℕ) → places_set p block ≤ 1) → ((p : ℕ) → 1 ≤ places_set p block → way_of whole p ≡ way_of (all_ways known block) p) → Tells c by_ways ways block

  behind_same : (to : ℕ) (how : Step) (scope : InScope) (ways known : Ways) → AreSet scope.places (step_places how) → ((p : ℕ) → scope.places p ≡ true → way_of known p ≡ way_of ways p) → way_behind known to how ≡ way_behind ways to how
  behind_same to (step.Root layout) scope ways known set same = refl
  behind_same to (step.Check place axis extent index) scope ways known set same = ap (λ (w : Way). record { root = w.root; checks = w.checks ++ record { axis = axis; index = index; place = to } ∷ [] }) (same place set.0)
  behind_same to (step.Down descent place node offset) scope ways known set same = same place set.0

  same_to : (to : ℕ) → one_where (to == to) ≡ 1
  same_to to = ap one_where (eq-eqb to to refl)

  first_way : (to : ℕ) (w : Way) (ways : Ways) → way_of ((to, w) ∷ ways) to ≡ w
  first_way to w ways = ap (λ (test : Bool). if test then w else way_of ways to) (eq-eqb to to refl)

  spot_found : (to : ℕ) (how : Step) (rest : Block) → Found rest → Found (Spot to how rest)
  spot_found to how rest more scope ways known scoped same unset once final =
      let one = same_to to in
      let all = once to in
      let gone : places_set to rest ≡ 0 = omega (arith, one, all) in
      let there = final to (omega (arith, one)) in
      let at : way_of whole to ≡ way_behind known to how = there ∙ (ways_stay to rest ((to, way_behind known to how) ∷ known) gone ∙ first_way to (way_behind known to how) known) in (
        ap (λ (w : Way). has_check c w.checks) (at ∙ behind_same to how scope ways known scoped.1 same),
        more (and_place to scope) ((to, way_behind ways to how) ∷ ways) ((to, way_behind known to how) ∷ known) scoped.3
            (λ p on. both_first p on) (λ p on. rest_unset p (p == to) refl on) (λ p. rest_once p) (λ p some. final p (rest_some p some)),
      )
    where
      both_first : (p : ℕ) → (and_place to scope).places p ≡ true → way_of ((to, way_behind known to how) ∷ known) p ≡ way_of ((to, way_behind ways to how) ∷ ways) p
      both_first p on = by_test (to == p) refl
        where
          was : (to == p) ≡ false → (other : Bool) → (p == to) ≡ other → (if other then true else scope.places p) ≡ true → scope.places p ≡ true
          was e true f h = clash (to == p) (eq-eqb to p (sym (eqb-true p to f))) e
          was e false f h = h

          by_test : (first : Bool) → (to == p) ≡ first → (if first then way_behind known to how else way_of known p) ≡ (if first then way_behind ways to how else way_of ways p)
          by_test true e = behind_same to how scope ways known scoped.1 same
          by_test false e = same p (was e (p == to) refl on)

      rest_unset : (p : ℕ) (test : Bool) → (p == to) ≡ test → (if test then true else scope.places p) ≡ true → places_set p rest ≡ 0
      rest_unset p true e on = let one = ap one_where (eq-eqb to p (sym (eqb-true p to e))) in let all = once p in omega (arith, one, all)
      rest_unset p false e on = let all = unset p on in omega (arith, all)

      rest_once : (p : ℕ) → places_set p rest ≤ 1
      rest_once p = let all = once p in omega (arith, all)

      rest_some : (p : ℕ) → 1 ≤ places_set p rest → 1 ≤ places_set p (Spot to how rest)
      rest_some p some = omega (arith, some)

  branch_found : (cond : ℕ) (block otherwise rest : Block) → Found block → Found otherwise → Found rest → Found (Branch cond block otherwise rest)
  branch_found cond block otherwise rest one two more scope ways known scoped same unset once final = (
    one scope ways known scoped.1 same (λ p on. let all = unset p on in omega (arith, all)) (λ p. let all = once p in omega (arith, all)) (λ p some. in_first p some),
    two scope ways (all_ways known block) scoped.2 (λ p on. ways_stay p block known (let all = unset p on in omega (arith, all)) ∙ same p on) (λ p on. let all = unset p on in omega (arith, all)) (λ p. let all = once p in omega (arith, all)) (λ p some. in_second p some),
    more scope ways (all_ways (all_ways known block) otherwise) scoped.3
        (λ p on. ways_stay p otherwise (all_ways known block) (let all = unset p on in omega (arith, all)) ∙ (ways_stay p block known (let all = unset p on in omega (arith, all)) ∙ same p on))
        (λ p on. let all = unset p on in omega (arith, all)) (λ p. let all = once p in omega (arith, all)) (λ p some. final p (omega (arith, some))),
  )
    where
      in_first : (p : ℕ) → 1 ≤ places_set p block → way_of whole p ≡ way_of (all_ways known block) p
      in_first p some =
          let all = once p in
          final p (omega (arith, some)) ∙ (ways_stay p rest (all_ways (all_ways known block) otherwise) (omega (arith, all, some)) ∙ ways_stay p otherwise (all_ways known block) (omega (arith, all, some)))

      in_second : (p : ℕ) → 1 ≤ places_set p otherwise → way_of whole p ≡ way_of (all_ways (all_ways known block) otherwise) p
      in_second p some = let all = once p in final p (omega (arith, some)) ∙ ways_stay p rest (all_ways (all_ways known block) otherwise) (omega (arith, all, some))

  loop_found : (var : ℕ) (lo hi : ℤ) (body rest : Block) → Found body → Found rest → Found (Loop var lo hi body rest)
  loop_found var lo hi body rest turn more scope ways known scoped same unset once final = (
    turn scope ways known scoped.0 same (λ p on. let all = unset p on in omega (arith, all)) (λ p. let all = once p in omega (arith, all)) (λ p some. in_body p some),
    more scope ways (all_ways known body) scoped.1 (λ p on. ways_stay p body known (let all = unset p on in omega (arith, all)) ∙ same p on)
        (λ p on. let all = unset p on in omega (arith, all)) (λ p. let all = once p in omega (arith, all)) (λ p some. final p (omega (arith, some))),
  )
    where
      in_body : (p : ℕ) → 1 ≤ places_set p body → way_of whole p ≡ way_of (all_ways known body) p
      in_body p some = let all = once p in final p (omega (arith, some)) ∙ ways_stay p rest (all_ways known body) (omega (arith, all, some))

  is_found : (block : Block) → Found block
  is_found End = λ scope ways known scoped same unset once final. tt
  is_found (Word to how rest) = λ scope ways known scoped same unset once final. is_found rest (and_reg to scope) ways known scoped.3 same unset once final
  is_found (Spot to how rest) = spot_found to how rest (is_found rest)
  is_found (Cell to place sight index rest) = λ scope ways known scoped same unset once final. is_found rest (and_reg to scope) ways known scoped.2 same unset once final
  is_found (Do what rest) = λ scope ways known scoped same unset once final. is_found rest scope ways known scoped.2 same unset once final
  is_found (Branch cond block otherwise rest) = branch_found cond block otherwise rest (is_found block) (is_found otherwise) (is_found rest)
  is_found (Loop var lo hi body rest) = loop_found var lo hi body rest (is_found body) (is_found rest)

each_of : (P : ℕ → Bool) (xs : List ℕ) → ((c : ℕ) → list_any (λ q. q == c) xs ≡ true → P c ≡ true) → list_all P xs ≡ true
each_of P [] each = refl
each_of P (x ∷ xs) each = and_from (P x) (list_all P xs) (each x (first (x == x) (list_any (λ q. q == x) xs) (eq-eqb x x refl))) (each_of P xs (λ c h. each c (or_right (x == c) (list_any (λ q. q == c) xs) h)))
  where
    first : (a b : Bool) → a ≡ true → (a || b) ≡ true
    first true b e = refl
    first false b e = none_set e

-- each check serves an access
pub lean_checks_serve : (block : Block) → IsLean block → HasNoReads block → IsScoped nothing block → ((p : ℕ) → places_set p block ≤ 1)
    → list_all (λ place. list_any (λ (passed : AxisCheck). passed.place == place) (passed_in [] block)) (checks_of block) ≡ true
lean_checks_serve block lean plain scoped once = each_of (λ place. has_check place (passed_in [] block)) (checks_of block) (λ c there. by_test c there (has_check c (passed_in [] block)) refl)
  where
    by_test : (c : ℕ) → list_any (λ q. q == c) (checks_of block) ≡ true → (test : Bool) → has_check c (passed_in [] block) ≡ test → test ≡ true
    by_test c there true e = refl
    by_test c there false e =
        let whole = all_ways [] block in
        let told = is_found c whole block nothing [] [] scoped (λ p on. none_set on) (λ p on. none_set on) once (λ p some. refl) in
        let reads = is_free c (by_ways c whole) block plain nothing [] scoped (λ p on. none_set on) told e in
        clash (list_any (λ q. q == c) (checks_of block)) there
        (ap (λ b. list_any (λ q. q == c) (checks_of b)) (sym (lean (untainted c (by_ways c whole)) reads)) ∙ is_gone c (by_ways c whole) block [] told)
