-- How often a block without what isn't kept sets variables, registers and places.
use Rattle.std.specs.Prelude.{◌≡◌, refl, ℕ, ◌+◌, ◌≤◌, ◌==◌, Bool, true, false, not, ◌&&◌, ◌||◌, if◌then◌else◌}
use Rattle.std.proofs.Common.{arith, sym, ap, ◌∙◌}
use Rattle.std.proofs.lemmas.Bool.{eqb-true, and_parts}
use Rattle.sg_ir.specs.Blocks.{Block, End, Word, Spot, Cell, Do, Branch, Loop, Act, SetVar, WriteOwn, Contribute, Wish}
use Rattle.sg_ir.specs.Span.{sets}
use Rattle.sg_simplify.specs.steps.Counted.{one_where, regs_set, places_set}
use Rattle.sg_simplify.specs.Kept.{Keep, behind_where, is_end, keeps_act, kept_part}
use Rattle.sg_simplify.proofs.KeptTests.{clash, end_is}

-- a count along a block that doesn't look at an instruction
past_inst : (count : Block → ℕ) (inst : Block → Block) → ((b : Block) → count (inst b) ≡ count b) → (test : Bool) (kept rest : Block) → count kept ≡ count rest → count (behind_where test inst kept) ≡ count (inst rest)
past_inst count inst same true kept rest e = same kept ∙ (e ∙ sym (same rest))
past_inst count inst same false kept rest e = e ∙ sym (same rest)

module _ (keep : Keep) (v : ℕ) (on : keep.vars v ≡ true) where
  act_sets_same : (what : Act) (rest kept : Block) → sets v kept ≡ sets v rest → (test : Bool) → keeps_act keep what ≡ test → sets v (behind_where test (Do what) kept) ≡ sets v (Do what rest)
  act_sets_same (SetVar set from) rest kept e true is = ap (λ n. (if set == v then 1 else 0) + n) e
  act_sets_same (SetVar set from) rest kept e false is = by_test (set == v) refl
    where
      by_test : (same : Bool) → (set == v) ≡ same → sets v kept ≡ (if same then 1 else 0) + sets v rest
      by_test true s = clash (keep.vars v) on (ap keep.vars (sym (eqb-true set v s)) ∙ is)
      by_test false s = omega (arith, e)
  act_sets_same (WriteOwn layout field from stmt) rest kept e true is = ap (λ n. 0 + n) e
  act_sets_same (WriteOwn layout field from stmt) rest kept e false is = absurd (cc)
  act_sets_same (Contribute how layout field place from index stmt) rest kept e true is = ap (λ n. 0 + n) e
  act_sets_same (Contribute how layout field place from index stmt) rest kept e false is = absurd (cc)
  act_sets_same (Wish layout index stmt) rest kept e true is = ap (λ n. 0 + n) e
  act_sets_same (Wish layout index stmt) rest kept e false is = absurd (cc)

  none_left : (block : Block) → sets v (kept_part keep block) ≡ sets v block → is_end (kept_part keep block) ≡ true → sets v block ≡ 0
  none_left block e none = sym e ∙ ap (sets v) (end_is (kept_part keep block) none)

  branch_sets : (cond : ℕ) (a b rest : Block) → sets v (kept_part keep a) ≡ sets v a → sets v (kept_part keep b) ≡ sets v b → sets v (kept_part keep rest) ≡ sets v rest
      → (none : Bool) → (is_end (kept_part keep a) && is_end (kept_part keep b)) ≡ none
      → sets v (behind_where (not none) (Branch cond (kept_part keep a) (kept_part keep b)) (kept_part keep rest)) ≡ sets v (Branch cond a b rest)
  branch_sets cond a b rest e f g true is =
      let parts = and_parts (is_end (kept_part keep a)) (is_end (kept_part keep b)) is in
      let one = none_left a e parts.0 in
      let two = none_left b f parts.1 in
      omega (arith, one, two, g)
  branch_sets cond a b rest e f g false is = omega (arith, e, f, g)

  loop_sets : (var : ℕ) (lo hi : _) (body rest : Block) → sets v (kept_part keep body) ≡ sets v body → sets v (kept_part keep rest) ≡ sets v rest
      → (known none : Bool) → keep.vars var ≡ known → is_end (kept_part keep body) ≡ none
      → sets v (behind_where (known || not none) (Loop var lo hi (kept_part keep body)) (kept_part keep rest)) ≡ sets v (Loop var lo hi body rest)
  loop_sets var lo hi body rest e g true none is are = ap (λ n. (if var == v then 1 else 0) + n) (sum e g)
    where
      sum : {a b c d : ℕ} → a ≡ b → c ≡ d → a + c ≡ b + d
      sum x y = omega (arith, x, y)
  loop_sets var lo hi body rest e g false false is are = ap (λ n. (if var == v then 1 else 0) + n) (sum e g)
    where
      sum : {a b c d : ℕ} → a ≡ b → c ≡ d → a + c ≡ b + d
      sum x y = omega (arith, x, y)
  loop_sets var lo hi body rest e g false true is are = by_test (var == v) refl
    where
      by_test : (same : Bool) → (var == v) ≡ same → sets v (kept_part keep rest) ≡ (if same then 1 else 0) + (sets v body + sets v rest)
      by_test true s = clash (keep.vars v) on (ap keep.vars (sym (eqb-true var v s)) ∙ is)
      by_test false s = let one = none_left body e are in omega (arith, one, g)

  -- a variable that is kept is set as often
  pub kept_sets : (block : Block) → sets v (kept_part keep block) ≡ sets v block
  kept_sets End = refl
  kept_sets (Word to how rest) = past_inst (sets v) (Word to how) (λ b. refl) (keep.regs to) (kept_part keep rest) rest (kept_sets rest)
  kept_sets (Spot to how rest) = past_inst (sets v) (Spot to how) (λ b. refl) (keep.places to) (kept_part keep rest) rest (kept_sets rest)
  kept_sets (Cell to place sight index rest) = past_inst (sets v) (Cell to place sight index) (λ b. refl) (keep.regs to) (kept_part keep rest) rest (kept_sets rest)
  kept_sets (Do what rest) = act_sets_same what rest (kept_part keep rest) (kept_sets rest) (keeps_act keep what) refl
  kept_sets (Branch cond a b rest) = branch_sets cond a b rest (kept_sets a) (kept_sets b) (kept_sets rest) (is_end (kept_part keep a) && is_end (kept_part keep b)) refl
  kept_sets (Loop var lo hi body rest) = loop_sets var lo hi body rest (kept_sets body) (kept_sets rest) (keep.vars var) (is_end (kept_part keep body)) refl refl

-- ---- registers and places are set no more often
none_more : (n : ℕ) → n ≡ 0 + n
none_more n = omega arith

fewer_inst : (count : Block → ℕ) (inst : Block → Block) (n : ℕ) → ((b : Block) → count (inst b) ≡ n + count b) → (test : Bool) (kept rest : Block) → count kept ≤ count rest → count (behind_where test inst kept) ≤ count (inst rest)
fewer_inst count inst n same true kept rest e = let one = same kept in let two = same rest in omega (arith, one, two, e)
fewer_inst count inst n same false kept rest e = let two = same rest in omega (arith, two, e)

module _ (keep : Keep) (n : ℕ) where
  two_below : (a b c d e f : ℕ) → a ≤ b → c ≤ d → e ≤ f → a + (c + e) ≤ b + (d + f)
  two_below a b c d e f x y z = omega (arith, x, y, z)

  one_below : (a b e f : ℕ) → a ≤ b → e ≤ f → a + e ≤ b + f
  one_below a b e f x z = omega (arith, x, z)

  past_below : (a b f g : ℕ) → g ≤ f → g ≤ a + (b + f)
  past_below a b f g z = omega (arith, z)

  rest_below : (a f g : ℕ) → g ≤ f → g ≤ a + f
  rest_below a f g z = omega (arith, z)

  branch_regs : (cond : ℕ) (a b rest : Block) → regs_set n (kept_part keep a) ≤ regs_set n a → regs_set n (kept_part keep b) ≤ regs_set n b → regs_set n (kept_part keep rest) ≤ regs_set n rest
      → (test : Bool) → regs_set n (behind_where test (Branch cond (kept_part keep a) (kept_part keep b)) (kept_part keep rest)) ≤ regs_set n (Branch cond a b rest)
  branch_regs cond a b rest x y z true = two_below _ _ _ _ _ _ x y z
  branch_regs cond a b rest x y z false = past_below _ _ _ _ z

  branch_places : (cond : ℕ) (a b rest : Block) → places_set n (kept_part keep a) ≤ places_set n a → places_set n (kept_part keep b) ≤ places_set n b → places_set n (kept_part keep rest) ≤ places_set n rest
      → (test : Bool) → places_set n (behind_where test (Branch cond (kept_part keep a) (kept_part keep b)) (kept_part keep rest)) ≤ places_set n (Branch cond a b rest)
  branch_places cond a b rest x y z true = two_below _ _ _ _ _ _ x y z
  branch_places cond a b rest x y z false = past_below _ _ _ _ z

  loop_regs : (var : ℕ) (lo hi : _) (body rest : Block) → regs_set n (kept_part keep body) ≤ regs_set n body → regs_set n (kept_part keep rest) ≤ regs_set n rest
      → (test : Bool) → regs_set n (behind_where test (Loop var lo hi (kept_part keep body)) (kept_part keep rest)) ≤ regs_set n (Loop var lo hi body rest)
  loop_regs var lo hi body rest x z true = one_below _ _ _ _ x z
  loop_regs var lo hi body rest x z false = rest_below _ _ _ z

  loop_places : (var : ℕ) (lo hi : _) (body rest : Block) → places_set n (kept_part keep body) ≤ places_set n body → places_set n (kept_part keep rest) ≤ places_set n rest
      → (test : Bool) → places_set n (behind_where test (Loop var lo hi (kept_part keep body)) (kept_part keep rest)) ≤ places_set n (Loop var lo hi body rest)
  loop_places var lo hi body rest x z true = one_below _ _ _ _ x z
  loop_places var lo hi body rest x z false = rest_below _ _ _ z

  pub kept_regs : (block : Block) → regs_set n (kept_part keep block) ≤ regs_set n block
  kept_regs End = omega arith
  kept_regs (Word to how rest) = fewer_inst (regs_set n) (Word to how) (one_where (to == n)) (λ b. refl) (keep.regs to) (kept_part keep rest) rest (kept_regs rest)
  kept_regs (Spot to how rest) = fewer_inst (regs_set n) (Spot to how) 0 (λ b. none_more (regs_set n b)) (keep.places to) (kept_part keep rest) rest (kept_regs rest)
  kept_regs (Cell to place sight index rest) = fewer_inst (regs_set n) (Cell to place sight index) (one_where (to == n)) (λ b. refl) (keep.regs to) (kept_part keep rest) rest (kept_regs rest)
  kept_regs (Do what rest) = fewer_inst (regs_set n) (Do what) 0 (λ b. none_more (regs_set n b)) (keeps_act keep what) (kept_part keep rest) rest (kept_regs rest)
  kept_regs (Branch cond a b rest) = branch_regs cond a b rest (kept_regs a) (kept_regs b) (kept_regs rest) (not (is_end (kept_part keep a) && is_end (kept_part keep b)))
  kept_regs (Loop var lo hi body rest) = loop_regs var lo hi body rest (kept_regs body) (kept_regs rest) (keep.vars var || not (is_end (kept_part keep body)))

  pub kept_places : (block : Block) → places_set n (kept_part keep block) ≤ places_set n block
  kept_places End = omega arith
  kept_places (Word to how rest) = fewer_inst (places_set n) (Word to how) 0 (λ b. none_more (places_set n b)) (keep.regs to) (kept_part keep rest) rest (kept_places rest)
  kept_places (Spot to how rest) = fewer_inst (places_set n) (Spot to how) (one_where (to == n)) (λ b. refl) (keep.places to) (kept_part keep rest) rest (kept_places rest)
  kept_places (Cell to place sight index rest) = fewer_inst (places_set n) (Cell to place sight index) 0 (λ b. none_more (places_set n b)) (keep.regs to) (kept_part keep rest) rest (kept_places rest)
  kept_places (Do what rest) = fewer_inst (places_set n) (Do what) 0 (λ b. none_more (places_set n b)) (keeps_act keep what) (kept_part keep rest) rest (kept_places rest)
  kept_places (Branch cond a b rest) = branch_places cond a b rest (kept_places a) (kept_places b) (kept_places rest) (not (is_end (kept_part keep a) && is_end (kept_part keep b)))
  kept_places (Loop var lo hi body rest) = loop_places var lo hi body rest (kept_places body) (kept_places rest) (keep.vars var || not (is_end (kept_part keep body)))
