-- What is left where least is kept is code from which nothing can be left out.
use Rattle.std.specs.Prelude.{◌≡◌, refl, ℕ, ℤ, Bool, true, false, not, ◌&&◌, ◌||◌, List, [], ◌∷◌}
use Rattle.std.proofs.Common.{sym, ap, subst, ◌∙◌}
use Rattle.std.proofs.lemmas.Bool.{and_parts, and_from}
use Rattle.sg_ir.specs.declared.op.Op.{Op}
use Rattle.sg_ir.specs.declared.op.Step.{Step}
use Rattle.sg_ir.specs.Blocks.{Sight, Block, End, Word, Spot, Cell, Do, Branch, Loop, Act, SetVar, WriteOwn, Contribute, Wish}
use Rattle.sg_ir.specs.InScope.{AreSet}
use Rattle.sg_simplify.specs.Kept.{Keep, behind_where, is_end, keeps_act, kept_part, ReadsKept, IsLean}
use Rattle.sg_simplify.proofs.KeptTests.{clash, end_is}

-- what both keep
abbrev pub both_kept : Keep → Keep → Keep
both_kept keep other = record { regs = λ r. keep.regs r && other.regs r; places = λ p. keep.places p && other.places p; vars = λ v. keep.vars v && other.vars v }

-- all that the one keeps the other keeps
pub record Within (keep other : Keep) : Type 0 where
  pub regs : (r : ℕ) → keep.regs r ≡ true → other.regs r ≡ true
  pub places : (p : ℕ) → keep.places p ≡ true → other.places p ≡ true
  pub vars : (v : ℕ) → keep.vars v ≡ true → other.vars v ≡ true

-- an `if`, and a loop, with what is left inside and after it
abbrev branch_left : ℕ → Block → Block → Block → Block
branch_left cond block otherwise rest = behind_where (not (is_end block && is_end otherwise)) (Branch cond block otherwise) rest

abbrev loop_left : Bool → ℕ → ℤ → ℤ → Block → Block → Block
loop_left known var lo hi body rest = behind_where (known || not (is_end body)) (Loop var lo hi body) rest

branch_alike : (cond : ℕ) (a b c x y z : Block) → a ≡ x → b ≡ y → c ≡ z → branch_left cond a b c ≡ branch_left cond x y z
branch_alike cond a b c x y z e f g = ap (λ k. branch_left cond k b c) e ∙ (ap (λ k. branch_left cond x k c) f ∙ ap (branch_left cond x y) g)

loop_alike : (known : Bool) (var : ℕ) (lo hi : ℤ) (a c x z : Block) → a ≡ x → c ≡ z → loop_left known var lo hi a c ≡ loop_left known var lo hi x z
loop_alike known var lo hi a c x z e g = ap (λ k. loop_left known var lo hi k c) e ∙ ap (loop_left known var lo hi x) g

-- ---- twice
module _ (keep other : Keep) where
  abbrev Twice : Block → Type 0
  Twice block = ReadsKept keep (kept_part keep block) → kept_part other (kept_part keep block) ≡ kept_part (both_kept keep other) block

  none_twice : (block : Block) → Twice block → is_end (kept_part keep block) ≡ true → kept_part (both_kept keep other) block ≡ End
  none_twice block twice e =
      let none : kept_part keep block ≡ End = end_is (kept_part keep block) e in
      let reads : ReadsKept keep (kept_part keep block) = subst (ReadsKept keep) (sym none) tt in
      sym (twice reads) ∙ ap (kept_part other) none

  word_twice : (to : ℕ) (how : Op) (rest : Block) → Twice rest → Twice (Word to how rest)
  word_twice to how rest twice reads = by_test (keep.regs to) reads
    where
      by_test : (test : Bool) → ReadsKept keep (behind_where test (Word to how) (kept_part keep rest))
          → kept_part other (behind_where test (Word to how) (kept_part keep rest)) ≡ behind_where (test && other.regs to) (Word to how) (kept_part (both_kept keep other) rest)
      by_test true read = ap (behind_where (other.regs to) (Word to how)) (twice read.3)
      by_test false read = twice read

  spot_twice : (to : ℕ) (how : Step) (rest : Block) → Twice rest → Twice (Spot to how rest)
  spot_twice to how rest twice reads = by_test (keep.places to) reads
    where
      by_test : (test : Bool) → ReadsKept keep (behind_where test (Spot to how) (kept_part keep rest))
          → kept_part other (behind_where test (Spot to how) (kept_part keep rest)) ≡ behind_where (test && other.places to) (Spot to how) (kept_part (both_kept keep other) rest)
      by_test true read = ap (behind_where (other.places to) (Spot to how)) (twice read.2)
      by_test false read = twice read

  cell_twice : (to place : ℕ) (sight : Sight) (index : List ℕ) (rest : Block) → Twice rest → Twice (Cell to place sight index rest)
  cell_twice to place sight index rest twice reads = by_test (keep.regs to) reads
    where
      inst : Block → Block
      inst = Cell to place sight index

      by_test : (test : Bool) → ReadsKept keep (behind_where test inst (kept_part keep rest))
          → kept_part other (behind_where test inst (kept_part keep rest)) ≡ behind_where (test && other.regs to) inst (kept_part (both_kept keep other) rest)
      by_test true read = ap (behind_where (other.regs to) inst) (twice read.2)
      by_test false read = twice read

  do_twice : (what : Act) (rest : Block) → Twice rest → Twice (Do what rest)
  do_twice (SetVar var from) rest twice reads = by_test (keep.vars var) reads
    where
      by_test : (test : Bool) → ReadsKept keep (behind_where test (Do (SetVar var from)) (kept_part keep rest))
          → kept_part other (behind_where test (Do (SetVar var from)) (kept_part keep rest)) ≡ behind_where (test && other.vars var) (Do (SetVar var from)) (kept_part (both_kept keep other) rest)
      by_test true read = ap (behind_where (other.vars var) (Do (SetVar var from))) (twice read.2)
      by_test false read = twice read
  do_twice (WriteOwn layout field from stmt) rest twice reads = ap (Do (WriteOwn layout field from stmt)) (twice reads.2)
  do_twice (Contribute how layout field place from index stmt) rest twice reads = ap (Do (Contribute how layout field place from index stmt)) (twice reads.2)
  do_twice (Wish layout index stmt) rest twice reads = ap (Do (Wish layout index stmt)) (twice reads.2)

  branch_twice : (cond : ℕ) (block otherwise rest : Block) → Twice block → Twice otherwise → Twice rest → Twice (Branch cond block otherwise rest)
  branch_twice cond block otherwise rest one two more reads = by_test (is_end (kept_part keep block) && is_end (kept_part keep otherwise)) refl reads
    where
      both : Keep
      both = both_kept keep other

      by_test : (none : Bool) → (is_end (kept_part keep block) && is_end (kept_part keep otherwise)) ≡ none
          → ReadsKept keep (behind_where (not none) (Branch cond (kept_part keep block) (kept_part keep otherwise)) (kept_part keep rest))
          → kept_part other (behind_where (not none) (Branch cond (kept_part keep block) (kept_part keep otherwise)) (kept_part keep rest)) ≡ kept_part (both_kept keep other) (Branch cond block otherwise rest)
      by_test true e read =
          let parts = and_parts (is_end (kept_part keep block)) (is_end (kept_part keep otherwise)) e in
          more read ∙ sym (branch_alike cond (kept_part (both_kept keep other) block) (kept_part (both_kept keep other) otherwise) (kept_part (both_kept keep other) rest) End End (kept_part (both_kept keep other) rest)
          (none_twice block one parts.0) (none_twice otherwise two parts.1) refl)
      by_test false e read =
          branch_alike cond (kept_part other (kept_part keep block)) (kept_part other (kept_part keep otherwise)) (kept_part other (kept_part keep rest))
          (kept_part (both_kept keep other) block) (kept_part (both_kept keep other) otherwise) (kept_part (both_kept keep other) rest) (one read.1) (two read.2) (more read.3)

  loop_twice : (var : ℕ) (lo hi : ℤ) (body rest : Block) → Twice body → Twice rest → Twice (Loop var lo hi body rest)
  loop_twice var lo hi body rest turn more reads = by_test (keep.vars var) (is_end (kept_part keep body)) refl refl reads
    where
      by_test : (known none : Bool) → keep.vars var ≡ known → is_end (kept_part keep body) ≡ none → ReadsKept keep (behind_where (known || not none) (Loop var lo hi (kept_part keep body)) (kept_part keep rest))
          → kept_part other (behind_where (known || not none) (Loop var lo hi (kept_part keep body)) (kept_part keep rest))
          ≡ loop_left (known && other.vars var) var lo hi (kept_part (both_kept keep other) body) (kept_part (both_kept keep other) rest)
      by_test true none e f read =
          loop_alike (other.vars var) var lo hi (kept_part other (kept_part keep body)) (kept_part other (kept_part keep rest)) (kept_part (both_kept keep other) body) (kept_part (both_kept keep other) rest) (turn read.1) (more read.2)
      by_test false false e f read = clash (keep.vars var) read.0 e
      by_test false true e f read =
          more read ∙ sym (loop_alike false var lo hi (kept_part (both_kept keep other) body) (kept_part (both_kept keep other) rest) End (kept_part (both_kept keep other) rest) (none_twice body turn f) refl)

  pub kept_twice : (block : Block) → Twice block
  kept_twice End = λ reads. refl
  kept_twice (Word to how rest) = word_twice to how rest (kept_twice rest)
  kept_twice (Spot to how rest) = spot_twice to how rest (kept_twice rest)
  kept_twice (Cell to place sight index rest) = cell_twice to place sight index rest (kept_twice rest)
  kept_twice (Do what rest) = do_twice what rest (kept_twice rest)
  kept_twice (Branch cond block otherwise rest) = branch_twice cond block otherwise rest (kept_twice block) (kept_twice otherwise) (kept_twice rest)
  kept_twice (Loop var lo hi body rest) = loop_twice var lo hi body rest (kept_twice body) (kept_twice rest)

-- ---- what is left reads no more
module _ (keep other : Keep) where
  word_less : (to : ℕ) (how : Op) (kept : Block) (all : Block) (test : Bool) → ReadsKept keep (Word to how all) → ReadsKept keep kept → ReadsKept keep (behind_where test (Word to how) kept)
  word_less to how kept all true reads more = (reads.0, reads.1, reads.2, more)
  word_less to how kept all false reads more = more

  spot_less : (to : ℕ) (how : Step) (kept : Block) (all : Block) (test : Bool) → ReadsKept keep (Spot to how all) → ReadsKept keep kept → ReadsKept keep (behind_where test (Spot to how) kept)
  spot_less to how kept all true reads more = (reads.0, reads.1, more)
  spot_less to how kept all false reads more = more

  cell_less : (to place : ℕ) (sight : Sight) (index : List ℕ) (kept : Block) (all : Block) (test : Bool) → ReadsKept keep (Cell to place sight index all) → ReadsKept keep kept
      → ReadsKept keep (behind_where test (Cell to place sight index) kept)
  cell_less to place sight index kept all true reads more = (reads.0, reads.1, more)
  cell_less to place sight index kept all false reads more = more

  do_less : (what : Act) (kept : Block) (all : Block) (test : Bool) → ReadsKept keep (Do what all) → ReadsKept keep kept → ReadsKept keep (behind_where test (Do what) kept)
  do_less what kept all true reads more = (reads.0, reads.1, more)
  do_less what kept all false reads more = more

  branch_less : (cond : ℕ) (a b kept : Block) (test : Bool) → keep.regs cond ≡ true → ReadsKept keep a → ReadsKept keep b → ReadsKept keep kept → ReadsKept keep (behind_where test (Branch cond a b) kept)
  branch_less cond a b kept true on one two more = (on, one, two, more)
  branch_less cond a b kept false on one two more = more

  loop_less : (var : ℕ) (lo hi : ℤ) (body kept : Block) (test : Bool) → keep.vars var ≡ true → ReadsKept keep body → ReadsKept keep kept → ReadsKept keep (behind_where test (Loop var lo hi body) kept)
  loop_less var lo hi body kept true on turn more = (on, turn, more)
  loop_less var lo hi body kept false on turn more = more

  pub reads_less : (block : Block) → ReadsKept keep block → ReadsKept keep (kept_part other block)
  reads_less End reads = tt
  reads_less (Word to how rest) reads = word_less to how (kept_part other rest) rest (other.regs to) reads (reads_less rest reads.3)
  reads_less (Spot to how rest) reads = spot_less to how (kept_part other rest) rest (other.places to) reads (reads_less rest reads.2)
  reads_less (Cell to place sight index rest) reads = cell_less to place sight index (kept_part other rest) rest (other.regs to) reads (reads_less rest reads.2)
  reads_less (Do what rest) reads = do_less what (kept_part other rest) rest (keeps_act other what) reads (reads_less rest reads.2)
  reads_less (Branch cond block otherwise rest) reads =
      branch_less cond (kept_part other block) (kept_part other otherwise) (kept_part other rest) (not (is_end (kept_part other block) && is_end (kept_part other otherwise))) reads.0
      (reads_less block reads.1) (reads_less otherwise reads.2) (reads_less rest reads.3)
  reads_less (Loop var lo hi body rest) reads =
      loop_less var lo hi (kept_part other body) (kept_part other rest) (other.vars var || not (is_end (kept_part other body))) reads.0 (reads_less body reads.1) (reads_less rest reads.2)

  set_both : (kept known : ℕ → Bool) (rs : List ℕ) → AreSet kept rs → AreSet known rs → AreSet (λ r. kept r && known r) rs
  set_both kept known [] one two = tt
  set_both kept known (r ∷ rs) one two = (and_from (kept r) (known r) one.0 two.0, set_both kept known rs one.1 two.1)

  pub reads_both : (block : Block) → ReadsKept keep block → ReadsKept other block → ReadsKept (both_kept keep other) block
  reads_both End one two = tt
  reads_both (Word to how rest) one two = (set_both keep.regs other.regs _ one.0 two.0, set_both keep.places other.places _ one.1 two.1, set_both keep.vars other.vars _ one.2 two.2, reads_both rest one.3 two.3)
  reads_both (Spot to how rest) one two = (set_both keep.regs other.regs _ one.0 two.0, set_both keep.places other.places _ one.1 two.1, reads_both rest one.2 two.2)
  reads_both (Cell to place sight index rest) one two = (set_both keep.regs other.regs index one.0 two.0, and_from (keep.places place) (other.places place) one.1 two.1, reads_both rest one.2 two.2)
  reads_both (Do what rest) one two = (set_both keep.regs other.regs _ one.0 two.0, set_both keep.places other.places _ one.1 two.1, reads_both rest one.2 two.2)
  reads_both (Branch cond block otherwise rest) one two = (and_from (keep.regs cond) (other.regs cond) one.0 two.0, reads_both block one.1 two.1, reads_both otherwise one.2 two.2, reads_both rest one.3 two.3)
  reads_both (Loop var lo hi body rest) one two = (and_from (keep.vars var) (other.vars var) one.0 two.0, reads_both body one.1 two.1, reads_both rest one.2 two.2)

-- ---- the same kept, the same left
module _ (keep other : Keep) (regs : (r : ℕ) → keep.regs r ≡ other.regs r) (places : (p : ℕ) → keep.places p ≡ other.places p) (vars : (v : ℕ) → keep.vars v ≡ other.vars v) where
  inst_alike : (inst : Block → Block) (a b : Bool) (x y : Block) → a ≡ b → x ≡ y → behind_where a inst x ≡ behind_where b inst y
  inst_alike inst a b x y e f = ap (λ t. behind_where t inst x) e ∙ ap (behind_where b inst) f

  acts_alike : (what : Act) → keeps_act keep what ≡ keeps_act other what
  acts_alike (SetVar var from) = vars var
  acts_alike (WriteOwn layout field from stmt) = refl
  acts_alike (Contribute how layout field place from index stmt) = refl
  acts_alike (Wish layout index stmt) = refl

  pub same_part : (block : Block) → kept_part keep block ≡ kept_part other block
  same_part End = refl
  same_part (Word to how rest) = inst_alike (Word to how) (keep.regs to) (other.regs to) (kept_part keep rest) (kept_part other rest) (regs to) (same_part rest)
  same_part (Spot to how rest) = inst_alike (Spot to how) (keep.places to) (other.places to) (kept_part keep rest) (kept_part other rest) (places to) (same_part rest)
  same_part (Cell to place sight index rest) = inst_alike (Cell to place sight index) (keep.regs to) (other.regs to) (kept_part keep rest) (kept_part other rest) (regs to) (same_part rest)
  same_part (Do what rest) = inst_alike (Do what) (keeps_act keep what) (keeps_act other what) (kept_part keep rest) (kept_part other rest) (acts_alike what) (same_part rest)
  same_part (Branch cond block otherwise rest) =
      branch_alike cond (kept_part keep block) (kept_part keep otherwise) (kept_part keep rest) (kept_part other block) (kept_part other otherwise) (kept_part other rest) (same_part block) (same_part otherwise) (same_part rest)
  same_part (Loop var lo hi body rest) =
      loop_alike (keep.vars var) var lo hi (kept_part keep body) (kept_part keep rest) (kept_part other body) (kept_part other rest) (same_part body) (same_part rest)
      ∙ ap (λ known. loop_left known var lo hi (kept_part other body) (kept_part other rest)) (vars var)

within_is : (a b : Bool) → (a ≡ true → (a && b) ≡ true) → (a && b) ≡ a
within_is true b h = h refl
within_is false b h = refl

-- what is left is lean, where what is kept is within whatever else can be kept
pub kept_is_lean : (keep : Keep) (block : Block) → ReadsKept keep (kept_part keep block) → ((other : Keep) → ReadsKept other (kept_part other block) → Within keep other) → IsLean (kept_part keep block)
kept_is_lean keep block closed least other reads =
    let both : Keep = both_kept keep other in
    let twice : kept_part other (kept_part keep block) ≡ kept_part (both_kept keep other) block = kept_twice keep other block closed in
    let in_both : ReadsKept (both_kept keep other) (kept_part (both_kept keep other) block) =
    subst (ReadsKept (both_kept keep other)) twice (reads_both keep other (kept_part other (kept_part keep block)) (reads_less keep other (kept_part keep block) closed) reads) in
    let within = least (both_kept keep other) in_both in
    twice ∙ same_part (both_kept keep other) keep (λ r. within_is (keep.regs r) (other.regs r) (within.regs r)) (λ p. within_is (keep.places p) (other.places p) (within.places p)) (λ v. within_is (keep.vars v) (other.vars v) (within.vars v)) block
