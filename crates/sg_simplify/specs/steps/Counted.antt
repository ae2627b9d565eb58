-- How often a block sets registers, places and variables, and what a scope has to do with that.
use Rattle.std.specs.Prelude.{◌≡◌, ℕ, ◌+◌, ◌^◌, ◌≤◌, ◌==◌, nat_lt, Bool, true, ◌&&◌, if◌then◌else◌, List, [], length, slice_get, Some}
use Rattle.std.specs.List.{list_all}
use Rattle.std.proofs.Common.{◌⊎◌}
use Rattle.sg_words.specs.WordLaws.{IsWord}
use Rattle.sg_layout.specs.declared.shape.Shape.{Shape}
use Rattle.sg_ir.specs.declared.code.Inst.{Inst, fold-Inst}
use Rattle.sg_ir.specs.declared.code.Inst.TheOpen as i
use Rattle.sg_ir.specs.declared.code.Inst.TheOpen.{Inst-F}
use Rattle.sg_ir.specs.Blocks.{Block, End, Word, Spot, Cell, Do, Branch, Loop, Link}
use Rattle.sg_ir.specs.declared.span.Span.{Span}
use Rattle.sg_ir.specs.Span.{whole_i32, held, sets}
use Rattle.sg_ir.specs.SpanLaws.{IsSpanned}
use Rattle.sg_ir.specs.WellTyped.{KnownPlace, Scope, Frame, Judge}
use Rattle.sg_ir.specs.InScope.{InScope, IsScoped}
use Rattle.sg_simplify.specs.steps.Serves.{EachByRecursion, Leads}
use Rattle.sg_simplify.specs.steps.Ruled.{HasSettledOps}

-- 1 if the test holds, else 0
abbrev pub one_where : Bool → ℕ
one_where test = if test then 1 else 0

-- how many instructions of a block set a register, and a place
abbrev pub regs_set : ℕ → Block → ℕ
regs_set r End = 0
regs_set r (Word to how rest) = one_where (to == r) + regs_set r rest
regs_set r (Spot to how rest) = regs_set r rest
regs_set r (Cell to place sight index rest) = one_where (to == r) + regs_set r rest
regs_set r (Do what rest) = regs_set r rest
regs_set r (Branch cond block otherwise rest) = regs_set r block + (regs_set r otherwise + regs_set r rest)
regs_set r (Loop var lo hi body rest) = regs_set r body + regs_set r rest

-- how many instructions of a block, those of the blocks inside it too, set a place
abbrev pub places_set : ℕ → Block → ℕ
places_set p End = 0
places_set p (Word to how rest) = places_set p rest
places_set p (Spot to how rest) = one_where (to == p) + places_set p rest
places_set p (Cell to place sight index rest) = places_set p rest
places_set p (Do what rest) = places_set p rest
places_set p (Branch cond block otherwise rest) = places_set p block + (places_set p otherwise + places_set p rest)
places_set p (Loop var lo hi body rest) = places_set p body + places_set p rest

-- how often each variable, register and place is set
pub record Counts : Type 0 where
  pub vars : ℕ → ℕ
  pub regs : ℕ → ℕ
  pub places : ℕ → ℕ

-- a block, with what is set outside of it, sets so many
pub record AddsUp (totals outside : Counts) (block : Block) : Type 0 where
  pub vars : (v : ℕ) → totals.vars v ≡ outside.vars v + sets v block
  pub regs : (r : ℕ) → totals.regs r ≡ outside.regs r + regs_set r block
  pub places : (p : ℕ) → totals.places p ≡ outside.places p + places_set p block

-- what is so of a whole code
pub record IsWhole (at : Frame) (single : ℕ → Bool) (others : ℕ → Span) (totals : Counts) : Type 0 where
  pub regs : (r : ℕ) → totals.regs r ≤ 1
  pub places : (p : ℕ) → totals.places p ≤ 1
  pub setters : (v : ℕ) → at.setters v ≡ totals.vars v
  pub singles : (v : ℕ) → single v ≡ true → totals.vars v ≤ 1
  pub wide : (v : ℕ) → 1 ≤ totals.vars v → others v ≡ whole_i32

-- a scope of judgements beside one of chains, where so much is set outside
pub record Meets (totals : Counts) (scope : Scope) (inner : InScope) (outside : Counts) (round : List (ℕ × Span)) : Type 0 where
  pub regs : (r : ℕ) → scope.regs r ≡ true → inner.regs r ≡ true
  pub places : (p : ℕ) (known : KnownPlace) → scope.places p ≡ Some known → inner.places p ≡ true
  pub in_regs : (r : ℕ) → inner.regs r ≡ true → 1 ≤ outside.regs r
  pub in_places : (p : ℕ) → inner.places p ≡ true → 1 ≤ outside.places p
  pub vars : (v : ℕ) → scope.vars v ≡ true → (totals.vars v ≡ 0) ⊎ (1 ≤ outside.vars v)
  pub loops : (v : ℕ) → ((span : Span) → held span round v ≡ span) ⊎ ((1 ≤ outside.vars v) × (totals.vars v ≡ 1))

-- layouts down which words lead to their places
abbrev pub CanBeWalked : List Shape → Type 0
CanBeWalked shapes = (layout : ℕ) (shape : Shape) → slice_get shapes layout ≡ Some shape → (1 ≤ shape.axes) × ((words : List ℕ) → length words ≡ shape.axes → EachByRecursion IsWord words → Leads shapes layout shape words)

-- what the pass asks of a block, beside that its accesses have their layouts
pub record Rules (single : ℕ → Bool) (others : ℕ → Span) (inner : InScope) (loops : List (ℕ × Span)) (block : Block) : Type 0 where
  pub scoped : IsScoped inner block
  pub settled : HasSettledOps single block
  pub spanned : IsSpanned (record { regs = []; loops = loops; others = others }) block

-- One layer: whether constants are words.
abbrev pub words_step : Inst-F Bool → Bool
words_step (i.Const to word) = nat_lt word (2 ^ 32)
words_step (i.If cond block otherwise) = list_all (λ b. b) block && list_all (λ b. b) otherwise
words_step (i.For var lo hi body) = list_all (λ b. b) body
words_step _ = true

-- each constant of an instruction, and of those inside it, is a word: below 2 ^ 32
abbrev pub has_words : Inst → Bool
has_words = fold-Inst Bool words_step

-- a judgement and a link that together give what the pass asks, where what follows has it
abbrev pub Rule : (ℕ → Bool) → (ℕ → Span) → Counts → Judge → Link → Type 0
Rule single others totals judge link =
    (scope : Scope) (inner : InScope) (outside : Counts) (loops : List (ℕ × Span)) (rest : Block) → (judge scope).0 ≡ true → Meets totals scope inner outside loops → AddsUp totals outside (link rest) →
    ((inside : InScope) (beside : Counts) → Meets totals (judge scope).1 inside beside loops → AddsUp totals beside rest → Rules single others inside loops rest) →
    Rules single others inner loops (link rest)
