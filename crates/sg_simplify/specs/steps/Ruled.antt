-- What the pass asks of given code, beside that it names its accesses: each follows from well typed.
use Rattle.std.specs.Prelude.{◌≡◌, ℕ, ◌<◌, ◌≤◌, Bool, true, List, [], ◌∷◌, length, slice_get, Some}
use Rattle.sg_words.specs.WordLaws.{IsWord}
use Rattle.sg_layout.specs.declared.shape.Shape.{Shape}
use Rattle.sg_ir.specs.declared.op.Op.{Op}
use Rattle.sg_ir.specs.declared.op.Op.TheVariants as op
use Rattle.sg_ir.specs.Blocks.{Block, End, Word, Spot, Cell, Do, Branch, Loop, Act, SetVar, WriteOwn, Contribute, Wish}
use Rattle.sg_ir.specs.Span.{Spans, sets}
use Rattle.sg_ir.specs.SpanLaws.{Lies, IsSpanned}
use Rattle.sg_ir.specs.Scoped.{Room}
use Rattle.sg_ir.specs.InScope.{InScope, IsScoped}
use Rattle.sg_simplify.specs.steps.Pass.{root_known, root_by, sight_layout, Next, made_name, span_in}
use Rattle.sg_simplify.specs.steps.Serves.{EachByRecursion, Leads}

-- after a use of a variable that at most one instruction sets, none of the block sets it
abbrev pub OpSettles : (ℕ → Bool) → Block → Op → Type 0
OpSettles single rest (op.Var var) = single var ≡ true → sets var rest ≡ 0
OpSettles single rest how = Unit {0}

-- in a block and in each block inside it, what follows a use of such a variable there doesn't set it
abbrev pub HasSettledOps : (ℕ → Bool) → Block → Type 0
HasSettledOps single End = Unit {0}
HasSettledOps single (Word to how rest) = OpSettles single rest how × HasSettledOps single rest
HasSettledOps single (Spot to how rest) = HasSettledOps single rest
HasSettledOps single (Cell to place sight index rest) = HasSettledOps single rest
HasSettledOps single (Do what rest) = HasSettledOps single rest
HasSettledOps single (Branch cond block otherwise rest) = HasSettledOps single block × HasSettledOps single otherwise × HasSettledOps single rest
HasSettledOps single (Loop var lo hi body rest) = HasSettledOps single body × HasSettledOps single rest

-- a layout down which so many words as axes lead to the place of their coordinate
pub record HasLayout (shapes : List Shape) (layout axes : ℕ) : Type 0 where
  pub shape : Shape
  pub there : slice_get shapes layout ≡ Some shape
  pub leads : (words : List ℕ) → length words ≡ axes → EachByRecursion IsWord words → Leads shapes layout shape words

-- an access has an index register, and down its layout, which is there, as many words lead to their coordinate's place
abbrev pub IndexFits : List Shape → ℕ → List ℕ → Type 0
IndexFits shapes layout [] = ⊥
IndexFits shapes layout (r ∷ index) = HasLayout shapes layout (length (r ∷ index))

-- a read of a cell is no plain operation
abbrev pub IsNotRead : Op → Type 0
IsNotRead (op.Read place layout field) = ⊥
IsNotRead (op.Active place) = ⊥
IsNotRead how = Unit {0}

-- Accesses have their layouts. `roots` are the layouts from whose roots places come.
abbrev pub HasAccessLayouts : List Shape → List (ℕ × ℕ) → Block → Type 0
HasAccessLayouts shapes roots End = Unit {0}
HasAccessLayouts shapes roots (Word to how rest) = IsNotRead how × HasAccessLayouts shapes roots rest
HasAccessLayouts shapes roots (Spot to how rest) = HasAccessLayouts shapes roots rest
HasAccessLayouts shapes roots (Cell to place sight index rest) = IndexFits shapes (sight_layout roots place sight) index × HasAccessLayouts shapes roots rest
HasAccessLayouts shapes roots (Do what rest) = ActFits what × HasAccessLayouts shapes roots rest
  where
    ActFits : Act → Type 0
    ActFits (SetVar var from) = Unit {0}
    ActFits (WriteOwn layout field from stmt) = Unit {0}
    ActFits (Contribute how layout field place from index stmt) = IndexFits shapes layout index
    ActFits (Wish layout index stmt) = Unit {0}
HasAccessLayouts shapes roots (Branch cond block otherwise rest) = HasAccessLayouts shapes roots block × HasAccessLayouts shapes roots otherwise × HasAccessLayouts shapes roots rest
HasAccessLayouts shapes roots (Loop var lo hi body rest) = HasAccessLayouts shapes roots body × HasAccessLayouts shapes roots rest

-- Places come from the roots of the layouts that are known of them.
abbrev pub HasRoots : List (ℕ × ℕ) → Block → Type 0
HasRoots roots End = Unit {0}
HasRoots roots (Word to how rest) = HasRoots roots rest
HasRoots roots (Spot to how rest) = (root_known roots to ≡ root_by roots how) × HasRoots roots rest
HasRoots roots (Cell to place sight index rest) = HasRoots roots rest
HasRoots roots (Do what rest) = HasRoots roots rest
HasRoots roots (Branch cond block otherwise rest) = HasRoots roots block × HasRoots roots otherwise × HasRoots roots rest
HasRoots roots (Loop var lo hi body rest) = HasRoots roots body × HasRoots roots rest

-- the places in scope of a room come from the roots of the layouts that are known of them
abbrev pub AreRooted : List (ℕ × ℕ) → InScope → Room → Type 0
AreRooted roots scope room = (p : ℕ) → scope.places p ≡ true → room.roots p ≡ root_known roots p

-- all of it
pub record IsRuled (shapes : List Shape) (roots : List (ℕ × ℕ)) (single : ℕ → Bool) (vars : Spans) (scope : InScope) (block : Block) : Type 0 where
  pub scoped : IsScoped scope block
  pub settled : HasSettledOps single block
  pub spanned : IsSpanned vars block
  pub fitted : HasAccessLayouts shapes roots block
  pub rooted : HasRoots roots block

-- a given register in scope has a new one with the same word
pub record IsRenamed (next : Next) (from to : Room) (r : ℕ) : Type 0 where
  pub named : made_name next r < length next.spans
  pub word : to.regs (made_name next r) ≡ from.regs r
  pub lies : Lies (span_in next (made_name next r)) (to.regs (made_name next r))

-- each given register in scope has a new one with the same word, which lies in its span
abbrev pub AllRenamed : InScope → Next → Room → Room → Type 0
AllRenamed scope next from to = (r : ℕ) → scope.regs r ≡ true → IsRenamed next from to r

-- more was put out, and the names of what is in scope stay
pub record Grown (scope : InScope) (next further : Next) : Type 0 where
  pub regs : length next.spans ≤ length further.spans
  pub places : next.places ≤ further.places
  pub spans : (r : ℕ) → r < length next.spans → span_in further r ≡ span_in next r
  pub names : (r : ℕ) → scope.regs r ≡ true → made_name further r ≡ made_name next r
