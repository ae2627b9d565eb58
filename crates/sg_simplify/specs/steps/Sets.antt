-- What is known in scope, of what was put out.
use Rattle.std.specs.Prelude.{◌≡◌, ℕ, ◌≤◌, true, false, List, length}
use Rattle.sg_ir.specs.declared.op.Op.{Op}
use Rattle.sg_ir.specs.declared.op.Op.TheVariants as op
use Rattle.sg_ir.specs.InScope.{InScope, AreSet, IsScoped}
use Rattle.sg_simplify.specs.steps.Pass.{Pass, Next, Making, made_name}
use Rattle.sg_simplify.specs.steps.Serves.{EachByRecursion}

-- what is in one scope is in the other
pub record Wider (scope wide : InScope) : Type 0 where
  pub regs : (r : ℕ) → scope.regs r ≡ true → wide.regs r ≡ true
  pub places : (p : ℕ) → scope.places p ≡ true → wide.places p ≡ true

-- what is known is in scope, and numbers that weren't given aren't
pub record Sets (scope : InScope) (pass : Pass) (next : Next) : Type 0 where
  pub ops : EachByRecursion (λ entry. scope.regs entry.1 ≡ true) pass.ops
  pub steps : EachByRecursion (λ entry. scope.places entry.1 ≡ true) pass.steps
  pub free_regs : (r : ℕ) → length next.spans ≤ r → scope.regs r ≡ false
  pub free_places : (p : ℕ) → next.places ≤ p → scope.places p ≡ false

-- what follows is scoped, given a register or a place in scope
abbrev pub GoesOnIn : InScope → Next → (ℕ → Making) → Type 0
GoesOnIn scope next go = (t : ℕ) (known : Pass) (further : Next) (wide : InScope) → Wider scope wide → further.names ≡ next.names → Sets wide known further → wide.regs t ≡ true → IsScoped wide (go t known further).0

-- what follows is scoped, given a place in scope
abbrev pub GoesOnAt : InScope → Next → (ℕ → Making) → Type 0
GoesOnAt scope next go = (t : ℕ) (known : Pass) (further : Next) (wide : InScope) → Wider scope wide → further.names ≡ next.names → Sets wide known further → wide.places t ≡ true → IsScoped wide (go t known further).0

-- a read of a cell has its index registers in scope
abbrev pub IndexIsSet : InScope → Op → List ℕ → Type 0
IndexIsSet scope (op.Read place layout field) index = AreSet scope.regs index
IndexIsSet scope (op.Active place) index = AreSet scope.regs index
IndexIsSet scope how index = Unit {0}

-- the new names of given registers in scope are in scope
abbrev pub AllNamed : InScope → InScope → Next → Type 0
AllNamed given scope next = (r : ℕ) → given.regs r ≡ true → scope.regs (made_name next r) ≡ true
