-- What the pass knows covers what a block has computed.
use Rattle.std.specs.Prelude.{◌≡◌, ℕ, Bool, true, List, is_some}
use Rattle.std.specs.List.{list_any}
use Rattle.std.specs.Map.{lookup}
use Rattle.sg_ir.specs.declared.op.Op.{Op}
use Rattle.sg_ir.specs.declared.op.Step.{Step}
use Rattle.sg_ir.specs.Shared.{same_op, same_step, is_pure, shares}
use Rattle.sg_simplify.specs.steps.Pass.{Pass, Next, Making}

-- each pure operation of these, and each of these steps, is known
pub record Knows (single : ℕ → Bool) (computed : List Op) (stepped : List Step) (pass : Pass) : Type 0 where
  pub ops : (how : Op) → is_pure single how ≡ true → list_any (same_op how) computed ≡ true → is_some (lookup (same_op how) pass.ops) ≡ true
  pub steps : (how : Step) → list_any (same_step how) stepped ≡ true → is_some (lookup (same_step how) pass.steps) ≡ true

-- what follows is shared, after whatever is known
abbrev pub GoesShared : (ℕ → Bool) → (ℕ → Making) → Type 0
GoesShared single go = (t : ℕ) (known : Pass) (next : Next) (ops : List Op) (steps : List Step) → Knows single ops steps known → shares single ops steps (go t known next).0 ≡ true
