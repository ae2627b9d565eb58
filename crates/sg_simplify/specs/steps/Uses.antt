-- Each check that is put out is passed by an access.
use Rattle.std.specs.Prelude.{◌≡◌, ℕ, ◌<◌, ◌==◌, true, List, [], ◌∷◌, None}
use Rattle.std.specs.List.{list_any}
use Rattle.std.specs.Map.{lookup}
use Rattle.sg_ir.specs.declared.op.Op.TheVariants as op
use Rattle.sg_ir.specs.declared.op.Step.{Step}
use Rattle.sg_ir.specs.Blocks.{Block}
use Rattle.sg_ir.specs.Shared.{same_op, same_step}
use Rattle.sg_ir.specs.Trimmed.{AxisCheck, Ways, way_to, checks_of, passed_in}
use Rattle.sg_ir.specs.InScope.{op_places, step_places}
use Rattle.sg_simplify.specs.steps.Pass.{Pass, Next}
use Rattle.sg_simplify.specs.steps.Serves.{EachByRecursion}

-- a check's place is among those that were passed
abbrev pub IsPassed : List AxisCheck → ℕ → Type 0
IsPassed passed p = list_any (λ (it : AxisCheck). it.place == p) passed ≡ true

-- in what is put out these checks, and its own, are passed
pub record Used (ways : Ways) (pending : List ℕ) (block : Block) : Type 0 where
  pub here : EachByRecursion (IsPassed (passed_in ways block)) pending
  pub own : EachByRecursion (IsPassed (passed_in ways block)) (checks_of block)

-- places that known operations and steps read were given before
pub record AreOld (known : Pass) (next : Next) : Type 0 where
  pub ops : EachByRecursion (λ entry. EachByRecursion (λ p. p < next.places) (op_places entry.0)) known.ops
  pub steps : EachByRecursion (λ entry. EachByRecursion (λ p. p < next.places) (step_places entry.0)) known.steps
  pub given : EachByRecursion (λ entry. entry.1 < next.places) known.steps

-- no known operation and no known step reads a place
pub record IsUnread (known : Pass) (p : ℕ) : Type 0 where
  pub reads : (layout field : ℕ) → lookup (same_op (op.Read p layout field)) known.ops ≡ None
  pub asks : lookup (same_op (op.Active p)) known.ops ≡ None
  pub steps : (how : Step) → step_places how ≡ p ∷ [] → lookup (same_step how) known.steps ≡ None

-- a place has passed the checks that are pending; if there are some, nothing known reads it
abbrev pub IsPending : Pass → Ways → List ℕ → ℕ → Type 0
IsPending known ways [] p = Unit {0}
IsPending known ways (check ∷ pending) p = EachByRecursion (IsPassed (way_to ways p)) (check ∷ pending) × IsUnread known p
