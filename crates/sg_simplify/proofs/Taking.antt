-- A known register or place stands for what the pass takes, and a new one is known after.
use Rattle.std.proofs.Common.{◌≡◌, ℕ, Bool, true, false, List, [], ◌∷◌, ◌++◌, sym, ap, ◌∙◌, None, Some}
use Rattle.std.specs.Map.{lookup}
use Rattle.sg_words.specs.declared.operators.Ty.{Ty}
use Rattle.sg_ir.specs.declared.code.Inst.{Inst}
use Rattle.sg_ir.specs.declared.op.Op.{Op}
use Rattle.sg_ir.specs.declared.op.Step.{Step}
use Rattle.sg_ir.specs.declared.op.Step.TheVariants as step
use Rattle.sg_ir.specs.Blocks.{Block, link, Spot}
use Rattle.sg_ir.specs.Shared.{same_op, same_step}
use Rattle.sg_ir.specs.Trimmed.{is_within}
use Rattle.sg_simplify.specs.declared.made.Made.{Made}
use Rattle.sg_simplify.specs.steps.Pass.{Given, Pass, Next, Making, fresh, taken, taken_at, looked_up, taken_or, operand_again, plainest, stepped, stepped_at, and_op, and_step, next_with_place, with_name, span_in, check_at, numbered, simplified}
use Rattle.sg_simplify.specs.steps.Made.{pass_of, next_of, types_of, Longer, Goes, onward, check_in}
use Rattle.sg_simplify.proofs.Reading.{append-none}
use Rattle.sg_simplify.proofs.Making.{longer-none, goes-here, goes-from, goes-to, goes-put}

pub longer-same : (old new : Made) → types_of new ≡ types_of old → pass_of new ≡ pass_of old → Longer old new
longer-same old new types known = record {
  types = [];
  more_types = types ∙ append-none (types_of old);
  ops = [];
  more_ops = ap (λ (pass : Pass). pass.ops) known ∙ append-none (pass_of old).ops;
  steps = [];
  more_steps = ap (λ (pass : Pass). pass.steps) known ∙ append-none (pass_of old).steps;
  loops = ap (λ (pass : Pass). pass.loops) known;
}

pub known-goes : (given : Given) (type : Ty) (how : Op) (index : List ℕ) (t : ℕ) (made : Made) (x : List Inst) → lookup (same_op how) (pass_of made).ops ≡ Some t →
    (go : ℕ → Making) → Goes made made x x (looked_up given type how index go) (go t)
known-goes given type how index t made x found go =
    goes-here made made x (looked_up given type how index go) (go t) (longer-none made)
    (ap (λ there. taken_at given type how index go there (pass_of made) (next_of made)) found)

pub taken-goes : (given : Given) (type : Ty) (how : Op) (index : List ℕ) (to : ℕ) (old mid new : Made) (x y : List Inst) → lookup (same_op how) (pass_of old).ops ≡ None →
    ((go : ℕ → Making) → Goes old mid x y (fresh given type how index go) (go to)) → next_of new ≡ next_of mid → pass_of new ≡ and_op how to (pass_of mid) →
    (go : ℕ → Making) → Goes old new x y (looked_up given type how index go) (go to)
taken-goes given type how index to old mid new x y none goes next known go =
    goes-to old mid new x y (looked_up given type how index go) (noted to) (go to) longer
    (goes-from old mid x y (looked_up given type how index go) (fresh given type how index noted) (noted to) (ap (λ there. taken_at given type how index go there (pass_of old) (next_of old)) none) (goes noted))
    (ap (λ pass. go to pass (next_of mid)) (sym known) ∙ ap (go to (pass_of new)) (sym next))
  where
    noted : ℕ → Making
    noted t pass further = go t (and_op how t pass) further

    longer : Longer mid new
    longer = record {
      types = [];
      more_types = ap (λ (further : Next). further.types) next ∙ append-none (types_of mid);
      ops = (how, to) ∷ [];
      more_ops = ap (λ (pass : Pass). pass.ops) known;
      steps = [];
      more_steps = ap (λ (pass : Pass). pass.steps) known ∙ append-none (pass_of mid).steps;
      loops = ap (λ (pass : Pass). pass.loops) known;
    }

-- an operand that holds the operation's word, and else what the plainest form gives
pub operand-goes : (given : Given) (type : Ty) (how : Op) (index : List ℕ) (t : ℕ) (made : Made) (x : List Inst) → operand_again (next_of made) how ≡ Some t →
    (go : ℕ → Making) → Goes made made x x (taken given type how index go) (go t)
operand-goes given type how index t made x again go =
    goes-here made made x (taken given type how index go) (go t) (longer-none made)
    (ap (λ there. taken_or given type how index go there (pass_of made) (next_of made)) again)

pub plainest-goes : (given : Given) (type : Ty) (how : Op) (index : List ℕ) (to : ℕ) (old new : Made) (x y : List Inst) → operand_again (next_of old) how ≡ None →
    (simple : Op) → simple ≡ plainest type how → ((go : ℕ → Making) → Goes old new x y (looked_up given type simple index go) (go to)) → (go : ℕ → Making) → Goes old new x y (taken given type how index go) (go to)
plainest-goes given type how index to old new x y none simple is goes go =
    goes-from old new x y (taken given type how index go) (looked_up given type simple index go) (go to)
    (ap (λ there. taken_or given type how index go there (pass_of old) (next_of old)) none ∙ ap (λ o. looked_up given type o index go (pass_of old) (next_of old)) (sym is)) (goes go)

pub found-goes : (how : Step) (t : ℕ) (made : Made) (x : List Inst) → lookup (same_step how) (pass_of made).steps ≡ Some t → (go : ℕ → Making) → Goes made made x x (stepped how go) (go t)
found-goes how t made x found go =
    goes-here made made x (stepped how go) (go t) (longer-none made) (ap (λ there. stepped_at how go there (pass_of made) (next_of made)) found)

pub stepped-goes : (how : Step) (old new : Made) (x y : List Inst) (inst : Inst) → lookup (same_step how) (pass_of old).steps ≡ None → y ≡ x ++ inst ∷ [] →
    ((regs : List Ty) (rest : Block) → link regs inst rest ≡ Spot old.places how rest) → next_of new ≡ next_with_place (next_of old) → pass_of new ≡ and_step how old.places (pass_of old) →
    (go : ℕ → Making) → Goes old new x y (stepped how go) (go old.places)
stepped-goes how old new x y inst none put links next known go =
    goes-put old new x y inst (Spot old.places how) (stepped how go) (go old.places) longer put (λ more rest. links (types_of new ++ more) rest)
    (ap (λ there. stepped_at how go there (pass_of old) (next_of old)) none
    ∙ ap (λ pass. after_spot (go old.places pass (next_with_place (next_of old)))) (sym known)
    ∙ ap (λ further. after_spot (go old.places (pass_of new) further)) (sym next))
  where
    after_spot : Block × Next → Block × Next
    after_spot made = (Spot old.places how made.0, made.1)

    longer : Longer old new
    longer = record {
      types = [];
      more_types = ap (λ (further : Next). further.types) next ∙ append-none (types_of old);
      ops = [];
      more_ops = ap (λ (pass : Pass). pass.ops) known ∙ append-none (pass_of old).ops;
      steps = (how, old.places) ∷ [];
      more_steps = ap (λ (pass : Pass). pass.steps) known;
      loops = ap (λ (pass : Pass). pass.loops) known;
    }

-- a check is needed, or not
pub within-goes : (axis extent index place : ℕ) (made : Made) (x : List Inst) → is_within extent (span_in (next_of made) index) ≡ true → (go : ℕ → Making) → Goes made made x x (check_in axis extent index place go) (go place)
within-goes axis extent index place made x within go =
    goes-here made made x (check_in axis extent index place go) (go place) (longer-none made)
    (ap (λ b. check_at b (step.Check place axis extent index) place go (pass_of made) (next_of made)) within)

pub check-goes : (axis extent index place to : ℕ) (old new : Made) (x y : List Inst) → is_within extent (span_in (next_of old) index) ≡ false →
    ((go : ℕ → Making) → Goes old new x y (stepped (step.Check place axis extent index) go) (go to)) → (go : ℕ → Making) → Goes old new x y (check_in axis extent index place go) (go to)
check-goes axis extent index place to old new x y without goes go =
    goes-from old new x y (check_in axis extent index place go) (stepped (step.Check place axis extent index) go) (go to)
    (ap (λ b. check_at b (step.Check place axis extent index) place go (pass_of old) (next_of old)) without) (goes go)

-- a register is the new one of a given one
pub onward-goes : (given : Given) (from to : ℕ) (rest : Block) (old mid new : Made) (x y : List Inst) (A : Making) → next_of new ≡ with_name from to (next_of mid) → pass_of new ≡ pass_of mid →
    Goes old mid x y A (onward given from rest to) → Goes old new x y A (simplified given rest)
onward-goes given from to rest old mid new x y A next known goes =
    goes-to old mid new x y A (onward given from rest to) (simplified given rest) (longer-same mid new (ap (λ (further : Next). further.types) next) known) goes
    (ap (λ pass. simplified given rest pass (with_name from to (next_of mid))) (sym known) ∙ ap (simplified given rest (pass_of new)) (sym next))

abbrev pub with_ops : Pass → List (Op × ℕ) → Pass
with_ops pass ops = record { ops = ops; steps = pass.steps; loops = pass.loops }

abbrev pub with_steps : Pass → List (Step × ℕ) → Pass
with_steps pass steps = record { ops = pass.ops; steps = steps; loops = pass.loops }

abbrev pub with_names : Next → List (ℕ × ℕ) → Next
with_names next names = record { types = next.types; spans = next.spans; places = next.places; names = names }

abbrev pub with_places : Next → ℕ → Next
with_places next places = record { types = next.types; spans = next.spans; places = places; names = next.names }

pub taken-numbered : (given : Given) (type : Ty) (how : Op) (pure : Bool) (none : List ℕ) (to : ℕ) (old new : Made) (x y : List Inst) → pure ≡ true → none ≡ [] →
    ((go : ℕ → Making) → Goes old new x y (taken given type how none go) (go to)) → (go : ℕ → Making) → Goes old new x y (numbered pure given type how go) (go to)
taken-numbered given type how pure none to old new x y is empty goes go =
    goes-from old new x y (numbered pure given type how go) (taken given type how none go) (go to)
    (ap (λ b. numbered b given type how go (pass_of old) (next_of old)) is ∙ ap (λ regs. taken given type how regs go (pass_of old) (next_of old)) (sym empty)) (goes go)

pub fresh-numbered : (given : Given) (type : Ty) (how : Op) (pure : Bool) (none : List ℕ) (to : ℕ) (old new : Made) (x y : List Inst) → pure ≡ false → none ≡ [] →
    ((go : ℕ → Making) → Goes old new x y (fresh given type how none go) (go to)) → (go : ℕ → Making) → Goes old new x y (numbered pure given type how go) (go to)
fresh-numbered given type how pure none to old new x y is empty goes go =
    goes-from old new x y (numbered pure given type how go) (fresh given type how none go) (go to)
    (ap (λ b. numbered b given type how go (pass_of old) (next_of old)) is ∙ ap (λ regs. fresh given type how regs go (pass_of old) (next_of old)) (sym empty)) (goes go)
