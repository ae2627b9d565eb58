-- What the pass puts out uses a field in a way only where the given code does.
use Rattle.std.specs.Prelude.{◌≡◌, refl, ℕ, suc, Bool, true, false, ◌||◌, List, [], ◌∷◌, length, map, slice_get, Option, Some, None}
use Rattle.std.specs.Map.{lookup}
use Rattle.std.proofs.Common.{◌∙◌}
use Rattle.sg_words.specs.declared.operators.Ty.{Ty}
use Rattle.sg_words.specs.declared.operators.Ty.TheVariants as ty
use Rattle.sg_layout.specs.declared.shape.NodeShape.{NodeShape}
use Rattle.sg_layout.specs.declared.shape.Shape.{Shape}
use Rattle.sg_layout.specs.Axes.{bounds_of_shape, extent_in, extent_over}
use Rattle.sg_ir.specs.declared.op.Op.{Op}
use Rattle.sg_ir.specs.declared.op.Op.TheVariants as op
use Rattle.sg_ir.specs.declared.op.Step.{Step}
use Rattle.sg_ir.specs.declared.op.Step.TheVariants as step
use Rattle.sg_ir.specs.Blocks.{sight_op, Block, End, Word, Spot, Cell, Do, Branch, Loop, SetVar, WriteOwn, Contribute, Wish}
use Rattle.sg_ir.specs.Shared.{same_op, same_step, is_pure}
use Rattle.sg_ir.specs.Trimmed.{is_within}
use Rattle.sg_ir.specs.Places.{extents_in}
use Rattle.sg_ir.specs.Apt.{Use, Writes}
use Rattle.sg_flat.specs.declared.effects.Way.TheVariants.{Own, Acc}
use Rattle.sg_simplify.specs.steps.Pass.{Given, Pass, Next, Making, made_name, with_name, next_with_reg, next_with_place, given_type, span_in, span_of, renamed, and_op, and_step, put_in_front, set_word, fresh, taken_at, looked_up, operand_again, plainest, taken_or, taken, numbered, stepped_at, stepped, check_at, checks_made, offset_made, offset, descent_of, descended, placed_in, place_made, looped, simplified, layout_seen}
use Rattle.sg_simplify.specs.steps.Only.{op_use, has_use}
use Rattle.sg_simplify.proofs.Sights.{sight_use}
use Rattle.sg_simplify.proofs.Plainest.{plainest_use}

word_use : (test : Use → Bool) (n : ℕ) (how : Op) (index : List ℕ) (rest : Block) → has_use test (set_word n how index rest) ≡ (op_use test how || has_use test rest)
word_use test n (op.Const word truth) index rest = refl
word_use test n (op.Var x) index rest = refl
word_use test n (op.Bin how kind a b) index rest = refl
word_use test n (op.Un how kind a) index rest = refl
word_use test n (op.Mulq a b s) index rest = refl
word_use test n (op.Extract div size from) index rest = refl
word_use test n (op.Offset high size low) index rest = refl
word_use test n (op.Read place layout field) index rest = refl
word_use test n (op.Active place) index rest = refl
word_use test n (op.OwnRead layout field) index rest = refl

use_renamed : (test : Use → Bool) (next : Next) (how : Op) → op_use test (renamed next how) ≡ op_use test how
use_renamed test next (op.Const word truth) = refl
use_renamed test next (op.Var x) = refl
use_renamed test next (op.Bin how kind a b) = refl
use_renamed test next (op.Un how kind a) = refl
use_renamed test next (op.Mulq a b s) = refl
use_renamed test next (op.Extract div size from) = refl
use_renamed test next (op.Offset high size low) = refl
use_renamed test next (op.Read place layout field) = refl
use_renamed test next (op.Active place) = refl
use_renamed test next (op.OwnRead layout field) = refl

neither : (a b : Bool) → a ≡ false → b ≡ false → (a || b) ≡ false
neither true b e f = absurd (cc)
neither false b e f = f

left_off : (a b : Bool) → (a || b) ≡ false → a ≡ false
left_off true b e = absurd (cc)
left_off false b e = refl

right_off : (a b : Bool) → (a || b) ≡ false → b ≡ false
right_off true b e = absurd (cc)
right_off false b e = e

module _ (given : Given) (test : Use → Bool) where
  -- what follows has no such use
  abbrev GoesUsing : (ℕ → Making) → Type 0
  GoesUsing go = (t : ℕ) (known : Pass) (next : Next) → has_use test (go t known next).0 ≡ false

  fresh_only : (type : Ty) (how : Op) (index : List ℕ) (go : ℕ → Making) → op_use test how ≡ false → GoesUsing go → (known : Pass) (next : Next) → has_use test (fresh given type how index go known next).0 ≡ false
  fresh_only type how index go off goes known next = word_use test (length next.spans) how index _ ∙ neither _ _ off (goes (length next.spans) known (next_with_reg type (span_of given known next how) next))

  looked_up_only : (type : Ty) (how : Op) (index : List ℕ) (go : ℕ → Making) → op_use test how ≡ false → GoesUsing go → (known : Pass) (next : Next) → has_use test (looked_up given type how index go known next).0 ≡ false
  looked_up_only type how index go off goes known next = by_found (lookup (same_op how) known.ops)
    where
      by_found : (o : Option ℕ) → has_use test (taken_at given type how index go o known next).0 ≡ false
      by_found (Some t) = goes t known next
      by_found None = word_use test (length next.spans) how index _ ∙ neither _ _ off (goes (length next.spans) (and_op how (length next.spans) known) (next_with_reg type (span_of given known next how) next))

  taken_only : (type : Ty) (how : Op) (index : List ℕ) (go : ℕ → Making) → op_use test how ≡ false → GoesUsing go → (known : Pass) (next : Next) → has_use test (taken given type how index go known next).0 ≡ false
  taken_only type how index go off goes known next = by_operand (operand_again next how)
    where
      by_operand : (o : Option ℕ) → has_use test (taken_or given type how index go o known next).0 ≡ false
      by_operand (Some t) = goes t known next
      by_operand None = looked_up_only type (plainest type how) index go (plainest_use test type how ∙ off) goes known next

  numbered_only : (pure : Bool) (type : Ty) (how : Op) (go : ℕ → Making) → op_use test how ≡ false → GoesUsing go → (known : Pass) (next : Next) → has_use test (numbered pure given type how go known next).0 ≡ false
  numbered_only true type how go off goes known next = taken_only type how [] go off goes known next
  numbered_only false type how go off goes known next = fresh_only type how [] go off goes known next

  stepped_only : (how : Step) (go : ℕ → Making) → GoesUsing go → (known : Pass) (next : Next) → has_use test (stepped how go known next).0 ≡ false
  stepped_only how go goes known next = by_found (lookup (same_step how) known.steps)
    where
      by_found : (o : Option ℕ) → has_use test (stepped_at how go o known next).0 ≡ false
      by_found (Some t) = goes t known next
      by_found None = goes next.places (and_step how next.places known) (next_with_place next)

  checked_only : (extents : List ℕ) (axis : ℕ) (index : List ℕ) (place : ℕ) (go : ℕ → Making) → GoesUsing go → (known : Pass) (next : Next) → has_use test (checks_made axis extents index place go known next).0 ≡ false
  checked_only [] axis index place go goes known next = goes place known next
  checked_only (extent ∷ extents) axis [] place go goes known next = goes place known next
  checked_only (extent ∷ extents) axis (r ∷ index) place go goes known next = by_test (is_within extent (span_in next r)) (λ p. checked_only extents (suc axis) index p go goes)
    where
      by_test : (within : Bool) → GoesUsing (λ p. checks_made (suc axis) extents index p go) → has_use test (check_at within (step.Check place axis extent r) place (λ p. checks_made (suc axis) extents index p go) known next).0 ≡ false
      by_test true more = more place known next
      by_test false more = stepped_only (step.Check place axis extent r) (λ p. checks_made (suc axis) extents index p go) more known next

  joined_only : (node : NodeShape) (later : List NodeShape) (index : List ℕ) (axis high : ℕ) (go : ℕ → Making) → GoesUsing go → (known : Pass) (next : Next) → has_use test (offset_made given node later axis index high go known next).0 ≡ false
  joined_only node later [] axis high go goes known next = goes high known next
  joined_only node later (r ∷ index) axis high go goes known next =
      taken_only ty.U32 (op.Extract (extent_over later axis) (extent_in node.sizes axis) r) [] (λ low. taken given ty.U32 (op.Offset high (extent_in node.sizes axis) low) [] (λ o. offset_made given node later (suc axis) index o go)) refl
      (λ low. taken_only ty.U32 (op.Offset high (extent_in node.sizes axis) low) [] (λ o. offset_made given node later (suc axis) index o go) refl (λ o. joined_only node later index (suc axis) o go goes)) known next

  offset_only : (node : NodeShape) (later : List NodeShape) (index : List ℕ) (go : ℕ → Making) → GoesUsing go → (known : Pass) (next : Next) → has_use test (offset given node later index go known next).0 ≡ false
  offset_only node later [] go goes known next = goes 0 known next
  offset_only node later (r ∷ index) go goes known next =
      taken_only ty.U32 (op.Extract (extent_over later 1) (extent_in node.sizes 1) r) [] (λ high. offset_made given node later 2 index high go) refl (λ high. joined_only node later index 2 high go goes) known next

  descended_only : (nodes : List NodeShape) (number : ℕ) (index : List ℕ) (place : ℕ) (go : ℕ → Making) → GoesUsing go → (known : Pass) (next : Next) → has_use test (descended given nodes number index place go known next).0 ≡ false
  descended_only [] number index place go goes known next = goes place known next
  descended_only (node ∷ later) number index place go goes known next =
      offset_only node later index (λ o. stepped (step.Down (descent_of node.kind) place number o) (λ p. descended given later (suc number) index p go))
      (λ o. stepped_only (step.Down (descent_of node.kind) place number o) (λ p. descended given later (suc number) index p go) (λ p. descended_only later (suc number) index p go goes)) known next

  placed_only : (layout : ℕ) (index : List ℕ) (go : ℕ → Making) → GoesUsing go → (known : Pass) (next : Next) → has_use test (place_made given layout index go known next).0 ≡ false
  placed_only layout index go goes known next = by_found (slice_get given.shapes layout)
    where
      by_found : (found : Option Shape) → has_use test (placed_in given found layout index go known next).0 ≡ false
      by_found None = goes 0 known next
      by_found (Some shape) =
          stepped_only (step.Root layout) (λ r. checks_made 0 (extents_in (bounds_of_shape shape)) index r (λ p. descended given shape.nodes 1 index p go))
          (λ r. checked_only (extents_in (bounds_of_shape shape)) 0 index r (λ p. descended given shape.nodes 1 index p go) (λ p. descended_only shape.nodes 1 index p go goes)) known next

  pub simplified_only : (block : Block) → has_use test block ≡ false → (known : Pass) (next : Next) → has_use test (simplified given block known next).0 ≡ false
  simplified_only End off known next = refl
  simplified_only (Word to how rest) off known next =
      numbered_only (is_pure given.single how) (given_type given to) (renamed next how) (λ t now later. simplified given rest now (with_name to t later)) (use_renamed test next how ∙ left_off _ _ off)
      (λ t now later. simplified_only rest (right_off (op_use test how) _ off) now (with_name to t later)) known next
  simplified_only (Spot to how rest) off known next = simplified_only rest off known next
  simplified_only (Cell to place sight index rest) off known next =
      placed_only (layout_seen given place sight) (map (made_name next) index) (λ p. taken given (given_type given to) (sight_op p sight) (map (made_name next) index) (λ t now later. simplified given rest now (with_name to t later)))
      (λ p. taken_only (given_type given to) (sight_op p sight) (map (made_name next) index) (λ t now later. simplified given rest now (with_name to t later)) (sight_use test p place sight ∙ left_off _ _ off)
      (λ t now later. simplified_only rest (right_off (op_use test (sight_op place sight)) _ off) now (with_name to t later))) known next
  simplified_only (Do (SetVar set from) rest) off known next = simplified_only rest off known next
  simplified_only (Do (WriteOwn layout field from stmt) rest) off known next = neither _ _ (left_off _ _ off) (simplified_only rest (right_off (test (Writes layout field Own)) _ off) known next)
  simplified_only (Do (Contribute how layout field place from index stmt) rest) off known next =
      placed_only layout (map (made_name next) index) (λ p now later. put_in_front (Do (Contribute how layout field p (made_name next from) (map (made_name next) index) stmt)) (simplified given rest now later))
      (λ p now later. neither _ _ (left_off _ _ off) (simplified_only rest (right_off (test (Writes layout field (Acc how))) _ off) now later)) known next
  simplified_only (Do (Wish layout index stmt) rest) off known next = simplified_only rest off known next
  simplified_only (Branch cond block otherwise rest) off known next =
      let first = simplified given block known next in
      let second = simplified given otherwise known first.1 in
      let more = right_off (has_use test block) _ off in
      neither _ _ (simplified_only block (left_off _ _ off) known next)
      (neither _ _ (simplified_only otherwise (left_off _ _ more) known first.1) (simplified_only rest (right_off (has_use test otherwise) _ more) known second.1))
  simplified_only (Loop set lo hi body rest) off known next =
      let turn = simplified given body (looped set lo hi known) next in
      neither _ _ (simplified_only body (left_off _ _ off) (looped set lo hi known) next) (simplified_only rest (right_off (has_use test body) _ off) known turn.1)
