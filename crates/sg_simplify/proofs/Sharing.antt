-- What the pass puts out is shared.
use Rattle.std.specs.Prelude.{◌≡◌, refl, ℕ, suc, Bool, true, false, not, ◌&&◌, ◌||◌, cond, List, [], ◌∷◌, ◌++◌, length, map, is_some, slice_get, Option, Some, None}
use Rattle.std.specs.List.{list_any}
use Rattle.std.specs.Map.{lookup}
use Rattle.std.proofs.Common.{sym, ap, ◌∙◌, ◌⊎◌, inl, inr}
use Rattle.sg_words.specs.declared.operators.Ty.{Ty}
use Rattle.sg_words.specs.declared.operators.Ty.TheVariants as ty
use Rattle.sg_layout.specs.declared.shape.NodeShape.{NodeShape}
use Rattle.sg_layout.specs.declared.shape.Shape.{Shape}
use Rattle.sg_layout.specs.Axes.{bounds_of_shape, extent_in, extent_over}
use Rattle.sg_ir.specs.declared.op.Op.{Op}
use Rattle.sg_ir.specs.declared.op.Op.TheVariants as op
use Rattle.sg_ir.specs.declared.op.Step.{Step}
use Rattle.sg_ir.specs.declared.op.Step.TheVariants as step
use Rattle.sg_ir.specs.Blocks.{sight_op, Block, End, Word, Spot, Cell, Do, Branch, Loop, SetVar, WriteOwn, Contribute, Wish}
use Rattle.sg_ir.specs.Shared.{same_op, same_step, is_pure, shares}
use Rattle.sg_ir.specs.Trimmed.{is_within}
use Rattle.sg_ir.specs.Places.{extents_in}
use Rattle.sg_simplify.specs.steps.Pass.{Given, Pass, Next, Making, made_name, with_name, next_with_reg, next_with_place, given_type, span_in, span_of, renamed, and_op, and_step, put_in_front, set_word, fresh, taken_at, looked_up, operand_again, plainest, taken_or, taken, numbered, stepped_at, stepped, check_at, checks_made, offset_made, offset, descent_of, descended, placed_in, place_made, looped, simplified, layout_seen}
use Rattle.sg_simplify.specs.steps.Shares.{Knows, GoesShared}
use Rattle.sg_simplify.proofs.Sights.{sight_pure}
use Rattle.sg_simplify.proofs.Plainest.{plainest_pure}

both_true : (a b : Bool) → a ≡ true → b ≡ true → (a && b) ≡ true
both_true true true e f = refl
both_true true false e f = absurd (cc)
both_true false b e f = absurd (cc)

-- a table with one entry more
found_more : {A : Type 0} (test : A → Bool) (entries : List (A × ℕ)) (last : A × ℕ) → is_some (lookup test entries) ≡ true → is_some (lookup test (entries ++ last ∷ [])) ≡ true
found_more test [] last h = absurd (cc)
found_more test (entry ∷ entries) last h = by_test (test entry.0) h (found_more test entries last)
  where
    by_test : (b : Bool) → is_some (cond b (Some entry.1) (lookup test entries)) ≡ true → (is_some (lookup test entries) ≡ true → is_some (lookup test (entries ++ last ∷ [])) ≡ true)
        → is_some (cond b (Some entry.1) (lookup test (entries ++ last ∷ []))) ≡ true
    by_test true e more = refl
    by_test false e more = more e

found_last : {A : Type 0} (test : A → Bool) (entries : List (A × ℕ)) (key : A) (n : ℕ) → test key ≡ true → is_some (lookup test (entries ++ (key, n) ∷ [])) ≡ true
found_last test [] key n h = rw h refl
found_last test (entry ∷ entries) key n h = by_test (test entry.0) (found_last test entries key n h)
  where
    by_test : (b : Bool) → is_some (lookup test (entries ++ (key, n) ∷ [])) ≡ true → is_some (cond b (Some entry.1) (lookup test (entries ++ (key, n) ∷ []))) ≡ true
    by_test true more = refl
    by_test false more = more

none_of_them : (seen : Bool) (found : Option ℕ) → found ≡ None → (seen ≡ true → is_some found ≡ true) → not seen ≡ true
none_of_them true found e h = absurd (clash (sym (ap is_some e) ∙ h refl))
  where
    clash : false ≡ true → ⊥
    clash f = absurd (cc)
none_of_them false found e h = refl

either_of : (a b : Bool) → (a || b) ≡ true → (a ≡ true) ⊎ (b ≡ true)
either_of true b h = inl refl
either_of false b h = inr h

-- the instruction that sets a register
set_shares : (single : ℕ → Bool) (ops : List Op) (steps : List Step) (n : ℕ) (how : Op) (index : List ℕ) (rest : Block)
    → shares single ops steps (set_word n how index rest) ≡ (not (is_pure single how && list_any (same_op how) ops) && shares single (how ∷ ops) steps rest)
set_shares single ops steps n (op.Const word truth) index rest = refl
set_shares single ops steps n (op.Var var) index rest = refl
set_shares single ops steps n (op.Bin how kind a b) index rest = refl
set_shares single ops steps n (op.Un how kind a) index rest = refl
set_shares single ops steps n (op.Mulq a b s) index rest = refl
set_shares single ops steps n (op.Extract div size from) index rest = refl
set_shares single ops steps n (op.Offset high size low) index rest = refl
set_shares single ops steps n (op.Read place layout field) index rest = refl
set_shares single ops steps n (op.Active place) index rest = refl
set_shares single ops steps n (op.OwnRead layout field) index rest = refl

pure_renamed : (single : ℕ → Bool) (next : Next) (how : Op) → is_pure single (renamed next how) ≡ is_pure single how
pure_renamed single next (op.Const word truth) = refl
pure_renamed single next (op.Var var) = refl
pure_renamed single next (op.Bin how kind a b) = refl
pure_renamed single next (op.Un how kind a) = refl
pure_renamed single next (op.Mulq a b s) = refl
pure_renamed single next (op.Extract div size from) = refl
pure_renamed single next (op.Offset high size low) = refl
pure_renamed single next (op.Read place layout field) = refl
pure_renamed single next (op.Active place) = refl
pure_renamed single next (op.OwnRead layout field) = refl

module _ (same_exact : (a b : Op) → same_op a b ≡ true → a ≡ b) (given : Given) where
  abbrev single : ℕ → Bool
  single = given.single

  -- one operation more, that is known, or that isn't pure
  knows_op : (ops : List Op) (steps : List Step) (known : Pass) (how : Op) (n : ℕ) → Knows single ops steps known → Knows single (how ∷ ops) steps (and_op how n known)
  knows_op ops steps known how n h = record { ops = λ q pure seen. by_which q pure (either_of (same_op q how) (list_any (same_op q) ops) seen); steps = h.steps }
    where
      by_which : (q : Op) → is_pure single q ≡ true → (same_op q how ≡ true) ⊎ (list_any (same_op q) ops ≡ true) → is_some (lookup (same_op q) (known.ops ++ (how, n) ∷ [])) ≡ true
      by_which q pure (inl here) = found_last (same_op q) known.ops how n here
      by_which q pure (inr there) = found_more (same_op q) known.ops (how, n) (h.ops q pure there)

  knows_impure : (ops : List Op) (steps : List Step) (known : Pass) (how : Op) → is_pure single how ≡ false → Knows single ops steps known → Knows single (how ∷ ops) steps known
  knows_impure ops steps known how impure h = record { ops = λ q pure seen. by_which q pure (either_of (same_op q how) (list_any (same_op q) ops) seen); steps = h.steps }
    where
      clash : true ≡ false → ⊥
      clash f = absurd (cc)

      by_which : (q : Op) → is_pure single q ≡ true → (same_op q how ≡ true) ⊎ (list_any (same_op q) ops ≡ true) → is_some (lookup (same_op q) known.ops) ≡ true
      by_which q pure (inl here) = absurd (clash (sym pure ∙ (ap (is_pure single) (same_exact q how here) ∙ impure)))
      by_which q pure (inr there) = h.ops q pure there

  knows_step : (ops : List Op) (steps : List Step) (known : Pass) (how : Step) (n : ℕ) → Knows single ops steps known → Knows single ops (how ∷ steps) (and_step how n known)
  knows_step ops steps known how n h = record { ops = h.ops; steps = λ q seen. by_which q (either_of (same_step q how) (list_any (same_step q) steps) seen) }
    where
      by_which : (q : Step) → (same_step q how ≡ true) ⊎ (list_any (same_step q) steps ≡ true) → is_some (lookup (same_step q) (known.steps ++ (how, n) ∷ [])) ≡ true
      by_which q (inl here) = found_last (same_step q) known.steps how n here
      by_which q (inr there) = found_more (same_step q) known.steps (how, n) (h.steps q there)

  fresh_shares : (type : Ty) (how : Op) (index : List ℕ) (go : ℕ → Making) → is_pure single how ≡ false → GoesShared single go → (known : Pass) (next : Next) (ops : List Op) (steps : List Step) → Knows single ops steps known
      → shares single ops steps (fresh given type how index go known next).0 ≡ true
  fresh_shares type how index go impure goes known next ops steps h =
      let n = length next.spans in
      set_shares single ops steps n how index _
      ∙ both_true _ _ (ap (λ (b : Bool). not (b && list_any (same_op how) ops)) impure)
      (goes n known (next_with_reg type (span_of given known next how) next) (how ∷ ops) steps (knows_impure ops steps known how impure h))

  looked_up_shares : (type : Ty) (how : Op) (index : List ℕ) (go : ℕ → Making) → is_pure single how ≡ true → GoesShared single go → (known : Pass) (next : Next) (ops : List Op) (steps : List Step) → Knows single ops steps known
      → shares single ops steps (looked_up given type how index go known next).0 ≡ true
  looked_up_shares type how index go pure goes known next ops steps h = by_found (lookup (same_op how) known.ops) refl
    where
      by_found : (o : Option ℕ) → lookup (same_op how) known.ops ≡ o → shares single ops steps (taken_at given type how index go o known next).0 ≡ true
      by_found (Some t) e = goes t known next ops steps h
      by_found None e =
          let n = length next.spans in
          set_shares single ops steps n how index _
          ∙ both_true _ _ (ap (λ (b : Bool). not (b && list_any (same_op how) ops)) pure ∙ none_of_them (list_any (same_op how) ops) (lookup (same_op how) known.ops) e (h.ops how pure))
          (goes n (and_op how n known) (next_with_reg type (span_of given known next how) next) (how ∷ ops) steps (knows_op ops steps known how n h))

  taken_shares : (type : Ty) (how : Op) (index : List ℕ) (go : ℕ → Making) → is_pure single how ≡ true → GoesShared single go → (known : Pass) (next : Next) (ops : List Op) (steps : List Step) → Knows single ops steps known
      → shares single ops steps (taken given type how index go known next).0 ≡ true
  taken_shares type how index go pure goes known next ops steps h = by_operand (operand_again next how)
    where
      by_operand : (o : Option ℕ) → shares single ops steps (taken_or given type how index go o known next).0 ≡ true
      by_operand (Some t) = goes t known next ops steps h
      by_operand None = looked_up_shares type (plainest type how) index go (plainest_pure single type how ∙ pure) goes known next ops steps h

  numbered_shares : (pure : Bool) (type : Ty) (how : Op) (go : ℕ → Making) → is_pure single how ≡ pure → GoesShared single go → (known : Pass) (next : Next) (ops : List Op) (steps : List Step) → Knows single ops steps known
      → shares single ops steps (numbered pure given type how go known next).0 ≡ true
  numbered_shares true type how go e goes known next ops steps h = taken_shares type how [] go e goes known next ops steps h
  numbered_shares false type how go e goes known next ops steps h = fresh_shares type how [] go e goes known next ops steps h

  stepped_shares : (how : Step) (go : ℕ → Making) → GoesShared single go → (known : Pass) (next : Next) (ops : List Op) (steps : List Step) → Knows single ops steps known
      → shares single ops steps (stepped how go known next).0 ≡ true
  stepped_shares how go goes known next ops steps h = by_found (lookup (same_step how) known.steps) refl
    where
      by_found : (o : Option ℕ) → lookup (same_step how) known.steps ≡ o → shares single ops steps (stepped_at how go o known next).0 ≡ true
      by_found (Some t) e = goes t known next ops steps h
      by_found None e = both_true _ _ (none_of_them (list_any (same_step how) steps) (lookup (same_step how) known.steps) e (h.steps how))
          (goes next.places (and_step how next.places known) (next_with_place next) ops (how ∷ steps) (knows_step ops steps known how next.places h))

  checked_shares : (extents : List ℕ) (axis : ℕ) (index : List ℕ) (place : ℕ) (go : ℕ → Making) → GoesShared single go → (known : Pass) (next : Next) (ops : List Op) (steps : List Step) → Knows single ops steps known
      → shares single ops steps (checks_made axis extents index place go known next).0 ≡ true
  checked_shares [] axis index place go goes known next ops steps h = goes place known next ops steps h
  checked_shares (extent ∷ extents) axis [] place go goes known next ops steps h = goes place known next ops steps h
  checked_shares (extent ∷ extents) axis (r ∷ index) place go goes known next ops steps h = by_test (is_within extent (span_in next r)) (λ p. checked_shares extents (suc axis) index p go goes)
    where
      by_test : (test : Bool) → GoesShared single (λ p. checks_made (suc axis) extents index p go)
          → shares single ops steps (check_at test (step.Check place axis extent r) place (λ p. checks_made (suc axis) extents index p go) known next).0 ≡ true
      by_test true more = more place known next ops steps h
      by_test false more = stepped_shares (step.Check place axis extent r) (λ p. checks_made (suc axis) extents index p go) more known next ops steps h

  joined_shares : (node : NodeShape) (later : List NodeShape) (index : List ℕ) (axis high : ℕ) (go : ℕ → Making) → GoesShared single go → (known : Pass) (next : Next) (ops : List Op) (steps : List Step) → Knows single ops steps known
      → shares single ops steps (offset_made given node later axis index high go known next).0 ≡ true
  joined_shares node later [] axis high go goes known next ops steps h = goes high known next ops steps h
  joined_shares node later (r ∷ index) axis high go goes known next ops steps h =
      taken_shares ty.U32 (op.Extract (extent_over later axis) (extent_in node.sizes axis) r) [] (λ low. taken given ty.U32 (op.Offset high (extent_in node.sizes axis) low) [] (λ o. offset_made given node later (suc axis) index o go)) refl
      (λ low. taken_shares ty.U32 (op.Offset high (extent_in node.sizes axis) low) [] (λ o. offset_made given node later (suc axis) index o go) refl (λ o. joined_shares node later index (suc axis) o go goes)) known next ops steps h

  offset_shares : (node : NodeShape) (later : List NodeShape) (index : List ℕ) (go : ℕ → Making) → GoesShared single go → (known : Pass) (next : Next) (ops : List Op) (steps : List Step) → Knows single ops steps known
      → shares single ops steps (offset given node later index go known next).0 ≡ true
  offset_shares node later [] go goes known next ops steps h = goes 0 known next ops steps h
  offset_shares node later (r ∷ index) go goes known next ops steps h =
      taken_shares ty.U32 (op.Extract (extent_over later 1) (extent_in node.sizes 1) r) [] (λ high. offset_made given node later 2 index high go) refl (λ high. joined_shares node later index 2 high go goes) known next ops steps h

  descended_shares : (nodes : List NodeShape) (number : ℕ) (index : List ℕ) (place : ℕ) (go : ℕ → Making) → GoesShared single go → (known : Pass) (next : Next) (ops : List Op) (steps : List Step) → Knows single ops steps known
      → shares single ops steps (descended given nodes number index place go known next).0 ≡ true
  descended_shares [] number index place go goes known next ops steps h = goes place known next ops steps h
  descended_shares (node ∷ later) number index place go goes known next ops steps h =
      offset_shares node later index (λ o. stepped (step.Down (descent_of node.kind) place number o) (λ p. descended given later (suc number) index p go))
      (λ o. stepped_shares (step.Down (descent_of node.kind) place number o) (λ p. descended given later (suc number) index p go) (λ p. descended_shares later (suc number) index p go goes)) known next ops steps h

  placed_shares : (layout : ℕ) (index : List ℕ) (go : ℕ → Making) → GoesShared single go → (known : Pass) (next : Next) (ops : List Op) (steps : List Step) → Knows single ops steps known
      → shares single ops steps (place_made given layout index go known next).0 ≡ true
  placed_shares layout index go goes known next ops steps h = by_found (slice_get given.shapes layout)
    where
      by_found : (found : Option Shape) → shares single ops steps (placed_in given found layout index go known next).0 ≡ true
      by_found None = goes 0 known next ops steps h
      by_found (Some shape) =
          stepped_shares (step.Root layout) (λ r. checks_made 0 (extents_in (bounds_of_shape shape)) index r (λ p. descended given shape.nodes 1 index p go))
          (λ r. checked_shares (extents_in (bounds_of_shape shape)) 0 index r (λ p. descended given shape.nodes 1 index p go) (λ p. descended_shares shape.nodes 1 index p go goes)) known next ops steps h

  pub simplified_shares : (block : Block) (known : Pass) (next : Next) (ops : List Op) (steps : List Step) → Knows single ops steps known → shares single ops steps (simplified given block known next).0 ≡ true
  simplified_shares End known next ops steps h = refl
  simplified_shares (Word to how rest) known next ops steps h =
      numbered_shares (is_pure single how) (given_type given to) (renamed next how) (λ t now later. simplified given rest now (with_name to t later)) (pure_renamed single next how)
      (λ t now later ops' steps' k. simplified_shares rest now (with_name to t later) ops' steps' k) known next ops steps h
  simplified_shares (Spot to how rest) known next ops steps h = simplified_shares rest known next ops steps h
  simplified_shares (Cell to place sight index rest) known next ops steps h =
      placed_shares (layout_seen given place sight) (map (made_name next) index) (λ p. taken given (given_type given to) (sight_op p sight) (map (made_name next) index) (λ t now later. simplified given rest now (with_name to t later)))
      (λ p. taken_shares (given_type given to) (sight_op p sight) (map (made_name next) index) (λ t now later. simplified given rest now (with_name to t later)) (sight_pure single p sight)
      (λ t now later ops' steps' k. simplified_shares rest now (with_name to t later) ops' steps' k)) known next ops steps h
  simplified_shares (Do (SetVar var from) rest) known next ops steps h = simplified_shares rest known next ops steps h
  simplified_shares (Do (WriteOwn layout field from stmt) rest) known next ops steps h = simplified_shares rest known next ops steps h
  simplified_shares (Do (Contribute how layout field place from index stmt) rest) known next ops steps h =
      placed_shares layout (map (made_name next) index) (λ p now later. put_in_front (Do (Contribute how layout field p (made_name next from) (map (made_name next) index) stmt)) (simplified given rest now later))
      (λ p now later ops' steps' k. simplified_shares rest now later ops' steps' k) known next ops steps h
  simplified_shares (Do (Wish layout index stmt) rest) known next ops steps h = simplified_shares rest known next ops steps h
  simplified_shares (Branch cond block otherwise rest) known next ops steps h =
      let first = simplified given block known next in
      let second = simplified given otherwise known first.1 in
      both_true _ _ (simplified_shares block known next ops steps h)
      (both_true _ _ (simplified_shares otherwise known first.1 ops steps h) (simplified_shares rest known second.1 ops steps h))
  simplified_shares (Loop var lo hi body rest) known next ops steps h =
      let turn = simplified given body (looped var lo hi known) next in
      both_true _ _ (simplified_shares body (looped var lo hi known) next ops steps (record { ops = h.ops; steps = h.steps })) (simplified_shares rest known turn.1 ops steps h)
