-- Code that stands for what the pass puts out is simplified.
use Rattle.std.specs.Prelude.{◌≡◌, ℕ, ◌≤◌, true, List, [], map, slice_get, Some, Contains}
use Rattle.std.specs.List.{list_all}
use Rattle.std.proofs.Common.{sym, ap, subst, ◌∙◌}
use Rattle.sg_words.specs.declared.operators.Ty.{Ty}
use Rattle.sg_words.specs.declared.operators.BinOp.{BinOp}
use Rattle.sg_words.specs.declared.operators.UnOp.{UnOp}
use Rattle.sg_words.specs.WordLaws.{WordHasNumber, NumberHasWord, SumIsModular, DifferenceIsModular, ProductIsModular, AppliedIsWord, AppliedUnIsWord, MulqIsWord}
use Rattle.sg_coord.specs.declared.coord.Coord.{Coord}
use Rattle.sg_coord.specs.Bounds.{IsBounds}
use Rattle.sg_coord.specs.Laws.{InsideTest}
use Rattle.sg_layout.specs.declared.shape.Shape.{Shape}
use Rattle.sg_layout.specs.Accepted.{IsAccepted}
use Rattle.sg_layout.specs.Axes.{bounds_of_shape}
use Rattle.sg_layout.specs.ClosureLaws.{ClosureIsInside}
use Rattle.sg_layout.specs.PathLaws.{PathIsSlot, WholePathIsOffsets}
use Rattle.sg_flat.specs.declared.effects.Domain.{Domain}
use Rattle.sg_flat.specs.Laws.{BoxIsRanges}
use Rattle.sg_ir.specs.declared.code.Code.{Code}
use Rattle.sg_ir.specs.Apt.{uses_in}
use Rattle.sg_ir.specs.Blocks.{Block, block_in}
use Rattle.sg_ir.specs.Named.{IsNamed}
use Rattle.sg_ir.specs.Shared.{is_shared}
use Rattle.sg_ir.specs.Trimmed.{asked, is_trimmed}
use Rattle.sg_ir.specs.WellTyped.{is_well_typed}
use Rattle.sg_ir.proofs.Uses.{asked-code}
use Rattle.sg_simplify.specs.steps.Pass.{Next, given_of, first_pass, first_next, simple, simplified}
use Rattle.sg_simplify.specs.Simplified.{IsSimplified}
use Rattle.sg_simplify.specs.steps.Left.{IsSimple, IsLeft}
use Rattle.sg_ir.specs.InScope.{nothing, IsScoped}
use Rattle.sg_simplify.specs.steps.Counted.{has_words, regs_set, places_set}
use Rattle.sg_simplify.proofs.Laid.{are_laid}
use Rattle.sg_simplify.proofs.Meaning.{simple_tells}
use Rattle.sg_simplify.proofs.SettingVars.{simple_is_shared}
use Rattle.sg_simplify.proofs.TypingWhole.{simple_well_typed}
use Rattle.sg_simplify.proofs.UsesKept.{only_given}
use Rattle.sg_simplify.proofs.UsesOfCode.{simple_only}
use Rattle.sg_simplify.proofs.Walked.{are_walked}
use Rattle.sg_simplify.proofs.WellRuled.{well_typed_is_ruled}
use Rattle.sg_simplify.proofs.WholeTrim.{simple_is_trimmed, simple_asks}
use Rattle.sg_simplify.proofs.Whole.{simple_scoped}
use Rattle.sg_simplify.proofs.Numbering.{set_once}
use Rattle.sg_simplify.proofs.KeptWhole.{left_is_simplified}

module _
    (number_law : (t : Ty) (w : ℕ) → WordHasNumber t w)
    (word_law : (t : Ty) (z : _) → NumberHasWord t z)
    (sum_law : (t : Ty) (a b : ℕ) → SumIsModular t a b)
    (difference_law : (t : Ty) (a b : ℕ) → DifferenceIsModular t a b)
    (product_law : (t : Ty) (a b : ℕ) → ProductIsModular t a b)
    (applied_law : (how : BinOp) (t : Ty) (a b : ℕ) → AppliedIsWord how t a b)
    (un_law : (how : UnOp) (a : ℕ) → AppliedUnIsWord how a)
    (mulq_law : (a b s : ℕ) → MulqIsWord a b s)
    (inside_law : (shape : Shape) → ClosureIsInside shape)
    (box_law : (lo hi : Coord) → BoxIsRanges lo hi)
    (test_law : InsideTest)
    (slot_law : (shape : Shape) → PathIsSlot shape)
    (whole_law : (shape : Shape) → WholePathIsOffsets shape) where
  pub simple_is_simplified : (shapes : List Shape) (domain : Domain) (code made : Code)
      → ((layout : ℕ) (shape : Shape) → slice_get shapes layout ≡ Some shape → IsAccepted shape × IsBounds (bounds_of_shape shape))
      → is_well_typed shapes code ≡ true → IsNamed shapes domain code.body → list_all (λ b. b) (map has_words code.body) ≡ true
      → (out : Block × Next) → simplified (given_of shapes domain code.regs (block_in code)) (block_in code) first_pass first_next ≡ out
      → block_in made ≡ out.0 → made.regs ≡ out.1.types → made.places ≡ out.1.places → made.vars ≡ code.vars → IsSimple shapes domain code made
  simple_is_simplified shapes domain code made checked good named words out is same_block same_regs same_places same_vars =
      let whole : block_in made ≡ simple shapes domain code.regs (block_in code) = same_block ∙ ap (λ (o : Block × Next). o.0) (sym is) in
      let ruled = well_typed_is_ruled shapes domain code (are_laid shapes checked test_law slot_law whole_law) good words in
      let tells = simple_tells number_law word_law sum_law difference_law product_law applied_law un_law mulq_law inside_law box_law shapes domain code.regs made.regs code.body made.body whole ruled named in
      record {
        same = λ state flat at has. let it = tells state flat at has in record { writes = it.writes; wants = it.wants };
        typed = simple_well_typed shapes domain code made (are_walked shapes checked) good ruled.scoped ruled.rooted out is same_block same_regs same_places same_vars;
        named = λ state flat at has. (tells state flat at has).named;
        shared = ap is_shared whole ∙ simple_is_shared shapes domain code.regs (block_in code);
        trimmed = ap (is_trimmed shapes domain) whole ∙ simple_is_trimmed shapes domain code.regs (block_in code) ruled;
        only = only_given (uses_in code.body) (uses_in made.body) (simple_only shapes domain code.regs made.regs code.body made.body whole);
        asks = λ layout has. subst (λ (xs : List ℕ). Contains xs layout) (asked-code code)
            (simple_asks shapes domain code.regs (block_in code) ruled layout (subst (λ (xs : List ℕ). Contains xs layout) (sym (asked-code made) ∙ ap (asked []) whole) has));
      }

  -- what is left of it is simplified
  pub left_of_simple : (shapes : List Shape) (domain : Domain) (code made : Code)
      → ((layout : ℕ) (shape : Shape) → slice_get shapes layout ≡ Some shape → IsAccepted shape × IsBounds (bounds_of_shape shape))
      → is_well_typed shapes code ≡ true → IsNamed shapes domain code.body → list_all (λ b. b) (map has_words code.body) ≡ true
      → (out : Block × Next) → simplified (given_of shapes domain code.regs (block_in code)) (block_in code) first_pass first_next ≡ out
      → block_in made ≡ out.0 → made.regs ≡ out.1.types → made.places ≡ out.1.places → made.vars ≡ code.vars → (left : Code) → IsLeft made left → IsSimplified shapes domain code left
  left_of_simple shapes domain code made checked good named words out is same_block same_regs same_places same_vars left kept =
      let whole : block_in made ≡ simple shapes domain code.regs (block_in code) = same_block ∙ ap (λ (o : Block × Next). o.0) (sym is) in
      let ruled = well_typed_is_ruled shapes domain code (are_laid shapes checked test_law slot_law whole_law) good words in
      let scoped : IsScoped nothing (block_in made) = subst (λ (b : Block). IsScoped nothing b) (sym whole) (simple_scoped shapes domain code.regs (block_in code) ruled) in
      let once : (n : ℕ) → (regs_set n (block_in made) ≤ 1) × (places_set n (block_in made) ≤ 1) =
      λ n. subst (λ (b : Block). (regs_set n b ≤ 1) × (places_set n b ≤ 1)) (sym whole) (set_once (given_of shapes domain code.regs (block_in code)) (block_in code) first_pass first_next n) in
      left_is_simplified shapes domain code made left (simple_is_simplified shapes domain code made checked good named words out is same_block same_regs same_places same_vars) scoped once
      kept.marks kept.spread kept.block kept.regs kept.places kept.vars
