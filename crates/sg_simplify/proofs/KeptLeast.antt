-- The least set of nodes that has each need of what is in it is what is kept least.
use Rattle.std.specs.Prelude.{◌≡◌, refl, ℕ, ◌+◌, Bool, true, false, not, ◌||◌, List, [], ◌∷◌, get_or}
use Rattle.std.specs.List.{list_all}
use Rattle.std.proofs.Common.{arith, sym, ap, ◌∙◌}
use Rattle.std.proofs.lemmas.Bool.{and_parts, and_from}
use Rattle.sg_ir.specs.Blocks.{Block}
use Rattle.sg_words.specs.Spread.{has_spread, bears_mark, IsLeastSpread}
use Rattle.sg_simplify.specs.Kept.{Keep, kept_part, ReadsKept, IsLean}
use Rattle.sg_simplify.specs.steps.Needed.{reg_node, place_node, var_node, outermost, needs_of, kept_by, left_in, nodes_of}
use Rattle.sg_simplify.proofs.KeptLean.{Within, kept_is_lean}
use Rattle.sg_simplify.proofs.KeptAlong.{Along}
use Rattle.sg_simplify.proofs.KeptCloses.{needs_close}
use Rattle.sg_simplify.proofs.KeptReaches.{reg_is, place_is, var_is, outer_on, needs_reached}

module _ (block : Block) (marks : List Bool) (spread : IsLeastSpread (needs_of outermost 1 block) (outermost ∷ []) marks) where
  abbrev pub keep_least : Keep
  keep_least = kept_by (bears_mark marks)

  parts : Along (bears_mark marks) (needs_of outermost 1 block) × (list_all (bears_mark marks) (outermost ∷ []) ≡ true)
  parts = and_parts (list_all (λ link. not (bears_mark marks link.from) || bears_mark marks link.to) (needs_of outermost 1 block)) (list_all (bears_mark marks) (outermost ∷ [])) spread.spread

  -- what is left reads what is kept
  pub least_closed : ReadsKept keep_least (kept_part keep_least block)
  least_closed = (needs_close (bears_mark marks) (and_parts (bears_mark marks outermost) true parts.1).0 outermost 1 block parts.0).reads

  pub least_within : (other : Keep) → ReadsKept other (kept_part other block) → Within keep_least other
  least_within other reads =
      let whole = left_in other block in
      let along : Along (nodes_of other whole) (needs_of outermost 1 block) = needs_reached other whole outermost 0 block (λ k below. ap (λ m. get_or whole m false) (none_before k)) reads (λ e. outer_on other whole) in
      let spreads : has_spread (nodes_of other whole) (needs_of outermost 1 block) (outermost ∷ []) ≡ true =
      and_from (list_all (λ link. not (nodes_of other whole link.from) || nodes_of other whole link.to) (needs_of outermost 1 block)) (list_all (nodes_of other whole) (outermost ∷ [])) along
      (and_from (nodes_of other whole outermost) true (outer_on other whole) refl) in
      record {
        regs = λ r on. sym (reg_is other whole r) ∙ spread.least (nodes_of other whole) spreads (reg_node r) on;
        places = λ p on. sym (place_is other whole p) ∙ spread.least (nodes_of other whole) spreads (place_node p) on;
        vars = λ v on. sym (var_is other whole v) ∙ spread.least (nodes_of other whole) spreads (var_node v) on;
      }
    where
      none_before : (k : ℕ) → 0 + k ≡ k
      none_before k = omega arith

  pub least_is_lean : IsLean (kept_part keep_least block)
  least_is_lean = kept_is_lean keep_least block least_closed least_within
