-- Accesses of code that is well typed have their layouts.
use Rattle.std.specs.Prelude.{◌≡◌, refl, ℕ, ◌==◌, nat_lt, Bool, true, false, ◌&&◌, if◌then◌else◌, List, [], ◌∷◌, length, slice_get, Option, Some, None, option_map, unwrap_or}
use Rattle.std.specs.List.{list_all}
use Rattle.std.proofs.Common.{arith, sym, ap, subst, ◌∙◌}
use Rattle.std.proofs.lemmas.Bool.{eqb-true, and_parts, both_ways}
use Rattle.sg_layout.specs.declared.shape.Shape.{Shape}
use Rattle.sg_ir.specs.declared.op.Op.{Op}
use Rattle.sg_ir.specs.declared.op.Op.TheVariants as op
use Rattle.sg_ir.specs.declared.op.Step.{Step}
use Rattle.sg_ir.specs.declared.op.Step.TheVariants as step
use Rattle.sg_ir.specs.Blocks.{Sight, Value, Activity, sight_op, Block, End, Word, Spot, Cell, Do, Branch, Loop, SetVar, WriteOwn, Contribute, Wish}
use Rattle.sg_ir.specs.WellTyped.{KnownPlace, Scope, Frame, with_reg, with_place, with_var, reads, indexes, is_i32, is_cell, holds_of}
use Rattle.sg_simplify.specs.steps.Pass.{root_known, root_by, sight_layout}
use Rattle.sg_simplify.specs.steps.Ruled.{IndexFits, IsNotRead, HasAccessLayouts, HasRoots}
use Rattle.sg_simplify.specs.steps.Counted.{CanBeWalked}
use Rattle.sg_simplify.specs.steps.Judged.{gives_type, field_truth, truth_of, operands_fit, index_fits, sight_fits, step_reads, step_known, and_known, act_fits, is_no_read, fits_scope}

-- a plain operation sees nothing at a place
not_read : (how : Op) → is_no_read how ≡ true → IsNotRead how
not_read (op.Const word truth) e = tt
not_read (op.Var var) e = tt
not_read (op.Bin how kind a b) e = tt
not_read (op.Un how kind a) e = tt
not_read (op.Mulq a b s) e = tt
not_read (op.Extract div size from) e = tt
not_read (op.Offset high size low) e = tt
not_read (op.Read place layout field) e = absurd (both_ways false refl e)
not_read (op.Active place) e = absurd (both_ways false refl e)
not_read (op.OwnRead layout field) e = tt

module _ (roots : List (ℕ × ℕ)) where
  -- what is known of places in scope
  abbrev pub Rooted : Scope → Type 0
  Rooted scope = (p : ℕ) (known : KnownPlace) → scope.places p ≡ Some known → root_known roots p ≡ known.layout

  -- a place that is set
  put_rooted : (scope : Scope) (to : ℕ) (known : KnownPlace) → Rooted scope → root_known roots to ≡ known.layout → Rooted (with_place to known scope)
  put_rooted scope to known rooted is p other = by_test (p == to) refl
    where
      by_test : (test : Bool) → (p == to) ≡ test → (if test then Some known else scope.places p) ≡ Some other → root_known roots p ≡ other.layout
      by_test true same e = ap (root_known roots) (eqb-true p to same) ∙ (is ∙ ap (λ (found : Option KnownPlace). (unwrap_or found known).layout) e)
      by_test false same e = rooted p other e

  on_rooted : (scope : Scope) (to place passed : ℕ) → Rooted scope → root_known roots to ≡ root_known roots place
      → Rooted (and_known to (option_map (λ (known : KnownPlace). record { layout = known.layout; passed = passed }) (scope.places place)) scope)
  on_rooted scope to place passed rooted is = by_known (scope.places place) refl
    where
      by_known : (found : Option KnownPlace) → scope.places place ≡ found → Rooted (and_known to (option_map (λ (known : KnownPlace). record { layout = known.layout; passed = passed }) found) scope)
      by_known None e = rooted
      by_known (Some known) e = put_rooted scope to (record { layout = known.layout; passed = passed }) rooted (is ∙ rooted place known e)

  pub step_rooted : (scope : Scope) (to : ℕ) (how : Step) → Rooted scope → root_known roots to ≡ root_by roots how → Rooted (and_known to (step_known scope how) scope)
  step_rooted scope to (step.Root layout) rooted is = put_rooted scope to (record { layout = layout; passed = 0 }) rooted is
  step_rooted scope to (step.Check place axis extent index) rooted is = on_rooted scope to place 0 rooted is
  step_rooted scope to (step.Down descent place node offset) rooted is = on_rooted scope to place node rooted is

module _ (at : Frame) (roots : List (ℕ × ℕ)) (laid : CanBeWalked at.shapes) where
  fits_index : (layout : ℕ) (shape : Shape) → slice_get at.shapes layout ≡ Some shape → (index : List ℕ) → length index ≡ shape.axes → IndexFits at.shapes layout index
  fits_index layout shape found [] long = let some = (laid layout shape found).0 in absurd (omega (arith, long))
  fits_index layout shape found (r ∷ index) long = record { shape = shape; there = found; leads = λ words length each. (laid layout shape found).1 words (length ∙ long) each }

  good_index : (scope : Scope) (layout : ℕ) (index : List ℕ) → index_fits at scope layout index ≡ true → IndexFits at.shapes layout index
  good_index scope layout index h = by_shape (slice_get at.shapes layout) refl h
    where
      by_shape : (found : Option Shape) → slice_get at.shapes layout ≡ found → holds_of (λ shape. indexes at scope shape index) found ≡ true → IndexFits at.shapes layout index
      by_shape None e g = absurd (both_ways false refl g)
      by_shape (Some shape) e g = fits_index layout shape e index (eqb-true (length index) shape.axes (and_parts (length index == shape.axes) (list_all (reads at scope false) index) g).0)

  good_sight : (scope : Scope) (place : ℕ) (sight : Sight) (index : List ℕ) → Rooted roots scope → sight_fits at scope place sight index ≡ true → IndexFits at.shapes (sight_layout roots place sight) index
  good_sight scope place (Value layout field) index rooted h = good_index scope layout index h
  good_sight scope place Activity index rooted h = by_known (scope.places place) refl h
    where
      by_known : (found : Option KnownPlace) → scope.places place ≡ found → holds_of (λ known. index_fits at scope known.layout index) found ≡ true → IndexFits at.shapes (root_known roots place) index
      by_known None e g = absurd (both_ways false refl g)
      by_known (Some known) e g = subst (λ (layout : ℕ). IndexFits at.shapes layout index) (sym (rooted place known e)) (good_index scope known.layout index g)

  pub fitted : (block : Block) (scope : Scope) → fits_scope at scope block ≡ true → HasRoots roots block → Rooted roots scope → HasAccessLayouts at.shapes roots block
  fitted End scope e has rooted = tt
  fitted (Word to how rest) scope e has rooted =
      let each = and_parts (is_no_read how && (operands_fit at scope how && gives_type (truth_of at.shapes at.vars how) (slice_get at.regs to))) (fits_scope at (with_reg to scope) rest) e in
      (not_read how (and_parts (is_no_read how) (operands_fit at scope how && gives_type (truth_of at.shapes at.vars how) (slice_get at.regs to)) each.0).0, fitted rest (with_reg to scope) each.1 has rooted)
  fitted (Spot to how rest) scope e has rooted =
      let each = and_parts (nat_lt to at.places && step_reads at scope how) (fits_scope at (and_known to (step_known scope how) scope) rest) e in
      fitted rest (and_known to (step_known scope how) scope) each.1 has.1 (step_rooted roots scope to how rooted has.0)
  fitted (Cell to place sight index rest) scope e has rooted =
      let gives = gives_type (truth_of at.shapes at.vars (sight_op place sight)) (slice_get at.regs to) in
      let each = and_parts (operands_fit at scope (sight_op place sight) && (gives && sight_fits at scope place sight index)) (fits_scope at (with_reg to scope) rest) e in
      let here = and_parts (operands_fit at scope (sight_op place sight)) (gives && sight_fits at scope place sight index) each.0 in
      (good_sight scope place sight index rooted (and_parts gives (sight_fits at scope place sight index) here.1).1, fitted rest (with_reg to scope) each.1 has rooted)
  fitted (Do (SetVar var from) rest) scope e has rooted = (tt, fitted rest (with_var var scope) (and_parts (act_fits at scope (SetVar var from)) (fits_scope at (with_var var scope) rest) e).1 has rooted)
  fitted (Do (WriteOwn layout field from stmt) rest) scope e has rooted = (tt, fitted rest scope (and_parts (act_fits at scope (WriteOwn layout field from stmt)) (fits_scope at scope rest) e).1 has rooted)
  fitted (Do (Contribute how layout field place from index stmt) rest) scope e has rooted =
      let gives = gives_type (field_truth at.shapes layout field) (slice_get at.regs from) in
      let each = and_parts (act_fits at scope (Contribute how layout field place from index stmt)) (fits_scope at scope rest) e in
      let first = and_parts (holds_of (is_cell at layout) (scope.places place)) (scope.regs from && (gives && index_fits at scope layout index)) each.0 in
      let second = and_parts (scope.regs from) (gives && index_fits at scope layout index) first.1 in
      (good_index scope layout index (and_parts gives (index_fits at scope layout index) second.1).1, fitted rest scope each.1 has rooted)
  fitted (Do (Wish layout index stmt) rest) scope e has rooted = (tt, fitted rest scope (and_parts (act_fits at scope (Wish layout index stmt)) (fits_scope at scope rest) e).1 has rooted)
  fitted (Branch cond block otherwise rest) scope e has rooted =
      let each = and_parts (reads at scope true cond && (fits_scope at scope block && fits_scope at scope otherwise)) (fits_scope at scope rest) e in
      let inside = and_parts (reads at scope true cond) (fits_scope at scope block && fits_scope at scope otherwise) each.0 in
      let both = and_parts (fits_scope at scope block) (fits_scope at scope otherwise) inside.1 in
      (fitted block scope both.0 has.0 rooted, fitted otherwise scope both.1 has.1 rooted, fitted rest scope each.1 has.2 rooted)
  fitted (Loop var lo hi body rest) scope e has rooted =
      let each = and_parts (holds_of is_i32 (slice_get at.vars var) && ((at.setters var == 1) && fits_scope at (with_var var scope) body)) (fits_scope at scope rest) e in
      let inside = and_parts (holds_of is_i32 (slice_get at.vars var)) ((at.setters var == 1) && fits_scope at (with_var var scope) body) each.0 in
      let turn = and_parts (at.setters var == 1) (fits_scope at (with_var var scope) body) inside.1 in
      (fitted body (with_var var scope) turn.1 has.0 rooted, fitted rest scope each.1 has.1 rooted)
