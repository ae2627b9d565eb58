-- Well-typed code, whose constants are words, has all that the pass asks of it.
use Rattle.std.specs.Prelude.{◌≡◌, refl, ℕ, ◌+◌, ◌≤◌, ◌==◌, nat_le, nat_lt, Bool, true, false, ◌&&◌, if◌then◌else◌, List, [], map}
use Rattle.std.specs.List.{list_all}
use Rattle.std.proofs.Common.{arith, sym, subst, ◌∙◌, inl}
use Rattle.std.proofs.lemmas.Bool.{eqb-true, and_parts}
use Rattle.std.proofs.lemmas.Bool.Decides.{nat_tests}
use Rattle.sg_layout.specs.declared.shape.Shape.{Shape}
use Rattle.sg_flat.specs.declared.effects.Domain.{Domain}
use Rattle.sg_ir.specs.declared.code.Code.{Code}
use Rattle.sg_ir.specs.Blocks.{End, block_of}
use Rattle.sg_ir.specs.declared.span.Span.{Span}
use Rattle.sg_ir.specs.Span.{whole_i32, sets, domain_span, first_spans}
use Rattle.sg_ir.specs.Shared.{is_single}
use Rattle.sg_ir.specs.WellTyped.{Frame, frame_of, first_scope, judged, set_regs, set_places, setters_in, has_no_twice, most_loop_vars, is_well_typed}
use Rattle.sg_ir.specs.InScope.{nothing}
use Rattle.sg_simplify.specs.steps.Pass.{roots_in, given_of, first_pass, vars_of}
use Rattle.sg_simplify.specs.steps.Judged.{fits_scope}
use Rattle.sg_simplify.specs.steps.Ruled.{IsRuled}
use Rattle.sg_simplify.specs.steps.Counted.{regs_set, places_set, Counts, AddsUp, IsWhole, Meets, CanBeWalked, has_words}
use Rattle.sg_simplify.proofs.Judging.{code_fits}
use Rattle.sg_simplify.proofs.Fitted.{fitted}
use Rattle.sg_simplify.proofs.Rooted.{has_roots}
use Rattle.sg_simplify.proofs.Rulings.{code_rules}
use Rattle.sg_simplify.proofs.Tallying.{code_regs, code_places, code_vars, once_at_most}

few_of : (n : ℕ) → nat_le n 1 ≡ true → n ≤ 1
few_of n h = grind (arith, nat_tests)

none_set : {A : Type 0} → false ≡ true → A
none_set h = absurd (cc)

-- the span of a variable that is set
wide_of : (n : ℕ) (span : Span) → 1 ≤ n → (if n == 0 then span else whole_i32) ≡ whole_i32
wide_of n span some = by_test (n == 0) refl
  where
    by_test : (test : Bool) → (n == 0) ≡ test → (if test then span else whole_i32) ≡ whole_i32
    by_test true e = let none : n ≡ 0 = eqb-true n 0 e in absurd (omega arith)
    by_test false e = refl

pub well_typed_is_ruled : (shapes : List Shape) (domain : Domain) (code : Code) → CanBeWalked shapes → is_well_typed shapes code ≡ true → list_all (λ b. b) (map has_words code.body) ≡ true
    → IsRuled shapes (given_of shapes domain code.regs (block_of code.regs code.body)).roots (given_of shapes domain code.regs (block_of code.regs code.body)).single (vars_of (given_of shapes domain code.regs (block_of code.regs code.body)) first_pass) nothing (block_of code.regs code.body)
well_typed_is_ruled shapes domain code laid good words =
    let block = block_of code.regs code.body in
    let at : Frame = frame_of shapes code in
    let totals : Counts = record { vars = λ x. sets x block; regs = λ r. regs_set r block; places = λ p. places_set p block } in
    let parts = and_parts (judged at code.body (first_scope code.body)).0 (has_no_twice (set_regs code.body) && has_no_twice (set_places code.body)) good in
    let once = and_parts (has_no_twice (set_regs code.body)) (has_no_twice (set_places code.body)) parts.1 in
    let entire : IsWhole at (is_single block) (first_spans shapes domain block).others totals = record {
      regs = λ r. subst (λ n. n ≤ 1) (sym (code_regs code.regs code.body r)) (once_at_most (set_regs code.body) once.0 r);
      places = λ p. subst (λ n. n ≤ 1) (sym (code_places code.regs code.body p)) (once_at_most (set_places code.body) once.1 p);
      setters = λ x. sym (code_vars code.regs code.body x);
      singles = λ x h. few_of (sets x block) h;
      wide = λ x some. wide_of (sets x block) (domain_span shapes domain x) some;
    } in
    let starts : Meets totals (first_scope code.body) nothing (record { vars = λ x. 0; regs = λ r. 0; places = λ p. 0 }) [] = record {
      regs = λ r set. none_set set;
      places = λ p known e. absurd (cc);
      in_regs = λ r set. none_set set;
      in_places = λ p set. none_set set;
      vars = λ x free. inl (code_vars code.regs code.body x ∙ eqb-true (setters_in code.body x) 0 (and_parts (nat_lt x most_loop_vars) (setters_in code.body x == 0) free).1);
      loops = λ x. inl (λ span. refl);
    } in
    let adds : AddsUp totals (record { vars = λ x. 0; regs = λ r. 0; places = λ p. 0 }) block = record { vars = λ x. nothing_more (sets x block); regs = λ r. nothing_more (regs_set r block); places = λ p. nothing_more (places_set p block) } in
    let ruled = code_rules (is_single block) (first_spans shapes domain block).others totals at code.regs entire code.body words
    (first_scope code.body) nothing (record { vars = λ x. 0; regs = λ r. 0; places = λ p. 0 }) [] End parts.0 starts adds
    (λ inside beside m a. record { scoped = tt; settled = tt; spanned = tt }) in
    let rooted = has_roots (roots_in [] block) block nothing [] ruled.scoped (λ p set. none_set set) (λ p set. none_set set) (λ p. entire.places p) (λ p some. refl) in
    let judged_so : fits_scope at (first_scope code.body) block ≡ true = code_fits at code.body (first_scope code.body) ∙ parts.0 in
    record {
      scoped = ruled.scoped;
      settled = ruled.settled;
      spanned = ruled.spanned;
      fitted = fitted at (roots_in [] block) laid block (first_scope code.body) judged_so rooted (λ p known e. absurd (cc));
      rooted = rooted;
    }
  where
    nothing_more : (n : ℕ) → n ≡ 0 + n
    nothing_more n = omega arith
