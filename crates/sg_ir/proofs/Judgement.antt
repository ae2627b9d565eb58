-- From the judgement of blocks, as the test has it, to well-typed code.
use Rattle.std.specs.Prelude.{if◌then◌else◌}
use Rattle.std.proofs.Common.{zero, suc, nat_lt, Bor, ◌≡◌, ℕ, Bool, true, false, ◌&&◌, ◌==◌, min, List, [], ◌∷◌, ◌++◌, None, slice_get, ℤ, sym, ap, ◌∙◌, arith}
use Rattle.std.proofs.lemmas.Bool.Decides.{nat_tests}
use mathlib.Core.Path.{fun_ext}
use Rattle.sg_layout.specs.declared.shape.Shape.{Shape}
use Rattle.sg_ir.specs.declared.code.Code.{Code}
use Rattle.sg_ir.specs.declared.code.Inst.{Inst}
use Rattle.sg_ir.specs.declared.code.Inst.TheVariants as v
use Rattle.sg_ir.specs.declared.before.Before.{Before}
use Rattle.sg_ir.specs.declared.before.Before.TheVariants as bv
use Rattle.sg_ir.specs.declared.typing.Typing.{Typing}
use Rattle.sg_ir.specs.WellTyped.{Frame, Scope, judged, holds_of, is_i32, setters_in, has_no_twice, set_regs, set_places, frame_of, first_scope, is_well_typed}
use Rattle.sg_ir.specs.steps.Scopes.{scope_at}
use Rattle.sg_ir.specs.steps.Frames.{free_in, frame_in, is_good, are_good}
use Rattle.sg_ir.proofs.Scoping.{scope-Start, next-good, for-good}

pub min-zero : (n : ℕ) → (min 2 n == 0) ≡ (n == 0)
min-zero n = grind (arith, nat_tests)

pub min-one : (n : ℕ) → (min 2 n == 1) ≡ (n == 1)
min-one n = grind (arith, nat_tests)

pub next-fits : (typing : Typing) (done : Bor (List Inst)) (outer : Bor Before) (inst : Inst) (r : Bool) → r ≡ is_good typing (bv.Block done outer) inst →
    are_good typing outer.now done.now ≡ true → are_good typing outer.now (done.now ++ inst ∷ []) ≡ r
next-fits typing done outer inst r is good =
    next-good (frame_in typing) (free_in typing) done outer inst
    ∙ ap (λ (b : Bool). b && is_good typing (bv.Block done outer) inst) good
    ∙ sym is

abbrev with_vars : (ℕ → Bool) → Scope
with_vars vars = record { regs = λ r. false; places = λ p. None; vars = vars }

pub well-typed-is : (typing : Typing) (shapes : List Shape) (code : Code) (fits once : Bool) → frame_in typing ≡ frame_of shapes code →
    ((v : ℕ) → free_in typing v ≡ (first_scope code.body).vars v) → fits ≡ are_good typing bv.Start code.body →
    once ≡ (has_no_twice (set_regs code.body) && has_no_twice (set_places code.body)) → (fits && once) ≡ is_well_typed shapes code
well-typed-is typing shapes code fits once frame free good sets =
    let start : scope_at (free_in typing) bv.Start ≡ first_scope code.body = scope-Start (free_in typing) ∙ ap with_vars (fun_ext free) in
    let judged_is : fits ≡ (judged (frame_of shapes code) code.body (first_scope code.body)).0 =
    good
    ∙ ap (λ (f : Frame). (judged f code.body (scope_at (free_in typing) bv.Start)).0) frame
    ∙ ap (λ (s : Scope). (judged (frame_of shapes code) code.body s).0) start in
    ap (λ (b : Bool). b && once) judged_is
    ∙ ap (λ (b : Bool). (judged (frame_of shapes code) code.body (first_scope code.body)).0 && b) sets

pub for-fits : (typing : Typing) (outer : Bor Before) (inst : Inst) (var : ℕ) (lo hi : ℤ) (body : List Inst) (n a b : Bool) → inst ≡ v.For var lo hi body →
    n ≡ (a && b) → a ≡ (holds_of is_i32 (slice_get typing.vars.now var) && (setters_in typing.body.now var == 1)) → b ≡ are_good typing (bv.Loop var outer) body →
    n ≡ is_good typing outer.now inst
for-fits typing outer inst var lo hi body n a b is both first second =
    both
    ∙ ap (λ (x : Bool). x && b) first
    ∙ ap (λ (x : Bool). (holds_of is_i32 (slice_get typing.vars.now var) && (setters_in typing.body.now var == 1)) && x) second
    ∙ sym (ap (is_good typing outer.now) is ∙ for-good (frame_in typing) (free_in typing) var lo hi body outer)

pub free-is : (a b c : Bool) (free : ℕ → Bool) → a ≡ free 0 → b ≡ free 1 → c ≡ free 2 → (v : ℕ) →
    (if v == 0 then a else (if v == 1 then b else (if v == 2 then c else false))) ≡ (nat_lt v 3 && free v)
free-is a b c free first second third zero = first
free-is a b c free first second third (suc zero) = second
free-is a b c free first second third (suc (suc zero)) = third
free-is a b c free first second third (suc (suc (suc v))) = grind (arith, nat_tests)
