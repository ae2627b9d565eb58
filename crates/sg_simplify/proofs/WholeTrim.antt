-- What the pass puts out for a whole block is trimmed, and asks no other layouts than the block.
use Rattle.std.specs.Prelude.{◌≡◌, refl, ℕ, ◌==◌, Bool, true, false, ◌&&◌, if◌then◌else◌, List, [], ◌∷◌, Contains}
use Rattle.std.specs.List.{list_all, list_any}
use Rattle.std.proofs.Common.{ap}
use Rattle.sg_words.specs.declared.operators.Ty.{Ty}
use Rattle.sg_layout.specs.declared.shape.Shape.{Shape}
use Rattle.sg_flat.specs.declared.effects.Domain.{Domain}
use Rattle.sg_ir.specs.Blocks.{Block}
use Rattle.sg_ir.specs.Span.{whole_i32, domain_span, first_spans}
use Rattle.sg_ir.specs.Trimmed.{AxisCheck, checks_of, passed_in, accesses_are_trim, is_trimmed, asked}
use Rattle.sg_ir.specs.InScope.{nothing}
use Rattle.sg_simplify.specs.steps.Pass.{given_of, first_pass, first_next, vars_of, simple}
use Rattle.sg_simplify.specs.steps.Serves.{EachByRecursion}
use Rattle.sg_simplify.specs.steps.Ruled.{IsRuled}
use Rattle.sg_simplify.specs.steps.Uses.{IsPassed}
use Rattle.sg_simplify.specs.steps.Trims.{answers, AsksGood}
use Rattle.sg_simplify.proofs.Answering.{only_asked, answers_trim, answers_asked, all_ask, covers}
use Rattle.sg_simplify.proofs.SettingVars.{simplified_count}
use Rattle.sg_simplify.proofs.Trimming.{simplified_trims}
use Rattle.sg_simplify.proofs.Using.{simplified_uses}

none_set : {A : Type 0} → false ≡ true → A
none_set h = absurd (cc)

both_true : (a b : Bool) → a ≡ true → b ≡ true → (a && b) ≡ true
both_true true true e f = refl
both_true true false e f = absurd (cc)
both_true false b e f = absurd (cc)

all_pass : (passed : List AxisCheck) (places : List ℕ) → EachByRecursion (IsPassed passed) places → list_all (λ place. list_any (λ (it : AxisCheck). it.place == place) passed) places ≡ true
all_pass passed [] each = refl
all_pass passed (p ∷ places) each = both_true _ _ each.0 (all_pass passed places each.1)

-- what the pass puts out answers, for a test that passes for what the given block asks
answered : (good : ℕ → Bool) (shapes : List Shape) (domain : Domain) (types : List Ty) (block : Block)
    → IsRuled shapes (given_of shapes domain types block).roots (given_of shapes domain types block).single (vars_of (given_of shapes domain types block) first_pass) nothing block → AsksGood good (given_of shapes domain types block).roots block
    → answers good shapes (first_spans shapes domain (simple shapes domain types block)) [] (simple shapes domain types block) ≡ true
answered good shapes domain types block ruled asks =
    let given = given_of shapes domain types block in
    simplified_trims good given block nothing nothing first_pass first_next (first_spans shapes domain (simple shapes domain types block)) [] ruled.scoped ruled.fitted asks
    (record {
      sets = record { ops = tt; steps = tt; free_regs = λ r above. refl; free_places = λ p above. refl };
      regs = λ r is. none_set is;
      vars = λ v. ap (λ n. if n == 0 then domain_span shapes domain v else whole_i32) (simplified_count given v block first_pass first_next);
      steps = tt;
    })
    (λ r is. none_set is)

pub simple_is_trimmed : (shapes : List Shape) (domain : Domain) (types : List Ty) (block : Block)
    → IsRuled shapes (given_of shapes domain types block).roots (given_of shapes domain types block).single (vars_of (given_of shapes domain types block) first_pass) nothing block → is_trimmed shapes domain (simple shapes domain types block) ≡ true
simple_is_trimmed shapes domain types block ruled =
    let given = given_of shapes domain types block in
    let out = simple shapes domain types block in
    both_true (accesses_are_trim shapes (first_spans shapes domain out) [] out) _
    (answers_trim (λ layout. true) shapes out (first_spans shapes domain out) [] (answered (λ layout. true) shapes domain types block ruled (all_ask given.roots block)))
    (all_pass (passed_in [] out) (checks_of out) (simplified_uses given block nothing first_pass first_next [] ruled.scoped ruled.fitted (record { ops = tt; steps = tt; given = tt })).own)

-- and asks only layouts that the given block asks
pub simple_asks : (shapes : List Shape) (domain : Domain) (types : List Ty) (block : Block)
    → IsRuled shapes (given_of shapes domain types block).roots (given_of shapes domain types block).single (vars_of (given_of shapes domain types block) first_pass) nothing block
    → (layout : ℕ) → Contains (asked [] (simple shapes domain types block)) layout → Contains (asked [] block) layout
simple_asks shapes domain types block ruled =
    let given = given_of shapes domain types block in
    let out = simple shapes domain types block in
    only_asked (asked [] block) (asked [] out)
    (λ good e. answers_asked good shapes out (first_spans shapes domain out) [] (answered good shapes domain types block ruled (covers given.roots good block nothing [] ruled.scoped ruled.rooted (λ p is. none_set is) e)))
