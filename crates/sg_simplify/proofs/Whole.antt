-- The pass over a whole block: what it puts out runs to the same moment from the start of an iteration, names its accesses and is scoped.
use Rattle.std.specs.Prelude.{◌≡◌, refl, true, false, List}
use Rattle.std.proofs.Common.{arith}
use Rattle.sg_words.specs.declared.operators.Ty.{Ty}
use Rattle.sg_layout.specs.declared.shape.Shape.{Shape}
use Rattle.sg_flat.specs.declared.effects.Domain.{Domain}
use Rattle.sg_ir.specs.Runs.{Seen}
use Rattle.sg_ir.specs.Blocks.{Block}
use Rattle.sg_ir.specs.Span.{whole_i32, first_spans}
use Rattle.sg_ir.specs.SpanLaws.{Lies, FitsSpans}
use Rattle.sg_ir.specs.Scoped.{RunMoment, first_room, run}
use Rattle.sg_ir.specs.InScope.{nothing, IsScoped}
use Rattle.sg_simplify.specs.steps.Pass.{given_of, first_pass, first_next, vars_of, simple, simplified}
use Rattle.sg_simplify.specs.steps.Serves.{Laws, NamesAll, Good}
use Rattle.sg_simplify.specs.steps.Ruled.{IsRuled}
use Rattle.sg_simplify.proofs.Simplifying.{simplifies}
use Rattle.sg_simplify.proofs.Setting.{simplified_sets}

none_set : {A : Type 0} → false ≡ true → A
none_set h = absurd (cc)

pub simple_keeps : (seen : Seen) → Laws seen → (domain : Domain) (types : List Ty) (block : Block) (now : RunMoment)
    → IsRuled seen.shapes (given_of seen.shapes domain types block).roots (given_of seen.shapes domain types block).single (vars_of (given_of seen.shapes domain types block) first_pass) nothing block
    → FitsSpans (first_spans seen.shapes domain block) now → NamesAll seen block first_room now
    → Good seen (simplified (given_of seen.shapes domain types block) block first_pass first_next) first_room now (run seen block first_room now)
simple_keeps seen laws domain types block now ruled fits names =
    let none : Lies whole_i32 0 = laws.all_words 0 (omega arith) in
    simplifies seen laws (given_of seen.shapes domain types block) refl block nothing first_pass first_next first_room first_room now ruled (λ p set. none_set set)
    (record { ops = tt; steps = tt; words = λ r. none; fits = record { vars = fits.vars; writes = fits.writes } })
    (λ r set. none_set set) (λ r. none) names

pub simple_scoped : (shapes : List Shape) (domain : Domain) (types : List Ty) (block : Block)
    → IsRuled shapes (given_of shapes domain types block).roots (given_of shapes domain types block).single (vars_of (given_of shapes domain types block) first_pass) nothing block → IsScoped nothing (simple shapes domain types block)
simple_scoped shapes domain types block ruled =
    simplified_sets (given_of shapes domain types block) block nothing nothing first_pass first_next ruled.scoped ruled.fitted
    (record { ops = tt; steps = tt; free_regs = λ r above. refl; free_places = λ p above. refl })
    (λ r set. none_set set)
