use Rattle.std.proofs.Common.{◌≡◌, [], List, map, sym, ap, ◌∙◌}
use Rattle.std.specs.List.{list_all}
use Rattle.sg_words.specs.declared.operators.Ty.{Ty}
use Rattle.sg_ir.specs.declared.code.Inst.{Inst}
use Rattle.sg_ir.specs.Blocks.{Block, block_of, block_in}
use Rattle.sg_ir.specs.Span.{sets}
use Rattle.sg_simplify.specs.declared.made.Reg.{Reg}
use Rattle.sg_simplify.specs.steps.Pass.{Pass, Next, roots_in, given_of, first_pass, simplified}
use Rattle.sg_simplify.specs.steps.Made.{pass_of, next_of, types_of}
use Rattle.sg_simplify.specs.steps.Counted.{has_words}
use Rattle.sg_simplify.specs.steps.Tally.{tally}
use Rattle.sg_simplify.proofs.Reading.{append-none}
use Rattle.sg_simplify.proofs.pass.pass.Goals as goal

pub invariant_of-given : goal.invariant_of-given
invariant_of-given c =
    let regs = c.args.code.now.regs in
    record {
      counted = λ var. c.in_ok-setters.ensures.counts regs var ∙ ap (λ insts. tally (sets var (block_of regs insts))) c.as_slice.ensures;
      rooted = c.in_ok-roots.ensures regs ∙ ap (λ insts. roots_in [] (block_of regs insts)) c.as_slice-2.ensures;
    }

pub returns : goal.returns
returns c =
    let code = c.args.code.now in
    let start = c.new-made.result in
    let end = c.block.new.self in
    let given = given_of c.args.layouts.now.list c.args.domain.now code.regs (block_in code) in
    let types : c.in_ok-regs.regs ≡ types_of end = c.in_ok-regs.ensures ∙ ap (map (λ (reg : Reg). reg.ty)) c.as_slice-4.ensures in
    let puts =
    c.in_ok-body.ensures.puts []
    ∙ ap (λ (insts : List Inst). simplified given (block_of code.regs insts) (pass_of start) (next_of start)) c.as_slice-3.ensures
    ∙ ap (λ (pass : Pass). simplified given (block_in code) pass (next_of start)) c.new-made.ensures.known
    ∙ ap (λ (next : Next). simplified given (block_in code) first_pass next) c.new-made.ensures.next in
    record {
      block = ap (λ (regs : List Ty). block_of regs c.in_ok-body.body) (types ∙ append-none (types_of end)) ∙ ap (λ (made : Block × Next). made.0) puts;
      regs = types ∙ ap (λ (made : Block × Next). made.1.types) puts;
      places = ap (λ (made : Block × Next). made.1.places) puts;
      vars = c.in_ok-vars.ensures ∙ c.as_slice-5.ensures;
      words = ap (λ (insts : List Inst). list_all (λ b. b) (map has_words insts)) (sym c.as_slice.ensures) ∙ c.in_ok-setters.ensures.words;
    }
