use Rattle.std.proofs.Common.{List, [], ◌∷◌, refl, ap, subst, ◌∙◌}
use Rattle.sg_ir.specs.declared.code.Inst.{Inst}
use Rattle.sg_ir.specs.Blocks.{block_of}
use Rattle.sg_words.specs.declared.spreads.Link.{Link}
use Rattle.sg_words.specs.Spread.{IsLeastSpread}
use Rattle.sg_simplify.specs.steps.Needed.{outermost, needs_of}
use Rattle.sg_simplify.proofs.lean.lean.Goals as goal

pub returns : goal.returns
returns c =
    let regs = c.args.code.regs in
    let marks = c.in_ok-marks.marks in
    record {
      marks = marks;
      spread = subst (λ (links : List Link). IsLeastSpread links (outermost ∷ []) marks)
          (c.as_slice-2.ensures ∙ (c.in_ok-needs.ensures regs ∙ ap (λ (insts : List Inst). needs_of outermost 1 (block_of regs insts)) c.as_slice.ensures)) c.in_ok-marks.ensures;
      block = c.in_ok-body.ensures regs;
      regs = refl;
      places = refl;
      vars = refl;
    }
