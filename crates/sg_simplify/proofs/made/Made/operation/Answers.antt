use Rattle.std.proofs.Common.{◌∙◌, ap, refl}
use Rattle.sg_ir.specs.declared.op.Op.TheVariants as op
use Rattle.sg_ir.specs.Blocks.{Link, link_step, link}
use Rattle.sg_ir.proofs.Uses.{fold-Bin, fold-Un, fold-Mulq, fold-Extract, fold-Offset}
use Rattle.sg_simplify.specs.steps.Pass.{made_name}
use Rattle.sg_simplify.specs.steps.Made.{given_in, pass_of, next_of}
use Rattle.sg_simplify.proofs.Acting.{word-named}
use Rattle.sg_simplify.proofs.made.Made.operation.Goals as goal

pub returns-in-Bin-clause-operation : goal.returns-in-Bin-clause-operation
returns-in-Bin-clause-operation c =
    let regs = c.args.given.now.code.now.regs in
    let next = next_of c.args.self.now in
    let is = c.in-Bin in
    word-named (given_in c.args.given.now) regs c.args.inst.now is.to (op.Bin is.op is.ty is.a is.b) _ (pass_of c.args.self.now) next refl
    (λ rest. ap (λ it. link regs it rest) is.is ∙ ap (λ (l : Link). l rest) (fold-Bin (link_step regs) is.to is.op is.ty is.a is.b))
    (ap (λ r. op.Bin is.op is.ty r c.name-b.result) c.name-a.ensures ∙ ap (λ r. op.Bin is.op is.ty (made_name next is.a) r) c.name-b.ensures)

pub returns-in-Un-clause-operation : goal.returns-in-Un-clause-operation
returns-in-Un-clause-operation c =
    let regs = c.args.given.now.code.now.regs in
    let is = c.in-Un in
    word-named (given_in c.args.given.now) regs c.args.inst.now is.to (op.Un is.op is.ty is.a) _ (pass_of c.args.self.now) (next_of c.args.self.now) refl
    (λ rest. ap (λ it. link regs it rest) is.is ∙ ap (λ (l : Link). l rest) (fold-Un (link_step regs) is.to is.op is.ty is.a))
    (ap (λ r. op.Un is.op is.ty r) c.name-a-in-Un.ensures)

pub returns-in-Mulq-clause-operation : goal.returns-in-Mulq-clause-operation
returns-in-Mulq-clause-operation c =
    let regs = c.args.given.now.code.now.regs in
    let next = next_of c.args.self.now in
    let is = c.in-Mulq in
    word-named (given_in c.args.given.now) regs c.args.inst.now is.to (op.Mulq is.a is.b is.s) _ (pass_of c.args.self.now) next refl
    (λ rest. ap (λ it. link regs it rest) is.is ∙ ap (λ (l : Link). l rest) (fold-Mulq (link_step regs) is.to is.a is.b is.s))
    (ap (λ r. op.Mulq r c.name-b-in-Mulq.result c.name-s.result) c.name-a-in-Mulq.ensures ∙ ap (λ r. op.Mulq (made_name next is.a) r c.name-s.result) c.name-b-in-Mulq.ensures
    ∙ ap (λ r. op.Mulq (made_name next is.a) (made_name next is.b) r) c.name-s.ensures)

pub returns-in-Extract-clause-operation : goal.returns-in-Extract-clause-operation
returns-in-Extract-clause-operation c =
    let regs = c.args.given.now.code.now.regs in
    let is = c.in-Extract in
    word-named (given_in c.args.given.now) regs c.args.inst.now is.to (op.Extract is.div is.size is.from) _ (pass_of c.args.self.now) (next_of c.args.self.now) refl
    (λ rest. ap (λ it. link regs it rest) is.is ∙ ap (λ (l : Link). l rest) (fold-Extract (link_step regs) is.to is.div is.size is.from))
    (ap (λ r. op.Extract is.div is.size r) c.name-from.ensures)

pub returns-in-Offset-clause-operation : goal.returns-in-Offset-clause-operation
returns-in-Offset-clause-operation c =
    let regs = c.args.given.now.code.now.regs in
    let next = next_of c.args.self.now in
    let is = c.in-Offset in
    word-named (given_in c.args.given.now) regs c.args.inst.now is.to (op.Offset is.high is.size is.low) _ (pass_of c.args.self.now) next refl
    (λ rest. ap (λ it. link regs it rest) is.is ∙ ap (λ (l : Link). l rest) (fold-Offset (link_step regs) is.to is.high is.size is.low))
    (ap (λ r. op.Offset r is.size c.name-low.result) c.name-high.ensures ∙ ap (λ r. op.Offset (made_name next is.high) is.size r) c.name-low.ensures)
