use Rattle.std.proofs.Common.{◌∙◌, ap, sym, option_map}
use Rattle.sg_ast.specs.Token.{same_name}
use Rattle.sg_types.proofs.Earlier.{find-take_below, find-take_past, find-take_none}
use Rattle.sg_types.proofs.known.Known.earlier_constant.Goals as goal

pub returns-then-number-self : goal.returns-then-number-self
returns-then-number-self c =
    let self = c.args.self.now in
    c.constant.ensures
    ∙ sym (ap (option_map (λ named. named.constant)) (find-take_below (λ named. same_name c.args.name.now named.name) self.constants self.names.now.constants c.in-Some.number (sym c.in-Some.ensures) c.if-number-self.true))

pub returns-else-number-self : goal.returns-else-number-self
returns-else-number-self c =
    let self = c.args.self.now in
    sym (ap (option_map (λ named. named.constant)) (find-take_past (λ named. same_name c.args.name.now named.name) self.constants self.names.now.constants c.in-Some.number (sym c.in-Some.ensures) c.if-number-self.false))

pub returns-in-None : goal.returns-in-None
returns-in-None c =
    let self = c.args.self.now in
    sym (ap (option_map (λ named. named.constant)) (find-take_none (λ named. same_name c.args.name.now named.name) self.constants self.names.now.constants (sym c.in-None.ensures)))
