use Rattle.std.proofs.Common.{◌≡◌, true, List, sym, subst}
use Rattle.sg_ast.specs.declared.program.Item.{Item}
use Rattle.sg_session.specs.steps.Taking.{are_declared}
use Rattle.sg_session.proofs.Declared.{layouts_declared}
use Rattle.sg_session.proofs.layouts.layouts_of.Goals as goal

pub checked_layouts-requires-clause-declared : goal.checked_layouts-requires-clause-declared
checked_layouts-requires-clause-declared c =
    subst (λ (items : List Item). are_declared c.args.names.now items ≡ true) (sym c.as_slice.ensures)
    (layouts_declared c.args.program.now c.args.names.now c.requires.spelled.grammar c.requires.names)
