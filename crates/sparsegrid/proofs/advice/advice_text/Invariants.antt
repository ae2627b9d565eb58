use Rattle.std.proofs.Common.{◌≡◌, ◌++◌, drop}
use Rattle.sg_flat.specs.declared.state.FlatState.{FlatState}
use Rattle.sg_store.specs.Standing.{StandForState}
use Rattle.sparsegrid.specs.Advice.{advice_text, lines_from}
use Rattle.sparsegrid.proofs.advice.advice_text.Given as goal

abbrev pub invariant-loop-number : goal.invariant-loop-number
invariant-loop-number g l = (state : FlatState) → StandForState l.session.compiled.layouts l.session.stores state
    → l.text.items ++ lines_from l.session.compiled.names l.session.compiled.layouts state l.number (drop l.number l.session.compiled.layouts)
    ≡ advice_text l.session.compiled.names l.session.compiled.layouts state
