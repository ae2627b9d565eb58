use Rattle.std.proofs.Common.{List, ℕ, length, ap, sym, ◌∙◌}
use Rattle.sg_store.specs.steps.Padded.{padded}
use Rattle.sg_store.proofs.Padded.{cells_are}
use Rattle.sg_store.proofs.word_row.WordRow.standing.Goals as goal

pub returns-clause-row : goal.returns-clause-row
returns-clause-row c =
    let words = c.self.inside.words.items in
    sym c.self.view_is ∙ ap (padded words) (cells_are words c.args.self.now c.self.inside.slots c.self.view_is c.self.invariant.0)
    ∙ ap (λ (front : List ℕ). padded front (length c.args.self.now)) (sym c.as_slice.ensures.value)
