use Rattle.std.proofs.Common.{◌≡◌, ◌+◌, ◌*◌, ℕ, sym, ap, ◌∙◌}
use Rattle.std.specs.Prelude.{List, Option, None}
use Rattle.sg_exec.specs.declared.lanes.held.Held.{Held}
use Rattle.sg_exec.specs.steps.Rows.{item_in}
use Rattle.sg_exec.proofs.HeldWords.{held_same, rows_at}
use Rattle.sg_exec.proofs.lanes.held_rows.HeldRows.held.Goals as goal

pub returns : goal.returns
returns c =
    let at : List ℕ → ℕ = λ xs. item_in xs 0 c.args.k c.args.place in
    let own = c.self.inside in
    c.held_of.ensures.is
    ∙ held_same c.word_in.result (at own.kinds.items) c.word_in-2.result (at own.parts.items) c.word_in-3.result (at own.slots.items)
    (c.word_in.ensures ∙ ap at c.as_slice.ensures.value) (c.word_in-2.ensures ∙ ap at c.as_slice-2.ensures.value) (c.word_in-3.ensures ∙ ap at c.as_slice-3.ensures.value)
    ∙ sym (rows_at own.kinds.items own.parts.items own.slots.items (c.args.place * 32 + c.args.k))
    ∙ ap (λ (rows : List (Option Held)). item_in rows None c.args.k c.args.place) c.self.view_is
