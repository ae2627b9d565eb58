use Rattle.std.proofs.Common.{◌≡◌, ℕ, ap, ◌∙◌, length, arith}
use Rattle.std.specs.Prelude.{List, Option, None}
use Rattle.sg_exec.specs.declared.lanes.held.Held.{Held}
use Rattle.sg_exec.specs.steps.Rows.{item_in}
use Rattle.sg_exec.proofs.HeldWords.{long_kinds, row_at}
use Rattle.sg_exec.proofs.lanes.held_rows.HeldRows.row.Goals as goal

pub row-requires : goal.row-requires
row-requires c = record { room = omega (arith, c.requires.place, long_kinds c.self.inside.kinds.items c.self.inside.parts.items c.self.inside.slots.items c.args.self.now c.self.view_is, ap length c.as_slice.ensures.value) }

pub row-requires-2 : goal.row-requires-2
row-requires-2 c = record { room = omega (arith, c.requires.place, long_kinds c.self.inside.kinds.items c.self.inside.parts.items c.self.inside.slots.items c.args.self.now c.self.view_is, c.self.invariant.0, ap length c.as_slice-2.ensures.value) }

pub row-requires-3 : goal.row-requires-3
row-requires-3 c = record { room = omega (arith, c.requires.place, long_kinds c.self.inside.kinds.items c.self.inside.parts.items c.self.inside.slots.items c.args.self.now c.self.view_is, c.self.invariant.1, ap length c.as_slice-3.ensures.value) }

pub returns : goal.returns
returns c = λ k small.
    row_at c.self.inside.kinds.items c.self.inside.parts.items c.self.inside.slots.items (record { kinds = c.row.result; parts = c.row-2.result; slots = c.row-3.result }) c.args.place
    (λ k small. c.row.ensures k small ∙ ap (λ (xs : List ℕ). item_in xs 0 k c.args.place) c.as_slice.ensures.value)
    (λ k small. c.row-2.ensures k small ∙ ap (λ (xs : List ℕ). item_in xs 0 k c.args.place) c.as_slice-2.ensures.value)
    (λ k small. c.row-3.ensures k small ∙ ap (λ (xs : List ℕ). item_in xs 0 k c.args.place) c.as_slice-3.ensures.value) k small
    ∙ ap (λ (rows : List (Option Held)). item_in rows None k c.args.place) c.self.view_is
