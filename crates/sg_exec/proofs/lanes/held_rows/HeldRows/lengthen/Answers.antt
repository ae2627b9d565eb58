use Rattle.std.proofs.Common.{◌≡◌, ap, ◌∙◌, length, refl, arith}
use Rattle.std.specs.Prelude.{List, Option, None, get_or}
use Rattle.sg_exec.specs.declared.lanes.held.Held.{Held}
use Rattle.sg_exec.proofs.HeldWords.{rows_long, rows_same}
use Rattle.sg_exec.proofs.lanes.held_rows.HeldRows.lengthen.Goals as goal

pub returns-then-not-reaches-clause-same : goal.returns-then-not-reaches-clause-same
returns-then-not-reaches-clause-same c = λ place.
    let own = c.self.inside in
    rows_same own.kinds.items own.kinds.items own.parts.items c.reaches.new.items.items own.slots.items own.slots.items (λ i. refl) c.reaches.ensures.same (λ i. refl) place
    ∙ ap (λ (rows : List (Option Held)). get_or rows place None) c.self.view_is

pub returns-then-not-reaches-2-clause-same : goal.returns-then-not-reaches-2-clause-same
returns-then-not-reaches-2-clause-same c = λ place.
    let own = c.self.inside in
    rows_same own.kinds.items own.kinds.items own.parts.items c.reaches.new.items.items own.slots.items c.reaches-2.new.items.items (λ i. refl) c.reaches.ensures.same c.reaches-2.ensures.same place
    ∙ ap (λ (rows : List (Option Held)). get_or rows place None) c.self.view_is

pub returns-clause-long : goal.returns-clause-long
returns-clause-long c = λ told.
    omega (arith, c.reaches-3.ensures.long told, rows_long c.reaches-3.new.items.items c.reaches.new.items.items c.reaches-2.new.items.items)

pub returns-clause-same : goal.returns-clause-same
returns-clause-same c = λ place.
    let own = c.self.inside in
    rows_same own.kinds.items c.reaches-3.new.items.items own.parts.items c.reaches.new.items.items own.slots.items c.reaches-2.new.items.items c.reaches-3.ensures.same c.reaches.ensures.same c.reaches-2.ensures.same place
    ∙ ap (λ (rows : List (Option Held)). get_or rows place None) c.self.view_is
