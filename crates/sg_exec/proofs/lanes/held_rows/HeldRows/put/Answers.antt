use Rattle.std.proofs.Common.{◌≡◌, ℕ, length, subst, arith}
use Rattle.std.specs.Prelude.{List, Option, None}
use Rattle.sg_exec.specs.declared.lanes.held.Held.{Held}
use Rattle.sg_exec.specs.steps.Rows.{On, IsPut}
use Rattle.sg_exec.specs.steps.Holding.{held_at, held_rows}
use Rattle.sg_exec.proofs.HeldWords.{long_kinds, rows_put}
use Rattle.sg_exec.proofs.lanes.held_rows.HeldRows.put.Goals as goal

pub put_words-requires : goal.put_words-requires
put_words-requires c = record { room = omega (arith, c.requires.to, long_kinds c.self.inside.kinds.items c.self.inside.parts.items c.self.inside.slots.items c.args.self.now c.self.view_is) }

pub put_words-requires-2 : goal.put_words-requires-2
put_words-requires-2 c = record { room = omega (arith, c.requires.to, long_kinds c.self.inside.kinds.items c.self.inside.parts.items c.self.inside.slots.items c.args.self.now c.self.view_is, c.self.invariant.0) }

pub put_words-requires-3 : goal.put_words-requires-3
put_words-requires-3 c = record { room = omega (arith, c.requires.to, long_kinds c.self.inside.kinds.items c.self.inside.parts.items c.self.inside.slots.items c.args.self.now c.self.view_is, c.self.invariant.1) }

pub returns : goal.returns
returns c =
    let own = c.self.inside in
    let kinds = c.put_words.new.items in
    let parts = c.put_words-2.new.items in
    let slots = c.put_words-3.new.items in
    subst (λ (rows : List (Option Held)). IsPut (λ k item. item ≡ held_at c.args.held.now k) (On c.args.columns.now.on) c.args.to None rows (held_rows kinds.items parts.items slots.items)) c.self.view_is
    (rows_put c.args.held.now (On c.args.columns.now.on) c.args.to own.kinds.items kinds.items own.parts.items parts.items own.slots.items slots.items c.put_words.ensures c.put_words-2.ensures c.put_words-3.ensures)
