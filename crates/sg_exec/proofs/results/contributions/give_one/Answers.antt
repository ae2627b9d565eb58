use Rattle.std.proofs.Common.{◌≡◌, ◌<◌, length, Some, refl, sym, ap, ◌∙◌, arith}
use Rattle.std.proofs.lemmas.Option.{slice_get_read, slice_get_within, get_or_from_slice_get}
use Rattle.sg_exec.specs.declared.results.shared.Accumulated.{Accumulated}
use Rattle.sg_exec.proofs.Giving.{seats_set, cell_within}
use Rattle.sg_exec.proofs.Taking.{took_one, pending_set}
use Rattle.sg_exec.specs.steps.Landing.{current}
use Rattle.sg_exec.proofs.results.contributions.give_one.Goals as goal

pub join_or_give-after-requires-clause-operator : goal.join_or_give-after-requires-clause-operator
join_or_give-after-requires-clause-operator c =
    let found = c.in-Some-number_of.ensures in
    let it = c.index-accumulated-number.result in
    let same : it ≡ found.0 = c.index-accumulated-number.is ∙ get_or_from_slice_get c.args.accumulated.now c.in-Some-number_of.number found.0 it found.1 in
    (c.requires.passes.each c.in-Some-number_of.number it (found.1 ∙ ap (λ (a : Accumulated). Some a) (sym same))).operator

pub join_or_give-after-requires-clause-order : goal.join_or_give-after-requires-clause-order
join_or_give-after-requires-clause-order c =
    let found = c.in-Some-number_of.ensures in
    let it = c.index-accumulated-number.result in
    let same : it ≡ found.0 = c.index-accumulated-number.is ∙ get_or_from_slice_get c.args.accumulated.now c.in-Some-number_of.number found.0 it found.1 in
    (c.requires.passes.each c.in-Some-number_of.number it (found.1 ∙ ap (λ (a : Accumulated). Some a) (sym same))).order

pub join_or_give-after-requires-clause-pending : goal.join_or_give-after-requires-clause-pending
join_or_give-after-requires-clause-pending c =
    let found = c.in-Some-number_of.ensures in
    let it = c.index-accumulated-number.result in
    let same : it ≡ found.0 = c.index-accumulated-number.is ∙ get_or_from_slice_get c.args.accumulated.now c.in-Some-number_of.number found.0 it found.1 in
    let below : c.in-Some-number_of.number < length c.args.accumulated.now = slice_get_within c.args.accumulated.now c.in-Some-number_of.number found.0 found.1 in
    let along = c.requires.pending.long in
    c.requires.pending.each c.in-Some-number_of.number it c.index-before.result.now (found.1 ∙ ap (λ (a : Accumulated). Some a) (sym same))
    (slice_get_read c.args.pending.now.items (length c.args.pending.now.items) c.in-Some-number_of.number c.index-before.result.now refl (omega (arith, below, along)) c.index-before.ensures)

pub join_or_give-after-requires-clause-inside : goal.join_or_give-after-requires-clause-inside
join_or_give-after-requires-clause-inside c =
    let found = c.in-Some-number_of.ensures in
    let it = c.index-accumulated-number.result in
    let same : it ≡ found.0 = c.index-accumulated-number.is ∙ get_or_from_slice_get c.args.accumulated.now c.in-Some-number_of.number found.0 it found.1 in
    cell_within (current c.args.reached.now c.args.stores.now.list) it c.args.write.now c.in-Some.cell
    (c.requires.passes.each c.in-Some-number_of.number it (found.1 ∙ ap (λ (a : Accumulated). Some a) (sym same))) c.requires.cell c.in-Some.is (ap (λ (a : Accumulated). a.layout) same ∙ found.2)

pub index_mut-requires : goal.index_mut-requires
index_mut-requires c =
    let found = c.in-Some-number_of.ensures in
    let below : c.in-Some-number_of.number < length c.args.accumulated.now = slice_get_within c.args.accumulated.now c.in-Some-number_of.number found.0 found.1 in
    let along = c.requires.pending.long in
    omega (arith, below, along)

pub returns-clause-pending : goal.returns-clause-pending
returns-clause-pending c =
    let found = c.in-Some-number_of.ensures in
    let it = c.index-accumulated-number.result in
    let same : it ≡ found.0 = c.index-accumulated-number.is ∙ get_or_from_slice_get c.args.accumulated.now c.in-Some-number_of.number found.0 it found.1 in
    pending_set c.args.accumulated.now c.args.pending.now.items c.in-Some-number_of.number it (Some c.join_or_give-after.result) c.requires.pending (found.1 ∙ ap (λ (a : Accumulated). Some a) (sym same))
    c.join_or_give-after.ensures.pending

pub returns-clause-seats : goal.returns-clause-seats
returns-clause-seats c =
    let found = c.in-Some-number_of.ensures in
    let it = c.index-accumulated-number.result in
    let same : it ≡ found.0 = c.index-accumulated-number.is ∙ get_or_from_slice_get c.args.accumulated.now c.in-Some-number_of.number found.0 it found.1 in
    seats_set c.args.accumulated.now c.args.seats.now.items c.in-Some-number_of.number it c.join_or_give-after.new.seat c.requires.seats (found.1 ∙ ap (λ (a : Accumulated). Some a) (sym same)) c.join_or_give-after.ensures.own

pub returns-clause-taken : goal.returns-clause-taken
returns-clause-taken c =
    let found = c.in-Some-number_of.ensures in
    let it = c.index-accumulated-number.result in
    let same : it ≡ found.0 = c.index-accumulated-number.is ∙ get_or_from_slice_get c.args.accumulated.now c.in-Some-number_of.number found.0 it found.1 in
    let below : c.in-Some-number_of.number < length c.args.accumulated.now = slice_get_within c.args.accumulated.now c.in-Some-number_of.number found.0 found.1 in
    let along = c.requires.pending.long in
    let long = c.requires.seats.long in
    took_one c.args.accumulated.now c.args.write.now c.args.pending.now.items c.args.seats.now.items c.in-Some-number_of.number c.in-Some.cell c.in-Acc._op it c.index-before.result.now c.index_mut-seat.result.now
    (Some c.join_or_give-after.result) c.join_or_give-after.new.seat c.requires.passes.apart (found.1 ∙ ap (λ (a : Accumulated). Some a) (sym same))
    (slice_get_read c.args.pending.now.items (length c.args.pending.now.items) c.in-Some-number_of.number c.index-before.result.now refl (omega (arith, below, along)) c.index-before.ensures)
    (slice_get_read c.args.seats.now.items (length c.args.seats.now.items) c.in-Some-number_of.number c.index_mut-seat.result.now refl (omega (arith, below, long)) c.index_mut-seat.ensures.value)
    c.in-Acc.is (ap (λ (a : Accumulated). a.layout) same ∙ found.2) (ap (λ (a : Accumulated). a.field) same ∙ found.3) c.in-Some.is c.join_or_give-after.ensures.taken
