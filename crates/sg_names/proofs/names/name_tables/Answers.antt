use Rattle.std.proofs.Common.{◌≡◌, ◌∙◌, sym, subst, ◌+◌, slice_index_or, ◌<◌, length}
use Rattle.sg_names.specs.Names.{tables_of}
use Rattle.sg_names.specs.Declares.{declare}
use Rattle.sg_names.proofs.Reading.{IsReading, reading-few, reading-more, reading-count, want_of_memory}
use Rattle.sg_names.proofs.names.name_tables.Goals as goal

pub declare-requires-clause-few : goal.declare-requires-clause-few
declare-requires-clause-few c =
    let sound = sym c.in_ok-fault.ensures ∙ c.in_default.is in
    let here = subst (λ items. c.loop-place.place < length items) c.as_slice-item-items.ensures c.loop-place-test.true in
    let at = subst (λ items. c.item-item.result ≡ slice_index_or items c.loop-place.place c.item-item.result) c.as_slice-item-items.ensures c.item-item.is in
    reading-few (tables_of c.args.program.now) c.args.program.now.items c.loop-place.names c.loop-place.commands c.loop-place.place c.item-item.result c.loop-place.invariant here at c.requires sound

pub returns-in_err-declare : goal.returns-in_err-declare
returns-in_err-declare c = want_of_memory c.from_residual-in_err-declare.result (tables_of c.args.program.now) c.from_residual-in_err-declare.ensures.1

pub loop-place-preserved : goal.loop-place-preserved
loop-place-preserved c =
    let sound = sym c.in_ok-fault.ensures ∙ c.in_default.is in
    let here = subst (λ items. c.loop-place.place < length items) c.as_slice-item-items.ensures c.loop-place-test.true in
    let at = subst (λ items. c.item-item.result ≡ slice_index_or items c.loop-place.place c.item-item.result) c.as_slice-item-items.ensures c.item-item.is in
    let more = reading-more (tables_of c.args.program.now) c.args.program.now.items c.loop-place.names c.loop-place.commands c.loop-place.place c.item-item.result c.loop-place.invariant here at sound in
    let count = reading-count (tables_of c.args.program.now) c.args.program.now.items c.loop-place.names c.loop-place.commands c.loop-place.place c.item-item.result c.loop-place.invariant here at sound
    c.commands_in-commands.result c.commands_in-commands.ensures in
    subst (λ tables. IsReading (tables_of c.args.program.now) c.args.program.now.items tables (c.loop-place.commands + c.commands_in-commands.result) (c.loop-place.place + 1)) (sym c.in_ok-declare.ensures)
    (subst (λ n. IsReading (tables_of c.args.program.now) c.args.program.now.items (declare c.loop-place.names c.item-item.result) (c.loop-place.commands + n) (c.loop-place.place + 1)) (sym count) more)
