use Rattle.std.proofs.Common.{◌+◌, ◌∙◌, map, sym, ap, refl, arith}
use Rattle.sg_types.specs.declared.typed.TypedStmt.{TypedStmt}
use Rattle.sg_types.specs.Counting.{stmt_count, else_count}
use Rattle.sg_types.specs.steps.Views.{known_view, reached_of, HasRoom}
use Rattle.sg_types.specs.Statements.{typed_stmt, in_turn}
use Rattle.sg_types.proofs.ItemTurns.{error_goes_on}
use Rattle.sg_types.proofs.Turns.{one_more, one_fault, room_here, room_next, count_within, block_done, for_done, else_room}
use Rattle.sg_types.proofs.known.Known.+stmts.Goals as goal

pub block-returns : goal.block-returns
block-returns t c =
    block_done (known_view c.args.self.now) c.args.block.now (reached_of c.args.at.now) c.in_ok-typed.typed (reached_of c.stmts.new.at) c.len-names.result c.leave.new.self
    c.in_ok-typed.ensures c.len-names.ensures c.leave.ensures

pub for_stmt-returns : goal.for_stmt-returns
for_stmt-returns t c =
    for_done (known_view c.args.self.now) c.args.name.now c.args.range.now c.args.body.now (reached_of c.args.at.now) (reached_of c.declare.new.self) (reached_of c.stmts.new.at)
    c.in_ok-range.range c.in_ok-body.body c.in_ok-var.var c.len-names.result c.leave.new.self
    c.in_ok-range.ensures c.in_ok-var.ensures.declared c.in_ok-body.ensures c.in_ok-var.ensures.var c.len-names.ensures c.leave.ensures

pub if_stmt-else_block-requires : goal.if_stmt-else_block-requires
if_stmt-else_block-requires t c =
    let at = reached_of c.args.at.now in
    let room : HasRoom (reached_of c.block.new.at) (else_count c.args.no.now) =
    else_room (known_view c.args.self.now) c.args.yes.now (else_count c.args.no.now) at (record { number = at.number + 1; types = at.types; scope = at.scope }) (reached_of c.block.new.at) c.in_ok-yes.yes
    refl c.in_ok-yes.ensures c.requires in
    (omega arith, room)

pub stmts-stmt-requires : goal.stmts-stmt-requires
stmts-stmt-requires t c =
    let block = c.args.block.now in
    let i = c.loop-stmt.stmt-index in
    let small = count_within block i c.stmt-item.result c.loop-stmt-test.true in
    let same = ap stmt_count c.stmt-item.is in
    let room : HasRoom (reached_of c.loop-stmt.at) (stmt_count c.stmt-item.result) =
    room_here (known_view c.args.self.now) block i c.stmt-item.result c.loop-stmt-test.true c.stmt-item.is c.loop-stmt.typed (reached_of c.loop-stmt.at) c.loop-stmt.invariant.room in
    (omega arith, room)

pub stmts-loop-stmt-preserved : goal.stmts-loop-stmt-preserved
stmts-loop-stmt-preserved t c =
    let known = known_view c.args.self.now in
    let block = c.args.block.now in
    let i = c.loop-stmt.stmt-index in
    let at = reached_of c.loop-stmt.at in
    let next = reached_of c.stmt.new.at in
    let pushed = c.in_ok-push.ensures.ok in
    record {
      value = rw pushed (one_more known block i c.stmt-item.result c.loop-stmt-test.true c.stmt-item.is c.loop-stmt.typed at c.in_ok-next.next next c.in_ok-next.ensures ∙ c.loop-stmt.invariant.value);
      room = room_next known block i c.stmt-item.result c.loop-stmt-test.true c.stmt-item.is c.loop-stmt.typed at c.in_ok-next.next next c.in_ok-next.ensures c.loop-stmt.invariant.room;
    }

pub stmts-returns-in_err-next : goal.stmts-returns-in_err-next
stmts-returns-in_err-next t c =
    let known = known_view c.args.self.now in
    let block = c.args.block.now in
    error_goes_on {C = TypedStmt} c.from_residual.result c.in_err-next.field-0.0 (λ typed. (typed, reached_of c.stmt.new.at)) _ (typed_stmt known c.stmt-item.result (reached_of c.loop-stmt.at)) (in_turn (map (typed_stmt known) block) (reached_of c.args.at.now))
    c.from_residual.ensures.1 c.in_err-next.ensures
    (λ fault h. sym c.loop-stmt.invariant.value ∙ one_fault known block c.loop-stmt.stmt-index c.stmt-item.result c.loop-stmt-test.true c.stmt-item.is c.loop-stmt.typed (reached_of c.loop-stmt.at) fault h)
