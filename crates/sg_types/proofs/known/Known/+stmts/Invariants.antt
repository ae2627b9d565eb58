use Rattle.std.proofs.Common.{◌≡◌, ◌+◌, ◌*◌, drop, map}
use Rattle.sg_types.specs.Statements.{in_turn, typed_stmt}
use Rattle.sg_types.specs.Counting.{stmt_count, block_count, else_count}
use Rattle.sg_types.specs.steps.Views.{known_view, reached_of, HasRoom}
use Rattle.sg_types.proofs.Turns.{after}
use Rattle.sg_types.proofs.known.Known.+stmts.Given as goal

abbrev pub decreases-block : goal.decreases-block
decreases-block l = 8 * block_count l.block.now + 3

abbrev pub decreases-stmts : goal.decreases-stmts
decreases-stmts l = 8 * block_count l.block.now + 2

abbrev pub decreases-stmt : goal.decreases-stmt
decreases-stmt l = 8 * stmt_count l.stmt.now + 1

abbrev pub decreases-if_stmt : goal.decreases-if_stmt
decreases-if_stmt l = 8 * (block_count l.yes.now + else_count l.no.now) + 5

abbrev pub decreases-else_block : goal.decreases-else_block
decreases-else_block l = 8 * else_count l.block.now + 4

abbrev pub decreases-for_stmt : goal.decreases-for_stmt
decreases-for_stmt l = 8 * block_count l.body.now + 5

-- the statements so far, and those that are left from where typing has come to, are those of the block; and there is room for them
abbrev pub invariant-stmts-loop-stmt : goal.invariant-stmts-loop-stmt
invariant-stmts-loop-stmt l = record {
  value : after l.typed (in_turn (map (typed_stmt (known_view l.self)) (drop l.stmt-index l.block)) (reached_of l.at))
      ≡ in_turn (map (typed_stmt (known_view l.self)) l.block) (reached_of l.fn.at);
  room : HasRoom (reached_of l.at) (block_count (drop l.stmt-index l.block));
}
