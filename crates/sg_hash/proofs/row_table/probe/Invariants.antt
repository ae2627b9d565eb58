use Rattle.std.proofs.Common.{◌≡◌, ◌<◌, length}
use Rattle.sg_hash.specs.Tables.{place, Passes}
use Rattle.sg_hash.proofs.row_table.probe.Given as goal

abbrev pub invariant-loop-turn : goal.invariant-loop-turn
invariant-loop-turn l = record {
  at_turn : l._turn < length l.keys → l.at ≡ place (length l.keys) l.key l._turn;
  below : l.at < length l.keys;
  passed : Passes l.keys l.key l._turn;
}
