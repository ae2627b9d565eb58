use Rattle.sg_journal.proofs.RoomLoops.{AreRoomsSoFar}
use Rattle.sg_journal.proofs.rooms.rooms_in.Given as goal

abbrev pub invariant-loop-index : goal.invariant-loop-index
invariant-loop-index l = AreRoomsSoFar l.layout l.index l.above l.before l.rooms
