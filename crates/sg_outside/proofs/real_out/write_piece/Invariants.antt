use Rattle.std.proofs.Common.{◌≡◌, ℕ, ◌<◌, List, Some, ◌++◌, length, take}
use Rattle.sg_outside.proofs.real_out.write_piece.Given as goal

-- a front of the piece was taken, and it is what the writer holds past what it held at first
abbrev pub invariant-loop : goal.invariant-loop
invariant-loop g l = record {
  more : l.taken < length l.piece;
  told : (written : List ℕ) → g.W.Write.contents l.fn.out ≡ Some written → g.W.Write.contents l.out ≡ Some (written ++ take l.taken l.piece);
}
