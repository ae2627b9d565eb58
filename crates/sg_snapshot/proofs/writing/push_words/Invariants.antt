use Rattle.std.proofs.Common.{◌≡◌, ◌++◌, map, take}
use Rattle.sg_store.specs.StoreWords.{word_in}
use Rattle.sg_snapshot.specs.Numbers.{bytes_of}
use Rattle.sg_snapshot.proofs.writing.push_words.Given as goal

abbrev pub invariant-loop-cell : goal.invariant-loop-cell
invariant-loop-cell l = l.bytes.items ≡ l.fn.bytes.items ++ bytes_of (map (word_in l.store l.place) (take l.cell-index l.cells))
