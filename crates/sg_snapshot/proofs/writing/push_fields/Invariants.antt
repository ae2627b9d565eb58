use Rattle.std.proofs.Common.{◌≡◌, ◌++◌, map}
use Rattle.std.specs.List.{concat, range_with_len}
use Rattle.sg_store.specs.StoreWords.{word_in}
use Rattle.sg_snapshot.specs.Numbers.{bytes_of}
use Rattle.sg_snapshot.proofs.writing.push_fields.Given as goal

abbrev pub invariant-loop-place : goal.invariant-loop-place
invariant-loop-place l = l.bytes.items ≡ l.fn.bytes.items ++ bytes_of (concat (map (λ place. map (word_in l.store place) l.cells) (range_with_len 0 l.place)))
