use Rattle.std.proofs.Common.{◌++◌, ℕ, List, map, sym, ap, ◌∙◌}
use Rattle.std.proofs.lemmas.List.{append-nil, take_all}
use Rattle.sg_store.specs.StoreWords.{word_in}
use Rattle.sg_snapshot.specs.Numbers.{bytes_of}
use Rattle.sg_snapshot.proofs.Writings.{number_more}
use Rattle.sg_snapshot.proofs.writing.push_words.Goals as goal

pub loop-cell-init : goal.loop-cell-init
loop-cell-init c = c.in_ok-reserve.ensures.items ∙ sym (append-nil c.args.bytes.now.items)

pub loop-cell-preserved : goal.loop-cell-preserved
loop-cell-preserved c =
    number_more (word_in c.args.store.now c.args.place) c.args.cells.now c.loop-cell.cell-index 0 c.value.result c.args.bytes.now.items c.loop-cell.bytes.items c.push_number.new.bytes.items c.loop-cell-test.true c.value.ensures.value c.loop-cell.invariant c.in_ok-push_number.ensures

pub returns : goal.returns
returns c =
    c.loop-cell.invariant
    ∙ ap (λ (l : List ℕ). c.args.bytes.now.items ++ bytes_of (map (word_in c.args.store.now c.args.place) l)) (take_all c.loop-cell.cell-index c.args.cells.now c.loop-cell-test.false)
