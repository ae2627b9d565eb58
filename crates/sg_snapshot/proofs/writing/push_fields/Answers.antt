use Rattle.std.proofs.Common.{◌≡◌, ◌++◌, ℕ, length, map, sym, ap, ◌∙◌, arith}
use Rattle.std.specs.List.{concat, range_with_len}
use Rattle.std.proofs.lemmas.List.{append-nil}
use Rattle.sg_layout.specs.declared.shape.Shape.{Shape}
use Rattle.sg_store.specs.StoreWords.{word_in}
use Rattle.sg_snapshot.specs.Numbers.{bytes_of}
use Rattle.sg_snapshot.proofs.Writings.{list_more}
use Rattle.sg_snapshot.proofs.writing.push_fields.Goals as goal

pub loop-place-init : goal.loop-place-init
loop-place-init c = sym (append-nil c.args.bytes.now.items)

pub loop-place-preserved : goal.loop-place-preserved
loop-place-preserved c =
    list_more (λ (place : ℕ). map (word_in c.args.store.now place) c.args.cells.now) c.loop-place.place c.args.bytes.now.items c.loop-place.bytes.items c.push_words.new.bytes.items c.loop-place.invariant c.in_ok-push_words.ensures

pub returns : goal.returns
returns c =
    let store = c.args.store.now in
    let count : c.len-fields.result ≡ length store.shape.fields = c.len-fields.ensures ∙ ap (λ (s : Shape). length s.fields) (c.shape.ensures.value ∙ c.layout.ensures.layout) in
    let last : c.loop-place.place ≡ length store.shape.fields = omega (arith, c.loop-place.auto.place-end, c.loop-place-test.false) in
    c.loop-place.invariant
    ∙ ap (λ (n : ℕ). c.args.bytes.now.items ++ bytes_of (concat (map (λ (place : ℕ). map (word_in store place) c.args.cells.now) (range_with_len 0 n)))) last
