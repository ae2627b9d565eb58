use Rattle.std.proofs.Common.{◌≡◌, ◌∙◌, sym, ap, not, true, false, Bool, map, drop, ◌+◌, refl, if◌then◌else◌, ◌++◌, ◌∷◌, [], bytes_eq, Bor, List, ℕ}
use Rattle.std.specs.List.{list_any}
use Rattle.std.proofs.lemmas.List.{at_drop_all}
use Rattle.sg_names.proofs.NameLists.{repeats_left, repeats_left-start, repeats_left-found, repeats_left-more, left_more}
use Rattle.sg_names.proofs.repeats.has_repeat.Goals as goal

not-false : (a b : Bool) → a ≡ not b → a ≡ false → b ≡ true
not-false a true is h = refl
not-false a false is h = absurd (cc)

not-true : (a b : Bool) → a ≡ not b → a ≡ true → b ≡ false
not-true a true is h = absurd (cc)
not-true a false is h = refl

pub loop-thing-init : goal.loop-thing-init
loop-thing-init g c =
    ap (λ keys. repeats_left (λ key. key.now) keys (map g.T.Named.name_of c.args.things.now)) c.new-seen.ensures.empty
    ∙ repeats_left-start {K = Bor (List ℕ)} (λ key. key.now) (map g.T.Named.name_of c.args.things.now)

pub returns-then-not-branch : goal.returns-then-not-branch
returns-then-not-branch g c =
    let name = g.T.Named.name_of c.thing-item.result in
    let text = c.as_slice.ensures ∙ ap (λ given. given.text) c.name.ensures in
    let met = ap (λ bytes. list_any (λ key. bytes_eq bytes key.now) c.loop-thing.seen.keys) (sym text)
    ∙ not-false c.in_ok-insert.field-0 _ c.in_ok-insert.ensures.added c.if-not-branch.true in
    sym (sym c.loop-thing.invariant
    ∙ (ap (repeats_left (λ key. key.now) c.loop-thing.seen.keys) (left_more g.T.Named.name_of c.args.things.now c.loop-thing.thing-index c.thing-item.result c.loop-thing-test.true c.thing-item.is)
    ∙ repeats_left-found (λ key. key.now) c.loop-thing.seen.keys name (map g.T.Named.name_of (drop (c.loop-thing.thing-index + 1) c.args.things.now)) met))

pub loop-thing-preserved : goal.loop-thing-preserved
loop-thing-preserved g c =
    let name = g.T.Named.name_of c.thing-item.result in
    let text = c.as_slice.ensures ∙ ap (λ given. given.text) c.name.ensures in
    let unmet = ap (λ bytes. list_any (λ key. bytes_eq bytes key.now) c.loop-thing.seen.keys) (sym text)
    ∙ not-true c.in_ok-insert.field-0 _ c.in_ok-insert.ensures.added c.if-not-branch.false in
    let keys = c.in_ok-insert.ensures.keys
    ∙ ap (λ bytes. if list_any (λ key. bytes_eq bytes key.now) c.loop-thing.seen.keys then c.loop-thing.seen.keys else c.loop-thing.seen.keys ++ c.as_slice.result ∷ []) text in
    repeats_left-more (λ key. key.now) c.loop-thing.seen.keys c.insert.new.self.keys c.as_slice.result name (map g.T.Named.name_of (drop (c.loop-thing.thing-index + 1) c.args.things.now)) unmet text keys
    ∙ (sym (ap (repeats_left (λ key. key.now) c.loop-thing.seen.keys) (left_more g.T.Named.name_of c.args.things.now c.loop-thing.thing-index c.thing-item.result c.loop-thing-test.true c.thing-item.is))
    ∙ c.loop-thing.invariant)

pub returns : goal.returns
returns g c =
    sym (at_drop_all (λ left. repeats_left (λ key. key.now) c.loop-thing.seen.keys (map g.T.Named.name_of left)) c.args.things.now c.loop-thing.thing-index c.loop-thing-test.false)
    ∙ c.loop-thing.invariant
