use Rattle.std.proofs.Common.{◌≡◌, ◌-◌, ℕ, suc, subst, arith}
use Rattle.std.specs.Prelude.{slice_index}
use Rattle.sg_store.specs.steps.Noting.{IsNoted}
use Rattle.sg_store.proofs.Noted.{held_more}
use Rattle.sg_store.proofs.WordsInUse.{held_to, held_all}
use Rattle.sg_store.proofs.held.note_links.Goals as goal

pub note-requires : goal.note-requires
note-requires c = λ some.
    let at = c.in-Some.ensures.next in
    let word : ℕ = slice_index c.args.links.now c.in-Some.next in
    let holds : slice_index c.args.links.now c.in-Some.next ≡ suc (word - 1) = omega (arith, at.2) in
    let below = c.requires.within c.in-Some.next (word - 1) holds in
    omega (arith, c.get.ensures, below, c.loop-next.invariant.0.as_many)

pub loop-next-preserved : goal.loop-next-preserved
loop-next-preserved c =
    let at = c.in-Some.ensures.next in
    let before = held_to (λ place. place) c.args.links.now c.args.slots.now c.loop-next.slots c.loop-next.place c.in-Some.next at.3 c.loop-next.invariant.0 in (
      held_more (λ place. place) c.args.links.now c.args.slots.now c.loop-next.slots c.note.new.slots c.in-Some.next c.requires.once before
          (subst (λ word. IsNoted word c.in-Some.next c.loop-next.slots c.note.new.slots) c.get.ensures c.note.ensures),
      omega (arith, at.1),
    )

pub returns : goal.returns
returns c = held_all (λ place. place) c.args.links.now c.args.slots.now c.loop-next.slots c.loop-next.place c.in_default.ensures.next c.loop-next.invariant.0
