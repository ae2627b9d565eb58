use Rattle.std.proofs.Common.{ℕ, List, sym, ◌∙◌, arith}
use Rattle.sg_links.specs.Lists.{list_of}
use Rattle.sg_links.proofs.Uses.{stands_at_one_place}
use Rattle.sg_store.proofs.Noted.{chain_more, chain_stands}
use Rattle.sg_store.proofs.held.note_chain.Goals as goal

pub set-requires : goal.set-requires
set-requires c =
    let low = c.len-place-end.ensures.disjoint.below c.in-Some.number
    (chain_stands c.args.chains.now c.args.head c.loop-place.place c.in-Some.number c.requires.there (sym c.loop-place.invariant.next ∙ c.in-Some.is)) in
    omega (arith, low, c.requires.within, c.loop-place.invariant.noted.as_many)

pub next-next-requires : goal.next-next-requires
next-next-requires c = chain_stands c.args.chains.now c.args.head c.loop-place.place c.in-Some.number c.requires.there (sym c.loop-place.invariant.next ∙ c.in-Some.is)

pub loop-place-preserved : goal.loop-place-preserved
loop-place-preserved c =
    let chains = c.args.chains.now in
    let chain : List ℕ = list_of c.args.chains.now c.args.head in
    let at = sym c.loop-place.invariant.next ∙ c.in-Some.is in
    let low = c.len-place-end.ensures.disjoint.below c.in-Some.number (chain_stands c.args.chains.now c.args.head c.loop-place.place c.in-Some.number c.requires.there at) in
    record {
      noted = chain_more chain c.args.slot c.loop-place.place c.in-Some.number c.args.slots.now c.loop-place.slots c.set.new.self
          (λ x y n left right. (stands_at_one_place chains c.len-place-end.ensures.disjoint n c.args.head x c.args.head y left right).1)
          at (omega (arith, low, c.requires.within, c.loop-place.invariant.noted.as_many)) c.set.ensures c.loop-place.invariant.noted;
      next = c.next-next.ensures c.args.head c.loop-place.place at;
    }
