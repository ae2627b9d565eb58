use Rattle.std.proofs.Common.{◌≡◌}
use Rattle.std.specs.Prelude.{slice_get}
use Rattle.sg_links.specs.Lists.{list_of}
use Rattle.sg_store.specs.steps.Noting.{ChainNoted}
use Rattle.sg_store.proofs.held.note_chain.Given as goal

abbrev pub invariant-loop-place : goal.invariant-loop-place
invariant-loop-place l = record {
  noted : ChainNoted (list_of l.chains l.head) l.slot l.place l.fn.slots l.slots;
  next : l.next ≡ slice_get (list_of l.chains l.head) l.place;
}
