use Rattle.std.proofs.Common.{refl}
use Rattle.std.proofs.lemmas.Option.{slice_get_read}
use Rattle.sg_store.proofs.mask.mark_bits_at.Goals as goal

pub mark_bits-requires : goal.mark_bits-requires
mark_bits-requires c = c.requires.can _ (slice_get_read _ _ _ _ refl c.requires.there c.index_mut-kept.ensures.value)

pub returns : goal.returns
returns c = record {
  kept = c.index_mut-kept.result.now;
  was = slice_get_read _ _ _ _ refl c.requires.there c.index_mut-kept.ensures.value;
  after = c.mark_bits.new.self;
  change = c.mark_bits.ensures;
  now_is = refl;
}
