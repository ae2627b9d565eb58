use Rattle.std.proofs.Common.{refl}
use Rattle.std.proofs.lemmas.Option.{slice_get_read}
use Rattle.sg_store.proofs.hash.rekey_at.Goals as goal

pub rekey-requires : goal.rekey-requires
rekey-requires c = c.requires.can _ (slice_get_read _ _ _ _ refl c.requires.there c.index_mut-kept.ensures.value)

pub returns : goal.returns
returns c = record {
  kept = c.index_mut-kept.result.now;
  was = slice_get_read _ _ _ _ refl c.requires.there c.index_mut-kept.ensures.value;
  after = c.rekey.new.self;
  change = c.rekey.ensures;
  now_is = refl;
}
