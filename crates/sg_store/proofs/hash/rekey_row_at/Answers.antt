use Rattle.std.proofs.Common.{refl}
use Rattle.std.proofs.lemmas.Option.{slice_get_read}
use Rattle.sg_store.proofs.hash.rekey_row_at.Goals as goal

pub rekey_row-requires : goal.rekey_row-requires
rekey_row-requires c = c.requires.can _ (slice_get_read _ _ _ _ refl c.requires.there c.index_mut-kept.ensures.value)

pub returns : goal.returns
returns c = record {
  kept = c.index_mut-kept.result.now;
  was = slice_get_read _ _ _ _ refl c.requires.there c.index_mut-kept.ensures.value;
  after = c.rekey_row.new.self;
  change = c.rekey_row.ensures;
  now_is = refl;
}
