use Rattle.std.proofs.Common.{refl}
use Rattle.std.proofs.lemmas.Option.{slice_get_read}
use Rattle.sg_store.proofs.pointer.relink_row_at.Goals as goal

pub relink_row-requires : goal.relink_row-requires
relink_row-requires c = c.requires.can _ (slice_get_read _ _ _ _ refl c.requires.there c.index_mut-kept.ensures.value)

pub returns : goal.returns
returns c = record {
  kept = c.index_mut-kept.result.now;
  was = slice_get_read _ _ _ _ refl c.requires.there c.index_mut-kept.ensures.value;
  after = c.relink_row.new.self;
  change = c.relink_row.ensures;
  now_is = refl;
}
