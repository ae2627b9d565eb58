use Rattle.sg_flat.proofs.MapWords.{word_at-lookup}
use Rattle.sg_flat.proofs.field.FlatField.word.Goals as goal

pub returns : goal.returns
returns c = let e = word_at-lookup c.args.self.now c.args.row in cc
