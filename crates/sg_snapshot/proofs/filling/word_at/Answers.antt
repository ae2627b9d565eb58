use Rattle.std.proofs.Common.{ℕ, List, [], get_or, ap, ◌∙◌}
use Rattle.sg_snapshot.proofs.Steps.{get_same}
use Rattle.sg_snapshot.proofs.filling.word_at.Goals as goal

pub returns : goal.returns
returns c =
    ap (λ (l : List ℕ). get_or l c.args.index 0) (c.as_slice.ensures ∙ c.index-words-place.is ∙ get_same c.args.words.now c.args.place c.index-words-place.result [] c.requires.place)
