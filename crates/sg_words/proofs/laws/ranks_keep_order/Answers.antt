use Rattle.sg_words.proofs.WordLemmas.{rank_keeps_order, rank_is_inverted, unrank_is_inverted}
use Rattle.sg_words.proofs.laws.ranks_keep_order.Goals as goal

pub returns-clause-order : goal.returns-clause-order
returns-clause-order c = rank_keeps_order

pub returns-clause-rank : goal.returns-clause-rank
returns-clause-rank c = rank_is_inverted

pub returns-clause-unrank : goal.returns-clause-unrank
returns-clause-unrank c = unrank_is_inverted
