use Rattle.std.proofs.Common.{ℕ, ◌+◌, ◌/◌, ◌%◌, ◌<◌, ◌^◌, cond, sym, ap, ◌∙◌, subst}
use Rattle.sg_store.specs.declared.links.LinkAt.{LinkAt}
use Rattle.sg_store.proofs.links_of.link_at.Goals as goal

pub link_for-requires-clause-few : goal.link_for-requires-clause-few
link_for-requires-clause-few c = subst (λ n. n / c.args.copy + 1 < 2 ^ 32) (sym (c.get.ensures 0)) c.requires.few

pub link_for-requires-clause-root : goal.link_for-requires-clause-root
link_for-requires-clause-root c = λ none. subst (λ n. n < c.args.copy) (sym (c.get.ensures 0)) (c.requires.root none)

pub returns : goal.returns
returns c = c.link_for.ensures ∙ ap made (c.get.ensures 0)
  where
    made : ℕ → LinkAt
    made slot = record { number = c.args.number; parent = cond c.args.above (slot / c.args.copy + 1) 0; slot = cond c.args.above (slot % c.args.copy) slot }
