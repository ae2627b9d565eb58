use Rattle.std.proofs.Common.{refl, sym, ap, ◌∙◌}
use Rattle.std.proofs.lemmas.Option.{same_Some, slice_get_read}
use Rattle.sg_pool.specs.Numbers.{place_count}
use Rattle.sg_dynamic.specs.Chunks.{fit}
use Rattle.sg_store.specs.declared.node.NodeWords.{NodeWords}
use Rattle.sg_store.proofs.DynamicLevel.{on_ok_map}
use Rattle.sg_store.proofs.dynamic.relength_at.Goals as goal

pub relength-requires : goal.relength-requires
relength-requires c = c.requires.can _ (slice_get_read _ _ _ _ refl c.requires.there c.index_mut-kept.ensures.value)

pub returns-clause-answer : goal.returns-clause-answer
returns-clause-answer c = λ kept has.
    c.relength.ensures.answer
    ∙ ap (λ (k : NodeWords). fit c.args.chunk c.args.lengths.now (place_count k.pool))
    (same_Some c.index_mut-kept.result.now kept (sym (slice_get_read _ _ _ _ refl c.requires.there c.index_mut-kept.ensures.value) ∙ has))

pub returns-clause-fitted : goal.returns-clause-fitted
returns-clause-fitted c = on_ok_map c.relength.result
    (λ fitted. record {
      kept = c.index_mut-kept.result.now;
      was = slice_get_read _ _ _ _ refl c.requires.there c.index_mut-kept.ensures.value;
      after = c.relength.new.self;
      change = fitted;
      now_is = refl;
    }) c.relength.ensures.fitted
