use Rattle.std.proofs.Common.{refl, sym, ap, ◌∙◌}
use Rattle.std.proofs.lemmas.Option.{same_Some, slice_get_read}
use Rattle.sg_pool.specs.Numbers.{place_count}
use Rattle.sg_dynamic.specs.Chunks.{fit}
use Rattle.sg_store.specs.declared.node.NodeWords.{NodeWords}
use Rattle.sg_store.proofs.DynamicLevel.{on_ok_map}
use Rattle.sg_store.proofs.dynamic.relength_row_at.Goals as goal

pub relength_row-requires : goal.relength_row-requires
relength_row-requires c = c.requires.can _ (slice_get_read _ _ _ _ refl c.requires.there c.index_mut-kept.ensures.value)

pub returns-clause-answer : goal.returns-clause-answer
returns-clause-answer c = λ kept has.
    c.relength_row.ensures.answer
    ∙ ap (λ (k : NodeWords). fit c.args.chunk c.args.lengths.now (place_count k.pool))
    (same_Some c.index_mut-kept.result.now kept (sym (slice_get_read _ _ _ _ refl c.requires.there c.index_mut-kept.ensures.value) ∙ has))

pub returns-clause-fitted : goal.returns-clause-fitted
returns-clause-fitted c = on_ok_map c.relength_row.result
    (λ fitted. record {
      kept = c.index_mut-kept.result.now;
      was = slice_get_read _ _ _ _ refl c.requires.there c.index_mut-kept.ensures.value;
      after = c.relength_row.new.self;
      change = fitted;
      now_is = refl;
    }) c.relength_row.ensures.fitted
