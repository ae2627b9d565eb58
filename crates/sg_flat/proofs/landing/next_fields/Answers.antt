use Rattle.std.proofs.Common.{◌++◌, drop, length, sym, subst, ap, ◌∙◌, List, ℕ, IsTrue}
use Rattle.std.specs.Prelude.{All}
use Rattle.std.proofs.lemmas.List.{length_push}
use Rattle.std.proofs.lemmas.List.Elements.{All-push}
use Rattle.sg_flat.specs.Words.{are_words}
use Rattle.sg_coord.specs.Bounds.{Bounds, bounds_of}
use Rattle.sg_layout.specs.declared.shape.Shape.{Shape}
use Rattle.sg_layout.specs.Axes.{bounds_of_shape}
use Rattle.sg_flat.specs.Effects.{writes_of}
use Rattle.sg_flat.specs.steps.Landing.{stay_inside}
use Rattle.sg_flat.specs.Kernel.{field_after, fields_after}
use Rattle.sg_flat.proofs.Pairs.{pair_turn, pair_end}
use Rattle.sg_flat.proofs.AfterRuns.{fields_after-step, fields_after-end}
use Rattle.sg_flat.proofs.FlatLayouts.{field_words}
use Rattle.sg_flat.proofs.landing.next_fields.Goals as goal

pub after_turns-requires-clause-words : goal.after_turns-requires-clause-words
after_turns-requires-clause-words c =
    let stands = pair_turn c.args.layout.now.fields c.args.flat.now.fields c.into_iter-place-iterator.result c.enumerate-place-items.result c.zip.result c.iter.result
    c.into_iter-place-iterator.ensures.into_iter_gives c.enumerate-place-items.ensures.source c.enumerate-place-items.ensures.count c.zip.ensures.first
    (c.iter.ensures.rest ∙ c.as_slice-types.ensures ∙ ap (λ (s : Shape). s.fields) c.shape.ensures.value) (c.zip.ensures.second.0 ∙ c.as_slice.ensures)
    c.loop-place.yielded c.loop-place.place-iterator c.next.new.self c.loop-place.yielded_by
    c.in-Some.place c.in-Some.ty c.in-Some.field c.next.result c.in-Some.is c.next.ensures.steps in
    field_words c.args.layout.now c.args.flat.now (bounds_of c.extents-extents.result) (length c.loop-place.yielded) c.in-Some.place c.in-Some.ty.now c.in-Some.field.now c.requires.flat stands c.extents-extents.ensures.value

pub after_turns-requires-clause-inside : goal.after_turns-requires-clause-inside
after_turns-requires-clause-inside c =
    subst (λ (bounds : Bounds). IsTrue (stay_inside bounds c.args.number (writes_of c.args.effects.now.turns))) (sym c.extents-extents.ensures.value) c.requires.inside

pub loop-place-preserved : goal.loop-place-preserved
loop-place-preserved c =
    let bounds = bounds_of_shape c.args.layout.now in
    let types = c.args.layout.now.fields in
    let before = c.args.flat.now.fields in
    let turns = c.args.effects.now.turns in
    let i = length c.loop-place.yielded in
    let stands = pair_turn c.args.layout.now.fields c.args.flat.now.fields c.into_iter-place-iterator.result c.enumerate-place-items.result c.zip.result c.iter.result
    c.into_iter-place-iterator.ensures.into_iter_gives c.enumerate-place-items.ensures.source c.enumerate-place-items.ensures.count c.zip.ensures.first
    (c.iter.ensures.rest ∙ c.as_slice-types.ensures ∙ ap (λ (s : Shape). s.fields) c.shape.ensures.value) (c.zip.ensures.second.0 ∙ c.as_slice.ensures)
    c.loop-place.yielded c.loop-place.place-iterator c.next.new.self c.loop-place.yielded_by
    c.in-Some.place c.in-Some.ty c.in-Some.field c.next.result c.in-Some.is c.next.ensures.steps in
    let step = fields_after-step bounds c.args.number types before c.loop-place.fields c.push.new.self (fields_after bounds c.args.number 0 types before turns) turns i c.in-Some.place c.in-Some.ty.now c.in-Some.field.now c.in_ok-after_turns.field-0
    stands c.loop-place.invariant.meaning
    (c.in_ok-after_turns.ensures.meaning ∙ ap (λ (b : Bounds). field_after b c.args.number c.in-Some.place c.in-Some.ty.now c.in-Some.field.now (writes_of turns)) c.extents-extents.ensures.value)
    c.in_ok-push.ensures.ok in
    record {
      meaning = ap (λ n. c.push.new.self ++ fields_after bounds c.args.number n (drop n types) (drop n before) turns) (length_push c.loop-place.yielded (c.in-Some.place, (c.in-Some.ty, c.in-Some.field))) ∙ step;
      in_range = subst (λ (fs : List (List (ℕ × ℕ))). All (λ words. IsTrue (are_words words)) fs) (sym c.in_ok-push.ensures.ok)
          (All-push (λ (words : List (ℕ × ℕ)). IsTrue (are_words words)) c.loop-place.fields c.in_ok-after_turns.field-0 c.loop-place.invariant.in_range c.in_ok-after_turns.ensures.in_range);
    }

pub returns-clause-meaning : goal.returns-clause-meaning
returns-clause-meaning c =
    let over = pair_end c.args.layout.now.fields c.args.flat.now.fields c.into_iter-place-iterator.result c.enumerate-place-items.result c.zip.result c.iter.result
    c.into_iter-place-iterator.ensures.into_iter_gives c.enumerate-place-items.ensures.source c.enumerate-place-items.ensures.count c.zip.ensures.first
    (c.iter.ensures.rest ∙ c.as_slice-types.ensures ∙ ap (λ (s : Shape). s.fields) c.shape.ensures.value) (c.zip.ensures.second.0 ∙ c.as_slice.ensures)
    c.loop-place.yielded c.loop-place.place-iterator c.next.new.self c.loop-place.yielded_by
    c.next.result c.in-None.is c.next.ensures.steps in
    fields_after-end (bounds_of_shape c.args.layout.now) c.args.number c.args.layout.now.fields c.args.flat.now.fields c.loop-place.fields _ c.args.effects.now.turns (length c.loop-place.yielded)
    over c.loop-place.invariant.meaning
