use Rattle.std.proofs.Common.{pos, sym, ◌∙◌, refl, arith}
use Rattle.std.proofs.lemmas.List.Elements.{Contains-get_or}
use Rattle.std.proofs.lemmas.Option.{slice_get-get_or, slice_get_read}
use Rattle.sg_coord.specs.declared.coord.Coord.{Coord}
use Rattle.sg_exec.specs.Standing.{shapes_of}
use Rattle.sg_exec.specs.steps.Moments.{slice_turn}
use Rattle.sg_exec.proofs.Following.{none_next, none_at_end, fault_here}
use Rattle.sg_exec.proofs.Turning.{active_next, active_at_end}
use Rattle.sg_exec.proofs.activation.first_pass.no_want_outside_among.Goals as goal

pub loop-k-preserved : goal.loop-k-preserved
loop-k-preserved c =
    let view = c.args.stores.now.list in
    let points = c.args.points.now in
    let no_point : Coord = record { n = 0; a = pos 0; b = pos 0; c = pos 0 } in
    record {
      none = λ state sees named.
          none_next (slice_turn view state c.args.block.now) (shapes_of view) points c.loop-k.k _ c.as_slice-wants.result.now _ _ (omega arith) (c.loop-k.invariant.none state sees named)
          (sym c.outside_among.ensures ∙ c.in_default.is) refl
          (c.as_slice-wants.ensures.value ∙ (c.in_ok-iterate_all.ensures.ran state sees c.loop-k.k _ (slice_get-get_or points c.loop-k.k _ (omega arith)) c.index.result.now (slice_get_read _ _ c.loop-k.k c.index.result.now refl (omega (arith, c.iterate_all.ensures.over.whole)) c.index.ensures)
          (named _ (Contains-get_or points c.loop-k.k _ (omega arith)))).wants_are);
      found = c.are_active-all.ensures.last;
      so_far = λ all. c.loop-k.invariant.so_far (c.are_active-all.ensures.so_far all);
      active = λ all state sees named.
          active_next (slice_turn view state c.args.block.now) view points c.loop-k.k no_point c.as_slice-wants.result.now (omega arith)
          (c.loop-k.invariant.active (c.are_active-all.ensures.so_far all) state sees named) (c.are_active-all.ensures.active all)
          (c.as_slice-wants.ensures.value ∙ (c.in_ok-iterate_all.ensures.ran state sees c.loop-k.k _ (slice_get-get_or points c.loop-k.k no_point (omega arith)) c.index.result.now (slice_get_read _ _ c.loop-k.k c.index.result.now refl (omega (arith, c.iterate_all.ensures.over.whole)) c.index.ensures)
          (named _ (Contains-get_or points c.loop-k.k no_point (omega arith)))).wants_are);
    }

pub returns-clause-told : goal.returns-clause-told
returns-clause-told c = λ state sees named. (
  none_at_end (slice_turn c.args.stores.now.list state c.args.block.now) (shapes_of c.args.stores.now.list) c.args.points.now c.loop-k.k _ (omega arith) (c.loop-k.invariant.none state sees named),
  λ all. active_at_end (slice_turn c.args.stores.now.list state c.args.block.now) c.args.stores.now.list c.args.points.now c.loop-k.k (omega arith) (c.loop-k.invariant.active all state sees named),
)

pub returns-in-Some-clause-told : goal.returns-in-Some-clause-told
returns-in-Some-clause-told c = λ state sees named.
    let view = c.args.stores.now.list in
    let points = c.args.points.now in
    fault_here (slice_turn view state c.args.block.now) (shapes_of view) points c.loop-k.k _ c.as_slice-wants.result.now _ _ c.in-Some.fault (omega arith) (c.loop-k.invariant.none state sees named)
    (sym c.in-Some.ensures) refl
    (c.as_slice-wants.ensures.value ∙ (c.in_ok-iterate_all.ensures.ran state sees c.loop-k.k _ (slice_get-get_or points c.loop-k.k _ (omega arith)) c.index.result.now (slice_get_read _ _ c.loop-k.k c.index.result.now refl (omega (arith, c.iterate_all.ensures.over.whole)) c.index.ensures)
    (named _ (Contains-get_or points c.loop-k.k _ (omega arith)))).wants_are)
