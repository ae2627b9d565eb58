use Rattle.std.proofs.Common.{◌<◌, inl, inr, length, refl, sym, ◌∙◌, arith}
use Rattle.std.proofs.lemmas.List.Elements.{Contains-get_or}
use Rattle.sg_activate.specs.steps.Looked.{noted, IsKnown}
use Rattle.sg_activate.proofs.Asked.{taken_more, taken_all}
use Rattle.sg_activate.proofs.Looking.{grew_none, grew_then, known_then, one_of}
use Rattle.sg_activate.proofs.look.look_each.Goals as goal

pub look_at-requires-clause-axes : goal.look_at-requires-clause-axes
look_at-requires-clause-axes c =
    let below : c.loop-at.at-index < length c.args.coords.now = c.loop-at-test.true in
    c.requires.axes _ (Contains-get_or c.args.coords.now c.loop-at.at-index _ below) ∙ sym c.loop-at.invariant.grew.same_axes

pub loop-at-init : goal.loop-at-init
loop-at-init c = record {
  last = c.requires.last;
  grew = grew_none c.args.notes.now c.args.notes.now refl refl refl refl c.args.coords.now;
  new = λ at has. inl has;
  known = λ at has. absurd (omega (arith, has.1));
}

pub loop-at-preserved : goal.loop-at-preserved
loop-at-preserved c =
    let before = c.loop-at.invariant in
    let coords = c.args.coords.now in
    let below : c.loop-at.at-index < length coords = c.loop-at-test.true in
    record {
      last = c.in_ok-look_at.ensures.last;
      grew = grew_then coords _ coords c.args.notes.now c.loop-at.notes c.look_at.new.notes (λ at has. has) (one_of _ coords (Contains-get_or coords c.loop-at.at-index _ below)) before.grew c.in_ok-look_at.ensures.grew;
      new = λ at has. elim (c.in_ok-look_at.ensures.new at has) [ inl old ↦ before.new at old | inr none ↦ inr none ];
      known = taken_more (IsKnown c.args.store.now (noted c.look_at.new.notes)) coords c.loop-at.at-index _ below
          (λ at has. known_then c.args.store.now c.loop-at.notes c.look_at.new.notes _ c.in_ok-look_at.ensures.grew at (before.known at has)) c.in_ok-look_at.ensures.known;
    }

pub returns-clause-known : goal.returns-clause-known
returns-clause-known c = taken_all (IsKnown c.args.store.now (noted c.loop-at.notes)) c.args.coords.now c.loop-at.at-index c.loop-at-test.false c.loop-at.invariant.known
