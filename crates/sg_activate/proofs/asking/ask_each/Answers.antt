use Rattle.std.proofs.Common.{◌<◌, length, Contains, sym, ◌∙◌, subst}
use Rattle.std.proofs.lemmas.List.Elements.{Contains-get_or}
use Rattle.sg_coord.specs.Coord.{Inside}
use Rattle.sg_activate.specs.steps.Finding.{coord_found}
use Rattle.sg_activate.proofs.Asked.{taken_more, taken_all, coords-has, coords-from}
use Rattle.sg_activate.proofs.asking.ask_each.Goals as goal

pub ask-requires-clause-inside : goal.ask-requires-clause-inside
ask-requires-clause-inside g c =
    let below : c.loop-found.found-index < length c.args.list.now = c.loop-found-test.true in
    subst (Inside (g.P.Pass.bounds c.args.pass.now)) (sym c.coord_found.ensures)
    (c.requires.inside _ (coords-has c.args.work.now.axes c.args.list.now _ (Contains-get_or c.args.list.now c.loop-found.found-index _ below)))

pub loop-found-preserved : goal.loop-found-preserved
loop-found-preserved g c =
    let before = c.loop-found.invariant in
    let below : c.loop-found.found-index < length c.args.list.now = c.loop-found-test.true in
    record {
      own = c.ask.ensures.own;
      weight = c.ask.ensures.weight ∙ before.weight;
      stays = λ at met. c.ask.ensures.stays at (before.stays at met);
      made = λ wanted all made. c.ask.ensures.made wanted
          (subst (Contains wanted) (sym c.coord_found.ensures) (all _ (coords-has c.args.work.now.axes c.args.list.now _ (Contains-get_or c.args.list.now c.loop-found.found-index _ below))))
          (before.made wanted all made);
      met = taken_more (λ found. g.P.Pass.IsMet c.args.pass.now (coord_found c.args.work.now.axes found) c.ask.new.seat) c.args.list.now c.loop-found.found-index _ below
          (λ found has. c.ask.ensures.stays _ (before.met found has))
          (subst (λ at. g.P.Pass.IsMet c.args.pass.now at c.ask.new.seat) c.coord_found.ensures c.ask.ensures.met);
    }

pub returns-clause-met : goal.returns-clause-met
returns-clause-met g c = λ at has.
    let r = coords-from c.args.work.now.axes c.args.list.now at has in
    subst (λ x. g.P.Pass.IsMet c.args.pass.now x c.loop-found.seat) r.2
    (taken_all (λ found. g.P.Pass.IsMet c.args.pass.now (coord_found c.args.work.now.axes found) c.loop-found.seat) c.args.list.now c.loop-found.found-index c.loop-found-test.false c.loop-found.invariant.met r.0 r.1)
