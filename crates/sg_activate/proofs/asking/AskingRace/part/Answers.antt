use Rattle.std.proofs.Common.{◌≡◌, ◌<◌, length, sym, ◌∙◌, subst}
use Rattle.std.specs.List.{Contains}
use Rattle.std.proofs.lemmas.List.Elements.{Contains-get_or, All-contains}
use Rattle.sg_coord.specs.declared.coord.Coord.{Coord}
use Rattle.sg_coord.specs.Coord.{Inside}
use Rattle.sg_activate.specs.declared.found.Finds.{Finds}
use Rattle.sg_activate.specs.steps.Finding.{coords_found, found_in}
use Rattle.sg_activate.proofs.Asked.{taken_more, taken_all, in_found}
use Rattle.sg_activate.proofs.asking.AskingRace.part.Goals as goal

pub ask_own-requires-clause-inside : goal.ask_own-requires-clause-inside
ask_own-requires-clause-inside g c = λ at has.
    let list = c.args.self.now.work.now.found.now in
    let below : c.loop-finds.finds-index < length list = c.loop-finds-test.true in
    let is : Contains list c.finds-item.result = subst (Contains list) (sym c.finds-item.is) (Contains-get_or list c.loop-finds.finds-index c.finds-item.result below) in
    All-contains (Inside (g.P.Pass.bounds c.args.self.now.pass.now)) (found_in c.args.self.now.work.now.axes list) at c.args.self.now.inside
    (in_found c.args.self.now.work.now.axes list c.finds-item.result is at has)

pub loop-finds-preserved : goal.loop-finds-preserved
loop-finds-preserved g c =
    let before = c.loop-finds.invariant in
    let list = c.args.self.now.work.now.found.now in
    let axes = c.args.self.now.work.now.axes in
    let below : c.loop-finds.finds-index < length list = c.loop-finds-test.true in
    let is : Contains list c.finds-item.result = subst (Contains list) (sym c.finds-item.is) (Contains-get_or list c.loop-finds.finds-index c.finds-item.result below) in
    record {
      own = c.ask_own.ensures.own;
      weight = c.ask_own.ensures.weight ∙ before.weight;
      made = c.ask_own.ensures.made (found_in axes list) (λ at has. in_found axes list c.finds-item.result is at has) before.made;
      met = taken_more (λ (finds : Finds). finds.worker ≡ c.args.worker → (at : Coord) → Contains (coords_found axes finds.list) at → g.P.Pass.IsMet c.args.self.now.pass.now at c.ask_own.new.seat)
          list c.loop-finds.finds-index c.finds-item.result below
          (λ finds has own at in_finds. c.ask_own.ensures.stays at (before.met finds has own at in_finds))
          (subst (λ (finds : Finds). finds.worker ≡ c.args.worker → (at : Coord) → Contains (coords_found axes finds.list) at → g.P.Pass.IsMet c.args.self.now.pass.now at c.ask_own.new.seat) c.finds-item.is c.ask_own.ensures.met);
    }

pub returns-clause-done : goal.returns-clause-done
returns-clause-done g c = taken_all (λ (finds : Finds). finds.worker ≡ c.args.worker → (at : Coord) → Contains (coords_found c.args.self.now.work.now.axes finds.list) at → g.P.Pass.IsMet c.args.self.now.pass.now at c.loop-finds.seat)
    c.args.self.now.work.now.found.now c.loop-finds.finds-index c.loop-finds-test.false c.loop-finds.invariant.met
