use Rattle.std.proofs.Common.{List, sym, subst}
use Rattle.std.specs.Prelude.{All, Contains}
use Rattle.sg_flat.specs.declared.effects.Write.{Write}
use Rattle.sg_exec.specs.Runs.{writes_of_runs}
use Rattle.sg_exec.proofs.loads.copies.asked_copies.Goals as goal

pub returns-in-Ok-clause-asked : goal.returns-in-Ok-clause-asked
returns-in-Ok-clause-asked g c = record {
  heads = c.as_slice.result.now;
  of_rows = subst (λ (heads : List Write). All (Contains (writes_of_runs c.args.layout c.args.place c.args.runs.now)) heads) (sym c.as_slice.ensures) c.in_ok-heads.ensures;
  ran = c.in-Ok.ensures.ran;
  shapes = c.in-Ok.ensures.shapes;
  room = c.in-Ok.ensures.room;
  links = c.in-Ok.ensures.links;
}
