use Rattle.sg_simplify.specs.steps.Made.{given_in}
use Rattle.sg_simplify.proofs.Making.{fresh-goes}
use Rattle.sg_simplify.proofs.made.Made.fresh.Goals as goal

pub returns : goal.returns
returns c =
    let adds = c.in_ok-to.ensures in
    record {
      known = adds.known;
      puts =
          fresh-goes (given_in c.args.given.now) c.args.ty c.args.op c.args.index c.in_ok-to.to c.args.self.now c.reg.new.self c.args.out.now c.push.new.self c.word_inst.result c.requires.truth adds c.word_inst.ensures c.in_ok-push.ensures.ok;
    }
