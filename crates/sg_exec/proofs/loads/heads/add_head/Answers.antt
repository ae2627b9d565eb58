use Rattle.sg_exec.proofs.HeadRows.{head_pushed}
use Rattle.sg_exec.proofs.loads.heads.add_head.Goals as goal

pub returns : goal.returns
returns c = λ rows has all.
    head_pushed rows c.args.heads.now c.push.new.self c.args.layout c.args.place c.args.run c.args.k c.in-Some.at c.in-Some.ensures c.in_ok-push.ensures.ok has all
