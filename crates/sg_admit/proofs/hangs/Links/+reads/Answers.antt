use Rattle.sg_admit.proofs.HangWords.{hang-Read, hang-Mulq, hang-Active}
use Rattle.sg_admit.proofs.TextWords.{on_ok}
use Rattle.sg_admit.proofs.hangs.Links.+reads.Goals as goal

pub hang-returns-in_ok-hang_on_field-in-Read : goal.hang-returns-in_ok-hang_on_field-in-Read
hang-returns-in_ok-hang_on_field-in-Read t c =
    on_ok c.hang_all.result
    (hang-Read c.args.text.now c.args.to c.args.expr.now c.in-Read.layout c.in-Read.place c.in-Read.index c.as_slice.result.now c.in-Read.is c.as_slice.ensures
    c.args.self.now c.hang_on_field.new.self c.hang_all.new.self c.in_ok-hang_on_field-in-Read.ensures)
    c.hang_all.ensures

pub hang-returns-in_ok-hang-in-Mulq-2 : goal.hang-returns-in_ok-hang-in-Mulq-2
hang-returns-in_ok-hang-in-Mulq-2 t c =
    on_ok c.hang-in-Mulq-3.result
    (hang-Mulq c.args.text.now c.args.to c.args.expr.now c.in-Mulq.a c.in-Mulq.b c.in-Mulq.s c.get-in-Mulq.result.now c.get-in-Mulq-2.result.now c.get-in-Mulq-3.result.now c.in-Mulq.is
    c.get-in-Mulq.ensures c.get-in-Mulq-2.ensures c.get-in-Mulq-3.ensures
    c.args.self.now c.hang-in-Mulq.new.self c.hang-in-Mulq-2.new.self c.hang-in-Mulq-3.new.self c.in_ok-hang-in-Mulq.ensures c.in_ok-hang-in-Mulq-2.ensures)
    c.hang-in-Mulq-3.ensures

pub hang-returns-in-Active : goal.hang-returns-in-Active
hang-returns-in-Active t c =
    on_ok c.hang_all-in-Active.result
    (hang-Active c.args.text.now c.args.to c.args.expr.now c.in-Active._layout c.in-Active.index c.as_slice-in-Active.result.now c.in-Active.is c.as_slice-in-Active.ensures
    c.args.self.now c.hang_all-in-Active.new.self)
    c.hang_all-in-Active.ensures
