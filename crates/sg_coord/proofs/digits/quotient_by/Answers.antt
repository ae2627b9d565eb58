use Rattle.sg_coord.proofs.Quotients.{fast}
use Rattle.sg_coord.proofs.digits.quotient_by.Goals as goal

pub returns : goal.returns
returns c = fast c.args.word c.args.div c.args.over c.requires.small c.requires.some c.requires.few c.requires.is
