use Rattle.std.proofs.Common.{refl}
use Rattle.sg_exec.proofs.lanes.moment.Moment.want.Goals as goal

pub returns-in-Ok : goal.returns-in-Ok
returns-in-Ok c = record {
  stores = refl;
  made = λ told. record { cells = refl; wants = c.in-Ok.ensures.items };
}
