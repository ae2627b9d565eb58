use Rattle.std.proofs.Common.{refl}
use Rattle.sg_exec.proofs.lanes.moment.Moment.contribute.Goals as goal

pub returns-in-Ok : goal.returns-in-Ok
returns-in-Ok c = record {
  stores = c.write.ensures.stores;
  made = λ told. record { cells = c.in-Ok.ensures.ok; wants = refl };
}
