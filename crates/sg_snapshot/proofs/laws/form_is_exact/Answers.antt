use Rattle.sg_snapshot.proofs.PartsRead.{parts_come_back}
use Rattle.sg_snapshot.proofs.PartsBack.{parts_go_back}
use Rattle.sg_snapshot.proofs.laws.form_is_exact.Goals as goal

pub returns-clause-bytes : goal.returns-clause-bytes
returns-clause-bytes c = parts_come_back

pub returns-clause-back : goal.returns-clause-back
returns-clause-back c = parts_go_back
