use Rattle.sg_outside.specs.Files.{Bytes}
use Rattle.sg_session.proofs.grids.load.Goals as goal

pub returns-in-All-clause-performed : goal.returns-in-All-clause-performed
returns-in-All-clause-performed g c = λ state stand. (Bytes c.as_slice.result.now, c.load_bytes.ensures.performed state stand)
