use Rattle.sg_layout.specs.Slots.{coordinate_of}
use Rattle.sg_exec.proofs.lanes.spots.value_in.Goals as goal

pub returns : goal.returns
returns c = λ flat stands path leads whole. c.value.ensures.stands flat stands (coordinate_of c.args.store.now.shape path) (c.cell_at.ensures.at path leads)
