use Rattle.sg_ir.proofs.Coordinates.{place_has_coordinate}
use Rattle.sg_ir.proofs.laws.places_tell.Goals as goal

pub returns : goal.returns
returns c = place_has_coordinate c.numbering.ensures.inside_test c.paths_tell.ensures.coordinate
