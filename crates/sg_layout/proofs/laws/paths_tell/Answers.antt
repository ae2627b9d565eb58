use Rattle.sg_layout.proofs.Paths as laws
use Rattle.sg_layout.proofs.laws.paths_tell.Goals as goal

pub returns-clause-whole : goal.returns-clause-whole
returns-clause-whole c = laws.whole_path_is_offsets

pub returns-clause-coordinate : goal.returns-clause-coordinate
returns-clause-coordinate c = λ shape. laws.coordinate_of_path shape c.numbering.ensures.point_of_row

pub returns-clause-tells : goal.returns-clause-tells
returns-clause-tells c = λ shape. laws.path_tells_coordinate shape c.numbering.ensures.point_of_row

pub returns-clause-is_slot : goal.returns-clause-is_slot
returns-clause-is_slot c = λ shape. laws.path_is_slot shape c.numbering.ensures.row_below

pub returns-clause-is_path : goal.returns-clause-is_path
returns-clause-is_path c = λ shape. laws.slot_is_path shape c.numbering.ensures.point_inside c.numbering.ensures.row_of_point

pub returns-clause-fill : goal.returns-clause-fill
returns-clause-fill c = laws.slots_fill_volume

pub returns-clause-reached : goal.returns-clause-reached
returns-clause-reached c = λ shape. laws.slot_is_reached shape c.numbering.ensures.point_inside c.numbering.ensures.row_of_point
