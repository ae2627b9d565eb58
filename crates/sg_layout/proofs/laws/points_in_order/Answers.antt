use Rattle.sg_layout.proofs.Points as laws
use Rattle.sg_layout.proofs.laws.points_in_order.Goals as goal

pub returns-clause-inside : goal.returns-clause-inside
returns-clause-inside c = λ bounds. laws.points_are_inside bounds c.numbering.ensures.point_inside c.numbering.ensures.row_below c.numbering.ensures.point_of_row

pub returns-clause-volume : goal.returns-clause-volume
returns-clause-volume c = λ bounds. laws.points_fill_volume bounds

pub returns-clause-numbered : goal.returns-clause-numbered
returns-clause-numbered c = λ bounds. laws.points_are_numbered bounds

pub returns-clause-in_order : goal.returns-clause-in_order
returns-clause-in_order c = λ bounds. laws.points_are_in_order bounds c.numbering.ensures.points_rise
