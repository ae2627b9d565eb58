use Rattle.sg_coord.proofs.RowLaws as laws
use Rattle.sg_coord.proofs.laws.numbering.Goals as goal

pub returns-clause-point_inside : goal.returns-clause-point_inside
returns-clause-point_inside c = laws.point_inside

pub returns-clause-row_of_point : goal.returns-clause-row_of_point
returns-clause-row_of_point c = laws.row_of_point

pub returns-clause-row_below : goal.returns-clause-row_below
returns-clause-row_below c = laws.row_below

pub returns-clause-point_of_row : goal.returns-clause-point_of_row
returns-clause-point_of_row c = laws.point_of_row

pub returns-clause-points_rise : goal.returns-clause-points_rise
returns-clause-points_rise c = laws.points_rise
