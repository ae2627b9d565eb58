use Rattle.sg_names.proofs.LawLemmasLookup as laws
use Rattle.sg_names.proofs.laws.look_ups_invert.Goals as goal

pub returns-clause-constants : goal.returns-clause-constants
returns-clause-constants c = laws.constants_are_found

pub returns-clause-constant_numbers : goal.returns-clause-constant_numbers
returns-clause-constant_numbers c = laws.constants_are_numbered

pub returns-clause-layouts : goal.returns-clause-layouts
returns-clause-layouts c = laws.layouts_are_found

pub returns-clause-fields : goal.returns-clause-fields
returns-clause-fields c = laws.fields_are_found

pub returns-clause-field_numbers : goal.returns-clause-field_numbers
returns-clause-field_numbers c = laws.fields_are_numbered

pub returns-clause-kernels : goal.returns-clause-kernels
returns-clause-kernels c = laws.kernels_are_found
