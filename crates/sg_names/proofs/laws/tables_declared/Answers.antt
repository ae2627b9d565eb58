use Rattle.sg_names.proofs.LawLemmasDeclared as laws
use Rattle.sg_names.proofs.laws.tables_declared.Goals as goal

pub returns-clause-constants : goal.returns-clause-constants
returns-clause-constants c = laws.constants_are_declared

pub returns-clause-layouts : goal.returns-clause-layouts
returns-clause-layouts c = laws.layouts_are_declared

pub returns-clause-kernels : goal.returns-clause-kernels
returns-clause-kernels c = laws.kernels_are_declared

pub returns-clause-fields : goal.returns-clause-fields
returns-clause-fields c = laws.fields_are_declared

pub returns-clause-placed : goal.returns-clause-placed
returns-clause-placed c = laws.fields_are_placed
