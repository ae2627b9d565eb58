use Rattle.sg_names.specs.Names.{tables_of}
use Rattle.sg_names.proofs.Reading.{IsReading}
use Rattle.sg_names.proofs.names.name_tables.Given as goal

abbrev pub invariant-loop-place : goal.invariant-loop-place
invariant-loop-place l = IsReading (tables_of l.program) l.program.items l.names l.commands l.place
