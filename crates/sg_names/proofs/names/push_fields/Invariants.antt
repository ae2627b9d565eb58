use Rattle.std.proofs.Common.{◌++◌, length, drop}
use Rattle.sg_names.specs.Declares.{fields_from}
use Rattle.sg_names.proofs.Declaring.{IsPushing}
use Rattle.sg_names.proofs.names.push_fields.Given as goal

abbrev pub invariant-loop-place : goal.invariant-loop-place
invariant-loop-place l =
    IsPushing l.layout l.place (l.fn.fields ++ fields_from l.layout (length l.fn.fields) 0 l.decls) l.fields (drop l.place l.decls)
