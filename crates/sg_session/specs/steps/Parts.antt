-- What a program is compiled to, in the code's parts.
use Rattle.sg_names.specs.Tables.{Tables}
use Rattle.sg_session.specs.declared.compilation.Parts.{Parts}
use Rattle.sg_session.specs.Compiled.{CompiledProgram}

-- the parts, with the names of their program
abbrev pub with_tables : Tables → Parts → CompiledProgram
with_tables names parts = record {
  names = names;
  layouts = parts.layouts.list;
  kernels = parts.kernels;
  neutral = parts.neutral;
  commands = parts.commands;
}
