-- How much a program may declare and do.
use Rattle.std.specs.Prelude.{ℕ}

-- how many layouts a program may have
abbrev pub most_layouts : ℕ
most_layouts = 8

-- how many fields, of all layouts
abbrev pub most_program_fields : ℕ
most_program_fields = 16

-- how many kernels
abbrev pub most_kernels : ℕ
most_kernels = 16

-- how many commands, those inside a `times` counted once each
abbrev pub most_commands : ℕ
most_commands = 64
