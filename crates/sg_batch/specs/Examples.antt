-- Worked equations: kernels that write nothing.
use Rattle.std.specs.Prelude.{◌≡◌, ℕ, true, [], refl}
use Rattle.sg_flat.specs.declared.effects.Domain.TheVariants.{Walk}
use Rattle.sg_ir.specs.declared.code.Code.{Code}
use Rattle.sg_ir.specs.declared.code.KernelCode.{KernelCode}
use Rattle.sg_batch.specs.Independent.{are_independent}

-- code without an instruction
abbrev pub no_code : Code
no_code = record { regs = []; places = 0; vars = []; body = [] }

-- a kernel that walks a layout and does nothing there
abbrev pub walker : ℕ → KernelCode
walker layout = record { slice = no_code; code = no_code; domain = Walk layout }

-- they leave each other alone whatever they walk
pub two_walks : are_independent (walker 0) (walker 1) ≡ true
two_walks = refl

-- and one itself
pub walks_twice : are_independent (walker 0) (walker 0) ≡ true
walks_twice = refl
