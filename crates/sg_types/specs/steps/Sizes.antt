-- How many numbers the variables and statements of a kernel take.
use Rattle.std.specs.Prelude.{ℕ, ◌+◌, length}
use Rattle.sg_ast.specs.declared.kernel.KernelDecl.{KernelDecl}
use Rattle.sg_ast.specs.declared.program.Item.{Item}
use Rattle.sg_ast.specs.declared.program.Item.TheVariants as item
use Rattle.sg_types.specs.Counting.{block_count}

-- the variables and statements of a kernel, its loop counted
abbrev pub kernel_size : KernelDecl → ℕ
kernel_size kernel = length kernel.vars + (1 + block_count kernel.body)

-- the variables and statements of an item: none if it is no kernel
abbrev pub item_size : Item → ℕ
item_size (item.Const decl) = 0
item_size (item.Layout decl) = 0
item_size (item.Kernel kernel) = kernel_size kernel
item_size (item.Command command) = 0
