-- The names that an item uses, by what they must stand for. A plain name in an expression is not among them.
use Rattle.std.specs.Prelude.{List, [], ◌∷◌, ◌++◌, Option, Some, None}
use Rattle.std.specs.List.{flat_map}
use Rattle.sg_ast.specs.declared.token.Name.{Name}
use Rattle.sg_ast.specs.declared.expr.Expr.{Expr, fold-Expr}
use Rattle.sg_ast.specs.declared.expr.Expr.TheOpen as e
use Rattle.sg_ast.specs.declared.expr.Expr.TheOpen.{Expr-F}
use Rattle.sg_ast.specs.declared.stmt.RangeDecl.{RangeDecl}
use Rattle.sg_ast.specs.declared.stmt.Stmt.{Stmt, fold-Stmt}
use Rattle.sg_ast.specs.declared.stmt.Stmt.TheOpen as s
use Rattle.sg_ast.specs.declared.stmt.Stmt.TheOpen.{Stmt-F}
use Rattle.sg_ast.specs.declared.layout.SizeDecl.{SizeDecl}
use Rattle.sg_ast.specs.declared.layout.SizeDecl.TheVariants as size
use Rattle.sg_ast.specs.declared.layout.NodeDecl.{NodeDecl}
use Rattle.sg_ast.specs.Stmt.{joined_lists}
use Rattle.sg_ast.specs.declared.kernel.DomainDecl.{DomainDecl}
use Rattle.sg_ast.specs.declared.kernel.DomainDecl.TheVariants as domain
use Rattle.sg_ast.specs.declared.command.Command.{Command, fold-Command}
use Rattle.sg_ast.specs.declared.command.Command.TheOpen as c
use Rattle.sg_ast.specs.declared.command.Command.TheOpen.{Command-F}
use Rattle.sg_ast.specs.declared.program.Item.{Item}
use Rattle.sg_ast.specs.declared.program.Item.TheVariants as item

-- one layer of an expression, where the fields that its parts name are given
abbrev pub reads_step : Expr-F (List Name) → List Name
reads_step (e.Number value unsigned) = []
reads_step (e.Truth truth) = []
reads_step (e.Name name) = []
reads_step (e.Read field index) = field ∷ joined_lists index
reads_step (e.Paren inner) = inner
reads_step (e.Un op operand) = operand
reads_step (e.Bin op left right) = left ++ right
reads_step (e.Call callee arguments) = joined_lists arguments
reads_step (e.Active field index) = field ∷ joined_lists index

-- the fields that an expression reads, or whose layout it asks by `active`, in indices too
abbrev pub reads_of : Expr → List Name
reads_of = fold-Expr (List Name) reads_step

-- the fields that the bounds of a range read
abbrev pub range_reads : RangeDecl → List Name
range_reads range = reads_of range.lo ++ reads_of range.hi

-- the fields of the statements after an `else`, if there is one
abbrev pub else_fields : Option (List (List Name)) → List Name
else_fields None = []
else_fields (Some parts) = joined_lists parts

-- one layer of a statement, where the fields that the statements in it read and write are given
abbrev pub fields_step : Stmt-F (List Name) → List Name
fields_step (s.Let name value) = reads_of value
fields_step (s.Assign name value) = reads_of value
fields_step (s.Write field index how value) = field ∷ (flat_map reads_of index ++ reads_of value)
fields_step (s.If condition then otherwise) = reads_of condition ++ (joined_lists then ++ else_fields otherwise)
fields_step (s.For name range body) = range_reads range ++ joined_lists body

-- the fields that a statement reads or writes
abbrev pub stmt_fields : Stmt → List Name
stmt_fields = fold-Stmt (List Name) fields_step

-- the layout that a kernel's loop names
abbrev pub domain_layouts : DomainDecl → List Name
domain_layouts (domain.Layout name) = name ∷ []
domain_layouts (domain.Ranges ranges) = []

-- the fields that the bounds of a loop read
abbrev pub domain_fields : DomainDecl → List Name
domain_fields (domain.Layout name) = []
domain_fields (domain.Ranges ranges) = flat_map range_reads ranges

-- the constant that a size names
abbrev pub size_names : SizeDecl → List Name
size_names (size.Number value) = []
size_names (size.Name name) = name ∷ []

-- the constant that a cap or chunk names, if there is one
abbrev pub optional_size_names : Option SizeDecl → List Name
optional_size_names None = []
optional_size_names (Some given) = size_names given

-- the constants that the sizes of a node name: its extents, its chunk and its cap
abbrev pub node_sizes : NodeDecl → List Name
node_sizes node = flat_map (λ axis. size_names axis.size) node.axes ++ (optional_size_names node.chunk ++ optional_size_names node.cap)

-- one layer of a command, where what the commands in it need is given: for layouts
abbrev pub command_layouts_step : Command-F (List Name) → List Name
command_layouts_step (c.Load field) = []
command_layouts_step (c.Run kernel) = []
command_layouts_step (c.Times number body) = joined_lists body
command_layouts_step (c.Dump field) = []
command_layouts_step (c.Image field lo hi) = []
command_layouts_step (c.Stats layout) = layout ∷ []
command_layouts_step (c.Prune layout) = layout ∷ []
command_layouts_step (c.Clear layout) = layout ∷ []

-- one layer of a command, for fields
abbrev pub command_fields_step : Command-F (List Name) → List Name
command_fields_step (c.Load field) = field ∷ []
command_fields_step (c.Run kernel) = []
command_fields_step (c.Times number body) = joined_lists body
command_fields_step (c.Dump field) = field ∷ []
command_fields_step (c.Image field lo hi) = field ∷ []
command_fields_step (c.Stats layout) = []
command_fields_step (c.Prune layout) = []
command_fields_step (c.Clear layout) = []

-- one layer of a command, for kernels
abbrev pub command_kernels_step : Command-F (List Name) → List Name
command_kernels_step (c.Load field) = []
command_kernels_step (c.Run kernel) = kernel ∷ []
command_kernels_step (c.Times number body) = joined_lists body
command_kernels_step (c.Dump field) = []
command_kernels_step (c.Image field lo hi) = []
command_kernels_step (c.Stats layout) = []
command_kernels_step (c.Prune layout) = []
command_kernels_step (c.Clear layout) = []

-- the layouts that a command needs
abbrev pub command_layouts : Command → List Name
command_layouts = fold-Command (List Name) command_layouts_step

-- the fields that a command needs
abbrev pub command_fields : Command → List Name
command_fields = fold-Command (List Name) command_fields_step

-- the kernels that a command needs
abbrev pub command_kernels : Command → List Name
command_kernels = fold-Command (List Name) command_kernels_step

-- the names that an item uses as sizes
abbrev pub sizes_used : Item → List Name
sizes_used (item.Const decl) = []
sizes_used (item.Layout decl) = flat_map node_sizes decl.nodes
sizes_used (item.Kernel decl) = []
sizes_used (item.Command command) = []

-- the names that an item uses as layouts
abbrev pub layouts_used : Item → List Name
layouts_used (item.Const decl) = []
layouts_used (item.Layout decl) = []
layouts_used (item.Kernel decl) = domain_layouts decl.domain
layouts_used (item.Command command) = command_layouts command

-- the names that an item uses as fields
abbrev pub fields_used : Item → List Name
fields_used (item.Const decl) = []
fields_used (item.Layout decl) = []
fields_used (item.Kernel decl) = domain_fields decl.domain ++ flat_map stmt_fields decl.body
fields_used (item.Command command) = command_fields command

-- the names that an item uses as kernels
abbrev pub kernels_used : Item → List Name
kernels_used (item.Const decl) = []
kernels_used (item.Layout decl) = []
kernels_used (item.Kernel decl) = []
kernels_used (item.Command command) = command_kernels command
