-- Whether one of the names that a tree uses passes a test: at each variant, by its parts.
use Rattle.std.specs.Prelude.{◌≡◌, refl, ℕ, ◌+◌, Bool, true, false, ◌||◌, List, [], ◌∷◌, ◌++◌, map, sum, Option, Some, None, option_map}
use Rattle.std.proofs.Common.{ap, ◌∙◌}
use Rattle.std.specs.List.{list_any, flat_map}
use Rattle.std.proofs.lemmas.List.Folds.{list_any-append}
use Rattle.sg_words.specs.declared.operators.BinOp.{BinOp}
use Rattle.sg_words.specs.declared.operators.UnOp.{UnOp}
use Rattle.sg_ast.specs.declared.token.Name.{Name}
use Rattle.sg_ast.specs.declared.expr.Callee.{Callee}
use Rattle.sg_ast.specs.declared.expr.Expr.{Expr}
use Rattle.sg_ast.specs.declared.expr.Expr.TheVariants as e
use Rattle.sg_ast.specs.declared.stmt.WayDecl.{WayDecl}
use Rattle.sg_ast.specs.declared.stmt.RangeDecl.{RangeDecl}
use Rattle.sg_ast.specs.declared.stmt.Stmt.{Stmt}
use Rattle.sg_ast.specs.declared.stmt.Stmt.TheVariants as s
use Rattle.sg_ast.specs.declared.command.Command.{Command}
use Rattle.sg_ast.specs.declared.command.Command.TheVariants as c
use Rattle.sg_ast.specs.Stmt.{joined_lists}
use Rattle.sg_names.specs.Uses.{reads_of, reads_step, range_reads, else_fields, stmt_fields, fields_step, command_layouts, command_layouts_step, command_fields, command_fields_step, command_kernels, command_kernels_step, size_names, optional_size_names, node_sizes, domain_layouts, domain_fields}
use Rattle.sg_ast.specs.declared.layout.NodeDecl.{NodeDecl}
use Rattle.sg_ast.specs.declared.layout.LayoutDecl.{LayoutDecl}
use Rattle.sg_ast.specs.declared.kernel.DomainDecl.{DomainDecl}
use Rattle.sg_ast.specs.declared.kernel.KernelDecl.{KernelDecl}
use Rattle.sg_ast.specs.declared.program.Item.TheVariants as item
use Rattle.sg_ast.proofs.Uses.{fold-Read_expr, fold-Paren_expr, fold-Un_expr, fold-Bin_expr, fold-Call_expr, fold-Active_expr, fold-Let_stmt, fold-Assign_stmt, fold-Write_stmt, fold-If_stmt, fold-If_else_stmt, fold-For_stmt, fold-Times_command}
use Rattle.sg_names.specs.Declares.{command_count, commands_step}
use Rattle.sg_names.specs.Tables.{Tables}
use Rattle.sg_names.specs.Names.{is_no_size, is_no_layout, is_no_field, uses_unknown}
use Rattle.sg_names.proofs.Lists.{list_any-joined, list_any-flat_map}

-- whether a statement after `else`, if there is one, passes a test
abbrev pub else_any : (Stmt → Bool) → Option (List Stmt) → Bool
else_any test None = false
else_any test (Some block) = list_any test block

module _ (test : Name → Bool) where
  -- what an expression reads, and a statement reads or writes
  abbrev pub reads_any : Expr → Bool
  reads_any expression = list_any test (reads_of expression)

  abbrev pub fields_any : Stmt → Bool
  fields_any statement = list_any test (stmt_fields statement)

  pub reads_any-Read : (field : Name) (index : List Expr) → reads_any (e.Read field index) ≡ (test field || list_any reads_any index)
  reads_any-Read field index =
      (ap (list_any test) (fold-Read_expr reads_step field index)
      ∙ ap (λ more. test field || more) (list_any-joined test reads_of index))

  pub reads_any-Paren : (inner : Expr) → reads_any (e.Paren inner) ≡ reads_any inner
  reads_any-Paren inner = ap (list_any test) (fold-Paren_expr reads_step inner)

  pub reads_any-Un : (op : UnOp) (operand : Expr) → reads_any (e.Un op operand) ≡ reads_any operand
  reads_any-Un op operand = ap (list_any test) (fold-Un_expr reads_step op operand)

  pub reads_any-Bin : (op : BinOp) (left right : Expr) → reads_any (e.Bin op left right) ≡ (reads_any left || reads_any right)
  reads_any-Bin op left right =
      (ap (list_any test) (fold-Bin_expr reads_step op left right)
      ∙ list_any-append test (reads_of left) (reads_of right))

  pub reads_any-Call : (callee : Callee) (arguments : List Expr) → reads_any (e.Call callee arguments) ≡ list_any reads_any arguments
  reads_any-Call callee arguments =
      (ap (list_any test) (fold-Call_expr reads_step callee arguments)
      ∙ list_any-joined test reads_of arguments)

  pub reads_any-Active : (field : Name) (index : List Expr) → reads_any (e.Active field index) ≡ (test field || list_any reads_any index)
  reads_any-Active field index =
      (ap (list_any test) (fold-Active_expr reads_step field index)
      ∙ ap (λ more. test field || more) (list_any-joined test reads_of index))

  abbrev pub range_any : RangeDecl → Bool
  range_any range = reads_any range.lo || reads_any range.hi

  pub range_any-reads : (range : RangeDecl) → list_any test (range_reads range) ≡ range_any range
  range_any-reads range = list_any-append test (reads_of range.lo) (reads_of range.hi)

  pub fields_any-Let : (name : Name) (value : Expr) → fields_any (s.Let name value) ≡ reads_any value
  fields_any-Let name value = ap (list_any test) (fold-Let_stmt fields_step name value)

  pub fields_any-Assign : (name : Name) (value : Expr) → fields_any (s.Assign name value) ≡ reads_any value
  fields_any-Assign name value = ap (list_any test) (fold-Assign_stmt fields_step name value)

  pub fields_any-Write : (field : Name) (index : List Expr) (how : WayDecl) (value : Expr)
      → fields_any (s.Write field index how value) ≡ (test field || (list_any reads_any index || reads_any value))
  fields_any-Write field index how value =
      (ap (list_any test) (fold-Write_stmt fields_step field index how value)
      ∙ ap (λ more. test field || more) (list_any-append test (flat_map reads_of index) (reads_of value)
      ∙ ap (λ some. some || reads_any value) (list_any-flat_map test reads_of index)))

  else_any-fields : (otherwise : Option (List Stmt)) → list_any test (else_fields (option_map (map stmt_fields) otherwise)) ≡ else_any fields_any otherwise
  else_any-fields None = refl
  else_any-fields (Some block) = list_any-joined test stmt_fields block

  fields_any-parts : (condition : Expr) (then : List Stmt) (otherwise : Option (List Stmt))
      → list_any test (reads_of condition ++ (joined_lists (map stmt_fields then) ++ else_fields (option_map (map stmt_fields) otherwise)))
      ≡ (reads_any condition || (list_any fields_any then || else_any fields_any otherwise))
  fields_any-parts condition then otherwise =
      list_any-append test (reads_of condition) (joined_lists (map stmt_fields then) ++ else_fields (option_map (map stmt_fields) otherwise))
      ∙ ap (λ more. reads_any condition || more) (list_any-append test (joined_lists (map stmt_fields then)) (else_fields (option_map (map stmt_fields) otherwise))
      ∙ (ap (λ some. some || list_any test (else_fields (option_map (map stmt_fields) otherwise))) (list_any-joined test stmt_fields then)
      ∙ ap (λ more. list_any fields_any then || more) (else_any-fields otherwise)))

  pub fields_any-If : (condition : Expr) (then : List Stmt) (otherwise : Option (List Stmt))
      → fields_any (s.If condition then otherwise) ≡ (reads_any condition || (list_any fields_any then || else_any fields_any otherwise))
  fields_any-If condition then None =
      (ap (list_any test) (fold-If_stmt fields_step condition then)
      ∙ fields_any-parts condition then None)
  fields_any-If condition then (Some otherwise) =
      (ap (list_any test) (fold-If_else_stmt fields_step condition then otherwise)
      ∙ fields_any-parts condition then (Some otherwise))

  pub fields_any-For : (name : Name) (range : RangeDecl) (body : List Stmt)
      → fields_any (s.For name range body) ≡ (list_any test (range_reads range) || list_any fields_any body)
  fields_any-For name range body =
      (ap (list_any test) (fold-For_stmt fields_step name range body)
      ∙ (list_any-append test (range_reads range) (joined_lists (map stmt_fields body))
      ∙ ap (λ more. list_any test (range_reads range) || more) (list_any-joined test stmt_fields body)))

  layouts_any-Times : (number : ℕ) (body : List Command) → list_any test (command_layouts (c.Times number body)) ≡ list_any (λ inner. list_any test (command_layouts inner)) body
  layouts_any-Times number body =
      ap (list_any test) (fold-Times_command command_layouts_step number body) ∙ list_any-joined test command_layouts body

  fields_any-Times : (number : ℕ) (body : List Command) → list_any test (command_fields (c.Times number body)) ≡ list_any (λ inner. list_any test (command_fields inner)) body
  fields_any-Times number body =
      ap (list_any test) (fold-Times_command command_fields_step number body) ∙ list_any-joined test command_fields body

  kernels_any-Times : (number : ℕ) (body : List Command) → list_any test (command_kernels (c.Times number body)) ≡ list_any (λ inner. list_any test (command_kernels inner)) body
  kernels_any-Times number body =
      ap (list_any test) (fold-Times_command command_kernels_step number body) ∙ list_any-joined test command_kernels body

-- three tests of the elements of a list, in one
exchange : (a b c x y z : Bool) → ((a || x) || ((b || y) || (c || z))) ≡ ((a || (b || c)) || (x || (y || z)))
exchange true b c x y z = refl
exchange false true c true y z = refl
exchange false true c false y z = refl
exchange false false true true y z = refl
exchange false false true false true z = refl
exchange false false true false false z = refl
exchange false false false x y z = refl

any-of_three : {X : Type 0} (p q r : X → Bool) (xs : List X) → (list_any p xs || (list_any q xs || list_any r xs)) ≡ list_any (λ x. p x || (q x || r x)) xs
any-of_three p q r [] = refl
any-of_three p q r (x ∷ xs) =
    exchange (p x) (q x) (r x) (list_any p xs) (list_any q xs) (list_any r xs) ∙ ap (λ more. (p x || (q x || r x)) || more) (any-of_three p q r xs)

-- a layout, field or kernel that a command needs passes its test
module _ (on_layout on_field on_kernel : Name → Bool) where
  abbrev pub needs_any : Command → Bool
  needs_any command =
      list_any on_layout (command_layouts command) || (list_any on_field (command_fields command) || list_any on_kernel (command_kernels command))

  pub needs_any-Times : (number : ℕ) (body : List Command) → needs_any (c.Times number body) ≡ list_any needs_any body
  needs_any-Times number body =
      ap (λ b. b || (list_any on_field (command_fields (c.Times number body)) || list_any on_kernel (command_kernels (c.Times number body)))) (layouts_any-Times on_layout number body)
      ∙ (ap (λ b. list_any (λ inner. list_any on_layout (command_layouts inner)) body || (b || list_any on_kernel (command_kernels (c.Times number body)))) (fields_any-Times on_field number body)
      ∙ (ap (λ b. list_any (λ inner. list_any on_layout (command_layouts inner)) body || (list_any (λ inner. list_any on_field (command_fields inner)) body || b)) (kernels_any-Times on_kernel number body)
      ∙ any-of_three (λ inner. list_any on_layout (command_layouts inner)) (λ inner. list_any on_field (command_fields inner)) (λ inner. list_any on_kernel (command_kernels inner)) body))

pub command_count-Times : (number : ℕ) (body : List Command) → command_count (c.Times number body) ≡ 1 + sum (map command_count body)
command_count-Times number body = fold-Times_command commands_step number body

module _ (test : Name → Bool) where
  -- a constant that a node's sizes name
  pub node_any-sizes : (node : NodeDecl) → list_any test (node_sizes node)
      ≡ (list_any (λ axis. list_any test (size_names axis.size)) node.axes || (list_any test (optional_size_names node.chunk) || list_any test (optional_size_names node.cap)))
  node_any-sizes node =
      list_any-append test (flat_map (λ axis. size_names axis.size) node.axes) (optional_size_names node.chunk ++ optional_size_names node.cap)
      ∙ (ap (λ some. some || list_any test (optional_size_names node.chunk ++ optional_size_names node.cap)) (list_any-flat_map test (λ axis. size_names axis.size) node.axes)
      ∙ ap (λ more. list_any (λ axis. list_any test (size_names axis.size)) node.axes || more) (list_any-append test (optional_size_names node.chunk) (optional_size_names node.cap)))

or-false : (a : Bool) → (a || false) ≡ a
or-false true = refl
or-false false = refl

or-groups : (a b c : Bool) → (a || (b || c)) ≡ ((a || b) || c)
or-groups true b c = refl
or-groups false b c = refl

-- what items use, by their parts
pub uses_unknown-Layout : (before : Tables) (decl : LayoutDecl) → uses_unknown before (item.Layout decl) ≡ list_any (λ node. list_any (is_no_size before) (node_sizes node)) decl.nodes
uses_unknown-Layout before decl = or-false (list_any (is_no_size before) (flat_map node_sizes decl.nodes)) ∙ list_any-flat_map (is_no_size before) node_sizes decl.nodes

abbrev pub domain_any : Tables → DomainDecl → Bool
domain_any before domain = list_any (is_no_layout before) (domain_layouts domain) || list_any (is_no_field before) (domain_fields domain)

pub uses_unknown-Kernel : (before : Tables) (kernel : KernelDecl)
    → uses_unknown before (item.Kernel kernel) ≡ (domain_any before kernel.domain || list_any (fields_any (is_no_field before)) kernel.body)
uses_unknown-Kernel before kernel =
    ap (λ b. list_any (is_no_layout before) (domain_layouts kernel.domain) || b) (or-false (list_any (is_no_field before) (domain_fields kernel.domain ++ flat_map stmt_fields kernel.body))
    ∙ (list_any-append (is_no_field before) (domain_fields kernel.domain) (flat_map stmt_fields kernel.body)
    ∙ ap (λ b. list_any (is_no_field before) (domain_fields kernel.domain) || b) (list_any-flat_map (is_no_field before) stmt_fields kernel.body)))
    ∙ or-groups (list_any (is_no_layout before) (domain_layouts kernel.domain)) (list_any (is_no_field before) (domain_fields kernel.domain)) (list_any (fields_any (is_no_field before)) kernel.body)
