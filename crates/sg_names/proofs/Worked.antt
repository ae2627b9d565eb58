-- Worked trees: the names that they use.
use Rattle.std.specs.Prelude.{◌≡◌, refl, ℕ, false, List, [], ◌∷◌, map, Some, None, pos, codes}
use Rattle.sg_words.specs.declared.operators.BinOp.TheVariants as b
use Rattle.sg_words.specs.declared.operators.UnOp.TheVariants as u
use Rattle.sg_words.specs.declared.operators.AccOp.TheVariants as acc
use Rattle.sg_ast.specs.declared.token.Name.{Name}
use Rattle.sg_ast.specs.declared.expr.Callee.TheVariants as callee
use Rattle.sg_ast.specs.declared.expr.Expr.{Expr}
use Rattle.sg_ast.specs.declared.expr.Expr.TheVariants as e
use Rattle.sg_ast.specs.declared.expr.Expr.TheVariants.{rolls-Number, rolls-Truth, rolls-Name, rolls-Read, rolls-Paren, rolls-Un, rolls-Bin, rolls-Call}
use Rattle.sg_ast.specs.declared.stmt.WayDecl.TheVariants as way
use Rattle.sg_ast.specs.declared.stmt.RangeDecl.{RangeDecl}
use Rattle.sg_ast.specs.declared.stmt.Stmt.{Stmt}
use Rattle.sg_ast.specs.declared.stmt.Stmt.TheVariants as s
use Rattle.sg_ast.specs.declared.stmt.Stmt.TheVariants.{rolls-Let, rolls-Assign, rolls-Write, rolls-If, rolls-For}
use Rattle.sg_ast.specs.declared.kernel.DomainDecl.TheVariants as domain
use Rattle.sg_ast.specs.declared.command.Command.{Command}
use Rattle.sg_ast.specs.declared.command.Command.TheVariants as c
use Rattle.sg_ast.specs.declared.command.Command.TheVariants.{rolls-Load, rolls-Run, rolls-Times, rolls-Dump, rolls-Image, rolls-Stats, rolls-Prune, rolls-Clear}
use Rattle.sg_ast.specs.declared.program.Item.{Item}
use Rattle.sg_ast.specs.declared.program.Item.TheVariants as item
use Rattle.sg_ast.proofs.Uses.{fold_equations}
use Rattle.sg_names.specs.Uses.{reads_of, stmt_fields, command_layouts, command_fields, command_kernels, layouts_used, fields_used}
use Rattle.sg_names.specs.Declares.{command_count}

abbrev named : List ℕ → Name
named text = record { text = text }

-- `F[0]`
abbrev read : List ℕ → Expr
read text = e.Read (named text) (e.Number 0 false ∷ [])

-- `f[g[0], -h[0]] + min(k[i], (m[0]))`: in indices, operands, arguments and parentheses, and no plain name
reads_everywhere : reads_of (e.Bin b.Add (e.Read (named (codes "f")) (read (codes "g") ∷ e.Un u.Neg (read (codes "h")) ∷ []))
    (e.Call callee.Min (e.Read (named (codes "k")) (e.Name (named (codes "i")) ∷ []) ∷ e.Paren (read (codes "m")) ∷ [])))
    ≡ map named (codes "f" ∷ codes "g" ∷ codes "h" ∷ codes "k" ∷ codes "m" ∷ [])
reads_everywhere = simp fold_equations

-- `active(f[g[0]])`: the field whose layout is asked, and what its indices read
asked_too : reads_of (e.Active (named (codes "f")) (read (codes "g") ∷ [])) ≡ map named (codes "f" ∷ codes "g" ∷ [])
asked_too = simp fold_equations

-- `F[G[0]] += H[0];`
abbrev accumulation : List ℕ → List ℕ → List ℕ → Stmt
accumulation field index value = s.Write (named field) (read index ∷ []) (way.Acc acc.Add) (read value)

-- `let t = f[0]; t = g[0];`
locals_read : map stmt_fields (s.Let (named (codes "t")) (read (codes "f")) ∷ s.Assign (named (codes "t")) (read (codes "g")) ∷ [])
    ≡ (named (codes "f") ∷ []) ∷ (named (codes "g") ∷ []) ∷ []
locals_read = simp fold_equations

writes_read_too : stmt_fields (accumulation (codes "f") (codes "g") (codes "h")) ≡ map named (codes "f" ∷ codes "g" ∷ codes "h" ∷ [])
writes_read_too = simp fold_equations

-- `if a[0] { b[c[0]] += d[0]; } else { f[g[0]] += h[0]; }`
both_branches : stmt_fields (s.If (read (codes "a")) (accumulation (codes "b") (codes "c") (codes "d") ∷ []) (Some (accumulation (codes "f") (codes "g") (codes "h") ∷ [])))
    ≡ map named (codes "a" ∷ codes "b" ∷ codes "c" ∷ codes "d" ∷ codes "f" ∷ codes "g" ∷ codes "h" ∷ [])
both_branches = simp fold_equations

no_else : stmt_fields (s.If (read (codes "a")) (accumulation (codes "b") (codes "c") (codes "d") ∷ []) None)
    ≡ map named (codes "a" ∷ codes "b" ∷ codes "c" ∷ codes "d" ∷ [])
no_else = simp fold_equations

-- `A[0]..B[0]`
abbrev range : List ℕ → List ℕ → RangeDecl
range lo hi = record { lo = read lo; hi = read hi }

-- `for p in a[0]..b[0] { f[g[0]] += h[0]; }`
abbrev inner_loop : Stmt
inner_loop = s.For (named (codes "p")) (range (codes "a") (codes "b")) (accumulation (codes "f") (codes "g") (codes "h") ∷ [])

bounds_and_body : stmt_fields inner_loop ≡ map named (codes "a" ∷ codes "b" ∷ codes "f" ∷ codes "g" ∷ codes "h" ∷ [])
bounds_and_body = simp fold_equations

-- `kernel k { for i in c[0]..d[0] { for p in a[0]..b[0] { f[g[0]] += h[0]; } } }`
abbrev boxed : Item
boxed = item.Kernel (record { name = named (codes "k"); vars = named (codes "i") ∷ []; domain = domain.Ranges (range (codes "c") (codes "d") ∷ []); body = inner_loop ∷ [] })

kernel_of_a_box : fields_used boxed ≡ map named (codes "c" ∷ codes "d" ∷ codes "a" ∷ codes "b" ∷ codes "f" ∷ codes "g" ∷ codes "h" ∷ [])
kernel_of_a_box = simp fold_equations

no_layout_walked : layouts_used boxed ≡ []
no_layout_walked = refl

-- `times 2 { load a; run b; dump c; image d 0 1; stats f; prune g; clear h; }`
abbrev every_command : Command
every_command = c.Times 2 (c.Load (named (codes "a")) ∷ c.Run (named (codes "b")) ∷ c.Dump (named (codes "c")) ∷ c.Image (named (codes "d")) (pos 0) (pos 1)
    ∷ c.Stats (named (codes "f")) ∷ c.Prune (named (codes "g")) ∷ c.Clear (named (codes "h")) ∷ [])

needs_fields : command_fields every_command ≡ map named (codes "a" ∷ codes "c" ∷ codes "d" ∷ [])
needs_fields = simp fold_equations

needs_kernels : command_kernels every_command ≡ named (codes "b") ∷ []
needs_kernels = simp fold_equations

needs_layouts : command_layouts every_command ≡ map named (codes "f" ∷ codes "g" ∷ codes "h" ∷ [])
needs_layouts = simp fold_equations

eight_commands : command_count every_command ≡ 8
eight_commands = simp fold_equations
