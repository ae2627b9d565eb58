-- What a fold over a tree is at each variant: its step on that layer, with the fold over each part.
use Rattle.std.specs.Prelude.{◌≡◌, ℕ, ℤ, Bool, List, map, Some, None}
use Rattle.std.proofs.Common.{sym, ap, ◌∙◌}
use Rattle.sg_words.specs.declared.operators.BinOp.{BinOp}
use Rattle.sg_words.specs.declared.operators.UnOp.{UnOp}
use Rattle.sg_ast.specs.declared.token.Name.{Name}
use Rattle.sg_ast.specs.declared.expr.Callee.{Callee}
use Rattle.sg_ast.specs.declared.expr.Expr.{Expr, fold-Expr, fold-roll-Expr}
use Rattle.sg_ast.specs.declared.expr.Expr.TheVariants as e
use Rattle.sg_ast.specs.declared.expr.Expr.TheVariants.{rolls-Number, rolls-Truth, rolls-Name, rolls-Read, rolls-Paren, rolls-Un, rolls-Bin, rolls-Call, rolls-Active}
use Rattle.sg_ast.specs.declared.expr.Expr.TheOpen as f
use Rattle.sg_ast.specs.declared.expr.Expr.TheOpen.{Expr-F}
use Rattle.sg_ast.specs.declared.stmt.WayDecl.{WayDecl}
use Rattle.sg_ast.specs.declared.stmt.RangeDecl.{RangeDecl}
use Rattle.sg_ast.specs.declared.stmt.Stmt.{Stmt, fold-Stmt, fold-roll-Stmt}
use Rattle.sg_ast.specs.declared.stmt.Stmt.TheVariants as s
use Rattle.sg_ast.specs.declared.stmt.Stmt.TheVariants.{rolls-Let, rolls-Assign, rolls-Write, rolls-If, rolls-For}
use Rattle.sg_ast.specs.declared.stmt.Stmt.TheOpen as g
use Rattle.sg_ast.specs.declared.stmt.Stmt.TheOpen.{Stmt-F}
use Rattle.sg_ast.specs.declared.command.Command.{Command, fold-Command, fold-roll-Command}
use Rattle.sg_ast.specs.declared.command.Command.TheVariants as c
use Rattle.sg_ast.specs.declared.command.Command.TheVariants.{rolls-Load, rolls-Run, rolls-Times, rolls-Dump, rolls-Image, rolls-Stats, rolls-Prune, rolls-Clear}
use Rattle.sg_ast.specs.declared.command.Command.TheOpen as h
use Rattle.sg_ast.specs.declared.command.Command.TheOpen.{Command-F}

pub fold-Number_expr : {X : Type 0} (step : Expr-F X → X) (value : ℕ) (unsigned : Bool)
    → fold-Expr X step (e.Number value unsigned) ≡ step (f.Number value unsigned)
fold-Number_expr {X} step value unsigned = ap (fold-Expr X step) (sym (rolls-Number value unsigned)) ∙ fold-roll-Expr X step (f.Number value unsigned)

pub fold-Truth_expr : {X : Type 0} (step : Expr-F X → X) (truth : Bool)
    → fold-Expr X step (e.Truth truth) ≡ step (f.Truth truth)
fold-Truth_expr {X} step truth = ap (fold-Expr X step) (sym (rolls-Truth truth)) ∙ fold-roll-Expr X step (f.Truth truth)

pub fold-Name_expr : {X : Type 0} (step : Expr-F X → X) (name : Name)
    → fold-Expr X step (e.Name name) ≡ step (f.Name name)
fold-Name_expr {X} step name = ap (fold-Expr X step) (sym (rolls-Name name)) ∙ fold-roll-Expr X step (f.Name name)

pub fold-Read_expr : {X : Type 0} (step : Expr-F X → X) (field : Name) (index : List Expr)
    → fold-Expr X step (e.Read field index) ≡ step (f.Read field (map (fold-Expr X step) index))
fold-Read_expr {X} step field index = ap (fold-Expr X step) (sym (rolls-Read field index)) ∙ fold-roll-Expr X step (f.Read field index)

pub fold-Paren_expr : {X : Type 0} (step : Expr-F X → X) (inner : Expr)
    → fold-Expr X step (e.Paren inner) ≡ step (f.Paren (fold-Expr X step inner))
fold-Paren_expr {X} step inner = ap (fold-Expr X step) (sym (rolls-Paren inner)) ∙ fold-roll-Expr X step (f.Paren inner)

pub fold-Un_expr : {X : Type 0} (step : Expr-F X → X) (op : UnOp) (operand : Expr)
    → fold-Expr X step (e.Un op operand) ≡ step (f.Un op (fold-Expr X step operand))
fold-Un_expr {X} step op operand = ap (fold-Expr X step) (sym (rolls-Un op operand)) ∙ fold-roll-Expr X step (f.Un op operand)

pub fold-Bin_expr : {X : Type 0} (step : Expr-F X → X) (op : BinOp) (left right : Expr)
    → fold-Expr X step (e.Bin op left right) ≡ step (f.Bin op (fold-Expr X step left) (fold-Expr X step right))
fold-Bin_expr {X} step op left right = ap (fold-Expr X step) (sym (rolls-Bin op left right)) ∙ fold-roll-Expr X step (f.Bin op left right)

pub fold-Call_expr : {X : Type 0} (step : Expr-F X → X) (callee : Callee) (arguments : List Expr)
    → fold-Expr X step (e.Call callee arguments) ≡ step (f.Call callee (map (fold-Expr X step) arguments))
fold-Call_expr {X} step callee arguments = ap (fold-Expr X step) (sym (rolls-Call callee arguments)) ∙ fold-roll-Expr X step (f.Call callee arguments)

pub fold-Active_expr : {X : Type 0} (step : Expr-F X → X) (field : Name) (index : List Expr)
    → fold-Expr X step (e.Active field index) ≡ step (f.Active field (map (fold-Expr X step) index))
fold-Active_expr {X} step field index = ap (fold-Expr X step) (sym (rolls-Active field index)) ∙ fold-roll-Expr X step (f.Active field index)

pub fold-Let_stmt : {X : Type 0} (step : Stmt-F X → X) (name : Name) (value : Expr)
    → fold-Stmt X step (s.Let name value) ≡ step (g.Let name value)
fold-Let_stmt {X} step name value = ap (fold-Stmt X step) (sym (rolls-Let name value)) ∙ fold-roll-Stmt X step (g.Let name value)

pub fold-Assign_stmt : {X : Type 0} (step : Stmt-F X → X) (name : Name) (value : Expr)
    → fold-Stmt X step (s.Assign name value) ≡ step (g.Assign name value)
fold-Assign_stmt {X} step name value = ap (fold-Stmt X step) (sym (rolls-Assign name value)) ∙ fold-roll-Stmt X step (g.Assign name value)

pub fold-Write_stmt : {X : Type 0} (step : Stmt-F X → X) (field : Name) (index : List Expr) (how : WayDecl) (value : Expr)
    → fold-Stmt X step (s.Write field index how value) ≡ step (g.Write field index how value)
fold-Write_stmt {X} step field index how value = ap (fold-Stmt X step) (sym (rolls-Write field index how value)) ∙ fold-roll-Stmt X step (g.Write field index how value)

pub fold-If_stmt : {X : Type 0} (step : Stmt-F X → X) (condition : Expr) (then : List Stmt)
    → fold-Stmt X step (s.If condition then None) ≡ step (g.If condition (map (fold-Stmt X step) then) None)
fold-If_stmt {X} step condition then = ap (fold-Stmt X step) (sym (rolls-If condition then None)) ∙ fold-roll-Stmt X step (g.If condition then None)

pub fold-If_else_stmt : {X : Type 0} (step : Stmt-F X → X) (condition : Expr) (then otherwise : List Stmt)
    → fold-Stmt X step (s.If condition then (Some otherwise))
    ≡ step (g.If condition (map (fold-Stmt X step) then) (Some (map (fold-Stmt X step) otherwise)))
fold-If_else_stmt {X} step condition then otherwise =
    ap (fold-Stmt X step) (sym (rolls-If condition then (Some otherwise))) ∙ fold-roll-Stmt X step (g.If condition then (Some otherwise))

pub fold-For_stmt : {X : Type 0} (step : Stmt-F X → X) (name : Name) (range : RangeDecl) (body : List Stmt)
    → fold-Stmt X step (s.For name range body) ≡ step (g.For name range (map (fold-Stmt X step) body))
fold-For_stmt {X} step name range body = ap (fold-Stmt X step) (sym (rolls-For name range body)) ∙ fold-roll-Stmt X step (g.For name range body)

pub fold-Load_command : {X : Type 0} (step : Command-F X → X) (field : Name)
    → fold-Command X step (c.Load field) ≡ step (h.Load field)
fold-Load_command {X} step field = ap (fold-Command X step) (sym (rolls-Load field)) ∙ fold-roll-Command X step (h.Load field)

pub fold-Run_command : {X : Type 0} (step : Command-F X → X) (kernel : Name)
    → fold-Command X step (c.Run kernel) ≡ step (h.Run kernel)
fold-Run_command {X} step kernel = ap (fold-Command X step) (sym (rolls-Run kernel)) ∙ fold-roll-Command X step (h.Run kernel)

pub fold-Times_command : {X : Type 0} (step : Command-F X → X) (number : ℕ) (body : List Command)
    → fold-Command X step (c.Times number body) ≡ step (h.Times number (map (fold-Command X step) body))
fold-Times_command {X} step number body = ap (fold-Command X step) (sym (rolls-Times number body)) ∙ fold-roll-Command X step (h.Times number body)

pub fold-Dump_command : {X : Type 0} (step : Command-F X → X) (field : Name)
    → fold-Command X step (c.Dump field) ≡ step (h.Dump field)
fold-Dump_command {X} step field = ap (fold-Command X step) (sym (rolls-Dump field)) ∙ fold-roll-Command X step (h.Dump field)

pub fold-Image_command : {X : Type 0} (step : Command-F X → X) (field : Name) (lo hi : ℤ)
    → fold-Command X step (c.Image field lo hi) ≡ step (h.Image field lo hi)
fold-Image_command {X} step field lo hi = ap (fold-Command X step) (sym (rolls-Image field lo hi)) ∙ fold-roll-Command X step (h.Image field lo hi)

pub fold-Stats_command : {X : Type 0} (step : Command-F X → X) (layout : Name)
    → fold-Command X step (c.Stats layout) ≡ step (h.Stats layout)
fold-Stats_command {X} step layout = ap (fold-Command X step) (sym (rolls-Stats layout)) ∙ fold-roll-Command X step (h.Stats layout)

pub fold-Prune_command : {X : Type 0} (step : Command-F X → X) (layout : Name)
    → fold-Command X step (c.Prune layout) ≡ step (h.Prune layout)
fold-Prune_command {X} step layout = ap (fold-Command X step) (sym (rolls-Prune layout)) ∙ fold-roll-Command X step (h.Prune layout)

pub fold-Clear_command : {X : Type 0} (step : Command-F X → X) (layout : Name)
    → fold-Command X step (c.Clear layout) ≡ step (h.Clear layout)
fold-Clear_command {X} step layout = ap (fold-Command X step) (sym (rolls-Clear layout)) ∙ fold-roll-Command X step (h.Clear layout)

-- all of them, to compute with
pub ruleset fold_equations = (
  fold-Number_expr,
  fold-Truth_expr,
  fold-Name_expr,
  fold-Read_expr,
  fold-Paren_expr,
  fold-Un_expr,
  fold-Bin_expr,
  fold-Call_expr,
  fold-Active_expr,
  fold-Let_stmt,
  fold-Assign_stmt,
  fold-Write_stmt,
  fold-If_stmt,
  fold-If_else_stmt,
  fold-For_stmt,
  fold-Load_command,
  fold-Run_command,
  fold-Times_command,
  fold-Dump_command,
  fold-Image_command,
  fold-Stats_command,
  fold-Prune_command,
  fold-Clear_command,
)
