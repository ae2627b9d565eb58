-- A program has no more statements, variables and items than tokens.
use Rattle.std.proofs.Common.{◌≡◌, ℕ, zero, suc, ◌+◌, ◌≤◌, ◌<◌, ◌++◌, get_or, List, [], ◌∷◌, map, length, Option, Some, None, option_map, ap, length-append, arith}
use Rattle.std.specs.List.{AllByRecursion}
use Rattle.sg_ast.specs.declared.token.Name.{Name}
use Rattle.sg_ast.specs.declared.token.Word.TheVariants as w
use Rattle.sg_ast.specs.declared.token.Sign.TheVariants as s
use Rattle.sg_ast.specs.declared.token.Token.{Token}
use Rattle.sg_ast.specs.declared.token.Token.TheVariants as t
use Rattle.sg_ast.specs.declared.expr.Expr.{Expr}
use Rattle.sg_ast.specs.declared.stmt.WayDecl.{WayDecl}
use Rattle.sg_ast.specs.declared.stmt.RangeDecl.{RangeDecl}
use Rattle.sg_ast.specs.declared.stmt.Stmt.{Stmt}
use Rattle.sg_ast.specs.declared.stmt.Stmt.TheVariants as stmt
use Rattle.sg_ast.specs.declared.kernel.KernelDecl.{KernelDecl}
use Rattle.sg_ast.specs.declared.command.Command.{Command}
use Rattle.sg_ast.specs.declared.program.Item.{Item}
use Rattle.sg_ast.specs.declared.program.Item.TheVariants as item
use Rattle.sg_ast.specs.Expr.{tokens_of, access_tokens, each_more}
use Rattle.sg_ast.specs.Stmt.{joined_lists, stmt_tokens, block_tokens, way_tokens, range_tokens, else_tokens}
use Rattle.sg_ast.specs.Layout.{names_tokens}
use Rattle.sg_ast.specs.Kernel.{kernel_tokens, domain_tokens}
use Rattle.sg_ast.specs.Command.{command_tokens}
use Rattle.sg_ast.specs.Program.{item_tokens}
use Rattle.sg_ast.proofs.Uses.{stmt_tokens-Let, stmt_tokens-Assign, stmt_tokens-Write, stmt_tokens-If, stmt_tokens-For, by_command_variant, command_tokens-Load, command_tokens-Run, command_tokens-Times, command_tokens-Dump, command_tokens-Image, command_tokens-Stats, command_tokens-Prune, command_tokens-Clear, AllInElse, by_statements}
use Rattle.sg_types.specs.Counting.{stmt_count, block_count, else_count}
use Rattle.sg_types.specs.steps.Sizes.{kernel_size, item_size}
use Rattle.sg_types.proofs.StmtWords.{count-Let, count-Assign, count-Write, count-If, count-For}

-- a statement has a token for itself and each one in it
abbrev IsLong : Stmt → Type 0
IsLong statement = stmt_count statement ≤ length (stmt_tokens statement)

joined_long : (block : List Stmt) → AllByRecursion IsLong block → block_count block ≤ length (joined_lists (map stmt_tokens block))
joined_long [] all = omega arith
joined_long (statement ∷ more) all =
    omega (arith, all.0, joined_long more all.1, length-append (stmt_tokens statement) (joined_lists (map stmt_tokens more)))

braced_long : (block : List Stmt) → AllByRecursion IsLong block → block_count block ≤ length (block_tokens block)
braced_long block all = omega (arith, joined_long block all, length-append (joined_lists (map stmt_tokens block)) (t.Sign s.CloseBrace ∷ []))

else_long : (otherwise : Option (List Stmt)) → AllInElse IsLong otherwise → else_count otherwise ≤ length (else_tokens (option_map (map stmt_tokens) otherwise))
else_long None all = omega arith
else_long (Some block) all = omega (arith, braced_long block all)

if_long : (condition : Expr) (block : List Stmt) (otherwise : Option (List Stmt)) → AllByRecursion IsLong block → AllInElse IsLong otherwise → IsLong (stmt.If condition block otherwise)
if_long condition block otherwise all else_all =
    let rest = block_tokens block ++ else_tokens (option_map (map stmt_tokens) otherwise) in
    let tokens = ap (λ (xs : List Token). length xs) (stmt_tokens-If condition block otherwise) in
    omega (
      arith,
      tokens,
      count-If condition block otherwise,
      braced_long block all,
      else_long otherwise else_all,
      length-append (tokens_of condition) rest,
      length-append (block_tokens block) (else_tokens (option_map (map stmt_tokens) otherwise)),
    )

for_long : (name : Name) (range : RangeDecl) (body : List Stmt) → AllByRecursion IsLong body → IsLong (stmt.For name range body)
for_long name range body all =
    let tokens = ap (λ (xs : List Token). length xs) (stmt_tokens-For name range body) in
    omega (arith, tokens, count-For name range body, braced_long body all, length-append (range_tokens range) (block_tokens body))

write_long : (field : Name) (index : List Expr) (how : WayDecl) (value : Expr) → IsLong (stmt.Write field index how value)
write_long field index how value =
    let tokens = ap (λ (xs : List Token). length xs) (stmt_tokens-Write field index how value) in
    omega (
      arith,
      tokens,
      count-Write field index how value,
      length-append (access_tokens field (map tokens_of index)) (way_tokens how ++ (tokens_of value ++ t.Sign s.Semicolon ∷ [])),
    )

long : (statement : Stmt) → IsLong statement
long = by_statements IsLong
    (λ name value. let tokens = ap (λ (xs : List Token). length xs) (stmt_tokens-Let name value) in omega (arith, tokens, count-Let name value))
    (λ name value. let tokens = ap (λ (xs : List Token). length xs) (stmt_tokens-Assign name value) in omega (arith, tokens, count-Assign name value))
    write_long if_long for_long

all_long : (block : List Stmt) → AllByRecursion IsLong block
all_long [] = tt
all_long (statement ∷ more) = (long statement, all_long more)

more_names : (names : List Name) → length names ≤ length (each_more (map (λ name. t.Name name ∷ []) names))
more_names [] = omega arith
more_names (name ∷ names) = omega (arith, more_names names)

names_long : (names : List Name) → length names ≤ length (names_tokens names)
names_long [] = omega arith
names_long (name ∷ names) = omega (arith, more_names names)

kernel_long : (kernel : KernelDecl) → kernel_size kernel + 1 ≤ length (kernel_tokens kernel)
kernel_long kernel =
    let behind = domain_tokens kernel.domain ++ (block_tokens kernel.body ++ t.Sign s.CloseBrace ∷ []) in
    omega (
      arith,
      names_long kernel.vars,
      braced_long kernel.body (all_long kernel.body),
      length-append (names_tokens kernel.vars) (t.Word w.In ∷ behind),
      length-append (domain_tokens kernel.domain) (block_tokens kernel.body ++ t.Sign s.CloseBrace ∷ []),
      length-append (block_tokens kernel.body) (t.Sign s.CloseBrace ∷ []),
    )

command_long : (command : Command) → 1 ≤ length (command_tokens command)
command_long = by_command_variant (λ command. 1 ≤ length (command_tokens command))
    (λ field. omega (arith, ap (λ (xs : List Token). length xs) (command_tokens-Load field)))
    (λ kernel. omega (arith, ap (λ (xs : List Token). length xs) (command_tokens-Run kernel)))
    (λ number body. omega (arith, ap (λ (xs : List Token). length xs) (command_tokens-Times number body)))
    (λ field. omega (arith, ap (λ (xs : List Token). length xs) (command_tokens-Dump field)))
    (λ field lo hi. omega (arith, ap (λ (xs : List Token). length xs) (command_tokens-Image field lo hi)))
    (λ layout. omega (arith, ap (λ (xs : List Token). length xs) (command_tokens-Stats layout)))
    (λ layout. omega (arith, ap (λ (xs : List Token). length xs) (command_tokens-Prune layout)))
    (λ layout. omega (arith, ap (λ (xs : List Token). length xs) (command_tokens-Clear layout)))

item_long : (given : Item) → item_size given + 1 ≤ length (item_tokens given)
item_long (item.Const decl) = omega arith
item_long (item.Layout decl) = omega arith
item_long (item.Kernel kernel) = kernel_long kernel
item_long (item.Command command) = command_long command

-- as many items as tokens at most
pub items_within : (items : List Item) → length items ≤ length (joined_lists (map item_tokens items))
items_within [] = omega arith
items_within (given ∷ items) = omega (arith, item_long given, items_within items, length-append (item_tokens given) (joined_lists (map item_tokens items)))

-- each item is no larger than there are tokens
pub size_within : (items : List Item) (i : ℕ) (given : Item) → i < length items → given ≡ get_or items i given → item_size given ≤ length (joined_lists (map item_tokens items))
size_within [] i given h is = absurd (omega arith)
size_within (first ∷ items) zero given h is =
    let same = ap item_size is in
    omega (arith, same, item_long first, length-append (item_tokens first) (joined_lists (map item_tokens items)))
size_within (first ∷ items) (suc i) given h is =
    omega (arith, size_within items i given (omega arith) is, length-append (item_tokens first) (joined_lists (map item_tokens items)))
