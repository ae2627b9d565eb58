-- The programs that the bytes of two worked files spell.
use Rattle.std.proofs.Common.{◌≡◌, ℕ, List, [], ◌∷◌, Some, None, Ok, false, refl}
use Rattle.std.specs.Prelude.{codes}
use Rattle.sg_words.specs.declared.operators.Ty.TheVariants as ty
use Rattle.sg_words.specs.declared.operators.AccOp.TheVariants as acc
use Rattle.sg_ast.specs.declared.token.Name.{Name}
use Rattle.sg_ast.specs.declared.expr.Expr.{Expr}
use Rattle.sg_ast.specs.declared.expr.Expr.TheVariants as e
use Rattle.sg_ast.specs.declared.stmt.WayDecl.TheVariants as way
use Rattle.sg_ast.specs.declared.stmt.Stmt.TheVariants as s
use Rattle.sg_ast.specs.declared.layout.LayoutDecl.{LayoutDecl}
use Rattle.sg_ast.specs.declared.layout.NodeKind.TheVariants as kind
use Rattle.sg_ast.specs.declared.layout.SizeDecl.TheVariants as size
use Rattle.sg_ast.specs.declared.kernel.DomainDecl.TheVariants as domain
use Rattle.sg_ast.specs.declared.kernel.KernelDecl.{KernelDecl}
use Rattle.sg_ast.specs.declared.command.Command.TheVariants as command
use Rattle.sg_ast.specs.declared.program.Item.TheVariants as item
use Rattle.sg_ast.specs.declared.program.Program.{Program}
use Rattle.sg_ast.specs.Token.{is_name, is_reserved}
use Rattle.sg_lexer.specs.Alphabet.{reserved_word, sign_at}
use Rattle.sg_lexer.specs.Lexing.{token_list, piece, run_token, name_token, number_token, number_as}
use Rattle.sg_parser.specs.Front.{comma_list_from, list_to_end_from}
use Rattle.sg_parser.specs.Parsed.{program_from}
use Rattle.sg_parser.specs.ReadExpr.{read_indices, read_name_expr, prefix, climb, expr_at}
use Rattle.sg_parser.specs.ReadStmt.{read_range, value_to_end, read_write, assign_or_write, statement, block_at}
use Rattle.sg_parser.specs.ReadItem.{read_item, read_layout, layout_head, layout_body, read_node, node_head, read_axis, read_field, read_bounds, read_named, read_domain, kernel_head, kernel_loop, read_kernel}
use Rattle.sg_session.specs.Compiling.{spelled_program}
use Rattle.sparsegrid.specs.WorkedRun.{inside_file, outside_file}

abbrev pub name : List ℕ → Name
name text = record { text = text }

abbrev pub number : ℕ → Expr
number value = e.Number value false

abbrev pub layout : LayoutDecl
layout = record {
  name = name (codes "A");
  axes = name (codes "i") ∷ [];
  nodes = record { kind = kind.Pointer; axes = record { name = name (codes "i"); size = size.Number 4 } ∷ []; chunk = None; cap = Some (size.Number 2) }
      ∷ record { kind = kind.Dense; axes = record { name = name (codes "i"); size = size.Number 2 } ∷ []; chunk = None; cap = None } ∷ [];
  fields = record { name = name (codes "x"); ty = ty.I32 } ∷ [];
}

-- the kernel that adds to the value at this place
abbrev pub kernel_to : ℕ → KernelDecl
kernel_to at = record {
  name = name (codes "k");
  vars = name (codes "p") ∷ [];
  domain = domain.Ranges (record { lo = number 0; hi = number 3 } ∷ []);
  body = s.Write (name (codes "x")) (number at ∷ []) (way.Acc acc.Add) (e.Name (name (codes "p"))) ∷ [];
}

abbrev pub program_to : ℕ → Program
program_to at = record {
  items = item.Layout layout ∷ item.Kernel (kernel_to at) ∷ item.Command (command.Run (name (codes "k"))) ∷ item.Command (command.Dump (name (codes "x"))) ∷ [];
  lines = 1 ∷ 2 ∷ 3 ∷ 4 ∷ [];
}

pub spelled_inside : spelled_program inside_file ≡ Ok (program_to 5)
unfolding spelled_program token_list piece run_token name_token number_token number_as reserved_word sign_at is_name is_reserved program_from read_item read_layout layout_head layout_body read_node node_head read_axis read_field read_bounds comma_list_from list_to_end_from read_named read_domain kernel_head kernel_loop read_kernel read_range value_to_end read_write assign_or_write statement block_at read_indices read_name_expr prefix climb expr_at
spelled_inside = refl

pub spelled_outside : spelled_program outside_file ≡ Ok (program_to 8)
unfolding spelled_program token_list piece run_token name_token number_token number_as reserved_word sign_at is_name is_reserved program_from read_item read_layout layout_head layout_body read_node node_head read_axis read_field read_bounds comma_list_from list_to_end_from read_named read_domain kernel_head kernel_loop read_kernel read_range value_to_end read_write assign_or_write statement block_at read_indices read_name_expr prefix climb expr_at
spelled_outside = refl
