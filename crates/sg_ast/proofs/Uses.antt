-- What other crates may use of these proofs: that names of the same bytes are the same, what the words on trees are at each
-- variant, cases and induction over trees, and that an item in front is the first item of a token list.
pub mod Names
pub mod Folds
pub mod Exprs
pub mod Stmts
pub mod Commands
pub use Rattle.sg_ast.proofs.Uses.Names.{same_name-is, same_name-self, same_name-symm}
pub use Rattle.sg_ast.proofs.Uses.Folds.{fold-Number_expr, fold-Truth_expr, fold-Name_expr, fold-Read_expr, fold-Paren_expr, fold-Un_expr, fold-Bin_expr, fold-Call_expr, fold-Active_expr}
pub use Rattle.sg_ast.proofs.Uses.Folds.{fold-Let_stmt, fold-Assign_stmt, fold-Write_stmt, fold-If_stmt, fold-If_else_stmt, fold-For_stmt, fold-Load_command, fold-Run_command}
pub use Rattle.sg_ast.proofs.Uses.Folds.{fold-Times_command, fold-Dump_command, fold-Image_command, fold-Stats_command, fold-Prune_command, fold-Clear_command, fold_equations}
pub use Rattle.sg_ast.proofs.Uses.Exprs.{tokens_of-Number, tokens_of-Truth, tokens_of-Name, tokens_of-Read, tokens_of-Paren, tokens_of-Un, tokens_of-Bin, tokens_of-Call, tokens_of-Active}
pub use Rattle.sg_ast.proofs.Uses.Exprs.{depth-Number, depth-Truth, depth-Name, depth-Read, depth-Paren, depth-Un, depth-Bin, depth-Call, depth-Active}
pub use Rattle.sg_ast.proofs.Uses.Exprs.{level-Number, level-Truth, level-Name, level-Read, level-Paren, level-Un, level-Bin, level-Call, level-Active}
pub use Rattle.sg_ast.proofs.Uses.Exprs.{levelled-Number, levelled-Truth, levelled-Name, levelled-Read, levelled-Paren, levelled-Un, levelled-Bin, levelled-Call, levelled-Active}
pub use Rattle.sg_ast.proofs.Uses.Exprs.{is_formed-Number, is_formed-Truth, is_formed-Name, is_formed-Read, is_formed-Paren, is_formed-Un, is_formed-Bin, is_formed-Call, is_formed-Active}
pub use Rattle.sg_ast.proofs.Uses.Exprs.{expr_equations, op_level-left_needs, op_level-un_level, by_variant, depth_some, by_exprs}
pub use Rattle.sg_ast.proofs.Uses.Stmts.{stmt_tokens-Let, stmt_tokens-Assign, stmt_tokens-Write, stmt_tokens-If, stmt_tokens-For, stmt_nesting-Let, stmt_nesting-Assign, stmt_nesting-Write}
pub use Rattle.sg_ast.proofs.Uses.Stmts.{stmt_nesting-If, stmt_nesting-For, is_stmt-Let, is_stmt-Assign, is_stmt-Write, is_stmt-If, is_stmt-For, stmt_equations}
pub use Rattle.sg_ast.proofs.Uses.Stmts.{by_stmt_variant, AllInElse, by_statements}
pub use Rattle.sg_ast.proofs.Uses.Commands.{command_tokens-Load, command_tokens-Run, command_tokens-Times, command_tokens-Dump, command_tokens-Image, command_tokens-Stats, command_tokens-Prune, command_tokens-Clear}
pub use Rattle.sg_ast.proofs.Uses.Commands.{is_simple-Load, is_simple-Run, is_simple-Times, is_simple-Dump, is_simple-Image, is_simple-Stats, is_simple-Prune, is_simple-Clear}
pub use Rattle.sg_ast.proofs.Uses.Commands.{is_command-Load, is_command-Run, is_command-Times, is_command-Dump, is_command-Image, is_command-Stats, is_command-Prune, is_command-Clear}
pub use Rattle.sg_ast.proofs.Uses.Commands.{command_equations, by_command_variant}
pub use Rattle.sg_ast.proofs.ItemCuts.{cut_by-item}
