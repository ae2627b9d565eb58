-- What other crates use of typed kernels: what folds, values and actions are at each form of expression and kind of statement, ways of
-- writing, and induction over expressions and statements.
pub mod Folds
pub mod Inductions
-- any fold, at each form and kind, and all of these to compute with
pub use Rattle.sg_types.proofs.Uses.Folds.{fold-Literal, fold-Constant, fold-Var, fold-Read, fold-Paren, fold-Un, fold-Bin, fold-Mulq, fold-Convert, fold-Active, expr_folds}
pub use Rattle.sg_types.proofs.Uses.Folds.{fold-Let, fold-Assign, fold-Write, fold-If, fold-For, stmt_folds}
-- the word of an expression at each form, and what a statement does at each kind
pub use Rattle.sg_types.proofs.FormWords.{value-Literal, value-Constant, value-Var, value-Read, value-Paren, value-Un, value-Bin, value-Mulq, value-Convert, value-Active}
pub use Rattle.sg_types.proofs.FormWords.{action-Let, action-Assign, action-Write, action-If, action-For, effect_equations}
-- ways of writing that are counted as one
pub use Rattle.sg_types.proofs.Texts.{same_way_is}
-- a claim on every expression or statement, from the claim on each form or kind if it holds of the parts
pub use Rattle.sg_types.proofs.Uses.Inductions.{by_exprs, all_exprs, by_stmts, all_stmts}
