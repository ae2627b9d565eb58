-- The lines of each kind of statement, and what lines keep.
use Rattle.std.proofs.Common.{◌≡◌, ℕ, Bool, List, [], ◌∷◌, ◌++◌, ap}
use Rattle.std.specs.List.{AllByRecursion}
use Rattle.sg_flat.specs.declared.effects.Way.{Way}
use Rattle.sg_types.specs.declared.typed.TypedExpr.{TypedExpr}
use Rattle.sg_types.specs.declared.typed.TypedRange.{TypedRange}
use Rattle.sg_types.specs.declared.typed.TypedKind.TheVariants as kind
use Rattle.sg_types.specs.declared.typed.TypedKind.TheOpen.{TypedStmt-F}
use Rattle.sg_types.specs.declared.typed.TypedStmt.{TypedStmt}
use Rattle.sg_types.proofs.Uses as folds
use Rattle.sg_admit.specs.Lines.{Sets, Writes, Tests, Turns, Around, Line, line_of, within_if, within_loop, line_step, stmt_lines, block_lines}

abbrev its_lines : TypedStmt-F (ℕ → Around → List Line) (Around → List Line) → Around → List Line
its_lines stmt = stmt.kind stmt.number

pub lines-Let : (number var : ℕ) (value : TypedExpr) (around : Around) → stmt_lines (record { number = number; kind = kind.Let var value }) around ≡ line_of number around (Sets var value) ∷ []
lines-Let number var value around = ap (λ (f : Around → List Line). f around) (folds.fold-Let line_step its_lines number var value)

pub lines-Assign : (number var : ℕ) (value : TypedExpr) (around : Around) → stmt_lines (record { number = number; kind = kind.Assign var value }) around ≡ line_of number around (Sets var value) ∷ []
lines-Assign number var value around = ap (λ (f : Around → List Line). f around) (folds.fold-Assign line_step its_lines number var value)

pub lines-Write : (number layout place : ℕ) (index : List TypedExpr) (way : Way) (value : TypedExpr) (around : Around)
    → stmt_lines (record { number = number; kind = kind.Write layout place index way value }) around ≡ line_of number around (Writes layout place index way value) ∷ []
lines-Write number layout place index way value around = ap (λ (f : Around → List Line). f around) (folds.fold-Write line_step its_lines number layout place index way value)

pub lines-If : (number : ℕ) (condition : TypedExpr) (block otherwise : List TypedStmt) (has_else : Bool) (around : Around)
    → stmt_lines (record { number = number; kind = kind.If condition block otherwise has_else }) around
    ≡ line_of number around (Tests condition) ∷ (block_lines block (within_if condition around) ++ block_lines otherwise (within_if condition around))
lines-If number condition block otherwise has_else around = ap (λ (f : Around → List Line). f around) (folds.fold-If line_step its_lines number condition block otherwise has_else)

pub lines-For : (number var : ℕ) (range : TypedRange) (body : List TypedStmt) (around : Around)
    → stmt_lines (record { number = number; kind = kind.For var range body }) around ≡ line_of number around (Turns var range) ∷ block_lines body (within_loop range around)
lines-For number var range body around = ap (λ (f : Around → List Line). f around) (folds.fold-For line_step its_lines number var range body)

pub all_front : {X : Type 0} (P : X → Type 0) (xs ys : List X) → AllByRecursion P (xs ++ ys) → AllByRecursion P xs
all_front P [] ys h = tt
all_front P (x ∷ xs) ys h = (h.0, all_front P xs ys h.1)

pub all_back : {X : Type 0} (P : X → Type 0) (xs ys : List X) → AllByRecursion P (xs ++ ys) → AllByRecursion P ys
all_back P [] ys h = h
all_back P (x ∷ xs) ys h = all_back P xs ys h.1

pub all_mapped : {X : Type 0} (P Q : X → Type 0) → ((x : X) → P x → Q x) → (xs : List X) → AllByRecursion P xs → AllByRecursion Q xs
all_mapped P Q f [] h = tt
all_mapped P Q f (x ∷ xs) h = (f x h.0, all_mapped P Q f xs h.1)
