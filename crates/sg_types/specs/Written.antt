-- The writes that stand in the text of a kernel.
use Rattle.std.specs.Prelude.{ℕ, Bool, true, false, ◌&&◌, ◌==◌, List, [], ◌∷◌, ◌++◌, map, length}
use Rattle.std.specs.List.{list_any}
use Rattle.sg_ast.specs.Stmt.{joined_lists}
use Rattle.sg_words.specs.declared.operators.AccOp.{AccOp}
use Rattle.sg_words.specs.declared.operators.AccOp.TheVariants as acc
use Rattle.sg_flat.specs.declared.effects.Way.{Way}
use Rattle.sg_flat.specs.declared.effects.Way.TheVariants.{Own, Acc}
use Rattle.sg_flat.specs.declared.effects.Write.{Write}
use Rattle.sg_types.specs.declared.typed.TypedKind.TheOpen as k
use Rattle.sg_types.specs.declared.typed.TypedKind.TheOpen.{TypedKind-F}
use Rattle.sg_types.specs.declared.typed.TypedStmt.{TypedStmt, fold-TypedStmt}
use Rattle.sg_types.specs.declared.typed.TypedKernel.{TypedKernel}

-- a statement that writes: its number, the field by layout and place, how many indices it has, and how it joins its value
pub record TextWrite : Type 0 where
  pub stmt : ℕ
  pub layout : ℕ
  pub place : ℕ
  pub indices : ℕ
  pub way : Way

-- one layer of a statement, where the writes in the statements in it are given
abbrev pub writes_step : TypedKind-F (ℕ → List TextWrite) (List TextWrite) → ℕ → List TextWrite
writes_step (k.Let var value) stmt = []
writes_step (k.Assign var value) stmt = []
writes_step (k.Write layout place index way value) stmt = record { stmt = stmt; layout = layout; place = place; indices = length index; way = way } ∷ []
writes_step (k.If condition block otherwise has_else) stmt = joined_lists block ++ joined_lists otherwise
writes_step (k.For var range body) stmt = joined_lists body

-- the writes that stand in a statement
abbrev pub text_writes : TypedStmt → List TextWrite
text_writes = fold-TypedStmt (ℕ → List TextWrite) (List TextWrite) writes_step (λ stmt. stmt.kind stmt.number)

-- the writes that stand in the text of a kernel
abbrev pub kernel_writes : TypedKernel → List TextWrite
kernel_writes kernel = joined_lists (map text_writes kernel.body)

-- two accumulations are one
abbrev pub same_acc : AccOp → AccOp → Bool
same_acc acc.Add acc.Add = true
same_acc acc.Min acc.Min = true
same_acc acc.Max acc.Max = true
same_acc acc.Or acc.Or = true
same_acc acc.And acc.And = true
same_acc acc.Xor acc.Xor = true
same_acc _ _ = false

-- two ways of writing are one
abbrev pub same_way : Way → Way → Bool
same_way Own Own = true
same_way (Acc x) (Acc y) = same_acc x y
same_way _ _ = false

-- a write is one of a statement that writes: of its number, to its field, with as many parts as it has indices, in its way
abbrev pub is_write_of : Write → TextWrite → Bool
is_write_of write text =
    ((write.stmt == text.stmt) && ((write.layout == text.layout) && (write.place == text.place)))
    && ((write.at.n == text.indices) && same_way write.way text.way)

-- a write of an iteration is one of those in the text
abbrev pub is_written : List TextWrite → Write → Bool
is_written texts write = list_any (is_write_of write) texts
