-- The value of an expression in an iteration.
use Rattle.std.specs.Prelude.{ℕ, Bool, true, false, ◌&&◌, ◌==◌, List, map, reverse, length, find, get_or, Option, Some, None}
use Rattle.sg_words.specs.declared.operators.Ty.{Ty}
use Rattle.sg_words.specs.declared.operators.Ty.TheVariants as ty
use Rattle.sg_words.specs.Words.{number, flag, applied, applied_un, mulq_of}
use Rattle.sg_coord.specs.declared.coord.Coord.{Coord}
use Rattle.sg_layout.specs.declared.shape.Shape.{Shape}
use Rattle.sg_flat.specs.declared.effects.Way.{Way}
use Rattle.sg_flat.specs.declared.effects.Way.TheVariants.{Own, Acc}
use Rattle.sg_flat.specs.declared.effects.Write.{Write}
use Rattle.sg_flat.specs.declared.state.FlatState.{FlatState}
use Rattle.sg_flat.specs.State as flat
use Rattle.sg_flat.specs.Domain.{is_active}
use Rattle.sg_types.specs.declared.typed.TypedExpr.{TypedExpr, fold-TypedExpr}
use Rattle.sg_types.specs.declared.typed.Form.TheOpen as f
use Rattle.sg_types.specs.declared.typed.Form.TheOpen.{Form-F, TypedExpr-F}

-- what all iterations of a run see: the layouts, and the state at the start
pub record World : Type 0 where
  pub shapes : List Shape
  pub state : FlatState

-- a moment of an iteration: the word of each variable by its number, and the writes so far in order
pub record Moment : Type 0 where
  pub words : ℕ → ℕ
  pub writes : List Write

-- the coordinate of index words, each read as I32; the parts that it doesn't use are 0
abbrev pub coord_of : List ℕ → Coord
coord_of words = record {
  n = length words;
  a = number ty.I32 (get_or words 0 0);
  b = number ty.I32 (get_or words 1 0);
  c = number ty.I32 (get_or words 2 0);
}

-- a write that is no contribution
abbrev pub is_own : Way → Bool
is_own Own = true
is_own (Acc op) = false

-- the last own write to a field among the writes so far
abbrev pub own_write : ℕ → ℕ → List Write → Option Write
own_write layout place writes =
    find (λ write. is_own write.way && ((write.layout == layout) && (write.place == place))) (reverse writes)

-- what a read gives: the last own value where this iteration has own-written the field, else the state's value
abbrev pub value_or_own : Option Write → ℕ → ℕ
value_or_own None value = value
value_or_own (Some write) value = write.value

-- what a read of a field gives in an iteration
abbrev pub read_word : World → Moment → ℕ → ℕ → Coord → ℕ
read_word world now layout place at = value_or_own (own_write layout place now.writes) (flat.value_of world.shapes world.state layout place at)

-- the type of an expression beside its word
abbrev pub TypedWord : Type 0
TypedWord = Ty × ℕ

-- One layer of an expression, where the type and the word of each part are given. An operator works in the type of its
-- left operand; a conversion leaves the word. What is active is asked of the state at the start, whatever was written.
abbrev pub value_step : World → Moment → Form-F ℕ TypedWord → ℕ
value_step world now (f.Literal word) = word
value_step world now (f.Constant word) = word
value_step world now (f.Var var) = now.words var
value_step world now (f.Read layout place index) = read_word world now layout place (coord_of (map (λ part. part.1) index))
value_step world now (f.Paren inner) = inner.1
value_step world now (f.Un op operand) = applied_un op operand.1
value_step world now (f.Bin op left right) = applied op left.0 left.1 right.1
value_step world now (f.Mulq a b s) = mulq_of a.1 b.1 s.1
value_step world now (f.Convert inner) = inner.1
value_step world now (f.Active layout index) = flag (is_active world.state layout (coord_of (map (λ part. part.1) index)))

-- the type of an expression and the word that it gives at a moment
abbrev pub typed_word : World → Moment → TypedExpr → TypedWord
typed_word world now = fold-TypedExpr ℕ TypedWord (value_step world now) (λ expr. (expr.ty, expr.form))

-- the word that an expression gives at a moment
abbrev pub expr_word : World → Moment → TypedExpr → ℕ
expr_word world now expr = (typed_word world now expr).1
