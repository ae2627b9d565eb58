-- Constant expressions, the turns of inner loops, and the size of boxes.
use Rattle.std.specs.Prelude.{◌≡◌, refl, ℕ, ◌*◌, Bool, true, false, ◌&&◌, if◌then◌else◌, nat_le, ℤ, pos, negsuc, ◌-ℤ◌, List, [], ◌∷◌}
use Rattle.sg_words.specs.declared.operators.Ty.TheVariants as ty
use Rattle.sg_words.specs.Words.{number}
use Rattle.sg_layout.specs.Axes.{count_of}
use Rattle.sg_flat.specs.declared.effects.Domain.{Domain}
use Rattle.sg_flat.specs.declared.effects.Domain.TheVariants.{Walk, Range}
use Rattle.sg_types.specs.declared.typed.TypedExpr.{TypedExpr, fold-TypedExpr}
use Rattle.sg_types.specs.declared.typed.Form.TheOpen as f
use Rattle.sg_types.specs.declared.typed.Form.TheOpen.{Form-F}
use Rattle.sg_types.specs.declared.typed.TypedRange.{TypedRange}
use Rattle.sg_types.specs.declared.typed.TypedKernel.{TypedKernel}
use Rattle.sg_types.specs.Values.{World, expr_word}
use Rattle.sg_types.specs.Iterations.{before_all, domain_of}

-- one layer of an expression, where it is known of each part whether it is constant
abbrev pub constant_step : Form-F Bool Bool → Bool
constant_step (f.Literal word) = true
constant_step (f.Constant word) = true
constant_step (f.Var var) = false
constant_step (f.Read layout place index) = false
constant_step (f.Paren inner) = inner
constant_step (f.Un op operand) = operand
constant_step (f.Bin op left right) = left && right
constant_step (f.Mulq a b s) = a && (b && s)
constant_step (f.Convert inner) = inner
constant_step (f.Active layout index) = false

-- an expression without variables, reads and questions
abbrev pub is_constant : TypedExpr → Bool
is_constant = fold-TypedExpr Bool Bool constant_step (λ expr. expr.form)

-- a range of which both bounds are constant
abbrev pub is_constant_range : TypedRange → Bool
is_constant_range range = is_constant range.lo && is_constant range.hi

-- a world with nothing in it, in which constant expressions have their words
abbrev pub nowhere : World
nowhere = record { shapes = []; state = record { layouts = [] } }

-- the word of a constant expression
abbrev pub constant_word : TypedExpr → ℕ
constant_word = expr_word nowhere before_all

-- how many numbers a range of constant bounds has
abbrev pub turns_of : TypedRange → ℕ
turns_of range = count_of (number ty.I32 (constant_word range.hi) -ℤ number ty.I32 (constant_word range.lo))

-- how many turns loops in one another make in all
abbrev pub turns_over : List TypedRange → ℕ
turns_over [] = 1
turns_over (range ∷ ranges) = turns_of range * turns_over ranges

-- the walked layout, or the box of the bounds' values, where the bounds are constant
abbrev pub constant_domain : TypedKernel → Domain
constant_domain kernel = domain_of nowhere kernel.domain

-- the length of one side of a box; 1 on an axis that isn't there
abbrev pub side_of : Bool → ℤ → ℤ → ℕ
side_of used lo hi = if used then count_of (hi -ℤ lo) else 1

-- how many points a box has; none are counted where a layout is walked
abbrev pub box_size : Domain → ℕ
box_size (Walk layout) = 0
box_size (Range lo hi) = side_of (nat_le 1 lo.n) lo.a hi.a * (side_of (nat_le 2 lo.n) lo.b hi.b * side_of (nat_le 3 lo.n) lo.c hi.c)

three_by_two : box_size (Range (record { n = 2; a = negsuc 0; b = pos 1; c = pos 0 }) (record { n = 2; a = pos 2; b = pos 3; c = pos 0 })) ≡ 6
three_by_two = refl

empty_side : box_size (Range (record { n = 2; a = pos 0; b = pos 5; c = pos 0 }) (record { n = 2; a = pos 2147483647; b = pos 5; c = pos 0 })) ≡ 0
empty_side = refl
