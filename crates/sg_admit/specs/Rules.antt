-- The six rules of admission, each as a test of one line.
use Rattle.std.specs.Prelude.{ℕ, ◌+◌, ◌*◌, Bool, true, false, not, ◌&&◌, ◌||◌, ◌==◌, nat_le, List, [], ◌∷◌, ◌++◌, map, length, find, Option, Some, None, option_map}
use Rattle.std.specs.List.{list_all, list_any, flat_map}
use Rattle.sg_flat.specs.declared.effects.Way.{Way}
use Rattle.sg_types.specs.declared.typed.TypedExpr.{TypedExpr, fold-TypedExpr}
use Rattle.sg_types.specs.declared.typed.Form.TheOpen as f
use Rattle.sg_types.specs.declared.typed.Form.TheOpen.{Form-F, TypedExpr-F}
use Rattle.sg_types.specs.declared.typed.TypedRange.{TypedRange}
use Rattle.sg_types.specs.declared.typed.TypedKernel.{TypedKernel}
use Rattle.sg_types.specs.Values.{is_own}
use Rattle.sg_types.specs.Written.{same_way}
use Rattle.sg_admit.specs.declared.ways.FieldWay.{FieldWay}
use Rattle.sg_admit.specs.Limits.{most_loops, most_loop_turns}
use Rattle.sg_admit.specs.Lines.{Deed, Sets, Writes, Tests, Turns, Opens, Around, Line, kernel_lines}
use Rattle.sg_admit.specs.Clean.{Unclean, is_clean, unclean_in}
use Rattle.sg_admit.specs.Slices.{walked_by, may_activate}
use Rattle.sg_admit.specs.Bounds.{is_constant_range, turns_of, turns_over}

-- ---- how fields are written

-- the field that a statement by itself writes, with the way; none if it isn't a write
abbrev pub deed_ways : Deed → List FieldWay
deed_ways (Sets var value) = []
deed_ways (Writes layout place index way value) = record { layout = layout; place = place; way = way } ∷ []
deed_ways (Tests condition) = []
deed_ways (Turns var range) = []
deed_ways (Opens ranges) = []

-- the fields that lines write, with the way of each write, in the order of the lines
abbrev pub ways_in : List Line → List FieldWay
ways_in lines = flat_map (λ line. deed_ways line.deed) lines

-- a write is one of the field at this place of this layout
abbrev pub is_of_field : ℕ → ℕ → FieldWay → Bool
is_of_field layout place it = (it.layout == layout) && (it.place == place)

-- the way in which a field is written first
abbrev pub first_way : List FieldWay → ℕ → ℕ → Option Way
first_way ways layout place = option_map (λ it. it.way) (find (is_of_field layout place) ways)

-- a field is own-written, or accumulated, by one of the writes
abbrev pub has_own : List FieldWay → ℕ → ℕ → Bool
has_own ways layout place = list_any (λ it. is_of_field layout place it && is_own it.way) ways

-- a field is accumulated by one of the writes
abbrev pub has_acc : List FieldWay → ℕ → ℕ → Bool
has_acc ways layout place = list_any (λ it. is_of_field layout place it && not (is_own it.way)) ways

-- some field of a layout is written by one of the writes
abbrev pub writes_layout : List FieldWay → ℕ → Bool
writes_layout ways layout = list_any (λ (it : FieldWay). it.layout == layout) ways

-- What the rules look at: how each field is written, which layouts are written into, how many variables the kernel's loop has, the layout
-- that it walks, and what isn't clean.
pub record Facts : Type 0 where
  pub first : ℕ → ℕ → Option Way
  pub own : ℕ → ℕ → Bool
  pub acc : ℕ → ℕ → Bool
  pub written : ℕ → Bool
  pub vars : ℕ
  pub walked : Option ℕ
  pub unclean : Unclean

-- what the rules look at of a kernel, all of it known from its text
abbrev pub facts_of : TypedKernel → Facts
facts_of kernel = record {
  first = first_way (ways_in (kernel_lines kernel));
  own = has_own (ways_in (kernel_lines kernel));
  acc = has_acc (ways_in (kernel_lines kernel));
  written = writes_layout (ways_in (kernel_lines kernel));
  vars = kernel.vars;
  walked = walked_by kernel.domain;
  unclean = unclean_in (kernel_lines kernel);
}

-- ---- names and reads

-- one layer of an expression: the number of a variable that stands there alone
abbrev pub name_step : Form-F (Option ℕ) (Option ℕ) → Option ℕ
name_step (f.Literal word) = None
name_step (f.Constant word) = None
name_step (f.Var var) = Some var
name_step (f.Read layout place index) = None
name_step (f.Paren inner) = None
name_step (f.Un op operand) = None
name_step (f.Bin op left right) = None
name_step (f.Mulq a b s) = None
name_step (f.Convert inner) = None
name_step (f.Active layout index) = None

-- the variable that an expression is the bare name of; parentheses round it make it another expression
abbrev pub name_of : TypedExpr → Option ℕ
name_of = fold-TypedExpr (Option ℕ) (Option ℕ) name_step (λ expr. expr.form)

-- the bare name is that of this variable; false if there is no bare name
abbrev pub is_name_of : ℕ → Option ℕ → Bool
is_name_of var None = false
is_name_of var (Some name) = name == var

-- indices that are exactly the names of the loop's variables in order, from the given one up to below `vars`
abbrev pub are_names : ℕ → ℕ → List (Option ℕ) → Bool
are_names vars var [] = var == vars
are_names vars var (name ∷ names) = is_name_of var name && are_names vars (var + 1) names

-- a part of an expression: the variable that it is the name of, and whether each read in it is good
abbrev pub SeenPart : Type 0
SeenPart = Option ℕ × Bool

-- one layer of an expression, where a read is good by its field and whether its indices are the loop's variables
abbrev pub seen_step : ℕ → (ℕ → ℕ → Bool → Bool) → Form-F SeenPart SeenPart → SeenPart
seen_step vars good (f.Literal word) = (None, true)
seen_step vars good (f.Constant word) = (None, true)
seen_step vars good (f.Var var) = (Some var, true)
seen_step vars good (f.Read layout place index) =
    (None, good layout place (are_names vars 0 (map (λ part. part.0) index)) && list_all (λ part. part.1) index)
seen_step vars good (f.Paren inner) = (None, inner.1)
seen_step vars good (f.Un op operand) = (None, operand.1)
seen_step vars good (f.Bin op left right) = (None, left.1 && right.1)
seen_step vars good (f.Mulq a b s) = (None, a.1 && (b.1 && s.1))
seen_step vars good (f.Convert inner) = (None, inner.1)
seen_step vars good (f.Active layout index) = (None, list_all (λ part. part.1) index)

-- the variable that an expression is the bare name of, or none, and whether each read in it is good
abbrev pub reads_in : ℕ → (ℕ → ℕ → Bool → Bool) → TypedExpr → SeenPart
reads_in vars good = fold-TypedExpr SeenPart SeenPart (seen_step vars good) (λ expr. expr.form)

-- each read in an expression is good, those in indices too; true if it reads no field
abbrev pub has_good_reads : ℕ → (ℕ → ℕ → Bool → Bool) → TypedExpr → Bool
has_good_reads vars good expr = (reads_in vars good expr).1

-- the bounds of a range, the lower and then the upper
abbrev pub range_exprs : TypedRange → List TypedExpr
range_exprs range = range.lo ∷ range.hi ∷ []

-- the expressions of a statement, without those of the statements in it
abbrev pub deed_exprs : Deed → List TypedExpr
deed_exprs (Sets var value) = value ∷ []
deed_exprs (Writes layout place index way value) = index ++ value ∷ []
deed_exprs (Tests condition) = condition ∷ []
deed_exprs (Turns var range) = range_exprs range
deed_exprs (Opens ranges) = flat_map range_exprs ranges

-- ---- the rules

-- a write has the way in which its field is written first, or there is no such way
abbrev pub is_first : Option Way → Way → Bool
is_first None way = true
is_first (Some first) way = same_way first way

-- Rule 1: a field is written in one way, by own writes or by accumulations of one operator.
abbrev pub keeps_one_way : Facts → Deed → Bool
keeps_one_way facts (Sets var value) = true
keeps_one_way facts (Writes layout place index way value) = is_first (facts.first layout place) way
keeps_one_way facts (Tests condition) = true
keeps_one_way facts (Turns var range) = true
keeps_one_way facts (Opens ranges) = true

-- Rule 2: the indices of an own write are exactly the names of the loop's variables in order,
abbrev pub is_own_in_place : Facts → Deed → Bool
is_own_in_place facts (Sets var value) = true
is_own_in_place facts (Writes layout place index way value) = not (is_own way) || are_names facts.vars 0 (map name_of index)
is_own_in_place facts (Tests condition) = true
is_own_in_place facts (Turns var range) = true
is_own_in_place facts (Opens ranges) = true

-- and a field that the kernel own-writes is read only with exactly these.
abbrev pub is_own_read : Facts → ℕ → ℕ → Bool → Bool
is_own_read facts layout place named = not (facts.own layout place) || named

-- Rule 3: a field that the kernel accumulates isn't read.
abbrev pub is_unaccumulated : Facts → ℕ → ℕ → Bool → Bool
is_unaccumulated facts layout place named = not (facts.acc layout place)

-- each read in the expressions of a statement is good, without those of the statements in it
abbrev pub are_good_reads : Facts → (ℕ → ℕ → Bool → Bool) → Deed → Bool
are_good_reads facts good deed = list_all (has_good_reads facts.vars good) (deed_exprs deed)

-- Rule 4: each index of a write that may activate, and the condition of each `if` round it, is clean.
abbrev pub is_foreseen : Facts → Around → Deed → Bool
is_foreseen facts around (Sets var value) = true
is_foreseen facts around (Writes layout place index way value) =
    not (may_activate facts.walked layout way) || (list_all (is_clean facts.unclean) index && list_all (is_clean facts.unclean) around.conditions)
is_foreseen facts around (Tests condition) = true
is_foreseen facts around (Turns var range) = true
is_foreseen facts around (Opens ranges) = true

-- Rule 5: all bounds of ranges are constant, inner loops nest at most `most_loops` deep, and an inner loop with those round it makes at
-- most `most_loop_turns` turns.
abbrev pub is_bounded : Around → Deed → Bool
is_bounded around (Sets var value) = true
is_bounded around (Writes layout place index way value) = true
is_bounded around (Tests condition) = true
is_bounded around (Turns var range) =
    is_constant_range range && (nat_le (length around.ranges + 1) most_loops && nat_le (turns_of range * turns_over around.ranges) most_loop_turns)
is_bounded around (Opens ranges) = list_all is_constant_range ranges

-- one layer of an expression, where it is known of each part whether every layout that it asks may be asked
abbrev pub asks_step : (ℕ → Bool) → Form-F Bool Bool → Bool
asks_step good (f.Literal word) = true
asks_step good (f.Constant word) = true
asks_step good (f.Var var) = true
asks_step good (f.Read layout place index) = list_all (λ part. part) index
asks_step good (f.Paren inner) = inner
asks_step good (f.Un op operand) = operand
asks_step good (f.Bin op left right) = left && right
asks_step good (f.Mulq a b s) = a && (b && s)
asks_step good (f.Convert inner) = inner
asks_step good (f.Active layout index) = good layout && list_all (λ part. part) index

-- each `active` in an expression, those in indices too, asks a layout that may be asked; true if it has none
abbrev pub has_good_asks : (ℕ → Bool) → TypedExpr → Bool
has_good_asks good = fold-TypedExpr Bool Bool (asks_step good) (λ expr. expr.form)

-- a layout into which the kernel doesn't write
abbrev pub is_unwritten : Facts → ℕ → Bool
is_unwritten facts layout = not (facts.written layout)

-- Rule 6: a layout into which the kernel writes isn't asked by `active`.
abbrev pub asks_unwritten : Facts → Deed → Bool
asks_unwritten facts deed = list_all (has_good_asks (is_unwritten facts)) (deed_exprs deed)

-- which rules a line keeps, in their order
abbrev pub kept_by : Facts → Line → List Bool
kept_by facts line =
    keeps_one_way facts line.deed
    ∷ (is_own_in_place facts line.deed && are_good_reads facts (is_own_read facts) line.deed)
    ∷ are_good_reads facts (is_unaccumulated facts) line.deed
    ∷ is_foreseen facts line.around line.deed
    ∷ is_bounded line.around line.deed
    ∷ asks_unwritten facts line.deed ∷ []
