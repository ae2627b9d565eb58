-- Which expressions are clean, and which variables are dirty: from the text alone, clean is what no write of the kernel can change.
use Rattle.std.specs.Prelude.{ℕ, zero, suc, Bool, true, false, not, ◌&&◌, ◌==◌, List, [], ◌∷◌, map, length}
use Rattle.std.specs.List.{list_all, list_any, filter, flat_map}
use Rattle.sg_types.specs.declared.typed.TypedExpr.{TypedExpr, fold-TypedExpr}
use Rattle.sg_types.specs.declared.typed.Form.TheOpen as f
use Rattle.sg_types.specs.declared.typed.Form.TheOpen.{Form-F}
use Rattle.sg_admit.specs.Lines.{Deed, Sets, Writes, Tests, Turns, Opens, Around, Line}

-- what a clean expression doesn't read: fields, by layout and place, and variables
pub record Unclean : Type 0 where
  pub fields : ℕ → ℕ → Bool
  pub vars : ℕ → Bool

-- one layer of an expression, where it is known of each part whether it is clean
abbrev pub clean_step : Unclean → Form-F Bool Bool → Bool
clean_step unclean (f.Literal word) = true
clean_step unclean (f.Constant word) = true
clean_step unclean (f.Var var) = not (unclean.vars var)
clean_step unclean (f.Read layout place index) = not (unclean.fields layout place) && list_all (λ clean. clean) index
clean_step unclean (f.Paren inner) = inner
clean_step unclean (f.Un op operand) = operand
clean_step unclean (f.Bin op left right) = left && right
clean_step unclean (f.Mulq a b s) = a && (b && s)
clean_step unclean (f.Convert inner) = inner
clean_step unclean (f.Active layout index) = list_all (λ clean. clean) index

-- An expression that reads no field and no variable which isn't clean. Any layout may be asked by `active`: no write changes the answer.
abbrev pub is_clean : Unclean → TypedExpr → Bool
is_clean unclean = fold-TypedExpr Bool Bool (clean_step unclean) (λ expr. expr.form)

-- a statement by itself writes the field at this place of this layout
abbrev pub deed_writes : ℕ → ℕ → Deed → Bool
deed_writes layout place (Sets var value) = false
deed_writes layout place (Writes at_layout at_place index way value) = (at_layout == layout) && (at_place == place)
deed_writes layout place (Tests condition) = false
deed_writes layout place (Turns var range) = false
deed_writes layout place (Opens ranges) = false

-- the fields that a line writes
abbrev pub writes_field : List Line → ℕ → ℕ → Bool
writes_field lines layout place = list_any (λ line. deed_writes layout place line.deed) lines

-- a place where a variable gets a word, and the expressions on which it hangs whether it does and which
pub record Giving : Type 0 where
  pub var : ℕ
  pub hangs_on : List TypedExpr

-- A `let` or an assignment depends on its value and the conditions round it. The variable of an inner loop depends on the conditions
-- alone: where one of them isn't clean, the loop stands in no address slice.
abbrev pub givings_of : Around → Deed → List Giving
givings_of around (Sets var value) = record { var = var; hangs_on = value ∷ around.conditions } ∷ []
givings_of around (Writes layout place index way value) = []
givings_of around (Tests condition) = []
givings_of around (Turns var range) = record { var = var; hangs_on = around.conditions } ∷ []
givings_of around (Opens ranges) = []

-- if the lines give a variable a word, in order; the variables of the kernel's own loop are given by none
abbrev pub givings : List Line → List Giving
givings lines = flat_map (λ line. givings_of line.around line.deed) lines

-- the given fields, and the variables of a list
abbrev pub unclean_with : (ℕ → ℕ → Bool) → List ℕ → Unclean
unclean_with fields dirty = record { fields = fields; vars = λ var. list_any (λ it. it == var) dirty }

-- all that a giving depends on is clean; true if it depends on nothing
abbrev pub is_clean_giving : Unclean → Giving → Bool
is_clean_giving unclean giving = list_all (is_clean unclean) giving.hangs_on

-- the variables that get a word from what isn't clean, where these are dirty already
abbrev pub next_dirty : (ℕ → ℕ → Bool) → List Giving → List ℕ → List ℕ
next_dirty fields all dirty = map (λ giving. giving.var) (filter (λ giving. not (is_clean_giving (unclean_with fields dirty) giving)) all)

-- a step as often as the number says
abbrev pub times_over : {A : Type 0} → ℕ → (A → A) → A → A
times_over zero step from = from
times_over (suc n) step from = step (times_over n step from)

-- The dirty variables: a pass over all that give one, as many times as there are such. This is the least set that has each variable
-- that gets a word from what isn't clean. The code goes from each to those that depend on it, and looks at none twice.
abbrev pub dirty_among : (ℕ → ℕ → Bool) → List Giving → List ℕ
dirty_among fields all = times_over (length all) (next_dirty fields all) []

-- what isn't clean in a kernel of these lines
abbrev pub unclean_in : List Line → Unclean
unclean_in lines = unclean_with (writes_field lines) (dirty_among (writes_field lines) (givings lines))
