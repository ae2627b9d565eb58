-- Worked equations.
use Rattle.std.specs.Prelude.{◌≡◌, refl, [], ◌∷◌, Some, None, pos, codes}
use Rattle.sg_ast.specs.declared.command.Command.TheOpen as c
use Rattle.sg_names.specs.Tables.{no_tables}
use Rattle.sg_grid.specs.declared.grid.GridFault.TheVariants as grid
use Rattle.sg_session.specs.declared.refusal.Refusal.TheVariants as refusal
use Rattle.sg_session.specs.declared.refusal.RunRefusal.TheVariants as run
use Rattle.sg_session.specs.declared.tasks.Task.TheVariants.{Run}
use Rattle.sg_session.specs.declared.tasks.Stage.TheVariants.{Once, Times}
use Rattle.sg_session.specs.CommandRules.{layer_refusal}
use Rattle.sg_session.specs.Commands.{grid_refusal}
use Rattle.sg_session.specs.Compiled.{unfolded_tasks}

-- `times 0` breaks a rule, `times 1000` doesn't, and `times 1001` passes the limit
no_turn : layer_refusal no_tables [] 3 (c.Times 0 []) ≡ Some (refusal.Command 3)
no_turn = refl

most_turns : layer_refusal no_tables [] 3 (c.Times 1000 []) ≡ None
most_turns = refl

one_turn_more : layer_refusal no_tables [] 3 (c.Times 1001 []) ≡ Some refusal.Times
one_turn_more = refl

-- an image of a field that has no layout of 2 axes
no_image : layer_refusal no_tables [] 2 (c.Image (record { text = codes "x" }) (pos 0) (pos 9)) ≡ Some (refusal.Command 2)
no_image = refl

-- `times 2 { run k; run m; } run n;`
turn_by_turn : unfolded_tasks (Times 2 (Run 0 ∷ Run 1 ∷ []) ∷ Once (Run 2) ∷ []) ≡ Run 0 ∷ Run 1 ∷ Run 0 ∷ Run 1 ∷ Run 2 ∷ []
turn_by_turn = refl

-- too many rows are no bad line
rows_of_a_grid : grid_refusal 4 grid.TooManyRows ≡ run.GridRows 4
rows_of_a_grid = refl

line_of_a_grid : grid_refusal 4 (grid.NotRising 3) ≡ run.Grid 4 3
line_of_a_grid = refl
