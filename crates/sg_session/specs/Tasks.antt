-- Commands with numbers for names. A command whose name isn't there has none; in a program with tables every name is there.
use Rattle.std.specs.Prelude.{List, filter_map, Option, Some, None, option_map}
use Rattle.sg_ast.specs.declared.command.Command.{Command, out-Command}
use Rattle.sg_ast.specs.declared.command.Command.TheOpen as c
use Rattle.sg_ast.specs.declared.command.Command.TheOpen.{Command-F}
use Rattle.sg_ast.specs.declared.program.Item.{Item}
use Rattle.sg_ast.specs.declared.program.Item.TheVariants as item
use Rattle.sg_names.specs.Tables.{Tables, layout_named, field_named, kernel_named}
use Rattle.sg_session.specs.declared.tasks.Task.{Task}
use Rattle.sg_session.specs.declared.tasks.Task.TheVariants.{Load, Run, Dump, Image, Stats, Prune, Clear}
use Rattle.sg_session.specs.declared.tasks.Stage.{Stage}
use Rattle.sg_session.specs.declared.tasks.Stage.TheVariants.{Once, Times}

-- the task of a command that is no `times`
abbrev pub simple_task : Tables → Command-F Command → Option Task
simple_task names (c.Load field) = option_map Load (field_named names field)
simple_task names (c.Run kernel) = option_map Run (kernel_named names kernel)
simple_task names (c.Dump field) = option_map Dump (field_named names field)
simple_task names (c.Image field lo hi) = option_map (λ at. Image at lo hi) (field_named names field)
simple_task names (c.Stats layout) = option_map Stats (layout_named names layout)
simple_task names (c.Prune layout) = option_map Prune (layout_named names layout)
simple_task names (c.Clear layout) = option_map Clear (layout_named names layout)
simple_task names (c.Times number body) = None

-- the tasks of commands in a `times`
abbrev pub body_tasks : Tables → List Command → List Task
body_tasks names body = filter_map (λ command. simple_task names (out-Command command)) body

-- the stage of a command
abbrev pub layer_stage : Tables → Command-F Command → Option Stage
layer_stage names (c.Times number body) = Some (Times number (body_tasks names body))
layer_stage names layer = option_map Once (simple_task names layer)

-- the stage of an item: only commands have one
abbrev pub item_stage : Tables → Item → Option Stage
item_stage names (item.Const decl) = None
item_stage names (item.Layout decl) = None
item_stage names (item.Kernel kernel) = None
item_stage names (item.Command command) = layer_stage names (out-Command command)

-- the stages of a program's items
abbrev pub stages_of : Tables → List Item → List Stage
stages_of names items = filter_map (item_stage names) items
