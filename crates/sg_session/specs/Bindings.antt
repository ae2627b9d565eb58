-- Which files the fields of a program are read from.
use Rattle.std.specs.Prelude.{ℕ, List, Option, None, find, option_map, option_and_then, string_bytes}
use Rattle.sg_ast.specs.declared.token.Name.{Name}
use Rattle.sg_ast.specs.Token.{same_name}
use Rattle.sg_names.specs.declared.tables.FieldAt.{FieldAt}
use Rattle.sg_names.specs.Tables.{Tables, field_name_of}
use Rattle.sg_session.specs.declared.binds.Bind.{Bind}
use Rattle.sg_session.specs.declared.tasks.Task.{Task}
use Rattle.sg_session.specs.declared.tasks.Task.TheVariants.{Load, Run, Dump, Image, Stats, Prune, Clear}

-- a binding: a name of the file language, and the file that is bound to it
pub record Binding : Type 0 where
  pub name : List ℕ
  pub file : List ℕ

-- the binding that a part of the code holds
abbrev pub binding_read : Bind → Binding
binding_read bind = record { name = bind.name.text; file = string_bytes bind.file }

-- the file that a name is bound to: that of its first binding
abbrev pub file_bound : List Binding → Name → Option (List ℕ)
file_bound bindings name = option_map (λ binding. binding.file) (find (λ binding. same_name name (record { text = binding.name })) bindings)

-- the file of a field
abbrev pub file_of_field : Tables → List Binding → FieldAt → Option (List ℕ)
file_of_field names bindings at = option_and_then (file_bound bindings) (field_name_of names at.number)

-- the file that a task reads: only a load reads one
abbrev pub file_of_task : Tables → List Binding → Task → Option (List ℕ)
file_of_task names bindings (Load field) = file_of_field names bindings field
file_of_task names bindings (Run kernel) = None
file_of_task names bindings (Dump field) = None
file_of_task names bindings (Image field lo hi) = None
file_of_task names bindings (Stats layout) = None
file_of_task names bindings (Prune layout) = None
file_of_task names bindings (Clear layout) = None
