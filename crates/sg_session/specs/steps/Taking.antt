-- What it is to take the layout that an item declares.
use Rattle.std.specs.Prelude.{◌≡◌, Bool, List, ◌∷◌, map, length, Result, Ok, Err}
use Rattle.std.specs.List.{list_all}
use Rattle.sg_words.specs.declared.memory.Stop.{Stop}
use Rattle.sg_words.specs.declared.memory.Stop.TheVariants as stop
use Rattle.sg_ast.specs.declared.program.Item.{Item}
use Rattle.sg_layout.specs.declared.shape.Shape.{Shape}
use Rattle.sg_layout.specs.Rules.{is_declared}
use Rattle.sg_names.specs.Tables.{Tables}
use Rattle.sg_names.specs.Laws.{layout_decls}
use Rattle.sg_names.specs.Shapes.{shape_of}
use Rattle.sg_session.specs.declared.refusal.Refusal.{Refusal}
use Rattle.sg_session.specs.Compiling.{checked_layouts}
use Rattle.sg_session.specs.steps.Following.{behind_front}

-- the layouts that items declare have the counts of declared layouts
abbrev pub are_declared : Tables → List Item → Bool
are_declared names items = list_all (λ decl. is_declared (shape_of names decl)) (layout_decls items)

-- the answer for layouts that are there already and those that items declare
abbrev pub with_items : Tables → List Shape → List Item → Result (List Shape) Refusal
with_items names list items = behind_front list (checked_layouts (length list) (map (shape_of names) (layout_decls items)))

-- the answer for an item and any that follow is that for what is there afterwards and those that follow, or the refusal
abbrev pub TakesLayout : Tables → Item → List Shape → List Shape → Result Unit (Stop Refusal) → Type 0
TakesLayout names item before after (Ok done) = (rest : List Item) → with_items names before (item ∷ rest) ≡ with_items names after rest
TakesLayout names item before after (Err stop.Memory) = Unit {0}
TakesLayout names item before after (Err (stop.Refused refused)) = (rest : List Item) → with_items names before (item ∷ rest) ≡ Err refused
