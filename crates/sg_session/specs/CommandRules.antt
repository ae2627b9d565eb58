-- The rules of commands, and the refusal of the first item that breaks one.
use Rattle.std.specs.Prelude.{ℕ, suc, Bool, false, not, ◌||◌, ◌==◌, nat_lt, int_lt, List, [], ◌∷◌, Option, Some, None, option_and_then, slice_get, if◌then◌else◌}
use Rattle.std.specs.List.{list_any}
use Rattle.std.specs.Option.{option_or}
use Rattle.sg_coord.specs.Bounds.{volume}
use Rattle.sg_ast.specs.declared.token.Name.{Name}
use Rattle.sg_ast.specs.declared.command.Command.{Command, out-Command}
use Rattle.sg_ast.specs.declared.command.Command.TheOpen as c
use Rattle.sg_ast.specs.declared.command.Command.TheOpen.{Command-F}
use Rattle.sg_ast.specs.declared.program.Item.{Item}
use Rattle.sg_ast.specs.declared.program.Item.TheVariants as item
use Rattle.sg_layout.specs.declared.shape.Shape.{Shape}
use Rattle.sg_layout.specs.Axes.{bounds_of_shape}
use Rattle.sg_names.specs.Tables.{Tables, field_named}
use Rattle.sg_session.specs.declared.refusal.Refusal.{Refusal}
use Rattle.sg_session.specs.declared.refusal.Refusal.TheVariants as refusal
use Rattle.sg_image.specs.Limits.{most_image_points}
use Rattle.sg_session.specs.Limits.{most_times}

-- the layout of the field of a name
abbrev pub shape_of_field : Tables → List Shape → Name → Option Shape
shape_of_field names layouts field = option_and_then (λ at. slice_get layouts at.layout) (field_named names field)

-- a layout has 2 axes
abbrev pub has_two_axes : Option Shape → Bool
has_two_axes None = false
has_two_axes (Some shape) = shape.axes == 2

-- an image of a layout has too many points
abbrev pub is_large : Option Shape → Bool
is_large None = false
is_large (Some shape) = nat_lt most_image_points (volume (bounds_of_shape shape))

-- a command that is no `times` breaks a rule: an image of a layout that hasn't 2 axes, or whose bounds don't rise
abbrev pub breaks_simple : Tables → List Shape → Command-F Command → Bool
breaks_simple names layouts (c.Image field lo hi) = not (has_two_axes (shape_of_field names layouts field)) || not (int_lt lo hi)
breaks_simple names layouts _ = false

-- some command in a `times` does
abbrev pub some_breaks : Tables → List Shape → List Command → Bool
some_breaks names layouts body = list_any (λ command. breaks_simple names layouts (out-Command command)) body

-- and a `times` of no turn, or with such a command in it
abbrev pub breaks_layer : Tables → List Shape → Command-F Command → Bool
breaks_layer names layouts (c.Times number body) = (number == 0) || some_breaks names layouts body
breaks_layer names layouts layer = breaks_simple names layouts layer

-- a `times` has too many turns
abbrev pub is_long : Command-F Command → Bool
is_long (c.Times number body) = nat_lt most_times number
is_long _ = false

-- a command that is no `times` is an image with too many points
abbrev pub is_large_simple : Tables → List Shape → Command-F Command → Bool
is_large_simple names layouts (c.Image field lo hi) = is_large (shape_of_field names layouts field)
is_large_simple names layouts _ = false

-- some command in a `times` is
abbrev pub some_is_large : Tables → List Shape → List Command → Bool
some_is_large names layouts body = list_any (λ command. is_large_simple names layouts (out-Command command)) body

-- and a `times` has such a command in it
abbrev pub is_large_layer : Tables → List Shape → Command-F Command → Bool
is_large_layer names layouts (c.Times number body) = some_is_large names layouts body
is_large_layer names layouts layer = is_large_simple names layouts layer

-- the refusal of one layer of a command, in the item with this number
abbrev pub layer_refusal : Tables → List Shape → ℕ → Command-F Command → Option Refusal
layer_refusal names layouts number layer =
    if breaks_layer names layouts layer then Some (refusal.Command number)
    else (if is_long layer then Some refusal.Times
    else (if is_large_layer names layouts layer then Some refusal.Image else None))

-- the refusal of an item: only commands have one
abbrev pub item_refusal : Tables → List Shape → ℕ → Item → Option Refusal
item_refusal names layouts number (item.Const decl) = None
item_refusal names layouts number (item.Layout decl) = None
item_refusal names layouts number (item.Kernel kernel) = None
item_refusal names layouts number (item.Command command) = layer_refusal names layouts number (out-Command command)

-- the refusal of the first item that has one, where the first of these has the given number
abbrev pub commands_refusal : Tables → List Shape → ℕ → List Item → Option Refusal
commands_refusal names layouts number [] = None
commands_refusal names layouts number (item ∷ items) =
    option_or (item_refusal names layouts number item) (commands_refusal names layouts (suc number) items)
