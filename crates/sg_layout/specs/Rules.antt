-- The rules of layouts, and the fault that is answered.
use Rattle.std.specs.Prelude.{ℕ, suc, ℤ, Bool, true, false, not, ◌&&◌, List, [], ◌∷◌, length, if◌then◌else◌, ◌==◌, nat_lt, nat_le, Option, Some, None, Result, Ok, Err}
use Rattle.std.specs.List.{list_any, list_all}
use Rattle.std.specs.Option.{option_or}
use Rattle.sg_coord.specs.Bounds.{Bounds, volume}
use Rattle.sg_coord.specs.Limits.{most_axes, most_extent, most_points}
use Rattle.sg_layout.specs.Limits.{most_nodes, most_fields, most_cap}
use Rattle.sg_words.specs.Results.{fault_or}
use Rattle.sg_words.specs.declared.operators.Ty.{Ty}
use Rattle.sg_words.specs.declared.operators.Ty.TheVariants as ty
use Rattle.sg_layout.specs.declared.shape.Kind.{Kind}
use Rattle.sg_layout.specs.declared.shape.Kind.TheVariants.{Dense, Bitmasked, Pointer, Hash, Dynamic}
use Rattle.sg_layout.specs.declared.shape.Size.{Size}
use Rattle.sg_layout.specs.declared.shape.NodeShape.{NodeShape}
use Rattle.sg_layout.specs.declared.shape.Shape.{Shape}
use Rattle.sg_layout.specs.declared.layout.LayoutFault.{LayoutFault}
use Rattle.sg_layout.specs.declared.layout.LayoutFault.TheVariants.{BadExtent, BadOrder, BadAxis, TooLarge, BadCap}
use Rattle.sg_layout.specs.Axes.{count_of, size_of, bounds_of_shape}
use Rattle.sg_layout.specs.Closure.{is_dense}

-- an extent is a number from 1 to 2^15
abbrev pub is_extent : ℤ → Bool
is_extent extent = nat_lt 0 (count_of extent) && nat_le (count_of extent) most_extent

-- rule 1: every extent of a node is one
abbrev pub has_good_extents : NodeShape → Bool
has_good_extents node = list_all (λ size. is_extent size.extent) node.sizes

-- rule 2: a hash node is the first, a dynamic node the last
abbrev pub has_good_order : Kind → ℕ → List NodeShape → Bool
has_good_order Hash number later = number == 1
has_good_order Dynamic number [] = true
has_good_order Dynamic number (node ∷ nodes) = false
has_good_order Dense number later = true
has_good_order Bitmasked number later = true
has_good_order Pointer number later = true

-- each size names an axis of the layout, from 1 to `axes`, that no later size names again
abbrev pub names_axes_once : ℕ → List Size → Bool
names_axes_once axes [] = true
names_axes_once axes (size ∷ sizes) =
    (nat_lt 0 size.axis && nat_le size.axis axes)
    && (not (list_any (λ other. other.axis == size.axis) sizes) && names_axes_once axes sizes)

-- a dynamic node has at most one axis
abbrev pub has_few_axes : Kind → List Size → Bool
has_few_axes Dynamic sizes = nat_le (length sizes) 1
has_few_axes Dense sizes = true
has_few_axes Bitmasked sizes = true
has_few_axes Pointer sizes = true
has_few_axes Hash sizes = true

-- rule 3: a node names axes of the layout, each once, and a dynamic node at most one
abbrev pub has_good_axes : ℕ → NodeShape → Bool
has_good_axes axes node = names_axes_once axes node.sizes && has_few_axes node.kind node.sizes

-- a cap is from 1 to the greatest
abbrev pub is_cap : ℤ → Bool
is_cap cap = nat_lt 0 (count_of cap) && nat_le (count_of cap) most_cap

-- rule 5: the cap of a pointer, hash or dynamic node is one, and a dynamic node's chunk is from 1 to its extent
abbrev pub has_good_caps : Kind → NodeShape → Bool
has_good_caps Dense node = true
has_good_caps Bitmasked node = true
has_good_caps Pointer node = is_cap node.cap
has_good_caps Hash node = is_cap node.cap
has_good_caps Dynamic node =
    is_cap node.cap && (nat_lt 0 (count_of node.chunk) && nat_le (count_of node.chunk) (size_of node.sizes))

-- the fault of a node with this number, where `later` are the nodes after it: the smallest rule that it breaks
abbrev pub node_fault : ℕ → ℕ → NodeShape → List NodeShape → Option LayoutFault
node_fault axes number node later =
    if not (has_good_extents node) then Some (BadExtent number)
    else (if not (has_good_order node.kind number later) then Some (BadOrder number)
    else (if not (has_good_axes axes node) then Some (BadAxis number)
    else (if not (has_good_caps node.kind node) then Some (BadCap number) else None)))

-- the first fault of a list of nodes, numbered from the given number on
abbrev pub first_node_fault : ℕ → ℕ → List NodeShape → Option LayoutFault
first_node_fault axes number [] = None
first_node_fault axes number (node ∷ later) =
    option_or (node_fault axes number node later) (first_node_fault axes (suc number) later)

-- rule 4: no axis is past the greatest extent, and the product of the axes not past the most points
abbrev pub is_small : Bounds → Bool
is_small bounds =
    nat_le bounds.a most_extent
    && (nat_le bounds.b most_extent && (nat_le bounds.c most_extent && nat_le (volume bounds) most_points))

-- the shape after its nodes: their first fault, else rule 4
abbrev pub checked_by : Option LayoutFault → Shape → Result Shape LayoutFault
checked_by fault shape = fault_or fault (if is_small (bounds_of_shape shape) then Ok shape else Err TooLarge)

-- the shape if it keeps all rules, else the fault: of the first node that has one, and after all nodes rule 4
abbrev pub checked_shape : Shape → Result Shape LayoutFault
checked_shape shape = checked_by (first_node_fault shape.axes 1 shape.nodes) shape

-- a field holds numbers
abbrev pub is_field : Ty → Bool
is_field ty.I32 = true
is_field ty.U32 = true
is_field ty.Bool = false

-- what a declared layout has: axes, nodes and fields of numbers, of each at least one and no more than there may be
abbrev pub is_declared : Shape → Bool
is_declared shape =
    (nat_lt 0 shape.axes && nat_le shape.axes most_axes) && ((nat_lt 0 (length shape.nodes) && nat_le (length shape.nodes) most_nodes)
    && ((nat_lt 0 (length shape.fields) && nat_le (length shape.fields) most_fields) && list_all is_field shape.fields))

-- every node is dense
abbrev pub all_dense : List NodeShape → Bool
all_dense nodes = list_all (λ node. is_dense node.kind) nodes
