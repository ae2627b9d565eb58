-- A declared layout with its sizes as numbers.
use Rattle.std.specs.Prelude.{ℕ, suc, ℤ, pos, List, map, length, Option, Some, None, position}
use Rattle.sg_words.specs.declared.operators.Ty.TheVariants as ty
use Rattle.sg_words.specs.Words.{number}
use Rattle.sg_ast.specs.declared.token.Name.{Name}
use Rattle.sg_ast.specs.declared.layout.SizeDecl.{SizeDecl}
use Rattle.sg_ast.specs.declared.layout.SizeDecl.TheVariants as size
use Rattle.sg_ast.specs.declared.layout.AxisDecl.{AxisDecl}
use Rattle.sg_ast.specs.declared.layout.NodeKind.{NodeKind}
use Rattle.sg_ast.specs.declared.layout.NodeKind.TheVariants as node
use Rattle.sg_ast.specs.declared.layout.NodeDecl.{NodeDecl}
use Rattle.sg_ast.specs.declared.layout.LayoutDecl.{LayoutDecl}
use Rattle.sg_layout.specs.declared.shape.Kind.{Kind}
use Rattle.sg_layout.specs.declared.shape.Kind.TheVariants.{Dense, Bitmasked, Pointer, Hash, Dynamic}
use Rattle.sg_layout.specs.declared.shape.Size.{Size}
use Rattle.sg_layout.specs.declared.shape.NodeShape.{NodeShape}
use Rattle.sg_layout.specs.declared.shape.Shape.{Shape}
use Rattle.sg_names.specs.declared.tables.Constant.{Constant}
use Rattle.sg_ast.specs.Token.{same_name}
use Rattle.sg_names.specs.Tables.{Tables, constant_named}

-- the number of a constant as a size: its word read as I32; 0 if there is none
abbrev pub number_of : Option Constant → ℤ
number_of None = pos 0
number_of (Some constant) = number ty.I32 constant.word

-- the number of a size: a number is its word read as I32, and a name is looked up
abbrev pub size_number : Tables → SizeDecl → ℤ
size_number tables (size.Number value) = number ty.I32 value
size_number tables (size.Name name) = number_of (constant_named tables name)

-- the number of a cap or chunk: 0 if there is none
abbrev pub optional_number : Tables → Option SizeDecl → ℤ
optional_number tables None = pos 0
optional_number tables (Some given) = size_number tables given

-- axes are numbered from 1, and 0 stands for none
abbrev pub axis_at : Option ℕ → ℕ
axis_at None = 0
axis_at (Some place) = suc place

-- the number of an axis in a layout's list: 0 if the list doesn't have it
abbrev pub axis_number : List Name → Name → ℕ
axis_number axes name = axis_at (position (same_name name) axes)

-- the axis that a node names, with its extent there
abbrev pub axis_size : Tables → List Name → AxisDecl → Size
axis_size tables axes axis = record { axis = axis_number axes axis.name; extent = size_number tables axis.size }

-- the kind of a node
abbrev pub node_kind : NodeKind → Kind
node_kind node.Dense = Dense
node_kind node.Bitmasked = Bitmasked
node_kind node.Pointer = Pointer
node_kind node.Hash = Hash
node_kind node.Dynamic = Dynamic

-- a node, in a layout with the given axes
abbrev pub node_shape : Tables → List Name → NodeDecl → NodeShape
node_shape tables axes given = record {
  kind = node_kind given.kind;
  sizes = map (axis_size tables axes) given.axes;
  cap = optional_number tables given.cap;
  chunk = optional_number tables given.chunk;
}

-- a layout
abbrev pub shape_of : Tables → LayoutDecl → Shape
shape_of tables decl = record {
  axes = length decl.axes;
  nodes = map (node_shape tables decl.axes) decl.nodes;
  fields = map (λ field. field.ty) decl.fields;
}
