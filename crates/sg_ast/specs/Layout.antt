-- Layouts: the one token list of each, and of their nodes and fields.
use Rattle.std.specs.Prelude.{◌≡◌, refl, false, List, [], ◌∷◌, ◌++◌, map, Option, Some, None, codes}
use Rattle.sg_words.specs.declared.operators.Ty.{Ty}
use Rattle.sg_words.specs.declared.operators.Ty.TheVariants as ty
use Rattle.sg_ast.specs.declared.token.Name.{Name}
use Rattle.sg_ast.specs.declared.token.Word.{Word}
use Rattle.sg_ast.specs.declared.token.Word.TheVariants as w
use Rattle.sg_ast.specs.declared.token.Sign.TheVariants as s
use Rattle.sg_ast.specs.declared.token.Token.{Token}
use Rattle.sg_ast.specs.declared.token.Token.TheVariants as t
use Rattle.sg_ast.specs.declared.layout.SizeDecl.{SizeDecl}
use Rattle.sg_ast.specs.declared.layout.SizeDecl.TheVariants as size
use Rattle.sg_ast.specs.declared.layout.AxisDecl.{AxisDecl}
use Rattle.sg_ast.specs.declared.layout.NodeKind.{NodeKind}
use Rattle.sg_ast.specs.declared.layout.NodeKind.TheVariants as kind
use Rattle.sg_ast.specs.declared.layout.NodeDecl.{NodeDecl}
use Rattle.sg_ast.specs.declared.layout.FieldDecl.{FieldDecl}
use Rattle.sg_ast.specs.declared.layout.LayoutDecl.{LayoutDecl}
use Rattle.sg_ast.specs.Expr.{with_commas}
use Rattle.sg_ast.specs.Stmt.{joined_lists}

-- names, a comma between each two
abbrev pub names_tokens : List Name → List Token
names_tokens names = with_commas (map (λ name. t.Name name ∷ []) names)

-- a number without `u`, or a name
abbrev pub size_token : SizeDecl → Token
size_token (size.Number value) = t.Number value false
size_token (size.Name name) = t.Name name

-- `NAME: SIZE`
abbrev pub axis_tokens : AxisDecl → List Token
axis_tokens axis = t.Name axis.name ∷ t.Sign s.Colon ∷ size_token axis.size ∷ []

-- the word that a node begins with
abbrev pub kind_token : NodeKind → Token
kind_token kind.Dense = t.Word w.Dense
kind_token kind.Bitmasked = t.Word w.Bitmasked
kind_token kind.Pointer = t.Word w.Pointer
kind_token kind.Hash = t.Word w.Hash
kind_token kind.Dynamic = t.Word w.Dynamic

-- the word `chunk` or `cap` and its size, if there is one
abbrev pub bound_by : Word → Option SizeDecl → List Token
bound_by word None = []
bound_by word (Some size) = t.Word word ∷ size_token size ∷ []

-- `KIND(AXES) chunk SIZE cap SIZE;`
abbrev pub node_tokens : NodeDecl → List Token
node_tokens node =
    kind_token node.kind ∷ t.Sign s.OpenParen ∷ (with_commas (map axis_tokens node.axes) ++
    (t.Sign s.CloseParen ∷ (bound_by w.Chunk node.chunk ++ (bound_by w.Cap node.cap ++ t.Sign s.Semicolon ∷ []))))

-- the word of a type
abbrev pub ty_token : Ty → Token
ty_token ty.I32 = t.Word w.I32
ty_token ty.U32 = t.Word w.U32
ty_token ty.Bool = t.Word w.Bool

-- `field NAME: TYPE;`
abbrev pub field_tokens : FieldDecl → List Token
field_tokens field = t.Word w.Field ∷ t.Name field.name ∷ t.Sign s.Colon ∷ ty_token field.ty ∷ t.Sign s.Semicolon ∷ []

-- `layout NAME(AXES) { NODES FIELDS }`
abbrev pub layout_tokens : LayoutDecl → List Token
layout_tokens layout =
    t.Word w.Layout ∷ t.Name layout.name ∷ t.Sign s.OpenParen ∷ (names_tokens layout.axes ++
    (t.Sign s.CloseParen ∷ t.Sign s.OpenBrace ∷ (joined_lists (map node_tokens layout.nodes) ++
    (joined_lists (map field_tokens layout.fields) ++ t.Sign s.CloseBrace ∷ []))))

-- worked equations, over the axes `i: 4, j: N`
abbrev first_axis : Name
first_axis = record { text = codes "i" }

abbrev second_axis : Name
second_axis = record { text = codes "j" }

abbrev extent : Name
extent = record { text = codes "N" }

abbrev two_axes : List AxisDecl
two_axes = record { name = first_axis; size = size.Number 4 } ∷ record { name = second_axis; size = size.Name extent } ∷ []

abbrev axes_tokens : List Token
axes_tokens =
    t.Sign s.OpenParen ∷ t.Name first_axis ∷ t.Sign s.Colon ∷ t.Number 4 false ∷ t.Sign s.Comma
    ∷ t.Name second_axis ∷ t.Sign s.Colon ∷ t.Name extent ∷ t.Sign s.CloseParen ∷ []

dense-tokens : node_tokens (record { kind = kind.Dense; axes = two_axes; chunk = None; cap = None })
    ≡ t.Word w.Dense ∷ axes_tokens ++ t.Sign s.Semicolon ∷ []
dense-tokens = refl

bitmasked-tokens : node_tokens (record { kind = kind.Bitmasked; axes = two_axes; chunk = None; cap = None })
    ≡ t.Word w.Bitmasked ∷ axes_tokens ++ t.Sign s.Semicolon ∷ []
bitmasked-tokens = refl

pointer-tokens : node_tokens (record { kind = kind.Pointer; axes = two_axes; chunk = None; cap = Some (size.Number 256) })
    ≡ t.Word w.Pointer ∷ axes_tokens ++ t.Word w.Cap ∷ t.Number 256 false ∷ t.Sign s.Semicolon ∷ []
pointer-tokens = refl

hash-tokens : node_tokens (record { kind = kind.Hash; axes = two_axes; chunk = None; cap = Some (size.Name extent) })
    ≡ t.Word w.Hash ∷ axes_tokens ++ t.Word w.Cap ∷ t.Name extent ∷ t.Sign s.Semicolon ∷ []
hash-tokens = refl

dynamic-tokens : node_tokens (record { kind = kind.Dynamic; axes = two_axes; chunk = Some (size.Number 4); cap = Some (size.Number 2) })
    ≡ t.Word w.Dynamic ∷ axes_tokens ++ t.Word w.Chunk ∷ t.Number 4 false ∷ t.Word w.Cap ∷ t.Number 2 false ∷ t.Sign s.Semicolon ∷ []
dynamic-tokens = refl

layout-tokens : layout_tokens (record {
  name = extent;
  axes = first_axis ∷ second_axis ∷ [];
  nodes = record { kind = kind.Dense; axes = two_axes; chunk = None; cap = None } ∷ [];
  fields = record { name = second_axis; ty = ty.U32 } ∷ [];
})
    ≡ t.Word w.Layout ∷ t.Name extent ∷ t.Sign s.OpenParen ∷ t.Name first_axis ∷ t.Sign s.Comma ∷ t.Name second_axis ∷ t.Sign s.CloseParen ∷ t.Sign s.OpenBrace
    ∷ t.Word w.Dense ∷ axes_tokens ++ t.Sign s.Semicolon
    ∷ t.Word w.Field ∷ t.Name second_axis ∷ t.Sign s.Colon ∷ t.Word w.U32 ∷ t.Sign s.Semicolon ∷ t.Sign s.CloseBrace ∷ []
layout-tokens = refl
