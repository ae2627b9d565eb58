-- Worked examples of the definitions on names.
use Rattle.std.specs.Prelude.{◌≡◌, refl, ℕ, Bool, pos, negsuc, true, false, List, [], ◌∷◌, map, replicate, Some, None, Ok, Err, codes}
use Rattle.sg_words.specs.declared.operators.Ty.TheVariants as ty
use Rattle.sg_ast.specs.declared.token.Name.{Name}
use Rattle.sg_ast.specs.declared.layout.SizeDecl.{SizeDecl}
use Rattle.sg_ast.specs.declared.layout.SizeDecl.TheVariants as size
use Rattle.sg_ast.specs.declared.layout.NodeKind.TheVariants as node
use Rattle.sg_ast.specs.declared.layout.NodeDecl.{NodeDecl}
use Rattle.sg_ast.specs.declared.layout.LayoutDecl.{LayoutDecl}
use Rattle.sg_ast.specs.declared.kernel.DomainDecl.TheVariants as domain
use Rattle.sg_ast.specs.declared.program.ConstDecl.{ConstDecl}
use Rattle.sg_ast.specs.declared.program.Item.{Item}
use Rattle.sg_ast.specs.declared.program.Item.TheVariants as item
use Rattle.sg_ast.specs.declared.program.Program.{Program}
use Rattle.sg_layout.specs.declared.shape.Kind.TheVariants.{Dense, Dynamic}
use Rattle.sg_names.specs.declared.fault.Which.TheVariants.{Layouts, Fields, Kernels, Commands}
use Rattle.sg_names.specs.declared.fault.NameFault.TheVariants.{Unknown, Twice, TooMany}
use Rattle.sg_names.specs.Tables.{Tables, field_named, layout_named, layout_name_of}
use Rattle.sg_names.specs.Uses.{sizes_used}
use Rattle.sg_names.specs.Declares.{constant_of}
use Rattle.sg_names.specs.Limits.{most_layouts, most_program_fields, most_kernels, most_commands}
use Rattle.sg_names.specs.Names.{first_past, tables_of}
use Rattle.sg_names.specs.Shapes.{size_number, shape_of}

abbrev pub n : Name
n = record { text = codes "N" }

abbrev pub a : Name
a = record { text = codes "A" }

abbrev pub b : Name
b = record { text = codes "B" }

abbrev pub f : Name
f = record { text = codes "f" }

abbrev pub g : Name
g = record { text = codes "g" }

abbrev pub i : Name
i = record { text = codes "i" }

abbrev pub j : Name
j = record { text = codes "j" }

abbrev pub k : Name
k = record { text = codes "k" }

-- const NAME = 7; const NAME = -7; const NAME = 7u;
abbrev pub seven : Name → ConstDecl
seven name = record { name = name; minus = false; value = 7; unsigned = false }

abbrev pub minus_seven : Name → ConstDecl
minus_seven name = record { name = name; minus = true; value = 7; unsigned = false }

abbrev pub unsigned_seven : Name → ConstDecl
unsigned_seven name = record { name = name; minus = false; value = 7; unsigned = true }

-- dense(i: SIZE);
abbrev pub dense : SizeDecl → NodeDecl
dense extent = record { kind = node.Dense; axes = record { name = i; size = extent } ∷ []; chunk = None; cap = None }

-- layout NAME(AXES) { dense(i: SIZE); field FIELD: i32; .. }
abbrev pub layout : Name → List Name → SizeDecl → List Name → LayoutDecl
layout name axes extent fields =
    record { name = name; axes = axes; nodes = dense extent ∷ []; fields = map (λ field. record { name = field; ty = ty.I32 }) fields }

-- kernel NAME { for i in LAYOUT { } }
abbrev pub walking_kernel : Name → Name → Item
walking_kernel name walked = item.Kernel (record { name = name; vars = i ∷ []; domain = domain.Layout walked; body = [] })

abbrev pub program : List Item → Program
program items = record { items = items; lines = [] }

abbrev pub four : SizeDecl
four = size.Number 4

word_of_minus_seven : constant_of (minus_seven n) ≡ record { word = 4294967289; ty = ty.I32 }
word_of_minus_seven = refl

word_of_unsigned_seven : constant_of (unsigned_seven n) ≡ record { word = 7; ty = ty.U32 }
word_of_unsigned_seven = refl

-- -7u, and the numbers 2147483648 and -2147483648, which have one word
minus_seven_unsigned : constant_of (record { name = n; minus = true; value = 7; unsigned = true }) ≡ record { word = 4294967289; ty = ty.U32 }
minus_seven_unsigned = refl

abbrev pub least_const : Bool → ConstDecl
least_const minus = record { name = n; minus = minus; value = 2147483648; unsigned = false }

word_of_least : constant_of (least_const false) ≡ record { word = 2147483648; ty = ty.I32 }
word_of_least = refl

least_is_its_negative : constant_of (least_const true) ≡ constant_of (least_const false)
least_is_its_negative = refl

-- const N = 7; layout A(i) { dense(i: N); field f: i32; } kernel k { for i in A { } } layout B(i, j) { dense(i: 4); field g: i32; }
abbrev pub whole_program : Program
whole_program = program (item.Const (seven n) ∷ item.Layout (layout a (i ∷ []) (size.Name n) (f ∷ [])) ∷ walking_kernel k a ∷ item.Layout (layout b (i ∷ j ∷ []) four (g ∷ [])) ∷ [])

abbrev pub tables_of_whole : Tables
tables_of_whole = record {
  constants = record { name = n; constant = record { word = 7; ty = ty.I32 } } ∷ [];
  layouts = record { name = a; axes = 1 } ∷ record { name = b; axes = 2 } ∷ [];
  fields = record { name = f; at = record { number = 0; layout = 0; place = 0; ty = ty.I32 } }
      ∷ record { name = g; at = record { number = 1; layout = 1; place = 0; ty = ty.I32 } } ∷ [];
  kernels = k ∷ [];
}

whole_has_tables : tables_of whole_program ≡ Ok tables_of_whole
whole_has_tables = refl

second_field : field_named tables_of_whole g ≡ Some (record { number = 1; layout = 1; place = 0; ty = ty.I32 })
second_field = refl

second_layout : layout_named tables_of_whole b ≡ Some 1
second_layout = refl

its_name : layout_name_of tables_of_whole 1 ≡ Some b
its_name = refl

a_field_is_no_layout : layout_named tables_of_whole f ≡ None
a_field_is_no_layout = refl

later_constant : tables_of (program (item.Layout (layout a (i ∷ []) (size.Name n) (f ∷ [])) ∷ item.Const (seven n) ∷ [])) ≡ Err (Unknown 1)
later_constant = refl

unsigned_size : tables_of (program (item.Const (unsigned_seven n) ∷ item.Layout (layout a (i ∷ []) (size.Name n) (f ∷ [])) ∷ [])) ≡ Err (Unknown 2)
unsigned_size = refl

kernel_over_a_field : tables_of (program (item.Layout (layout a (i ∷ []) four (f ∷ [])) ∷ walking_kernel k f ∷ [])) ≡ Err (Unknown 2)
kernel_over_a_field = refl

-- a name is not known in the item that declares it
own_layout_as_size : tables_of (program (item.Layout (layout a (i ∷ []) (size.Name a) (f ∷ [])) ∷ [])) ≡ Err (Unknown 1)
own_layout_as_size = refl

own_field_as_size : tables_of (program (item.Layout (layout a (i ∷ []) (size.Name f) (f ∷ [])) ∷ [])) ≡ Err (Unknown 1)
own_field_as_size = refl

kernel_over_itself : tables_of (program (walking_kernel k k ∷ [])) ≡ Err (Unknown 1)
kernel_over_itself = refl

unknown_comes_first : tables_of (program (item.Layout (layout a (i ∷ []) four (f ∷ [])) ∷ item.Layout (layout a (i ∷ []) (size.Name n) (f ∷ [])) ∷ [])) ≡ Err (Unknown 2)
unknown_comes_first = refl

one_space_of_names : tables_of (program (item.Layout (layout a (i ∷ []) four (f ∷ [])) ∷ item.Const (seven f) ∷ [])) ≡ Err (Twice 2)
one_space_of_names = refl

field_twice_in_a_layout : tables_of (program (item.Layout (layout a (i ∷ []) four (f ∷ g ∷ f ∷ [])) ∷ [])) ≡ Err (Twice 1)
field_twice_in_a_layout = refl

axis_twice : tables_of (program (item.Layout (layout a (i ∷ j ∷ i ∷ []) four (f ∷ [])) ∷ [])) ≡ Err (Twice 1)
axis_twice = refl

axes_are_no_names : tables_of (program (item.Layout (layout a (a ∷ f ∷ []) four (f ∷ [])) ∷ []))
    ≡ Ok (record {
      constants = [];
      layouts = record { name = a; axes = 2 } ∷ [];
      fields = record { name = f; at = record { number = 0; layout = 0; place = 0; ty = ty.I32 } } ∷ [];
      kernels = [];
    })
axes_are_no_names = refl

-- nine layouts of names with one to nine letters
abbrev pub long_name : ℕ → Name
long_name length = record { text = replicate length 65 }

nine_layouts : tables_of (program (map (λ m. item.Layout (layout (long_name m) [] four [])) (1 ∷ 2 ∷ 3 ∷ 4 ∷ 5 ∷ 6 ∷ 7 ∷ 8 ∷ 9 ∷ []))) ≡ Err (TooMany Layouts)
nine_layouts = refl

twice_comes_before_too_many : tables_of (program (map (λ m. item.Layout (layout (long_name m) [] four [])) (1 ∷ 2 ∷ 3 ∷ 4 ∷ 5 ∷ 6 ∷ 7 ∷ 8 ∷ 3 ∷ []))) ≡ Err (Twice 9)
twice_comes_before_too_many = refl

seventeen_fields : tables_of (program (item.Layout (layout a (i ∷ []) four (map long_name (2 ∷ 3 ∷ 4 ∷ 5 ∷ 6 ∷ 7 ∷ 8 ∷ 9 ∷ 10 ∷ 11 ∷ 12 ∷ 13 ∷ 14 ∷ 15 ∷ 16 ∷ 17 ∷ 18 ∷ []))) ∷ [])) ≡ Err (TooMany Fields)
seventeen_fields = refl

-- the limits, and the order in which they are tested
up_to_the_limits : first_past most_layouts most_program_fields most_kernels most_commands ≡ None
up_to_the_limits = refl

past_all_limits : first_past 9 17 17 65 ≡ Some Layouts
past_all_limits = refl

past_the_last_three : first_past 8 17 17 65 ≡ Some Fields
past_the_last_three = refl

past_the_last_two : first_past 8 16 17 65 ≡ Some Kernels
past_the_last_two = refl

past_the_last : first_past 8 16 16 65 ≡ Some Commands
past_the_last = refl

-- dynamic(k: 2147483648, j: N) chunk N cap 2; in layout A(i, j), where N is -7
abbrev pub odd : LayoutDecl
odd = record {
  name = a;
  axes = i ∷ j ∷ [];
  nodes = record {
    kind = node.Dynamic;
    axes = record { name = k; size = size.Number 2147483648 } ∷ record { name = j; size = size.Name n } ∷ [];
    chunk = Some (size.Name n);
    cap = Some (size.Number 2);
  } ∷ dense four ∷ [];
  fields = record { name = f; ty = ty.U32 } ∷ [];
}

abbrev pub with_minus_seven : Tables
with_minus_seven = record { constants = record { name = n; constant = constant_of (minus_seven n) } ∷ []; layouts = []; fields = []; kernels = [] }

odd_shape : shape_of with_minus_seven odd ≡ record {
  axes = 2;
  nodes = record {
    kind = Dynamic;
    sizes = record { axis = 0; extent = negsuc 2147483647 } ∷ record { axis = 2; extent = negsuc 6 } ∷ [];
    cap = pos 2;
    chunk = negsuc 6;
  } ∷ record { kind = Dense; sizes = record { axis = 1; extent = pos 4 } ∷ []; cap = pos 0; chunk = pos 0 } ∷ [];
  fields = ty.U32 ∷ [];
}
odd_shape = refl

abbrev pub with_least : Tables
with_least = record { constants = record { name = n; constant = constant_of (least_const true) } ∷ []; layouts = []; fields = []; kernels = [] }

size_of_least : size_number with_least (size.Name n) ≡ negsuc 2147483647
size_of_least = refl

-- the constants that its sizes name: by an extent, and by its chunk
sizes_of_odd : sizes_used (item.Layout odd) ≡ n ∷ n ∷ []
sizes_of_odd = refl
