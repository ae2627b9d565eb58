-- Reading an item: a constant, a layout, a kernel or a command.
use Rattle.std.specs.Prelude.{ℕ, ◌-◌, ◌&&◌, not, nat_le, nat_lt, true, false, Bool, ℤ, pos, negsuc, List, ◌∷◌, length, Option, Some, None, option_map}
use Rattle.sg_words.specs.declared.operators.Ty.{Ty}
use Rattle.sg_words.specs.declared.operators.Ty.TheVariants as ty
use Rattle.sg_ast.specs.declared.token.Name.{Name}
use Rattle.sg_ast.specs.declared.token.Word.{Word}
use Rattle.sg_ast.specs.declared.token.Word.TheVariants as w
use Rattle.sg_ast.specs.declared.token.Sign.TheVariants as s
use Rattle.sg_ast.specs.declared.token.Token.{Token}
use Rattle.sg_ast.specs.declared.token.Token.TheVariants as t
use Rattle.sg_ast.specs.declared.layout.SizeDecl.{SizeDecl}
use Rattle.sg_ast.specs.declared.layout.SizeDecl.TheVariants as size
use Rattle.sg_ast.specs.declared.layout.AxisDecl.{AxisDecl}
use Rattle.sg_ast.specs.declared.layout.NodeKind.{NodeKind}
use Rattle.sg_ast.specs.declared.layout.NodeKind.TheVariants as kind
use Rattle.sg_ast.specs.declared.layout.NodeDecl.{NodeDecl}
use Rattle.sg_ast.specs.declared.layout.FieldDecl.{FieldDecl}
use Rattle.sg_ast.specs.declared.stmt.Stmt.{Stmt}
use Rattle.sg_ast.specs.declared.kernel.DomainDecl.{DomainDecl}
use Rattle.sg_ast.specs.declared.kernel.DomainDecl.TheVariants as domain
use Rattle.sg_ast.specs.declared.command.Command.{Command}
use Rattle.sg_ast.specs.declared.command.Command.TheVariants as command
use Rattle.sg_ast.specs.declared.program.Item.{Item}
use Rattle.sg_ast.specs.declared.program.Item.TheVariants as item
use Rattle.sg_ast.specs.Token.{is_name, is_number}
use Rattle.sg_parser.specs.Front.{Reader, after_sign, after_word, next_name, comma_list, list_to_end}
use Rattle.sg_words.specs.Options.{only_if, ◌>>=◌}
use Rattle.sg_parser.specs.ReadStmt.{read_range, read_block}
use Rattle.sg_ast.specs.Limits.{max_number, most_listed_axes, most_listed_nodes}

-- a number, and whether a `u` stands after it
abbrev pub next_number : Reader (ℕ × Bool)
next_number (t.Number value unsigned ∷ rest) = only_if (is_number value unsigned) (Some ((value, unsigned), rest))
next_number _ = None

-- a number without `u`
abbrev pub next_plain : Reader ℕ
next_plain (t.Number value unsigned ∷ rest) = only_if (not unsigned && is_number value false) (Some (value, rest))
next_plain _ = None

-- a `;`, after a value
abbrev pub ending : {A : Type 0} → A → Reader A
ending value tokens = do
  rest ← after_sign s.Semicolon tokens
  Some (value, rest)

-- the value of a constant, after the `-` if there is one
abbrev pub read_const_value : Name → Bool → Reader Item
read_const_value name minus tokens = do
  number ← next_number tokens
  ending (item.Const (record { name = name; minus = minus; value = number.0.0; unsigned = number.0.1 })) number.1

-- the value of a constant, where what follows a `-` is given
abbrev pub value_on : Name → List Token → Option (List Token) → Option (Item × List Token)
value_on name tokens None = read_const_value name false tokens
value_on name tokens (Some behind) = read_const_value name true behind

-- `const NAME = -NUMBER;`, after its word
unfoldable pub read_const : Reader Item
read_const tokens = do
  name ← next_name tokens
  equal ← after_sign s.Equal name.1
  value_on name.0 equal (after_sign s.Minus equal)

-- a number without `u`, or a name
abbrev pub next_size : Reader SizeDecl
next_size (t.Number value unsigned ∷ rest) = only_if (not unsigned && is_number value false) (Some (size.Number value, rest))
next_size (t.Name name ∷ rest) = only_if (is_name name) (Some (size.Name name, rest))
next_size _ = None

-- `NAME: SIZE`
unfoldable pub read_axis : Reader AxisDecl
read_axis tokens = do
  name ← next_name tokens
  colon ← after_sign s.Colon name.1
  size ← next_size colon
  Some (record { name = name.0; size = size.0 }, size.1)

-- the kind of node that a word begins
abbrev pub kind_of : Word → Option NodeKind
kind_of w.Dense = Some kind.Dense
kind_of w.Bitmasked = Some kind.Bitmasked
kind_of w.Pointer = Some kind.Pointer
kind_of w.Hash = Some kind.Hash
kind_of w.Dynamic = Some kind.Dynamic
kind_of _ = None

-- the kind of a node
abbrev pub next_kind : Reader NodeKind
next_kind (t.Word word ∷ rest) = option_map (λ kind. (kind, rest)) (kind_of word)
next_kind _ = None

-- which kinds have a chunk
abbrev pub has_chunk : NodeKind → Bool
has_chunk kind.Dynamic = true
has_chunk _ = false

-- which kinds have a cap
abbrev pub declares_cap : NodeKind → Bool
declares_cap kind.Dense = false
declares_cap kind.Bitmasked = false
declares_cap _ = true

-- the word `chunk` or `cap` and its size, where the kind has one
abbrev pub next_bound : Word → Bool → Reader (Option SizeDecl)
next_bound word false tokens = Some (None, tokens)
next_bound word true tokens = do
  behind ← after_word word tokens
  size ← next_size behind
  Some (Some size.0, size.1)

-- `KIND(AXES)`
unfoldable pub node_head : List Token → Option (NodeKind × List AxisDecl × List Token)
node_head tokens = do
  kind ← next_kind tokens
  behind ← after_sign s.OpenParen kind.1
  axes ← comma_list read_axis behind
  close ← after_sign s.CloseParen axes.1
  Some (kind.0, axes.0, close)

-- `chunk SIZE cap SIZE;`, as the kind has them
unfoldable pub read_bounds : NodeKind → List Token → Option (Option SizeDecl × Option SizeDecl × List Token)
read_bounds kind tokens = do
  chunk ← next_bound w.Chunk (has_chunk kind) tokens
  cap ← next_bound w.Cap (declares_cap kind) chunk.1
  rest ← after_sign s.Semicolon cap.1
  Some (chunk.0, cap.0, rest)

-- `KIND(AXES) chunk SIZE cap SIZE;`
unfoldable pub read_node : Reader NodeDecl
read_node tokens = do
  head ← node_head tokens
  bounds ← read_bounds head.0 head.2
  only_if (nat_le (length head.1) most_listed_axes) (Some (record { kind = head.0; axes = head.1; chunk = bounds.0; cap = bounds.1 }, bounds.2))

-- the type of a field
abbrev pub next_ty : Reader Ty
next_ty (t.Word w.I32 ∷ rest) = Some (ty.I32, rest)
next_ty (t.Word w.U32 ∷ rest) = Some (ty.U32, rest)
next_ty _ = None

-- `field NAME: TYPE;`
unfoldable pub read_field : Reader FieldDecl
read_field tokens = do
  word ← after_word w.Field tokens
  name ← next_name word
  colon ← after_sign s.Colon name.1
  ty ← next_ty colon
  ending (record { name = name.0; ty = ty.0 }) ty.1

-- the place where the word `field` stands at the front, which is left there
abbrev pub before_field : List Token → Option (List Token)
before_field tokens = option_map (λ behind. tokens) (after_word w.Field tokens)

-- `NAME(AXES) {`, after the word `layout`
unfoldable pub layout_head : List Token → Option (Name × List Name × List Token)
layout_head tokens = do
  name ← next_name tokens
  behind ← after_sign s.OpenParen name.1
  axes ← comma_list next_name behind
  close ← after_sign s.CloseParen axes.1
  brace ← after_sign s.OpenBrace close
  Some (name.0, axes.0, brace)

-- `NODES FIELDS }`
unfoldable pub layout_body : List Token → Option (List NodeDecl × List FieldDecl × List Token)
layout_body tokens = do
  nodes ← list_to_end before_field read_node tokens
  fields ← list_to_end (after_sign s.CloseBrace) read_field nodes.1
  Some (nodes.0, fields.0, fields.1)

-- `layout NAME(AXES) { NODES FIELDS }`, after its word
unfoldable pub read_layout : Reader Item
read_layout tokens = do
  head ← layout_head tokens
  body ← layout_body head.2
  only_if (nat_le (length head.1) most_listed_axes && ((nat_le 1 (length body.0) && nat_le (length body.0) most_listed_nodes) && nat_le 1 (length body.1)))
      (Some (item.Layout (record { name = head.0; axes = head.1; nodes = body.0; fields = body.1 }), body.2))

-- a name after which a block begins
abbrev pub lone_name : Reader Name
lone_name tokens = do
  name ← next_name tokens
  brace ← after_sign s.OpenBrace name.1
  Some name

-- what a kernel goes over, where the name that stands alone is given
abbrev pub domain_on : List Token → Option (Name × List Token) → Option (DomainDecl × List Token)
domain_on tokens None = do
  ranges ← comma_list read_range tokens
  only_if (nat_le (length ranges.0) most_listed_axes) (Some (domain.Ranges ranges.0, ranges.1))
domain_on tokens (Some name) = Some (domain.Layout name.0, name.1)

-- what a kernel goes over
unfoldable pub read_domain : Reader DomainDecl
read_domain tokens = domain_on tokens (lone_name tokens)

-- `NAME { for VARIABLES in`, after the word `kernel`
unfoldable pub kernel_head : List Token → Option (Name × List Name × List Token)
kernel_head tokens = do
  name ← next_name tokens
  brace ← after_sign s.OpenBrace name.1
  behind ← after_word w.For brace
  vars ← comma_list next_name behind
  over ← after_word w.In vars.1
  Some (name.0, vars.0, over)

-- `DOMAIN BLOCK }`
unfoldable pub kernel_loop : List Token → Option (DomainDecl × List Stmt × List Token)
kernel_loop tokens = do
  domain ← read_domain tokens
  body ← read_block domain.1
  rest ← after_sign s.CloseBrace body.1
  Some (domain.0, body.0, rest)

-- `kernel NAME { for VARIABLES in DOMAIN BLOCK }`, after its word
unfoldable pub read_kernel : Reader Item
read_kernel tokens = do
  head ← kernel_head tokens
  loop ← kernel_loop head.2
  only_if (nat_le (length head.1) most_listed_axes) (Some (item.Kernel (record { name = head.0; vars = head.1; domain = loop.0; body = loop.1 }), loop.2))

-- whether a number of a bound has a `u` exactly when it is past the limit without one
abbrev pub has_right_suffix : Bool → ℕ → Bool
has_right_suffix true value = nat_lt (max_number false) value
has_right_suffix false value = not (nat_lt (max_number false) value)

-- the number of a bound
abbrev pub next_magnitude : Reader ℕ
next_magnitude (t.Number value unsigned ∷ rest) = only_if (has_right_suffix unsigned value && is_number value true) (Some (value, rest))
next_magnitude _ = None

-- a bound, where what follows a `-` is given; no `-` stands before 0
abbrev pub whole_on : List Token → Option (List Token) → Option (ℤ × List Token)
whole_on tokens None = do
  number ← next_magnitude tokens
  Some (pos number.0, number.1)
whole_on tokens (Some behind) = do
  number ← next_magnitude behind
  only_if (nat_lt 0 number.0) (Some (negsuc (number.0 - 1), number.1))

-- a bound
unfoldable pub next_whole : Reader ℤ
next_whole tokens = whole_on tokens (after_sign s.Minus tokens)

-- a name and `;`
unfoldable pub read_named : Reader Name
read_named tokens = do
  name ← next_name tokens
  ending name.0 name.1

-- `image NAME LO HI;`, after its word
unfoldable pub read_image : Reader Command
read_image tokens = do
  name ← next_name tokens
  lo ← next_whole name.1
  hi ← next_whole lo.1
  ending (command.Image name.0 lo.0 hi.0) hi.1

-- a command of a name
abbrev pub name_command : (Name → Command) → Reader Command
name_command make tokens = do
  name ← read_named tokens
  Some (make name.0, name.1)

-- a command that is no `times`, after its word
abbrev pub word_simple : Word → Reader Command
word_simple w.Load tokens = name_command command.Load tokens
word_simple w.Run tokens = name_command command.Run tokens
word_simple w.Dump tokens = name_command command.Dump tokens
word_simple w.Image tokens = read_image tokens
word_simple w.Stats tokens = name_command command.Stats tokens
word_simple w.Prune tokens = name_command command.Prune tokens
word_simple w.Clear tokens = name_command command.Clear tokens
word_simple _ tokens = None

-- a command that is no `times`
unfoldable pub read_simple : Reader Command
read_simple (t.Word word ∷ rest) = word_simple word rest
read_simple _ = None

-- `times NUMBER { COMMANDS }`, after its word
unfoldable pub read_times : Reader Command
read_times tokens = do
  number ← next_plain tokens
  brace ← after_sign s.OpenBrace number.1
  body ← list_to_end (after_sign s.CloseBrace) read_simple brace
  only_if (nat_le 1 (length body.0)) (Some (command.Times number.0 body.0, body.1))

-- a command as an item
abbrev pub command_item : Option (Command × List Token) → Option (Item × List Token)
command_item read = do
  given ← read
  Some (item.Command given.0, given.1)

-- an item, after its first word
abbrev pub word_item : Word → Reader Item
word_item w.Const tokens = read_const tokens
word_item w.Layout tokens = read_layout tokens
word_item w.Kernel tokens = read_kernel tokens
word_item w.Times tokens = command_item (read_times tokens)
word_item word tokens = command_item (word_simple word tokens)

-- an item
unfoldable pub read_item : Reader Item
read_item (t.Word word ∷ rest) = word_item word rest
read_item _ = None
