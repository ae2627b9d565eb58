-- Each item is read from its tokens, and so each item begins with the tokens of at most one tree.
use Rattle.std.specs.Prelude.{◌≡◌, refl, ℕ, ◌+◌, ◌-◌, ◌≤◌, Bool, true, false, ◌&&◌, nat_le, nat_lt, ℤ, pos, negsuc, List, [], ◌∷◌, ◌++◌, map, length, Option, Some, None}
use Rattle.std.specs.List.{AllByRecursion, list_all}
use Rattle.std.proofs.Common.{sym, ◌∙◌, ap, arith, append_assoc, length-append}
use Rattle.std.proofs.lemmas.Bool.{and_parts, and_from, leb-true, le-leb, lt-ltb, not_from_false}
use Rattle.std.proofs.lemmas.Option.{some_pair_parts}
use Rattle.sg_words.specs.declared.operators.Ty.{Ty}
use Rattle.sg_words.specs.declared.operators.Ty.TheVariants as ty
use Rattle.sg_ast.specs.declared.token.Name.{Name}
use Rattle.sg_ast.specs.declared.token.Word.{Word}
use Rattle.sg_ast.specs.declared.token.Word.TheVariants as w
use Rattle.sg_ast.specs.declared.token.Sign.TheVariants as s
use Rattle.sg_ast.specs.declared.token.Token.{Token}
use Rattle.sg_ast.specs.declared.token.Token.TheVariants as t
use Rattle.sg_ast.specs.declared.expr.Expr.{Expr}
use Rattle.sg_ast.specs.declared.expr.Expr.TheVariants as e
use Rattle.sg_ast.specs.declared.layout.SizeDecl.{SizeDecl}
use Rattle.sg_ast.specs.declared.layout.SizeDecl.TheVariants as size
use Rattle.sg_ast.specs.declared.layout.AxisDecl.{AxisDecl}
use Rattle.sg_ast.specs.declared.layout.NodeKind.{NodeKind}
use Rattle.sg_ast.specs.declared.layout.NodeKind.TheVariants as kind
use Rattle.sg_ast.specs.declared.layout.NodeDecl.{NodeDecl}
use Rattle.sg_ast.specs.declared.layout.FieldDecl.{FieldDecl}
use Rattle.sg_ast.specs.declared.layout.LayoutDecl.{LayoutDecl}
use Rattle.sg_ast.specs.declared.stmt.RangeDecl.{RangeDecl}
use Rattle.sg_ast.specs.declared.kernel.DomainDecl.{DomainDecl}
use Rattle.sg_ast.specs.declared.kernel.DomainDecl.TheVariants as domain
use Rattle.sg_ast.specs.declared.kernel.KernelDecl.{KernelDecl}
use Rattle.sg_ast.specs.declared.command.Command.{Command}
use Rattle.sg_ast.specs.declared.command.Command.TheVariants as command
use Rattle.sg_ast.specs.declared.program.ConstDecl.{ConstDecl}
use Rattle.sg_ast.specs.declared.program.Item.{Item}
use Rattle.sg_ast.specs.declared.program.Item.TheVariants as item
use Rattle.sg_ast.specs.Token.{is_name, is_number}
use Rattle.sg_ast.specs.Expr.{with_commas, each_more, tokens_of, depth, levelled}
use Rattle.sg_ast.specs.Stmt.{joined_lists, range_tokens, block_tokens, stmt_tokens, nesting}
use Rattle.sg_ast.specs.Layout.{size_token, axis_tokens, kind_token, bound_by, node_tokens, ty_token, field_tokens, layout_tokens}
use Rattle.sg_ast.specs.Kernel.{domain_tokens, kernel_tokens}
use Rattle.sg_ast.specs.Command.{magnitude_token, bound_tokens, command_tokens}
use Rattle.sg_ast.specs.Program.{const_tokens, item_tokens}
use Rattle.sg_ast.specs.Limits.{max_depth, max_nesting, max_number, most_listed_axes, most_listed_nodes}
use Rattle.sg_ast.specs.Grammar.{is_expr, is_formed, one_to, one_or_more, is_size, is_axis, has_bounds, is_node, is_field_ty, is_field_decl, is_layout, is_range, is_stmt, is_domain, is_kernel, is_bound, is_simple, is_command, is_const, is_item}
use Rattle.sg_ast.proofs.Uses.{tokens_of-Name, depth-Name, levelled-Name, is_formed-Name, by_command_variant, command_tokens-Load, command_tokens-Run, command_tokens-Times, command_tokens-Dump, command_tokens-Image, command_tokens-Stats, command_tokens-Prune, command_tokens-Clear, is_simple-Load, is_simple-Run, is_simple-Times, is_simple-Dump, is_simple-Image, is_simple-Stats, is_simple-Prune, is_simple-Clear, is_command-Load, is_command-Run, is_command-Times, is_command-Dump, is_command-Image, is_command-Stats, is_command-Prune, is_command-Clear}
use Rattle.sg_parser.specs.Front.{after_sign, after_word, next_name}
use Rattle.sg_words.specs.Options.{◌>>=◌}
use Rattle.sg_parser.specs.ReadExpr.{read_expr}
use Rattle.sg_parser.specs.ReadStmt.{read_range, read_block}
use Rattle.sg_parser.specs.ReadItem.{read_const_value, read_const, next_size, read_axis, next_kind, has_chunk, declares_cap, next_bound, node_head, read_bounds, read_node, next_ty, read_field, before_field, layout_head, layout_body, read_layout, lone_name, read_domain, kernel_head, kernel_loop, read_kernel, has_right_suffix, next_magnitude, next_whole, read_named, read_image, name_command, read_simple, read_times, read_item}
use Rattle.sg_parser.proofs.StepLemmas.{bind_some, only_if_true, after_sign_is, next_name_is}
use Rattle.sg_parser.proofs.ListLemmas.{listed_complete, repeated_complete}
use Rattle.sg_parser.proofs.ExprComplete.{Ends, ends_sign, ends_comma, ends_brace}
use Rattle.sg_parser.proofs.StmtSound.{GoodExpr, GoodRange, range_parts, block_parts}
use Rattle.sg_parser.proofs.StmtComplete.{expr_complete, range_complete, block_at_complete}
use Rattle.sg_parser.proofs.ItemParts.{IsGood, name_token, minus_front, const_parts, node_parts, layout_parts, kernel_parts, image_parts, times_parts}
use Rattle.sg_parser.proofs.LayoutSound.{fits_bound}

pub each_pass : {A : Type 0} (test : A → Bool) (items : List A) → list_all test items ≡ true → AllByRecursion (IsGood test) items
each_pass test [] h = tt
each_pass test (a ∷ items) h = let p = and_parts (test a) (list_all test items) h in (p.0, each_pass test items p.1)

-- nothing is asked of what follows
abbrev Anything : List Token → Type 0
Anything rest = Unit {0}

name_complete : (name : Name) (rest : List Token) → IsGood is_name name → Anything rest → next_name (name_token name ++ rest) ≡ Some (name, rest)
name_complete name rest good any = only_if_true (is_name name) (Some (name, rest)) good

-- constants
value_complete : (name : Name) (minus : Bool) (value : ℕ) (unsigned : Bool) (rest : List Token) → is_number value unsigned ≡ true
    → read_const_value name minus (t.Number value unsigned ∷ t.Sign s.Semicolon ∷ rest) ≡ Some (item.Const (record { name = name; minus = minus; value = value; unsigned = unsigned }), rest)
value_complete name minus value unsigned rest good = rw good refl

const_complete : (name : Name) (minus : Bool) (value : ℕ) (unsigned : Bool) (rest : List Token) → is_name name ≡ true → is_number value unsigned ≡ true
    → read_const (t.Name name ∷ t.Sign s.Equal ∷ minus_front minus (t.Number value unsigned ∷ t.Sign s.Semicolon ∷ rest)) ≡ Some (item.Const (record { name = name; minus = minus; value = value; unsigned = unsigned }), rest)
unfolding read_const
const_complete name true value unsigned rest read_name_expr good = rw (read_name_expr, good) refl
const_complete name false value unsigned rest read_name_expr good = rw (read_name_expr, good) refl

-- layouts
size_complete : (x : SizeDecl) (rest : List Token) → is_size x ≡ true → next_size (size_token x ∷ rest) ≡ Some (x, rest)
size_complete (size.Number value) rest good = rw good refl
size_complete (size.Name name) rest good = rw good refl

axis_complete : (a : AxisDecl) (rest : List Token) → IsGood is_axis a → Anything rest → read_axis (axis_tokens a ++ rest) ≡ Some (a, rest)
unfolding read_axis
axis_complete a rest good any =
    let p = and_parts (is_name a.name) (is_size a.size) good in
    rw (p.0, size_complete a.size rest p.1) refl

kind_complete : (k : NodeKind) (rest : List Token) → next_kind (kind_token k ∷ rest) ≡ Some (k, rest)
kind_complete kind.Dense rest = refl
kind_complete kind.Bitmasked rest = refl
kind_complete kind.Pointer rest = refl
kind_complete kind.Hash rest = refl
kind_complete kind.Dynamic rest = refl

bound_complete : (word : Word) (has : Bool) (x : Option SizeDecl) (rest : List Token) → after_word word (t.Word word ∷ []) ≡ Some [] → fits_bound has x ≡ true
    → ((more : List Token) → after_word word (t.Word word ∷ more) ≡ Some more) → next_bound word has (bound_by word x ++ rest) ≡ Some (x, rest)
bound_complete word true (Some x) rest is good found = rw (found (size_token x ∷ rest), size_complete x rest good) refl
bound_complete word false None rest is good found = refl
bound_complete word _ _ rest is good found = absurd (cc)

bounds_to : (k : NodeKind) (chunk cap : Option SizeDecl) → has_bounds k chunk cap ≡ true → (fits_bound (has_chunk k) chunk ≡ true) × (fits_bound (declares_cap k) cap ≡ true)
bounds_to kind.Dense None None h = (refl, refl)
bounds_to kind.Bitmasked None None h = (refl, refl)
bounds_to kind.Pointer None (Some cap) h = (refl, h)
bounds_to kind.Hash None (Some cap) h = (refl, h)
bounds_to kind.Dynamic (Some chunk) (Some cap) h = and_parts (is_size chunk) (is_size cap) h
bounds_to _ _ _ h = absurd (cc)

node_complete : (a : NodeDecl) (rest : List Token) → IsGood is_node a → Anything rest → read_node (node_tokens a ++ rest) ≡ Some (a, rest)
unfolding read_node node_head read_bounds
node_complete a rest good any =
    let p = and_parts (one_to most_listed_axes is_axis a.axes) (has_bounds a.kind a.chunk a.cap) good in
    let q = and_parts (nat_le 1 (length a.axes) && nat_le (length a.axes) most_listed_axes) (list_all is_axis a.axes) p.0 in
    let r = and_parts (nat_le 1 (length a.axes)) (nat_le (length a.axes) most_listed_axes) q.0 in
    let o = bounds_to a.kind a.chunk a.cap p.1 in
    let cap : List Token = bound_by w.Cap a.cap ++ t.Sign s.Semicolon ∷ rest in
    let chunk : List Token = bound_by w.Chunk a.chunk ++ cap in
    let close : List Token = t.Sign s.CloseParen ∷ chunk in
    ap read_node (node_parts a rest)
    ∙ rw (
      kind_complete a.kind (t.Sign s.OpenParen ∷ (with_commas (map axis_tokens a.axes) ++ close)),
      listed_complete AxisDecl read_axis axis_tokens (IsGood is_axis) Anything axis_complete (λ more. tt) a.axes close (leb-true 1 (length a.axes) r.0) (each_pass is_axis a.axes q.1) tt (omega arith) refl,
      bound_complete w.Chunk (has_chunk a.kind) a.chunk cap refl o.0 (λ more. refl),
      bound_complete w.Cap (declares_cap a.kind) a.cap (t.Sign s.Semicolon ∷ rest) refl o.1 (λ more. refl),
      r.1,
    ) refl

ty_complete : (x : Ty) (rest : List Token) → is_field_ty x ≡ true → next_ty (ty_token x ∷ rest) ≡ Some (x, rest)
ty_complete ty.I32 rest good = refl
ty_complete ty.U32 rest good = refl
ty_complete ty.Bool rest good = absurd (cc)

field_complete : (a : FieldDecl) (rest : List Token) → IsGood is_field_decl a → Anything rest → read_field (field_tokens a ++ rest) ≡ Some (a, rest)
unfolding read_field
field_complete a rest good any =
    let p = and_parts (is_name a.name) (is_field_ty a.ty) good in
    rw (p.0, ty_complete a.ty (t.Sign s.Semicolon ∷ rest) p.1) refl

-- a node does not begin as a field does, and a field is no `}`
node_no_field : (k : NodeKind) (more : List Token) → before_field (kind_token k ∷ more) ≡ None
node_no_field kind.Dense more = refl
node_no_field kind.Bitmasked more = refl
node_no_field kind.Pointer more = refl
node_no_field kind.Hash more = refl
node_no_field kind.Dynamic more = refl

fields_begin : (fields : List FieldDecl) (more : List Token) → 1 ≤ length fields → before_field (joined_lists (map field_tokens fields) ++ more) ≡ Some (joined_lists (map field_tokens fields) ++ more)
fields_begin [] more some = absurd (omega arith)
fields_begin (a ∷ fields) more some = refl

layout_complete : (a : LayoutDecl) (rest : List Token) → is_layout a ≡ true → read_item (layout_tokens a ++ rest) ≡ Some (item.Layout a, rest)
unfolding read_item read_layout layout_head layout_body
layout_complete a rest good =
    let p = and_parts (is_name a.name && one_to most_listed_axes is_name a.axes) (one_to most_listed_nodes is_node a.nodes && one_or_more is_field_decl a.fields) good in
    let q = and_parts (is_name a.name) (one_to most_listed_axes is_name a.axes) p.0 in
    let r = and_parts (nat_le 1 (length a.axes) && nat_le (length a.axes) most_listed_axes) (list_all is_name a.axes) q.1 in
    let o = and_parts (nat_le 1 (length a.axes)) (nat_le (length a.axes) most_listed_axes) r.0 in
    let u = and_parts (one_to most_listed_nodes is_node a.nodes) (one_or_more is_field_decl a.fields) p.1 in
    let v = and_parts (nat_le 1 (length a.nodes) && nat_le (length a.nodes) most_listed_nodes) (list_all is_node a.nodes) u.0 in
    let x = and_parts (nat_le 1 (length a.fields)) (list_all is_field_decl a.fields) u.1 in
    let some = leb-true 1 (length a.fields) x.0 in
    let counts = and_from (nat_le (length a.axes) most_listed_axes) _ o.1 (and_from (nat_le 1 (length a.nodes) && nat_le (length a.nodes) most_listed_nodes) (nat_le 1 (length a.fields)) v.0 x.0) in
    let last : List Token = t.Sign s.CloseBrace ∷ rest in
    let fields : List Token = joined_lists (map field_tokens a.fields) ++ last in
    let close : List Token = t.Sign s.CloseParen ∷ t.Sign s.OpenBrace ∷ (joined_lists (map node_tokens a.nodes) ++ fields) in
    ap read_item (layout_parts a rest)
    ∙ rw (
      q.0,
      listed_complete Name next_name name_token (IsGood is_name) Anything name_complete (λ more. tt) a.axes close (leb-true 1 (length a.axes) o.0) (each_pass is_name a.axes r.1) tt (omega arith) refl,
      repeated_complete NodeDecl read_node node_tokens (IsGood is_node) Anything node_complete before_field (λ x more good. tt) (λ x more good. node_no_field x.kind _) (λ x good. omega arith) a.nodes fields fields (each_pass is_node a.nodes v.1) tt
          (omega (arith, length-append (joined_lists (map field_tokens a.fields)) last)) (fields_begin a.fields last some),
      repeated_complete FieldDecl read_field field_tokens (IsGood is_field_decl) Anything field_complete (after_sign s.CloseBrace) (λ x more good. tt) (λ x more good. refl) (λ x good. omega arith) a.fields last rest (each_pass is_field_decl a.fields x.1) tt (omega arith) refl,
      counts,
    ) refl

-- kernels: a range does not begin with a name and a `{`, since it would be read as that name and as its first bound
ranges_no_name : (lo : Expr) (tokens more rest : List Token) (name : Name) → GoodExpr lo → is_name name ≡ true → tokens ≡ tokens_of lo ++ t.Sign s.DotDot ∷ more → tokens ≡ t.Name name ∷ t.Sign s.OpenBrace ∷ rest → ⊥
ranges_no_name lo tokens more rest name good read_name_expr ranged lone =
    let as_range = expr_complete lo (t.Sign s.DotDot ∷ more) good (ends_sign 1 s.DotDot more refl refl) in
    let alone : IsGood is_expr (e.Name name) = and_from (is_formed (e.Name name)) _ (is_formed-Name name ∙ read_name_expr) (and_from (levelled (e.Name name)) _ (levelled-Name name) (le-leb (depth (e.Name name)) max_depth (omega (arith, depth-Name name)))) in
    let as_name = expr_complete (e.Name name) (t.Sign s.OpenBrace ∷ rest) alone (ends_brace 1 rest) in
    let spelled : tokens_of (e.Name name) ++ t.Sign s.OpenBrace ∷ rest ≡ tokens_of lo ++ t.Sign s.DotDot ∷ more = ap (λ k. k ++ t.Sign s.OpenBrace ∷ rest) (tokens_of-Name name) ∙ sym lone ∙ ranged in
    let same = some_pair_parts (e.Name name) lo (t.Sign s.OpenBrace ∷ rest) (t.Sign s.DotDot ∷ more) (sym as_name ∙ ap read_expr spelled ∙ as_range) in
    let heads = same.1 in
    absurd (cc)

no_lone_name : (lo : Expr) (more : List Token) → GoodExpr lo → lone_name (tokens_of lo ++ t.Sign s.DotDot ∷ more) ≡ None
no_lone_name lo more good = go (lone_name tokens) refl where
  tokens : List Token
  tokens = tokens_of lo ++ t.Sign s.DotDot ∷ more

  go : (o : Option (Name × List Token)) → lone_name (tokens_of lo ++ t.Sign s.DotDot ∷ more) ≡ o → o ≡ None
  go None is = refl
  go (Some name) is =
      let p = bind_some (next_name (tokens_of lo ++ t.Sign s.DotDot ∷ more)) (λ (name : Name × List Token). after_sign s.OpenBrace name.1 >>= λ brace. Some name) name is in
      let q = bind_some (after_sign s.OpenBrace p.0.1) (λ (brace : List Token). Some p.0) name p.2 in
      let read = next_name_is (tokens_of lo ++ t.Sign s.DotDot ∷ more) p.0.1 p.0.0 p.1 in
      absurd (ranges_no_name lo (tokens_of lo ++ t.Sign s.DotDot ∷ more) more q.0 p.0.0 good read.1 refl (read.0 ∙ ap (λ k. t.Name p.0.0 ∷ k) (after_sign_is s.OpenBrace p.0.1 q.0 q.1)))

ranges_no_lone : (ranges : List RangeDecl) (rest : List Token) → 1 ≤ length ranges → list_all is_range ranges ≡ true → lone_name (with_commas (map range_tokens ranges) ++ rest) ≡ None
ranges_no_lone [] rest some good = absurd (omega arith)
ranges_no_lone (range ∷ ranges) rest some good =
    let p = and_parts (is_range range) (list_all is_range ranges) good in
    let q = and_parts (is_expr range.lo) (is_expr range.hi) p.0 in
    let more : List Token = each_more (map range_tokens ranges) in
    ap lone_name (append_assoc (range_tokens range) more rest ∙ range_parts range (more ++ rest)) ∙ no_lone_name range.lo (tokens_of range.hi ++ (more ++ rest)) q.0

domain_complete : (a : DomainDecl) (rest : List Token) → is_domain a ≡ true → read_domain (domain_tokens a ++ t.Sign s.OpenBrace ∷ rest) ≡ Some (a, t.Sign s.OpenBrace ∷ rest)
unfolding read_domain
domain_complete (domain.Layout name) rest good = rw good refl
domain_complete (domain.Ranges ranges) rest good =
    let p = and_parts (nat_le 1 (length ranges) && nat_le (length ranges) most_listed_axes) (list_all is_range ranges) good in
    let q = and_parts (nat_le 1 (length ranges)) (nat_le (length ranges) most_listed_axes) p.0 in
    let some = leb-true 1 (length ranges) q.0 in
    rw (
      ranges_no_lone ranges (t.Sign s.OpenBrace ∷ rest) some p.1,
      listed_complete RangeDecl read_range range_tokens GoodRange (Ends 1) range_complete (λ more. ends_comma 1 more) ranges (t.Sign s.OpenBrace ∷ rest) some (each_pass is_range ranges p.1) (ends_brace 1 rest) (omega arith) refl,
      q.1,
    ) refl

kernel_complete : (a : KernelDecl) (rest : List Token) → is_kernel a ≡ true → read_item (kernel_tokens a ++ rest) ≡ Some (item.Kernel a, rest)
unfolding read_item read_kernel kernel_head kernel_loop
kernel_complete a rest good =
    let p = and_parts (is_name a.name && one_to most_listed_axes is_name a.vars) (is_domain a.domain && (list_all is_stmt a.body && nat_le (nesting a.body) max_nesting)) good in
    let q = and_parts (is_name a.name) (one_to most_listed_axes is_name a.vars) p.0 in
    let r = and_parts (nat_le 1 (length a.vars) && nat_le (length a.vars) most_listed_axes) (list_all is_name a.vars) q.1 in
    let o = and_parts (nat_le 1 (length a.vars)) (nat_le (length a.vars) most_listed_axes) r.0 in
    let u = and_parts (is_domain a.domain) (list_all is_stmt a.body && nat_le (nesting a.body) max_nesting) p.1 in
    let v = and_parts (list_all is_stmt a.body) (nat_le (nesting a.body) max_nesting) u.1 in
    let last : List Token = t.Sign s.CloseBrace ∷ rest in
    let inside : List Token = joined_lists (map stmt_tokens a.body) ++ t.Sign s.CloseBrace ∷ last in
    let over : List Token = t.Word w.In ∷ (domain_tokens a.domain ++ t.Sign s.OpenBrace ∷ inside) in
    let body : block_tokens a.body ++ last ≡ t.Sign s.OpenBrace ∷ inside = block_parts a.body last in
    let block : read_block (t.Sign s.OpenBrace ∷ inside) ≡ Some (a.body, last) = ap read_block (sym body) ∙ block_at_complete max_nesting a.body last (record { good = v.0; shallow = leb-true (nesting a.body) max_nesting v.1 }) in
    ap read_item (kernel_parts a rest ∙ ap (λ k. t.Word w.Kernel ∷ t.Name a.name ∷ t.Sign s.OpenBrace ∷ t.Word w.For ∷ (with_commas (map name_token a.vars) ++ t.Word w.In ∷ (domain_tokens a.domain ++ k))) body)
    ∙ rw (
      q.0,
      listed_complete Name next_name name_token (IsGood is_name) Anything name_complete (λ more. tt) a.vars over (leb-true 1 (length a.vars) o.0) (each_pass is_name a.vars r.1) tt (omega arith) refl,
      domain_complete a.domain inside u.0,
      block,
      o.1,
    ) refl

-- commands
marked_from : (value : ℕ) (mark : Bool) → nat_lt (max_number false) value ≡ mark → has_right_suffix mark value ≡ true
marked_from value true is = is
marked_from value false is = not_from_false (nat_lt (max_number false) value) is

magnitude_complete : (value : ℕ) (rest : List Token) → is_number value true ≡ true → next_magnitude (magnitude_token value ∷ rest) ≡ Some (value, rest)
magnitude_complete value rest good = only_if_true (has_right_suffix (nat_lt (max_number false) value) value && is_number value true) (Some (value, rest)) (and_from (has_right_suffix (nat_lt (max_number false) value) value) (is_number value true) (marked_from value (nat_lt (max_number false) value) refl) good)

whole_complete : (a : ℤ) (rest : List Token) → is_bound a ≡ true → next_whole (bound_tokens a ++ rest) ≡ Some (a, rest)
unfolding next_whole
whole_complete (pos n) rest good = rw (magnitude_complete n rest good) refl
whole_complete (negsuc n) rest good =
    let above : nat_lt 0 (n + 1) ≡ true = lt-ltb 0 (n + 1) (omega arith) in
    let same : n + 1 - 1 ≡ n = omega arith in
    rw (magnitude_complete (n + 1) rest good, above, same) refl

about_complete : (make : Name → Command) (name : Name) (rest : List Token) → is_name name ≡ true → name_command make (t.Name name ∷ t.Sign s.Semicolon ∷ rest) ≡ Some (make name, rest)
unfolding read_named
about_complete make name rest good = rw good refl

image_complete : (field : Name) (lo hi : ℤ) (rest : List Token) → is_name field ≡ true → is_bound lo ≡ true → is_bound hi ≡ true
    → read_image (t.Name field ∷ (bound_tokens lo ++ (bound_tokens hi ++ t.Sign s.Semicolon ∷ rest))) ≡ Some (command.Image field lo hi, rest)
unfolding read_image
image_complete field lo hi rest read_name_expr low high = rw (read_name_expr, whole_complete lo (bound_tokens hi ++ t.Sign s.Semicolon ∷ rest) low, whole_complete hi (t.Sign s.Semicolon ∷ rest) high) refl

-- a simple command begins with a word, and that word is no sign
abbrev SimpleReads : Command → Type 0
SimpleReads a = (rest : List Token) → is_simple a ≡ true → read_simple (command_tokens a ++ rest) ≡ Some (a, rest)

simple_complete : (a : Command) → SimpleReads a
unfolding read_simple
simple_complete = by_command_variant SimpleReads
    (λ field rest h. rw (command_tokens-Load field) (about_complete command.Load field rest (sym (is_simple-Load field) ∙ h)))
    (λ kernel rest h. rw (command_tokens-Run kernel) (about_complete command.Run kernel rest (sym (is_simple-Run kernel) ∙ h)))
    (λ number body rest h. let e = is_simple-Times number body in absurd (cc))
    (λ field rest h. rw (command_tokens-Dump field) (about_complete command.Dump field rest (sym (is_simple-Dump field) ∙ h)))
    (λ field lo hi rest h. let p = and_parts (is_name field) (is_bound lo && is_bound hi) (sym (is_simple-Image field lo hi) ∙ h) in let q = and_parts (is_bound lo) (is_bound hi) p.1 in
    rw (image_parts field lo hi rest) (image_complete field lo hi rest p.0 q.0 q.1))
    (λ layout rest h. rw (command_tokens-Stats layout) (about_complete command.Stats layout rest (sym (is_simple-Stats layout) ∙ h)))
    (λ layout rest h. rw (command_tokens-Prune layout) (about_complete command.Prune layout rest (sym (is_simple-Prune layout) ∙ h)))
    (λ layout rest h. rw (command_tokens-Clear layout) (about_complete command.Clear layout rest (sym (is_simple-Clear layout) ∙ h)))

simple_no_brace : (a : Command) (rest : List Token) → after_sign s.CloseBrace (command_tokens a ++ rest) ≡ None
simple_no_brace = by_command_variant (λ a. (rest : List Token) → after_sign s.CloseBrace (command_tokens a ++ rest) ≡ None)
    (λ field rest. rw (command_tokens-Load field) refl)
    (λ kernel rest. rw (command_tokens-Run kernel) refl)
    (λ number body rest. rw (command_tokens-Times number body) refl)
    (λ field rest. rw (command_tokens-Dump field) refl)
    (λ field lo hi rest. rw (command_tokens-Image field lo hi) refl)
    (λ layout rest. rw (command_tokens-Stats layout) refl)
    (λ layout rest. rw (command_tokens-Prune layout) refl)
    (λ layout rest. rw (command_tokens-Clear layout) refl)

command_some : (a : Command) → 1 ≤ length (command_tokens a)
command_some = by_command_variant (λ a. 1 ≤ length (command_tokens a))
    (λ field. rw (command_tokens-Load field) (omega arith))
    (λ kernel. rw (command_tokens-Run kernel) (omega arith))
    (λ number body. rw (command_tokens-Times number body) (omega arith))
    (λ field. rw (command_tokens-Dump field) (omega arith))
    (λ field lo hi. rw (command_tokens-Image field lo hi) (omega arith))
    (λ layout. rw (command_tokens-Stats layout) (omega arith))
    (λ layout. rw (command_tokens-Prune layout) (omega arith))
    (λ layout. rw (command_tokens-Clear layout) (omega arith))

times_complete : (number : ℕ) (body : List Command) (rest : List Token) → is_command (command.Times number body) ≡ true
    → read_times (t.Number number false ∷ t.Sign s.OpenBrace ∷ (joined_lists (map command_tokens body) ++ t.Sign s.CloseBrace ∷ rest)) ≡ Some (command.Times number body, rest)
unfolding read_times
times_complete number body rest h =
    let p = and_parts (is_number number false) (one_or_more is_simple body) (sym (is_command-Times number body) ∙ h) in
    let q = and_parts (nat_le 1 (length body)) (list_all is_simple body) p.1 in
    rw (
      p.0,
      repeated_complete Command read_simple command_tokens (IsGood is_simple) Anything (λ a rest good any. simple_complete a rest good) (after_sign s.CloseBrace) (λ x more good. tt) (λ x more good. simple_no_brace x more)
          (λ x good. command_some x) body (t.Sign s.CloseBrace ∷ rest) rest (each_pass is_simple body q.1) tt (omega arith) refl,
      q.0,
    ) refl

-- a command as an item
abbrev CommandReads : Command → Type 0
CommandReads a = (rest : List Token) → is_command a ≡ true → read_item (command_tokens a ++ rest) ≡ Some (item.Command a, rest)

command_complete : (a : Command) → CommandReads a
unfolding read_item
command_complete = by_command_variant CommandReads
    (λ field rest h. rw (command_tokens-Load field, about_complete command.Load field rest (sym (is_command-Load field) ∙ h)) refl)
    (λ kernel rest h. rw (command_tokens-Run kernel, about_complete command.Run kernel rest (sym (is_command-Run kernel) ∙ h)) refl)
    (λ number body rest h. rw (times_parts number body rest, times_complete number body rest h) refl)
    (λ field rest h. rw (command_tokens-Dump field, about_complete command.Dump field rest (sym (is_command-Dump field) ∙ h)) refl)
    (λ field lo hi rest h. let p = and_parts (is_name field) (is_bound lo && is_bound hi) (sym (is_command-Image field lo hi) ∙ h) in let q = and_parts (is_bound lo) (is_bound hi) p.1 in
    rw (image_parts field lo hi rest, image_complete field lo hi rest p.0 q.0 q.1) refl)
    (λ layout rest h. rw (command_tokens-Stats layout, about_complete command.Stats layout rest (sym (is_command-Stats layout) ∙ h)) refl)
    (λ layout rest h. rw (command_tokens-Prune layout, about_complete command.Prune layout rest (sym (is_command-Prune layout) ∙ h)) refl)
    (λ layout rest h. rw (command_tokens-Clear layout, about_complete command.Clear layout rest (sym (is_command-Clear layout) ∙ h)) refl)

const_item : (a : ConstDecl) (rest : List Token) → is_const a ≡ true → read_item (const_tokens a ++ rest) ≡ Some (item.Const a, rest)
unfolding read_item
const_item a rest good =
    let p = and_parts (is_name a.name) (is_number a.value a.unsigned) good in
    ap read_item (const_parts a.name a.minus a.value a.unsigned rest) ∙ const_complete a.name a.minus a.value a.unsigned rest p.0 p.1

pub item_complete : (a : Item) (rest : List Token) → is_item a ≡ true → read_item (item_tokens a ++ rest) ≡ Some (a, rest)
item_complete (item.Const a) rest good = const_item a rest good
item_complete (item.Layout a) rest good = layout_complete a rest good
item_complete (item.Kernel a) rest good = kernel_complete a rest good
item_complete (item.Command a) rest good = command_complete a rest good
