-- What is read as a layout is one, and the tokens that were taken are its tokens.
use Rattle.std.specs.Prelude.{◌≡◌, refl, ◌≤◌, Bool, true, false, ◌&&◌, nat_le, List, [], ◌∷◌, ◌++◌, map, length, Option, Some, None, option_map}
use Rattle.std.specs.List.{AllByRecursion, list_all}
use Rattle.std.proofs.Common.{◌∙◌, ap}
use Rattle.std.proofs.lemmas.Bool.{and_parts, and_from}
use Rattle.std.proofs.lemmas.Option.{same_Some}
use Rattle.sg_words.specs.declared.operators.Ty.{Ty}
use Rattle.sg_words.specs.declared.operators.Ty.TheVariants as ty
use Rattle.sg_ast.specs.declared.token.Name.{Name}
use Rattle.sg_ast.specs.declared.token.Word.{Word}
use Rattle.sg_ast.specs.declared.token.Word.TheVariants as w
use Rattle.sg_ast.specs.declared.token.Sign.TheVariants as s
use Rattle.sg_ast.specs.declared.token.Token.{Token}
use Rattle.sg_ast.specs.declared.token.Token.TheVariants as t
use Rattle.sg_ast.specs.declared.layout.SizeDecl.{SizeDecl}
use Rattle.sg_ast.specs.declared.layout.AxisDecl.{AxisDecl}
use Rattle.sg_ast.specs.declared.layout.NodeKind.{NodeKind}
use Rattle.sg_ast.specs.declared.layout.NodeKind.TheVariants as kind
use Rattle.sg_ast.specs.declared.layout.NodeDecl.{NodeDecl}
use Rattle.sg_ast.specs.declared.layout.FieldDecl.{FieldDecl}
use Rattle.sg_ast.specs.declared.layout.LayoutDecl.{LayoutDecl}
use Rattle.sg_ast.specs.declared.program.Item.{Item}
use Rattle.sg_ast.specs.declared.program.Item.TheVariants as item
use Rattle.sg_ast.specs.Token.{is_name}
use Rattle.sg_ast.specs.Expr.{with_commas}
use Rattle.sg_ast.specs.Stmt.{joined_lists}
use Rattle.sg_ast.specs.Layout.{axis_tokens, kind_token, bound_by, node_tokens, ty_token, field_tokens}
use Rattle.sg_ast.specs.Program.{item_tokens}
use Rattle.sg_ast.specs.Grammar.{one_to, one_or_more, is_size, is_axis, has_bounds, is_node, is_field_ty, is_field_decl, is_item}
use Rattle.sg_parser.specs.Front.{after_sign, after_word, next_name, comma_list, list_to_end}
use Rattle.sg_parser.specs.ReadItem.{ending, next_size, read_axis, next_kind, has_chunk, declares_cap, next_bound, node_head, read_bounds, read_node, next_ty, read_field, before_field, layout_head, layout_body, read_layout}
use Rattle.sg_parser.proofs.StepLemmas.{bind_some, only_if_some, after_sign_is, after_word_is, next_name_is}
use Rattle.sg_parser.proofs.ListLemmas.{IsSoundReader, listed_sound, repeated_sound}
use Rattle.sg_parser.proofs.StmtSound.{made_is, made_two}
use Rattle.sg_parser.proofs.ItemParts.{IsGood, all_pass, one_to_from, name_token, node_parts, layout_parts, ending_sound, size_sound, name_sound}
use Rattle.sg_ast.specs.Limits.{most_listed_axes, most_listed_nodes}

axis_sound : IsSoundReader axis_tokens (IsGood is_axis) read_axis
unfolding read_axis
axis_sound tokens a rest h =
    let p = bind_some (next_name tokens) _ (a, rest) h in
    let q = bind_some (after_sign s.Colon p.0.1) _ (a, rest) p.2 in
    let r = bind_some (next_size q.0) _ (a, rest) q.2 in
    let name = next_name_is tokens p.0.1 p.0.0 p.1 in
    let colon = after_sign_is s.Colon p.0.1 q.0 q.1 in
    let size = size_sound q.0 r.0.1 r.0.0 r.1 in
    let made : AxisDecl = record { name = p.0.0; size = r.0.0 } in
    made_is (λ (a : AxisDecl) (rest : List Token). (is_axis a ≡ true) × (tokens ≡ axis_tokens a ++ rest)) made a r.0.1 rest
    (and_from (is_name p.0.0) (is_size r.0.0) name.1 size.0, cc (name.0, colon, size.1)) r.2

kind_given : (word : Word) (of k : NodeKind) (more rest : List Token) → t.Word word ≡ kind_token of → ◌≡◌ {A = Option (NodeKind × List Token)} (Some (of, more)) (Some (k, rest)) → t.Word word ∷ more ≡ kind_token k ∷ rest
kind_given word of k more rest is h = made_is (λ (k : NodeKind) (rest : List Token). t.Word word ∷ more ≡ kind_token k ∷ rest) of k more rest (ap (λ x. x ∷ more) is) h

kind_sound : (tokens rest : List Token) (k : NodeKind) → next_kind tokens ≡ Some (k, rest) → tokens ≡ kind_token k ∷ rest
kind_sound [] rest k h = absurd (cc)
kind_sound (t.Word w.Dense ∷ more) rest k h = kind_given w.Dense kind.Dense k more rest refl h
kind_sound (t.Word w.Bitmasked ∷ more) rest k h = kind_given w.Bitmasked kind.Bitmasked k more rest refl h
kind_sound (t.Word w.Pointer ∷ more) rest k h = kind_given w.Pointer kind.Pointer k more rest refl h
kind_sound (t.Word w.Hash ∷ more) rest k h = kind_given w.Hash kind.Hash k more rest refl h
kind_sound (t.Word w.Dynamic ∷ more) rest k h = kind_given w.Dynamic kind.Dynamic k more rest refl h
kind_sound (_ ∷ more) rest k h = absurd (cc)

-- a bound where the kind has one, and none if it has none
abbrev pub fits_bound : Bool → Option SizeDecl → Bool
fits_bound true (Some size) = is_size size
fits_bound false None = true
fits_bound _ _ = false

bounds_from : (k : NodeKind) (chunk cap : Option SizeDecl) → fits_bound (has_chunk k) chunk ≡ true → fits_bound (declares_cap k) cap ≡ true → has_bounds k chunk cap ≡ true
bounds_from kind.Dense None None p q = refl
bounds_from kind.Bitmasked None None p q = refl
bounds_from kind.Pointer None (Some cap) p q = q
bounds_from kind.Hash None (Some cap) p q = q
bounds_from kind.Dynamic (Some chunk) (Some cap) p q = and_from (is_size chunk) (is_size cap) p q
bounds_from _ _ _ p q = absurd (cc)

bound_sound : (word : Word) (has : Bool) (tokens rest : List Token) (x : Option SizeDecl) → next_bound word has tokens ≡ Some (x, rest) → (fits_bound has x ≡ true) × (tokens ≡ bound_by word x ++ rest)
bound_sound word false tokens rest x h = made_is (λ (x : Option SizeDecl) (rest : List Token). (fits_bound false x ≡ true) × (tokens ≡ bound_by word x ++ rest)) None x tokens rest (refl, refl) h
bound_sound word true tokens rest x h =
    let p = bind_some (after_word word tokens) _ (x, rest) h in
    let q = bind_some (next_size p.0) _ (x, rest) p.2 in
    let is = after_word_is word tokens p.0 p.1 in
    let size = size_sound p.0 q.0.1 q.0.0 q.1 in
    made_is (λ (x : Option SizeDecl) (rest : List Token). (fits_bound true x ≡ true) × (tokens ≡ bound_by word x ++ rest)) (Some q.0.0) x q.0.1 rest (size.0, cc (is, size.1)) q.2

-- `KIND(AXES)`, and what comes after it
abbrev IsNodeHead : List Token → NodeKind → List AxisDecl → List Token → Type 0
IsNodeHead tokens k axes rest = (1 ≤ length axes) × AllByRecursion (IsGood is_axis) axes
    × (tokens ≡ kind_token k ∷ t.Sign s.OpenParen ∷ (with_commas (map axis_tokens axes) ++ t.Sign s.CloseParen ∷ rest))

node_head_sound : (tokens : List Token) (k : NodeKind) (axes : List AxisDecl) (rest : List Token) → node_head tokens ≡ Some (k, axes, rest) → IsNodeHead tokens k axes rest
unfolding node_head
node_head_sound tokens k axes rest h =
    let p = bind_some (next_kind tokens) _ (k, axes, rest) h in
    let q = bind_some (after_sign s.OpenParen p.0.1) _ (k, axes, rest) p.2 in
    let r = bind_some (comma_list read_axis q.0) _ (k, axes, rest) q.2 in
    let o = bind_some (after_sign s.CloseParen r.0.1) _ (k, axes, rest) r.2 in
    let kind = kind_sound tokens p.0.1 p.0.0 p.1 in
    let behind = after_sign_is s.OpenParen p.0.1 q.0 q.1 in
    let list = listed_sound AxisDecl read_axis axis_tokens (IsGood is_axis) axis_sound q.0 r.0.0 r.0.1 r.1 in
    let close = after_sign_is s.CloseParen r.0.1 o.0 o.1 in
    made_two (IsNodeHead tokens) p.0.0 k r.0.0 axes o.0 rest
    (list.0, list.1, kind ∙ ap (λ r. kind_token p.0.0 ∷ r) (behind ∙ ap (λ r. t.Sign s.OpenParen ∷ r) (list.2 ∙ ap (λ more. with_commas (map axis_tokens r.0.0) ++ more) close))) o.2

-- `chunk SIZE cap SIZE;`, and what comes after it
abbrev IsNodeBounds : NodeKind → List Token → Option SizeDecl → Option SizeDecl → List Token → Type 0
IsNodeBounds k tokens chunk cap rest = (has_bounds k chunk cap ≡ true) × (tokens ≡ bound_by w.Chunk chunk ++ (bound_by w.Cap cap ++ t.Sign s.Semicolon ∷ rest))

node_bounds_sound : (k : NodeKind) (tokens : List Token) (chunk cap : Option SizeDecl) (rest : List Token) → read_bounds k tokens ≡ Some (chunk, cap, rest) → IsNodeBounds k tokens chunk cap rest
unfolding read_bounds
node_bounds_sound k tokens chunk cap rest h =
    let p = bind_some (next_bound w.Chunk (has_chunk k) tokens) _ (chunk, cap, rest) h in
    let q = bind_some (next_bound w.Cap (declares_cap k) p.0.1) _ (chunk, cap, rest) p.2 in
    let r = bind_some (after_sign s.Semicolon q.0.1) _ (chunk, cap, rest) q.2 in
    let first = bound_sound w.Chunk (has_chunk k) tokens p.0.1 p.0.0 p.1 in
    let second = bound_sound w.Cap (declares_cap k) p.0.1 q.0.1 q.0.0 q.1 in
    let end = after_sign_is s.Semicolon q.0.1 r.0 r.1 in
    made_two (IsNodeBounds k tokens) p.0.0 chunk q.0.0 cap r.0 rest
    (bounds_from k p.0.0 q.0.0 first.0 second.0, first.1 ∙ ap (λ more. bound_by w.Chunk p.0.0 ++ more) (second.1 ∙ ap (λ more. bound_by w.Cap q.0.0 ++ more) end)) r.2

node_sound : IsSoundReader node_tokens (IsGood is_node) read_node
unfolding read_node
node_sound tokens a rest h =
    let p = bind_some (node_head tokens) _ (a, rest) h in
    let q = bind_some (read_bounds p.0.0 p.0.2) _ (a, rest) p.2 in
    let made : NodeDecl = record { kind = p.0.0; axes = p.0.1; chunk = q.0.0; cap = q.0.1 } in
    let few = only_if_some (nat_le (length p.0.1) most_listed_axes) (Some (made, q.0.2)) (a, rest) q.2 in
    let head = node_head_sound tokens p.0.0 p.0.1 p.0.2 p.1 in
    let bounds = node_bounds_sound p.0.0 p.0.2 q.0.0 q.0.1 q.0.2 q.1 in
    made_is (λ (a : NodeDecl) (rest : List Token). (is_node a ≡ true) × (tokens ≡ node_tokens a ++ rest)) made a q.0.2 rest (
      and_from (one_to most_listed_axes is_axis p.0.1) (has_bounds p.0.0 q.0.0 q.0.1) (one_to_from most_listed_axes is_axis p.0.1 head.0 few.0 head.1) bounds.0,
      rw (node_parts made q.0.2) (head.2 ∙ ap (λ more. kind_token p.0.0 ∷ t.Sign s.OpenParen ∷ (with_commas (map axis_tokens p.0.1) ++ t.Sign s.CloseParen ∷ more)) bounds.1),
    ) few.1

ty_given : (word : Word) (of x : Ty) (more rest : List Token) → (is_field_ty of ≡ true) × (t.Word word ≡ ty_token of) → ◌≡◌ {A = Option (Ty × List Token)} (Some (of, more)) (Some (x, rest)) → (is_field_ty x ≡ true) × (t.Word word ∷ more ≡ ty_token x ∷ rest)
ty_given word of x more rest is h = made_is (λ (x : Ty) (rest : List Token). (is_field_ty x ≡ true) × (t.Word word ∷ more ≡ ty_token x ∷ rest)) of x more rest (is.0, ap (λ x. x ∷ more) is.1) h

ty_sound : (tokens rest : List Token) (x : Ty) → next_ty tokens ≡ Some (x, rest) → (is_field_ty x ≡ true) × (tokens ≡ ty_token x ∷ rest)
ty_sound [] rest x h = absurd (cc)
ty_sound (t.Word w.I32 ∷ more) rest x h = ty_given w.I32 ty.I32 x more rest (refl, refl) h
ty_sound (t.Word w.U32 ∷ more) rest x h = ty_given w.U32 ty.U32 x more rest (refl, refl) h
ty_sound (_ ∷ more) rest x h = absurd (cc)

field_sound : IsSoundReader field_tokens (IsGood is_field_decl) read_field
unfolding read_field
field_sound tokens a rest h =
    let p = bind_some (after_word w.Field tokens) _ (a, rest) h in
    let q = bind_some (next_name p.0) _ (a, rest) p.2 in
    let r = bind_some (after_sign s.Colon q.0.1) _ (a, rest) q.2 in
    let o = bind_some (next_ty r.0) (λ (ty : Ty × List Token). ending (record { name = q.0.0; ty = ty.0 }) ty.1) (a, rest) r.2 in
    let made : FieldDecl = record { name = q.0.0; ty = o.0.0 } in
    let word = after_word_is w.Field tokens p.0 p.1 in
    let name = next_name_is p.0 q.0.1 q.0.0 q.1 in
    let colon = after_sign_is s.Colon q.0.1 r.0 r.1 in
    let ty = ty_sound r.0 o.0.1 o.0.0 o.1 in
    let end = ending_sound made a o.0.1 rest o.2 in
    rw (← end.0) (and_from (is_name q.0.0) (is_field_ty o.0.0) name.1 ty.0, cc (word, name.0, colon, ty.1, end.1))

before_field_is : (tokens rest : List Token) → before_field tokens ≡ Some rest → tokens ≡ rest
before_field_is tokens rest h = go (after_word w.Field tokens) h where
  go : (o : Option (List Token)) → option_map (λ behind. tokens) o ≡ Some rest → tokens ≡ rest
  go None h = absurd (cc)
  go (Some behind) h = same_Some tokens rest h

-- `NAME(AXES) {`, and what comes after it
abbrev IsLayoutHead : List Token → Name → List Name → List Token → Type 0
IsLayoutHead tokens name axes rest = (is_name name ≡ true) × (1 ≤ length axes) × AllByRecursion (IsGood is_name) axes
    × (tokens ≡ t.Name name ∷ t.Sign s.OpenParen ∷ (with_commas (map name_token axes) ++ t.Sign s.CloseParen ∷ t.Sign s.OpenBrace ∷ rest))

layout_head_sound : (tokens : List Token) (name : Name) (axes : List Name) (rest : List Token) → layout_head tokens ≡ Some (name, axes, rest) → IsLayoutHead tokens name axes rest
unfolding layout_head
layout_head_sound tokens name axes rest h =
    let p = bind_some (next_name tokens) _ (name, axes, rest) h in
    let q = bind_some (after_sign s.OpenParen p.0.1) _ (name, axes, rest) p.2 in
    let r = bind_some (comma_list next_name q.0) _ (name, axes, rest) q.2 in
    let o = bind_some (after_sign s.CloseParen r.0.1) _ (name, axes, rest) r.2 in
    let u = bind_some (after_sign s.OpenBrace o.0) _ (name, axes, rest) o.2 in
    let first = next_name_is tokens p.0.1 p.0.0 p.1 in
    let behind = after_sign_is s.OpenParen p.0.1 q.0 q.1 in
    let list = listed_sound Name next_name name_token (IsGood is_name) name_sound q.0 r.0.0 r.0.1 r.1 in
    let close = after_sign_is s.CloseParen r.0.1 o.0 o.1 in
    let brace = after_sign_is s.OpenBrace o.0 u.0 u.1 in
    made_two (IsLayoutHead tokens) p.0.0 name r.0.0 axes u.0 rest (
      first.1,
      list.0,
      list.1,
      first.0 ∙ ap (λ k. t.Name p.0.0 ∷ k) (behind ∙ ap (λ k. t.Sign s.OpenParen ∷ k)
          (list.2 ∙ ap (λ k. with_commas (map name_token r.0.0) ++ k) (close ∙ ap (λ k. t.Sign s.CloseParen ∷ k) brace))),
    ) u.2

-- `NODES FIELDS }`, and what comes after it
abbrev IsLayoutBody : List Token → List NodeDecl → List FieldDecl → List Token → Type 0
IsLayoutBody tokens nodes fields rest = AllByRecursion (IsGood is_node) nodes × AllByRecursion (IsGood is_field_decl) fields
    × (tokens ≡ joined_lists (map node_tokens nodes) ++ (joined_lists (map field_tokens fields) ++ t.Sign s.CloseBrace ∷ rest))

layout_body_sound : (tokens : List Token) (nodes : List NodeDecl) (fields : List FieldDecl) (rest : List Token) → layout_body tokens ≡ Some (nodes, fields, rest) → IsLayoutBody tokens nodes fields rest
unfolding layout_body
layout_body_sound tokens nodes fields rest h =
    let p = bind_some (list_to_end before_field read_node tokens) _ (nodes, fields, rest) h in
    let q = bind_some (list_to_end (after_sign s.CloseBrace) read_field p.0.1) _ (nodes, fields, rest) p.2 in
    let first = repeated_sound NodeDecl read_node node_tokens (IsGood is_node) node_sound before_field tokens p.0.0 p.0.1 p.1 in
    let second = repeated_sound FieldDecl read_field field_tokens (IsGood is_field_decl) field_sound (after_sign s.CloseBrace) p.0.1 q.0.0 q.0.1 q.1 in
    let left = before_field_is first.0 p.0.1 first.3 in
    let end = after_sign_is s.CloseBrace second.0 q.0.1 second.3 in
    made_two (IsLayoutBody tokens) p.0.0 nodes q.0.0 fields q.0.1 rest
    (first.1, second.1, first.2 ∙ ap (λ k. joined_lists (map node_tokens p.0.0) ++ k) (left ∙ second.2 ∙ ap (λ k. joined_lists (map field_tokens q.0.0) ++ k) end)) q.2

pub layout_sound : (tokens : List Token) (a : Item) (rest : List Token) → read_layout tokens ≡ Some (a, rest) → (is_item a ≡ true) × (t.Word w.Layout ∷ tokens ≡ item_tokens a ++ rest)
unfolding read_layout
layout_sound tokens a rest h =
    let p = bind_some (layout_head tokens) _ (a, rest) h in
    let q = bind_some (layout_body p.0.2) _ (a, rest) p.2 in
    let made : LayoutDecl = record { name = p.0.0; axes = p.0.1; nodes = q.0.0; fields = q.0.1 } in
    let y = only_if_some (nat_le (length p.0.1) most_listed_axes && ((nat_le 1 (length q.0.0) && nat_le (length q.0.0) most_listed_nodes) && nat_le 1 (length q.0.1))) (Some (item.Layout made, q.0.2)) (a, rest) q.2 in
    let few = and_parts (nat_le (length p.0.1) most_listed_axes) _ y.0 in
    let counts = and_parts (nat_le 1 (length q.0.0) && nat_le (length q.0.0) most_listed_nodes) (nat_le 1 (length q.0.1)) few.1 in
    let head = layout_head_sound tokens p.0.0 p.0.1 p.0.2 p.1 in
    let body = layout_body_sound p.0.2 q.0.0 q.0.1 q.0.2 q.1 in
    made_is (λ (a : Item) (rest : List Token). (is_item a ≡ true) × (t.Word w.Layout ∷ tokens ≡ item_tokens a ++ rest)) (item.Layout made) a q.0.2 rest (
      and_from (is_name p.0.0 && one_to most_listed_axes is_name p.0.1) (one_to most_listed_nodes is_node q.0.0 && one_or_more is_field_decl q.0.1)
          (and_from (is_name p.0.0) (one_to most_listed_axes is_name p.0.1) head.0 (one_to_from most_listed_axes is_name p.0.1 head.1 few.0 head.2))
          (and_from (one_to most_listed_nodes is_node q.0.0) (one_or_more is_field_decl q.0.1) (and_from _ (list_all is_node q.0.0) counts.0 (all_pass is_node q.0.0 body.0)) (and_from _ (list_all is_field_decl q.0.1) counts.1 (all_pass is_field_decl q.0.1 body.1))),
      rw (layout_parts made q.0.2) (ap (λ k. t.Word w.Layout ∷ k)
          (head.3 ∙ ap (λ k. t.Name p.0.0 ∷ t.Sign s.OpenParen ∷ (with_commas (map name_token p.0.1) ++ t.Sign s.CloseParen ∷ t.Sign s.OpenBrace ∷ k)) body.2)),
    ) y.1
