-- The tokens of each item of the grammar are one item of a token list.
use Rattle.std.specs.Prelude.{◌≡◌, refl, Bool, true, false, ℤ, pos, negsuc, List, [], ◌∷◌, ◌++◌, map, Option, Some, None}
use Rattle.std.specs.List.{list_all}
use Rattle.std.proofs.Common.{sym, ◌∙◌, ap}
use Rattle.std.proofs.lemmas.Bool.{and_parts}
use Rattle.sg_words.specs.declared.operators.Ty.{Ty}
use Rattle.sg_words.specs.declared.operators.Ty.TheVariants as ty
use Rattle.sg_ast.specs.declared.token.Name.{Name}
use Rattle.sg_ast.specs.declared.token.Word.{Word}
use Rattle.sg_ast.specs.declared.token.Word.TheVariants as w
use Rattle.sg_ast.specs.declared.token.Sign.TheVariants as s
use Rattle.sg_ast.specs.declared.token.Token.{Token}
use Rattle.sg_ast.specs.declared.token.Token.TheVariants as t
use Rattle.sg_ast.specs.declared.layout.SizeDecl.{SizeDecl}
use Rattle.sg_ast.specs.declared.layout.SizeDecl.TheVariants as size
use Rattle.sg_ast.specs.declared.layout.AxisDecl.{AxisDecl}
use Rattle.sg_ast.specs.declared.layout.NodeKind.{NodeKind}
use Rattle.sg_ast.specs.declared.layout.NodeKind.TheVariants as kind
use Rattle.sg_ast.specs.declared.layout.NodeDecl.{NodeDecl}
use Rattle.sg_ast.specs.declared.layout.FieldDecl.{FieldDecl}
use Rattle.sg_ast.specs.declared.layout.LayoutDecl.{LayoutDecl}
use Rattle.sg_ast.specs.declared.kernel.DomainDecl.{DomainDecl}
use Rattle.sg_ast.specs.declared.kernel.DomainDecl.TheVariants as domain
use Rattle.sg_ast.specs.declared.kernel.KernelDecl.{KernelDecl}
use Rattle.sg_ast.specs.declared.command.Command.{Command}
use Rattle.sg_ast.specs.declared.program.Item.{Item}
use Rattle.sg_ast.specs.declared.program.Item.TheVariants as item
use Rattle.sg_ast.specs.Token.{is_number}
use Rattle.sg_ast.specs.Expr.{with_commas}
use Rattle.sg_ast.specs.Stmt.{joined_lists, range_tokens, block_tokens}
use Rattle.sg_ast.specs.Layout.{names_tokens, size_token, axis_tokens, kind_token, bound_by, node_tokens, ty_token, field_tokens, layout_tokens}
use Rattle.sg_ast.specs.Kernel.{domain_tokens, kernel_tokens}
use Rattle.sg_ast.specs.Command.{bound_tokens, named_tokens, command_tokens}
use Rattle.sg_ast.specs.Program.{signed_tokens, item_tokens}
use Rattle.sg_ast.specs.Grammar.{one_or_more, is_simple, is_command, is_item}
use Rattle.sg_ast.specs.Items.{cut_by, item_cuts, are_left}
use Rattle.sg_ast.proofs.Uses.Commands.{by_command_variant, command_tokens-Load, command_tokens-Run, command_tokens-Times, command_tokens-Dump, command_tokens-Image, command_tokens-Stats, command_tokens-Prune, command_tokens-Clear, is_simple-Times, is_command-Times}
use Rattle.sg_ast.proofs.Cuts.{is_whole, is_whole-append, cut_by-whole, are_left_from-whole}
use Rattle.sg_ast.proofs.Balance.{IsPlain, ArePlain, each_mapped, plain-separated, plain_range, IsBalanced, AreBalanced, balanced-append, balanced_plain, balanced_ended, balanced_semicolon, balanced-joined, balanced_block_tokens}

plain_names : (names : List Name) → ArePlain (map (λ name. t.Name name ∷ []) names)
plain_names = each_mapped IsPlain (λ name. t.Name name ∷ []) (λ name n. refl)

plain_size : (size : SizeDecl) (xs : List Token) → IsPlain xs → IsPlain (size_token size ∷ xs)
plain_size (size.Number value) xs h n = h n
plain_size (size.Name name) xs h n = h n

plain_axes : (axes : List AxisDecl) → ArePlain (map axis_tokens axes)
plain_axes = each_mapped IsPlain axis_tokens (λ axis. plain_size axis.size [] (λ n. refl))

balanced_kind : (node : NodeKind) (xs : List Token) → IsBalanced xs → IsBalanced (kind_token node ∷ xs)
balanced_kind kind.Dense xs h n = h n
balanced_kind kind.Bitmasked xs h n = h n
balanced_kind kind.Pointer xs h n = h n
balanced_kind kind.Hash xs h n = h n
balanced_kind kind.Dynamic xs h n = h n

plain_bound : (word : Word) (given : Option SizeDecl) → IsPlain (bound_by word given)
plain_bound word None n = refl
plain_bound word (Some given) n = plain_size given [] (λ k. refl) n

balanced_node : (node : NodeDecl) → IsBalanced (node_tokens node)
balanced_node node =
    let axes : List Token = with_commas (map axis_tokens node.axes) in
    let cap : List Token = bound_by w.Cap node.cap ++ t.Sign s.Semicolon ∷ [] in
    let bounds : List Token = bound_by w.Chunk node.chunk ++ cap in
    balanced_kind node.kind (t.Sign s.OpenParen ∷ (axes ++ t.Sign s.CloseParen ∷ bounds)) (balanced-append axes (t.Sign s.CloseParen ∷ bounds)
    (balanced_plain axes (plain-separated (map axis_tokens node.axes) (plain_axes node.axes)))
    (balanced-append (bound_by w.Chunk node.chunk) cap
    (balanced_plain (bound_by w.Chunk node.chunk) (plain_bound w.Chunk node.chunk))
    (balanced_ended (bound_by w.Cap node.cap) (plain_bound w.Cap node.cap))))

balanced_ty : (ty : Ty) (xs : List Token) → IsBalanced xs → IsBalanced (ty_token ty ∷ xs)
balanced_ty ty.I32 xs h n = h n
balanced_ty ty.U32 xs h n = h n
balanced_ty ty.Bool xs h n = h n

balanced_field : (field : FieldDecl) → IsBalanced (field_tokens field)
balanced_field field = balanced_ty field.ty (t.Sign s.Semicolon ∷ []) balanced_semicolon

whole_layout : (layout : LayoutDecl) → is_whole 0 (layout_tokens layout) ≡ true
whole_layout layout =
    is_whole-append 0 0 (names_tokens layout.axes) _ (plain-separated _ (plain_names layout.axes) 0)
    ∙ is_whole-append 1 1 (joined_lists (map node_tokens layout.nodes)) _ (balanced-joined (map node_tokens layout.nodes) (each_mapped IsBalanced node_tokens balanced_node layout.nodes) 0)
    ∙ is_whole-append 1 1 (joined_lists (map field_tokens layout.fields)) (t.Sign s.CloseBrace ∷ []) (balanced-joined (map field_tokens layout.fields) (each_mapped IsBalanced field_tokens balanced_field layout.fields) 0)

plain_domain : (domain : DomainDecl) → IsPlain (domain_tokens domain)
plain_domain (domain.Layout name) n = refl
plain_domain (domain.Ranges ranges) n = plain-separated (map range_tokens ranges) (each_mapped IsPlain range_tokens plain_range ranges) n

whole_kernel : (kernel : KernelDecl) → is_whole 0 (kernel_tokens kernel) ≡ true
whole_kernel kernel =
    is_whole-append 1 1 (names_tokens kernel.vars) _ (plain-separated _ (plain_names kernel.vars) 1)
    ∙ is_whole-append 1 1 (domain_tokens kernel.domain) _ (plain_domain kernel.domain 1)
    ∙ is_whole-append 1 1 (block_tokens kernel.body) (t.Sign s.CloseBrace ∷ []) (balanced_block_tokens kernel.body 0)

plain_bound_tokens : (bound : ℤ) → IsPlain (bound_tokens bound)
plain_bound_tokens (pos k) n = refl
plain_bound_tokens (negsuc k) n = refl

balanced_named : (word : Word) (name : Name) → IsBalanced (named_tokens word name)
balanced_named word name = balanced_semicolon

balanced_simple : (given : Command) → is_simple given ≡ true → IsBalanced (command_tokens given)
balanced_simple = by_command_variant (λ given. is_simple given ≡ true → IsBalanced (command_tokens given))
    (λ field h. rw (command_tokens-Load field) (balanced_named w.Load field))
    (λ kernel h. rw (command_tokens-Run kernel) (balanced_named w.Run kernel))
    (λ number body h. let e = is_simple-Times number body in absurd (cc))
    (λ field h. rw (command_tokens-Dump field) (balanced_named w.Dump field))
    (λ field lo hi h. rw (command_tokens-Image field lo hi) (balanced-append (bound_tokens lo) (bound_tokens hi ++ t.Sign s.Semicolon ∷ [])
    (balanced_plain (bound_tokens lo) (plain_bound_tokens lo)) (balanced_ended (bound_tokens hi) (plain_bound_tokens hi))))
    (λ layout h. rw (command_tokens-Stats layout) (balanced_named w.Stats layout))
    (λ layout h. rw (command_tokens-Prune layout) (balanced_named w.Prune layout))
    (λ layout h. rw (command_tokens-Clear layout) (balanced_named w.Clear layout))

balanced_commands : (commands : List Command) → list_all is_simple commands ≡ true → AreBalanced (map command_tokens commands)
balanced_commands [] h = tt
balanced_commands (given ∷ more) h = let p = and_parts (is_simple given) (list_all is_simple more) h in
    (balanced_simple given p.0, balanced_commands more p.1)

whole_command : (given : Command) → is_command given ≡ true → is_whole 0 (command_tokens given) ≡ true
whole_command = by_command_variant (λ given. is_command given ≡ true → is_whole 0 (command_tokens given) ≡ true)
    (λ field h. rw (command_tokens-Load field) refl)
    (λ kernel h. rw (command_tokens-Run kernel) refl)
    (λ number body h.
    let p = and_parts (is_number number false) (one_or_more is_simple body) (sym (is_command-Times number body) ∙ h) in
    let q = and_parts _ (list_all is_simple body) p.1 in
    rw (command_tokens-Times number body) (is_whole-append 1 1 (joined_lists (map command_tokens body)) (t.Sign s.CloseBrace ∷ [])
    (balanced-joined (map command_tokens body) (balanced_commands body q.1) 0)))
    (λ field h. rw (command_tokens-Dump field) refl)
    (λ field lo hi h. rw (command_tokens-Image field lo hi) (is_whole-append 0 0 (bound_tokens lo) (bound_tokens hi ++ t.Sign s.Semicolon ∷ []) (plain_bound_tokens lo 0)
    ∙ is_whole-append 0 0 (bound_tokens hi) (t.Sign s.Semicolon ∷ []) (plain_bound_tokens hi 0)))
    (λ layout h. rw (command_tokens-Stats layout) refl)
    (λ layout h. rw (command_tokens-Prune layout) refl)
    (λ layout h. rw (command_tokens-Clear layout) refl)

whole_const : (minus : Bool) (number : Token) → IsPlain (number ∷ []) → is_whole 0 (signed_tokens minus number ++ t.Sign s.Semicolon ∷ []) ≡ true
whole_const true number h = is_whole-append 0 0 (number ∷ []) (t.Sign s.Semicolon ∷ []) (h 0)
whole_const false number h = is_whole-append 0 0 (number ∷ []) (t.Sign s.Semicolon ∷ []) (h 0)

-- in the tokens of an item the last one, and no other, ends an item
pub whole_item : (given : Item) → is_item given ≡ true → is_whole 0 (item_tokens given) ≡ true
whole_item (item.Const decl) h = whole_const decl.minus (t.Number decl.value decl.unsigned) (λ n. refl)
whole_item (item.Layout layout) h = whole_layout layout
whole_item (item.Kernel kernel) h = whole_kernel kernel
whole_item (item.Command given) h = whole_command given h

-- so what has the tokens of an item in front has it as its first item
pub cut_by-item : {A : Type 0} (token : A → Token) (given : Item) (xs rest : List A) → is_item given ≡ true → map token xs ≡ item_tokens given
    → cut_by token 0 (xs ++ rest) ≡ xs ∷ cut_by token 0 rest
cut_by-item token given xs rest good spelled = cut_by-whole token 0 xs rest (ap (is_whole 0) spelled ∙ whole_item given good)

map_same : (xs : List Token) → map (λ x. x) xs ≡ xs
map_same [] = refl
map_same (x ∷ xs) = ap (λ ys. x ∷ ys) (map_same xs)

-- the items of a program's tokens are the tokens of its items
pub cut-items : (items : List Item) → list_all is_item items ≡ true → item_cuts (joined_lists (map item_tokens items)) ≡ map item_tokens items
cut-items [] h = refl
cut-items (given ∷ more) h = let p = and_parts (is_item given) (list_all is_item more) h in
    cut_by-item (λ x. x) given (item_tokens given) (joined_lists (map item_tokens more)) p.0 (map_same (item_tokens given))
    ∙ ap (λ rest. item_tokens given ∷ rest) (cut-items more p.1)

-- and nothing is left
pub are_left-items : (items : List Item) → list_all is_item items ≡ true → are_left (joined_lists (map item_tokens items)) ≡ false
are_left-items [] h = refl
are_left-items (given ∷ more) h = let p = and_parts (is_item given) (list_all is_item more) h in
    are_left_from-whole false 0 (item_tokens given) (joined_lists (map item_tokens more)) (whole_item given p.0) ∙ are_left-items more p.1
