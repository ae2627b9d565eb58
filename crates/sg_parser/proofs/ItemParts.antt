-- The tokens of items by their parts, and the small steps of reading items.
use Rattle.std.specs.Prelude.{◌≡◌, refl, ℕ, ◌≤◌, Bool, true, false, ◌&&◌, nat_le, ℤ, List, [], ◌∷◌, ◌++◌, map, length, Some}
use Rattle.std.specs.List.{AllByRecursion, list_all}
use Rattle.std.proofs.Common.{append_assoc}
use Rattle.std.proofs.lemmas.Bool.{and_from, le-leb}
use Rattle.std.proofs.lemmas.Option.{some_pair_parts}
use Rattle.sg_ast.specs.declared.token.Name.{Name}
use Rattle.sg_ast.specs.declared.token.Word.TheVariants as w
use Rattle.sg_ast.specs.declared.token.Sign.TheVariants as s
use Rattle.sg_ast.specs.declared.token.Token.{Token}
use Rattle.sg_ast.specs.declared.token.Token.TheVariants as t
use Rattle.sg_ast.specs.declared.layout.SizeDecl.{SizeDecl}
use Rattle.sg_ast.specs.declared.layout.SizeDecl.TheVariants as size
use Rattle.sg_ast.specs.declared.layout.NodeDecl.{NodeDecl}
use Rattle.sg_ast.specs.declared.layout.LayoutDecl.{LayoutDecl}
use Rattle.sg_ast.specs.declared.kernel.KernelDecl.{KernelDecl}
use Rattle.sg_ast.specs.declared.command.Command.{Command}
use Rattle.sg_ast.specs.declared.command.Command.TheVariants as command
use Rattle.sg_ast.specs.Token.{is_name, is_number}
use Rattle.sg_ast.specs.Expr.{with_commas}
use Rattle.sg_ast.specs.Stmt.{joined_lists, block_tokens}
use Rattle.sg_ast.specs.Layout.{names_tokens, size_token, axis_tokens, kind_token, bound_by, node_tokens, field_tokens, layout_tokens}
use Rattle.sg_ast.specs.Kernel.{domain_tokens, kernel_tokens}
use Rattle.sg_ast.specs.Command.{bound_tokens, command_tokens}
use Rattle.sg_ast.specs.Program.{const_tokens}
use Rattle.sg_ast.specs.Grammar.{one_to, is_size}
use Rattle.sg_ast.proofs.Uses.{command_tokens-Times, command_tokens-Image}
use Rattle.sg_parser.specs.Front.{after_sign, next_name}
use Rattle.sg_parser.specs.ReadItem.{next_number, next_plain, ending, next_size}
use Rattle.sg_parser.proofs.StepLemmas.{bind_some, only_if_some, after_sign_is, next_name_is}
use Rattle.sg_parser.proofs.ListLemmas.{IsSoundReader}
use Rattle.sg_parser.proofs.StmtSound.{made_is}

abbrev pub IsGood : {A : Type 0} → (A → Bool) → A → Type 0
IsGood test a = test a ≡ true

pub all_pass : {A : Type 0} (test : A → Bool) (items : List A) → AllByRecursion (IsGood test) items → list_all test items ≡ true
all_pass test [] h = refl
all_pass test (a ∷ items) h = and_from (test a) (list_all test items) h.0 (all_pass test items h.1)

pub one_to_from : {A : Type 0} (most : ℕ) (test : A → Bool) (items : List A) → 1 ≤ length items → nat_le (length items) most ≡ true → AllByRecursion (IsGood test) items → one_to most test items ≡ true
one_to_from most test items some few good = and_from (nat_le 1 (length items) && nat_le (length items) most) (list_all test items) (and_from (nat_le 1 (length items)) (nat_le (length items) most) (le-leb 1 (length items) some) few) (all_pass test items good)

-- the tokens, by their parts
abbrev pub name_token : Name → List Token
name_token name = t.Name name ∷ []

abbrev pub minus_front : Bool → List Token → List Token
minus_front true tokens = t.Sign s.Minus ∷ tokens
minus_front false tokens = tokens

pub const_parts : (name : Name) (minus : Bool) (value : ℕ) (unsigned : Bool) (rest : List Token) → const_tokens (record { name = name; minus = minus; value = value; unsigned = unsigned }) ++ rest
    ≡ t.Word w.Const ∷ t.Name name ∷ t.Sign s.Equal ∷ minus_front minus (t.Number value unsigned ∷ t.Sign s.Semicolon ∷ rest)
const_parts name true value unsigned rest = refl
const_parts name false value unsigned rest = refl

pub node_parts : (node : NodeDecl) (rest : List Token) → node_tokens node ++ rest
    ≡ kind_token node.kind ∷ t.Sign s.OpenParen ∷ (with_commas (map axis_tokens node.axes) ++ t.Sign s.CloseParen ∷ (bound_by w.Chunk node.chunk ++ (bound_by w.Cap node.cap ++ t.Sign s.Semicolon ∷ rest)))
node_parts node rest = simp append_assoc

pub layout_parts : (layout : LayoutDecl) (rest : List Token) → layout_tokens layout ++ rest
    ≡ t.Word w.Layout ∷ t.Name layout.name ∷ t.Sign s.OpenParen ∷ (with_commas (map name_token layout.axes) ++ t.Sign s.CloseParen ∷ t.Sign s.OpenBrace
    ∷ (joined_lists (map node_tokens layout.nodes) ++ (joined_lists (map field_tokens layout.fields) ++ t.Sign s.CloseBrace ∷ rest)))
layout_parts layout rest = simp append_assoc

pub kernel_parts : (kernel : KernelDecl) (rest : List Token) → kernel_tokens kernel ++ rest
    ≡ t.Word w.Kernel ∷ t.Name kernel.name ∷ t.Sign s.OpenBrace ∷ t.Word w.For ∷ (with_commas (map name_token kernel.vars) ++ t.Word w.In
    ∷ (domain_tokens kernel.domain ++ (block_tokens kernel.body ++ t.Sign s.CloseBrace ∷ rest)))
kernel_parts kernel rest =
    rw (
      append_assoc (names_tokens kernel.vars) (t.Word w.In ∷ (domain_tokens kernel.domain ++ (block_tokens kernel.body ++ t.Sign s.CloseBrace ∷ []))) rest,
      append_assoc (domain_tokens kernel.domain) (block_tokens kernel.body ++ t.Sign s.CloseBrace ∷ []) rest,
      append_assoc (block_tokens kernel.body) (t.Sign s.CloseBrace ∷ []) rest,
    ) refl

pub image_parts : (field : Name) (lo hi : ℤ) (rest : List Token) → command_tokens (command.Image field lo hi) ++ rest ≡ t.Word w.Image ∷ t.Name field ∷ (bound_tokens lo ++ (bound_tokens hi ++ t.Sign s.Semicolon ∷ rest))
image_parts field lo hi rest = rw (command_tokens-Image field lo hi) (simp append_assoc)

pub times_parts : (number : ℕ) (body : List Command) (rest : List Token) → command_tokens (command.Times number body) ++ rest
    ≡ t.Word w.Times ∷ t.Number number false ∷ t.Sign s.OpenBrace ∷ (joined_lists (map command_tokens body) ++ t.Sign s.CloseBrace ∷ rest)
times_parts number body rest = rw (command_tokens-Times number body, append_assoc (joined_lists (map command_tokens body)) (t.Sign s.CloseBrace ∷ []) rest) refl

-- the small steps
pub number_sound : (tokens rest : List Token) (x : ℕ × Bool) → next_number tokens ≡ Some (x, rest) → (is_number x.0 x.1 ≡ true) × (tokens ≡ t.Number x.0 x.1 ∷ rest)
number_sound [] rest x h = absurd (cc)
number_sound (t.Number value unsigned ∷ more) rest x h =
    let p = only_if_some (is_number value unsigned) (Some ((value, unsigned), more)) (x, rest) h in
    made_is (λ (x : ℕ × Bool) (rest : List Token). (is_number x.0 x.1 ≡ true) × (t.Number value unsigned ∷ more ≡ t.Number x.0 x.1 ∷ rest)) (value, unsigned) x more rest (p.0, refl) p.1
number_sound (_ ∷ more) rest x h = absurd (cc)

pub plain_sound : (tokens rest : List Token) (value : ℕ) → next_plain tokens ≡ Some (value, rest) → (is_number value false ≡ true) × (tokens ≡ t.Number value false ∷ rest)
plain_sound [] rest x h = absurd (cc)
plain_sound (t.Number value true ∷ more) rest x h = absurd (cc)
plain_sound (t.Number value false ∷ more) rest x h =
    let p = only_if_some (is_number value false) (Some (value, more)) (x, rest) h in
    made_is (λ (x : ℕ) (rest : List Token). (is_number x false ≡ true) × (t.Number value false ∷ more ≡ t.Number x false ∷ rest)) value x more rest (p.0, refl) p.1
plain_sound (_ ∷ more) rest x h = absurd (cc)

pub ending_sound : {A : Type 0} (value a : A) (tokens rest : List Token) → ending value tokens ≡ Some (a, rest) → (value ≡ a) × (tokens ≡ t.Sign s.Semicolon ∷ rest)
ending_sound {A} value a tokens rest h =
    let p = bind_some (after_sign s.Semicolon tokens) _ (a, rest) h in
    let q = some_pair_parts value a p.0 rest p.2 in
    let semicolon = after_sign_is s.Semicolon tokens p.0 p.1 in
    (q.0, cc (semicolon, q.1))

pub size_sound : (tokens rest : List Token) (x : SizeDecl) → next_size tokens ≡ Some (x, rest) → (is_size x ≡ true) × (tokens ≡ size_token x ∷ rest)
size_sound [] rest x h = absurd (cc)
size_sound (t.Number value true ∷ more) rest x h = absurd (cc)
size_sound (t.Number value false ∷ more) rest x h =
    let p = only_if_some (is_number value false) (Some (size.Number value, more)) (x, rest) h in
    made_is (λ (x : SizeDecl) (rest : List Token). (is_size x ≡ true) × (t.Number value false ∷ more ≡ size_token x ∷ rest)) (size.Number value) x more rest (p.0, refl) p.1
size_sound (t.Name name ∷ more) rest x h =
    let p = only_if_some (is_name name) (Some (size.Name name, more)) (x, rest) h in
    made_is (λ (x : SizeDecl) (rest : List Token). (is_size x ≡ true) × (t.Name name ∷ more ≡ size_token x ∷ rest)) (size.Name name) x more rest (p.0, refl) p.1
size_sound (_ ∷ more) rest x h = absurd (cc)

pub name_sound : IsSoundReader name_token (IsGood is_name) next_name
name_sound tokens name rest h = let p = next_name_is tokens rest name h in (p.1, p.0)
