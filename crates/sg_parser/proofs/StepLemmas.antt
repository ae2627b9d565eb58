-- What the small steps of reading say of the tokens.
use Rattle.std.specs.Prelude.{◌≡◌, refl, ◌≤◌, Bool, true, false, List, [], ◌∷◌, Option, Some, None, option_map}
use Rattle.std.proofs.Common.{◌∙◌, ap, rules, lit≤}
use Rattle.std.proofs.lemmas.Option.{same_Some, some_pair_parts}
use denote.Enum.Bare.{sameb, same_true}
use Rattle.sg_words.specs.declared.operators.BinOp.{BinOp}
use Rattle.sg_words.specs.declared.operators.BinOp.TheVariants as b
use Rattle.sg_ast.specs.contracts.token.Sign.{the_type as sign_type}
use Rattle.sg_ast.specs.contracts.token.Word.{the_type as word_type}
use Rattle.sg_ast.specs.declared.token.Name.{Name}
use Rattle.sg_ast.specs.declared.token.Word.{Word}
use Rattle.sg_ast.specs.declared.token.Sign.{Sign}
use Rattle.sg_ast.specs.declared.token.Sign.TheVariants as s
use Rattle.sg_ast.specs.declared.token.Token.{Token}
use Rattle.sg_ast.specs.declared.token.Token.TheVariants as t
use Rattle.sg_ast.specs.Token.{is_name}
use Rattle.sg_ast.specs.Expr.{op_token, op_level}
use Rattle.sg_ast.specs.Grammar.{is_infix}
use Rattle.sg_parser.specs.Front.{after_sign, after_word, next_name, infix_of, next_op}
use Rattle.sg_words.specs.Options.{only_if, ◌>>=◌}

-- a value that came out of two steps
pub bind_some : {A B : Type 0} (o : Option A) (f : A → Option B) (y : B) → (o >>= f) ≡ Some y → (x : A) × (o ≡ Some x) × (f x ≡ Some y)
bind_some None f y h = absurd (cc)
bind_some (Some x) f y h = (x, refl, h)

-- a value that passed a test
pub only_if_some : {A : Type 0} (test : Bool) (o : Option A) (y : A) → only_if test o ≡ Some y → (test ≡ true) × (o ≡ Some y)
only_if_some true o y h = (refl, h)
only_if_some false o y h = absurd (cc)

pub only_if_true : {A : Type 0} (test : Bool) (o : Option A) → test ≡ true → only_if test o ≡ o
only_if_true test o h = rw h refl

pub after_sign_is : (sign : Sign) (tokens rest : List Token) → after_sign sign tokens ≡ Some rest → tokens ≡ t.Sign sign ∷ rest
after_sign_is sign [] rest h = absurd (cc)
after_sign_is sign (t.Sign first ∷ more) rest h =
    let p = only_if_some (sameb sign_type first sign) (Some more) rest h in
    let same : first ≡ sign = same_true sign_type (search rules) first sign p.0 in
    let next : more ≡ rest = same_Some more rest p.1 in
    rw (same, next) refl
after_sign_is sign (_ ∷ more) rest h = absurd (cc)

pub after_word_is : (word : Word) (tokens rest : List Token) → after_word word tokens ≡ Some rest → tokens ≡ t.Word word ∷ rest
after_word_is word [] rest h = absurd (cc)
after_word_is word (t.Word first ∷ more) rest h =
    let p = only_if_some (sameb word_type first word) (Some more) rest h in
    let same : first ≡ word = same_true word_type (search rules) first word p.0 in
    let next : more ≡ rest = same_Some more rest p.1 in
    rw (same, next) refl
after_word_is word (_ ∷ more) rest h = absurd (cc)

pub next_name_is : (tokens rest : List Token) (name : Name) → next_name tokens ≡ Some (name, rest) → (tokens ≡ t.Name name ∷ rest) × (is_name name ≡ true)
next_name_is [] rest name h = absurd (cc)
next_name_is (t.Name first ∷ more) rest name h =
    let p = only_if_some (is_name first) (Some (first, more)) (name, rest) h in
    let q = some_pair_parts first name more rest p.1 in
    (rw (q.0, q.1) refl, rw q.0 at p.0)
next_name_is (_ ∷ more) rest name h = absurd (cc)

infix_of_is : (sign : Sign) (op : BinOp) → infix_of sign ≡ Some op → (t.Sign sign ≡ op_token op) × (is_infix op ≡ true)
infix_of_is s.Plus op h = rw (← same_Some b.Add op h) (refl, refl)
infix_of_is s.Minus op h = rw (← same_Some b.Sub op h) (refl, refl)
infix_of_is s.Star op h = rw (← same_Some b.Mul op h) (refl, refl)
infix_of_is s.Slash op h = rw (← same_Some b.Div op h) (refl, refl)
infix_of_is s.Percent op h = rw (← same_Some b.Rem op h) (refl, refl)
infix_of_is s.And op h = rw (← same_Some b.And op h) (refl, refl)
infix_of_is s.Or op h = rw (← same_Some b.Or op h) (refl, refl)
infix_of_is s.Caret op h = rw (← same_Some b.Xor op h) (refl, refl)
infix_of_is s.AndAnd op h = rw (← same_Some b.LAnd op h) (refl, refl)
infix_of_is s.OrOr op h = rw (← same_Some b.LOr op h) (refl, refl)
infix_of_is s.ShiftLeft op h = rw (← same_Some b.Shl op h) (refl, refl)
infix_of_is s.ShiftRight op h = rw (← same_Some b.Shr op h) (refl, refl)
infix_of_is s.EqualEqual op h = rw (← same_Some b.Eq op h) (refl, refl)
infix_of_is s.NotEqual op h = rw (← same_Some b.Ne op h) (refl, refl)
infix_of_is s.Less op h = rw (← same_Some b.Lt op h) (refl, refl)
infix_of_is s.LessEqual op h = rw (← same_Some b.Le op h) (refl, refl)
infix_of_is s.Greater op h = rw (← same_Some b.Gt op h) (refl, refl)
infix_of_is s.GreaterEqual op h = rw (← same_Some b.Ge op h) (refl, refl)
infix_of_is _ op h = absurd (cc)

next_op_from : (sign : Sign) (o : Option BinOp) (more rest : List Token) (op : BinOp) → infix_of sign ≡ o → option_map {U = BinOp × List Token} (λ op. (op, more)) o ≡ Some (op, rest)
    → (t.Sign sign ∷ more ≡ op_token op ∷ rest) × (is_infix op ≡ true)
next_op_from sign None more rest op is h = absurd (cc)
next_op_from sign (Some first) more rest op is h =
    let q = some_pair_parts first op more rest h in
    let p = infix_of_is sign op (is ∙ ap Some q.0) in
    (rw (p.0, q.1) refl, p.1)

pub next_op_is : (tokens rest : List Token) (op : BinOp) → next_op tokens ≡ Some (op, rest) → (tokens ≡ op_token op ∷ rest) × (is_infix op ≡ true)
next_op_is [] rest op h = absurd (cc)
next_op_is (t.Sign sign ∷ more) rest op h = next_op_from sign (infix_of sign) more rest op refl h
next_op_is (_ ∷ more) rest op h = absurd (cc)

-- each operator between two operands is read
pub next_op-at : (op : BinOp) (rest : List Token) → is_infix op ≡ true → next_op (op_token op ∷ rest) ≡ Some (op, rest)
next_op-at b.Add rest h = refl
next_op-at b.Sub rest h = refl
next_op-at b.Mul rest h = refl
next_op-at b.Div rest h = refl
next_op-at b.Rem rest h = refl
next_op-at b.And rest h = refl
next_op-at b.Or rest h = refl
next_op-at b.Xor rest h = refl
next_op-at b.LAnd rest h = refl
next_op-at b.LOr rest h = refl
next_op-at b.Shl rest h = refl
next_op-at b.Shr rest h = refl
next_op-at b.Min rest h = absurd (cc)
next_op-at b.Max rest h = absurd (cc)
next_op-at b.Eq rest h = refl
next_op-at b.Ne rest h = refl
next_op-at b.Lt rest h = refl
next_op-at b.Le rest h = refl
next_op-at b.Gt rest h = refl
next_op-at b.Ge rest h = refl

-- and is no sign of another kind
pub op-no_bracket : (op : BinOp) (rest : List Token) → after_sign s.OpenBracket (op_token op ∷ rest) ≡ None
op-no_bracket b.Add rest = refl
op-no_bracket b.Sub rest = refl
op-no_bracket b.Mul rest = refl
op-no_bracket b.Div rest = refl
op-no_bracket b.Rem rest = refl
op-no_bracket b.And rest = refl
op-no_bracket b.Or rest = refl
op-no_bracket b.Xor rest = refl
op-no_bracket b.LAnd rest = refl
op-no_bracket b.LOr rest = refl
op-no_bracket b.Shl rest = refl
op-no_bracket b.Shr rest = refl
op-no_bracket b.Min rest = refl
op-no_bracket b.Max rest = refl
op-no_bracket b.Eq rest = refl
op-no_bracket b.Ne rest = refl
op-no_bracket b.Lt rest = refl
op-no_bracket b.Le rest = refl
op-no_bracket b.Gt rest = refl
op-no_bracket b.Ge rest = refl

-- an operator between two operands has a level
pub infix_level : (op : BinOp) → is_infix op ≡ true → 1 ≤ op_level op
infix_level b.Add h = lit≤ tt
infix_level b.Sub h = lit≤ tt
infix_level b.Mul h = lit≤ tt
infix_level b.Div h = lit≤ tt
infix_level b.Rem h = lit≤ tt
infix_level b.And h = lit≤ tt
infix_level b.Or h = lit≤ tt
infix_level b.Xor h = lit≤ tt
infix_level b.LAnd h = lit≤ tt
infix_level b.LOr h = lit≤ tt
infix_level b.Shl h = lit≤ tt
infix_level b.Shr h = lit≤ tt
infix_level b.Min h = absurd (cc)
infix_level b.Max h = absurd (cc)
infix_level b.Eq h = lit≤ tt
infix_level b.Ne h = lit≤ tt
infix_level b.Lt h = lit≤ tt
infix_level b.Le h = lit≤ tt
infix_level b.Gt h = lit≤ tt
infix_level b.Ge h = lit≤ tt
