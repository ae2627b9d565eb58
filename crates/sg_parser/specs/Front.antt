-- What stands at the front of a token list, and what follows it.
use Rattle.std.specs.Prelude.{◌≡◌, refl, ℕ, zero, suc, List, [], ◌∷◌, ◌++◌, length, Option, Some, None, option_map, Result, Ok, Err}
use denote.Enum.Bare.{sameb}
use Rattle.sg_words.specs.Options.{◌>>=◌, only_if}
use Rattle.sg_words.specs.declared.operators.BinOp.{BinOp}
use Rattle.sg_words.specs.declared.operators.BinOp.TheVariants as b
use Rattle.sg_words.specs.declared.memory.Stop.{Stop}
use Rattle.sg_words.specs.declared.memory.Stop.TheVariants as stop
use Rattle.sg_ast.specs.contracts.token.Sign.{the_type as sign_type}
use Rattle.sg_ast.specs.contracts.token.Word.{the_type as word_type}
use Rattle.sg_ast.specs.declared.token.Name.{Name}
use Rattle.sg_ast.specs.declared.token.Word.{Word}
use Rattle.sg_ast.specs.declared.token.Word.TheVariants as w
use Rattle.sg_ast.specs.declared.token.Sign.{Sign}
use Rattle.sg_ast.specs.declared.token.Sign.TheVariants as s
use Rattle.sg_ast.specs.declared.token.Token.{Token}
use Rattle.sg_ast.specs.declared.token.Token.TheVariants as t
use Rattle.sg_ast.specs.Token.{is_name}

-- a reader: the value that tokens at the front spell, and the tokens after them; nothing if they spell none
abbrev pub Reader : Type 0 → Type 0
Reader A = List Token → Option (A × List Token)

-- what a call answered is what the reader gives, unless memory ran out
abbrev pub Gives : {A B E : Type 0} → (A → B) → Result A (Stop E) → Option B → Type 0
Gives view (Ok value) read = read ≡ Some (view value)
Gives view (Err stop.Memory) read = Unit {0}
Gives view (Err (stop.Refused fault)) read = read ≡ None

-- what follows a sign
abbrev pub after_sign : Sign → List Token → Option (List Token)
after_sign sign (t.Sign first ∷ rest) = only_if (sameb sign_type first sign) (Some rest)
after_sign sign _ = None

-- what follows a word
abbrev pub after_word : Word → List Token → Option (List Token)
after_word word (t.Word first ∷ rest) = only_if (sameb word_type first word) (Some rest)
after_word word _ = None

-- a name
abbrev pub next_name : Reader Name
next_name (t.Name name ∷ rest) = only_if (is_name name) (Some (name, rest))
next_name _ = None

-- the operator that a sign is between two operands
abbrev pub infix_of : Sign → Option BinOp
infix_of s.Plus = Some b.Add
infix_of s.Minus = Some b.Sub
infix_of s.Star = Some b.Mul
infix_of s.Slash = Some b.Div
infix_of s.Percent = Some b.Rem
infix_of s.And = Some b.And
infix_of s.Or = Some b.Or
infix_of s.Caret = Some b.Xor
infix_of s.AndAnd = Some b.LAnd
infix_of s.OrOr = Some b.LOr
infix_of s.ShiftLeft = Some b.Shl
infix_of s.ShiftRight = Some b.Shr
infix_of s.EqualEqual = Some b.Eq
infix_of s.NotEqual = Some b.Ne
infix_of s.Less = Some b.Lt
infix_of s.LessEqual = Some b.Le
infix_of s.Greater = Some b.Gt
infix_of s.GreaterEqual = Some b.Ge
infix_of _ = None

-- an operator between two operands
abbrev pub next_op : Reader BinOp
next_op (t.Sign sign ∷ rest) = option_map (λ op. (op, rest)) (infix_of sign)
next_op _ = None

-- the list so far if no comma stands at the front, else what is read after it
abbrev pub comma_list_on : {A : Type 0} → List A → List Token → Reader (List A) → Option (List Token) → Option (List A × List Token)
comma_list_on found rest more None = Some (found, rest)
comma_list_on found rest more (Some after) = more after

-- a list with a comma between each two, of which some were found already, in at most so many turns
unfoldable pub comma_list_from : {A : Type 0} → Reader A → ℕ → List A → Reader (List A)
comma_list_from one zero found tokens = None
comma_list_from one (suc turns) found tokens =
    one tokens >>= λ first. comma_list_on (found ++ first.0 ∷ []) first.1 (comma_list_from one turns (found ++ first.0 ∷ [])) (after_sign s.Comma first.1)

-- a list with a comma between each two, of one or more
abbrev pub comma_list : {A : Type 0} → Reader A → Reader (List A)
comma_list one tokens = comma_list_from one (length tokens) [] tokens

-- what is found already where the end stands at the front, else what is read on
abbrev pub list_to_end_on : {A : Type 0} → List A → Option (List A × List Token) → Option (List Token) → Option (List A × List Token)
list_to_end_on found more None = more
list_to_end_on found more (Some rest) = Some (found, rest)

-- a list up to its end, of which some were found already, in at most so many turns
unfoldable pub list_to_end_from : {A : Type 0} → (List Token → Option (List Token)) → Reader A → ℕ → List A → Reader (List A)
list_to_end_from end one zero found tokens = None
list_to_end_from end one (suc turns) found tokens =
    list_to_end_on found (one tokens >>= λ first. list_to_end_from end one turns (found ++ first.0 ∷ []) first.1) (end tokens)

-- a list up to its end
abbrev pub list_to_end : {A : Type 0} → (List Token → Option (List Token)) → Reader A → Reader (List A)
list_to_end end one tokens = list_to_end_from end one (length tokens) [] tokens

-- worked equations
comma-follows : (rest : List Token) → after_sign s.Comma (t.Sign s.Comma ∷ rest) ≡ Some rest
comma-follows rest = refl

semicolon-no_comma : (rest : List Token) → after_sign s.Comma (t.Sign s.Semicolon ∷ rest) ≡ None
semicolon-no_comma rest = refl

else-follows : (rest : List Token) → after_word w.Else (t.Word w.Else ∷ rest) ≡ Some rest
else-follows rest = refl
