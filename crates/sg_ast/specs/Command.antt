-- Commands: the one token list of each.
use Rattle.std.specs.Prelude.{◌≡◌, refl, ℕ, ◌+◌, true, false, nat_lt, ℤ, pos, negsuc, List, [], ◌∷◌, ◌++◌}
use Rattle.sg_ast.specs.declared.token.Name.{Name}
use Rattle.sg_ast.specs.declared.token.Word.{Word}
use Rattle.sg_ast.specs.declared.token.Word.TheVariants as w
use Rattle.sg_ast.specs.declared.token.Sign.TheVariants as s
use Rattle.sg_ast.specs.declared.token.Token.{Token}
use Rattle.sg_ast.specs.declared.token.Token.TheVariants as t
use Rattle.sg_ast.specs.declared.command.Command.{Command, fold-Command}
use Rattle.sg_ast.specs.declared.command.Command.TheOpen as f
use Rattle.sg_ast.specs.declared.command.Command.TheOpen.{Command-F}
use Rattle.sg_ast.specs.Limits.{max_number}
use Rattle.sg_ast.specs.Stmt.{in_braces}

-- the number of a bound, with a `u` exactly when it is past the limit without one
abbrev pub magnitude_token : ℕ → Token
magnitude_token n = t.Number n (nat_lt (max_number false) n)

-- a bound: its number, after a `-` if it is negative. `negsuc n` is -(n + 1), so no `-` stands before 0
abbrev pub bound_tokens : ℤ → List Token
bound_tokens (pos n) = magnitude_token n ∷ []
bound_tokens (negsuc n) = t.Sign s.Minus ∷ magnitude_token (n + 1) ∷ []

-- a word, a name and `;`
abbrev pub named_tokens : Word → Name → List Token
named_tokens word name = t.Word word ∷ t.Name name ∷ t.Sign s.Semicolon ∷ []

-- one layer of a command, where the tokens of the commands in it are given
abbrev pub command_step : Command-F (List Token) → List Token
command_step (f.Load field) = named_tokens w.Load field
command_step (f.Run kernel) = named_tokens w.Run kernel
command_step (f.Times number body) = t.Word w.Times ∷ t.Number number false ∷ in_braces body
command_step (f.Dump field) = named_tokens w.Dump field
command_step (f.Image field lo hi) = t.Word w.Image ∷ t.Name field ∷ (bound_tokens lo ++ (bound_tokens hi ++ t.Sign s.Semicolon ∷ []))
command_step (f.Stats layout) = named_tokens w.Stats layout
command_step (f.Prune layout) = named_tokens w.Prune layout
command_step (f.Clear layout) = named_tokens w.Clear layout

-- the tokens of a command
abbrev pub command_tokens : Command → List Token
command_tokens = fold-Command (List Token) command_step

-- worked equations
bound-zero : bound_tokens (pos 0) ≡ t.Number 0 false ∷ []
bound-zero = refl

bound-minus_one : bound_tokens (negsuc 0) ≡ t.Sign s.Minus ∷ t.Number 1 false ∷ []
bound-minus_one = refl

bound-greatest_signed : bound_tokens (pos 2147483648) ≡ t.Number 2147483648 false ∷ []
bound-greatest_signed = refl

bound-least_unsigned : bound_tokens (pos 2147483649) ≡ t.Number 2147483649 true ∷ []
bound-least_unsigned = refl

bound-minus_greatest : bound_tokens (negsuc 2147483647) ≡ t.Sign s.Minus ∷ t.Number 2147483648 false ∷ []
bound-minus_greatest = refl

bound-minus_unsigned : bound_tokens (negsuc 4294967294) ≡ t.Sign s.Minus ∷ t.Number 4294967295 true ∷ []
bound-minus_unsigned = refl
