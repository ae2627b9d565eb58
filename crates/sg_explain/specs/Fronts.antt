-- How far tokens can be read: which fronts of them some file of the grammar has.
use Rattle.std.specs.Prelude.{◌≡◌, ℕ, ◌-◌, IsTrue, List, [], ◌∷◌, ◌++◌, take}
use Rattle.sg_ast.specs.declared.token.Token.{Token}
use Rattle.sg_ast.specs.declared.token.Spanned.{Spanned}
use Rattle.sg_ast.specs.declared.program.Program.{Program}
use Rattle.sg_ast.specs.Stmt.{joined_lists}
use Rattle.sg_ast.specs.Program.{program_tokens}
use Rattle.sg_ast.specs.Grammar.{is_program}
use Rattle.sg_ast.specs.Items.{kinds, items_of}
use Rattle.sg_explain.specs.declared.place.Place.{Place}

-- some file of the grammar begins with these tokens
pub record IsFront (tokens : List Token) : Type 0 where
  pub program : Program
  pub good : IsTrue (is_program program)
  pub more : List Token
  pub begins : program_tokens program ≡ tokens ++ more

-- where tokens end; for none the given number
abbrev pub end_of : ℕ → List Spanned → ℕ
end_of end [] = end
end_of end (spanned ∷ more) = end_of spanned.end more

-- the bytes of the first token, or for none the place, of no bytes, where what is before it ends
abbrev pub first_place : ℕ → List Spanned → Place
first_place end [] = record { from = end; to = end }
first_place end (spanned ∷ more) = record { from = spanned.start; to = spanned.end }

-- the tokens of the items in front of the one of this number, from 1
abbrev pub items_before : List Spanned → ℕ → List Spanned
items_before tokens number = joined_lists (take (number - 1) (items_of tokens))

-- A place in tokens up to which some file of the grammar goes: a token, or behind the last one, where some file of the grammar begins with the
-- tokens before it. All items in front of the one of the given number are among these.
pub record IsReadUpTo (tokens : List Spanned) (number : ℕ) (place : Place) : Type 0 where
  pub before : List Spanned
  pub behind : List Spanned
  pub split : tokens ≡ before ++ behind
  pub is : place ≡ first_place (end_of 0 before) behind
  pub front : IsFront (kinds before)
  pub more : List Spanned
  pub in_item : before ≡ items_before tokens number ++ more
