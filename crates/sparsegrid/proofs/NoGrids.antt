-- No file is both a program and a grid text: a grid text begins with a word that no item begins with.
use Rattle.std.proofs.Common.{◌≡◌, ◌⊎◌, inl, inr, ℕ, zero, suc, ◌-◌, Bool, true, false, List, [], ◌∷◌, ◌++◌, map, length, Option, Some, None, Result, Ok, Err, refl, sym, ap, ◌∙◌, subst, append_assoc, append-nil, ◌+◌}
use Rattle.std.specs.Prelude.{codes, nat_eq, if◌then◌else◌, nat_lt, drop}
use Rattle.std.specs.List.{starts_with}
use Rattle.std.specs.Fmt.{decimal}
use Rattle.std.proofs.lemmas.Bool.Decides.{Decides-eqb}
use Rattle.std.proofs.lemmas.Slice.Eq.{starts_is}
use Rattle.sg_words.specs.Options.{only_if}
use Rattle.sg_words.specs.Options as options
use Rattle.sg_words.specs.Results.{◌>>=◌, fault_as}
use Rattle.sg_words.specs.declared.operators.Ty.{Ty}
use Rattle.sg_coord.specs.Bounds.{Bounds}
use Rattle.sg_ast.specs.declared.token.Token.{Token}
use Rattle.sg_ast.specs.declared.token.Token.TheVariants as token
use Rattle.sg_ast.specs.declared.token.Spanned.{Spanned}
use Rattle.sg_ast.specs.declared.token.Tokens.{Tokens}
use Rattle.sg_ast.specs.declared.program.Program.{Program}
use Rattle.sg_ast.specs.declared.command.Command.{Command}
use Rattle.sg_ast.specs.declared.program.Item.{Item}
use Rattle.sg_ast.specs.declared.program.Item.TheVariants as item
use Rattle.sg_ast.specs.declared.token.Name.{Name}
use Rattle.sg_ast.specs.declared.token.Word.{Word}
use Rattle.sg_ast.specs.declared.token.Word.TheVariants as word
use Rattle.sg_ast.specs.Command.{command_tokens}
use Rattle.sg_ast.specs.Items.{kinds}
use Rattle.sg_ast.specs.Program.{item_tokens}
use Rattle.sg_ast.specs.Stmt.{joined_lists}
use Rattle.sg_ast.proofs.Uses.{by_command_variant, command_tokens-Load, command_tokens-Run, command_tokens-Times, command_tokens-Dump, command_tokens-Image, command_tokens-Stats, command_tokens-Prune, command_tokens-Clear}
use Rattle.sg_lexer.specs.declared.fault.LexFault.{LexFault}
use Rattle.sg_lexer.specs.Alphabet.{reserved_word}
use Rattle.sg_lexer.specs.Lexing.{Piece, piece, line_after, run_token, name_token, with_piece, tokens_from, token_list, tokens}
use Rattle.sg_parser.specs.Laws.{ParsedIsSpelled}
use Rattle.sg_parser.specs.declared.program.ParseFault.{ParseFault}
use Rattle.sg_parser.specs.Parsed.{program_of}
use Rattle.sg_grid.specs.declared.grid.GridRow.{GridRow}
use Rattle.sg_grid.specs.declared.grid.GridRun.{GridRun}
use Rattle.sg_grid.specs.declared.grid.Version.TheVariants.{One, Two}
use Rattle.sg_grid.specs.declared.grid.GridFault.{GridFault}
use Rattle.sg_grid.specs.declared.grid.GridFault.TheVariants as grid_fault
use Rattle.sg_grid.specs.Limits.{most_grid_bytes}
use Rattle.sg_grid.specs.Fronts.{AtFront, rest_after, head_at}
use Rattle.sg_grid.specs.Runs.{rows_of_runs}
use Rattle.sg_grid.specs.GridText.{head_text}
use Rattle.sg_grid.specs.Reading.{runs_below_either, runs_of, rows_of}
use Rattle.sg_session.proofs.Uses.{bound_ok}
use Rattle.sg_session.specs.declared.refusal.Refusal.TheVariants as refusal
use Rattle.sg_session.specs.Compiling.{spelled_program}

-- ---- what a grid text begins with

-- a name and a space stand in front
record Begins (name bytes : List ℕ) : Type 0 where
  rest : List ℕ
  is : bytes ≡ name ++ 32 ∷ rest

rest_found : (test : Bool) (rest : List ℕ) (next : List ℕ → Option (ℕ × List ℕ)) (x : ℕ × List ℕ) → options.◌>>=◌ (only_if test (Some rest)) next ≡ Some x → test ≡ true
rest_found true rest next x h = refl
rest_found false rest next x h = absurd (cc)

front_of : (bytes text : List ℕ) → starts_with nat_eq bytes text ≡ true → bytes ≡ text ++ drop (length text) bytes
front_of bytes text h = (starts_is Decides-eqb bytes text (starts_with nat_eq bytes text) refl).0 h

first_begins : (axes : ℕ) (bytes : List ℕ) (head : ℕ × List ℕ) → head_at One axes bytes ≡ Some head → Begins (codes "grid") bytes
unfolding head_at rest_after
first_begins axes bytes head is = record { rest = (decimal axes ++ 32 ∷ []) ++ drop (length (head_text One axes)) bytes; is = front_of bytes (head_text One axes) (rest_found _ _ _ head is) }

second_begins : (axes : ℕ) (bytes : List ℕ) (head : ℕ × List ℕ) → head_at Two axes bytes ≡ Some head → Begins (codes "grid2") bytes
unfolding head_at rest_after
second_begins axes bytes head is = record { rest = (decimal axes ++ 32 ∷ []) ++ drop (length (head_text Two axes)) bytes; is = front_of bytes (head_text Two axes) (rest_found _ _ _ head is) }

grid_begins : (bounds : Bounds) (type : Ty) (bytes : List ℕ) (rows : List GridRow) → rows_of bounds type bytes ≡ Ok rows → Begins (codes "grid") bytes ⊎ Begins (codes "grid2") bytes
unfolding rows_of runs_of
grid_begins bounds type bytes rows h =
    let read = bound_ok (runs_of bounds type bytes) (λ (runs : List GridRun). Ok (rows_of_runs runs)) rows h in
    by_size read.x (nat_lt most_grid_bytes (length bytes)) read.is
  where
    by_heads : (runs : List GridRun) (first second : AtFront ℕ) → head_at One bounds.n bytes ≡ first → head_at Two bounds.n bytes ≡ second → runs_below_either bounds type first second ≡ Ok runs
        → Begins (codes "grid") bytes ⊎ Begins (codes "grid2") bytes
    by_heads runs (Some head) second is _ e = inl (first_begins bounds.n bytes head is)
    by_heads runs None (Some head) _ is e = inr (second_begins bounds.n bytes head is)
    by_heads runs None None _ _ e = absurd (cc)

    by_size : (runs : List GridRun) (large : Bool)
        → ◌≡◌ {A = Result (List GridRun) GridFault} (if large then Err grid_fault.TooManyBytes else runs_below_either bounds type (head_at One bounds.n bytes) (head_at Two bounds.n bytes)) (Ok runs)
        → Begins (codes "grid") bytes ⊎ Begins (codes "grid2") bytes
    by_size runs true e = absurd (cc)
    by_size runs false e = by_heads runs (head_at One bounds.n bytes) (head_at Two bounds.n bytes) refl refl e

-- ---- its first token

-- the tokens that are found stay in front
record InFront (front list : List Spanned) : Type 0 where
  more : List Spanned
  is : list ≡ front ++ more

front_kept : (done more list : List Spanned) → InFront (done ++ more) list → InFront done list
front_kept done more list front = record { more = more ++ front.more; is = front.is ∙ append_assoc done more front.more }

front_piece : (before : List ℕ) (done list : List Spanned) (p : Piece) → InFront (with_piece before done p) list → InFront done list
front_piece before done list (n, None) front = front
front_piece before done list (n, Some t) front = front_kept done (record { token = t; start = length before; end = length before + n; line = line_after before } ∷ []) list front

tokens_stay : (left : ℕ) (before : List ℕ) (done : List Spanned) (bytes : List ℕ) (list : List Spanned) → tokens_from left before done bytes ≡ Ok list → InFront done list
tokens_stay left before done [] list e = record { more = []; is = let same : done ≡ list = cc in sym same ∙ sym (append-nil done) }
tokens_stay (suc left) before done (b ∷ bytes) list e = tokens_stay left (before ++ b ∷ []) done bytes list e
tokens_stay zero before done (b ∷ bytes) list e = by_piece (piece (line_after before) (length done) (b ∷ bytes)) e (λ p h. tokens_stay (p.0 - 1) (before ++ b ∷ []) (with_piece before done p) bytes list h) where
  by_piece : (answer : Result Piece LexFault) → answer >>= (λ p. tokens_from (p.0 - 1) (before ++ b ∷ []) (with_piece before done p) bytes) ≡ Ok list
      → ((p : Piece) → tokens_from (p.0 - 1) (before ++ b ∷ []) (with_piece before done p) bytes ≡ Ok list → InFront (with_piece before done p) list) → InFront done list
  by_piece (Err fault) h rest = absurd (cc)
  by_piece (Ok p) h rest = front_piece before done list p (rest p h)

-- a name as a token in front
named : List ℕ → Spanned
named text = record { token = token.Name (record { text = text }); start = 0; end = length text; line = 1 }

-- so a first token is a name
record IsFirst (name rest : List ℕ) : Type 0 where
  is : token_list (name ++ 32 ∷ rest) ≡ tokens_from 0 name (named name ∷ []) (32 ∷ rest)

-- it is the first token
first_word : (rest : List ℕ) → IsFirst (codes "grid") rest
unfolding token_list piece run_token name_token reserved_word named
first_word rest = record { is = refl }

second_word : (rest : List ℕ) → IsFirst (codes "grid2") rest
unfolding token_list piece run_token name_token reserved_word named
second_word rest = record { is = refl }

-- ---- no item begins with it

-- tokens that begin with a reserved word begin with no name
word_first : (word : Word) (tokens behind more rest : List Token) (name : Name) → tokens ≡ token.Word word ∷ behind → tokens ++ more ≡ token.Name name ∷ rest → ⊥
word_first word tokens behind more rest name is e =
    let both : token.Word word ∷ (behind ++ more) ≡ token.Name name ∷ rest = ap (λ (ts : List Token). ts ++ more) (sym is) ∙ e in cc

command_first : (more rest : List Token) (name : Name) (given : Command) → command_tokens given ++ more ≡ token.Name name ∷ rest → ⊥
command_first more rest name = by_command_variant (λ given. command_tokens given ++ more ≡ token.Name name ∷ rest → ⊥)
    (λ field. word_first word.Load _ _ more rest name (command_tokens-Load field))
    (λ kernel. word_first word.Run _ _ more rest name (command_tokens-Run kernel))
    (λ number body. word_first word.Times _ _ more rest name (command_tokens-Times number body))
    (λ field. word_first word.Dump _ _ more rest name (command_tokens-Dump field))
    (λ field lo hi. word_first word.Image _ _ more rest name (command_tokens-Image field lo hi))
    (λ layout. word_first word.Stats _ _ more rest name (command_tokens-Stats layout))
    (λ layout. word_first word.Prune _ _ more rest name (command_tokens-Prune layout))
    (λ layout. word_first word.Clear _ _ more rest name (command_tokens-Clear layout))

item_first : (more rest : List Token) (name : Name) (given : Item) → item_tokens given ++ more ≡ token.Name name ∷ rest → ⊥
item_first more rest name (item.Const decl) e = cc
item_first more rest name (item.Layout decl) e = cc
item_first more rest name (item.Kernel decl) e = cc
item_first more rest name (item.Command command) e = command_first more rest name command e

items_first : (rest : List Token) (name : Name) (items : List Item) → joined_lists (map item_tokens items) ≡ token.Name name ∷ rest → ⊥
items_first rest name [] e = cc
items_first rest name (given ∷ items) e = item_first (joined_lists (map item_tokens items)) rest name given e

program_refused : ParsedIsSpelled → (name : List ℕ) (more : List Spanned) (program : Program) → program_of (named name ∷ more) ≡ Ok program → ⊥
unfolding named
program_refused law name more program e = items_first (kinds more) (record { text = name }) program.items (law (named name ∷ more) program e).tokens_are

-- ---- no file is both

not_spelled : ParsedIsSpelled → (name rest : List ℕ) (program : Program) → IsFirst name rest → spelled_program (name ++ 32 ∷ rest) ≡ Ok program → ⊥
unfolding spelled_program
not_spelled law name rest program first e = by_tokens (token_list (name ++ 32 ∷ rest)) first.is e where
  by_list : (list : List Spanned) → InFront (named name ∷ []) list → fault_as refusal.Parse (program_of list) ≡ Ok program → ⊥
  by_list list front h = by_answer (program_of (named name ∷ front.more)) refl (subst (λ (l : List Spanned). fault_as refusal.Parse (program_of l) ≡ Ok program) front.is h) where
    by_answer : (answer : Result Program ParseFault) → program_of (named name ∷ front.more) ≡ answer → fault_as refusal.Parse answer ≡ Ok program → ⊥
    by_answer (Ok other) is same = program_refused law name front.more other is
    by_answer (Err fault) is same = cc

  by_tokens : (answer : Result (List Spanned) LexFault) → answer ≡ tokens_from 0 name (named name ∷ []) (32 ∷ rest)
      → fault_as refusal.Lex (answer >>= (λ list. Ok (record { list = list }))) >>= (λ (found : Tokens). fault_as refusal.Parse (program_of found.list)) ≡ Ok program → ⊥
  by_tokens (Err fault) is h = cc
  by_tokens (Ok list) is h = by_list list (tokens_stay 0 name (named name ∷ []) (32 ∷ rest) list (sym is)) h

pub no_grid : ParsedIsSpelled → (file : List ℕ) (program : Program) (bounds : Bounds) (type : Ty) (rows : List GridRow) → spelled_program file ≡ Ok program → rows_of bounds type file ≡ Ok rows → ⊥
no_grid law file program bounds type rows spelled read = elim (grid_begins bounds type file rows read) [
  | inl begins ↦ not_spelled law (codes "grid") begins.rest program (first_word begins.rest) (subst (λ (bytes : List ℕ). spelled_program bytes ≡ Ok program) begins.is spelled)
  | inr begins ↦ not_spelled law (codes "grid2") begins.rest program (second_word begins.rest) (subst (λ (bytes : List ℕ). spelled_program bytes ≡ Ok program) begins.is spelled)
]
