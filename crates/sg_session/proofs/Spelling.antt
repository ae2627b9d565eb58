-- From the answers of the stages to the program that bytes spell.
use Rattle.std.proofs.Common.{◌≡◌, ℕ, suc, ◌≤◌, Bool, true, false, List, [], ◌∷◌, length, Result, Ok, Err, refl, ap, ◌∙◌, arith}
use Rattle.sg_ast.specs.declared.token.Token.{Token}
use Rattle.sg_ast.specs.declared.token.Spanned.{Spanned}
use Rattle.sg_ast.specs.declared.token.Tokens.{Tokens}
use Rattle.sg_ast.specs.declared.program.Program.{Program}
use Rattle.sg_ast.specs.Program.{item_tokens, program_tokens}
use Rattle.sg_ast.specs.Items.{ends_item, open_after, in_front, cut_by}
use Rattle.sg_ast.specs.Laws.{CutGivesItems}
use Rattle.sg_ast.specs.Limits.{most_tokens}
use Rattle.sg_lexer.specs.declared.fault.LexFault.{LexFault}
use Rattle.sg_lexer.specs.Lexing.{tokens}
use Rattle.sg_parser.specs.declared.program.ParseFault.{ParseFault}
use Rattle.sg_parser.specs.Parsed.{program_of}
use Rattle.sg_parser.specs.Laws.{ParsedIsSpelled}
use Rattle.sg_words.specs.Results.{fault_as, ◌>>=◌}
use Rattle.sg_session.specs.declared.refusal.Refusal.{Refusal}
use Rattle.sg_session.specs.declared.refusal.Refusal.TheVariants as refusal
use Rattle.sg_session.specs.Compiling.{spelled_program}
use Rattle.sg_session.specs.Spelled.{IsSpelled}
use Rattle.sg_session.proofs.Lists.{count_map}

-- ---- what bytes spell

abbrev spelled_by : Result Tokens LexFault → Result Program Refusal
spelled_by answer = fault_as refusal.Lex answer >>= (λ found. fault_as refusal.Parse (program_of found.list))

spelled_is : (bytes : List ℕ) → spelled_program bytes ≡ spelled_by (tokens bytes)
unfolding spelled_program
spelled_is bytes = refl

pub spelled_lex : (bytes : List ℕ) (fault : LexFault) → tokens bytes ≡ Err fault → spelled_program bytes ≡ Err (refusal.Lex fault)
spelled_lex bytes fault t = spelled_is bytes ∙ ap spelled_by t

pub spelled_parse : (bytes : List ℕ) (found : Tokens) (fault : ParseFault) → tokens bytes ≡ Ok found → program_of found.list ≡ Err fault → spelled_program bytes ≡ Err (refusal.Parse fault)
spelled_parse bytes found fault t p = spelled_is bytes ∙ ap spelled_by t ∙ ap (fault_as refusal.Parse) p

pub spelled_ok : (bytes : List ℕ) (found : Tokens) (program : Program) → tokens bytes ≡ Ok found → program_of found.list ≡ Ok program → spelled_program bytes ≡ Ok program
spelled_ok bytes found program t p = spelled_is bytes ∙ ap spelled_by t ∙ ap (fault_as refusal.Parse) p

length-in_front : (ends : Bool) (x : Token) (items : List (List Token)) → length (in_front ends x items) ≤ suc (length items)
length-in_front true x items = omega arith
length-in_front false x [] = omega arith
length-in_front false x (item ∷ items) = omega arith

-- there are no more items than tokens
length-cut : (braces : ℕ) (xs : List Token) → length (cut_by (λ (token : Token). token) braces xs) ≤ length xs
length-cut braces [] = omega arith
length-cut braces (x ∷ xs) =
    omega (arith, length-in_front (ends_item braces x) x (cut_by (λ (token : Token). token) (open_after braces x) xs), length-cut (open_after braces x) xs)

pub is_spelled : (found : Tokens) (program : Program) → ParsedIsSpelled → CutGivesItems → length found.list ≤ most_tokens → program_of found.list ≡ Ok program → IsSpelled program
is_spelled found program law cuts few p =
    let facts = law found.list program p in
    let count : length (program_tokens program) ≡ length found.list = ap length facts.tokens_are ∙ count_map (λ (spanned : Spanned). spanned.token) found.list in
    let items : length program.items ≤ length (program_tokens program) =
    omega (arith, count_map item_tokens program.items, ap length (cuts program facts.of_grammar).0, length-cut 0 (program_tokens program)) in
    record { grammar = facts.of_grammar; few = omega arith; few_items = omega arith }
