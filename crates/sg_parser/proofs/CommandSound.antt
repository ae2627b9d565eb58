-- What is read as a command is one, and the tokens that were taken are its tokens.
use Rattle.std.specs.Prelude.{◌≡◌, refl, ℕ, ◌+◌, ◌-◌, Bool, true, false, ◌&&◌, nat_le, nat_lt, ℤ, pos, negsuc, List, [], ◌∷◌, ◌++◌, length, Option, Some, None}
use Rattle.std.specs.List.{list_all}
use Rattle.std.proofs.Common.{sym, ◌∙◌, ap, subst, arith}
use Rattle.std.proofs.lemmas.Bool.{and_parts, and_from, ltb-true, not-true}
use Rattle.sg_ast.specs.declared.token.Name.{Name}
use Rattle.sg_ast.specs.declared.token.Word.{Word}
use Rattle.sg_ast.specs.declared.token.Word.TheVariants as w
use Rattle.sg_ast.specs.declared.token.Sign.TheVariants as s
use Rattle.sg_ast.specs.declared.token.Token.{Token}
use Rattle.sg_ast.specs.declared.token.Token.TheVariants as t
use Rattle.sg_ast.specs.declared.command.Command.{Command}
use Rattle.sg_ast.specs.declared.command.Command.TheVariants as command
use Rattle.sg_ast.specs.Token.{is_name, is_number}
use Rattle.sg_ast.specs.Command.{magnitude_token, bound_tokens, named_tokens, command_tokens}
use Rattle.sg_ast.specs.Grammar.{is_bound, is_simple, is_command}
use Rattle.sg_ast.proofs.Uses.{by_command_variant, command_tokens-Load, command_tokens-Run, command_tokens-Dump, command_tokens-Stats, command_tokens-Prune, command_tokens-Clear, is_simple-Load, is_simple-Run, is_simple-Times, is_simple-Dump, is_simple-Image, is_simple-Stats, is_simple-Prune, is_simple-Clear, is_command-Load, is_command-Run, is_command-Times, is_command-Dump, is_command-Image, is_command-Stats, is_command-Prune, is_command-Clear}
use Rattle.sg_parser.specs.Front.{after_sign, next_name, list_to_end}
use Rattle.sg_words.specs.Options.{only_if}
use Rattle.sg_parser.specs.ReadItem.{next_plain, ending, has_right_suffix, next_magnitude, whole_on, next_whole, read_named, read_image, name_command, word_simple, read_simple, read_times}
use Rattle.sg_parser.proofs.StepLemmas.{bind_some, only_if_some, after_sign_is, next_name_is}
use Rattle.sg_parser.proofs.ListLemmas.{IsSoundReader, repeated_sound}
use Rattle.sg_parser.proofs.StmtSound.{made_is}
use Rattle.sg_parser.proofs.ItemParts.{IsGood, all_pass, image_parts, times_parts, plain_sound, ending_sound}
use Rattle.sg_ast.specs.Limits.{max_number}

marked_is : (unsigned : Bool) (value : ℕ) → has_right_suffix unsigned value ≡ true → unsigned ≡ nat_lt (max_number false) value
marked_is true value h = sym h
marked_is false value h = sym (not-true (nat_lt (max_number false) value) h)

magnitude_sound : (tokens rest : List Token) (n : ℕ) → next_magnitude tokens ≡ Some (n, rest) → (is_number n true ≡ true) × (tokens ≡ magnitude_token n ∷ rest)
magnitude_sound [] rest n h = absurd (cc)
magnitude_sound (t.Number value unsigned ∷ more) rest n h =
    let p = only_if_some (has_right_suffix unsigned value && is_number value true) (Some (value, more)) (n, rest) h in
    let q = and_parts (has_right_suffix unsigned value) (is_number value true) p.0 in
    made_is (λ (n : ℕ) (rest : List Token). (is_number n true ≡ true) × (t.Number value unsigned ∷ more ≡ magnitude_token n ∷ rest)) value n more rest
    (q.1, ap (λ mark. t.Number value mark ∷ more) (marked_is unsigned value q.0)) p.1
magnitude_sound (_ ∷ more) rest n h = absurd (cc)

whole_sound : (tokens : List Token) (a : ℤ) (rest : List Token) → next_whole tokens ≡ Some (a, rest) → (is_bound a ≡ true) × (tokens ≡ bound_tokens a ++ rest)
unfolding next_whole
whole_sound tokens a rest h = go (after_sign s.Minus tokens) refl h where
  go : (after : Option (List Token)) → after_sign s.Minus tokens ≡ after → whole_on tokens after ≡ Some (a, rest) → (is_bound a ≡ true) × (tokens ≡ bound_tokens a ++ rest)
  go None is h =
      let p = bind_some (next_magnitude tokens) _ (a, rest) h in
      let n = magnitude_sound tokens p.0.1 p.0.0 p.1 in
      made_is (λ (a : ℤ) (rest : List Token). (is_bound a ≡ true) × (tokens ≡ bound_tokens a ++ rest)) (pos p.0.0) a p.0.1 rest (n.0, n.1) p.2
  go (Some after) is h =
      let p = bind_some (next_magnitude after) (λ (number : ℕ × List Token). only_if (nat_lt 0 number.0) (Some (negsuc (number.0 - 1), number.1))) (a, rest) h in
      let q = only_if_some (nat_lt 0 p.0.0) (Some (negsuc (p.0.0 - 1), p.0.1)) (a, rest) p.2 in
      let n = magnitude_sound after p.0.1 p.0.0 p.1 in
      let above = ltb-true 0 p.0.0 q.0 in
      let same : p.0.0 ≡ p.0.0 - 1 + 1 = omega arith in
      made_is (λ (a : ℤ) (rest : List Token). (is_bound a ≡ true) × (tokens ≡ bound_tokens a ++ rest)) (negsuc (p.0.0 - 1)) a p.0.1 rest
      (subst (λ k. is_number k true ≡ true) same n.0, after_sign_is s.Minus tokens after is ∙ ap (λ r. t.Sign s.Minus ∷ r) (n.1 ∙ ap (λ k. magnitude_token k ∷ p.0.1) same)) q.1

-- a command that is no `times`, and its tokens
abbrev pub IsSimpleRead : List Token → Command → List Token → Type 0
IsSimpleRead tokens a rest = (is_simple a ≡ true) × (tokens ≡ command_tokens a ++ rest)

named_sound : (tokens : List Token) (name : Name) (rest : List Token) → read_named tokens ≡ Some (name, rest) → (is_name name ≡ true) × (tokens ≡ t.Name name ∷ t.Sign s.Semicolon ∷ rest)
unfolding read_named
named_sound tokens name rest h =
    let p = bind_some (next_name tokens) (λ (name : Name × List Token). ending name.0 name.1) (name, rest) h in
    let read = next_name_is tokens p.0.1 p.0.0 p.1 in
    let end = ending_sound p.0.0 name p.0.1 rest p.2 in
    rw (← end.0) (read.1, cc (read.0, end.1))

about_sound : (make : Name → Command) (word : Word) → ((name : Name) → command_tokens (make name) ≡ named_tokens word name) → ((name : Name) → is_simple (make name) ≡ is_name name)
    → (tokens : List Token) (a : Command) (rest : List Token) → name_command make tokens ≡ Some (a, rest) → IsSimpleRead (t.Word word ∷ tokens) a rest
about_sound make word spelled simple tokens a rest h =
    let p = bind_some (read_named tokens) (λ (name : Name × List Token). Some (make name.0, name.1)) (a, rest) h in
    let read = named_sound tokens p.0.0 p.0.1 p.1 in
    made_is (λ (a : Command) (rest : List Token). IsSimpleRead (t.Word word ∷ tokens) a rest) (make p.0.0) a p.0.1 rest
    (simple p.0.0 ∙ read.0, ap (λ r. t.Word word ∷ r) read.1 ∙ sym (ap (λ r. r ++ p.0.1) (spelled p.0.0))) p.2

image_sound : (tokens : List Token) (a : Command) (rest : List Token) → read_image tokens ≡ Some (a, rest) → IsSimpleRead (t.Word w.Image ∷ tokens) a rest
unfolding read_image
image_sound tokens a rest h =
    let p = bind_some (next_name tokens) _ (a, rest) h in
    let q = bind_some (next_whole p.0.1) _ (a, rest) p.2 in
    let r = bind_some (next_whole q.0.1) (λ (hi : ℤ × List Token). ending (command.Image p.0.0 q.0.0 hi.0) hi.1) (a, rest) q.2 in
    let name = next_name_is tokens p.0.1 p.0.0 p.1 in
    let lo = whole_sound p.0.1 q.0.0 q.0.1 q.1 in
    let hi = whole_sound q.0.1 r.0.0 r.0.1 r.1 in
    let end = ending_sound (command.Image p.0.0 q.0.0 r.0.0) a r.0.1 rest r.2 in
    subst (λ (a : Command). IsSimpleRead (t.Word w.Image ∷ tokens) a rest) end.0 (
      is_simple-Image p.0.0 q.0.0 r.0.0 ∙ and_from (is_name p.0.0) _ name.1 (and_from (is_bound q.0.0) (is_bound r.0.0) lo.0 hi.0),
      rw (image_parts p.0.0 q.0.0 r.0.0 rest) (cc (name.0, lo.1, hi.1, end.1)),
    )

pub simple_worded_sound : (word : Word) (tokens : List Token) (a : Command) (rest : List Token) → word_simple word tokens ≡ Some (a, rest) → IsSimpleRead (t.Word word ∷ tokens) a rest
simple_worded_sound w.Load tokens a rest h = about_sound command.Load w.Load command_tokens-Load is_simple-Load tokens a rest h
simple_worded_sound w.Run tokens a rest h = about_sound command.Run w.Run command_tokens-Run is_simple-Run tokens a rest h
simple_worded_sound w.Dump tokens a rest h = about_sound command.Dump w.Dump command_tokens-Dump is_simple-Dump tokens a rest h
simple_worded_sound w.Image tokens a rest h = image_sound tokens a rest h
simple_worded_sound w.Stats tokens a rest h = about_sound command.Stats w.Stats command_tokens-Stats is_simple-Stats tokens a rest h
simple_worded_sound w.Prune tokens a rest h = about_sound command.Prune w.Prune command_tokens-Prune is_simple-Prune tokens a rest h
simple_worded_sound w.Clear tokens a rest h = about_sound command.Clear w.Clear command_tokens-Clear is_simple-Clear tokens a rest h
simple_worded_sound _ tokens a rest h = absurd (cc)

simple_sound : IsSoundReader command_tokens (IsGood is_simple) read_simple
unfolding read_simple
simple_sound [] a rest h = absurd (cc)
simple_sound (t.Word word ∷ tokens) a rest h = simple_worded_sound word tokens a rest h
simple_sound (_ ∷ tokens) a rest h = absurd (cc)

pub times_sound : (tokens : List Token) (a : Command) (rest : List Token) → read_times tokens ≡ Some (a, rest) → (is_command a ≡ true) × (t.Word w.Times ∷ tokens ≡ command_tokens a ++ rest)
unfolding read_times
times_sound tokens a rest h =
    let p = bind_some (next_plain tokens) _ (a, rest) h in
    let q = bind_some (after_sign s.OpenBrace p.0.1) _ (a, rest) p.2 in
    let r = bind_some (list_to_end (after_sign s.CloseBrace) read_simple q.0) _ (a, rest) q.2 in
    let y = only_if_some (nat_le 1 (length r.0.0)) (Some (command.Times p.0.0 r.0.0, r.0.1)) (a, rest) r.2 in
    let number = plain_sound tokens p.0.1 p.0.0 p.1 in
    let brace = after_sign_is s.OpenBrace p.0.1 q.0 q.1 in
    let body = repeated_sound Command read_simple command_tokens (IsGood is_simple) simple_sound (after_sign s.CloseBrace) q.0 r.0.0 r.0.1 r.1 in
    let end = after_sign_is s.CloseBrace body.0 r.0.1 body.3 in
    made_is (λ (a : Command) (rest : List Token). (is_command a ≡ true) × (t.Word w.Times ∷ tokens ≡ command_tokens a ++ rest)) (command.Times p.0.0 r.0.0) a r.0.1 rest (
      is_command-Times p.0.0 r.0.0 ∙ and_from (is_number p.0.0 false) _ number.0 (and_from (nat_le 1 (length r.0.0)) (list_all is_simple r.0.0) y.0 (all_pass is_simple r.0.0 body.1)),
      rw (times_parts p.0.0 r.0.0 r.0.1) (cc (number.1, brace, body.2, end)),
    ) y.1

pub command_from_simple : (a : Command) → is_simple a ≡ true → is_command a ≡ true
command_from_simple = by_command_variant (λ a. is_simple a ≡ true → is_command a ≡ true)
    (λ field h. is_command-Load field ∙ sym (is_simple-Load field) ∙ h)
    (λ kernel h. is_command-Run kernel ∙ sym (is_simple-Run kernel) ∙ h)
    (λ number body h. let e = is_simple-Times number body in absurd (cc))
    (λ field h. is_command-Dump field ∙ sym (is_simple-Dump field) ∙ h)
    (λ field lo hi h. is_command-Image field lo hi ∙ sym (is_simple-Image field lo hi) ∙ h)
    (λ layout h. is_command-Stats layout ∙ sym (is_simple-Stats layout) ∙ h)
    (λ layout h. is_command-Prune layout ∙ sym (is_simple-Prune layout) ∙ h)
    (λ layout h. is_command-Clear layout ∙ sym (is_simple-Clear layout) ∙ h)
