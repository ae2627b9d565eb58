-- What is read as an item is one, and the tokens that were taken are its tokens.
use Rattle.std.specs.Prelude.{◌≡◌, refl, ℕ, Bool, true, false, List, [], ◌∷◌, ◌++◌, Option, Some, None}
use Rattle.std.proofs.Common.{sym, ◌∙◌, ap}
use Rattle.std.proofs.lemmas.Bool.{and_from}
use Rattle.sg_ast.specs.declared.token.Name.{Name}
use Rattle.sg_ast.specs.declared.token.Word.{Word}
use Rattle.sg_ast.specs.declared.token.Word.TheVariants as w
use Rattle.sg_ast.specs.declared.token.Sign.TheVariants as s
use Rattle.sg_ast.specs.declared.token.Token.{Token}
use Rattle.sg_ast.specs.declared.token.Token.TheVariants as t
use Rattle.sg_ast.specs.declared.command.Command.{Command}
use Rattle.sg_ast.specs.declared.program.Item.{Item}
use Rattle.sg_ast.specs.declared.program.Item.TheVariants as item
use Rattle.sg_ast.specs.Token.{is_name, is_number}
use Rattle.sg_ast.specs.Program.{item_tokens}
use Rattle.sg_ast.specs.Grammar.{is_item}
use Rattle.sg_parser.specs.Front.{after_sign, next_name}
use Rattle.sg_words.specs.Options.{◌>>=◌}
use Rattle.sg_parser.specs.ReadItem.{next_number, ending, read_const_value, value_on, read_const, word_simple, read_times, command_item, word_item, read_item}
use Rattle.sg_parser.proofs.StepLemmas.{bind_some, after_sign_is, next_name_is}
use Rattle.sg_parser.proofs.ListLemmas.{IsSoundReader}
use Rattle.sg_parser.proofs.StmtSound.{made_is}
use Rattle.sg_parser.proofs.ItemParts.{IsGood, minus_front, const_parts, number_sound, ending_sound}
use Rattle.sg_parser.proofs.LayoutSound.{layout_sound}
use Rattle.sg_parser.proofs.KernelSound.{kernel_sound}
use Rattle.sg_parser.proofs.CommandSound.{simple_worded_sound, times_sound, command_from_simple}

-- constants
value_sound : (name : Name) (minus : Bool) (tokens : List Token) (a : Item) (rest : List Token) → is_name name ≡ true → read_const_value name minus tokens ≡ Some (a, rest)
    → (is_item a ≡ true) × (t.Word w.Const ∷ t.Name name ∷ t.Sign s.Equal ∷ minus_front minus tokens ≡ item_tokens a ++ rest)
value_sound name minus tokens a rest read_name_expr h =
    let p = bind_some (next_number tokens) (λ (number : (ℕ × Bool) × List Token). ending (item.Const (record { name = name; minus = minus; value = number.0.0; unsigned = number.0.1 })) number.1) (a, rest) h in
    let number = number_sound tokens p.0.1 p.0.0 p.1 in
    let end = ending_sound (item.Const (record { name = name; minus = minus; value = p.0.0.0; unsigned = p.0.0.1 })) a p.0.1 rest p.2 in
    rw (← end.0) (
      and_from (is_name name) (is_number p.0.0.0 p.0.0.1) read_name_expr number.0,
      ap (λ k. t.Word w.Const ∷ t.Name name ∷ t.Sign s.Equal ∷ minus_front minus k) (number.1 ∙ ap (λ k. t.Number p.0.0.0 p.0.0.1 ∷ k) end.1) ∙ sym (const_parts name minus p.0.0.0 p.0.0.1 rest),
    )

const_sound : (tokens : List Token) (a : Item) (rest : List Token) → read_const tokens ≡ Some (a, rest) → (is_item a ≡ true) × (t.Word w.Const ∷ tokens ≡ item_tokens a ++ rest)
unfolding read_const
const_sound tokens a rest h =
    let p = bind_some (next_name tokens) (λ (name : Name × List Token). after_sign s.Equal name.1 >>= λ equal. value_on name.0 equal (after_sign s.Minus equal)) (a, rest) h in
    let q = bind_some (after_sign s.Equal p.0.1) (λ equal. value_on p.0.0 equal (after_sign s.Minus equal)) (a, rest) p.2 in
    let name = next_name_is tokens p.0.1 p.0.0 p.1 in
    let equal = after_sign_is s.Equal p.0.1 q.0 q.1 in
    go p.0.0 q.0 name.1 (name.0 ∙ ap (λ r. t.Name p.0.0 ∷ r) equal) (after_sign s.Minus q.0) refl q.2 where
      go : (name : Name) (behind : List Token) → is_name name ≡ true → tokens ≡ t.Name name ∷ t.Sign s.Equal ∷ behind → (after : Option (List Token)) → after_sign s.Minus behind ≡ after → value_on name behind after ≡ Some (a, rest)
          → (is_item a ≡ true) × (t.Word w.Const ∷ tokens ≡ item_tokens a ++ rest)
      go name behind read_name_expr is None minus h = let v = value_sound name false behind a rest read_name_expr h in (v.0, ap (λ r. t.Word w.Const ∷ r) is ∙ v.1)
      go name behind read_name_expr is (Some after) minus h =
          let v = value_sound name true after a rest read_name_expr h in
          (v.0, ap (λ r. t.Word w.Const ∷ r) (is ∙ ap (λ r. t.Name name ∷ t.Sign s.Equal ∷ r) (after_sign_is s.Minus behind after minus)) ∙ v.1)

-- an item and its tokens
abbrev IsItemRead : List Token → Item → List Token → Type 0
IsItemRead tokens a rest = (is_item a ≡ true) × (tokens ≡ item_tokens a ++ rest)

times_item : (tokens : List Token) (a : Item) (rest : List Token) → command_item (read_times tokens) ≡ Some (a, rest) → IsItemRead (t.Word w.Times ∷ tokens) a rest
times_item tokens a rest h =
    let p = bind_some (read_times tokens) (λ (given : Command × List Token). Some (item.Command given.0, given.1)) (a, rest) h in
    let read = times_sound tokens p.0.0 p.0.1 p.1 in
    made_is (λ (a : Item) (rest : List Token). IsItemRead (t.Word w.Times ∷ tokens) a rest) (item.Command p.0.0) a p.0.1 rest (read.0, read.1) p.2

simple_item : (word : Word) (tokens : List Token) (a : Item) (rest : List Token) → command_item (word_simple word tokens) ≡ Some (a, rest) → IsItemRead (t.Word word ∷ tokens) a rest
simple_item word tokens a rest h =
    let p = bind_some (word_simple word tokens) (λ (given : Command × List Token). Some (item.Command given.0, given.1)) (a, rest) h in
    let read = simple_worded_sound word tokens p.0.0 p.0.1 p.1 in
    made_is (λ (a : Item) (rest : List Token). IsItemRead (t.Word word ∷ tokens) a rest) (item.Command p.0.0) a p.0.1 rest (command_from_simple p.0.0 read.0, read.1) p.2

item_worded_sound : (word : Word) (tokens : List Token) (a : Item) (rest : List Token) → word_item word tokens ≡ Some (a, rest) → IsItemRead (t.Word word ∷ tokens) a rest
item_worded_sound w.Const tokens a rest h = const_sound tokens a rest h
item_worded_sound w.Layout tokens a rest h = layout_sound tokens a rest h
item_worded_sound w.Kernel tokens a rest h = kernel_sound tokens a rest h
item_worded_sound w.Times tokens a rest h = times_item tokens a rest h
item_worded_sound word tokens a rest h = simple_item word tokens a rest h

pub item_sound : IsSoundReader item_tokens (IsGood is_item) read_item
unfolding read_item
item_sound [] a rest h = absurd (cc)
item_sound (t.Word word ∷ tokens) a rest h = item_worded_sound word tokens a rest h
item_sound (_ ∷ tokens) a rest h = absurd (cc)
