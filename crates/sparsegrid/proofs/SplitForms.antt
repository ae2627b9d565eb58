-- What a word looks like to the command, and how the words would be split without a look at what may not begin with `-`.
use Rattle.std.proofs.Common.{◌≡◌, ◌⊎◌, inl, inr, ℕ, Bool, true, false, cond, List, [], ◌∷◌, ◌++◌, Option, Some, None, refl, codes}
use Rattle.std.specs.Prelude.{slice_get, if◌then◌else◌}
use Rattle.std.specs.Str.{bytes_eq, chars}
use Rattle.sg_words.specs.Options.{◌>>=◌}
use Rattle.clap.specs.Lexer.{long_of, short_of}
use Rattle.clap.specs.Walk.{Text}
use Rattle.sparsegrid.specs.Words.{WordParts, WordPlace, front, workers_value, mode_value, from_value, behind_dashes, at_end, with_from, with_mode, with_workers}

-- `--`, a long option with its value, a short option, or none of these
pub data Form : Type 0 where
  separator : Form
  long : Text → Option Text → Form
  short : Form
  plain : Form

abbrev pub first_form : Option ℕ → Form
first_form None = plain
first_form (Some x) = short

abbrev pub short_form : Option Text → Form
short_form None = plain
short_form (Some flags) = first_form (slice_get (chars flags) 0)

abbrev pub flag_form : Option (Text × Option Text) → Text → Form
flag_form (Some p) word = long p.0 p.1
flag_form None word = short_form (short_of word)

abbrev pub form_of : Text → Form
form_of word = if bytes_eq word (45 ∷ 45 ∷ []) then separator else flag_form (long_of word) word

abbrev pub IsPlainWord : Text → Type 0
IsPlainWord word = (short_of word ≡ None) ⊎ ((flags : Text) × (short_of word ≡ Some flags) × (slice_get (chars flags) 0 ≡ None))

abbrev pub IsForm : Text → Form → Type 0
IsForm word separator = bytes_eq word (45 ∷ 45 ∷ []) ≡ true
IsForm word (long n v) = (bytes_eq word (45 ∷ 45 ∷ []) ≡ false) × (long_of word ≡ Some (n, v))
IsForm word short = (bytes_eq word (45 ∷ 45 ∷ []) ≡ false) × (long_of word ≡ None) × (flags : Text) × (x : ℕ) × (short_of word ≡ Some flags) × (slice_get (chars flags) 0 ≡ Some x)
IsForm word plain = (bytes_eq word (45 ∷ 45 ∷ []) ≡ false) × (long_of word ≡ None) × IsPlainWord word

pub is_form : (word : Text) → IsForm word (form_of word)
is_form word = by_equal (bytes_eq word (45 ∷ 45 ∷ [])) refl
  where
    by_first : bytes_eq word (45 ∷ 45 ∷ []) ≡ false → long_of word ≡ None → (flags : Text) → short_of word ≡ Some flags → (o : Option ℕ) → slice_get (chars flags) 0 ≡ o → IsForm word (first_form o)
    by_first apart none flags is None first = (apart, none, inr (flags, is, first))
    by_first apart none flags is (Some x) first = (apart, none, flags, x, is, first)

    by_short : bytes_eq word (45 ∷ 45 ∷ []) ≡ false → long_of word ≡ None → (o : Option Text) → short_of word ≡ o → IsForm word (short_form o)
    by_short apart none None is = (apart, none, inl is)
    by_short apart none (Some flags) is = by_first apart none flags is (slice_get (chars flags) 0) refl

    by_long : bytes_eq word (45 ∷ 45 ∷ []) ≡ false → (o : Option (Text × Option Text)) → long_of word ≡ o → IsForm word (flag_form o word)
    by_long apart None is = by_short apart is (short_of word) refl
    by_long apart (Some p) is = (apart, is)

    by_equal : (b : Bool) → bytes_eq word (45 ∷ 45 ∷ []) ≡ b → IsForm word (cond b separator (flag_form (long_of word) word))
    by_equal true is = is
    by_equal false is = by_long is (long_of word) refl

abbrev pub with_word_kept : WordPlace → Text → WordParts → WordPlace × WordParts
with_word_kept next word parts = (next, record { workers = parts.workers; mode = parts.mode; from = parts.from; positionals = parts.positionals ++ word ∷ [] })

abbrev pub option_named : WordPlace → (Text → Option (WordPlace × WordParts)) → Option Text → WordParts → Option (WordPlace × WordParts)
option_named awaiting given None parts = Some (awaiting, parts)
option_named awaiting given (Some v) parts = given v

-- an option by its name, with the value that the word carries
abbrev pub named : Text → Option Text → WordParts → Option (WordPlace × WordParts)
named n v parts =
    if bytes_eq (codes "workers") n then option_named workers_value (λ v. with_workers v parts) v parts
    else (if bytes_eq (codes "mode") n then option_named mode_value (λ v. with_mode v parts) v parts
    else (if bytes_eq (codes "from") n then option_named from_value (λ v. with_from v parts) v parts else None))

abbrev pub split_front : Form → Text → WordParts → Option (WordPlace × WordParts)
split_front separator word parts = Some (behind_dashes, parts)
split_front (long n v) word parts = named n v parts
split_front short word parts = None
split_front plain word parts = Some (with_word_kept front word parts)

abbrev pub split_value : Form → Option (WordPlace × WordParts) → Option (WordPlace × WordParts)
split_value plain given = given
split_value _ given = None

-- a word where it stands
abbrev pub split_word : WordPlace → Form → Text → WordParts → Option (WordPlace × WordParts)
split_word front form word parts = split_front form word parts
split_word workers_value form word parts = split_value form (with_workers word parts)
split_word mode_value form word parts = split_value form (with_mode word parts)
split_word from_value form word parts = split_value form (with_from word parts)
split_word behind_dashes form word parts = Some (with_word_kept behind_dashes word parts)

unfoldable pub split_from : WordPlace → WordParts → List Text → Option WordParts
split_from at parts [] = at_end at parts
split_from at parts (word ∷ words) = split_word at (form_of word) word parts >>= (λ next. split_from next.0 next.1 words)
