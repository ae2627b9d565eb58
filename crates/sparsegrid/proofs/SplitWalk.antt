-- The walk of the command against the words as they are split.
use Rattle.std.proofs.Common.{◌≡◌, ◌⊎◌, inl, inr, Bool, true, false, ◌||◌, cond, List, [], ◌∷◌, Option, Some, None, refl, sym, ap, ap₂, ◌∙◌, codes, subst}
use Rattle.std.specs.Prelude.{is_some, is_none}
use Rattle.std.specs.List.{fold}
use Rattle.std.specs.Str.{bytes_eq}
use Rattle.sg_words.specs.Options.{◌>>=◌}
use Rattle.clap.specs.declared.parser.matches.ValueSource.TheVariants.{CommandLine}
use Rattle.clap.specs.Lexer.{long_of}
use Rattle.clap.specs.Walk.{Row, Text, Waiting, Walk, arg_by_long, has_row, idle, option, positional, reading_by, settled_rows, walked, with_values, without}
use Rattle.clap.specs.Faults.{settle_fault, turn_fault, walk_fault}
use Rattle.sparsegrid.specs.Words.{WordParts, WordPlace, front, workers_value, mode_value, from_value, behind_dashes, at_end, with_from, with_mode, with_workers}
use Rattle.sparsegrid.specs.steps.Splitting.{has_fault, parts_of_rows, unless}
use Rattle.sparsegrid.proofs.SplitForms.{Form, IsForm, IsPlainWord, form_of, is_form, long, named, option_named, plain, separator, short, split_from, split_front, split_value, split_word, with_word_kept}
use Rattle.sparsegrid.proofs.SplitRows.{Shows, shows_from, shows_mode, shows_positional, shows_workers}
use Rattle.sparsegrid.proofs.SplitTurns.{at, awaits_fails, awaits_next, behind_fails, behind_next, by_long, fault_if, fault_or_else, filled_option, given_fails, given_next, is_wrong, next, now_rows, plain_fails, plain_next, rests, rules, separator_fails, separator_next, shape, short_fails, turn_fails, unknown_fails, value_fails, value_next}

-- ---- a walk that ends in a refusal: a use that is refused is pending, and no option waits

pub record Wrong (w : Walk) : Type 0 where
  pub rows : List Row
  pub pending : Option (Text × List Text)
  pub waiting : Waiting
  pub trailing : Bool
  pub is : w ≡ at rows pending waiting trailing
  pub rest : (trailing || rests waiting) ≡ true
  pub wrong : is_wrong rows pending ≡ true

abbrev IsRefused : Walk → Text → Type 0
IsRefused w word = (turn_fails w word ≡ true) ⊎ Wrong (next w word)

abbrev IsOption : Text → Type 0
IsOption n = (id : Text) × (arg_by_long rules n ≡ Some (filled_option id))

option_or_none : (n : Text) → (arg_by_long rules n ≡ None) ⊎ IsOption n
option_or_none n = go (bytes_eq (codes "workers") n) (bytes_eq (codes "mode") n) (bytes_eq (codes "from") n) (by_long n)
  where
    go : (b d f : Bool)
        → arg_by_long rules n ≡ cond b (Some (filled_option (codes "workers"))) (cond d (Some (filled_option (codes "mode"))) (cond f (Some (filled_option (codes "from"))) None))
        → (arg_by_long rules n ≡ None) ⊎ IsOption n
    go true d f is = inr (codes "workers", is)
    go false true f is = inr (codes "mode", is)
    go false false true is = inr (codes "from", is)
    go false false false is = inl is

-- if a use that is refused is pending, a long option is refused
long_refused : (rows : List Row) (pending : Option (Text × List Text)) (waiting : Waiting) (word n : Text) (v : Option Text) → bytes_eq word (45 ∷ 45 ∷ []) ≡ false → long_of word ≡ Some (n, v)
    → is_wrong rows pending ≡ true → turn_fails (at rows pending waiting false) word ≡ true
long_refused rows pending waiting word n v apart is wrong = go v is (option_or_none n)
  where
    go : (v : Option Text) → long_of word ≡ Some (n, v) → ((arg_by_long rules n ≡ None) ⊎ IsOption n) → turn_fails (at rows pending waiting false) word ≡ true
    go v is (inl none) = unknown_fails rows pending waiting word apart n v is none
    go None is (inr known) = awaits_fails rows pending waiting word apart known.0 n known.1 is ∙ wrong
    go (Some x) is (inr known) = given_fails rows pending waiting word apart known.0 n known.1 x is ∙ ap (λ (b : Bool). b || has_row known.0 (now_rows pending rows)) wrong

wrong_turn : (w : Walk) → Wrong w → (word : Text) → IsRefused w word
wrong_turn w so word = subst (λ (v : Walk). IsRefused v word) (sym so.is) (go so.trailing so.rest)
  where
    by_form : rests so.waiting ≡ true → (form : Form) → IsForm word form → IsRefused (at so.rows so.pending so.waiting false) word
    by_form rest separator is = inr (record {
      rows = so.rows;
      pending = so.pending;
      waiting = so.waiting;
      trailing = true;
      is = separator_next so.rows so.pending so.waiting word is;
      rest = refl;
      wrong = so.wrong;
    })
    by_form rest (long n v) is = inl (long_refused so.rows so.pending so.waiting word n v is.0 is.1 so.wrong)
    by_form rest short is = inl (short_fails so.rows so.pending so.waiting word is.0 is.1 is.2 is.3 is.4 is.5)
    by_form rest plain is = inl (plain_fails so.rows so.pending so.waiting word is.0 is.1 rest is.2 ∙ so.wrong)

    go : (t : Bool) → (t || rests so.waiting) ≡ true → IsRefused (at so.rows so.pending so.waiting t) word
    go true rest = inl (behind_fails so.rows so.pending so.waiting word ∙ so.wrong)
    go false rest = by_form rest (form_of word) (is_form word)

-- ---- a walk that stands where the words do

-- no option waits, nothing is refused so far, and the rows show the parts
pub record Resting (trailing : Bool) (parts : WordParts) (w : Walk) : Type 0 where
  pub rows : List Row
  pub pending : Option (Text × List Text)
  pub waiting : Waiting
  pub is : w ≡ at rows pending waiting trailing
  pub rest : (trailing || rests waiting) ≡ true
  pub quiet : is_wrong rows pending ≡ false
  pub shows : Shows (now_rows pending rows) parts

-- an option waits for its value
pub record Awaiting (id : Text) (parts : WordParts) (w : Walk) : Type 0 where
  pub rows : List Row
  pub is : w ≡ at rows (Some (id, [])) (option id) false
  pub shows : Shows rows parts

abbrev pub Stands : WordPlace → WordParts → Walk → Type 0
Stands front parts w = Resting false parts w
Stands workers_value parts w = Awaiting (codes "workers") parts w
Stands mode_value parts w = Awaiting (codes "mode") parts w
Stands from_value parts w = Awaiting (codes "from") parts w
Stands behind_dashes parts w = Resting true parts w

abbrev Turned : Walk → Text → Option (WordPlace × WordParts) → Type 0
Turned w word None = IsRefused w word
Turned w word (Some at) = (turn_fails w word ≡ false) × Stands at.0 at.1 (next w word)

-- the use of an option that has no row yet is not refused
pending_wrong_workers : (rows : List Row) (v : Text) → is_wrong rows (Some (codes "workers", v ∷ [])) ≡ has_row (codes "workers") rows
pending_wrong_workers rows v = fault_if (has_row (codes "workers") rows)

pending_wrong_mode : (rows : List Row) (v : Text) → is_wrong rows (Some (codes "mode", v ∷ [])) ≡ has_row (codes "mode") rows
pending_wrong_mode rows v = fault_if (has_row (codes "mode") rows)

pending_wrong_from : (rows : List Row) (v : Text) → is_wrong rows (Some (codes "from", v ∷ [])) ≡ has_row (codes "from") rows
pending_wrong_from rows v = fault_if (has_row (codes "from") rows)

-- an option with its value, where the value counts by whether the option has come before
module _ (rows : List Row) (pending : Option (Text × List Text)) (waiting : Waiting) (parts : WordParts) (quiet : is_wrong rows pending ≡ false) (shows : Shows (now_rows pending rows) parts)
    (word : Text) (apart : bytes_eq word (45 ∷ 45 ∷ []) ≡ false) where
  given_workers : (n v : Text) → arg_by_long rules n ≡ Some (filled_option (codes "workers")) → long_of word ≡ Some (n, Some v)
      → Turned (at rows pending waiting false) word (with_workers v parts)
  given_workers n v found is = go parts.workers refl
    where
      fails : turn_fails (at rows pending waiting false) word ≡ is_some parts.workers
      fails = given_fails rows pending waiting word apart (codes "workers") n found v is ∙ ap₂ (λ (a b : Bool). a || b) quiet shows.has_workers

      go : (o : Option Text) → parts.workers ≡ o
          → Turned (at rows pending waiting false) word (cond (is_none o) (Some (front, record { workers = Some v; mode = parts.mode; from = parts.from; positionals = parts.positionals })) None)
      go None e = (
        fails ∙ ap is_some e,
        record {
          rows = with_values (codes "workers") (reading_by (filled_option (codes "workers"))) CommandLine (v ∷ []) (without (codes "workers") (now_rows pending rows));
          pending = None;
          waiting = idle;
          is = given_next rows pending waiting word apart (codes "workers") n found v is;
          rest = refl;
          quiet = refl;
          shows = shows_workers _ _ v (now_rows pending rows) parts shows (ap is_some e);
        },
      )
      go (Some x) e = inl (fails ∙ ap is_some e)

  given_mode : (n v : Text) → arg_by_long rules n ≡ Some (filled_option (codes "mode")) → long_of word ≡ Some (n, Some v)
      → Turned (at rows pending waiting false) word (with_mode v parts)
  given_mode n v found is = go parts.mode refl
    where
      fails : turn_fails (at rows pending waiting false) word ≡ is_some parts.mode
      fails = given_fails rows pending waiting word apart (codes "mode") n found v is ∙ ap₂ (λ (a b : Bool). a || b) quiet shows.has_mode

      go : (o : Option Text) → parts.mode ≡ o
          → Turned (at rows pending waiting false) word (cond (is_none o) (Some (front, record { workers = parts.workers; mode = Some v; from = parts.from; positionals = parts.positionals })) None)
      go None e = (
        fails ∙ ap is_some e,
        record {
          rows = with_values (codes "mode") (reading_by (filled_option (codes "mode"))) CommandLine (v ∷ []) (without (codes "mode") (now_rows pending rows));
          pending = None;
          waiting = idle;
          is = given_next rows pending waiting word apart (codes "mode") n found v is;
          rest = refl;
          quiet = refl;
          shows = shows_mode _ _ v (now_rows pending rows) parts shows (ap is_some e);
        },
      )
      go (Some x) e = inl (fails ∙ ap is_some e)

  given_from : (n v : Text) → arg_by_long rules n ≡ Some (filled_option (codes "from")) → long_of word ≡ Some (n, Some v)
      → Turned (at rows pending waiting false) word (with_from v parts)
  given_from n v found is = go parts.from refl
    where
      fails : turn_fails (at rows pending waiting false) word ≡ is_some parts.from
      fails = given_fails rows pending waiting word apart (codes "from") n found v is ∙ ap₂ (λ (a b : Bool). a || b) quiet shows.has_from

      go : (o : Option Text) → parts.from ≡ o
          → Turned (at rows pending waiting false) word (cond (is_none o) (Some (front, record { workers = parts.workers; mode = parts.mode; from = Some v; positionals = parts.positionals })) None)
      go None e = (
        fails ∙ ap is_some e,
        record {
          rows = with_values (codes "from") (reading_by (filled_option (codes "from"))) CommandLine (v ∷ []) (without (codes "from") (now_rows pending rows));
          pending = None;
          waiting = idle;
          is = given_next rows pending waiting word apart (codes "from") n found v is;
          rest = refl;
          quiet = refl;
          shows = shows_from _ _ v (now_rows pending rows) parts shows (ap is_some e);
        },
      )
      go (Some x) e = inl (fails ∙ ap is_some e)

  named_workers : (n : Text) (v : Option Text) → arg_by_long rules n ≡ Some (filled_option (codes "workers")) → long_of word ≡ Some (n, v)
      → Turned (at rows pending waiting false) word (option_named workers_value (λ v. with_workers v parts) v parts)
  named_workers n None found is = (
    awaits_fails rows pending waiting word apart (codes "workers") n found is ∙ quiet,
    record {
      rows = now_rows pending rows;
      is = awaits_next rows pending waiting word apart (codes "workers") n found is;
      shows = shows;
    },
  )
  named_workers n (Some v) found is = given_workers n v found is

  named_mode : (n : Text) (v : Option Text) → arg_by_long rules n ≡ Some (filled_option (codes "mode")) → long_of word ≡ Some (n, v)
      → Turned (at rows pending waiting false) word (option_named mode_value (λ v. with_mode v parts) v parts)
  named_mode n None found is = (
    awaits_fails rows pending waiting word apart (codes "mode") n found is ∙ quiet,
    record {
      rows = now_rows pending rows;
      is = awaits_next rows pending waiting word apart (codes "mode") n found is;
      shows = shows;
    },
  )
  named_mode n (Some v) found is = given_mode n v found is

  named_from : (n : Text) (v : Option Text) → arg_by_long rules n ≡ Some (filled_option (codes "from")) → long_of word ≡ Some (n, v)
      → Turned (at rows pending waiting false) word (option_named from_value (λ v. with_from v parts) v parts)
  named_from n None found is = (
    awaits_fails rows pending waiting word apart (codes "from") n found is ∙ quiet,
    record {
      rows = now_rows pending rows;
      is = awaits_next rows pending waiting word apart (codes "from") n found is;
      shows = shows;
    },
  )
  named_from n (Some v) found is = given_from n v found is

  named_turn : (n : Text) (v : Option Text) → long_of word ≡ Some (n, v) → Turned (at rows pending waiting false) word (named n v parts)
  named_turn n v is = go (bytes_eq (codes "workers") n) (bytes_eq (codes "mode") n) (bytes_eq (codes "from") n) (by_long n)
    where
      go : (b d f : Bool)
          → arg_by_long rules n ≡ cond b (Some (filled_option (codes "workers"))) (cond d (Some (filled_option (codes "mode"))) (cond f (Some (filled_option (codes "from"))) None))
          → Turned (at rows pending waiting false) word
          (cond b (option_named workers_value (λ v. with_workers v parts) v parts)
          (cond d (option_named mode_value (λ v. with_mode v parts) v parts)
          (cond f (option_named from_value (λ v. with_from v parts) v parts) None)))
      go true d f found = named_workers n v found is
      go false true f found = named_mode n v found is
      go false false true found = named_from n v found is
      go false false false found = inl (unknown_fails rows pending waiting word apart n v is found)

front_turn : (parts : WordParts) (w : Walk) → Resting false parts w → (word : Text) → Turned w word (split_front (form_of word) word parts)
front_turn parts w so word = subst (λ (v : Walk). Turned v word (split_front (form_of word) word parts)) (sym so.is) (by_form (form_of word) (is_form word))
  where
    by_form : (form : Form) → IsForm word form → Turned (at so.rows so.pending so.waiting false) word (split_front form word parts)
    by_form separator is = (
      separator_fails so.rows so.pending so.waiting word is,
      record {
        rows = so.rows;
        pending = so.pending;
        waiting = so.waiting;
        is = separator_next so.rows so.pending so.waiting word is;
        rest = refl;
        quiet = so.quiet;
        shows = so.shows;
      },
    )
    by_form (long n v) is = named_turn so.rows so.pending so.waiting parts so.quiet so.shows word is.0 n v is.1
    by_form short is = inl (short_fails so.rows so.pending so.waiting word is.0 is.1 is.2 is.3 is.4 is.5)
    by_form plain is = (
      plain_fails so.rows so.pending so.waiting word is.0 is.1 so.rest is.2 ∙ so.quiet,
      record {
        rows = now_rows so.pending so.rows;
        pending = Some (codes "positionals", word ∷ []);
        waiting = positional;
        is = plain_next so.rows so.pending so.waiting word is.0 is.1 so.rest is.2;
        rest = refl;
        quiet = refl;
        shows = shows_positional _ _ word (now_rows so.pending so.rows) parts so.shows;
      },
    )

behind_turn : (parts : WordParts) (w : Walk) → Resting true parts w → (word : Text) → Turned w word (Some (with_word_kept behind_dashes word parts))
behind_turn parts w so word = subst (λ (v : Walk). Turned v word (Some (with_word_kept behind_dashes word parts))) (sym so.is) (
  behind_fails so.rows so.pending so.waiting word ∙ so.quiet,
  record {
    rows = now_rows so.pending so.rows;
    pending = Some (codes "positionals", word ∷ []);
    waiting = positional;
    is = behind_next so.rows so.pending so.waiting word;
    rest = refl;
    quiet = refl;
    shows = shows_positional _ _ word (now_rows so.pending so.rows) parts so.shows;
  },
)

-- an option that waits, and a word that is no value
module _ (id : Text) (rows : List Row) (unmet : is_wrong rows (Some (id, [])) ≡ true) (word : Text) where
  stays_unmet : bytes_eq word (45 ∷ 45 ∷ []) ≡ true → IsRefused (at rows (Some (id, [])) (option id) false) word
  stays_unmet is = inr (record {
    rows = rows;
    pending = Some (id, []);
    waiting = option id;
    trailing = true;
    is = separator_next rows (Some (id, [])) (option id) word is;
    rest = refl;
    wrong = unmet;
  })

workers_turn : (parts : WordParts) (w : Walk) → Awaiting (codes "workers") parts w → (word : Text) → Turned w word (split_value (form_of word) (with_workers word parts))
workers_turn parts w so word = subst (λ (v : Walk). Turned v word (split_value (form_of word) (with_workers word parts))) (sym so.is) (by_form (form_of word) (is_form word))
  where
    by_option : bytes_eq word (45 ∷ 45 ∷ []) ≡ false → long_of word ≡ None → IsPlainWord word → (o : Option Text) → parts.workers ≡ o
        → Turned (at so.rows (Some (codes "workers", [])) (option (codes "workers")) false) word
        (cond (is_none o) (Some (front, record { workers = Some word; mode = parts.mode; from = parts.from; positionals = parts.positionals })) None)
    by_option apart none is None e = (
      value_fails so.rows (codes "workers") word refl refl apart none is,
      record {
        rows = so.rows;
        pending = Some (codes "workers", word ∷ []);
        waiting = idle;
        is = value_next so.rows (codes "workers") word refl refl apart none is;
        rest = refl;
        quiet = pending_wrong_workers so.rows word ∙ so.shows.has_workers ∙ ap is_some e;
        shows = shows_workers _ _ word so.rows parts so.shows (ap is_some e);
      },
    )
    by_option apart none is (Some x) e = inr (record {
      rows = so.rows;
      pending = Some (codes "workers", word ∷ []);
      waiting = idle;
      trailing = false;
      is = value_next so.rows (codes "workers") word refl refl apart none is;
      rest = refl;
      wrong = pending_wrong_workers so.rows word ∙ so.shows.has_workers ∙ ap is_some e;
    })

    by_form : (form : Form) → IsForm word form → Turned (at so.rows (Some (codes "workers", [])) (option (codes "workers")) false) word (split_value form (with_workers word parts))
    by_form separator is = stays_unmet (codes "workers") so.rows refl word is
    by_form (long n v) is = inl (long_refused so.rows (Some (codes "workers", [])) (option (codes "workers")) word n v is.0 is.1 refl)
    by_form short is = inl (short_fails so.rows (Some (codes "workers", [])) (option (codes "workers")) word is.0 is.1 is.2 is.3 is.4 is.5)
    by_form plain is = by_option is.0 is.1 is.2 parts.workers refl

mode_turn : (parts : WordParts) (w : Walk) → Awaiting (codes "mode") parts w → (word : Text) → Turned w word (split_value (form_of word) (with_mode word parts))
mode_turn parts w so word = subst (λ (v : Walk). Turned v word (split_value (form_of word) (with_mode word parts))) (sym so.is) (by_form (form_of word) (is_form word))
  where
    by_option : bytes_eq word (45 ∷ 45 ∷ []) ≡ false → long_of word ≡ None → IsPlainWord word → (o : Option Text) → parts.mode ≡ o
        → Turned (at so.rows (Some (codes "mode", [])) (option (codes "mode")) false) word
        (cond (is_none o) (Some (front, record { workers = parts.workers; mode = Some word; from = parts.from; positionals = parts.positionals })) None)
    by_option apart none is None e = (
      value_fails so.rows (codes "mode") word refl refl apart none is,
      record {
        rows = so.rows;
        pending = Some (codes "mode", word ∷ []);
        waiting = idle;
        is = value_next so.rows (codes "mode") word refl refl apart none is;
        rest = refl;
        quiet = pending_wrong_mode so.rows word ∙ so.shows.has_mode ∙ ap is_some e;
        shows = shows_mode _ _ word so.rows parts so.shows (ap is_some e);
      },
    )
    by_option apart none is (Some x) e = inr (record {
      rows = so.rows;
      pending = Some (codes "mode", word ∷ []);
      waiting = idle;
      trailing = false;
      is = value_next so.rows (codes "mode") word refl refl apart none is;
      rest = refl;
      wrong = pending_wrong_mode so.rows word ∙ so.shows.has_mode ∙ ap is_some e;
    })

    by_form : (form : Form) → IsForm word form → Turned (at so.rows (Some (codes "mode", [])) (option (codes "mode")) false) word (split_value form (with_mode word parts))
    by_form separator is = stays_unmet (codes "mode") so.rows refl word is
    by_form (long n v) is = inl (long_refused so.rows (Some (codes "mode", [])) (option (codes "mode")) word n v is.0 is.1 refl)
    by_form short is = inl (short_fails so.rows (Some (codes "mode", [])) (option (codes "mode")) word is.0 is.1 is.2 is.3 is.4 is.5)
    by_form plain is = by_option is.0 is.1 is.2 parts.mode refl

from_turn : (parts : WordParts) (w : Walk) → Awaiting (codes "from") parts w → (word : Text) → Turned w word (split_value (form_of word) (with_from word parts))
from_turn parts w so word = subst (λ (v : Walk). Turned v word (split_value (form_of word) (with_from word parts))) (sym so.is) (by_form (form_of word) (is_form word))
  where
    by_option : bytes_eq word (45 ∷ 45 ∷ []) ≡ false → long_of word ≡ None → IsPlainWord word → (o : Option Text) → parts.from ≡ o
        → Turned (at so.rows (Some (codes "from", [])) (option (codes "from")) false) word
        (cond (is_none o) (Some (front, record { workers = parts.workers; mode = parts.mode; from = Some word; positionals = parts.positionals })) None)
    by_option apart none is None e = (
      value_fails so.rows (codes "from") word refl refl apart none is,
      record {
        rows = so.rows;
        pending = Some (codes "from", word ∷ []);
        waiting = idle;
        is = value_next so.rows (codes "from") word refl refl apart none is;
        rest = refl;
        quiet = pending_wrong_from so.rows word ∙ so.shows.has_from ∙ ap is_some e;
        shows = shows_from _ _ word so.rows parts so.shows (ap is_some e);
      },
    )
    by_option apart none is (Some x) e = inr (record {
      rows = so.rows;
      pending = Some (codes "from", word ∷ []);
      waiting = idle;
      trailing = false;
      is = value_next so.rows (codes "from") word refl refl apart none is;
      rest = refl;
      wrong = pending_wrong_from so.rows word ∙ so.shows.has_from ∙ ap is_some e;
    })

    by_form : (form : Form) → IsForm word form → Turned (at so.rows (Some (codes "from", [])) (option (codes "from")) false) word (split_value form (with_from word parts))
    by_form separator is = stays_unmet (codes "from") so.rows refl word is
    by_form (long n v) is = inl (long_refused so.rows (Some (codes "from", [])) (option (codes "from")) word n v is.0 is.1 refl)
    by_form short is = inl (short_fails so.rows (Some (codes "from", [])) (option (codes "from")) word is.0 is.1 is.2 is.3 is.4 is.5)
    by_form plain is = by_option is.0 is.1 is.2 parts.from refl

turn : (place : WordPlace) (parts : WordParts) (w : Walk) → Stands place parts w → (word : Text) → Turned w word (split_word place (form_of word) word parts)
turn front parts w so word = front_turn parts w so word
turn workers_value parts w so word = workers_turn parts w so word
turn mode_value parts w so word = mode_turn parts w so word
turn from_value parts w so word = from_turn parts w so word
turn behind_dashes parts w so word = behind_turn parts w so word

-- ---- all words

-- the words are refused, from where a walk stands
abbrev pub fails : Walk → List Text → Bool
fails w words = has_fault (walk_fault shape [] w words) || has_fault (settle_fault rules false (fold (walked rules []) w words).held)

-- the rows at the end
abbrev pub last_rows : Walk → List Text → List Row
last_rows w words = settled_rows rules (fold (walked rules []) w words).held.pending (fold (walked rules []) w words).held.rows

or_more : (a b c : Bool) → ((a || b) || c) ≡ (a || (b || c))
or_more true b c = refl
or_more false b c = refl

fails_more : (w : Walk) (word : Text) (words : List Text) → fails w (word ∷ words) ≡ (turn_fails w word || fails (next w word) words)
unfolding walk_fault
fails_more w word words =
    ap (λ (b : Bool). b || has_fault (settle_fault rules false (fold (walked rules []) (next w word) words).held)) (fault_or_else (turn_fault shape [] w word) (walk_fault shape [] (next w word) words))
    ∙ or_more (turn_fails w word) _ _

pub or_true : (a : Bool) → (a || true) ≡ true
or_true true = refl
or_true false = refl

all_refused : (words : List Text) (w : Walk) → Wrong w → fails w words ≡ true
unfolding walk_fault
all_refused [] w so = ap (λ (v : Walk). has_fault (settle_fault rules false v.held)) so.is ∙ so.wrong
all_refused (word ∷ words) w so = fails_more w word words ∙ go (wrong_turn w so word) (all_refused words (next w word))
  where
    go : IsRefused w word → (Wrong (next w word) → fails (next w word) words ≡ true) → (turn_fails w word || fails (next w word) words) ≡ true
    go (inl now) later = ap (λ (b : Bool). b || fails (next w word) words) now
    go (inr stays) later = ap (λ (b : Bool). turn_fails w word || b) (later stays) ∙ or_true (turn_fails w word)

abbrev pub found_from : Walk → List Text → Option WordParts
found_from w words = unless (fails w words) (parts_of_rows (last_rows w words))

refused_none : (w : Walk) (words : List Text) → fails w words ≡ true → found_from w words ≡ None
refused_none w words e = ap (λ (b : Bool). unless b (parts_of_rows (last_rows w words))) e

same_end : (place : WordPlace) (parts : WordParts) (w : Walk) → Stands place parts w → found_from w [] ≡ at_end place parts
unfolding walk_fault
same_end front parts w so = ap (λ (v : Walk). found_from v []) so.is ∙ ap₂ unless so.quiet so.shows.parts_are
same_end workers_value parts w so = ap (λ (v : Walk). found_from v []) so.is
same_end mode_value parts w so = ap (λ (v : Walk). found_from v []) so.is
same_end from_value parts w so = ap (λ (v : Walk). found_from v []) so.is
same_end behind_dashes parts w so = ap (λ (v : Walk). found_from v []) so.is ∙ ap₂ unless so.quiet so.shows.parts_are

-- the walk finds the parts of the words as they are split
pub same_split : (words : List Text) (place : WordPlace) (parts : WordParts) (w : Walk) → Stands place parts w → found_from w words ≡ split_from place parts words
unfolding split_from
same_split [] place parts w so = same_end place parts w so
same_split (word ∷ words) place parts w so = go (split_word place (form_of word) word parts) (turn place parts w so word) (λ at later. same_split words at.0 at.1 (next w word) later)
  where
    go : (o : Option (WordPlace × WordParts)) → Turned w word o → ((at : WordPlace × WordParts) → Stands at.0 at.1 (next w word) → found_from (next w word) words ≡ split_from at.0 at.1 words)
        → found_from w (word ∷ words) ≡ (o >>= (λ at. split_from at.0 at.1 words))
    go None (inl now) later = refused_none w (word ∷ words) (fails_more w word words ∙ ap (λ (b : Bool). b || fails (next w word) words) now)
    go None (inr stays) later =
        refused_none w (word ∷ words) (fails_more w word words ∙ ap (λ (b : Bool). turn_fails w word || b) (all_refused words (next w word) stays) ∙ or_true (turn_fails w word))
    go (Some at) turned later =
        ap (λ (b : Bool). unless b (parts_of_rows (last_rows w (word ∷ words)))) (fails_more w word words ∙ ap (λ (b : Bool). b || fails (next w word) words) turned.0)
        ∙ later at turned.1
