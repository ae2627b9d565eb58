-- What one more word does to the walk of the command that is built.
use Rattle.std.proofs.Common.{◌≡◌, inl, inr, ℕ, Bool, true, false, ◌&&◌, ◌||◌, cond, List, [], ◌∷◌, Option, Some, None, refl, ap, codes}
use Rattle.std.specs.Prelude.{slice_get}
use Rattle.std.specs.Str.{bytes_eq, chars}
use Rattle.clap.specs.declared.builder.action.ArgAction.TheVariants.{Set, Append}
use Rattle.clap.specs.declared.builder.value_parser.ValueParser.TheVariants as vp
use Rattle.clap.specs.declared.parser.matches.ValueSource.TheVariants.{CommandLine}
use Rattle.clap.specs.declared.error.kind.ErrorKind.TheVariants as kind
use Rattle.clap.specs.Lexer.{long_of, short_of}
use Rattle.clap.specs.Kinds.{Kinds, or_else}
use Rattle.clap.specs.Walk.{Held, Row, Rule, Text, Waiting, Walk, arg_by_id, arg_by_long, has_row, idle, option, positional, plain_word, reading_by, settled_rows, subcommand_met, walked, with_values, without, bundle_met, value}
use Rattle.clap.specs.Simple.{Shape, built}
use Rattle.clap.specs.Faults.{flags_fault, settle_fault, turn_fault}
use Rattle.sparsegrid.specs.steps.Splitting.{has_fault, words_command}
use Rattle.sparsegrid.proofs.SplitForms.{IsPlainWord}

-- the arguments as they are built
abbrev pub filled_option : Text → Rule
filled_option name = record {
  id = name;
  long = Some name;
  aliases = [];
  short = None;
  short_aliases = [];
  index = None;
  action = Some Set;
  range = Some (record { start_inclusive = 1; end_inclusive = 1 });
  value_names = 0;
  defaults = [];
  missing = [];
  trailing_var_arg = false;
  parser = Some vp.String;
  ignore_case = false;
  required = false;
  is_simple = true;
  is_free = true;
}

abbrev pub filled_positionals : Rule
filled_positionals = record (filled_option (codes "positionals")) { long = None; index = Some 1; action = Some Append }

abbrev pub rules : List Rule
rules = filled_option (codes "workers") ∷ filled_option (codes "mode") ∷ filled_option (codes "from") ∷ filled_positionals ∷ []

abbrev pub shape : Shape
shape = record {
  name = codes "sparsegrid";
  aliases = [];
  rules = rules;
  is_plain = true;
  is_leaf = true;
  no_binary_name = true;
  disable_help_flag = true;
  disable_help_subcommand = true;
  disable_version_flag = false;
  propagate_version = false;
  has_version = false;
  has_long_version = false;
  args_override_self = false;
  arg_required_else_help = false;
  subcommand_required = false;
  subcommand_negates_reqs = false;
  is_built = true;
}

pub built_is : built words_command ≡ record { top = shape; subs = [] }
built_is = refl

-- ---- tests

pub or_no : (b : Bool) → (b || false) ≡ b
or_no true = refl
or_no false = refl

pub and_no : (b : Bool) → (b && false) ≡ false
and_no true = refl
and_no false = refl

pub fault_or_else : (a b : Kinds) → has_fault (or_else a b) ≡ (has_fault a || has_fault b)
fault_or_else [] b = refl
fault_or_else (k ∷ ks) b = refl

-- ---- where a walk stands

abbrev pub held : List Row → Option (Text × List Text) → Held
held rows pending = record { rows = rows; pending = pending; skip = 0 }

abbrev pub at : List Row → Option (Text × List Text) → Waiting → Bool → Walk
at rows pending waiting is_trailing = record { held = held rows pending; waiting = waiting; position = 1; is_trailing = is_trailing; stopped = None }

-- the use that is pending is refused
abbrev pub is_wrong : List Row → Option (Text × List Text) → Bool
is_wrong rows pending = has_fault (settle_fault rules false (held rows pending))

abbrev pub now_rows : Option (Text × List Text) → List Row → List Row
now_rows pending rows = settled_rows rules pending rows

abbrev pub turn_fails : Walk → Text → Bool
turn_fails w word = has_fault (turn_fault shape [] w word)

abbrev pub next : Walk → Text → Walk
next w word = walked rules [] w word

no_sub : (waiting : Waiting) (word : Text) → subcommand_met [] waiting word ≡ None
no_sub idle word = refl
no_sub (option id) word = refl
no_sub positional word = refl

-- no option waits for a value
abbrev pub rests : Waiting → Bool
rests idle = true
rests (option id) = false
rests positional = true

-- ---- words after `--`

module _ (rows : List Row) (pending : Option (Text × List Text)) (waiting : Waiting) (word : Text) where
  pub behind_fails : turn_fails (at rows pending waiting true) word ≡ is_wrong rows pending
  behind_fails = rw and_no refl

  pub behind_next : next (at rows pending waiting true) word ≡ at (now_rows pending rows) (Some (codes "positionals", word ∷ [])) positional true
  unfolding walked
  behind_next = rw and_no refl

  -- `--` itself
  pub separator_fails : bytes_eq word (45 ∷ 45 ∷ []) ≡ true → turn_fails (at rows pending waiting false) word ≡ false
  separator_fails same = rw (no_sub, same) refl

  pub separator_next : bytes_eq word (45 ∷ 45 ∷ []) ≡ true → next (at rows pending waiting false) word ≡ at rows pending waiting true
  unfolding walked
  separator_next same = rw (no_sub, same) refl

-- ---- words before `--`

pub nothing_more : (a : Kinds) → or_else a [] ≡ a
nothing_more [] = refl
nothing_more (k ∷ ks) = refl

pub fault_if : (b : Bool) → has_fault (or_else (cond (b && true) (kind.ArgumentConflict ∷ []) []) []) ≡ b
fault_if true = refl
fault_if false = refl

abbrev pub rule_named : Text → Option Rule
rule_named n =
    cond (bytes_eq (codes "workers") n) (Some (filled_option (codes "workers")))
    (cond (bytes_eq (codes "mode") n) (Some (filled_option (codes "mode")))
    (cond (bytes_eq (codes "from") n) (Some (filled_option (codes "from"))) None))

pub by_long : (n : Text) → arg_by_long rules n ≡ rule_named n
by_long n = simp or_no

module _ (rows : List Row) (pending : Option (Text × List Text)) (waiting : Waiting) (word : Text) (apart : bytes_eq word (45 ∷ 45 ∷ []) ≡ false) where
  module _ (id n : Text) (found : arg_by_long rules n ≡ Some (filled_option id)) where
    -- an option whose value is the next word
    module _ (is : long_of word ≡ Some (n, None)) where
      pub awaits_fails : turn_fails (at rows pending waiting false) word ≡ is_wrong rows pending
      awaits_fails = rw (no_sub, apart, is, found, nothing_more) refl

      pub awaits_next : next (at rows pending waiting false) word ≡ at (now_rows pending rows) (Some (id, [])) (option id) false
      unfolding walked
      awaits_next = rw (no_sub, apart, is, found) refl

    -- an option with its value
    module _ (v : Text) (is : long_of word ≡ Some (n, Some v)) where
      pub given_fails : turn_fails (at rows pending waiting false) word ≡ (is_wrong rows pending || has_row id (now_rows pending rows))
      given_fails =
          rw (no_sub, apart, is, found, nothing_more, fault_or_else) (ap (λ (b : Bool). is_wrong rows pending || b) (fault_if (has_row id (now_rows pending rows))))

      pub given_next : next (at rows pending waiting false) word
          ≡ at (with_values id (reading_by (filled_option id)) CommandLine (v ∷ []) (without id (now_rows pending rows))) None idle false
      unfolding walked
      given_next = rw (no_sub, apart, is, found) refl

  pub unknown_fails : (n : Text) (v : Option Text) → long_of word ≡ Some (n, v) → arg_by_long rules n ≡ None → turn_fails (at rows pending waiting false) word ≡ true
  unknown_fails n v is found = rw (no_sub, apart, is, found) refl

  module _ (none : long_of word ≡ None) where
    pub short_fails : (flags : Text) (x : ℕ) → short_of word ≡ Some flags → slice_get (chars flags) 0 ≡ Some x → turn_fails (at rows pending waiting false) word ≡ true
    unfolding flags_fault chars
    short_fails [] x is first = absurd (cc)
    short_fails (y ∷ ys) x is first = rw (no_sub, apart, none, is, first) refl

    -- a word that is no flag, if no option waits
    module _ (calm : plain_word rules waiting word (held rows pending) ≡ (held rows pending, value)) where
      calm_fails : IsPlainWord word → turn_fails (at rows pending waiting false) word ≡ is_wrong rows pending
      unfolding flags_fault bundle_met
      calm_fails (inl short) = rw (no_sub, apart, none, short, calm, and_no) refl
      calm_fails (inr flags) = go flags.0 flags.1 flags.2
        where
          go : (flags : Text) → short_of word ≡ Some flags → slice_get (chars flags) 0 ≡ None → turn_fails (at rows pending waiting false) word ≡ is_wrong rows pending
          go [] short first = rw (no_sub, apart, none, short, calm, and_no) refl
          go (y ∷ ys) short first = rw (no_sub, apart, none, short, first, calm, and_no) refl

      calm_next : IsPlainWord word → next (at rows pending waiting false) word ≡ at (now_rows pending rows) (Some (codes "positionals", word ∷ [])) positional false
      unfolding walked bundle_met
      calm_next (inl short) = rw (no_sub, apart, none, short, calm, and_no) refl
      calm_next (inr flags) = go flags.0 flags.1 flags.2
        where
          go : (flags : Text) → short_of word ≡ Some flags → slice_get (chars flags) 0 ≡ None
              → next (at rows pending waiting false) word ≡ at (now_rows pending rows) (Some (codes "positionals", word ∷ [])) positional false
          go [] short first = rw (no_sub, apart, none, short, calm, and_no) refl
          go (y ∷ ys) short first = rw (no_sub, apart, none, short, first, calm, and_no) refl

-- a word that is no flag goes to no option
plain_rests : (waiting : Waiting) (word : Text) (h : Held) → rests waiting ≡ true → plain_word rules waiting word h ≡ (h, value)
plain_rests idle word h rest = refl
plain_rests (option id) word h rest = absurd (cc)
plain_rests positional word h rest = refl

module _ (rows : List Row) (pending : Option (Text × List Text)) (waiting : Waiting) (word : Text) (apart : bytes_eq word (45 ∷ 45 ∷ []) ≡ false)
    (none : long_of word ≡ None) (rest : rests waiting ≡ true) (plain : IsPlainWord word) where
  pub plain_fails : turn_fails (at rows pending waiting false) word ≡ is_wrong rows pending
  plain_fails = calm_fails rows pending waiting word apart none (plain_rests waiting word (held rows pending) rest) plain

  pub plain_next : next (at rows pending waiting false) word ≡ at (now_rows pending rows) (Some (codes "positionals", word ∷ [])) positional false
  plain_next = calm_next rows pending waiting word apart none (plain_rests waiting word (held rows pending) rest) plain

-- the value of the option that waits
module _ (rows : List Row) (id word : Text) (known : arg_by_id rules id ≡ Some (filled_option id)) (same : bytes_eq id id ≡ true)
    (apart : bytes_eq word (45 ∷ 45 ∷ []) ≡ false) (none : long_of word ≡ None) where
  pub value_fails : IsPlainWord word → turn_fails (at rows (Some (id, [])) (option id) false) word ≡ false
  unfolding flags_fault bundle_met
  value_fails (inl short) = rw (apart, none, short) refl
  value_fails (inr flags) = go flags.0 flags.1 flags.2
    where
      go : (flags : Text) → short_of word ≡ Some flags → slice_get (chars flags) 0 ≡ None → turn_fails (at rows (Some (id, [])) (option id) false) word ≡ false
      go [] short first = rw (apart, none, short) refl
      go (y ∷ ys) short first = rw (apart, none, short, first) refl

  pub value_next : IsPlainWord word → next (at rows (Some (id, [])) (option id) false) word ≡ at rows (Some (id, word ∷ [])) idle false
  unfolding walked bundle_met
  value_next (inl short) = rw (apart, none, short, known, same) refl
  value_next (inr flags) = go flags.0 flags.1 flags.2
    where
      go : (flags : Text) → short_of word ≡ Some flags → slice_get (chars flags) 0 ≡ None → next (at rows (Some (id, [])) (option id) false) word ≡ at rows (Some (id, word ∷ [])) idle false
      go [] short first = rw (apart, none, short, known, same) refl
      go (y ∷ ys) short first = rw (apart, none, short, first, known, same) refl
