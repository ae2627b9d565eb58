-- The command by which the words are split, and what its matches ask for.
use Rattle.std.specs.Prelude.{ℕ, Bool, true, false, not, ◌&&◌, ◌||◌, List, [], ◌∷◌, Option, Some, None, codes, bytes_eq, unwrap_or, if◌then◌else◌}
use Rattle.std.specs.List.{list_all}
use Rattle.sg_words.specs.Options.{◌>>=◌, only_if}
use Rattle.clap.specs.declared.builder.action.ArgAction.TheVariants.{Set, Append}
use Rattle.clap.specs.Faults.{fault_of}
use Rattle.clap.specs.Kinds.{Kinds}
use Rattle.clap.specs.Simple.{App, matches_of, new_app, new_rule, on_top, with_rule}
use Rattle.clap.specs.Walk.{Row, Rule, Text, all_of, first_of}
use Rattle.sparsegrid.specs.Words.{Asked, WordParts, asked_of, begins_with_dash, can_be_positional, mode_of, workers_of}

-- an option that takes a text
abbrev pub option_of : Text → Rule
option_of name = record (new_rule name) { long = Some name; action = Some Set }

-- the positional words
abbrev pub positionals_given : Rule
positionals_given = record (new_rule (codes "positionals")) { action = Some Append }

-- the command that splits the words: `--workers`, `--mode`, `--from` and positional words, with no program name and no help flag
abbrev pub words_command : App
words_command =
    with_rule (with_rule (with_rule (with_rule (on_top (λ s. record s { no_binary_name = true; disable_help_flag = true }) (new_app (codes "sparsegrid")))
    (option_of (codes "workers"))) (option_of (codes "mode"))) (option_of (codes "from"))) positionals_given

-- a parse is refused: there is a kind of error that it may give
abbrev pub has_fault : Kinds → Bool
has_fault [] = false
has_fault (kind ∷ kinds) = true

-- the value, or none if it is refused
abbrev pub unless : {A : Type 0} → Bool → A → Option A
unless refused value = if refused then None else Some value

-- the rows that a parse of the words finds, where it takes them
unfoldable pub rows_split : List Text → Option (List Row)
rows_split words = unless (has_fault (fault_of words_command words)) (matches_of words_command words)

-- the parts that are found in rows
abbrev pub parts_of_rows : List Row → WordParts
parts_of_rows rows = record {
  workers = first_of (codes "workers") rows;
  mode = first_of (codes "mode") rows;
  from = first_of (codes "from") rows;
  positionals = unwrap_or (all_of (codes "positionals") rows) [];
}

-- what parts ask for, if no positional word is empty or begins with `-`
abbrev pub asked_in : WordParts → Option Asked
asked_in parts =
    only_if (list_all can_be_positional parts.positionals) (workers_of parts.workers >>= (λ workers. mode_of parts.mode >>= (λ mode. asked_of workers mode parts.from parts.positionals)))

-- this word is `--from`, and the next one begins with `-`
abbrev pub is_from_and_dash : List ℕ → List (List ℕ) → Bool
is_from_and_dash word [] = false
is_from_and_dash word (next ∷ words) = bytes_eq word (codes "--from") && begins_with_dash next

-- A word `--from`, before any `--`, has a word behind it that begins with `-`. Such words are bad; but the command takes `-` as the option's value,
-- as it does where it is carried by `--from=-`, which is good.
abbrev pub has_dash_for_from : List (List ℕ) → Bool
has_dash_for_from [] = false
has_dash_for_from (word ∷ words) = is_from_and_dash word words || (not (bytes_eq word (codes "--")) && has_dash_for_from words)
