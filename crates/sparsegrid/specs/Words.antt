-- What the words of the command line ask for.
use Rattle.std.specs.Prelude.{ℕ, ◌^◌, nat_lt, Bool, true, false, not, ◌&&◌, ◌==◌, if◌then◌else◌, List, [], ◌∷◌, ◌++◌, map, Option, Some, None, is_none, option_map, codes, bytes_eq, string_bytes}
use Rattle.std.specs.List.{list_any, before_first, after_first}
use Rattle.sg_words.specs.Options.{◌>>=◌, only_if}
use Rattle.sg_ast.specs.Token.{is_name}
use Rattle.sg_lexer.specs.Lexing.{is_decimal, decimal_value}
use Rattle.sparsegrid.specs.declared.words.Mode.{Mode}
use Rattle.sparsegrid.specs.declared.words.Mode.TheVariants as mode
use Rattle.sparsegrid.specs.declared.showing.Showing.{Showing}
use Rattle.sparsegrid.specs.declared.showing.Showing.TheVariants as showing
use Rattle.sg_session.specs.Bindings.{Binding, binding_read}
use Rattle.sparsegrid.specs.declared.words.Words.{Words}

-- where a word stands: at the front, as the value of an option, or after `--`
pub data WordPlace : Type 0 where
  front : WordPlace
  workers_value : WordPlace
  mode_value : WordPlace
  from_value : WordPlace
  behind_dashes : WordPlace

-- the values of the options, where they are given, and the positional words in their order
pub record WordParts : Type 0 where
  pub workers : Option (List ℕ)
  pub mode : Option (List ℕ)
  pub from : Option (List ℕ)
  pub positionals : List (List ℕ)

-- what stands before and after the first `=` of a word that has one; `=` is 61
abbrev pub at_equals : List ℕ → Option (List ℕ × List ℕ)
at_equals word = if list_any (λ byte. byte == 61) word then Some (before_first (λ byte. byte == 61) word, after_first (λ byte. byte == 61) word) else None

-- the word begins with `-`, which is 45
abbrev pub begins_with_dash : List ℕ → Bool
begins_with_dash [] = false
begins_with_dash (byte ∷ bytes) = byte == 45

-- a word may be positional if it isn't empty and doesn't begin with `-`
abbrev pub can_be_positional : List ℕ → Bool
can_be_positional [] = false
can_be_positional (byte ∷ bytes) = not (byte == 45)

-- The words are read from the left, and each tells where the next one stands: at the front, as the value of an option, or after `--`.
-- None: the word is bad there.

-- a word that may be positional is one more of them
abbrev pub with_positional : WordPlace → List ℕ → WordParts → Option (WordPlace × WordParts)
with_positional next word parts =
    only_if (can_be_positional word) (Some (next, record { workers = parts.workers; mode = parts.mode; from = parts.from; positionals = parts.positionals ++ word ∷ [] }))

-- the number of workers is given; an option comes at most once
abbrev pub with_workers : List ℕ → WordParts → Option (WordPlace × WordParts)
with_workers value parts =
    only_if (is_none parts.workers) (Some (front, record { workers = Some value; mode = parts.mode; from = parts.from; positionals = parts.positionals }))

-- the mode is given
abbrev pub with_mode : List ℕ → WordParts → Option (WordPlace × WordParts)
with_mode value parts =
    only_if (is_none parts.mode) (Some (front, record { workers = parts.workers; mode = Some value; from = parts.from; positionals = parts.positionals }))

-- the snapshot is given
abbrev pub with_from : List ℕ → WordParts → Option (WordPlace × WordParts)
with_from value parts =
    only_if (is_none parts.from) (Some (front, record { workers = parts.workers; mode = parts.mode; from = Some value; positionals = parts.positionals }))

-- a word that has an option before its first `=` carries the option's value; any other stands by itself
abbrev pub with_carried : List ℕ → WordParts → Option (List ℕ × List ℕ) → Option (WordPlace × WordParts)
with_carried word parts None = with_positional front word parts
with_carried word parts (Some cut) =
    if bytes_eq cut.0 (codes "--workers") then with_workers cut.1 parts
    else (if bytes_eq cut.0 (codes "--mode") then with_mode cut.1 parts
    else (if bytes_eq cut.0 (codes "--from") then with_from cut.1 parts
    else with_positional front word parts))

-- a word at the front
abbrev pub at_front : List ℕ → WordParts → Option (WordPlace × WordParts)
at_front word parts =
    if bytes_eq word (codes "--") then Some (behind_dashes, parts)
    else (if bytes_eq word (codes "--workers") then Some (workers_value, parts)
    else (if bytes_eq word (codes "--mode") then Some (mode_value, parts)
    else (if bytes_eq word (codes "--from") then Some (from_value, parts)
    else with_carried word parts (at_equals word))))

-- a word where it stands. As the value of the option before it, it doesn't begin with `-`; after the first `--` all are positional
abbrev pub with_word : WordPlace → List ℕ → WordParts → Option (WordPlace × WordParts)
with_word front word parts = at_front word parts
with_word workers_value word parts = only_if (not (begins_with_dash word)) (with_workers word parts)
with_word mode_value word parts = only_if (not (begins_with_dash word)) (with_mode word parts)
with_word from_value word parts = only_if (not (begins_with_dash word)) (with_from word parts)
with_word behind_dashes word parts = with_positional behind_dashes word parts

-- if the words end, no value is wanting
abbrev pub at_end : WordPlace → WordParts → Option WordParts
at_end front parts = Some parts
at_end workers_value parts = None
at_end mode_value parts = None
at_end from_value parts = None
at_end behind_dashes parts = Some parts

-- what further words add to the parts that are found, from where the next one stands
abbrev pub parts_from : WordPlace → WordParts → List (List ℕ) → Option WordParts
parts_from at parts [] = at_end at parts
parts_from at parts (word ∷ words) = with_word at word parts >>= (λ next. parts_from next.0 next.1 words)

-- the parts of all words; nothing is found yet where they begin
abbrev pub parts_of_words : List (List ℕ) → Option WordParts
parts_of_words words = parts_from front (record { workers = None; mode = None; from = None; positionals = [] }) words

-- the numbers of workers as they are written: from 1 to 16, without a sign and without a leading zero
abbrev pub worker_numbers : List (List ℕ × ℕ)
worker_numbers = (codes "1", 1) ∷ (codes "2", 2) ∷ (codes "3", 3) ∷ (codes "4", 4) ∷ (codes "5", 5) ∷ (codes "6", 6) ∷ (codes "7", 7)
    ∷ (codes "8", 8) ∷ (codes "9", 9) ∷ (codes "10", 10) ∷ (codes "11", 11) ∷ (codes "12", 12) ∷ (codes "13", 13) ∷ (codes "14", 14)
    ∷ (codes "15", 15) ∷ (codes "16", 16) ∷ []

-- what stands beside the first text that equals the given one
abbrev pub value_beside : {A : Type 0} → List (List ℕ × A) → List ℕ → Option A
value_beside [] text = None
value_beside (row ∷ rows) text = if bytes_eq text row.0 then Some row.1 else value_beside rows text

-- the number of workers, which is 4 without the option
abbrev pub workers_of : Option (List ℕ) → Option ℕ
workers_of None = Some 4
workers_of (Some value) = value_beside worker_numbers value

-- the modes as they are written
abbrev pub mode_words : List (List ℕ × Mode)
mode_words = (codes "run", mode.Run) ∷ (codes "check", mode.Check) ∷ (codes "lower", mode.Lower) ∷ (codes "gen", mode.Gen)
    ∷ (codes "save", mode.Save) ∷ (codes "audit", mode.Audit) ∷ (codes "advise", mode.Advise) ∷ (codes "journal", mode.Journal) ∷ []

-- the mode, which is to run without the option
abbrev pub mode_of : Option (List ℕ) → Option Mode
mode_of None = Some mode.Run
mode_of (Some value) = value_beside mode_words value

-- what is done with a program: its tasks are performed, and a mode shows something of that; those of the generated one are; its kernels are
-- looked at; their access code is written; a journal of its containers is audited; or one is written while its tasks are performed
pub data Doing : Type 0 where
  performs : Showing → Doing
  generates : Doing
  looks : Doing
  writes_code : Doing
  audits : Doing

-- what a mode does
abbrev pub doing : Mode → Doing
doing mode.Run = performs showing.Texts
doing mode.Check = looks
doing mode.Lower = writes_code
doing mode.Gen = generates
doing mode.Save = performs showing.Image
doing mode.Audit = audits
doing mode.Advise = performs showing.Advice
doing mode.Journal = performs showing.Changes

-- whether the program is the generated one
abbrev pub is_generated : Doing → Bool
is_generated (performs shown) = false
is_generated generates = true
is_generated looks = false
is_generated writes_code = false
is_generated audits = false

-- whether the generated program is run
abbrev pub is_gen : Mode → Bool
is_gen mode = is_generated (doing mode)

-- whether the tasks may begin with a snapshot
abbrev pub may_begin : Doing → Bool
may_begin (performs shown) = true
may_begin generates = false
may_begin looks = false
may_begin writes_code = false
may_begin audits = false

-- the name of a file that is given isn't empty
abbrev pub is_file : List ℕ → Bool
is_file [] = false
is_file (byte ∷ bytes) = true

-- a snapshot, if one is given, is a file, in a mode that may begin with one
abbrev pub is_good_from : Mode → Option (List ℕ) → Bool
is_good_from mode None = true
is_good_from mode (Some file) = may_begin (doing mode) && is_file file

-- the binding that a word is: a name, `=`, a file
abbrev pub binding_of : List ℕ → Option Binding
binding_of word = at_equals word >>= (λ cut. only_if (is_name (record { text = cut.0 }) && is_file cut.1) (Some (record { name = cut.0; file = cut.1 })))

-- a name is bound
abbrev pub has_binding : List Binding → List ℕ → Bool
has_binding bindings name = list_any (λ binding. bytes_eq binding.name name) bindings

-- the bindings of further words, after those that are there; no name comes twice
abbrev pub bindings_after : List Binding → List (List ℕ) → Option (List Binding)
bindings_after before [] = Some before
bindings_after before (word ∷ words) =
    binding_of word >>= (λ binding. only_if (not (has_binding before binding.name)) (bindings_after (before ++ binding ∷ []) words))

-- just one name is bound, and it is `journal`
abbrev pub bind_journal : List Binding → Bool
bind_journal [] = false
bind_journal (binding ∷ []) = bytes_eq binding.name (codes "journal")
bind_journal (binding ∷ (other ∷ more)) = false

-- names are bound as it needs: to audit is to audit the file of `journal`
abbrev pub are_bindings_for : Doing → List Binding → Bool
are_bindings_for (performs shown) bindings = true
are_bindings_for generates bindings = true
are_bindings_for looks bindings = true
are_bindings_for writes_code bindings = true
are_bindings_for audits bindings = bind_journal bindings

-- the number of the generated program, from 0 to 4294967295, as a decimal without a leading zero
abbrev pub gen_number : List ℕ → Option ℕ
gen_number text = only_if (is_decimal text && nat_lt (decimal_value text) (2 ^ 32)) (Some (decimal_value text))

-- what good words ask for: in mode gen the generated program of a number, without a file and without bindings; in the others the program of a
-- file, and the number is 0. The tasks may begin with a snapshot.
pub record Asked : Type 0 where
  pub workers : ℕ
  pub mode : Mode
  pub file : List ℕ
  pub from : Option (List ℕ)
  pub bindings : List Binding
  pub number : ℕ

-- the first positional word is the file, and each further one a binding; to audit takes the binding of `journal` alone
abbrev pub file_asked : ℕ → Mode → Option (List ℕ) → List ℕ → List (List ℕ) → Option Asked
file_asked workers mode from file words =
    bindings_after [] words >>= (λ bindings. only_if (are_bindings_for (doing mode) bindings)
    (Some (record { workers = workers; mode = mode; file = file; from = from; bindings = bindings; number = 0 })))

-- the only positional word is the number
abbrev pub number_asked : ℕ → Mode → List ℕ → List (List ℕ) → Option Asked
number_asked workers mode text [] = gen_number text >>= (λ number. Some (record { workers = workers; mode = mode; file = []; from = None; bindings = []; number = number }))
number_asked workers mode text (word ∷ words) = None

-- what positional words ask for; the first must be there
abbrev pub asked_of : ℕ → Mode → Option (List ℕ) → List (List ℕ) → Option Asked
asked_of workers mode from [] = None
asked_of workers mode from (first ∷ words) =
    only_if (is_good_from mode from) (if is_gen mode then number_asked workers mode first words else file_asked workers mode from first words)

-- what the words ask for, where they are good
abbrev pub good_words : List (List ℕ) → Option Asked
good_words words = parts_of_words words >>= (λ parts. workers_of parts.workers >>= (λ workers. mode_of parts.mode >>= (λ mode. asked_of workers mode parts.from parts.positionals)))

-- what is asked for by words that were read
abbrev pub asked_by : Words → Asked
asked_by words = record { workers = words.workers; mode = words.mode; file = string_bytes words.file; from = option_map string_bytes words.from; bindings = map binding_read words.binds.list; number = words.number }
