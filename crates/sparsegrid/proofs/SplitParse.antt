-- What a parse of the command finds, and what it asks for.
use Rattle.std.proofs.Common.{◌≡◌, inl, inr, Bool, true, false, cond, List, [], ◌∷◌, Option, Some, None, refl, sym, ap, ap₂, ◌∙◌, codes, Bor}
use Rattle.std.specs.Prelude.{is_some, map, option_map, unwrap_or}
use Rattle.sg_words.specs.Options.{◌>>=◌}
use Rattle.clap.specs.Walk.{Held, Row, Text, Walk, finished, idle, nothing_held, rows_of, settled, settled_rows, walk}
use Rattle.clap.specs.Kinds.{HasKind, IsAmong, Kinds, or_else}
use Rattle.clap.specs.Simple.{App, HasMatchesOf, entered, is_simple, matches_of}
use Rattle.std.specs.Option.{option_copied}
use Rattle.clap.specs.Matches.{first_value, found_of, matched_of, raw_values}
use Rattle.clap.specs.declared.parser.matches.Found.{Found}
use Rattle.clap.proofs.WalkLemmas.{first_value-rows, raw_values-rows}
use Rattle.clap.specs.Values.{kind_of}
use Rattle.clap.specs.declared.error.Error.{Error}
use Rattle.clap.specs.declared.error.kind.ErrorKind.{ErrorKind}
use Rattle.clap.specs.declared.error.kind.ErrorKind.TheVariants.{OutOfMemory}
use Rattle.clap.specs.declared.parser.matches.ArgMatches.{ArgMatches}
use Rattle.clap.specs.Faults.{check_fault, defaults_fault, entered_fault, fault_of, is_simple_and_free, level_fault, settle_fault, walk_fault}
use Rattle.sparsegrid.specs.Words.{WordParts, asked_of, front, good_words, mode_of, workers_of}
use Rattle.sparsegrid.specs.steps.Splitting.{asked_in, has_dash_for_from, has_fault, parts_of_rows, words_command, rows_split, unless}
use Rattle.sparsegrid.proofs.SplitTurns.{at, fault_or_else, nothing_more, rules, shape}
use Rattle.sparsegrid.proofs.SplitWalk.{Stands, fails, last_rows, same_split}
use Rattle.sparsegrid.proofs.SplitWords.{bad_value, same_from}

abbrev nothing_found : WordParts
nothing_found = record { workers = None; mode = None; from = None; positionals = [] }

abbrev start : Walk
start = at [] None idle false

same_both : {A : Type 0} (b : Bool) (x : A) → cond b x x ≡ x
same_both true x = refl
same_both false x = refl

no_defaults : (rows : List Row) → defaults_fault rows rules ≡ []
unfolding defaults_fault
no_defaults rows = simp same_both

finished_is : (h : Held) → finished rules h ≡ settled_rows rules h.pending h.rows
finished_is h = simp same_both

abbrev built_so : App
built_so = record { top = shape; subs = [] }

none_entered : (stop : Option (Text × List Text)) → entered built_so stop ≡ None
none_entered None = refl
none_entered (Some p) = refl

none_refused : (stop : Option (Text × List Text)) → entered_fault built_so stop ≡ []
none_refused None = refl
none_refused (Some p) = refl

fault_is : (words : List Text) → has_fault (fault_of words_command words) ≡ fails start words
fault_is words =
    let stop = (walk rules [] nothing_held words).stopped in
    let last = (walk rules [] nothing_held words).held in
    let level : fault_of words_command words ≡ level_fault shape [] nothing_held words false [] =
    ap₂ (λ (o : Option (Text × List Row)) (below : Kinds). level_fault shape [] nothing_held words (is_some o) below) (none_entered stop) (none_refused stop) in
    let rest : or_else (settle_fault rules false last) (or_else (defaults_fault (settled rules last).rows rules) (check_fault shape (finished rules last) false)) ≡ settle_fault rules false last =
    ap (λ (k : Kinds). or_else (settle_fault rules false last) (or_else k [])) (no_defaults (settled rules last).rows) ∙ nothing_more (settle_fault rules false last) in
    ap has_fault (level ∙ ap (or_else (walk_fault shape [] start words)) rest) ∙ fault_or_else (walk_fault shape [] start words) (settle_fault rules false last)

rows_are : (words : List Text) → matches_of words_command words ≡ last_rows start words
rows_are words = finished_is (walk rules [] nothing_held words).held

stands : Stands front nothing_found start
stands = record {
  rows = [];
  pending = None;
  waiting = idle;
  is = refl;
  rest = refl;
  quiet = refl;
  shows = record { parts_are = refl; has_workers = refl; has_mode = refl; has_from = refl };
}

-- what the rows of a parse ask for is what good words ask for, but where a value of `--from` begins with `-`
pub same_asked : (words : List Text) → has_dash_for_from words ≡ false → (rows_split words >>= (λ rows. asked_in (parts_of_rows rows))) ≡ good_words words
unfolding rows_split
same_asked words no_dash =
    let found : unless (has_fault (fault_of words_command words)) (matches_of words_command words) ≡ unless (fails start words) (last_rows start words) = ap₂ unless (fault_is words) (rows_are words) in
    ap (λ (o : Option (List Row)). o >>= (λ rows. asked_in (parts_of_rows rows))) found ∙ regroup (fails start words) (last_rows start words)
    ∙ ap (λ (o : Option WordParts). o >>= asked_in) (same_split words front nothing_found start stands) ∙ same_from words front nothing_found no_dash refl
  where
    regroup : (b : Bool) (rows : List Row) → (unless b rows >>= (λ rows. asked_in (parts_of_rows rows))) ≡ (unless b (parts_of_rows rows) >>= asked_in)
    regroup true rows = refl
    regroup false rows = refl

-- ---- the result of the parse

has_among : (k : ErrorKind) (kinds : Kinds) → IsAmong k kinds → has_fault kinds ≡ true
has_among k [] among = absurd among
has_among k (x ∷ xs) among = refl

module _ (command : App) (is : command ≡ words_command) (words : List Text) where
  simple : is_simple_and_free command ≡ true
  simple = ap is_simple_and_free is

  pub rows_taken : (m : ArgMatches) → HasMatchesOf command words m → (is_simple_and_free command ≡ true → fault_of command words ≡ []) → rows_split words ≡ Some (rows_of (found_of m))
  unfolding rows_split
  rows_taken m matches faultless =
      let none : has_fault (fault_of words_command words) ≡ false = ap has_fault (sym (ap (λ (a : App). fault_of a words) is) ∙ faultless simple) in
      let rows : matches_of words_command words ≡ rows_of (found_of m) = sym (ap (λ (a : App). matches_of a words) is) ∙ sym (matches (ap is_simple is)).0 in
      ap₂ unless none rows

  pub rows_refused : (e : Error) → (is_simple_and_free command ≡ true → HasKind (fault_of command words) e) → (kind_of e ≡ OutOfMemory → ⊥) → rows_split words ≡ None
  unfolding rows_split
  rows_refused e has other = go (has simple)
    where
      go : HasKind (fault_of command words) e → unless (has_fault (fault_of words_command words)) (matches_of words_command words) ≡ None
      go (inl memory) = absurd (other memory)
      go (inr among) =
          ap (λ (b : Bool). unless b (matches_of words_command words)) (sym (ap (λ (a : App). has_fault (fault_of a words)) is) ∙ has_among (kind_of e) (fault_of command words) among)

-- what the rows ask for, if there are some
pub asked_of_rows : (words : List Text) (rows : List Row) → has_dash_for_from words ≡ false → rows_split words ≡ Some rows → good_words words ≡ asked_in (parts_of_rows rows)
asked_of_rows words rows none is = sym (same_asked words none) ∙ ap (λ (o : Option (List Row)). o >>= (λ rows. asked_in (parts_of_rows rows))) is

pub nothing_asked : (words : List Text) → has_dash_for_from words ≡ false → rows_split words ≡ None → good_words words ≡ None
nothing_asked words none is = sym (same_asked words none) ∙ ap (λ (o : Option (List Row)). o >>= (λ rows. asked_in (parts_of_rows rows))) is

pub nothing_for_dash : (words : List Text) → has_dash_for_from words ≡ true → good_words words ≡ None
nothing_for_dash words dash =
    ap (λ (o : Option WordParts). o >>= (λ parts. workers_of parts.workers >>= (λ workers. mode_of parts.mode >>= (λ mode. asked_of workers mode parts.from parts.positionals))))
    (bad_value words front nothing_found dash)

-- ---- what the getters read

abbrev texts_at : Bor (List (Bor Text)) → List Text
texts_at words = map (λ word. word.now) words.now

texts_or : (raw : Option (Bor (List (Bor Text)))) (other : Bor (List (Bor Text))) → other.now ≡ [] → texts_at (unwrap_or raw other) ≡ unwrap_or (option_map texts_at raw) []
texts_or None other none = ap (map (λ (word : Bor Text). word.now)) none
texts_or (Some words) other none = refl

pub parts_read : (f : Found) (workers mode from : Option (Bor Text)) (raw : Option (Bor (List (Bor Text)))) (other words : Bor (List (Bor Text)))
    → option_map (λ s. s.now) workers ≡ first_value f (codes "workers") → option_map (λ s. s.now) mode ≡ first_value f (codes "mode") → option_map (λ s. s.now) from ≡ first_value f (codes "from")
    → option_map texts_at raw ≡ option_map raw_values (matched_of f (codes "positionals")) → words ≡ unwrap_or raw other → other.now ≡ []
    → asked_in (record { workers = option_copied workers; mode = option_copied mode; from = option_copied from; positionals = texts_at words }) ≡ asked_in (parts_of_rows (rows_of f))
parts_read f workers mode from raw other words workers_is mode_is from_is raw_is words_are none =
    let positionals_are = ap texts_at words_are ∙ texts_or raw other none ∙ ap (λ (o : Option (List Text)). unwrap_or o []) (raw_is ∙ raw_values-rows f (codes "positionals")) in
    ap asked_in (λ i. record {
      workers = (workers_is ∙ first_value-rows f (codes "workers")) i;
      mode = (mode_is ∙ first_value-rows f (codes "mode")) i;
      from = (from_is ∙ first_value-rows f (codes "from")) i;
      positionals = positionals_are i;
    })
