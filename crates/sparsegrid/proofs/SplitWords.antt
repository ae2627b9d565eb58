-- The words as they are split against what good words ask for.
use Rattle.std.proofs.Common.{◌≡◌, ◌⊎◌, inl, inr, ℕ, Bool, true, false, not, ◌&&◌, ◌||◌, cond, List, [], ◌∷◌, ◌++◌, Option, Some, None, refl, sym, ap, ◌∙◌, codes, subst}
use Rattle.std.specs.Prelude.{is_none, IfSome}
use Rattle.std.specs.List.{list_all}
use Rattle.std.specs.Str.{bytes_eq}
use Rattle.std.proofs.lemmas.Bool.{and_parts, or_parts, eqb-true}
use Rattle.sg_words.specs.Options.{◌>>=◌, only_if}
use Rattle.clap.specs.Walk.{Text}
use Rattle.sparsegrid.specs.Words.{Asked, WordParts, WordPlace, front, workers_value, mode_value, from_value, behind_dashes, at_end, at_equals, at_front, asked_of, begins_with_dash, can_be_positional, mode_of, parts_from, with_carried, with_from, with_mode, with_positional, with_word, with_workers, workers_of}
use Rattle.sparsegrid.specs.steps.Splitting.{asked_in, is_from_and_dash, has_dash_for_from}
use Rattle.sparsegrid.proofs.SplitForms.{Form, IsForm, form_of, is_form, long, named, option_named, plain, separator, short, split_from, split_front, split_value, split_word, with_word_kept}
use Rattle.sparsegrid.proofs.SplitRows.{equal_texts}
use Rattle.sparsegrid.proofs.SplitTurns.{and_no, at}
use Rattle.sparsegrid.proofs.SplitWalk.{or_true}
use Rattle.sparsegrid.proofs.SplitFront.{begins_not_plain, front_single, long_front, long_word, short_begins, single_from}

-- ---- parts that ask for nothing, whatever follows

abbrev are_plain : WordParts → Bool
are_plain parts = list_all can_be_positional parts.positionals

abbrev is_dead : WordParts → Bool
is_dead parts = not (are_plain parts) || (is_none (workers_of parts.workers) || is_none (mode_of parts.mode))

abbrev asked_plainly : WordParts → Option Asked
asked_plainly parts = workers_of parts.workers >>= (λ workers. mode_of parts.mode >>= (λ mode. asked_of workers mode parts.from parts.positionals))

dead_asked : (parts : WordParts) → is_dead parts ≡ true → asked_in parts ≡ None
dead_asked parts dead = go (are_plain parts) (workers_of parts.workers) (mode_of parts.mode) dead
  where
    go : (b : Bool) (w : Option ℕ) (m : Option _) → (not b || (is_none w || is_none m)) ≡ true
        → cond b (w >>= (λ workers. m >>= (λ mode. asked_of workers mode parts.from parts.positionals))) None ≡ None
    go false w m dead = refl
    go true None m dead = refl
    go true (Some n) None dead = refl
    go true (Some n) (Some x) dead = absurd (cc)

plain_asked : (parts : WordParts) → are_plain parts ≡ true → asked_in parts ≡ asked_plainly parts
plain_asked parts all = rw all refl

all_behind : (words : List Text) (word : Text) → list_all can_be_positional words ≡ true → can_be_positional word ≡ true → list_all can_be_positional (words ++ word ∷ []) ≡ true
all_behind [] word all one = rw one refl
all_behind (x ∷ xs) word all one =
    let parts = and_parts (can_be_positional x) (list_all can_be_positional xs) all in
    rw parts.0 (all_behind xs word parts.1 one)

none_behind : (words : List Text) (word : Text) → can_be_positional word ≡ false → list_all can_be_positional (words ++ word ∷ []) ≡ false
none_behind [] word bad = rw bad refl
none_behind (x ∷ xs) word bad = ap (λ (b : Bool). can_be_positional x && b) (none_behind xs word bad) ∙ and_no (can_be_positional x)

stays_behind : (words : List Text) (word : Text) → not (list_all can_be_positional words) ≡ true → not (list_all can_be_positional (words ++ word ∷ [])) ≡ true
stays_behind [] word bad = absurd (cc)
stays_behind (x ∷ xs) word bad = go (can_be_positional x) bad (stays_behind xs word)
  where
    go : (b : Bool) → not (b && list_all can_be_positional xs) ≡ true → (not (list_all can_be_positional xs) ≡ true → not (list_all can_be_positional (xs ++ word ∷ [])) ≡ true)
        → not (b && list_all can_be_positional (xs ++ word ∷ [])) ≡ true
    go true bad later = later bad
    go false bad later = refl

-- ---- one word: both agree, or nothing is asked for

abbrev AllPlain : Option (WordPlace × WordParts) → Type 0
AllPlain o = IfSome o (λ at. are_plain at.1 ≡ true)

abbrev AllDead : Option (WordPlace × WordParts) → Type 0
AllDead o = IfSome o (λ at. is_dead at.1 ≡ true)

abbrev Agrees : Option (WordPlace × WordParts) → Option (WordPlace × WordParts) → Type 0
Agrees o s = ((o ≡ s) × AllPlain o) ⊎ ((s ≡ None) × AllDead o)

-- an option keeps the positional words
workers_plain : (v : Text) (parts : WordParts) → are_plain parts ≡ true → AllPlain (with_workers v parts)
workers_plain v parts all = go (is_none parts.workers)
  where
    go : (b : Bool) → AllPlain (cond b (Some (front, record { workers = Some v; mode = parts.mode; from = parts.from; positionals = parts.positionals })) None)
    go true = all
    go false = tt

mode_plain : (v : Text) (parts : WordParts) → are_plain parts ≡ true → AllPlain (with_mode v parts)
mode_plain v parts all = go (is_none parts.mode)
  where
    go : (b : Bool) → AllPlain (cond b (Some (front, record { workers = parts.workers; mode = Some v; from = parts.from; positionals = parts.positionals })) None)
    go true = all
    go false = tt

from_plain : (v : Text) (parts : WordParts) → are_plain parts ≡ true → AllPlain (with_from v parts)
from_plain v parts all = go (is_none parts.from)
  where
    go : (b : Bool) → AllPlain (cond b (Some (front, record { workers = parts.workers; mode = parts.mode; from = Some v; positionals = parts.positionals })) None)
    go true = all
    go false = tt

named_plain : (n : Text) (v : Option Text) (parts : WordParts) → are_plain parts ≡ true → AllPlain (named n v parts)
named_plain n v parts all = go (bytes_eq (codes "workers") n) (bytes_eq (codes "mode") n) (bytes_eq (codes "from") n) v
  where
    go : (b d f : Bool) (v : Option Text)
        → AllPlain (cond b (option_named workers_value (λ v. with_workers v parts) v parts) (cond d (option_named mode_value (λ v. with_mode v parts) v parts)
        (cond f (option_named from_value (λ v. with_from v parts) v parts) None)))
    go true d f None = all
    go true d f (Some x) = workers_plain x parts all
    go false true f None = all
    go false true f (Some x) = mode_plain x parts all
    go false false true None = all
    go false false true (Some x) = from_plain x parts all
    go false false false v = tt

not_plain_dead : (parts : WordParts) → are_plain parts ≡ false → is_dead parts ≡ true
not_plain_dead parts bad = rw bad refl

positional_agrees : (place : WordPlace) (word : Text) (parts : WordParts) → are_plain parts ≡ true → Agrees (Some (with_word_kept place word parts)) (with_positional place word parts)
positional_agrees place word parts all = go (can_be_positional word) refl
  where
    go : (b : Bool) → can_be_positional word ≡ b → Agrees (Some (with_word_kept place word parts)) (cond b (Some (with_word_kept place word parts)) None)
    go true e = inl (refl, all_behind parts.positionals word all e)
    go false e = inr (refl, not_plain_dead (with_word_kept place word parts).1 (none_behind parts.positionals word e))

-- `-` at the beginning of a word by its form
dashes : (word : Text) (form : Form) → IsForm word form → (plain ≡ form → ⊥) → begins_with_dash word ≡ true
dashes word separator is other = ap begins_with_dash (equal_texts word _ is)
dashes word (long n v) is other = ap begins_with_dash (long_word word n v is.1).is
dashes word short is other = short_begins word is.2 is.4
dashes word plain is other = absurd (other refl)

front_agrees : (word : Text) (parts : WordParts) (form : Form) → IsForm word form → are_plain parts ≡ true → Agrees (split_front form word parts) (at_front word parts)
front_agrees word parts separator is all = inl (rw is refl, all)
front_agrees word parts (long n v) is all = inl (sym (long_front word n v parts (long_word word n v is.1)), named_plain n v parts all)
front_agrees word parts short is all =
    let begins = short_begins word is.2 is.4 in
    inr (front_single word parts (single_from word is.0 is.1) ∙ ap (λ (b : Bool). only_if b (Some (with_word_kept front word parts))) (begins_not_plain word begins), tt)
front_agrees word parts plain is all =
    subst (λ (s : Option (WordPlace × WordParts)). Agrees (Some (with_word_kept front word parts)) s) (sym (front_single word parts (single_from word is.0 is.1))) (positional_agrees front word parts all)

-- a value that begins with `-` is no number of workers and no mode
no_workers : (word : Text) → begins_with_dash word ≡ true → workers_of (Some word) ≡ None
no_workers [] begins = absurd (cc)
no_workers (x ∷ xs) begins = ap (λ (y : ℕ). workers_of (Some (y ∷ xs))) (eqb-true x 45 begins)

no_mode : (word : Text) → begins_with_dash word ≡ true → mode_of (Some word) ≡ None
no_mode [] begins = absurd (cc)
no_mode (x ∷ xs) begins = ap (λ (y : ℕ). mode_of (Some (y ∷ xs))) (eqb-true x 45 begins)

workers_dead : (word : Text) (parts : WordParts) → begins_with_dash word ≡ true → AllDead (with_workers word parts)
workers_dead word parts begins = go (is_none parts.workers)
  where
    go : (b : Bool) → AllDead (cond b (Some (front, record { workers = Some word; mode = parts.mode; from = parts.from; positionals = parts.positionals })) None)
    go true = ap (λ (o : Option ℕ). not (are_plain parts) || (is_none o || is_none (mode_of parts.mode))) (no_workers word begins) ∙ or_true (not (are_plain parts))
    go false = tt

mode_dead : (word : Text) (parts : WordParts) → begins_with_dash word ≡ true → AllDead (with_mode word parts)
mode_dead word parts begins = go (is_none parts.mode)
  where
    go : (b : Bool) → AllDead (cond b (Some (front, record { workers = parts.workers; mode = Some word; from = parts.from; positionals = parts.positionals })) None)
    go true =
        ap (λ (o : Option _). not (are_plain parts) || (is_none (workers_of parts.workers) || is_none o)) (no_mode word begins)
        ∙ ap (λ (b : Bool). not (are_plain parts) || b) (or_true (is_none (workers_of parts.workers))) ∙ or_true (not (are_plain parts))
    go false = tt

-- an option's value: `given` is what it comes to
value_agrees : (word : Text) (given : Option (WordPlace × WordParts)) (form : Form) → IsForm word form → AllPlain given → (begins_with_dash word ≡ true → AllDead given)
    → Agrees (split_value form given) (only_if (not (begins_with_dash word)) given)
value_agrees word given separator is all dead = inr (ap (λ (b : Bool). only_if (not b) given) (dashes word separator is (λ e. absurd (cc))), tt)
value_agrees word given (long n v) is all dead = inr (ap (λ (b : Bool). only_if (not b) given) (dashes word (long n v) is (λ e. absurd (cc))), tt)
value_agrees word given short is all dead = inr (ap (λ (b : Bool). only_if (not b) given) (dashes word short is (λ e. absurd (cc))), tt)
value_agrees word given plain is all dead = go (begins_with_dash word) dead
  where
    go : (b : Bool) → (b ≡ true → AllDead given) → Agrees given (only_if (not b) given)
    go true dead = inr (refl, dead refl)
    go false dead = inl (refl, all)

-- a value that doesn't begin with `-`
from_agrees : (word : Text) (given : Option (WordPlace × WordParts)) (form : Form) → IsForm word form → begins_with_dash word ≡ false → AllPlain given
    → Agrees (split_value form given) (only_if (not (begins_with_dash word)) given)
from_agrees word given separator is none all = inr (ap (λ (b : Bool). only_if (not b) given) (dashes word separator is (λ e. absurd (cc))), tt)
from_agrees word given (long n v) is none all = inr (ap (λ (b : Bool). only_if (not b) given) (dashes word (long n v) is (λ e. absurd (cc))), tt)
from_agrees word given short is none all = inr (ap (λ (b : Bool). only_if (not b) given) (dashes word short is (λ e. absurd (cc))), tt)
from_agrees word given plain is none all = inl (ap (λ (b : Bool). only_if (not b) given) (sym none), all)

-- the value of `--from` doesn't begin with `-`: the split would take `-`
abbrev IsNoDash : WordPlace → Text → Type 0
IsNoDash from_value word = begins_with_dash word ≡ false
IsNoDash front word = Unit {0}
IsNoDash workers_value word = Unit {0}
IsNoDash mode_value word = Unit {0}
IsNoDash behind_dashes word = Unit {0}

agrees : (place : WordPlace) (word : Text) (parts : WordParts) → IsNoDash place word → are_plain parts ≡ true → Agrees (split_word place (form_of word) word parts) (with_word place word parts)
agrees front word parts none all = front_agrees word parts (form_of word) (is_form word) all
agrees from_value word parts none all = from_agrees word (with_from word parts) (form_of word) (is_form word) none (from_plain word parts all)
agrees workers_value word parts none all = value_agrees word (with_workers word parts) (form_of word) (is_form word) (workers_plain word parts all) (workers_dead word parts)
agrees mode_value word parts none all = value_agrees word (with_mode word parts) (form_of word) (is_form word) (mode_plain word parts all) (mode_dead word parts)
agrees behind_dashes word parts none all = positional_agrees behind_dashes word parts all

-- ---- if nothing is asked for, nothing is later

or_keeps : (a b d : Bool) → (a ≡ true → b ≡ true) → (a || d) ≡ true → (b || d) ≡ true
or_keeps true b d keeps e = ap (λ (x : Bool). x || d) (keeps refl)
or_keeps false true d keeps e = refl
or_keeps false false d keeps e = e

dead_behind : (place : WordPlace) (word : Text) (parts : WordParts) → is_dead parts ≡ true → is_dead (with_word_kept place word parts).1 ≡ true
dead_behind place word parts dead = or_keeps (not (are_plain parts)) _ _ (stays_behind parts.positionals word) dead

workers_stay_dead : (v : Text) (parts : WordParts) → is_dead parts ≡ true → AllDead (with_workers v parts)
workers_stay_dead v parts dead = go parts.workers dead
  where
    test : (a b m : Bool) → (a || m) ≡ true → (a || (b || m)) ≡ true
    test true b m e = refl
    test false true m e = refl
    test false false m e = e

    go : (o : Option Text) → (not (are_plain parts) || (is_none (workers_of o) || is_none (mode_of parts.mode))) ≡ true
        → AllDead (cond (is_none o) (Some (front, record { workers = Some v; mode = parts.mode; from = parts.from; positionals = parts.positionals })) None)
    go None e = test (not (are_plain parts)) (is_none (workers_of (Some v))) (is_none (mode_of parts.mode)) e
    go (Some x) e = tt

mode_stays_dead : (v : Text) (parts : WordParts) → is_dead parts ≡ true → AllDead (with_mode v parts)
mode_stays_dead v parts dead = go parts.mode dead
  where
    test : (a w b : Bool) → (a || (w || false)) ≡ true → (a || (w || b)) ≡ true
    test true w b e = refl
    test false true b e = refl
    test false false b e = absurd (cc)

    go : (o : Option Text) → (not (are_plain parts) || (is_none (workers_of parts.workers) || is_none (mode_of o))) ≡ true
        → AllDead (cond (is_none o) (Some (front, record { workers = parts.workers; mode = Some v; from = parts.from; positionals = parts.positionals })) None)
    go None e = test (not (are_plain parts)) (is_none (workers_of parts.workers)) (is_none (mode_of (Some v))) e
    go (Some x) e = tt

from_stays_dead : (v : Text) (parts : WordParts) → is_dead parts ≡ true → AllDead (with_from v parts)
from_stays_dead v parts dead = go (is_none parts.from)
  where
    go : (b : Bool) → AllDead (cond b (Some (front, record { workers = parts.workers; mode = parts.mode; from = Some v; positionals = parts.positionals })) None)
    go true = dead
    go false = tt

named_stay_dead : (n : Text) (v : Option Text) (parts : WordParts) → is_dead parts ≡ true → AllDead (named n v parts)
named_stay_dead n v parts dead = go (bytes_eq (codes "workers") n) (bytes_eq (codes "mode") n) (bytes_eq (codes "from") n) v
  where
    go : (b d f : Bool) (v : Option Text)
        → AllDead (cond b (option_named workers_value (λ v. with_workers v parts) v parts) (cond d (option_named mode_value (λ v. with_mode v parts) v parts)
        (cond f (option_named from_value (λ v. with_from v parts) v parts) None)))
    go true d f None = dead
    go true d f (Some x) = workers_stay_dead x parts dead
    go false true f None = dead
    go false true f (Some x) = mode_stays_dead x parts dead
    go false false true None = dead
    go false false true (Some x) = from_stays_dead x parts dead
    go false false false v = tt

front_stays_dead : (form : Form) (word : Text) (parts : WordParts) → is_dead parts ≡ true → AllDead (split_front form word parts)
front_stays_dead separator word parts dead = dead
front_stays_dead (long n v) word parts dead = named_stay_dead n v parts dead
front_stays_dead short word parts dead = tt
front_stays_dead plain word parts dead = dead_behind front word parts dead

value_stays_dead : (form : Form) (given : Option (WordPlace × WordParts)) → AllDead given → AllDead (split_value form given)
value_stays_dead separator given dead = tt
value_stays_dead (long n v) given dead = tt
value_stays_dead short given dead = tt
value_stays_dead plain given dead = dead

stays_dead : (place : WordPlace) (form : Form) (word : Text) (parts : WordParts) → is_dead parts ≡ true → AllDead (split_word place form word parts)
stays_dead front form word parts dead = front_stays_dead form word parts dead
stays_dead workers_value form word parts dead = value_stays_dead form (with_workers word parts) (workers_stay_dead word parts dead)
stays_dead mode_value form word parts dead = value_stays_dead form (with_mode word parts) (mode_stays_dead word parts dead)
stays_dead from_value form word parts dead = value_stays_dead form (with_from word parts) (from_stays_dead word parts dead)
stays_dead behind_dashes form word parts dead = dead_behind behind_dashes word parts dead

-- ---- all words

end_dead : (place : WordPlace) (parts : WordParts) → is_dead parts ≡ true → (at_end place parts >>= asked_in) ≡ None
end_dead front parts dead = dead_asked parts dead
end_dead workers_value parts dead = refl
end_dead mode_value parts dead = refl
end_dead from_value parts dead = refl
end_dead behind_dashes parts dead = dead_asked parts dead

all_dead : (words : List Text) (place : WordPlace) (parts : WordParts) → is_dead parts ≡ true → (split_from place parts words >>= asked_in) ≡ None
unfolding split_from
all_dead [] place parts dead = end_dead place parts dead
all_dead (word ∷ words) place parts dead = go (split_word place (form_of word) word parts) (stays_dead place (form_of word) word parts dead) (λ at later. all_dead words at.0 at.1 later)
  where
    go : (o : Option (WordPlace × WordParts)) → AllDead o → ((at : WordPlace × WordParts) → is_dead at.1 ≡ true → (split_from at.0 at.1 words >>= asked_in) ≡ None)
        → ((o >>= (λ at. split_from at.0 at.1 words)) >>= asked_in) ≡ None
    go None now later = refl
    go (Some at) now later = later at now

end_asked : (place : WordPlace) (parts : WordParts) → are_plain parts ≡ true → (at_end place parts >>= asked_in) ≡ (at_end place parts >>= asked_plainly)
end_asked front parts all = plain_asked parts all
end_asked workers_value parts all = refl
end_asked mode_value parts all = refl
end_asked from_value parts all = refl
end_asked behind_dashes parts all = plain_asked parts all

-- ---- a value of `--from` that begins with `-`

abbrev starts_dash : List Text → Bool
starts_dash [] = false
starts_dash (word ∷ words) = begins_with_dash word

-- some value of `--from` begins with `-`, from where the next word stands
abbrev has_dash : WordPlace → List Text → Bool
has_dash front words = has_dash_for_from words
has_dash workers_value words = has_dash_for_from words
has_dash mode_value words = has_dash_for_from words
has_dash from_value words = starts_dash words || has_dash_for_from words
has_dash behind_dashes words = false

abbrev SameDash : Bool → List Text → Option (WordPlace × WordParts) → Type 0
SameDash dash words o = IfSome o (λ at. has_dash at.0 words ≡ dash)

one_front : (dash b : Bool) (words : List Text) (parts : WordParts) → has_dash_for_from words ≡ dash → SameDash dash words (cond b (Some (front, parts)) None)
one_front dash true words parts same = same
one_front dash false words parts same = tt

is_from : (word : Text) (words : List Text) → is_from_and_dash word words ≡ (bytes_eq word (codes "--from") && starts_dash words)
is_from word [] = sym (and_no (bytes_eq word (codes "--from")))
is_from word (next ∷ words) = refl

carried_dash : (word : Text) (words : List Text) (parts : WordParts) (dash : Bool) → has_dash_for_from words ≡ dash → (cut : Option (Text × Text)) → SameDash dash words (with_carried word parts cut)
carried_dash word words parts dash same None = one_front dash (can_be_positional word) words _ same
carried_dash word words parts dash same (Some cut) = go (bytes_eq cut.0 (codes "--workers")) (bytes_eq cut.0 (codes "--mode")) (bytes_eq cut.0 (codes "--from"))
  where
    go : (a b c : Bool) → SameDash dash words (cond a (with_workers cut.1 parts) (cond b (with_mode cut.1 parts) (cond c (with_from cut.1 parts) (with_positional front word parts))))
    go true b c = one_front dash (is_none parts.workers) words _ same
    go false true c = one_front dash (is_none parts.mode) words _ same
    go false false true = one_front dash (is_none parts.from) words _ same
    go false false false = one_front dash (can_be_positional word) words _ same

front_dash : (word : Text) (words : List Text) (parts : WordParts) → SameDash (has_dash_for_from (word ∷ words)) words (at_front word parts)
front_dash word words parts =
    subst (λ (dash : Bool). SameDash (dash || (not (bytes_eq word (codes "--")) && has_dash_for_from words)) words (at_front word parts)) (sym (is_from word words))
    (go (bytes_eq word (codes "--")) (bytes_eq word (codes "--workers")) (bytes_eq word (codes "--mode")) (bytes_eq word (codes "--from")) refl refl refl refl)
  where
    no_other : (other : Text) → bytes_eq other (codes "--from") ≡ false → bytes_eq word other ≡ true → bytes_eq word (codes "--from") ≡ false
    no_other other apart same = ap (λ (w : Text). bytes_eq w (codes "--from")) (equal_texts word other same) ∙ apart

    go : (a b c d : Bool) → bytes_eq word (codes "--") ≡ a → bytes_eq word (codes "--workers") ≡ b → bytes_eq word (codes "--mode") ≡ c → bytes_eq word (codes "--from") ≡ d
        → SameDash ((d && starts_dash words) || (not a && has_dash_for_from words)) words
        (cond a (Some (behind_dashes, parts)) (cond b (Some (workers_value, parts)) (cond c (Some (mode_value, parts)) (cond d (Some (from_value, parts)) (with_carried word parts (at_equals word))))))
    go true b c d ea eb ec ed = rw (sym ed ∙ no_other (codes "--") refl ea) refl
    go false true c d ea eb ec ed = rw (sym ed ∙ no_other (codes "--workers") refl eb) refl
    go false false true d ea eb ec ed = rw (sym ed ∙ no_other (codes "--mode") refl ec) refl
    go false false false true ea eb ec ed = refl
    go false false false false ea eb ec ed = carried_dash word words parts (has_dash_for_from words) refl (at_equals word)

-- a word that doesn't begin with `-` is no option
value_dash : (word : Text) (words : List Text) → begins_with_dash word ≡ false → has_dash_for_from (word ∷ words) ≡ has_dash_for_from words
value_dash [] words none = rw (is_from [] words) refl
value_dash (x ∷ xs) words none = rw (is_from (x ∷ xs) words, none) refl

given_dash : (word : Text) (words : List Text) (dash : Bool) (given : Option (WordPlace × WordParts)) → (begins_with_dash word ≡ false → SameDash dash words given)
    → SameDash dash words (only_if (not (begins_with_dash word)) given)
given_dash word words dash given same = go (begins_with_dash word) same
  where
    go : (b : Bool) → (b ≡ false → SameDash dash words given) → SameDash dash words (only_if (not b) given)
    go true same = tt
    go false same = same refl

same_dash : (place : WordPlace) (word : Text) (words : List Text) (parts : WordParts) → SameDash (has_dash place (word ∷ words)) words (with_word place word parts)
same_dash front word words parts = front_dash word words parts
same_dash workers_value word words parts =
    given_dash word words _ (with_workers word parts) (λ none. one_front _ (is_none parts.workers) words _ (sym (value_dash word words none)))
same_dash mode_value word words parts =
    given_dash word words _ (with_mode word parts) (λ none. one_front _ (is_none parts.mode) words _ (sym (value_dash word words none)))
same_dash from_value word words parts =
    given_dash word words _ (with_from word parts)
    (λ none. one_front _ (is_none parts.from) words _ (sym (ap (λ (b : Bool). b || has_dash_for_from (word ∷ words)) none ∙ value_dash word words none)))
same_dash behind_dashes word words parts = go (can_be_positional word)
  where
    go : (b : Bool) → SameDash false words (cond b (Some (with_word_kept behind_dashes word parts)) None)
    go true = refl
    go false = tt

-- such words are bad
pub bad_value : (words : List Text) (place : WordPlace) (parts : WordParts) → has_dash place words ≡ true → parts_from place parts words ≡ None
bad_value [] front parts dash = absurd (cc)
bad_value [] workers_value parts dash = absurd (cc)
bad_value [] mode_value parts dash = absurd (cc)
bad_value [] from_value parts dash = absurd (cc)
bad_value [] behind_dashes parts dash = absurd (cc)
bad_value (word ∷ words) place parts dash = go (with_word place word parts) (same_dash place word words parts) (λ at later. bad_value words at.0 at.1 later)
  where
    go : (o : Option (WordPlace × WordParts)) → SameDash (has_dash place (word ∷ words)) words o → ((at : WordPlace × WordParts) → has_dash at.0 words ≡ true → parts_from at.0 at.1 words ≡ None)
        → (o >>= (λ at. parts_from at.0 at.1 words)) ≡ None
    go None same later = refl
    go (Some at) same later = later at (same ∙ dash)

no_dash_here : (place : WordPlace) (word : Text) (words : List Text) → has_dash place (word ∷ words) ≡ false → IsNoDash place word
no_dash_here front word words none = tt
no_dash_here workers_value word words none = tt
no_dash_here mode_value word words none = tt
no_dash_here from_value word words none = (or_parts (begins_with_dash word) (has_dash_for_from (word ∷ words)) none).0
no_dash_here behind_dashes word words none = tt

abbrev SameLater : List Text → WordPlace × WordParts → Type 0
SameLater words at = has_dash at.0 words ≡ false → are_plain at.1 ≡ true → (split_from at.0 at.1 words >>= asked_in) ≡ (parts_from at.0 at.1 words >>= asked_plainly)

-- what split words ask for is what good words ask for
pub same_from : (words : List Text) (place : WordPlace) (parts : WordParts) → has_dash place words ≡ false → are_plain parts ≡ true
    → (split_from place parts words >>= asked_in) ≡ (parts_from place parts words >>= asked_plainly)
unfolding split_from
same_from [] place parts none all = end_asked place parts all
same_from (word ∷ words) place parts none all =
    go (split_word place (form_of word) word parts) (with_word place word parts) (agrees place word parts (no_dash_here place word words none) all) (same_dash place word words parts)
    (λ at on later. same_from words at.0 at.1 on later)
  where
    refused : (o : Option (WordPlace × WordParts)) → AllDead o → ((o >>= (λ at. split_from at.0 at.1 words)) >>= asked_in) ≡ None
    refused None dead = refl
    refused (Some at) dead = all_dead words at.0 at.1 dead

    same : (o : Option (WordPlace × WordParts)) → AllPlain o → SameDash (has_dash place (word ∷ words)) words o → ((at : WordPlace × WordParts) → SameLater words at)
        → ((o >>= (λ at. split_from at.0 at.1 words)) >>= asked_in) ≡ ((o >>= (λ at. parts_from at.0 at.1 words)) >>= asked_plainly)
    same None all dash later = refl
    same (Some at) all dash later = later at (dash ∙ none) all

    go : (o s : Option (WordPlace × WordParts)) → Agrees o s → SameDash (has_dash place (word ∷ words)) words s → ((at : WordPlace × WordParts) → SameLater words at)
        → ((o >>= (λ at. split_from at.0 at.1 words)) >>= asked_in) ≡ ((s >>= (λ at. parts_from at.0 at.1 words)) >>= asked_plainly)
    go o s (inl both) dash later =
        same o both.1 (subst (λ (t : Option (WordPlace × WordParts)). SameDash (has_dash place (word ∷ words)) words t) (sym both.0) dash) later
        ∙ ap (λ (t : Option (WordPlace × WordParts)). (t >>= (λ at. parts_from at.0 at.1 words)) >>= asked_plainly) both.0
    go o s (inr nothing) dash later = refused o nothing.1 ∙ ap (λ (t : Option (WordPlace × WordParts)). (t >>= (λ at. parts_from at.0 at.1 words)) >>= asked_plainly) (sym nothing.0)
