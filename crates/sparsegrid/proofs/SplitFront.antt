-- A word at the front, by its form.
use Rattle.std.proofs.Common.{◌≡◌, ℕ, suc, ◌+◌, ◌==◌, arith, Bool, true, false, ◌&&◌, ◌||◌, cond, [], ◌∷◌, take, drop, Option, Some, None, refl, sym, ap, ap₂, ◌∙◌, codes}
use Rattle.std.specs.List.{before_first, after_first, list_any, position_or_len}
use Rattle.std.specs.Str.{bytes_eq}
use Rattle.std.proofs.lemmas.Bool.{eqb-true}
use Rattle.std.proofs.lemmas.Option.{same_Some}
use Rattle.std.proofs.lemmas.Slice.Eq.{bytes_eq-Decides}
use Rattle.clap.specs.Lexer.{long_of, name_and_value, short_of}
use Rattle.clap.specs.Walk.{Text}
use Rattle.sparsegrid.specs.Words.{WordParts, WordPlace, front, workers_value, mode_value, from_value, at_front, begins_with_dash, can_be_positional, with_carried, with_from, with_mode, with_positional, with_workers}
use Rattle.sparsegrid.proofs.SplitForms.{named}
use Rattle.sparsegrid.proofs.SplitRows.{equal_texts}

abbrev pub is_equals : ℕ → Bool
is_equals byte = byte == 61

-- ---- what stands before and after the first `=`

before_here : (x : ℕ) (xs : Text) → is_equals x ≡ true → before_first is_equals (x ∷ xs) ≡ []
before_here x xs hit = rw hit refl

before_later : (x : ℕ) (xs : Text) → is_equals x ≡ false → before_first is_equals (x ∷ xs) ≡ x ∷ before_first is_equals xs
before_later x xs miss =
    let next : 1 + position_or_len is_equals xs ≡ suc (position_or_len is_equals xs) = omega arith in
    rw miss (ap (λ (n : ℕ). take n (x ∷ xs)) next)

after_later : (x : ℕ) (xs : Text) → is_equals x ≡ false → after_first is_equals (x ∷ xs) ≡ after_first is_equals xs
after_later x xs miss =
    let next : 1 + position_or_len is_equals xs + 1 ≡ suc (position_or_len is_equals xs + 1) = omega arith in
    rw miss (ap (λ (n : ℕ). drop n (x ∷ xs)) next)

before_none : (xs : Text) → list_any is_equals xs ≡ false → before_first is_equals xs ≡ xs
before_none [] none = refl
before_none (x ∷ xs) none = go (is_equals x) refl none (before_none xs)
  where
    go : (b : Bool) → is_equals x ≡ b → (b || list_any is_equals xs) ≡ false → (list_any is_equals xs ≡ false → before_first is_equals xs ≡ xs) → before_first is_equals (x ∷ xs) ≡ x ∷ xs
    go true e rest later = absurd (cc)
    go false e rest later = before_later x xs e ∙ ap (λ (t : Text). x ∷ t) (later rest)

same_either_way : (a b : Text) → bytes_eq a b ≡ bytes_eq b a
same_either_way a b = go (bytes_eq a b) (bytes_eq b a) refl refl
  where
    go : (x y : Bool) → bytes_eq a b ≡ x → bytes_eq b a ≡ y → x ≡ y
    go true true e f = refl
    go false false e f = refl
    go true false e f = sym ((bytes_eq-Decides b a).1 (sym (equal_texts a b e))) ∙ f
    go false true e f = sym e ∙ (bytes_eq-Decides a b).1 (sym (equal_texts b a f))

-- ---- words that don't begin with two `-`

abbrev pub begins_double : Text → Bool
begins_double [] = false
begins_double (x ∷ []) = false
begins_double (x ∷ y ∷ ys) = x == 45 && y == 45

no_match : (word rest : Text) → begins_double word ≡ false → bytes_eq word (45 ∷ 45 ∷ rest) ≡ false
no_match [] rest single = refl
no_match (x ∷ []) rest single = go (x == 45)
  where
    go : (b : Bool) → (b && false) ≡ false
    go true = refl
    go false = refl
no_match (x ∷ y ∷ ys) rest single = go (x == 45) (y == 45) single
  where
    go : (b d : Bool) → (b && d) ≡ false → (b && (d && bytes_eq ys rest)) ≡ false
    go false d e = refl
    go true false e = refl
    go true true e = absurd (cc)

before_single : (word : Text) → begins_double word ≡ false → begins_double (before_first is_equals word) ≡ false
before_single [] single = refl
before_single (x ∷ xs) single = go (is_equals x) refl
  where
    second : (xs : Text) → begins_double (x ∷ xs) ≡ false → begins_double (x ∷ before_first is_equals xs) ≡ false
    second [] single = refl
    second (y ∷ ys) single = by (is_equals y) refl
      where
        by : (b : Bool) → is_equals y ≡ b → begins_double (x ∷ before_first is_equals (y ∷ ys)) ≡ false
        by true e = rw (before_here y ys e) refl
        by false e = rw (before_later y ys e) single

    go : (b : Bool) → is_equals x ≡ b → begins_double (before_first is_equals (x ∷ xs)) ≡ false
    go true e = rw (before_here x xs e) refl
    go false e = rw (before_later x xs e) (second xs single)

-- such a word is positional at the front, if anything
pub front_single : (word : Text) (parts : WordParts) → begins_double word ≡ false → at_front word parts ≡ with_positional front word parts
front_single word parts single =
    rw (no_match word [] single, no_match word (codes "workers") single, no_match word (codes "mode") single, no_match word (codes "from") single) (go (list_any is_equals word))
  where
    go : (b : Bool) → with_carried word parts (cond b (Some (before_first is_equals word, after_first is_equals word)) None) ≡ with_positional front word parts
    go false = refl
    go true =
        let cut = before_single word single in
        rw (no_match (before_first is_equals word) (codes "workers") cut, no_match (before_first is_equals word) (codes "mode") cut, no_match (before_first is_equals word) (codes "from") cut) refl

-- a word that is neither `--` nor a long option begins so
pub single_from : (word : Text) → bytes_eq word (45 ∷ 45 ∷ []) ≡ false → long_of word ≡ None → begins_double word ≡ false
single_from [] apart none = refl
single_from (x ∷ []) apart none = refl
single_from (x ∷ y ∷ []) apart none = go (x == 45) (y == 45) apart
  where
    go : (b d : Bool) → (b && (d && true)) ≡ false → (b && d) ≡ false
    go true true e = e
    go true false e = refl
    go false d e = refl
single_from (x ∷ y ∷ z ∷ zs) apart none = go (x == 45) (y == 45) refl refl
  where
    go : (b d : Bool) → (x == 45) ≡ b → (y == 45) ≡ d → (b && d) ≡ false
    go true true e f =
        let is : long_of (x ∷ y ∷ z ∷ zs) ≡ Some (name_and_value (z ∷ zs)) = rw (e, f) refl in
        absurd (cc)
    go true false e f = refl
    go false d e f = refl

pub short_begins : (word flags : Text) → short_of word ≡ Some flags → begins_with_dash word ≡ true
short_begins [] flags is = absurd (cc)
short_begins (x ∷ xs) flags is = go (x == 45) refl
  where
    go : (b : Bool) → (x == 45) ≡ b → b ≡ true
    go true e = refl
    go false e =
        let bad : short_of (x ∷ xs) ≡ None = rw e refl in
        absurd (cc)

pub begins_not_plain : (word : Text) → begins_with_dash word ≡ true → can_be_positional word ≡ false
begins_not_plain [] begins = absurd (cc)
begins_not_plain (x ∷ xs) begins = rw begins refl

-- ---- a long option at the front

pub record IsLong (word n : Text) (v : Option Text) : Type 0 where
  pub first : ℕ
  pub rest : Text
  pub is : word ≡ 45 ∷ 45 ∷ first ∷ rest
  pub cut : name_and_value (first ∷ rest) ≡ (n, v)

pub long_word : (word n : Text) (v : Option Text) → long_of word ≡ Some (n, v) → IsLong word n v
long_word [] n v is = absurd (cc)
long_word (x ∷ []) n v is = go (x == 45) refl
  where
    go : (b : Bool) → (x == 45) ≡ b → IsLong (x ∷ []) n v
    go true e =
        let bad : long_of (x ∷ []) ≡ None = rw e refl in
        absurd (cc)
    go false e =
        let bad : long_of (x ∷ []) ≡ None = rw e refl in
        absurd (cc)
long_word (x ∷ y ∷ ys) n v is = go (x == 45) (y == 45) refl refl ys is
  where
    go : (b d : Bool) → (x == 45) ≡ b → (y == 45) ≡ d → (ys : Text) → long_of (x ∷ y ∷ ys) ≡ Some (n, v) → IsLong (x ∷ y ∷ ys) n v
    go true true e f [] is =
        let bad : long_of (x ∷ y ∷ []) ≡ None = rw (e, f) refl in
        absurd (cc)
    go true true e f (z ∷ zs) is =
        let cut : long_of (x ∷ y ∷ z ∷ zs) ≡ Some (name_and_value (z ∷ zs)) = rw (e, f) refl in
        record {
          first = z;
          rest = zs;
          is = ap₂ (λ (a b : ℕ). a ∷ b ∷ z ∷ zs) (eqb-true x 45 e) (eqb-true y 45 f);
          cut = same_Some _ _ (sym cut ∙ is);
        }
    go true false e f ys is =
        let bad : long_of (x ∷ y ∷ ys) ≡ None = rw (e, f) refl in
        absurd (cc)
    go false d e f ys is =
        let bad : long_of (x ∷ y ∷ ys) ≡ None = rw e refl in
        absurd (cc)

has_no_equals : (rest name : Text) → list_any is_equals rest ≡ true → list_any is_equals name ≡ false → bytes_eq rest name ≡ false
has_no_equals rest name has none = go (bytes_eq rest name) refl
  where
    go : (b : Bool) → bytes_eq rest name ≡ b → b ≡ false
    go false e = refl
    go true e =
        let same : list_any is_equals rest ≡ list_any is_equals name = ap (list_any is_equals) (equal_texts rest name e) in
        sym has ∙ same ∙ none

double_front : (y : ℕ) (ys : Text) (parts : WordParts) → at_front (45 ∷ 45 ∷ y ∷ ys) parts ≡ named (name_and_value (y ∷ ys)).0 (name_and_value (y ∷ ys)).1 parts
double_front y ys parts = go (list_any is_equals (y ∷ ys)) refl
  where
    flipped : (n : Text) (a b c d : Option (WordPlace × WordParts)) → cond (bytes_eq n (codes "workers")) a (cond (bytes_eq n (codes "mode")) b (cond (bytes_eq n (codes "from")) c d))
        ≡ cond (bytes_eq (codes "workers") n) a (cond (bytes_eq (codes "mode") n) b (cond (bytes_eq (codes "from") n) c d))
    flipped n a b c d = rw (same_either_way n (codes "workers"), same_either_way n (codes "mode"), same_either_way n (codes "from")) refl

    go : (has : Bool) → list_any is_equals (y ∷ ys) ≡ has
        → cond (bytes_eq (y ∷ ys) (codes "workers")) (Some (workers_value, parts)) (cond (bytes_eq (y ∷ ys) (codes "mode")) (Some (mode_value, parts)) (cond (bytes_eq (y ∷ ys) (codes "from")) (Some (from_value, parts))
        (with_carried (45 ∷ 45 ∷ y ∷ ys) parts (cond has (Some (before_first is_equals (45 ∷ 45 ∷ y ∷ ys), after_first is_equals (45 ∷ 45 ∷ y ∷ ys))) None))))
        ≡ named (before_first is_equals (y ∷ ys)) (cond has (Some (after_first is_equals (y ∷ ys))) None) parts
    go true e =
        let before : before_first is_equals (45 ∷ 45 ∷ y ∷ ys) ≡ 45 ∷ 45 ∷ before_first is_equals (y ∷ ys) =
        before_later 45 (45 ∷ y ∷ ys) refl ∙ ap (λ (t : Text). 45 ∷ t) (before_later 45 (y ∷ ys) refl) in
        let after : after_first is_equals (45 ∷ 45 ∷ y ∷ ys) ≡ after_first is_equals (y ∷ ys) = after_later 45 (45 ∷ y ∷ ys) refl ∙ after_later 45 (y ∷ ys) refl in
        rw (has_no_equals (y ∷ ys) (codes "workers") e refl, has_no_equals (y ∷ ys) (codes "mode") e refl, has_no_equals (y ∷ ys) (codes "from") e refl)
        (ap₂ (λ (b a : Text). with_carried (45 ∷ 45 ∷ y ∷ ys) parts (Some (b, a))) before after
        ∙ flipped (before_first is_equals (y ∷ ys)) (with_workers (after_first is_equals (y ∷ ys)) parts) (with_mode (after_first is_equals (y ∷ ys)) parts) (with_from (after_first is_equals (y ∷ ys)) parts) None)
    go false e =
        flipped (y ∷ ys) (Some (workers_value, parts)) (Some (mode_value, parts)) (Some (from_value, parts)) None ∙ ap (λ (n : Text). named n None parts) (sym (before_none (y ∷ ys) e))

pub long_front : (word n : Text) (v : Option Text) (parts : WordParts) → IsLong word n v → at_front word parts ≡ named n v parts
long_front word n v parts so =
    ap (λ (t : Text). at_front t parts) so.is ∙ double_front so.first so.rest parts ∙ ap (λ (cut : Text × Option Text). named cut.0 cut.1 parts) so.cut
