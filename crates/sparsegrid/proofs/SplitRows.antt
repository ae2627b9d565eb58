-- What rows say after one more use of an option, or one more positional word.
use Rattle.std.proofs.Common.{◌≡◌, Bool, true, false, ◌||◌, cond, List, [], ◌∷◌, ◌++◌, Option, Some, None, refl, ap, ◌∙◌, codes, append-nil}
use Rattle.std.specs.Prelude.{is_some, find, unwrap_or, slice_get, option_and_then, option_map}
use Rattle.std.specs.List.{list_any}
use Rattle.std.specs.Str.{bytes_eq}
use Rattle.std.proofs.lemmas.Bool.{or_parts}
use Rattle.std.proofs.lemmas.Slice.Eq.{bytes_eq-Decides}
use Rattle.clap.specs.Walk.{Row, Text, all_of, at_row, first_of, has_row, more_values, with_values, without}
use Rattle.clap.specs.declared.builder.value_parser.Reading.{Reading}
use Rattle.clap.specs.declared.parser.matches.ValueSource.{ValueSource}
use Rattle.sparsegrid.specs.Words.{WordParts}
use Rattle.sparsegrid.specs.steps.Splitting.{parts_of_rows}

pub equal_texts : (a b : Text) → bytes_eq a b ≡ true → a ≡ b
equal_texts a b same = (bytes_eq-Decides a b).0 same

-- an id that has no row gets one at the end
at_row_absent : (id : Text) (change : Row → List Row) (missing rows : List Row) → has_row id rows ≡ false → at_row id change missing rows ≡ rows ++ missing
at_row_absent id change missing [] none = refl
at_row_absent id change missing (r ∷ rs) none =
    let parts = or_parts (bytes_eq r.id id) (has_row id rs) none in
    rw parts.0 (ap (λ rest. r ∷ rest) (at_row_absent id change missing rs parts.1))

find_behind : (p : Row → Bool) (rows : List Row) (r : Row) → list_any p rows ≡ false → p r ≡ true → find p (rows ++ r ∷ []) ≡ Some r
find_behind p [] r none hit = rw hit refl
find_behind p (x ∷ xs) r none hit =
    let parts = or_parts (p x) (list_any p xs) none in
    rw parts.0 (find_behind p xs r parts.1 hit)

has_behind : (p : Row → Bool) (rows : List Row) (r : Row) → p r ≡ true → list_any p (rows ++ r ∷ []) ≡ true
has_behind p [] r hit = rw hit refl
has_behind p (x ∷ xs) r hit = go (p x) (has_behind p xs r hit)
  where
    go : (b : Bool) → list_any p (xs ++ r ∷ []) ≡ true → (b || list_any p (xs ++ r ∷ [])) ≡ true
    go true e = refl
    go false e = e

-- the first use of an option
pub set_rows : (id : Text) (how : Reading) (s : ValueSource) (vs : List Text) (rows : List Row) → has_row id rows ≡ false
    → with_values id how s vs (without id rows) ≡ rows ++ (record { id = id; values = vs; count = None; source = Some s; reading = how }) ∷ []
set_rows id how s vs rows none =
    let same : without id rows ≡ rows = at_row_absent id (λ _. []) [] rows none ∙ append-nil rows in
    ap (λ rs. with_values id how s vs rs) same ∙ at_row_absent id (more_values s vs) _ rows none

-- rows of another id stay as they are
module _ (id other : Text) (apart : bytes_eq id other ≡ false) (how : Reading) (s : ValueSource) (vs : List Text) where
  pub find_other : (rows : List Row) → find (λ r. bytes_eq r.id other) (with_values id how s vs rows) ≡ find (λ r. bytes_eq r.id other) rows
  find_other [] = rw apart refl
  find_other (r ∷ rs) = go (bytes_eq r.id id) refl (find_other rs)
    where
      go : (b : Bool) → bytes_eq r.id id ≡ b → find (λ x. bytes_eq x.id other) (with_values id how s vs rs) ≡ find (λ x. bytes_eq x.id other) rs
          → find (λ x. bytes_eq x.id other) (cond b (more_values s vs r ++ rs) (r ∷ with_values id how s vs rs)) ≡ cond (bytes_eq r.id other) (Some r) (find (λ x. bytes_eq x.id other) rs)
      go true hit rest =
          let miss : bytes_eq r.id other ≡ false = ap (λ (t : Text). bytes_eq t other) (equal_texts r.id id hit) ∙ apart in
          rw miss refl
      go false none rest = ap (λ (o : Option Row). cond (bytes_eq r.id other) (Some r) o) rest

  pub has_other : (rows : List Row) → has_row other (with_values id how s vs rows) ≡ has_row other rows
  has_other [] = rw apart refl
  has_other (r ∷ rs) = go (bytes_eq r.id id) (has_other rs)
    where
      go : (b : Bool) → has_row other (with_values id how s vs rs) ≡ has_row other rs
          → has_row other (cond b (more_values s vs r ++ rs) (r ∷ with_values id how s vs rs)) ≡ (bytes_eq r.id other || has_row other rs)
      go true rest = refl
      go false rest = ap (λ (b : Bool). bytes_eq r.id other || b) rest

-- one more positional word
pub all_more : (id : Text) (how : Reading) (s : ValueSource) (vs : List Text) (rows : List Row) → bytes_eq id id ≡ true
    → all_of id (with_values id how s vs rows) ≡ Some (unwrap_or (all_of id rows) [] ++ vs)
all_more id how s vs [] same = rw same refl
all_more id how s vs (r ∷ rs) same = go (bytes_eq r.id id) refl (all_more id how s vs rs same)
  where
    go : (b : Bool) → bytes_eq r.id id ≡ b → all_of id (with_values id how s vs rs) ≡ Some (unwrap_or (all_of id rs) [] ++ vs)
        → all_of id (cond b (more_values s vs r ++ rs) (r ∷ with_values id how s vs rs)) ≡ Some (unwrap_or (option_map (λ (x : Row). x.values) (cond b (Some r) (find (λ x. bytes_eq x.id id) rs))) [] ++ vs)
    go true hit rest = rw hit refl
    go false miss rest = rw miss rest

-- the parts that rows show, with which options have a row
pub record Shows (rows : List Row) (parts : WordParts) : Type 0 where
  pub parts_are : parts_of_rows rows ≡ parts
  pub has_workers : has_row (codes "workers") rows ≡ is_some parts.workers
  pub has_mode : has_row (codes "mode") rows ≡ is_some parts.mode
  pub has_from : has_row (codes "from") rows ≡ is_some parts.from

pub shows_workers : (how : Reading) (s : ValueSource) (v : Text) (rows : List Row) (parts : WordParts) → Shows rows parts → is_some parts.workers ≡ false
    → Shows (with_values (codes "workers") how s (v ∷ []) (without (codes "workers") rows)) (record { workers = Some v; mode = parts.mode; from = parts.from; positionals = parts.positionals })
shows_workers how s v rows parts shows none =
    let absent : has_row (codes "workers") rows ≡ false = shows.has_workers ∙ none in
    let is : without (codes "workers") rows ≡ rows = at_row_absent (codes "workers") (λ _. []) [] rows absent ∙ append-nil rows in
    let found : first_of (codes "workers") (rows ++ (record { id = codes "workers"; values = v ∷ []; count = None; source = Some s; reading = how }) ∷ []) ≡ Some v =
    ap (option_and_then (λ (r : Row). slice_get r.values 0)) (find_behind (λ r. bytes_eq r.id (codes "workers")) rows _ absent refl) in
    rw is (record {
      parts_are = λ i. record {
        workers = (ap (first_of (codes "workers")) (at_row_absent (codes "workers") (more_values s (v ∷ [])) _ rows absent) ∙ found) i;
        mode = (ap (option_and_then (λ (r : Row). slice_get r.values 0)) (find_other (codes "workers") (codes "mode") refl how s (v ∷ []) rows) ∙ ap (λ (p : WordParts). p.mode) shows.parts_are) i;
        from = (ap (option_and_then (λ (r : Row). slice_get r.values 0)) (find_other (codes "workers") (codes "from") refl how s (v ∷ []) rows) ∙ ap (λ (p : WordParts). p.from) shows.parts_are) i;
        positionals = (ap (λ (o : Option Row). unwrap_or (option_map (λ (r : Row). r.values) o) []) (find_other (codes "workers") (codes "positionals") refl how s (v ∷ []) rows) ∙ ap (λ (p : WordParts). p.positionals) shows.parts_are) i;
      };
      has_workers = ap (has_row (codes "workers")) (at_row_absent (codes "workers") (more_values s (v ∷ [])) _ rows absent) ∙ has_behind (λ r. bytes_eq r.id (codes "workers")) rows _ refl;
      has_mode = has_other (codes "workers") (codes "mode") refl how s (v ∷ []) rows ∙ shows.has_mode;
      has_from = has_other (codes "workers") (codes "from") refl how s (v ∷ []) rows ∙ shows.has_from;
    })

pub shows_mode : (how : Reading) (s : ValueSource) (v : Text) (rows : List Row) (parts : WordParts) → Shows rows parts → is_some parts.mode ≡ false
    → Shows (with_values (codes "mode") how s (v ∷ []) (without (codes "mode") rows)) (record { workers = parts.workers; mode = Some v; from = parts.from; positionals = parts.positionals })
shows_mode how s v rows parts shows none =
    let absent : has_row (codes "mode") rows ≡ false = shows.has_mode ∙ none in
    let is : without (codes "mode") rows ≡ rows = at_row_absent (codes "mode") (λ _. []) [] rows absent ∙ append-nil rows in
    let found : first_of (codes "mode") (rows ++ (record { id = codes "mode"; values = v ∷ []; count = None; source = Some s; reading = how }) ∷ []) ≡ Some v =
    ap (option_and_then (λ (r : Row). slice_get r.values 0)) (find_behind (λ r. bytes_eq r.id (codes "mode")) rows _ absent refl) in
    rw is (record {
      parts_are = λ i. record {
        workers = (ap (option_and_then (λ (r : Row). slice_get r.values 0)) (find_other (codes "mode") (codes "workers") refl how s (v ∷ []) rows) ∙ ap (λ (p : WordParts). p.workers) shows.parts_are) i;
        mode = (ap (first_of (codes "mode")) (at_row_absent (codes "mode") (more_values s (v ∷ [])) _ rows absent) ∙ found) i;
        from = (ap (option_and_then (λ (r : Row). slice_get r.values 0)) (find_other (codes "mode") (codes "from") refl how s (v ∷ []) rows) ∙ ap (λ (p : WordParts). p.from) shows.parts_are) i;
        positionals = (ap (λ (o : Option Row). unwrap_or (option_map (λ (r : Row). r.values) o) []) (find_other (codes "mode") (codes "positionals") refl how s (v ∷ []) rows) ∙ ap (λ (p : WordParts). p.positionals) shows.parts_are) i;
      };
      has_workers = has_other (codes "mode") (codes "workers") refl how s (v ∷ []) rows ∙ shows.has_workers;
      has_mode = ap (has_row (codes "mode")) (at_row_absent (codes "mode") (more_values s (v ∷ [])) _ rows absent) ∙ has_behind (λ r. bytes_eq r.id (codes "mode")) rows _ refl;
      has_from = has_other (codes "mode") (codes "from") refl how s (v ∷ []) rows ∙ shows.has_from;
    })

pub shows_from : (how : Reading) (s : ValueSource) (v : Text) (rows : List Row) (parts : WordParts) → Shows rows parts → is_some parts.from ≡ false
    → Shows (with_values (codes "from") how s (v ∷ []) (without (codes "from") rows)) (record { workers = parts.workers; mode = parts.mode; from = Some v; positionals = parts.positionals })
shows_from how s v rows parts shows none =
    let absent : has_row (codes "from") rows ≡ false = shows.has_from ∙ none in
    let is : without (codes "from") rows ≡ rows = at_row_absent (codes "from") (λ _. []) [] rows absent ∙ append-nil rows in
    let found : first_of (codes "from") (rows ++ (record { id = codes "from"; values = v ∷ []; count = None; source = Some s; reading = how }) ∷ []) ≡ Some v =
    ap (option_and_then (λ (r : Row). slice_get r.values 0)) (find_behind (λ r. bytes_eq r.id (codes "from")) rows _ absent refl) in
    rw is (record {
      parts_are = λ i. record {
        workers = (ap (option_and_then (λ (r : Row). slice_get r.values 0)) (find_other (codes "from") (codes "workers") refl how s (v ∷ []) rows) ∙ ap (λ (p : WordParts). p.workers) shows.parts_are) i;
        mode = (ap (option_and_then (λ (r : Row). slice_get r.values 0)) (find_other (codes "from") (codes "mode") refl how s (v ∷ []) rows) ∙ ap (λ (p : WordParts). p.mode) shows.parts_are) i;
        from = (ap (first_of (codes "from")) (at_row_absent (codes "from") (more_values s (v ∷ [])) _ rows absent) ∙ found) i;
        positionals = (ap (λ (o : Option Row). unwrap_or (option_map (λ (r : Row). r.values) o) []) (find_other (codes "from") (codes "positionals") refl how s (v ∷ []) rows) ∙ ap (λ (p : WordParts). p.positionals) shows.parts_are) i;
      };
      has_workers = has_other (codes "from") (codes "workers") refl how s (v ∷ []) rows ∙ shows.has_workers;
      has_mode = has_other (codes "from") (codes "mode") refl how s (v ∷ []) rows ∙ shows.has_mode;
      has_from = ap (has_row (codes "from")) (at_row_absent (codes "from") (more_values s (v ∷ [])) _ rows absent) ∙ has_behind (λ r. bytes_eq r.id (codes "from")) rows _ refl;
    })

pub shows_positional : (how : Reading) (s : ValueSource) (v : Text) (rows : List Row) (parts : WordParts) → Shows rows parts
    → Shows (with_values (codes "positionals") how s (v ∷ []) rows) (record { workers = parts.workers; mode = parts.mode; from = parts.from; positionals = parts.positionals ++ v ∷ [] })
shows_positional how s v rows parts shows = record {
  parts_are = λ i. record {
    workers = (ap (option_and_then (λ (r : Row). slice_get r.values 0)) (find_other (codes "positionals") (codes "workers") refl how s (v ∷ []) rows) ∙ ap (λ (p : WordParts). p.workers) shows.parts_are) i;
    mode = (ap (option_and_then (λ (r : Row). slice_get r.values 0)) (find_other (codes "positionals") (codes "mode") refl how s (v ∷ []) rows) ∙ ap (λ (p : WordParts). p.mode) shows.parts_are) i;
    from = (ap (option_and_then (λ (r : Row). slice_get r.values 0)) (find_other (codes "positionals") (codes "from") refl how s (v ∷ []) rows) ∙ ap (λ (p : WordParts). p.from) shows.parts_are) i;
    positionals = (ap (λ (o : Option (List Text)). unwrap_or o []) (all_more (codes "positionals") how s (v ∷ []) rows refl) ∙ ap (λ (p : WordParts). p.positionals ++ v ∷ []) shows.parts_are) i;
  };
  has_workers = has_other (codes "positionals") (codes "workers") refl how s (v ∷ []) rows ∙ shows.has_workers;
  has_mode = has_other (codes "positionals") (codes "mode") refl how s (v ∷ []) rows ∙ shows.has_mode;
  has_from = has_other (codes "positionals") (codes "from") refl how s (v ∷ []) rows ∙ shows.has_from;
}
