-- What each call leaves of the lists.
use Rattle.std.proofs.Common.{◌≡◌, ◌≢◌, ℕ, zero, suc, ◌+◌, ◌-◌, ◌<◌, ◌≤◌, ◌^◌, List, [], ◌∷◌, ◌++◌, length, set, get_or, drop, refl, sym, ap, ◌∙◌, subst, arith, inl, inr}
use Rattle.std.specs.Prelude.{slice_get, Some, None, replicate, ◌⊎◌}
use Rattle.std.proofs.lemmas.Option.{same_Some, slice_get-get_or}
use Rattle.std.proofs.lemmas.List.Sums.{sum_by-cons}
use Rattle.std.proofs.lemmas.Bool.{cases_eq, cases_lt}
use Rattle.std.proofs.lemmas.List.{length-set, length-append, get_or-set_same, get_or-set_other, set-get_or, append-nil, get_or_past, drop_more, length-replicate, get_or-replicate}
use Rattle.sg_links.specs.declared.head.Head.{Head}
use Rattle.sg_links.specs.Lists.{Lists, times, times_in_lists, list_of, with_list, empty_lists, AreDisjoint}
use Rattle.sg_links.specs.steps.Rows.{IsPath, IsLinked, AreLinked, no_head}
use Rattle.sg_links.proofs.Times.{times-append, times_same, times_other, times-cons, times_in_set, times_at, times_two, short}
use Rattle.sg_links.proofs.Paths.{path_set}
use Rattle.sg_links.proofs.Kept.{AreKept, within_of, changed, untouched, last_once, linked_set, started, joined}

-- ── One number more ──

-- a number of no list, alone
pub alone : (next : List ℕ) (x : ℕ) (h : Head) → x < length next → h ≡ record { first = x; last = x; len = 1 } → IsLinked (set next x (length next)) h (x ∷ [])
alone next x h below is =
    let rest : List ℕ = set next x (length next) in
    let leads : get_or rest x 0 ≡ length rest = get_or-set_same next x (length next) 0 below ∙ sym (length-set next x (length next)) in
    let path : IsPath rest x (x ∷ []) (length rest) = (refl, leads) in
    record {
      as_long = ap (λ g. g.len) is ∙ omega arith;
      path = subst (λ s. IsPath rest s (x ∷ []) (length rest)) (sym (ap (λ g. g.first) is)) path;
      last = λ some. ap (λ g. g.last) is ∙ refl;
    }

pub one_more : (n : ℕ) (lists : List (List ℕ)) (x : ℕ) → AreDisjoint (record { numbers = n; lists = lists }) → times_in_lists x lists ≡ 0 → (z : ℕ) → times_in_lists z lists + times z (x ∷ []) ≤ 1
one_more n lists x disjoint free z = elim (cases_eq x z) [
  | inl same ↦
      let none : times_in_lists z lists ≡ 0 = subst (λ k. times_in_lists k lists ≡ 0) same free in
      let one : times z (x ∷ []) ≡ 1 + times z [] = subst (λ k. times z (k ∷ []) ≡ 1 + times z []) (sym same) (times_same z []) in
      omega arith
  | inr other ↦
      let least : times_in_lists z lists ≤ 1 = disjoint.once z in
      omega (arith, times_other z x [] other)
]

pub only_that : (n x : ℕ) → x < n → (z : ℕ) → 0 < times z (x ∷ []) → z < n
only_that n x below z has = elim (cases_eq x z) [
  | inl same ↦ subst (λ k. k < n) same below
  | inr other ↦ absurd (let none : times z (x ∷ []) ≡ times z [] = times_other z x [] other in omega arith)
]

pub pushed_back_first : (l : Lists) (next rest : List ℕ) (heads others : List Head) (head x : ℕ) (old new : Head) → AreKept l next heads → head < length l.lists → x < l.numbers → times_in_lists x l.lists ≡ 0 → old ≡ get_or heads head no_head → old.len ≡ 0 → new ≡ record { first = x; last = x; len = 1 } → rest ≡ set next x (length next) → others ≡ set heads head new → AreKept (with_list l head (list_of l head ++ x ∷ [])) rest others
pushed_back_first l next rest heads others head x old new kept there below free is none made rest_is others_is =
    let row : List ℕ = set next x (length next) in
    let same : length row ≡ length next = length-set next x (length next) in
    let linked : AreLinked row heads l.lists = untouched next heads l.lists x (length next) kept.linked free in
    let inside : x < length row = omega (arith, kept.numbers) in
    let long : length (get_or l.lists head []) ≡ 0 = sym (ap (λ h. h.len) is ∙ (kept.linked.linked head there).as_long) ∙ none in
    let after : AreLinked row (set heads head new) (set l.lists head (list_of l head ++ x ∷ [])) =
    started row heads l.lists head new (x ∷ []) linked there long (alone next x new (omega (arith, kept.numbers)) made) (one_more (length row) l.lists x linked.disjoint free) (only_that (length row) x inside) in
    record {
      linked = subst (λ r. AreLinked r others (set l.lists head (list_of l head ++ x ∷ []))) (sym rest_is) (subst (λ o. AreLinked row o (set l.lists head (list_of l head ++ x ∷ []))) (sym others_is) after);
      numbers = ap length rest_is ∙ same ∙ kept.numbers;
    }

pub pushed_back : (l : Lists) (next row rest : List ℕ) (heads others : List Head) (head x : ℕ) (old new : Head) → AreKept l next heads → head < length l.lists → x < l.numbers → times_in_lists x l.lists ≡ 0 → old ≡ get_or heads head no_head → old.len ≢ 0 → new ≡ record { first = old.first; last = x; len = old.len + 1 } → row ≡ set next x (length next) → rest ≡ set row old.last x → others ≡ set heads head new → AreKept (with_list l head (list_of l head ++ x ∷ [])) rest others
pushed_back l next row rest heads others head x old new kept there below free is some made row_is rest_is others_is =
    let r : List ℕ = set next x (length next) in
    let same : length r ≡ length next = length-set next x (length next) in
    let linked : AreLinked r heads l.lists = untouched next heads l.lists x (length next) kept.linked free in
    let inside : x < length r = omega (arith, kept.numbers) in
    let more : Head = record { first = x; last = x; len = 1 } in
    let long : old.len ≡ length (get_or l.lists head []) = ap (λ h. h.len) is ∙ (kept.linked.linked head there).as_long in
    let after : AreLinked (set r old.last x) (set heads head new) (set l.lists head (list_of l head ++ x ∷ [])) =
    joined r heads l.lists head old more new (x ∷ []) linked there is (omega arith) (alone next x more (omega (arith, kept.numbers)) refl) (omega arith) (one_more (length r) l.lists x linked.disjoint free) (only_that (length r) x inside) made in
    let rest_is_that : rest ≡ set r old.last x = rest_is ∙ ap (λ w. set w old.last x) row_is in
    record {
      linked = subst (λ r. AreLinked r others (set l.lists head (list_of l head ++ x ∷ []))) (sym rest_is_that) (subst (λ o. AreLinked (set r old.last x) o (set l.lists head (list_of l head ++ x ∷ []))) (sym others_is) after);
      numbers = ap length rest_is_that ∙ length-set r old.last x ∙ same ∙ kept.numbers;
    }

-- how long a list with more numbers can be
pub longer : (l : Lists) (next : List ℕ) (heads : List Head) (head : ℕ) (ys : List ℕ) → AreKept l next heads → head < length l.lists → ((x : ℕ) → times x (list_of l head) + times x ys ≤ 1) → ((x : ℕ) → 0 < times x ys → x < l.numbers) → length (list_of l head) + length ys < 2 ^ 32
longer l next heads head ys kept there once below =
    let list : List ℕ = list_of l head in
    let within : length (list ++ ys) ≤ l.numbers = short l.numbers (list ++ ys) (λ x. omega (arith, times-append x list ys, once x)) (λ x has. elim (cases_eq (times x ys) 0) [
      | inl none ↦ omega (arith, kept.numbers, kept.linked.disjoint.below x (omega (arith, times-append x list ys, times_at x l.lists head there)))
      | inr some ↦ below x (omega arith)
    ]) in
    omega (arith, length-append list ys, kept.linked.few, kept.numbers)

pub longer_by_one : (l : Lists) (next : List ℕ) (heads : List Head) (head x : ℕ) (old : Head) → AreKept l next heads → head < length l.lists → x < l.numbers → times_in_lists x l.lists ≡ 0 → old ≡ get_or heads head no_head → old.len + 1 < 2 ^ 32
longer_by_one l next heads head x old kept there below free is =
    let long : old.len ≡ length (get_or l.lists head []) = ap (λ h. h.len) is ∙ (kept.linked.linked head there).as_long in
    let some : length (list_of l head) + length (x ∷ []) < 2 ^ 32 = longer l next heads head (x ∷ []) kept there (λ z. omega (arith, one_more (length next) l.lists x kept.linked.disjoint free z, times_at z l.lists head there)) (only_that l.numbers x below) in
    omega arith

-- the last number that a head names is one of the numbers
pub last_below : (l : Lists) (next : List ℕ) (heads : List Head) (head : ℕ) (old : Head) → AreKept l next heads → head < length l.lists → old ≡ get_or heads head no_head → old.len ≢ 0 → old.last < length next
last_below l next heads head old kept there is some =
    let mine : IsLinked next old (list_of l head) = subst (λ h. IsLinked next h (list_of l head)) (sym is) (kept.linked.linked head there) in
    let long : 0 < length (list_of l head) = omega (arith, mine.as_long) in
    let counted = last_once (length next) l.lists head old.last kept.linked.disjoint there long (mine.last long) in
    kept.linked.disjoint.below old.last (omega (arith, counted.1, times_at old.last l.lists head there))

-- ── A number in front ──

fronted : (next rest : List ℕ) (heads : List Head) (lists : List (List ℕ)) (head x : ℕ) (old new : Head) → AreLinked next heads lists → head < length lists → x < length next → times_in_lists x lists ≡ 0 → old ≡ get_or heads head no_head → rest ≡ set next x old.first → new.first ≡ x → new.len ≡ old.len + 1 → new.last ≡ get_or (x ∷ get_or lists head []) (length (get_or lists head [])) 0 → AreLinked rest (set heads head new) (set lists head (x ∷ get_or lists head []))
fronted next rest heads lists head x old new linked there below free is rest_is first_is len_is last_is =
    let list : List ℕ = get_or lists head [] in
    let mine : IsLinked next old list = subst (λ h. IsLinked next h list) (sym is) (linked.linked head there) in
    let row : List ℕ = set next x old.first in
    let same : length row ≡ length next = length-set next x old.first in
    let absent : times x list ≡ 0 = omega (arith, times_at x lists head there) in
    let leads : get_or row x 0 ≡ old.first = get_or-set_same next x old.first 0 below in
    let further : IsPath row old.first list (length row) = subst (λ n. IsPath row old.first list n) (sym same) (path_set next old.first list (length next) x old.first mine.path absent) in
    let path : IsPath row x (x ∷ list) (length row) = (refl, subst (λ s. IsPath row s list (length row)) (sym leads) further) in
    let count : (z : ℕ) → times_in_lists z (set lists head (x ∷ list)) ≡ times_in_lists z lists + times z (x ∷ []) = λ z. omega (arith, times_in_set z lists head (x ∷ list) there, times-append z (x ∷ []) list) in
    let one : IsLinked row new (x ∷ list) = record {
      as_long = omega (arith, mine.as_long);
      path = subst (λ s. IsPath row s (x ∷ list) (length row)) (sym first_is) path;
      last = λ some. last_is ∙ ap (λ k. get_or (x ∷ list) k 0) (omega arith);
    } in
    subst (λ r. AreLinked r (set heads head new) (set lists head (x ∷ list))) (sym rest_is)
    (changed next row heads lists head new (x ∷ list) linked same there one
    (λ i within other. linked_set next (get_or heads i no_head) (get_or lists i []) x old.first (linked.linked i within) (omega (arith, times_at x lists i within)))
    (λ z. omega (arith, count z, one_more (length next) lists x linked.disjoint free z))
    (λ z has. within_of next lists z (x ∷ []) linked.disjoint (omega (arith, count z)) (only_that (length next) x below)))

front_kept : (l : Lists) (next rest : List ℕ) (heads others : List Head) (head x : ℕ) (old new : Head) → AreKept l next heads → head < length l.lists → x < l.numbers → times_in_lists x l.lists ≡ 0 → old ≡ get_or heads head no_head → rest ≡ set next x old.first → others ≡ set heads head new → new.first ≡ x → new.len ≡ old.len + 1 → new.last ≡ get_or (x ∷ list_of l head) (length (list_of l head)) 0 → AreKept (with_list l head (x ∷ list_of l head)) rest others
front_kept l next rest heads others head x old new kept there below free is rest_is others_is first_is len_is last_is = record {
  linked = subst (λ o. AreLinked rest o (set l.lists head (x ∷ list_of l head))) (sym others_is) (fronted next rest heads l.lists head x old new kept.linked there (omega (arith, kept.numbers)) free is rest_is first_is len_is last_is);
  numbers = ap length rest_is ∙ length-set next x old.first ∙ kept.numbers;
}

pub long_is : (l : Lists) (next : List ℕ) (heads : List Head) (head : ℕ) (old : Head) → AreKept l next heads → head < length l.lists → old ≡ get_or heads head no_head → old.len ≡ length (list_of l head)
long_is l next heads head old kept there is = ap (λ h. h.len) is ∙ (kept.linked.linked head there).as_long

mine_is : (l : Lists) (next : List ℕ) (heads : List Head) (head : ℕ) (old : Head) → AreKept l next heads → head < length l.lists → old ≡ get_or heads head no_head → IsLinked next old (list_of l head)
mine_is l next heads head old kept there is = subst (λ h. IsLinked next h (list_of l head)) (sym is) (kept.linked.linked head there)

pub pushed_front_first : (l : Lists) (next rest : List ℕ) (heads others : List Head) (head x : ℕ) (old new : Head) → AreKept l next heads → head < length l.lists → x < l.numbers → times_in_lists x l.lists ≡ 0 → old ≡ get_or heads head no_head → old.len ≡ 0 → new ≡ record { first = x; last = x; len = 1 } → rest ≡ set next x old.first → others ≡ set heads head new → AreKept (with_list l head (x ∷ list_of l head)) rest others
pushed_front_first l next rest heads others head x old new kept there below free is none made rest_is others_is =
    let long : length (list_of l head) ≡ 0 = sym (long_is l next heads head old kept there is) ∙ none in
    let at : get_or (x ∷ list_of l head) (length (list_of l head)) 0 ≡ x = ap (λ k. get_or (x ∷ list_of l head) k 0) long in
    front_kept l next rest heads others head x old new kept there below free is rest_is others_is
    (ap (λ h. h.first) made) (ap (λ h. h.len) made ∙ omega arith) (ap (λ h. h.last) made ∙ sym at)

pub pushed_front : (l : Lists) (next rest : List ℕ) (heads others : List Head) (head x : ℕ) (old new : Head) → AreKept l next heads → head < length l.lists → x < l.numbers → times_in_lists x l.lists ≡ 0 → old ≡ get_or heads head no_head → old.len ≢ 0 → new ≡ record { first = x; last = old.last; len = old.len + 1 } → rest ≡ set next x old.first → others ≡ set heads head new → AreKept (with_list l head (x ∷ list_of l head)) rest others
pushed_front l next rest heads others head x old new kept there below free is some made rest_is others_is =
    let list : List ℕ = list_of l head in
    let mine : IsLinked next old list = mine_is l next heads head old kept there is in
    let long : 0 < length list = omega (arith, mine.as_long) in
    let at : get_or (x ∷ list) (length list) 0 ≡ get_or list (length list - 1) 0 = let one_less : length list ≡ suc (length list - 1) = omega arith in ap (λ k. get_or (x ∷ list) k 0) one_less in
    front_kept l next rest heads others head x old new kept there below free is rest_is others_is
    (ap (λ h. h.first) made) (ap (λ h. h.len) made) (ap (λ h. h.last) made ∙ mine.last long ∙ sym at)

-- ── The first number out ──

first_path : (next : List ℕ) (x : ℕ) (xs : List ℕ) (end : ℕ) → IsPath next x xs end → 0 < length xs → IsPath next (get_or next x 0) (drop 1 xs) end × (slice_get xs 0 ≡ Some x)
first_path next x [] end path some = absurd (omega arith)
first_path next x (y ∷ ys) end path some = (path.1, ap Some path.0)

last_of_rest : (xs : List ℕ) → 0 < length (drop 1 xs) → get_or xs (length xs - 1) 0 ≡ get_or (drop 1 xs) (length (drop 1 xs) - 1) 0
last_of_rest [] some = absurd (omega arith)
last_of_rest (y ∷ ys) some =
    let one_less : length (y ∷ ys) - 1 ≡ suc (length ys - 1) = omega arith in
    ap (λ k. get_or (y ∷ ys) k 0) one_less

times_rest : (x : ℕ) (xs : List ℕ) → times x (drop 1 xs) ≤ times x xs
times_rest x [] = omega arith
times_rest x (y ∷ ys) = omega (arith, times-cons x y ys)

length_rest : (xs : List ℕ) → length (drop 1 xs) ≡ length xs - 1
length_rest [] = omega arith
length_rest (y ∷ ys) = omega arith

-- the first number of a list that has some
pub first_is : (l : Lists) (next : List ℕ) (heads : List Head) (head : ℕ) (old : Head) → AreKept l next heads → head < length l.lists → old ≡ get_or heads head no_head → old.len ≢ 0 → slice_get (list_of l head) 0 ≡ Some old.first
first_is l next heads head old kept there is some =
    let mine : IsLinked next old (list_of l head) = mine_is l next heads head old kept there is in
    (first_path next old.first (list_of l head) (length next) mine.path (omega (arith, mine.as_long))).1

-- a number that stands in a list stands there some times
pub stands : (xs : List ℕ) (k x : ℕ) → slice_get xs k ≡ Some x → 0 < times x xs
stands [] k x is = cc
stands (y ∷ ys) zero x is =
    let same : y ≡ x = cc in
    subst (λ z. 0 < times z (y ∷ ys)) same (omega (arith, times_same y ys))
stands (y ∷ ys) (suc k) x is = omega (arith, stands ys k x is, times-cons x y ys)

pub first_below : (l : Lists) (next : List ℕ) (heads : List Head) (head : ℕ) (old : Head) → AreKept l next heads → head < length l.lists → old ≡ get_or heads head no_head → old.len ≢ 0 → old.first < length next
first_below l next heads head old kept there is some =
    kept.linked.disjoint.below old.first (omega (arith, stands (list_of l head) 0 old.first (first_is l next heads head old kept there is some), times_at old.first l.lists head there))

pub popped : (l : Lists) (next : List ℕ) (heads others : List Head) (head : ℕ) (old new : Head) → AreKept l next heads → head < length l.lists → old ≡ get_or heads head no_head → old.len ≢ 0 → new ≡ record { first = get_or next old.first 0; last = old.last; len = old.len - 1 } → others ≡ set heads head new → AreKept (with_list l head (drop 1 (list_of l head))) next others
popped l next heads others head old new kept there is some made others_is =
    let list : List ℕ = list_of l head in
    let rest : List ℕ = drop 1 list in
    let mine : IsLinked next old list = mine_is l next heads head old kept there is in
    let long : 0 < length list = omega (arith, mine.as_long) in
    let path = first_path next old.first list (length next) mine.path long in
    let one : IsLinked next new rest = record {
      as_long = ap (λ h. h.len) made ∙ omega (arith, mine.as_long, length_rest list);
      path = subst (λ s. IsPath next s rest (length next)) (sym (ap (λ h. h.first) made)) path.0;
      last = λ more. ap (λ h. h.last) made ∙ mine.last long ∙ last_of_rest list more;
    } in
    let count : (z : ℕ) → times_in_lists z (set l.lists head rest) ≤ times_in_lists z l.lists = λ z. omega (arith, times_in_set z l.lists head rest there, times_rest z list) in
    record {
      linked = subst (λ o. AreLinked next o (set l.lists head rest)) (sym others_is) (changed next next heads l.lists head new rest kept.linked refl there one (λ i within other. kept.linked.linked i within) (λ z. omega (arith, count z, kept.linked.disjoint.once z)) (λ z has. kept.linked.disjoint.below z (omega (arith, count z))));
      numbers = kept.numbers;
    }

-- an empty list, written back as it was
pub same_list : (l : Lists) (head : ℕ) (list : List ℕ) → list ≡ list_of l head → l ≡ with_list l head list
same_list l head list same =
    let put : List (List ℕ) → Lists = λ lists. record { numbers = l.numbers; lists = lists } in
    sym (ap put (ap (set l.lists head) same ∙ set-get_or l.lists head []))

empty_is : (xs : List ℕ) → length xs ≡ 0 → xs ≡ []
empty_is [] none = refl
empty_is (y ∷ ys) none = absurd (omega arith)

pub popped_none : (l : Lists) (next : List ℕ) (heads : List Head) (head : ℕ) (old : Head) → AreKept l next heads → head < length l.lists → old ≡ get_or heads head no_head → old.len ≡ 0 → l ≡ with_list l head (drop 1 (list_of l head))
popped_none l next heads head old kept there is none =
    let nothing : list_of l head ≡ [] = empty_is (list_of l head) (sym (long_is l next heads head old kept there is) ∙ none) in
    same_list l head (drop 1 (list_of l head)) (ap (drop 1) nothing ∙ sym nothing)

-- ── One list after another ──

emptied : (next : List ℕ) (heads : List Head) (lists : List (List ℕ)) (from : ℕ) (empty : Head) → AreLinked next heads lists → from < length lists → empty ≡ record { first = length next; last = length next; len = 0 } → AreLinked next (set heads from empty) (set lists from [])
emptied next heads lists from empty linked there is =
    let count : (z : ℕ) → times_in_lists z (set lists from []) + times z (get_or lists from []) ≡ times_in_lists z lists + times z [] = λ z. times_in_set z lists from [] there in
    let one : IsLinked next empty [] = record { as_long = ap (λ h. h.len) is; path = ap (λ h. h.first) is; last = λ some. absurd (omega arith) } in
    changed next next heads lists from empty [] linked refl there one (λ i within other. linked.linked i within) (λ z. omega (arith, count z, linked.disjoint.once z)) (λ z has. linked.disjoint.below z (omega (arith, count z)))

-- the lists after `from` has gone to the end of another
abbrev pub spliced : Lists → ℕ → ℕ → Lists
spliced l head from = with_list (with_list l from []) head (list_of l head ++ list_of l from)

pub spliced_none : (l : Lists) (next : List ℕ) (heads : List Head) (head from : ℕ) (more : Head) → AreKept l next heads → from < length l.lists → more ≡ get_or heads from no_head → more.len ≡ 0 → l ≡ spliced l head from
spliced_none l next heads head from more kept there is none =
    let nothing : list_of l from ≡ [] = empty_is (list_of l from) (sym (long_is l next heads from more kept there is) ∙ none) in
    let first : l ≡ with_list l from [] = same_list l from [] (sym nothing) in
    let whole : list_of l head ++ list_of l from ≡ list_of l head = ap (λ xs. list_of l head ++ xs) nothing ∙ append-nil (list_of l head) in
    let second : l ≡ with_list l head (list_of l head ++ list_of l from) = same_list l head (list_of l head ++ list_of l from) whole in
    second ∙ ap (λ (m : Lists). with_list m head (list_of l head ++ list_of l from)) first

once_apart : (n : ℕ) (lists : List (List ℕ)) (from x : ℕ) → AreDisjoint (record { numbers = n; lists = lists }) → from < length lists → times_in_lists x (set lists from []) + times x (get_or lists from []) ≤ 1
once_apart n lists from x disjoint there =
    let least : times_in_lists x lists ≤ 1 = disjoint.once x in
    omega (arith, times_in_set x lists from [] there)

pub spliced_first : (l : Lists) (next : List ℕ) (heads without others : List Head) (head from : ℕ) (old more empty : Head) → AreKept l next heads → head < length l.lists → from < length l.lists → head ≢ from → old ≡ get_or heads head no_head → old.len ≡ 0 → more ≡ get_or heads from no_head → empty ≡ record { first = length next; last = length next; len = 0 } → without ≡ set heads from empty → others ≡ set without head more → AreKept (spliced l head from) next others
spliced_first l next heads without others head from old more empty kept there from_there apart is none more_is empty_is without_is others_is =
    let lists : List (List ℕ) = set l.lists from [] in
    let ys : List ℕ = list_of l from in
    let linked : AreLinked next (set heads from empty) lists = emptied next heads l.lists from empty kept.linked from_there empty_is in
    let here : head < length lists = omega (arith, length-set {A = List ℕ} l.lists from []) in
    let list_is : get_or lists head [] ≡ list_of l head = get_or-set_other l.lists from head [] [] apart in
    let long : length (get_or lists head []) ≡ 0 = ap length list_is ∙ sym (long_is l next heads head old kept there is) ∙ none in
    let after : AreLinked next (set (set heads from empty) head more) (set lists head (get_or lists head [] ++ ys)) =
    started next (set heads from empty) lists head more ys linked here long (mine_is l next heads from more kept from_there more_is)
    (λ x. once_apart (length next) l.lists from x kept.linked.disjoint from_there)
    (λ x has. kept.linked.disjoint.below x (omega (arith, times_at x l.lists from from_there))) in
    record {
      linked = subst (λ o. AreLinked next o (set lists head (list_of l head ++ ys))) (sym (others_is ∙ ap (λ w. set w head more) without_is)) (subst (λ xs. AreLinked next (set (set heads from empty) head more) (set lists head (xs ++ ys))) list_is after);
      numbers = kept.numbers;
    }

pub spliced_behind : (l : Lists) (next rest : List ℕ) (heads without others : List Head) (head from : ℕ) (old more empty both : Head) → AreKept l next heads → head < length l.lists → from < length l.lists → head ≢ from → old ≡ get_or heads head no_head → old.len ≢ 0 → more ≡ get_or heads from no_head → more.len ≢ 0 → empty ≡ record { first = length next; last = length next; len = 0 } → both ≡ record { first = old.first; last = more.last; len = old.len + more.len } → rest ≡ set next old.last more.first → without ≡ set heads from empty → others ≡ set without head both → AreKept (spliced l head from) rest others
spliced_behind l next rest heads without others head from old more empty both kept there from_there apart is some more_is many empty_is made rest_is without_is others_is =
    let lists : List (List ℕ) = set l.lists from [] in
    let ys : List ℕ = list_of l from in
    let fewer : List Head = set heads from empty in
    let linked : AreLinked next fewer lists = emptied next heads l.lists from empty kept.linked from_there empty_is in
    let here : head < length lists = omega (arith, length-set {A = List ℕ} l.lists from []) in
    let list_is : get_or lists head [] ≡ list_of l head = get_or-set_other l.lists from head [] [] apart in
    let head_is : old ≡ get_or fewer head no_head = is ∙ sym (get_or-set_other heads from head empty no_head apart) in
    let long : length (get_or lists head []) ≡ old.len = ap length list_is ∙ sym (long_is l next heads head old kept there is) in
    let from_is : IsLinked next more ys = mine_is l next heads from more kept from_there more_is in
    let after : AreLinked (set next old.last more.first) (set fewer head both) (set lists head (get_or lists head [] ++ ys)) =
    joined next fewer lists head old more both ys linked here head_is (omega arith) from_is (omega (arith, from_is.as_long))
    (λ x. once_apart (length next) l.lists from x kept.linked.disjoint from_there)
    (λ x has. kept.linked.disjoint.below x (omega (arith, times_at x l.lists from from_there))) made in
    let whole : AreLinked (set next old.last more.first) (set fewer head both) (set lists head (list_of l head ++ ys)) =
    subst (λ xs. AreLinked (set next old.last more.first) (set fewer head both) (set lists head (xs ++ ys))) list_is after in
    record {
      linked = subst (λ r. AreLinked r others (set lists head (list_of l head ++ ys))) (sym rest_is) (subst (λ o. AreLinked (set next old.last more.first) o (set lists head (list_of l head ++ ys))) (sym (others_is ∙ ap (λ w. set w head both) without_is)) whole);
      numbers = ap length rest_is ∙ length-set next old.last more.first ∙ kept.numbers;
    }

pub both_short : (l : Lists) (next : List ℕ) (heads : List Head) (head from : ℕ) (old more : Head) → AreKept l next heads → head < length l.lists → from < length l.lists → head ≢ from → old ≡ get_or heads head no_head → more ≡ get_or heads from no_head → old.len + more.len < 2 ^ 32
both_short l next heads head from old more kept there from_there apart is more_is =
    let some = longer l next heads head (list_of l from) kept there (λ x. omega (arith, times_two x l.lists head from there from_there apart, kept.linked.disjoint.once x)) (λ x has. omega (arith, kept.numbers, kept.linked.disjoint.below x (omega (arith, times_at x l.lists from from_there)))) in
    omega (arith, long_is l next heads head old kept there is, long_is l next heads from more kept from_there more_is, some)

-- ── Numbers after numbers ──

path_after : (next : List ℕ) (x : ℕ) (xs : List ℕ) (end k y : ℕ) → IsPath next x xs end → slice_get xs k ≡ Some y → ((slice_get xs (suc k) ≡ None) × (get_or next y 0 ≡ end)) ⊎ ((w : ℕ) × (slice_get xs (suc k) ≡ Some w) × (get_or next y 0 ≡ w))
path_after next x [] end k y path is = cc
path_after next x (z ∷ []) end zero y path is =
    let same : x ≡ y = sym path.0 ∙ same_Some z y is in
    inl (refl, ap (λ s. get_or next s 0) (sym same) ∙ path.1)
path_after next x (z ∷ w ∷ ws) end zero y path is =
    let same : x ≡ y = sym path.0 ∙ same_Some z y is in
    inr (w, refl, ap (λ s. get_or next s 0) (sym same) ∙ sym path.1.0)
path_after next x (z ∷ zs) end (suc k) y path is = path_after next (get_or next x 0) zs end k y path.1 is

-- what the row says of a number that stands in some list
pub next_is : (l : Lists) (next : List ℕ) (heads : List Head) (x following : ℕ) → AreKept l next heads → following ≡ get_or next x 0 → (head place : ℕ) → slice_get (list_of l head) place ≡ Some x → ((following ≡ length next) × (slice_get (list_of l head) (place + 1) ≡ None)) ⊎ ((following < length next) × (slice_get (list_of l head) (place + 1) ≡ Some following))
next_is l next heads x following kept is head place at = elim (cases_lt head (length l.lists)) [
  | inl there ↦
      let list : List ℕ = list_of l head in
      let one : IsLinked next (get_or heads head no_head) list = kept.linked.linked head there in
      let more : suc place ≡ place + 1 = omega arith in
      elim (path_after next (get_or heads head no_head).first list (length next) place x one.path at) [
        | inl over ↦ inl (is ∙ over.1, ap (slice_get list) (sym more) ∙ over.0)
        | inr goes ↦
            let some : slice_get list (place + 1) ≡ Some following = ap (slice_get list) (sym more) ∙ goes.1 ∙ ap Some (sym goes.2 ∙ sym is) in
            inr (kept.linked.disjoint.below following (omega (arith, stands list (place + 1) following some, times_at following l.lists head there)), some)
      ]
  | inr past ↦
      let nothing : list_of l head ≡ [] = get_or_past l.lists head [] past in
      let none : slice_get (list_of l head) place ≡ None = ap (λ xs. slice_get xs place) nothing in
      absurd (cc (none, at))
]

pub goes_on : (l : Lists) (next : List ℕ) (heads : List Head) (x following : ℕ) → AreKept l next heads → following ≡ get_or next x 0 → following ≢ length next → (head place : ℕ) → slice_get (list_of l head) place ≡ Some x → Some following ≡ slice_get (list_of l head) (place + 1)
goes_on l next heads x following kept is other head place at = elim (next_is l next heads x following kept is head place at) [
  | inl over ↦ absurd (other over.0)
  | inr goes ↦ sym goes.1
]

pub ends_there : (l : Lists) (next : List ℕ) (heads : List Head) (x following : ℕ) → AreKept l next heads → following ≡ get_or next x 0 → following ≡ length next → (head place : ℕ) → slice_get (list_of l head) place ≡ Some x → None ≡ slice_get (list_of l head) (place + 1)
ends_there l next heads x following kept is same head place at = elim (next_is l next heads x following kept is head place at) [
  | inl over ↦ sym over.1
  | inr goes ↦ absurd (omega (arith, goes.0))
]

-- ── A walk along a list ──

pub walk_starts : (l : Lists) (next : List ℕ) (heads : List Head) (head : ℕ) (old : Head) → AreKept l next heads → head < length l.lists → old ≡ get_or heads head no_head → IsPath next old.first (list_of l head) (length next)
walk_starts l next heads head old kept there is = (mine_is l next heads head old kept there is).path

pub walk_at : (next : List ℕ) (x : ℕ) (xs : List ℕ) (end k : ℕ) → IsPath next x (drop k xs) end → k < length xs → x ≡ get_or xs k 0
walk_at next x xs end k path within =
    let here : drop k xs ≡ get_or xs k 0 ∷ drop (k + 1) xs = drop_more xs k 0 within in
    let moved : IsPath next x (get_or xs k 0 ∷ drop (k + 1) xs) end = subst (λ ys. IsPath next x ys end) here path in
    sym moved.0

pub walk_step : (next : List ℕ) (x : ℕ) (xs : List ℕ) (end k : ℕ) → IsPath next x (drop k xs) end → k < length xs → IsPath next (get_or next x 0) (drop (k + 1) xs) end
walk_step next x xs end k path within =
    let here : drop k xs ≡ get_or xs k 0 ∷ drop (k + 1) xs = drop_more xs k 0 within in
    let moved : IsPath next x (get_or xs k 0 ∷ drop (k + 1) xs) end = subst (λ ys. IsPath next x ys end) here path in
    moved.1

pub walk_below : (l : Lists) (next : List ℕ) (heads : List Head) (head x k : ℕ) → AreKept l next heads → head < length l.lists → IsPath next x (drop k (list_of l head)) (length next) → k < length (list_of l head) → x < length next
walk_below l next heads head x k kept there path within =
    let list : List ℕ = list_of l head in
    let at : x ≡ get_or list k 0 = walk_at next x list (length next) k path within in
    let found : slice_get list k ≡ Some x = slice_get-get_or list k 0 within ∙ ap Some (sym at) in
    kept.linked.disjoint.below x (omega (arith, stands list k x found, times_at x l.lists head there))

-- ── At the start ──

none_in_empty : (x heads : ℕ) → times_in_lists x (replicate heads []) ≡ 0
none_in_empty x zero = refl
none_in_empty x (suc heads) = omega (arith, sum_by-cons {X = List ℕ} (times x) [] (replicate heads []), none_in_empty x heads)

pub made : (numbers count : ℕ) (next : List ℕ) (heads : List Head) (empty : Head) → numbers < 2 ^ 32 → count < 2 ^ 32 → next ≡ replicate numbers numbers → heads ≡ replicate count empty → empty ≡ record { first = numbers; last = numbers; len = 0 } → AreKept (empty_lists numbers count) next heads
made numbers count next heads empty few few_heads next_is heads_is is =
    let row : List ℕ = replicate numbers numbers in
    let ends : List Head = replicate count empty in
    let long : length row ≡ numbers = length-replicate numbers numbers in
    let many : length (replicate count []) ≡ count = length-replicate {A = List ℕ} count [] in
    let linked : AreLinked row ends (replicate count []) = record {
      as_many = length-replicate count empty ∙ sym many;
      linked = λ i within.
          let head_is : get_or ends i no_head ≡ empty = get_or-replicate count i empty no_head (omega arith) in
          let list_is : get_or (replicate count []) i [] ≡ [] = get_or-replicate {A = List ℕ} count i [] [] (omega arith) in
          let one : IsLinked row empty [] = record { as_long = ap (λ h. h.len) is; path = ap (λ h. h.first) is ∙ sym long; last = λ some. absurd (omega arith) } in
          subst (λ h. IsLinked row h (get_or (replicate count []) i [])) (sym head_is) (subst (λ xs. IsLinked row empty xs) (sym list_is) one);
      disjoint = record { once = λ x. omega (arith, none_in_empty x count); below = λ x has. absurd (omega (arith, none_in_empty x count)) };
      few = omega arith;
      few_heads = omega (arith, length-replicate count empty);
    } in
    record {
      linked = subst (λ r. AreLinked r heads (replicate count [])) (sym next_is) (subst (λ hs. AreLinked row hs (replicate count [])) (sym heads_is) linked);
      numbers = ap length next_is ∙ long;
    }
