-- Lists that a row and heads keep, and how one list more stands after another.
use Rattle.std.proofs.Common.{◌≡◌, ◌≢◌, ℕ, ◌+◌, ◌-◌, ◌<◌, ◌≤◌, Bool, false, List, [], ◌∷◌, ◌++◌, length, set, get_or, take, refl, sym, ap, ◌∙◌, subst, arith, inl, inr, append_assoc}
use Rattle.std.proofs.lemmas.Bool.{cases_eq}
use Rattle.std.proofs.lemmas.List.{length-set, length-append, length-map, get_or-map, get_or-set_same, get_or-set_other, get_or-append-add, ext_get_or}
use Rattle.sg_links.specs.declared.head.Head.{Head}
use Rattle.sg_links.specs.Lists.{Lists, times, times_in_lists, AreDisjoint}
use Rattle.sg_links.specs.Heads.{numbers_along, lists_of}
use Rattle.sg_links.specs.steps.Rows.{IsPath, IsLinked, AreLinked, AreInOrder, no_head}
use Rattle.sg_links.proofs.Times.{times-append, times_same, times_in_set, times_at, times_two}
use Rattle.sg_links.proofs.Paths.{path_set, path_join, walk_path, split_last}

abbrev pub head_of : ℕ → ℕ → ℕ → Head
head_of first last len = record { first = first; last = last; len = len }

-- the row and the heads keep these lists
pub record AreKept (l : Lists) (next : List ℕ) (heads : List Head) : Type 0 where
  pub linked : AreLinked next heads l.lists
  pub numbers : length next ≡ l.numbers

walked : (next : List ℕ) (heads : List Head) (lists : List (List ℕ)) → AreLinked next heads lists → lists_of next heads ≡ lists
walked next heads lists linked =
    let view : Head → List ℕ = λ h. numbers_along next h.first h.len in
    let many : length (lists_of next heads) ≡ length lists = length-map heads view ∙ linked.as_many in
    ext_get_or [] (lists_of next heads) lists many (λ i below.
    let there : i < length lists = omega arith in
    let one = linked.linked i there in
    let h : Head = get_or heads i no_head in
    let at : get_or (lists_of next heads) i [] ≡ view h = get_or-map view heads i no_head [] (omega (arith, linked.as_many)) in
    at ∙ ap (numbers_along next h.first) one.as_long ∙ walk_path next h.first (get_or lists i []) (length next) one.path)

-- so they are what contracts see
pub kept_seen : (l : Lists) (next : List ℕ) (heads : List Head) → AreKept l next heads → record { numbers = length next; lists = lists_of next heads } ≡ l
kept_seen l next heads kept =
    let seen : ℕ → List (List ℕ) → Lists = λ n lists. record { numbers = n; lists = lists } in
    ap (λ n. seen n (lists_of next heads)) kept.numbers ∙ ap (seen l.numbers) (walked next heads l.lists kept.linked)

pub kept_invariant : (l : Lists) (next : List ℕ) (heads : List Head) → AreKept l next heads → AreLinked next heads (lists_of next heads)
kept_invariant l next heads kept =
    subst (λ lists. AreLinked next heads lists) (sym (walked next heads l.lists kept.linked)) kept.linked

-- other lists, as many and over as many numbers, that are not arranged
pub in_order : (l m : Lists) (next rest : List ℕ) (heads others : List Head) (starts order : List ℕ) (arranged : Bool) → AreInOrder next heads starts order arranged → AreKept l next heads → AreKept m rest others → length m.lists ≡ length l.lists → m.numbers ≡ l.numbers → AreInOrder rest others starts order false
in_order l m next rest heads others starts order arranged before kept after many numbers = record {
  linked = kept_invariant m rest others after;
  starts_many = omega (arith, before.starts_many, kept.linked.as_many, after.linked.as_many);
  order_many = omega (arith, before.order_many, kept.numbers, after.numbers);
  laid = λ is. absurd (cc is);
}

pub kept_from : (l : Lists) (next : List ℕ) (heads : List Head) → AreLinked next heads (lists_of next heads) → record { numbers = length next; lists = lists_of next heads } ≡ l → AreKept l next heads
kept_from l next heads linked is =
    subst (λ (m : Lists). AreKept m next heads) is (record { linked = linked; numbers = refl })

-- a list whose numbers the change does not touch
pub linked_set : (next : List ℕ) (h : Head) (xs : List ℕ) (y v : ℕ) → IsLinked next h xs → times y xs ≡ 0 → IsLinked (set next y v) h xs
linked_set next h xs y v one none = record {
  as_long = one.as_long;
  path = subst (λ n. IsPath (set next y v) h.first xs n) (sym (length-set next y v)) (path_set next h.first xs (length next) y v one.path none);
  last = one.last;
}

-- one list changes, and the others stay
pub changed : (next rest : List ℕ) (heads : List Head) (lists : List (List ℕ)) (head : ℕ) (h : Head) (list : List ℕ) → AreLinked next heads lists → length rest ≡ length next → head < length lists → IsLinked rest h list → ((i : ℕ) → i < length lists → i ≢ head → IsLinked rest (get_or heads i no_head) (get_or lists i [])) → ((x : ℕ) → times_in_lists x (set lists head list) ≤ 1) → ((x : ℕ) → 0 < times_in_lists x (set lists head list) → x < length next) → AreLinked rest (set heads head h) (set lists head list)
changed next rest heads lists head h list linked same there one others once below = record {
  as_many = omega (arith, length-set heads head h, length-set lists head list, linked.as_many);
  linked = λ i within. elim (cases_eq i head) [
    | inl here ↦
        let inside : head < length heads = omega (arith, linked.as_many) in
        let new_head : get_or (set heads head h) i no_head ≡ h = ap (λ k. get_or (set heads head h) k no_head) here ∙ get_or-set_same heads head h no_head inside in
        let new_list : get_or (set lists head list) i [] ≡ list = ap (λ k. get_or (set lists head list) k []) here ∙ get_or-set_same lists head list [] there in
        subst (λ g. IsLinked rest g (get_or (set lists head list) i [])) (sym new_head) (subst (λ xs. IsLinked rest h xs) (sym new_list) one)
    | inr other ↦
        let old_head : get_or (set heads head h) i no_head ≡ get_or heads i no_head = get_or-set_other heads head i h no_head other in
        let old_list : get_or (set lists head list) i [] ≡ get_or lists i [] = get_or-set_other lists head i list [] other in
        subst (λ g. IsLinked rest g (get_or (set lists head list) i [])) (sym old_head) (subst (λ xs. IsLinked rest (get_or heads i no_head) xs) (sym old_list) (others i (omega (arith, length-set lists head list)) other))
  ];
  disjoint = record { once = once; below = λ x has. omega (arith, below x has) };
  few = omega (arith, linked.few);
  few_heads = omega (arith, linked.few_heads, length-set heads head h);
}

-- what comes after a number of no list changes
pub untouched : (next : List ℕ) (heads : List Head) (lists : List (List ℕ)) (y v : ℕ) → AreLinked next heads lists → times_in_lists y lists ≡ 0 → AreLinked (set next y v) heads lists
untouched next heads lists y v linked free = record {
  as_many = linked.as_many;
  linked = λ i within. linked_set next (get_or heads i no_head) (get_or lists i []) y v (linked.linked i within) (omega (arith, times_at y lists i within));
  disjoint = record { once = linked.disjoint.once; below = λ x has. omega (arith, length-set next y v, linked.disjoint.below x has) };
  few = omega (arith, linked.few, length-set next y v);
  few_heads = linked.few_heads;
}

-- the last number of a list that has some
pub last_once : (n : ℕ) (lists : List (List ℕ)) (head y : ℕ) → AreDisjoint (record { numbers = n; lists = lists }) → head < length lists → 0 < length (get_or lists head []) → y ≡ get_or (get_or lists head []) (length (get_or lists head []) - 1) 0 → (times y (take (length (get_or lists head []) - 1) (get_or lists head [])) ≡ 0) × (times y (get_or lists head []) ≡ 1)
last_once n lists head y disjoint there some is =
    let list : List ℕ = get_or lists head [] in
    let front : List ℕ = take (length list - 1) list in
    let split : list ≡ front ++ y ∷ [] = split_last list some ∙ ap (λ z. front ++ z ∷ []) (sym is) in
    let counted : times y list ≡ times y (front ++ y ∷ []) = ap (times y) split in
    let apart : times y (front ++ y ∷ []) ≡ times y front + times y (y ∷ []) = times-append y front (y ∷ []) in
    let one : times y (y ∷ []) ≡ 1 + times y [] = times_same y [] in
    let most : times y list ≤ times_in_lists y lists = times_at y lists head there in
    let least : times_in_lists y lists ≤ 1 = disjoint.once y in
    (omega arith, omega arith)

-- what stands in one list stands in no other
elsewhere : (n : ℕ) (lists : List (List ℕ)) (i head y : ℕ) → AreDisjoint (record { numbers = n; lists = lists }) → i < length lists → head < length lists → i ≢ head → times y (get_or lists head []) ≡ 1 → times y (get_or lists i []) ≡ 0
elsewhere n lists i head y disjoint within there other one =
    let least : times_in_lists y lists ≤ 1 = disjoint.once y in
    omega (arith, times_two y lists i head within there other)

-- ── One list after another ──

nothing : (list ys : List ℕ) → length list ≡ 0 → list ++ ys ≡ ys
nothing [] ys none = refl
nothing (z ∷ zs) ys none = absurd (omega arith)

-- what stands in the lists or in further numbers is one of the numbers
pub within_of : (next : List ℕ) (lists : List (List ℕ)) (x : ℕ) (ys : List ℕ) → AreDisjoint (record { numbers = length next; lists = lists }) → 0 < times_in_lists x lists + times x ys → ((x : ℕ) → 0 < times x ys → x < length next) → x < length next
within_of next lists x ys disjoint has below = elim (cases_eq (times_in_lists x lists) 0) [
  | inl none ↦ below x (omega arith)
  | inr some ↦ disjoint.below x (omega arith)
]

-- more numbers, in no list, begin an empty list
pub started : (next : List ℕ) (heads : List Head) (lists : List (List ℕ)) (head : ℕ) (more : Head) (ys : List ℕ) → AreLinked next heads lists → head < length lists → length (get_or lists head []) ≡ 0 → IsLinked next more ys → ((x : ℕ) → times_in_lists x lists + times x ys ≤ 1) → ((x : ℕ) → 0 < times x ys → x < length next) → AreLinked next (set heads head more) (set lists head (get_or lists head [] ++ ys))
started next heads lists head more ys linked there none one once below =
    let list : List ℕ = get_or lists head [] in
    let alone : list ++ ys ≡ ys = nothing list ys none in
    let count : (x : ℕ) → times_in_lists x (set lists head ys) + times x list ≡ times_in_lists x lists + times x ys = λ x. times_in_set x lists head ys there in
    subst (λ xs. AreLinked next (set heads head more) (set lists head xs)) (sym alone)
    (changed next next heads lists head more ys linked refl there one (λ i within other. linked.linked i within) (λ x. omega (arith, count x, once x)) (λ x has. within_of next lists x ys linked.disjoint (omega (arith, count x)) below))

-- more numbers, in no list, go after the last of a list
pub joined : (next : List ℕ) (heads : List Head) (lists : List (List ℕ)) (head : ℕ) (old more both : Head) (ys : List ℕ) → AreLinked next heads lists → head < length lists → old ≡ get_or heads head no_head → 0 < length (get_or lists head []) → IsLinked next more ys → 0 < length ys → ((x : ℕ) → times_in_lists x lists + times x ys ≤ 1) → ((x : ℕ) → 0 < times x ys → x < length next) → both ≡ record { first = old.first; last = more.last; len = old.len + more.len } → AreLinked (set next old.last more.first) (set heads head both) (set lists head (get_or lists head [] ++ ys))
joined next heads lists head old more both ys linked there is some one many once below made =
    let list : List ℕ = get_or lists head [] in
    let mine : IsLinked next old list = subst (λ h. IsLinked next h list) (sym is) (linked.linked head there) in
    let y : ℕ = old.last in
    let front : List ℕ = take (length list - 1) list in
    let at_end : y ≡ get_or list (length list - 1) 0 = mine.last some in
    let split : list ≡ front ++ y ∷ [] = split_last list some ∙ ap (λ z. front ++ z ∷ []) (sym at_end) in
    let counted = last_once (length next) lists head y linked.disjoint there some at_end in
    let here : y < length next = linked.disjoint.below y (omega (arith, counted.1, times_at y lists head there)) in
    let apart : times y ys ≡ 0 = omega (arith, counted.1, times_at y lists head there, once y) in
    let rest : List ℕ = set next y more.first in
    let same : length rest ≡ length next = length-set next y more.first in
    let further : IsPath rest more.first ys (length next) = path_set next more.first ys (length next) y more.first one.path apart in
    let path : IsPath next old.first (front ++ y ∷ []) (length next) = subst (λ xs. IsPath next old.first xs (length next)) split mine.path in
    let whole : IsPath rest old.first (front ++ y ∷ ys) (length next) = path_join next old.first front y (length next) more.first ys (length next) path counted.0 here further in
    let list_is : front ++ y ∷ ys ≡ list ++ ys = sym (append_assoc front (y ∷ []) ys) ∙ ap (λ xs. xs ++ ys) (sym split) in
    let count : (x : ℕ) → times_in_lists x (set lists head (list ++ ys)) ≡ times_in_lists x lists + times x ys = λ x. omega (arith, times_in_set x lists head (list ++ ys) there, times-append x list ys) in
    let end_is : get_or (list ++ ys) (length (list ++ ys) - 1) 0 ≡ get_or ys (length ys - 1) 0 =
    ap (λ k. get_or (list ++ ys) k 0) (omega (arith, length-append list ys)) ∙ get_or-append-add list ys (length ys - 1) 0 in
    let long : both.len ≡ length (list ++ ys) = ap (λ h. h.len) made ∙ omega (arith, length-append list ys, mine.as_long, one.as_long) in
    let both_linked : IsLinked rest both (list ++ ys) = record {
      as_long = long;
      path = subst (λ n. IsPath rest both.first (list ++ ys) n) (sym same) (subst (λ x. IsPath rest x (list ++ ys) (length next)) (sym (ap (λ h. h.first) made)) (subst (λ xs. IsPath rest old.first xs (length next)) list_is whole));
      last = λ long. ap (λ h. h.last) made ∙ one.last many ∙ sym end_is;
    } in
    changed next rest heads lists head both (list ++ ys) linked same there both_linked
    (λ i within other. linked_set next (get_or heads i no_head) (get_or lists i []) y more.first (linked.linked i within) (elsewhere (length next) lists i head y linked.disjoint within there other counted.1))
    (λ x. omega (arith, count x, once x))
    (λ x has. within_of next lists x ys linked.disjoint (omega (arith, count x)) below)
