-- The changes between two sound states of links are sound lines.
use Rattle.std.proofs.Common.{◌≡◌, ◌⊎◌, inl, inr, ℕ, zero, suc, ◌<◌, ◌≤◌, Bool, true, false, not, List, [], ◌∷◌, ◌++◌, length, map, get_or, Option, Some, None, refl, sym, ap, ◌∙◌, subst, arith}
use Rattle.std.specs.Prelude.{filter, Contains, option_and_then, ◌||◌, ◌↔◌}
use Rattle.std.specs.List.{list_any}
use Rattle.std.proofs.lemmas.Bool.{both_ways, cond-true, and_parts, not-true, eqb-true, eq-eqb, lt-ltb}
use Rattle.std.proofs.lemmas.Option.{option_and_then_some}
use Rattle.std.proofs.lemmas.List.Elements.{Contains-get_or}
use Rattle.sg_journal.specs.declared.lines.Link.{Link}
use Rattle.sg_journal.specs.declared.lines.Line.{Line}
use Rattle.sg_journal.specs.declared.lines.Line.TheVariants.{Take}
use Rattle.sg_journal.specs.declared.rooms.Room.{Room}
use Rattle.sg_journal.specs.Journal.{Rooms, has_number, has_node, has_parent, count_at, is_held, is_taken, is_below, is_child, take_fits, is_sound_take, is_sound_free, follow, held_after}
use Rattle.sg_journal.specs.LineLaws.{EachOnce}
use Rattle.sg_journal.specs.steps.Soundness.{Fits, AreSound, ChildrenFirst, ParentsFirst, free_of, LineChangesAreSound}
use Rattle.sg_journal.proofs.Once.{number_key, slot_key, or_of, and_of, absent, number_back, none_left, apart_left, one_of_key}
use Rattle.sg_words.proofs.Uses.{contains_none, contains_head, contains_rest, contains_cases, from_filter, into_filter}
use Rattle.sg_journal.proofs.Lists.{fewer}

-- ---- tests

or_left : (a b : Bool) → a ≡ true → (a || b) ≡ true
or_left true b e = refl
or_left false b e = absurd (both_ways false refl e)

or_right : (a b : Bool) → b ≡ true → (a || b) ≡ true
or_right true b e = refl
or_right false b e = e

pub false_of : (b : Bool) → (b ≡ true → ⊥) → b ≡ false
false_of true never = absurd (never refl)
false_of false never = refl

pub not_of : (b : Bool) → b ≡ false → not b ≡ true
not_of true e = absurd (both_ways true e refl)
not_of false e = refl

pub any_of : (p : Link → Bool) (xs : List Link) (x : Link) → Contains xs x → p x ≡ true → list_any p xs ≡ true
any_of p [] x has passes = absurd (contains_none x has)
any_of p (y ∷ ys) x (zero, below, same) passes = or_left (p y) (list_any p ys) (ap p same ∙ passes)
any_of p (y ∷ ys) x (suc k, below, same) passes = or_right (p y) (list_any p ys) (any_of p ys x (k, omega arith, same) passes)

abbrev pub Found : (Link → Bool) → List Link → Type 0
Found p xs = (x : Link) × Contains xs x × (p x ≡ true)

pub any_found : (p : Link → Bool) (xs : List Link) → list_any p xs ≡ true → Found p xs
any_found p [] e = absurd (both_ways false refl e)
any_found p (x ∷ xs) e = by_case (p x) refl (any_found p xs) where
  by_case : (b : Bool) → p x ≡ b → (list_any p xs ≡ true → Found p xs) → Found p (x ∷ xs)
  by_case true h rest = (x, contains_head x x xs refl, h)
  by_case false h rest =
      let later : list_any p xs ≡ true = subst (λ (c : Bool). (c || list_any p xs) ≡ true) h e in
      let found = rest later in
      (found.0, contains_rest found.0 x xs found.1, found.2)

pub own_number : (x : Link) → number_key x x ≡ true
own_number x = and_of _ _ (eq-eqb x.layout x.layout refl) (and_of _ _ (eq-eqb x.node x.node refl) (eq-eqb x.number x.number refl))

-- ---- counts

pub apart_pairs : (xs : List Link) → EachOnce xs → (i j : ℕ) (d : Link) → i < j → j < length xs → get_or xs i d ≡ get_or xs j d → ⊥
apart_pairs [] once i j d before below e = omega arith
apart_pairs (x ∷ xs) once zero zero d before below e = omega arith
apart_pairs (x ∷ xs) once zero (suc j) d before below e =
    absent (number_key x) xs (get_or xs j d) once.0 (Contains-get_or xs j d (omega arith)) (subst (λ (z : Link). number_key x z ≡ true) e (own_number x))
apart_pairs (x ∷ xs) once (suc i) zero d before below e = omega arith
apart_pairs (x ∷ xs) once (suc i) (suc j) d before below e = apart_pairs xs once.1 i j d (omega arith) (omega arith) e

pub once_left : (keeps : Link → Bool) (xs : List Link) → EachOnce xs → EachOnce (filter keeps xs)
once_left keeps xs once = apart_left number_key keeps xs once

-- one more of a node than is held of it is at most as many as there are
room_left : (held news : List Link) (t : Link) → EachOnce held → ((x : Link) → Contains held x → Contains news x) → Contains news t
    → is_held held t.layout t.node t.number ≡ false → count_at held t.layout t.node < count_at news t.layout t.node
room_left held news t once within there free =
    let p : Link → Bool = has_node t.layout t.node in
    let mine : has_node t.layout t.node t ≡ true = and_of _ _ (eq-eqb t.layout t.layout refl) (eq-eqb t.node t.node refl) in
    let each : EachOnce (t ∷ filter (has_node t.layout t.node) held) = (none_left (number_key t) p held free, once_left p held once) in
    let partner : (x : Link) → Contains (t ∷ filter (has_node t.layout t.node) held) x → (y : Link) × Contains (filter (has_node t.layout t.node) news) y × (x ≡ y) =
    λ x has. elim (contains_cases x t (filter (has_node t.layout t.node) held) has) [
      | inl same ↦ (x, subst (λ (z : Link). Contains (filter (has_node t.layout t.node) news) z) same (into_filter p news t there mine), refl)
      | inr rest ↦ let parts = from_filter p held x rest in (x, into_filter p news x (within x parts.0) parts.1, refl)
    ] in
    let few : length (t ∷ filter (has_node t.layout t.node) held) ≤ length (filter (has_node t.layout t.node) news) =
    fewer (λ (x y : Link). x ≡ y) (t ∷ filter (has_node t.layout t.node) held) (filter (has_node t.layout t.node) news) (apart_pairs (t ∷ filter (has_node t.layout t.node) held) each) partner (λ a b y pa pb ra rb. ra ∙ sym rb) in
    omega arith

-- ---- one take

take_is_sound : (rooms : Rooms) (news held : List Link) (t : Link) → AreSound rooms news → EachOnce held → ((x : Link) → Contains held x → Contains news x) → Contains news t
    → is_held held t.layout t.node t.number ≡ false → (fits : Fits rooms news t) → has_parent held t.layout fits.room.above t.parent ≡ true
    → is_sound_take rooms held t ≡ true
take_is_sound rooms news held t sound once within there free fits parent =
    let untaken : is_taken held t.layout t.node t.parent t.slot ≡ false = false_of _ (λ taken.
    let found = any_found (slot_key t) held taken in
    let same : t ≡ found.0 = sound.once.slots t found.0 there (within found.0 found.1) found.2 in
    both_ways _ free (any_of (number_key t) held found.0 found.1 (subst (λ (z : Link). number_key t z ≡ true) same (own_number t)))) in
    let few : count_at held t.layout t.node < count_at news t.layout t.node = room_left held news t once within there free in
    ap (take_fits held t) fits.is
    ∙ and_of _ _ (lt-ltb t.number fits.room.places fits.place)
    (and_of _ _ (not_of _ free)
    (and_of _ _ (not_of _ untaken)
    (and_of _ _ (lt-ltb (count_at held t.layout t.node) fits.room.cap (omega (arith, few, fits.few)))
    (and_of _ _ parent (lt-ltb t.slot fits.room.slots fits.slot)))))

-- ---- all takes

parent_held : (rooms : Rooms) (news held ts : List Link) (t : Link) (room : Room) (above : Option ℕ) → rooms t.layout t.node ≡ Some room → room.above ≡ above
    → ((x : Link) → Contains news x → Contains held x ⊎ Contains ts x) → ((y : Link) → Contains ts y → is_child rooms y.layout y.node y.number t ≡ false)
    → (parent : ℕ) → t.parent ≡ parent → has_parent news t.layout above parent ≡ true → has_parent held t.layout above parent ≡ true
parent_held rooms news held ts t room None is at there none parent same e = e
parent_held rooms news held ts t room (Some above) is at there none zero same e = e
parent_held rooms news held ts t room (Some above) is at there none (suc number) same e =
    let found = any_found (has_number t.layout above number) news e in
    let y : Link = found.0 in
    elim (there y found.1) [
      | inl here ↦ any_of (has_number t.layout above number) held y here found.2
      | inr later ↦
          let one = and_parts _ _ found.2 in
          let two = and_parts _ _ one.1 in
          let below : is_below (rooms t.layout t.node) y.node ≡ true =
          ap (λ (r : Option Room). is_below r y.node) is ∙ ap (λ (a : Option ℕ). is_below (Some (record room { above = a })) y.node) at ∙ eq-eqb above y.node (sym (eqb-true y.node above two.0)) in
          let child : is_child rooms y.layout y.node y.number t ≡ true =
          and_of _ _ (eq-eqb t.layout y.layout (sym (eqb-true y.layout t.layout one.0)))
          (and_of _ _ below (eq-eqb t.parent (suc y.number) (same ∙ ap suc (sym (eqb-true y.number number two.1))))) in
          absurd (both_ways _ (none y later) child)
    ]

abbrev Taken : Rooms → List Link → List Link → Type 0
Taken rooms held ts = (last : List Link) × (held_after rooms held (map Take ts) ≡ Some last) × EachOnce last × ((x : Link) → Contains last x ↔ (Contains held x ⊎ Contains ts x))

takes_go : (rooms : Rooms) (news : List Link) → AreSound rooms news → (ts held : List Link) → EachOnce ts → ParentsFirst rooms ts
    → ((x : Link) → Contains ts x → Contains news x) → ((x : Link) → Contains ts x → is_held held x.layout x.node x.number ≡ false) → EachOnce held
    → ((x : Link) → Contains held x → Contains news x) → ((x : Link) → Contains news x → Contains held x ⊎ Contains ts x) → Taken rooms held ts
takes_go rooms news sound [] held apart first new free once within there =
    (held, refl, once, λ x. (λ h. inl h, λ s. elim s [ inl h ↦ h | inr h ↦ absurd (contains_none x h) ]))
takes_go rooms news sound (t ∷ ts) held apart first new free once within there =
    let here : Contains (t ∷ ts) t = contains_head t t ts refl in
    let fits : Fits rooms news t = sound.fit t (new t here) in
    let parent : has_parent held t.layout fits.room.above t.parent ≡ true = parent_held rooms news held (t ∷ ts) t fits.room fits.room.above fits.is refl there first.0 t.parent refl fits.parent in
    let is : is_sound_take rooms held t ≡ true = take_is_sound rooms news held t sound once within (new t here) (free t here) fits parent in
    let step : follow rooms held (Take t) ≡ Some (t ∷ held) = cond-true (is_sound_take rooms held t) (let out : Option (List Link) = Some (t ∷ held) in out) None is in
    let rest = takes_go rooms news sound ts (t ∷ held) apart.1 first.1
    (λ x has. new x (contains_rest x t ts has))
    (λ x has. or_of _ _ (false_of _ (λ e. absent (number_key t) ts x apart.0 has (number_back x t e))) (free x (contains_rest x t ts has)))
    (free t here, once)
    (λ x has. elim (contains_cases x t held has) [ inl same ↦ subst (λ (z : Link). Contains news z) same (new t here) | inr h ↦ within x h ])
    (λ x has. elim (there x has) [ inl h ↦ inl (contains_rest x t held h) | inr h ↦ elim (contains_cases x t ts h) [ inl same ↦ inl (contains_head x t held same) | inr l ↦ inr l ] ]) in (
      rest.0,
      ap (λ (o : Option (List Link)). option_and_then (λ (next : List Link). held_after rooms next (map Take ts)) o) step ∙ rest.1,
      rest.2,
      λ x. (
        λ h. elim ((rest.3 x).0 h) [ inl l ↦ elim (contains_cases x t held l) [ inl same ↦ inr (contains_head x t ts same) | inr m ↦ inl m ] | inr l ↦ inr (contains_rest x t ts l) ],
        λ s. (rest.3 x).1 (elim s [ inl l ↦ inl (contains_rest x t held l) | inr l ↦ elim (contains_cases x t ts l) [ inl same ↦ inl (contains_head x t held same) | inr m ↦ inr m ] ]),
      ),
    )

-- ---- one free

-- the parent of a link at the nearest node above is held
parent_of : (links : List Link) (layout node number : ℕ) (above : Option ℕ) (parent : ℕ) → is_below (Some (record { places = 0; cap = 0; slots = 0; above = above })) node ≡ true → parent ≡ suc number
    → has_parent links layout above parent ≡ true → is_held links layout node number ≡ true
parent_of links layout node number None parent at same e = absurd (both_ways false refl at)
parent_of links layout node number (Some above) parent at same e =
    subst (λ (n : ℕ). is_held links layout n number ≡ true) (eqb-true above node at) (subst (λ (q : ℕ). has_parent links layout (Some above) q ≡ true) same e)

-- where a child of a link is among the new ones, so is the link
parent_is_new : (rooms : Rooms) (olds news : List Link) (f c : Link) → AreSound rooms news
    → ((x y : Link) → Contains olds x → Contains news y → has_number x.layout x.node x.number y ≡ true → x ≡ y)
    → Contains olds f → Contains news c → is_child rooms f.layout f.node f.number c ≡ true → Contains news f
parent_is_new rooms olds news f c sound stay old new child =
    let fits = sound.fit c new in
    let one = and_parts _ _ child in
    let two = and_parts _ _ one.1 in
    let layouts : c.layout ≡ f.layout = eqb-true c.layout f.layout one.0 in
    let below : is_below (Some fits.room) f.node ≡ true = subst (λ (r : Option Room). is_below r f.node ≡ true) fits.is two.0 in
    let there : is_held news c.layout f.node f.number ≡ true = parent_of news c.layout f.node f.number fits.room.above c.parent below (eqb-true c.parent (suc f.number) two.1) fits.parent in
    let found = any_found (has_number c.layout f.node f.number) news there in
    let y : Link = found.0 in
    let key : has_number f.layout f.node f.number y ≡ true = subst (λ (l : ℕ). has_number l f.node f.number y ≡ true) layouts found.2 in
    subst (λ (z : Link). Contains news z) (sym (stay f y old found.1 key)) found.1

free_is_sound : (rooms : Rooms) (olds news held fs : List Link) (f : Link) → AreSound rooms news
    → ((x y : Link) → Contains olds x → Contains news y → has_number x.layout x.node x.number y ≡ true → x ≡ y)
    → Contains olds f → ¬ Contains news f → Contains held f → ((x : Link) → Contains held x → Contains news x ⊎ Contains fs x)
    → list_any (is_child rooms f.layout f.node f.number) fs ≡ false → is_sound_free rooms held f.layout f.node f.number ≡ true
free_is_sound rooms olds news held fs f sound stay old gone has within none =
    and_of _ _ (any_of (number_key f) held f has (own_number f))
    (not_of _ (false_of _ (λ child.
    let found = any_found (is_child rooms f.layout f.node f.number) held child in
    let c : Link = found.0 in
    elim (within c found.1) [
      | inl new ↦ gone (parent_is_new rooms olds news f c sound stay old new found.2)
      | inr later ↦ both_ways _ none (any_of (is_child rooms f.layout f.node f.number) fs c later found.2)
    ])))

-- ---- all frees

abbrev Freed : Rooms → List Link → List Link → Type 0
Freed rooms held fs =
    (next : List Link) × (held_after rooms held (map free_of fs) ≡ Some next) × EachOnce next
    × ((x : Link) → Contains next x → Contains held x × (¬ Contains fs x)) × ((x : Link) → Contains held x → ¬ Contains fs x → Contains next x)

frees_go : (rooms : Rooms) (olds news : List Link) → AreSound rooms news
    → ((x y : Link) → Contains olds x → Contains news y → has_number x.layout x.node x.number y ≡ true → x ≡ y)
    → (fs held : List Link) → EachOnce fs → ChildrenFirst rooms fs → ((x : Link) → Contains fs x → Contains olds x × (¬ Contains news x)) → EachOnce held
    → ((x : Link) → Contains held x → Contains news x ⊎ Contains fs x) → ((x : Link) → Contains fs x → Contains held x) → Freed rooms held fs
frees_go rooms olds news sound stay [] held apart first freed once within all = (held, refl, once, λ x h. (h, contains_none x), λ x h none. h)
frees_go rooms olds news sound stay (f ∷ fs) held apart first freed once within all =
    let here : Contains (f ∷ fs) f = contains_head f f fs refl in
    let keeps : Link → Bool = λ link. not (has_number f.layout f.node f.number link) in
    let is : is_sound_free rooms held f.layout f.node f.number ≡ true =
    free_is_sound rooms olds news held (f ∷ fs) f sound stay (freed f here).0 (freed f here).1 (all f here) within first.0 in
    let step : follow rooms held (free_of f) ≡ Some (filter keeps held) =
    cond-true (is_sound_free rooms held f.layout f.node f.number) (let out : Option (List Link) = Some (filter keeps held) in out) None is in
    let differs : (x : Link) → Contains (filter keeps held) x → f ≡ x → ⊥ = λ x has same.
    both_ways _ (not-true _ (from_filter keeps held x has).1) (subst (λ (z : Link). number_key f z ≡ true) same (own_number f)) in
    let rest = frees_go rooms olds news sound stay fs (filter keeps held) apart.1 first.1 (λ x has. freed x (contains_rest x f fs has)) (once_left keeps held once)
    (λ x has. elim (within x (from_filter keeps held x has).0) [ inl new ↦ inl new | inr l ↦ elim (contains_cases x f fs l) [ inl same ↦ absurd (differs x has same) | inr m ↦ inr m ] ])
    (λ x has. into_filter keeps held x (all x (contains_rest x f fs has)) (not_of _ (false_of _ (λ e. absent (number_key f) fs x apart.0 has e)))) in (
      rest.0,
      ap (λ (o : Option (List Link)). option_and_then (λ (next : List Link). held_after rooms next (map free_of fs)) o) step ∙ rest.1,
      rest.2,
      λ x h. (
        (from_filter keeps held x (rest.3 x h).0).0,
        λ l. elim (contains_cases x f fs l) [ inl same ↦ differs x (rest.3 x h).0 same | inr m ↦ (rest.3 x h).1 m ],
      ),
      λ x h none. rest.4 x
          (into_filter keeps held x h (not_of _ (false_of _ (λ e. none (contains_head x f fs (one_of_key number_key number_back held once f x (all f here) h e))))))
          (λ l. none (contains_rest x f fs l)),
    )

-- ---- the whole

pub after_both : (rooms : Rooms) (start mid : List Link) (lines more : List Line) → held_after rooms start lines ≡ Some mid → held_after rooms start (lines ++ more) ≡ held_after rooms mid more
after_both rooms start mid [] more e = ap (λ (o : Option (List Link)). option_and_then (λ (held : List Link). held_after rooms held more) o) e
after_both rooms start mid (line ∷ lines) more e =
    option_and_then_some (λ (next : List Link). held_after rooms next lines) (follow rooms start line) mid e (λ next first rest.
    ap (λ (o : Option (List Link)). option_and_then (λ (next : List Link). held_after rooms next (lines ++ more)) o) first ∙ after_both rooms next mid lines more rest)

pub changes_go : LineChangesAreSound
changes_go rooms olds news frees takes held sound ch once same =
    let freed = frees_go rooms olds news sound ch.stay frees held ch.frees_once ch.children_first ch.freed once (λ x h. ch.left x ((same x).0 h)) (λ x h. (same x).1 (ch.freed x h).0) in
    let mid : List Link = freed.0 in
    let taken = takes_go rooms news sound takes mid ch.takes_once ch.parents_first (λ x h. (ch.taken x h).0)
    (λ x h. false_of _ (λ e.
    let found = any_found (number_key x) mid e in
    let y : Link = found.0 in
    let old : Contains olds y = (same y).0 (freed.3 y found.1).0 in
    let one : y ≡ x = ch.stay y x old (ch.taken x h).0 (number_back x y found.2) in
    (ch.taken x h).1 (subst (λ (z : Link). Contains olds z) one old)))
    freed.2
    (λ x h. elim (ch.left x ((same x).0 (freed.3 x h).0)) [ inl new ↦ new | inr l ↦ absurd ((freed.3 x h).1 l) ])
    (λ x h. elim (ch.there x h) [ inl old ↦ inl (freed.4 x ((same x).1 old) (λ l. (ch.freed x l).1 h)) | inr l ↦ inr l ]) in (
      taken.0,
      after_both rooms held mid (map free_of frees) (map Take takes) freed.1 ∙ taken.1,
      taken.2,
      λ x. (
        λ h. elim ((taken.3 x).0 h) [
          | inl m ↦ elim (ch.left x ((same x).0 (freed.3 x m).0)) [ inl new ↦ new | inr l ↦ absurd ((freed.3 x m).1 l) ]
          | inr l ↦ (ch.taken x l).0
        ],
        λ h. (taken.3 x).1 (elim (ch.there x h) [ inl old ↦ inl (freed.4 x ((same x).1 old) (λ l. (ch.freed x l).1 h)) | inr l ↦ inr l ]),
      ),
    )
