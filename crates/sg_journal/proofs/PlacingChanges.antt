-- The changes between sound placings are sound lines.
use Rattle.std.proofs.Common.{◌≡◌, ◌≢◌, ◌⊎◌, inl, inr, ℕ, zero, suc, ◌<◌, ◌≤◌, ◌==◌, Bool, true, false, not, cond, ◌&&◌, List, [], ◌∷◌, ◌++◌, length, map, Option, Some, None, refl, sym, ap, ◌∙◌, subst, arith, append_assoc, get_or}
use Rattle.std.specs.Prelude.{filter, Contains, slice_get, ◌↔◌}
use Rattle.std.specs.Option.{option_map}
use Rattle.std.proofs.lemmas.Bool.{both_ways, and_parts, and_from, eqb-true, eq-eqb, not-true, cases_eq}
use Rattle.std.proofs.lemmas.Option.{none-some, same_Some}
use Rattle.std.proofs.lemmas.List.{length-append}
use Rattle.std.proofs.lemmas.List.Elements.{Contains-append_left, Contains-append_right, Contains-append_cases}
use Rattle.sg_words.proofs.Uses.{contains_none, contains_cases, from_filter, into_filter}
use Rattle.sg_layout.specs.declared.shape.Shape.{Shape}
use Rattle.sg_layout.specs.declared.shape.NodeShape.{NodeShape}
use Rattle.sg_store.specs.declared.links.LinkAt.{LinkAt}
use Rattle.sg_store.specs.WellFormed.{kind_has_cap}
use Rattle.sg_store.specs.Links.{node_above}
use Rattle.sg_journal.specs.declared.lines.Link.{Link}
use Rattle.sg_journal.specs.declared.lines.Line.{Line}
use Rattle.sg_journal.specs.declared.lines.Line.TheVariants.{Take}
use Rattle.sg_journal.specs.declared.rooms.Room.{Room}
use Rattle.sg_journal.specs.Journal.{Rooms, has_number, has_node, has_parent, count_at, is_held, held_after}
use Rattle.sg_journal.specs.Rooms.{room_at, room_of, room_in, rooms_of}
use Rattle.sg_journal.specs.LineLaws.{EachOnce}
use Rattle.sg_journal.specs.Placing.{LayoutLinks, Placing, links_in, links_at, AreRising}
use Rattle.sg_journal.specs.Changes.{link_of, frees_upto, layout_changes, changes_from}
use Rattle.sg_journal.specs.PlacingLaws.{HasParentAt, FitsAt, IsSoundPlacing, KeepsPlaces, place_of, HoldsPlaced, HeldCounts, ChangesAreSound}
use Rattle.sg_journal.specs.steps.Soundness.{AreSound, IsChange, free_of}
use Rattle.sg_journal.proofs.Lists.{fewer}
use Rattle.sg_journal.proofs.Once.{number_key}
use Rattle.sg_journal.proofs.Step.{any_of, any_found, own_number, false_of, apart_pairs, once_left, after_both, changes_go}
use Rattle.sg_journal.proofs.Lacks.{rising_rest, rising_above}
use Rattle.sg_journal.proofs.PlacedOnce.{least_of}
use Rattle.sg_journal.proofs.StoresPlaced.{own_room, above_is}
use Rattle.sg_journal.proofs.LayoutChanges.{frees_of, takes_of, frees_are, takes_are, from_frees, into_frees, from_takes, into_takes, among, index_below}
use Rattle.sg_journal.proofs.ChangeOrder.{AreUpward, once_both, frees_once, takes_once, children_first, parents_first}

-- ---- the nearest node above has a smaller number

above_before : (nodes : List NodeShape) (index above : ℕ) (o : Option ℕ) → node_above nodes index ≡ o → option_map suc o ≡ Some above → above < suc index
above_before nodes index above None at e = absurd (none-some above e)
above_before nodes index above (Some a) at e = let same : suc a ≡ above = same_Some (suc a) above e in omega (arith, same, (above_is nodes index a at).before)

room_before : (nodes : List NodeShape) (index above : ℕ) (room : Room) (o : Option NodeShape) → room_at nodes index o ≡ Some room → room.above ≡ Some above → above < suc index
room_before nodes index above room None e is = absurd (none-some room e)
room_before nodes index above room (Some own) e is = by_cap (kind_has_cap own.kind) e where
  by_cap : (b : Bool) → cond b (Some (own_room nodes index own)) None ≡ Some room → above < suc index
  by_cap true e = above_before nodes index above (node_above nodes index) refl (ap (λ (r : Room). r.above) (same_Some (own_room nodes index own) room e) ∙ is)
  by_cap false e = absurd (none-some room e)

shape_before : (shape : Shape) (node above : ℕ) (room : Room) → room_of shape node ≡ Some room → room.above ≡ Some above → above < node
shape_before shape zero above room e is = absurd (none-some room e)
shape_before shape (suc index) above room e is = room_before shape.nodes index above room (slice_get shape.nodes index) e is

pub rooms_upward : (shapes : List Shape) → AreUpward (rooms_of shapes)
rooms_upward shapes layout node above room is is_above = by_shape (slice_get shapes layout) is where
  by_shape : (o : Option Shape) → room_in o node ≡ Some room → above < node
  by_shape None e = absurd (none-some room e)
  by_shape (Some shape) e = shape_before shape node above room e is_above

-- ---- rising links with the same number

pub one_number : (links : List LinkAt) (x y : LinkAt) → AreRising links → Contains links x → Contains links y → x.number ≡ y.number → x ≡ y
one_number [] x y rising one two same = absurd (contains_none x one)
one_number (l ∷ links) x y rising one two same = elim (contains_cases x l links one) [
  | inl x_is ↦ elim (contains_cases y l links two) [
    | inl y_is ↦ sym x_is ∙ y_is
    | inr y_later ↦ absurd (omega (arith, same, ap (λ (z : LinkAt). z.number) x_is, least_of (suc l.number) links y (rising_above l links rising) y_later))
  ]
  | inr x_later ↦ elim (contains_cases y l links two) [
    | inl y_is ↦ absurd (omega (arith, same, ap (λ (z : LinkAt). z.number) y_is, least_of (suc l.number) links x (rising_above l links rising) x_later))
    | inr y_later ↦ one_number links x y (rising_rest l links rising) x_later y_later same
  ]
]

-- links of the same place, layout and node are the same
pub same_place : (x y : Link) → x.layout ≡ y.layout → x.node ≡ y.node → place_of x ≡ place_of y → x ≡ y
same_place x y layouts nodes places =
    let make : ℕ → ℕ → LinkAt → Link = λ l n p. record { layout = l; node = n; number = p.number; parent = p.parent; slot = p.slot } in
    ap (λ l. make l x.node (place_of x)) layouts ∙ ap (λ n. make y.layout n (place_of x)) nodes ∙ ap (λ p. make y.layout y.node p) places

-- a link with the number of another
pub record SharesNumber (x y : Link) : Type 0 where
  pub layout : x.layout ≡ y.layout
  pub node : x.node ≡ y.node
  pub number : x.number ≡ y.number

pub shares : (x y : Link) → has_number x.layout x.node x.number y ≡ true → SharesNumber x y
shares x y e =
    let one = and_parts (y.layout == x.layout) ((y.node == x.node) && (y.number == x.number)) e in
    let two = and_parts (y.node == x.node) (y.number == x.number) one.1 in
    record { layout = sym (eqb-true y.layout x.layout one.0); node = sym (eqb-true y.node x.node two.0); number = sym (eqb-true y.number x.number two.1) }

-- the links of a node of a layout hold what is placed of a link
abbrev pub At : Placing → Link → Type 0
At placing x = Contains (links_at placing x.layout x.node) (place_of x)

-- two that stand in a sound placing with one number are one
one_at : (placing : Placing) (x y : Link) → ((layout node : ℕ) → AreRising (links_at placing layout node)) → At placing x → At placing y → SharesNumber x y → x ≡ y
one_at placing x y rising one two same =
    let there : Contains (links_at placing x.layout x.node) (place_of y) =
    subst (λ l. Contains (links_at placing l x.node) (place_of y)) (sym same.layout) (subst (λ n. Contains (links_at placing y.layout n) (place_of y)) (sym same.node) two) in
    same_place x y same.layout same.node (one_number (links_at placing x.layout x.node) (place_of x) (place_of y) (rising x.layout x.node) one there same.number)

-- ---- counts

pub counts_at_most : (held : List Link) (placing : Placing) (layout node : ℕ) → EachOnce held → ((x : Link) → Contains held x → At placing x) → count_at held layout node ≤ length (links_at placing layout node)
counts_at_most held placing layout node once all =
    let p : Link → Bool = has_node layout node in
    fewer (λ (x : Link) (y : LinkAt). (place_of x ≡ y) × (x.layout ≡ layout) × (x.node ≡ node)) (filter p held) (links_at placing layout node)
    (apart_pairs (filter p held) (once_left p held once))
    (λ x has.
    let parts = from_filter p held x has in
    let mine = and_parts (x.layout == layout) (x.node == node) parts.1 in
    let layout_is : x.layout ≡ layout = eqb-true x.layout layout mine.0 in
    let node_is : x.node ≡ node = eqb-true x.node node mine.1 in
    (place_of x, subst (λ l. Contains (links_at placing l node) (place_of x)) layout_is (subst (λ n. Contains (links_at placing x.layout n) (place_of x)) node_is (all x parts.0)), (refl, layout_is, node_is)))
    (λ a b y one two ra rb. same_place a b (ra.1 ∙ sym rb.1) (ra.2 ∙ sym rb.2) (ra.0 ∙ sym rb.0))

-- ---- a list of what stands in a sound placing

list_is_sound : (rooms : Rooms) (placing : Placing) (news : List Link) → IsSoundPlacing rooms placing → EachOnce news → ((x : Link) → Contains news x ↔ At placing x) → AreSound rooms news
list_is_sound rooms placing news sound once are = record {
  once = record {
    numbers = λ x y one two e. one_at placing x y sound.numbers ((are x).0 one) ((are y).0 two) (shares x y e);
    slots = λ x y one two e.
        let first = and_parts (y.layout == x.layout) ((y.node == x.node) && ((y.parent == x.parent) && (y.slot == x.slot))) e in
        let second = and_parts (y.node == x.node) ((y.parent == x.parent) && (y.slot == x.slot)) first.1 in
        let third = and_parts (y.parent == x.parent) (y.slot == x.slot) second.1 in
        let layouts : y.layout ≡ x.layout = eqb-true y.layout x.layout first.0 in
        let nodes : y.node ≡ x.node = eqb-true y.node x.node second.0 in
        let there : Contains (links_at placing x.layout x.node) (place_of y) =
        subst (λ l. Contains (links_at placing l x.node) (place_of y)) layouts (subst (λ n. Contains (links_at placing y.layout n) (place_of y)) nodes ((are y).0 two)) in
        same_place x y (sym layouts) (sym nodes)
        (sound.slots x.layout x.node (place_of x) (place_of y) ((are x).0 one) there (sym (eqb-true y.parent x.parent third.0)) (sym (eqb-true y.slot x.slot third.1)));
  };
  fit = λ x has.
      let own : FitsAt rooms placing x.layout x.node (place_of x) = sound.fit x.layout x.node (place_of x) ((are x).0 has) in
      record {
        room = own.room;
        is = own.is;
        place = own.place;
        slot = own.slot;
        parent = parent x own.room.above own.parent;
        few = omega (arith, counts_at_most news placing x.layout x.node once (λ y there. (are y).0 there), sound.few x.layout x.node own.room own.is);
      };
}
  where
    parent : (x : Link) (above : Option ℕ) → HasParentAt placing x.layout above x.parent → has_parent news x.layout above x.parent ≡ true
    parent x None is = eq-eqb x.parent 0 is
    parent x (Some above) is =
        let up : Link = link_of x.layout above is.0 in
        let there : Contains news up = (are up).1 is.1 in
        ap (has_parent news x.layout (Some above)) is.2 ∙ any_of (has_number x.layout above is.0.number) news up there (own_number up)

-- ---- the change of one layout

-- a placing that differs from another at one layout alone
pub record DiffersAt (from to : Placing) (layout : ℕ) (old new : LayoutLinks) : Type 0 where
  pub same : (other node : ℕ) → other ≢ layout → links_at to other node ≡ links_at from other node
  pub was : (index : ℕ) → links_at from layout (suc index) ≡ links_in old index
  pub now : (index : ℕ) → links_at to layout (suc index) ≡ links_in new index

module _ (rooms : Rooms) (up : AreUpward rooms) (from to : Placing) (layout : ℕ) (old new : LayoutLinks) (differs : DiffersAt from to layout old new)
    (from_sound : (l n : ℕ) → AreRising (links_at from l n)) (to_sound : IsSoundPlacing rooms to) (keeps : KeepsPlaces from to) (held : List Link) (holds : HoldsPlaced held from) where
  abbrev frees : List Link
  frees = frees_of layout old new (length old)

  abbrev takes : List Link
  takes = takes_of layout old new (length new)

  abbrev keep : Link → Bool
  keep x = not (is_held frees x.layout x.node x.number)

  abbrev news : List Link
  news = filter keep held ++ takes

  -- what stands in the old links of the layout, and in the new ones
  freed_at : (x : Link) → Contains frees x → At from x × (At to x → ⊥) × (x.layout ≡ layout)
  freed_at x has =
      let is = from_frees layout old new (length old) x has in
      let was : links_at from x.layout x.node ≡ links_in old is.index = ap (λ l. links_at from l x.node) is.layout_is ∙ ap (links_at from layout) is.node_is ∙ differs.was is.index in
      let now : links_at to x.layout x.node ≡ links_in new is.index = ap (λ l. links_at to l x.node) is.layout_is ∙ ap (links_at to layout) is.node_is ∙ differs.now is.index in (
        subst (λ (l : List LinkAt). Contains l (place_of x)) (sym was) is.has,
        (λ there. is.lacks (subst (λ (l : List LinkAt). Contains l (place_of x)) now there)),
        is.layout_is,
      )

  taken_at : (x : Link) → Contains takes x → At to x × (At from x → ⊥)
  taken_at x has =
      let is = from_takes layout old new (length new) x has in
      let was : links_at from x.layout x.node ≡ links_in old is.index = ap (λ l. links_at from l x.node) is.layout_is ∙ ap (links_at from layout) is.node_is ∙ differs.was is.index in
      let now : links_at to x.layout x.node ≡ links_in new is.index = ap (λ l. links_at to l x.node) is.layout_is ∙ ap (links_at to layout) is.node_is ∙ differs.now is.index in (
        subst (λ (l : List LinkAt). Contains l (place_of x)) (sym now) is.has,
        (λ there. is.lacks (subst (λ (l : List LinkAt). Contains l (place_of x)) was there)),
      )

  -- what stood is freed or stays
  left_at : (x : Link) → At from x → At to x ⊎ Contains frees x
  left_at x has = elim (cases_eq x.layout layout) [
    | inl here ↦ by_node x.node refl here
    | inr away ↦ inl (subst (λ (l : List LinkAt). Contains l (place_of x)) (sym (differs.same x.layout x.node away)) has)
  ]
    where
      by_node : (n : ℕ) → x.node ≡ n → x.layout ≡ layout → At to x ⊎ Contains frees x
      by_node zero is here = absurd (contains_none (place_of x) (subst (λ m. Contains (links_at from x.layout m) (place_of x)) is has))
      by_node (suc index) is here =
          let was : links_at from x.layout x.node ≡ links_in old index = ap (λ l. links_at from l x.node) here ∙ ap (links_at from layout) is ∙ differs.was index in
          let now : links_at to x.layout x.node ≡ links_in new index = ap (λ l. links_at to l x.node) here ∙ ap (links_at to layout) is ∙ differs.now index in
          let there : Contains (links_in old index) (place_of x) = subst (λ (l : List LinkAt). Contains l (place_of x)) was has in
          elim (among (links_in new index) (place_of x)) [
            | inl stays ↦ inl (subst (λ (l : List LinkAt). Contains l (place_of x)) (sym now) stays)
            | inr goes ↦ inr (into_frees layout old new (length old) x (record { index = index; below = index_below old index (place_of x) there; layout_is = here; node_is = is; has = there; lacks = goes }))
          ]

  -- what stands was there or is taken
  there_at : (x : Link) → At to x → At from x ⊎ Contains takes x
  there_at x has = elim (cases_eq x.layout layout) [
    | inl here ↦ by_node x.node refl here
    | inr away ↦ inl (subst (λ (l : List LinkAt). Contains l (place_of x)) (differs.same x.layout x.node away) has)
  ]
    where
      by_node : (n : ℕ) → x.node ≡ n → x.layout ≡ layout → At from x ⊎ Contains takes x
      by_node zero is here = absurd (contains_none (place_of x) (subst (λ m. Contains (links_at to x.layout m) (place_of x)) is has))
      by_node (suc index) is here =
          let was : links_at from x.layout x.node ≡ links_in old index = ap (λ l. links_at from l x.node) here ∙ ap (links_at from layout) is ∙ differs.was index in
          let now : links_at to x.layout x.node ≡ links_in new index = ap (λ l. links_at to l x.node) here ∙ ap (links_at to layout) is ∙ differs.now index in
          let there : Contains (links_in new index) (place_of x) = subst (λ (l : List LinkAt). Contains l (place_of x)) now has in
          elim (among (links_in old index) (place_of x)) [
            | inl stays ↦ inl (subst (λ (l : List LinkAt). Contains l (place_of x)) (sym was) stays)
            | inr comes ↦ inr (into_takes layout old new (length new) x (record { index = index; below = index_below new index (place_of x) there; layout_is = here; node_is = is; has = there; lacks = comes }))
          ]

  -- one that stands in both stays
  stays_kept : (x : Link) → Contains held x → At to x → keep x ≡ true
  stays_kept x has there = ap not (false_of (is_held frees x.layout x.node x.number) (λ e.
      let found = any_found (number_key x) frees e in
      let freed = freed_at found.0 found.1 in
      let same : x ≡ found.0 = one_at from x found.0 from_sound ((holds.members x).0 has) freed.0 (shares x found.0 found.2) in
      freed.1 (subst (λ (y : Link). At to y) same there)))

  kept_stays : (x : Link) → Contains held x → keep x ≡ true → At to x
  kept_stays x has kept = elim (left_at x ((holds.members x).0 has)) [
    | inl stays ↦ stays
    | inr goes ↦ absurd (both_ways (is_held frees x.layout x.node x.number) (not-true _ kept) (any_of (number_key x) frees x goes (own_number x)))
  ]

  news_are : (x : Link) → Contains news x ↔ At to x
  news_are x = (
    λ has. elim (Contains-append_cases (filter keep held) takes x has) [
      | inl stays ↦ let parts = from_filter keep held x stays in kept_stays x parts.0 parts.1
      | inr comes ↦ (taken_at x comes).0
    ],
    λ has. elim (there_at x has) [
      | inl was ↦ let there : Contains held x = (holds.members x).1 was in Contains-append_left (filter keep held) takes x (into_filter keep held x there (stays_kept x there has))
      | inr comes ↦ Contains-append_right (filter keep held) takes x comes
    ],
  )

  old_rising : (index : ℕ) → AreRising (links_in old index)
  old_rising index = subst AreRising (differs.was index) (from_sound layout (suc index))

  new_rising : (index : ℕ) → AreRising (links_in new index)
  new_rising index = subst AreRising (differs.now index) (to_sound.numbers layout (suc index))

  news_once : EachOnce news
  news_once = once_both (filter keep held) takes (once_left keep held holds.once) (takes_once layout old new (length new) new_rising) (λ x y one two e.
      let parts = from_filter keep held x one in
      let taken = taken_at y two in
      let same : x ≡ y = one_at to x y to_sound.numbers (kept_stays x parts.0 parts.1) taken.0 (shares x y e) in
      taken.1 (subst (λ (z : Link). At from z) same ((holds.members x).0 parts.0)))

  is_change : IsChange rooms held news frees takes
  is_change = record {
    stay = λ x y one two e.
        let same = shares x y e in
        let there : Contains (links_at to x.layout x.node) (place_of y) =
        subst (λ l. Contains (links_at to l x.node) (place_of y)) (sym same.layout) (subst (λ n. Contains (links_at to y.layout n) (place_of y)) (sym same.node) ((news_are y).0 two)) in
        same_place x y same.layout same.node (keeps x.layout x.node (place_of x) (place_of y) ((holds.members x).0 one) there same.number);
    freed = λ x has. let freed = freed_at x has in ((holds.members x).1 freed.0, λ there. freed.1 ((news_are x).0 there));
    left = λ x has. elim (left_at x ((holds.members x).0 has)) [ inl stays ↦ inl ((news_are x).1 stays) | inr goes ↦ inr goes ];
    frees_once = frees_once layout old new (length old) old_rising;
    children_first = children_first rooms up layout old new (length old);
    taken = λ x has. let taken = taken_at x has in ((news_are x).1 taken.0, λ there. taken.1 ((holds.members x).0 there));
    there = λ x has. elim (there_at x ((news_are x).0 has)) [ inl was ↦ inl ((holds.members x).1 was) | inr comes ↦ inr comes ];
    takes_once = takes_once layout old new (length new) new_rising;
    parents_first = parents_first rooms up layout old new (length new);
  }

  pub layout_goes : (last : List Link) × (held_after rooms held (layout_changes layout old new) ≡ Some last) × HoldsPlaced last to
  layout_goes =
      let gone = changes_go rooms held news frees takes held (list_is_sound rooms to news to_sound news_once news_are) is_change holds.once (λ x. ((λ h. h), (λ h. h))) in
      let lines : map free_of frees ++ map Take takes ≡ layout_changes layout old new =
      ap (λ (l : List Line). l ++ map Take takes) (frees_are layout old new (length old)) ∙ ap (λ (l : List Line). frees_upto layout old new (length old) ++ l) (takes_are layout old new (length new)) in (
        gone.0,
        ap (held_after rooms held) (sym lines) ∙ gone.1,
        record { once = gone.2; members = λ x. ((λ h. (news_are x).0 ((gone.3 x).0 h)), (λ h. (gone.3 x).1 ((news_are x).1 h))) },
      )

-- ---- layout by layout

front_same : (d : LayoutLinks) (from to : Placing) (layout : ℕ) → ((other node : ℕ) → other ≢ layout → links_at to other node ≡ links_at from other node)
    → (other node : ℕ) → other ≢ suc layout → links_at (d ∷ to) other node ≡ links_at (d ∷ from) other node
front_same d from to layout same zero zero apart = refl
front_same d from to layout same zero (suc index) apart = refl
front_same d from to layout same (suc other) zero apart = refl
front_same d from to layout same (suc other) (suc index) apart = same other (suc index) (λ e. apart (ap suc e))

-- of placings with the same front, of which the middle one has the new layout and the old rest: at each layout it is as one of them
mid_before : (done : Placing) (o n : LayoutLinks) (os : Placing) → DiffersAt (done ++ o ∷ os) (done ++ n ∷ os) (length done) o n
mid_before [] o n os = record { same = same; was = λ index. refl; now = λ index. refl } where
  same : (other node : ℕ) → other ≢ 0 → links_at (n ∷ os) other node ≡ links_at (o ∷ os) other node
  same zero node apart = absurd (apart refl)
  same (suc other) zero apart = refl
  same (suc other) (suc index) apart = refl
mid_before (d ∷ done) o n os =
    let differs = mid_before done o n os in
    record { same = front_same d (done ++ o ∷ os) (done ++ n ∷ os) (length done) differs.same; was = differs.was; now = differs.now }

-- the middle one is at a layout as the last one, up to the new layout
mid_after : (done : Placing) (n : LayoutLinks) (os ns : Placing) (layout node : ℕ) → layout ≤ length done → links_at (done ++ n ∷ os) layout node ≡ links_at (done ++ n ∷ ns) layout node
mid_after done n os ns layout zero le = refl
mid_after [] n os ns zero (suc index) le = refl
mid_after [] n os ns (suc layout) (suc index) le = absurd (omega (arith, le))
mid_after (d ∷ done) n os ns zero (suc index) le = refl
mid_after (d ∷ done) n os ns (suc layout) (suc index) le = mid_after done n os ns layout (suc index) (omega (arith, le))

-- at each layout it is as one of the two
pub mid_either : (done : Placing) (o n : LayoutLinks) (os ns : Placing) (layout : ℕ)
    → ((node : ℕ) → links_at (done ++ n ∷ os) layout node ≡ links_at (done ++ n ∷ ns) layout node) ⊎ ((node : ℕ) → links_at (done ++ n ∷ os) layout node ≡ links_at (done ++ o ∷ os) layout node)
mid_either done o n os ns layout = elim (cases_eq layout (length done)) [
  | inl here ↦ inl (λ node. mid_after done n os ns layout node (omega (arith, here)))
  | inr away ↦ inr (λ node. (mid_before done o n os).same layout node away)
]

mixed_sound : (rooms : Rooms) (mid one other : Placing) → ((layout : ℕ) → ((node : ℕ) → links_at mid layout node ≡ links_at one layout node) ⊎ ((node : ℕ) → links_at mid layout node ≡ links_at other layout node))
    → IsSoundPlacing rooms one → IsSoundPlacing rooms other → IsSoundPlacing rooms mid
mixed_sound rooms mid one other either first second = record {
  numbers = λ layout node. elim (either layout) [ inl like ↦ subst AreRising (sym (like node)) (first.numbers layout node) | inr like ↦ subst AreRising (sym (like node)) (second.numbers layout node) ];
  slots = λ layout node x y a b p s. elim (either layout) [
    | inl like ↦ first.slots layout node x y (subst (λ (l : List LinkAt). Contains l x) (like node) a) (subst (λ (l : List LinkAt). Contains l y) (like node) b) p s
    | inr like ↦ second.slots layout node x y (subst (λ (l : List LinkAt). Contains l x) (like node) a) (subst (λ (l : List LinkAt). Contains l y) (like node) b) p s
  ];
  fit = λ layout node link has. elim (either layout) [
    | inl like ↦ again layout one like node link (first.fit layout node link (subst (λ (l : List LinkAt). Contains l link) (like node) has))
    | inr like ↦ again layout other like node link (second.fit layout node link (subst (λ (l : List LinkAt). Contains l link) (like node) has))
  ];
  few = λ layout node room is. elim (either layout) [
    | inl like ↦ omega (arith, ap length (like node), first.few layout node room is)
    | inr like ↦ omega (arith, ap length (like node), second.few layout node room is)
  ];
}
  where
    parent : (layout : ℕ) (from : Placing) → ((node : ℕ) → links_at mid layout node ≡ links_at from layout node) → (above : Option ℕ) (p : ℕ) → HasParentAt from layout above p → HasParentAt mid layout above p
    parent layout from like None p is = is
    parent layout from like (Some above) p is = (is.0, subst (λ (l : List LinkAt). Contains l is.0) (sym (like above)) is.1, is.2)

    again : (layout : ℕ) (from : Placing) → ((node : ℕ) → links_at mid layout node ≡ links_at from layout node) → (node : ℕ) (link : LinkAt) → FitsAt rooms from layout node link → FitsAt rooms mid layout node link
    again layout from like node link fits = record { room = fits.room; is = fits.is; place = fits.place; slot = fits.slot; parent = parent layout from like fits.room.above link.parent fits.parent }

-- numbers that keep their links from the first to the last keep them on the way
keeps_first : (rooms : Rooms) (from mid to : Placing) → ((layout : ℕ) → ((node : ℕ) → links_at mid layout node ≡ links_at to layout node) ⊎ ((node : ℕ) → links_at mid layout node ≡ links_at from layout node))
    → IsSoundPlacing rooms from → KeepsPlaces from to → KeepsPlaces from mid
keeps_first rooms from mid to either sound keeps layout node x y one two same = elim (either layout) [
  | inl like ↦ keeps layout node x y one (subst (λ (l : List LinkAt). Contains l y) (like node) two) same
  | inr like ↦ one_number (links_at from layout node) x y (sound.numbers layout node) one (subst (λ (l : List LinkAt). Contains l y) (like node) two) same
]

keeps_last : (rooms : Rooms) (from mid to : Placing) → ((layout : ℕ) → ((node : ℕ) → links_at mid layout node ≡ links_at to layout node) ⊎ ((node : ℕ) → links_at mid layout node ≡ links_at from layout node))
    → IsSoundPlacing rooms to → KeepsPlaces from to → KeepsPlaces mid to
keeps_last rooms from mid to either sound keeps layout node x y one two same = elim (either layout) [
  | inl like ↦ one_number (links_at to layout node) x y (sound.numbers layout node) (subst (λ (l : List LinkAt). Contains l x) (like node) one) two same
  | inr like ↦ keeps layout node x y (subst (λ (l : List LinkAt). Contains l x) (like node) one) two same
]

go : (rooms : Rooms) → AreUpward rooms → (olds news done : Placing) (held : List Link) → length olds ≡ length news → IsSoundPlacing rooms (done ++ olds) → IsSoundPlacing rooms (done ++ news) → KeepsPlaces (done ++ olds) (done ++ news)
    → HoldsPlaced held (done ++ olds) → (last : List Link) × (held_after rooms held (changes_from (length done) olds news) ≡ Some last) × HoldsPlaced last (done ++ news)
go rooms up [] [] done held many from_sound to_sound keeps holds = (held, refl, holds)
go rooms up [] (n ∷ ns) done held many from_sound to_sound keeps holds = absurd (omega (arith, many))
go rooms up (o ∷ os) [] done held many from_sound to_sound keeps holds = absurd (omega (arith, many))
go rooms up (o ∷ os) (n ∷ ns) done held many from_sound to_sound keeps holds =
    let either = mid_either done o n os ns in
    let mid_sound : IsSoundPlacing rooms (done ++ n ∷ os) = mixed_sound rooms (done ++ n ∷ os) (done ++ n ∷ ns) (done ++ o ∷ os) either to_sound from_sound in
    let here = layout_goes rooms up (done ++ o ∷ os) (done ++ n ∷ os) (length done) o n (mid_before done o n os) from_sound.numbers mid_sound
    (keeps_first rooms (done ++ o ∷ os) (done ++ n ∷ os) (done ++ n ∷ ns) either from_sound keeps) held holds in
    let more : Placing = done ++ n ∷ [] in
    let long : length more ≡ suc (length done) = omega (arith, length-append done (n ∷ [])) in
    let on_os : done ++ n ∷ os ≡ more ++ os = sym (append_assoc done (n ∷ []) os) in
    let on_ns : done ++ n ∷ ns ≡ more ++ ns = sym (append_assoc done (n ∷ []) ns) in
    let rest = go rooms up os ns more here.0 (omega (arith, many)) (subst (IsSoundPlacing rooms) on_os mid_sound) (subst (IsSoundPlacing rooms) on_ns to_sound)
    (subst (λ (p : Placing). KeepsPlaces p (more ++ ns)) on_os (subst (λ (p : Placing). KeepsPlaces (done ++ n ∷ os) p) on_ns (keeps_last rooms (done ++ o ∷ os) (done ++ n ∷ os) (done ++ n ∷ ns) either to_sound keeps)))
    (subst (HoldsPlaced here.0) on_os here.2) in (
      rest.0,
      after_both rooms held here.0 (layout_changes (length done) o n) (changes_from (suc (length done)) os ns) here.1
          ∙ ap (λ k. held_after rooms here.0 (changes_from k os ns)) (sym long) ∙ rest.1,
      subst (HoldsPlaced rest.0) (sym on_ns) rest.2,
    )

pub changes_are_sound : ChangesAreSound
changes_are_sound shapes from to held many from_sound to_sound keeps holds = go (rooms_of shapes) (rooms_upward shapes) from to [] held many from_sound to_sound keeps holds

-- ---- counts

pub held_counts : HeldCounts
held_counts held placing layout node rooms sound holds =
    let most : count_at held layout node ≤ length (links_at placing layout node) = counts_at_most held placing layout node holds.once (λ x has. (holds.members x).0 has) in
    let least : length (links_at placing layout node) ≤ count_at held layout node =
    fewer (λ (x : LinkAt) (y : Link). place_of y ≡ x) (links_at placing layout node) (filter (has_node layout node) held)
    (rising_apart (links_at placing layout node) (sound.numbers layout node))
    (λ x has.
    let y : Link = link_of layout node x in
    (y, into_filter (has_node layout node) held y ((holds.members y).1 has) (and_from (layout == layout) (node == node) (eq-eqb layout layout refl) (eq-eqb node node refl)), refl))
    (λ a b y one two ra rb. sym ra ∙ rb) in
    omega (arith, most, least)
  where
    rising_apart : (links : List LinkAt) → AreRising links → (i j : ℕ) (d : LinkAt) → i < j → j < length links → get_or links i d ≡ get_or links j d → ⊥
    rising_apart links rising i j d before below e = absurd (omega (arith, rising i j d before below, ap (λ (l : LinkAt). l.number) e))
