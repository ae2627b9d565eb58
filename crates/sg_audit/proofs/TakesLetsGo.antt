-- A table takes a link if it fits, and lets a number go if it is held.
use Rattle.std.proofs.Common.{◌≡◌, ℕ, ◌+◌, ◌-◌, ◌^◌, ◌<◌, ◌==◌, min, Bool, true, false, not, cond, ◌&&◌, nat_lt, List, [], ◌∷◌, length, Option, Some, None, is_some, refl, sym, ap, ◌∙◌, subst}
use Rattle.std.specs.Prelude.{All, slice_index, slice_index_or}
use Rattle.std.specs.List.{list_any}
use Rattle.std.specs.BTreeSet.{contains}
use Rattle.std.specs.BTreeMap.{is_at}
use Rattle.std.specs.Ordering.{nat_cmp}
use Rattle.std.proofs.lemmas.Bool.{both_ways, and_parts, and_from, ltb-true, not-true, eqb-true}
use Rattle.std.proofs.lemmas.Option.{none-some, same_Some}
use Rattle.std.proofs.lemmas.List.Elements.{All-head, All-tail}
use Rattle.sg_journal.specs.declared.rooms.Room.{Room}
use Rattle.sg_audit.specs.declared.table.Standing.{Standing}
use Rattle.sg_audit.specs.declared.table.NodeLink.{NodeLink}
use Rattle.sg_audit.specs.declared.table.NodeTable.{NodeTable}
use Rattle.sg_audit.specs.steps.Tables.{has_this, stands_in, standing_of, IsWithin, IsTable, fits_node, is_open, slot_number, Takes, LetsGo}
use Rattle.sg_audit.proofs.NodeLinks.{rest_of, held_is, none_held, some_held, rest_all}
use Rattle.sg_audit.proofs.NodeTables.{IsWritten, lengths, has_more, has_less}

regroup : (a b c d e f : Bool) → (a && (b && (c && (d && (e && f))))) ≡ ((a && (b && (c && (d && e)))) && f)
regroup false b c d e f = refl
regroup true false c d e f = refl
regroup true true false d e f = refl
regroup true true true false e f = refl
regroup true true true true e f = refl

-- what fits is what is open and has a free slot
fits_is : (room : Room) (parents : ℕ) (table : NodeTable) (links : List NodeLink) (link : NodeLink) → IsTable (Some room) parents table links
    → fits_node (Some room) parents links link ≡ (is_open table room link && not (list_any (stands_in link.standing.parent link.standing.slot) links))
fits_is room parents table links link are =
    let free : Bool = not (list_any (stands_in link.standing.parent link.standing.slot) links) in
    let held : list_any (has_this link.number) links ≡ is_some (slice_index_or table.standing link.number None) = sym (held_is links link.number) ∙ ap is_some (sym (are.3.stands link.number)) in
    ap (λ n. nat_lt link.number n && (nat_lt link.standing.slot room.slots && (nat_lt link.standing.parent parents && (nat_lt (length links) room.cap && (not (list_any (has_this link.number) links) && free))))) (sym are.1)
    ∙ ap (λ n. nat_lt link.number (length table.standing) && (nat_lt link.standing.slot room.slots && (nat_lt link.standing.parent n && (nat_lt (length links) room.cap && (not (list_any (has_this link.number) links) && free))))) (sym are.2)
    ∙ ap (λ n. nat_lt link.number (length table.standing) && (nat_lt link.standing.slot room.slots && (nat_lt link.standing.parent (length table.children) && (nat_lt n room.cap && (not (list_any (has_this link.number) links) && free))))) (sym are.3.count)
    ∙ ap (λ b. nat_lt link.number (length table.standing) && (nat_lt link.standing.slot room.slots && (nat_lt link.standing.parent (length table.children) && (nat_lt table.count room.cap && (not b && free))))) held
    ∙ regroup (nat_lt link.number (length table.standing)) (nat_lt link.standing.slot room.slots) (nat_lt link.standing.parent (length table.children)) (nat_lt table.count room.cap) (not (is_some (slice_index_or table.standing link.number None))) free

-- ---- takes

pub takes_none : (table : NodeTable) (link : NodeLink) → table.room ≡ None → (room : Option Room) (parents : ℕ) → Takes room parents table table link false
takes_none table link none None parents links are = (refl, are)
takes_none table link none (Some room) parents links are = absurd (none-some room (sym none ∙ are.0))

and_false : (a b : Bool) → a ≡ false → (a && b) ≡ false
and_false true b e = absurd (both_ways true e refl)
and_false false b e = refl

and_right_false : (a b : Bool) → b ≡ false → (a && b) ≡ false
and_right_false true b e = e
and_right_false false b e = refl

pub takes_closed : (table : NodeTable) (own : Room) (link : NodeLink) → table.room ≡ Some own → is_open table own link ≡ false → (room : Option Room) (parents : ℕ) → Takes room parents table table link false
takes_closed table own link is closed None parents links are = absurd (none-some own (sym are.0 ∙ is))
takes_closed table own link is closed (Some room) parents links are =
    let same : own ≡ room = same_Some own room (sym is ∙ are.0) in
    let shut : is_open table room link ≡ false = subst (λ r. is_open table r link ≡ false) same closed in
    (sym (fits_is room parents table links link are ∙ and_false (is_open table room link) _ shut), are)

-- the tests of an open link
record IsOpen (table : NodeTable) (room : Room) (link : NodeLink) : Type 0 where
  place : link.number < length table.standing
  slot_in : link.standing.slot < room.slots
  parent_in : link.standing.parent < length table.children
  unheld : is_some (slice_index_or table.standing link.number None) ≡ false

open_parts : (table : NodeTable) (room : Room) (link : NodeLink) → is_open table room link ≡ true → IsOpen table room link
open_parts table room link e =
    let one = and_parts (nat_lt link.number (length table.standing)) _ e in
    let two = and_parts (nat_lt link.standing.slot room.slots) _ one.1 in
    let three = and_parts (nat_lt link.standing.parent (length table.children)) _ two.1 in
    let four = and_parts (nat_lt table.count room.cap) _ three.1 in
    record { place = ltb-true _ _ one.0; slot_in = ltb-true _ _ two.0; parent_in = ltb-true _ _ three.0; unheld = not-true _ four.1 }

-- a slot that is taken
pub takes_taken : (table new : NodeTable) (own : Room) (link : NodeLink) → table.room ≡ Some own → is_open table own link ≡ true → contains nat_cmp table.taken (slot_number link.standing own.slots) ≡ true → new ≡ table
    → (room : Option Room) (parents : ℕ) → Takes room parents table new link false
takes_taken table new own link is clear taken stays None parents links are = absurd (none-some own (sym are.0 ∙ is))
takes_taken table new own link is clear taken stays (Some room) parents links are =
    let same : own ≡ room = same_Some own room (sym is ∙ are.0) in
    let parts = open_parts table room link (subst (λ r. is_open table r link ≡ true) same clear) in
    let there : list_any (stands_in link.standing.parent link.standing.slot) links ≡ true =
    sym (are.3.taken link.standing.parent link.standing.slot parts.slot_in) ∙ subst (λ r. contains nat_cmp table.taken (slot_number link.standing r.slots) ≡ true) same taken in (
      sym (fits_is room parents table links link are ∙ and_right_false (is_open table room link) _ (ap not there)),
      subst (λ (t : NodeTable). IsTable (Some room) parents t links) (sym stays) are,
    )

pub takes_it : (table new : NodeTable) (own : Room) (link : NodeLink) → table.room ≡ Some own → is_open table own link ≡ true → table.count + 1 < 2 ^ 32
    → contains nat_cmp table.taken (slot_number link.standing own.slots) ≡ false
    → ((q : ℕ) → contains nat_cmp new.taken q ≡ cond (is_at (nat_cmp (slot_number link.standing own.slots)) q) true (contains nat_cmp table.taken q))
    → IsWritten table new link.number (Some link.standing) link.standing.parent (min (slice_index table.children link.standing.parent + 1) (2 ^ 32 - 1)) (min (table.count + 1) (2 ^ 32 - 1))
    → (room : Option Room) (parents : ℕ) → Takes room parents table new link true
takes_it table new own link is clear few free taken written None parents links are = absurd (none-some own (sym are.0 ∙ is))
takes_it table new own link is clear few free taken written (Some room) parents links are =
    let same : own ≡ room = same_Some own room (sym is ∙ are.0) in
    let clear_here : is_open table room link ≡ true = subst (λ r. is_open table r link ≡ true) same clear in
    let parts = open_parts table room link clear_here in
    let unheld : list_any (has_this link.number) links ≡ false = sym (held_is links link.number) ∙ ap is_some (sym (are.3.stands link.number)) ∙ parts.unheld in
    let untaken : list_any (stands_in link.standing.parent link.standing.slot) links ≡ false =
    sym (are.3.taken link.standing.parent link.standing.slot parts.slot_in) ∙ subst (λ r. contains nat_cmp table.taken (slot_number link.standing r.slots) ≡ false) same free in (
      sym (fits_is room parents table links link are ∙ and_from (is_open table room link) (not (list_any (stands_in link.standing.parent link.standing.slot) links)) clear_here (ap not untaken)),
      (
        written.room ∙ are.0,
        lengths (λ s c. s ≡ room.places) table new link.number _ link.standing.parent _ _ written are.1,
        lengths (λ s c. c ≡ parents) table new link.number _ link.standing.parent _ _ written are.2,
        has_more table new room.slots links link written
            (subst (λ r. (q : ℕ) → contains nat_cmp new.taken q ≡ cond (is_at (nat_cmp (slot_number link.standing r.slots)) q) true (contains nat_cmp table.taken q)) same taken)
            are.3 parts.place parts.slot_in parts.parent_in unheld untaken few,
      ),
    )

-- ---- lets go

pub lets_none : (table : NodeTable) (number : ℕ) → table.room ≡ None → (room : Option Room) (parents : ℕ) → LetsGo room parents table table number false
lets_none table number none None parents links are =
    let P : List NodeLink → Type 0 = λ l. (false ≡ list_any (has_this number) l) × IsTable None parents table (rest_of number l) in
    subst P (sym are.2) (refl, (are.0, are.1, refl))
lets_none table number none (Some room) parents links are = absurd (none-some room (sym none ∙ are.0))

pub lets_absent : (table : NodeTable) (own : Room) (number : ℕ) → table.room ≡ Some own → slice_index_or table.standing number None ≡ None → (room : Option Room) (parents : ℕ) → LetsGo room parents table table number false
lets_absent table own number is absent None parents links are = absurd (none-some own (sym are.0 ∙ is))
lets_absent table own number is absent (Some room) parents links are =
    let none : list_any (has_this number) links ≡ false = none_held links number (sym (are.3.stands number) ∙ absent) in
    (sym none, subst (λ (l : List NodeLink). IsTable (Some room) parents table l) (sym (rest_all links number none)) are)

-- a link that stands is within the table
standing_within : (P : NodeLink → Type 0) (links : List NodeLink) (number : ℕ) (standing : Standing) → All P links → standing_of links number ≡ Some standing → P (record { number = number; standing = standing })
standing_within P [] number standing all is = absurd (none-some standing is)
standing_within P (x ∷ xs) number standing all is = by_case (x.number == number) refl is (standing_within P xs number standing (All-tail P x xs all)) where
  by_case : (b : Bool) → (x.number == number) ≡ b → cond b (Some x.standing) (standing_of xs number) ≡ Some standing → (standing_of xs number ≡ Some standing → P (record { number = number; standing = standing })) → P (record { number = number; standing = standing })
  by_case true same here rest =
      let link : x ≡ record { number = number; standing = standing } =
      ap (λ (n : ℕ). let l : NodeLink = record { number = n; standing = x.standing } in l) (eqb-true x.number number same) ∙ ap (λ (s : Standing). let l : NodeLink = record { number = number; standing = s } in l) (same_Some x.standing standing here) in
      subst P link (All-head P x xs all)
  by_case false other here rest = rest here

pub lets_go : (table new : NodeTable) (own : Room) (number : ℕ) (standing : Standing) → table.room ≡ Some own → slice_index_or table.standing number None ≡ Some standing
    → ((q : ℕ) → contains nat_cmp new.taken q ≡ cond (is_at (nat_cmp (slot_number standing own.slots)) q) false (contains nat_cmp table.taken q))
    → IsWritten table new number None standing.parent (slice_index table.children standing.parent - 1) (table.count - 1)
    → (room : Option Room) (parents : ℕ) → LetsGo room parents table new number true
lets_go table new own number standing is here taken written None parents links are = absurd (none-some own (sym are.0 ∙ is))
lets_go table new own number standing is here taken written (Some room) parents links are =
    let same : own ≡ room = same_Some own room (sym is ∙ are.0) in
    let stands : standing_of links number ≡ Some standing = sym (are.3.stands number) ∙ here in
    let in_table : IsWithin (length table.standing) room.slots (length table.children) (record { number = number; standing = standing }) =
    standing_within (IsWithin (length table.standing) room.slots (length table.children)) links number standing are.3.within stands in (
      sym (some_held links number standing stands),
      (
        written.room ∙ are.0,
        lengths (λ s c. s ≡ room.places) table new number _ standing.parent _ _ written are.1,
        lengths (λ s c. c ≡ parents) table new number _ standing.parent _ _ written are.2,
        has_less table new room.slots links number standing written
            (subst (λ r. (q : ℕ) → contains nat_cmp new.taken q ≡ cond (is_at (nat_cmp (slot_number standing r.slots)) q) false (contains nat_cmp table.taken q)) same taken)
            are.3 stands in_table.number in_table.slot in_table.parent,
      ),
    )

-- ---- a test of the code

pub was_added : (added there : Bool) → added ≡ not there → added ≡ true → there ≡ false
was_added added true is e = absurd (both_ways added is e)
was_added added false is e = refl
