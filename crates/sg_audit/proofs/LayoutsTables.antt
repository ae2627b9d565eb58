-- The tables of a layout take a link, and let a number go, exactly if that is sound.
use Rattle.std.proofs.Common.{◌≡◌, ◌≢◌, ◌⊎◌, ℕ, zero, suc, ◌<◌, Bool, true, false, not, ◌&&◌, nat_lt, List, [], ◌∷◌, length, Option, Some, None, is_some, refl, sym, ap, ◌∙◌, subst, arith, inl, inr}
use Rattle.std.specs.Prelude.{All, slice_get, slice_set, slice_index, slice_index_or}
use Rattle.std.specs.List.{list_any}
use Rattle.std.proofs.lemmas.Bool.{both_ways, eqb-true, lt-ltb}
use Rattle.std.proofs.lemmas.Option.{none-some, same_Some}
use Rattle.std.proofs.lemmas.List.Elements.{All-head, All-tail}
use Rattle.sg_journal.specs.declared.lines.Link.{Link}
use Rattle.sg_journal.specs.declared.rooms.Room.{Room}
use Rattle.sg_journal.specs.Journal.{Rooms, count_at, is_held, is_taken, has_parent, take_fits}
use Rattle.sg_audit.specs.declared.table.NodeLink.{NodeLink}
use Rattle.sg_audit.specs.declared.table.NodeTable.{NodeTable}
use Rattle.sg_audit.specs.steps.Tables.{has_this, stands_in, is_in, IsWithin, IsTable, fits_node, node_link, links_of, places_in, parents_by, HaveRooms, table_at, AreTables, holds_in, parent_by}
use Rattle.sg_audit.proofs.NodeLinks.{any_count, held_is}
use Rattle.sg_audit.proofs.HeldLinks.{any_into, held_at, taken_at, count_of_links}

-- ---- what a table says of its room and of its numbers

pub room_is : (room : Option Room) (parents : ℕ) (table : NodeTable) (links : List NodeLink) → IsTable room parents table links → table.room ≡ room
room_is None parents table links are = are.0
room_is (Some room) parents table links are = are.0

pub holds_is : (room : Option Room) (parents : ℕ) (table : NodeTable) (links : List NodeLink) (number : ℕ) → IsTable room parents table links → is_some (slice_index_or table.standing number None) ≡ list_any (has_this number) links
holds_is None parents table links number are =
    ap (λ l. is_some (slice_index_or l number None)) are.1 ∙ sym (ap (list_any (has_this number)) are.2)
holds_is (Some room) parents table links number are = ap is_some (are.3.stands number) ∙ held_is links number

pub children_is : (room : Option Room) (parents : ℕ) (table : NodeTable) (links : List NodeLink) (parent : ℕ) → (own : Room) → room ≡ Some own → IsTable room parents table links → nat_lt 0 (slice_index table.children parent) ≡ list_any (is_in parent) links
children_is None parents table links parent own is are = absurd (none-some own is)
children_is (Some room) parents table links parent own is are = ap (nat_lt 0) (are.3.children parent) ∙ sym (any_count (is_in parent) links)

-- each of the links is within the table
pub each_within : (P : NodeLink → Type 0) (links : List NodeLink) (i : ℕ) (x : NodeLink) → All P links → slice_get links i ≡ Some x → P x
each_within P [] i x all at = absurd (none-some x at)
each_within P (y ∷ ys) zero x all at = subst P (same_Some y x at) (All-head P y ys all)
each_within P (y ∷ ys) (suc i) x all at = each_within P ys i x (All-tail P y ys all) at

-- ---- a number is held exactly if its table says so

pub held_by_table : (rooms : Rooms) (layout : ℕ) (held : List Link) (tables : List NodeTable) → HaveRooms rooms held → AreTables rooms layout held tables
    → (node number : ℕ) → holds_in (table_at tables node) number ≡ is_held held layout node number
held_by_table rooms layout held tables have are node number = by_table (table_at tables node) refl ∙ sym (held_at held layout node number) where
  by_table : (table : Option NodeTable) → table_at tables node ≡ table → holds_in table number ≡ list_any (has_this number) (links_of held layout node)
  by_table None at = sym (ap (list_any (has_this number)) (have layout node (are.past node at)))
  by_table (Some table) at = holds_is (rooms layout node) _ table (links_of held layout node) number (are.each node table at)

pub parent_is : (rooms : Rooms) (layout : ℕ) (held : List Link) (tables : List NodeTable) → HaveRooms rooms held → AreTables rooms layout held tables
    → (above : Option ℕ) (parent : ℕ) → parent_by tables above parent ≡ has_parent held layout above parent
parent_is rooms layout held tables have are None parent = refl
parent_is rooms layout held tables have are (Some above) zero = refl
parent_is rooms layout held tables have are (Some above) (suc number) = held_by_table rooms layout held tables have are above number

-- a number that is held is below the places of its node
pub held_within : (rooms : Rooms) (layout : ℕ) (held : List Link) (tables : List NodeTable) → HaveRooms rooms held → AreTables rooms layout held tables
    → (node number : ℕ) → is_held held layout node number ≡ true → number < places_in (rooms layout node)
held_within rooms layout held tables have are node number is = by_table (table_at tables node) refl where
  there : list_any (has_this number) (links_of held layout node) ≡ true
  there = sym (held_at held layout node number) ∙ is

  none : links_of held layout node ≡ [] → ⊥
  none empty = both_ways _ (ap (list_any (has_this number)) empty) there

  within : (links : List NodeLink) (places : ℕ) → ((i : ℕ) (x : NodeLink) → slice_get links i ≡ Some x → x.number < places) → list_any (has_this number) links ≡ true → number < places
  within links places all e =
      let found = any_into (has_this number) links e in
      subst (λ n. n < places) (eqb-true found.item.number number found.passes) (all found.index found.item found.at)

  by_room : (room : Option Room) (parents : ℕ) (table : NodeTable) → IsTable room parents table (links_of held layout node) → number < places_in room
  by_room None parents table are = absurd (none are.2)
  by_room (Some room) parents table are =
      subst (λ n. number < n) are.1 (within (links_of held layout node) (length table.standing) (λ i x at. (each_within (IsWithin (length table.standing) room.slots (length table.children)) (links_of held layout node) i x are.3.within at).number) there)

  by_table : (table : Option NodeTable) → table_at tables node ≡ table → number < places_in (rooms layout node)
  by_table None at = absurd (none (have layout node (are.past node at)))
  by_table (Some table) at = by_room (rooms layout node) _ table (are.each node table at)

-- a parent that is there is below the parents of the table
pub parent_below : (rooms : Rooms) (layout : ℕ) (held : List Link) (tables : List NodeTable) → HaveRooms rooms held → AreTables rooms layout held tables
    → (above : Option ℕ) (parent : ℕ) → has_parent held layout above parent ≡ true → parent < parents_by (rooms layout) above
parent_below rooms layout held tables have are None parent is = omega (arith, eqb-true parent 0 is)
parent_below rooms layout held tables have are (Some above) zero is = absurd (both_ways false refl is)
parent_below rooms layout held tables have are (Some above) (suc number) is = omega (arith, held_within rooms layout held tables have are above number is)

-- ---- takes

-- if the parent is there, a take is sound exactly if the link fits the node
pub sound_is_fit : (rooms : Rooms) (layout : ℕ) (held : List Link) (link : Link) (room : Room) (parents : ℕ) → has_parent held link.layout room.above link.parent ≡ true → link.parent < parents
    → fits_node (Some room) parents (links_of held link.layout link.node) (node_link link) ≡ take_fits held link (Some room)
sound_is_fit rooms layout held link room parents there below =
    ap (λ b. nat_lt link.number room.places && (nat_lt link.slot room.slots && (b && (nat_lt (length links) room.cap && (not (list_any (has_this link.number) links) && not (list_any (stands_in link.parent link.slot) links)))))) (lt-ltb link.parent parents below)
    ∙ shuffle (nat_lt link.number room.places) (not (list_any (has_this link.number) links)) (not (list_any (stands_in link.parent link.slot) links)) (nat_lt (length links) room.cap) (nat_lt link.slot room.slots)
    ∙ ap (λ b. nat_lt link.number room.places && (not b && (not (list_any (stands_in link.parent link.slot) links) && (nat_lt (length links) room.cap && (true && nat_lt link.slot room.slots))))) (sym (held_at held link.layout link.node link.number))
    ∙ ap (λ b. nat_lt link.number room.places && (not (is_held held link.layout link.node link.number) && (not b && (nat_lt (length links) room.cap && (true && nat_lt link.slot room.slots))))) (sym (taken_at held link.layout link.node link.parent link.slot))
    ∙ ap (λ n. nat_lt link.number room.places && (not (is_held held link.layout link.node link.number) && (not (is_taken held link.layout link.node link.parent link.slot) && (nat_lt n room.cap && (true && nat_lt link.slot room.slots))))) (sym (count_of_links held link.layout link.node))
    ∙ ap (λ b. nat_lt link.number room.places && (not (is_held held link.layout link.node link.number) && (not (is_taken held link.layout link.node link.parent link.slot) && (nat_lt (count_at held link.layout link.node) room.cap && (b && nat_lt link.slot room.slots))))) (sym there)
  where
    links : List NodeLink
    links = links_of held link.layout link.node

    shuffle : (a b c d e : Bool) → (a && (e && (true && (d && (b && c))))) ≡ (a && (b && (c && (d && (true && e)))))
    shuffle false b c d e = refl
    shuffle true false false false false = refl
    shuffle true false false false true = refl
    shuffle true false false true false = refl
    shuffle true false false true true = refl
    shuffle true false true false false = refl
    shuffle true false true false true = refl
    shuffle true false true true false = refl
    shuffle true false true true true = refl
    shuffle true true false false false = refl
    shuffle true true false false true = refl
    shuffle true true false true false = refl
    shuffle true true false true true = refl
    shuffle true true true false false = refl
    shuffle true true true false true = refl
    shuffle true true true true false = refl
    shuffle true true true true true = refl

-- no take is sound if the parent isn't there
pub no_parent : (held : List Link) (link : Link) (room : Room) → has_parent held link.layout room.above link.parent ≡ false → take_fits held link (Some room) ≡ false
no_parent held link room none =
    ap (λ b. nat_lt link.number room.places && (not (is_held held link.layout link.node link.number) && (not (is_taken held link.layout link.node link.parent link.slot) && (nat_lt (count_at held link.layout link.node) room.cap && (b && nat_lt link.slot room.slots))))) none
    ∙ last_no (nat_lt link.number room.places) (not (is_held held link.layout link.node link.number)) (not (is_taken held link.layout link.node link.parent link.slot)) (nat_lt (count_at held link.layout link.node) room.cap)
  where
    last_no : (a b c d : Bool) → (a && (b && (c && (d && false)))) ≡ false
    last_no false b c d = refl
    last_no true false c d = refl
    last_no true true false d = refl
    last_no true true true false = refl
    last_no true true true true = refl

-- the table at a node, once the one at an index is another
pub table_set : (tables : List NodeTable) (index : ℕ) (table old : NodeTable) (node : ℕ) (own : NodeTable) → slice_get tables index ≡ Some old → table_at (slice_set tables index table) node ≡ Some own
    → ((node ≡ suc index) × (own ≡ table)) ⊎ ((node ≢ suc index) × (table_at tables node ≡ Some own))
table_set tables index table old zero own at is = absurd (none-some own is)
table_set [] index table old (suc place) own at is = absurd (none-some old at)
table_set (first ∷ tables) zero table old (suc zero) own at is = inl (refl, let same : table ≡ own = cc in sym same)
table_set (first ∷ tables) zero table old (suc (suc place)) own at is = inr ((λ e. absurd (omega (arith, e))), is)
table_set (first ∷ tables) (suc index) table old (suc zero) own at is = inr ((λ e. absurd (omega (arith, e))), is)
table_set (first ∷ tables) (suc index) table old (suc (suc place)) own at is =
    elim (table_set tables index table old (suc place) own at is) [
      | inl here ↦ inl (ap suc here.0, here.1)
      | inr there ↦ inr ((λ e. there.0 (omega (arith, e))), there.1)
    ]

pub table_past : (tables : List NodeTable) (index : ℕ) (table : NodeTable) (node : ℕ) → table_at (slice_set tables index table) node ≡ None → table_at tables node ≡ None
table_past tables index table zero is = refl
table_past [] index table (suc place) is = refl
table_past (first ∷ tables) zero table (suc zero) is = absurd (none-some table (sym is))
table_past (first ∷ tables) zero table (suc (suc place)) is = is
table_past (first ∷ tables) (suc index) table (suc zero) is = is
table_past (first ∷ tables) (suc index) table (suc (suc place)) is = table_past tables index table (suc place) is
