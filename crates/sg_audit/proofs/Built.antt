-- Tables that are built node by node, and layout by layout.
use Rattle.std.proofs.Common.{◌≡◌, ℕ, zero, suc, ◌+◌, ◌<◌, ◌≤◌, List, [], ◌∷◌, ◌++◌, length, get_or, Option, Some, None, refl, sym, ap, ◌∙◌, subst, arith, inl, inr, ◌⊎◌}
use Rattle.std.specs.Prelude.{slice_get, slice_index_or}
use Rattle.std.proofs.lemmas.Option.{none-some, same_Some, slice_get_past, slice_get-get_or}
use Rattle.std.proofs.lemmas.List.{length-append, get_or_past}
use Rattle.sg_layout.specs.declared.shape.Shape.{Shape}
use Rattle.sg_journal.specs.declared.rooms.Room.{Room}
use Rattle.sg_journal.specs.Journal.{Rooms}
use Rattle.sg_journal.specs.Rooms.{AreRooms, room_of, room_in, rooms_of}
use Rattle.sg_audit.specs.declared.table.NodeTable.{NodeTable}
use Rattle.sg_audit.specs.steps.Tables.{IsTable, links_of, places_in, parents_by, parents_of, table_at, Stand}
use Rattle.sg_audit.specs.steps.Making.{MakesTables, room_at}
use Rattle.sg_audit.specs.steps.Building.{IsBuilt}

push_cases : {Y : Type 0} (ys : List Y) (y z : Y) (i : ℕ) → slice_get (ys ++ y ∷ []) i ≡ Some z → (slice_get ys i ≡ Some z) ⊎ ((i ≡ length ys) × (y ≡ z))
push_cases [] y z zero at = inr (refl, same_Some y z at)
push_cases [] y z (suc i) at = absurd (none-some z at)
push_cases (x ∷ ys) y z zero at = inl at
push_cases (x ∷ ys) y z (suc i) at = elim (push_cases ys y z i at) [ inl before ↦ inl before | inr last ↦ inr (ap suc last.0, last.1) ]

pub built_none : {X Y : Type 0} (R : X → Y → Type 0) (xs : List X) → IsBuilt R xs 0 []
built_none R xs = record { many = refl; each = λ i y at. absurd (none-some y at) }

pub built_more : {X Y : Type 0} (R : X → Y → Type 0) (xs : List X) (so_far : ℕ) (ys : List Y) (x : X) (y : Y) → IsBuilt R xs so_far ys → slice_get xs so_far ≡ Some x → R x y → IsBuilt R xs (so_far + 1) (ys ++ y ∷ [])
built_more {X} {Y} R xs so_far ys x y built at is = record {
  many = length-append ys (y ∷ []) ∙ ap (λ n. n + 1) built.many;
  each = λ i z there. elim (push_cases ys y z i there) [
    | inl before ↦ built.each i z before
    | inr last ↦ (x, ap (slice_get xs) (last.0 ∙ built.many) ∙ at, subst (λ (w : Y). R x w) last.1 is)
  ];
}

-- ---- the tables of a layout

abbrev pub IsOwnTable : List (Option Room) → Option Room → NodeTable → Type 0
IsOwnTable rooms room table = IsTable room (parents_of (room_at rooms) room) table []

-- one more, as the loop has its room
pub own_next : (rooms : List (Option Room)) (i : ℕ) (d : Option Room) (nodes more : List NodeTable) (table : NodeTable) (parents : ℕ) → i < length rooms → more ≡ nodes ++ table ∷ [] → parents ≡ parents_of (room_at rooms) (get_or rooms i d)
    → IsTable (get_or rooms i d) parents table [] → IsBuilt (IsOwnTable rooms) rooms i nodes → IsBuilt (IsOwnTable rooms) rooms (i + 1) more
own_next rooms i d nodes more table parents below more_is parents_are own built =
    let room : Option Room = get_or rooms i d in
    let at : slice_get rooms i ≡ Some room = slice_get-get_or rooms i d below in
    subst (IsBuilt (IsOwnTable rooms) rooms (i + 1)) (sym more_is)
    (built_more (IsOwnTable rooms) rooms i nodes room table built at (subst (λ (n : ℕ). IsTable room n table []) parents_are own))

same_room : (shape : Shape) (list : List (Option Room)) (rooms : Rooms) (layout : ℕ) → AreRooms shape list → ((node : ℕ) → rooms layout node ≡ room_of shape node) → (node : ℕ) → room_at list node ≡ rooms layout node
same_room shape list rooms layout are same zero = sym (same 0)
same_room shape list rooms layout are same (suc index) = are.each index ∙ sym (same (suc index))

same_parents : (one other : ℕ → Option Room) → ((node : ℕ) → one node ≡ other node) → (room : Option Room) → parents_of one room ≡ parents_of other room
same_parents one other same None = refl
same_parents one other same (Some room) = by_above room.above where
  by_above : (above : Option ℕ) → parents_by one above ≡ parents_by other above
  by_above None = refl
  by_above (Some above) = ap (λ (r : Option Room). suc (places_in r)) (same above)

get_is : (list : List (Option Room)) (i : ℕ) (room : Option Room) → slice_get list i ≡ Some room → slice_index_or list i None ≡ room
get_is [] i room at = absurd (none-some room at)
get_is (r ∷ list) zero room at = same_Some r room at
get_is (r ∷ list) (suc i) room at = get_is list i room at

past_length : {Y : Type 0} (ys : List Y) (i : ℕ) → slice_get ys i ≡ None → length ys ≤ i
past_length [] i none = omega arith
past_length (y ∷ ys) zero none = absurd (none-some y (sym none))
past_length (y ∷ ys) (suc i) none = omega (arith, past_length ys i none)

pub tables_made : (shape : Shape) (list : List (Option Room)) (tables : List NodeTable) (end : ℕ) → AreRooms shape list → IsBuilt (IsOwnTable list) list end tables → length list ≤ end → MakesTables shape tables
tables_made shape list tables end are built over rooms layout same = record { past = past; each = each } where
  past : (node : ℕ) → table_at tables node ≡ None → rooms layout node ≡ None
  past zero none = same 0
  past (suc index) none =
      let far : length list ≤ index = omega (arith, past_length tables index none, built.many, over) in
      sym (same_room shape list rooms layout are same (suc index)) ∙ get_or_past list index None far

  each : (node : ℕ) (table : NodeTable) → table_at tables node ≡ Some table → IsTable (rooms layout node) (parents_of (rooms layout) (rooms layout node)) table (links_of [] layout node)
  each zero table at = absurd (none-some table at)
  each (suc index) table at =
      let own = built.each index table at in
      let room_is : own.0 ≡ rooms layout (suc index) = sym (get_is list index own.0 own.1) ∙ same_room shape list rooms layout are same (suc index) in
      let P : Option Room → Type 0 = λ r. IsTable r (parents_of (rooms layout) r) table [] in
      subst P room_is (subst (λ n. IsTable own.0 n table []) (same_parents (room_at list) (rooms layout) (same_room shape list rooms layout are same) own.0) own.2)

-- ---- the tables of all layouts

pub all_made : (shapes : List Shape) (tables : List (List NodeTable)) (end : ℕ) → IsBuilt MakesTables shapes end tables → length shapes ≤ end → Stand (rooms_of shapes) [] tables
all_made shapes tables end built over = record {
  have = λ layout node none. refl;
  past = λ layout node none.
      let far : length shapes ≤ layout = omega (arith, past_length tables layout none, built.many, over) in
      ap (λ (o : Option Shape). room_in o node) (slice_get_past shapes layout far);
  each = λ layout own at.
      let made = built.each layout own at in
      made.2 (rooms_of shapes) layout (λ node. ap (λ (o : Option Shape). room_in o node) made.1);
}
