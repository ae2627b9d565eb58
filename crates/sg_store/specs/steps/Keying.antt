-- A hash node that is given more keys: which tables it may get, and how slots are put into one, one after the other.
use Rattle.std.specs.Prelude.{◌≡◌, ◌≢◌, ℕ, suc, ◌+◌, ◌<◌, ◌≤◌, ◌^◌, Bool, true, false, IsTrue, List, length, is_some, All, Contains, slice_index, slice_set}
use Rattle.sg_layout.specs.declared.shape.Kind.TheVariants.{Pointer, Hash}
use Rattle.sg_layout.specs.declared.shape.NodeShape.{NodeShape}
use Rattle.sg_hash.specs.Tables.{IsTable, AreBeside, beside}
use Rattle.sg_pool.specs.Numbers.{place_count, live_count, is_live_number, CanSettle}
use Rattle.sg_store.specs.declared.node.NodeWords.{NodeWords}
use Rattle.sg_store.specs.declared.hash.KeyPlan.{KeyPlan}
use Rattle.sg_store.specs.declared.pointer.Plan.{Plan}
use Rattle.sg_store.specs.Slots.{links_by_slot}
use Rattle.sg_store.specs.WellFormed.{by_slots}
pub use Rattle.sg_store.specs.Changes.{IsRekeyed}
use Rattle.sg_store.specs.steps.Settling.{CanSettleLinks}
use Rattle.sg_store.specs.steps.Filling.{IsUnlinkedStock, HasEnough, FilledTo, IsPlan}

-- a table of so many places, whose keys are numbers of so many slots
pub record IsKeyed (keys links : List ℕ) (places count : ℕ) : Type 0 where
  pub long : length keys ≡ places
  pub table : IsTable keys
  pub links_beside : AreBeside keys links
  pub are_slots : (key : ℕ) → IsTrue (is_some (beside keys links key)) → key < count

-- a list has all numbers of the table's links, and with one more than the room they are fewer than the places
pub record HasPlaces (keys links : List ℕ) (room count : ℕ) : Type 0 where
  pub numbers : List ℕ
  pub all : (number : ℕ) → Contains (links_by_slot keys links count) (suc number) → Contains numbers number
  pub fewer : length numbers + room < length keys
  pub apart : (x y : ℕ) → slice_index (links_by_slot keys links count) x ≢ 0 → slice_index (links_by_slot keys links count) x ≡ slice_index (links_by_slot keys links count) y → x ≡ y

-- slots that can be put into a table, with numbers of a stock
pub record CanFillKeys (keys links stock : List ℕ) (room : ℕ) (slots : List ℕ) (count : ℕ) : Type 0 where
  pub keyed : IsKeyed keys links (length keys) count
  pub few : count ≤ 2 ^ 32
  pub enough : HasEnough stock room slots
  pub fresh : IsUnlinkedStock (links_by_slot keys links count) stock
  pub within : All (λ slot. slot < count) slots
  pub has_places : HasPlaces keys links room count

-- one slot that can be put into a table, unless it is there
pub record CanAddKey (keys links : List ℕ) (slot count : ℕ) : Type 0 where
  pub keyed : IsKeyed keys links (length keys) count
  pub few : count ≤ 2 ^ 32
  pub within : slot < count
  pub has_places : HasPlaces keys links 0 count

-- it was put, with a number, or it was there already
pub record AddsKey (old_keys old_links keys links : List ℕ) (slot number : ℕ) (added : Bool) (count : ℕ) : Type 0 where
  pub keyed : IsKeyed keys links (length old_keys) count
  pub is_new : added ≡ true → (slice_index (links_by_slot old_keys old_links count) slot ≡ 0)
      × (links_by_slot keys links count ≡ slice_set (links_by_slot old_keys old_links count) slot (number + 1))
  pub was_there : added ≡ false → (slice_index (links_by_slot old_keys old_links count) slot ≢ 0)
      × (links_by_slot keys links count ≡ links_by_slot old_keys old_links count)

-- they have been put: the links by slots are filled, and it is a table of as many places
pub record FilledKeys (old_keys old_links keys links stock : List ℕ) (room taken : ℕ) (slots : List ℕ) (count : ℕ) : Type 0 where
  pub keyed : IsKeyed keys links (length old_keys) count
  pub filled : FilledTo (links_by_slot old_keys old_links count) (links_by_slot keys links count) stock room taken slots

-- slots for which a table can be planned beside a node's words
pub record CanPlanKeys (kept : NodeWords) (cap : ℕ) (slots : List ℕ) (count : ℕ) : Type 0 where
  pub keyed : IsKeyed kept.keys kept.links (length kept.keys) count
  pub few : count ≤ 2 ^ 32
  pub within_cap : live_count kept.pool ≤ cap
  pub places : place_count kept.pool ≡ cap + 17
  pub linked : (number : ℕ) → Contains (links_by_slot kept.keys kept.links count) (suc number) → IsTrue (is_live_number kept.pool number)
  pub apart : (x y : ℕ) → slice_index (links_by_slot kept.keys kept.links count) x ≢ 0 → slice_index (links_by_slot kept.keys kept.links count) x ≡ slice_index (links_by_slot kept.keys kept.links count) y → x ≡ y
  pub large : cap < length kept.keys
  pub within : All (λ slot. slot < count) slots

-- the plan by slots, as that of a pointer node
abbrev pub plan_by_slots : KeyPlan → ℕ → Plan
plan_by_slots plan count =
    record { links = links_by_slot plan.keys plan.links count; stock = plan.stock; room = plan.room; taken = plan.taken }

-- the plan is a table of as many places as before, and by slots a plan of links for these slots under this cap
pub record IsKeyPlan (kept : NodeWords) (cap : ℕ) (slots : List ℕ) (count : ℕ) (plan : KeyPlan) : Type 0 where
  pub keyed : IsKeyed plan.keys plan.links (length kept.keys) count
  pub linked : IsPlan (by_slots kept count) cap slots (plan_by_slots plan count)

-- a table that a node's words have room for, and numbers that its pool can make live
pub record CanRekey (keys links taken : List ℕ) (kept : NodeWords) : Type 0 where
  pub key_count : length keys ≡ length kept.keys
  pub link_count : length links ≡ length kept.links
  pub free : CanSettle kept.pool taken

-- the node with links
abbrev pub as_linked : NodeShape → NodeShape
as_linked node = record node { kind = Pointer }

-- a table that a hash node may get: its keys are slots, and its links by slots may be a pointer node's
pub record CanSettleKeys (keys links taken : List ℕ) (node : NodeShape) (kept : NodeWords) (slots : ℕ) (live : ℕ → Bool) : Type 0 where
  pub is_hash : node.kind ≡ Hash
  pub keyed : IsKeyed keys links (length kept.keys) slots
  pub can : CanSettleLinks (links_by_slot keys links slots) taken (as_linked node) (by_slots kept slots) slots live
