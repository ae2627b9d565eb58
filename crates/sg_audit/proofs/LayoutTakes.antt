-- The tables of a layout take a link exactly if that is sound.
use Rattle.std.proofs.Common.{◌≡◌, ◌≢◌, ℕ, zero, suc, ◌==◌, Bool, true, false, List, ◌∷◌, Option, Some, None, is_some, refl, sym, ap, ◌∙◌, subst, inl, inr}
use Rattle.std.specs.Prelude.{slice_get, slice_set, if◌then◌else◌}
use Rattle.std.proofs.lemmas.Bool.{both_ways, and_from, and_parts, eqb-true, eq-eqb, false_from_ne_true}
use Rattle.std.proofs.lemmas.Option.{none-some}
use Rattle.sg_journal.specs.declared.lines.Link.{Link}
use Rattle.sg_journal.specs.declared.rooms.Room.{Room}
use Rattle.sg_journal.specs.Journal.{has_node, has_parent, take_fits, is_sound_take}
use Rattle.sg_audit.specs.declared.table.NodeLink.{NodeLink}
use Rattle.sg_audit.specs.declared.table.NodeTable.{NodeTable}
use Rattle.sg_audit.specs.steps.Tables.{IsTable, fits_node, Takes, node_link, links_of, parents_of, table_at, parent_in, parent_of_table, with_link, TakesLink}
use Rattle.sg_audit.proofs.HeldLinks.{links_more, links_other}
use Rattle.sg_audit.proofs.LayoutsTables.{room_is, parent_is, parent_below, sound_is_fit, no_parent, table_set, table_past}

own_node : (link : Link) → has_node link.layout link.node link ≡ true
own_node link = and_from (link.layout == link.layout) (link.node == link.node) (eq-eqb link.layout link.layout refl) (eq-eqb link.node link.node refl)

other_node : (link : Link) (node : ℕ) → node ≢ link.node → has_node link.layout node link ≡ false
other_node link node apart = false_from_ne_true (has_node link.layout node link) (λ e. apart (sym (eqb-true link.node node (and_parts (link.layout == link.layout) (link.node == node) e).1)))

pub links_with : (link : Link) (held : List Link) (done : Bool) → links_of (with_link done link held) link.layout link.node ≡ (if done then node_link link ∷ links_of held link.layout link.node else links_of held link.layout link.node)
links_with link held true = links_more link held link.layout link.node (own_node link)
links_with link held false = refl

pub links_with_other : (link : Link) (held : List Link) (done : Bool) (node : ℕ) → node ≢ link.node → links_of (with_link done link held) link.layout node ≡ links_of held link.layout node
links_with_other link held true node apart = links_other link held link.layout node (other_node link node apart)
links_with_other link held false node apart = refl

pub takes_refused : (tables : List NodeTable) (link : Link) → parent_of_table tables (table_at tables link.node) link.parent ≡ false → TakesLink tables tables link false
takes_refused tables link none rooms held have are = (sym (by_table (table_at tables link.node) refl none), are) where
  by_room : (room : Option Room) (parents : ℕ) (table : NodeTable) → rooms link.layout link.node ≡ room → IsTable room parents table (links_of held link.layout link.node) → parent_in tables table.room link.parent ≡ false
      → is_sound_take rooms held link ≡ false
  by_room None parents table is own refused = ap (take_fits held link) is
  by_room (Some room) parents table is own refused =
      ap (take_fits held link) is
      ∙ no_parent held link room (sym (parent_is rooms link.layout held tables have are room.above link.parent) ∙ sym (ap (λ r. parent_in tables r link.parent) (room_is (Some room) parents table _ own)) ∙ refused)

  by_table : (table : Option NodeTable) → table_at tables link.node ≡ table → parent_of_table tables table link.parent ≡ false → is_sound_take rooms held link ≡ false
  by_table None at refused = ap (take_fits held link) (are.past link.node at)
  by_table (Some table) at refused = by_room (rooms link.layout link.node) _ table refl (are.each link.node table at) refused

pub takes_followed : (tables : List NodeTable) (link : Link) (index : ℕ) (old table : NodeTable) (done : Bool) → link.node ≡ suc index → slice_get tables index ≡ Some old
    → parent_of_table tables (table_at tables link.node) link.parent ≡ true → ((room : Option Room) (parents : ℕ) → Takes room parents old table (node_link link) done)
    → TakesLink tables (slice_set tables index table) link done
takes_followed tables link index old table done numbered at there takes rooms held have are = (
  by_room (rooms link.layout link.node) refl own taken.0,
  record {
    past = λ node none. are.past node (table_past tables index table node none);
    each = λ node kept is. elim (table_set tables index table old node kept at is) [
      | inl here ↦
          let node_is : node ≡ link.node = here.0 ∙ sym numbered in
          let P : ℕ → Type 0 = λ n. IsTable (rooms link.layout n) (parents_of (rooms link.layout) (rooms link.layout n)) kept (links_of (with_link done link held) link.layout n) in
          subst P (sym node_is)
          (subst (λ (t : NodeTable). IsTable (rooms link.layout link.node) (parents_of (rooms link.layout) (rooms link.layout link.node)) t (links_of (with_link done link held) link.layout link.node)) (sym here.1)
          (subst (λ (l : List NodeLink). IsTable (rooms link.layout link.node) (parents_of (rooms link.layout) (rooms link.layout link.node)) table l) (sym (links_with link held done)) taken.1))
      | inr other ↦
          subst (λ (l : List NodeLink). IsTable (rooms link.layout node) (parents_of (rooms link.layout) (rooms link.layout node)) kept l)
          (sym (links_with_other link held done node (λ e. other.0 (e ∙ numbered)))) (are.each node kept other.1)
    ];
  },
)
  where
    place : table_at tables link.node ≡ Some old
    place = ap (table_at tables) numbered ∙ at

    own : IsTable (rooms link.layout link.node) (parents_of (rooms link.layout) (rooms link.layout link.node)) old (links_of held link.layout link.node)
    own = are.each link.node old place

    taken : (done ≡ fits_node (rooms link.layout link.node) (parents_of (rooms link.layout) (rooms link.layout link.node)) (links_of held link.layout link.node) (node_link link))
        × IsTable (rooms link.layout link.node) (parents_of (rooms link.layout) (rooms link.layout link.node)) table (if done then node_link link ∷ links_of held link.layout link.node else links_of held link.layout link.node)
    taken = takes (rooms link.layout link.node) (parents_of (rooms link.layout) (rooms link.layout link.node)) (links_of held link.layout link.node) own

    by_room : (room : Option Room) → rooms link.layout link.node ≡ room → IsTable room (parents_of (rooms link.layout) room) old (links_of held link.layout link.node)
        → done ≡ fits_node room (parents_of (rooms link.layout) room) (links_of held link.layout link.node) (node_link link) → done ≡ is_sound_take rooms held link
    by_room None is kept fits = fits ∙ sym (ap (take_fits held link) is)
    by_room (Some room) is kept fits =
        let parent : has_parent held link.layout room.above link.parent ≡ true =
        sym (parent_is rooms link.layout held tables have are room.above link.parent)
        ∙ sym (ap (λ r. parent_in tables r link.parent) (room_is (Some room) _ old _ kept))
        ∙ sym (ap (λ t. parent_of_table tables t link.parent) place) ∙ there in
        fits ∙ sound_is_fit rooms link.layout held link room (parents_of (rooms link.layout) (Some room)) parent (parent_below rooms link.layout held tables have are room.above link.parent parent) ∙ sym (ap (take_fits held link) is)

-- a node with a table
pub record IsNode (tables : List NodeTable) (node : ℕ) : Type 0 where
  pub index : ℕ
  pub table : NodeTable
  pub numbered : node ≡ suc index
  pub at : slice_get tables index ≡ Some table

pub table_there : (tables : List NodeTable) (node : ℕ) (table : NodeTable) → table_at tables node ≡ Some table → IsNode tables node
table_there tables zero table at = absurd (none-some table at)
table_there tables (suc index) table at = record { index = index; table = table; numbered = refl; at = at }

-- if a parent is there, so is the node
pub node_there : (tables : List NodeTable) (node parent : ℕ) → parent_of_table tables (table_at tables node) parent ≡ true → IsNode tables node
node_there tables node parent is = by_table (table_at tables node) refl is where
  by_table : (table : Option NodeTable) → table_at tables node ≡ table → parent_of_table tables table parent ≡ true → IsNode tables node
  by_table None at e = absurd (both_ways false refl e)
  by_table (Some table) at e = table_there tables node table at

pub none_of : (table : Option NodeTable) → is_some table ≡ false → table ≡ None
none_of None e = refl
none_of (Some table) e = absurd (both_ways true e refl)

pub some_of : (tables : List NodeTable) (node : ℕ) → is_some (table_at tables node) ≡ true → IsNode tables node
some_of tables node is = by_table (table_at tables node) refl is where
  by_table : (table : Option NodeTable) → table_at tables node ≡ table → is_some table ≡ true → IsNode tables node
  by_table None at e = absurd (both_ways false refl e)
  by_table (Some table) at e = table_there tables node table at
