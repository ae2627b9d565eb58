-- The tables of a layout let a number go exactly if that is sound.
use Rattle.std.proofs.Common.{◌≡◌, ℕ, zero, suc, ◌+◌, ◌==◌, Bool, true, false, not, ◌&&◌, nat_lt, List, Option, Some, None, refl, sym, ap, ◌∙◌, subst, arith, inl, inr}
use Rattle.std.specs.Prelude.{slice_get, slice_set, slice_index}
use Rattle.std.specs.List.{list_any}
use Rattle.std.proofs.lemmas.Bool.{both_ways, and_from, and_parts, eqb-true, eq-eqb}
use Rattle.std.proofs.lemmas.Option.{none-some}
use Rattle.sg_words.proofs.Uses.{same_tests}
use Rattle.sg_journal.specs.declared.lines.Link.{Link}
use Rattle.sg_journal.specs.declared.rooms.Room.{Room}
use Rattle.sg_journal.specs.Journal.{Rooms, is_held, is_below, is_child}
use Rattle.sg_audit.specs.declared.table.NodeLink.{NodeLink}
use Rattle.sg_audit.specs.declared.table.NodeTable.{NodeTable}
use Rattle.sg_audit.specs.steps.Tables.{has_this, is_in, IsTable, LetsGo, node_link, links_of, parents_of, table_at, AreTables, has_child_in, without, FreesNumber}
use Rattle.sg_audit.proofs.NodeLinks.{rest_of, rest_all}
use Rattle.sg_audit.proofs.HeldLinks.{any_from, any_into, any_at, held_at, links_less, links_apart}
use Rattle.sg_audit.proofs.LayoutsTables.{room_is, children_is, table_set, table_past}

same_next : (number : ℕ) → number + 1 ≡ suc number
same_next number = omega arith

-- a number has children in the tables exactly if links that are held are its children
children_held : (rooms : Rooms) (layout : ℕ) (held : List Link) (tables : List NodeTable) → AreTables rooms layout held tables → (node number : ℕ) → list_any (has_child_in node number) tables ≡ list_any (is_child rooms layout node number) held
children_held rooms layout held tables are node number =
    same_tests (list_any (has_child_in node number) tables) (list_any (is_child rooms layout node number) held) there back
  where
    -- of a table with children one of the links is a child
    by_some : (r : Option Room) (parents other : ℕ) (table : NodeTable) → rooms layout other ≡ r → IsTable r parents table (links_of held layout other) → is_below r node ≡ true → nat_lt 0 (slice_index table.children (number + 1)) ≡ true → list_any (is_child rooms layout node number) held ≡ true
    by_some None parents other table at kept below some = absurd (both_ways false refl below)
    by_some (Some own_room) parents other table at kept below some =
        let any : list_any (is_in (number + 1)) (links_of held layout other) ≡ true = sym (children_is (Some own_room) parents table _ (number + 1) own_room refl kept) ∙ some in
        let found = any_into (λ (x : Link). (x.layout == layout) && ((x.node == other) && is_in (number + 1) (node_link x))) held (any_at (is_in (number + 1)) layout other held ∙ any) in
        let x : Link = found.item in
        let one = and_parts (x.layout == layout) ((x.node == other) && is_in (number + 1) (node_link x)) found.passes in
        let two = and_parts (x.node == other) (is_in (number + 1) (node_link x)) one.1 in
        let layout_is : x.layout ≡ layout = eqb-true x.layout layout one.0 in
        let node_is : x.node ≡ other = eqb-true x.node other two.0 in
        let room_here : rooms x.layout x.node ≡ Some own_room = ap (λ l. rooms l x.node) layout_is ∙ ap (rooms layout) node_is ∙ at in
        any_from (is_child rooms layout node number) held found.index x found.at
        (and_from (x.layout == layout) (is_below (rooms x.layout x.node) node && (x.parent == suc number)) one.0
        (and_from (is_below (rooms x.layout x.node) node) (x.parent == suc number) (ap (λ r. is_below r node) room_here ∙ below)
        (eq-eqb x.parent (suc number) (eqb-true x.parent (number + 1) two.1 ∙ same_next number))))

    by_room : (room : Option Room) (parents : ℕ) (other : ℕ) (table : NodeTable) → rooms layout other ≡ room → IsTable room parents table (links_of held layout other) → has_child_in node number table ≡ true
        → list_any (is_child rooms layout node number) held ≡ true
    by_room room parents other table is own has =
        let parts = and_parts (is_below table.room node) (nat_lt 0 (slice_index table.children (number + 1))) has in
        let below : is_below room node ≡ true = sym (ap (λ r. is_below r node) (room_is room parents table _ own)) ∙ parts.0 in
        by_some room parents other table is own below parts.1

    there : list_any (has_child_in node number) tables ≡ true → list_any (is_child rooms layout node number) held ≡ true
    there e =
        let found = any_into (has_child_in node number) tables e in
        by_room (rooms layout (suc found.index)) _ (suc found.index) found.item refl (are.each (suc found.index) found.item found.at) found.passes

    -- the table of the node of a child has it
    in_tables : (n : ℕ) (table : NodeTable) → table_at tables n ≡ Some table → has_child_in node number table ≡ true → list_any (has_child_in node number) tables ≡ true
    in_tables zero table at has = absurd (none-some table at)
    in_tables (suc index) table at has = any_from (has_child_in node number) tables index table at has

    by_child : (x : Link) (i : ℕ) → slice_get held i ≡ Some x → (room : Option Room) → rooms layout x.node ≡ room → x.layout ≡ layout → is_below room node ≡ true → x.parent ≡ suc number
        → (table : Option NodeTable) → table_at tables x.node ≡ table → list_any (has_child_in node number) tables ≡ true
    by_child x i at None is same below parent table here = absurd (both_ways false refl below)
    by_child x i at (Some own_room) is same below parent None here = absurd (none-some own_room (sym (are.past x.node here) ∙ is))
    by_child x i at (Some own_room) is same below parent (Some table) here =
        let own : IsTable (Some own_room) (parents_of (rooms layout) (rooms layout x.node)) table (links_of held layout x.node) =
        subst (λ r. IsTable r (parents_of (rooms layout) (rooms layout x.node)) table (links_of held layout x.node)) is (are.each x.node table here) in
        let any : list_any (is_in (number + 1)) (links_of held layout x.node) ≡ true =
        sym (any_at (is_in (number + 1)) layout x.node held)
        ∙ any_from (λ (y : Link). (y.layout == layout) && ((y.node == x.node) && is_in (number + 1) (node_link y))) held i x at
        (and_from (x.layout == layout) ((x.node == x.node) && is_in (number + 1) (node_link x)) (eq-eqb x.layout layout same)
        (and_from (x.node == x.node) (is_in (number + 1) (node_link x)) (eq-eqb x.node x.node refl) (eq-eqb x.parent (number + 1) (parent ∙ sym (same_next number))))) in
        in_tables x.node table here
        (and_from (is_below table.room node) (nat_lt 0 (slice_index table.children (number + 1)))
        (ap (λ r. is_below r node) (room_is (Some own_room) _ table _ own) ∙ below)
        (children_is (Some own_room) _ table _ (number + 1) own_room refl own ∙ any))

    back : list_any (is_child rooms layout node number) held ≡ true → list_any (has_child_in node number) tables ≡ true
    back e =
        let found = any_into (is_child rooms layout node number) held e in
        let x : Link = found.item in
        let one = and_parts (x.layout == layout) (is_below (rooms x.layout x.node) node && (x.parent == suc number)) found.passes in
        let two = and_parts (is_below (rooms x.layout x.node) node) (x.parent == suc number) one.1 in
        let same : x.layout ≡ layout = eqb-true x.layout layout one.0 in
        by_child x found.index found.at (rooms layout x.node) refl same (subst (λ l. is_below (rooms l x.node) node ≡ true) same two.0) (eqb-true x.parent (suc number) two.1) (table_at tables x.node) refl

and_no : (a b : Bool) → b ≡ false → (a && b) ≡ false
and_no true b e = e
and_no false b e = refl

and_yes : (a b : Bool) → b ≡ true → a ≡ (a && b)
and_yes true b e = sym e
and_yes false b e = refl

-- a number with children stays
pub frees_refused : (tables : List NodeTable) (node number : ℕ) → list_any (has_child_in node number) tables ≡ true → FreesNumber tables tables node number false
frees_refused tables node number has rooms layout held have are = (
  sym (and_no (is_held held layout node number) _ (ap not (sym (children_held rooms layout held tables are node number) ∙ has))),
  are,
)

-- so does one of a node that isn't there
pub frees_none : (tables : List NodeTable) (node number : ℕ) → table_at tables node ≡ None → FreesNumber tables tables node number false
frees_none tables node number none rooms layout held have are =
    let unheld : is_held held layout node number ≡ false = held_at held layout node number ∙ ap (list_any (has_this number)) (have layout node (are.past node none)) in
    (sym (ap (λ b. b && not (list_any (is_child rooms layout node number) held)) unheld), are)

pub frees_followed : (tables : List NodeTable) (node number index : ℕ) (old table : NodeTable) (done : Bool) → node ≡ suc index → slice_get tables index ≡ Some old → list_any (has_child_in node number) tables ≡ false
    → ((room : Option Room) (parents : ℕ) → LetsGo room parents old table number done) → FreesNumber tables (slice_set tables index table) node number done
frees_followed tables node number index old table done numbered at childless frees rooms layout held have are = (
  gone.0 ∙ sym (held_at held layout node number) ∙ and_yes (is_held held layout node number) _ (ap not (sym (children_held rooms layout held tables are node number) ∙ childless)),
  record {
    past = λ other none. are.past other (table_past tables index table other none);
    each = λ other kept is. elim (table_set tables index table old other kept at is) [
      | inl here ↦
          let node_is : other ≡ node = here.0 ∙ sym numbered in
          let P : ℕ → Type 0 = λ n. IsTable (rooms layout n) (parents_of (rooms layout) (rooms layout n)) kept (links_of (without done layout node number held) layout n) in
          subst P (sym node_is)
          (subst (λ (t : NodeTable). IsTable (rooms layout node) (parents_of (rooms layout) (rooms layout node)) t (links_of (without done layout node number held) layout node)) (sym here.1)
          (subst (λ (l : List NodeLink). IsTable (rooms layout node) (parents_of (rooms layout) (rooms layout node)) table l) (sym (links_without done refl)) gone.1))
      | inr other_node ↦
          subst (λ (l : List NodeLink). IsTable (rooms layout other) (parents_of (rooms layout) (rooms layout other)) kept l)
          (sym (links_kept done other (λ e. other_node.0 (sym e ∙ numbered)))) (are.each other kept other_node.1)
    ];
  },
)
  where
    own : IsTable (rooms layout node) (parents_of (rooms layout) (rooms layout node)) old (links_of held layout node)
    own = are.each node old (ap (table_at tables) numbered ∙ at)

    gone : (done ≡ list_any (has_this number) (links_of held layout node)) × IsTable (rooms layout node) (parents_of (rooms layout) (rooms layout node)) table (rest_of number (links_of held layout node))
    gone = frees (rooms layout node) (parents_of (rooms layout) (rooms layout node)) (links_of held layout node) own

    links_without : (d : Bool) → done ≡ d → links_of (without d layout node number held) layout node ≡ rest_of number (links_of held layout node)
    links_without true is = links_less held layout node number
    links_without false is = sym (rest_all (links_of held layout node) number (sym gone.0 ∙ is))

    links_kept : (d : Bool) (other : ℕ) → (node ≡ other → ⊥) → links_of (without d layout node number held) layout other ≡ links_of held layout other
    links_kept true other apart = links_apart held layout node number layout other (λ same e. apart e)
    links_kept false other apart = refl
