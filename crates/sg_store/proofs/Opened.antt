-- A store in which the words of one node have grown: it is well-formed again, its cells stay, and where the node keeps
-- the slots of wanted coordinates besides the old ones, it is open one node further.
use Rattle.std.proofs.Common.{◌≡◌, ◌≢◌, ℕ, zero, suc, ◌<◌, ◌≤◌, Bool, false, ◌||◌, List, [], ◌∷◌, ◌++◌, take, get_or, refl, sym, ap, ◌∙◌, subst, arith, cond, inl, inr, length}
use Rattle.std.specs.Prelude.{Option, Some, None, unwrap_or, slice_get, slice_set, ◌==◌, nat_le}
use Rattle.std.specs.Option.{option_map}
use Rattle.std.specs.List.{All, AllZip, list_any}
use Rattle.std.proofs.lemmas.Bool.{cases_eq, leb-true, le-leb}
use Rattle.std.proofs.lemmas.List.Folds.{list_any-append}
use Rattle.sg_coord.specs.declared.coord.Coord.{Coord}
use Rattle.sg_layout.specs.declared.shape.Kind.TheVariants.{Dense}
use Rattle.sg_layout.specs.declared.shape.NodeShape.{NodeShape}
use Rattle.sg_layout.specs.declared.shape.Shape.{Shape}
use Rattle.sg_layout.specs.Path.{path}
use Rattle.sg_layout.specs.Live.{kind_at, is_live}
use Rattle.sg_layout.specs.Slots.{IsSlot}
use Rattle.sg_store.specs.declared.node.NodeWords.{NodeWords}
use Rattle.sg_store.specs.StoreWords.{StoreWords}
use Rattle.sg_store.specs.Slots.{is_set}
use Rattle.sg_store.specs.Walks.{slot_number_in, is_on}
use Rattle.sg_store.specs.WellFormed.{AreNodes, IsWithinCap, IsFieldRow, IsWellFormed, is_root, cell_count}
use Rattle.sg_store.specs.StandsFor.{IsSlotOf}
use Rattle.sg_store.specs.Reaching.{KeepsCells, leads_from}
use Rattle.sg_store.specs.steps.AtNode.{OfNode, AtNode, AtNodeOf}
use Rattle.sg_store.specs.steps.Settling.{NodeGrows}
use Rattle.sg_store.specs.steps.Levels.{OpensNext}
use Rattle.sg_store.proofs.Walking.{own_kind, own_kind_is}
use Rattle.std.specs.List.{Contains}
use Rattle.std.proofs.lemmas.List.Elements.{All-get_or, All-set, Contains-append_right}
use Rattle.std.proofs.lemmas.Option.{same_Some, slice_get_within, slice_get-get_or}
use Rattle.sg_pool.specs.Numbers.{IsParted}
pub use Rattle.sg_store.proofs.SlotPaths.{slot_offsets, slot_long, live_alone, live_from_path, path_from_live, same_bool, not_true}
pub use Rattle.sg_store.proofs.Wanted.{Wants, wanted_live, wanted_some, wanted_none, number_there, open_for}
use Rattle.sg_store.proofs.Grown.{nodes_grown, cells_stay, number_stays, own_answer_at, on_elsewhere}

-- the store with other words for the node with this index
abbrev pub with_node : StoreWords → ℕ → NodeWords → StoreWords
with_node store index after = record store { nodes = slice_set store.nodes index after }

-- ── It is well-formed, and its cells stay ──

leads_stay : (nodes : List NodeShape) (words : List NodeWords) (places : ℕ) (live : ℕ → Bool) (i : ℕ) (after : NodeWords) → AtNode (NodeGrows after) nodes words places live i → (index slot place : ℕ) → leads_from (slice_get nodes index) (slice_get words index) slot ≡ Some place → leads_from (slice_get nodes index) (slice_get (slice_set words i after) index) slot ≡ Some place
leads_stay [] words places live i after grown index slot place leads = absurd grown
leads_stay (node ∷ later) [] places live i after grown index slot place leads = absurd grown
leads_stay (node ∷ later) (kept ∷ words) places live zero after grown zero slot place leads = grown.leads_stays slot place leads
leads_stay (node ∷ later) (kept ∷ words) places live zero after grown (suc index) slot place leads = leads
leads_stay (node ∷ later) (kept ∷ words) places live (suc i) after grown zero slot place leads = leads
leads_stay (node ∷ later) (kept ∷ words) places live (suc i) after grown (suc index) slot place leads = leads_stay later words _ _ i after grown index slot place leads

pub keeps_cells : (store : StoreWords) (i : ℕ) (after : NodeWords) → AtNodeOf (NodeGrows after) store i → KeepsCells store (with_node store i after)
keeps_cells store i after grown = record {
  same_shape = refl;
  same_fields = refl;
  same_cells = λ slot cell leads. cells_stay store.shape.nodes store.nodes 1 is_root i after grown 0 slot cell leads;
  same_leads = λ index slot place leads. leads_stay store.shape.nodes store.nodes 1 is_root i after grown index slot place leads;
}

pub row_kept : (old now : StoreWords) (row : List ℕ) → KeepsCells old now → IsFieldRow old row → IsFieldRow now row
row_kept old now row keeps fits = record {
  cells = fits.cells ∙ ap cell_count (sym keeps.same_shape);
  only_reached = λ cell some.
      let was = fits.only_reached cell some in
      record {
        slot = was.slot;
        is_slot = subst (λ (s : Shape). IsSlot s.nodes was.slot) (sym keeps.same_shape) was.is_slot;
        leads = keeps.same_cells was.slot cell was.leads;
      };
}

-- the node with these words is within its cap
abbrev pub OfWithinCap : NodeWords → OfNode
OfWithinCap after node kept slots live = IsWithinCap node.kind node after

caps_kept : (nodes : List NodeShape) (words : List NodeWords) (places : ℕ) (live : ℕ → Bool) (i : ℕ) (after : NodeWords) → AtNode (OfWithinCap after) nodes words places live i → AllZip (λ node kept. IsWithinCap node.kind node kept) nodes words → AllZip (λ node kept. IsWithinCap node.kind node kept) nodes (slice_set words i after)
caps_kept [] words places live i after here all = absurd here
caps_kept (node ∷ later) [] places live i after here all = absurd here
caps_kept (node ∷ later) (kept ∷ words) places live zero after here all = (here, all.1)
caps_kept (node ∷ later) (kept ∷ words) places live (suc i) after here all = (all.0, caps_kept later words _ _ i after here all.1)

pub parted_at : (words : List NodeWords) (i : ℕ) (kept : NodeWords) → All (λ (k : NodeWords). IsParted k.pool) words → slice_get words i ≡ Some kept → IsParted kept.pool
parted_at words i kept all has =
    let within : i < length words = slice_get_within words i kept has in
    subst (λ (k : NodeWords). IsParted k.pool) (same_Some (get_or words i kept) kept (sym (slice_get-get_or words i kept within) ∙ has))
    (All-get_or (λ (k : NodeWords). IsParted k.pool) words i kept within all)

pub well_formed_grown : (store : StoreWords) (i : ℕ) (after : NodeWords) → IsWellFormed store → AtNodeOf (NodeGrows after) store i → AtNodeOf (OfWithinCap after) store i → IsParted after.pool → IsWellFormed (with_node store i after)
well_formed_grown store i after is grown capped parted = record {
  accepted = is.accepted;
  nodes_fit = nodes_grown store.shape.nodes store.nodes 1 is_root i after is.nodes_fit grown;
  within_caps = caps_kept store.shape.nodes store.nodes 1 is_root i after capped is.within_caps;
  numbers_parted = All-set (λ (kept : NodeWords). IsParted kept.pool) store.nodes i after parted is.numbers_parted;
  few_words = is.few_words;
  few_cells = is.few_cells;
  field_count = is.field_count;
  rows_fit = λ k d below. row_kept store (with_node store i after) (get_or store.fields k d) (keeps_cells store i after grown) (is.rows_fit k d below);
}

-- ── Open one node further ──

-- besides the old slots the node keeps as active those that go with these numbers
abbrev pub AddsBy : (ℕ → ℕ → Bool) → NodeWords → List ℕ → NodeShape → NodeWords → Type 0
AddsBy goes after slots node kept =
    (q : ℕ) → is_set node.kind node after q ≡ (is_set node.kind node kept q || list_any (λ x. goes x q) slots)

-- those with these numbers alone
abbrev pub AddsSlots : NodeWords → List ℕ → NodeShape → NodeWords → Type 0
AddsSlots after slots node kept = AddsBy (λ x q. x == q) after slots node kept

-- at a node that the store is open for, those slots go with the numbers that are live for the wanted coordinates
pub record GoesLive (store : StoreWords) (i : ℕ) (wanted : List Coord) (slots : List ℕ) (goes : ℕ → ℕ → Bool) : Type 0 where
  pub paths : (at : Coord) (n : ℕ) → IsSlot (take n store.shape.nodes) (path store.shape at n)
  pub within : suc i ≤ length store.shape.nodes
  pub are_nodes : AreNodes store.shape.nodes store.nodes 1 is_root
  pub some : (slot : List ℕ) → IsSlot (take (suc i) store.shape.nodes) slot → (q : ℕ) → slot_number_in store.shape.nodes store.nodes 0 slot ≡ Some q → list_any (λ x. goes x q) slots ≡ is_live store.shape wanted (suc i) slot
  pub none : ((at : Coord) → Contains wanted at → (q : ℕ) × (slot_number_in store.shape.nodes store.nodes 0 (path store.shape at (suc i)) ≡ Some q)) → (slot : List ℕ) → IsSlot (take (suc i) store.shape.nodes) slot → slot_number_in store.shape.nodes store.nodes 0 slot ≡ None → is_live store.shape wanted (suc i) slot ≡ false

-- at a node that isn't dynamic each goes alone
pub goes_alone : (store : StoreWords) (i : ℕ) (wanted : List Coord) (slots : List ℕ) → Wants store i wanted slots → GoesLive store i wanted slots (λ x q. x == q)
goes_alone store i wanted slots wants = record {
  paths = wants.paths;
  within = wants.within;
  are_nodes = wants.are_nodes;
  some = λ slot is q e. wanted_some store i wanted slots wants slot is q e;
  none = λ numbered slot is e. wanted_none store i wanted slots wants numbered slot e;
}

-- what is on at the node: what was, and what is wanted
on_here : (store : StoreWords) (i : ℕ) (after : NodeWords) (wanted : List Coord) (slots : List ℕ) (node : NodeShape) (kept : NodeWords) (goes : ℕ → ℕ → Bool) → GoesLive store i wanted slots goes → ((at : Coord) → Contains wanted at → (q : ℕ) × (slot_number_in store.shape.nodes store.nodes 0 (path store.shape at (suc i)) ≡ Some q)) → slice_get store.shape.nodes i ≡ Some node → slice_get store.nodes i ≡ Some kept → slice_get (slice_set store.nodes i after) i ≡ Some after → AddsBy goes after slots node kept → (slot : List ℕ) → IsSlot (take (suc i) store.shape.nodes) slot → is_on store.shape.nodes (slice_set store.nodes i after) 0 slot ≡ (is_on store.shape.nodes store.nodes 0 slot || is_live store.shape wanted (suc i) slot)
on_here store i after wanted slots node kept goes wants numbered at has now adds slot is =
    let nodes : List NodeShape = store.shape.nodes in
    let long = slot_long nodes (suc i) slot wants.within is in
    let number : Option ℕ = slot_number_in nodes store.nodes 0 slot in
    let new : is_on nodes (slice_set store.nodes i after) 0 slot ≡ unwrap_or (option_map (is_set node.kind node after) number) false =
    ap (λ o. unwrap_or o false) (own_answer_at is_set nodes (slice_set store.nodes i after) i node after at now 0 slot long)
    ∙ ap (λ o. unwrap_or (option_map (is_set node.kind node after) o) false) (number_stays nodes store.nodes i after 0 slot (omega (arith, long))) in
    let old : is_on nodes store.nodes 0 slot ≡ unwrap_or (option_map (is_set node.kind node kept) number) false =
    ap (λ o. unwrap_or o false) (own_answer_at is_set nodes store.nodes i node kept at has 0 slot long) in
    new ∙ split number refl ∙ ap (λ b. b || is_live store.shape wanted (suc i) slot) (sym old)
  where
    split : (n : Option ℕ) → slot_number_in store.shape.nodes store.nodes 0 slot ≡ n → unwrap_or (option_map (is_set node.kind node after) n) false ≡ (unwrap_or (option_map (is_set node.kind node kept) n) false || is_live store.shape wanted (suc i) slot)
    split None none = sym (wants.none numbered slot is none)
    split (Some q) some = adds q ∙ ap (λ b. is_set node.kind node kept q || b) (wants.some slot is q some)

nat_le_same : (n i : ℕ) → n ≢ suc i → nat_le n (suc i) ≡ nat_le n i
nat_le_same n i other = same_bool _ _
    (λ h. let low : n ≤ suc i = leb-true n (suc i) h in le-leb n i (omega arith))
    (λ h. let low : n ≤ i = leb-true n i h in le-leb n (suc i) (omega arith))

own_kind_of : (shape : Shape) (number : ℕ) (slot : List ℕ) → IsSlotOf shape number slot → own_kind shape.nodes slot ≢ Dense
own_kind_of shape number [] is = absurd (omega (arith, is.first, slot_long shape.nodes number [] is.within is.is_slot))
own_kind_of shape number (o ∷ slot) is = λ dense. is.has_activity (
    ap (kind_at shape.nodes) (sym (slot_long shape.nodes number (o ∷ slot) is.within is.is_slot))
    ∙ sym (own_kind_is shape.nodes o slot) ∙ dense)

-- the node with an index, of nodes that are well-formed
pub opens_by : (store : StoreWords) (i : ℕ) (after : NodeWords) (wanted : List Coord) (slots : List ℕ) (node : NodeShape) (kept : NodeWords) (goes : ℕ → ℕ → Bool) → GoesLive store i wanted slots goes → AtNodeOf (NodeGrows after) store i → slice_get store.shape.nodes i ≡ Some node → slice_get store.nodes i ≡ Some kept → slice_get (slice_set store.nodes i after) i ≡ Some after → AddsBy goes after slots node kept → OpensNext store (with_node store i after) wanted i
opens_by store i after wanted slots node kept goes wants grown at has now adds old was_open number slot is =
    elim (cases_eq number (suc i)) [
      | inl here ↦
          let is_slot : IsSlot (take (suc i) store.shape.nodes) slot = subst (λ n. IsSlot (take n store.shape.nodes) slot) here is.is_slot in
          let was : is_on store.shape.nodes store.nodes 0 slot ≡ is_live store.shape old (suc i) slot =
          was_open number slot is ∙ ap (λ b. is_live store.shape (cond b (old ++ wanted) old) number slot) (nat_le_past number i here) ∙ ap (λ n. is_live store.shape old n slot) here in
          let numbered : (at : Coord) → Contains wanted at → (q : ℕ) × (slot_number_in store.shape.nodes store.nodes 0 (path store.shape at (suc i)) ≡ Some q) = λ c found.
          number_there store i (old ++ wanted) (open_for store old wanted i wants.paths wants.are_nodes (omega (arith, wants.within)) was_open) (omega (arith, wants.within)) c (Contains-append_right old wanted c found) in
          on_here store i after wanted slots node kept goes wants numbered at has now adds slot is_slot
          ∙ ap (λ b. b || is_live store.shape wanted (suc i) slot) was
          ∙ sym (list_any-append _ old wanted)
          ∙ sym (ap (λ n. is_live store.shape (old ++ wanted) n slot) here)
          ∙ sym (ap (λ b. is_live store.shape (cond b (old ++ wanted) old) number slot) (le-leb number (suc i) (omega (arith, here))))
      | inr other ↦
          on_elsewhere store.shape.nodes store.nodes 1 is_root i after wants.are_nodes grown 0 slot (slot_offsets store.shape.nodes number slot is.is_slot)
          (own_kind_of store.shape number slot is) (λ e. other (sym (slot_long store.shape.nodes number slot is.within is.is_slot) ∙ e))
          ∙ was_open number slot is
          ∙ sym (ap (λ b. is_live store.shape (cond b (old ++ wanted) old) number slot) (nat_le_same number i other))
    ]
  where
    nat_le_past : (n j : ℕ) → n ≡ suc j → nat_le n j ≡ false
    nat_le_past n j e = not_true _ (λ h. let low : n ≤ j = leb-true n j h in absurd (omega (arith, e)))

pub opens_next : (store : StoreWords) (i : ℕ) (after : NodeWords) (wanted : List Coord) (slots : List ℕ) (node : NodeShape) (kept : NodeWords) → Wants store i wanted slots → AtNodeOf (NodeGrows after) store i → slice_get store.shape.nodes i ≡ Some node → slice_get store.nodes i ≡ Some kept → slice_get (slice_set store.nodes i after) i ≡ Some after → AddsSlots after slots node kept → OpensNext store (with_node store i after) wanted i
opens_next store i after wanted slots node kept wants grown at has now adds =
    opens_by store i after wanted slots node kept (λ x q. x == q) (goes_alone store i wanted slots wants) grown at has now adds
