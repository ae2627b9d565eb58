-- What coordinates that were reached leave: the store stands for the closure, or its first full node is found.
use Rattle.std.proofs.Common.{◌≡◌, ℕ, zero, suc, ◌+◌, ◌-◌, ◌<◌, ◌≤◌, true, false, List, [], ◌∷◌, ◌++◌, length, get_or, refl, sym, ap, ◌∙◌, subst, arith, inl, inr, cond}
use Rattle.std.specs.Prelude.{is_some, Some, None, Result, Ok, Err, IsErrAnd, slice_get, nat_lt, All}
use Rattle.std.specs.List.{Contains}
use Rattle.std.proofs.lemmas.Bool.{false≢true, cases_Bool, cases_eq, leb-true, le-leb}
use Rattle.std.proofs.lemmas.Bool.Decides.{nat_tests}
use Rattle.std.proofs.lemmas.List.{append-nil}
use Rattle.std.proofs.lemmas.List.Elements.{Contains-append_cases, Contains-append_left, All-contains}
use Rattle.std.proofs.lemmas.Option.{none-some, same_Some, slice_get_within, slice_get-get_or}
use Rattle.sg_words.specs.declared.memory.Stop.{Stop}
use Rattle.sg_words.specs.declared.memory.Stop.TheVariants as stop
use Rattle.sg_words.specs.Answers.{Answers}
use Rattle.sg_coord.specs.declared.coord.Coord.{Coord}
use Rattle.sg_coord.specs.Bounds.{Bounds}
use Rattle.sg_coord.specs.Laws.{PointOfRow}
use Rattle.sg_coord.specs.Coord.{Inside, is_inside, row_of, point_at}
use Rattle.sg_layout.specs.declared.shape.Kind.{Kind}
use Rattle.sg_layout.specs.declared.shape.Kind.TheVariants.{Dense, Bitmasked, Pointer, Hash, Dynamic}
use Rattle.sg_layout.specs.declared.shape.NodeShape.{NodeShape}
use Rattle.sg_layout.specs.declared.shape.Shape.{Shape}
use Rattle.sg_layout.specs.Axes.{count_of, bounds_of_shape}
use Rattle.sg_layout.specs.Path.{offsets}
use Rattle.sg_layout.specs.Live.{kind_or, kind_at, is_live}
use Rattle.sg_layout.specs.Closure.{closure}
use Rattle.sg_layout.specs.Need.{FullNode, need_of, first_full_from, first_full, need_by}
use Rattle.sg_layout.specs.NeedLaws.{ReachedAreLive, ReachedOnce, ParentsHaveLive, LiveUpToGreatest, AllInside}
use Rattle.sg_layout.specs.ClosureLaws.{ClosureIsInside, ClosureGrows, ClosureIsClosed}
use Rattle.sg_layout.specs.LiveLaws.{LiveAbsorbs}
use Rattle.sg_layout.specs.PathLaws.{PathIsSlot}
use Rattle.sg_flat.specs.declared.state.FlatLayout.{FlatLayout}
use Rattle.sg_flat.specs.State.{IsFlatLayout, value_in, words_or_none, value_at}
use Rattle.sg_flat.specs.Words.{word_at}
use Rattle.sg_pool.specs.Numbers.{live_count}
use Rattle.sg_store.specs.declared.node.NodeWords.{NodeWords}
use Rattle.sg_store.specs.declared.reach.Full.{Full}
use Rattle.sg_store.specs.StoreWords.{StoreWords, word_in}
use Rattle.sg_store.specs.Walks.{cell_along, cell_in}
use Rattle.sg_store.specs.WellFormed.{kind_has_cap, IsWithinCap, IsWellFormed, is_root}
use Rattle.sg_store.specs.StandsFor.{HasValues, StandsFor}
use Rattle.sg_store.specs.Reaching.{KeepsCells, IsOpenThrough, unless_full}
use Rattle.sg_store.specs.steps.Levels.{OpensNext, IsFullNode, IfRefused}
use Rattle.sg_store.specs.Slots.{active_below}
use Rattle.sg_store.proofs.Walking.{walks_apart, active_are_one}
use Rattle.sg_store.proofs.ActiveCells.{CellLaws, slot_offsets, slot_length, offsets_are_slot, cell_parts, cell_from_parts, active_has_cell, from_some}
use Rattle.sg_store.proofs.OneFlat.{idle_is_zero}
use Rattle.sg_store.proofs.Opened.{not_true}
use Rattle.sg_store.proofs.Counting.{node_of, nodes_at, OfWellFormed}
use Rattle.sg_store.proofs.PointerLevel.{cap_at}
use Rattle.sg_store.proofs.NodeNeed.{NeedLaws, node_need}

-- ── What holds of a copy while its nodes are opened ──

-- the copy is open through the nodes so far, whatever the store was for
pub record IsReaching (store next : StoreWords) (wanted : List Coord) (index : ℕ) : Type 0 where
  pub well_formed : IsWellFormed next
  pub keeps : KeepsCells store next
  pub opens : (old : List Coord) → IsOpenThrough store old (old ++ wanted) 0 → IsOpenThrough next old (old ++ wanted) index

pub reaching_none : (store next : StoreWords) (wanted : List Coord) → IsWellFormed store → next ≡ store → IsReaching store next wanted 0
reaching_none store next wanted well same = subst (λ s. IsReaching store s wanted 0) (sym same) (record {
  well_formed = well;
  keeps = record { same_shape = refl; same_fields = refl; same_cells = λ slot cell e. e; same_leads = λ index slot place e. e };
  opens = λ old is_open. is_open;
})

pub reaching_more : (store next after : StoreWords) (wanted : List Coord) (index more : ℕ) → more ≡ suc index → IsReaching store next wanted index → IsWellFormed after → KeepsCells next after → OpensNext next after wanted index → IsReaching store after wanted more
reaching_more store next after wanted index more same is well keeps opens = subst (λ n. IsReaching store after wanted n) (sym same) (record {
  well_formed = well;
  keeps = record {
    same_shape = keeps.same_shape ∙ is.keeps.same_shape;
    same_fields = keeps.same_fields ∙ is.keeps.same_fields;
    same_cells = λ slot cell e. keeps.same_cells slot cell (is.keeps.same_cells slot cell e);
    same_leads = λ index slot place e. keeps.same_leads index slot place (is.keeps.same_leads index slot place e);
  };
  opens = λ old is_open. opens old (is.opens old is_open);
})

-- a store that stands for a flat layout is open through no node for it
pub open_at_start : (store : StoreWords) (flat : FlatLayout) (wanted : List Coord) → StandsFor store flat → IsOpenThrough store flat.active (flat.active ++ wanted) 0
open_at_start store flat wanted stands number slot is =
    stands.live_slots number slot is
    ∙ sym (ap (λ b. is_live store.shape (cond b (flat.active ++ wanted) flat.active) number slot) (not_true _ (λ h. let low : number ≤ 0 = leb-true number 0 h in absurd (omega (arith, is.first)))))

-- ── Which node is full first ──

-- if each need fits, no node is full
pub full_none : (shape : Shape) (coords : List Coord) (number : ℕ) (nodes : List NodeShape) → ((j : ℕ) (node : NodeShape) → slice_get nodes j ≡ Some node → need_of shape coords (number + j) node ≤ count_of node.cap) → first_full_from shape coords number nodes ≡ None
full_none shape coords number [] fits = refl
full_none shape coords number (node ∷ later) fits =
    let zeroth : number + 0 ≡ number = omega arith in
    let here : need_of shape coords number node ≤ count_of node.cap = subst (λ n. need_of shape coords n node ≤ count_of node.cap) zeroth (fits 0 node refl) in
    ap (λ b. cond b (Some (full_node number (count_of node.cap))) (first_full_from shape coords (suc number) later)) (not_true _ (λ h. absurd (lt_not (count_of node.cap) _ h here)))
    ∙ full_none shape coords (suc number) later (λ j other at. let next : number + suc j ≡ suc number + j = omega arith in subst (λ n. need_of shape coords n other ≤ count_of other.cap) next (fits (suc j) other at))
  where
    full_node : ℕ → ℕ → FullNode
    full_node n m = record { node = n; cap = m }

    lt_not : (a b : ℕ) → nat_lt a b ≡ true → b ≤ a → ⊥
    lt_not a b h low = grind (arith, nat_tests)

-- if the needs before a node fit and its own doesn't, that node is
pub full_some : (shape : Shape) (coords : List Coord) (number : ℕ) (nodes : List NodeShape) (i : ℕ) (node : NodeShape) → slice_get nodes i ≡ Some node → ((j : ℕ) (other : NodeShape) → j < i → slice_get nodes j ≡ Some other → need_of shape coords (number + j) other ≤ count_of other.cap) → count_of node.cap < need_of shape coords (number + i) node → first_full_from shape coords number nodes ≡ Some (record { node = number + i; cap = count_of node.cap })
full_some shape coords number [] i node at fits past = absurd (none-some node at)
full_some shape coords number (first ∷ later) zero node at fits past =
    let same : first ≡ node = same_Some first node at in
    let zeroth : number + 0 ≡ number = omega arith in
    let here : count_of first.cap < need_of shape coords number first =
    subst (λ n. count_of first.cap < need_of shape coords n first) zeroth (subst (λ (n : NodeShape). count_of n.cap < need_of shape coords (number + 0) n) (sym same) past) in
    ap (λ b. cond b (Some (full_node number (count_of first.cap))) (first_full_from shape coords (suc number) later)) (lt_test _ _ here)
    ∙ ap (λ (n : NodeShape). Some (full_node number (count_of n.cap))) same ∙ ap (λ n. Some (full_node n (count_of node.cap))) (sym zeroth)
  where
    full_node : ℕ → ℕ → FullNode
    full_node n m = record { node = n; cap = m }

    lt_test : (a b : ℕ) → a < b → nat_lt a b ≡ true
    lt_test a b h = grind (arith, nat_tests)
full_some shape coords number (first ∷ later) (suc i) node at fits past =
    let zeroth : number + 0 ≡ number = omega arith in
    let next : number + suc i ≡ suc number + i = omega arith in
    let here : need_of shape coords number first ≤ count_of first.cap = subst (λ n. need_of shape coords n first ≤ count_of first.cap) zeroth (fits 0 first (omega arith) refl) in
    ap (λ b. cond b (Some (full_node number (count_of first.cap))) (first_full_from shape coords (suc number) later)) (not_true _ (λ h. absurd (lt_not (count_of first.cap) _ h here)))
    ∙ full_some shape coords (suc number) later i node at
    (λ j other below there. let after : number + suc j ≡ suc number + j = omega arith in subst (λ n. need_of shape coords n other ≤ count_of other.cap) after (fits (suc j) other (omega (arith, below)) there))
    (subst (λ n. count_of node.cap < need_of shape coords n node) next past)
    ∙ ap (λ n. Some (full_node n (count_of node.cap))) (sym next)
  where
    full_node : ℕ → ℕ → FullNode
    full_node n m = record { node = n; cap = m }

    lt_not : (a b : ℕ) → nat_lt a b ≡ true → b ≤ a → ⊥
    lt_not a b h low = grind (arith, nat_tests)

-- the laws of a layout that this rests on
pub record ReachLaws (shape : Shape) : Type 0 where
  pub paths : PathIsSlot shape
  pub reached : ReachedAreLive shape
  pub once : ReachedOnce shape
  pub parents : ParentsHaveLive shape
  pub up_to : LiveUpToGreatest shape
  pub absorbs : LiveAbsorbs shape
  pub inside : ClosureIsInside shape
  pub grows : ClosureGrows shape
  pub closed : ClosureIsClosed shape
  pub cells : CellLaws shape
  pub point_of_row : PointOfRow

pub kind_there : (nodes : List NodeShape) (i : ℕ) (node : NodeShape) → slice_get nodes i ≡ Some node → kind_at nodes (suc i) ≡ node.kind
kind_there nodes i node at =
    let back : suc i - 1 ≡ i = omega arith in
    ap (λ k. kind_or (slice_get nodes k)) back ∙ ap kind_or at

-- the laws on needs among them
need_laws : (shape : Shape) → ReachLaws shape → NeedLaws shape
need_laws shape laws = record { is_slot = laws.paths; reached = laws.reached; once = laws.once; parents = laws.parents; up_to = laws.up_to }

-- what a node needs is what is live there
need_fits : (kind : Kind) (shape : Shape) (all : List Coord) (number : ℕ) (node : NodeShape) (kept : NodeWords) → node.kind ≡ kind → IsWithinCap kind node kept → (kind_has_cap kind ≡ true → live_count kept.pool ≡ need_of shape all number node) → need_of shape all number node ≤ count_of node.cap
need_fits Dense shape all number node kept e capped count = subst (λ k. need_by k shape all number (count_of node.chunk) ≤ count_of node.cap) (sym e) (omega arith)
need_fits Bitmasked shape all number node kept e capped count = subst (λ k. need_by k shape all number (count_of node.chunk) ≤ count_of node.cap) (sym e) (omega arith)
need_fits Pointer shape all number node kept e capped count = omega (arith, count refl, capped)
need_fits Hash shape all number node kept e capped count = omega (arith, count refl, capped)
need_fits Dynamic shape all number node kept e capped count = omega (arith, count refl, capped)

-- so the needs of the nodes that are open fit
pub needs_fit : (next : StoreWords) (i : ℕ) (old all : List Coord) → NeedLaws next.shape → IsWellFormed next → IsOpenThrough next old all i → (j : ℕ) (node : NodeShape) → j < i → slice_get next.shape.nodes j ≡ Some node → need_of next.shape all (1 + j) node ≤ count_of node.cap
needs_fit next i old all laws well is_open j node below at =
    let one : 1 + j ≡ suc j = omega arith in
    let found = node_of OfWellFormed next.shape.nodes next.nodes 1 is_root j
    (nodes_at next.shape.nodes next.nodes 1 is_root j well.nodes_fit (slice_get_within next.shape.nodes j node at)) in
    let fits : need_of next.shape all (suc j) found.node ≤ count_of found.node.cap =
    need_fits found.node.kind next.shape all (suc j) found.node found.kept refl
    (cap_at next.shape.nodes next.nodes j found.node found.kept well.within_caps found.at found.has)
    (λ capped. node_need next j found.node found.kept all laws well found.at found.has capped (λ slot is_slot.
    is_open (suc j) slot is_slot ∙ ap (λ b. is_live next.shape (cond b all old) (suc j) slot) (le-leb (suc j) i (omega (arith, below))))) in
    subst (λ n. need_of next.shape all n node ≤ count_of node.cap) (sym one)
    (subst (λ (n : NodeShape). need_of next.shape all (suc j) n ≤ count_of n.cap) (same_Some found.node node (sym found.at ∙ at)) fits)

pub open_fits : (next : StoreWords) (i : ℕ) (old all : List Coord) → ReachLaws next.shape → IsWellFormed next → IsOpenThrough next old all i → (j : ℕ) (node : NodeShape) → j < i → slice_get next.shape.nodes j ≡ Some node → need_of next.shape all (1 + j) node ≤ count_of node.cap
open_fits next i old all laws = needs_fit next i old all (need_laws next.shape laws)

-- ── What a refusal names ──

pub refused_first : (store next : StoreWords) (wanted : List Coord) (i : ℕ) (full : Full) → ReachLaws store.shape → IsReaching store next wanted i → IsFullNode next wanted i full → (flat : FlatLayout) → StandsFor store flat → unless_full (first_full store.shape (flat.active ++ wanted)) ≡ Err full
refused_first store next wanted i full laws is refusal flat stands =
    let all : List Coord = flat.active ++ wanted in
    let same : next.shape ≡ store.shape = is.keeps.same_shape in
    let here : ReachLaws next.shape = subst ReachLaws (sym same) laws in
    let is_open = is.opens flat.active (open_at_start store flat wanted stands) in
    let node : NodeShape = refusal.node in
    let one : 1 + i ≡ suc i = omega arith in
    let needs : count_of node.cap < need_of next.shape all (1 + i) node =
    subst (λ n. count_of node.cap < need_of next.shape all n node) (sym one) (omega (arith, refusal.past flat.active is_open, refusal.cap_is)) in
    let first : first_full next.shape all ≡ Some (full_node (1 + i) (count_of node.cap)) =
    full_some next.shape all 1 next.shape.nodes i node refusal.there (λ j other below at. open_fits next i flat.active all here is.well_formed is_open j other below at) needs in
    ap (λ (s : Shape). unless_full (first_full s all)) (sym same) ∙ ap unless_full first
    ∙ ap (λ n. Err (full_at n (count_of node.cap))) (one ∙ sym refusal.number) ∙ ap (λ c. Err (full_at full.node c)) refusal.cap_is
  where
    full_node : ℕ → ℕ → FullNode
    full_node n m = record { node = n; cap = m }

    full_at : ℕ → ℕ → Full
    full_at n m = record { node = n; cap = m }

pub reached_fits : (store next : StoreWords) (wanted : List Coord) (i : ℕ) → ReachLaws store.shape → IsReaching store next wanted i → i ≡ length store.shape.nodes → (flat : FlatLayout) → StandsFor store flat → unless_full (first_full store.shape (flat.active ++ wanted)) ≡ Ok tt
reached_fits store next wanted i laws is whole flat stands =
    let all : List Coord = flat.active ++ wanted in
    let same : next.shape ≡ store.shape = is.keeps.same_shape in
    let here : ReachLaws next.shape = subst ReachLaws (sym same) laws in
    let is_open = is.opens flat.active (open_at_start store flat wanted stands) in
    ap (λ (s : Shape). unless_full (first_full s all)) (sym same)
    ∙ ap unless_full (full_none next.shape all 1 next.shape.nodes (λ j node at.
    open_fits next i flat.active all here is.well_formed is_open j node (omega (arith, slice_get_within next.shape.nodes j node at, whole, ap (λ (s : Shape). length s.nodes) same)) at))

-- ── The flat layout that the store stands for afterwards ──

flat_grown : (shape : Shape) (flat : FlatLayout) (all : List Coord) → ReachLaws shape → IsFlatLayout shape flat → ((at : Coord) → Contains flat.active at → Contains all at) → IsFlatLayout shape (record flat { active = closure shape all })
flat_grown shape flat all laws is more = record {
  closed = sym (laws.closed all);
  field_count = is.field_count;
  fields_fit = λ k d below.
      let field = is.fields_fit k d below in
      record {
        canonical = field.canonical;
        in_range = field.in_range;
        active_rows = λ row e there.
            let at : Coord = point_at (bounds_of_shape shape) (get_or (get_or flat.fields k d) row e).0 in
            laws.grows flat.active all more at (subst (λ l. Contains l at) is.closed (field.active_rows row e there));
      };
}

-- a value if nothing is active is 0
idle_value : (shape : Shape) (flat : FlatLayout) (place : ℕ) (at : Coord) → ReachLaws shape → IsFlatLayout shape flat → place < length shape.fields → is_inside (bounds_of_shape shape) at ≡ true → (Contains flat.active at → ⊥) → value_at shape flat place at ≡ 0
idle_value shape flat place at laws is below within idle =
    let bounds : Bounds = bounds_of_shape shape in
    let there : place < length flat.fields = omega (arith, is.field_count) in
    let words : slice_get flat.fields place ≡ Some (get_or flat.fields place []) = slice_get-get_or flat.fields place [] there in
    ap (λ o. value_in bounds (words_or_none o) at) words
    ∙ ap (λ b. cond b (word_at (get_or flat.fields place []) (row_of bounds at)) 0) within
    ∙ idle_is_zero shape flat.active (get_or flat.fields place []) (row_of bounds at) (is.fields_fit place [] there)
    (λ has. idle (subst (λ c. Contains flat.active c) (laws.point_of_row bounds at ((laws.cells.inside bounds at).0 within)) has))

-- a cell of the store afterwards that the coordinate had no cell for holds 0
fresh_zero : (store : StoreWords) (nodes : List NodeWords) (at : Coord) (cell place : ℕ) → ReachLaws store.shape → IsWellFormed store → IsWellFormed (record store { nodes = nodes }) → KeepsCells store (record store { nodes = nodes }) → cell_in (record store { nodes = nodes }) at ≡ Some cell → place < length store.shape.fields → is_some (cell_in store at) ≡ false → word_in store place cell ≡ 0
fresh_zero store nodes at cell place laws well after keeps e below none = elim (cases_eq (word_in store place cell) 0) [
  | inl idle ↦ idle
  | inr some ↦
      let next : StoreWords = record store { nodes = nodes } in
      let row = well.rows_fit place [] (omega (arith, well.field_count)) in
      let reached = row.only_reached cell some in
      let parts = cell_parts next at cell e in
      let whole = offsets_are_slot store.shape laws.cells.is_slot laws.cells.whole well.accepted at in
      let apart = walks_apart active_below store.shape.nodes nodes (active_are_one store.shape.nodes nodes 1 is_root after.nodes_fit) 0 0 reached.slot (offsets store.shape.nodes at) cell
      (slot_offsets store.shape.nodes reached.slot reached.is_slot) (slot_offsets store.shape.nodes (offsets store.shape.nodes at) whole)
      (slot_length store.shape.nodes reached.slot reached.is_slot ∙ sym (slot_length store.shape.nodes (offsets store.shape.nodes at) whole))
      (keeps.same_cells reached.slot cell reached.leads) parts.1 in
      let led : cell_along store (offsets store.shape.nodes at) ≡ Some cell = ap (cell_along store) (sym apart.1) ∙ reached.leads in
      absurd (false≢true (sym none ∙ ap is_some (cell_from_parts store at cell parts.0 led)))
]

values_after : (store : StoreWords) (nodes : List NodeWords) (flat : FlatLayout) → ReachLaws store.shape → IsWellFormed store → IsWellFormed (record store { nodes = nodes }) → KeepsCells store (record store { nodes = nodes }) → StandsFor store flat → HasValues (record store { nodes = nodes }) flat
values_after store nodes flat laws well after keeps stands at cell e place below = elim (cases_Bool (is_some (cell_in store at))) [
  | inl some ↦
      let was = from_some (cell_in store at) some in
      let parts = cell_parts store at was.0 was.1 in
      let next : StoreWords = record store { nodes = nodes } in
      let now : cell_in next at ≡ Some was.0 = cell_from_parts next at was.0 parts.0 (keeps.same_cells (offsets store.shape.nodes at) was.0 parts.1) in
      let same : cell ≡ was.0 = same_Some cell was.0 (sym e ∙ now) in
      ap (word_in store place) same ∙ stands.values at was.0 was.1 place below
  | inr none ↦
      let next : StoreWords = record store { nodes = nodes } in
      fresh_zero store nodes at cell place laws well after keeps e below none
      ∙ sym (idle_value store.shape flat place at laws stands.is_flat below (cell_parts next at cell e).0
      (λ has. let cell = active_has_cell store flat laws.cells well stands at has in false≢true (sym none ∙ ap is_some cell.1)))
]

-- if the old coordinates and the wanted ones are inside, so are all
all_inside : (shape : Shape) (flat : FlatLayout) (wanted : List Coord) → ReachLaws shape → IsFlatLayout shape flat → All (Inside (bounds_of_shape shape)) wanted → AllInside shape (flat.active ++ wanted)
all_inside shape flat wanted laws is within at has = elim (Contains-append_cases flat.active wanted at has) [
  | inl old ↦ (laws.inside flat.active at (subst (λ l. Contains l at) is.closed old)).1
  | inr new ↦ All-contains (Inside (bounds_of_shape shape)) wanted at within new
]

pub stands_whole : (store : StoreWords) (nodes : List NodeWords) (flat : FlatLayout) (wanted : List Coord) → ReachLaws store.shape → IsWellFormed store → IsWellFormed (record store { nodes = nodes }) → KeepsCells store (record store { nodes = nodes }) → All (Inside (bounds_of_shape store.shape)) wanted → IsOpenThrough (record store { nodes = nodes }) flat.active (flat.active ++ wanted) (length store.shape.nodes) → StandsFor store flat → StandsFor (record store { nodes = nodes }) (record flat { active = closure store.shape (flat.active ++ wanted) })
stands_whole store nodes flat wanted laws well after keeps within is_open stands =
    let shape : Shape = store.shape in
    let all : List Coord = flat.active ++ wanted in
    record {
      is_flat = flat_grown shape flat all laws stands.is_flat (λ at has. Contains-append_left flat.active wanted at has);
      live_slots = λ number slot is.
          let absorbed : is_live shape (closure shape all ++ []) number slot ≡ is_live shape (all ++ []) number slot =
          laws.absorbs all [] (all_inside shape flat wanted laws stands.is_flat within) number (record { first = is.first; within = is.within; sparse = is.has_activity }) slot in
          is_open number slot is
          ∙ ap (λ b. is_live shape (cond b all flat.active) number slot) (le-leb number (length shape.nodes) is.within)
          ∙ ap (λ l. is_live shape l number slot) (sym (append-nil all)) ∙ sym absorbed ∙ ap (λ l. is_live shape l number slot) (append-nil (closure shape all));
      values = values_after store nodes flat laws well after keeps stands;
    }

pub same_whole : (store next : StoreWords) → KeepsCells store next → next ≡ record store { nodes = next.nodes }
same_whole store next keeps =
    let make : Shape → List (List ℕ) → StoreWords = λ shape fields. record { shape = shape; nodes = next.nodes; fields = fields } in
    ap (λ s. make s next.fields) keeps.same_shape ∙ ap (λ f. make store.shape f) keeps.same_fields

-- the copy whose nodes are all open stands for the closure
pub stands_after : (store next : StoreWords) (wanted : List Coord) (i : ℕ) → ReachLaws store.shape → IsWellFormed store → IsReaching store next wanted i → i ≡ length store.shape.nodes → All (Inside (bounds_of_shape store.shape)) wanted → (flat : FlatLayout) → StandsFor store flat → StandsFor next (record flat { active = closure store.shape (flat.active ++ wanted) })
stands_after store next wanted i laws well is whole within flat stands =
    let same : next ≡ record store { nodes = next.nodes } = same_whole store next is.keeps in
    let after : FlatLayout = record flat { active = closure store.shape (flat.active ++ wanted) } in
    subst (λ s. StandsFor s after) (sym same)
    (stands_whole store next.nodes flat wanted laws well (subst IsWellFormed same is.well_formed) (subst (λ s. KeepsCells store s) same is.keeps) within
    (subst (λ n. IsOpenThrough (record store { nodes = next.nodes }) flat.active (flat.active ++ wanted) n) whole
    (subst (λ s. IsOpenThrough s flat.active (flat.active ++ wanted) i) same (is.opens flat.active (open_at_start store flat wanted stands)))) stands)

-- the refusal of a node is the answer
err_is : (r : Result Unit (Stop Full)) (e : Stop Full) → IsErrAnd r (λ x. x ≡ e) → r ≡ Err e
err_is (Ok done) e h = absurd h
err_is (Err x) e h = ap Err h

stop_answer : (store next : StoreWords) (wanted : List Coord) (i : ℕ) → ReachLaws store.shape → IsReaching store next wanted i → (e : Stop Full) → IfRefused (IsFullNode next wanted i) e → (flat : FlatLayout) → StandsFor store flat → Answers (Err e) (unless_full (first_full store.shape (flat.active ++ wanted)))
stop_answer store next wanted i laws is stop.Memory refusal flat stands = tt
stop_answer store next wanted i laws is (stop.Refused full) refusal flat stands = refused_first store next wanted i full laws is refusal flat stands

pub refused_answer : (store next : StoreWords) (wanted : List Coord) (i : ℕ) → ReachLaws store.shape → IsReaching store next wanted i → (r : Result Unit (Stop Full)) (e : Stop Full) → IsErrAnd r (λ x. x ≡ e) → IfRefused (IsFullNode next wanted i) e → (flat : FlatLayout) → StandsFor store flat → Answers r (unless_full (first_full store.shape (flat.active ++ wanted)))
refused_answer store next wanted i laws is r e from refusal flat stands =
    subst (λ r. Answers r (unless_full (first_full store.shape (flat.active ++ wanted)))) (sym (err_is r e from)) (stop_answer store next wanted i laws is e refusal flat stands)
