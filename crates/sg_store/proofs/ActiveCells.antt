-- Which coordinates have a cell: those whose slots are on at every node with activity, and so the active ones.
use Rattle.std.proofs.Common.{◌≡◌, ◌≢◌, ℕ, zero, suc, ◌-◌, ◌<◌, ◌≤◌, Bool, true, false, ◌&&◌, ◌||◌, ◌==◌, cond, not, List, [], ◌∷◌, length, take, refl, sym, ap, ◌∙◌, subst, arith, inl, inr}
use Rattle.std.specs.Prelude.{◌↔◌, IsSome, Option, Some, None, option_and_then, unwrap_or, is_some, slice_get, slice_index}
use Rattle.std.proofs.Math.Seq.{take-length}
use Rattle.std.proofs.Math.Dec.{leb}
use Rattle.std.specs.List.{Contains}
use Rattle.std.specs.Cmp.Lexicographic.{bytes_decides}
use Rattle.std.proofs.lemmas.Bool.{false≢true}
use Rattle.std.proofs.lemmas.Bool.Decides.{Decides-eqb, leb_tells}
use Rattle.std.proofs.lemmas.List.Folds.{list_any-from_Any}
use Rattle.std.proofs.lemmas.Option.{none-some, option_and_then_some}
use Rattle.sg_coord.specs.declared.coord.Coord.{Coord}
use Rattle.sg_coord.specs.Coord.{is_inside}
use Rattle.sg_coord.specs.Laws.{InsideTest}
use Rattle.sg_layout.specs.declared.shape.Kind.{Kind}
use Rattle.sg_layout.specs.declared.shape.Kind.TheVariants.{Dense, Bitmasked, Pointer, Hash, Dynamic}
use Rattle.sg_layout.specs.declared.shape.NodeShape.{NodeShape}
use Rattle.sg_layout.specs.declared.shape.Shape.{Shape}
use Rattle.sg_layout.specs.Accepted.{IsAccepted}
use Rattle.sg_layout.specs.Axes.{bounds_of_shape}
use Rattle.sg_layout.specs.Path.{offsets, path}
use Rattle.sg_layout.specs.Live.{kind_or, kind_at, makes_live, is_at_or_below, is_live}
use Rattle.sg_layout.specs.Closure.{is_dense, last_sparse, is_in_closure}
use Rattle.sg_layout.specs.ClosureLaws.{ClosureIsTested}
use Rattle.sg_layout.specs.PathLaws.{PathIsSlot, PathTellsCoordinate, WholePathIsOffsets, LastDecides}
use Rattle.sg_layout.specs.Slots.{IsSlot}
use Rattle.sg_flat.specs.declared.state.FlatLayout.{FlatLayout}
use Rattle.sg_hash.specs.Tables.{beside}
use Rattle.sg_store.specs.declared.node.NodeWords.{NodeWords}
use Rattle.sg_store.specs.StoreWords.{StoreWords}
use Rattle.sg_store.specs.Slots.{slot_under, linked, is_set, place_below, active_below}
use Rattle.sg_store.specs.Walks.{place_after, own_answer, is_on, cell_along, cell_in}
use Rattle.sg_store.specs.WellFormed.{IsNode, AreNodes, is_root, IsWellFormed}
use Rattle.sg_store.specs.StandsFor.{IsSlotOf, StandsFor}
use Rattle.sg_store.specs.steps.Walking.{AreOffsets}
use Rattle.sg_store.proofs.Chains.{below_leads}
use Rattle.sg_store.proofs.Walking.{active_leads, active_are_one, walks_apart}

-- ── Nodes and slots ──

-- there are words for each node
pub as_many_words : (nodes : List NodeShape) (words : List NodeWords) (places : ℕ) (live : ℕ → Bool) → AreNodes nodes words places live → length words ≡ length nodes
as_many_words [] [] places live are = refl
as_many_words [] (kept ∷ words) places live are = absurd are
as_many_words (node ∷ later) [] places live are = absurd are
as_many_words (node ∷ later) (kept ∷ words) places live are = ap suc (as_many_words later words _ _ are.2)

-- a slot has an offset for each of its nodes
pub slot_offsets : (nodes : List NodeShape) (slot : List ℕ) → IsSlot nodes slot → AreOffsets nodes slot
slot_offsets [] [] is = tt
slot_offsets [] (offset ∷ slot) is = absurd is
slot_offsets (node ∷ later) [] is = tt
slot_offsets (node ∷ later) (offset ∷ slot) is = (is.0, slot_offsets later slot is.1)

pub slot_length : (nodes : List NodeShape) (slot : List ℕ) → IsSlot nodes slot → length slot ≡ length nodes
slot_length [] [] is = refl
slot_length [] (offset ∷ slot) is = absurd is
slot_length (node ∷ later) [] is = absurd is
slot_length (node ∷ later) (offset ∷ slot) is = ap suc (slot_length later slot is.1)

pub offsets_length : (nodes : List NodeShape) (at : Coord) → length (offsets nodes at) ≡ length nodes
offsets_length [] at = refl
offsets_length (node ∷ later) at = ap suc (offsets_length later at)

-- the offsets of a coordinate are a slot of the last node
pub offsets_are_slot : (shape : Shape) → PathIsSlot shape → WholePathIsOffsets shape → (accepted : IsAccepted shape) (at : Coord) → IsSlot shape.nodes (offsets shape.nodes at)
offsets_are_slot shape is_slot whole accepted at =
    let is : IsSlot (take (length shape.nodes) shape.nodes) (path shape at (length shape.nodes)) = is_slot accepted at (length shape.nodes) in
    subst (λ slot. IsSlot shape.nodes slot) (whole at) (subst (λ nodes. IsSlot nodes (path shape at (length shape.nodes))) (take-length shape.nodes) is)

-- ── Along the way to a cell all is on ──

pub on_the_way : (nodes : List NodeShape) (words : List NodeWords) (p : ℕ) (s : List ℕ) (x : ℕ) → place_after active_below nodes words p s ≡ Some x → (i : ℕ) → i < length s → is_on nodes words p (take (suc i) s) ≡ true
on_the_way nodes words p [] x e i within = absurd (omega (arith, within))
on_the_way [] words p (o ∷ s) x e i within = absurd (none-some x e)
on_the_way (node ∷ later) [] p (o ∷ s) x e i within = absurd (none-some x e)
on_the_way (node ∷ later) (kept ∷ words) p (o ∷ s) x e zero within =
    option_and_then_some _ _ x e (λ n here rest. (active_leads node.kind node kept (slot_under node p o) n here).0)
on_the_way (node ∷ later) (kept ∷ words) p (o ∷ []) x e (suc i) within = absurd (omega (arith, within))
on_the_way (node ∷ later) (kept ∷ words) p (o ∷ (v ∷ s)) x e (suc i) within =
    option_and_then_some _ _ x e (λ n here rest.
    ap (λ below. unwrap_or (option_and_then (λ under. own_answer is_set later words under (take (suc i) (v ∷ s))) below) false)
    (active_leads node.kind node kept (slot_under node p o) n here).1
    ∙ on_the_way later words n (v ∷ s) x rest i (omega (arith, within)))

-- ── Where all is on a walk leads to a cell ──

-- a slot that is set leads on
pub set_leads : (kind : Kind) (node : NodeShape) (kept : NodeWords) (slots : ℕ) (live : ℕ → Bool) → IsNode kind node kept slots live → (q : ℕ) → is_set kind node kept q ≡ true → (n : ℕ) × (active_below kind node kept q ≡ Some n) × (place_below kind node kept q ≡ Some n)
set_leads Dense node kept slots live is q on = (q, refl, refl)
set_leads Bitmasked node kept slots live is q on = (q, ap (λ b. cond b (Some q) None) on, refl)
set_leads Pointer node kept slots live is q on = follow (slice_index kept.links q) on
  where
    follow : (word : ℕ) → not (word == 0) ≡ true → (n : ℕ) × (cond (not (word == 0)) (linked word) None ≡ Some n) × (linked word ≡ Some n)
    follow zero on = absurd (false≢true on)
    follow (suc word) on = (word, ap (λ b. cond b (linked (suc word)) None) on, refl)
set_leads Hash node kept slots live is q on = some_is (beside kept.keys kept.links q) on
  where
    some_is : (o : Option ℕ) → is_some o ≡ true → (n : ℕ) × (cond (is_some o) o None ≡ Some n) × (o ≡ Some n)
    some_is None e = absurd (false≢true e)
    some_is (Some n) e = (n, refl, refl)
set_leads Dynamic node kept slots live is q on =
    let found = below_leads node kept slots live is q on in
    (found.0, ap (λ b. cond b (place_below Dynamic node kept q) None) on ∙ found.1, found.1)

-- at each of the first nodes that isn't dense the slot is on
abbrev pub AllOn : List NodeShape → List NodeWords → ℕ → List ℕ → Type 0
AllOn nodes words p s =
    (i : ℕ) → i < length s → kind_or (slice_get nodes i) ≢ Dense → is_on nodes words p (take (suc i) s) ≡ true

pub first_set : (kind : Kind) (node : NodeShape) (kept : NodeWords) (q : ℕ) → (kind ≢ Dense → is_set kind node kept q ≡ true) → is_set kind node kept q ≡ true
first_set Dense node kept q on = refl
first_set Bitmasked node kept q on = on (λ e. cc)
first_set Pointer node kept q on = on (λ e. cc)
first_set Hash node kept q on = on (λ e. cc)
first_set Dynamic node kept q on = on (λ e. cc)

pub walk_there : (nodes : List NodeShape) (words : List NodeWords) (places : ℕ) (live : ℕ → Bool) → AreNodes nodes words places live → (p : ℕ) (s : List ℕ) → length s ≤ length nodes → AllOn nodes words p s → (x : ℕ) × (place_after active_below nodes words p s ≡ Some x)
walk_there nodes words places live are p [] long on = (p, refl)
walk_there [] words places live are p (o ∷ s) long on = absurd (omega (arith, long))
walk_there (node ∷ later) [] places live are p (o ∷ s) long on = absurd are
walk_there (node ∷ later) (kept ∷ words) places live are p (o ∷ s) long on =
    let q : ℕ = slot_under node p o in
    let set : is_set node.kind node kept q ≡ true = first_set node.kind node kept q (on zero (omega arith)) in
    let next = set_leads node.kind node kept _ _ are.1 q set in
    let rest = walk_there later words _ _ are.2 next.0 s (omega (arith, long)) (below s next.0 next.2 on) in
    (rest.0, ap (option_and_then (λ n. place_after active_below later words n s)) next.1 ∙ rest.1)
  where
    below : (s : List ℕ) (n : ℕ) → place_below node.kind node kept (slot_under node p o) ≡ Some n → AllOn (node ∷ later) (kept ∷ words) p (o ∷ s) → AllOn later words n s
    below [] n leads on i within other = absurd (omega (arith, within))
    below (v ∷ s) n leads on i within other =
        sym (ap (λ b. unwrap_or (option_and_then (λ under. own_answer is_set later words under (take (suc i) (v ∷ s))) b) false) leads)
        ∙ on (suc i) (omega (arith, within)) other

-- ── A coordinate has a cell exactly when it is active ──

or_is : (a b : Bool) → b ≡ true → (a || b) ≡ true
or_is true b e = refl
or_is false b e = e

and_is : (a b : Bool) → a ≡ true → b ≡ true → (a && b) ≡ true
and_is true b p e = e
and_is false b p e = absurd (false≢true p)

and_first : (a b : Bool) → (a && b) ≡ true → a ≡ true
and_first true b e = refl
and_first false b e = absurd (false≢true e)

same_number : (n : ℕ) → (n == n) ≡ true
same_number n = (Decides-eqb n n).1 refl

within_itself : (n : ℕ) → leb n n ≡ true
within_itself n = elim (leb_tells n n) [
  | inl within ↦ within.0
  | inr past ↦ absurd (omega (arith, past.1))
]

below_itself : (slot : List ℕ) → is_at_or_below slot slot ≡ true
below_itself [] = refl
below_itself (x ∷ []) = within_itself x
below_itself (x ∷ (y ∷ slot)) = and_is (x == x) (is_at_or_below (y ∷ slot) (y ∷ slot)) (same_number x) (below_itself (y ∷ slot))

-- a reached slot is live
makes_itself : (kind : Kind) (slot : List ℕ) → makes_live kind slot slot ≡ true
makes_itself Dense slot = (bytes_decides slot slot).1 refl
makes_itself Bitmasked slot = (bytes_decides slot slot).1 refl
makes_itself Pointer slot = (bytes_decides slot slot).1 refl
makes_itself Hash slot = (bytes_decides slot slot).1 refl
makes_itself Dynamic slot = below_itself slot

-- each slot on the path of a coordinate of the list is live
pub path_is_live : (shape : Shape) (written : List Coord) (at : Coord) (number : ℕ) → Contains written at → is_live shape written number (path shape at number) ≡ true
path_is_live shape written at number (k, below, same) =
    list_any-from_Any (λ (other : Coord). makes_live (kind_at shape.nodes number) (path shape other number) (path shape at number)) written
    (k, at, below, same, makes_itself (kind_at shape.nodes number) (path shape at number))

sparse_other : (kind : Kind) → is_dense kind ≡ false → kind ≢ Dense
sparse_other Dense e same = false≢true (sym e)
sparse_other Bitmasked e same = cc
sparse_other Pointer e same = cc
sparse_other Hash e same = cc
sparse_other Dynamic e same = cc

-- the laws of layouts and coordinates that tell it
pub record CellLaws (shape : Shape) : Type 0 where
  pub inside : InsideTest
  pub tested : ClosureIsTested shape
  pub is_slot : PathIsSlot shape
  pub whole : WholePathIsOffsets shape
  pub tells : PathTellsCoordinate shape
  pub last : LastDecides shape

-- what a cell tells of its coordinate: it is inside, and links and bits lead to the cell
pub cell_parts : (store : StoreWords) (at : Coord) (cell : ℕ) → cell_in store at ≡ Some cell → (is_inside (bounds_of_shape store.shape) at ≡ true) × (cell_along store (offsets store.shape.nodes at) ≡ Some cell)
cell_parts store at cell e = split (is_inside (bounds_of_shape store.shape) at) (cell_along store (offsets store.shape.nodes at)) e
  where
    split : (b : Bool) (o : Option ℕ) → cond b o None ≡ Some cell → (b ≡ true) × (o ≡ Some cell)
    split true o e = (refl, e)
    split false o e = absurd (none-some cell e)

pub cell_from_parts : (store : StoreWords) (at : Coord) (cell : ℕ) → is_inside (bounds_of_shape store.shape) at ≡ true → cell_along store (offsets store.shape.nodes at) ≡ Some cell → cell_in store at ≡ Some cell
cell_from_parts store at cell inside leads =
    ap (λ b. cond b (cell_along store (offsets store.shape.nodes at)) None) inside ∙ leads

slot_of : (shape : Shape) → CellLaws shape → IsAccepted shape → (at : Coord) (i : ℕ) → i < length shape.nodes → kind_at shape.nodes (suc i) ≢ Dense → IsSlotOf shape (suc i) (path shape at (suc i))
slot_of shape laws accepted at i within other = record {
  first = omega arith;
  within = within;
  has_activity = other;
  is_slot = laws.is_slot accepted at (suc i);
}

pub cell_is_active : (store : StoreWords) (flat : FlatLayout) → CellLaws store.shape → IsWellFormed store → StandsFor store flat → (at : Coord) (cell : ℕ) → cell_in store at ≡ Some cell → Contains flat.active at
cell_is_active store flat laws well stands at cell e =
    let parts = cell_parts store at cell e in
    let decided = deciding (last_sparse store.shape.nodes) refl parts.1 in
    let tested : is_in_closure store.shape flat.active at ≡ true = and_is _ _ parts.0 decided in
    subst (λ active. Contains active at) (sym stands.is_flat.closed) ((laws.tested flat.active at).1 tested)
  where
    deciding : (n : ℕ) → last_sparse store.shape.nodes ≡ n → cell_along store (offsets store.shape.nodes at) ≡ Some cell → ((n == 0) || is_live store.shape flat.active n (path store.shape at n)) ≡ true
    deciding zero is leads = refl
    deciding (suc i) is leads =
        let last = laws.last (omega (arith, is)) in
        let within : suc i ≤ length store.shape.nodes = omega (arith, last.0, is) in
        let sparse : is_dense (kind_at store.shape.nodes (suc i)) ≡ false = sym (ap (λ n. is_dense (kind_at store.shape.nodes n)) is) ∙ last.1 in
        let other : kind_at store.shape.nodes (suc i) ≢ Dense = sparse_other _ sparse in
        let on : is_on store.shape.nodes store.nodes 0 (path store.shape at (suc i)) ≡ true =
        on_the_way store.shape.nodes store.nodes 0 (offsets store.shape.nodes at) cell leads i (omega (arith, offsets_length store.shape.nodes at)) in
        or_is (suc i == 0) _ (sym (stands.live_slots (suc i) (path store.shape at (suc i)) (slot_of store.shape laws well.accepted at i within other)) ∙ on)

pub active_has_cell : (store : StoreWords) (flat : FlatLayout) → CellLaws store.shape → IsWellFormed store → StandsFor store flat → (at : Coord) → Contains flat.active at → (cell : ℕ) × (cell_in store at ≡ Some cell)
active_has_cell store flat laws well stands at active =
    let nodes : List NodeShape = store.shape.nodes in
    let tested : is_in_closure store.shape flat.active at ≡ true = (laws.tested flat.active at).0 (subst (λ list. Contains list at) stands.is_flat.closed active) in
    let inside : is_inside (bounds_of_shape store.shape) at ≡ true = and_first _ _ tested in
    let many : length (offsets nodes at) ≡ length nodes = offsets_length nodes at in
    let on : AllOn nodes store.nodes 0 (offsets nodes at) = λ i within other.
    let same : suc i - 1 ≡ i = omega arith in
    let sparse : kind_at nodes (suc i) ≢ Dense = λ e. other (sym (ap (λ n. kind_or (slice_get nodes n)) same) ∙ e) in
    stands.live_slots (suc i) (path store.shape at (suc i)) (slot_of store.shape laws well.accepted at i (omega arith) sparse)
    ∙ path_is_live store.shape flat.active at (suc i) active in
    let there = walk_there nodes store.nodes 1 is_root well.nodes_fit 0 (offsets nodes at) (omega arith) on in
    (there.0, cell_from_parts store at there.0 inside there.1)

-- ── Different coordinates have different cells ──

pub cells_apart : (store : StoreWords) → CellLaws store.shape → IsWellFormed store → (x y : Coord) (cell : ℕ) → cell_in store x ≡ Some cell → cell_in store y ≡ Some cell → x ≡ y
cells_apart store laws well x y cell left right =
    let nodes : List NodeShape = store.shape.nodes in
    let here = cell_parts store x cell left in
    let there = cell_parts store y cell right in
    let fits = λ (at : Coord). slot_offsets nodes (offsets nodes at) (offsets_are_slot store.shape laws.is_slot laws.whole well.accepted at) in
    let long : length (offsets nodes x) ≡ length (offsets nodes y) = offsets_length nodes x ∙ sym (offsets_length nodes y) in
    let same = walks_apart active_below nodes store.nodes (active_are_one nodes store.nodes 1 is_root well.nodes_fit) 0 0
    (offsets nodes x) (offsets nodes y) cell (fits x) (fits y) long here.1 there.1 in
    (laws.tells x y ((laws.inside (bounds_of_shape store.shape) x).0 here.0) ((laws.inside (bounds_of_shape store.shape) y).0 there.0)).0 same.1

pub from_some : {A : Type 0} (o : Option A) → is_some o ≡ true → (x : A) × (o ≡ Some x)
from_some None some = absurd (false≢true some)
from_some (Some x) some = (x, refl)

pub cells_are_active : (store : StoreWords) (flat : FlatLayout) → CellLaws store.shape → IsWellFormed store → StandsFor store flat → (at : Coord) → IsSome (cell_in store at) ↔ Contains flat.active at
cells_are_active store flat laws well stands at = (
  λ some. let cell = from_some (cell_in store at) some in cell_is_active store flat laws well stands at cell.0 cell.1,
  λ active. let cell = active_has_cell store flat laws well stands at active in ap is_some cell.1,
)
