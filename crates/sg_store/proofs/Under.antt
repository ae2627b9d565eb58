-- Slots of a dynamic node, by their parents and their indices: one that is wanted makes those before it under the same
-- parent live.
use Rattle.std.proofs.Common.{◌≡◌, ℕ, zero, suc, ◌+◌, ◌*◌, ◌/◌, ◌%◌, ◌<◌, ◌≤◌, true, false, ◌&&◌, List, [], ◌∷◌, ◌++◌, length, take, refl, sym, ap, ◌∙◌, subst, arith}
use Rattle.std.specs.Prelude.{Some, None, nat_le, ◌==◌, slice_get}
use Rattle.std.specs.Option.{option_map}
use Rattle.std.specs.List.{Contains, list_any}
use Rattle.std.proofs.lemmas.Bool.{and_parts, and_from, leb-true, le-leb, eqb-true}
use Rattle.std.proofs.lemmas.Nat.{div-mul-add, mod-mul-add}
use Rattle.std.proofs.lemmas.List.{get_or_default}
use Rattle.std.proofs.lemmas.List.Folds.{Any-from_list_any, list_any-from_Any}
use Rattle.std.proofs.lemmas.Option.{none-some, same_Some}
use Rattle.sg_coord.specs.declared.coord.Coord.{Coord}
use Rattle.sg_layout.specs.declared.shape.Kind.TheVariants.{Dynamic}
use Rattle.sg_layout.specs.declared.shape.NodeShape.{NodeShape}
use Rattle.sg_layout.specs.Axes.{size_of}
use Rattle.sg_layout.specs.Path.{path}
use Rattle.sg_layout.specs.Live.{kind_at, is_at_or_below, makes_live, is_live}
use Rattle.sg_layout.specs.Slots.{IsSlot}
use Rattle.sg_store.specs.declared.node.NodeWords.{NodeWords}
use Rattle.sg_store.specs.StoreWords.{StoreWords}
use Rattle.sg_store.specs.Slots.{slot_under, place_below}
use Rattle.sg_store.specs.Walks.{place_after, slot_number_in}
use Rattle.sg_store.specs.WellFormed.{AreNodes, is_root}
use Rattle.sg_store.specs.steps.AtNode.{AreNumbers}
use Rattle.sg_store.specs.steps.Walking.{AreOffsets}
use Rattle.sg_store.specs.steps.Raising.{keeps_too}
use Rattle.sg_store.proofs.Walking.{links_are_one, walks_apart}
use Rattle.sg_store.proofs.Chains.{mapped}
use Rattle.sg_store.proofs.Stepping.{answer_more}
use Rattle.sg_store.proofs.SlotPaths.{same_bool, not_true}
use Rattle.sg_store.proofs.Wanted.{kind_there}
use Rattle.sg_store.proofs.Raised.{same_number}
use Rattle.sg_store.proofs.Opened.{GoesLive}

-- ── At or below ──

below_step : (x y : ℕ) (s t : List ℕ) (a b : ℕ) → is_at_or_below (x ∷ (s ++ a ∷ [])) (y ∷ (t ++ b ∷ [])) ≡ ((x == y) && is_at_or_below (s ++ a ∷ []) (t ++ b ∷ []))
below_step x y [] [] a b = refl
below_step x y [] (v ∷ t) a b = refl
below_step x y (u ∷ s) [] a b = refl
below_step x y (u ∷ s) (v ∷ t) a b = refl

same_cons : (x y : ℕ) (s t : List ℕ) → x ≡ y → s ≡ t → x ∷ s ≡ y ∷ t
same_cons x y s t p q = ap (λ n. n ∷ s) p ∙ ap (λ l. y ∷ l) q

pub below_parts : (s t : List ℕ) (a b : ℕ) → length s ≡ length t → is_at_or_below (s ++ a ∷ []) (t ++ b ∷ []) ≡ true → (s ≡ t) × (b ≤ a)
below_parts [] [] a b long e = (refl, leb-true b a e)
below_parts [] (y ∷ t) a b long e = absurd (omega (arith, long))
below_parts (x ∷ s) [] a b long e = absurd (omega (arith, long))
below_parts (x ∷ s) (y ∷ t) a b long e =
    let parts = and_parts (x == y) (is_at_or_below (s ++ a ∷ []) (t ++ b ∷ [])) (sym (below_step x y s t a b) ∙ e) in
    let rest = below_parts s t a b (omega (arith, long)) parts.1 in
    (same_cons x y s t (eqb-true x y parts.0) rest.0, rest.1)

pub below_from : (s : List ℕ) (a b : ℕ) → b ≤ a → is_at_or_below (s ++ a ∷ []) (s ++ b ∷ []) ≡ true
below_from [] a b low = le-leb b a low
below_from (x ∷ s) a b low =
    below_step x x s s a b ∙ and_from (x == x) (is_at_or_below (s ++ a ∷ []) (s ++ b ∷ [])) (same_number x x refl) (below_from s a b low)

-- ── A slot as its parent and its index ──

pub record IsUnder (nodes : List NodeShape) (i : ℕ) (slot : List ℕ) : Type 0 where
  pub parent : List ℕ
  pub index : ℕ
  pub is : slot ≡ parent ++ index ∷ []
  pub long : length parent ≡ i
  pub offsets : AreOffsets nodes parent
  pub low : (node : NodeShape) → slice_get nodes i ≡ Some node → index < size_of node.sizes

pub under_of : (nodes : List NodeShape) (i : ℕ) (slot : List ℕ) → i < length nodes → IsSlot (take (suc i) nodes) slot → IsUnder nodes i slot
under_of [] i slot within is = absurd (omega (arith, within))
under_of (node ∷ later) i [] within is = absurd is
under_of (node ∷ later) zero (o ∷ []) within is = record {
  parent = [];
  index = o;
  is = refl;
  long = refl;
  offsets = tt;
  low = λ own at. subst (λ (n : NodeShape). o < size_of n.sizes) (same_Some node own at) is.0;
}
under_of (node ∷ later) zero (o ∷ (v ∷ s)) within is = absurd is.1
under_of (node ∷ later) (suc i) (o ∷ slot) within is =
    let rest = under_of later i slot (omega (arith, within)) is.1 in
    record {
      parent = o ∷ rest.parent;
      index = rest.index;
      is = ap (λ l. o ∷ l) rest.is;
      long = ap suc rest.long;
      offsets = (is.0, rest.offsets);
      low = λ own at. rest.low own at;
    }

-- a dynamic node of a store among well-formed ones
pub record DynamicAt (store : StoreWords) (i : ℕ) (node : NodeShape) (kept : NodeWords) : Type 0 where
  pub within : suc i ≤ length store.shape.nodes
  pub are_nodes : AreNodes store.shape.nodes store.nodes 1 is_root
  pub at : slice_get store.shape.nodes i ≡ Some node
  pub has : slice_get store.nodes i ≡ Some kept
  pub dynamic : node.kind ≡ Dynamic
  pub paths : (at : Coord) (n : ℕ) → IsSlot (take n store.shape.nodes) (path store.shape at n)

-- the number of a slot, from the place of its parent
pub number_under : (store : StoreWords) (i : ℕ) (node : NodeShape) (kept : NodeWords) → DynamicAt store i node kept → (parent : List ℕ) (index : ℕ) → length parent ≡ i → slot_number_in store.shape.nodes store.nodes 0 (parent ++ index ∷ []) ≡ option_map (λ p. slot_under node p index) (place_after place_below store.shape.nodes store.nodes 0 parent)
number_under store i node kept d parent index long =
    answer_more (λ _ _ _ number. number) store.shape.nodes store.nodes i node kept d.at d.has 0 parent index long

-- the place of the parent of a slot that has a number, and the number's parts
pub record HasPlace (store : StoreWords) (node : NodeShape) (parent : List ℕ) (index q : ℕ) : Type 0 where
  pub place : ℕ
  pub leads : place_after place_below store.shape.nodes store.nodes 0 parent ≡ Some place
  pub number : place * size_of node.sizes + index ≡ q
  pub quotient : q / size_of node.sizes ≡ place
  pub rest : q % size_of node.sizes ≡ index

pub place_of_number : (store : StoreWords) (i : ℕ) (node : NodeShape) (kept : NodeWords) → DynamicAt store i node kept → (parent : List ℕ) (index q : ℕ) → length parent ≡ i → index < size_of node.sizes → slot_number_in store.shape.nodes store.nodes 0 (parent ++ index ∷ []) ≡ Some q → HasPlace store node parent index q
place_of_number store i node kept d parent index q long low e =
    let size : ℕ = size_of node.sizes in
    let found = mapped (λ p. p * size + index) (place_after place_below store.shape.nodes store.nodes 0 parent) q (sym (number_under store i node kept d parent index long) ∙ e) in
    record {
      place = found.0;
      leads = found.1;
      number = found.2;
      quotient = ap (λ n. n / size) (sym found.2) ∙ div-mul-add found.0 size index low;
      rest = ap (λ n. n % size) (sym found.2) ∙ mod-mul-add found.0 size index low;
    }

-- ── What wanted slots make live ──

live_dynamic : (store : StoreWords) (i : ℕ) (node : NodeShape) (kept : NodeWords) → DynamicAt store i node kept → (x y : List ℕ) → makes_live (kind_at store.shape.nodes (suc i)) x y ≡ is_at_or_below x y
live_dynamic store i node kept d x y = ap (λ k. makes_live k x y) (kind_there store.shape.nodes i node d.at ∙ d.dynamic)

-- a live slot is at or before that of a coordinate under the same parent
pub record IsBefore (store : StoreWords) (i : ℕ) (node : NodeShape) (coords : List Coord) (parent : List ℕ) (index : ℕ) : Type 0 where
  pub at : Coord
  pub is_wanted : Contains coords at
  pub index_of : ℕ
  pub path_is : path store.shape at (suc i) ≡ parent ++ index_of ∷ []
  pub before : index ≤ index_of
  pub low : index_of < size_of node.sizes

pub before_from_live : (store : StoreWords) (i : ℕ) (node : NodeShape) (kept : NodeWords) → DynamicAt store i node kept → (coords : List Coord) (parent : List ℕ) (index : ℕ) → length parent ≡ i → is_live store.shape coords (suc i) (parent ++ index ∷ []) ≡ true → IsBefore store i node coords parent index
before_from_live store i node kept d coords parent index long live =
    let found = Any-from_list_any (λ (c : Coord). makes_live (kind_at store.shape.nodes (suc i)) (path store.shape c (suc i)) (parent ++ index ∷ [])) coords live in
    let at : Coord = found.1 in
    let own = under_of store.shape.nodes i (path store.shape at (suc i)) (omega (arith, d.within)) (d.paths at (suc i)) in
    let below : is_at_or_below (own.parent ++ own.index ∷ []) (parent ++ index ∷ []) ≡ true =
    ap (λ s. is_at_or_below s (parent ++ index ∷ [])) (sym own.is) ∙ sym (live_dynamic store i node kept d (path store.shape at (suc i)) (parent ++ index ∷ [])) ∙ found.4 in
    let parts = below_parts own.parent parent own.index index (own.long ∙ sym long) below in
    record {
      at = at;
      is_wanted = (found.0, found.2, get_or_default coords found.0 at at found.2 ∙ found.3);
      index_of = own.index;
      path_is = own.is ∙ ap (λ s. s ++ own.index ∷ []) parts.0;
      before = parts.1;
      low = own.low node d.at;
    }

pub live_from_before : (store : StoreWords) (i : ℕ) (node : NodeShape) (kept : NodeWords) → DynamicAt store i node kept → (coords : List Coord) (at : Coord) (parent : List ℕ) (a b : ℕ) → Contains coords at → path store.shape at (suc i) ≡ parent ++ a ∷ [] → b ≤ a → is_live store.shape coords (suc i) (parent ++ b ∷ []) ≡ true
live_from_before store i node kept d coords at parent a b has is low =
    list_any-from_Any (λ (c : Coord). makes_live (kind_at store.shape.nodes (suc i)) (path store.shape c (suc i)) (parent ++ b ∷ [])) coords (
      has.0,
      at,
      has.1,
      has.2,
      live_dynamic store i node kept d (path store.shape at (suc i)) (parent ++ b ∷ []) ∙ ap (λ s. is_at_or_below s (parent ++ b ∷ [])) is ∙ below_from parent a b low,
    )

some_goes : (store : StoreWords) (i : ℕ) (wanted : List Coord) (slots : List ℕ) (node : NodeShape) (kept : NodeWords) → DynamicAt store i node kept → AreNumbers store i wanted slots → (slot : List ℕ) → IsSlot (take (suc i) store.shape.nodes) slot → (q : ℕ) → slot_number_in store.shape.nodes store.nodes 0 slot ≡ Some q → list_any (λ x. keeps_too (size_of node.sizes) x q) slots ≡ is_live store.shape wanted (suc i) slot
some_goes store i wanted slots node kept d numbers slot is q some =
    let nodes : List NodeShape = store.shape.nodes in
    let size : ℕ = size_of node.sizes in
    let own = under_of nodes i slot (omega (arith, d.within)) is in
    let mine = place_of_number store i node kept d own.parent own.index q own.long (own.low node d.at) (ap (slot_number_in nodes store.nodes 0) (sym own.is) ∙ some) in
    same_bool _ _
    (λ has.
    let seen = Any-from_list_any (λ x. keeps_too size x q) slots has in
    let x : ℕ = seen.1 in
    let parts = and_parts (q / size == x / size) (nat_le (q % size) (x % size)) seen.4 in
    let found = numbers.of_wanted x (seen.0, seen.2, get_or_default slots seen.0 x x seen.2 ∙ seen.3) in
    let theirs = under_of nodes i (path store.shape found.at (suc i)) (omega (arith, d.within)) (d.paths found.at (suc i)) in
    let place = place_of_number store i node kept d theirs.parent theirs.index x theirs.long (theirs.low node d.at) (ap (slot_number_in nodes store.nodes 0) (sym theirs.is) ∙ found.has_number) in
    let together : place.place ≡ mine.place = sym place.quotient ∙ sym (eqb-true (q / size) (x / size) parts.0) ∙ mine.quotient in
    let apart = walks_apart place_below nodes store.nodes (links_are_one nodes store.nodes 1 is_root d.are_nodes) 0 0 theirs.parent own.parent mine.place theirs.offsets own.offsets (theirs.long ∙ sym own.long)
    (place.leads ∙ ap Some together) mine.leads in
    let low : own.index ≤ theirs.index = omega (arith, leb-true (q % size) (x % size) parts.1, mine.rest, place.rest) in
    ap (is_live store.shape wanted (suc i)) own.is
    ∙ live_from_before store i node kept d wanted found.at own.parent theirs.index own.index found.is_wanted (theirs.is ∙ ap (λ s. s ++ theirs.index ∷ []) apart.1) low)
    (λ live.
    let before = before_from_live store i node kept d wanted own.parent own.index own.long (sym (ap (is_live store.shape wanted (suc i)) own.is) ∙ live) in
    let x : ℕ = mine.place * size + before.index_of in
    let number : slot_number_in nodes store.nodes 0 (path store.shape before.at (suc i)) ≡ Some x =
    ap (slot_number_in nodes store.nodes 0) before.path_is ∙ number_under store i node kept d own.parent before.index_of own.long ∙ ap (option_map (λ p. slot_under node p before.index_of)) mine.leads in
    let here : Contains slots x = numbers.all before.at before.is_wanted x number in
    let quotient : x / size ≡ mine.place = div-mul-add mine.place size before.index_of before.low in
    let rest : x % size ≡ before.index_of = mod-mul-add mine.place size before.index_of before.low in
    list_any-from_Any (λ x. keeps_too size x q) slots (
      here.0,
      x,
      here.1,
      here.2,
      and_from (q / size == x / size) (nat_le (q % size) (x % size)) (same_number (q / size) (x / size) (mine.quotient ∙ sym quotient))
          (le-leb (q % size) (x % size) (omega (arith, before.before, mine.rest, rest))),
    ))

none_goes : (store : StoreWords) (i : ℕ) (wanted : List Coord) (node : NodeShape) (kept : NodeWords) → DynamicAt store i node kept → ((at : Coord) → Contains wanted at → (q : ℕ) × (slot_number_in store.shape.nodes store.nodes 0 (path store.shape at (suc i)) ≡ Some q)) → (slot : List ℕ) → IsSlot (take (suc i) store.shape.nodes) slot → slot_number_in store.shape.nodes store.nodes 0 slot ≡ None → is_live store.shape wanted (suc i) slot ≡ false
none_goes store i wanted node kept d numbered slot is none = not_true _ (λ live.
    let nodes : List NodeShape = store.shape.nodes in
    let own = under_of nodes i slot (omega (arith, d.within)) is in
    let before = before_from_live store i node kept d wanted own.parent own.index own.long (sym (ap (is_live store.shape wanted (suc i)) own.is) ∙ live) in
    let number = numbered before.at before.is_wanted in
    let place = place_of_number store i node kept d own.parent before.index_of number.0 own.long before.low (ap (slot_number_in nodes store.nodes 0) (sym before.path_is) ∙ number.1) in
    let here : slot_number_in nodes store.nodes 0 slot ≡ Some (slot_under node place.place own.index) =
    ap (slot_number_in nodes store.nodes 0) own.is ∙ number_under store i node kept d own.parent own.index own.long ∙ ap (option_map (λ p. slot_under node p own.index)) place.leads in
    none-some (slot_under node place.place own.index) (sym none ∙ here))

pub goes_under : (store : StoreWords) (i : ℕ) (wanted : List Coord) (slots : List ℕ) (node : NodeShape) (kept : NodeWords) → DynamicAt store i node kept → AreNumbers store i wanted slots → GoesLive store i wanted slots (keeps_too (size_of node.sizes))
goes_under store i wanted slots node kept d numbers = record {
  paths = d.paths;
  within = d.within;
  are_nodes = d.are_nodes;
  some = some_goes store i wanted slots node kept d numbers;
  none = none_goes store i wanted node kept d;
}
