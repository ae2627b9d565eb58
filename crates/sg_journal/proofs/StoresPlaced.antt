-- The links of well-formed stores are a sound placing.
use Rattle.std.proofs.Common.{◌≡◌, ◌⊎◌, inl, inr, ℕ, zero, suc, ◌+◌, ◌-◌, ◌<◌, ◌≤◌, Bool, true, false, cond, List, [], ◌∷◌, length, Option, Some, None, refl, sym, ap, ◌∙◌, subst, arith}
use Rattle.std.specs.Prelude.{All, Contains, slice_get, slice_index_or, count_by}
use Rattle.std.specs.List.{AllZip}
use Rattle.std.specs.Option.{option_map}
use Rattle.std.proofs.lemmas.Bool.{false≢true, cond-true, cases_eq}
use Rattle.std.proofs.lemmas.Option.{none-some, same_Some}
use Rattle.std.proofs.lemmas.List.Elements.{All-head, All-tail}
use Rattle.std.proofs.lemmas.List.Sums.{sum_by-cons}
use Rattle.sg_layout.specs.declared.shape.Kind.{Kind}
use Rattle.sg_layout.specs.declared.shape.Kind.TheVariants.{Dense, Bitmasked, Pointer, Hash, Dynamic}
use Rattle.sg_layout.specs.declared.shape.NodeShape.{NodeShape}
use Rattle.sg_layout.specs.declared.shape.Shape.{Shape}
use Rattle.sg_layout.specs.Axes.{count_of}
use Rattle.sg_layout.specs.Live.{kind_or}
use Rattle.sg_layout.specs.StorageWords.{ends_segment}
use Rattle.sg_store.specs.declared.links.LinkAt.{LinkAt}
use Rattle.sg_store.specs.declared.node.NodeWords.{NodeWords}
use Rattle.sg_store.specs.StoreWords.{StoreWords}
use Rattle.sg_store.specs.WellFormed.{IsWellFormed, IsNode, IsWithinCap, kind_has_cap}
use Rattle.sg_store.specs.Links.{IsLink, AreLinks, KeepsLinks, held_at, node_above, copy_slots}
use Rattle.sg_store.specs.Standing.{shapes_of}
use Rattle.sg_store.specs.LinkLaws.{LinksAreSound, AreSound, FitsNode, HasParent, IsLiveAt}
use Rattle.sg_store.proofs.Uses.{node_is}
use Rattle.sg_journal.specs.declared.rooms.Room.{Room}
use Rattle.sg_journal.specs.Rooms.{places_of, room_at, room_in, rooms_of}
use Rattle.sg_journal.specs.Placing.{Placing, links_at, ArePlaced, AreRising}
use Rattle.sg_journal.specs.PlacingLaws.{HasParentAt, FitsAt, StoresAreSound, StoresKeepPlaces}
use Rattle.sg_journal.proofs.Lacks.{AreAtLeast, at_least_more, rising_rest, rising_above}

-- ---- the store of a layout

pub record LayoutAt (stores : List StoreWords) (placing : Placing) (layout : ℕ) : Type 0 where
  pub store : StoreWords
  pub at : slice_get stores layout ≡ Some store
  pub links : (index : ℕ) → AreLinks store index (links_at placing layout (suc index))

pub store_at : (stores : List StoreWords) (placing : Placing) → ArePlaced stores placing → (layout : ℕ) → ((node : ℕ) → links_at placing layout node ≡ []) ⊎ LayoutAt stores placing layout
store_at [] [] placed layout = inl none where
  none : (node : ℕ) → links_at [] layout node ≡ []
  none zero = refl
  none (suc index) = refl
store_at [] (nodes ∷ placing) placed layout = absurd placed
store_at (store ∷ stores) [] placed layout = absurd placed
store_at (store ∷ stores) (nodes ∷ placing) placed zero = inr (record { store = store; at = refl; links = placed.0.links })
store_at (store ∷ stores) (nodes ∷ placing) placed (suc layout) =
    elim (store_at stores placing placed.1 layout) [
      | inl none ↦ inl (λ node. shift node (none node))
      | inr there ↦ inr (record { store = there.store; at = there.at; links = there.links })
    ]
  where
    shift : (node : ℕ) → links_at placing layout node ≡ [] → links_at (nodes ∷ placing) (suc layout) node ≡ []
    shift zero e = refl
    shift (suc index) e = e

no_link : (x : LinkAt) (links : List LinkAt) → links ≡ [] → Contains links x → ⊥
no_link x links none has = let empty : Contains [] x = subst (λ (l : List LinkAt). Contains l x) none has in omega (arith, empty.1)

map_at : (stores : List StoreWords) (layout : ℕ) (store : StoreWords) → slice_get stores layout ≡ Some store → slice_get (shapes_of stores) layout ≡ Some store.shape
map_at [] layout store at = absurd (none-some store at)
map_at (first ∷ stores) zero store at = ap (λ (s : StoreWords). Some s.shape) (same_Some first store at)
map_at (first ∷ stores) (suc layout) store at = map_at stores layout store at

pub well_at : (stores : List StoreWords) (layout : ℕ) (store : StoreWords) → All IsWellFormed stores → slice_get stores layout ≡ Some store → IsWellFormed store
well_at [] layout store all at = absurd (none-some store at)
well_at (first ∷ stores) zero store all at = subst IsWellFormed (same_Some first store at) (All-head IsWellFormed first stores all)
well_at (first ∷ stores) (suc layout) store all at = well_at stores layout store (All-tail IsWellFormed first stores all) at

room_there : (stores : List StoreWords) (layout index : ℕ) (store : StoreWords) → slice_get stores layout ≡ Some store → rooms_of (shapes_of stores) layout (suc index) ≡ room_at store.shape.nodes index (slice_get store.shape.nodes index)
room_there stores layout index store at = ap (λ (o : Option Shape). room_in o (suc index)) (map_at stores layout store at)

-- ---- nodes with a cap

pub capped_of : (kind : Kind) (node : NodeShape) (kept : NodeWords) (slot number : ℕ) → held_at kind node kept slot ≡ Some number → kind_has_cap kind ≡ true
capped_of Dense node kept slot number holds = absurd (none-some number holds)
capped_of Bitmasked node kept slot number holds = absurd (none-some number holds)
capped_of Pointer node kept slot number holds = refl
capped_of Hash node kept slot number holds = refl
capped_of Dynamic node kept slot number holds = refl

pool_places : (kind : Kind) (node : NodeShape) (kept : NodeWords) (slots : ℕ) (live : ℕ → Bool) → kind_has_cap kind ≡ true → IsNode kind node kept slots live → length kept.pool.live ≡ places_of kind node
pool_places Dense node kept slots live capped is = absurd (false≢true capped)
pool_places Bitmasked node kept slots live capped is = absurd (false≢true capped)
pool_places Pointer node kept slots live capped is = is.places
pool_places Hash node kept slots live capped is = is.as_pointer.places
pool_places Dynamic node kept slots live capped is = is.places

cap_of : (kind : Kind) (node : NodeShape) (kept : NodeWords) → kind_has_cap kind ≡ true → IsWithinCap kind node kept → count_by (λ (live : Bool). live) kept.pool.live ≤ count_of node.cap
cap_of Dense node kept capped is = absurd (false≢true capped)
cap_of Bitmasked node kept capped is = absurd (false≢true capped)
cap_of Pointer node kept capped is = is
cap_of Hash node kept capped is = is
cap_of Dynamic node kept capped is = is

zip_at : (R : NodeShape → NodeWords → Type 0) (nodes : List NodeShape) (words : List NodeWords) (i : ℕ) (node : NodeShape) (kept : NodeWords) → AllZip R nodes words → slice_get nodes i ≡ Some node → slice_get words i ≡ Some kept → R node kept
zip_at R [] words i node kept all at has = absurd (none-some node at)
zip_at R (first ∷ later) [] i node kept all at has = absurd (none-some kept has)
zip_at R (first ∷ later) (own ∷ words) zero node kept all at has = subst (λ (n : NodeShape). R n kept) (same_Some first node at) (subst (λ (k : NodeWords). R first k) (same_Some own kept has) all.0)
zip_at R (first ∷ later) (own ∷ words) (suc i) node kept all at has = zip_at R later words i node kept all.1 at has

-- the nearest node above is there, has a cap, and stands before
pub record IsAbove (nodes : List NodeShape) (index above : ℕ) : Type 0 where
  pub node : NodeShape
  pub at : slice_get nodes above ≡ Some node
  pub capped : kind_has_cap node.kind ≡ true
  pub before : above < index

pub above_is : (nodes : List NodeShape) (index above : ℕ) → node_above nodes index ≡ Some above → IsAbove nodes index above
above_is nodes zero above is = absurd (none-some above is)
above_is nodes (suc index) above is = by_case (ends_segment (kind_or (slice_get nodes index))) refl is (above_is nodes index above) where
  caps : (kind : Kind) → ends_segment kind ≡ true → kind_has_cap kind ≡ true
  caps Dense e = absurd (false≢true e)
  caps Bitmasked e = absurd (false≢true e)
  caps Pointer e = refl
  caps Hash e = refl
  caps Dynamic e = absurd (false≢true e)

  there : (o : Option NodeShape) → slice_get nodes index ≡ o → ends_segment (kind_or o) ≡ true → index ≡ above → IsAbove nodes (suc index) above
  there None at ends same = absurd (false≢true ends)
  there (Some node) at ends same = record { node = node; at = ap (slice_get nodes) (sym same) ∙ at; capped = caps node.kind ends; before = omega (arith, same) }

  by_case : (b : Bool) → ends_segment (kind_or (slice_get nodes index)) ≡ b → cond b (Some index) (node_above nodes index) ≡ Some above → (node_above nodes index ≡ Some above → IsAbove nodes index above) → IsAbove nodes (suc index) above
  by_case true ends is rest = there (slice_get nodes index) refl ends (same_Some index above is)
  by_case false ends is rest =
      let found = rest is in
      record { node = found.node; at = found.at; capped = found.capped; before = omega (arith, found.before) }

-- ---- a link fits

-- the room of a node with a cap
abbrev pub own_room : List NodeShape → ℕ → NodeShape → Room
own_room nodes index node = record {
  places = places_of node.kind node;
  cap = count_of node.cap;
  slots = copy_slots nodes index node;
  above = option_map suc (node_above nodes index);
}

room_own : (nodes : List NodeShape) (index : ℕ) (node : NodeShape) → slice_get nodes index ≡ Some node → kind_has_cap node.kind ≡ true → room_at nodes index (slice_get nodes index) ≡ Some (own_room nodes index node)
room_own nodes index node at capped = ap (room_at nodes index) at ∙ cond-true (kind_has_cap node.kind) (Some (own_room nodes index node)) None capped

parent_there : ((store : StoreWords) → LinksAreSound store) → (stores : List StoreWords) (placing : Placing) (layout index : ℕ) (there : LayoutAt stores placing layout) → IsWellFormed there.store
    → (above : Option ℕ) → node_above there.store.shape.nodes index ≡ above → (parent : ℕ) → HasParent there.store above parent → HasParentAt placing layout (option_map suc above) parent
parent_there laws stores placing layout index there well None is parent has = has
parent_there laws stores placing layout index there well (Some above) is parent has =
    let node = above_is there.store.shape.nodes index above is in
    let sound : AreSound there.store above = laws there.store well above node.node node.at node.capped in
    let link = (sound.live has.0).0 has.2 in
    (link.0, ((there.links above).members link.0).1 link.1, has.1 ∙ ap suc (sym link.2))

fits_at : ((store : StoreWords) → LinksAreSound store) → (stores : List StoreWords) (placing : Placing) (layout index : ℕ) (there : LayoutAt stores placing layout) → IsWellFormed there.store
    → (link : LinkAt) → IsLink there.store index link → FitsAt (rooms_of (shapes_of stores)) placing layout (suc index) link
fits_at laws stores placing layout index there well link is =
    let store : StoreWords = there.store in
    let capped : kind_has_cap is.node.kind ≡ true = capped_of is.node.kind is.node is.kept is.slot link.number is.holds in
    let sound : AreSound store index = laws store well index is.node is.node_there capped in
    let fit : FitsNode store index link = sound.fit link is in
    let own = node_is store.shape.nodes store.nodes 1 _ well.nodes_fit index is.node is.kept is.node_there is.kept_there in
    let places : length is.kept.pool.live ≡ places_of is.node.kind is.node = pool_places is.node.kind is.node is.kept own.0 own.1 capped own.2 in
    let kept : fit.kept ≡ is.kept = same_Some fit.kept is.kept (sym fit.kept_there ∙ is.kept_there) in
    let node : fit.node ≡ is.node = same_Some fit.node is.node (sym fit.node_there ∙ is.node_there) in
    record {
      room = own_room store.shape.nodes index is.node;
      is = room_there stores layout index store there.at ∙ room_own store.shape.nodes index is.node is.node_there capped;
      place = omega (arith, fit.place, ap (λ (k : NodeWords). length k.pool.live) kept, places);
      slot = subst (λ (n : NodeShape). link.slot < copy_slots store.shape.nodes index n) node fit.slot;
      parent = parent_there laws stores placing layout index there well (node_above store.shape.nodes index) refl link.parent fit.parent;
    }

-- ---- there are at most as many as the cap

-- the numbers of rising links are live, the live ones being listed from a number on
abbrev AreLive : List Bool → ℕ → List LinkAt → Type 0
AreLive live start [] = Unit {0}
AreLive live start (x ∷ xs) = (slice_index_or live (x.number - start) false ≡ true) × AreLive live start xs

live_on : (b : Bool) (live : List Bool) (start : ℕ) (xs : List LinkAt) → AreAtLeast (suc start) xs → AreLive (b ∷ live) start xs → AreLive live (suc start) xs
live_on b live start [] least are = tt
live_on b live start (x ∷ xs) least are =
    let next : x.number - start ≡ suc (x.number - suc start) = omega (arith, least.0) in
    (ap (λ n. slice_index_or (b ∷ live) n false) (sym next) ∙ are.0, live_on b live start xs least.1 are.1)

pub few_live : (live : List Bool) (start : ℕ) (xs : List LinkAt) → AreRising xs → AreAtLeast start xs → AreLive live start xs → length xs ≤ count_by (λ (b : Bool). b) live
few_live live start [] rising least are = omega arith
few_live [] start (x ∷ xs) rising least are = absurd (false≢true are.0)
few_live (b ∷ live) start (x ∷ xs) rising least are = elim (cases_eq x.number start) [
  | inl same ↦
      let here : b ≡ true = let at : x.number - start ≡ 0 = omega (arith, same) in ap (λ n. slice_index_or (b ∷ live) n false) (sym at) ∙ are.0 in
      let later : AreAtLeast (suc start) xs = subst (λ n. AreAtLeast (suc n) xs) same (rising_above x xs rising) in
      let rest : length xs ≤ count_by (λ (c : Bool). c) live = few_live live (suc start) xs (rising_rest x xs rising) later (live_on b live start xs later are.1) in
      omega (arith, rest, counted b here)
  | inr apart ↦
      let later : AreAtLeast (suc start) (x ∷ xs) = (omega (arith, least.0, apart), at_least_more (suc start) (suc x.number) xs (omega (arith, least.0)) (rising_above x xs rising)) in
      let rest : length (x ∷ xs) ≤ count_by (λ (c : Bool). c) live = few_live live (suc start) (x ∷ xs) rising later (live_on b live start (x ∷ xs) later are) in
      omega (arith, rest, more b)
]
  where
    counted : (c : Bool) → c ≡ true → count_by (λ (c : Bool). c) (c ∷ live) ≡ suc (count_by (λ (c : Bool). c) live)
    counted true e = let on : count_by (λ (c : Bool). c) (true ∷ live) ≡ 1 + count_by (λ (c : Bool). c) live = sum_by-cons (λ (c : Bool). cond c 1 0) true live in omega (arith, on)
    counted false e = absurd (false≢true e)

    more : (c : Bool) → count_by (λ (c : Bool). c) live ≤ count_by (λ (c : Bool). c) (c ∷ live)
    more c = let on : count_by (λ (c : Bool). c) (c ∷ live) ≡ cond c 1 0 + count_by (λ (c : Bool). c) live = sum_by-cons (λ (c : Bool). cond c 1 0) c live in omega (arith, on)

-- the live numbers of links
pub live_of : (store : StoreWords) (index : ℕ) (kept : NodeWords) → slice_get store.nodes index ≡ Some kept → (links : List LinkAt) → ((x : LinkAt) → Contains links x → IsLiveAt store index x.number) → AreLive kept.pool.live 0 links
live_of store index kept at [] all = tt
live_of store index kept at (x ∷ xs) all =
    let own = all x (zero, omega arith, refl) in
    let same : own.kept ≡ kept = same_Some own.kept kept (sym own.there ∙ at) in
    let zero_on : x.number ≡ x.number - 0 = omega arith in (
      ap (λ n. slice_index_or kept.pool.live n false) (sym zero_on) ∙ ap (λ (k : NodeWords). slice_index_or k.pool.live x.number false) (sym same) ∙ own.live,
      live_of store index kept at xs (λ y has. all y (suc has.0, omega (arith, has.1), has.2)),
    )

pub from_zero : (links : List LinkAt) → AreAtLeast 0 links
from_zero [] = tt
from_zero (x ∷ xs) = (omega arith, from_zero xs)

few_at : ((store : StoreWords) → LinksAreSound store) → (store : StoreWords) (index : ℕ) → IsWellFormed store → (links : List LinkAt) → AreLinks store index links → (node : NodeShape) → slice_get store.shape.nodes index ≡ Some node
    → kind_has_cap node.kind ≡ true → length links ≤ count_of node.cap
few_at laws store index well [] are node at capped = omega arith
few_at laws store index well (x ∷ xs) are node at capped =
    let is : IsLink store index x = (are.members x).0 (zero, omega arith, refl) in
    let sound : AreSound store index = laws store well index node at capped in
    let live : AreLive is.kept.pool.live 0 (x ∷ xs) = live_of store index is.kept is.kept_there (x ∷ xs) (λ y has. (sound.live y.number).1 (y, (are.members y).0 has, refl)) in
    let cap : count_by (λ (b : Bool). b) is.kept.pool.live ≤ count_of node.cap =
    cap_of node.kind node is.kept capped (zip_at (λ n k. IsWithinCap n.kind n k) store.shape.nodes store.nodes index node is.kept well.within_caps at is.kept_there) in
    omega (arith, few_live is.kept.pool.live 0 (x ∷ xs) are.rising (from_zero (x ∷ xs)) live, cap)

-- ---- the laws

rising_none : (links : List LinkAt) → links ≡ [] → AreRising links
rising_none links none = subst AreRising (sym none) (λ i j d before below. absurd (omega (arith, below)))

-- the node of a room
record HasRoomAt (store : StoreWords) (index : ℕ) (room : Room) : Type 0 where
  node : NodeShape
  at : slice_get store.shape.nodes index ≡ Some node
  capped : kind_has_cap node.kind ≡ true
  cap : room.cap ≡ count_of node.cap

room_of_node : (store : StoreWords) (index : ℕ) (room : Room) (o : Option NodeShape) → slice_get store.shape.nodes index ≡ o → room_at store.shape.nodes index o ≡ Some room → HasRoomAt store index room
room_of_node store index room None at is = absurd (none-some room is)
room_of_node store index room (Some node) at is = by_case (kind_has_cap node.kind) refl is where
  by_case : (b : Bool) → kind_has_cap node.kind ≡ b → cond b (Some (own_room store.shape.nodes index node)) None ≡ Some room → HasRoomAt store index room
  by_case true capped e = record { node = node; at = at; capped = capped; cap = sym (ap (λ (r : Room). r.cap) (same_Some (own_room store.shape.nodes index node) room e)) }
  by_case false capped e = absurd (none-some room e)

pub stores_are_sound : ((store : StoreWords) → LinksAreSound store) → StoresAreSound
stores_are_sound laws stores placing wells placed = record {
  numbers = numbers;
  slots = slots;
  fit = fit;
  few = few;
}
  where
    At : ℕ → Type 0
    At layout = ((node : ℕ) → links_at placing layout node ≡ []) ⊎ LayoutAt stores placing layout

    there : (layout : ℕ) → At layout
    there layout = store_at stores placing placed layout

    numbers : (layout node : ℕ) → AreRising (links_at placing layout node)
    numbers layout zero = rising_none [] refl
    numbers layout (suc index) = elim (there layout) [ inl none ↦ rising_none _ (none (suc index)) | inr at ↦ (at.links index).rising ]

    slots : (layout node : ℕ) (x y : LinkAt) → Contains (links_at placing layout node) x → Contains (links_at placing layout node) y → x.parent ≡ y.parent → x.slot ≡ y.slot → x ≡ y
    slots layout zero x y one two parents same = absurd (no_link x [] refl one)
    slots layout (suc index) x y one two parents same = elim (there layout) [
      | inl none ↦ absurd (no_link x _ (none (suc index)) one)
      | inr at ↦
          let is : IsLink at.store index x = ((at.links index).members x).0 one in
          let capped : kind_has_cap is.node.kind ≡ true = capped_of is.node.kind is.node is.kept is.slot x.number is.holds in
          (laws at.store (well_at stores layout at.store wells at.at) index is.node is.node_there capped).slots x y is (((at.links index).members y).0 two) parents same
    ]

    fit : (layout node : ℕ) (link : LinkAt) → Contains (links_at placing layout node) link → FitsAt (rooms_of (shapes_of stores)) placing layout node link
    fit layout zero link has = absurd (no_link link [] refl has)
    fit layout (suc index) link has = elim (there layout) [
      | inl none ↦ absurd (no_link link _ (none (suc index)) has)
      | inr at ↦ fits_at laws stores placing layout index at (well_at stores layout at.store wells at.at) link (((at.links index).members link).0 has)
    ]

    few : (layout node : ℕ) (room : Room) → rooms_of (shapes_of stores) layout node ≡ Some room → length (links_at placing layout node) ≤ room.cap
    few layout zero room is = omega arith
    few layout (suc index) room is = elim (there layout) [
      | inl none ↦ omega (arith, ap length (none (suc index)))
      | inr at ↦
          let own = room_of_node at.store index room (slice_get at.store.shape.nodes index) refl (sym (room_there stores layout index at.store at.at) ∙ is) in
          omega (arith, few_at laws at.store index (well_at stores layout at.store wells at.at) _ (at.links index) own.node own.at own.capped, own.cap)
    ]

zip_stores : (R : StoreWords → StoreWords → Type 0) (olds news : List StoreWords) (layout : ℕ) (old new : StoreWords) → AllZip R olds news → slice_get olds layout ≡ Some old → slice_get news layout ≡ Some new → R old new
zip_stores R [] news layout old new all at has = absurd (none-some old at)
zip_stores R (first ∷ olds) [] layout old new all at has = absurd (none-some new has)
zip_stores R (first ∷ olds) (own ∷ news) zero old new all at has = subst (λ (s : StoreWords). R s new) (same_Some first old at) (subst (λ (s : StoreWords). R first s) (same_Some own new has) all.0)
zip_stores R (first ∷ olds) (own ∷ news) (suc layout) old new all at has = zip_stores R olds news layout old new all.1 at has

pub stores_keep_places : StoresKeepPlaces
stores_keep_places olds news from to keep old_placed new_placed layout zero x y one two same = absurd (no_link x [] refl one)
stores_keep_places olds news from to keep old_placed new_placed layout (suc index) x y one two same =
    elim (store_at olds from old_placed layout) [
      | inl none ↦ absurd (no_link x _ (none (suc index)) one)
      | inr old ↦ elim (store_at news to new_placed layout) [
        | inl none ↦ absurd (no_link y _ (none (suc index)) two)
        | inr new ↦ zip_stores KeepsLinks olds news layout old.store new.store keep old.at new.at index x y (((old.links index).members x).0 one) (((new.links index).members y).0 two) same
      ]
    ]
