-- The links of a node are sound.
use Rattle.std.proofs.Common.{◌≡◌, ℕ, zero, suc, ◌+◌, ◌*◌, ◌/◌, ◌%◌, ◌<◌, ◌≤◌, Bool, true, false, cond, List, [], ◌∷◌, refl, sym, ap, ◌∙◌, subst, arith}
use Rattle.std.specs.Prelude.{Option, Some, None, IsTrue, is_some, slice_get}
use Rattle.std.proofs.lemmas.Bool.{false≢true}
use Rattle.std.proofs.lemmas.Nat.{mod_below, div_below, div-add-mod'}
use Rattle.std.proofs.lemmas.Option.{none-some, same_Some}
use Rattle.std.proofs.Math.Nat.{div-div-eq-div-mul, pos_of_ne-zero, mul-le-mul_right}
use Rattle.sg_layout.specs.declared.shape.Kind.{Kind}
use Rattle.sg_layout.specs.declared.shape.Kind.TheVariants.{Dense, Bitmasked, Pointer, Hash, Dynamic}
use Rattle.sg_layout.specs.declared.shape.NodeShape.{NodeShape}
use Rattle.sg_layout.specs.Axes.{size_of}
use Rattle.sg_layout.specs.Live.{kind_or}
use Rattle.sg_layout.specs.StorageWords.{ends_segment}
use Rattle.sg_pool.specs.Numbers.{is_live_number}
use Rattle.sg_pool.proofs.Uses.{live_is_number}
use Rattle.sg_store.specs.declared.node.NodeWords.{NodeWords}
use Rattle.sg_store.specs.declared.links.LinkAt.{LinkAt}
use Rattle.sg_store.specs.StoreWords.{StoreWords}
use Rattle.sg_store.specs.WellFormed.{AreNodes, IsWellFormed, is_root, kind_has_cap, live_slot, live_below, places_below}
use Rattle.sg_store.specs.Spots.{width_past, width_from}
use Rattle.sg_store.specs.Links.{IsLink, held_at, slots_per_place, node_above, copy_slots, link_for}
use Rattle.sg_store.specs.LinkLaws.{LinksAreSound, FitsNode, HasParent, IsLiveAt}
use Rattle.sg_store.proofs.Walking.{node_is}
use Rattle.sg_store.proofs.HeldLive.{IsHeldIn, held_in, held_is_live, live_is_held}
use Rattle.sg_store.proofs.LinksKept.{links_once, link_of_slot, holds_again}

-- ── The copy in which a slot stands ──

-- a number of the pool of the node with this index is live
abbrev pub LiveIn : List NodeWords → ℕ → ℕ → Type 0
LiveIn words index number = (kept : NodeWords) × (slice_get words index ≡ Some kept) × IsTrue (is_live_number kept.pool number)

-- what is said of a copy: by the nearest node above if there is one, else what holds of the copies of the first segment
abbrev pub CopyHolds : (ℕ → Type 0) → List NodeWords → Option ℕ → ℕ → Type 0
CopyHolds Holds words None copy = Holds copy
CopyHolds Holds words (Some above) copy = LiveIn words above copy

-- a live place stands in a copy of which this holds
abbrev InCopies : (ℕ → Type 0) → ℕ → ℕ → (ℕ → Bool) → Type 0
InCopies Holds places width live = (place : ℕ) → place < places → IsTrue (live place) → (1 ≤ width) × Holds (place / width)

-- what holds of the copies past a node
abbrev HoldsPast : Kind → NodeWords → (ℕ → Type 0) → ℕ → Type 0
HoldsPast Dense kept Holds copy = Holds copy
HoldsPast Bitmasked kept Holds copy = Holds copy
HoldsPast Pointer kept Holds copy = IsTrue (is_live_number kept.pool copy)
HoldsPast Hash kept Holds copy = IsTrue (is_live_number kept.pool copy)
HoldsPast Dynamic kept Holds copy = Holds copy

dense_past : (Holds : ℕ → Type 0) (places width size : ℕ) (live : ℕ → Bool) → InCopies Holds places width live → (slot : ℕ) → slot < places * size → IsTrue (live (slot / size)) → (1 ≤ width * size) × Holds (slot / (width * size))
dense_past Holds places width size live copies slot below on =
    let wide : 0 < size = pos_of_ne-zero (λ none. absurd (omega (arith, below, ap (λ n. places * n) none))) in
    let here = copies (slot / size) (div_below slot size places wide below) on in
    let parts : slot / size / width ≡ slot / (width * size) = div-div-eq-div-mul slot size width ∙ ap (λ n. slot / n) (omega arith) in
    (some_product width size here.0 (omega (arith, wide)), subst Holds parts here.1)
  where
    some_product : (x y : ℕ) → 1 ≤ x → 1 ≤ y → 1 ≤ x * y
    some_product zero y one two = absurd (omega (arith, one))
    some_product (suc x) zero one two = absurd (omega (arith, two))
    some_product (suc x) (suc y) one two = omega arith

over_one : (n : ℕ) → n / 1 ≡ n
over_one n = let whole : n / 1 * 1 + n % 1 ≡ n = div-add-mod' n 1 in let rest : n % 1 < 1 = mod_below n 1 (omega arith) in omega (arith, whole, rest)

copies_past : (kind : Kind) (node : NodeShape) (kept : NodeWords) (Holds : ℕ → Type 0) (places width : ℕ) (live : ℕ → Bool) → InCopies Holds places width live
    → InCopies (HoldsPast kind kept Holds) (places_below kind node (places * size_of node.sizes)) (width_past kind (width * size_of node.sizes)) (live_below kind kept (live_slot node live))
copies_past Dense node kept Holds places width live copies slot below on = dense_past Holds places width (size_of node.sizes) live copies slot below on
copies_past Bitmasked node kept Holds places width live copies slot below on = dense_past Holds places width (size_of node.sizes) live copies slot below on
copies_past Pointer node kept Holds places width live copies number below on = (omega arith, subst (λ n. IsTrue (is_live_number kept.pool n)) (sym (over_one number)) on)
copies_past Hash node kept Holds places width live copies number below on = (omega arith, subst (λ n. IsTrue (is_live_number kept.pool n)) (sym (over_one number)) on)
copies_past Dynamic node kept Holds places width live copies number below on = absurd (false_live on)
  where
    false_live : IsTrue false → ⊥
    false_live on = false≢true on

-- the nearest node above, with one more node in front
abbrev front : Option ℕ → Bool → Option ℕ
front (Some above) ends = Some (suc above)
front None ends = cond ends (Some 0) None

above_front : (node : NodeShape) (later : List NodeShape) (index : ℕ) → node_above (node ∷ later) (suc index) ≡ front (node_above later index) (ends_segment node.kind)
above_front node later zero = refl
above_front node later (suc index) = split (ends_segment (kind_or (slice_get later index))) (above_front node later index)
  where
    split : (b : Bool) → node_above (node ∷ later) (suc index) ≡ front (node_above later index) (ends_segment node.kind)
        → cond b (Some (suc index)) (node_above (node ∷ later) (suc index)) ≡ front (cond b (Some index) (node_above later index)) (ends_segment node.kind)
    split true same = refl
    split false same = same

holds_front : (kind : Kind) (kept : NodeWords) (words : List NodeWords) (Holds : ℕ → Type 0) (above : Option ℕ) (copy : ℕ) → CopyHolds (HoldsPast kind kept Holds) words above copy → CopyHolds Holds (kept ∷ words) (front above (ends_segment kind)) copy
holds_front kind kept words Holds (Some above) copy is = is
holds_front Dense kept words Holds None copy is = is
holds_front Bitmasked kept words Holds None copy is = is
holds_front Pointer kept words Holds None copy is = (kept, refl, is)
holds_front Hash kept words Holds None copy is = (kept, refl, is)
holds_front Dynamic kept words Holds None copy is = is

-- the copy of a slot that holds something
copy_holds : (nodes : List NodeShape) (words : List NodeWords) (places width : ℕ) (live : ℕ → Bool) → AreNodes nodes words places live → (Holds : ℕ → Type 0) → InCopies Holds places width live
    → (index : ℕ) (node : NodeShape) (kept : NodeWords) → slice_get nodes index ≡ Some node → slice_get words index ≡ Some kept → (slot number : ℕ) → held_at node.kind node kept slot ≡ Some number
    → (1 ≤ width_from width nodes index * slots_per_place node.kind node) × CopyHolds Holds words (node_above nodes index) (slot / (width_from width nodes index * slots_per_place node.kind node))
copy_holds [] words places width live are Holds copies index node kept at has slot number holds = absurd (none-some node at)
copy_holds (first ∷ later) [] places width live are Holds copies index node kept at has slot number holds = absurd are
copy_holds (first ∷ later) (own ∷ words) places width live are Holds copies zero node kept at has slot number holds =
    let first_is : first ≡ node = same_Some first node at in
    let own_is : own ≡ kept = same_Some own kept has in
    let here : held_at first.kind first own slot ≡ Some number = ap (λ (n : NodeShape). held_at n.kind n own slot) first_is ∙ ap (λ (k : NodeWords). held_at node.kind node k slot) own_is ∙ holds in
    let held : IsHeldIn places live slot (slots_per_place first.kind first) = held_in first.kind first own places live are.1 slot number here in
    let both = dense_past Holds places width (slots_per_place first.kind first) live copies slot (in_places slot (slots_per_place first.kind first) places held) held.is_live in
    subst (λ (n : NodeShape). (1 ≤ width * slots_per_place n.kind n) × Holds (slot / (width * slots_per_place n.kind n))) first_is both
  where
    in_places : (slot per_place places : ℕ) → IsHeldIn places live slot per_place → slot < places * per_place
    in_places slot per_place places held =
        let above : slot / per_place + 1 ≤ places = omega (arith, held.within) in
        let grown : (slot / per_place + 1) * per_place ≤ places * per_place = mul-le-mul_right per_place above in
        let more : (slot / per_place + 1) * per_place ≡ slot / per_place * per_place + per_place = omega arith in
        let whole : slot / per_place * per_place + slot % per_place ≡ slot = div-add-mod' slot per_place in
        omega (arith, grown, more, whole, mod_below slot per_place held.some)
copy_holds (first ∷ later) (own ∷ words) places width live are Holds copies (suc index) node kept at has slot number holds =
    let rest = copy_holds later words _ (width_past first.kind (width * size_of first.sizes)) _ are.2 (HoldsPast first.kind own Holds) (copies_past first.kind first own Holds places width live copies) index node kept at has slot number holds in (
      rest.0,
      subst (λ (o : Option ℕ). CopyHolds Holds (own ∷ words) o (slot / (width_from (width_past first.kind (width * size_of first.sizes)) later index * slots_per_place node.kind node)))
          (sym (above_front first later index)) (holds_front first.kind own words Holds (node_above later index) _ rest.1),
    )

root_copies : InCopies (λ copy. copy ≡ 0) 1 1 is_root
root_copies place below on = (omega arith, let same : place / 1 ≡ place = over_one place in omega (arith, same, below))

-- ── A link among others ──

pub live_at : (store : StoreWords) (index : ℕ) (link : LinkAt) → IsWellFormed store → IsLink store index link → IsLiveAt store index link.number
live_at store index link well is =
    let own = node_is store.shape.nodes store.nodes 1 is_root well.nodes_fit index is.node is.kept is.node_there is.kept_there in
    record { kept = is.kept; there = is.kept_there; live = held_is_live is.node.kind is.node is.kept own.0 own.1 own.2 is.slot link.number is.holds }

parent_of : (store : StoreWords) (above : Option ℕ) (slot copy : ℕ) → CopyHolds (λ c. c ≡ 0) store.nodes above (slot / copy) → HasParent store above (cond (is_some above) (slot / copy + 1) 0)
parent_of store None slot copy holds = refl
parent_of store (Some above) slot copy holds =
    (slot / copy, omega arith, record { kept = holds.0; there = holds.1; live = holds.2 })

slot_of : (words : List NodeWords) (above : Option ℕ) (slot copy : ℕ) → 1 ≤ copy → CopyHolds (λ c. c ≡ 0) words above (slot / copy) → cond (is_some above) (slot % copy) slot < copy
slot_of words (Some above) slot copy some holds = mod_below slot copy some
slot_of words None slot copy some holds =
    let whole : slot / copy * copy + slot % copy ≡ slot = div-add-mod' slot copy in
    let none : slot / copy * copy ≡ 0 * copy = ap (λ n. n * copy) holds in
    let zero : 0 * copy ≡ 0 = omega arith in
    omega (arith, whole, none, zero, mod_below slot copy some)

-- the copy in which a link's slot stands
pub copy_of_link : (store : StoreWords) (index : ℕ) (link : LinkAt) → IsWellFormed store → (is : IsLink store index link)
    → (1 ≤ copy_slots store.shape.nodes index is.node) × CopyHolds (λ c. c ≡ 0) store.nodes (node_above store.shape.nodes index) (is.slot / copy_slots store.shape.nodes index is.node)
copy_of_link store index link well is =
    copy_holds store.shape.nodes store.nodes 1 1 is_root well.nodes_fit (λ c. c ≡ 0) root_copies index is.node is.kept is.node_there is.kept_there is.slot link.number is.holds

pub fits_node : (store : StoreWords) (index : ℕ) (link : LinkAt) → IsWellFormed store → IsLink store index link → FitsNode store index link
fits_node store index link well is =
    let nodes : List NodeShape = store.shape.nodes in
    let copy : ℕ = copy_slots nodes index is.node in
    let holds = copy_of_link store index link well is in
    let live = live_at store index link well is in
    record {
      node = is.node;
      kept = is.kept;
      node_there = is.node_there;
      kept_there = is.kept_there;
      place = live_is_number is.kept.pool link.number (subst (λ (k : NodeWords). IsTrue (is_live_number k.pool link.number)) (same_Some live.kept is.kept (sym live.there ∙ is.kept_there)) live.live);
      slot = subst (λ (l : LinkAt). l.slot < copy) (sym is.is) (slot_of store.nodes (node_above nodes index) is.slot copy holds.0 holds.1);
      parent = subst (λ (l : LinkAt). HasParent store (node_above nodes index) l.parent) (sym is.is) (parent_of store (node_above nodes index) is.slot copy holds.1);
    }

-- ── Each slot holds one number ──

same_slot : (has : Bool) (x y copy : ℕ) → cond has (x / copy + 1) 0 ≡ cond has (y / copy + 1) 0 → cond has (x % copy) x ≡ cond has (y % copy) y → x ≡ y
same_slot false x y copy parents slots = slots
same_slot true x y copy parents slots =
    let up : x / copy ≡ y / copy = omega (arith, parents) in
    sym (div-add-mod' x copy) ∙ ap (λ n. n * copy + x % copy) up ∙ ap (λ n. y / copy * copy + n) slots ∙ div-add-mod' y copy

slots_apart : (store : StoreWords) (index : ℕ) (a b : LinkAt) → IsWellFormed store → IsLink store index a → IsLink store index b → a.parent ≡ b.parent → a.slot ≡ b.slot → a ≡ b
slots_apart store index a b well x y parents slots =
    let nodes : List NodeShape = store.shape.nodes in
    let node_is : x.node ≡ y.node = same_Some x.node y.node (sym x.node_there ∙ y.node_there) in
    let a_is : a ≡ link_for nodes index y.node x.slot a.number = x.is ∙ ap (λ (n : NodeShape). link_for nodes index n x.slot a.number) node_is in
    let same : x.slot ≡ y.slot = same_slot (is_some (node_above nodes index)) x.slot y.slot (copy_slots nodes index y.node)
    (sym (ap (λ (l : LinkAt). l.parent) a_is) ∙ parents ∙ ap (λ (l : LinkAt). l.parent) y.is)
    (sym (ap (λ (l : LinkAt). l.slot) a_is) ∙ slots ∙ ap (λ (l : LinkAt). l.slot) y.is) in
    let number : a.number ≡ b.number = same_Some a.number b.number
    (sym (holds_again store index a x y.node y.kept y.node_there y.kept_there) ∙ ap (held_at y.node.kind y.node y.kept) same ∙ y.holds) in
    link_of_slot store index a b x y same number

-- ── The law ──

-- a live number has a link
pub link_there : (store : StoreWords) (index : ℕ) → IsWellFormed store → (node : NodeShape) → slice_get store.shape.nodes index ≡ Some node → IsTrue (kind_has_cap node.kind) → (number : ℕ) → IsLiveAt store index number → (link : LinkAt) × IsLink store index link × (link.number ≡ number)
link_there store index well node at capped number on =
    let own = node_is store.shape.nodes store.nodes 1 is_root well.nodes_fit index node on.kept at on.there in
    let held = live_is_held node.kind node on.kept own.0 own.1 own.2 capped number on.live in (
      link_for store.shape.nodes index node held.0 number,
      record { node = node; kept = on.kept; node_there = at; kept_there = on.there; slot = held.0; holds = held.1; is = refl },
      refl,
    )

pub links_are_sound : (store : StoreWords) → LinksAreSound store
links_are_sound store well index node at capped = record {
  live = λ number. (
    λ on. link_there store index well node at capped number on,
    λ has. subst (IsLiveAt store index) has.2 (live_at store index has.0 well has.1),
  );
  numbers = λ x y is also same. links_once store well index x y is also same;
  slots = λ x y is also parents slots. slots_apart store index x y well is also parents slots;
  fit = λ link is. fits_node store index link well is;
}
