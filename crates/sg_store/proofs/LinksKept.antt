-- Links of stores: they stay where what led to a place still does, and each number has one.
use Rattle.std.proofs.Common.{◌≡◌, ℕ, zero, suc, Bool, List, [], ◌∷◌, refl, sym, ap, ◌∙◌, subst}
use Rattle.std.specs.Prelude.{Option, Some, slice_get}
use Rattle.std.proofs.lemmas.Option.{none-some, same_Some}
use Rattle.sg_layout.specs.declared.shape.NodeShape.{NodeShape}
use Rattle.sg_layout.specs.declared.shape.Shape.{Shape}
use Rattle.sg_store.specs.declared.node.NodeWords.{NodeWords}
use Rattle.sg_store.specs.declared.links.LinkAt.{LinkAt}
use Rattle.sg_store.specs.StoreWords.{StoreWords}
use Rattle.sg_store.specs.Slots.{place_below}
use Rattle.sg_store.specs.WellFormed.{AreNodes, IsWellFormed, is_root}
use Rattle.sg_store.specs.Reaching.{leads_from, leads_at}
use Rattle.sg_store.specs.Links.{IsLink, GrowsLinks, held_at, link_for}
use Rattle.sg_store.specs.LinkLaws.{CellsKeepLinks, GrownAreKept, ShrunkAreKept}
use Rattle.sg_store.proofs.Walking.{AreOne, IsOne, links_are_one, node_is}
use Rattle.sg_store.proofs.HeldSlots.{element_of, place_of_number, held_leads, leads_held, same_element, held_kind, IfDynamic}

-- ── They stay ──

-- nodes of shapes have words
words_there : (nodes : List NodeShape) (words : List NodeWords) (places : ℕ) (live : ℕ → Bool) → AreNodes nodes words places live → (index : ℕ) (node : NodeShape) → slice_get nodes index ≡ Some node → (kept : NodeWords) × (slice_get words index ≡ Some kept)
words_there [] words places live are index node at = absurd (none-some node at)
words_there (first ∷ later) [] places live are index node at = absurd are
words_there (first ∷ later) (kept ∷ words) places live are zero node at = (kept, refl)
words_there (first ∷ later) (kept ∷ words) places live are (suc index) node at = words_there later words _ _ are.2 index node at

read_leads : (store : StoreWords) (index : ℕ) (node : NodeShape) (kept : NodeWords) → slice_get store.shape.nodes index ≡ Some node → slice_get store.nodes index ≡ Some kept → (slot : ℕ) → leads_at store index slot ≡ place_below node.kind node kept slot
read_leads store index node kept at has slot =
    ap (λ (o : Option NodeShape). leads_from o (slice_get store.nodes index) slot) at ∙ ap (λ (o : Option NodeWords). leads_from (Some node) o slot) has

-- if what led to a place still does, in stores of one shape
pub links_grow : (old now : StoreWords) → IsWellFormed old → IsWellFormed now → now.shape ≡ old.shape → ((index slot place : ℕ) → leads_at old index slot ≡ Some place → leads_at now index slot ≡ Some place) → GrowsLinks old now
links_grow old now was well same leads index link is =
    let node : NodeShape = is.node in
    let at : slice_get now.shape.nodes index ≡ Some node = ap (λ (s : Shape). slice_get s.nodes index) same ∙ is.node_there in
    let found = words_there now.shape.nodes now.nodes 1 is_root well.nodes_fit index node at in
    let own = node_is old.shape.nodes old.nodes 1 is_root was.nodes_fit index node is.kept is.node_there is.kept_there in
    let kind : IfDynamic node.kind node = held_kind node.kind node is.kept own.0 own.1 own.2 is.slot link.number is.holds in
    let element : ℕ = element_of node.kind node is.slot in
    let place : ℕ = place_of_number node.kind node link.number in
    let led : leads_at old index element ≡ Some place = read_leads old index node is.kept is.node_there is.kept_there element ∙ held_leads node.kind node is.kept kind is.slot link.number is.holds in
    let leads_now : place_below node.kind node found.0 element ≡ Some place = sym (read_leads now index node found.0 at found.1 element) ∙ leads index element place led in
    record {
      node = node;
      kept = found.0;
      node_there = at;
      kept_there = found.1;
      slot = is.slot;
      holds = leads_held node.kind node is.kept found.0 kind is.slot link.number is.holds leads_now;
      is = is.is ∙ ap (λ (s : Shape). link_for s.nodes index node is.slot link.number) (sym same);
    }

pub cells_keep_links : (old now : StoreWords) → CellsKeepLinks old now
cells_keep_links old now was well keeps = links_grow old now was well keeps.same_shape keeps.same_leads

-- ── Each number has one ──

one_at : (nodes : List NodeShape) (words : List NodeWords) → AreOne place_below nodes words → (index : ℕ) (node : NodeShape) (kept : NodeWords) → slice_get nodes index ≡ Some node → slice_get words index ≡ Some kept → IsOne place_below node kept
one_at [] words are index node kept at has = absurd (none-some node at)
one_at (first ∷ later) [] are index node kept at has = absurd (none-some kept has)
one_at (first ∷ later) (own ∷ words) are zero node kept at has =
    subst (λ (f : NodeShape). IsOne place_below f kept) (same_Some first node at)
    (subst (λ (k : NodeWords). IsOne place_below first k) (same_Some own kept has) are.0)
one_at (first ∷ later) (own ∷ words) are (suc index) node kept at has = one_at later words are.1 index node kept at has

-- no two slots of a node hold the same number
pub slots_once : (store : StoreWords) → IsWellFormed store → (index : ℕ) (node : NodeShape) (kept : NodeWords) → slice_get store.shape.nodes index ≡ Some node → slice_get store.nodes index ≡ Some kept → (x y number : ℕ) → held_at node.kind node kept x ≡ Some number → held_at node.kind node kept y ≡ Some number → x ≡ y
slots_once store well index node kept at has x y number x_holds y_holds =
    let own = node_is store.shape.nodes store.nodes 1 is_root well.nodes_fit index node kept at has in
    let kind : IfDynamic node.kind node = held_kind node.kind node kept own.0 own.1 own.2 x number x_holds in
    let one : IsOne place_below node kept = one_at store.shape.nodes store.nodes (links_are_one store.shape.nodes store.nodes 1 is_root well.nodes_fit) index node kept at has in
    same_element node.kind node kind x y
    (one (element_of node.kind node x) (element_of node.kind node y) (place_of_number node.kind node number)
    (held_leads node.kind node kept kind x number x_holds) (held_leads node.kind node kept kind y number y_holds))

-- the link of a slot
pub link_of_slot : (store : StoreWords) (index : ℕ) (a b : LinkAt) (x : IsLink store index a) (y : IsLink store index b) → x.slot ≡ y.slot → a.number ≡ b.number → a ≡ b
link_of_slot store index a b x y same number =
    let node_is : x.node ≡ y.node = same_Some x.node y.node (sym x.node_there ∙ y.node_there) in
    x.is ∙ ap (λ (n : NodeShape). link_for store.shape.nodes index n x.slot a.number) node_is ∙ ap (λ s. link_for store.shape.nodes index y.node s a.number) same
    ∙ ap (λ m. link_for store.shape.nodes index y.node y.slot m) number ∙ sym y.is

-- what a slot holds, where the node is known by another reading of it
pub holds_again : (store : StoreWords) (index : ℕ) (link : LinkAt) (x : IsLink store index link) (node : NodeShape) (kept : NodeWords) → slice_get store.shape.nodes index ≡ Some node → slice_get store.nodes index ≡ Some kept → held_at node.kind node kept x.slot ≡ Some link.number
holds_again store index link x node kept at has =
    let node_is : x.node ≡ node = same_Some x.node node (sym x.node_there ∙ at) in
    let kept_is : x.kept ≡ kept = same_Some x.kept kept (sym x.kept_there ∙ has) in
    sym (ap (λ (n : NodeShape). held_at n.kind n x.kept x.slot) node_is ∙ ap (λ (k : NodeWords). held_at node.kind node k x.slot) kept_is) ∙ x.holds

pub links_once : (store : StoreWords) → IsWellFormed store → (index : ℕ) (a b : LinkAt) → IsLink store index a → IsLink store index b → a.number ≡ b.number → a ≡ b
links_once store well index a b x y same =
    link_of_slot store index a b x y
    (slots_once store well index y.node y.kept y.node_there y.kept_there x.slot y.slot b.number
    (holds_again store index a x y.node y.kept y.node_there y.kept_there ∙ ap (λ m. Some m) same) y.holds) same

pub grown_are_kept : (old now : StoreWords) → GrownAreKept old now
grown_are_kept old now well grows index before after was is same = links_once now well index before after (grows index before was) is same

pub shrunk_are_kept : (old now : StoreWords) → ShrunkAreKept old now
shrunk_are_kept old now well grows index before after was is same = links_once old well index before after was (grows index after is) same
