-- A walk that goes one step further, and where its places and numbers end.
use Rattle.std.proofs.Common.{◌≡◌, ℕ, zero, suc, ◌+◌, ◌*◌, ◌^◌, ◌<◌, Bool, true, false, List, [], ◌∷◌, ◌++◌, length, get_or, refl, sym, ap, ◌∙◌, arith}
use Rattle.std.specs.Prelude.{Option, Some, None, option_and_then, slice_get, slice_index}
use Rattle.std.specs.Option.{option_map}
use Rattle.std.proofs.lemmas.Nat.{mul-add-lt}
use Rattle.std.proofs.lemmas.Option.{none-some, same_Some, option_and_then_some, get_or_from_slice_get}
use Rattle.sg_layout.specs.declared.shape.Kind.{Kind}
use Rattle.sg_layout.specs.declared.shape.Kind.TheVariants.{Dense, Bitmasked, Pointer, Hash, Dynamic}
use Rattle.sg_layout.specs.declared.shape.NodeShape.{NodeShape}
use Rattle.sg_layout.specs.Axes.{count_of, size_of, sizes_of}
use Rattle.sg_pool.specs.Numbers.{is_live_number}
use Rattle.sg_pool.proofs.Uses.{live_is_number}
use Rattle.sg_store.specs.declared.node.NodeWords.{NodeWords}
use Rattle.sg_store.specs.StoreWords.{StoreWords}
use Rattle.sg_store.specs.Slots.{slot_under, place_below, active_below}
use Rattle.sg_store.specs.Walks.{NodeStep, place_after, own_answer}
use Rattle.sg_store.specs.WellFormed.{IsPointerNode, IsNode, by_slots, places_below, AreNodes, is_root, cells_below}
use Rattle.sg_store.specs.steps.AtNode.{AtNode, AtNodeOf}
use Rattle.sg_store.specs.steps.Walking.{AreOffsets, IsPlaceAt, step_of_walk}
use Rattle.sg_store.proofs.BySlots.{hash_leads}
use Rattle.sg_store.proofs.Chains.{chunks_within}
use Rattle.sg_store.proofs.Walking.{linked_is, index_contains, active_leads}

-- the walk over one offset more, at the node with an index
pub step_more : (step : NodeStep) (nodes : List NodeShape) (words : List NodeWords) (i : ℕ) (node : NodeShape) (kept : NodeWords) → slice_get nodes i ≡ Some node → slice_get words i ≡ Some kept → (p : ℕ) (s : List ℕ) (o : ℕ) → length s ≡ i → place_after step nodes words p (s ++ o ∷ []) ≡ option_and_then (λ x. step node.kind node kept (slot_under node x o)) (place_after step nodes words p s)
step_more step [] words i node kept at has p s o long = absurd (none-some node at)
step_more step (first ∷ later) [] i node kept at has p s o long = absurd (none-some kept has)
step_more step (first ∷ later) (own ∷ words) zero node kept at has p [] o long =
    let a : first ≡ node = same_Some first node at in
    let b : own ≡ kept = same_Some own kept has in
    one (step first.kind first own (slot_under first p o))
    ∙ ap (λ (n : NodeShape). step n.kind n own (slot_under n p o)) a ∙ ap (λ k. step node.kind node k (slot_under node p o)) b
  where
    one : (below : Option ℕ) → option_and_then (λ next. place_after step later words next []) below ≡ below
    one None = refl
    one (Some n) = refl
step_more step (first ∷ later) (own ∷ words) (suc i) node kept at has p [] o long = absurd (omega (arith, long))
step_more step (first ∷ later) (own ∷ words) zero node kept at has p (v ∷ s) o long = absurd (omega (arith, long))
step_more step (first ∷ later) (own ∷ words) (suc i) node kept at has p (v ∷ s) o long =
    same (step first.kind first own (slot_under first p v)) (λ n. step_more step later words i node kept at has n s o (omega (arith, long)))
  where
    same : (below : Option ℕ) → ((n : ℕ) → place_after step later words n (s ++ o ∷ []) ≡ option_and_then (λ x. step node.kind node kept (slot_under node x o)) (place_after step later words n s)) → option_and_then (λ n. place_after step later words n (s ++ o ∷ [])) below ≡ option_and_then (λ x. step node.kind node kept (slot_under node x o)) (option_and_then (λ n. place_after step later words n s) below)
    same None h = refl
    same (Some n) h = h n

-- what a slot's own node answers, from the place of the container that holds the slot
pub answer_more : {A : Type 0} → (f : Kind → NodeShape → NodeWords → ℕ → A) (nodes : List NodeShape) (words : List NodeWords) (i : ℕ) (node : NodeShape) (kept : NodeWords) → slice_get nodes i ≡ Some node → slice_get words i ≡ Some kept → (p : ℕ) (s : List ℕ) (o : ℕ) → length s ≡ i → own_answer f nodes words p (s ++ o ∷ []) ≡ option_map (λ x. f node.kind node kept (slot_under node x o)) (place_after place_below nodes words p s)
answer_more f [] words i node kept at has p s o long = absurd (none-some node at)
answer_more f (first ∷ later) [] i node kept at has p s o long = absurd (none-some kept has)
answer_more f (first ∷ later) (own ∷ words) zero node kept at has p [] o long =
    let a : first ≡ node = same_Some first node at in
    let b : own ≡ kept = same_Some own kept has in
    ap (λ (n : NodeShape). Some (f n.kind n own (slot_under n p o))) a ∙ ap (λ k. Some (f node.kind node k (slot_under node p o))) b
answer_more f (first ∷ later) (own ∷ words) (suc i) node kept at has p [] o long = absurd (omega (arith, long))
answer_more f (first ∷ later) (own ∷ words) zero node kept at has p (v ∷ s) o long = absurd (omega (arith, long))
answer_more {A} f (first ∷ later) (own ∷ words) (suc i) node kept at has p (v ∷ s) o long =
    grow s ∙ same (place_below first.kind first own (slot_under first p v)) (λ n. answer_more f later words i node kept at has n s o (omega (arith, long)))
  where
    grow : (t : List ℕ) → own_answer f (first ∷ later) (own ∷ words) p ((v ∷ t) ++ o ∷ []) ≡ option_and_then (λ n. own_answer f later words n (t ++ o ∷ [])) (place_below first.kind first own (slot_under first p v))
    grow [] = refl
    grow (u ∷ t) = refl

    same : (below : Option ℕ) → ((n : ℕ) → own_answer f later words n (s ++ o ∷ []) ≡ option_map (λ x. f node.kind node kept (slot_under node x o)) (place_after place_below later words n s)) → option_and_then (λ n. own_answer f later words n (s ++ o ∷ [])) below ≡ option_map (λ x. f node.kind node kept (slot_under node x o)) (option_and_then (λ n. place_after place_below later words n s) below)
    same None h = refl
    same (Some n) h = h n

-- a walk that ends leads nowhere however it goes on
pub step_none : (step : NodeStep) (nodes : List NodeShape) (words : List NodeWords) (p : ℕ) (s t : List ℕ) → place_after step nodes words p s ≡ None → place_after step nodes words p (s ++ t) ≡ None
step_none step nodes words p [] t none = absurd (cc)
step_none step [] words p (v ∷ s) t none = refl
step_none step (node ∷ later) [] p (v ∷ s) t none = refl
step_none step (node ∷ later) (kept ∷ words) p (v ∷ s) t none =
    same (step node.kind node kept (slot_under node p v)) (λ n. step_none step later words n s t) none
  where
    same : (below : Option ℕ) → ((n : ℕ) → place_after step later words n s ≡ None → place_after step later words n (s ++ t) ≡ None) → option_and_then (λ n. place_after step later words n s) below ≡ None → option_and_then (λ n. place_after step later words n (s ++ t)) below ≡ None
    same None h e = refl
    same (Some n) h e = h n e

-- what active slots lead to, links lead to
pub links_lead : (nodes : List NodeShape) (words : List NodeWords) (p : ℕ) (s : List ℕ) (x : ℕ) → place_after active_below nodes words p s ≡ Some x → place_after place_below nodes words p s ≡ Some x
links_lead nodes words p [] x e = e
links_lead [] words p (v ∷ s) x e = e
links_lead (node ∷ later) [] p (v ∷ s) x e = e
links_lead (node ∷ later) (kept ∷ words) p (v ∷ s) x e =
    option_and_then_some _ _ x e (λ n here rest.
    ap (option_and_then (λ next. place_after place_below later words next s)) (active_leads node.kind node kept (slot_under node p v) n here).1
    ∙ links_lead later words n s x rest)

pub either_leads : (bits : Bool) (nodes : List NodeShape) (words : List NodeWords) (p : ℕ) (s : List ℕ) (x : ℕ) → place_after (step_of_walk bits) nodes words p s ≡ Some x → place_after place_below nodes words p s ≡ Some x
either_leads true nodes words p s x e = links_lead nodes words p s x e
either_leads false nodes words p s x e = e

-- ── Places are within their numbers ──

pointer_within : (node : NodeShape) (kept : NodeWords) (slots : ℕ) (live : ℕ → Bool) → IsPointerNode node kept slots live → (q n : ℕ) → place_below Pointer node kept q ≡ Some n → n < count_of node.cap + 17
pointer_within node kept slots live is q n e =
    let alive : is_live_number kept.pool n ≡ true = (is.live_linked n).1 (index_contains kept.links q n (linked_is (slice_index kept.links q) n e)) in
    omega (arith, live_is_number kept.pool n alive, is.places)

pub leads_within : (kind : Kind) (node : NodeShape) (kept : NodeWords) (slots : ℕ) (live : ℕ → Bool) → IsNode kind node kept slots live → (q n : ℕ) → q < slots → place_below kind node kept q ≡ Some n → n < places_below kind node slots
leads_within Dense node kept slots live is q n below e = let same : q ≡ n = same_Some q n e in omega arith
leads_within Bitmasked node kept slots live is q n below e = let same : q ≡ n = same_Some q n e in omega arith
leads_within Pointer node kept slots live is q n below e = pointer_within node kept slots live is q n e
leads_within Hash node kept slots live is q n below e =
    pointer_within node (by_slots kept slots) slots live is.as_pointer q n (sym (hash_leads node kept slots live is q) ∙ e)
leads_within Dynamic node kept slots live is q n below e = chunks_within node kept slots live is q n e

pub place_fits : (nodes : List NodeShape) (words : List NodeWords) (places : ℕ) (live : ℕ → Bool) → AreNodes nodes words places live → (p : ℕ) → p < places → (s : List ℕ) → AreOffsets nodes s → (x : ℕ) → place_after place_below nodes words p s ≡ Some x → length s < length nodes → AtNode (IsPlaceAt x) nodes words places live (length s)
place_fits [] words places live are p within s ins x e more = absurd (omega (arith, more))
place_fits (node ∷ later) [] places live are p within s ins x e more = absurd are
place_fits (node ∷ later) (kept ∷ words) places live are p within [] ins x e more = record {
  under = λ o below. omega (arith, mul-add-lt p (size_of node.sizes) o places within below, ap (λ n. n * size_of node.sizes) (same_Some p x e));
  few = are.0;
}
place_fits (node ∷ later) (kept ∷ words) places live are p within (v ∷ s) ins x e more =
    option_and_then_some _ _ x e (λ n here rest.
    place_fits later words _ _ are.2 n (leads_within node.kind node kept _ _ are.1 (slot_under node p v) n (omega (arith, mul-add-lt p (size_of node.sizes) v places within ins.0)) here) s ins.1 x rest (omega (arith, more)))

-- and a place below all nodes is a cell
pub cell_within : (nodes : List NodeShape) (words : List NodeWords) (places : ℕ) (live : ℕ → Bool) → AreNodes nodes words places live → (p : ℕ) → p < places → (s : List ℕ) → AreOffsets nodes s → (x : ℕ) → place_after place_below nodes words p s ≡ Some x → length s ≡ length nodes → x < cells_below nodes places
cell_within [] words places live are p within [] ins x e long = omega (arith, same_Some p x e)
cell_within [] words places live are p within (v ∷ s) ins x e long = absurd ins
cell_within (node ∷ later) [] places live are p within s ins x e long = absurd are
cell_within (node ∷ later) (kept ∷ words) places live are p within [] ins x e long = absurd (omega (arith, long))
cell_within (node ∷ later) (kept ∷ words) places live are p within (v ∷ s) ins x e long =
    option_and_then_some _ _ x e (λ n here rest.
    cell_within later words _ _ are.2 n (leads_within node.kind node kept _ _ are.1 (slot_under node p v) n (omega (arith, mul-add-lt p (size_of node.sizes) v places within ins.0)) here) s ins.1 x rest (omega (arith, long)))

-- ── Numbers that the code computes ──

pub size_at : (nodes : List NodeShape) (i : ℕ) (node : NodeShape) → slice_get nodes i ≡ Some node → slice_index (sizes_of nodes) i ≡ size_of node.sizes
size_at [] i node at = absurd (none-some node at)
size_at (first ∷ later) zero node at = ap (λ (n : NodeShape). size_of n.sizes) (same_Some first node at)
size_at (first ∷ later) (suc i) node at = size_at later i node at

-- a slot's number is far below what a machine number holds
pub room : (store : StoreWords) (i place o : ℕ) → AtNodeOf (IsPlaceAt place) store i → o < slice_index (sizes_of store.shape.nodes) i → place * slice_index (sizes_of store.shape.nodes) i + o < 2 ^ 47
room store i place o here below = at_room store.shape.nodes store.nodes 1 is_root i place o here below
  where
    at_room : (nodes : List NodeShape) (words : List NodeWords) (places : ℕ) (live : ℕ → Bool) (i place o : ℕ) → AtNode (IsPlaceAt place) nodes words places live i → o < slice_index (sizes_of nodes) i → place * slice_index (sizes_of nodes) i + o < 2 ^ 47
    at_room [] words places live i place o here below = absurd here
    at_room (node ∷ later) [] places live i place o here below = absurd here
    at_room (node ∷ later) (kept ∷ words) places live zero place o here below = omega (arith, here.under o below, here.few)
    at_room (node ∷ later) (kept ∷ words) places live (suc i) place o here below = at_room later words _ _ i place o here below

pub words_many : (nodes : List NodeShape) (words : List NodeWords) (places : ℕ) (live : ℕ → Bool) → AreNodes nodes words places live → length words ≡ length nodes
words_many [] [] places live are = refl
words_many [] (kept ∷ words) places live are = absurd are
words_many (node ∷ later) [] places live are = absurd are
words_many (node ∷ later) (kept ∷ words) places live are = ap suc (words_many later words _ _ are.2)

-- what is read at an index is what is there
pub read_as : {A : Type 0} → (xs ys : List A) (i : ℕ) (x y : A) → xs ≡ ys → x ≡ get_or xs i x → slice_get ys i ≡ Some y → x ≡ y
read_as xs ys i x y same is at = is ∙ ap (λ l. get_or l i x) same ∙ get_or_from_slice_get ys i y x at

pub step_same : (bits : Bool) (n m : NodeShape) (k l : NodeWords) (place size o : ℕ) → n ≡ m → k ≡ l → size ≡ size_of m.sizes → step_of_walk bits n.kind n k (place * size + o) ≡ step_of_walk bits m.kind m l (slot_under m place o)
step_same bits n m k l place size o a b c =
    ap (λ (n : NodeShape). step_of_walk bits n.kind n k (place * size + o)) a ∙ ap (λ k. step_of_walk bits m.kind m k (place * size + o)) b
    ∙ ap (λ z. step_of_walk bits m.kind m l (place * z + o)) c
