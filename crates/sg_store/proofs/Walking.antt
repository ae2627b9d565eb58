-- Walks down the nodes: different slots lead to different places, and nothing is on below a place that isn't live.
use Rattle.std.proofs.Common.{◌≡◌, ◌≢◌, ℕ, zero, suc, ◌-◌, ◌*◌, ◌<◌, Bool, true, false, not, List, [], ◌∷◌, length, refl, sym, ap, ◌∙◌, subst, arith, cond}
use Rattle.std.specs.Prelude.{Option, Some, None, option_and_then, unwrap_or, slice_get, slice_index, ◌==◌}
use Rattle.std.specs.List.{Contains}
use Rattle.std.proofs.lemmas.Bool.{false≢true}
use Rattle.std.proofs.lemmas.Nat.{same_from_place, div-mul-add}
use Rattle.std.proofs.lemmas.Option.{none-some, same_Some, option_and_then_some}
use Rattle.sg_layout.specs.declared.shape.Kind.{Kind}
use Rattle.sg_layout.specs.declared.shape.Kind.TheVariants.{Dense, Bitmasked, Pointer, Hash, Dynamic}
use Rattle.sg_layout.specs.declared.shape.NodeShape.{NodeShape}
use Rattle.sg_layout.specs.Axes.{size_of}
use Rattle.sg_layout.specs.Live.{kind_or, kind_at}
use Rattle.sg_store.specs.declared.node.NodeWords.{NodeWords}
use Rattle.sg_store.specs.Slots.{slot_under, linked, is_set, place_below, active_below}
use Rattle.sg_store.specs.Walks.{NodeStep, place_after, own_answer, slot_number_in, is_on}
use Rattle.sg_store.specs.WellFormed.{IsPointerNode, IsNode, by_slots, live_below, live_slot, AreNodes}
use Rattle.sg_store.specs.steps.Walking.{AreOffsets}
use Rattle.sg_store.proofs.BySlots.{hash_leads, hash_set}
use Rattle.sg_store.proofs.Chains.{chunks_one}

-- ── One node ──

pub linked_is : (word number : ℕ) → linked word ≡ Some number → word ≡ suc number
linked_is zero number e = absurd (none-some number e)
linked_is (suc n) number e = ap suc (same_Some n number e)

pub linked_some : (word number : ℕ) → word ≡ suc number → linked word ≡ Some number
linked_some zero number e = cc
linked_some (suc n) number e = ap Some (cc)

-- a number of a list that isn't 0 is in it
pub index_contains : (xs : List ℕ) (i n : ℕ) → slice_index xs i ≡ suc n → Contains xs (suc n)
index_contains [] i n e = cc
index_contains (x ∷ xs) zero n e = (zero, omega arith, e)
index_contains (x ∷ xs) (suc i) n e = let found = index_contains xs i n e in (suc found.0, omega (arith, found.1), found.2)

-- what leads on along active slots leads on by links
pub active_leads : (kind : Kind) (node : NodeShape) (kept : NodeWords) (slot place : ℕ) → active_below kind node kept slot ≡ Some place → (is_set kind node kept slot ≡ true) × (place_below kind node kept slot ≡ Some place)
active_leads kind node kept slot place e =
    split (is_set kind node kept slot) (place_below kind node kept slot) e
  where
    split : (b : Bool) (o : Option ℕ) → cond b o None ≡ Some place → (b ≡ true) × (o ≡ Some place)
    split true o e = (refl, e)
    split false o e = absurd (none-some place e)

-- a step leads from different slots to different places
abbrev pub IsOne : NodeStep → NodeShape → NodeWords → Type 0
IsOne step node kept = (x y place : ℕ) → step node.kind node kept x ≡ Some place → step node.kind node kept y ≡ Some place → x ≡ y

pointer_one : (node : NodeShape) (kept : NodeWords) (slots : ℕ) (live : ℕ → Bool) → IsPointerNode node kept slots live → (x y place : ℕ) → place_below Pointer node kept x ≡ Some place → place_below Pointer node kept y ≡ Some place → x ≡ y
pointer_one node kept slots live is x y place p q =
    let left = linked_is (slice_index kept.links x) place p in
    let right = linked_is (slice_index kept.links y) place q in
    is.once x y (λ none. cc) (left ∙ sym right)

links_one : (kind : Kind) (node : NodeShape) (kept : NodeWords) (slots : ℕ) (live : ℕ → Bool) → IsNode kind node kept slots live → (x y place : ℕ) → place_below kind node kept x ≡ Some place → place_below kind node kept y ≡ Some place → x ≡ y
links_one Dense node kept slots live is x y place p q = same_Some x place p ∙ sym (same_Some y place q)
links_one Bitmasked node kept slots live is x y place p q = same_Some x place p ∙ sym (same_Some y place q)
links_one Pointer node kept slots live is x y place p q = pointer_one node kept slots live is x y place p q
links_one Hash node kept slots live is x y place p q =
    pointer_one node (by_slots kept slots) slots live is.as_pointer x y place
    (sym (hash_leads node kept slots live is x) ∙ p) (sym (hash_leads node kept slots live is y) ∙ q)
links_one Dynamic node kept slots live is x y place p q = chunks_one node kept slots live is x y place p q

active_one : (kind : Kind) (node : NodeShape) (kept : NodeWords) (slots : ℕ) (live : ℕ → Bool) → IsNode kind node kept slots live → (x y place : ℕ) → active_below kind node kept x ≡ Some place → active_below kind node kept y ≡ Some place → x ≡ y
active_one kind node kept slots live is x y place p q =
    links_one kind node kept slots live is x y place (active_leads kind node kept x place p).1 (active_leads kind node kept y place q).1

-- a node among well-formed ones is so
pub node_is : (nodes : List NodeShape) (words : List NodeWords) (places : ℕ) (live : ℕ → Bool) → AreNodes nodes words places live → (i : ℕ) (node : NodeShape) (kept : NodeWords) → slice_get nodes i ≡ Some node → slice_get words i ≡ Some kept → (slots : ℕ) × (own : ℕ → Bool) × IsNode node.kind node kept slots own
node_is [] words places live are i node kept at has = absurd (none-some node at)
node_is (first ∷ later) [] places live are i node kept at has = absurd (none-some kept has)
node_is (first ∷ later) (own ∷ words) places live are zero node kept at has =
    let n : ℕ = places * size_of first.sizes in (
      n,
      live_slot first live,
      subst (λ (f : NodeShape). IsNode f.kind f kept n (live_slot first live)) (same_Some first node at)
          (subst (λ (k : NodeWords). IsNode first.kind first k n (live_slot first live)) (same_Some own kept has) are.1),
    )
node_is (first ∷ later) (own ∷ words) places live are (suc i) node kept at has = node_is later words _ _ are.2 i node kept at has

-- ── Different slots lead to different places ──

-- the steps of all nodes do so
abbrev pub AreOne : NodeStep → List NodeShape → List NodeWords → Type 0
AreOne step [] words = Unit {0}
AreOne step (node ∷ later) [] = Unit {0}
AreOne step (node ∷ later) (kept ∷ words) = IsOne step node kept × AreOne step later words

pub links_are_one : (nodes : List NodeShape) (words : List NodeWords) (places : ℕ) (live : ℕ → Bool) → AreNodes nodes words places live → AreOne place_below nodes words
links_are_one [] words places live are = tt
links_are_one (node ∷ later) [] places live are = tt
links_are_one (node ∷ later) (kept ∷ words) places live are =
    (links_one node.kind node kept _ _ are.1, links_are_one later words _ _ are.2)

pub active_are_one : (nodes : List NodeShape) (words : List NodeWords) (places : ℕ) (live : ℕ → Bool) → AreNodes nodes words places live → AreOne active_below nodes words
active_are_one [] words places live are = tt
active_are_one (node ∷ later) [] places live are = tt
active_are_one (node ∷ later) (kept ∷ words) places live are =
    (active_one node.kind node kept _ _ are.1, active_are_one later words _ _ are.2)

same_slots : (x y : ℕ) (s t : List ℕ) → x ≡ y → s ≡ t → x ∷ s ≡ y ∷ t
same_slots x y s t p q = ap (λ n. n ∷ s) p ∙ ap (λ l. y ∷ l) q

-- the same place, from slots as long: the same start and the same slot
pub walks_apart : (step : NodeStep) (nodes : List NodeShape) (words : List NodeWords) → AreOne step nodes words → (p q : ℕ) (s t : List ℕ) (x : ℕ) → AreOffsets nodes s → AreOffsets nodes t → length s ≡ length t → place_after step nodes words p s ≡ Some x → place_after step nodes words q t ≡ Some x → (p ≡ q) × (s ≡ t)
walks_apart step nodes words one p q [] [] x ins int long left right = (same_Some p x left ∙ sym (same_Some q x right), refl)
walks_apart step nodes words one p q [] (r ∷ t) x ins int long left right = absurd (omega (arith, long))
walks_apart step nodes words one p q (o ∷ s) [] x ins int long left right = absurd (omega (arith, long))
walks_apart step [] words one p q (o ∷ s) (r ∷ t) x ins int long left right = absurd (none-some x left)
walks_apart step (node ∷ later) [] one p q (o ∷ s) (r ∷ t) x ins int long left right = absurd (none-some x left)
walks_apart step (node ∷ later) (kept ∷ words) one p q (o ∷ s) (r ∷ t) x ins int long left right =
    option_and_then_some _ _ x left (λ n here rest.
    option_and_then_some _ _ x right (λ m there last.
    let below = walks_apart step later words one.1 n m s t x ins.1 int.1 (omega (arith, long)) rest last in
    let same : slot_under node p o ≡ slot_under node q r = one.0 _ _ m (here ∙ ap Some below.0) there in
    let parts = same_from_place p o q r (size_of node.sizes) ins.0 int.0 same in
    (parts.0, same_slots o r s t parts.1 below.1)))

-- the same number at their own node
pub numbers_apart : (nodes : List NodeShape) (words : List NodeWords) → AreOne place_below nodes words → (p q : ℕ) (s t : List ℕ) (x : ℕ) → AreOffsets nodes s → AreOffsets nodes t → length s ≡ length t → slot_number_in nodes words p s ≡ Some x → slot_number_in nodes words q t ≡ Some x → (p ≡ q) × (s ≡ t)
numbers_apart nodes words one p q [] t x ins int long left right = absurd (none-some x left)
numbers_apart nodes words one p q (o ∷ s) [] x ins int long left right = absurd (omega (arith, long))
numbers_apart [] words one p q (o ∷ s) (r ∷ t) x ins int long left right = absurd (none-some x left)
numbers_apart (node ∷ later) [] one p q (o ∷ s) (r ∷ t) x ins int long left right = absurd (none-some x left)
numbers_apart (node ∷ later) (kept ∷ words) one p q (o ∷ []) (r ∷ []) x ins int long left right =
    let same : slot_under node p o ≡ slot_under node q r = same_Some _ x left ∙ sym (same_Some _ x right) in
    let parts = same_from_place p o q r (size_of node.sizes) ins.0 int.0 same in
    (parts.0, ap (λ n. n ∷ []) parts.1)
numbers_apart (node ∷ later) (kept ∷ words) one p q (o ∷ []) (r ∷ (u ∷ t)) x ins int long left right = absurd (omega (arith, long))
numbers_apart (node ∷ later) (kept ∷ words) one p q (o ∷ (v ∷ s)) (r ∷ []) x ins int long left right = absurd (omega (arith, long))
numbers_apart (node ∷ later) (kept ∷ words) one p q (o ∷ (v ∷ s)) (r ∷ (u ∷ t)) x ins int long left right =
    option_and_then_some _ _ x left (λ n here rest.
    option_and_then_some _ _ x right (λ m there last.
    let below = numbers_apart later words one.1 n m (v ∷ s) (u ∷ t) x ins.1 int.1 (omega (arith, long)) rest last in
    let same : slot_under node p o ≡ slot_under node q r = one.0 _ _ m (here ∙ ap Some below.0) there in
    let parts = same_from_place p o q r (size_of node.sizes) ins.0 int.0 same in
    (parts.0, same_slots o r (v ∷ s) (u ∷ t) parts.1 below.1)))

-- ── A slot's own node ──

-- its kind; Dense if there is no such slot
abbrev pub own_kind : List NodeShape → List ℕ → Kind
own_kind nodes [] = Dense
own_kind [] (o ∷ s) = Dense
own_kind (node ∷ later) (o ∷ []) = node.kind
own_kind (node ∷ later) (o ∷ (v ∷ s)) = own_kind later (v ∷ s)

kind_past : (node : NodeShape) (later : List NodeShape) (n : ℕ) → kind_at (node ∷ later) (suc (suc n)) ≡ kind_at later (suc n)
kind_past node later n =
    let one : suc (suc n) - 1 ≡ suc n = omega arith in
    let two : suc n - 1 ≡ n = omega arith in
    ap (λ k. kind_or (slice_get (node ∷ later) k)) one ∙ ap (λ k. kind_or (slice_get later k)) (sym two)

pub own_kind_is : (nodes : List NodeShape) (o : ℕ) (s : List ℕ) → own_kind nodes (o ∷ s) ≡ kind_at nodes (length (o ∷ s))
own_kind_is [] o s = refl
own_kind_is (node ∷ later) o [] = refl
own_kind_is (node ∷ later) o (v ∷ s) = own_kind_is later v s ∙ sym (kind_past node later (length s))

-- ── Nothing is on below a place that isn't live ──

not_live_slot : (node : NodeShape) (live : ℕ → Bool) (p o : ℕ) → o < size_of node.sizes → live_slot node live (slot_under node p o) ≡ live p
not_live_slot node live p o below = ap live (div-mul-add p (size_of node.sizes) o below)

pointer_set_live : (node : NodeShape) (kept : NodeWords) (slots : ℕ) (live : ℕ → Bool) → IsPointerNode node kept slots live → (q : ℕ) → is_set Pointer node kept q ≡ true → live q ≡ true
pointer_set_live node kept slots live is q on = is.in_live q (λ none. absurd (false≢true (sym (ap (λ n. not (n == 0)) none) ∙ on)))

pointer_dead : (node : NodeShape) (kept : NodeWords) (slots : ℕ) (live : ℕ → Bool) → IsPointerNode node kept slots live → (q n : ℕ) → live q ≡ false → place_below Pointer node kept q ≡ Some n → ⊥
pointer_dead node kept slots live is q n dead e = false≢true (sym dead ∙ is.in_live q (λ none. cc (linked_is (slice_index kept.links q) n e)))

-- a slot that is set is in a live container
pub set_is_live : (kind : Kind) (node : NodeShape) (kept : NodeWords) (slots : ℕ) (live : ℕ → Bool) → IsNode kind node kept slots live → kind ≢ Dense → (q : ℕ) → is_set kind node kept q ≡ true → live q ≡ true
set_is_live Dense node kept slots live is other q on = absurd (other refl)
set_is_live Bitmasked node kept slots live is other q on = is.in_live q on
set_is_live Pointer node kept slots live is other q on = pointer_set_live node kept slots live is q on
set_is_live Hash node kept slots live is other q on =
    pointer_set_live node (by_slots kept slots) slots live is.as_pointer q (sym (hash_set node kept slots live is q) ∙ on)
set_is_live Dynamic node kept slots live is other q on = is.in_live q on

-- a slot that leads on from a place that isn't live leads to one that isn't
dead_below : (kind : Kind) (node : NodeShape) (kept : NodeWords) (slots : ℕ) (live : ℕ → Bool) → IsNode kind node kept slots live → (q n : ℕ) → live q ≡ false → place_below kind node kept q ≡ Some n → live_below kind kept live n ≡ false
dead_below Dense node kept slots live is q n dead e = sym (ap live (same_Some q n e)) ∙ dead
dead_below Bitmasked node kept slots live is q n dead e = sym (ap live (same_Some q n e)) ∙ dead
dead_below Pointer node kept slots live is q n dead e = absurd (pointer_dead node kept slots live is q n dead e)
dead_below Hash node kept slots live is q n dead e =
    absurd (pointer_dead node (by_slots kept slots) slots live is.as_pointer q n dead (sym (hash_leads node kept slots live is q) ∙ e))
dead_below Dynamic node kept slots live is q n dead e = refl

not_set : (kind : Kind) (node : NodeShape) (kept : NodeWords) (slots : ℕ) (live : ℕ → Bool) → IsNode kind node kept slots live → kind ≢ Dense → (q : ℕ) → live q ≡ false → is_set kind node kept q ≡ false
not_set kind node kept slots live is other q dead = split (is_set kind node kept q) (set_is_live kind node kept slots live is other q)
  where
    split : (b : Bool) → (b ≡ true → live q ≡ true) → b ≡ false
    split true h = absurd (false≢true (sym dead ∙ h refl))
    split false h = refl

pub off_below_dead : (nodes : List NodeShape) (words : List NodeWords) (places : ℕ) (live : ℕ → Bool) → AreNodes nodes words places live → (p : ℕ) → live p ≡ false → (s : List ℕ) → AreOffsets nodes s → own_kind nodes s ≢ Dense → is_on nodes words p s ≡ false
off_below_dead nodes words places live are p dead [] ins other = refl
off_below_dead [] words places live are p dead (o ∷ s) ins other = absurd ins
off_below_dead (node ∷ later) [] places live are p dead (o ∷ s) ins other = refl
off_below_dead (node ∷ later) (kept ∷ words) places live are p dead (o ∷ []) ins other =
    not_set node.kind node kept _ _ are.1 other (slot_under node p o) (not_live_slot node live p o ins.0 ∙ dead)
off_below_dead (node ∷ later) (kept ∷ words) places live are p dead (o ∷ (v ∷ s)) ins other =
    let q : ℕ = slot_under node p o in
    split (place_below node.kind node kept q) (λ n e. off_below_dead later words _ _ are.2 n
    (dead_below node.kind node kept _ _ are.1 q n (not_live_slot node live p o ins.0 ∙ dead) e) (v ∷ s) ins.1 other)
  where
    split : (below : Option ℕ) → ((n : ℕ) → below ≡ Some n → is_on later words n (v ∷ s) ≡ false) → unwrap_or (option_and_then (λ under. own_answer is_set later words under (v ∷ s)) below) false ≡ false
    split None h = refl
    split (Some n) h = h n refl
