-- Walks down nodes that are trimmed: what leads to a cell that is kept still does, and what is on leads to one.
use Rattle.std.proofs.Common.{◌≡◌, ◌≢◌, ℕ, ◌+◌, ◌-◌, ◌/◌, ◌%◌, ◌<◌, ◌≤◌, Bool, true, false, ◌&&◌, cond, List, [], ◌∷◌, length, take, Option, Some, None, option_and_then, refl, sym, ap, ◌∙◌, arith}
use Rattle.std.specs.Prelude.{unwrap_or, nat_lt, ◌==◌, slice_index}
use Rattle.std.specs.Str.{bytes_eq}
use Rattle.std.specs.List.{All}
use Rattle.std.specs.Cmp.Lexicographic.{bytes_decides}
use Rattle.std.proofs.lemmas.Bool.{false≢true, and_parts, and_from, eqb-true, eq-eqb, leb-true, le-leb}
use Rattle.std.proofs.lemmas.Bool.Decides.{nat_tests}
use Rattle.std.proofs.lemmas.List.Elements.{All-head, All-tail}
use Rattle.std.proofs.lemmas.Nat.{div-mul-add, mod-mul-add}
use Rattle.std.proofs.lemmas.Option.{none-some, option_and_then_some}
use Rattle.sg_layout.specs.declared.shape.Kind.{Kind}
use Rattle.sg_layout.specs.declared.shape.Kind.TheVariants.{Dense, Bitmasked, Pointer, Hash, Dynamic}
use Rattle.sg_layout.specs.declared.shape.NodeShape.{NodeShape}
use Rattle.sg_layout.specs.Axes.{size_of}
use Rattle.sg_layout.specs.Live.{is_at_or_below, makes_live}
use Rattle.sg_layout.specs.Slots.{IsSlot}
use Rattle.sg_store.specs.declared.node.NodeWords.{NodeWords}
use Rattle.sg_store.specs.Slots.{slot_under, is_set, place_below, active_below, below_length}
use Rattle.sg_store.specs.Walks.{place_after, own_answer, is_on}
use Rattle.sg_store.specs.steps.Walking.{AreOffsets}
use Rattle.sg_store.specs.steps.Trimming.{is_kept, leads_kept, kept_above, stays_set, TrimsNode, AreTrimmed}
use Rattle.sg_store.proofs.Walking.{active_leads, own_kind}
use Rattle.sg_store.proofs.Stepping.{links_lead}
use Rattle.sg_store.proofs.KeptPlaces.{range_from_any, any_in_range, kept_leads, leads_keep, kept_some}
use Rattle.sg_store.proofs.TrimmedNodes.{leads_stays}

-- each node has slots
abbrev pub AreSized : List NodeShape → Type 0
AreSized nodes = All (λ (node : NodeShape). 1 ≤ size_of node.sizes) nodes

-- ── One step ──

and_both : (a b : Bool) → a ≡ true → b ≡ true → (a && b) ≡ true
and_both a b p q = ap (λ x. x && b) p ∙ q

active_by : (kind : Kind) (node : NodeShape) (kept : NodeWords) (q : ℕ) (n : ℕ) → is_set kind node kept q ≡ true → place_below kind node kept q ≡ Some n → active_below kind node kept q ≡ Some n
active_by kind node kept q n set leads = ap (λ b. cond b (place_below kind node kept q) None) set ∙ leads

-- a slot that leads to a kept place still leads there
step_stays : (keeps : ℕ → Bool) (node : NodeShape) (kept after : NodeWords) (q n : ℕ) → 1 ≤ size_of node.sizes → TrimsNode (stays_set node.kind keeps node kept) node kept after → active_below node.kind node kept q ≡ Some n → keeps n ≡ true → active_below node.kind node after q ≡ Some n
step_stays keeps node kept after q n some trims leads on =
    let both = active_leads node.kind node kept q n leads in
    let stays : stays_set node.kind keeps node kept q ≡ true = leads_stays node.kind keeps node kept q some (ap (is_kept keeps) leads ∙ on) in
    active_by node.kind node after q n (trims.set q ∙ and_both (is_set node.kind node kept q) (stays_set node.kind keeps node kept q) both.0 stays) (trims.leads q stays ∙ both.1)

-- and one that leads on led there
step_was : (keeps : ℕ → Bool) (node : NodeShape) (kept after : NodeWords) (q n : ℕ) → TrimsNode (stays_set node.kind keeps node kept) node kept after → active_below node.kind node after q ≡ Some n → active_below node.kind node kept q ≡ Some n
step_was keeps node kept after q n trims leads =
    let both = active_leads node.kind node after q n leads in
    let was = and_parts (is_set node.kind node kept q) (stays_set node.kind keeps node kept q) (sym (trims.set q) ∙ both.0) in
    active_by node.kind node kept q n was.0 (trims.less q n both.1)

-- ── Cells ──

pub cell_stays : (nodes : List NodeShape) (words afters : List NodeWords) (cells : ℕ → Bool) → AreSized nodes → AreTrimmed nodes words afters cells → (place : ℕ) (slot : List ℕ) (cell : ℕ) → IsSlot nodes slot → place_after active_below nodes words place slot ≡ Some cell → cells cell ≡ true → place_after active_below nodes afters place slot ≡ Some cell
cell_stays nodes words afters cells sized trimmed place [] cell is leads on = leads
cell_stays [] words afters cells sized trimmed place (o ∷ slot) cell is leads on = absurd is
cell_stays (node ∷ later) [] afters cells sized trimmed place (o ∷ slot) cell is leads on = absurd trimmed
cell_stays (node ∷ later) (kept ∷ words) [] cells sized trimmed place (o ∷ slot) cell is leads on = absurd trimmed
cell_stays (node ∷ later) (kept ∷ words) (after ∷ afters) cells sized trimmed place (o ∷ slot) cell is leads on =
    let q : ℕ = slot_under node place o in
    option_and_then_some (λ n. place_after active_below later words n slot) (active_below node.kind node kept q) cell leads (λ n here rest.
    let kept_n : kept_above later words cells n ≡ true = leads_keep later words cells n slot cell is.1 rest on in
    ap (option_and_then (λ m. place_after active_below later afters m slot)) (step_stays (kept_above later words cells) node kept after q n (All-head (λ (m : NodeShape). 1 ≤ size_of m.sizes) node later sized) trimmed.0.trims here kept_n)
    ∙ cell_stays later words afters cells (All-tail (λ (m : NodeShape). 1 ≤ size_of m.sizes) node later sized) trimmed.1 n slot cell is.1 rest on)

pub cell_was : (nodes : List NodeShape) (words afters : List NodeWords) (cells : ℕ → Bool) → AreTrimmed nodes words afters cells → (place : ℕ) (slot : List ℕ) (cell : ℕ) → place_after active_below nodes afters place slot ≡ Some cell → place_after active_below nodes words place slot ≡ Some cell
cell_was nodes words afters cells trimmed place [] cell leads = leads
cell_was [] words afters cells trimmed place (o ∷ slot) cell leads = absurd (none-some cell leads)
cell_was (node ∷ later) [] afters cells trimmed place (o ∷ slot) cell leads = absurd trimmed
cell_was (node ∷ later) (kept ∷ words) [] cells trimmed place (o ∷ slot) cell leads = absurd trimmed
cell_was (node ∷ later) (kept ∷ words) (after ∷ afters) cells trimmed place (o ∷ slot) cell leads =
    let q : ℕ = slot_under node place o in
    option_and_then_some (λ n. place_after active_below later afters n slot) (active_below node.kind node after q) cell leads (λ n here rest.
    ap (option_and_then (λ m. place_after active_below later words m slot)) (step_was (kept_above later words cells) node kept after q n trimmed.0.trims here)
    ∙ cell_was later words afters cells trimmed.1 n slot cell rest)

-- ── Paths that make a slot live ──

same_front : (r : ℕ) (xs : List ℕ) (o : ℕ) (s : List ℕ) → r ∷ xs ≡ o ∷ s → (r ≡ o) × (xs ≡ s)
same_front r xs o s e = (cc, cc)

bytes_head : (r : ℕ) (xs : List ℕ) (o : ℕ) (s : List ℕ) → bytes_eq (r ∷ xs) (o ∷ s) ≡ true → (r ≡ o) × (bytes_eq xs s ≡ true)
bytes_head r xs o s e =
    let both = same_front r xs o s ((bytes_decides (r ∷ xs) (o ∷ s)).0 e) in
    (both.0, (bytes_decides xs s).1 both.1)

bytes_cons : (r : ℕ) (xs s : List ℕ) → bytes_eq xs s ≡ true → bytes_eq (r ∷ xs) (r ∷ s) ≡ true
bytes_cons r xs s e = (bytes_decides (r ∷ xs) (r ∷ s)).1 (ap (λ l. r ∷ l) ((bytes_decides xs s).0 e))

-- the front of a path that makes a slot live is the slot's own, and what follows makes the rest live
live_head : (kind : Kind) (r : ℕ) (xs : List ℕ) (o v : ℕ) (s : List ℕ) → makes_live kind (r ∷ xs) (o ∷ (v ∷ s)) ≡ true → (r ≡ o) × (makes_live kind xs (v ∷ s) ≡ true)
live_head Dense r xs o v s e = bytes_head r xs o (v ∷ s) e
live_head Bitmasked r xs o v s e = bytes_head r xs o (v ∷ s) e
live_head Pointer r xs o v s e = bytes_head r xs o (v ∷ s) e
live_head Hash r xs o v s e = bytes_head r xs o (v ∷ s) e
live_head Dynamic r [] o v s e = let both = and_parts (r == o) (is_at_or_below [] (v ∷ s)) e in (eqb-true r o both.0, both.1)
live_head Dynamic r (w ∷ xs) o v s e = let both = and_parts (r == o) (is_at_or_below (w ∷ xs) (v ∷ s)) e in (eqb-true r o both.0, both.1)

live_cons : (kind : Kind) (r : ℕ) (xs : List ℕ) (v : ℕ) (s : List ℕ) → makes_live kind xs (v ∷ s) ≡ true → makes_live kind (r ∷ xs) (r ∷ (v ∷ s)) ≡ true
live_cons Dense r xs v s e = bytes_cons r xs (v ∷ s) e
live_cons Bitmasked r xs v s e = bytes_cons r xs (v ∷ s) e
live_cons Pointer r xs v s e = bytes_cons r xs (v ∷ s) e
live_cons Hash r xs v s e = bytes_cons r xs (v ∷ s) e
live_cons Dynamic r [] v s e = absurd (false≢true e)
live_cons Dynamic r (w ∷ xs) v s e = and_from (r == r) (is_at_or_below (w ∷ xs) (v ∷ s)) (eq-eqb r r refl) e

live_one : (kind : Kind) (o : ℕ) → makes_live kind (o ∷ []) (o ∷ []) ≡ true
live_one Dense o = (bytes_decides (o ∷ []) (o ∷ [])).1 refl
live_one Bitmasked o = (bytes_decides (o ∷ []) (o ∷ [])).1 refl
live_one Pointer o = (bytes_decides (o ∷ []) (o ∷ [])).1 refl
live_one Hash o = (bytes_decides (o ∷ []) (o ∷ [])).1 refl
live_one Dynamic o = le-leb o o (omega arith)

-- ── What is on leads to a cell that is kept ──

-- some slots of all nodes lead by links from a place to a cell that is kept, and the front of them makes this slot live
pub record OnToKept (nodes : List NodeShape) (words : List NodeWords) (cells : ℕ → Bool) (place : ℕ) (slot : List ℕ) : Type 0 where
  pub whole : List ℕ
  pub is_slot : IsSlot nodes whole
  pub cell : ℕ
  pub leads : place_after place_below nodes words place whole ≡ Some cell
  pub is_kept : cells cell ≡ true
  pub front : makes_live (own_kind nodes slot) (take (length slot) whole) slot ≡ true

-- from the slot's own node on, through an offset that is there
from_offset : (node : NodeShape) (later : List NodeShape) (kept : NodeWords) (words : List NodeWords) (cells : ℕ → Bool) (place o r : ℕ) → r < size_of node.sizes → leads_kept (kept_above later words cells) node kept (slot_under node place r) ≡ true → makes_live node.kind (r ∷ []) (o ∷ []) ≡ true → OnToKept (node ∷ later) (kept ∷ words) cells place (o ∷ [])
from_offset node later kept words cells place o r below on front =
    let next = kept_some (kept_above later words cells) (active_below node.kind node kept (slot_under node place r)) on in
    let rest = kept_leads later words cells next.0 next.2 in
    record {
      whole = r ∷ rest.slot;
      is_slot = (below, rest.is_slot);
      cell = rest.cell;
      leads = ap (option_and_then (λ n. place_after place_below later words n rest.slot)) (active_leads node.kind node kept (slot_under node place r) next.0 next.1).1
          ∙ links_lead later words next.0 rest.slot rest.cell rest.leads;
      is_kept = rest.is_kept;
      front = front;
    }

own_leads : (kind : Kind) (node : NodeShape) (later : List NodeShape) (kept : NodeWords) (words : List NodeWords) (cells : ℕ → Bool) (place o : ℕ) → node.kind ≡ kind → kind ≢ Dense → o < size_of node.sizes → stays_set kind (kept_above later words cells) node kept (slot_under node place o) ≡ true → OnToKept (node ∷ later) (kept ∷ words) cells place (o ∷ [])
own_leads Dense node later kept words cells place o is other below on = absurd (other refl)
own_leads Bitmasked node later kept words cells place o is other below on = from_offset node later kept words cells place o o below on (live_one node.kind o)
own_leads Pointer node later kept words cells place o is other below on = from_offset node later kept words cells place o o below on (live_one node.kind o)
own_leads Hash node later kept words cells place o is other below on = from_offset node later kept words cells place o o below on (live_one node.kind o)
own_leads Dynamic node later kept words cells place o is other below on =
    let size : ℕ = size_of node.sizes in
    let q : ℕ = slot_under node place o in
    let index : q % size ≡ o = mod-mul-add place size o below in
    let found = range_from_any (leads_kept (kept_above later words cells) node kept) q (size - q % size) on in
    let same : q + found.0 ≡ slot_under node place (o + found.0) = omega arith in
    from_offset node later kept words cells place o (o + found.0) (omega (arith, found.1, index, below))
    (ap (leads_kept (kept_above later words cells) node kept) (sym same) ∙ found.2)
    (ap (λ k. makes_live k ((o + found.0) ∷ []) (o ∷ [])) is ∙ le-leb o (o + found.0) (omega arith))

pub on_leads : (nodes : List NodeShape) (words afters : List NodeWords) (cells : ℕ → Bool) → AreTrimmed nodes words afters cells → (place : ℕ) (slot : List ℕ) → AreOffsets nodes slot → own_kind nodes slot ≢ Dense → is_on nodes afters place slot ≡ true → OnToKept nodes words cells place slot
on_leads nodes words afters cells trimmed place [] ins other on = absurd (false≢true on)
on_leads [] words afters cells trimmed place (o ∷ slot) ins other on = absurd ins
on_leads (node ∷ later) [] afters cells trimmed place (o ∷ slot) ins other on = absurd trimmed
on_leads (node ∷ later) (kept ∷ words) [] cells trimmed place (o ∷ slot) ins other on = absurd trimmed
on_leads (node ∷ later) (kept ∷ words) (after ∷ afters) cells trimmed place (o ∷ []) ins other on =
    let q : ℕ = slot_under node place o in
    let both = and_parts (is_set node.kind node kept q) (stays_set node.kind (kept_above later words cells) node kept q) (sym (trimmed.0.trims.set q) ∙ on) in
    own_leads node.kind node later kept words cells place o refl other ins.0 both.1
on_leads (node ∷ later) (kept ∷ words) (after ∷ afters) cells trimmed place (o ∷ (v ∷ slot)) ins other on =
    let q : ℕ = slot_under node place o in
    let next = some_on (λ under. own_answer is_set later afters under (v ∷ slot)) (place_below node.kind node after q) on in
    let rest = on_leads later words afters cells trimmed.1 next.0 (v ∷ slot) ins.1 other next.2 in
    record {
      whole = o ∷ rest.whole;
      is_slot = (ins.0, rest.is_slot);
      cell = rest.cell;
      leads = ap (option_and_then (λ n. place_after place_below later words n rest.whole)) (trimmed.0.trims.less q next.0 next.1) ∙ rest.leads;
      is_kept = rest.is_kept;
      front = live_cons (own_kind later (v ∷ slot)) o (take (length (v ∷ slot)) rest.whole) v slot rest.front;
    }
  where
    some_on : (f : ℕ → Option Bool) (o : Option ℕ) → unwrap_or (option_and_then f o) false ≡ true → (n : ℕ) × (o ≡ Some n) × (unwrap_or (f n) false ≡ true)
    some_on f None e = absurd (false≢true e)
    some_on f (Some n) e = (n, refl, e)

-- ── What leads to a cell that is kept is on, and so is each slot that it makes live ──

-- a slot before one that is set, under the same parent, is set
before_set : (node : NodeShape) (kept : NodeWords) (place o r : ℕ) → o ≤ r → r < size_of node.sizes → is_set Dynamic node kept (slot_under node place r) ≡ true → is_set Dynamic node kept (slot_under node place o) ≡ true
before_set node kept place o r low below on =
    let size : ℕ = size_of node.sizes in
    let at : (x : ℕ) → x < size → below_length kept.lengths size (slot_under node place x) ≡ nat_lt x (slice_index kept.lengths place) = λ x under.
    ap (λ i. nat_lt i (slice_index kept.lengths (slot_under node place x / size))) (mod-mul-add place size x under) ∙ ap (λ p. nat_lt x (slice_index kept.lengths p)) (div-mul-add place size x under) in
    at o (omega (arith, low, below)) ∙ lower (slice_index kept.lengths place) (sym (at r below) ∙ on)
  where
    lower : (len : ℕ) → nat_lt r len ≡ true → nat_lt o len ≡ true
    lower len e = grind (arith, nat_tests)

own_on : (kind : Kind) (node : NodeShape) (kept after : NodeWords) (keeps : ℕ → Bool) (place o r : ℕ) → node.kind ≡ kind → 1 ≤ size_of node.sizes → r < size_of node.sizes → TrimsNode (stays_set node.kind keeps node kept) node kept after → is_set kind node kept (slot_under node place r) ≡ true → leads_kept keeps node kept (slot_under node place r) ≡ true → makes_live kind (r ∷ []) (o ∷ []) ≡ true → is_set node.kind node after (slot_under node place o) ≡ true
own_on kind node kept after keeps place o r is some below trims set leads front =
    trims.set (slot_under node place o) ∙ and_both (is_set node.kind node kept (slot_under node place o)) (stays_set node.kind keeps node kept (slot_under node place o))
    (ap (λ k. is_set k node kept (slot_under node place o)) is ∙ was_set kind front set) (ap (λ k. stays_set k keeps node kept (slot_under node place o)) is ∙ stays kind front)
  where
    same : bytes_eq (r ∷ []) (o ∷ []) ≡ true → r ≡ o
    same e = (bytes_head r [] o [] e).0

    was_set : (k : Kind) → makes_live k (r ∷ []) (o ∷ []) ≡ true → is_set k node kept (slot_under node place r) ≡ true → is_set k node kept (slot_under node place o) ≡ true
    was_set Dense e on = refl
    was_set Bitmasked e on = ap (λ x. is_set Bitmasked node kept (slot_under node place x)) (sym (same e)) ∙ on
    was_set Pointer e on = ap (λ x. is_set Pointer node kept (slot_under node place x)) (sym (same e)) ∙ on
    was_set Hash e on = ap (λ x. is_set Hash node kept (slot_under node place x)) (sym (same e)) ∙ on
    was_set Dynamic e on = before_set node kept place o r (leb-true o r e) below on

    stays : (k : Kind) → makes_live k (r ∷ []) (o ∷ []) ≡ true → stays_set k keeps node kept (slot_under node place o) ≡ true
    stays Dense e = refl
    stays Bitmasked e = ap (λ x. leads_kept keeps node kept (slot_under node place x)) (sym (same e)) ∙ leads
    stays Pointer e = ap (λ x. leads_kept keeps node kept (slot_under node place x)) (sym (same e)) ∙ leads
    stays Hash e = ap (λ x. leads_kept keeps node kept (slot_under node place x)) (sym (same e)) ∙ leads
    stays Dynamic e =
        let size : ℕ = size_of node.sizes in
        let low : o ≤ r = leb-true o r e in
        let q : ℕ = slot_under node place o in
        let index : q % size ≡ o = mod-mul-add place size o (omega (arith, low, below)) in
        let more : q + (r - o) ≡ slot_under node place r = omega (arith, low) in
        any_in_range (leads_kept keeps node kept) q (size - q % size) (r - o) (omega (arith, index, low, below)) (ap (leads_kept keeps node kept) more ∙ leads)

pub front_on : (nodes : List NodeShape) (words afters : List NodeWords) (cells : ℕ → Bool) → AreSized nodes → AreTrimmed nodes words afters cells → (place : ℕ) (whole slot : List ℕ) (cell : ℕ) → IsSlot nodes whole → place_after active_below nodes words place whole ≡ Some cell → cells cell ≡ true → 1 ≤ length slot → makes_live (own_kind nodes slot) (take (length slot) whole) slot ≡ true → is_on nodes afters place slot ≡ true
front_on nodes words afters cells sized trimmed place whole [] cell is leads on some front = absurd (omega (arith, some))
front_on nodes words afters cells sized trimmed place [] (o ∷ slot) cell is leads on some front = absurd (no_front nodes (own_kind nodes (o ∷ slot)) o slot front)
  where
    empty : (o : ℕ) (slot : List ℕ) → [] ≡ o ∷ slot → ⊥
    empty o slot e = cc

    no_front : (nodes : List NodeShape) (kind : Kind) (o : ℕ) (slot : List ℕ) → makes_live kind [] (o ∷ slot) ≡ true → ⊥
    no_front nodes Dense o slot e = empty o slot ((bytes_decides [] (o ∷ slot)).0 e)
    no_front nodes Bitmasked o slot e = empty o slot ((bytes_decides [] (o ∷ slot)).0 e)
    no_front nodes Pointer o slot e = empty o slot ((bytes_decides [] (o ∷ slot)).0 e)
    no_front nodes Hash o slot e = empty o slot ((bytes_decides [] (o ∷ slot)).0 e)
    no_front nodes Dynamic o slot e = false≢true e
front_on [] words afters cells sized trimmed place (r ∷ whole) (o ∷ slot) cell is leads on some front = absurd is
front_on (node ∷ later) [] afters cells sized trimmed place (r ∷ whole) (o ∷ slot) cell is leads on some front = absurd trimmed
front_on (node ∷ later) (kept ∷ words) [] cells sized trimmed place (r ∷ whole) (o ∷ slot) cell is leads on some front = absurd trimmed
front_on (node ∷ later) (kept ∷ words) (after ∷ afters) cells sized trimmed place (r ∷ whole) (o ∷ []) cell is leads on some front =
    let q : ℕ = slot_under node place r in
    let size_some : 1 ≤ size_of node.sizes = All-head (λ (m : NodeShape). 1 ≤ size_of m.sizes) node later sized in
    option_and_then_some (λ n. place_after active_below later words n whole) (active_below node.kind node kept q) cell leads (λ n here rest.
    let kept_n : kept_above later words cells n ≡ true = leads_keep later words cells n whole cell is.1 rest on in
    own_on node.kind node kept after (kept_above later words cells) place o r refl size_some is.0 trimmed.0.trims (active_leads node.kind node kept q n here).0
    (ap (is_kept (kept_above later words cells)) here ∙ kept_n) front)
front_on (node ∷ later) (kept ∷ words) (after ∷ afters) cells sized trimmed place (r ∷ whole) (o ∷ (v ∷ slot)) cell is leads on some front =
    let q : ℕ = slot_under node place r in
    let parts = live_head (own_kind later (v ∷ slot)) r (take (length (v ∷ slot)) whole) o v slot front in
    let size_some : 1 ≤ size_of node.sizes = All-head (λ (m : NodeShape). 1 ≤ size_of m.sizes) node later sized in
    option_and_then_some (λ n. place_after active_below later words n whole) (active_below node.kind node kept q) cell leads (λ n here rest.
    let kept_n : kept_above later words cells n ≡ true = leads_keep later words cells n whole cell is.1 rest on in
    let still = active_leads node.kind node after q n (step_stays (kept_above later words cells) node kept after q n size_some trimmed.0.trims here kept_n) in
    ap (λ x. unwrap_or (option_and_then (λ under. own_answer is_set later afters under (v ∷ slot)) (place_below node.kind node after (slot_under node place x))) false) (sym parts.0)
    ∙ ap (λ below. unwrap_or (option_and_then (λ under. own_answer is_set later afters under (v ∷ slot)) below) false) still.1
    ∙ front_on later words afters cells (All-tail (λ (m : NodeShape). 1 ≤ size_of m.sizes) node later sized) trimmed.1 n whole (v ∷ slot) cell is.1 rest on (omega arith) parts.1)
