-- A node of each kind, trimmed as it is planned.
use Rattle.std.proofs.Common.{◌≡◌, ◌≢◌, ◌⊎◌, ℕ, zero, suc, ◌*◌, ◌/◌, ◌<◌, ◌≤◌, ◌^◌, Bool, true, not, ◌&&◌, nat_lt, List, length, get_or, sym, ap, ◌∙◌, subst, arith, inl, inr}
use Rattle.std.specs.Prelude.{slice_index, ◌==◌}
use Rattle.std.specs.List.{All}
use Rattle.std.proofs.lemmas.Bool.{cases_eq, and_parts, false≢true, ne_eqb}
use Rattle.std.proofs.lemmas.Bool.Decides.{nat_tests}
use Rattle.std.proofs.lemmas.List.{get_or_default}
use Rattle.std.proofs.lemmas.Nat.{div_below, div-mul-add}
use Rattle.sg_layout.specs.declared.shape.Kind.{Kind}
use Rattle.sg_layout.specs.declared.shape.Kind.TheVariants.{Dense, Bitmasked, Pointer, Hash, Dynamic}
use Rattle.sg_layout.specs.declared.shape.NodeShape.{NodeShape}
use Rattle.sg_layout.specs.Axes.{count_of, size_of}
use Rattle.sg_pool.specs.Numbers.{PoolNumbers, place_count, live_count}
use Rattle.sg_pool.proofs.Uses.{live_is_number}
use Rattle.sg_store.specs.declared.node.NodeWords.{NodeWords}
use Rattle.sg_store.specs.declared.kept_table.KeptTable.{KeptTable}
use Rattle.sg_store.specs.Slots.{linked, slot_under}
use Rattle.sg_store.specs.WellFormed.{IsNode, IsPointerNode, IsHashNode, IsDynamicNode, IsWithinCap}
use Rattle.sg_store.specs.steps.Trimming.{is_kept, leads_kept, place_kept, IsTrimmed}
use Rattle.sg_store.specs.steps.Cuts.{HasLinks, IsLinkedOnce, CutSoFar}
use Rattle.sg_store.specs.steps.KeptWords.{in_row, keeps_cell, AreKeptBits, AreKeptLinks, AreKeptLengths, LeadsWithin}
use Rattle.sg_store.specs.steps.KeptTables.{IsOldTable, IsKeptTable}
use Rattle.sg_store.specs.steps.Planning.{IsPlannable, HasCutLinks, HasCutTable, HasCutLengths}
use Rattle.sg_store.proofs.Walking.{index_contains}
use Rattle.sg_store.proofs.KeyPlaces.{some_word}
use Rattle.sg_store.proofs.SlotPaths.{same_bool}
use Rattle.sg_store.proofs.KeptPlaces.{offset_from_any, any_offset}
use Rattle.sg_store.proofs.LengthsKept.{last_within, last_below, below_last, leads_at}
use Rattle.sg_store.proofs.KindsTrimmed.{dense_trimmed, mask_trimmed, pointer_trimmed, hash_trimmed, dynamic_trimmed}
use Rattle.sg_store.proofs.PlansTrimmed.{links_are, lengths_are, cond_some, links_trimmed, bits_trimmed, lengths_trimmed}
use Rattle.sg_store.proofs.TablesTrimmed.{old_table, table_linked, table_once, table_trimmed}

-- ── What kind a node is of ──

of_kind : (kind : Kind) (node : NodeShape) (kept : NodeWords) → node.kind ≡ kind → (plan : IsPlannable node kept) → IsNode kind node kept plan.slots plan.live
of_kind kind node kept is plan = subst (λ (k : Kind). IsNode k node kept plan.slots plan.live) is plan.is_node

capped : (kind : Kind) (node : NodeShape) (kept : NodeWords) → node.kind ≡ kind → IsPlannable node kept → IsWithinCap kind node kept
capped kind node kept is plan = subst (λ (k : Kind). IsWithinCap k node kept) is plan.within_cap

recap : (kind : Kind) (node : NodeShape) (after : NodeWords) → node.kind ≡ kind → IsWithinCap kind node after → IsWithinCap node.kind node after
recap kind node after is within = subst (λ (k : Kind). IsWithinCap k node after) (sym is) within

-- a node trimmed to the places that a row keeps, within its cap
abbrev pub TrimsWithin : List Bool → NodeShape → NodeWords → NodeWords → Type 0
TrimsWithin row node kept after = IsTrimmed (in_row row) node kept after × IsWithinCap node.kind node after

-- ── Dense, and bitmasked ──

pub whole_trims : (row : List Bool) (node : NodeShape) (kept after : NodeWords) → node.kind ≡ Dense → TrimsWithin row node kept after
whole_trims row node kept after is = (dense_trimmed (in_row row) node kept after is, recap Dense node after is tt)

pub masks_trim : (row : List Bool) (node : NodeShape) (kept after : NodeWords) (masks : List ℕ) → node.kind ≡ Bitmasked → AreKeptBits kept.masks masks row (length row) → after.masks ≡ masks → TrimsWithin row node kept after
masks_trim row node kept after masks is are now =
    let mine : AreKeptBits kept.masks after.masks row (length row) = subst (λ (m : List ℕ). AreKeptBits kept.masks m row (length row)) (sym now) are in
    (mask_trimmed (in_row row) node kept after is mine.as_many (bits_trimmed row node kept after is mine), recap Bitmasked node after is tt)

-- ── Links ──

-- a link that stays is as it was
pub link_is : (row : List Bool) (links kept : List ℕ) → AreKeptLinks links kept row (length links) → (slot : ℕ) → slice_index kept slot ≢ 0 → slice_index kept slot ≡ slice_index links slot
link_is row links kept are slot some =
    let word = some_word (slice_index kept slot) some in
    let both = cond_some (is_kept (in_row row) (linked (slice_index links slot))) (slice_index links slot) word.0 (sym (links_are (in_row row) links kept row are slot) ∙ word.1) in
    word.1 ∙ sym both.1

-- links of live numbers are no more than the numbers there are
pub links_small : (pool : PoolNumbers) (links : List ℕ) → HasLinks pool links → place_count pool < 2 ^ 32 → All (λ link. link ≤ 2 ^ 32) links
links_small pool links has few slot d below = small (cases_eq (slice_index links slot) 0)
  where
    small : (slice_index links slot ≡ 0) ⊎ (slice_index links slot ≢ 0) → get_or links slot d ≤ 2 ^ 32
    small (inl none) = omega (arith, none, get_or_default links slot d 0 below)
    small (inr some) =
        let word = some_word (slice_index links slot) some in
        let low : word.0 < place_count pool = live_is_number pool word.0 ((has word.0).1 (index_contains links slot word.0 word.1)) in
        omega (arith, low, few, word.1, get_or_default links slot d 0 below)

pub pointer_of : (node : NodeShape) (kept : NodeWords) → node.kind ≡ Pointer → (plan : IsPlannable node kept) → IsPointerNode node kept plan.slots plan.live
pointer_of node kept is plan = of_kind Pointer node kept is plan

pub links_trim : (row : List Bool) (node : NodeShape) (kept after : NodeWords) (links : List ℕ) → node.kind ≡ Pointer → IsPlannable node kept → AreKeptLinks kept.links links row (length kept.links) → HasCutLinks links kept after → TrimsWithin row node kept after
links_trim row node kept after links is plan are cut =
    let mine : AreKeptLinks kept.links after.links row (length kept.links) = subst (λ (l : List ℕ). AreKeptLinks kept.links l row (length kept.links)) (sym cut.links_now) are in
    let has : HasLinks after.pool after.links = subst (λ (l : List ℕ). HasLinks after.pool l) (sym cut.links_now) cut.pool.linked in
    let before : live_count kept.pool ≤ count_of node.cap = capped Pointer node kept is plan in
    let few : live_count after.pool ≤ count_of node.cap = omega (arith, before, cut.pool.fewer) in
    (pointer_trimmed (in_row row) node kept after is (links_trimmed row node kept after is mine has cut.pool.places), recap Pointer node after is few)

-- ── A table ──

pub hash_of : (node : NodeShape) (kept : NodeWords) → node.kind ≡ Hash → (plan : IsPlannable node kept) → IsHashNode node kept plan.slots plan.live
hash_of node kept is plan = of_kind Hash node kept is plan

pub table_of : (node : NodeShape) (kept : NodeWords) → node.kind ≡ Hash → IsPlannable node kept → IsOldTable kept.keys kept.links
table_of node kept is plan = old_table node kept plan.slots plan.live (hash_of node kept is plan) (capped Hash node kept is plan) (plan.large is)

pub table_has_links : (node : NodeShape) (kept : NodeWords) → node.kind ≡ Hash → IsPlannable node kept → HasLinks kept.pool kept.links
table_has_links node kept is plan = table_linked node kept plan.slots plan.live (hash_of node kept is plan)

pub table_links_once : (node : NodeShape) (kept : NodeWords) → node.kind ≡ Hash → IsPlannable node kept → IsLinkedOnce kept.links
table_links_once node kept is plan = table_once node kept plan.slots plan.live (hash_of node kept is plan)

pub table_trims : (row : List Bool) (node : NodeShape) (kept after : NodeWords) (links : List ℕ) (table : KeptTable) → node.kind ≡ Hash → IsPlannable node kept → AreKeptLinks kept.links links row (length kept.links) → IsKeptTable kept.keys kept.links row table.keys table.links → HasCutTable links table kept after → TrimsWithin row node kept after
table_trims row node kept after links table is plan are rehashed cut =
    let mine : IsKeptTable kept.keys kept.links row after.keys after.links =
    subst (λ (k : List ℕ). IsKeptTable kept.keys kept.links row k after.links) (sym cut.keys_now)
    (subst (λ (l : List ℕ). IsKeptTable kept.keys kept.links row table.keys l) (sym cut.links_now) rehashed) in
    let before : live_count kept.pool ≤ count_of node.cap = capped Hash node kept is plan in
    let few : live_count after.pool ≤ count_of node.cap = omega (arith, before, cut.pool.fewer) in
    (hash_trimmed (in_row row) node kept after is (table_trimmed row node kept after links plan.slots plan.live is (hash_of node kept is plan) are mine cut.pool.linked cut.pool.places), recap Hash node after is few)

-- ── Lengths ──

pub dynamic_of : (node : NodeShape) (kept : NodeWords) → node.kind ≡ Dynamic → (plan : IsPlannable node kept) → IsDynamicNode node kept plan.slots plan.live
dynamic_of node kept is plan = of_kind Dynamic node kept is plan

pub lengths_short : (node : NodeShape) (kept : NodeWords) → node.kind ≡ Dynamic → IsPlannable node kept → All (λ len. len ≤ 2 ^ 15) kept.lengths
lengths_short node kept is plan parent d below =
    omega (arith, get_or_default kept.lengths parent d 0 below, (dynamic_of node kept is plan).short parent, plan.short is)

pub new_lengths_short : (row : List Bool) (node : NodeShape) (kept : NodeWords) (lengths : List ℕ) → node.kind ≡ Dynamic → IsPlannable node kept → AreKeptLengths kept (count_of node.chunk) row lengths (length kept.lengths) → All (λ len. len ≤ 2 ^ 15) lengths
new_lengths_short row node kept lengths is plan are parent d below =
    let test : ℕ → Bool = keeps_cell kept.chains (count_of node.chunk) (in_row row) parent in
    omega (arith, get_or_default lengths parent d 0 below, lengths_are kept (count_of node.chunk) row lengths are parent, last_within test (slice_index kept.lengths parent), (dynamic_of node kept is plan).short parent, plan.short is)

pub lengths_trim : (row : List Bool) (node : NodeShape) (kept after : NodeWords) (lengths : List ℕ) → node.kind ≡ Dynamic → IsPlannable node kept → AreKeptLengths kept (count_of node.chunk) row lengths (length kept.lengths) → HasCutLengths lengths (count_of node.chunk) kept after → TrimsWithin row node kept after
lengths_trim row node kept after lengths is plan are cut =
    let was : IsDynamicNode node kept plan.slots plan.live = dynamic_of node kept is plan in
    let mine : AreKeptLengths kept (count_of node.chunk) row after.lengths (length kept.lengths) = subst (λ (l : List ℕ). AreKeptLengths kept (count_of node.chunk) row l (length kept.lengths)) (sym cut.lengths_now) are in
    let chains : CutSoFar kept.chains after.chains after.lengths (count_of node.chunk) (length after.lengths) = subst (λ (l : List ℕ). CutSoFar kept.chains after.chains l (count_of node.chunk) (length l)) (sym cut.lengths_now) cut.cut in
    let places : place_count after.pool ≡ place_count kept.pool = sym cut.exact.places ∙ cut.cut.numbers ∙ was.exact.places in
    let before : live_count kept.pool ≤ count_of node.cap = capped Dynamic node kept is plan in
    let few : live_count after.pool ≤ count_of node.cap = omega (arith, before, cut.fewer) in
    (dynamic_trimmed (in_row row) node kept after is (lengths_trimmed row node kept after is plan.some was.some_chunk was.short was.chain_count mine chains cut.exact places), recap Dynamic node after is few)

-- ── The row above a dynamic node ──

not_zero : (n : ℕ) → not (n == 0) ≡ true → 0 < n
not_zero zero on = absurd (false≢true on)
not_zero (suc n) on = omega arith

zero_not : (n : ℕ) → 0 < n → not (n == 0) ≡ true
zero_not zero some = absurd (omega (arith, some))
zero_not (suc n) some = ap not (ne_eqb (suc n) 0 (λ e. cc))

is_below : (a b : ℕ) → a < b → nat_lt a b ≡ true
is_below a b h = grind (arith, nat_tests)

below_is : (a b : ℕ) → nat_lt a b ≡ true → a < b
below_is a b e = grind (arith, nat_tests)

and_is : (a b : Bool) → a ≡ true → b ≡ true → (a && b) ≡ true
and_is a b p q = ap (λ x. x && b) p ∙ q

-- a place above it is kept where its new length isn't 0
pub lengths_above : (row : List Bool) (node : NodeShape) (kept : NodeWords) (lengths : List ℕ) (places size : ℕ) → node.kind ≡ Dynamic → IsPlannable node kept → AreKeptLengths kept (count_of node.chunk) row lengths (length kept.lengths) → size ≡ size_of node.sizes → LeadsWithin (in_row row) node kept (places * size) → (place : ℕ) → (nat_lt place places && not (slice_index lengths place == 0)) ≡ place_kept (in_row row) node kept place
lengths_above row node kept lengths places size is plan are sized within place =
    let keeps : ℕ → Bool = in_row row in
    let full : ℕ = size_of node.sizes in
    let test : ℕ → Bool = keeps_cell kept.chains (count_of node.chunk) keeps place in
    let len : ℕ = slice_index kept.lengths place in
    let new_is = lengths_are kept (count_of node.chunk) row lengths are place in
    same_bool (nat_lt place places && not (slice_index lengths place == 0)) (place_kept keeps node kept place)
    (λ on.
    let both = and_parts (nat_lt place places) (not (slice_index lengths place == 0)) on in
    let some : 0 < slice_index lengths place = not_zero (slice_index lengths place) both.1 in
    let found = below_last test len 0 (omega (arith, some, new_is)) in
    let under : found.0 < full = omega (arith, found.2, (dynamic_of node kept is plan).short place) in
    any_offset (λ o. leads_kept keeps node kept (slot_under node place o)) full found.0 under
    (leads_at keeps node kept place found.0 is under ∙ and_is (nat_lt found.0 len) (test found.0) (is_below found.0 len found.2) found.3))
    (λ on.
    let found = offset_from_any (λ o. leads_kept keeps node kept (slot_under node place o)) full on in
    let slot : slot_under node place found.0 < places * size = within (slot_under node place found.0) found.2 in
    let there : place < places = subst (λ p. p < places) (ap (λ s. slot_under node place found.0 / s) sized ∙ div-mul-add place full found.0 found.1) (div_below (slot_under node place found.0) size places (omega (arith, plan.some, sized)) slot) in
    let both = and_parts (nat_lt found.0 len) (test found.0) (sym (leads_at keeps node kept place found.0 is found.1) ∙ found.2) in
    let low = last_below test len found.0 (below_is found.0 len both.0) both.1 in
    and_is (nat_lt place places) (not (slice_index lengths place == 0)) (is_below place places there) (zero_not (slice_index lengths place) (omega (arith, low, new_is))))
