-- Lengths up to the last slot that leads to a cell that is kept.
use Rattle.std.proofs.Common.{◌≡◌, ◌≢◌, ℕ, zero, suc, ◌+◌, ◌-◌, ◌*◌, ◌/◌, ◌%◌, ◌<◌, ◌≤◌, Bool, true, false, ◌&&◌, nat_lt, cond, List, length, Option, None, refl, sym, ap, ◌∙◌, subst, arith, inl, inr}
use Rattle.std.specs.Prelude.{slice_index}
use Rattle.std.proofs.lemmas.Bool.{false≢true, cases_Bool, cases_lt, and_parts}
use Rattle.std.proofs.lemmas.Bool.Decides.{nat_tests}
use Rattle.std.proofs.lemmas.Nat.{div-mul-add, mod-mul-add, div-add-mod', mod_below}
use Rattle.sg_layout.specs.declared.shape.Kind.{Kind}
use Rattle.sg_layout.specs.declared.shape.Kind.TheVariants.{Dynamic}
use Rattle.sg_layout.specs.declared.shape.NodeShape.{NodeShape}
use Rattle.sg_layout.specs.Axes.{count_of, size_of}
use Rattle.sg_links.specs.Lists.{list_of}
use Rattle.sg_store.specs.declared.node.NodeWords.{NodeWords}
use Rattle.sg_store.specs.Slots.{active_below, below_length, chunk_cell}
use Rattle.sg_store.specs.steps.Trimming.{is_kept, leads_kept, stays_set}
use Rattle.sg_store.specs.steps.Cutting.{below_lengths}
use Rattle.sg_store.specs.steps.KeptWords.{in_row, last_kept, keeps_cell, kept_length, AreKeptLengths}
use Rattle.sg_store.proofs.SlotPaths.{same_bool}
use Rattle.sg_store.proofs.KeptPlaces.{range_from_any, any_in_range}

-- ── The last number that is kept ──

-- what is below it has a kept number at or past it
pub below_last : (keeps : ℕ → Bool) (n index : ℕ) → index < last_kept keeps n → (j : ℕ) × (index ≤ j) × (j < n) × (keeps j ≡ true)
below_last keeps zero index below = absurd (omega (arith, below))
below_last keeps (suc n) index below = elim (cases_Bool (keeps n)) [
  | inl on ↦ (n, (let low : index < suc n = subst (λ m. index < m) (ap (λ b. cond b (suc n) (last_kept keeps n)) on) below in omega (arith, low)), omega arith, on)
  | inr off ↦
      let rest = below_last keeps n index (subst (λ m. index < m) (ap (λ b. cond b (suc n) (last_kept keeps n)) off) below) in
      (rest.0, rest.1, omega (arith, rest.2), rest.3)
]

pub last_below : (keeps : ℕ → Bool) (n j : ℕ) → j < n → keeps j ≡ true → j < last_kept keeps n
last_below keeps zero j below on = absurd (omega (arith, below))
last_below keeps (suc n) j below on = elim (cases_Bool (keeps n)) [
  | inl last ↦ subst (λ m. j < m) (sym (ap (λ b. cond b (suc n) (last_kept keeps n)) last)) below
  | inr off ↦
      let other : j ≢ n = λ same. false≢true (sym off ∙ ap keeps (sym same) ∙ on) in
      subst (λ m. j < m) (sym (ap (λ b. cond b (suc n) (last_kept keeps n)) off)) (last_below keeps n j (omega (arith, below, other)) on)
]

pub last_within : (keeps : ℕ → Bool) (n : ℕ) → last_kept keeps n ≤ n
last_within keeps zero = omega arith
last_within keeps (suc n) = elim (cases_Bool (keeps n)) [
  | inl on ↦ let same = ap (λ b. cond b (suc n) (last_kept keeps n)) on in omega (arith, same)
  | inr off ↦ let same = ap (λ b. cond b (suc n) (last_kept keeps n)) off in omega (arith, same, last_within keeps n)
]

-- ── Slots of a parent ──

kept_if : (keeps : ℕ → Bool) (b : Bool) (o : Option ℕ) → is_kept keeps (cond b o None) ≡ (b && is_kept keeps o)
kept_if keeps true o = refl
kept_if keeps false o = refl

-- a slot leads to a kept cell where its index is below the length and its cell is kept
pub leads_at : (keeps : ℕ → Bool) (node : NodeShape) (kept : NodeWords) (parent j : ℕ) → node.kind ≡ Dynamic → j < size_of node.sizes → leads_kept keeps node kept (parent * size_of node.sizes + j) ≡ (nat_lt j (slice_index kept.lengths parent) && keeps_cell kept.chains (count_of node.chunk) keeps parent j)
leads_at keeps node kept parent j is below =
    let size : ℕ = size_of node.sizes in
    let q : ℕ = parent * size + j in
    let index : q % size ≡ j = mod-mul-add parent size j below in
    let above : q / size ≡ parent = div-mul-add parent size j below in
    ap (λ (k : Kind). is_kept keeps (active_below k node kept q)) is
    ∙ kept_if keeps (below_length kept.lengths size q) (chunk_cell (count_of node.chunk) (list_of kept.chains (q / size)) (q % size))
    ∙ ap (λ i. nat_lt i (slice_index kept.lengths (q / size)) && is_kept keeps (chunk_cell (count_of node.chunk) (list_of kept.chains (q / size)) i)) index
    ∙ ap (λ p. nat_lt j (slice_index kept.lengths p) && is_kept keeps (chunk_cell (count_of node.chunk) (list_of kept.chains p) j)) above

below_is : (a b : ℕ) → nat_lt a b ≡ true → a < b
below_is a b e = grind (arith, nat_tests)

is_below : (a b : ℕ) → a < b → nat_lt a b ≡ true
is_below a b h = grind (arith, nat_tests)

and_is : (a b : Bool) → a ≡ true → b ≡ true → (a && b) ≡ true
and_is a b p q = ap (λ x. x && b) p ∙ q

-- a slot that stays set has one at or past it under the same parent whose cell is kept
stays_at : (keeps : ℕ → Bool) (node : NodeShape) (kept : NodeWords) (slot : ℕ) → node.kind ≡ Dynamic → 1 ≤ size_of node.sizes → stays_set Dynamic keeps node kept slot ≡ true → (j : ℕ) × (slot % size_of node.sizes ≤ j) × (j < slice_index kept.lengths (slot / size_of node.sizes)) × (keeps_cell kept.chains (count_of node.chunk) keeps (slot / size_of node.sizes) j ≡ true)
stays_at keeps node kept slot is some on =
    let size : ℕ = size_of node.sizes in
    let parent : ℕ = slot / size in
    let index : ℕ = slot % size in
    let found = range_from_any (leads_kept keeps node kept) slot (size - index) on in
    let j : ℕ = index + found.0 in
    let low : index < size = mod_below slot size (omega (arith, some)) in
    let below : j < size = omega (arith, found.1, low) in
    let same : slot + found.0 ≡ parent * size + j = omega (arith, div-add-mod' slot size) in
    let leads : leads_kept keeps node kept (parent * size + j) ≡ true = ap (leads_kept keeps node kept) (sym same) ∙ found.2 in
    let both = and_parts (nat_lt j (slice_index kept.lengths parent)) (keeps_cell kept.chains (count_of node.chunk) keeps parent j) (sym (leads_at keeps node kept parent j is below) ∙ leads) in
    (j, omega arith, below_is j (slice_index kept.lengths parent) both.0, both.1)

at_stays : (keeps : ℕ → Bool) (node : NodeShape) (kept : NodeWords) (slot j : ℕ) → node.kind ≡ Dynamic → 1 ≤ size_of node.sizes → slot % size_of node.sizes ≤ j → j < size_of node.sizes → j < slice_index kept.lengths (slot / size_of node.sizes) → keeps_cell kept.chains (count_of node.chunk) keeps (slot / size_of node.sizes) j ≡ true → stays_set Dynamic keeps node kept slot ≡ true
at_stays keeps node kept slot j is some low below long on =
    let size : ℕ = size_of node.sizes in
    let parent : ℕ = slot / size in
    let index : ℕ = slot % size in
    let under : index < size = mod_below slot size (omega (arith, some)) in
    let same : slot + (j - index) ≡ parent * size + j = omega (arith, div-add-mod' slot size, low) in
    any_in_range (leads_kept keeps node kept) slot (size - index) (j - index) (omega (arith, under, below, low))
    (ap (leads_kept keeps node kept) same ∙ leads_at keeps node kept parent j is below ∙ and_is (nat_lt j (slice_index kept.lengths parent)) (keeps_cell kept.chains (count_of node.chunk) keeps parent j) (is_below j (slice_index kept.lengths parent) long) on)

-- so with those lengths exactly the slots are set that were set and stay
pub lengths_kept : (keeps : ℕ → Bool) (node : NodeShape) (kept after : NodeWords) → node.kind ≡ Dynamic → 1 ≤ size_of node.sizes → ((parent : ℕ) → slice_index kept.lengths parent ≤ size_of node.sizes) → ((parent : ℕ) → slice_index after.lengths parent ≡ kept_length kept (count_of node.chunk) keeps parent) → (slot : ℕ) → below_lengths node after slot ≡ (below_lengths node kept slot && stays_set Dynamic keeps node kept slot)
lengths_kept keeps node kept after is some short lengths slot =
    let size : ℕ = size_of node.sizes in
    let parent : ℕ = slot / size in
    let index : ℕ = slot % size in
    let test : ℕ → Bool = keeps_cell kept.chains (count_of node.chunk) keeps parent in
    let len : ℕ = slice_index kept.lengths parent in
    same_bool (below_lengths node after slot) (below_lengths node kept slot && stays_set Dynamic keeps node kept slot)
    (λ on.
    let below : index < last_kept test len = subst (λ n. index < n) (lengths parent) (below_is index (slice_index after.lengths parent) on) in
    let found = below_last test len index below in
    and_is (below_lengths node kept slot) (stays_set Dynamic keeps node kept slot) (is_below index len (omega (arith, found.1, found.2)))
    (at_stays keeps node kept slot found.0 is some found.1 (omega (arith, found.2, short parent)) found.2 found.3))
    (λ on.
    let both = and_parts (below_lengths node kept slot) (stays_set Dynamic keeps node kept slot) on in
    let found = stays_at keeps node kept slot is some both.1 in
    let low : found.0 < last_kept test len = last_below test len found.0 found.2 found.3 in
    is_below index (slice_index after.lengths parent) (subst (λ n. index < n) (sym (lengths parent)) (omega (arith, low, found.1))))

pub stays_below : (keeps : ℕ → Bool) (node : NodeShape) (kept : NodeWords) → node.kind ≡ Dynamic → 1 ≤ size_of node.sizes → (slot : ℕ) → stays_set Dynamic keeps node kept slot ≡ true → below_lengths node kept slot ≡ true
stays_below keeps node kept is some slot on =
    let found = stays_at keeps node kept slot is some on in
    is_below (slot % size_of node.sizes) (slice_index kept.lengths (slot / size_of node.sizes)) (omega (arith, found.1, found.2))

either : (b : Bool) (x y z : ℕ) → x ≡ z → y ≡ z → cond b x y ≡ z
either true x y z p q = p
either false x y z p q = q

-- where the lengths that stand have been kept, all have: the others are 0
pub kept_through : (kept : NodeWords) (chunk : ℕ) (row : List Bool) (lengths : List ℕ) (through : ℕ) → AreKeptLengths kept chunk row lengths through → through ≤ length kept.lengths → ((parent : ℕ) → through ≤ parent → slice_index kept.lengths parent ≡ 0) → AreKeptLengths kept chunk row lengths (length kept.lengths)
kept_through kept chunk row lengths through are few none = record {
  as_many = are.as_many;
  each = λ parent.
      let long : ℕ = kept_length kept chunk (in_row row) parent in
      let old : ℕ = slice_index kept.lengths parent in
      elim (cases_lt parent through) [
        | inl before ↦
            are.each parent ∙ ap (λ b. cond b long old) (is_below parent through before)
            ∙ sym (ap (λ b. cond b long old) (is_below parent (length kept.lengths) (omega (arith, before, few))))
        | inr past ↦
            let zero_is : old ≡ 0 = none parent past in
            let kept_none : long ≡ 0 = ap (λ (n : ℕ). last_kept (keeps_cell kept.chains chunk (in_row row) parent) n) zero_is in
            are.each parent ∙ either (nat_lt parent through) long old 0 kept_none zero_is
            ∙ sym (either (nat_lt parent (length kept.lengths)) long old 0 kept_none zero_is)
      ];
}
