-- Words as they are planned trim a node.
use Rattle.std.proofs.Common.{◌≡◌, ℕ, zero, suc, ◌<◌, ◌≤◌, Bool, true, false, not, ◌&&◌, nat_lt, cond, List, [], length, take, Some, None, refl, sym, ap, ◌∙◌, arith, inl, inr}
use Rattle.std.specs.Prelude.{slice_index, ◌==◌}
use Rattle.std.specs.List.{Contains}
use Rattle.std.proofs.lemmas.Bool.{false≢true, ne_eqb, cases_lt}
use Rattle.std.proofs.lemmas.Bool.Decides.{nat_tests}
use Rattle.std.proofs.lemmas.List.{get_or_past, get_or_default}
use Rattle.sg_layout.specs.declared.shape.Kind.{Kind}
use Rattle.sg_layout.specs.declared.shape.Kind.TheVariants.{Bitmasked, Pointer, Dynamic}
use Rattle.sg_layout.specs.declared.shape.NodeShape.{NodeShape}
use Rattle.sg_layout.specs.Axes.{count_of, size_of}
use Rattle.sg_links.specs.Lists.{list_of}
use Rattle.sg_dynamic.specs.Chunks.{chunks_of, IsExact}
use Rattle.sg_pool.specs.Numbers.{place_count}
use Rattle.sg_store.specs.declared.node.NodeWords.{NodeWords}
use Rattle.sg_store.specs.Slots.{linked, active_below, mask_bit}
use Rattle.sg_store.specs.steps.Trimming.{is_kept, stays_set}
use Rattle.sg_store.specs.steps.Cutting.{TrimsLinks, TrimsParents}
use Rattle.sg_store.specs.steps.Cuts.{HasLinks, CutSoFar}
use Rattle.sg_store.specs.steps.KeptWords.{in_row, kept_link, AreKeptBits, AreKeptLinks, last_kept, keeps_cell, kept_length, AreKeptLengths}
use Rattle.sg_store.proofs.LengthsKept.{last_within, lengths_kept, stays_below}

pub below_true : (a b : ℕ) → a < b → nat_lt a b ≡ true
below_true a b h = grind (arith, nat_tests)

pub past_false : (a b : ℕ) → b ≤ a → nat_lt a b ≡ false
past_false a b h = grind (arith, nat_tests)

-- ── Links ──

-- a link stays where its number is kept
pub link_stays : (keeps : ℕ → Bool) (node : NodeShape) (kept : NodeWords) (slot : ℕ) → node.kind ≡ Pointer → stays_set Pointer keeps node kept slot ≡ is_kept keeps (linked (slice_index kept.links slot))
link_stays keeps node kept slot is = ap (λ (k : Kind). is_kept keeps (active_below k node kept slot)) is ∙ by_word (slice_index kept.links slot)
  where
    by_word : (word : ℕ) → is_kept keeps (cond (not (word == 0)) (linked word) None) ≡ is_kept keeps (linked word)
    by_word zero = refl
    by_word (suc n) = ap (λ b. is_kept keeps (cond b (Some n) None)) (ap not (ne_eqb (suc n) 0 (λ e. cc)))

either : (b : Bool) → cond {A = ℕ} b 0 0 ≡ 0
either true = refl
either false = refl

pub cond_some : (b : Bool) (w n : ℕ) → cond b w 0 ≡ suc n → (b ≡ true) × (w ≡ suc n)
cond_some true w n e = (refl, e)
cond_some false w n e = absurd (omega (arith, e))

pub links_are : (keeps : ℕ → Bool) (links kept : List ℕ) (row : List Bool) → AreKeptLinks links kept row (length links) → (slot : ℕ) → slice_index kept slot ≡ kept_link (in_row row) (slice_index links slot)
links_are keeps links kept row are slot = elim (cases_lt slot (length links)) [
  | inl below ↦ are.each slot ∙ ap (λ b. cond b (kept_link (in_row row) (slice_index links slot)) 0) (below_true slot (length links) below)
  | inr past ↦
      let none : slice_index links slot ≡ 0 = get_or_past links slot 0 past in
      are.each slot ∙ ap (λ b. cond b (kept_link (in_row row) (slice_index links slot)) 0) (past_false slot (length links) past)
      ∙ sym (ap (kept_link (in_row row)) none)
]

pub below_by_word : (words : List ℕ) (slot n : ℕ) → slice_index words slot ≡ suc n → slot < length words
below_by_word words slot n is = elim (cases_lt slot (length words)) [
  | inl below ↦ below
  | inr past ↦ absurd (let none : slice_index words slot ≡ 0 = get_or_past words slot 0 past in omega arith)
]

word_in : (words : List ℕ) (slot n : ℕ) → slice_index words slot ≡ suc n → Contains words (suc n)
word_in words slot n is =
    let below : slot < length words = below_by_word words slot n is in
    (slot, below, get_or_default words slot (suc n) 0 below ∙ is)

pub word_at : (words : List ℕ) (n : ℕ) → Contains words (suc n) → (slot : ℕ) × (slice_index words slot ≡ suc n)
word_at words n (slot, below, is) = (slot, get_or_default words slot 0 (suc n) below ∙ is)

pub links_trimmed : (row : List Bool) (node : NodeShape) (kept after : NodeWords) → node.kind ≡ Pointer → AreKeptLinks kept.links after.links row (length kept.links) → HasLinks after.pool after.links → place_count after.pool ≡ place_count kept.pool → TrimsLinks (stays_set Pointer (in_row row) node kept) kept after
links_trimmed row node kept after is are has places =
    let stays : ℕ → Bool = stays_set Pointer (in_row row) node kept in
    let each : (slot : ℕ) → slice_index after.links slot ≡ cond (stays slot) (slice_index kept.links slot) 0 = λ slot.
    links_are (in_row row) kept.links after.links row are slot ∙ ap (λ b. cond b (slice_index kept.links slot) 0) (sym (link_stays (in_row row) node kept slot is)) in
    record {
      links = each;
      as_many = are.as_many;
      places = places;
      live = λ n. (
        λ on.
            let at = word_at after.links n ((has n).0 on) in
            let both = cond_some (stays at.0) (slice_index kept.links at.0) n (sym (each at.0) ∙ at.1) in
            record { slot = at.0; is_kept = both.0; holds = both.1 },
        λ at. (has n).1 (word_in after.links at.slot n (each at.slot ∙ ap (λ b. cond b (slice_index kept.links at.slot) 0) at.is_kept ∙ at.holds)),
      );
    }

-- ── Masks ──

in_row_below : (row : List Bool) (place : ℕ) → in_row row place ≡ true → place < length row
in_row_below row place on = elim (cases_lt place (length row)) [
  | inl below ↦ below
  | inr past ↦ absurd (false≢true (sym (get_or_past row place false past) ∙ on))
]

pub bits_trimmed : (row : List Bool) (node : NodeShape) (kept after : NodeWords) → node.kind ≡ Bitmasked → AreKeptBits kept.masks after.masks row (length row) → (slot : ℕ) → mask_bit after.masks slot ≡ (mask_bit kept.masks slot && stays_set Bitmasked (in_row row) node kept slot)
bits_trimmed row node kept after is are slot =
    are.bits slot
    ∙ by_bit (mask_bit kept.masks slot)
    ∙ ap (λ b. mask_bit kept.masks slot && b) (sym (ap (λ (k : Kind). is_kept (in_row row) (active_below k node kept slot)) is))
  where
    and_kept : (a b : Bool) → (b ≡ true → a ≡ true) → (a && b) ≡ b
    and_kept true b h = refl
    and_kept false true h = absurd (false≢true (h refl))
    and_kept false false h = refl

    and_none : (a : Bool) → (a && false) ≡ false
    and_none true = refl
    and_none false = refl

    by_bit : (m : Bool) → (nat_lt slot (length row) && (m && in_row row slot)) ≡ (m && is_kept (in_row row) (cond m (Some slot) None))
    by_bit true = and_kept (nat_lt slot (length row)) (in_row row slot) (λ on. below_true slot (length row) (in_row_below row slot on))
    by_bit false = and_none (nat_lt slot (length row))

-- ── Lengths ──

pub lengths_are : (kept : NodeWords) (chunk : ℕ) (row : List Bool) (lengths : List ℕ) → AreKeptLengths kept chunk row lengths (length kept.lengths) → (parent : ℕ) → slice_index lengths parent ≡ kept_length kept chunk (in_row row) parent
lengths_are kept chunk row lengths are parent = elim (cases_lt parent (length kept.lengths)) [
  | inl below ↦ are.each parent ∙ ap (λ b. cond b (kept_length kept chunk (in_row row) parent) (slice_index kept.lengths parent)) (below_true parent (length kept.lengths) below)
  | inr past ↦
      let none : slice_index kept.lengths parent ≡ 0 = get_or_past kept.lengths parent 0 past in
      are.each parent ∙ ap (λ b. cond b (kept_length kept chunk (in_row row) parent) (slice_index kept.lengths parent)) (past_false parent (length kept.lengths) past)
      ∙ none ∙ sym (ap (last_kept (keeps_cell kept.chains chunk (in_row row) parent)) none)
]

take_none : (n : ℕ) → take {A = ℕ} n [] ≡ []
take_none zero = refl
take_none (suc n) = refl

pub lengths_trimmed : (row : List Bool) (node : NodeShape) (kept after : NodeWords) → node.kind ≡ Dynamic → 1 ≤ size_of node.sizes → 1 ≤ count_of node.chunk → ((parent : ℕ) → slice_index kept.lengths parent ≤ size_of node.sizes) → length kept.chains.lists ≡ length kept.lengths → AreKeptLengths kept (count_of node.chunk) row after.lengths (length kept.lengths) → CutSoFar kept.chains after.chains after.lengths (count_of node.chunk) (length after.lengths) → IsExact after.chains after.pool → place_count after.pool ≡ place_count kept.pool → TrimsParents (stays_set Dynamic (in_row row) node kept) node kept after
lengths_trimmed row node kept after is some some_chunk short many are cut exact places =
    let each : (parent : ℕ) → slice_index after.lengths parent ≡ kept_length kept (count_of node.chunk) (in_row row) parent = lengths_are kept (count_of node.chunk) row after.lengths are in
    record {
      chains = record {
        trims = record {
          some_chunk = some_chunk;
          fall = λ parent. omega (arith, each parent, last_within (keeps_cell kept.chains (count_of node.chunk) (in_row row) parent) (slice_index kept.lengths parent));
          chains = λ parent. elim (cases_lt parent (length after.lengths)) [
            | inl below ↦ cut.cut parent below
            | inr past ↦
                let none : list_of kept.chains parent ≡ [] = get_or_past kept.chains.lists parent [] (omega (arith, past, are.as_many, many)) in
                cut.later parent past ∙ none ∙ sym (ap (take (chunks_of (count_of node.chunk) (slice_index after.lengths parent))) none ∙ take_none (chunks_of (count_of node.chunk) (slice_index after.lengths parent)))
          ];
        };
        as_many = are.as_many;
        chain_count = cut.many;
        places = places;
        exact = exact;
      };
      below = lengths_kept (in_row row) node kept after is some short each;
      only_below = stays_below (in_row row) node kept is some;
    }
