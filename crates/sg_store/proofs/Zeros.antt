-- Rows and words that are all 0.
use Rattle.std.proofs.Common.{◌≡◌, ℕ, zero, suc, ◌+◌, ◌/◌, ◌%◌, ◌*◌, ◌^◌, ◌≤◌, false, ◌==◌, List, replicate, refl, sym, ap, ◌∙◌, arith}
use Rattle.std.specs.Prelude.{slice_index, ℤ, pos, negsuc, ◌≤ℤ◌}
use Rattle.std.specs.Int.{bit_at, div_ceil}
use Rattle.std.proofs.lemmas.Int.{ints}
use Rattle.std.proofs.lemmas.Nat.Bits.{bit_at-zero}
use Rattle.std.proofs.lemmas.List.{length-replicate}
use Rattle.sg_layout.specs.declared.shape.Kind.TheVariants.{Dense, Bitmasked, Pointer, Hash, Dynamic}
use Rattle.sg_layout.specs.declared.shape.NodeShape.{NodeShape}
use Rattle.sg_layout.specs.Axes.{count_of, size_of}
use Rattle.sg_layout.specs.StorageWords.{power_for}
use Rattle.sg_links.specs.Lists.{empty_lists}
use Rattle.sg_store.specs.declared.node.NodeWords.{NodeWords}
use Rattle.sg_store.specs.Slots.{mask_bit}
use Rattle.sg_store.specs.steps.Fresh.{IsCapped, IsFreshNode, AreZeroWords, IsZeroRow}

-- each word of a list of zeros is 0, also past its end
pub zeros_read : (n i : ℕ) → slice_index (replicate n 0) i ≡ 0
zeros_read zero i = refl
zeros_read (suc n) zero = refl
zeros_read (suc n) (suc i) = zeros_read n i

pub zero_row : (n : ℕ) → IsZeroRow n (replicate n 0)
zero_row n = record { long = length-replicate n 0; zero = zeros_read n }

-- so no bit of them is set
pub zero_bits : (masks : List ℕ) → ((i : ℕ) → slice_index masks i ≡ 0) → (bit : ℕ) → mask_bit masks bit ≡ false
zero_bits masks none bit =
    ap (λ word. bit_at word (bit % 64) == 1) (none (bit / 64)) ∙ ap (λ b. b == 1) (bit_at-zero (bit % 64))

-- zero words are those of a fresh node, where they are as many as the node has
pub fresh_dense : (node : NodeShape) (kept : NodeWords) (slots : ℕ) → AreZeroWords (record { keys = 0; links = 0; masks = 0; lengths = 0; numbers = 0; chunks = 0 }) kept → IsFreshNode Dense node kept slots
fresh_dense node kept slots zeros = record { sized = tt; no_link = zeros.no_link; no_bit = zeros.no_bit; no_length = zeros.no_length; none_live = zeros.none_live; none_counted = zeros.none_counted; parted = zeros.parted }

pub fresh_mask : (node : NodeShape) (kept : NodeWords) (slots : ℕ) → AreZeroWords (record { keys = 0; links = 0; masks = div_ceil slots 64; lengths = 0; numbers = 0; chunks = 0 }) kept → IsFreshNode Bitmasked node kept slots
fresh_mask node kept slots zeros = record { sized = zeros.mask_count; no_link = zeros.no_link; no_bit = zeros.no_bit; no_length = zeros.no_length; none_live = zeros.none_live; none_counted = zeros.none_counted; parted = zeros.parted }

pub fresh_pointer : (node : NodeShape) (kept : NodeWords) (slots places : ℕ) → places ≡ count_of node.cap + 17 → AreZeroWords (record { keys = 0; links = slots; masks = 0; lengths = 0; numbers = places; chunks = 0 }) kept → IsFreshNode Pointer node kept slots
fresh_pointer node kept slots places same zeros = record { sized = (zeros.link_count, zeros.places ∙ same); no_link = zeros.no_link; no_bit = zeros.no_bit; no_length = zeros.no_length; none_live = zeros.none_live; none_counted = zeros.none_counted; parted = zeros.parted }

pub fresh_hash : (node : NodeShape) (kept : NodeWords) (slots places table : ℕ) → slots ≤ 2 ^ 32 → places ≡ count_of node.cap + 17 → table ≡ power_for (2 * count_of node.cap) → AreZeroWords (record { keys = table; links = table; masks = 0; lengths = 0; numbers = places; chunks = 0 }) kept → IsFreshNode Hash node kept slots
fresh_hash node kept slots places table few same power zeros = record {
  sized = (few, zeros.keys_are ∙ ap (λ n. replicate n 0) power, zeros.links_are ∙ ap (λ n. replicate n 0) power, zeros.places ∙ same);
  no_link = zeros.no_link;
  no_bit = zeros.no_bit;
  no_length = zeros.no_length;
  none_live = zeros.none_live;
  none_counted = zeros.none_counted;
  parted = zeros.parted;
}

pub fresh_dynamic : (node : NodeShape) (kept : NodeWords) (slots parents places : ℕ) → IsCapped Dynamic node → slots ≡ parents * size_of node.sizes → places ≡ count_of node.cap → AreZeroWords (record { keys = 0; links = 0; masks = 0; lengths = parents; numbers = places; chunks = places }) kept → IsFreshNode Dynamic node kept slots
fresh_dynamic node kept slots parents places capped sized same zeros = record {
  sized = (
    capped.2,
    ap (λ n. n * size_of node.sizes) zeros.length_count ∙ sym sized,
    zeros.places ∙ same,
    zeros.chains_are ∙ ap (λ n. empty_lists n parents) same ∙ ap (empty_lists (count_of node.cap)) (sym zeros.length_count),
  );
  no_link = zeros.no_link;
  no_bit = zeros.no_bit;
  no_length = zeros.no_length;
  none_live = zeros.none_live;
  none_counted = zeros.none_counted;
  parted = zeros.parted;
}

-- a cap is at least 0
pub counted : (cap : ℤ) → 1 ≤ count_of cap → pos 0 ≤ℤ cap
counted (pos n) some = omega (arith, ints)
counted (negsuc n) some = absurd (omega (arith, some))
