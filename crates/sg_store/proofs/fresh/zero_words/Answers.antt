use Rattle.std.proofs.Common.{◌≡◌, ℕ, List, length, replicate, ap, ◌∙◌}
use Rattle.std.specs.Prelude.{slice_index}
use Rattle.std.proofs.lemmas.List.{length-replicate}
use Rattle.sg_store.proofs.Zeros.{zeros_read, zero_bits}
use Rattle.sg_store.proofs.fresh.zero_words.Goals as goal

pub returns : goal.returns
returns c =
    let room = c.args.room.now in
    let links : c.in_ok-zeros-2.field-0 ≡ replicate room.links 0 = c.in_ok-zeros-2.ensures in
    let masks : c.in_ok-zeros-3.field-0 ≡ replicate room.masks 0 = c.in_ok-zeros-3.ensures in
    let lengths : c.in_ok-zeros-4.field-0 ≡ replicate room.lengths 0 = c.in_ok-zeros-4.ensures in
    record {
      keys_are = c.in_ok-zeros.ensures;
      links_are = links;
      link_count = ap length links ∙ length-replicate room.links 0;
      mask_count = ap length masks ∙ length-replicate room.masks 0;
      length_count = ap length lengths ∙ length-replicate room.lengths 0;
      chains_are = c.in_ok-empty_chains.ensures;
      no_length = λ parent. ap (λ (l : List ℕ). slice_index l parent) lengths ∙ zeros_read room.lengths parent;
      places = c.in_ok-pool.ensures.places;
      no_link = λ slot. ap (λ (l : List ℕ). slice_index l slot) links ∙ zeros_read room.links slot;
      no_bit = zero_bits c.in_ok-zeros-3.field-0 (λ i. ap (λ (l : List ℕ). slice_index l i) masks ∙ zeros_read room.masks i);
      none_live = c.in_ok-pool.ensures.none_live;
      none_counted = c.in_ok-pool.ensures.none_counted;
      parted = c.places.ensures.parted;
    }
