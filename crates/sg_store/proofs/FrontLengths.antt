-- Lengths of which those that stand are the first, and all others are 0.
use Rattle.std.proofs.Common.{◌≡◌, ℕ, ◌<◌, ◌≤◌, List, length, sym, ap, ◌∙◌, arith}
use Rattle.std.specs.Prelude.{slice_index}
use Rattle.std.specs.List.{All}
use Rattle.std.proofs.lemmas.List.{get_or_default}
use Rattle.sg_dynamic.specs.Chunks.{lengths_from}
use Rattle.sg_store.specs.steps.Padded.{padded}

pub front_is : (standing lengths : List ℕ) (many : ℕ) → lengths ≡ padded standing (length lengths) → many ≡ length lengths → lengths_from standing many ≡ lengths
front_is standing lengths many row same = ap (padded standing) same ∙ sym row

pub front_short : (standing lengths : List ℕ) (most : ℕ) → length standing ≤ length lengths → ((i : ℕ) → slice_index standing i ≡ slice_index lengths i) → All (λ len. len ≤ most) lengths → All (λ len. len ≤ most) standing
front_short standing lengths most few words short = λ i d below.
    let there : i < length lengths = omega (arith, below, few) in
    let least : slice_index lengths i ≤ most = short i 0 there in
    omega (arith, least, words i, get_or_default standing i 0 d below)
