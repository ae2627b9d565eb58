-- Parts of a table, and levels, that more follow.
use Rattle.std.proofs.Common.{◌≡◌, ℕ, zero, suc, ◌+◌, ◌<◌, ◌≤◌, List, [], ◌∷◌, ◌++◌, length, take, drop, refl, sym, ap, ◌∙◌, arith}
use Rattle.std.specs.Prelude.{slice_index, slice_index_or}
use Rattle.std.proofs.lemmas.List.{take-append-le, drop-append-le, get_or_append_left, get_or_push, length-drop}
use Rattle.sg_words.proofs.Uses.{total-append}
use Rattle.sg_layout.specs.declared.shape.Kind.{Kind}
use Rattle.sg_layout.specs.declared.shape.Kind.TheVariants.{Dense, Bitmasked, Pointer, Hash, Dynamic}
use Rattle.sg_words.specs.Ranges.{range_at}
use Rattle.sg_activate.specs.declared.descent.rule.Start.{Start}
use Rattle.sg_activate.specs.declared.descent.level.Level.{Level}
use Rattle.sg_activate.specs.TableParts.{places_in, first_of}
use Rattle.sg_activate.specs.DescentRace.{slot_part}
use Rattle.sg_activate.specs.Descending.{part_at}
use Rattle.sg_activate.specs.steps.DescentWalk.{level_at, over_past, over_at, width_past, width_at, places_past, places_at}
use Rattle.sg_activate.proofs.DescentParts.{part-fits}

-- ---- items
pub item-append : {X : Type 0} (now xs more : List X) (i : ℕ) (d : X) → now ≡ xs ++ more → i < length xs → slice_index_or now i d ≡ slice_index_or xs i d
item-append now xs more i d is there = ap (λ l. slice_index_or l i d) is ∙ get_or_append_left xs more d i there

pub item-push : {X : Type 0} (now xs : List X) (x d : X) (i : ℕ) → now ≡ xs ++ x ∷ [] → length xs ≡ i → slice_index_or now i d ≡ x
item-push now xs x d i is last = ap (λ l. slice_index_or l i d) is ∙ get_or_push xs x d i last

-- ---- ranges
pub places-append : (sizes more : List ℕ) → places_in (sizes ++ more) ≡ places_in sizes + places_in more
places-append sizes more = total-append (λ (n : ℕ). n) sizes more

pub first-append : (sizes more : List ℕ) (l : ℕ) → l ≤ length sizes → first_of (sizes ++ more) l ≡ first_of sizes l
first-append sizes more l there = ap places_in (take-append-le l sizes more there)

pub range-append : (from many : ℕ) (words more : List ℕ) → from + many ≤ length words → range_at from many (words ++ more) ≡ range_at from many words
range-append from many words more fits =
    ap (take many) (drop-append-le from words more (omega arith)) ∙ take-append-le many (drop from words) more (let d = length-drop from words in omega arith)

pub first-all : (sizes : List ℕ) → first_of sizes (length sizes) ≡ places_in sizes
first-all [] = refl
first-all (n ∷ ns) = ap (λ m. n + m) (first-all ns)

-- a part that is there is as it was
pub part-append : (sizes more words behind : List ℕ) (l : ℕ) → length words ≡ places_in sizes → l < length sizes → part_at (sizes ++ more) (words ++ behind) l ≡ part_at sizes words l
part-append sizes more words behind l long there =
    let fits = part-fits sizes l there in
    ap (λ f. range_at f (slice_index (sizes ++ more) l) (words ++ behind)) (first-append sizes more l (omega arith))
    ∙ ap (λ n. range_at (first_of sizes l) n (words ++ behind)) (get_or_append_left sizes more 0 l there)
    ∙ range-append (first_of sizes l) (slice_index sizes l) words behind (omega arith)

drop-front : (xs ys : List ℕ) → drop (length xs) (xs ++ ys) ≡ ys
drop-front [] ys = refl
drop-front (x ∷ xs) ys = drop-front xs ys

take-whole : (xs : List ℕ) → take (length xs) xs ≡ xs
take-whole [] = refl
take-whole (x ∷ xs) = ap (λ l. x ∷ l) (take-whole xs)

-- and the one that follows has the words that follow
pub part-new : (sizes words behind : List ℕ) → length words ≡ places_in sizes → part_at (sizes ++ length behind ∷ []) (words ++ behind) (length sizes) ≡ behind
part-new sizes words behind long =
    ap (λ f. range_at f (slice_index (sizes ++ length behind ∷ []) (length sizes)) (words ++ behind)) (first-append sizes (length behind ∷ []) (length sizes) (omega arith) ∙ first-all sizes ∙ sym long)
    ∙ ap (λ n. range_at (length words) n (words ++ behind)) (get_or_push sizes (length behind) 0 (length sizes) refl)
    ∙ ap (take (length behind)) (drop-front words behind) ∙ take-whole behind

-- ---- levels
pub level-append : (levels more : List Level) (k : ℕ) → k < length levels → level_at (levels ++ more) k ≡ level_at levels k
level-append levels more k there = get_or_append_left levels more _ k there

pub over-append : (over : ℕ) (levels more : List Level) (k : ℕ) → k ≤ length levels → over_at over (levels ++ more) k ≡ over_at over levels k
over-append over levels more zero there = refl
over-append over [] more (suc k) there = absurd (omega arith)
over-append over (level ∷ later) more (suc k) there = over-append (over_past level.kind level.part over) later more k (omega arith)

pub width-append : (width : ℕ) (levels more : List Level) (k : ℕ) → k ≤ length levels → width_at width (levels ++ more) k ≡ width_at width levels k
width-append width levels more zero there = refl
width-append width [] more (suc k) there = absurd (omega arith)
width-append width (level ∷ later) more (suc k) there = width-append (width_past level.kind level.size width) later more k (omega arith)

pub places-levels-append : (start : Start) (places : ℕ) (levels more : List Level) (k : ℕ) → k ≤ length levels → places_at start places (levels ++ more) k ≡ places_at start places levels k
places-levels-append start places levels more zero there = refl
places-levels-append start places [] more (suc k) there = absurd (omega arith)
places-levels-append start places (level ∷ later) more (suc k) there = places-levels-append start (places_past start level.kind level.part level.size places) later more k (omega arith)

-- the places below levels are the same for a start in which the parts of these levels are
past-same : (start now : Start) (kind : Kind) (part size places : ℕ) → (kind ≡ Pointer → (slot_part now part).places ≡ (slot_part start part).places)
    → places_past now kind part size places ≡ places_past start kind part size places
past-same start now Dense part size places same = refl
past-same start now Bitmasked part size places same = refl
past-same start now Pointer part size places same = same refl
past-same start now Hash part size places same = refl
past-same start now Dynamic part size places same = refl

pub places-same : (start now : Start) (places : ℕ) (levels : List Level) (k : ℕ) → k ≤ length levels
    → ((j : ℕ) → j < length levels → (level_at levels j).kind ≡ Pointer → (slot_part now (level_at levels j).part).places ≡ (slot_part start (level_at levels j).part).places)
    → places_at now places levels k ≡ places_at start places levels k
places-same start now places levels zero there same = refl
places-same start now places [] (suc k) there same = absurd (omega arith)
places-same start now places (level ∷ later) (suc k) there same =
    ap (λ p. places_at now p later k) (past-same start now level.kind level.part level.size places (same 0 (omega arith)))
    ∙ places-same start now (places_past start level.kind level.part level.size places) later k (omega arith) (λ j below pointer. same (suc j) (omega arith) pointer)
