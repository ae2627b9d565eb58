-- The words that stand beside rows, from the last row to the first.
use Rattle.std.proofs.Common.{◌≡◌, ℕ, zero, suc, ◌+◌, ◌-◌, ◌<◌, ◌≤◌, Bool, ◌&&◌, cond, eqb, List, [], ◌∷◌, map, length, get_or, drop, refl, sym, ap, ap₂, ◌∙◌, arith}
use Rattle.std.specs.List.{range_with_len}
use Rattle.std.proofs.lemmas.Bool.{lt-ltb}
use Rattle.std.proofs.lemmas.List.{drop_more, drop_all}
use Rattle.sg_coord.specs.declared.coord.Coord.{Coord}
use Rattle.sg_coord.specs.Bounds.{volume}
use Rattle.sg_layout.specs.declared.shape.Shape.{Shape}
use Rattle.sg_layout.specs.Axes.{bounds_of_shape}
use Rattle.sg_flat.specs.declared.state.FlatLayout.{FlatLayout}
use Rattle.sg_flat.specs.Words.{words_of}
use Rattle.sg_snapshot.specs.declared.part.Part.{Part}
use Rattle.sg_snapshot.specs.Parts.{frame_of, IsPart}
use Rattle.sg_snapshot.specs.Restoring.{points_in, word_beside, layout_of}
use Rattle.sg_snapshot.specs.steps.Laying.{laid, put_row, words_at, beside_from}

-- as many words as rows
as_many : (shape : Shape) (part : Part) (place : ℕ) → IsPart (frame_of shape) part → place < length shape.fields → length (get_or part.words place []) ≡ length part.rows
as_many shape part place is below = is.words place [] (omega (arith, below, is.fields))

-- the word beside the row with an index is put before those beside the later ones
pub beside_more : (shape : Shape) (part : Part) (index : ℕ) → IsPart (frame_of shape) part → index < length part.rows → (place other : ℕ) → place < length shape.fields
    → put_row (length shape.fields) (get_or part.rows index 0) (words_at part.words index) (beside_from part (index + 1)) place other ≡ beside_from part index place other
beside_more shape part index is below place other in_it =
    let words = get_or part.words place [] in
    let row = get_or part.rows index 0 in
    let word = get_or words index 0 in
    ap (λ (t : Bool). cond (t && eqb row other) word (beside_from part (index + 1) place other)) (lt-ltb place (length shape.fields) in_it)
    ∙ sym (ap (λ (rows : List ℕ). word_beside rows (drop index words) other) (drop_more part.rows index 0 below)
    ∙ ap (λ (list : List ℕ). word_beside (row ∷ drop (index + 1) part.rows) list other) (drop_more words index 0 (omega (arith, below, as_many shape part place is in_it))))

-- none beside no rows
pub beside_none : (part : Part) (from place other : ℕ) → length part.rows ≤ from → beside_from part from place other ≡ 0
beside_none part from place other past = ap (λ (rows : List ℕ). word_beside rows (drop from (get_or part.words place [])) other) (drop_all from part.rows past)

-- ---- the layout of a part is laid so
listed : (f : List ℕ → List (ℕ × ℕ)) (lists : List (List ℕ)) (front : List (List ℕ)) (n : ℕ) → n ≡ length lists → map (λ (place : ℕ). f (get_or lists place [])) (range_with_len 0 n) ≡ map f lists
listed f lists front n same = shifted lists 0 n same (λ k. get_or lists k []) (λ k below. ap (λ (place : ℕ). get_or lists place []) (let e : 0 + k ≡ k = omega arith in e))
  where
    shifted : (list : List (List ℕ)) (from m : ℕ) → m ≡ length list → (at : ℕ → List ℕ) → ((k : ℕ) → k < length list → at (from + k) ≡ get_or list k []) → map (λ (place : ℕ). f (at place)) (range_with_len from m) ≡ map f list
    shifted [] from zero many at is = refl
    shifted [] from (suc m) many at is = absurd (omega arith)
    shifted (first ∷ list) from zero many at is = absurd (omega arith)
    shifted (first ∷ list) from (suc m) many at is =
        ap₂ (λ (x : List (ℕ × ℕ)) (xs : List (List (ℕ × ℕ))). x ∷ xs)
        (ap f (ap at (let e : from ≡ from + 0 = omega arith in e) ∙ is 0 (omega arith)))
        (shifted list (from + 1) m (omega arith) at (λ k below. ap at (let e : from + 1 + k ≡ from + (suc k) = omega arith in e) ∙ is (suc k) (omega arith)))

made : List Coord → List (List (ℕ × ℕ)) → FlatLayout
made active fields = record { active = active; fields = fields }

pub laid_is_layout : (shape : Shape) (part : Part) → IsPart (frame_of shape) part → laid shape (points_in shape part) (beside_from part 0) ≡ layout_of shape part
unfolding made
laid_is_layout shape part is =
    ap (made (points_in shape part))
    (listed (λ (words : List ℕ). words_of (volume (bounds_of_shape shape)) (word_beside part.rows words)) part.words [] (length shape.fields) (sym is.fields))
