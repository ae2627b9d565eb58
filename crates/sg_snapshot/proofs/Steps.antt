-- The steps of filling a store: what is asked of a row, and what it leaves.
use Rattle.std.proofs.Common.{◌≡◌, ℕ, zero, suc, ◌+◌, ◌-◌, ◌<◌, ◌≤◌, List, [], ◌∷◌, map, length, get_or, refl, sym, ap, ◌∙◌, subst, arith}
use Rattle.std.specs.Prelude.{All, Contains}
use Rattle.std.proofs.lemmas.List.Elements.{All-map, All-weaker}
use Rattle.sg_words.proofs.Uses.{into_map}
use Rattle.sg_coord.specs.declared.coord.Coord.{Coord}
use Rattle.sg_coord.specs.Bounds.{Bounds, volume}
use Rattle.sg_coord.specs.Coord.{Inside, point_at}
use Rattle.sg_coord.specs.Laws.{PointInside}
use Rattle.sg_layout.specs.declared.shape.Shape.{Shape}
use Rattle.sg_layout.specs.Axes.{bounds_of_shape}
use Rattle.sg_flat.specs.Closed.{AreClosed}
use Rattle.sg_store.specs.StandsFor.{StandsFor}
use Rattle.sg_store.specs.StoreWords.{StoreWords}
use Rattle.sg_snapshot.specs.declared.part.Part.{Part}
use Rattle.sg_snapshot.specs.Parts.{frame_of, IsPart}
use Rattle.sg_snapshot.specs.Restoring.{points_in, layout_of}
use Rattle.sg_snapshot.specs.steps.Laying.{laid, IsLaid, put_row, words_at, beside_from, GivesRow}
use Rattle.sg_snapshot.proofs.Laying.{laid_agree, is_laid_agree, none_is_laid}
use Rattle.sg_snapshot.proofs.Besides.{beside_more, beside_none, laid_is_layout}
use Rattle.sg_snapshot.proofs.Openings.{rows_below}

pub get_same : {X : Type 0} (xs : List X) (k : ℕ) (d e : X) → k < length xs → get_or xs k d ≡ get_or xs k e
get_same [] k d e below = absurd (omega arith)
get_same (x ∷ xs) zero d e below = refl
get_same (x ∷ xs) (suc k) d e below = get_same xs k d e (omega arith)

pub all_inside : PointInside → (b : Bounds) (rows : List ℕ) → All (λ row. row < volume b) rows → All (Inside b) (map (point_at b) rows)
all_inside inside b rows below = All-map (Inside b) (point_at b) rows (All-weaker (λ row. row < volume b) (λ row. Inside b (point_at b row)) (inside b) rows below)

-- ---- what is asked of a row
pub rows_inside : (shape now : Shape) (part : Part) (rows : List ℕ) → IsPart (frame_of shape) part → rows ≡ part.rows → now ≡ shape → All (λ row. row < volume (bounds_of_shape now)) rows
rows_inside shape now part rows is same same_shape =
    subst (λ (s : Shape). All (λ row. row < volume (bounds_of_shape s)) rows) (sym same_shape)
    (subst (λ (r : List ℕ). All (λ row. row < volume (bounds_of_shape shape)) r) (sym same) (rows_below shape part is))

pub words_within : (shape : Shape) (part : Part) (rows : List ℕ) (words : List (List ℕ)) (index : ℕ) → IsPart (frame_of shape) part → rows ≡ part.rows → words ≡ part.words → index < length rows → All (λ list. index < length list) words
words_within shape part rows words index is same same_words below =
    subst (λ (w : List (List ℕ)). All (λ list. index < length list) w) (sym same_words)
    (λ k d low. let many : length (get_or part.words k d) ≡ length part.rows = is.words k d low in omega (arith, below, ap length same))

pub words_many : (shape now : Shape) (part : Part) (words : List (List ℕ)) → IsPart (frame_of shape) part → words ≡ part.words → now ≡ shape → length words ≡ length now.fields
words_many shape now part words is same_words same_shape = ap length same_words ∙ is.fields ∙ ap (λ (s : Shape). length s.fields) (sym same_shape)

-- ---- what it leaves
abbrev Laid : Shape → Part → ℕ → StoreWords → Type 0
Laid shape part from store = IsLaid shape (points_in shape part) (beside_from part from) × StandsFor store (laid shape (points_in shape part) (beside_from part from))

pub words_begin : (shape : Shape) (part : Part) (from : ℕ) (store : StoreWords) → AreClosed shape part.rows → length part.rows ≤ from → StandsFor store (laid shape (points_in shape part) (λ place row. 0)) → Laid shape part from store
words_begin shape part from store closed past stands = (
  is_laid_agree shape (points_in shape part) (λ place row. 0) (beside_from part from) (λ place row _. sym (beside_none part from place row past)) (none_is_laid shape (points_in shape part) (sym closed)),
  subst (StandsFor store) (laid_agree shape (points_in shape part) (λ place row. 0) (beside_from part from) (λ place row _. sym (beside_none part from place row past))) stands,
)

abbrev Gives : StoreWords → StoreWords → ℕ → Shape → List ℕ → List (List ℕ) → Type 0
Gives now after index shape rows words =
    (active : List Coord) (word : ℕ → ℕ → ℕ) → IsLaid shape active word → Contains active (point_at (bounds_of_shape shape) (get_or rows index 0)) → StandsFor now (laid shape active word)
    → IsLaid shape active (put_row (length shape.fields) (get_or rows index 0) (words_at words index) word)
    × StandsFor after (laid shape active (put_row (length shape.fields) (get_or rows index 0) (words_at words index) word))

pub words_step : (shape : Shape) (part : Part) (now after : StoreWords) (rows : List ℕ) (words : List (List ℕ)) (index : ℕ) → IsPart (frame_of shape) part → rows ≡ part.rows → words ≡ part.words → now.shape ≡ shape → index < length part.rows
    → ((active : List Coord) (word : ℕ → ℕ → ℕ) → IsLaid now.shape active word → Contains active (point_at (bounds_of_shape now.shape) (get_or rows index 0)) → StandsFor now (laid now.shape active word)
    → GivesRow now after (length now.shape.fields) (get_or rows index 0) (words_at words index) active word)
    → Laid shape part (index + 1) now → Laid shape part index after
words_step shape part now after rows words index is same same_words same_shape below gives so_far =
    let row = get_or part.rows index 0 in
    let points = points_in shape part in
    let first : Gives now after index now.shape rows words = λ active word laid_so has stands. (let g = gives active word laid_so has stands in (g.laid_so, g.stands)) in
    let second : Gives now after index shape rows words = subst (λ (s : Shape). Gives now after index s rows words) same_shape first in
    let third : Gives now after index shape part.rows words = subst (λ (r : List ℕ). Gives now after index shape r words) same second in
    let fourth : Gives now after index shape part.rows part.words = subst (λ (w : List (List ℕ)). Gives now after index shape part.rows w) same_words third in
    let there : Contains points (point_at (bounds_of_shape shape) row) = into_map (point_at (bounds_of_shape shape)) part.rows row (index, below, get_same part.rows index row 0 below) in
    let found = fourth points (beside_from part (index + 1)) so_far.0 there so_far.1 in
    let put = put_row (length shape.fields) row (words_at part.words index) (beside_from part (index + 1)) in (
      is_laid_agree shape points put (beside_from part index) (beside_more shape part index is below) found.0,
      subst (StandsFor after) (laid_agree shape points put (beside_from part index) (beside_more shape part index is below)) found.1,
    )

pub words_end : (shape : Shape) (part : Part) (from : ℕ) (store : StoreWords) → IsPart (frame_of shape) part → from ≡ 0 → Laid shape part from store → StandsFor store (layout_of shape part)
words_end shape part from store is none so_far =
    subst (StandsFor store) (ap (λ (n : ℕ). laid shape (points_in shape part) (beside_from part n)) none ∙ laid_is_layout shape part is) so_far.1

-- ---- a store that was made, then reached, then given words
pub filled_store : (shape made reached : Shape) (part : Part) (rows : List ℕ) (now after : StoreWords) → rows ≡ part.rows → made ≡ shape → reached ≡ made → StandsFor now (laid made (map (point_at (bounds_of_shape made)) rows) (λ place row. 0))
    → (StandsFor now (laid reached (points_in reached part) (λ place row. 0)) → StandsFor after (layout_of reached part)) → StandsFor after (layout_of shape part)
filled_store shape made reached part rows now after same first second stands gives =
    subst (λ (s : Shape). StandsFor after (layout_of s part)) (second ∙ first)
    (gives (subst (λ (s : Shape). StandsFor now (laid s (points_in s part) (λ place row. 0))) (sym second)
    (subst (λ (r : List ℕ). StandsFor now (laid made (map (point_at (bounds_of_shape made)) r) (λ place row. 0))) same stands)))
