-- The lines of advice, one after the other.
use Rattle.std.proofs.Common.{◌≡◌, ℕ, suc, ◌+◌, ◌<◌, List, [], ◌∷◌, ◌++◌, length, map, get_or, drop, Option, Some, None, Result, Ok, Err, IfOk, refl, sym, ap, ◌∙◌, subst, arith}
use Rattle.std.specs.Prelude.{slice_get, codes}
use Rattle.std.specs.Fmt.{decimal}
use Rattle.std.proofs.lemmas.List.{append-nil, append_assoc, drop_more, drop_all, length-map}
use Rattle.std.proofs.lemmas.Option.{slice_get-get_or}
use Rattle.sg_layout.specs.declared.shape.Shape.{Shape}
use Rattle.sg_names.specs.Tables.{Tables}
use Rattle.sg_flat.specs.declared.state.FlatLayout.{FlatLayout}
use Rattle.sg_flat.specs.declared.state.FlatState.{FlatState}
use Rattle.sg_store.specs.StoreWords.{StoreWords}
use Rattle.sg_store.specs.StandsFor.{StandsFor}
use Rattle.sg_store.specs.Standing.{shapes_of, StandForState}
use Rattle.sg_store.specs.Pruning.{valued_coordinates}
use Rattle.sg_layout.specs.Need.{FullNode, first_full}
use Rattle.sg_activate.specs.Activating.{unless_full}
use Rattle.sg_activate.specs.declared.fault.ActFault.{ActFault}
use Rattle.sg_image.specs.Counts.{stats_text, IsCountsLine}
use Rattle.sg_words.specs.declared.text.Text.{Text}
use Rattle.sg_words.specs.declared.memory.Memory.{Memory}
use Rattle.sg_convert.specs.declared.advising.Advice.{Advice}
use Rattle.sg_convert.specs.Converted.{converted}
use Rattle.sg_convert.specs.Advising.{Counted, best_of}
use Rattle.sg_convert.specs.Advised.{IsAdvice, counted, counts_of}
use Rattle.sg_convert.specs.Alike.{AreAlike, IsAlikeTo}
use Rattle.sg_convert.proofs.Uses.{IsAt, is_at, shape_is_at, advice_has_room}
use Rattle.sparsegrid.specs.Lines.{layout_text}
use Rattle.sparsegrid.specs.Advice.{advice_line, count_text, count_lines, converted_line, best_lines, lines_by, lines_from}

-- one count more
pub counted_on : (names : Tables) (number : ℕ) (before now whole : List ℕ) (count : Counted) (rest : List Counted)
    → now ≡ before ++ count_lines names number (count ∷ []) → before ++ count_lines names number (count ∷ rest) ≡ whole → now ++ count_lines names number rest ≡ whole
counted_on names number before now whole count rest is all =
    let line : List ℕ = count_lines names number (count ∷ []) in
    ap (λ (t : List ℕ). t ++ count_lines names number rest) is
    ∙ append_assoc before line (count_lines names number rest)
    ∙ ap (λ (t : List ℕ). before ++ t) (append_assoc (advice_line (codes "advise ") names number count.layout (count_text count.words)) [] (count_lines names number rest)) ∙ all

-- the counts, the best, and what is counted once the layout is converted to it
pub advised : (names : Tables) (shapes : List Shape) (state : FlatState) (number : ℕ) (advice : Advice) (old first second third line : List ℕ) → IsAdvice shapes state.layouts number advice
    → first ≡ old ++ count_lines names number (map counted advice.counts)
    → second ≡ first ++ advice_line (codes "best ") names number advice.best (decimal advice.words)
    → third ≡ second ++ line
    → line ≡ converted_line (layout_text names advice.best) (slice_get shapes number) (slice_get shapes advice.best) (slice_get state.layouts number)
    → third ≡ old ++ lines_by names shapes state number (counts_of shapes state.layouts number)
advised names shapes state number advice old first second third line is counts best ends line_is =
    let best_line : List ℕ = advice_line (codes "best ") names number advice.best (decimal advice.words) in
    let lines : List ℕ = count_lines names number (map counted advice.counts) in
    let last : List ℕ = converted_line (layout_text names advice.best) (slice_get shapes number) (slice_get shapes advice.best) (slice_get state.layouts number) in
    ends ∙ ap (λ (t : List ℕ). second ++ t) line_is ∙ ap (λ (t : List ℕ). t ++ last) (best ∙ ap (λ (t : List ℕ). t ++ best_line) counts)
    ∙ append_assoc (old ++ lines) best_line last ∙ append_assoc old lines (best_line ++ last)
    ∙ ap (λ (cs : List Counted). old ++ (count_lines names number cs ++ (best_line ++ last))) is.counts
    ∙ ap (λ (o : Option (ℕ × ℕ)). old ++ (count_lines names number (counts_of shapes state.layouts number) ++ best_lines names shapes state number o)) (sym is.best)

-- the lines of one layout more
pub lines_on : (names : Tables) (shapes : List Shape) (state : FlatState) (number : ℕ) (before now whole : List ℕ) → number < length shapes
    → now ≡ before ++ lines_by names shapes state number (counts_of shapes state.layouts number)
    → before ++ lines_from names shapes state number (drop number shapes) ≡ whole → now ++ lines_from names shapes state (number + 1) (drop (number + 1) shapes) ≡ whole
lines_on names shapes state number before now whole below is all =
    let shape : Shape = get_or shapes number (record { axes = 0; nodes = []; fields = [] }) in
    let others : List Shape = drop (number + 1) shapes in
    let on : number + 1 ≡ suc number = omega arith in
    ap (λ n. now ++ lines_from names shapes state n others) on
    ∙ ap (λ (t : List ℕ). t ++ lines_from names shapes state (suc number) others) is
    ∙ append_assoc before (lines_by names shapes state number (counts_of shapes state.layouts number)) (lines_from names shapes state (suc number) others)
    ∙ ap (λ (xs : List Shape). before ++ lines_from names shapes state number xs) (sym (drop_more shapes number (record { axes = 0; nodes = []; fields = [] }) below)) ∙ all

-- ---- stores of a number

-- the store that stands at a number
pub store_at : (shapes : List Shape) (stores list : List StoreWords) → shapes_of stores ≡ shapes → list ≡ stores → (number : ℕ) (store : StoreWords) → number < length shapes → store ≡ get_or list number store → slice_get stores number ≡ Some store
store_at shapes stores list are same number store below at =
    let within : number < length stores = omega (arith, below, ap length are, length-map stores (λ (s : StoreWords). s.shape)) in
    slice_get-get_or stores number store within ∙ ap (λ (s : StoreWords). Some s) (sym (at ∙ ap (λ (xs : List StoreWords). get_or xs number store) same))

-- alike layouts are those of the stores of their numbers
pub alike_stores : (shapes : List Shape) (stores : List StoreWords) → shapes_of stores ≡ shapes → (number other : ℕ) → IsAlikeTo shapes number other → (one two : StoreWords) → slice_get stores number ≡ Some one → slice_get stores other ≡ Some two → AreAlike one.shape two.shape
alike_stores shapes stores are number other is one two at there = is.alike one.shape two.shape (shape_is_at stores shapes are number one at) (shape_is_at stores shapes are other two there)

-- a conversion to the best layout isn't refused
pub never_full : (shapes : List Shape) (stores : List StoreWords) (state : FlatState) (number : ℕ) (advice : Advice) (store : StoreWords) (to : Shape) → StandForState shapes stores state → IsAdvice shapes state.layouts number advice
    → slice_get stores number ≡ Some store → slice_get shapes advice.best ≡ Some to → (full : ActFault)
    → ((flat : FlatLayout) → StandsFor store flat → unless_full (first_full to (valued_coordinates store.shape flat)) ≡ Err full) → ⊥
never_full shapes stores state number advice store to stands is found there full refused =
    let at : IsAt shapes state.layouts number store = subst (λ (list : List Shape). IsAt list state.layouts number store) stands.shapes_are (is_at stores state.layouts number store stands.stand found) in
    let room : first_full to (valued_coordinates store.shape at.flat) ≡ None = advice_has_room shapes state.layouts number store at advice is to there in
    let never : unless_full None ≡ Err full = ap unless_full (sym room) ∙ refused at.flat at.stands in
    absurd (cc (never))

-- what is counted of a layout that is converted to another
pub converted_is : (shapes : List Shape) (stores : List StoreWords) (state : FlatState) (number other : ℕ) (store : StoreWords) (to : Shape) → StandForState shapes stores state
    → slice_get stores number ≡ Some store → slice_get shapes other ≡ Some to → (made : StoreWords) → made.shape ≡ to
    → ((flat : FlatLayout) → StandsFor store flat → StandsFor made (converted store.shape to flat))
    → (bytes name line : List ℕ) → bytes ≡ name → ((flat : FlatLayout) → StandsFor made flat → line ≡ stats_text made.shape flat bytes)
    → line ≡ converted_line name (slice_get shapes number) (slice_get shapes other) (slice_get state.layouts number)
converted_is shapes stores state number other store to stands found there made shaped moves bytes name line spelled counts =
    let at : IsAt shapes state.layouts number store = subst (λ (list : List Shape). IsAt list state.layouts number store) stands.shapes_are (is_at stores state.layouts number store stands.stand found) in
    let flat : FlatLayout = converted store.shape to at.flat in
    counts flat (moves at.flat at.stands)
    ∙ ap (λ (s : Shape). stats_text s flat bytes) shaped ∙ ap (λ (b : List ℕ). stats_text to flat b) spelled
    ∙ sym (ap (λ (o : Option Shape). converted_line name o (slice_get shapes other) (slice_get state.layouts number)) at.shape_at
    ∙ ap (λ (o : Option Shape). converted_line name (Some store.shape) o (slice_get state.layouts number)) there
    ∙ ap (λ (o : Option FlatLayout). converted_line name (Some store.shape) (Some to) o) at.flat_at)

pub converted_done : (shapes : List Shape) (stores : List StoreWords) (number other : ℕ) (store : StoreWords) (to : Shape) → slice_get stores number ≡ Some store → slice_get shapes other ≡ Some to → (made : StoreWords) → made.shape ≡ to
    → ((flat : FlatLayout) → StandsFor store flat → StandsFor made (converted store.shape to flat))
    → (bytes name : List ℕ) → bytes ≡ name → (result : Result Text Memory) → IfOk result (λ text. IsCountsLine made bytes text.bytes)
    → IfOk result (λ text. (state : FlatState) → StandForState shapes stores state → text.bytes ≡ converted_line name (slice_get shapes number) (slice_get shapes other) (slice_get state.layouts number))
converted_done shapes stores number other store to found there made shaped moves bytes name spelled (Ok text) counts =
    λ state stands. converted_is shapes stores state number other store to stands found there made shaped moves bytes name text.bytes spelled counts
converted_done shapes stores number other store to found there made shaped moves bytes name spelled (Err why) counts = tt

-- stores that are the same stand for the same
pub stand_same : (layouts own : List Shape) (stores words : List StoreWords) (state : FlatState) → own ≡ layouts → words ≡ stores → StandForState layouts stores state → StandForState own words state
stand_same layouts own stores words state shapes same stands =
    subst (λ (list : List Shape). StandForState list words state) (sym shapes) (subst (λ (list : List StoreWords). StandForState layouts list state) (sym same) stands)
