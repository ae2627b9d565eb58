-- What advice says of a state: for each layout the words that what it keeps uses of the layouts that are alike, and the best of these.
use Rattle.std.specs.Prelude.{ℕ, suc, List, [], ◌∷◌, ◌++◌, Option, Some, None, slice_get, codes}
use Rattle.std.specs.Fmt.{decimal}
use Rattle.sg_layout.specs.declared.shape.Shape.{Shape}
use Rattle.sg_names.specs.Tables.{Tables}
use Rattle.sg_flat.specs.declared.state.FlatLayout.{FlatLayout}
use Rattle.sg_flat.specs.declared.state.FlatState.{FlatState}
use Rattle.sg_image.specs.Counts.{stats_text}
use Rattle.sg_convert.specs.Converted.{converted}
use Rattle.sg_convert.specs.Advising.{Counted, best_of}
use Rattle.sg_convert.specs.Advised.{counts_of}
use Rattle.sparsegrid.specs.Lines.{layout_text}

-- the words of a count; or that there is no room
abbrev pub count_text : Option ℕ → List ℕ
count_text None = codes "full"
count_text (Some words) = decimal words

-- a line of advice on the layout of a number: what is said, of it and of another, with a count
abbrev pub advice_line : List ℕ → Tables → (number other : ℕ) → List ℕ → List ℕ
advice_line what names number other count = what ++ (layout_text names number ++ 32 ∷ (layout_text names other ++ 32 ∷ (count ++ 10 ∷ [])))

-- the lines of its counts
abbrev pub count_lines : Tables → ℕ → List Counted → List ℕ
count_lines names number [] = []
count_lines names number (count ∷ counts) = advice_line (codes "advise ") names number count.layout (count_text count.words) ++ count_lines names number counts

-- the line of what stats counts, once a layout is converted to another, of this name
abbrev pub converted_line : List ℕ → Option Shape → Option Shape → Option FlatLayout → List ℕ
converted_line name (Some shape) (Some to) (Some flat) = stats_text to (converted shape to flat) name
converted_line name _ _ _ = []

-- the line of the best, and that of the layout of a number once it is converted to it
abbrev pub best_lines : Tables → List Shape → FlatState → ℕ → Option (ℕ × ℕ) → List ℕ
best_lines names shapes state number None = []
best_lines names shapes state number (Some best) =
    advice_line (codes "best ") names number best.0 (decimal best.1)
    ++ converted_line (layout_text names best.0) (slice_get shapes number) (slice_get shapes best.0) (slice_get state.layouts number)

-- the lines of the layout of a number with these counts
abbrev pub lines_by : Tables → List Shape → FlatState → ℕ → List Counted → List ℕ
lines_by names shapes state number counts = count_lines names number counts ++ best_lines names shapes state number (best_of None counts)

-- the lines of these layouts of all, from this number on
abbrev pub lines_from : Tables → List Shape → FlatState → ℕ → List Shape → List ℕ
lines_from names shapes state number [] = []
lines_from names shapes state number (shape ∷ others) =
    lines_by names shapes state number (counts_of shapes state.layouts number) ++ lines_from names shapes state (suc number) others

-- the lines of all layouts, in order
abbrev pub advice_text : Tables → List Shape → FlatState → List ℕ
advice_text names shapes state = lines_from names shapes state 0 shapes
