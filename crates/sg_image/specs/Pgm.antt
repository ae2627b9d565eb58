-- Plain PGM of Netpbm: the lines `P2`, width and height, `255`, and then the rows of the image, each on lines of its own.
use Rattle.std.specs.Prelude.{ℕ, zero, suc, ◌+◌, ◌%◌, Bool, ◌||◌, ◌==◌, if◌then◌else◌, List, [], ◌∷◌, ◌++◌, codes}
use Rattle.std.specs.Fmt.{decimal}
use Rattle.sg_image.specs.Limits.{values_of_a_line}

-- the lines above the values
abbrev pub pgm_head : (width height : ℕ) → List ℕ
pgm_head width height = codes "P2\n" ++ decimal width ++ codes " " ++ decimal height ++ codes "\n255\n"

-- a line ends after the last value of a row, and if it has as many values as a line may have
abbrev pub ends_line : (width column : ℕ) → Bool
ends_line width column = (column + 1 == width) || ((column + 1) % values_of_a_line == 0)

-- what stands after the value in a column: a newline or a space
abbrev pub behind : (width column : ℕ) → ℕ
behind width column = if ends_line width column then 10 else 32

-- the texts of the numbers below a number, one after the other
abbrev pub texts_below : ℕ → (ℕ → List ℕ) → List ℕ
texts_below zero text = []
texts_below (suc n) text = texts_below n text ++ text n

-- a row of so many values, by the grey in each column
abbrev pub image_row_text : ℕ → (ℕ → ℕ) → List ℕ
image_row_text width grey = texts_below width (λ column. decimal (grey column) ++ behind width column ∷ [])

-- the rows of an image, by the grey in each row and column
abbrev pub image_rows_text : (width height : ℕ) → (ℕ → ℕ → ℕ) → List ℕ
image_rows_text width height grey = texts_below height (λ row. image_row_text width (grey row))

-- the whole image
abbrev pub pgm_text : (width height : ℕ) → (ℕ → ℕ → ℕ) → List ℕ
pgm_text width height grey = pgm_head width height ++ image_rows_text width height grey
