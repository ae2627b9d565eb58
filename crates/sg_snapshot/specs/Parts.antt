-- The form of an image: the bytes of parts, and what bytes are as parts.
use Rattle.std.specs.Prelude.{◌≡◌, ℕ, zero, suc, Bool, true, ◌&&◌, ◌==◌, nat_le, nat_lt, List, [], ◌∷◌, ◌++◌, length, map, take, drop, Option, Some, None, codes, All}
use Rattle.std.specs.List.{concat}
use Rattle.std.specs.Str.{bytes_eq}
use Rattle.sg_words.specs.Options.{◌>>=◌, only_if}
use Rattle.sg_coord.specs.Bounds.{volume}
use Rattle.sg_layout.specs.declared.shape.Shape.{Shape}
use Rattle.sg_layout.specs.Axes.{bounds_of_shape}
use Rattle.sg_snapshot.specs.declared.part.Part.{Part}
use Rattle.sg_snapshot.specs.Numbers.{bytes_of, numbers_of}

-- ---- the bytes of parts
-- the numbers of a part: how many coordinates, their rows, the words of each field
abbrev pub part_numbers : Part → List ℕ
part_numbers part = length part.rows ∷ (part.rows ++ concat part.words)

-- the numbers of parts, one after the other
abbrev pub parts_numbers : List Part → List ℕ
parts_numbers [] = []
parts_numbers (part ∷ parts) = part_numbers part ++ parts_numbers parts

-- the bytes of parts: `SGS1`, how many there are, and their numbers
abbrev pub parts_bytes : List Part → List ℕ
parts_bytes parts = codes "SGS1" ++ bytes_of (length parts ∷ parts_numbers parts)

-- ---- what bytes are
-- what of a layout decides the form: how many fields it has, and its volume
pub record Frame : Type 0 where
  pub fields : ℕ
  pub volume : ℕ

abbrev pub frame_of : Shape → Frame
frame_of shape = record { fields = length shape.fields; volume = volume (bounds_of_shape shape) }

abbrev pub frames_of : List Shape → List Frame
frames_of shapes = map frame_of shapes

-- so many numbers, and what is left behind them; none where there are fewer
abbrev pub cut_at : ℕ → List ℕ → Option (List ℕ × List ℕ)
cut_at count numbers = only_if (nat_le count (length numbers)) (Some (take count numbers, drop count numbers))

-- so many lists of so many numbers, and what is left behind them
abbrev pub cut_lists : (fields count : ℕ) → List ℕ → Option (List (List ℕ) × List ℕ)
cut_lists zero count numbers = Some ([], numbers)
cut_lists (suc fields) count numbers = cut_at count numbers >>= (λ first. cut_lists fields count first.1 >>= (λ more. Some (first.0 ∷ more.0, more.1)))

-- rows rise, and the first is not below a number, nor the last past the volume
abbrev pub are_rows : (least volume : ℕ) → List ℕ → Bool
are_rows least volume [] = true
are_rows least volume (row ∷ rows) = nat_le least row && (nat_lt row volume && are_rows (suc row) volume rows)

-- the part behind its count, and what is left
abbrev pub part_counted : Frame → ℕ → List ℕ → Option (Part × List ℕ)
part_counted frame count numbers =
    cut_at count numbers >>= (λ rows. only_if (are_rows 0 frame.volume rows.0)
    (cut_lists frame.fields count rows.1 >>= (λ words. Some (record { rows = rows.0; words = words.0 }, words.1))))

-- the part of a layout at the front of numbers, and what is left
abbrev pub part_front : Frame → List ℕ → Option (Part × List ℕ)
part_front frame [] = None
part_front frame (count ∷ numbers) = part_counted frame count numbers

-- the parts of layouts, and nothing behind them
abbrev pub parts_read : List Frame → List ℕ → Option (List Part)
parts_read [] [] = Some []
parts_read [] (number ∷ numbers) = None
parts_read (frame ∷ frames) numbers = part_front frame numbers >>= (λ found. parts_read frames found.1 >>= (λ more. Some (found.0 ∷ more)))

-- the parts behind their count
abbrev pub counted_parts : List Frame → List ℕ → Option (List Part)
counted_parts frames [] = None
counted_parts frames (count ∷ numbers) = only_if (count == length frames) (parts_read frames numbers)

-- what stands behind `SGS1`
abbrev pub behind_mark : List ℕ → Option (List ℕ)
behind_mark bytes = only_if (bytes_eq (codes "SGS1") (take 4 bytes)) (Some (drop 4 bytes))

-- the parts that bytes are
abbrev pub parts_in : List Frame → List ℕ → Option (List Part)
parts_in frames bytes = behind_mark bytes >>= (λ rest. numbers_of rest >>= (λ numbers. counted_parts frames numbers))

-- a part of a layout: its rows rise and are inside, and each field has as many words
pub record IsPart (frame : Frame) (part : Part) : Type 0 where
  pub rows : are_rows 0 frame.volume part.rows ≡ true
  pub fields : length part.words ≡ frame.fields
  pub words : All (λ list. length list ≡ length part.rows) part.words

-- these are parts of these layouts, as many
abbrev pub AreParts : List Frame → List Part → Type 0
AreParts [] [] = Unit {0}
AreParts [] (part ∷ parts) = ⊥
AreParts (frame ∷ frames) [] = ⊥
AreParts (frame ∷ frames) (part ∷ parts) = IsPart frame part × AreParts frames parts
