use Rattle.std.proofs.Common.{◌≡◌, ◌∷◌, ◌+◌, ℕ, true, List, length, get_or, Option, Some, sym, ap, ap₂, ◌∙◌}
use Rattle.std.specs.Prelude.{take, drop}
use Rattle.sg_coord.specs.Bounds.{volume}
use Rattle.sg_layout.specs.declared.shape.Shape.{Shape}
use Rattle.sg_layout.specs.Axes.{bounds_of_shape}
use Rattle.sg_snapshot.specs.declared.part.Part.{Part}
use Rattle.sg_snapshot.specs.Parts.{frame_of, are_rows, cut_lists}
use Rattle.sg_snapshot.proofs.Fronts.{head_and_rest, is_some, part_there}
use Rattle.sg_snapshot.proofs.PartsRead.{Lists}
use Rattle.sg_snapshot.proofs.reading.part_front.Goals as goal

abbrev part_with : List (List ℕ) → List ℕ → List ℕ → Option (Part × List ℕ)
part_with words rest rows = Some (record { rows = rows; words = words }, rest)

abbrev lists_with : List (List ℕ) → List ℕ → Option Lists
lists_with lists rest = Some (lists, rest)

pub returns-in_ok-from_slice-in-Some-clause-front : goal.returns-in_ok-from_slice-in-Some-clause-front
returns-in_ok-from_slice-in-Some-clause-front c =
    let numbers = c.args.numbers.now in
    let shape = c.args.layout.now in
    let rest = c.split_at.result.1.now in
    let count = get_or c.split_at.result.0.now 0 0 in
    let behind = c.split_at-2.result.1.now in
    let words = c.in-Some.words in
    let head : numbers ≡ count ∷ rest = head_and_rest numbers (is_some (length numbers) c.if-is_empty.ensures)
    ∙ ap₂ (λ (x : ℕ) (xs : List ℕ). x ∷ xs) (ap (λ (l : List ℕ). get_or l 0 0) (sym c.split_at.ensures.front)) (sym c.split_at.ensures.back) in
    let size : c.volume.result ≡ volume (bounds_of_shape shape) = c.volume.ensures.value ∙ ap volume c.extents.ensures.value in
    let fields : c.len.result ≡ length shape.fields = c.len.ensures ∙ ap (λ (s : Shape). length s.fields) c.shape.ensures.value in
    let rise : are_rows 0 (volume (bounds_of_shape shape)) (take count rest) ≡ true = ap (λ (v : ℕ). are_rows 0 v (take count rest)) (sym size)
    ∙ ap (are_rows 0 c.volume.result) (sym c.split_at-2.ensures.front) ∙ sym c.if-not-are_rows.ensures in
    let found = rw c.in-Some.is at c.in_ok-lists_of.ensures.front in
    let cut : cut_lists (length shape.fields) count (drop count rest) ≡ Some (words.lists, drop words.used (drop count rest)) =
    ap (λ (n : ℕ). cut_lists n count (drop count rest)) (sym fields) ∙ ap (cut_lists c.len.result count) (sym c.split_at-2.ensures.back)
    ∙ found ∙ ap (λ (l : List ℕ). lists_with words.lists (drop words.used l)) c.split_at-2.ensures.back in
    part_there (frame_of shape) count words.used numbers rest words.lists head c.split_at.ensures.back c.if-rest-count.false rise cut
    ∙ ap (part_with words.lists (drop (1 + count + words.used) numbers)) (sym (c.in_ok-from_slice-in-Some.ensures ∙ c.split_at-2.ensures.front))
