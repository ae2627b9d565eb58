use Rattle.std.proofs.Common.{◌≡◌, ◌∷◌, ℕ, List, length, get_or, Option, sym, ap, ap₂, ◌∙◌}
use Rattle.std.proofs.lemmas.List.{length-map}
use Rattle.std.proofs.lemmas.Result.{IfOk-weaker}
use Rattle.sg_snapshot.specs.declared.part.Part.{Part}
use Rattle.sg_snapshot.specs.Parts.{frame_of, frames_of, parts_read, counted_parts}
use Rattle.sg_snapshot.proofs.Fronts.{head_and_rest, is_some, uncounted, counted}
use Rattle.sg_snapshot.proofs.reading.counted_parts.Goals as goal

pub returns-then-is_empty : goal.returns-then-is_empty
returns-then-is_empty c = uncounted (frames_of c.args.layouts.now) c.args.numbers.now c.if-is_empty.ensures

pub returns : goal.returns
returns c =
    let numbers = c.args.numbers.now in
    let frames = frames_of c.args.layouts.now in
    let rest = c.split_at.result.1.now in
    let count = get_or c.split_at.result.0.now 0 0 in
    let head : numbers ≡ count ∷ rest = head_and_rest numbers (is_some (length numbers) c.if-is_empty.ensures)
    ∙ ap₂ (λ (x : ℕ) (xs : List ℕ). x ∷ xs) (ap (λ (l : List ℕ). get_or l 0 0) (sym c.split_at.ensures.front)) (sym c.split_at.ensures.back) in
    IfOk-weaker c.parts_read.result (λ (found : Option (List Part)). found ≡ parts_read frames rest) (λ (found : Option (List Part)). found ≡ counted_parts frames numbers)
    (λ found is. is ∙ counted frames numbers rest count head (c.if-first-layouts.false ∙ sym (length-map c.args.layouts.now frame_of))) c.parts_read.ensures
