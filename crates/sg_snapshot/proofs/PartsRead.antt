-- Parts come back from their numbers, and from their bytes.
use Rattle.std.proofs.Common.{◌≡◌, ℕ, suc, ◌+◌, List, [], ◌∷◌, ◌++◌, length, Option, Some, None, refl, sym, ap, ◌∙◌, subst, arith, append_assoc}
use Rattle.std.specs.Prelude.{take, drop, All, nat_le, ◌==◌}
use Rattle.std.specs.List.{concat}
use Rattle.std.proofs.lemmas.Bool.{cond-true, le-leb, eq-eqb}
use Rattle.std.proofs.lemmas.List.{length-append}
use Rattle.std.proofs.lemmas.List.Elements.{All-head, All-tail}
use Rattle.sg_words.specs.Options.{◌>>=◌, only_if}
use Rattle.sg_snapshot.specs.declared.part.Part.{Part}
use Rattle.sg_snapshot.specs.Parts.{Frame, part_numbers, parts_numbers, cut_at, cut_lists, are_rows, part_front, parts_read, counted_parts, IsPart, AreParts}
use Rattle.sg_snapshot.specs.FormLaws.{PartsOfBytes}
use Rattle.sg_snapshot.proofs.Bytes.{bytes_come_back}

take_front : (xs rest : List ℕ) → take (length xs) (xs ++ rest) ≡ xs
take_front [] rest = refl
take_front (x ∷ xs) rest = ap (λ (l : List ℕ). x ∷ l) (take_front xs rest)

drop_front : (xs rest : List ℕ) → drop (length xs) (xs ++ rest) ≡ rest
drop_front [] rest = refl
drop_front (x ∷ xs) rest = drop_front xs rest

abbrev pub some_pair : List ℕ → List ℕ → Option (List ℕ × List ℕ)
some_pair xs rest = Some (xs, rest)

cut_exact : (xs rest : List ℕ) → cut_at (length xs) (xs ++ rest) ≡ Some (xs, rest)
cut_exact xs rest =
    cond-true (nat_le (length xs) (length (xs ++ rest))) (some_pair (take (length xs) (xs ++ rest)) (drop (length xs) (xs ++ rest))) None
    (le-leb (length xs) (length (xs ++ rest)) (omega (arith, length-append xs rest)))
    ∙ ap (λ (l : List ℕ). some_pair l (drop (length xs) (xs ++ rest))) (take_front xs rest)
    ∙ ap (some_pair xs) (drop_front xs rest)

cut_front : (xs rest : List ℕ) (count : ℕ) → length xs ≡ count → cut_at count (xs ++ rest) ≡ Some (xs, rest)
cut_front xs rest count same = subst (λ (n : ℕ). cut_at n (xs ++ rest) ≡ Some (xs, rest)) same (cut_exact xs rest)

abbrev pub Lists : Type 0
Lists = List (List ℕ) × List ℕ

abbrev pub with_first : List ℕ → Lists → Option Lists
with_first first more = Some (first ∷ more.0, more.1)

abbrev pub after_first : (fields count : ℕ) → List ℕ × List ℕ → Option Lists
after_first fields count first = cut_lists fields count first.1 >>= with_first first.0

lists_front : (words : List (List ℕ)) (count : ℕ) (rest : List ℕ) → All (λ list. length list ≡ count) words → cut_lists (length words) count (concat words ++ rest) ≡ Some (words, rest)
lists_front [] count rest each = refl
lists_front (first ∷ words) count rest each =
    ap (λ (l : List ℕ). cut_at count l >>= after_first (length words) count) (append_assoc first (concat words) rest)
    ∙ ap (λ (o : Option (List ℕ × List ℕ)). o >>= after_first (length words) count) (cut_front first (concat words ++ rest) count (All-head (λ (list : List ℕ). length list ≡ count) first words each))
    ∙ ap (λ (o : Option Lists). o >>= with_first first) (lists_front words count rest (All-tail (λ (list : List ℕ). length list ≡ count) first words each))

abbrev pub with_rows : List ℕ → Lists → Option (Part × List ℕ)
with_rows rows words = Some (record { rows = rows; words = words.0 }, words.1)

abbrev pub after_rows : Frame → ℕ → List ℕ × List ℕ → Option (Part × List ℕ)
after_rows frame count rows = only_if (are_rows 0 frame.volume rows.0) (cut_lists frame.fields count rows.1 >>= with_rows rows.0)

part_written : (frame : Frame) (part : Part) (rest : List ℕ) → IsPart frame part → part_front frame (part_numbers part ++ rest) ≡ Some (part, rest)
part_written frame part rest is =
    ap (λ (l : List ℕ). cut_at (length part.rows) l >>= after_rows frame (length part.rows)) (append_assoc part.rows (concat part.words) rest)
    ∙ ap (λ (o : Option (List ℕ × List ℕ)). o >>= after_rows frame (length part.rows)) (cut_exact part.rows (concat part.words ++ rest))
    ∙ cond-true (are_rows 0 frame.volume part.rows) (cut_lists frame.fields (length part.rows) (concat part.words ++ rest) >>= with_rows part.rows) None is.rows
    ∙ ap (λ (n : ℕ). cut_lists n (length part.rows) (concat part.words ++ rest) >>= with_rows part.rows) (sym is.fields)
    ∙ ap (λ (o : Option Lists). o >>= with_rows part.rows) (lists_front part.words (length part.rows) rest is.words)

abbrev pub with_part : Part → List Part → Option (List Part)
with_part part more = Some (part ∷ more)

abbrev pub after_part : List Frame → Part × List ℕ → Option (List Part)
after_part frames found = parts_read frames found.1 >>= with_part found.0

parts_written : (frames : List Frame) (parts : List Part) → AreParts frames parts → parts_read frames (parts_numbers parts) ≡ Some parts
parts_written [] [] are = refl
parts_written [] (part ∷ parts) are = absurd are
parts_written (frame ∷ frames) [] are = absurd are
parts_written (frame ∷ frames) (part ∷ parts) are =
    ap (λ (o : Option (Part × List ℕ)). o >>= after_part frames) (part_written frame part (parts_numbers parts) are.0)
    ∙ ap (λ (o : Option (List Part)). o >>= with_part part) (parts_written frames parts are.1)

as_many : (frames : List Frame) (parts : List Part) → AreParts frames parts → length parts ≡ length frames
as_many [] [] are = refl
as_many [] (part ∷ parts) are = absurd are
as_many (frame ∷ frames) [] are = absurd are
as_many (frame ∷ frames) (part ∷ parts) are = ap suc (as_many frames parts are.1)

pub parts_come_back : PartsOfBytes
parts_come_back frames parts are small =
    ap (λ (o : Option (List ℕ)). o >>= counted_parts frames) (bytes_come_back (length parts ∷ parts_numbers parts) small)
    ∙ cond-true (length parts == length frames) (parts_read frames (parts_numbers parts)) None (eq-eqb (length parts) (length frames) (as_many frames parts are))
    ∙ parts_written frames parts are
