-- What is restored is flat and fits, and the bytes are its image.
use Rattle.std.proofs.Common.{◌≡◌, ℕ, zero, suc, ◌+◌, ◌*◌, ◌^◌, ◌<◌, Bool, true, false, ◌&&◌, cond, eqb, ltb, leb, List, [], ◌∷◌, ◌++◌, map, length, get_or, Option, Some, None, Ok, refl, sym, ap, ap₂, ◌∙◌, subst, arith}
use Rattle.std.specs.Prelude.{◌≢◌, All, Contains, option_map}
use Rattle.std.specs.List.{concat}
use Rattle.std.proofs.lemmas.Bool.{cond-true, cond-false, and_parts, eqb-true, eq-eqb, ne_eqb, leb-true}
use Rattle.std.proofs.lemmas.List.Elements.{All-nil, All-cons, All-head, All-tail}
use Rattle.std.proofs.lemmas.Option.{option_and_then_some}
use Rattle.sg_words.specs.Options.{◌>>=◌}
use Rattle.sg_words.specs.Results.{fault_or}
use Rattle.sg_words.proofs.Uses.{neither, fault_or-ok, contains_head, contains_rest, into_map}
use Rattle.sg_coord.specs.Bounds.{Bounds, volume}
use Rattle.sg_coord.specs.Coord.{is_inside, row_of, point_at}
use Rattle.sg_layout.specs.declared.shape.Shape.{Shape}
use Rattle.sg_layout.specs.Axes.{bounds_of_shape}
use Rattle.sg_layout.specs.ClosureLaws.{ClosureIsInside}
use Rattle.sg_layout.specs.Need.{FullNode, first_full}
use Rattle.sg_flat.specs.declared.state.FlatState.{FlatState}
use Rattle.sg_flat.specs.State.{IsFlatLayout, AreFlatLayouts, value_in}
use Rattle.sg_flat.specs.Words.{word_at, words_of}
use Rattle.sg_flat.proofs.Uses.{word_at-words_of}
use Rattle.sg_snapshot.specs.declared.part.Part.{Part}
use Rattle.sg_snapshot.specs.declared.fault.SnapFault.{SnapFault}
use Rattle.sg_snapshot.specs.declared.fault.SnapFault.TheVariants.{NotClosed}
use Rattle.sg_snapshot.specs.Numbers.{numbers_of}
use Rattle.sg_snapshot.specs.Image.{part_of, parts_of}
use Rattle.sg_snapshot.specs.Parts.{Frame, frame_of, frames_of, are_rows, IsPart, AreParts, part_numbers, parts_numbers, parts_bytes, parts_in, behind_mark, counted_parts}
use Rattle.sg_snapshot.specs.Restoring.{points_in, word_beside, layout_of, layouts_of, is_closed, full_fault, first_open, first_too_full, state_of}
use Rattle.sg_snapshot.specs.SnapLaws.{Fits, IsImageOf, RestoredIsImage}
use Rattle.sg_snapshot.specs.steps.Laying.{IsLaid, beside_from}
use Rattle.sg_snapshot.proofs.PartsBack.{mark_found, rest_small, counted_found, parts_go_back, mark}
use Rattle.sg_snapshot.proofs.Laying.{PointLaws, laid_is_flat}
use Rattle.sg_snapshot.proofs.Besides.{laid_is_layout}
use Rattle.sg_snapshot.proofs.Openings.{rows_back, rows_below, tested_closed}

-- ---- small numbers
abbrev IsSmall : ℕ → Type 0
IsSmall number = number < 2 ^ 32

abbrev AreBytes : List ℕ → Type 0
AreBytes bytes = All (λ byte. byte < 256) bytes

with_more : (number : ℕ) (o : Option (List ℕ)) (numbers : List ℕ) → IsSmall number → ((more : List ℕ) → o ≡ Some more → All IsSmall more) → option_map (λ (more : List ℕ). number ∷ more) o ≡ Some numbers → All IsSmall numbers
with_more number None numbers small rest e = absurd (cc)
with_more number (Some more) numbers small rest e =
    let same : number ∷ more ≡ numbers = cc in
    subst (All IsSmall) same (All-cons IsSmall number more small (rest more refl))

numbers_small : (bytes numbers : List ℕ) → AreBytes bytes → numbers_of bytes ≡ Some numbers → All IsSmall numbers
numbers_small [] numbers small e = let none : [] ≡ numbers = cc in subst (All IsSmall) none (All-nil IsSmall)
numbers_small (a ∷ []) numbers small e = absurd (cc)
numbers_small (a ∷ (b ∷ [])) numbers small e = absurd (cc)
numbers_small (a ∷ (b ∷ (c ∷ []))) numbers small e = absurd (cc)
numbers_small (a ∷ (b ∷ (c ∷ (d ∷ bytes)))) numbers small e =
    let P : ℕ → Type 0 = λ byte. byte < 256 in
    let one = All-tail P a (b ∷ (c ∷ (d ∷ bytes))) small in
    let two = All-tail P b (c ∷ (d ∷ bytes)) one in
    let three = All-tail P c (d ∷ bytes) two in
    let pa = All-head P a (b ∷ (c ∷ (d ∷ bytes))) small in
    let pb = All-head P b (c ∷ (d ∷ bytes)) one in
    let pc = All-head P c (d ∷ bytes) two in
    let pd = All-head P d bytes three in
    with_more (a + 256 * b + 65536 * c + 16777216 * d) (numbers_of bytes) numbers (omega arith) (λ more is. numbers_small bytes more (All-tail P d bytes three) is) e

all_small : (frames : List Frame) (bytes : List ℕ) (parts : List Part) → AreBytes bytes → parts_in frames bytes ≡ Some parts → All IsSmall (parts_numbers parts)
all_small frames bytes parts small e =
    option_and_then_some (λ (rest : List ℕ). numbers_of rest >>= counted_parts frames) (behind_mark bytes) parts e (λ rest marked more.
    option_and_then_some (counted_parts frames) (numbers_of rest) parts more (λ numbers read last.
    All-tail IsSmall (length parts) (parts_numbers parts)
    (subst (All IsSmall) (sym (counted_found frames numbers parts last).1) (numbers_small rest numbers (rest_small mark rest bytes (mark_found bytes rest marked) small) read))))

front_small : (front rest : List ℕ) → All IsSmall (front ++ rest) → All IsSmall front
front_small [] rest all = All-nil IsSmall
front_small (x ∷ front) rest all = All-cons IsSmall x front (All-head IsSmall x (front ++ rest) all) (front_small front rest (All-tail IsSmall x (front ++ rest) all))

later_small : (front rest : List ℕ) → All IsSmall (front ++ rest) → All IsSmall rest
later_small [] rest all = all
later_small (x ∷ front) rest all = later_small front rest (All-tail IsSmall x (front ++ rest) all)

list_small : (lists : List (List ℕ)) (place : ℕ) → All IsSmall (concat lists) → All IsSmall (get_or lists place [])
list_small [] place all = All-nil IsSmall
list_small (first ∷ lists) zero all = front_small first (concat lists) all
list_small (first ∷ lists) (suc place) all = list_small lists place (later_small first (concat lists) all)

words_small : (part : Part) (rest : List ℕ) (place : ℕ) → All IsSmall (part_numbers part ++ rest) → All IsSmall (get_or part.words place [])
words_small part rest place all =
    list_small part.words place (later_small part.rows (concat part.words) (All-tail IsSmall (length part.rows) (part.rows ++ concat part.words) (front_small (part_numbers part) rest all)))

-- ---- the words beside rows
beside_small : (rows words : List ℕ) (row : ℕ) → All IsSmall words → IsSmall (word_beside rows words row)
beside_small [] words row all = omega arith
beside_small (other ∷ rows) [] row all = omega arith
beside_small (other ∷ rows) (word ∷ words) row all = by_test (eqb other row) (beside_small rows words row (All-tail IsSmall word words all))
  where
    by_test : (t : Bool) → IsSmall (word_beside rows words row) → IsSmall (cond t word (word_beside rows words row))
    by_test true later = All-head IsSmall word words all
    by_test false later = later

beside_there : (rows words : List ℕ) (row : ℕ) → word_beside rows words row ≢ 0 → Contains rows row
beside_there [] words row some = absurd (some refl)
beside_there (other ∷ rows) [] row some = absurd (some refl)
beside_there (other ∷ rows) (word ∷ words) row some = by_test (eqb other row) refl some (beside_there rows words row)
  where
    by_test : (t : Bool) → eqb other row ≡ t → cond t word (word_beside rows words row) ≢ 0 → (word_beside rows words row ≢ 0 → Contains rows row) → Contains (other ∷ rows) row
    by_test true is _ _ = contains_head row other rows (eqb-true other row is)
    by_test false is more later = contains_rest row other rows (later more)

-- rows behind a lower one have the same words without it
beside_later : (least size row word : ℕ) (rows words some : List ℕ) → row < least → are_rows least size some ≡ true → map (word_beside (row ∷ rows) (word ∷ words)) some ≡ map (word_beside rows words) some
beside_later least size row word rows words [] low rise = refl
beside_later least size row word rows words (one ∷ some) low rise =
    let first = and_parts (leb least one) (ltb one size && are_rows (suc one) size some) rise in
    let second = and_parts (ltb one size) (are_rows (suc one) size some) first.1 in
    let from = leb-true least one first.0 in
    ap₂ (λ (x : ℕ) (xs : List ℕ). x ∷ xs)
    (cond-false (eqb row one) word (word_beside rows words one) (ne_eqb row one (λ same. omega arith)))
    (beside_later (suc one) size row word rows words some (omega arith) second.1)

-- the words beside all rows are these words
beside_all : (least size : ℕ) (rows words : List ℕ) → are_rows least size rows ≡ true → length words ≡ length rows → map (word_beside rows words) rows ≡ words
beside_all least size [] [] rise many = refl
beside_all least size [] (word ∷ words) rise many = absurd (omega arith)
beside_all least size (row ∷ rows) [] rise many = absurd (omega arith)
beside_all least size (row ∷ rows) (word ∷ words) rise many =
    let first = and_parts (leb least row) (ltb row size && are_rows (suc row) size rows) rise in
    let second = and_parts (ltb row size) (are_rows (suc row) size rows) first.1 in
    ap₂ (λ (x : ℕ) (xs : List ℕ). x ∷ xs)
    (cond-true (eqb row row) word (word_beside rows words row) (eq-eqb row row refl))
    (beside_later (suc row) size row word rows words rows (omega arith) second.1 ∙ beside_all (suc row) size rows words second.1 (omega arith))

-- ---- a part is that of its layout
values_back : PointLaws → (b : Bounds) (f : ℕ → ℕ) (rows : List ℕ) → All (λ row. row < volume b) rows → map (value_in b (words_of (volume b) f)) (map (point_at b) rows) ≡ map f rows
values_back laws b f [] below = refl
values_back laws b f (row ∷ rows) below =
    let low = All-head (λ (r : ℕ). r < volume b) row rows below in
    let point = point_at b row in
    ap₂ (λ (x : ℕ) (xs : List ℕ). x ∷ xs)
    (cond-true (is_inside b point) (word_at (words_of (volume b) f) (row_of b point)) 0 ((laws.inside_test b point).1 (laws.point_inside b row low))
    ∙ ap (word_at (words_of (volume b) f)) (laws.row_of_point b row low) ∙ word_at-words_of (volume b) f row low)
    (values_back laws b f rows (All-tail (λ (r : ℕ). r < volume b) row rows below))

lists_back : PointLaws → (b : Bounds) (rows : List ℕ) (lists : List (List ℕ)) → are_rows 0 (volume b) rows ≡ true → All (λ row. row < volume b) rows → All (λ list. length list ≡ length rows) lists
    → map (λ (words : List (ℕ × ℕ)). map (value_in b words) (map (point_at b) rows)) (map (λ (list : List ℕ). words_of (volume b) (word_beside rows list)) lists) ≡ lists
lists_back laws b rows [] rise below each = refl
lists_back laws b rows (list ∷ lists) rise below each =
    ap₂ (λ (x : List ℕ) (xs : List (List ℕ)). x ∷ xs)
    (values_back laws b (word_beside rows list) rows below ∙ beside_all 0 (volume b) rows list rise (All-head (λ (l : List ℕ). length l ≡ length rows) list lists each))
    (lists_back laws b rows lists rise below (All-tail (λ (l : List ℕ). length l ≡ length rows) list lists each))

part_with : List ℕ → List (List ℕ) → Part
part_with rows words = record { rows = rows; words = words }

part_back : PointLaws → (shape : Shape) (part : Part) → IsPart (frame_of shape) part → part_of shape (layout_of shape part) ≡ part
unfolding part_with
part_back laws shape part is =
    let b = bounds_of_shape shape in
    ap₂ part_with (rows_back laws.row_of_point b part.rows (rows_below shape part is)) (lists_back laws b part.rows part.words is.rows (rows_below shape part is) is.words)

parts_back : PointLaws → (shapes : List Shape) (parts : List Part) → AreParts (frames_of shapes) parts → parts_of shapes (layouts_of shapes parts) ≡ parts
parts_back laws [] [] are = refl
parts_back laws [] (part ∷ parts) are = absurd are
parts_back laws (shape ∷ shapes) [] are = absurd are
parts_back laws (shape ∷ shapes) (part ∷ parts) are = ap₂ (λ (x : Part) (xs : List Part). x ∷ xs) (part_back laws shape part are.0) (parts_back laws shapes parts are.1)

-- ---- a part that is closed has a flat layout
abbrev InsideLaw : Type 0
InsideLaw = (shape : Shape) → ClosureIsInside shape

layout_flat : PointLaws → InsideLaw → (shape : Shape) (part : Part) (rest : List ℕ) → IsPart (frame_of shape) part → is_closed shape part ≡ true → All IsSmall (part_numbers part ++ rest) → IsFlatLayout shape (layout_of shape part)
layout_flat laws inside shape part rest is closed small =
    let is_laid : IsLaid shape (points_in shape part) (beside_from part 0) = record {
      closed = sym (tested_closed laws.point_of_row shape part (inside shape) closed);
      there = λ place row _ _ some. into_map (point_at (bounds_of_shape shape)) part.rows row (beside_there part.rows (get_or part.words place []) row some);
      small = λ place row _. beside_small part.rows (get_or part.words place []) row (words_small part rest place small);
    } in
    subst (IsFlatLayout shape) (laid_is_layout shape part is) (laid_is_flat shape (points_in shape part) (beside_from part 0) is_laid)

head_closed : (shape : Shape) (part : Part) (number : ℕ) (later : Option SnapFault) → cond (is_closed shape part) later (Some (NotClosed number)) ≡ None → (is_closed shape part ≡ true) × (later ≡ None)
head_closed shape part number later none = by_test (is_closed shape part) none
  where
    by_test : (t : Bool) → cond t later (Some (NotClosed number)) ≡ None → (t ≡ true) × (later ≡ None)
    by_test true e = (refl, e)
    by_test false e = absurd (cc)

layouts_flat : PointLaws → InsideLaw → (shapes : List Shape) (parts : List Part) (number : ℕ) → AreParts (frames_of shapes) parts → first_open number shapes parts ≡ None → All IsSmall (parts_numbers parts) → AreFlatLayouts shapes (layouts_of shapes parts)
layouts_flat laws inside [] [] number are none small = tt
layouts_flat laws inside [] (part ∷ parts) number are none small = absurd are
layouts_flat laws inside (shape ∷ shapes) [] number are none small = absurd are
layouts_flat laws inside (shape ∷ shapes) (part ∷ parts) number are none small =
    let closed = head_closed shape part number (first_open (suc number) shapes parts) none in
    (layout_flat laws inside shape part (parts_numbers parts) are.0 closed.0 small, layouts_flat laws inside shapes parts (suc number) are.1 closed.1 (later_small (part_numbers part) (parts_numbers parts) small))

none_full : (number : ℕ) (o : Option FullNode) → full_fault number o ≡ None → o ≡ None
none_full number None is = refl
none_full number (Some full) is = absurd (cc)

layouts_fit : (shapes : List Shape) (parts : List Part) (number : ℕ) → AreParts (frames_of shapes) parts → first_too_full number shapes parts ≡ None → Fits shapes (layouts_of shapes parts)
layouts_fit [] [] number are none = tt
layouts_fit [] (part ∷ parts) number are none = absurd are
layouts_fit (shape ∷ shapes) [] number are none = absurd are
layouts_fit (shape ∷ shapes) (part ∷ parts) number are none =
    let both = neither (full_fault number (first_full shape (points_in shape part))) (first_too_full (suc number) shapes parts) none in
    (none_full number (first_full shape (points_in shape part)) both.0, layouts_fit shapes parts (suc number) are.1 both.1)

of_parts : PointLaws → InsideLaw → (shapes : List Shape) (state : FlatState) (bytes : List ℕ) (o : Option (List Part)) → AreBytes bytes → parts_in (frames_of shapes) bytes ≡ o → state_of shapes o ≡ Ok state → IsImageOf shapes state bytes
of_parts laws inside shapes state bytes None small read e = absurd (cc)
of_parts laws inside shapes state bytes (Some parts) small read e =
    let whole : FlatState = record { layouts = layouts_of shapes parts } in
    let first = fault_or-ok (first_open 0 shapes parts) (fault_or (first_too_full 0 shapes parts) (Ok whole)) state e in
    let second = fault_or-ok (first_too_full 0 shapes parts) (Ok whole) state first.1 in
    let same : whole ≡ state = (let last = second.1 in cc) in
    let back = parts_go_back (frames_of shapes) parts bytes small read in
    subst (λ (s : FlatState). IsImageOf shapes s bytes) same (record {
      flat = layouts_flat laws inside shapes parts 0 back.0 first.0 (all_small (frames_of shapes) bytes parts small read);
      fits = layouts_fit shapes parts 0 back.0 second.0;
      image = ap parts_bytes (parts_back laws shapes parts back.0) ∙ back.1;
    })

pub restored_image : PointLaws → InsideLaw → RestoredIsImage
restored_image laws inside shapes state bytes accepted small e = of_parts laws inside shapes state bytes (parts_in (frames_of shapes) bytes) small refl e
