-- Bytes that are read as parts are the bytes of these parts.
use Rattle.std.proofs.Common.{◌≡◌, ℕ, zero, suc, ◌+◌, ◌*◌, ◌/◌, ◌%◌, ◌<◌, Bool, true, false, List, [], ◌∷◌, ◌++◌, length, Option, Some, None, refl, sym, ap, ap₂, ◌∙◌, subst, arith, rules, append_assoc, codes}
use Rattle.std.specs.Prelude.{take, drop, All, option_map, nat_le, ◌==◌}
use Rattle.std.specs.List.{concat}
use Rattle.std.specs.Str.{bytes_eq}
use Rattle.std.proofs.lemmas.Bool.{leb-true, eqb-true}
use Rattle.std.proofs.lemmas.Slice.Eq.{bytes_eq-Decides}
use Rattle.std.proofs.lemmas.Option.{option_and_then_some, some_pair_parts}
use Rattle.std.proofs.lemmas.List.{take-append-drop, length-take-le}
use Rattle.std.proofs.lemmas.List.Elements.{All-cons, All-head, All-tail}
use Rattle.sg_snapshot.specs.Numbers.{number_bytes, bytes_of, numbers_of}
use Rattle.sg_words.specs.Options.{◌>>=◌, only_if}
use Rattle.sg_snapshot.specs.declared.part.Part.{Part}
use Rattle.sg_snapshot.specs.Parts.{Frame, part_numbers, parts_numbers, cut_at, cut_lists, are_rows, part_front, parts_read, counted_parts, behind_mark, parts_in, IsPart, AreParts}
use Rattle.sg_snapshot.specs.FormLaws.{NumbersOfBytes, BytesOfParts}
use Rattle.sg_snapshot.proofs.PartsRead.{Lists, with_first, after_first, with_rows, after_rows, with_part, after_part}

-- what a test that passed lets through
only_some : {A : Type 0} (b : Bool) (o : Option A) (y : A) → only_if b o ≡ Some y → (b ≡ true) × (o ≡ Some y)
only_some true o y e = (refl, e)
only_some false o y e = absurd (cc)

-- ---- numbers

abbrev IsSmall : List ℕ → Type 0
IsSmall bytes = All (λ byte. byte < 256) bytes

abbrev value : (a b c d : ℕ) → ℕ
value a b c d = a + 256 * b + 65536 * c + 16777216 * d

four_back : (a b c d : ℕ) → a < 256 → b < 256 → c < 256 → d < 256 → number_bytes (value a b c d) ≡ a ∷ (b ∷ (c ∷ (d ∷ [])))
four_back a b c d pa pb pc pd =
    let first : (a + 256 * b + 65536 * c + 16777216 * d) % 256 ≡ a = omega arith in
    let second : (a + 256 * b + 65536 * c + 16777216 * d) / 256 % 256 ≡ b = omega arith in
    let third : (a + 256 * b + 65536 * c + 16777216 * d) / 65536 % 256 ≡ c = omega arith in
    let fourth : (a + 256 * b + 65536 * c + 16777216 * d) / 16777216 % 256 ≡ d = omega arith in
    ap (λ (x : ℕ). x ∷ ((value a b c d / 256 % 256) ∷ ((value a b c d / 65536 % 256) ∷ ((value a b c d / 16777216 % 256) ∷ [])))) first
    ∙ ap (λ (x : ℕ). a ∷ (x ∷ ((value a b c d / 65536 % 256) ∷ ((value a b c d / 16777216 % 256) ∷ [])))) second
    ∙ ap (λ (x : ℕ). a ∷ (b ∷ (x ∷ ((value a b c d / 16777216 % 256) ∷ [])))) third
    ∙ ap (λ (x : ℕ). a ∷ (b ∷ (c ∷ (x ∷ [])))) fourth

one_more : (a b c d : ℕ) (bytes numbers : List ℕ) → a < 256 → b < 256 → c < 256 → d < 256
    → ((more : List ℕ) → numbers_of bytes ≡ Some more → bytes_of more ≡ bytes)
    → (o : Option (List ℕ)) → numbers_of bytes ≡ o → option_map (λ (more : List ℕ). value a b c d ∷ more) o ≡ Some numbers
    → bytes_of numbers ≡ a ∷ (b ∷ (c ∷ (d ∷ bytes)))
one_more a b c d bytes numbers pa pb pc pd back None is e = absurd (cc)
one_more a b c d bytes numbers pa pb pc pd back (Some more) is e =
    let same : value a b c d ∷ more ≡ numbers = cc in
    subst (λ (list : List ℕ). bytes_of list ≡ a ∷ (b ∷ (c ∷ (d ∷ bytes)))) same
    (ap (λ (front : List ℕ). front ++ bytes_of more) (four_back a b c d pa pb pc pd) ∙ ap (λ (rest : List ℕ). a ∷ (b ∷ (c ∷ (d ∷ rest)))) (back more is))

pub numbers_back : NumbersOfBytes
numbers_back [] numbers small e =
    let none : [] ≡ numbers = cc in
    subst (λ (list : List ℕ). bytes_of list ≡ []) none refl
numbers_back (a ∷ []) numbers small e = absurd (cc)
numbers_back (a ∷ (b ∷ [])) numbers small e = absurd (cc)
numbers_back (a ∷ (b ∷ (c ∷ []))) numbers small e = absurd (cc)
numbers_back (a ∷ (b ∷ (c ∷ (d ∷ bytes)))) numbers small e =
    let P : ℕ → Type 0 = λ byte. byte < 256 in
    let one : IsSmall (b ∷ (c ∷ (d ∷ bytes))) = All-tail P a (b ∷ (c ∷ (d ∷ bytes))) small in
    let two : IsSmall (c ∷ (d ∷ bytes)) = All-tail P b (c ∷ (d ∷ bytes)) one in
    let three : IsSmall (d ∷ bytes) = All-tail P c (d ∷ bytes) two in
    one_more a b c d bytes numbers (All-head P a (b ∷ (c ∷ (d ∷ bytes))) small) (All-head P b (c ∷ (d ∷ bytes)) one) (All-head P c (d ∷ bytes) two) (All-head P d bytes three)
    (λ more is. numbers_back bytes more (All-tail P d bytes three) is) (numbers_of bytes) refl e

-- ---- parts

cut_found : (count : ℕ) (numbers : List ℕ) (cut : List ℕ × List ℕ) → cut_at count numbers ≡ Some cut → (cut.0 ++ cut.1 ≡ numbers) × (length cut.0 ≡ count)
cut_found count numbers cut e =
    let found = only_some (nat_le count (length numbers)) (let out : Option (List ℕ × List ℕ) = Some (take count numbers, drop count numbers) in out) cut e in
    let parts = some_pair_parts (take count numbers) cut.0 (drop count numbers) cut.1 found.1 in (
      ap₂ (λ (x y : List ℕ). x ++ y) (sym parts.0) (sym parts.1) ∙ take-append-drop count numbers,
      ap (λ (list : List ℕ). length list) (sym parts.0) ∙ length-take-le count numbers (leb-true count (length numbers) found.0),
    )

record AreCut (fields count : ℕ) (numbers : List ℕ) (cut : Lists) : Type 0 where
  whole : concat cut.0 ++ cut.1 ≡ numbers
  many : length cut.0 ≡ fields
  each : All (λ list. length list ≡ count) cut.0

lists_found : (fields count : ℕ) (numbers : List ℕ) (cut : Lists) → cut_lists fields count numbers ≡ Some cut → AreCut fields count numbers cut
lists_found zero count numbers cut e =
    let none : Lists = ([], numbers) in
    let same : none ≡ cut = cc in
    subst (AreCut zero count numbers) same (record { whole = refl; many = refl; each = search rules })
lists_found (suc fields) count numbers cut e =
    option_and_then_some (after_first fields count) (cut_at count numbers) cut e (λ first is more.
    option_and_then_some (with_first first.0) (cut_lists fields count first.1) cut more (λ rest at last.
    let front = cut_found count numbers first is in
    let later = lists_found fields count first.1 rest at in
    let all : Lists = (first.0 ∷ rest.0, rest.1) in
    let same : all ≡ cut = cc in
    subst (AreCut (suc fields) count numbers) same (record {
      whole = append_assoc first.0 (concat rest.0) rest.1 ∙ ap (λ (list : List ℕ). first.0 ++ list) later.whole ∙ front.0;
      many = ap suc later.many;
      each = All-cons (λ (list : List ℕ). length list ≡ count) first.0 rest.0 front.1 later.each;
    })))

record HasPart (frame : Frame) (numbers : List ℕ) (found : Part × List ℕ) : Type 0 where
  is : IsPart frame found.0
  whole : part_numbers found.0 ++ found.1 ≡ numbers

part_found : (frame : Frame) (numbers : List ℕ) (found : Part × List ℕ) → part_front frame numbers ≡ Some found → HasPart frame numbers found
part_found frame [] found e = absurd (cc)
part_found frame (count ∷ numbers) found e =
    option_and_then_some (after_rows frame count) (cut_at count numbers) found e (λ rows is more.
    let tested = only_some (are_rows 0 frame.volume rows.0) (cut_lists frame.fields count rows.1 >>= with_rows rows.0) found more in
    option_and_then_some (with_rows rows.0) (cut_lists frame.fields count rows.1) found tested.1 (λ words at last.
    let front = cut_found count numbers rows is in
    let later = lists_found frame.fields count rows.1 words at in
    let all : Part × List ℕ = (record { rows = rows.0; words = words.0 }, words.1) in
    let same : all ≡ found = cc in
    subst (HasPart frame (count ∷ numbers)) same (record {
      is = record { rows = tested.0; fields = later.many; words = subst (λ (n : ℕ). All (λ list. length list ≡ n) words.0) (sym front.1) later.each };
      whole = ap₂ (λ (n : ℕ) (list : List ℕ). n ∷ list) front.1 (append_assoc rows.0 (concat words.0) words.1 ∙ ap (λ (list : List ℕ). rows.0 ++ list) later.whole ∙ front.0);
    })))

record HasParts (frames : List Frame) (numbers : List ℕ) (parts : List Part) : Type 0 where
  are : AreParts frames parts
  whole : parts_numbers parts ≡ numbers

parts_found : (frames : List Frame) (numbers : List ℕ) (parts : List Part) → parts_read frames numbers ≡ Some parts → HasParts frames numbers parts
parts_found [] [] parts e =
    let none : [] ≡ parts = cc in
    subst (HasParts [] []) none (record { are = tt; whole = refl })
parts_found [] (number ∷ numbers) parts e = absurd (cc)
parts_found (frame ∷ frames) numbers parts e =
    option_and_then_some (after_part frames) (part_front frame numbers) parts e (λ found is more.
    option_and_then_some (with_part found.0) (parts_read frames found.1) parts more (λ rest at last.
    let front = part_found frame numbers found is in
    let later = parts_found frames found.1 rest at in
    let same : found.0 ∷ rest ≡ parts = cc in
    subst (HasParts (frame ∷ frames) numbers) same (record {
      are = (front.is, later.are);
      whole = ap (λ (list : List ℕ). part_numbers found.0 ++ list) later.whole ∙ front.whole;
    })))

as_many : (frames : List Frame) (parts : List Part) → AreParts frames parts → length parts ≡ length frames
as_many [] [] are = refl
as_many [] (part ∷ parts) are = absurd are
as_many (frame ∷ frames) [] are = absurd are
as_many (frame ∷ frames) (part ∷ parts) are = ap suc (as_many frames parts are.1)

-- ---- bytes

abbrev pub mark : List ℕ
mark = codes "SGS1"

pub mark_found : (bytes rest : List ℕ) → behind_mark bytes ≡ Some rest → mark ++ rest ≡ bytes
mark_found bytes rest e =
    let found = only_some (bytes_eq (codes "SGS1") (take 4 bytes)) (let out : Option (List ℕ) = Some (drop 4 bytes) in out) rest e in
    let front : take 4 bytes ≡ codes "SGS1" = sym ((bytes_eq-Decides (codes "SGS1") (take 4 bytes)).0 found.0) in
    let behind : drop 4 bytes ≡ rest = cc in
    ap₂ (λ (x y : List ℕ). x ++ y) (sym front) (sym behind) ∙ take-append-drop 4 bytes

-- what stands behind small bytes is small
pub rest_small : (front rest bytes : List ℕ) → front ++ rest ≡ bytes → IsSmall bytes → IsSmall rest
rest_small [] rest bytes e small = subst IsSmall (sym e) small
rest_small (x ∷ front) rest bytes e small =
    rest_small front rest (front ++ rest) refl (All-tail (λ (byte : ℕ). byte < 256) x (front ++ rest) (subst IsSmall (sym e) small))

pub counted_found : (frames : List Frame) (numbers : List ℕ) (parts : List Part) → counted_parts frames numbers ≡ Some parts → AreParts frames parts × (length parts ∷ parts_numbers parts ≡ numbers)
counted_found frames [] parts e = absurd (cc)
counted_found frames (count ∷ numbers) parts e =
    let found = only_some (count == length frames) (parts_read frames numbers) parts e in
    let read = parts_found frames numbers parts found.1 in
    let same : length parts ≡ count = as_many frames parts read.are ∙ sym (eqb-true count (length frames) found.0) in
    (read.are, ap₂ (λ (n : ℕ) (list : List ℕ). n ∷ list) same read.whole)

pub parts_go_back : BytesOfParts
parts_go_back frames parts bytes small e =
    option_and_then_some (λ (rest : List ℕ). numbers_of rest >>= counted_parts frames) (behind_mark bytes) parts e (λ rest marked more.
    option_and_then_some (counted_parts frames) (numbers_of rest) parts more (λ numbers read last.
    let front = mark_found bytes rest marked in
    let found = counted_found frames numbers parts last in
    (found.0, ap (λ (list : List ℕ). mark ++ bytes_of list) found.1 ∙ ap (λ (list : List ℕ). mark ++ list) (numbers_back rest numbers (rest_small mark rest bytes front small) read) ∙ front)))

-- what is read are parts of the layouts, whatever the bytes
pub parts_are : (frames : List Frame) (bytes : List ℕ) (parts : List Part) → parts_in frames bytes ≡ Some parts → AreParts frames parts
parts_are frames bytes parts e =
    option_and_then_some (λ (rest : List ℕ). numbers_of rest >>= counted_parts frames) (behind_mark bytes) parts e (λ rest marked more.
    option_and_then_some (counted_parts frames) (numbers_of rest) parts more (λ numbers read last. (counted_found frames numbers parts last).0))
