-- What is read from the front of bytes and of numbers, step by step.
use Rattle.std.proofs.Common.{◌≡◌, ℕ, suc, ◌+◌, ◌*◌, ◌-◌, ◌<◌, ◌≤◌, Bool, true, false, ◌&&◌, leb, ltb, eqb, List, [], ◌∷◌, ◌++◌, length, get_or, Option, Some, None, refl, sym, ap, ◌∙◌, arith, append_assoc, add-one, length-drop, codes, inl, inr}
use Rattle.std.specs.Prelude.{take, drop, option_map}
use Rattle.std.specs.Str.{bytes_eq}
use Rattle.std.proofs.lemmas.Bool.{le-leb, lt-leb, lt-ltb, le-ltb, eq-eqb, eqb-true, cases_eq, both_ways}
use Rattle.std.proofs.lemmas.List.{append-nil, drop_more, drop_all, drop-drop}
use Rattle.sg_words.specs.Options.{◌>>=◌, only_if}
use Rattle.sg_layout.specs.declared.shape.Shape.{Shape}
use Rattle.sg_snapshot.specs.declared.part.Part.{Part}
use Rattle.sg_snapshot.specs.Numbers.{numbers_of}
use Rattle.sg_snapshot.specs.Parts.{Frame, frame_of, frames_of, cut_at, cut_lists, are_rows, part_front, parts_read, counted_parts, parts_in}
use Rattle.sg_snapshot.proofs.PartsRead.{Lists, with_first, after_first, with_rows, after_rows, with_part, after_part, some_pair}

-- ---- lists that grow in front of what is left
grow : {X : Type 0} (done : List X) (x : X) (left : Option (List X)) → option_map (λ (more : List X). done ++ more) (option_map (λ (more : List X). x ∷ more) left) ≡ option_map (λ (more : List X). (done ++ x ∷ []) ++ more) left
grow done x None = refl
grow {X} done x (Some more) = ap (λ (l : List X). let out : Option (List X) = Some l in out) (sym (append_assoc done (x ∷ []) more))

ended : {X : Type 0} (done : List X) (whole : Option (List X)) → option_map (λ (more : List X). done ++ more) (Some []) ≡ whole → Some done ≡ whole
ended {X} done whole e = ap (λ (l : List X). let out : Option (List X) = Some l in out) (sym (append-nil done)) ∙ e

none_left : {X : Type 0} (done : List X) (left whole : Option (List X)) → left ≡ None → option_map (λ (more : List X). done ++ more) left ≡ whole → None ≡ whole
none_left {X} done left whole none e = sym (ap (λ (o : Option (List X)). option_map (λ (more : List X). done ++ more) o) none) ∙ e

pub not_begun : {X : Type 0} (done : List X) (left : Option (List X)) → done ≡ [] → option_map (λ (more : List X). done ++ more) left ≡ left
not_begun {X} done left none = ap (λ (l : List X). option_map (λ (more : List X). l ++ more) left) none ∙ by_left left
  where
    by_left : (o : Option (List X)) → option_map (λ (more : List X). [] ++ more) o ≡ o
    by_left None = refl
    by_left (Some more) = refl

abbrev some_list : {X : Type 0} → List X → Option (List X)
some_list l = Some l

-- ---- numbers from bytes
abbrev pub value : (a b c d : ℕ) → ℕ
value a b c d = a + 256 * b + 65536 * c + 16777216 * d

four_more : (bytes : List ℕ) (k : ℕ) → k + 4 ≤ length bytes → drop k bytes ≡ get_or bytes k 0 ∷ (get_or bytes (k + 1) 0 ∷ (get_or bytes (k + 2) 0 ∷ (get_or bytes (k + 3) 0 ∷ drop (k + 4) bytes)))
four_more bytes k within =
    let two : (k + 1) + 1 ≡ k + 2 = omega arith in
    let three : (k + 2) + 1 ≡ k + 3 = omega arith in
    let four : (k + 3) + 1 ≡ k + 4 = omega arith in
    drop_more bytes k 0 (omega arith)
    ∙ ap (λ (l : List ℕ). get_or bytes k 0 ∷ l)
    (drop_more bytes (k + 1) 0 (omega arith)
    ∙ ap (λ (l : List ℕ). get_or bytes (k + 1) 0 ∷ l)
    (ap (λ (n : ℕ). drop n bytes) two ∙ drop_more bytes (k + 2) 0 (omega arith)
    ∙ ap (λ (l : List ℕ). get_or bytes (k + 2) 0 ∷ l)
    (ap (λ (n : ℕ). drop n bytes) three ∙ drop_more bytes (k + 3) 0 (omega arith)
    ∙ ap (λ (l : List ℕ). get_or bytes (k + 3) 0 ∷ l) (ap (λ (n : ℕ). drop n bytes) four))))

pub number_more : (bytes done : List ℕ) (i number : ℕ) (whole : Option (List ℕ)) → 4 * i + 4 ≤ length bytes
    → number ≡ value (get_or bytes (4 * i) 0) (get_or bytes (4 * i + 1) 0) (get_or bytes (4 * i + 2) 0) (get_or bytes (4 * i + 3) 0)
    → option_map (λ (more : List ℕ). done ++ more) (numbers_of (drop (4 * i) bytes)) ≡ whole
    → option_map (λ (more : List ℕ). (done ++ number ∷ []) ++ more) (numbers_of (drop (4 * (i + 1)) bytes)) ≡ whole
number_more bytes done i number whole within is so_far =
    let next : 4 * i + 4 ≡ 4 * (i + 1) = omega arith in
    let word = value (get_or bytes (4 * i) 0) (get_or bytes (4 * i + 1) 0) (get_or bytes (4 * i + 2) 0) (get_or bytes (4 * i + 3) 0) in
    ap (λ (n : ℕ). option_map (λ (more : List ℕ). (done ++ n ∷ []) ++ more) (numbers_of (drop (4 * (i + 1)) bytes))) is
    ∙ sym (grow done word (numbers_of (drop (4 * (i + 1)) bytes)))
    ∙ ap (λ (k : ℕ). option_map (λ (more : List ℕ). done ++ more) (option_map (λ (more : List ℕ). word ∷ more) (numbers_of (drop k bytes)))) (sym next)
    ∙ ap (λ (l : List ℕ). option_map (λ (more : List ℕ). done ++ more) (numbers_of l)) (sym (four_more bytes (4 * i) within))
    ∙ so_far

short_none : (bytes : List ℕ) → 0 < length bytes → length bytes < 4 → numbers_of bytes ≡ None
short_none [] some few = absurd (omega arith)
short_none (a ∷ []) some few = refl
short_none (a ∷ (b ∷ [])) some few = refl
short_none (a ∷ (b ∷ (c ∷ []))) some few = refl
short_none (a ∷ (b ∷ (c ∷ (d ∷ bytes)))) some few = absurd (omega arith)

pub numbers_cut : (bytes done : List ℕ) (k : ℕ) → k < length bytes → length bytes < k + 4 → option_map (λ (more : List ℕ). done ++ more) (numbers_of (drop k bytes)) ≡ numbers_of bytes → None ≡ numbers_of bytes
numbers_cut bytes done k some few so_far =
    none_left done (numbers_of (drop k bytes)) (numbers_of bytes) (short_none (drop k bytes) (omega (arith, long)) (omega (arith, long))) so_far
  where
    long : length (drop k bytes) ≡ length bytes - k
    long = length-drop k bytes

pub numbers_whole : (bytes done : List ℕ) (k : ℕ) → length bytes ≤ k → option_map (λ (more : List ℕ). done ++ more) (numbers_of (drop k bytes)) ≡ numbers_of bytes → Some done ≡ numbers_of bytes
numbers_whole bytes done k past so_far =
    ended done (numbers_of bytes) (sym (ap (λ (l : List ℕ). option_map (λ (more : List ℕ). done ++ more) (numbers_of l)) (drop_all k bytes past)) ∙ so_far)

-- ---- the head of a list
pub head_and_rest : (numbers : List ℕ) → 0 < length numbers → numbers ≡ get_or (take 1 numbers) 0 0 ∷ drop 1 numbers
head_and_rest [] some = absurd (omega arith)
head_and_rest (number ∷ numbers) some = refl

pub is_some : (n : ℕ) → false ≡ eqb n 0 → 0 < n
is_some n test = elim (cases_eq n 0) [
  | inl none ↦ absurd (both_ways (eqb n 0) (sym test) (eq-eqb n 0 none))
  | inr some ↦ omega arith
]

pub is_none : (n : ℕ) → true ≡ eqb n 0 → n ≡ 0
is_none n test = eqb-true n 0 (sym test)

-- ---- what stands behind the mark and the count
pub unmarked : (frames : List Frame) (bytes : List ℕ) → false ≡ bytes_eq (codes "SGS1") (take 4 bytes) → None ≡ parts_in frames bytes
unmarked frames bytes fails = ap (λ (b : Bool). only_if b (some_list (drop 4 bytes)) >>= (λ (rest : List ℕ). numbers_of rest >>= counted_parts frames)) fails

pub marked : (frames : List Frame) (bytes rest : List ℕ) → true ≡ bytes_eq (codes "SGS1") (take 4 bytes) → rest ≡ drop 4 bytes → numbers_of rest >>= counted_parts frames ≡ parts_in frames bytes
marked frames bytes rest holds is =
    ap (λ (l : List ℕ). numbers_of l >>= counted_parts frames) is
    ∙ ap (λ (b : Bool). only_if b (some_list (drop 4 bytes)) >>= (λ (l : List ℕ). numbers_of l >>= counted_parts frames)) holds

pub uncounted : (frames : List Frame) (numbers : List ℕ) → true ≡ eqb (length numbers) 0 → None ≡ counted_parts frames numbers
uncounted frames [] none = refl
uncounted frames (number ∷ numbers) none = absurd (let e = is_none (suc (length numbers)) none in omega arith)

pub counted : (frames : List Frame) (numbers rest : List ℕ) (count : ℕ) → numbers ≡ count ∷ rest → count ≡ length frames → parts_read frames rest ≡ counted_parts frames numbers
counted frames numbers rest count is same =
    ap (λ (b : Bool). only_if b (parts_read frames rest)) (sym (eq-eqb count (length frames) same)) ∙ ap (counted_parts frames) (sym is)

-- ---- rows
pub rows_more : (rows : List ℕ) (i least volume : ℕ) → i < length rows → least ≤ get_or rows i 0 → get_or rows i 0 < volume → are_rows least volume (drop i rows) ≡ are_rows (get_or rows i 0 + 1) volume (drop (i + 1) rows)
rows_more rows i least volume below from small =
    let row = get_or rows i 0 in
    ap (are_rows least volume) (drop_more rows i 0 below)
    ∙ ap (λ (b : Bool). b && (ltb row volume && are_rows (suc row) volume (drop (i + 1) rows))) (le-leb least row from)
    ∙ ap (λ (b : Bool). b && are_rows (suc row) volume (drop (i + 1) rows)) (lt-ltb row volume small)
    ∙ ap (λ (n : ℕ). are_rows n volume (drop (i + 1) rows)) (sym (add-one row))

pub rows_low : (rows : List ℕ) (i least volume : ℕ) → i < length rows → get_or rows i 0 < least → are_rows least volume (drop i rows) ≡ false
rows_low rows i least volume below low =
    let row = get_or rows i 0 in
    ap (are_rows least volume) (drop_more rows i 0 below)
    ∙ ap (λ (b : Bool). b && (ltb row volume && are_rows (suc row) volume (drop (i + 1) rows))) (lt-leb least row low)

pub rows_high : (rows : List ℕ) (i least volume : ℕ) → i < length rows → volume ≤ get_or rows i 0 → are_rows least volume (drop i rows) ≡ false
rows_high rows i least volume below high =
    let row = get_or rows i 0 in
    ap (are_rows least volume) (drop_more rows i 0 below)
    ∙ ap (λ (b : Bool). leb least row && (b && are_rows (suc row) volume (drop (i + 1) rows))) (le-ltb row volume high)
    ∙ and_false (leb least row)
  where
    and_false : (b : Bool) → (b && false) ≡ false
    and_false true = refl
    and_false false = refl

pub rows_end : (rows : List ℕ) (i least volume : ℕ) → length rows ≤ i → are_rows least volume (drop i rows) ≡ true
rows_end rows i least volume past = ap (are_rows least volume) (drop_all i rows past)

-- ---- cuts
cut_none : (count : ℕ) (numbers : List ℕ) → length numbers < count → cut_at count numbers ≡ None
cut_none count numbers few = ap (λ (b : Bool). only_if b (some_pair (take count numbers) (drop count numbers))) (lt-leb count (length numbers) few)

cut_some : (count : ℕ) (numbers : List ℕ) → count ≤ length numbers → cut_at count numbers ≡ Some (take count numbers, drop count numbers)
cut_some count numbers many = ap (λ (b : Bool). only_if b (some_pair (take count numbers) (drop count numbers))) (le-leb count (length numbers) many)

-- ---- lists of numbers
abbrev pub lists_left : List (List ℕ) → Option Lists → Option Lists
lists_left done left = option_map (λ (more : Lists). (done ++ more.0, more.1)) left

abbrev some_lists : List (List ℕ) → List ℕ → Option Lists
some_lists lists rest = Some (lists, rest)

grow_lists : (done : List (List ℕ)) (first : List ℕ) (left : Option Lists) → lists_left done (left >>= with_first first) ≡ lists_left (done ++ first ∷ []) left
grow_lists done first None = refl
grow_lists done first (Some more) = ap (λ (l : List (List ℕ)). some_lists l more.1) (sym (append_assoc done (first ∷ []) more.0))

pub lists_begin : (done : List (List ℕ)) (left : Option Lists) → done ≡ [] → lists_left done left ≡ left
lists_begin done left none = ap (λ (l : List (List ℕ)). lists_left l left) none ∙ by_left left
  where
    by_left : (o : Option Lists) → lists_left [] o ≡ o
    by_left None = refl
    by_left (Some more) = refl

lists_step : (fields count : ℕ) (done : List (List ℕ)) (rest : List ℕ) → count ≤ length rest → lists_left done (cut_lists (suc fields) count rest) ≡ lists_left (done ++ take count rest ∷ []) (cut_lists fields count (drop count rest))
lists_step fields count done rest many =
    ap (λ (o : Option (List ℕ × List ℕ)). lists_left done (o >>= after_first fields count)) (cut_some count rest many)
    ∙ grow_lists done (take count rest) (cut_lists fields count (drop count rest))

pub lists_more : (fields k count : ℕ) (done done' : List (List ℕ)) (rest rest' : List ℕ) (whole : Option Lists) → k < fields → count ≤ length rest → done' ≡ done ++ take count rest ∷ [] → rest' ≡ drop count rest
    → lists_left done (cut_lists (fields - k) count rest) ≡ whole → lists_left done' (cut_lists (fields - (k + 1)) count rest') ≡ whole
lists_more fields k count done done' rest rest' whole below many pushed cut so_far =
    let one : suc (fields - (k + 1)) ≡ fields - k = omega arith in
    ap (λ (l : List (List ℕ)). lists_left l (cut_lists (fields - (k + 1)) count rest')) pushed
    ∙ ap (λ (l : List ℕ). lists_left (done ++ take count rest ∷ []) (cut_lists (fields - (k + 1)) count l)) cut
    ∙ sym (lists_step (fields - (k + 1)) count done rest many)
    ∙ ap (λ (n : ℕ). lists_left done (cut_lists n count rest)) one
    ∙ so_far

pub lists_none : (fields k count : ℕ) (done : List (List ℕ)) (rest : List ℕ) (whole : Option Lists) → k < fields → length rest < count → lists_left done (cut_lists (fields - k) count rest) ≡ whole → whole ≡ None
lists_none fields k count done rest whole below few so_far =
    let one : suc (fields - (k + 1)) ≡ fields - k = omega arith in
    sym so_far
    ∙ ap (λ (n : ℕ). lists_left done (cut_lists n count rest)) (sym one)
    ∙ ap (λ (o : Option (List ℕ × List ℕ)). lists_left done (o >>= after_first (fields - (k + 1)) count)) (cut_none count rest few)

pub lists_end : (fields k count used : ℕ) (done : List (List ℕ)) (rest numbers : List ℕ) (whole : Option Lists) → fields ≤ k → rest ≡ drop used numbers → lists_left done (cut_lists (fields - k) count rest) ≡ whole → whole ≡ Some (done, drop used numbers)
lists_end fields k count used done rest numbers whole past is so_far =
    let none : fields - k ≡ 0 = omega arith in
    sym so_far
    ∙ ap (λ (n : ℕ). lists_left done (cut_lists n count rest)) none
    ∙ ap (λ (l : List (List ℕ)). some_lists l rest) (append-nil done)
    ∙ ap (some_lists done) is

-- ---- the part of a layout
pub part_short : (frame : Frame) (count : ℕ) (numbers rest : List ℕ) → numbers ≡ count ∷ rest → length rest < count → part_front frame numbers ≡ None
part_short frame count numbers rest is few =
    ap (part_front frame) is ∙ ap (λ (o : Option (List ℕ × List ℕ)). o >>= after_rows frame count) (cut_none count rest few)

part_cut : (frame : Frame) (count : ℕ) (numbers rest : List ℕ) → numbers ≡ count ∷ rest → count ≤ length rest
    → part_front frame numbers ≡ only_if (are_rows 0 frame.volume (take count rest)) (cut_lists frame.fields count (drop count rest) >>= with_rows (take count rest))
part_cut frame count numbers rest is many =
    ap (part_front frame) is ∙ ap (λ (o : Option (List ℕ × List ℕ)). o >>= after_rows frame count) (cut_some count rest many)

pub part_unordered : (frame : Frame) (count : ℕ) (numbers rest : List ℕ) → numbers ≡ count ∷ rest → count ≤ length rest → are_rows 0 frame.volume (take count rest) ≡ false → part_front frame numbers ≡ None
part_unordered frame count numbers rest is many fails =
    part_cut frame count numbers rest is many ∙ ap (λ (b : Bool). only_if b (cut_lists frame.fields count (drop count rest) >>= with_rows (take count rest))) fails

part_ordered : (frame : Frame) (count : ℕ) (numbers rest : List ℕ) (lists : Option Lists) → numbers ≡ count ∷ rest → count ≤ length rest → are_rows 0 frame.volume (take count rest) ≡ true → cut_lists frame.fields count (drop count rest) ≡ lists
    → part_front frame numbers ≡ lists >>= with_rows (take count rest)
part_ordered frame count numbers rest lists is many rise cut =
    part_cut frame count numbers rest is many
    ∙ ap (λ (b : Bool). only_if b (cut_lists frame.fields count (drop count rest) >>= with_rows (take count rest))) rise
    ∙ ap (λ (o : Option Lists). o >>= with_rows (take count rest)) cut

pub part_unfilled : (frame : Frame) (count : ℕ) (numbers rest : List ℕ) → numbers ≡ count ∷ rest → count ≤ length rest → are_rows 0 frame.volume (take count rest) ≡ true → cut_lists frame.fields count (drop count rest) ≡ None → part_front frame numbers ≡ None
part_unfilled frame count numbers rest is many rise cut = part_ordered frame count numbers rest None is many rise cut

abbrev some_part : Part → List ℕ → Option (Part × List ℕ)
some_part part rest = Some (part, rest)

pub part_there : (frame : Frame) (count used : ℕ) (numbers rest : List ℕ) (words : List (List ℕ)) → numbers ≡ count ∷ rest → rest ≡ drop 1 numbers → count ≤ length rest → are_rows 0 frame.volume (take count rest) ≡ true
    → cut_lists frame.fields count (drop count rest) ≡ Some (words, drop used (drop count rest)) → part_front frame numbers ≡ Some (record { rows = take count rest; words = words }, drop (1 + count + used) numbers)
part_there frame count used numbers rest words is behind many rise cut =
    part_ordered frame count numbers rest (Some (words, drop used (drop count rest))) is many rise cut
    ∙ ap (some_part (record { rows = take count rest; words = words }))
    (drop-drop used count rest ∙ ap (drop (count + used)) behind ∙ drop-drop (count + used) 1 numbers ∙ ap (λ (n : ℕ). drop n numbers) (let e : 1 + (count + used) ≡ 1 + count + used = omega arith in e))

-- ---- the parts of layouts
abbrev pub parts_left : List Part → Option (List Part) → Option (List Part)
parts_left done left = option_map (λ (more : List Part). done ++ more) left

grow_parts : (done : List Part) (part : Part) (left : Option (List Part)) → parts_left done (left >>= with_part part) ≡ parts_left (done ++ part ∷ []) left
grow_parts done part None = refl
grow_parts done part (Some more) = ap some_list (sym (append_assoc done (part ∷ []) more))

pub parts_more : (layouts : List Shape) (i used : ℕ) (layout : Shape) (done done' : List Part) (part : Part) (rest rest' : List ℕ) (whole : Option (List Part)) → i < length layouts → layout ≡ get_or layouts i layout
    → part_front (frame_of layout) rest ≡ Some (part, drop used rest) → done' ≡ done ++ part ∷ [] → rest' ≡ drop used rest
    → parts_left done (parts_read (frames_of (drop i layouts)) rest) ≡ whole → parts_left done' (parts_read (frames_of (drop (i + 1) layouts)) rest') ≡ whole
parts_more layouts i used layout done done' part rest rest' whole below here front pushed cut so_far =
    let frames = frames_of (drop (i + 1) layouts) in
    ap (λ (l : List Part). parts_left l (parts_read frames rest')) pushed
    ∙ ap (λ (l : List ℕ). parts_left (done ++ part ∷ []) (parts_read frames l)) cut
    ∙ sym (grow_parts done part (parts_read frames (drop used rest)))
    ∙ ap (λ (o : Option (Part × List ℕ)). parts_left done (o >>= after_part frames)) (sym front)
    ∙ ap (λ (shape : Shape). parts_left done (parts_read (frame_of shape ∷ frames) rest)) here
    ∙ ap (λ (shapes : List Shape). parts_left done (parts_read (frames_of shapes) rest)) (sym (drop_more layouts i layout below))
    ∙ so_far

pub parts_none : (layouts : List Shape) (i : ℕ) (layout : Shape) (done : List Part) (rest : List ℕ) (whole : Option (List Part)) → i < length layouts → layout ≡ get_or layouts i layout → part_front (frame_of layout) rest ≡ None
    → parts_left done (parts_read (frames_of (drop i layouts)) rest) ≡ whole → None ≡ whole
parts_none layouts i layout done rest whole below here front so_far =
    let frames = frames_of (drop (i + 1) layouts) in
    ap (λ (o : Option (Part × List ℕ)). parts_left done (o >>= after_part frames)) (sym front)
    ∙ ap (λ (shape : Shape). parts_left done (parts_read (frame_of shape ∷ frames) rest)) here
    ∙ ap (λ (shapes : List Shape). parts_left done (parts_read (frames_of shapes) rest)) (sym (drop_more layouts i layout below))
    ∙ so_far

read_none : (rest : List ℕ) → 0 < length rest → parts_read [] rest ≡ None
read_none [] some = absurd (omega arith)
read_none (number ∷ rest) some = refl

read_all : (rest : List ℕ) → length rest ≡ 0 → parts_read [] rest ≡ Some []
read_all [] none = refl
read_all (number ∷ rest) none = absurd (omega arith)

at_end : (layouts : List Shape) (i : ℕ) (done : List Part) (rest : List ℕ) (whole : Option (List Part)) → length layouts ≤ i → parts_left done (parts_read (frames_of (drop i layouts)) rest) ≡ whole → parts_left done (parts_read [] rest) ≡ whole
at_end layouts i done rest whole past so_far = ap (λ (shapes : List Shape). parts_left done (parts_read (frames_of shapes) rest)) (sym (drop_all i layouts past)) ∙ so_far

pub parts_behind : (layouts : List Shape) (i : ℕ) (done : List Part) (rest : List ℕ) (whole : Option (List Part)) → length layouts ≤ i → 0 < length rest → parts_left done (parts_read (frames_of (drop i layouts)) rest) ≡ whole → None ≡ whole
parts_behind layouts i done rest whole past some so_far = none_left done (parts_read [] rest) whole (read_none rest some) (at_end layouts i done rest whole past so_far)

pub parts_end : (layouts : List Shape) (i : ℕ) (done : List Part) (rest : List ℕ) (whole : Option (List Part)) → length layouts ≤ i → length rest ≡ 0 → parts_left done (parts_read (frames_of (drop i layouts)) rest) ≡ whole → Some done ≡ whole
parts_end layouts i done rest whole past none so_far =
    ended done whole (ap (λ (o : Option (List Part)). parts_left done o) (sym (read_all rest none)) ∙ at_end layouts i done rest whole past so_far)
