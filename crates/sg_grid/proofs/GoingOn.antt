-- A text goes on from another.
use Rattle.std.proofs.Common.{◌≡◌, ℕ, List, [], ◌∷◌, ◌++◌, Result, Ok, Err, is_ok, OnOk, if◌then◌else◌, nat_le, ℤ, sym, ap, subst, ◌∙◌, append_assoc}
use Rattle.std.specs.Fmt.{signed_decimal}
use Rattle.std.proofs.lemmas.List.{append-nil}
use Rattle.sg_coord.specs.declared.coord.Coord.{Coord}
use Rattle.sg_words.specs.declared.operators.Ty.{Ty}
use Rattle.sg_words.specs.Words.{number}
use Rattle.sg_grid.specs.declared.grid.GridRow.{GridRow}
use Rattle.sg_grid.specs.GridText.{GoesOn, further_part, coordinate_text, row_text}

pub goes-same : (old new : List ℕ) → new ≡ old → GoesOn old new
goes-same old new is = ([], is ∙ sym (append-nil old))

pub goes-trans : (first second third : List ℕ) → GoesOn first second → GoesOn second third → GoesOn first third
goes-trans first second third one two =
    (one.0 ++ two.0, two.1 ∙ (ap (λ bytes. bytes ++ two.0) one.1 ∙ append_assoc first one.0 two.0))

-- what a push leaves, whether or not there is room
pub goes-pushed : {A E : Type 0} (r : Result A E) (old new piece : List ℕ) → new ≡ (if is_ok r then old ++ piece else old) → GoesOn old new
goes-pushed (Ok done) old new piece is = (piece, is)
goes-pushed (Err why) old new piece is = goes-same old new is

-- three pieces one after the other, of which the last may find no room
pub three-pieces : {A E : Type 0} (r : Result A E) (old one two new x y z : List ℕ) → one ≡ old ++ x → two ≡ one ++ y → OnOk r (new ≡ two ++ z) → OnOk r (new ≡ old ++ (x ++ y ++ z))
three-pieces (Ok done) old one two new x y z first second third =
    third
    ∙ (ap (λ bytes. bytes ++ z) (second ∙ (ap (λ bytes. bytes ++ y) first ∙ append_assoc old x y)) ∙ append_assoc old (x ++ y) z)
three-pieces (Err why) old one two new x y z first second third = tt

-- the parts of a coordinate, of which the last may find no room
pub coordinate-pieces : {A E : Type 0} (r : Result A E) (at : Coord) (old one two new : List ℕ) (a b c : ℤ) → a ≡ at.a → b ≡ at.b → c ≡ at.c
    → one ≡ old ++ signed_decimal a → two ≡ one ++ (if nat_le 2 at.n then 32 ∷ signed_decimal b else []) → OnOk r (new ≡ two ++ (if nat_le 3 at.n then 32 ∷ signed_decimal c else []))
    → OnOk r (new ≡ old ++ coordinate_text at)
coordinate-pieces r at old one two new a b c a_is b_is c_is first second third =
    three-pieces r old one two new (signed_decimal at.a) (further_part 2 at at.b) (further_part 3 at at.c)
    (first ∙ ap (λ (z : ℤ). old ++ signed_decimal z) a_is)
    (second ∙ ap (λ (z : ℤ). one ++ further_part 2 at z) b_is)
    (subst (λ (z : ℤ). OnOk r (new ≡ two ++ further_part 3 at z)) c_is third)

-- the line of a row, whose newline may find no room
pub row-pieces : {A E : Type 0} (r : Result A E) (type : Ty) (row : GridRow) (old one two three new : List ℕ) (z : ℤ) → z ≡ number type row.word → one ≡ old ++ coordinate_text row.at → two ≡ one ++ 32 ∷ [] → three ≡ two ++ signed_decimal z
    → OnOk r (new ≡ three ++ 10 ∷ []) → OnOk r (new ≡ old ++ row_text type row)
row-pieces (Ok done) type row old one two three new z z_is first second third fourth =
    fourth
    ∙ (ap (λ bytes. bytes ++ 10 ∷ []) ((third ∙ ap (λ (n : ℤ). two ++ signed_decimal n) z_is) ∙ (ap (λ bytes. bytes ++ signed_decimal (number type row.word)) (second ∙ ap (λ bytes. bytes ++ 32 ∷ []) first))) ∙ glued)
  where
    glued : old ++ coordinate_text row.at ++ 32 ∷ [] ++ signed_decimal (number type row.word) ++ 10 ∷ [] ≡ old ++ row_text type row
    glued = simp append_assoc
row-pieces (Err why) type row old one two three new z z_is first second third fourth = tt
