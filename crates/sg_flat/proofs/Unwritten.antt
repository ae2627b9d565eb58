-- A layout into which no write goes stays as it was.
use Rattle.std.proofs.Common.{◌≡◌, ℕ, suc, Bool, false, ◌&&◌, eqb, List, [], ◌∷◌, ◌++◌, map, length, refl, sym, ap, ap₂, ◌∙◌, arith}
use Rattle.std.specs.Prelude.{All, filter}
use Rattle.std.proofs.lemmas.Bool.{cond-false, ne_eqb}
use Rattle.std.proofs.lemmas.List.{append-nil}
use Rattle.std.proofs.lemmas.List.Elements.{All-head, All-tail, All-weaker}
use Rattle.sg_coord.specs.declared.coord.Coord.{Coord}
use Rattle.sg_coord.specs.Bounds.{volume}
use Rattle.sg_coord.specs.Coord.{row_of}
use Rattle.sg_words.specs.declared.operators.Ty.{Ty}
use Rattle.sg_layout.specs.declared.shape.Shape.{Shape}
use Rattle.sg_layout.specs.Axes.{bounds_of_shape}
use Rattle.sg_layout.specs.Closure.{closure}
use Rattle.sg_flat.specs.declared.effects.Turn.{Turn}
use Rattle.sg_flat.specs.declared.effects.Write.{Write}
use Rattle.sg_flat.specs.Words.{word_at}
use Rattle.sg_flat.specs.Effects.{landed, is_to, writes_of, writes_to, written_in}
use Rattle.sg_flat.specs.State.{IsFlatField}
use Rattle.sg_flat.specs.Kernel.{field_after, fields_after}
use Rattle.sg_flat.specs.Wants.{UnwrittenStays}
use Rattle.sg_flat.proofs.FieldWords.{words_of-agree}
use Rattle.sg_flat.proofs.FlatLayouts.{layout_after_is}

-- a filter of which nothing passes the test
none_passes : {X : Type 0} (test : X → Bool) (xs : List X) → All (λ x. test x ≡ false) xs → filter test xs ≡ []
none_passes test [] all = refl
none_passes {X} test (x ∷ xs) all =
    cond-false (test x) (x ∷ filter test xs) (filter test xs) (All-head (λ (y : X). test y ≡ false) x xs all)
    ∙ none_passes test xs (All-tail (λ (y : X). test y ≡ false) x xs all)

abbrev IsElsewhere : ℕ → Write → Type 0
IsElsewhere layout write = write.layout ≡ layout → ⊥

none_written : (layout : ℕ) (turns : List Turn) → All (IsElsewhere layout) (writes_of turns) → written_in layout turns ≡ []
none_written layout turns elsewhere =
    ap (map (λ (write : Write). write.at))
    (none_passes (λ (write : Write). eqb write.layout layout) (writes_of turns)
    (All-weaker (IsElsewhere layout) (λ (write : Write). eqb write.layout layout ≡ false) (λ write apart. ne_eqb write.layout layout apart) (writes_of turns) elsewhere))

field_stays : (shape : Shape) (active : List Coord) (layout place : ℕ) (ty : Ty) (words : List (ℕ × ℕ)) (writes : List Write) → All (IsElsewhere layout) writes → IsFlatField shape active words → field_after (bounds_of_shape shape) layout place ty words writes ≡ words
field_stays shape active layout place ty words writes elsewhere fits =
    words_of-agree (volume (bounds_of_shape shape)) (λ row. landed ty (word_at words row) (writes_to (bounds_of_shape shape) layout place row writes)) (word_at words)
    (λ row _. ap (landed ty (word_at words row))
    (none_passes (is_to (bounds_of_shape shape) layout place row) writes
    (All-weaker (IsElsewhere layout) (λ (write : Write). is_to (bounds_of_shape shape) layout place row write ≡ false)
    (λ write apart. ap (λ (b : Bool). b && (eqb write.place place && eqb (row_of (bounds_of_shape shape) write.at) row)) (ne_eqb write.layout layout apart)) writes elsewhere)))
    ∙ sym fits.canonical

fields_stay : (shape : Shape) (active : List Coord) (layout place : ℕ) (types : List Ty) (fields : List (List (ℕ × ℕ))) (turns : List Turn) → All (IsElsewhere layout) (writes_of turns) → length fields ≡ length types → All (IsFlatField shape active) fields → fields_after (bounds_of_shape shape) layout place types fields turns ≡ fields
fields_stay shape active layout place [] [] turns elsewhere same fit = refl
fields_stay shape active layout place [] (words ∷ fields) turns elsewhere same fit = absurd (omega arith)
fields_stay shape active layout place (ty ∷ types) [] turns elsewhere same fit = absurd (omega arith)
fields_stay shape active layout place (ty ∷ types) (words ∷ fields) turns elsewhere same fit =
    ap₂ (λ (x : List (ℕ × ℕ)) (xs : List (List (ℕ × ℕ))). x ∷ xs)
    (field_stays shape active layout place ty words (writes_of turns) elsewhere (All-head (IsFlatField shape active) words fields fit))
    (fields_stay shape active layout (suc place) types fields turns elsewhere (omega arith) (All-tail (IsFlatField shape active) words fields fit))

pub unwritten_stays : UnwrittenStays
unwritten_stays layout shape flat turns is elsewhere =
    sym (layout_after_is layout shape flat turns flat.active flat.fields
    (is.closed ∙ ap (closure shape) (sym (ap (λ (more : List Coord). flat.active ++ more) (none_written layout turns elsewhere) ∙ append-nil flat.active)))
    (sym (fields_stay shape flat.active layout 0 shape.fields flat.fields turns elsewhere is.field_count is.fields_fit)))
