-- What writes leave in the fields of a layout.
use Rattle.std.proofs.Common.{◌≡◌, ℕ, zero, suc, ◌+◌, ◌≤◌, ◌<◌, List, [], ◌∷◌, ◌++◌, length, Some, None, refl, sym, ap, ◌∙◌, subst, arith}
use Rattle.std.specs.Prelude.{filter, slice_get, All, IsTrue}
use Rattle.std.proofs.lemmas.List.Elements.{All-head, All-tail, All-cons, All-nil}
use Rattle.sg_words.specs.declared.operators.Ty.{Ty}
use Rattle.sg_coord.specs.declared.coord.Coord.{Coord}
use Rattle.sg_coord.specs.Bounds.{Bounds, volume}
use Rattle.sg_layout.specs.declared.shape.Shape.{Shape}
use Rattle.sg_layout.specs.Axes.{bounds_of_shape}
use Rattle.sg_flat.specs.declared.effects.Write.{Write}
use Rattle.sg_flat.specs.declared.effects.Turn.{Turn}
use Rattle.sg_flat.specs.declared.state.FlatLayout.{FlatLayout}
use Rattle.sg_flat.specs.Words.{are_words, word_at}
use Rattle.sg_flat.specs.Effects.{landed, is_to, writes_of, writes_to}
use Rattle.sg_flat.specs.State.{IsFlatField, IsFlatLayout, words_or_none}
use Rattle.sg_flat.specs.Kernel.{field_after, fields_after}
use Rattle.sg_flat.specs.steps.Landing.{AreWordsBelow}
use Rattle.sg_flat.proofs.Uses.{word_at-words_of, words_of-agree}
use Rattle.sg_flat.proofs.Uses.{field_after-append}
use Rattle.sg_exec.specs.steps.Landing.{fields_landed, landed_layout}

abbrev Words : Type 0
Words = List (ℕ × ℕ)

-- ---- lists of writes

pub landed_more : (bounds : Bounds) (layout place : ℕ) (types : List Ty) (fields : List Words) (earlier later : List Write)
    → fields_landed bounds layout place types (fields_landed bounds layout place types fields earlier) later ≡ fields_landed bounds layout place types fields (earlier ++ later)
landed_more bounds layout place [] fields earlier later = refl
landed_more bounds layout place (ty ∷ types) [] earlier later = refl
landed_more bounds layout place (ty ∷ types) (words ∷ fields) earlier later =
    ap (λ (ws : Words). ws ∷ fields_landed bounds layout (suc place) types (fields_landed bounds layout (suc place) types fields earlier) later) (field_after-append bounds layout place ty words earlier later)
    ∙ ap (λ (fs : List Words). field_after bounds layout place ty words (earlier ++ later) ∷ fs) (landed_more bounds layout (suc place) types fields earlier later)

pub landed_turns : (bounds : Bounds) (layout place : ℕ) (types : List Ty) (fields : List Words) (turns : List Turn)
    → fields_landed bounds layout place types fields (writes_of turns) ≡ fields_after bounds layout place types fields turns
landed_turns bounds layout place [] fields turns = refl
landed_turns bounds layout place (ty ∷ types) [] turns = refl
landed_turns bounds layout place (ty ∷ types) (words ∷ fields) turns =
    ap (λ (fs : List Words). field_after bounds layout place ty words (writes_of turns) ∷ fs) (landed_turns bounds layout (suc place) types fields turns)

-- none of the writes is to a cell of these fields
field_kept : (bounds : Bounds) (layout place : ℕ) (ty : Ty) (words : Words) (writes : List Write) → AreWordsBelow (volume bounds) words
    → ((row : ℕ) → filter (is_to bounds layout place row) writes ≡ []) → field_after bounds layout place ty words writes ≡ words
field_kept bounds layout place ty words writes are none =
    words_of-agree (volume bounds) (λ row. landed ty (word_at words row) (filter (is_to bounds layout place row) writes)) (word_at words)
    (λ row below. ap (landed ty (word_at words row)) (none row)) ∙ sym are

pub landed_kept : (bounds : Bounds) (layout place : ℕ) (types : List Ty) (fields : List Words) (writes : List Write) → length fields ≡ length types
    → All (AreWordsBelow (volume bounds)) fields → ((other row : ℕ) → place ≤ other → other < place + length types → filter (is_to bounds layout other row) writes ≡ [])
    → fields_landed bounds layout place types fields writes ≡ fields
landed_kept bounds layout place [] [] writes same all none = refl
landed_kept bounds layout place [] (words ∷ fields) writes same all none = absurd (omega arith)
landed_kept bounds layout place (ty ∷ types) [] writes same all none = absurd (omega arith)
landed_kept bounds layout place (ty ∷ types) (words ∷ fields) writes same all none =
    ap (λ (ws : Words). ws ∷ fields_landed bounds layout (suc place) types fields writes)
    (field_kept bounds layout place ty words writes (All-head (AreWordsBelow (volume bounds)) words fields all) (λ row. none place row (omega arith) (omega arith)))
    ∙ ap (λ (fs : List Words). words ∷ fs)
    (landed_kept bounds layout (suc place) types fields writes (omega arith) (All-tail (AreWordsBelow (volume bounds)) words fields all) (λ other row from below. none other row (omega arith) (omega arith)))

pub canonical_fields : (shape : Shape) (active : List Coord) (fields : List Words) → All (IsFlatField shape active) fields → All (AreWordsBelow (volume (bounds_of_shape shape))) fields
canonical_fields shape active fields all = λ k d below. (all k d below).canonical

-- a layout into which no write goes
pub layout_kept : (layout : ℕ) (shape : Shape) (flat : FlatLayout) (writes : List Write) → IsFlatLayout shape flat
    → ((other row : ℕ) → filter (is_to (bounds_of_shape shape) layout other row) writes ≡ []) → landed_layout layout shape flat writes ≡ flat
layout_kept layout shape flat writes is_flat none =
    same flat (fields_landed (bounds_of_shape shape) layout 0 shape.fields flat.fields writes)
    (landed_kept (bounds_of_shape shape) layout 0 shape.fields flat.fields writes is_flat.field_count (canonical_fields shape flat.active flat.fields is_flat.fields_fit) (λ other row from below. none other row))
  where
    same : (given : FlatLayout) (fields : List Words) → fields ≡ given.fields → record { active = given.active; fields = fields } ≡ given
    same given fields e = rw e refl

-- ---- a word after writes

pub landed_word : (bounds : Bounds) (layout place : ℕ) (types : List Ty) (fields : List Words) (writes : List Write) (k row : ℕ) (ty : Ty)
    → length fields ≡ length types → row < volume bounds → slice_get types k ≡ Some ty
    → word_at (words_or_none (slice_get (fields_landed bounds layout place types fields writes) k)) row
    ≡ landed ty (word_at (words_or_none (slice_get fields k)) row) (writes_to bounds layout (place + k) row writes)
landed_word bounds layout place [] fields writes k row ty same below is = absurd (cc)
landed_word bounds layout place (first ∷ types) [] writes k row ty same below is = absurd (omega arith)
landed_word bounds layout place (first ∷ types) (words ∷ fields) writes zero row ty same below is =
    let at : place + 0 ≡ place = omega arith in
    let types_are : first ≡ ty = cc in
    word_at-words_of (volume bounds) (λ r. landed first (word_at words r) (filter (is_to bounds layout place r) writes)) row below
    ∙ ap (λ (t : Ty). landed t (word_at words row) (writes_to bounds layout place row writes)) types_are
    ∙ ap (λ (p : ℕ). landed ty (word_at words row) (writes_to bounds layout p row writes)) (sym at)
landed_word bounds layout place (first ∷ types) (words ∷ fields) writes (suc k) row ty same below is =
    let at : suc place + k ≡ place + suc k = omega arith in
    landed_word bounds layout (suc place) types fields writes k row ty (omega arith) below is
    ∙ ap (λ (p : ℕ). landed ty (word_at (words_or_none (slice_get fields k)) row) (writes_to bounds layout p row writes)) at

pub landed_none : (bounds : Bounds) (layout place : ℕ) (types : List Ty) (fields : List Words) (writes : List Write) (k : ℕ)
    → length fields ≡ length types → slice_get types k ≡ None → (slice_get (fields_landed bounds layout place types fields writes) k ≡ None) × (slice_get fields k ≡ None)
landed_none bounds layout place [] [] writes k same is = (refl, refl)
landed_none bounds layout place [] (words ∷ fields) writes k same is = absurd (omega arith)
landed_none bounds layout place (first ∷ types) [] writes k same is = absurd (omega arith)
landed_none bounds layout place (first ∷ types) (words ∷ fields) writes zero same is = absurd (cc)
landed_none bounds layout place (first ∷ types) (words ∷ fields) writes (suc k) same is = landed_none bounds layout (suc place) types fields writes k (omega arith) is

-- the words of all fields are words, where that of the one that is written is
pub landed_in_range : (bounds : Bounds) (layout place : ℕ) (types : List Ty) (fields : List Words) (writes : List Write) → length fields ≡ length types
    → ((k : ℕ) (ty : Ty) (words : Words) → slice_get types k ≡ Some ty → slice_get fields k ≡ Some words → IsTrue (are_words (field_after bounds layout (place + k) ty words writes)))
    → All (λ (words : Words). IsTrue (are_words words)) (fields_landed bounds layout place types fields writes)
landed_in_range bounds layout place [] fields writes same each = All-nil (λ (words : Words). IsTrue (are_words words))
landed_in_range bounds layout place (ty ∷ types) [] writes same each = All-nil (λ (words : Words). IsTrue (are_words words))
landed_in_range bounds layout place (ty ∷ types) (words ∷ fields) writes same each =
    let at : place + 0 ≡ place = omega arith in
    All-cons (λ (words : Words). IsTrue (are_words words)) (field_after bounds layout place ty words writes) (fields_landed bounds layout (suc place) types fields writes)
    (subst (λ (p : ℕ). IsTrue (are_words (field_after bounds layout p ty words writes))) at (each 0 ty words refl refl))
    (landed_in_range bounds layout (suc place) types fields writes (omega arith)
    (λ k t ws is_type is_field. let past : place + suc k ≡ suc place + k = omega arith in
    subst (λ (p : ℕ). IsTrue (are_words (field_after bounds layout p t ws writes))) past (each (suc k) t ws is_type is_field)))
