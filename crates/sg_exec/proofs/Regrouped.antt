-- Writes that are landed field by field land as they do in turn.
use Rattle.std.proofs.Common.{◌≡◌, ℕ, suc, ◌+◌, ◌<◌, List, [], ◌∷◌, length, Some, refl, sym, ap, ◌∙◌, subst, arith}
use Rattle.std.specs.Prelude.{slice_get, Contains}
use Rattle.std.specs.List.{AllZip}
use Rattle.sg_words.specs.declared.operators.Ty.{Ty}
use Rattle.sg_coord.specs.declared.coord.Coord.{Coord}
use Rattle.sg_coord.specs.Bounds.{Bounds, volume}
use Rattle.sg_layout.specs.declared.shape.Shape.{Shape}
use Rattle.sg_layout.specs.Axes.{bounds_of_shape}
use Rattle.sg_flat.specs.declared.effects.Write.{Write}
use Rattle.sg_flat.specs.declared.state.FlatLayout.{FlatLayout}
use Rattle.sg_flat.specs.Words.{word_at}
use Rattle.sg_flat.specs.Effects.{landed, writes_to}
use Rattle.sg_flat.specs.Kernel.{field_after}
use Rattle.sg_flat.proofs.Uses.{words_of-agree, word_at-words_of}
use Rattle.sg_store.specs.StoreWords.{StoreWords}
use Rattle.sg_store.specs.StandsFor.{StandsFor}
use Rattle.sg_exec.specs.Standing.{shapes_of}
use Rattle.sg_exec.specs.steps.Landing.{fields_landed, landed_layout, landed_layouts, AreActive, Lands}

abbrev Words : Type 0
Words = List (ℕ × ℕ)

-- two lists of writes leave the same in each cell of the fields that there are
abbrev pub LeaveTheSame : List Shape → List Write → List Write → Type 0
LeaveTheSame shapes one other = (bounds : Bounds) (layout place row word : ℕ) (ty : Ty) (shape : Shape) → slice_get shapes layout ≡ Some shape → place < length shape.fields
    → landed ty word (writes_to bounds layout place row one) ≡ landed ty word (writes_to bounds layout place row other)

field_same : (bounds : Bounds) (layout place : ℕ) (ty : Ty) (words : Words) (one other : List Write) → ((row word : ℕ) → landed ty word (writes_to bounds layout place row one) ≡ landed ty word (writes_to bounds layout place row other))
    → field_after bounds layout place ty words one ≡ field_after bounds layout place ty words other
field_same bounds layout place ty words one other same =
    words_of-agree (volume bounds) (λ row. landed ty (word_at words row) (writes_to bounds layout place row one)) (word_at (field_after bounds layout place ty words other))
    (λ row below. same row (word_at words row) ∙ sym (word_at-words_of (volume bounds) (λ r. landed ty (word_at words r) (writes_to bounds layout place r other)) row below))
    ∙ sym (words_of-agree (volume bounds) (λ row. landed ty (word_at words row) (writes_to bounds layout place row other)) (word_at (field_after bounds layout place ty words other))
    (λ row below. sym (word_at-words_of (volume bounds) (λ r. landed ty (word_at words r) (writes_to bounds layout place r other)) row below)))

fields_same : (bounds : Bounds) (layout place : ℕ) (types : List Ty) (fields : List Words) (one other : List Write)
    → ((k row word : ℕ) (ty : Ty) → k < length types → landed ty word (writes_to bounds layout (place + k) row one) ≡ landed ty word (writes_to bounds layout (place + k) row other))
    → fields_landed bounds layout place types fields one ≡ fields_landed bounds layout place types fields other
fields_same bounds layout place [] fields one other same = refl
fields_same bounds layout place (ty ∷ types) [] one other same = refl
fields_same bounds layout place (ty ∷ types) (words ∷ fields) one other same =
    let here : place + 0 ≡ place = omega arith in
    ap (λ (ws : Words). ws ∷ fields_landed bounds layout (suc place) types fields one)
    (field_same bounds layout place ty words one other
    (λ row word. subst (λ (p : ℕ). landed ty word (writes_to bounds layout p row one) ≡ landed ty word (writes_to bounds layout p row other)) here (same 0 row word ty (omega arith))))
    ∙ ap (λ (fs : List Words). field_after bounds layout place ty words other ∷ fs)
    (fields_same bounds layout (suc place) types fields one other
    (λ k row word t below. let next : place + suc k ≡ suc place + k = omega arith in
    subst (λ (p : ℕ). landed t word (writes_to bounds layout p row one) ≡ landed t word (writes_to bounds layout p row other)) next (same (suc k) row word t (omega arith))))

abbrev made : List Coord → List Words → FlatLayout
made active fields = record { active = active; fields = fields }

layouts_same : (number : ℕ) (shapes : List Shape) (flats : List FlatLayout) (one other : List Write)
    → ((bounds : Bounds) (k place row word : ℕ) (ty : Ty) (shape : Shape) → slice_get shapes k ≡ Some shape → place < length shape.fields
    → landed ty word (writes_to bounds (number + k) place row one) ≡ landed ty word (writes_to bounds (number + k) place row other))
    → landed_layouts number shapes flats one ≡ landed_layouts number shapes flats other
layouts_same number [] flats one other same = refl
layouts_same number (shape ∷ shapes) [] one other same = refl
layouts_same number (shape ∷ shapes) (flat ∷ flats) one other same =
    let here : number + 0 ≡ number = omega arith in
    ap (λ (fs : List Words). made flat.active fs ∷ landed_layouts (suc number) shapes flats one)
    (fields_same (bounds_of_shape shape) number 0 shape.fields flat.fields one other
    (λ k row word ty below. let at : 0 + k ≡ k = omega arith in
    subst (λ (p : ℕ). landed ty word (writes_to (bounds_of_shape shape) number p row one) ≡ landed ty word (writes_to (bounds_of_shape shape) number p row other)) (sym at)
    (subst (λ (l : ℕ). landed ty word (writes_to (bounds_of_shape shape) l k row one) ≡ landed ty word (writes_to (bounds_of_shape shape) l k row other)) here
    (same (bounds_of_shape shape) 0 k row word ty shape refl below))))
    ∙ ap (λ (ls : List FlatLayout). landed_layout number shape flat other ∷ ls)
    (layouts_same (suc number) shapes flats one other
    (λ bounds k place row word ty found is below. let next : number + suc k ≡ suc number + k = omega arith in
    subst (λ (l : ℕ). landed ty word (writes_to bounds l place row one) ≡ landed ty word (writes_to bounds l place row other)) next (same bounds (suc k) place row word ty found is below)))

-- what landed lands as other writes do that leave the same wherever those are at active coordinates
pub lands_as : (olds news : List StoreWords) (one other : List Write) → ((flats : List FlatLayout) → AllZip StandsFor olds flats → AreActive flats other → LeaveTheSame (shapes_of olds) one other)
    → ((write : Write) → Contains one write → Contains other write) → Lands olds news one → Lands olds news other
lands_as olds news one other same among lands = record {
  same_shapes = lands.same_shapes;
  stand = λ flats stand active.
      subst (λ (ls : List FlatLayout). AllZip StandsFor news ls)
      (layouts_same 0 (shapes_of olds) flats one other
      (λ bounds k place row word ty shape is below. let at : 0 + k ≡ k = omega arith in
      subst (λ (l : ℕ). landed ty word (writes_to bounds l place row one) ≡ landed ty word (writes_to bounds l place row other)) (sym at) (same flats stand active bounds k place row word ty shape is below)))
      (lands.stand flats stand (λ number flat write is has layout. active number flat write is (among write has) layout));
}
