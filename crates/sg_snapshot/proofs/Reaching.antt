-- What reaching the points of a part answers, and the layout that it leaves.
use Rattle.std.proofs.Common.{◌≡◌, ℕ, ◌+◌, List, [], ◌∷◌, ◌++◌, map, length, Option, Some, None, Result, Ok, Err, not, eqb, refl, sym, ap, ap₂, ◌∙◌}
use Rattle.std.specs.Prelude.{filter}
use Rattle.std.specs.List.{range_with_len}
use Rattle.sg_words.specs.Answers.{Answers}
use Rattle.sg_words.specs.declared.memory.Stop.{Stop}
use Rattle.sg_words.specs.declared.memory.Stop.TheVariants as stop
use Rattle.sg_words.specs.declared.operators.Ty.{Ty}
use Rattle.sg_coord.specs.declared.coord.Coord.{Coord}
use Rattle.sg_coord.specs.Bounds.{volume}
use Rattle.sg_layout.specs.declared.shape.Shape.{Shape}
use Rattle.sg_layout.specs.Axes.{bounds_of_shape}
use Rattle.sg_layout.specs.Closure.{closure}
use Rattle.sg_layout.specs.ClosureLaws.{ClosureAbsorbs}
use Rattle.sg_layout.specs.Need.{FullNode, first_full}
use Rattle.sg_flat.specs.declared.state.FlatLayout.{FlatLayout}
use Rattle.sg_flat.specs.State.{opening_layout}
use Rattle.sg_flat.specs.Words.{words_of}
use Rattle.sg_store.specs.declared.reach.Full.{Full}
use Rattle.sg_store.specs.Reaching.{unless_full}
use Rattle.sg_store.proofs.Uses.{opening_closes}
use Rattle.sg_snapshot.specs.declared.part.Part.{Part}
use Rattle.sg_snapshot.specs.declared.fault.SnapFault.{SnapFault}
use Rattle.sg_snapshot.specs.declared.fault.SnapFault.TheVariants as fault
use Rattle.sg_snapshot.specs.Restoring.{points_in, full_fault}
use Rattle.sg_snapshot.specs.steps.Laying.{laid, unless_too_full, StandsForPart}

-- ---- answers
pub room_left : (number : ℕ) (o : Option FullNode) → unless_full o ≡ Ok tt → unless_too_full number o ≡ Ok tt
room_left number None is = refl
room_left number (Some full) is = absurd (cc)

pub no_room : (number : ℕ) (o : Option FullNode) (full : Full) → unless_full o ≡ Err full → unless_too_full number o ≡ Err (fault.Full number full.node full.cap)
no_room number None full is = absurd (cc)
no_room number (Some node) full is =
    let same : record { node = node.node; cap = node.cap } ≡ full = cc in
    ap (λ (f : Full). let out : Result Unit SnapFault = Err (fault.Full number f.node f.cap) in out) same

pub none_full : (number : ℕ) (o : Option FullNode) → unless_too_full number o ≡ Ok tt → o ≡ None
none_full number None is = refl
none_full number (Some full) is = absurd (cc)

fault_of : (number : ℕ) (o : Option FullNode) (f : SnapFault) → unless_too_full number o ≡ Err f → full_fault number o ≡ Some f
fault_of number None f is = absurd (cc)
fault_of number (Some full) f is =
    let same : fault.Full number full.node full.cap ≡ f = cc in
    ap (λ (x : SnapFault). let out : Option SnapFault = Some x in out) same

pub stops_for_part : (number : ℕ) (shape : Shape) (part : Part) (s : Stop SnapFault) → Answers {A = Unit} (Err s) (unless_too_full number (first_full shape (points_in shape part))) → StandsForPart number shape part (Err s)
stops_for_part number shape part stop.Memory is = tt
stops_for_part number shape part (stop.Refused f) is = fault_of number (first_full shape (points_in shape part)) f is

-- ---- the layout that is left
no_words : (rows : List ℕ) → filter (λ (entry : ℕ × ℕ). not (eqb entry.1 0)) (map (λ (row : ℕ). (row, 0)) rows) ≡ []
no_words [] = refl
no_words (row ∷ rows) = no_words rows

abbrev no_entries : List (ℕ × ℕ)
no_entries = []

zero_fields : (size : ℕ) (types : List Ty) (from : ℕ) → map (λ (_ : Ty). no_entries) types ≡ map (λ (place : ℕ). words_of size (λ row. 0)) (range_with_len from (length types))
zero_fields size [] from = refl
zero_fields size (ty ∷ types) from = ap₂ (λ (x : List (ℕ × ℕ)) (xs : List (List (ℕ × ℕ))). x ∷ xs) (sym (no_words (range_with_len 0 size))) (zero_fields size types (from + 1))

made : List Coord → List (List (ℕ × ℕ)) → FlatLayout
made active fields = record { active = active; fields = fields }

pub opened_is : (shape : Shape) (wanted : List Coord) → ClosureAbsorbs shape → closure shape wanted ≡ wanted
    → record (opening_layout shape) { active = closure shape ((opening_layout shape).active ++ wanted) } ≡ laid shape wanted (λ place row. 0)
unfolding made
opened_is shape wanted absorbs closed =
    ap₂ made (opening_closes shape absorbs wanted ∙ closed) (zero_fields (volume (bounds_of_shape shape)) shape.fields 0)
