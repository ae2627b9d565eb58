-- Stores made of parts, layout by layout.
use Rattle.std.proofs.Common.{◌≡◌, ℕ, zero, suc, ◌+◌, ◌<◌, ◌≤◌, List, [], ◌∷◌, ◌++◌, length, get_or, take, drop, Option, Some, None, Result, Ok, Err, sym, ap, ap₂, ◌∙◌, subst, arith}
use Rattle.std.specs.List.{AllZip}
use Rattle.std.specs.Prelude.{IfOk}
use Rattle.std.specs.Option.{option_or}
use Rattle.std.specs.Result.{IsOkAnd}
use Rattle.std.proofs.lemmas.List.{drop_more, drop_all, take_more, take_all, map-append}
use Rattle.std.proofs.lemmas.List.Sums.{get_or-le-sum_by}
use Rattle.sg_words.specs.Results.{fault_or}
use Rattle.sg_words.specs.declared.memory.Stop.{Stop}
use Rattle.sg_words.specs.declared.memory.Stop.TheVariants as stop
use Rattle.sg_layout.specs.declared.shape.Shape.{Shape}
use Rattle.sg_layout.specs.Need.{FullNode, first_full}
use Rattle.sg_layout.specs.StorageWords.{words_of_shape, total_words}
use Rattle.sg_flat.specs.declared.state.FlatLayout.{FlatLayout}
use Rattle.sg_flat.specs.declared.state.FlatState.{FlatState}
use Rattle.sg_store.specs.Standing.{StandForState, shapes_of}
use Rattle.sg_store.specs.StandsFor.{StandsFor}
use Rattle.sg_store.specs.StoreWords.{StoreWords}
use Rattle.sg_store.specs.declared.store.Stores.{Stores}
use Rattle.sg_snapshot.specs.declared.part.Part.{Part}
use Rattle.sg_snapshot.specs.declared.fault.SnapFault.{SnapFault}
use Rattle.sg_snapshot.specs.Restored.{StandForAnswer}
use Rattle.sg_snapshot.specs.Restoring.{points_in, layout_of, layouts_of, full_fault, first_open, first_too_full, state_of, restored}
use Rattle.sg_snapshot.specs.declared.fault.SnapFault.TheVariants.{NotSnapshot}
use Rattle.sg_snapshot.specs.Parts.{frames_of, parts_in}
use Rattle.sg_snapshot.specs.steps.Laying.{StandsForPart, filled}

-- the words of one layout are no more than those of all
pub words_at : (shapes : List Shape) (k most : ℕ) (shape : Shape) → k < length shapes → shape ≡ get_or shapes k shape → total_words shapes ≤ most → words_of_shape shape ≤ most
words_at shapes k most shape below here few =
    let one : words_of_shape shape ≡ words_of_shape (get_or shapes k shape) = ap words_of_shape here in
    let within = get_or-le-sum_by words_of_shape shapes k shape below in
    omega arith

-- ---- the first layout without room
full_here : (shapes : List Shape) (parts : List Part) (k : ℕ) (shape : Shape) (part : Part) → k < length shapes → k < length parts → shape ≡ get_or shapes k shape → part ≡ get_or parts k part
    → first_too_full k (drop k shapes) (drop k parts) ≡ option_or (full_fault k (first_full shape (points_in shape part))) (first_too_full (suc k) (drop (k + 1) shapes) (drop (k + 1) parts))
full_here shapes parts k shape part below also here there =
    ap (λ (ss : List Shape). first_too_full k ss (drop k parts)) (drop_more shapes k shape below ∙ ap (λ (s : Shape). s ∷ drop (k + 1) shapes) (sym here))
    ∙ ap (first_too_full k (shape ∷ drop (k + 1) shapes)) (drop_more parts k part also ∙ ap (λ (p : Part). p ∷ drop (k + 1) parts) (sym there))

pub room_here : (shapes : List Shape) (parts : List Part) (k : ℕ) (shape : Shape) (part : Part) (whole : Option SnapFault) → k < length shapes → k < length parts → shape ≡ get_or shapes k shape → part ≡ get_or parts k part
    → first_full shape (points_in shape part) ≡ None → first_too_full k (drop k shapes) (drop k parts) ≡ whole → first_too_full (k + 1) (drop (k + 1) shapes) (drop (k + 1) parts) ≡ whole
room_here shapes parts k shape part whole below also here there room so_far =
    ap (λ (n : ℕ). first_too_full n (drop (k + 1) shapes) (drop (k + 1) parts)) (let e : k + 1 ≡ suc k = omega arith in e)
    ∙ sym (ap (λ (o : Option FullNode). option_or (full_fault k o) (first_too_full (suc k) (drop (k + 1) shapes) (drop (k + 1) parts))) room)
    ∙ sym (full_here shapes parts k shape part below also here there) ∙ so_far

pub refused_here : (shapes : List Shape) (parts : List Part) (k : ℕ) (shape : Shape) (part : Part) (s : Stop SnapFault) → k < length shapes → k < length parts → shape ≡ get_or shapes k shape → part ≡ get_or parts k part
    → first_too_full k (drop k shapes) (drop k parts) ≡ first_too_full 0 shapes parts → StandsForPart k shape part (Err s) → StandForAnswer shapes (filled shapes parts) (Err s)
refused_here shapes parts k shape part stop.Memory below also here there so_far is = tt
refused_here shapes parts k shape part (stop.Refused fault) below also here there so_far is =
    ap (λ (o : Option SnapFault). fault_or o (the_state shapes parts))
    (sym so_far ∙ full_here shapes parts k shape part below also here there
    ∙ ap (λ (o : Option SnapFault). option_or o (first_too_full (suc k) (drop (k + 1) shapes) (drop (k + 1) parts))) is)
  where
    the_state : List Shape → List Part → Result FlatState SnapFault
    the_state ss ps = Ok (record { layouts = layouts_of ss ps })

-- ---- the stores so far
abbrev pub Stand : List Shape → List Part → ℕ → List StoreWords → Type 0
Stand shapes parts k list = StandForState (take k shapes) list (record { layouts = layouts_of (take k shapes) (take k parts) })

zip_push : (stores : List StoreWords) (flats : List FlatLayout) (store : StoreWords) (flat : FlatLayout) → AllZip StandsFor stores flats → StandsFor store flat → AllZip StandsFor (stores ++ store ∷ []) (flats ++ flat ∷ [])
zip_push [] [] store flat are is = (is, tt)
zip_push [] (f ∷ flats) store flat are is = absurd are
zip_push (s ∷ stores) [] store flat are is = absurd are
zip_push (s ∷ stores) (f ∷ flats) store flat are is = (are.0, zip_push stores flats store flat are.1 is)

layouts_push : (shapes : List Shape) (parts : List Part) (k : ℕ) (shape : Shape) (part : Part) → k < length shapes → k < length parts → shape ≡ get_or shapes k shape → part ≡ get_or parts k part
    → layouts_of (take (k + 1) shapes) (take (k + 1) parts) ≡ layouts_of (take k shapes) (take k parts) ++ layout_of shape part ∷ []
layouts_push shapes parts k shape part below also here there =
    ap (λ (n : ℕ). layouts_of (take n shapes) (take n parts)) (let e : k + 1 ≡ suc k = omega arith in e) ∙ steps shapes parts k below also here there
  where
    steps : (ss : List Shape) (ps : List Part) (j : ℕ) → j < length ss → j < length ps → shape ≡ get_or ss j shape → part ≡ get_or ps j part
        → layouts_of (take (suc j) ss) (take (suc j) ps) ≡ layouts_of (take j ss) (take j ps) ++ layout_of shape part ∷ []
    steps [] ps j low lower at_s at_p = absurd (omega arith)
    steps (s ∷ ss) [] j low lower at_s at_p = absurd (omega arith)
    steps (s ∷ ss) (p ∷ ps) zero low lower at_s at_p = ap₂ (λ (x : Shape) (y : Part). layout_of x y ∷ []) (sym at_s) (sym at_p)
    steps (s ∷ ss) (p ∷ ps) (suc j) low lower at_s at_p = ap (λ (l : List FlatLayout). layout_of s p ∷ l) (steps ss ps j (omega arith) (omega arith) at_s at_p)

pub stand_more : (shapes : List Shape) (parts : List Part) (k : ℕ) (shape : Shape) (part : Part) (list list' : List StoreWords) (store : StoreWords) → k < length shapes → k < length parts → shape ≡ get_or shapes k shape → part ≡ get_or parts k part
    → list' ≡ list ++ store ∷ [] → store.shape ≡ shape → StandsFor store (layout_of shape part) → Stand shapes parts k list → Stand shapes parts (k + 1) list'
stand_more shapes parts k shape part list list' store below also here there pushed same stands so_far = record {
  shapes_are = ap shapes_of pushed ∙ map-append (λ (s : StoreWords). s.shape) list (store ∷ [])
      ∙ ap₂ (λ (xs : List Shape) (x : Shape). xs ++ x ∷ []) so_far.shapes_are (same ∙ here) ∙ sym (take_more shapes k shape below);
  stand = subst (λ (l : List StoreWords). AllZip StandsFor l (layouts_of (take (k + 1) shapes) (take (k + 1) parts))) (sym pushed)
      (subst (λ (fs : List FlatLayout). AllZip StandsFor (list ++ store ∷ []) fs) (sym (layouts_push shapes parts k shape part below also here there))
      (zip_push list (layouts_of (take k shapes) (take k parts)) store (layout_of shape part) so_far.stand stands));
}

pub stand_none : (shapes : List Shape) (parts : List Part) (list : List StoreWords) → list ≡ [] → Stand shapes parts 0 list
stand_none shapes parts list none = record {
  shapes_are = ap shapes_of none;
  stand = subst (λ (l : List StoreWords). AllZip StandsFor l (layouts_of [] [])) (sym none) tt;
}

-- all layouts have their stores
pub stand_all : (shapes : List Shape) (parts : List Part) (k : ℕ) (list : List StoreWords) (stores : Stores) → length shapes ≤ k → length parts ≤ k → stores.list ≡ list → first_too_full k (drop k shapes) (drop k parts) ≡ first_too_full 0 shapes parts
    → Stand shapes parts k list → StandForAnswer shapes (filled shapes parts) (Ok stores)
stand_all shapes parts k list stores past also is so_far stands =
    let all_shapes : take k shapes ≡ shapes = take_all k shapes past in
    let all_parts : take k parts ≡ parts = take_all k parts also in
    let none : first_too_full 0 shapes parts ≡ None = sym so_far ∙ ap (λ (ss : List Shape). first_too_full k ss (drop k parts)) (drop_all k shapes past) in
    let state : Result FlatState SnapFault = Ok (record { layouts = layouts_of shapes parts }) in
    subst (λ (r : Result FlatState SnapFault). IsOkAnd r (StandForState shapes stores.list)) (sym (ap (λ (o : Option SnapFault). fault_or o state) none))
    (subst (λ (l : List StoreWords). StandForState shapes l (record { layouts = layouts_of shapes parts })) (sym is)
    (subst (λ (ps : List Part). StandForState shapes list (record { layouts = layouts_of shapes ps })) all_parts
    (subst (λ (ss : List Shape). StandForState ss list (record { layouts = layouts_of ss (take k parts) })) all_shapes stands)))

-- ---- closed or not
pub none_open : (shapes : List Shape) (parts : List Part) (result : Result Stores (Stop SnapFault)) → first_open 0 shapes parts ≡ None → StandForAnswer shapes (filled shapes parts) result → StandForAnswer shapes (state_of shapes (Some parts)) result
none_open shapes parts result none is =
    subst (λ (o : Option SnapFault). StandForAnswer shapes (fault_or o (filled shapes parts)) result) (sym none) is

pub one_open : (shapes : List Shape) (parts : List Part) (fault : SnapFault) → Some fault ≡ first_open 0 shapes parts → state_of shapes (Some parts) ≡ Err fault
one_open shapes parts fault is = ap (λ (o : Option SnapFault). fault_or o (filled shapes parts)) (sym is)

-- ---- read or not
pub shapes_are : (shapes : List Shape) (meant : Result FlatState SnapFault) (result : Result Stores (Stop SnapFault)) → StandForAnswer shapes meant result → IfOk result (λ stores. shapes_of stores.list ≡ shapes)
shapes_are shapes (Ok state) (Ok stores) is = is.shapes_are
shapes_are shapes (Err fault) (Ok stores) is = absurd is
shapes_are shapes meant (Err s) is = tt

pub restored_none : (shapes list : List Shape) (bytes : List ℕ) → list ≡ shapes → None ≡ parts_in (frames_of list) bytes → restored shapes bytes ≡ Err NotSnapshot
restored_none shapes list bytes same found = ap (state_of shapes) (sym (found ∙ ap (λ (ss : List Shape). parts_in (frames_of ss) bytes) same))

pub restored_some : (shapes list : List Shape) (bytes : List ℕ) (parts given : List Part) (result : Result Stores (Stop SnapFault)) → list ≡ shapes → given ≡ parts → Some parts ≡ parts_in (frames_of list) bytes → StandForAnswer list (state_of list (Some given)) result
    → StandForAnswer shapes (restored shapes bytes) result
restored_some shapes list bytes parts given result same is found answer =
    subst (λ (o : Option (List Part)). StandForAnswer shapes (state_of shapes o) result) (found ∙ ap (λ (ss : List Shape). parts_in (frames_of ss) bytes) same)
    (subst (λ (ss : List Shape). StandForAnswer ss (state_of ss (Some parts)) result) same
    (subst (λ (ps : List Part). StandForAnswer list (state_of list (Some ps)) result) is answer))
