-- No load is refused for a write outside: the rows of a grid text are inside, and a full node is another fault.
use Rattle.std.proofs.Common.{◌≡◌, ℕ, suc, List, [], ◌∷◌, ◌++◌, map, Option, Some, None, Result, Ok, Err, slice_get, refl, sym, ap, ◌∙◌}
use Rattle.std.specs.Option.{option_or}
use Rattle.std.proofs.lemmas.Bool.{cond-true}
use Rattle.sg_words.specs.Results.{◌>>=◌, fault_or, fault_as}
use Rattle.sg_words.specs.declared.operators.Ty.{Ty}
use Rattle.sg_coord.specs.declared.coord.Coord.{Coord}
use Rattle.sg_coord.specs.Bounds.{Bounds}
use Rattle.sg_layout.specs.declared.shape.Shape.{Shape}
use Rattle.sg_layout.specs.Axes.{bounds_of_shape}
use Rattle.sg_layout.specs.Need.{FullNode, first_full}
use Rattle.sg_flat.specs.declared.state.FlatLayout.{FlatLayout}
use Rattle.sg_flat.specs.declared.state.FlatState.{FlatState}
use Rattle.sg_flat.specs.declared.effects.Turn.{Turn}
use Rattle.sg_flat.specs.declared.effects.Write.{Write}
use Rattle.sg_flat.specs.declared.effects.RunFault.{RunFault}
use Rattle.sg_flat.specs.declared.effects.RunFault.TheVariants.{WriteOutside}
use Rattle.sg_flat.specs.Effects.{written_in}
use Rattle.sg_flat.specs.Kernel.{is_inside_of, first_outside, full_fault, first_full_layout, layouts_after}
use Rattle.sg_names.specs.declared.tables.FieldAt.{FieldAt}
use Rattle.sg_grid.specs.declared.grid.GridRow.{GridRow}
use Rattle.sg_grid.specs.declared.grid.GridFault.{GridFault}
use Rattle.sg_grid.specs.declared.grid.GridFault.TheVariants as grid
use Rattle.sg_grid.specs.Reading.{rows_of}
use Rattle.sg_grid.specs.Accepted.{AreRows}
use Rattle.sg_grid.specs.Laws.{ReadsRows}
use Rattle.sg_exec.specs.Running.{turn_of, load_meaning}
use Rattle.sg_outside.specs.Files.{Bytes, TooMany, Missing}
use Rattle.sg_session.specs.declared.refusal.RunRefusal.TheVariants as refusal
use Rattle.sg_session.specs.Commands.{grid_refusal, bounds_or_none, row_write}
use Rattle.sg_session.specs.Laws.{LoadsStayInside}

-- a full node is no write outside
full_is_another : (layout : ℕ) (shapes : List Shape) (flats : List FlatLayout) (turns : List Turn) (stmt : ℕ) (c : Coord) → first_full_layout layout shapes flats turns ≡ Some (WriteOutside stmt c) → ⊥
full_is_another layout [] flats turns stmt c e = cc
full_is_another layout (shape ∷ shapes) [] turns stmt c e = cc
full_is_another layout (shape ∷ shapes) (flat ∷ flats) turns stmt c e =
    by_case (first_full shape (flat.active ++ written_in layout turns)) (full_is_another (suc layout) shapes flats turns stmt c) e where
      by_case : (full : Option FullNode) → (first_full_layout (suc layout) shapes flats turns ≡ Some (WriteOutside stmt c) → ⊥)
          → option_or (full_fault layout full) (first_full_layout (suc layout) shapes flats turns) ≡ Some (WriteOutside stmt c) → ⊥
      by_case None below e = below e
      by_case (Some full) below e = cc

-- rows inside are written inside
all_inside : (layouts : List Shape) (at : FieldAt) (shape : Shape) → slice_get layouts at.layout ≡ Some shape → (last : Option Coord) (rows : List GridRow) → AreRows (bounds_of_shape shape) last rows
    → first_outside layouts (map turn_of (map (row_write at.layout at.place) rows)) ≡ None
all_inside layouts at shape there last [] are = refl
all_inside layouts at shape there last (row ∷ rows) are =
    let rest : Option RunFault = first_outside layouts (map turn_of (map (row_write at.layout at.place) rows)) in
    let none : Option RunFault = None in
    ap (λ (found : Option RunFault). option_or found rest) (cond-true (is_inside_of (slice_get layouts at.layout) row.at) none (Some (WriteOutside 0 row.at)) (ap (λ (o : Option Shape). is_inside_of o row.at) there ∙ are.0))
    ∙ all_inside layouts at shape there (Some row.at) rows are.3

-- a load whose rows are inside
load_goes_in : (layouts : List Shape) (state : FlatState) (writes : List Write) (stmt : ℕ) (c : Coord) → first_outside layouts (map turn_of writes) ≡ None
    → fault_as (refusal.Run None) (load_meaning layouts state writes) ≡ Err (refusal.Run None (WriteOutside stmt c)) → ⊥
load_goes_in layouts state writes stmt c inside e =
    let turns : List Turn = map turn_of writes in
    let full : Option RunFault = first_full_layout 0 layouts state.layouts turns in
    let after : Result FlatState RunFault = Ok (record { layouts = layouts_after 0 layouts state.layouts turns }) in
    let meaning : load_meaning layouts state writes ≡ fault_or full after = ap (λ (found : Option RunFault). fault_or found (fault_or full after)) inside in
    by_case full refl (sym (ap (fault_as (refusal.Run None)) meaning) ∙ e) where
      by_case : (full : Option RunFault) → first_full_layout 0 layouts state.layouts (map turn_of writes) ≡ full
          → fault_as {A = FlatState} (refusal.Run None) (fault_or full (Ok (record { layouts = layouts_after 0 layouts state.layouts (map turn_of writes) }))) ≡ Err (refusal.Run None (WriteOutside stmt c)) → ⊥
      by_case None is e = cc
      by_case (Some fault) is e =
          let same : fault ≡ WriteOutside stmt c = cc in
          full_is_another 0 layouts state.layouts (map turn_of writes) stmt c (is ∙ ap (λ (f : RunFault). let out : Option RunFault = Some f in out) same)

-- a fault of a grid text is another
text_is_another : (field : ℕ) (f : GridFault) (stmt : ℕ) (c : Coord) → grid_refusal field f ≡ refusal.Run None (WriteOutside stmt c) → ⊥
text_is_another field (grid.BadText line) stmt c e = cc
text_is_another field (grid.Outside line) stmt c e = cc
text_is_another field (grid.NotRising line) stmt c e = cc
text_is_another field grid.TooManyBytes stmt c e = cc
text_is_another field grid.TooManyRows stmt c e = cc

-- a load of a text that is read, or of one that isn't
text_goes_in : (layouts : List Shape) (state : FlatState) (at : FieldAt) (shape : Shape) → slice_get layouts at.layout ≡ Some shape → (stmt : ℕ) (c : Coord) (rows : Result (List GridRow) GridFault)
    → ((list : List GridRow) → rows ≡ Ok list → AreRows (bounds_of_shape shape) None list)
    → ((fault_as (grid_refusal at.number) (rows >>= (λ list. let out : Result (List Write) GridFault = Ok (map (row_write at.layout at.place) list) in out))) >>= (λ writes. fault_as (refusal.Run None) (load_meaning layouts state writes)))
    ≡ Err (refusal.Run None (WriteOutside stmt c)) → ⊥
text_goes_in layouts state at shape there stmt c (Err f) are e =
    let same : grid_refusal at.number f ≡ refusal.Run None (WriteOutside stmt c) = cc in
    text_is_another at.number f stmt c same
text_goes_in layouts state at shape there stmt c (Ok rows) are e =
    load_goes_in layouts state (map (row_write at.layout at.place) rows) stmt c (all_inside layouts at shape there None rows (are rows refl)) e

pub loads_stay_inside : ((bounds : Bounds) (type : Ty) → ReadsRows bounds type) → LoadsStayInside
loads_stay_inside read layouts at shape there state Missing stmt c e = cc
loads_stay_inside read layouts at shape there state TooMany stmt c e = cc
loads_stay_inside read layouts at shape there state (Bytes bytes) stmt c e =
    let bounds : bounds_or_none (slice_get layouts at.layout) ≡ bounds_of_shape shape = ap bounds_or_none there in
    text_goes_in layouts state at shape there stmt c (rows_of (bounds_or_none (slice_get layouts at.layout)) at.ty bytes)
    (λ list is. read (bounds_of_shape shape) at.ty list bytes (sym (ap (λ (b : Bounds). rows_of b at.ty bytes) bounds) ∙ is)) e
