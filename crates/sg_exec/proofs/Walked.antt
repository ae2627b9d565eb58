-- The writes that may not activate stand at active coordinates of the walked layout.
use Rattle.std.proofs.Common.{◌≡◌, true, false, List, [], ◌∷◌, Option, Some, None, refl, sym, ap, ◌∙◌, subst}
use Rattle.std.specs.Prelude.{slice_get, Contains}
use Rattle.std.specs.List.{AllZip}
use Rattle.std.proofs.lemmas.Bool.{eqb-true, both_ways}
use Rattle.std.proofs.lemmas.Option.{same_Some}
use Rattle.sg_words.proofs.Uses.{contains_none}
use Rattle.sg_coord.specs.declared.coord.Coord.{Coord}
use Rattle.sg_coord.specs.Coord.{Inside}
use Rattle.sg_coord.specs.Laws.{InsideTest}
use Rattle.sg_layout.specs.declared.shape.Shape.{Shape}
use Rattle.sg_layout.specs.Axes.{bounds_of_shape}
use Rattle.sg_layout.specs.ClosureLaws.{ClosureIsInside}
use Rattle.sg_flat.specs.declared.effects.Domain.{Domain}
use Rattle.sg_flat.specs.declared.effects.Domain.TheVariants.{Walk, Range}
use Rattle.sg_flat.specs.declared.effects.Write.{Write}
use Rattle.sg_flat.specs.declared.state.FlatLayout.{FlatLayout}
use Rattle.sg_flat.specs.declared.state.FlatState.{FlatState}
use Rattle.sg_flat.specs.Domain.{active_in, domain_points}
use Rattle.sg_flat.specs.Kernel.{is_inside_of}
use Rattle.sg_flat.specs.State.{AreFlatLayouts}
use Rattle.sg_store.specs.StoreWords.{StoreWords}
use Rattle.sg_store.specs.StandsFor.{StandsFor}
use Rattle.sg_ir.specs.Apt.{walks}
use Rattle.sg_exec.specs.Standing.{shapes_of}
use Rattle.sg_exec.proofs.StoreLists.{store_at, shape_at}

-- what stores stand for are flat layouts of their shapes
pub all_flat : (stores : List StoreWords) (flats : List FlatLayout) → AllZip StandsFor stores flats → AreFlatLayouts (shapes_of stores) flats
all_flat [] [] all = tt
all_flat [] (flat ∷ flats) all = absurd all
all_flat (store ∷ stores) [] all = absurd all
all_flat (store ∷ stores) (flat ∷ flats) all = (all.0.is_flat, all_flat stores flats all.1)

-- the write stands at an active coordinate of a layout that is there
pub record StandsActive (stores : List StoreWords) (flats : List FlatLayout) (write : Write) : Type 0 where
  pub store : StoreWords
  pub flat : FlatLayout
  pub is_store : slice_get stores write.layout ≡ Some store
  pub is_flat : slice_get flats write.layout ≡ Some flat
  pub stands : StandsFor store flat
  pub active : Contains flat.active write.at

pub left_out : (stores : List StoreWords) (state : FlatState) → AllZip StandsFor stores state.layouts → (d : Domain) (at : Coord) → Contains (domain_points state d) at
    → (write : Write) → write.at ≡ at → walks d write.layout ≡ true → StandsActive stores state.layouts write
left_out stores state all (Range lo hi) at has write here is_walked = absurd (both_ways false refl is_walked)
left_out stores state all (Walk layout) at has write here is_walked = by_found (slice_get state.layouts layout) refl
  where
    same_layout : layout ≡ write.layout
    same_layout = eqb-true layout write.layout is_walked

    by_found : (found : Option FlatLayout) → slice_get state.layouts layout ≡ found → StandsActive stores state.layouts write
    by_found None none = absurd (contains_none at (subst (λ (f : Option FlatLayout). Contains (active_in f) at) none has))
    by_found (Some flat) is =
        let active : Contains flat.active at = subst (λ (f : Option FlatLayout). Contains (active_in f) at) is has in
        let found = store_at stores state.layouts layout flat all is in
        record {
          store = found.0;
          flat = flat;
          is_store = ap (slice_get stores) (sym same_layout) ∙ found.1;
          is_flat = ap (slice_get state.layouts) (sym same_layout) ∙ is;
          stands = found.2;
          active = subst (λ (x : Coord). Contains flat.active x) (sym here) active;
        }

-- so it is inside
pub stands_inside : (stores : List StoreWords) (flats : List FlatLayout) (write : Write) → InsideTest → ((shape : Shape) → ClosureIsInside shape) → StandsActive stores flats write
    → is_inside_of (slice_get (shapes_of stores) write.layout) write.at ≡ true
stands_inside stores flats write test closure_inside it =
    let shape = it.store.shape in
    let inside : Inside (bounds_of_shape shape) write.at = (closure_inside shape it.flat.active write.at (subst (λ (ats : List Coord). Contains ats write.at) it.stands.is_flat.closed it.active)).1 in
    ap (λ (s : Option Shape). is_inside_of s write.at) (shape_at stores write.layout it.store it.is_store) ∙ (test (bounds_of_shape shape) write.at).1 inside

pub stands_active : (stores : List StoreWords) (flats : List FlatLayout) (write : Write) → StandsActive stores flats write → (flat : FlatLayout) → slice_get flats write.layout ≡ Some flat → Contains flat.active write.at
stands_active stores flats write it flat is = subst (λ (l : FlatLayout). Contains l.active write.at) (same_Some _ _ (sym it.is_flat ∙ is)) it.active
