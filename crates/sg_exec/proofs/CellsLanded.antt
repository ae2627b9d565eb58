-- Writes that land by their cells in stores.
use Rattle.std.proofs.Common.{◌≡◌, ℕ, zero, suc, ◌<◌, Bool, true, false, cond, List, [], ◌∷◌, map, length, get_or, Option, Some, None, refl, sym, ap, ◌∙◌, subst, arith}
use Rattle.std.specs.Prelude.{slice_get, IfSome}
use Rattle.std.proofs.lemmas.Bool.{cond-true}
use Rattle.sg_coord.specs.Coord.{is_inside}
use Rattle.sg_layout.specs.declared.shape.Shape.{Shape}
use Rattle.sg_layout.specs.Axes.{bounds_of_shape}
use Rattle.sg_flat.specs.declared.effects.Write.{Write}
use Rattle.sg_flat.specs.Kernel.{is_inside_of}
use Rattle.sg_store.specs.StoreWords.{StoreWords}
use Rattle.sg_store.specs.WellFormed.{IsReached}
use Rattle.sg_ir.specs.Runs.{CodeWrite, is_own}
use Rattle.sg_exec.specs.declared.lanes.cell_write.CellWrite.{CellWrite}
use Rattle.sg_exec.specs.Standing.{shapes_of}
use Rattle.sg_exec.specs.steps.Machines.{cell_there, cell_write}
use Rattle.sg_exec.specs.steps.Landing.{HasTree, IsLanding, code_write, landing}
use Rattle.sg_exec.proofs.StoreLists.{shape_at}
use Rattle.sg_exec.proofs.Reading.{cell_at_store}

-- ---- stores with the same trees

pub tree_then : (store copy next : StoreWords) → HasTree store copy → HasTree copy next → HasTree store next
tree_then store copy next first second = second ∙ ap (λ (s : StoreWords). record s { fields = next.fields }) first

pub tree_shape : (store copy : StoreWords) → HasTree store copy → copy.shape ≡ store.shape
tree_shape store copy tree = ap (λ (s : StoreWords). s.shape) tree

reached_with : (store : StoreWords) (fields : List (List ℕ)) (cell : ℕ) → IsReached store cell → IsReached (record store { fields = fields }) cell
reached_with store fields cell is = record { slot = is.slot; is_slot = is.is_slot; leads = is.leads }

pub reached_tree : (store copy : StoreWords) (cell : Option ℕ) → HasTree store copy → IfSome cell (IsReached store) → IfSome cell (IsReached copy)
reached_tree store copy None tree is = tt
reached_tree store copy (Some cell) tree is = subst (λ (s : StoreWords). IsReached s cell) (sym tree) (reached_with store copy.fields cell is)

landing_with : (store : StoreWords) (fields : List (List ℕ)) (write : CellWrite) (made : Write) → IsLanding store write made → IsLanding (record store { fields = fields }) write made
landing_with store fields write made is = record { place = is.place; way = is.way; value = is.value; cell = is.cell }

pub landing_tree : (store copy : StoreWords) (write : CellWrite) (made : Write) → HasTree store copy → IsLanding store write made → IsLanding copy write made
landing_tree store copy write made tree is = subst (λ (s : StoreWords). IsLanding s write made) (sym tree) (landing_with store copy.fields write made is)

-- ---- a write of code, as it is kept

pub landing_is : (stores : List StoreWords) (store : StoreWords) (write : CellWrite) (made : Write) → slice_get stores write.layout ≡ Some store → write ≡ landing stores made → IsLanding store write made
landing_is stores store write made there is = record {
  place = ap (λ (w : CellWrite). w.place) is;
  way = ap (λ (w : CellWrite). w.way) is;
  value = ap (λ (w : CellWrite). w.value) is;
  cell = λ inside. ap (λ (w : CellWrite). w.cell) is ∙ ap (cell_there stores made.layout) (coded inside) ∙ cell_at_store stores made.layout store made.at here;
}
  where
    here : slice_get stores made.layout ≡ Some store
    here = ap (slice_get stores) (sym (ap (λ (w : CellWrite). w.layout) is)) ∙ there

    by_own : (own within : Bool) → within ≡ true → cond own (Some made.at) (cond within (Some made.at) None) ≡ Some made.at
    by_own true within is = refl
    by_own false within is = cond-true within (Some made.at) None is

    coded : is_inside (bounds_of_shape store.shape) made.at ≡ true → cond (is_own made.way) (Some made.at) (cond (is_inside_of (slice_get (shapes_of stores) made.layout) made.at) (Some made.at) None) ≡ Some made.at
    coded inside = by_own (is_own made.way) (is_inside_of (slice_get (shapes_of stores) made.layout) made.at)
        (ap (λ (s : Option Shape). is_inside_of s made.at) (shape_at stores made.layout store here) ∙ inside)

-- an item of a list that a function made
item_is : {A B : Type 0} (f : A → B) (made : List A) (i : ℕ) (item : B) (d : A) (e : B) → i < length (map f made) → item ≡ get_or (map f made) i e → item ≡ f (get_or made i d)
item_is f [] i item d e below is = absurd (omega (arith, below))
item_is f (first ∷ made) zero item d e below is = is
item_is f (first ∷ made) (suc i) item d e below is = item_is f made i item d e (omega (arith, below)) is

pub item_of : {A B : Type 0} (f : A → B) (made : List A) (items : List B) (i : ℕ) (item : B) (d : A) (e : B) → items ≡ map f made → i < length items → item ≡ get_or items i e → item ≡ f (get_or made i d)
item_of {A} {B} f made items i item d e is below at =
    item_is f made i item d e (subst (λ (xs : List B). i < length xs) is below) (subst (λ (xs : List B). item ≡ get_or xs i e) is at)

pub map_long : {A B : Type 0} (f : A → B) (made : List A) → length (map f made) ≡ length made
map_long f [] = refl
map_long f (first ∷ made) = ap suc (map_long f made)

pub landings_are : (stores : List StoreWords) (made : List CodeWrite) (writes : List Write) → made ≡ map (code_write (shapes_of stores)) writes → map (cell_write stores) made ≡ map (landing stores) writes
landings_are stores made writes is = ap (map (cell_write stores)) is ∙ both writes
  where
    both : (ws : List Write) → map (cell_write stores) (map (code_write (shapes_of stores)) ws) ≡ map (landing stores) ws
    both [] = refl
    both (write ∷ ws) = ap (λ (later : List CellWrite). landing stores write ∷ later) (both ws)
