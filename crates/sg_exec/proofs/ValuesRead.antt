-- What instructions that read make of iterations side by side.
use Rattle.std.proofs.Common.{◌≡◌, ℕ, ◌≤◌, List, Option, None, ap, ◌∙◌, subst, true, false}
use Rattle.std.specs.Prelude.{slice_get}
use Rattle.sg_words.specs.Words.{flag}
use Rattle.sg_coord.specs.declared.coord.Coord.{Coord}
use Rattle.sg_flat.specs.declared.state.FlatState.{FlatState}
use Rattle.sg_store.specs.StoreWords.{StoreWords}
use Rattle.sg_ir.specs.declared.code.Inst.TheVariants as v
use Rattle.sg_ir.specs.Runs.{Place, does, at_of, cell_value, is_active_place, named_by, own_value}
use Rattle.sg_ir.specs.Places.{place_at}
use Rattle.sg_ir.proofs.Uses.{does-OwnRead, does-ReadCell, does-IsActive}
use Rattle.sg_exec.specs.declared.lanes.batch.Batch.{Batch}
use Rattle.sg_exec.specs.declared.lanes.held.Held.{Held}
use Rattle.sg_exec.specs.declared.lanes.moment.Moment.{Moment}
use Rattle.sg_exec.specs.Standing.{shapes_of}
use Rattle.sg_exec.specs.steps.Machines.{seen_in, Sees, HoldsPlace}
use Rattle.sg_exec.specs.steps.Rows.{item_in, IsPut}
use Rattle.sg_exec.specs.steps.Moments.{AllMove, KeepsRows}
use Rattle.sg_exec.specs.steps.Accessing.{TellsActive, IsOwnValue, IsValueAt}
use Rattle.sg_exec.proofs.Reading.{own_value_is}
use Rattle.sg_exec.proofs.RowsMoved.{OnlyRegs, reads_done, told_done}

value_read : (mine stores : List StoreWords) (held : Option Held) (field word : ℕ) (state : FlatState) (loop : Coord) (sees : Sees stores state) (place : Option Place) (layout : ℕ) (at : Coord) → mine ≡ stores → IsValueAt mine held field word → HoldsPlace stores held place
    → place ≡ place_at (shapes_of stores) layout at → word ≡ cell_value (seen_in stores state loop) layout field (at_of (shapes_of stores) place)
value_read mine stores held field word state loop sees place layout at same value holds named =
    (subst (λ (ss : List StoreWords). IsValueAt ss held field word) same value) state sees.stand place holds layout at loop named

-- reads at places
pub values_done : (old mid new : Batch) (before after : List ℕ) (on : ℕ → Type 0) (to place layout field : ℕ) (index : List ℕ) → KeepsRows old mid → OnlyRegs mid new → before ≡ mid.regs.items → new.regs.items ≡ after
    → IsPut (λ k. IsValueAt mid.places.stores (item_in mid.places.list None k place) field) on to 0 before after → AllMove (λ seen. does seen (v.ReadCell to place layout field index)) on old new
values_done old mid new before after on to place layout field index keeps only was made has =
    reads_done old mid new before after on to (λ k. IsValueAt mid.places.stores (item_in mid.places.list None k place) field) (λ seen now. cell_value seen layout field (at_of seen.shapes (now.places place)))
    (λ now. record { asks = false; layout = layout; place = now.places place; at = named_by index now }) (λ seen. does seen (v.ReadCell to place layout field index)) (λ seen now. does-ReadCell seen to place layout field index now) keeps only was made has
    (λ k word stores state at moment now small holds sees moved named.
    value_read mid.places.stores stores (item_in mid.places.list None k place) field word state at sees (now.places place) layout (named_by index now) moved.stores_are holds (moved.places_are place) named)

active_seen : (mine stores : List StoreWords) (held : Option Held) (word : ℕ) (state : FlatState) (loop : Coord) (sees : Sees stores state) (place : Option Place) (layout : ℕ) (at : Coord) → mine ≡ stores → TellsActive mine held word → HoldsPlace stores held place
    → place ≡ place_at (shapes_of stores) layout at → word ≡ flag (is_active_place (seen_in stores state loop) (at_of (shapes_of stores) place) place)
active_seen mine stores held word state loop sees place layout at same value holds named =
    (subst (λ (ss : List StoreWords). TellsActive ss held word) same value) state sees.stand place holds layout at loop named

-- questions at places
pub asks_done : (old mid new : Batch) (before after : List ℕ) (on : ℕ → Type 0) (to place : ℕ) (index : List ℕ) → KeepsRows old mid → OnlyRegs mid new → before ≡ mid.regs.items → new.regs.items ≡ after
    → IsPut (λ k. TellsActive mid.places.stores (item_in mid.places.list None k place)) on to 0 before after → AllMove (λ seen. does seen (v.IsActive to place index)) on old new
asks_done old mid new before after on to place index keeps only was made has =
    reads_done old mid new before after on to (λ k. TellsActive mid.places.stores (item_in mid.places.list None k place)) (λ seen now. flag (is_active_place seen (at_of seen.shapes (now.places place)) (now.places place)))
    (λ now. record { asks = true; layout = now.roots place; place = now.places place; at = named_by index now }) (λ seen. does seen (v.IsActive to place index)) (λ seen now. does-IsActive seen to place index now) keeps only was made has
    (λ k word stores state at moment now small holds sees moved named.
    active_seen mid.places.stores stores (item_in mid.places.list None k place) word state at sees (now.places place) (now.roots place) (named_by index now) moved.stores_are holds (moved.places_are place) named)

-- reads in own cells
pub own_values_done : (old mid new : Batch) (before after : List ℕ) (moments : List Moment) (on : ℕ → Type 0) (to layout field : ℕ) → KeepsRows old mid → OnlyRegs mid new → before ≡ mid.regs.items → new.regs.items ≡ after → moments ≡ mid.moments.items
    → IsPut (IsOwnValue mid.places.stores moments layout field) on to 0 before after → AllMove (λ seen. does seen (v.OwnRead to layout field)) on old new
own_values_done old mid new before after moments on to layout field keeps only was made same_moments has =
    told_done old mid new before after on to (IsOwnValue mid.places.stores moments layout field) (λ seen now. own_value seen layout field now) (λ now. now.accesses) (λ seen. does seen (v.OwnRead to layout field)) (λ stores now. Unit {0})
    (λ seen now. does-OwnRead seen to layout field now) (λ stores now named. (named, tt)) keeps only was made has
    (λ k word stores state at moment now small is holds sees moved told.
    own_value_is stores state at moment.cells.at sees layout field word moment.cells.writes now.writes moved.at_is moved.writes_are
    ((subst (λ (ss : List StoreWords). IsOwnValue ss moments layout field k word) moved.stores_are holds) moment (ap (λ (ms : List Moment). slice_get ms k) same_moments ∙ is) state sees.stand))
