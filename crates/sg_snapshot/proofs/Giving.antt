-- The fields of a store are given the words of a row, one after the other.
use Rattle.std.proofs.Common.{◌≡◌, ℕ, ◌+◌, ◌-◌, ◌^◌, ◌<◌, ◌≤◌, ◌⊎◌, inl, inr, Bool, ◌&&◌, cond, eqb, List, length, Some, refl, sym, ap, ◌∙◌, subst, arith}
use Rattle.std.specs.Prelude.{Contains}
use Rattle.std.proofs.lemmas.Bool.{cases_lt, lt-ltb, le-ltb, eq-eqb}
use Rattle.sg_coord.specs.declared.coord.Coord.{Coord}
use Rattle.sg_coord.specs.Bounds.{volume}
use Rattle.sg_coord.specs.Coord.{point_at}
use Rattle.sg_layout.specs.declared.shape.Shape.{Shape}
use Rattle.sg_layout.specs.Accepted.{IsAccepted}
use Rattle.sg_layout.proofs.Uses.{counts_declared}
use Rattle.sg_layout.specs.Axes.{bounds_of_shape}
use Rattle.sg_flat.specs.declared.state.FlatLayout.{FlatLayout}
use Rattle.sg_store.specs.StoreWords.{StoreWords}
use Rattle.sg_store.specs.StandsFor.{StandsFor, SetsValue}
use Rattle.sg_store.specs.Walks.{cell_in}
use Rattle.sg_store.specs.WellFormed.{IsReached}
use Rattle.sg_snapshot.specs.steps.Laying.{laid, IsLaid, put_row, GivesRow}
use Rattle.sg_snapshot.proofs.Laying.{PointLaws, laid_agree, is_laid_agree, put_is_laid, put_sets}

-- an accepted layout has few fields
pub few_fields : (shape : Shape) → IsAccepted shape → length shape.fields ≤ 16
few_fields shape is = (counts_declared shape is.declared).1

-- no field has been given words yet
none_put : (row : ℕ) (given : ℕ → ℕ) (word : ℕ → ℕ → ℕ) (place other : ℕ) → word place other ≡ put_row 0 row given word place other
none_put row given word place other = sym (ap (λ (t : Bool). cond (t && eqb row other) (given place) (word place other)) (le-ltb place 0 (omega arith)))

pub gives_none : (before : StoreWords) (row : ℕ) (given : ℕ → ℕ) (active : List Coord) (word : ℕ → ℕ → ℕ) → IsLaid before.shape active word → StandsFor before (laid before.shape active word) → GivesRow before before 0 row given active word
gives_none before row given active word is stands = record {
  laid_so = is_laid_agree before.shape active word (put_row 0 row given word) (λ place other _. none_put row given word place other) is;
  stands = subst (StandsFor before) (laid_agree before.shape active word (put_row 0 row given word) (λ place other _. none_put row given word place other)) stands;
}

-- the words given so far are words
given_small : (shape : Shape) (active : List Coord) (word : ℕ → ℕ → ℕ) (places row : ℕ) (given : ℕ → ℕ) → IsLaid shape active (put_row places row given word) → places < length shape.fields → (place : ℕ) → place < places → given place < 2 ^ 32
given_small shape active word places row given is fields place below =
    subst (λ (n : ℕ). n < 2 ^ 32)
    (ap (λ (t : Bool). cond (t && eqb row row) (given place) (word place row)) (lt-ltb place places below) ∙ ap (λ (t : Bool). cond t (given place) (word place row)) (eq-eqb row row refl))
    (is.small place row (omega arith))

pub gives_more : PointLaws → (before now after : StoreWords) (places row : ℕ) (given : ℕ → ℕ) (active : List Coord) (word : ℕ → ℕ → ℕ) (at : Coord) (value : ℕ) → row < volume (bounds_of_shape before.shape) → point_at (bounds_of_shape before.shape) row ≡ at
    → IsLaid before.shape active word → Contains active at → places < length before.shape.fields → now.shape ≡ before.shape → value ≡ given places → value < 2 ^ 32
    → ((flat later : FlatLayout) → StandsFor now flat → SetsValue now.shape flat later places at value → StandsFor after later)
    → GivesRow before now places row given active word → GivesRow before after (places + 1) row given active word
gives_more laws before now after places row given active word at value inside point is has below same_shape is_value fits sets so_far =
    let shape = before.shape in
    let there : Contains active (point_at (bounds_of_shape shape) row) = subst (λ (x : Coord). Contains active x) (sym point) has in
    let small : (place : ℕ) → place < places + 1 → given place < 2 ^ 32 = λ place low. by_side place (cases_lt place places) low in
    let set : SetsValue shape (laid shape active (put_row places row given word)) (laid shape active (put_row (places + 1) row given word)) places (point_at (bounds_of_shape shape) row) (given places) =
    put_sets laws shape active word places row given is there small below inside in
    record {
      laid_so = put_is_laid shape active word (places + 1) row given is there small;
      stands = sets (laid shape active (put_row places row given word)) (laid shape active (put_row (places + 1) row given word)) so_far.stands
          (subst (λ (s : Shape). SetsValue s (laid shape active (put_row places row given word)) (laid shape active (put_row (places + 1) row given word)) places at value) (sym same_shape)
          (subst (λ (x : Coord). SetsValue shape (laid shape active (put_row places row given word)) (laid shape active (put_row (places + 1) row given word)) places x value) point
          (subst (λ (n : ℕ). SetsValue shape (laid shape active (put_row places row given word)) (laid shape active (put_row (places + 1) row given word)) places (point_at (bounds_of_shape shape) row) n) (sym is_value) set)));
    }
  where
    by_side : (place : ℕ) → (place < places) ⊎ (places ≤ place) → place < places + 1 → given place < 2 ^ 32
    by_side place (inl low) _ = given_small before.shape active word places row given so_far.laid_so below place low
    by_side place (inr past) last = let e : place ≡ places = omega arith in subst (λ (n : ℕ). n < 2 ^ 32) (is_value ∙ ap given (sym e)) fits

-- what leads to a cell leads to it whatever the fields have
pub cell_stays : (before after : StoreWords) (fields : List (List ℕ)) (at : Coord) (cell : ℕ) → after ≡ record before { fields = fields } → cell_in before at ≡ Some cell → cell_in after at ≡ Some cell
cell_stays before after fields at cell same leads = ap (λ (s : StoreWords). cell_in s at) same ∙ leads

reached_beside : (before : StoreWords) (fields : List (List ℕ)) (cell : ℕ) → IsReached before cell → IsReached (record before { fields = fields }) cell
reached_beside before fields cell is = record { slot = is.slot; is_slot = is.is_slot; leads = is.leads }

pub reached_stays : (before after : StoreWords) (fields : List (List ℕ)) (cell : ℕ) → after ≡ record before { fields = fields } → IsReached before cell → IsReached after cell
reached_stays before after fields cell same is = subst (λ (s : StoreWords). IsReached s cell) (sym same) (reached_beside before fields cell is)
