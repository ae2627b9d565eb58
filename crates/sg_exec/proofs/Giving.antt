-- What writes give, and what seats gave.
use Rattle.std.proofs.Common.{◌≡◌, ℕ, zero, suc, ◌+◌, ◌<◌, Bool, true, false, not, ◌&&◌, ◌==◌, cond, inl, inr, List, [], ◌∷◌, ◌++◌, length, take, get_or, Option, Some, None, refl, sym, ap, ◌∙◌, subst, arith, append_assoc, map}
use Rattle.std.specs.Prelude.{slice_get, slice_set, IfSome, filter}
use Rattle.std.proofs.lemmas.Bool.{cases_eq, cond-true, cond-false, eqb-true, eq-eqb, and_from}
use Rattle.std.proofs.lemmas.List.{append-nil, take_more}
use Rattle.std.proofs.lemmas.Option.{same_Some, slice_get_within}
use Rattle.sg_flat.specs.declared.effects.Way.{Way}
use Rattle.sg_flat.specs.declared.effects.Way.TheVariants.{Own, Acc}
use Rattle.sg_accum.specs.declared.seat.AccSeat.{AccSeat}
use Rattle.sg_accum.specs.Folding.{old_values, given_to, given_of, IsSeatOf}
use Rattle.sg_store.specs.StoreWords.{StoreWords}
use Rattle.sg_store.specs.WellFormed.{IsReached}
use Rattle.sg_ir.specs.Runs.{is_own}
use Rattle.sg_exec.specs.declared.lanes.cell_write.CellWrite.{CellWrite}
use Rattle.sg_exec.specs.declared.lanes.moment.Moment.{Moment}
use Rattle.sg_exec.specs.declared.results.shared.Accumulated.{Accumulated}
use Rattle.sg_exec.specs.steps.Machines.{IsCellOf}
use Rattle.sg_exec.specs.steps.Racing.{is_into, given_at, given_by, contributions, joining, all_writes, IsPassOf, AreSeats, HasGiven, HaveGiven}
use Rattle.sg_exec.proofs.Coming.{come_same, come_on, come_more}

-- ---- items of lists

pub at_below : {X : Type 0} (xs : List X) (k : ℕ) → k < length xs → (x : X) × (slice_get xs k ≡ Some x)
at_below [] k below = absurd (omega arith)
at_below (x ∷ xs) zero below = (x, refl)
at_below (x ∷ xs) (suc k) below = at_below xs k (omega arith)

pub set_same : {X : Type 0} (xs : List X) (k : ℕ) (x : X) → k < length xs → slice_get (slice_set xs k x) k ≡ Some x
set_same [] k x below = absurd (omega arith)
set_same (y ∷ ys) zero x below = refl
set_same (y ∷ ys) (suc k) x below = set_same ys k x (omega arith)

pub set_other : {X : Type 0} (xs : List X) (k j : ℕ) (x : X) → (j ≡ k → ⊥) → slice_get (slice_set xs k x) j ≡ slice_get xs j
set_other [] k j x apart = refl
set_other (y ∷ ys) zero zero x apart = absurd (apart refl)
set_other (y ∷ ys) zero (suc j) x apart = refl
set_other (y ∷ ys) (suc k) zero x apart = refl
set_other (y ∷ ys) (suc k) (suc j) x apart = set_other ys k j x (λ same. apart (ap suc same))

pub set_long : {X : Type 0} (xs : List X) (k : ℕ) (x : X) → length (slice_set xs k x) ≡ length xs
set_long [] k x = refl
set_long (y ∷ ys) zero x = refl
set_long (y ∷ ys) (suc k) x = ap suc (set_long ys k x)

-- ---- what writes give

pub given_to-append : (c : ℕ) (xs ys : List (ℕ × ℕ)) → given_to c (xs ++ ys) ≡ given_to c xs ++ given_to c ys
given_to-append c [] ys = refl
given_to-append c (x ∷ xs) ys = by_test (x.0 == c) x (filter (λ (y : ℕ × ℕ). y.0 == c) (xs ++ ys)) (filter (λ (y : ℕ × ℕ). y.0 == c) xs) (filter (λ (y : ℕ × ℕ). y.0 == c) ys) (given_to-append c xs ys)
  where
    by_test : (b : Bool) (x : ℕ × ℕ) (whole left right : List (ℕ × ℕ)) → map (λ (y : ℕ × ℕ). y.1) whole ≡ map (λ (y : ℕ × ℕ). y.1) left ++ map (λ (y : ℕ × ℕ). y.1) right
        → map (λ (y : ℕ × ℕ). y.1) (cond b (x ∷ whole) whole) ≡ map (λ (y : ℕ × ℕ). y.1) (cond b (x ∷ left) left) ++ map (λ (y : ℕ × ℕ). y.1) right
    by_test true x whole left right e = ap (λ (zs : List ℕ). x.1 ∷ zs) e
    by_test false x whole left right e = e

pub contributions-append : (layout place : ℕ) (xs ys : List CellWrite) → contributions layout place (xs ++ ys) ≡ contributions layout place xs ++ contributions layout place ys
contributions-append layout place [] ys = refl
contributions-append layout place (x ∷ xs) ys =
    ap (λ (zs : List (ℕ × ℕ)). given_by layout place x ++ zs) (contributions-append layout place xs ys)
    ∙ sym (append_assoc (given_by layout place x) (contributions layout place xs) (contributions layout place ys))

-- what writes and then others give to a cell
pub given_both : (c layout place : ℕ) (xs ys : List CellWrite) → given_to c (contributions layout place (xs ++ ys)) ≡ given_to c (contributions layout place xs) ++ given_to c (contributions layout place ys)
given_both c layout place xs ys = ap (given_to c) (contributions-append layout place xs ys) ∙ given_to-append c (contributions layout place xs) (contributions layout place ys)

pub given_own : (layout place : ℕ) (write : CellWrite) → write.way ≡ Own → given_by layout place write ≡ []
given_own layout place write own = ap (λ (way : Way). cond (not (is_own way) && is_into layout place write) (given_at write.cell write.value) []) own

pub given_nowhere : (layout place : ℕ) (write : CellWrite) → write.cell ≡ None → given_by layout place write ≡ []
given_nowhere layout place write none =
    ap (λ (cell : Option ℕ). cond (not (is_own write.way) && is_into layout place write) (given_at cell write.value) []) none
    ∙ by_test (not (is_own write.way) && is_into layout place write)
  where
    by_test : (b : Bool) → cond {A = List (ℕ × ℕ)} b [] [] ≡ []
    by_test true = refl
    by_test false = refl

and_false : (a b : Bool) → b ≡ false → (a && b) ≡ false
and_false true b h = h
and_false false b h = refl

is_into_not : (layout place : ℕ) (write : CellWrite) → (write.layout ≡ layout → write.place ≡ place → ⊥) → is_into layout place write ≡ false
is_into_not layout place write apart = elim (cases_eq write.layout layout) [
  | inr other ↦ ap (λ (b : Bool). b && (write.place == place)) (by_not (write.layout == layout) (λ same. other (eqb-true write.layout layout same)))
  | inl same ↦ and_false (write.layout == layout) (write.place == place) (by_not (write.place == place) (λ there. apart same (eqb-true write.place place there)))
]
  where
    by_not : (b : Bool) → (b ≡ true → ⊥) → b ≡ false
    by_not true h = absurd (h refl)
    by_not false h = refl

pub given_elsewhere : (layout place : ℕ) (write : CellWrite) → (write.layout ≡ layout → write.place ≡ place → ⊥) → given_by layout place write ≡ []
given_elsewhere layout place write apart =
    cond-false (not (is_own write.way) && is_into layout place write) (given_at write.cell write.value) []
    (and_false (not (is_own write.way)) (is_into layout place write) (is_into_not layout place write apart))

pub given_here : (layout place cell : ℕ) (op : _) (write : CellWrite) → write.way ≡ Acc op → write.layout ≡ layout → write.place ≡ place → write.cell ≡ Some cell
    → given_by layout place write ≡ (cell, write.value) ∷ []
given_here layout place cell op write way same there is =
    cond-true (not (is_own write.way) && is_into layout place write) (given_at write.cell write.value) []
    (and_from (not (is_own write.way)) (is_into layout place write) (ap (λ (w : Way). not (is_own w)) way)
    (and_from (write.layout == layout) (write.place == place) (eq-eqb write.layout layout same) (eq-eqb write.place place there)))
    ∙ ap (λ (c : Option ℕ). given_at c write.value) is

-- ---- the writes of iterations

all_writes-append : (xs ys : List Moment) → all_writes (xs ++ ys) ≡ all_writes xs ++ all_writes ys
all_writes-append [] ys = refl
all_writes-append (x ∷ xs) ys = ap (λ (ws : List CellWrite). x.cells.writes ++ ws) (all_writes-append xs ys) ∙ sym (append_assoc x.cells.writes (all_writes xs) (all_writes ys))

pub writes_more : (moments : List Moment) (k : ℕ) (moment : Moment) → k < length moments → moment ≡ get_or moments k moment → all_writes (take (k + 1) moments) ≡ all_writes (take k moments) ++ moment.cells.writes
writes_more moments k moment below is =
    ap all_writes (take_more moments k moment below ∙ ap (λ (m : Moment). take k moments ++ m ∷ []) (sym is))
    ∙ all_writes-append (take k moments) (moment ∷ [])
    ∙ ap (λ (ws : List CellWrite). all_writes (take k moments) ++ ws) (append-nil moment.cells.writes)

-- ---- what seats gave

pub has_given_more : (it : Accumulated) (xs ys : List CellWrite) (old mid now : AccSeat) → HasGiven it xs old mid → HasGiven it ys mid now → HasGiven it (xs ++ ys) old now
has_given_more it xs ys old mid now first second = record {
  given = λ c.
      let gx = given_to c (contributions it.layout it.field xs) in
      let gy = given_to c (contributions it.layout it.field ys) in
      come_on (joining it) (given_of now c) (given_of mid c ++ gy) (given_of old c ++ given_to c (contributions it.layout it.field (xs ++ ys))) (second.given c)
      (come_on (joining it) (given_of mid c ++ gy) ((given_of old c ++ gx) ++ gy) (given_of old c ++ given_to c (contributions it.layout it.field (xs ++ ys)))
      (come_more (joining it) (given_of mid c) (given_of old c ++ gx) gy (first.given c))
      (come_same (joining it) ((given_of old c ++ gx) ++ gy) (given_of old c ++ given_to c (contributions it.layout it.field (xs ++ ys)))
      (append_assoc (given_of old c) gx gy ∙ ap (λ (g : List ℕ). given_of old c ++ g) (sym (given_both c it.layout it.field xs ys)))));
  weight_is = second.weight_is ∙ first.weight_is;
}

has_given_none : (it : Accumulated) (xs : List CellWrite) (seat : AccSeat) → contributions it.layout it.field xs ≡ [] → HasGiven it xs seat seat
has_given_none it xs seat none = record {
  given = λ c. come_same (joining it) (given_of seat c) (given_of seat c ++ given_to c (contributions it.layout it.field xs))
      (sym (ap (λ (g : List (ℕ × ℕ)). given_of seat c ++ given_to c g) none ∙ append-nil (given_of seat c)));
  weight_is = refl;
}

has_given_as : (it : Accumulated) (xs : List CellWrite) (old now : AccSeat) → contributions it.layout it.field xs ≡ [] → old ≡ now → HasGiven it xs old now
has_given_as it xs old now none same = subst (λ (s : AccSeat). HasGiven it xs old s) same (has_given_none it xs old none)

pub gave_nothing : (accumulated : List Accumulated) (seats : List AccSeat) → HaveGiven accumulated [] seats seats
gave_nothing accumulated seats = λ k it old now is was at. has_given_as it [] old now refl (same_Some _ _ (sym was ∙ at))

pub gave_more : (accumulated : List Accumulated) (xs ys : List CellWrite) (olds mids nows : List AccSeat) → length mids ≡ length accumulated
    → HaveGiven accumulated xs olds mids → HaveGiven accumulated ys mids nows → HaveGiven accumulated (xs ++ ys) olds nows
gave_more accumulated xs ys olds mids nows long first second = λ k it old now is was at.
    let below : k < length accumulated = slice_get_within accumulated k it is in
    let mid = at_below mids k (omega arith) in
    has_given_more it xs ys old mid.0 now (first k it old mid.0 is was mid.1) (second k it mid.0 now is mid.1 at)

-- ---- seats stay seats

pub seats_set : (accumulated : List Accumulated) (seats : List AccSeat) (number : ℕ) (it : Accumulated) (now : AccSeat) → AreSeats accumulated seats
    → slice_get accumulated number ≡ Some it → IsSeatOf it.pass now → AreSeats accumulated (slice_set seats number now)
seats_set accumulated seats number it now are is own = record {
  long = set_long seats number now ∙ are.long;
  own = λ k other seat is_other at. elim (cases_eq k number) [
    | inl here ↦ (
        let below : number < length accumulated = slice_get_within accumulated number it is in
        let long = are.long in
        let within : number < length seats = omega arith in
        let item : it ≡ other = same_Some _ _ (sym is ∙ sym (ap (slice_get accumulated) here) ∙ is_other) in
        let seat_is : now ≡ seat = same_Some _ _ (sym (set_same seats number now within) ∙ sym (ap (slice_get (slice_set seats number now)) here) ∙ at) in
        subst (λ (o : Accumulated). IsSeatOf o.pass seat) item (subst (λ (s : AccSeat). IsSeatOf it.pass s) seat_is own)
        )
    | inr elsewhere ↦ are.own k other seat is_other (sym (set_other seats number k now elsewhere) ∙ at)
  ];
}

-- a write's cell is one of the pass
pub cell_within : (stores : List StoreWords) (it : Accumulated) (write : CellWrite) (cell : ℕ) → IsPassOf stores it → IfSome write.cell (IsCellOf stores write.layout) → write.cell ≡ Some cell → it.layout ≡ write.layout
    → cell < length (old_values it.pass)
cell_within stores it write cell pass cells is same =
    let here : IsCellOf stores write.layout cell = subst (λ (c : Option ℕ). IfSome c (IsCellOf stores write.layout)) is cells in
    let store_is : here.store ≡ pass.store = same_Some _ _ (sym here.there ∙ ap (slice_get stores) (sym same) ∙ pass.there) in
    pass.is_front.all_reached cell (subst (λ (s : StoreWords). IsReached s cell) store_is here.reached)
