-- One iteration more of a worker.
use Rattle.std.proofs.Common.{◌≡◌, ℕ, zero, suc, ◌+◌, ◌-◌, ◌*◌, ◌<◌, ◌≤◌, ◌∙◌, inl, inr, List, [], ◌∷◌, ◌++◌, length, map, take, drop, get_or, Some, refl, sym, ap, subst, arith}
use Rattle.std.specs.Prelude.{◌⊎◌, slice_get, Contains, IfSome}
use Rattle.std.proofs.lemmas.Option.{slice_get-get_or}
use Rattle.std.proofs.lemmas.List.{append-nil, take_all, take_more, map-append, get_or-take, get_or-drop, length-take, length-drop}
use Rattle.std.proofs.lemmas.List.Elements.{Contains-get_or, All-nil, All-append}
use Rattle.std.specs.List.{flat_map}
use Rattle.sg_coord.specs.declared.coord.Coord.{Coord}
use Rattle.sg_coord.specs.Slices.{slice_start}
use Rattle.sg_flat.specs.declared.state.FlatState.{FlatState}
use Rattle.sg_store.specs.StoreWords.{StoreWords}
use Rattle.sg_exec.specs.declared.lanes.cell_write.CellWrite.{CellWrite}
use Rattle.sg_exec.specs.declared.lanes.moment.Moment.{Moment}
use Rattle.sg_exec.specs.declared.results.shared.Accumulated.{Accumulated}
use Rattle.sg_exec.specs.declared.results.shared.Owned.{Owned}
use Rattle.sg_exec.specs.declared.workers.state.Hand.{Hand}
use Rattle.sg_exec.specs.steps.Machines.{AreCells, IsCellOf}
use Rattle.sg_exec.specs.steps.Racing.{last_own, between, all_writes, HasWorked, HasRun}
use Rattle.sg_exec.proofs.Giving.{writes_more, gave_nothing}
use Rattle.sg_exec.proofs.Halves.{joined_writes, flat-append, take_split, worked_nothing, worked_more, cells_both}

abbrev Writes : Type 0
Writes = List CellWrite

-- with the cells that they wrote into, where what they wrote is what the iterations write at each state
pub run_batch : (stores : List StoreWords) (accumulated : List Accumulated) (owned : List Owned) (P : FlatState → Type 0) (f : FlatState → Coord → Writes) (points : List Coord) (first count : ℕ) (more : List Writes) (old mid now : Hand)
    → length mid.seats.items ≡ length accumulated → HasRun stores accumulated owned P (λ s. map (f s) (take first points)) old mid → HasWorked accumulated owned more mid now → AreCells stores (joined_writes more)
    → ((s : FlatState) → P s → more ≡ map (f s) (take count (drop first points))) → HasRun stores accumulated owned P (λ s. map (f s) (take (first + count) points)) old now
run_batch stores accumulated owned P f points first count more old mid now long run worked cells is = record {
  turns = run.turns ++ more;
  worked = worked_more accumulated owned run.turns more old mid now long run.worked worked;
  cells = cells_both stores run.turns more run.cells cells;
  are = λ s p.
      ap (λ (ts : List Writes). ts ++ more) (run.are s p)
      ∙ ap (λ (ws : List Writes). map (f s) (take first points) ++ ws) (is s p)
      ∙ sym (ap (map (f s)) (sym (take_split first count points)) ∙ map-append (f s) (take first points) (take count (drop first points)));
}

-- ---- what iterations side by side wrote

abbrev pub turns_of : List Moment → List Writes
turns_of moments = map (λ (moment : Moment). moment.cells.writes) moments

pub writes_joined : (moments : List Moment) → all_writes moments ≡ joined_writes (turns_of moments)
writes_joined [] = refl
writes_joined (moment ∷ moments) = ap (λ (ws : Writes). moment.cells.writes ++ ws) (writes_joined moments)

-- the last own writes of each
abbrev pub owns_of : List Owned → List Moment → Writes
owns_of owned moments = flat_map (λ (moment : Moment). last_own owned moment.cells.writes) moments

pub owns_are : (owned : List Owned) (moments : List Moment) → owns_of owned moments ≡ flat_map (last_own owned) (turns_of moments)
owns_are owned [] = refl
owns_are owned (moment ∷ moments) = ap (λ (ws : Writes). last_own owned moment.cells.writes ++ ws) (owns_are owned moments)

pub owns_more : (owned : List Owned) (moments : List Moment) (k : ℕ) (moment : Moment) → k < length moments → moment ≡ get_or moments k moment
    → owns_of owned (take (k + 1) moments) ≡ owns_of owned (take k moments) ++ last_own owned moment.cells.writes
owns_more owned moments k moment below is =
    ap (owns_of owned) (take_more moments k moment below ∙ ap (λ (m : Moment). take k moments ++ m ∷ []) (sym is))
    ∙ flat-append (λ (m : Moment). last_own owned m.cells.writes) (take k moments) (moment ∷ [])
    ∙ ap (λ (ws : Writes). owns_of owned (take k moments) ++ ws) (append-nil (last_own owned moment.cells.writes))

-- one moment more, over the same stores
pub cells_more : (stores : List StoreWords) (moments : List Moment) (k : ℕ) (moment : Moment) → k < length moments → moment ≡ get_or moments k moment → AreCells stores (all_writes (take k moments)) → AreCells stores moment.cells.writes
    → AreCells stores (all_writes (take (k + 1) moments))
cells_more stores moments k moment below is first second =
    subst (λ (ws : Writes). AreCells stores ws) (sym (writes_more moments k moment below is))
    (All-append (λ (write : CellWrite). IfSome write.cell (IsCellOf stores write.layout)) (all_writes (take k moments)) moment.cells.writes first second)

-- so many moments make what points make, if each makes what the point at its place does
pub same_turns : (g : Moment → Writes) (f : Coord → Writes) (count : ℕ) (moments : List Moment) (points : List Coord) → count ≤ length moments → length points ≡ count
    → ((k : ℕ) (moment : Moment) (at : Coord) → slice_get moments k ≡ Some moment → slice_get points k ≡ Some at → g moment ≡ f at) → map g (take count moments) ≡ map f points
same_turns g f zero moments [] within long each = refl
same_turns g f zero moments (at ∷ points) within long each = absurd (omega (arith, long))
same_turns g f (suc count) [] points within long each = absurd (omega (arith, within))
same_turns g f (suc count) (moment ∷ moments) [] within long each = absurd (omega (arith, long))
same_turns g f (suc count) (moment ∷ moments) (at ∷ points) within long each =
    ap (λ (ws : Writes). ws ∷ map g (take count moments)) (each 0 moment at refl refl)
    ∙ ap (λ (more : List Writes). f at ∷ more) (same_turns g f count moments points (omega (arith, within)) (omega (arith, long)) (λ k m a here there. each (suc k) m a here there))

pub run_nothing : (stores : List StoreWords) (accumulated : List Accumulated) (owned : List Owned) (P : FlatState → Type 0) (f : FlatState → Coord → Writes) (points : List Coord) (hand : Hand)
    → HasRun stores accumulated owned P (λ s. map (f s) (take 0 points)) hand hand
run_nothing stores accumulated owned P f points hand = record {
  turns = [];
  worked = worked_nothing accumulated owned hand (gave_nothing accumulated hand.seats.items);
  cells = All-nil (λ (write : CellWrite). IfSome write.cell (IsCellOf stores write.layout));
  are = λ s p. refl;
}

pub in_points : (points : List Coord) (from size i : ℕ) (d : Coord) → i < length (take size (drop from points)) → Contains points (get_or (take size (drop from points)) i d)
in_points points from size i d below =
    let long : length (take size (drop from points)) ≡ _ = length-take size (drop from points) in
    let rest : length (drop from points) ≡ length points - from = length-drop from points in
    let small : i < size = omega arith in
    subst (λ (x : Coord). Contains points x) (sym (get_or-take size (drop from points) i d small ∙ get_or-drop from points i d))
    (Contains-get_or points (from + i) d (omega arith))

pub points_are : (points : List Coord) (workers worker : ℕ) {pair : ℕ × ℕ} → pair ≡ (slice_start (length points) workers worker, slice_start (length points) workers (worker + 1))
    → take (pair.1 - pair.0) (drop pair.0 points) ≡ between (slice_start (length points) workers worker) (slice_start (length points) workers (worker + 1)) points
points_are points workers worker is = ap (λ (p : ℕ × ℕ). take (p.1 - p.0) (drop p.0 points)) is

pub point_in : (mine : List Coord) (first count k : ℕ) (d : Coord) → k < count → first + k < length mine → slice_get (take count (drop first mine)) k ≡ Some (get_or mine (first + k) d)
point_in mine first count k d low below =
    let long : length (take count (drop first mine)) ≡ _ = length-take count (drop first mine) in
    let rest : length (drop first mine) ≡ length mine - first = length-drop first mine in
    slice_get-get_or (take count (drop first mine)) k d (omega arith) ∙ ap Some (get_or-take count (drop first mine) k d low ∙ get_or-drop first mine k d)

nat_split : (n m : ℕ) → (n < m) ⊎ (m ≤ n)
nat_split zero zero = inr (omega arith)
nat_split zero (suc m) = inl (omega arith)
nat_split (suc n) zero = inr (omega arith)
nat_split (suc n) (suc m) = elim (nat_split n m) [
  | inl low ↦ inl (omega (arith, low))
  | inr high ↦ inr (omega (arith, high))
]

-- a batch takes the points up to the next multiple, or the rest
pub batch_taken : (mine : List Coord) (number count : ℕ) → count ≤ 32 → number * 32 + count ≤ length mine → ((count < 32) → length mine ≤ number * 32 + count) → take (number * 32 + count) mine ≡ take ((number + 1) * 32) mine
batch_taken mine number count few within rest = elim (nat_split count 32) [
  | inl short ↦ take_all (number * 32 + count) mine (rest short) ∙ sym (take_all ((number + 1) * 32) mine (omega (arith, rest short, few)))
  | inr whole ↦ ap (λ (n : ℕ). take n mine) (omega (arith, whole, few))
]
