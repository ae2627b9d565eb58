-- What the workers of a run give and put, by the turns of the run.
use Rattle.std.proofs.Common.{◌≡◌, ℕ, Bool, true, false, not, ◌&&◌, ◌==◌, cond, inl, inr, ◌⊎◌, List, [], ◌∷◌, ◌++◌, map, Option, Some, None, refl, sym, ap, ◌∙◌, subst, arith}
use Rattle.std.specs.Prelude.{◌≢◌, slice_get, filter, Contains, IfSome, All}
use Rattle.std.specs.List.{flat_map}
use Rattle.std.proofs.lemmas.Bool.{cases_Bool, and_parts, cond-true, cond-false, eqb-true}
use Rattle.std.proofs.lemmas.List.{map-append}
use Rattle.std.proofs.lemmas.List.Elements.{All-contains, All-cons, All-nil}
use Rattle.std.proofs.lemmas.Option.{same_Some, slice_get_within}
use Rattle.sg_words.proofs.Uses.{contains_none, contains_head, contains_rest, contains_cases, into_map}
use Rattle.sg_coord.specs.declared.coord.Coord.{Coord}
use Rattle.sg_flat.specs.declared.effects.Turn.{Turn}
use Rattle.sg_flat.specs.declared.effects.Write.{Write}
use Rattle.sg_flat.specs.declared.state.FlatState.{FlatState}
use Rattle.sg_flat.specs.Kernel.{is_inside_of}
use Rattle.sg_accum.specs.declared.seat.AccSeat.{AccSeat}
use Rattle.sg_accum.specs.Folding.{given_to, given_of}
use Rattle.sg_store.specs.StoreWords.{StoreWords}
use Rattle.sg_ir.specs.declared.code.Inst.{Inst}
use Rattle.sg_ir.specs.Runs.{CodeWrite, is_own, iteration}
use Rattle.sg_ir.specs.Apt.{Use, Writes, uses_in}
use Rattle.sg_exec.specs.declared.lanes.cell_write.CellWrite.{CellWrite}
use Rattle.sg_exec.specs.declared.results.shared.Accumulated.{Accumulated}
use Rattle.sg_exec.specs.declared.results.shared.Owned.{Owned}
use Rattle.sg_exec.specs.declared.workers.state.Hand.{Hand}
use Rattle.sg_exec.specs.Standing.{shapes_of}
use Rattle.sg_exec.specs.steps.Machines.{seen_in, IsCellOf, AreCells, IsAtLoop}
use Rattle.sg_exec.specs.steps.Landing.{code_write, landing, AreTurnsOf, Lands}
use Rattle.sg_exec.specs.steps.Racing.{is_into, given_at, given_by, contributions, joining, ComeTo, last_own, AreSeats, HasRun}
use Rattle.sg_exec.specs.steps.Passes.{HaveFields, AreWhole, GaveReached, AreGiven, WritesOneWay, passed}
use Rattle.sg_exec.specs.steps.Puts.{kept_writes}
use Rattle.sg_exec.proofs.Coming.{come_same, come_on}
use Rattle.sg_exec.proofs.Giving.{at_below}
use Rattle.sg_exec.proofs.LastOwn.{kept_own, last_own_is}
use Rattle.sg_exec.proofs.StoresLanded.{lands_more}
use Rattle.sg_exec.proofs.UsedWrites.{write_used}
use Rattle.sg_exec.proofs.PassesLanded.{from_flat, acc_ways, all_land}

pub all_from : {X : Type 0} (P : X → Type 0) (xs : List X) → ((x : X) → Contains xs x → P x) → All P xs
all_from P [] each = All-nil P
all_from P (x ∷ xs) each = All-cons P x xs (each x (contains_head x x xs refl)) (all_from P xs (λ y has. each y (contains_rest y x xs has)))

-- ---- what was given went into cells of the stores

given_cell : (stores : List StoreWords) (layout : ℕ) (b : Bool) (found : Option ℕ) (value : ℕ) (one : ℕ × ℕ) → IfSome found (IsCellOf stores layout) → Contains (cond b (given_at found value) []) one → (b ≡ true) × IsCellOf stores layout one.0
given_cell stores layout false found value one cell has = absurd (contains_none one has)
given_cell stores layout true None value one cell has = absurd (contains_none one has)
given_cell stores layout true (Some number) value one cell has = by (contains_cases one (number, value) [] has)
  where
    by : ((number, value) ≡ one) ⊎ Contains [] one → (true ≡ true) × IsCellOf stores layout one.0
    by (inl same) = (refl, subst (λ (p : ℕ × ℕ). IsCellOf stores layout p.0) same cell)
    by (inr none) = absurd (contains_none one none)

contributions_reached : (stores : List StoreWords) (layout field : ℕ) (writes : List CellWrite) → AreCells stores writes → (one : ℕ × ℕ) → Contains (contributions layout field writes) one → IsCellOf stores layout one.0
contributions_reached stores layout field writes cells one has =
    let turn = from_flat (given_by layout field) writes one has in
    let write = turn.0 in
    let cell = All-contains (λ (w : CellWrite). IfSome w.cell (IsCellOf stores w.layout)) writes turn.0 cells turn.1.0 in
    let both = given_cell stores turn.0.layout (not (is_own turn.0.way) && is_into layout field turn.0) turn.0.cell turn.0.value one cell turn.1.1 in
    let into = (and_parts (not (is_own turn.0.way)) (is_into layout field turn.0) both.0).1 in
    subst (λ (l : ℕ). IsCellOf stores l one.0) (eqb-true turn.0.layout layout (and_parts (turn.0.layout == layout) (turn.0.place == field) into).0) both.1

-- a cell to which something was given stands in the list of what was given
given_some : (c : ℕ) (pairs : List (ℕ × ℕ)) → given_to c pairs ≢ [] → (one : ℕ × ℕ) × (Contains pairs one × (one.0 ≡ c))
given_some c [] some = absurd (some refl)
given_some c (x ∷ xs) some = elim (cases_Bool (x.0 == c)) [
  | inl here ↦ (x, (contains_head x x xs refl, eqb-true x.0 c here))
  | inr elsewhere ↦ (
      let rest = filter (λ (y : ℕ × ℕ). y.0 == c) xs in
      let later = given_some c xs (λ none. some (ap (map (λ (y : ℕ × ℕ). y.1)) (cond-false (x.0 == c) (x ∷ rest) rest elsewhere) ∙ none)) in
      (later.0, (contains_rest later.0 x xs later.1.0, later.1.1))
      )
]

-- ---- seats at the end

module _ (stores : List StoreWords) (uses : List Use) (accumulated : List Accumulated) (owned : List Owned) (P : FlatState → Type 0) (at_turns : FlatState → List (List CellWrite)) (old after : Hand)
    (have : HaveFields stores uses accumulated old.seats.items owned) (seats : AreSeats accumulated after.seats.items) (ran : HasRun stores accumulated owned P at_turns old after) where
  abbrev writes_given : List CellWrite
  writes_given = flat_map (λ (ws : List CellWrite). ws) ran.turns

  old_at : (k : ℕ) (seat : AccSeat) → slice_get after.seats.items k ≡ Some seat → (was : AccSeat) × (slice_get old.seats.items k ≡ Some was)
  old_at k seat at = at_below old.seats.items k
      (let below = slice_get_within after.seats.items k seat at in let long = seats.long in let old_long = have.are_seats.long in omega (arith, below, long, old_long))

  pass_at : (k : ℕ) (seat : AccSeat) → slice_get after.seats.items k ≡ Some seat → (it : Accumulated) × (slice_get accumulated k ≡ Some it)
  pass_at k seat at = at_below accumulated k (let below = slice_get_within after.seats.items k seat at in let long = seats.long in omega (arith, below, long))

  given_by_seat : (k : ℕ) (it : Accumulated) (seat : AccSeat) → slice_get accumulated k ≡ Some it → slice_get after.seats.items k ≡ Some seat → (c : ℕ) → ComeTo (joining it) (given_of seat c) (given_to c (contributions it.layout it.field writes_given))
  given_by_seat k it seat at also c =
      let was = old_at k seat also in
      let gave = ran.worked.gave k it was.0 seat at was.1 also in
      let new = given_to c (contributions it.layout it.field writes_given) in
      come_on (joining it) (given_of seat c) (given_of was.0 c ++ new) new (gave.given c)
      (come_same (joining it) (given_of was.0 c ++ new) new (ap (λ (g : List ℕ). g ++ new) ((have.new k was.0 was.1).nothing c)))

  pub are_whole : AreWhole after.seats.items
  are_whole = λ k seat also.
      let it = pass_at k seat also in
      let was = old_at k seat also in
      (ran.worked.gave k it.0 was.0 seat it.1 was.1 also).weight_is ∙ (have.new k was.0 was.1).handed_is

  pub gave_reached : GaveReached stores accumulated after.seats.items
  gave_reached = λ k it seat at also cell some.
      let one = given_some cell (contributions it.layout it.field writes_given) (λ none. some ((given_by_seat k it seat at also cell).none none)) in
      subst (λ (c : ℕ). IsCellOf stores it.layout c) one.1.1 (contributions_reached stores it.layout it.field writes_given ran.cells one.0 one.1.0)

  -- ---- at a state, with the turns of the run

  module _ (writes_way : WritesOneWay uses) (f : Coord → List Write) (points : List Coord) (g : Coord → List CellWrite) (turns_are : ran.turns ≡ map g points) (each : (at : Coord) → Contains points at → g at ≡ map (landing stores) (f at))
      (is_used : (write : Write) → Contains (flat_map f points) write → Contains uses (Writes write.layout write.place write.way))
      (own_at : (at : Coord) → Contains points at → (write : Write) → Contains (f at) write → is_own write.way ≡ true → write.at ≡ at) where
    joined : (list : List Coord) → ((at : Coord) → Contains list at → g at ≡ map (landing stores) (f at)) → flat_map (λ (ws : List CellWrite). ws) (map g list) ≡ map (landing stores) (flat_map f list)
    joined [] same = refl
    joined (at ∷ list) same =
        ap (λ (ws : List CellWrite). ws ++ flat_map (λ (vs : List CellWrite). vs) (map g list)) (same at (contains_head at at list refl))
        ∙ ap (λ (ws : List CellWrite). map (landing stores) (f at) ++ ws) (joined list (λ x has. same x (contains_rest x at list has)))
        ∙ sym (map-append (landing stores) (f at) (flat_map f list))

    own_joined : (list : List Coord) → ((at : Coord) → Contains list at → g at ≡ map (landing stores) (f at)) → flat_map (last_own owned) (map g list) ≡ map (landing stores) (flat_map (λ (at : Coord). kept_own owned (f at)) list)
    own_joined [] same = refl
    own_joined (at ∷ list) same =
        ap (λ (ws : List CellWrite). last_own owned ws ++ flat_map (last_own owned) (map g list)) (same at (contains_head at at list refl))
        ∙ ap (λ (ws : List CellWrite). ws ++ flat_map (last_own owned) (map g list)) (last_own_is stores owned (f at))
        ∙ ap (λ (ws : List CellWrite). map (landing stores) (kept_own owned (f at)) ++ ws) (own_joined list (λ x has. same x (contains_rest x at list has)))
        ∙ sym (map-append (landing stores) (kept_own owned (f at)) (flat_map (λ (x : Coord). kept_own owned (f x)) list))

    pub are_given : AreGiven stores accumulated after.seats.items (flat_map f points)
    are_given = λ k it seat at also. record {
      ways = acc_ways stores uses accumulated old.seats.items owned f points have writes_way is_used own_at k it at;
      given_is = λ cell. subst (λ (ws : List CellWrite). ComeTo (joining it) (given_of seat cell) (given_to cell (contributions it.layout it.field ws)))
          (ap (flat_map (λ (ws : List CellWrite). ws)) turns_are ∙ joined points each) (given_by_seat k it seat at also cell);
    }

    pub puts_are : (kept_writes old.puts) ≡ [] → (kept_writes after.puts) ≡ map (landing stores) (flat_map (λ (at : Coord). kept_own owned (f at)) points)
    puts_are none = ran.worked.puts ∙ ap (λ (ws : List CellWrite). ws ++ flat_map (last_own owned) ran.turns) none ∙ ap (flat_map (last_own owned)) turns_are ∙ own_joined points each

    pub raced_lands : (mids news : List StoreWords) → Lands stores mids (passed accumulated (flat_map f points)) → Lands mids news (flat_map (λ (at : Coord). kept_own owned (f at)) points) → Lands stores news (flat_map f points)
    raced_lands mids news first second =
        all_land stores uses accumulated old.seats.items owned f points have writes_way is_used own_at news
        (lands_more stores mids news (passed accumulated (flat_map f points)) (flat_map (λ (at : Coord). kept_own owned (f at)) points) first second)

-- ---- the turns of code

module _ (stores : List StoreWords) (state : FlatState) (code : List Inst) (points : List Coord) (turn : Coord → Turn) (are : AreTurnsOf stores state code points turn) where
  pub loop_at : (at : Coord) → All (IsAtLoop at) (iteration (seen_in stores state at) code).writes
  loop_at at = all_from (IsAtLoop at) (iteration (seen_in stores state at) code).writes (λ write has. (write_used (seen_in stores state at) code write has).1)

  pub turn_is : (at : Coord) → Contains points at → (iteration (seen_in stores state at) code).writes ≡ map (code_write (shapes_of stores)) (turn at).writes
  turn_is at has = are at has (loop_at at)

  coded : (at : Coord) → Contains points at → (write : Write) → Contains (turn at).writes write → Contains (iteration (seen_in stores state at) code).writes (code_write (shapes_of stores) write)
  coded at has write is = subst (λ (ws : List CodeWrite). Contains ws (code_write (shapes_of stores) write)) (sym (turn_is at has)) (into_map (code_write (shapes_of stores)) (turn at).writes write is)

  pub turn_used : (write : Write) → Contains (flat_map (λ (at : Coord). (turn at).writes) points) write → Contains (uses_in code) (Writes write.layout write.place write.way)
  turn_used write has =
      let is = from_flat (λ (at : Coord). (turn at).writes) points write has in
      (write_used (seen_in stores state is.0) code (code_write (shapes_of stores) write) (coded is.0 is.1.0 write is.1.1)).0

  pub turn_own : (at : Coord) → Contains points at → (write : Write) → Contains (turn at).writes write → is_own write.way ≡ true → write.at ≡ at
  turn_own at has write is own =
      let there = (write_used (seen_in stores state at) code (code_write (shapes_of stores) write) (coded at has write is)).1 own in
      same_Some _ _ (sym (cond-true (is_own write.way) (Some write.at) (cond (is_inside_of (slice_get (shapes_of stores) write.layout) write.at) (Some write.at) None) own) ∙ there)
