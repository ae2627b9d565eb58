-- A block that reads nothing of its point wants the same at all points, so what it wants at the first tells all.
use Rattle.std.proofs.Common.{◌≡◌, ℕ, zero, suc, ◌≤◌, Bool, true, false, List, [], ◌∷◌, ◌++◌, map, take, get_or, Option, Some, None, Result, Ok, Err, refl, sym, ap, ◌∙◌, subst, arith, append-nil, ◌⊎◌, inl, inr}
use Rattle.std.specs.Prelude.{if◌then◌else◌, slice_get, All, Contains}
use Rattle.std.specs.Option.{option_or}
use Rattle.std.proofs.lemmas.List.Elements.{All-nil, All-append}
use Rattle.sg_words.specs.declared.memory.Stop.{Stop}
use Rattle.sg_words.specs.declared.memory.Stop.TheVariants as stop
use Rattle.sg_words.specs.Words.{word_of}
use Rattle.sg_words.proofs.Uses.{contains_head, contains_cases, contains_none}
use Rattle.sg_coord.specs.declared.coord.Coord.{Coord}
use Rattle.sg_layout.specs.declared.shape.Shape.{Shape}
use Rattle.sg_flat.specs.declared.effects.RunFault.{RunFault}
use Rattle.sg_flat.specs.declared.effects.RunFault.TheVariants as fault
use Rattle.sg_flat.specs.declared.effects.Turn.{Turn}
use Rattle.sg_flat.specs.declared.effects.Write.{Write}
use Rattle.sg_flat.specs.declared.state.FlatState.{FlatState}
use Rattle.sg_flat.specs.Effects.{writes_of}
use Rattle.sg_flat.specs.Kernel.{is_inside_of, outside_among, first_outside}
use Rattle.sg_store.specs.StoreWords.{StoreWords}
use Rattle.sg_ir.specs.declared.code.Inst.{Inst}
use Rattle.sg_ir.specs.Runs.{CodeWant, iteration, iteration_start, part_words}
use Rattle.sg_exec.specs.Running.{seen_at}
use Rattle.sg_exec.specs.Standing.{shapes_of}
use Rattle.sg_exec.specs.steps.Alike.{BlockIsAlike}
use Rattle.sg_exec.specs.steps.Machines.{want_write}
use Rattle.sg_exec.specs.steps.Moments.{slice_turn}
use Rattle.sg_exec.specs.steps.Turning.{IsActive, SliceTells, TellsOutside}

none_there : (n k : ℕ) → get_or (take {A = ℕ} n []) k 0 ≡ 0
none_there zero k = refl
none_there (suc n) k = refl

later_none : (n x y z k : ℕ) → get_or (take n (x ∷ y ∷ z ∷ [])) (suc (suc (suc k))) 0 ≡ 0
later_none zero x y z k = refl
later_none (suc zero) x y z k = refl
later_none (suc (suc zero)) x y z k = refl
later_none (suc (suc (suc n))) x y z k = none_there n k

start_vars : (at there : Coord) (var : ℕ) → 3 ≤ var → get_or (part_words at) var 0 ≡ get_or (part_words there) var 0
start_vars at there zero later = absurd (omega (arith, later))
start_vars at there (suc zero) later = absurd (omega (arith, later))
start_vars at there (suc (suc zero)) later = absurd (omega (arith, later))
start_vars at there (suc (suc (suc var))) later =
    later_none at.n (word_of at.a) (word_of at.b) (word_of at.c) var ∙ sym (later_none there.n (word_of there.a) (word_of there.b) (word_of there.c) var)

same_wants : (shapes : List Shape) (state : FlatState) (block : List Inst) → BlockIsAlike block → (at there : Coord) → (iteration (seen_at shapes state at) block).wants ≡ (iteration (seen_at shapes state there) block).wants
same_wants shapes state block alike at there =
    (alike shapes state at there (iteration_start (seen_at shapes state at)) (iteration_start (seen_at shapes state there))
    (record { regs = λ reg. refl; vars = start_vars at there; places = λ place. refl; wants = refl })).wants

-- ---- what is told

none_elsewhere : (shapes : List Shape) (at there : Coord) (writes : List Write) → outside_among shapes at writes ≡ None → outside_among shapes there writes ≡ None
none_elsewhere shapes at there [] none = refl
none_elsewhere shapes at there (write ∷ writes) none = by_test (is_inside_of (slice_get shapes write.layout) write.at) (none_elsewhere shapes at there writes) none
  where
    by_test : (inside : Bool) → (outside_among shapes at writes ≡ None → outside_among shapes there writes ≡ None) → (if inside then outside_among shapes at writes else Some (fault.WriteOutside write.stmt at)) ≡ None
        → (if inside then outside_among shapes there writes else Some (fault.WriteOutside write.stmt there)) ≡ None
    by_test true later rest = later rest
    by_test false later rest = absurd (cc (rest))

none_first : (found : Option RunFault) → option_or found None ≡ None → found ≡ None
none_first None none = refl
none_first (Some why) none = none

some_first : (found : Option RunFault) (why : RunFault) (later : Option RunFault) → option_or found None ≡ Some why → option_or found later ≡ Some why
some_first None why later is = absurd (cc (is))
some_first (Some other) why later is = is

module _ (stores : List StoreWords) (state : FlatState) (block : List Inst) (alike : BlockIsAlike block) (first : Coord) where
  abbrev turn_at : Coord → Turn
  turn_at = slice_turn stores state block

  same_writes : (at : Coord) → (turn_at at).writes ≡ (turn_at first).writes
  same_writes at = ap (λ (wants : List CodeWant). map want_write wants) (same_wants (shapes_of stores) state block alike at first)

  none_later : outside_among (shapes_of stores) first (turn_at first).writes ≡ None → (points : List Coord) → first_outside (shapes_of stores) (map turn_at points) ≡ None
  none_later none [] = refl
  none_later none (at ∷ points) =
      ap (λ (found : Option RunFault). option_or found (first_outside (shapes_of stores) (map turn_at points)))
      (ap (outside_among (shapes_of stores) at) (same_writes at) ∙ none_elsewhere (shapes_of stores) first at (turn_at first).writes none)
      ∙ none_later none points

  active_later : All (IsActive stores) (turn_at first).writes → (points : List Coord) → All (IsActive stores) (writes_of (map turn_at points))
  active_later active [] = All-nil (IsActive stores)
  active_later active (at ∷ points) =
      All-append (IsActive stores) (turn_at at).writes (writes_of (map turn_at points)) (subst (λ (ws : List Write). All (IsActive stores) ws) (sym (same_writes at)) active) (active_later active points)

  tells_all : (points : List Coord) (result : Result Bool (Stop RunFault)) → TellsOutside stores (map turn_at (first ∷ [])) result → TellsOutside stores (map turn_at (first ∷ points)) result
  tells_all points (Ok active) told =
      let none = none_first (outside_among (shapes_of stores) first (turn_at first).writes) told.0 in
      (none_later none (first ∷ points), λ all. active_later (one (told.1 all)) (first ∷ points))
    where
      one : All (IsActive stores) ((turn_at first).writes ++ []) → All (IsActive stores) (turn_at first).writes
      one is = subst (λ (ws : List Write). All (IsActive stores) ws) (append-nil (turn_at first).writes) is
  tells_all points (Err stop.Memory) told = tt
  tells_all points (Err (stop.Refused why)) told = some_first (outside_among (shapes_of stores) first (turn_at first).writes) why (first_outside (shapes_of stores) (map turn_at points)) told

only_first : (at : Coord) (points : List Coord) (other : Coord) → Contains (at ∷ []) other → Contains (at ∷ points) other
only_first at points other has = by (contains_cases other at [] has)
  where
    by : (at ≡ other) ⊎ Contains [] other → Contains (at ∷ points) other
    by (inl same) = contains_head other at points same
    by (inr none) = absurd (contains_none other none)

pub alike_tells : (stores : List StoreWords) (block : List Inst) (points some : List Coord) (result : Result Bool (Stop RunFault)) → BlockIsAlike block → some ≡ take 1 points → SliceTells stores block some result → SliceTells stores block points result
alike_tells stores block [] some result alike is told = subst (λ (list : List Coord). SliceTells stores block list result) is told
alike_tells stores block (first ∷ points) some result alike is told = λ state sees named.
    tells_all stores state block alike first points result
    (subst (λ (list : List Coord). SliceTells stores block list result) is told state sees (λ at has. named at (only_first first points at has)))
