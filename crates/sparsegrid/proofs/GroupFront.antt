-- The runs at the front of tasks, and those of them that make a group.
use Rattle.std.proofs.Common.{◌≡◌, ℕ, zero, suc, ◌+◌, ◌-◌, ◌<◌, ◌≤◌, inl, inr, List, [], ◌∷◌, ◌++◌, map, length, take, drop, get_or, Option, Some, None, refl, sym, ap, ◌∙◌, subst, arith, append-nil, append_assoc}
use Rattle.std.specs.Prelude.{All, Contains}
use Rattle.std.specs.List.{AllByRecursion}
use Rattle.std.specs.Option.{option_map_or}
use Rattle.std.proofs.Math.Nat.{min-eq_left, min-eq_right, min-le_left, min-le_right}
use Rattle.std.proofs.lemmas.Bool.{cases_lt}
use Rattle.std.proofs.lemmas.List.{drop_all, length-take-le}
use Rattle.std.proofs.lemmas.List.Elements.{All-from_recursion}
use Rattle.sg_words.proofs.Uses.{contains_head, contains_rest}
use Rattle.sg_batch.specs.Batches.{members}
use Rattle.sg_batch.specs.Independent.{AreApart, IsLongestFront}
use Rattle.sg_session.specs.declared.tasks.Task.{Task}
use Rattle.sg_session.specs.declared.tasks.Task.TheVariants.{Load, Run, Dump, Image, Stats, Prune, Clear}
use Rattle.sg_session.specs.Compiled.{CompiledProgram, IsTask}
use Rattle.sparsegrid.specs.steps.Grouping.{AreRuns, IsGroup, most_members, run_number, runs_front}
use Rattle.sparsegrid.proofs.Bound.{split_at}
use Rattle.sparsegrid.proofs.GroupsDone.{runs_there}

abbrev runs_of : List ℕ → List Task
runs_of numbers = map (λ number. Run number) numbers

-- ---- runs at the front, task by task

-- the runs so far, and those that follow
abbrev pub FrontAt : List Task → ℕ → List ℕ → ℕ → Type 0
FrontAt tasks most order i = runs_front tasks most ≡ order ++ runs_front (drop i tasks) (most - i)

pub front_first : (tasks : List Task) (most : ℕ) (order : List ℕ) → order ≡ [] → FrontAt tasks most order 0
front_first tasks most order none =
    let all : most ≡ most - 0 = omega arith in
    ap (runs_front tasks) all ∙ ap (λ (list : List ℕ). list ++ runs_front tasks (most - 0)) (sym none)

none_of : (tasks : List Task) → runs_front tasks 0 ≡ []
none_of [] = refl
none_of (task ∷ tasks) = refl

stop_here : (tasks : List Task) (most : ℕ) (order : List ℕ) (i : ℕ) → runs_front (drop i tasks) (most - i) ≡ [] → FrontAt tasks most order i → order ≡ runs_front tasks most
stop_here tasks most order i none front = sym (front ∙ ap (λ (list : List ℕ). order ++ list) none ∙ append-nil order)

-- there are as many as may be
pub front_full : (tasks : List Task) (most : ℕ) (order : List ℕ) (i : ℕ) → most ≤ i → FrontAt tasks most order i → order ≡ runs_front tasks most
front_full tasks most order i full =
    let none : most - i ≡ 0 = omega (arith, full) in
    stop_here tasks most order i (ap (runs_front (drop i tasks)) none ∙ none_of (drop i tasks))

-- no task is left
pub front_end : (tasks : List Task) (most : ℕ) (order : List ℕ) (i : ℕ) → length tasks ≤ i → FrontAt tasks most order i → order ≡ runs_front tasks most
front_end tasks most order i past = stop_here tasks most order i (ap (λ (list : List Task). runs_front list (most - i)) (drop_all i tasks past))

-- the next one isn't a run
not_run : (task : Task) → ((kernel : ℕ) → task ≡ Run kernel → ⊥) → run_number task ≡ None
not_run (Load field) other = refl
not_run (Run kernel) other = absurd (other kernel refl)
not_run (Dump field) other = refl
not_run (Image field lo hi) other = refl
not_run (Stats layout) other = refl
not_run (Prune layout) other = refl
not_run (Clear layout) other = refl

front_before : (task : Task) (tasks : List Task) (most : ℕ) → run_number task ≡ None → runs_front (task ∷ tasks) most ≡ []
front_before task tasks zero none = refl
front_before task tasks (suc most) none = ap (λ (found : Option ℕ). option_map_or (λ (kernel : ℕ). kernel ∷ runs_front tasks most) found []) none

pub front_other : (tasks : List Task) (most : ℕ) (order : List ℕ) (i : ℕ) (other : Task) → i < length tasks → ((kernel : ℕ) → get_or tasks i other ≡ Run kernel → ⊥) → FrontAt tasks most order i → order ≡ runs_front tasks most
front_other tasks most order i other below isnt =
    stop_here tasks most order i
    (ap (λ (list : List Task). runs_front list (most - i)) (split_at tasks i other below) ∙ front_before (get_or tasks i other) (drop (i + 1) tasks) (most - i) (not_run (get_or tasks i other) isnt))

-- it is one
pub front_next : (tasks : List Task) (most : ℕ) (order : List ℕ) (kernel i : ℕ) (other : Task) → i < length tasks → get_or tasks i other ≡ Run kernel → i < most → FrontAt tasks most order i
    → FrontAt tasks most (order ++ kernel ∷ []) (i + 1)
front_next tasks most order kernel i other below is more front =
    let left : most - i ≡ suc (most - (i + 1)) = omega (arith, more) in
    front
    ∙ ap (λ (list : List Task). order ++ runs_front list (most - i)) (split_at tasks i other below ∙ ap (λ (task : Task). task ∷ drop (i + 1) tasks) is)
    ∙ ap (λ (n : ℕ). order ++ runs_front (Run kernel ∷ drop (i + 1) tasks) n) left
    ∙ sym (append_assoc order (kernel ∷ []) (runs_front (drop (i + 1) tasks) (most - (i + 1))))

-- ---- they are runs

pub front_runs : (tasks : List Task) (most : ℕ) → AreRuns tasks (runs_front tasks most)
front_runs [] most = record { rest = []; split = refl }
front_runs (task ∷ tasks) zero = record { rest = task ∷ tasks; split = refl }
front_runs (Load field ∷ tasks) (suc most) = record { rest = Load field ∷ tasks; split = refl }
front_runs (Run kernel ∷ tasks) (suc most) = let runs = front_runs tasks most in record { rest = runs.rest; split = ap (λ (list : List Task). Run kernel ∷ list) runs.split }
front_runs (Dump field ∷ tasks) (suc most) = record { rest = Dump field ∷ tasks; split = refl }
front_runs (Image field lo hi ∷ tasks) (suc most) = record { rest = Image field lo hi ∷ tasks; split = refl }
front_runs (Stats layout ∷ tasks) (suc most) = record { rest = Stats layout ∷ tasks; split = refl }
front_runs (Prune layout ∷ tasks) (suc most) = record { rest = Prune layout ∷ tasks; split = refl }
front_runs (Clear layout ∷ tasks) (suc most) = record { rest = Clear layout ∷ tasks; split = refl }

runs_cut : (numbers : List ℕ) (n : ℕ) (rest : List Task) → runs_of numbers ++ rest ≡ runs_of (take n numbers) ++ (runs_of (drop n numbers) ++ rest)
runs_cut [] zero rest = refl
runs_cut [] (suc n) rest = refl
runs_cut (number ∷ numbers) zero rest = refl
runs_cut (number ∷ numbers) (suc n) rest = ap (λ (list : List Task). Run number ∷ list) (runs_cut numbers n rest)

-- the first of them too
first_runs : (tasks : List Task) (numbers group : List ℕ) (n : ℕ) → group ≡ take n numbers → AreRuns tasks numbers → AreRuns tasks group
first_runs tasks numbers group n is runs =
    subst (AreRuns tasks) (sym is) (record { rest = runs_of (drop n numbers) ++ runs.rest; split = runs.split ∙ runs_cut numbers n runs.rest })

-- the kernels of runs are there
all_there : (compiled : CompiledProgram) (tasks : List Task) (numbers : List ℕ) → AllByRecursion (IsTask compiled) tasks → AreRuns tasks numbers → All (λ number. number < length compiled.kernels) numbers
all_there compiled tasks numbers all runs = All-from_recursion (λ (number : ℕ). number < length compiled.kernels) numbers (each numbers (runs_there compiled numbers runs.rest (subst (AllByRecursion (IsTask compiled)) runs.split all)))
  where
    each : (list : List ℕ) → ((number : ℕ) → Contains list number → number < length compiled.kernels) → AllByRecursion (λ (number : ℕ). number < length compiled.kernels) list
    each [] there = tt
    each (first ∷ list) there = (there first (contains_head first first list refl), each list (λ number has. there number (contains_rest number first list has)))

pub front_there : (compiled : CompiledProgram) (tasks : List Task) (most : ℕ) (order : List ℕ) → AllByRecursion (IsTask compiled) tasks → order ≡ runs_front tasks most → All (λ number. number < length compiled.kernels) order
front_there compiled tasks most order all is = subst (λ (list : List ℕ). All (λ number. number < length compiled.kernels) list) (sym is) (all_there compiled tasks (runs_front tasks most) all (front_runs tasks most))

-- ---- groups

pub members_some : (workers : ℕ) → 1 ≤ workers → 1 ≤ most_members workers
members_some workers some = elim (cases_lt workers 4) [
  | inl few ↦ (let all : most_members workers ≡ workers = min-eq_right (omega (arith, few)) in omega (arith, all, some))
  | inr many ↦ (let four : most_members workers ≡ 4 = min-eq_left many in omega (arith, four))
]

module _ (compiled : CompiledProgram) (tasks : List Task) (workers : ℕ) where
  -- those at the front that were counted are a group
  pub group_of_front : (most count : ℕ) (order group : List ℕ) → most ≡ most_members workers → order ≡ runs_front tasks most → group ≡ take count order → IsLongestFront compiled.kernels order most count → IsGroup compiled tasks workers group
  group_of_front most count order group many front is longest =
      let long : length group ≡ count = ap length is ∙ length-take-le count order longest.within in
      let whole : order ≡ runs_front tasks (most_members workers) = front ∙ ap (runs_front tasks) many in
      record {
        front = is ∙ ap (λ (n : ℕ). take n order) (sym long) ∙ ap (take (length group)) whole;
        longest = subst (λ (list : List ℕ). IsLongestFront compiled.kernels list (most_members workers) (length group)) whole
            (subst (λ (n : ℕ). IsLongestFront compiled.kernels order n (length group)) many (subst (IsLongestFront compiled.kernels order most) (sym long) longest));
      }

  module _ (group : List ℕ) (is : IsGroup compiled tasks workers group) where
    pub group_few : length group ≤ 4
    group_few = let few = is.longest.few in let four = min-le_left 4 workers in omega (arith, few, four)

    pub group_enough : length group ≤ workers
    group_enough = let few = is.longest.few in let enough = min-le_right 4 workers in omega (arith, few, enough)

    pub group_apart : AreApart (members compiled.kernels group)
    group_apart = subst (λ (list : List ℕ). AreApart (members compiled.kernels list)) (sym is.front) is.longest.apart

    pub group_runs : AreRuns tasks group
    group_runs = first_runs tasks (runs_front tasks (most_members workers)) group (length group) is.front (front_runs tasks (most_members workers))
