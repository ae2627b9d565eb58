-- Which tasks have a file, and where the one or the other is found first.
use Rattle.std.proofs.Common.{◌≡◌, ℕ, ◌+◌, ◌<◌, Bool, true, false, List, [], ◌∷◌, length, drop, get_or, drop-cons, add-one, Option, Some, None, refl, sym, ap, ◌∙◌, subst}
use Rattle.std.specs.Prelude.{find, IsSome, is_none, if◌then◌else◌}
use Rattle.std.specs.List.{AllByRecursion}
use Rattle.sg_names.specs.Tables.{Tables}
use Rattle.sg_session.specs.declared.tasks.Task.{Task}
use Rattle.sg_session.specs.declared.tasks.Task.TheVariants.{Load, Run, Dump, Image, Stats, Prune, Clear}
use Rattle.sg_session.specs.Performed.{HasFile}
use Rattle.sg_session.specs.Bindings.{Binding, file_of_task}
use Rattle.sparsegrid.specs.Meaning.{is_unbound}

-- what is left of a list begins with the item that is found there
pub split_at : {X : Type 0} (xs : List X) (i : ℕ) (other : X) → i < length xs → drop i xs ≡ get_or xs i other ∷ drop (i + 1) xs
split_at xs i other below = rw add-one (drop-cons xs i other below)

-- ---- the first task without a file

pub unbound_here : (test : Task → Bool) (tasks : List Task) (i : ℕ) (other : Task) → i < length tasks → test (get_or tasks i other) ≡ true
    → find test (drop i tasks) ≡ Some (get_or tasks i other)
unbound_here test tasks i other below is = ap (find test) (split_at tasks i other below) ∙ rw is refl

pub bound_here : (test : Task → Bool) (tasks : List Task) (i : ℕ) (other : Task) → i < length tasks → test (get_or tasks i other) ≡ false
    → find test (drop (i + 1) tasks) ≡ find test (drop i tasks)
bound_here test tasks i other below is = sym (ap (find test) (split_at tasks i other below) ∙ rw is refl)

some_of : {A : Type 0} (o : Option A) → is_none o ≡ false → IsSome o
some_of (Some a) h = refl
some_of None h = absurd (cc)

-- if no load is without a file each has one
pub all_bound : (names : Tables) (bindings : List Binding) (tasks : List Task) → find (is_unbound names bindings) tasks ≡ None
    → AllByRecursion (HasFile names bindings) tasks
all_bound names bindings [] none = tt
all_bound names bindings (task ∷ tasks) none = by_test (is_unbound names bindings task) refl none (λ h. all_bound names bindings tasks h) where
  has_file : (t : Task) → is_unbound names bindings t ≡ false → HasFile names bindings t
  has_file (Load at) h = some_of (file_of_task names bindings (Load at)) h
  has_file (Run kernel) h = tt
  has_file (Dump at) h = tt
  has_file (Image field lo hi) h = tt
  has_file (Stats layout) h = tt
  has_file (Prune layout) h = tt
  has_file (Clear layout) h = tt

  by_test : (test : Bool) → is_unbound names bindings task ≡ test
      → (if test then Some task else find (is_unbound names bindings) tasks) ≡ None
      → (find (is_unbound names bindings) tasks ≡ None → AllByRecursion (HasFile names bindings) tasks) → HasFile names bindings task × AllByRecursion (HasFile names bindings) tasks
  by_test true is h rest = absurd (cc)
  by_test false is h rest = (has_file task is, rest h)

-- what holds of all holds of the one that is found
pub holds_of_found : {X : Type 0} (P : X → Type 0) (test : X → Bool) (xs : List X) (x : X) → Some x ≡ find test xs → AllByRecursion P xs → P x
holds_of_found P test [] x is all = absurd (cc)
holds_of_found {X} P test (y ∷ ys) x is all = by_test (test y) is (λ h. holds_of_found P test ys x h all.1) where
  by_test : (passes : Bool) → Some x ≡ (if passes then Some y else find test ys) → (Some x ≡ find test ys → P x) → P x
  by_test true here rest = let same : y ≡ x = cc in subst P same all.0
  by_test false there rest = rest there
