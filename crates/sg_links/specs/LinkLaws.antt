-- What holds of all disjoint lists.
use Rattle.std.specs.Prelude.{◌≡◌, ℕ, ◌≤◌, Some, length, sum_by, slice_get}
use Rattle.sg_links.specs.Lists.{Lists, list_of, AreDisjoint}

-- a number stands at one place of one list alone
abbrev pub StandsAtOnePlace : Lists → Type 0
StandsAtOnePlace l = AreDisjoint l → (x head place other there : ℕ) →
    slice_get (list_of l head) place ≡ Some x → slice_get (list_of l other) there ≡ Some x → (head ≡ other) × (place ≡ there)

-- all lists together are at most as long as there are numbers
abbrev pub FitNumbers : Lists → Type 0
FitNumbers l = AreDisjoint l → sum_by length l.lists ≤ l.numbers
