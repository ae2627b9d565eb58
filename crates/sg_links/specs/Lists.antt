-- Lists over numbers, each number at most once in all of them.
use Rattle.std.specs.Prelude.{ℕ, ◌<◌, ◌≤◌, ◌==◌, List, [], count_by, sum_by, slice_index_or, slice_set, replicate}

-- some lists, and how many numbers there are: the lists are over those from 0 to below it
pub record Lists : Type 0 where
  pub numbers : ℕ
  pub lists : List (List ℕ)

-- how often a number stands in a list
abbrev pub times : ℕ → List ℕ → ℕ
times x list = count_by (λ y. y == x) list

-- how often it stands in all lists together
abbrev pub times_in_lists : ℕ → List (List ℕ) → ℕ
times_in_lists x lists = sum_by (λ list. times x list) lists

-- the list of a head, the heads being numbered from 0
abbrev pub list_of : Lists → ℕ → List ℕ
list_of l head = slice_index_or l.lists head []

-- the lists with another one at a head
abbrev pub with_list : Lists → ℕ → List ℕ → Lists
with_list l head list = record { numbers = l.numbers; lists = slice_set l.lists head list }

-- as many lists as heads, each empty
abbrev pub empty_lists : ℕ → ℕ → Lists
empty_lists numbers heads = record { numbers = numbers; lists = replicate heads [] }

-- each number stands in one list at most, and there once, and what stands in a list is one of the numbers
pub record AreDisjoint (l : Lists) : Type 0 where
  pub once : (x : ℕ) → times_in_lists x l.lists ≤ 1
  pub below : (x : ℕ) → 0 < times_in_lists x l.lists → x < l.numbers
