-- Worked equations: the lists 2, 0 and none and 4 over five numbers.
use Rattle.std.specs.Prelude.{◌≡◌, [], ◌∷◌, refl}
use Rattle.sg_links.specs.Lists.{Lists, list_of, with_list, times_in_lists, empty_lists}

abbrev pub three : Lists
three = record { numbers = 5; lists = (2 ∷ 0 ∷ []) ∷ [] ∷ (4 ∷ []) ∷ [] }

pub first_list : list_of three 0 ≡ 2 ∷ 0 ∷ []
first_list = refl

pub four_stands_once : times_in_lists 4 three.lists ≡ 1
four_stands_once = refl

pub three_is_free : times_in_lists 3 three.lists ≡ 0
three_is_free = refl

-- past the last head there is nothing
pub ninth_list : list_of three 9 ≡ []
ninth_list = refl

pub three_at_the_second : with_list three 1 (3 ∷ []) ≡ record { numbers = 5; lists = (2 ∷ 0 ∷ []) ∷ (3 ∷ []) ∷ (4 ∷ []) ∷ [] }
three_at_the_second = refl

pub two_empty : empty_lists 5 2 ≡ record { numbers = 5; lists = [] ∷ [] ∷ [] }
two_empty = refl
