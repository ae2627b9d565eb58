-- Worked equations of the race machine.
use Rattle.std.specs.Prelude.{◌≡◌, refl, ◌+◌, true, List, [], ◌∷◌}
use Rattle.sg_words.specs.RaceMachine.{Setting, Race, Event, first, enrol, draw, see, miss, link, key, mark, raise, add, join, opening_race, state_after_all, worker, home, place_in_order}
use Rattle.sg_words.specs.RaceInvariant.{holds_ticket, links_from, fold_all}

-- three slots of one node, whose second holds the number 4, with the stock 7, 8
abbrev pub small : Setting
small = record {
  slots = 0 ∷ 5 ∷ 0 ∷ [];
  keys = 0 ∷ 0 ∷ [];
  masks = 1 ∷ [];
  lengths = 2 ∷ [];
  cells = 10 ∷ [];
  nodes = 1;
  stock = λ _. 7 ∷ 8 ∷ [];
  node = λ _. 0;
  over_slot = λ _. (1, 0);
  over_bit = λ _. (1, 0);
  over_length = λ _. (1, 0);
  live = λ _. true;
  into = λ a x. a + x;
  told = 2 ∷ [];
}

-- two workers draw; the first links the last slot, the second sees that, marks and adds; they are joined
abbrev pub two_meet : List Event
two_meet = first ∷ enrol 0 ∷ draw 0 0 ∷ draw 1 0 ∷ miss 0 2 ∷ link 0 2 0 ∷ see 1 2 ∷ see 1 1 ∷ key 0 1 3 ∷ key 1 1 9 ∷ mark 1 3 ∷ raise 0 0 4 ∷ add 1 0 5 ∷ add 0 0 6 ∷ join 0 1 ∷ []

abbrev pub met : Race
met = state_after_all small two_meet (opening_race small)

met-slots : met.slots ≡ 0 ∷ 5 ∷ 8 ∷ []
met-slots = refl

met-keys : met.keys ≡ 0 ∷ 4 ∷ []
met-keys = refl

met-masks : met.masks ≡ 9 ∷ []
met-masks = refl

met-lengths : met.lengths ≡ 5 ∷ []
met-lengths = refl

met-cells : met.cells ≡ 21 ∷ []
met-cells = refl

met-counts : met.counts ≡ 2 ∷ []
met-counts = refl

met-seen : (worker met 0).seen ≡ (2, 7) ∷ (2, 7) ∷ (1, 4) ∷ []
met-seen = refl

met-keys_found : (worker met 0).keys ≡ (1, 3) ∷ (1, 3) ∷ []
met-keys_found = refl

met-left : (worker met 0).left ≡ (0, 1) ∷ []
met-left = refl

met-shares : (worker met 0).share + (worker met 0).back ≡ 16
met-shares = refl

met-tickets : holds_ticket small.node 0 0 (worker met 0) + holds_ticket small.node 0 1 (worker met 0) ≡ 2
met-tickets = refl

met-links : links_from small.node 0 0 met.slots ≡ 2
met-links = refl

met-fold : fold_all small.into 0 10 met.workers ≡ 21
met-fold = refl

-- a worker that draws when the stock of two is used up has a ticket past it, and none is linked twice
abbrev pub used_up : List Event
used_up = first ∷ enrol 0 ∷ enrol 0 ∷ draw 0 0 ∷ draw 1 0 ∷ draw 2 0 ∷ link 0 0 0 ∷ link 1 2 1 ∷ join 0 2 ∷ join 0 1 ∷ []

abbrev pub dry : Race
dry = state_after_all small used_up (opening_race small)

dry-slots : dry.slots ≡ 8 ∷ 5 ∷ 9 ∷ []
dry-slots = refl

dry-past : (worker dry 0).past ≡ (0, 2) ∷ []
dry-past = refl

dry-made : (worker dry 0).made ≡ (0, 0) ∷ (2, 1) ∷ []
dry-made = refl

dry-sizes : (worker dry 0).size + (worker dry 1).size ≡ 3
dry-sizes = refl

seven-begins : place_in_order 5 7 0 ≡ 1
unfolding home
seven-begins = refl

seven-ends : place_in_order 5 7 4 ≡ 0
unfolding home
seven-ends = refl

-- the key that was put at place 1 of two has its first place there
three-begins : place_in_order 2 3 0 ≡ 1
unfolding home
three-begins = refl
