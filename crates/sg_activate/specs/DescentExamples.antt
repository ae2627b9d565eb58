-- Worked: pointer(i: 2), bitmasked(i: 4), pointer(i: 2), with three containers below each pointer node. At the start container 1 hangs at
-- slot 0 of the first, its bit 3 is set, and under that bit slot 1 of the last node has container 0.
use Rattle.std.specs.Prelude.{◌≡◌, refl, true, false, [], ◌∷◌, replicate, ◌++◌}
use Rattle.sg_words.specs.RaceMachine.{Race, first, miss, draw, link, mark, opening_race, state_after_all, worker}
use Rattle.sg_activate.specs.declared.descent.rule.Start.{Start}
use Rattle.sg_activate.specs.DescentRace.{setting_of, stock_at, over_slot_at, over_bit_at, was_live, told_at, told_slots, told_bound}

abbrev pub three_nodes : Start
three_nodes = record {
  layout = record { axes = 1; nodes = []; fields = [] };
  links = (2 ∷ 0 ∷ []) ++ (replicate 15 0 ++ (1 ∷ replicate 8 0));
  masks = 128 ∷ [];
  stock = 0 ∷ 2 ∷ 1 ∷ 2 ∷ [];
  keys = [];
  heads = 1 ∷ [];
  head_places = 1;
  slot_parts = record { slots = 2; places = 3; limit = 2; stock = 0; over = 2; width = 2 } ∷ record { slots = 24; places = 3; limit = 2; stock = 2; over = 0; width = 8 } ∷ [];
  mask_parts = record { words = 1; over = 0; width = 4 } ∷ [];
}

pub second_stock : stock_at three_nodes 1 ≡ 1 ∷ 2 ∷ []
second_stock = refl

-- a slot of the first node stands at the root, and slot 15 of the last in container 1 of the first
pub at_root : over_slot_at three_nodes 1 ≡ (2, 0)
at_root = refl

pub in_one : over_slot_at three_nodes 17 ≡ (0, 1)
in_one = refl

pub bit_in_one : over_bit_at three_nodes 7 ≡ (0, 1)
bit_in_one = refl

pub root_is_live : was_live three_nodes (2, 0) ≡ true
root_is_live = refl

pub one_is_live : was_live three_nodes (0, 1) ≡ true
one_is_live = refl

pub zero_is_not : was_live three_nodes (0, 0) ≡ false
zero_is_not = refl

pub slots_are_told : told_slots (told_at three_nodes) ≡ 2 ∷ 24 ∷ []
slots_are_told = refl

pub bound_is_told : told_bound (told_at three_nodes) 17 ≡ 3
bound_is_told = refl

-- one worker takes the coordinate of slot 1, bit 2 and slot 0 through all nodes
abbrev pub after_one : Race
after_one = state_after_all (setting_of three_nodes)
    (first ∷ miss 0 1 ∷ draw 0 0 ∷ link 0 1 0 ∷ mark 0 2 ∷ miss 0 6 ∷ draw 0 1 ∷ link 0 6 0 ∷ []) (opening_race (setting_of three_nodes))

pub links_after : after_one.slots ≡ (2 ∷ 1 ∷ []) ++ (0 ∷ 0 ∷ 0 ∷ 0 ∷ 2 ∷ (replicate 10 0 ++ (1 ∷ replicate 8 0)))
links_after = refl

pub masks_after : after_one.masks ≡ 132 ∷ []
masks_after = refl

pub counts_after : after_one.counts ≡ 1 ∷ 1 ∷ []
counts_after = refl

pub seen_after : (worker after_one 0).seen ≡ (1, 0) ∷ (6, 1) ∷ []
seen_after = refl
