-- Worked equations: a layout of pointer(i: 4) cap 2; dense(i: 4); pruned.
use Rattle.std.specs.Prelude.{◌≡◌, [], ◌∷◌, refl}
use Rattle.sg_flat.specs.declared.state.FlatLayout.{FlatLayout}
use Rattle.sg_layout.specs.Examples.{at1, blocks}
use Rattle.sg_store.specs.Pruning.{valued_coordinates, pruned}

-- blocks 0 and 2 are active, with a value at 9
abbrev pub two_blocks : FlatLayout
two_blocks = record {
  active = at1 0 ∷ at1 1 ∷ at1 2 ∷ at1 3 ∷ at1 8 ∷ at1 9 ∷ at1 10 ∷ at1 11 ∷ [];
  fields = ((9, 7) ∷ []) ∷ [];
}

nine_has_a_value : valued_coordinates blocks two_blocks ≡ at1 9 ∷ []
nine_has_a_value = refl

block_two_stays : (pruned blocks two_blocks).active ≡ at1 8 ∷ at1 9 ∷ at1 10 ∷ at1 11 ∷ []
block_two_stays = refl

values_stay : (pruned blocks two_blocks).fields ≡ ((9, 7) ∷ []) ∷ []
values_stay = refl

-- without a value no block stays; a value of any field counts
none_stays : (pruned blocks (record two_blocks { fields = [] ∷ [] })).active ≡ []
none_stays = refl

any_field_counts : valued_coordinates blocks (record two_blocks { fields = [] ∷ ((1, 3) ∷ []) ∷ [] }) ≡ at1 1 ∷ []
any_field_counts = refl
