-- The changes between stores are sound lines, which lead to what stands in the later ones.
use Rattle.std.proofs.Common.{◌≡◌, suc, List, [], ◌∷◌, length, refl, sym, ap, ◌∙◌, subst}
use Rattle.std.proofs.lemmas.List.{length-map}
use Rattle.sg_layout.specs.declared.shape.Shape.{Shape}
use Rattle.sg_store.specs.StoreWords.{StoreWords}
use Rattle.sg_store.specs.StoreLaws.{LiveIsNeed}
use Rattle.sg_store.specs.LinkLaws.{LinksAreSound}
use Rattle.sg_store.specs.Standing.{shapes_of}
use Rattle.sg_journal.specs.Rooms.{rooms_of}
use Rattle.sg_journal.specs.Placing.{Placing, ArePlaced, nothing_in, nothing_placed}
use Rattle.sg_journal.specs.PlacingLaws.{IsSoundPlacing, KeepsPlaces}
use Rattle.sg_journal.specs.Needs.{StoresChange, StoresBegin}
use Rattle.sg_journal.proofs.PlacedOnce.{nothing_is_sound, nothing_is_held}
use Rattle.sg_journal.proofs.StoresPlaced.{stores_are_sound, stores_keep_places}
use Rattle.sg_journal.proofs.PlacingChanges.{changes_are_sound}
use Rattle.sg_journal.proofs.Needed.{placed_are_needed}
use Rattle.sg_words.proofs.Uses.{contains_none}

as_long : (stores : List StoreWords) (placing : Placing) → ArePlaced stores placing → length stores ≡ length placing
as_long [] [] placed = refl
as_long [] (nodes ∷ placing) placed = absurd placed
as_long (store ∷ stores) [] placed = absurd placed
as_long (store ∷ stores) (nodes ∷ placing) placed = ap (λ n. suc n) (as_long stores placing placed.1)

-- there is a layout of a placing for each shape
as_shapes : (shapes : List Shape) (stores : List StoreWords) (placing : Placing) → shapes_of stores ≡ shapes → ArePlaced stores placing → length placing ≡ length shapes
as_shapes shapes stores placing are placed = sym (as_long stores placing placed) ∙ sym (length-map stores (λ (store : StoreWords). store.shape)) ∙ ap length are

module _ (laws : (store : StoreWords) → LinksAreSound store) (needs : (store : StoreWords) → LiveIsNeed store) where
  pub stores_change : StoresChange
  stores_change shapes olds news from to held state old_wells new_wells are stand keep from_is to_is holds =
      let from_sound : IsSoundPlacing (rooms_of shapes) from = subst (λ (ss : List Shape). IsSoundPlacing (rooms_of ss) from) are (stores_are_sound laws olds from old_wells from_is) in
      let to_sound : IsSoundPlacing (rooms_of shapes) to = subst (λ (ss : List Shape). IsSoundPlacing (rooms_of ss) to) stand.shapes_are (stores_are_sound laws news to new_wells to_is) in
      let many : length from ≡ length to = as_shapes shapes olds from are from_is ∙ sym (as_shapes shapes news to stand.shapes_are to_is) in
      let led = changes_are_sound shapes from to held many from_sound to_sound (stores_keep_places olds news from to keep from_is to_is) holds in
      record { next = led.0; sound = led.1; holds = led.2; needed = placed_are_needed laws needs shapes news state to led.0 new_wells stand to_is led.2 }

  -- no number of nothing keeps another link
  none_keeps : (shapes : List Shape) (to : Placing) → KeepsPlaces (nothing_placed shapes) to
  none_keeps shapes to layout node x y one two same =
      absurd (contains_none _ (((nothing_is_held shapes).members (record { layout = layout; node = node; number = x.number; parent = x.parent; slot = x.slot })).1 one))

  pub stores_begin : StoresBegin
  stores_begin shapes news to state wells stand to_is =
      let to_sound : IsSoundPlacing (rooms_of shapes) to = subst (λ (ss : List Shape). IsSoundPlacing (rooms_of ss) to) stand.shapes_are (stores_are_sound laws news to wells to_is) in
      let many : length (nothing_placed shapes) ≡ length to = length-map shapes nothing_in ∙ sym (as_shapes shapes news to stand.shapes_are to_is) in
      let led = changes_are_sound shapes (nothing_placed shapes) to [] many (nothing_is_sound shapes) to_sound (none_keeps shapes to) (nothing_is_held shapes) in
      record { next = led.0; sound = led.1; holds = led.2; needed = placed_are_needed laws needs shapes news state to led.0 wells stand to_is led.2 }
