-- The rooms of a layout's nodes, node by node.
use Rattle.std.proofs.Common.{◌≡◌, inl, inr, ℕ, suc, ◌+◌, ◌*◌, ◌<◌, Bool, true, false, cond, List, [], ◌∷◌, ◌++◌, length, drop, Option, Some, None, refl, sym, ap, ◌∙◌, arith}
use Rattle.std.specs.Prelude.{slice_get, slice_index_or}
use Rattle.std.specs.Option.{option_map}
use Rattle.std.proofs.lemmas.Bool.{cases_lt}
use Rattle.std.proofs.lemmas.Option.{slice_get_past}
use Rattle.std.proofs.lemmas.List.{length-append, get_or_append_left, get_or_push, get_or_past}
use Rattle.sg_layout.specs.declared.shape.Kind.{Kind}
use Rattle.sg_layout.specs.declared.shape.Kind.TheVariants.{Dense, Bitmasked, Pointer, Hash, Dynamic}
use Rattle.sg_layout.specs.declared.shape.NodeShape.{NodeShape}
use Rattle.sg_layout.specs.declared.shape.Shape.{Shape}
use Rattle.sg_layout.specs.Axes.{count_of}
use Rattle.sg_layout.specs.Live.{kind_or}
use Rattle.sg_layout.specs.StorageWords.{ends_segment}
use Rattle.sg_store.specs.WellFormed.{kind_has_cap}
use Rattle.sg_store.specs.Spots.{width_past, width_from}
use Rattle.sg_store.specs.Links.{node_above, slots_per_place}
use Rattle.sg_store.proofs.Uses.{IsNarrow, IsWidth, width_on}
use Rattle.sg_journal.specs.declared.rooms.Room.{Room}
use Rattle.sg_journal.specs.Rooms.{AreRooms, places_of, room_at, room_of}
use Rattle.sg_journal.specs.steps.Walking.{room_for, room_by}

-- the rooms of the first nodes, the nearest node above the next one, and the slots of one copy before it
pub record AreRoomsSoFar (shape : Shape) (so_far : ℕ) (above : Option ℕ) (before : ℕ) (rooms : List (Option Room)) : Type 0 where
  pub many : length rooms ≡ so_far
  pub each : (index : ℕ) → index < so_far → slice_index_or rooms index None ≡ room_of shape (suc index)
  pub above_is : above ≡ option_map suc (node_above shape.nodes so_far)
  pub before_is : before ≡ width_from 1 shape.nodes so_far
  pub narrow : IsNarrow (drop so_far shape.nodes) before

pub rooms_none : (shape : Shape) → IsNarrow shape.nodes 1 → AreRoomsSoFar shape 0 None 1 []
rooms_none shape narrow = record { many = refl; each = λ index below. absurd (omega (arith, below)); above_is = refl; before_is = refl; narrow = narrow }

-- the room of the next node
room_is : (node : NodeShape) (nodes : List NodeShape) (index : ℕ) (above : Option ℕ) (before : ℕ) → slice_get nodes index ≡ Some node → above ≡ option_map suc (node_above nodes index) → before ≡ width_from 1 nodes index
    → room_by node above before ≡ room_at nodes index (slice_get nodes index)
room_is node nodes index above before at above_is before_is =
    by_kind node.kind above before
    ∙ ap (λ a. own node.kind a before) above_is
    ∙ ap (λ w. own node.kind (option_map suc (node_above nodes index)) w) before_is
    ∙ sym (ap (room_at nodes index) at)
  where
    own : Kind → Option ℕ → ℕ → Option Room
    own k a w = cond (kind_has_cap k) (Some (record { places = places_of k node; cap = count_of node.cap; slots = w * slots_per_place k node; above = a })) None

    by_kind : (k : Kind) (a : Option ℕ) (w : ℕ) → room_for k node a w ≡ own k a w
    by_kind Dense a w = refl
    by_kind Bitmasked a w = refl
    by_kind Pointer a w = refl
    by_kind Hash a w = refl
    by_kind Dynamic a w = refl

-- the nearest node above the one behind it
above_next : (nodes : List NodeShape) (index : ℕ) (node : NodeShape) (kind : Kind) (above next : Option ℕ) → slice_get nodes index ≡ Some node → kind ≡ node.kind → above ≡ option_map suc (node_above nodes index) → next ≡ cond (ends_segment kind) (Some (index + 1)) above
    → next ≡ option_map suc (node_above nodes (index + 1))
above_next nodes index node kind above next at kind_is above_is is =
    let on : index + 1 ≡ suc index = omega arith in
    is
    ∙ ap (λ k. cond (ends_segment k) (Some (index + 1)) above) (kind_is ∙ sym (ap kind_or at))
    ∙ ap (λ n. cond (ends_segment (kind_or (slice_get nodes index))) (Some n) above) on
    ∙ ap (λ a. cond (ends_segment (kind_or (slice_get nodes index))) (Some (suc index)) a) above_is
    ∙ by_case (ends_segment (kind_or (slice_get nodes index)))
    ∙ ap (λ n. option_map suc (node_above nodes n)) (sym on)
  where
    by_case : (b : Bool) → cond b (Some (suc index)) (option_map suc (node_above nodes index)) ≡ option_map suc (cond b (Some index) (node_above nodes index))
    by_case true = refl
    by_case false = refl

pub rooms_next : (shape : Shape) (index : ℕ) (above next : Option ℕ) (before size after : ℕ) (kind : Kind) (node : NodeShape) (rooms more : List (Option Room)) (room : Option Room) → AreRoomsSoFar shape index above before rooms
    → slice_get shape.nodes index ≡ Some node → kind ≡ node.kind → IsWidth shape.nodes index before size kind → more ≡ rooms ++ room ∷ [] → room ≡ room_by node above before
    → next ≡ cond (ends_segment kind) (Some (index + 1)) above → after ≡ width_past kind (before * size) → AreRoomsSoFar shape (index + 1) next after more
rooms_next shape index above next before size after kind node rooms more room so_far at kind_is width more_is own next_is after_is =
    let on = width_on shape.nodes index before size kind after width after_is in
    record {
      many = ap length more_is ∙ length-append rooms (room ∷ []) ∙ ap (λ n. n + 1) so_far.many;
      each = λ i below. elim (cases_lt i index) [
        | inl earlier ↦ ap (λ (l : List (Option Room)). slice_index_or l i None) more_is ∙ get_or_append_left rooms (room ∷ []) None i (omega (arith, earlier, so_far.many)) ∙ so_far.each i earlier
        | inr past ↦
            let here : i ≡ index = omega (arith, below, past) in
            ap (λ (l : List (Option Room)). slice_index_or l i None) more_is
            ∙ get_or_push rooms room None i (so_far.many ∙ sym here)
            ∙ own ∙ room_is node shape.nodes index above before at so_far.above_is so_far.before_is
            ∙ ap (λ n. room_at shape.nodes n (slice_get shape.nodes n)) (sym here)
      ];
      above_is = above_next shape.nodes index node kind above next at kind_is so_far.above_is next_is;
      before_is = on.0;
      narrow = on.1;
    }

pub rooms_end : (shape : Shape) (end : ℕ) (above : Option ℕ) (before : ℕ) (rooms : List (Option Room)) → end ≡ length shape.nodes → AreRoomsSoFar shape end above before rooms → AreRooms shape rooms
rooms_end shape end above before rooms all so_far = record {
  many = so_far.many ∙ all;
  each = λ index. elim (cases_lt index end) [
    | inl before ↦ so_far.each index before
    | inr past ↦
        get_or_past rooms index None (omega (arith, so_far.many, past))
        ∙ sym (ap (room_at shape.nodes index) (slice_get_past shape.nodes index (omega (arith, all, past))))
  ];
}
