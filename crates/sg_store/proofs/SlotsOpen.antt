-- Where links lead to what a store is open for, as a call reads it.
use Rattle.std.proofs.Common.{◌≡◌, ℕ, suc, ◌-◌, List, refl, ap, ◌∙◌, subst, arith, cond}
use Rattle.std.specs.Prelude.{Option, Some, None, IsSome, is_some}
use Rattle.std.specs.Option.{option_map}
use Rattle.std.specs.List.{Contains}
use Rattle.std.proofs.lemmas.Bool.{le-leb}
use Rattle.sg_coord.specs.declared.coord.Coord.{Coord}
use Rattle.sg_layout.specs.declared.shape.NodeShape.{NodeShape}
use Rattle.sg_layout.specs.Path.{path}
use Rattle.sg_layout.specs.Live.{is_live}
use Rattle.sg_layout.specs.PathLaws.{PathIsSlot}
use Rattle.sg_store.specs.declared.node.NodeWords.{NodeWords}
use Rattle.sg_store.specs.StoreWords.{StoreWords}
use Rattle.sg_store.specs.Slots.{word_number}
use Rattle.sg_store.specs.Walks.{slot_number_in, place_in}
use Rattle.sg_store.specs.Reaching.{IsOpenThrough}
use Rattle.sg_store.proofs.Wanted.{OpenFor, own_path_live, number_there}
use Rattle.sg_store.proofs.AtNumber.{IsAt, back_to, within_nodes, word_is}

open_for_all : (store : StoreWords) (number i : ℕ) (node : NodeShape) (kept : NodeWords) (old all : List Coord) → IsAt store number i node kept → PathIsSlot store.shape → IsOpenThrough store old all i → OpenFor store i all
open_for_all store number i node kept old all is paths is_open = record {
  paths = λ at n. paths is.well.accepted at n;
  are_nodes = is.well.nodes_fit;
  on = λ n below at has other.
      is_open (suc n) (path store.shape at (suc n))
      (record { first = omega arith; within = omega (arith, below, within_nodes store number i node kept is); has_activity = other; is_slot = paths is.well.accepted at (suc n) })
      ∙ ap (λ b. is_live store.shape (cond b all old) (suc n) (path store.shape at (suc n))) (le-leb (suc n) i (omega (arith, below)))
      ∙ own_path_live store.shape all (suc n) at has;
}

-- the slot of a coordinate for which the nodes above are open has a number
pub open_has_place : (store : StoreWords) (number i : ℕ) (node : NodeShape) (kept : NodeWords) (old all : List Coord) (at : Coord) → IsAt store number i node kept → PathIsSlot store.shape → IsOpenThrough store old all (number - 1) → Contains all at → IsSome (place_in store number at)
open_has_place store number i node kept old all at is paths is_open has =
    let here : IsOpenThrough store old all i = subst (λ n. IsOpenThrough store old all n) (back_to number i is.next) is_open in
    let led = number_there store i all (open_for_all store number i node kept old all is paths here) (within_nodes store number i node kept is) at has in
    ap is_some (word_is store number i node kept (path store.shape at number) is)
    ∙ some_map (slot_number_in store.shape.nodes store.nodes 0 (path store.shape at number))
    ∙ ap (λ n. is_some (slot_number_in store.shape.nodes store.nodes 0 (path store.shape at n))) is.next ∙ ap is_some led.1
  where
    some_map : (o : Option ℕ) → is_some (option_map (word_number node.kind node) o) ≡ is_some o
    some_map None = refl
    some_map (Some q) = refl
