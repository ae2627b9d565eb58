-- Lemmas on stores for the crates above.
-- a cell to which a coordinate leads is reached, and a reached cell is one of the cells
pub use Rattle.sg_store.proofs.CellWords.{cell_is_reached, reached_within}
-- links and bits that a node may be given can be given
pub use Rattle.sg_store.proofs.CanBeSettled.{HasSettled, OpensSlots, OpensBits, slots_can_be_settled, bits_can_be_settled}
-- a pointer node's stock, the places of coordinates, and the needs of nodes that are open
pub use Rattle.sg_store.proofs.NodeFacts.{as_many_nodes, IsNodeStock, is_node_stock, slot_place, bit_place, open_need_fits}
pub use Rattle.sg_store.proofs.NodeNeed.{NeedLaws}
-- a hash node's links beside its keys, and those by slot
pub use Rattle.sg_store.proofs.KeyPlaces.{links_contain, slots_contain}
-- what is active at the opening adds nothing to a closure, nor to which node is too full
pub use Rattle.sg_store.proofs.HasRoom.{opening_closes, opening_fills}
-- the slots of one copy, and what a node of a well-formed store keeps
pub use Rattle.sg_store.proofs.SpotPlaces.{IsNarrow, IsWidth, narrow_start, width_fits, width_on}
pub use Rattle.sg_store.proofs.Stepping.{read_as}
pub use Rattle.sg_store.proofs.Walking.{node_is}
-- a map of bits in which one more is set
pub use Rattle.sg_store.proofs.Marking.{marked}
