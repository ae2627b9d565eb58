-- Lemmas on conversion and advice for the crates above.
-- the layout of a store of a number, and what this store stands for
pub use Rattle.sg_convert.proofs.Advises.{IsAt, is_at, shape_is_at}
-- what a store keeps fits the layout that is best for it
pub use Rattle.sg_convert.proofs.Advises.{advice_has_room}
