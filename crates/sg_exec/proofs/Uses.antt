-- Lemmas on runs for the crates above.
-- what was prepared over stores was so over others that are the same wherever the kernel touches them
pub use Rattle.sg_exec.proofs.PreparedRuns.{is_for_others, prepared_others}
-- whether a number is in a list, by a test and as a fact
pub use Rattle.sg_exec.proofs.LocalRuns.{among_from, from_among}
-- what stores stand for is flat
pub use Rattle.sg_exec.proofs.Walked.{all_flat}
