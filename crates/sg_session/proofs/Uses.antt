-- Lemmas on sessions for the crates above.
-- a task over stores of a compiled program means what it means in a program that is compiled to it
pub use Rattle.sg_session.proofs.TasksKept.{compiling_keeps_tasks, task_kept}
-- an answer after another has come from one
pub use Rattle.sg_session.proofs.Answered.{bound_ok}
-- programs that differ in the nodes of their layouts alone have the same names and the same commands
pub use Rattle.sg_session.proofs.SamePrograms.{tasks_same}
