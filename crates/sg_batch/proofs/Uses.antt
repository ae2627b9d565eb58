-- Lemmas on groups of kernels for the crates above.
use Rattle.std.proofs.Common.{◌≡◌, List, Result, Ok, Err, sym, subst}
use Rattle.sg_words.specs.declared.memory.Stop.{Stop}
use Rattle.sg_words.specs.declared.memory.Stop.TheVariants as stop
use Rattle.sg_layout.specs.declared.shape.Shape.{Shape}
use Rattle.sg_flat.specs.declared.state.FlatState.{FlatState}
use Rattle.sg_store.specs.StoreWords.{StoreWords}
use Rattle.sg_exec.specs.Standing.{StandForState}
use Rattle.sg_batch.specs.declared.fault.BatchFault.{BatchFault}
use Rattle.sg_batch.specs.Batches.{GroupEnd, Batched, StaysAtMemory}
-- the front of none
pub use Rattle.sg_batch.proofs.Grouped.{longest_none}

-- the stores of a group stand for some state after it as before
pub group_stands : (shapes : List Shape) (olds news : List StoreWords) (result : Result Unit (Stop BatchFault)) (end : FlatState → GroupEnd)
    → ((state : FlatState) → StandForState shapes olds state → Batched shapes news result (end state)) → StaysAtMemory result olds news
    → (state : FlatState) × StandForState shapes olds state → (state : FlatState) × StandForState shapes news state
group_stands shapes olds news (Ok done) end answer stays some = ((end some.0).state, (answer some.0 some.1).stand)
group_stands shapes olds news (Err stop.Memory) end answer stays some = (some.0, subst (λ (stores : List StoreWords). StandForState shapes stores some.0) (sym stays) some.1)
group_stands shapes olds news (Err (stop.Refused fault)) end answer stays some = ((end some.0).state, (answer some.0 some.1).stand)
