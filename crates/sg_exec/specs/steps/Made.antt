-- What a run made, and what it leaves once it has landed in the stores.
use Rattle.std.specs.Prelude.{◌≡◌, ◌≤◌, ◌<◌, ◌++◌, ◌∷◌, ℕ, List, [], All, Contains, length, map, Result, Ok, Err, Some, slice_get, vec_capacity}
use Rattle.std.specs.List.{concat, AllPairs, AllZip}
use Rattle.std.specs.Result.{IsOkAnd}
use Rattle.sg_words.specs.declared.memory.Stop.{Stop}
use Rattle.sg_words.specs.declared.memory.Stop.TheVariants as stop
use Rattle.sg_words.specs.declared.operators.AccOp.{AccOp}
use Rattle.sg_accum.specs.declared.seat.AccSeat.{AccSeat}
use Rattle.sg_flat.specs.declared.effects.RunFault.{RunFault}
use Rattle.sg_flat.specs.declared.effects.Way.TheVariants.{Own, Acc}
use Rattle.sg_flat.specs.declared.effects.Write.{Write}
use Rattle.sg_flat.specs.declared.state.FlatState.{FlatState}
use Rattle.sg_store.specs.StoreWords.{StoreWords, word_in}
use Rattle.sg_store.specs.Links.{GrowsLinks}
use Rattle.sg_store.specs.Rows.{IsFieldFront}
use Rattle.sg_ir.specs.Apt.{Use, Writes}
use Rattle.sg_exec.specs.declared.lanes.cell_write.CellWrite.{CellWrite}
use Rattle.sg_exec.specs.declared.results.made.Ended.{Ended}
use Rattle.sg_exec.specs.declared.results.made.Made.{Made}
use Rattle.sg_exec.specs.declared.results.shared.Accumulated.{Accumulated}
use Rattle.sg_exec.specs.declared.results.sums.Sum.{Sum}
use Rattle.sg_exec.specs.Standing.{shapes_of, StandForState}
use Rattle.sg_exec.specs.steps.Landing.{current, landing, HasTree, Lands}
use Rattle.sg_exec.specs.steps.Machines.{AreCells}
use Rattle.sg_exec.specs.steps.Passes.{HasPass, GaveReached, AreGiven, IsSumOf, into_field, passed}
use Rattle.sg_exec.specs.steps.Racing.{ArePasses}
use Rattle.sg_exec.specs.steps.Puts.{kept_writes}

-- each store is another except for its fields
abbrev pub HaveTrees : List StoreWords → List StoreWords → Type 0
HaveTrees olds nows = AllZip HasTree olds nows

-- a field's values are as before
abbrev pub KeepsField : List StoreWords → List StoreWords → ℕ → ℕ → Type 0
KeepsField olds nows layout field =
    (old now : StoreWords) → slice_get olds layout ≡ Some old → slice_get nows layout ≡ Some now →
    (cell : ℕ) → word_in now field cell ≡ word_in old field cell

-- ---- what passes made of their fields

-- the values of a sum's field: those of its parts, one after the other
abbrev pub words_of : Sum → List ℕ
words_of sum = concat sum.words.items

-- the writes into the fields of some sums, in the order of the sums
abbrev pub summed : List Sum → List Write → List Write
summed [] writes = []
summed (sum ∷ sums) writes = into_field sum.layout sum.field writes ++ summed sums writes

-- a sum is of a field of its layout's store, and has words for the first cells, with all reached ones among them
abbrev pub HasRow : List StoreWords → Sum → Type 0
HasRow stores sum =
    (store : StoreWords) → slice_get stores sum.layout ≡ Some store → (sum.field < length store.shape.fields) × IsFieldFront store (words_of sum)

-- each sum is what a pass made of its field by these writes, and no two are of one field
pub record AreSums (stores : List StoreWords) (sums : List Sum) (writes : List Write) : Type 0 where
  pub each : All (λ (sum : Sum). IsSumOf stores sum.layout sum.field (words_of sum) writes) sums
  pub apart : AllPairs (λ (one other : Sum). one.layout ≡ other.layout → one.field ≡ other.field → ⊥) sums

-- what these seats have given to these passes was added to some sums, the last pass first
pub record AddsSums (accumulated : List Accumulated) (seats : List AccSeat) (olds news : List Sum) : Type 0 where
  pub more : List Sum
  pub added : news ≡ olds ++ more
  pub of_passes : All (λ (sum : Sum). HasPass accumulated sum.layout sum.field) more
  pub rows : (stores : List StoreWords) → ArePasses stores accumulated → GaveReached stores accumulated seats → All (HasRow stores) more
  pub sums : (stores : List StoreWords) (writes : List Write) → ArePasses stores accumulated → AreGiven stores accumulated seats writes →
      AreSums stores more writes × (summed more writes ≡ passed accumulated writes)

-- each sum is of a field that is accumulated by these uses, and each kept write goes into one that is own-written
pub record EndsUsed (uses : List Use) (ended : Ended) : Type 0 where
  pub sums : (sum : Sum) → Contains ended.sums.items sum → (op : AccOp) × Contains uses (Writes sum.layout sum.field (Acc op))
  pub puts : (write : CellWrite) → Contains (kept_writes ended.puts) write → Contains uses (Writes write.layout write.place Own)

-- ---- what a run made

-- what was made can land in the stores with the copies in their places, and there is room for these
pub record CanLand (stores : List StoreWords) (made : Made) : Type 0 where
  pub copies : length made.copies.items ≡ length stores
  pub links : AllZip GrowsLinks stores (current made.copies.items stores)
  pub rows : All (HasRow (current made.copies.items stores)) made.ended.sums.items
  pub cells : AreCells (current made.copies.items stores) (kept_writes made.ended.puts)
  pub none : made.room.items ≡ []
  pub space : length stores ≤ vec_capacity made.room

-- in these stores the sums have landed, and then the kept writes
pub record HasLanded (stores : List StoreWords) (ended : Ended) (news : List StoreWords) : Type 0 where
  pub mids : List StoreWords
  pub sums_land : (writes : List Write) → AreSums stores ended.sums.items writes → Lands stores mids (summed ended.sums.items writes)
  pub puts_land : (made : List Write) → (kept_writes ended.puts) ≡ map (landing stores) made → Lands mids news made

-- no sum is of a layout
abbrev pub NoSumOf : List Sum → ℕ → Type 0
NoSumOf sums layout = (sum : Sum) → Contains sums sum → sum.layout ≡ layout → ⊥

-- no write goes into a layout
abbrev pub NoWriteInto : List CellWrite → ℕ → Type 0
NoWriteInto writes layout = (write : CellWrite) → Contains writes write → write.layout ≡ layout → ⊥

-- in these stores all has landed, and a layout into which nothing goes is as before
pub record HasPut (stores : List StoreWords) (ended : Ended) (news : List StoreWords) : Type 0 where
  pub landed : HasLanded stores ended news
  pub mids_shapes : shapes_of landed.mids ≡ shapes_of stores
  pub mids_same : (layout : ℕ) → NoSumOf ended.sums.items layout → slice_get landed.mids layout ≡ slice_get stores layout
  pub news_shapes : shapes_of news ≡ shapes_of landed.mids
  pub news_same : (layout : ℕ) → NoWriteInto (kept_writes ended.puts) layout → slice_get news layout ≡ slice_get landed.mids layout

-- What was made is what a meaning says: any stores in which it has landed stand for the meaning's state, and a refusal is that of the meaning.
abbrev pub MadeRan : List StoreWords → Result Made (Stop RunFault) → Result FlatState RunFault → Type 0
MadeRan stores (Ok made) meaning =
    (news : List StoreWords) → HasLanded (current made.copies.items stores) made.ended news → IsOkAnd meaning (StandForState (shapes_of stores) news)
MadeRan stores (Err stop.Memory) meaning = Unit {0}
MadeRan stores (Err (stop.Refused fault)) meaning = meaning ≡ Err fault
