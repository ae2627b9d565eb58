-- Links of stores before and after a command.
use Rattle.std.proofs.Common.{◌≡◌, ℕ, zero, suc, List, [], ◌∷◌, Some, sym, subst, arith}
use Rattle.std.specs.Prelude.{All, slice_get, slice_set}
use Rattle.std.specs.List.{AllZip}
use Rattle.sg_store.specs.StoreWords.{StoreWords}
use Rattle.sg_store.specs.WellFormed.{IsWellFormed}
use Rattle.sg_store.specs.Links.{GrowsLinks, KeepsLinks}
use Rattle.sg_store.specs.LinkLaws.{GrownAreKept, ShrunkAreKept}

first_of : (store : StoreWords) (stores : List StoreWords) → All IsWellFormed (store ∷ stores) → IsWellFormed store
first_of store stores all = all 0 store (omega arith)

rest_of : (store : StoreWords) (stores : List StoreWords) → All IsWellFormed (store ∷ stores) → All IsWellFormed stores
rest_of store stores all = λ k d below. all (suc k) d (omega (arith, below))

pub links_itself : (stores : List StoreWords) → AllZip GrowsLinks stores stores
links_itself [] = tt
links_itself (store ∷ stores) = (λ index link is. is, links_itself stores)

-- where links only grow
pub keep_grown : ((old now : StoreWords) → GrownAreKept old now) → (olds nows : List StoreWords) → All IsWellFormed nows → AllZip GrowsLinks olds nows → AllZip KeepsLinks olds nows
keep_grown law [] [] well grows = tt
keep_grown law [] (now ∷ nows) well grows = absurd grows
keep_grown law (old ∷ olds) [] well grows = absurd grows
keep_grown law (old ∷ olds) (now ∷ nows) well grows = (law old now (first_of now nows well) grows.0, keep_grown law olds nows (rest_of now nows well) grows.1)

-- and where they only shrink
pub keep_shrunk : ((old now : StoreWords) → ShrunkAreKept old now) → (olds nows : List StoreWords) → All IsWellFormed olds → AllZip GrowsLinks nows olds → AllZip KeepsLinks olds nows
keep_shrunk law [] [] well grows = tt
keep_shrunk law [] (now ∷ nows) well grows = absurd grows
keep_shrunk law (old ∷ olds) [] well grows = absurd grows
keep_shrunk law (old ∷ olds) (now ∷ nows) well grows = (law old now (first_of old olds well) grows.0, keep_shrunk law olds nows (rest_of old olds well) grows.1)

pub keep_itself : ((old now : StoreWords) → ShrunkAreKept old now) → (stores : List StoreWords) → All IsWellFormed stores → AllZip KeepsLinks stores stores
keep_itself law stores well = keep_shrunk law stores stores well (links_itself stores)

-- one store that has lost links
pub one_shrunk : (stores : List StoreWords) (k : ℕ) (store now : StoreWords) → slice_get stores k ≡ Some store → GrowsLinks now store → AllZip GrowsLinks (slice_set stores k now) stores
one_shrunk [] k store now there grows = tt
one_shrunk (other ∷ stores) zero store now there grows =
    let is : other ≡ store = cc in
    (subst (λ (s : StoreWords). GrowsLinks now s) (sym is) grows, links_itself stores)
one_shrunk (other ∷ stores) (suc k) store now there grows = (λ index link is. is, one_shrunk stores k store now there grows)
