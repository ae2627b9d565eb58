-- What is told of points, batch after batch.
use Rattle.std.proofs.Common.{◌≡◌, ℕ, ◌+◌, ◌*◌, ◌<◌, ◌≤◌, Bool, true, false, ◌&&◌, List, ◌++◌, map, length, take, drop, Result, Ok, Err, refl, inl, inr, sym, ap, ◌∙◌, subst, arith}
use Rattle.std.specs.Prelude.{IsTrue}
use Rattle.std.specs.Result.{IsErrAnd}
use Rattle.std.proofs.lemmas.Bool.{cases_eq}
use Rattle.std.proofs.lemmas.List.{map-append, take_all}
use lib.Seq.{take-add}
use Rattle.sg_words.specs.declared.memory.Stop.{Stop}
use Rattle.sg_coord.specs.declared.coord.Coord.{Coord}
use Rattle.sg_flat.specs.declared.effects.Turn.{Turn}
use Rattle.sg_flat.specs.declared.effects.RunFault.{RunFault}
use Rattle.sg_flat.specs.declared.state.FlatState.{FlatState}
use Rattle.sg_store.specs.StoreWords.{StoreWords}
use Rattle.sg_ir.specs.declared.code.Inst.{Inst}
use Rattle.sg_exec.specs.steps.Moments.{AreNamedAt}
use Rattle.sg_exec.specs.steps.Turning.{TellsOutside, in_both}
use Rattle.sg_exec.proofs.Turning.{right_told, told_left, named_left, named_right}

-- the points of a batch are among all
pub named_batch : (stores : List StoreWords) (state : FlatState) (block : List Inst) (points batch : List Coord) (first count : ℕ) → batch ≡ take count (drop first points)
    → AreNamedAt stores state block points → AreNamedAt stores state block batch
named_batch stores state block points batch first count is named =
    named_left stores state block (drop first points) batch count is (named_right stores state block points (drop first points) first refl named)

-- the points so far with a batch more
batch_told : (stores : List StoreWords) (f : Coord → Turn) (points batch : List Coord) (first count : ℕ) (active : Bool) (r : Result Bool (Stop RunFault)) → batch ≡ take count (drop first points)
    → TellsOutside stores (map f (take first points)) (Ok active) → TellsOutside stores (map f batch) r → TellsOutside stores (map f (take (first + count) points)) (in_both active r)
batch_told stores f points batch first count active r is so_far told =
    subst (λ (ts : List Turn). TellsOutside stores ts (in_both active r))
    (sym (map-append f (take first points) batch) ∙ ap (λ (l : List Coord). map f (take first points ++ l)) is ∙ ap (map f) (sym (take-add first count points)))
    (right_told stores (map f (take first points)) (map f batch) active r so_far told)

-- the batch was as long as it could be
to_next : (points : List Coord) (number count : ℕ) → count ≤ 32 → (count < 32 → length points ≤ number * 32 + count) → take (number * 32 + count) points ≡ take ((number + 1) * 32) points
to_next points number count few short = elim (cases_eq count 32) [
  | inl whole ↦ ap (λ (n : ℕ). take n points) (let same : number * 32 + count ≡ (number + 1) * 32 = omega (arith, whole) in same)
  | inr other ↦ (
      let less : count < 32 = omega (arith, few, other) in
      let past : length points ≤ number * 32 + count = short less in
      take_all (number * 32 + count) points past ∙ sym (take_all ((number + 1) * 32) points (omega (arith, past, few)))
      )
]

same_both : (a b : Bool) → (IsTrue b → IsTrue a) → (a && b) ≡ b
same_both true b so = refl
same_both false false so = refl
same_both false true so = so refl

-- all is told of the points with the batch
pub told_more : (stores : List StoreWords) (f : Coord → Turn) (points batch : List Coord) (number count : ℕ) (active others : Bool) → batch ≡ take count (drop (number * 32) points)
    → count ≤ 32 → (count < 32 → length points ≤ number * 32 + count) → (IsTrue others → IsTrue active)
    → TellsOutside stores (map f (take (number * 32) points)) (Ok active) → TellsOutside stores (map f batch) (Ok others) → TellsOutside stores (map f (take ((number + 1) * 32) points)) (Ok others)
told_more stores f points batch number count active others is few short so so_far told =
    subst (λ (ps : List Coord). TellsOutside stores (map f ps) (Ok others)) (to_next points number count few short)
    (subst (λ (b : Bool). TellsOutside stores (map f (take (number * 32 + count) points)) (Ok b)) (same_both active others so)
    (batch_told stores f points batch (number * 32) count active (Ok others) is so_far told))

-- or the batch stops it
pub told_stop : (stores : List StoreWords) (f : Coord → Turn) (points batch : List Coord) (first count : ℕ) (active : Bool) (why : Stop RunFault) (r : Result Bool (Stop RunFault)) → IsErrAnd r (λ x. x ≡ why) → batch ≡ take count (drop first points)
    → TellsOutside stores (map f (take first points)) (Ok active) → TellsOutside stores (map f batch) (Err why) → TellsOutside stores (map f points) r
told_stop stores f points batch first count active why (Ok x) same is so_far told = absurd same
told_stop stores f points batch first count active why (Err e) same is so_far told =
    subst (λ (x : Stop RunFault). TellsOutside stores (map f points) (Err x)) (sym same)
    (told_left stores f points (take (first + count) points) (drop (first + count) points) (first + count) why refl refl (batch_told stores f points batch first count active (Err why) is so_far told))

-- until all points are done
pub told_end : (stores : List StoreWords) (f : Coord → Turn) (points : List Coord) (done : ℕ) (active : Bool) → length points ≤ done
    → TellsOutside stores (map f (take done points)) (Ok active) → TellsOutside stores (map f points) (Ok active)
told_end stores f points done active past told = subst (λ (ps : List Coord). TellsOutside stores (map f ps) (Ok active)) (take_all done points past) told
