use Rattle.std.proofs.Common.{◌≡◌, ℕ, List, [], ◌∷◌, ◌++◌, sym, ap, ◌∙◌, subst, arith}
use Rattle.std.specs.List.Sorted.{IsPermutation}
use Rattle.std.specs.Prelude.{slice_index}
use Rattle.sg_store.specs.steps.Sorting.{keys_in, AreSortedKeys}
use Rattle.sg_store.proofs.WordsInUse.{keys_next, keys_end}
use Rattle.sg_store.proofs.keys.keys_in_order.Goals as goal

pub push_key-requires : goal.push_key-requires
push_key-requires c = let at = c.in-Some.ensures.next in omega (arith, c.get.ensures, c.requires c.in-Some.next 0 at.1)

pub loop-next-preserved : goal.loop-next-preserved
loop-next-preserved c =
    let at = c.in-Some.ensures.next in
    let words : List ℕ = c.args.words.now in
    let next : ℕ = c.in-Some.next in (
      c.in_ok-push_key.ensures ∙ ap (λ (word : ℕ). c.loop-next.keys.items ++ keys_in (word ∷ [])) c.get.ensures
          ∙ ap (λ (keys : List ℕ). keys ++ keys_in (slice_index words next ∷ [])) c.loop-next.invariant.0
          ∙ sym (keys_next words c.loop-next.place next at.0 at.1 at.3),
      omega (arith, at.1),
    )

pub returns : goal.returns
returns c =
    let words : List ℕ = c.args.words.now in
    let all : keys_in words ≡ c.loop-next.keys.items = keys_end words c.loop-next.place c.loop-next.invariant.1 c.in_default.ensures.next ∙ sym c.loop-next.invariant.0 in
    subst (AreSortedKeys words) (sym c.from_vec.ensures)
    (record { same = subst (λ (keys : List ℕ). IsPermutation keys c.sort.new.self.items) (sym all) c.in_ok-sort.ensures.permutation; sorted = c.in_ok-sort.ensures.sorted })
