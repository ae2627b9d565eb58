use Rattle.std.proofs.Common.{◌≡◌, ◌++◌, List, take, get_or, refl, sym, ap, ◌∙◌, subst, arith}
use Rattle.std.specs.Prelude.{All, Contains}
use Rattle.std.proofs.lemmas.List.Elements.{Contains-get_or}
use Rattle.std.proofs.lemmas.List.{take_all}
use Rattle.sg_flat.specs.declared.effects.Write.{Write}
use Rattle.sg_exec.specs.declared.results.sums.Sum.{Sum}
use Rattle.sg_exec.specs.steps.Landing.{Lands}
use Rattle.sg_exec.specs.steps.Passes.{IsSumOf, into_field}
use Rattle.sg_exec.specs.steps.Made.{HasRow, summed, words_of}
use Rattle.sg_exec.proofs.StoresLanded.{lands_nothing, lands_more}
use Rattle.sg_exec.proofs.TreesKept.{trees_itself, trees_then, row_over, keeps_itself}
use Rattle.sg_exec.proofs.SumsLanded.{summed_next, all_next, pairs_before}
use Rattle.sg_exec.proofs.results.commit.land_sums.Goals as goal

pub loop-sum-init : goal.loop-sum-init
loop-sum-init c = record {
  trees = trees_itself c.args.stores.now.items;
  fresh = λ layout field apart. keeps_itself c.args.stores.now.items layout field;
  lands = λ writes are. lands_nothing c.args.stores.now.items;
  kept = λ layout none. refl;
}

pub land_sum-requires : goal.land_sum-requires
land_sum-requires c =
    let sums = c.args.sums.now in
    let sum = c.sum-item.result in
    let row = c.requires.rows c.loop-sum.sum-index c.sum-item.result (omega arith) in
    record { row = row_over c.args.stores.now.items c.loop-sum.stores.items sum c.loop-sum.invariant.trees (subst (λ (it : Sum). HasRow c.args.stores.now.items it) (sym c.sum-item.is) row) }

pub loop-sum-preserved : goal.loop-sum-preserved
loop-sum-preserved c =
    let olds = c.args.stores.now.items in
    let mids = c.loop-sum.stores.items in
    let news = c.land_sum.new.stores.items in
    let sums = c.args.sums.now in
    let i = c.loop-sum.sum-index in
    let sum = c.sum-item.result in
    let same : c.sum-item.result ≡ get_or c.args.sums.now c.loop-sum.sum-index c.sum-item.result = c.sum-item.is in
    record {
      trees = trees_then olds mids news c.loop-sum.invariant.trees c.land_sum.ensures.trees;
      fresh = λ layout field apart.
          let both = all_next (λ (it : Sum). layout ≡ it.layout → field ≡ it.field → ⊥) sums i sum (omega arith) apart in
          c.land_sum.ensures.fresh olds layout field (subst (λ (it : Sum). layout ≡ it.layout → field ≡ it.field → ⊥) (sym same) both.1) (c.loop-sum.invariant.fresh layout field both.0);
      lands = λ writes are.
          let next = summed_next sums i sum writes (omega arith) in
          let here = subst (λ (it : Sum). IsSumOf c.args.stores.now.items it.layout it.field (words_of it) writes) (sym same) (are.each i sum (omega arith)) in
          let apart = pairs_before (λ (one other : Sum). one.layout ≡ other.layout → one.field ≡ other.field → ⊥) sums i sum (omega arith) are.apart in
          let before : All (λ (it : Sum). c.sum-item.result.layout ≡ it.layout → c.sum-item.result.field ≡ it.field → ⊥) (take c.loop-sum.sum-index c.args.sums.now) =
          λ k d below. λ layouts fields. apart k d below (sym layouts ∙ ap (λ (it : Sum). it.layout) same) (sym fields ∙ ap (λ (it : Sum). it.field) same) in
          subst (λ (ws : List Write). Lands olds news ws) (sym (next ∙ ap (λ (it : Sum). summed (take i sums) writes ++ into_field it.layout it.field writes) (sym same)))
          (lands_more olds mids news (summed (take i sums) writes) (into_field sum.layout sum.field writes) (c.loop-sum.invariant.lands writes are)
          (c.land_sum.ensures.lands olds writes c.loop-sum.invariant.trees here (c.loop-sum.invariant.fresh sum.layout sum.field before)));
      kept = λ layout none.
          c.land_sum.ensures.kept layout (none sum (subst (λ (it : Sum). Contains c.args.sums.now it) (sym same) (Contains-get_or sums i sum (omega arith)))) ∙ c.loop-sum.invariant.kept layout none;
    }

pub returns-clause-lands : goal.returns-clause-lands
returns-clause-lands c = λ writes are.
    subst (λ (list : List Sum). Lands c.args.stores.now.items c.loop-sum.stores.items (summed list writes)) (take_all c.loop-sum.sum-index c.args.sums.now (omega arith)) (c.loop-sum.invariant.lands writes are)
