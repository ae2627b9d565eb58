use Rattle.std.proofs.Common.{◌≡◌, ◌+◌, ℕ, List, get_or, drop, sym, ap, ◌∙◌, arith}
use Rattle.std.specs.Prelude.{slice_get}
use Rattle.sg_links.specs.Lists.{Lists, list_of}
use Rattle.sg_pool.proofs.FreeLists.{list_there, many_there}
use Rattle.sg_pool.proofs.Taken.{taken_more, left_more}
use Rattle.sg_pool.proofs.free_list.pop_taken.Goals as goal

pub is_first-requires : goal.is_first-requires
is_first-requires c = many_there c.args.free.now c.loop-number.free _ c.requires c.loop-number.invariant.left

pub pop_front-requires : goal.pop_front-requires
pop_front-requires c = many_there c.args.free.now c.loop-number.free _ c.requires c.loop-number.invariant.left

pub loop-number-preserved : goal.loop-number-preserved
loop-number-preserved c =
    let i : ℕ = c.loop-number.gone in
    let list : List ℕ = list_of c.args.free.now 0 in
    let first = c.is_first.ensures c.if-not-is_first.false in
    let list_is : list_of c.loop-number.free 0 ≡ drop i list = ap (λ (j : Lists). list_of j 0) c.loop-number.invariant.left ∙ list_there c.args.free.now (drop i list) c.requires in
    record {
      counted = ap (λ n. n + 1) c.loop-number.invariant.counted;
      same = taken_more list c.args.taken.now i _ c.loop-number.invariant.same (ap (λ (ys : List ℕ). slice_get ys 0) (sym list_is) ∙ first)
          (omega (arith, c.loop-number.invariant.counted, c.loop-number-test.true)) (ap (λ n. get_or c.args.taken.now n 0) (sym c.loop-number.invariant.counted));
      left = left_more c.args.free.now c.loop-number.free c.pop_front.new.self i _ c.requires c.loop-number.invariant.left first c.pop_front.ensures.left;
    }
