use Rattle.std.proofs.Common.{ℕ, ◌-◌, length, sym, subst, arith}
use Rattle.std.specs.Prelude.{IsTrue, slice_index}
use Rattle.sg_pool.specs.Numbers.{is_live_number}
use Rattle.sg_store.specs.steps.Cuts.{IsCut}
use Rattle.sg_store.proofs.LinksCut.{cut_further, cut_is_live, cut_ends}
use Rattle.sg_store.proofs.WordsInUse.{cut_to, cut_all}
use Rattle.sg_store.proofs.cutting.give_back_cut.Goals as goal

pub give_back_one-requires-clause-live : goal.give_back_one-requires-clause-live
give_back_one-requires-clause-live c =
    let at = c.in-Some.ensures.next in
    let cut = cut_to c.args.old.now c.args.new.now c.loop-next.slot c.in-Some.next c.args.pool.now c.loop-next.pool at.0 at.3 c.loop-next.invariant.0 in
    let live = cut_is_live c.args.old.now c.args.new.now c.in-Some.next c.args.pool.now c.loop-next.pool c.requires.linked c.requires.once cut at.2 in
    λ some none. subst (λ word. IsTrue (is_live_number c.loop-next.pool (word - 1))) (sym c.get.ensures) live

pub give_back_one-requires-clause-small : goal.give_back_one-requires-clause-small
give_back_one-requires-clause-small c = let at = c.in-Some.ensures.next in omega (arith, c.get.ensures, c.requires.small c.in-Some.next 0 at.1)

pub loop-next-preserved : goal.loop-next-preserved
loop-next-preserved c =
    let at = c.in-Some.ensures.next in
    let cut = cut_to c.args.old.now c.args.new.now c.loop-next.slot c.in-Some.next c.args.pool.now c.loop-next.pool at.0 at.3 c.loop-next.invariant.0 in
    let link : ℕ = slice_index c.args.old.now c.in-Some.next in
    let one : IsCut link (slice_index c.args.new.now c.in-Some.next) c.loop-next.pool c.give_back_one.new.pool =
    subst (λ word. IsCut word (slice_index c.args.new.now c.in-Some.next) c.loop-next.pool c.give_back_one.new.pool) c.get.ensures
    (subst (λ word. IsCut c.get.result word c.loop-next.pool c.give_back_one.new.pool) c.get-in-Some.ensures c.give_back_one.ensures) in
    (cut_further c.args.old.now c.args.new.now c.in-Some.next c.args.pool.now c.loop-next.pool c.give_back_one.new.pool cut one, omega (arith, at.1))

pub returns-clause-linked : goal.returns-clause-linked
returns-clause-linked c =
    let all = cut_all c.args.old.now c.args.new.now c.loop-next.slot c.args.pool.now c.loop-next.pool c.in_default.ensures.next c.loop-next.invariant.0 in
    cut_ends c.args.old.now c.args.new.now (length c.args.old.now) c.args.pool.now c.loop-next.pool (omega arith) c.requires.linked c.requires.once c.requires.stays all
