use Rattle.std.proofs.Common.{sym, ap, ◌∙◌, ◌++◌, ◌∷◌, [], ◌<◌, take, length, arith, append_assoc}
use Rattle.sg_links.specs.Lists.{list_of}
use Rattle.sg_pool.proofs.FreeLists.{listed, take_next, something}
use Rattle.sg_pool.proofs.free_list.push_list.Goals as goal
use Rattle.sg_pool.proofs.free_list.push_list.Goals.{in-Some+in_ok-push-in-Some, in-None}

pub next-next-requires : goal.next-next-requires
next-next-requires c = listed c.args.free.now c.loop-place._place c.in-Some.number c.requires.there (sym c.loop-place.invariant.at ∙ c.in-Some.is)

pub loop-place-preserved : goal.loop-place-preserved
loop-place-preserved c =
    elim c.match-next.branch [
      | in-Some+in_ok-push-in-Some w ↦
          let at = sym c.loop-place.invariant.at ∙ w.in-Some.is in
          let more = take_next (list_of c.args.free.now 0) c.loop-place._place w.in-Some.number at in
          record {
            at = w.next-is ∙ w.next-next.ensures 0 c.loop-place._place at;
            pushed = w.numbers-is ∙ w.in_ok-push-in-Some.ensures.ok ∙ ap (λ numbers. numbers ++ w.in-Some.number ∷ []) c.loop-place.invariant.pushed
                ∙ append_assoc c.args.numbers.now (take c.loop-place._place (list_of c.args.free.now 0)) (w.in-Some.number ∷ [])
                ∙ ap (λ list. c.args.numbers.now ++ list) (sym more);
          }
      | in-None w ↦
          let below : c.loop-place._place < length (list_of c.args.free.now 0) = omega (arith, c.requires.within) in
          absurd (something (list_of c.args.free.now 0) c.loop-place._place below (sym c.loop-place.invariant.at ∙ w.in-None.is))
    ]
