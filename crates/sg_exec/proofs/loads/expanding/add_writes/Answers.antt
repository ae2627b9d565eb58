use Rattle.std.proofs.Common.{List, [], ◌∷◌, ◌++◌, map, sym, ap, ◌∙◌, append_assoc, arith}
use Rattle.std.specs.List.{range_with_len}
use Rattle.std.proofs.lemmas.List.FromFn.{map-range_with_len_more}
use Rattle.sg_coord.specs.declared.coord.Coord.{Coord}
use Rattle.sg_flat.specs.declared.effects.Way.TheVariants.{Own}
use Rattle.sg_flat.specs.declared.effects.Write.{Write}
use Rattle.sg_exec.specs.Runs.{run_write}
use Rattle.sg_exec.proofs.loads.expanding.add_writes.Goals as goal

pub moved-requires : goal.moved-requires
moved-requires c = record {
  a_low = c.requires.a_low;
  b_low = c.requires.b_low;
  c_low = c.requires.c_low;
  a_high = omega (arith, c.requires.a_high, c.loop-k.auto.k-end, c.loop-k-test.true);
  b_high = omega (arith, c.requires.b_high, c.loop-k.auto.k-end, c.loop-k-test.true);
  c_high = omega (arith, c.requires.c_high, c.loop-k.auto.k-end, c.loop-k-test.true);
}

pub loop-k-preserved : goal.loop-k-preserved
loop-k-preserved c =
    let before = c.args.writes.now in
    let k = c.loop-k.k in
    let write = run_write c.args.layout c.args.place c.args.run in
    let made : Coord → Write = λ at. record { layout = c.args.layout; place = c.args.place; stmt = 0; at = at; way = Own; value = c.args.run.word } in
    let earlier = map write (range_with_len 0 k) in
    c.in_ok-push.ensures.ok
    ∙ ap (λ (at : Coord). c.loop-k.writes ++ made at ∷ []) c.moved.ensures
    ∙ ap (λ (writes : List Write). writes ++ write k ∷ []) c.loop-k.invariant
    ∙ append_assoc before earlier (write k ∷ [])
    ∙ ap (λ (writes : List Write). before ++ writes) (sym (map-range_with_len_more write 0 k k (omega arith)))
