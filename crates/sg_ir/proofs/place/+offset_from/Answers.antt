use Rattle.std.proofs.Common.{refl, ◌<◌, [], All, length, sym, ap, subst, arith}
use Rattle.std.proofs.lemmas.Result.{IfOk-weaker}
use Rattle.sg_ir.proofs.Extending.{rest-whole, rest-shorter, all_rest, all_named, extends-trans}
use Rattle.sg_ir.proofs.Walkable.{size-some}
use Rattle.sg_ir.proofs.Walking.{offset-done, offset-next}
use Rattle.sg_ir.proofs.Fronts.{front-kept, front-trans}
use Rattle.sg_ir.proofs.AddingPlaces.{offset-added-done, offset-added}
use Rattle.sg_ir.proofs.place.+offset_from.Goals as goal

pub returns-in_default : goal.returns-in_default
returns-in_default t c = record {
  front = front-kept _ _ _ _ refl refl;
  typed = λ shapes. offset-added-done shapes c.args.index.now c.args.high c.args.names.now c.args.block.now;
  computes = λ shapes. offset-done shapes c.args.node.now c.args.later.now c.args.axis c.args.index.now c.args.high c.args.names.now c.args.block.now c.in_default.len_below c.requires.high;
}

pub offset_from-requires : goal.offset_from-requires
offset_from-requires t c =
    let index = c.args.index.now in
    let shorter = rest-shorter index c.in-len1-up.len_at_least in
    let whole = ap length (rest-whole index) in
    let few = c.requires.few in
    let one = c.in_ok-low.ensures.computes [] in
    let two = c.in_ok-next.ensures.computes [] in
    let both = extends-trans [] _ _ _ _ _ _ one.extends two.extends in
    let rest = c.offset.new.names in (
      omega (arith, shorter, whole, c.decreases),
      (
        c.requires.walkable,
        (
          omega arith,
          (
            omega (arith, shorter, whole),
            (two.named, subst (All (λ r. r < length rest.regs)) (sym (rest-whole index)) (all_rest (λ r. r < length rest.regs) index (all_named c.args.names.now rest index both.grows c.requires.named))),
          ),
        ),
      ),
    )

pub returns : goal.returns
returns t c =
    let node = c.args.node.now in
    let later = c.args.later.now in
    let index = c.args.index.now in
    let size = size-some node later c.args.axis _ c.requires.walkable c.node_extent.ensures in
    record {
      front = front-trans _ _ _ _ _ _ c.in_ok-low.ensures.front (front-trans _ _ _ _ _ _ c.in_ok-next.ensures.front c.offset_from.ensures.front);
      computes =
          IfOk-weaker c.offset_from.result _ _ (λ to rest shapes. offset-next shapes node later c.args.axis _ index c.args.high c.in_ok-low.low c.in_ok-next.next to _ _ _ _ _ _ _ _ c.node_extent.ensures c.in-len1-up.len_at_least c.requires.high c.requires.named (c.in_ok-low.ensures.computes shapes) (c.in_ok-next.ensures.computes shapes) (rest shapes)) c.offset_from.ensures.computes;
      typed =
          IfOk-weaker c.offset_from.result _ _ (λ to rest shapes. offset-added shapes _ index c.args.high c.in_ok-low.low c.in_ok-next.next to _ _ _ _ _ _ _ _ size c.in-len1-up.len_at_least c.requires.high c.requires.named (c.in_ok-low.ensures.computes []).extends.grows (c.in_ok-low.ensures.typed shapes) c.in_ok-next.ensures.puts (rest shapes)) c.offset_from.ensures.typed;
    }
