use Rattle.std.proofs.Common.{refl, ◌<◌, [], All, length, sym, ap, subst, arith}
use Rattle.std.proofs.lemmas.Result.{IfOk-weaker}
use Rattle.sg_coord.specs.Bounds.{bounds_of}
use Rattle.sg_ir.specs.Places.{extents_in}
use Rattle.sg_ir.proofs.Extending.{rest-whole, rest-shorter, all_rest, all_named}
use Rattle.sg_ir.proofs.Walking.{checks-done, checks-next}
use Rattle.sg_ir.proofs.Fronts.{front-kept, front-trans}
use Rattle.sg_ir.proofs.AddingPlaces.{checks-added-done, checks-added}
use Rattle.sg_ir.proofs.place.+check_from.Goals as goal

pub returns-in_default : goal.returns-in_default
returns-in_default t c = record {
  front = front-kept _ _ _ _ refl refl;
  typed = λ shapes. checks-added-done shapes (bounds_of c.args.extents) c.args.axis c.args.index.now c.args.place c.args.names.now c.args.block.now;
  reaches = λ shapes. checks-done shapes _ c.args.index.now c.args.place c.args.names.now c.args.block.now c.in_default.len_below c.requires.place;
}

pub check_from-requires : goal.check_from-requires
check_from-requires t c =
    let index = c.args.index.now in
    let shorter = rest-shorter index c.in-len1-up.len_at_least in
    let whole = ap length (rest-whole index) in
    let few = c.requires.few in
    let reached = c.in_ok-next.ensures.reaches [] in (
      omega (arith, shorter, whole, c.decreases),
      (
        omega (arith, shorter, whole),
        (reached.named, subst (All (λ r. r < length c.checked.new.names.regs)) (sym (rest-whole index)) (all_rest (λ r. r < length c.checked.new.names.regs) index (all_named c.args.names.now c.checked.new.names index reached.extends.grows c.requires.named))),
      ),
    )

pub returns : goal.returns
returns t c =
    let index = c.args.index.now in
    let bounds = bounds_of c.args.extents in
    record {
      front = front-trans _ _ _ _ _ _ c.in_ok-next.ensures.front c.check_from.ensures.front;
      reaches =
          IfOk-weaker c.check_from.result _ _ (λ to rest shapes. checks-next shapes (extents_in bounds) c.args.axis _ index c.args.place c.in_ok-next.next to _ _ _ _ _ _ c.extent_of.ensures c.in-len1-up.len_at_least c.requires.named (c.in_ok-next.ensures.reaches shapes) (rest shapes)) c.check_from.ensures.reaches;
      typed =
          IfOk-weaker c.check_from.result _ _ (λ to rest shapes. checks-added shapes bounds c.args.axis _ index c.args.place c.in_ok-next.next to _ _ _ _ _ _ c.args.extents.a_some c.args.extents.b_some c.args.extents.c_some c.extent_of.ensures c.in-len1-up.len_at_least c.requires.named c.in_ok-next.ensures.puts (rest shapes)) c.check_from.ensures.typed;
    }
