use Rattle.std.proofs.Common.{◌-◌, sym, subst, arith}
use Rattle.sg_store.specs.steps.Keying.{CanFillKeys}
use Rattle.sg_store.proofs.Keyed.{can_fill}
use Rattle.sg_store.proofs.hash.plan_keys.Goals as goal

pub fill_keys-taken-requires : goal.fill_keys-taken-requires
fill_keys-taken-requires g c =
    let can = can_fill c.args.kept.now c.args.cap (c.args.cap - c.live.result) g.count c.args.slots.now c.in_ok-stock.stock c.requires c.in_ok-stock.ensures.can c.in_ok-stock.ensures.enough
    (omega (arith, c.live.ensures, c.requires.within_cap)) in
    subst (λ ks. CanFillKeys ks c.in_ok-links.links c.as_slice.result.now (c.args.cap - c.live.result) c.args.slots.now g.count) (sym c.in_ok-keys.ensures)
    (subst (λ ls. CanFillKeys c.args.kept.now.keys ls c.as_slice.result.now (c.args.cap - c.live.result) c.args.slots.now g.count) (sym c.in_ok-links.ensures)
    (subst (λ s. CanFillKeys c.args.kept.now.keys c.args.kept.now.links s (c.args.cap - c.live.result) c.args.slots.now g.count) (sym c.as_slice.ensures) can))
