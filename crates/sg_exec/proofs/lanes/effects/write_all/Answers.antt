use Rattle.std.proofs.Common.{◌≡◌, refl, ℕ, ◌<◌, length, get_or, arith}
use Rattle.std.specs.Prelude.{Some, slice_get}
use Rattle.std.proofs.lemmas.Option.{slice_get-get_or}
use Rattle.sg_exec.specs.declared.lanes.moment.Moment.{Moment}
use Rattle.sg_exec.specs.steps.Rows.{item_in}
use Rattle.sg_exec.specs.steps.Accessing.{own_write_at, IsWritten}
use Rattle.sg_exec.proofs.Added.{keep_none, keep_more, made_none, made_more, made_end}
use Rattle.sg_exec.proofs.lanes.effects.write_all.Goals as goal

pub loop-k-init : goal.loop-k-init
loop-k-init c = record { stores = keep_none c.args.moments.now; made = made_none _ c.args.columns.now.on c.args.moments.now }

pub loop-k-preserved : goal.loop-k-preserved
loop-k-preserved c =
    let before : Moment = get_or c.loop-k.moments c.loop-k.k c.index-moments-k.result in
    let low : c.loop-k.k < length c.loop-k.moments = omega (arith, c.loop-k.invariant.stores.long, c.requires.room) in
    let here : slice_get c.loop-k.moments c.loop-k.k ≡ Some before = slice_get-get_or c.loop-k.moments c.loop-k.k c.index-moments-k.result low in
    record {
      stores = keep_more c.loop-k.k c.args.moments.now c.loop-k.moments before c.own_write_if.new.self low here c.loop-k.invariant.stores c.own_write_if.ensures.stores;
      made = made_more (λ k before. IsWritten (own_write_at c.args.layout c.args.field (item_in c.args.regs.now 0 k c.args.from) before) before) c.args.columns.now.on c.loop-k.k c.args.moments.now c.loop-k.moments before c.own_write_if.new.self low here c.loop-k.invariant.made
          (c.if-not-own_write_if.ensures.made refl);
    }

pub returns-then-not-own_write_if-clause-stores : goal.returns-then-not-own_write_if-clause-stores
returns-then-not-own_write_if-clause-stores c =
    let before : Moment = get_or c.loop-k.moments c.loop-k.k c.index-moments-k.result in
    let low : c.loop-k.k < length c.loop-k.moments = omega (arith, c.loop-k.invariant.stores.long, c.requires.room) in
    keep_more c.loop-k.k c.args.moments.now c.loop-k.moments before c.own_write_if.new.self low (slice_get-get_or c.loop-k.moments c.loop-k.k c.index-moments-k.result low) c.loop-k.invariant.stores c.own_write_if.ensures.stores

pub returns : goal.returns
returns c = record {
  stores = c.loop-k.invariant.stores;
  made = λ told.
      made_end (λ k before. IsWritten (own_write_at c.args.layout c.args.field (item_in c.args.regs.now 0 k c.args.from) before) before) c.args.columns.now.on c.loop-k.k c.args.moments.now c.loop-k.moments c.args.columns.now.long (omega arith)
      (omega (arith, c.requires.room)) c.loop-k.invariant.stores.long c.loop-k.invariant.made;
}
