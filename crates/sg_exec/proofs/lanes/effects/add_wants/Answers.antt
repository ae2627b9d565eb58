use Rattle.std.proofs.Common.{◌≡◌, refl, ℕ, ◌<◌, List, length, map, get_or, ◌∙◌, subst, arith}
use Rattle.std.specs.Prelude.{Some, slice_get}
use Rattle.std.proofs.lemmas.Option.{slice_get-get_or}
use Rattle.sg_coord.specs.declared.coord.Coord.{Coord}
use Rattle.sg_exec.specs.declared.lanes.moment.Moment.{Moment}
use Rattle.sg_exec.specs.steps.Rows.{item_in}
use Rattle.sg_exec.specs.steps.Accessing.{coord_in, BecomesIf, IsWanted}
use Rattle.sg_exec.proofs.Added.{keep_none, keep_more, made_none, made_more, made_end}
use Rattle.sg_exec.proofs.Reading.{coord_parts, map_length}
use Rattle.sg_exec.proofs.lanes.effects.add_wants.Goals as goal

pub loop-k-init : goal.loop-k-init
loop-k-init c = record { stores = keep_none c.args.moments.now; made = made_none _ c.args.columns.now.on c.args.moments.now }

pub loop-k-preserved : goal.loop-k-preserved
loop-k-preserved c =
    let before : Moment = get_or c.loop-k.moments c.loop-k.k c.index-moments-k.result in
    let low : c.loop-k.k < length c.loop-k.moments = omega (arith, c.loop-k.invariant.stores.long, c.requires.room) in
    let here : slice_get c.loop-k.moments c.loop-k.k ≡ Some before = slice_get-get_or c.loop-k.moments c.loop-k.k c.index-moments-k.result low in
    let words : List ℕ = map (item_in c.args.regs.now 0 c.loop-k.k) c.args.index.now in
    let named : c.coord_from-at.result ≡ coord_in c.args.regs.now c.loop-k.k c.args.index.now =
    c.coord_from-at.ensures
    ∙ coord_parts words c.in-Some.n (get_or c.part_row.result c.loop-k.k 0) (get_or c.part_row-2.result c.loop-k.k 0) (get_or c.part_row-3.result c.loop-k.k 0) (c.in-Some.ensures ∙ map_length (item_in c.args.regs.now 0 c.loop-k.k) c.args.index.now) (c.part_row.ensures c.loop-k.k (omega arith)) (c.part_row-2.ensures c.loop-k.k (omega arith)) (c.part_row-3.ensures c.loop-k.k (omega arith)) in
    record {
      stores = keep_more c.loop-k.k c.args.moments.now c.loop-k.moments before c.want_if.new.self low here c.loop-k.invariant.stores c.want_if.ensures.stores;
      made = made_more (λ k. IsWanted (record { layout = c.args.layout; stmt = c.args.stmt; at = coord_in c.args.regs.now k c.args.index.now })) c.args.columns.now.on c.loop-k.k c.args.moments.now c.loop-k.moments before c.want_if.new.self low here c.loop-k.invariant.made
          (subst (λ (at : Coord). BecomesIf (IsWanted (record { layout = c.args.layout; stmt = c.args.stmt; at = at })) (get_or c.args.columns.now.on c.loop-k.k 0) before c.want_if.new.self) named (c.if-not-want_if.ensures.made refl));
    }

pub returns-then-not-want_if-clause-stores : goal.returns-then-not-want_if-clause-stores
returns-then-not-want_if-clause-stores c =
    let before : Moment = get_or c.loop-k.moments c.loop-k.k c.index-moments-k.result in
    let low : c.loop-k.k < length c.loop-k.moments = omega (arith, c.loop-k.invariant.stores.long, c.requires.room) in
    keep_more c.loop-k.k c.args.moments.now c.loop-k.moments before c.want_if.new.self low (slice_get-get_or c.loop-k.moments c.loop-k.k c.index-moments-k.result low) c.loop-k.invariant.stores c.want_if.ensures.stores

pub returns : goal.returns
returns c = record {
  stores = c.loop-k.invariant.stores;
  made = λ told.
      made_end (λ k. IsWanted (record { layout = c.args.layout; stmt = c.args.stmt; at = coord_in c.args.regs.now k c.args.index.now })) c.args.columns.now.on c.loop-k.k c.args.moments.now c.loop-k.moments c.args.columns.now.long (omega arith)
      (omega (arith, c.requires.room)) c.loop-k.invariant.stores.long c.loop-k.invariant.made;
}
