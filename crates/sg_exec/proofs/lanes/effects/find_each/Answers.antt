use Rattle.std.proofs.Common.{◌≡◌, ℕ, ◌<◌, List, length, get_or, refl, ap, sym, ◌∙◌, subst, arith}
use Rattle.std.specs.Prelude.{IfSome, Some, slice_get}
use Rattle.std.proofs.lemmas.Option.{slice_get-get_or}
use Rattle.sg_store.specs.StoreWords.{StoreWords}
use Rattle.sg_exec.specs.declared.lanes.moment.Moment.{Moment}
use Rattle.sg_exec.specs.steps.Nearby.{IsNear}
use Rattle.sg_exec.proofs.Added.{set_itself}
use Rattle.sg_exec.proofs.lanes.effects.find_each.Goals as goal

pub loop-k-init : goal.loop-k-init
loop-k-init c = record { same = refl; near = tt }

pub find_if-near-requires : goal.find_if-near-requires
find_if-near-requires c =
    let moment : Moment = get_or c.loop-k.moments c.loop-k.k c.index-moments-k.result in
    let here : slice_get c.args.moments.now c.loop-k.k ≡ Some moment =
    ap (λ (ms : List Moment). slice_get ms c.loop-k.k) (sym c.loop-k.invariant.same) ∙ slice_get-get_or c.loop-k.moments c.loop-k.k c.index-moments-k.result (omega (arith, ap length c.loop-k.invariant.same, c.requires.room)) in
    record { near = subst (λ (ss : List StoreWords). IfSome c.loop-k.near (IsNear ss c.args.layout)) (sym (c.requires.over c.loop-k.k moment here)) c.loop-k.invariant.near }

pub loop-k-preserved : goal.loop-k-preserved
loop-k-preserved c =
    let moment : Moment = get_or c.loop-k.moments c.loop-k.k c.index-moments-k.result in
    let low : c.loop-k.k < length c.loop-k.moments = omega (arith, ap length c.loop-k.invariant.same, c.requires.room) in
    let here : slice_get c.args.moments.now c.loop-k.k ≡ Some moment =
    ap (λ (ms : List Moment). slice_get ms c.loop-k.k) (sym c.loop-k.invariant.same) ∙ slice_get-get_or c.loop-k.moments c.loop-k.k c.index-moments-k.result low in
    record {
      same = set_itself c.loop-k.moments c.loop-k.k c.index-moments-k.result c.find_if-near.new.self c.find_if-near.ensures.stays low ∙ c.loop-k.invariant.same;
      near = subst (λ (ss : List StoreWords). IfSome c.find_if-near.result (IsNear ss c.args.layout)) (c.requires.over c.loop-k.k moment here) c.find_if-near.ensures.near;
    }

pub returns : goal.returns
returns c = c.loop-k.invariant.same
