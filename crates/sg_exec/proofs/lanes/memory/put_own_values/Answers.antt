use Rattle.std.proofs.Common.{◌≡◌, ℕ, ◌<◌, List, length, get_or, refl, ap, sym, ◌∙◌, subst, arith}
use Rattle.std.specs.Prelude.{IfSome, Some, slice_get}
use Rattle.std.proofs.lemmas.Option.{slice_get-get_or}
use Rattle.sg_store.specs.StoreWords.{StoreWords}
use Rattle.sg_exec.specs.declared.lanes.moment.Moment.{Moment}
use Rattle.sg_exec.specs.steps.Machines.{IsStoreOf}
use Rattle.sg_exec.specs.steps.Accessing.{IsOwnValue}
use Rattle.sg_exec.proofs.EachLane.{are_none, are_more}
use Rattle.sg_exec.proofs.Rows.{put_so}
use Rattle.sg_exec.proofs.Added.{set_itself, own_value_at}
use Rattle.sg_exec.proofs.lanes.memory.put_own_values.Goals as goal

pub loop-k-init : goal.loop-k-init
loop-k-init c = record { same = c.find_cells.ensures; words = are_none _ _ refl }

pub own_value_if-requires : goal.own_value_if-requires
own_value_if-requires c =
    let moment : Moment = get_or c.loop-k.moments c.loop-k.k c.index-moments-k.result in
    let here : slice_get c.args.moments.now c.loop-k.k ≡ Some moment =
    ap (λ (ms : List Moment). slice_get ms c.loop-k.k) (sym c.loop-k.invariant.same) ∙ slice_get-get_or c.loop-k.moments c.loop-k.k c.index-moments-k.result (omega (arith, ap length c.loop-k.invariant.same, c.requires.room)) in
    record { known = subst (λ (ss : List StoreWords). IfSome c.store_of-known.result (λ known. IsStoreOf ss known.layout known.store.now)) (sym (c.requires.over c.loop-k.k moment here)) c.store_of-known.ensures }

pub loop-k-preserved : goal.loop-k-preserved
loop-k-preserved c =
    let moment : Moment = get_or c.loop-k.moments c.loop-k.k c.index-moments-k.result in
    let low : c.loop-k.k < length c.loop-k.moments = omega (arith, ap length c.loop-k.invariant.same, c.requires.room) in
    let here : slice_get c.args.moments.now c.loop-k.k ≡ Some moment =
    ap (λ (ms : List Moment). slice_get ms c.loop-k.k) (sym c.loop-k.invariant.same) ∙ slice_get-get_or c.loop-k.moments c.loop-k.k c.index-moments-k.result low in
    record {
      same = set_itself c.loop-k.moments c.loop-k.k c.index-moments-k.result c.own_value_if.new.moment c.own_value_if.ensures.stays low
          ∙ c.loop-k.invariant.same;
      words = are_more _ c.loop-k.k c.loop-k.words c.own_value_if.result (omega arith) c.loop-k.invariant.words
          (λ on. own_value_at c.args.places.now.stores c.args.moments.now c.args.layout c.args.field c.loop-k.k c.own_value_if.result moment here (c.requires.over c.loop-k.k moment here) (c.own_value_if.ensures.value on));
    }

pub returns : goal.returns
returns c =
    let Holds : ℕ → ℕ → Type 0 = IsOwnValue c.args.places.now.stores c.args.moments.now c.args.layout c.args.field in
    record {
      same = c.loop-k.invariant.same;
      put = put_so _ Holds _ _ _ _ _ (λ k word small on is. subst (Holds k) (sym is) (c.loop-k.invariant.words.each k (omega (arith, small)) on)) c.put_row.ensures;
    }
