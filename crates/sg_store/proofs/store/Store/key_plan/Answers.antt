use Rattle.std.proofs.Common.{length, ap, ◌∙◌, arith}
use Rattle.sg_store.specs.StoreWords.{StoreWords}
use Rattle.sg_store.proofs.HashLevel.{read_node, plan_of_node}
use Rattle.sg_store.proofs.store.Store.key_plan.Goals as goal

pub bounds-as_slice-index : goal.bounds-as_slice-index
bounds-as_slice-index g c =
    omega (arith, c.requires.0, ap length c.as_slice.ensures.value, ap (λ (s : StoreWords). length s.nodes) c.self.view_is)

pub plan_keys-requires : goal.plan_keys-requires
plan_keys-requires g c =
    c.requires.1 c.index-as_slice-index.result
    (read_node c.as_slice.result.now c.args.self.now.nodes c.args.index c.index-as_slice-index.result (c.as_slice.ensures.value ∙ ap (λ (s : StoreWords). s.nodes) c.self.view_is) c.requires.0 c.index-as_slice-index.is)

pub returns : goal.returns
returns g c =
    plan_of_node c.args.self.now.nodes c.args.index c.index-as_slice-index.result c.args.cap c.args.slots.now g.count c.plan_keys.result
    (read_node c.as_slice.result.now c.args.self.now.nodes c.args.index c.index-as_slice-index.result (c.as_slice.ensures.value ∙ ap (λ (s : StoreWords). s.nodes) c.self.view_is) c.requires.0 c.index-as_slice-index.is)
    c.plan_keys.ensures
