use Rattle.std.proofs.Common.{◌≡◌, suc, ◌++◌, drop}
use Rattle.std.specs.Prelude.{string_bytes}
use Rattle.sg_flat.specs.declared.state.FlatLayout.{FlatLayout}
use Rattle.sg_store.specs.StandsFor.{StandsFor}
use Rattle.sg_image.specs.Counts.{nodes_text}
use Rattle.sg_image.proofs.counts.push_nodes.Given as goal

abbrev pub invariant-loop-index : goal.invariant-loop-index
invariant-loop-index l =
    (flat : FlatLayout) → StandsFor l.store flat →
    string_bytes l.text ++ nodes_text l.store.shape flat.active (suc l.index) (drop l.index l.store.shape.nodes)
    ≡ string_bytes l.initial.text ++ nodes_text l.store.shape flat.active 1 l.store.shape.nodes
