-- Nodes by their numbers, from 1.
use Rattle.std.proofs.Common.{◌≡◌, ℕ, ◌-◌, ◌<◌, List, length, refl, sym, ap, ◌∙◌}
use Rattle.std.specs.Prelude.{Option, Some, None, slice_get}
use Rattle.std.proofs.lemmas.Option.{slice_get_within}
use Rattle.sg_layout.specs.declared.shape.Kind.{Kind}
use Rattle.sg_layout.specs.declared.shape.Kind.TheVariants.{Dense}
use Rattle.sg_layout.specs.declared.shape.NodeShape.{NodeShape}
use Rattle.sg_layout.specs.Live.{kind_or, kind_at}

-- a node of a kind that isn't dense is there
pub node_there : (nodes : List NodeShape) (number : ℕ) (kind : Kind) → kind_at nodes number ≡ kind → (kind ≡ Dense → ⊥)
    → (node : NodeShape) × (slice_get nodes (number - 1) ≡ Some node) × (node.kind ≡ kind)
node_there nodes number kind is sparse = go (slice_get nodes (number - 1)) refl
  where
    go : (o : Option NodeShape) → slice_get nodes (number - 1) ≡ o → (node : NodeShape) × (slice_get nodes (number - 1) ≡ Some node) × (node.kind ≡ kind)
    go None e = absurd (sparse (sym is ∙ ap kind_or e))
    go (Some node) e = (node, e, sym (ap kind_or e) ∙ is)

pub inside_nodes : (nodes : List NodeShape) (number : ℕ) (kind : Kind) → kind_at nodes number ≡ kind → (kind ≡ Dense → ⊥) → number - 1 < length nodes
inside_nodes nodes number kind is sparse = let node = node_there nodes number kind is sparse in slice_get_within nodes (number - 1) node.0 node.1
