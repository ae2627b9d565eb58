-- A node that isn't dense is there, and its pool's stock is fresh for its links.
use Rattle.std.proofs.Common.{◌≡◌, ℕ, suc, ◌-◌, inl, inr, List, refl, sym, ap, ◌∙◌, arith}
use Rattle.std.specs.Prelude.{Option, Some, None, slice_index, slice_get}
use Rattle.std.specs.List.{Contains}
use Rattle.std.proofs.lemmas.Bool.{cases_lt, cases_eq}
use Rattle.std.proofs.lemmas.List.Elements.{Contains-get_or}
use Rattle.sg_layout.specs.declared.shape.Kind.{Kind}
use Rattle.sg_layout.specs.declared.shape.NodeShape.{NodeShape}
use Rattle.sg_layout.specs.declared.shape.Kind.TheVariants.{Dense}
use Rattle.sg_layout.specs.Live.{kind_or, kind_at}
use Rattle.sg_pool.specs.Numbers.{PoolNumbers, IsStock}
use Rattle.sg_words.specs.Stocks.{IsFreshStock}
use Rattle.sg_activate.proofs.TakenNumbers.{contains_word}

-- a node of a kind that isn't dense is there
pub node_there : (nodes : List NodeShape) (number : ℕ) (kind : Kind) → kind_at nodes number ≡ kind → (kind ≡ Dense → ⊥)
    → (node : NodeShape) × (slice_get nodes (number - 1) ≡ Some node) × (node.kind ≡ kind)
node_there nodes number kind is sparse = go (slice_get nodes (number - 1)) refl
  where
    go : (o : Option NodeShape) → slice_get nodes (number - 1) ≡ o → (node : NodeShape) × (slice_get nodes (number - 1) ≡ Some node) × (node.kind ≡ kind)
    go None e = absurd (sparse (sym is ∙ ap kind_or e))
    go (Some node) e = (node, e, sym (ap kind_or e) ∙ is)

-- a pool's stock is fresh for links that hold none of its numbers
pub fresh_stock : (pool : PoolNumbers) (links stock : List ℕ) → IsStock pool stock
    → ((number : ℕ) → Contains stock number → Contains links (suc number) → ⊥) → IsFreshStock links stock
fresh_stock pool links stock is unlinked = record {
  distinct = λ t u below below' same. elim (cases_lt t u) [
    | inl before ↦ absurd (is.once t u 0 before below' same)
    | inr after ↦ elim (cases_eq t u) [
      | inl here ↦ here
      | inr other ↦ absurd (is.once u t 0 (omega arith) below (sym same))
    ]
  ];
  unlinked = λ t i below same. unlinked (slice_index stock t) (Contains-get_or stock t 0 below) (contains_word links i (slice_index stock t) (let e : slice_index links i ≡ suc (slice_index stock t) = omega arith in e));
}
