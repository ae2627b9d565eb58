-- Dense nodes, by the widths of a frame.
use Rattle.std.proofs.Common.{◌≡◌, ◌≢◌, ℕ, suc, ◌-◌, ◌<◌, List, length, refl, sym, ap, ◌∙◌, subst, arith, inl, inr, ◌⊎◌}
use Rattle.std.proofs.lemmas.Nat.{mul-add-lt}
use Rattle.std.proofs.lemmas.Option.{slice_get_cases}
use Rattle.sg_layout.specs.declared.shape.NodeShape.{NodeShape}
use Rattle.sg_layout.specs.declared.shape.Kind.{Kind}
use Rattle.sg_layout.specs.declared.shape.Kind.TheVariants.{Dense, Bitmasked, Pointer, Hash, Dynamic}
use Rattle.sg_layout.specs.Live.{kind_at}
use Rattle.sg_store.specs.declared.frame.NodeWidths.{NodeWidths}
use Rattle.sg_store.specs.StoreWords.{StoreWords}
use Rattle.sg_store.specs.WellFormed.{IsWellFormed}
use Rattle.sg_store.specs.Spots.{width_after}
use Rattle.sg_store.specs.DenseNodes.{spot_over, IsDenseNode}
use Rattle.sg_store.specs.steps.Widths.{IsWidths}
use Rattle.sg_store.proofs.Reached.{kind_there}
use Rattle.sg_store.proofs.SpotWidths.{stepping_of, spot_within}

-- a node has the kind of its widths
kind_by : (nodes : List NodeShape) (index : ℕ) (widths : NodeWidths) → IsWidths nodes index widths → index < length nodes → kind_at nodes (suc index) ≡ widths.kind
kind_by nodes index widths is more = elim (slice_get_cases nodes index).1 [
  | inl there ↦ kind_there nodes index there.0 there.2 ∙ sym (is.kind_is there.0 there.2)
  | inr past ↦ absurd (omega (arith, more, past.0))
]

-- each other kind isn't dense
other_kind : (kind : Kind) → (kind ≡ Bitmasked) ⊎ ((kind ≡ Pointer) ⊎ ((kind ≡ Hash) ⊎ (kind ≡ Dynamic))) → kind ≢ Dense
other_kind kind (inl is) = λ dense. cc (sym is ∙ dense)
other_kind kind (inr (inl is)) = λ dense. cc (sym is ∙ dense)
other_kind kind (inr (inr (inl is))) = λ dense. cc (sym is ∙ dense)
other_kind kind (inr (inr (inr is))) = λ dense. cc (sym is ∙ dense)

pub other_node : (store : StoreWords) (index : ℕ) (widths : NodeWidths) → IsWidths store.shape.nodes index widths → index < length store.shape.nodes → (widths.kind ≡ Bitmasked) ⊎ ((widths.kind ≡ Pointer) ⊎ ((widths.kind ≡ Hash) ⊎ (widths.kind ≡ Dynamic))) → kind_at store.shape.nodes (suc index) ≢ Dense
other_node store index widths is more other = λ dense. other_kind widths.kind other (sym (kind_by store.shape.nodes index widths is more) ∙ dense)

pub dense_node : (store : StoreWords) (index : ℕ) (widths : NodeWidths) → IsWellFormed store → IsWidths store.shape.nodes index widths → index < length store.shape.nodes → widths.kind ≡ Dense → IsDenseNode store index widths.size
dense_node store index widths well is more dense = record {
  within = more;
  dense = kind_by store.shape.nodes index widths is more ∙ dense;
  size_is = is.size_is;
  room = λ spot here at.
      let wide : width_after store.shape.nodes spot.node ≡ widths.before = ap (width_after store.shape.nodes) here ∙ sym is.before_is in
      omega (arith, mul-add-lt spot.slot widths.size (widths.size - 1) widths.before (omega (arith, at.1.within, wide)) (omega (arith, is.some_size)), is.some_size, is.room);
  leads = λ spot path offset here along low.
      let mine : IsWidths store.shape.nodes spot.node widths = subst (λ (i : ℕ). IsWidths store.shape.nodes i widths) (sym here) is in
      spot_within store spot path offset widths (spot_over spot widths.size offset) mine (stepping_of store spot path offset widths well along (omega (arith, here, more)) mine low) dense refl;
}
