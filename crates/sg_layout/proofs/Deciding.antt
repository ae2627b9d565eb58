-- The last node that isn't dense.
use Rattle.std.proofs.Common.{◌≡◌, ℕ, zero, suc, ◌-◌, ◌<◌, ◌≤◌, Bool, true, false, ltb, cond, List, [], ◌∷◌, length, drop, refl, sym, ap, ◌∙◌, subst, arith, inl, inr}
use Rattle.std.specs.List.{slice_get}
use Rattle.std.proofs.lemmas.Bool.{and_from, cases_Bool, cond-true, cond-false, ltb-true, ltb-false}
use Rattle.sg_layout.specs.declared.shape.NodeShape.{NodeShape}
use Rattle.sg_layout.specs.declared.shape.Shape.{Shape}
use Rattle.sg_layout.specs.Live.{kind_or, kind_at}
use Rattle.sg_layout.specs.Closure.{is_dense, last_sparse}
use Rattle.sg_layout.specs.Rules.{all_dense}
use Rattle.sg_layout.specs.PathLaws.{NoneDecides, LastDecides}
use Rattle.sg_layout.proofs.Filled.{no_sparse}

-- the number of the last node, from that of the later ones and whether this one is dense
abbrev number_of : ℕ → Bool → ℕ
number_of later dense = cond (ltb 0 later) (suc later) (cond dense 0 1)

none_of : (later : ℕ) (dense : Bool) → number_of later dense ≡ 0 → (later ≡ 0) × (dense ≡ true)
none_of later true none = elim (cases_Bool (ltb 0 later)) [
  | inl some ↦ absurd (omega (arith, sym (cond-true (ltb 0 later) (suc later) 0 some) ∙ none))
  | inr least ↦ (let low : later ≤ 0 = ltb-false 0 later least in (omega arith, refl))
]
none_of later false none = elim (cases_Bool (ltb 0 later)) [
  | inl some ↦ absurd (omega (arith, sym (cond-true (ltb 0 later) (suc later) 1 some) ∙ none))
  | inr least ↦ absurd (omega (arith, sym (cond-false (ltb 0 later) (suc later) 1 least) ∙ none))
]

dense_if_none : (nodes : List NodeShape) → last_sparse nodes ≡ 0 → all_dense nodes ≡ true
dense_if_none [] none = refl
dense_if_none (node ∷ later) none =
    let parts = none_of (last_sparse later) (is_dense node.kind) none in
    and_from (is_dense node.kind) (all_dense later) parts.1 (dense_if_none later parts.0)

pub none_decides : (shape : Shape) → NoneDecides shape
none_decides shape = (dense_if_none shape.nodes, no_sparse shape.nodes)

-- the node that decides, among these
abbrev Decides : List NodeShape → ℕ → Type 0
Decides nodes number = (number ≤ length nodes) × (is_dense (kind_at nodes number) ≡ false) × (all_dense (drop number nodes) ≡ true)

kind_later : (node : NodeShape) (later : List NodeShape) (number : ℕ) → 0 < number → kind_at (node ∷ later) (suc number) ≡ kind_at later number
kind_later node later zero some = absurd (omega arith)
kind_later node later (suc m) some =
    let first : suc (suc m) - 1 ≡ suc m = omega arith in
    let second : suc m - 1 ≡ m = omega arith in
    ap (λ k. kind_or (slice_get (node ∷ later) k)) first ∙ sym (ap (λ k. kind_or (slice_get later k)) second)

last_node : (nodes : List NodeShape) → 0 < last_sparse nodes → Decides nodes (last_sparse nodes)
last_node [] some = absurd (omega arith)
last_node (node ∷ later) some = elim (cases_Bool (ltb 0 (last_sparse later))) [
  | inl more ↦
      let l : ℕ = last_sparse later in
      let above = ltb-true 0 l more in
      let rest = last_node later above in
      subst (λ n. Decides (node ∷ later) n) (sym (cond-true (ltb 0 l) (suc l) (cond (is_dense node.kind) 0 1) more))
      (omega (arith, rest.0), ap is_dense (kind_later node later l above) ∙ rest.1, rest.2)
  | inr least ↦
      let l : ℕ = last_sparse later in
      let none : l ≡ 0 = (let low = ltb-false 0 l least in omega arith) in
      let here : last_sparse (node ∷ later) ≡ cond (is_dense node.kind) 0 1 = cond-false (ltb 0 l) (suc l) (cond (is_dense node.kind) 0 1) least in
      elim (cases_Bool (is_dense node.kind)) [
        | inl dense ↦ absurd (omega (arith, here ∙ cond-true (is_dense node.kind) 0 1 dense))
        | inr sparse ↦ subst (λ n. Decides (node ∷ later) n) (sym (here ∙ cond-false (is_dense node.kind) 0 1 sparse))
            (omega arith, sparse, dense_if_none later none)
      ]
]

pub last_decides : (shape : Shape) → LastDecides shape
last_decides shape some = last_node shape.nodes some
