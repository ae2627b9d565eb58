-- Which nodes are left after a descent: dense ones, and a dynamic one at the end.
use Rattle.std.proofs.Common.{◌≡◌, ℕ, zero, suc, ◌+◌, ◌-◌, ◌<◌, ◌≤◌, ◌⊎◌, inl, inr, Bool, true, false, cond, nat_lt, List, [], ◌∷◌, ◌++◌, length, refl, sym, ap, ◌∙◌, subst, arith}
use Rattle.std.specs.Prelude.{slice_get}
use Rattle.std.proofs.lemmas.Bool.{cases_lt, false≢true}
use Rattle.std.proofs.lemmas.Bool.Decides.{nat_tests}
use mathlib.Core.Logic.{dite}
use native.Mathlib.Decide.{dec_le}
use Rattle.sg_coord.specs.declared.coord.Coord.{Coord}
use Rattle.sg_layout.specs.declared.shape.Kind.{Kind}
use Rattle.sg_layout.specs.declared.shape.Kind.TheVariants.{Dense, Bitmasked, Pointer, Hash, Dynamic}
use Rattle.sg_layout.specs.declared.shape.NodeShape.{NodeShape}
use Rattle.sg_layout.specs.declared.shape.Shape.{Shape}
use Rattle.sg_layout.specs.Live.{kind_or, kind_at}
use Rattle.sg_store.specs.StoreWords.{StoreWords}
use Rattle.sg_store.specs.WellFormed.{IsWellFormed}
use Rattle.sg_store.specs.Reaching.{IsOpenThrough}
use Rattle.sg_store.specs.Opening.{OpensNode}
use Rattle.sg_store.specs.OpeningLaws.{DenseOpens, HashIsFirst, DynamicIsLast}
use Rattle.sg_activate.specs.Descending.{is_fused, last_from, last_fused, nodes_before, open_before}
use Rattle.sg_activate.specs.steps.Levels.{open_after, OpensTo}

-- ---- the last fused node
last_grows : (nodes : List NodeShape) (number last : ℕ) → last < number → last ≤ last_from number nodes last
last_grows [] number last below = omega arith
last_grows (node ∷ later) number last below = go (is_fused node.kind) refl (last_grows later (suc number) number (omega arith)) (last_grows later (suc number) last (omega arith))
  where
    go : (b : Bool) → is_fused node.kind ≡ b → number ≤ last_from (suc number) later number → last ≤ last_from (suc number) later last → last ≤ last_from (suc number) later (cond (is_fused node.kind) number last)
    go true e here there = subst (λ b. last ≤ last_from (suc number) later (cond b number last)) (sym e) (omega (arith, here))
    go false e here there = subst (λ b. last ≤ last_from (suc number) later (cond b number last)) (sym e) there

last_within : (nodes : List NodeShape) (number last : ℕ) → last < number → last_from number nodes last < number + length nodes
last_within [] number last below = omega arith
last_within (node ∷ later) number last below = go (is_fused node.kind) refl (last_within later (suc number) number (omega arith)) (last_within later (suc number) last (omega arith))
  where
    go : (b : Bool) → is_fused node.kind ≡ b → last_from (suc number) later number < suc number + length later → last_from (suc number) later last < suc number + length later
        → last_from (suc number) later (cond (is_fused node.kind) number last) < number + suc (length later)
    go true e here there = subst (λ b. last_from (suc number) later (cond b number last) < number + suc (length later)) (sym e) (omega (arith, here))
    go false e here there = subst (λ b. last_from (suc number) later (cond b number last) < number + suc (length later)) (sym e) (omega (arith, there))

past_last : (nodes : List NodeShape) (number last k : ℕ) → last < number → last_from number nodes last < number + k → is_fused (kind_or (slice_get nodes k)) ≡ false
past_last [] number last k below past = refl
past_last (node ∷ later) number last zero below past = go (is_fused node.kind) refl (last_grows later (suc number) number (omega arith))
  where
    go : (b : Bool) → is_fused node.kind ≡ b → number ≤ last_from (suc number) later number → is_fused node.kind ≡ false
    go true e least =
        let h : last_from (suc number) later (cond true number last) < number + 0 = subst (λ b. last_from (suc number) later (cond b number last) < number + 0) e past in
        absurd (omega (arith, least, h))
    go false e least = e
past_last (node ∷ later) number last (suc k) below past = go (is_fused node.kind) refl (past_last later (suc number) number k (omega arith)) (past_last later (suc number) last k (omega arith))
  where
    go : (b : Bool) → is_fused node.kind ≡ b → (last_from (suc number) later number < suc number + k → is_fused (kind_or (slice_get later k)) ≡ false)
        → (last_from (suc number) later last < suc number + k → is_fused (kind_or (slice_get later k)) ≡ false) → is_fused (kind_or (slice_get later k)) ≡ false
    go true e here there =
        let h : last_from (suc number) later (cond true number last) < number + suc k = subst (λ b. last_from (suc number) later (cond b number last) < number + suc k) e past in
        here (omega (arith, h))
    go false e here there =
        let h : last_from (suc number) later (cond false number last) < number + suc k = subst (λ b. last_from (suc number) later (cond b number last) < number + suc k) e past in
        there (omega (arith, h))

-- it is a fused one
abbrev IsLastOf : List NodeShape → ℕ → ℕ → ℕ → Type 0
IsLastOf nodes number last n = (n ≡ last) ⊎ ((k : ℕ) × (n ≡ number + k) × (is_fused (kind_or (slice_get nodes k)) ≡ true))

is_last : (nodes : List NodeShape) (number last : ℕ) → last < number → IsLastOf nodes number last (last_from number nodes last)
is_last [] number last below = inl refl
is_last (node ∷ later) number last below = go (is_fused node.kind) refl (is_last later (suc number) number (omega arith)) (is_last later (suc number) last (omega arith))
  where
    go : (b : Bool) → is_fused node.kind ≡ b → IsLastOf later (suc number) number (last_from (suc number) later number) → IsLastOf later (suc number) last (last_from (suc number) later last)
        → IsLastOf (node ∷ later) number last (last_from (suc number) later (cond (is_fused node.kind) number last))
    go true e (inl same) there = subst (λ b. IsLastOf (node ∷ later) number last (last_from (suc number) later (cond b number last))) (sym e)
        (inr (0, (let h : last_from (suc number) later number ≡ number + 0 = omega (arith, same) in h), e))
    go true e (inr more) there = subst (λ b. IsLastOf (node ∷ later) number last (last_from (suc number) later (cond b number last))) (sym e)
        (inr (suc more.0, (let h : last_from (suc number) later number ≡ number + suc more.0 = omega (arith, more.1) in h), more.2))
    go false e here (inl same) = subst (λ b. IsLastOf (node ∷ later) number last (last_from (suc number) later (cond b number last))) (sym e) (inl same)
    go false e here (inr more) = subst (λ b. IsLastOf (node ∷ later) number last (last_from (suc number) later (cond b number last))) (sym e)
        (inr (suc more.0, (let h : last_from (suc number) later last ≡ number + suc more.0 = omega (arith, more.1) in h), more.2))

-- ---- the nodes after a descent
before_hash : (kind : Kind) → (kind ≡ Hash → ⊥) → nodes_before kind ≡ 0
before_hash Dense other = refl
before_hash Bitmasked other = refl
before_hash Pointer other = refl
before_hash Hash other = absurd (other refl)
before_hash Dynamic other = refl

few_before : (kind : Kind) → nodes_before kind ≤ 1
few_before Dense = omega arith
few_before Bitmasked = omega arith
few_before Pointer = omega arith
few_before Hash = omega arith
few_before Dynamic = omega arith

dense_left : (kind : Kind) → is_fused kind ≡ false → (kind ≡ Hash → ⊥) → (kind ≡ Dynamic → ⊥) → kind ≡ Dense
dense_left Dense fused hash dynamic = refl
dense_left Bitmasked fused hash dynamic = absurd (false≢true (sym fused))
dense_left Pointer fused hash dynamic = absurd (false≢true (sym fused))
dense_left Hash fused hash dynamic = absurd (hash refl)
dense_left Dynamic fused hash dynamic = absurd (dynamic refl)

pub after_is : (shape : Shape) → ((last_fused shape ≡ 0) × (open_after shape ≡ open_before shape)) ⊎ ((1 ≤ last_fused shape) × (open_after shape ≡ last_fused shape))
after_is shape = dite (dec_le 1 (last_fused shape))
    (λ some. let no : nat_lt (last_fused shape) 1 ≡ false = grind (arith, nat_tests) in inr (some, ap (λ b. cond b (open_before shape) (last_fused shape)) no))
    (λ none. let yes : nat_lt (last_fused shape) 1 ≡ true = grind (arith, nat_tests) in inl (omega arith, ap (λ b. cond b (open_before shape) (last_fused shape)) yes))

-- dense nodes, one after the other
pub dense_to : (store : StoreWords) → DenseOpens store → (old all : List Coord) (from many : ℕ) → ((number : ℕ) → from < number → number ≤ from + many → kind_at store.shape.nodes number ≡ Dense)
    → IsOpenThrough store old all from → IsOpenThrough store old all (from + many)
dense_to store law old all from zero dense opens = (let e : from ≡ from + 0 = omega arith in subst (λ n. IsOpenThrough store old all n) e opens)
dense_to store law old all from (suc many) dense opens =
    let before = dense_to store law old all from many (λ number past within. dense number past (omega arith)) opens in
    let number : from + suc many - 1 ≡ from + many = omega arith in
    law old all (from + suc many) (omega arith) (dense (from + suc many) (omega arith) (omega arith)) (subst (λ n. IsOpenThrough store old all n) (sym number) before)

module _ (store : StoreWords) (well : IsWellFormed store) (first : HashIsFirst store) (last : DynamicIsLast store) (some : 1 ≤ length store.shape.nodes) where
  at_or_past : last_fused store.shape ≤ open_after store.shape
  at_or_past = elim (after_is store.shape) [ inl none ↦ omega (arith, none.0) | inr is ↦ omega (arith, is.1) ]

  hash_open : kind_at store.shape.nodes 1 ≡ Hash → 1 ≤ open_after store.shape
  hash_open hash = elim (after_is store.shape) [
    | inl none ↦ let e : open_before store.shape ≡ 1 = ap nodes_before hash in omega (arith, none.1)
    | inr is ↦ omega (arith, is.1, is.0)
  ]

  pub after_within : open_after store.shape ≤ length store.shape.nodes
  after_within = elim (after_is store.shape) [
    | inl none ↦ let h = few_before (kind_at store.shape.nodes 1) in omega (arith, none.1)
    | inr is ↦ let h = last_within store.shape.nodes 1 0 (omega arith) in omega (arith, is.1, h)
  ]

  -- a node past it is dense or dynamic
  pub left_dense : (number : ℕ) → open_after store.shape < number → (kind_at store.shape.nodes number ≡ Dynamic → ⊥) → kind_at store.shape.nodes number ≡ Dense
  left_dense number past dynamic =
      let unfused : is_fused (kind_or (slice_get store.shape.nodes (number - 1))) ≡ false = past_last store.shape.nodes 1 0 (number - 1) (omega arith) (let h = at_or_past in let g : last_from 1 store.shape.nodes 0 < 1 + (number - 1) = omega arith in g) in
      dense_left (kind_at store.shape.nodes number) unfused
      (λ hash.
      let one = first well number (omega arith) hash in
      let h = hash_open (subst (λ n. kind_at store.shape.nodes n ≡ Hash) one hash) in omega arith)
      dynamic

  -- a dynamic node stands past it
  pub dynamic_left : kind_at store.shape.nodes (length store.shape.nodes) ≡ Dynamic → open_after store.shape < length store.shape.nodes
  dynamic_left dynamic = elim (after_is store.shape) [
    | inl none ↦ go none
    | inr is ↦ elim (is_last store.shape.nodes 1 0 (omega arith)) [
      | inl zero' ↦ absurd (let h : last_fused store.shape ≡ 0 = zero' in omega (arith, is.0))
      | inr found ↦
          let within = last_within store.shape.nodes 1 0 (omega arith) in
          let number : last_fused store.shape ≡ 1 + found.0 = found.1 in
          elim (cases_lt (last_fused store.shape) (length store.shape.nodes)) [
            | inl below ↦ omega (arith, is.1)
            | inr above ↦
                let e : length store.shape.nodes - 1 ≡ found.0 = omega arith in
                let kind : kind_or (slice_get store.shape.nodes found.0) ≡ Dynamic = ap (λ n. kind_or (slice_get store.shape.nodes n)) (sym e) ∙ dynamic in
                absurd (false≢true (ap is_fused (sym kind) ∙ found.2))
          ]
    ]
  ]
    where
      go : (last_fused store.shape ≡ 0) × (open_after store.shape ≡ open_before store.shape) → open_after store.shape < length store.shape.nodes
      go none = elim (cases_lt (open_before store.shape) (length store.shape.nodes)) [
        | inl below ↦ omega (arith, none.1)
        | inr above ↦
            let few = few_before (kind_at store.shape.nodes 1) in
            let one : length store.shape.nodes ≡ 1 = omega arith in
            let kind : kind_at store.shape.nodes 1 ≡ Dynamic = ap (kind_at store.shape.nodes) (sym one) ∙ dynamic in
            let none' : open_before store.shape ≡ 0 = ap nodes_before kind in
            absurd (omega arith)
      ]

  -- only the last node is dynamic
  pub not_before_last : (number : ℕ) → 1 ≤ number → number < length store.shape.nodes → kind_at store.shape.nodes number ≡ Dynamic → ⊥
  not_before_last number low below dynamic = let e = last well number low dynamic in omega arith

  -- so the nodes past it open by themselves, up to one before which none is dynamic
  pub dense_left_to : DenseOpens store → (to : ℕ) → open_after store.shape ≤ to → ((number : ℕ) → open_after store.shape < number → number ≤ to → kind_at store.shape.nodes number ≡ Dynamic → ⊥) → (wanted : List Coord)
      → OpensTo store store (open_after store.shape) to wanted
  dense_left_to law to within none wanted old opens =
      let e : open_after store.shape + (to - open_after store.shape) ≡ to = omega arith in
      subst (λ n. IsOpenThrough store old (old ++ wanted) n) e
      (dense_to store law old (old ++ wanted) (open_after store.shape) (to - open_after store.shape) (λ number past low. left_dense number past (none number past (omega arith))) opens)

  -- where the last node isn't dynamic, all are open
  pub tail_dense : DenseOpens store → (kind_at store.shape.nodes (length store.shape.nodes) ≡ Dynamic → ⊥) → (wanted : List Coord) → OpensTo store store (open_after store.shape) (length store.shape.nodes) wanted
  tail_dense law none wanted = dense_left_to law (length store.shape.nodes) after_within (λ number past within dynamic.
      let e = last well number (omega arith) dynamic in none (subst (λ n. kind_at store.shape.nodes n ≡ Dynamic) e dynamic)) wanted

  -- where it is, those above it are
  pub above_dynamic : DenseOpens store → kind_at store.shape.nodes (length store.shape.nodes) ≡ Dynamic → (wanted : List Coord) → OpensTo store store (open_after store.shape) (length store.shape.nodes - 1) wanted
  above_dynamic law dynamic wanted =
      let below = dynamic_left dynamic in
      dense_left_to law (length store.shape.nodes - 1) (omega arith) (λ number past within. not_before_last number (omega arith) (omega arith)) wanted

-- ---- the first node, and the descent
pub head_none : (store : StoreWords) → (kind_at store.shape.nodes 1 ≡ Hash → ⊥) → (wanted : List Coord) → OpensTo store store 0 (open_before store.shape) wanted
head_none store other wanted old opens = subst (λ n. IsOpenThrough store old (old ++ wanted) n) (sym (before_hash (kind_at store.shape.nodes 1) other)) opens

pub head_some : (store now : StoreWords) → kind_at store.shape.nodes 1 ≡ Hash → (wanted : List Coord) → OpensNode store now 1 wanted → OpensTo store now 0 (open_before store.shape) wanted
head_some store now hash wanted opens old before =
    let one : 1 ≡ open_before store.shape = sym (ap nodes_before hash) in
    subst (λ n. IsOpenThrough now old (old ++ wanted) n) one (opens old before)

pub middle_none : (store : StoreWords) (last : ℕ) → last ≡ last_fused store.shape → last < 1 → (wanted : List Coord) → OpensTo store store (open_before store.shape) (open_after store.shape) wanted
middle_none store last is few wanted old opens = elim (after_is store.shape) [
  | inl none ↦ subst (λ n. IsOpenThrough store old (old ++ wanted) n) (sym none.1) opens
  | inr some ↦ absurd (omega (arith, some.0))
]

pub middle_some : (store now : StoreWords) → 1 ≤ last_fused store.shape → (wanted : List Coord) → OpensTo store now (open_before store.shape) (last_fused store.shape) wanted → OpensTo store now (open_before store.shape) (open_after store.shape) wanted
middle_some store now some wanted opens old before = elim (after_is store.shape) [
  | inl none ↦ absurd (omega (arith, none.0))
  | inr is ↦ subst (λ n. IsOpenThrough now old (old ++ wanted) n) (sym is.1) (opens old before)
]
