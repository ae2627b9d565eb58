-- The nodes of a layout, one by one: how many of a kind stand above one, which is the last with links or bits, and what the words of one keep.
use Rattle.std.proofs.Common.{◌≡◌, ℕ, zero, suc, ◌+◌, ◌-◌, ◌*◌, ◌<◌, ◌≤◌, ◌⊎◌, inl, inr, Bool, true, false, cond, ◌&&◌, List, [], ◌∷◌, length, take, drop, refl, sym, ap, ◌∙◌, subst, arith}
use Rattle.std.specs.Prelude.{◌^◌, filter, Some, slice_get, slice_index_or}
use Rattle.std.proofs.lemmas.List.{length-take}
use Rattle.std.proofs.lemmas.Bool.{and_parts, ltb-true}
use lib.Dec.{leb, ltb}
use Rattle.sg_layout.specs.declared.shape.Kind.{Kind}
use Rattle.sg_layout.specs.declared.shape.Kind.TheVariants.{Dynamic}
use Rattle.sg_layout.specs.declared.shape.NodeShape.{NodeShape}
use Rattle.sg_layout.specs.declared.shape.Shape.{Shape}
use Rattle.sg_layout.specs.Rules.{is_declared}
use Rattle.sg_layout.specs.Axes.{size_of}
use Rattle.sg_layout.specs.Live.{kind_or, kind_at}
use Rattle.sg_store.specs.declared.node.NodeWords.{NodeWords}
use Rattle.sg_store.specs.WellFormed.{IsNode, AreNodes, places_below, live_below, live_slot}
use Rattle.sg_activate.specs.Descending.{is_fused, last_from, number_among}

-- ---- counts
kept : (b : Bool) (x : NodeShape) (xs : List NodeShape) → length (cond b (x ∷ xs) xs) ≡ length xs + cond b 1 0
kept true x xs = omega arith
kept false x xs = omega arith

module _ (is_kind : Kind → Bool) where
  many : List NodeShape → ℕ
  many nodes = length (filter (λ (node : NodeShape). is_kind node.kind) nodes)

  many-more : (x : NodeShape) (xs : List NodeShape) → many (x ∷ xs) ≡ many xs + cond (is_kind x.kind) 1 0
  unfolding many
  many-more x xs = kept (is_kind x.kind) x (filter (λ (node : NodeShape). is_kind node.kind) xs)

  many-step : (nodes : List NodeShape) (j : ℕ) (node : NodeShape) → slice_get nodes j ≡ Some node → many (take (suc j) nodes) ≡ many (take j nodes) + cond (is_kind node.kind) 1 0
  many-step [] j node e = absurd (cc)
  many-step (x ∷ xs) zero node e = many-more x [] ∙ ap (λ (n : NodeShape). many [] + cond (is_kind n.kind) 1 0) (let same : x ≡ node = (cc) in same)
  many-step (x ∷ xs) (suc j) node e =
      let r = many-step xs j node e in
      let a = many-more x (take (suc j) xs) in
      let b = many-more x (take j xs) in
      let swap : (n c d : ℕ) → n + d + c ≡ n + c + d = λ n c d. omega arith in
      a ∙ ap (λ n. n + cond (is_kind x.kind) 1 0) r ∙ swap (many (take j xs)) (cond (is_kind x.kind) 1 0) (cond (is_kind node.kind) 1 0) ∙ ap (λ n. n + cond (is_kind node.kind) 1 0) (sym b)

  many-le : (nodes : List NodeShape) (a b : ℕ) → a ≤ b → many (take a nodes) ≤ many (take b nodes)
  unfolding many
  many-le nodes zero b h = omega arith
  many-le [] (suc a) b h = omega arith
  many-le (x ∷ xs) (suc a) zero h = absurd (omega arith)
  many-le (x ∷ xs) (suc a) (suc b) h =
      let r = many-le xs a b (omega arith) in
      let p = kept (is_kind x.kind) x (filter (λ (node : NodeShape). is_kind node.kind) (take a xs)) in
      let q = kept (is_kind x.kind) x (filter (λ (node : NodeShape). is_kind node.kind) (take b xs)) in omega arith

  many-few : (nodes : List NodeShape) → many nodes ≤ length nodes
  unfolding many
  many-few [] = omega arith
  many-few (x ∷ xs) =
      let r = many-few xs in
      let p = kept (is_kind x.kind) x (filter (λ (node : NodeShape). is_kind node.kind) xs) in
      let c : cond (is_kind x.kind) 1 0 ≤ 1 = few (is_kind x.kind) in omega arith
    where
      few : (b : Bool) → cond b 1 0 ≤ 1
      few true = omega arith
      few false = omega arith

  number-is : (nodes : List NodeShape) (a : ℕ) → number_among is_kind nodes (suc a) ≡ many (take a nodes)
  unfolding many
  number-is nodes a = let back : suc a - 1 ≡ a = omega arith in ap (λ n. length (filter (λ (node : NodeShape). is_kind node.kind) (take n nodes))) back

  -- how many of a kind stand above the next node
  number-step : (nodes : List NodeShape) (j : ℕ) (node : NodeShape) → slice_get nodes j ≡ Some node → number_among is_kind nodes (suc (suc j)) ≡ number_among is_kind nodes (suc j) + cond (is_kind node.kind) 1 0
  number-step nodes j node e = number-is nodes (suc j) ∙ many-step nodes j node e ∙ ap (λ n. n + cond (is_kind node.kind) 1 0) (sym (number-is nodes j))

  pub number-one : (nodes : List NodeShape) (j : ℕ) (node : NodeShape) → slice_get nodes j ≡ Some node → is_kind node.kind ≡ true → number_among is_kind nodes (suc (suc j)) ≡ number_among is_kind nodes (suc j) + 1
  number-one nodes j node e one = number-step nodes j node e ∙ ap (λ b. number_among is_kind nodes (suc j) + cond b 1 0) one

  pub number-none : (nodes : List NodeShape) (j : ℕ) (node : NodeShape) → slice_get nodes j ≡ Some node → is_kind node.kind ≡ false → number_among is_kind nodes (suc (suc j)) ≡ number_among is_kind nodes (suc j)
  number-none nodes j node e none =
      let same : number_among is_kind nodes (suc j) + 0 ≡ number_among is_kind nodes (suc j) = omega arith in
      number-step nodes j node e ∙ ap (λ b. number_among is_kind nodes (suc j) + cond b 1 0) none ∙ same

  pub number-le : (nodes : List NodeShape) (a b : ℕ) → a ≤ b → number_among is_kind nodes (suc a) ≤ number_among is_kind nodes (suc b)
  number-le nodes a b h = let m = many-le nodes a b h in let x = number-is nodes a in let y = number-is nodes b in omega arith

  pub number-few : (nodes : List NodeShape) (a : ℕ) → number_among is_kind nodes (suc a) ≤ length nodes
  number-few nodes a = let m = many-few (take a nodes) in let x = number-is nodes a in let t = length-take a nodes in omega arith

-- ---- the last fused node
step-last : (P : ℕ → Type 0) (b : Bool) (number last : ℕ) → (b ≡ true → P number) → (b ≡ false → P last) → P (cond b number last)
step-last P true number last one other = one refl
step-last P false number last one other = other refl

-- it is the one that was given, or one of the nodes
pub last-within : (nodes : List NodeShape) (number last : ℕ) → last < number → last_from number nodes last < number + length nodes
last-within [] number last below = omega arith
last-within (node ∷ later) number last below =
    let a = last-within later (suc number) number (omega arith) in
    let b = last-within later (suc number) last (omega arith) in
    step-last (λ l. last_from (suc number) later l < number + suc (length later)) (is_fused node.kind) number last (λ _. omega arith) (λ _. omega arith)

Found : List NodeShape → ℕ → ℕ → ℕ → Type 0
Found nodes number last found = (found ≡ last) ⊎ ((number ≤ found) × (is_fused (kind_or (slice_get nodes (found - number))) ≡ true))

found-behind : (node : NodeShape) (later : List NodeShape) (number last found : ℕ) → suc number ≤ found → is_fused (kind_or (slice_get later (found - suc number))) ≡ true → Found (node ∷ later) number last found
unfolding Found
found-behind node later number last found past fused =
    let next : suc (found - suc number) ≡ found - number = omega arith in
    inr (omega arith, subst (λ i. is_fused (kind_or (slice_get (node ∷ later) i)) ≡ true) next fused)

found-here : (node : NodeShape) (later : List NodeShape) (number last found : ℕ) → is_fused node.kind ≡ true → found ≡ number → Found (node ∷ later) number last found
unfolding Found
found-here node later number last found fused is =
    let none : 0 ≡ found - number = omega arith in
    inr (omega arith, subst (λ i. is_fused (kind_or (slice_get (node ∷ later) i)) ≡ true) none fused)

find-last : (nodes : List NodeShape) (number last : ℕ) → last < number → Found nodes number last (last_from number nodes last)
unfolding Found
find-last [] number last below = inl refl
find-last (node ∷ later) number last below =
    step-last (λ l. Found (node ∷ later) number last (last_from (suc number) later l)) (is_fused node.kind) number last
    (λ fused. elim (find-last later (suc number) number (omega arith)) [
      | inl is ↦ found-here node later number last (last_from (suc number) later number) fused is
      | inr far ↦ found-behind node later number last (last_from (suc number) later number) far.0 far.1
    ])
    (λ _. elim (find-last later (suc number) last (omega arith)) [
      | inl is ↦ inl is
      | inr far ↦ found-behind node later number last (last_from (suc number) later last) far.0 far.1
    ])

pub last-fused : (nodes : List NodeShape) → 1 ≤ last_from 1 nodes 0 → is_fused (kind_at nodes (last_from 1 nodes 0)) ≡ true
unfolding Found
last-fused nodes some = elim (find-last nodes 1 0 (omega arith)) [
  | inl none ↦ absurd (omega arith)
  | inr found ↦ found.1
]

-- the last fused node is found node by node
pub last-step : (nodes : List NodeShape) (i number last : ℕ) (d : NodeShape) → i < length nodes
    → last_from (suc number) (drop (suc i) nodes) (cond (is_fused (slice_index_or nodes i d).kind) number last) ≡ last_from number (drop i nodes) last
last-step [] i number last d below = absurd (omega arith)
last-step (x ∷ xs) zero number last d below = refl
last-step (x ∷ xs) (suc i) number last d below = last-step xs i number last d (omega arith)

pub last-none : (nodes : List NodeShape) (i number last : ℕ) → length nodes ≤ i → last_from number (drop i nodes) last ≡ last
last-none [] zero number last past = refl
last-none [] (suc i) number last past = refl
last-none (x ∷ xs) zero number last past = absurd (omega arith)
last-none (x ∷ xs) (suc i) number last past = last-none xs i number last (omega arith)

pub item_there : (nodes : List NodeShape) (i : ℕ) (d : NodeShape) → i < length nodes → slice_get nodes i ≡ Some (slice_index_or nodes i d)
item_there [] i d below = absurd (omega arith)
item_there (x ∷ xs) zero d below = refl
item_there (x ∷ xs) (suc i) d below = item_there xs i d (omega arith)

-- a declared layout has a node
pub some_nodes : (shape : Shape) → is_declared shape ≡ true → 0 < length shape.nodes
some_nodes shape declared =
    let first = and_parts (ltb 0 shape.axes && leb shape.axes 3) _ declared in
    let second = and_parts (ltb 0 (length shape.nodes) && leb (length shape.nodes) 6) _ first.1 in
    ltb-true 0 (length shape.nodes) (and_parts (ltb 0 (length shape.nodes)) (leb (length shape.nodes) 6) second.0).0

-- ---- the words of a node
pub record AtNode (nodes : List NodeShape) (words : List NodeWords) (places : ℕ) (live : ℕ → Bool) (j : ℕ) : Type 0 where
  pub node : NodeShape
  pub kept : NodeWords
  pub has_node : slice_get nodes j ≡ Some node
  pub has_kept : slice_get words j ≡ Some kept
  pub small : places * size_of node.sizes ≤ 2 ^ 47
  pub is_node : IsNode node.kind node kept (places * size_of node.sizes) (live_slot node live)
  pub below : AreNodes (drop (suc j) nodes) (drop (suc j) words) (places_below node.kind node (places * size_of node.sizes)) (live_below node.kind kept (live_slot node live))
  pub last : node.kind ≡ Dynamic → drop (suc j) nodes ≡ []

abbrev no_words : List NodeWords
no_words = []

drop-none : (j : ℕ) → drop j no_words ≡ no_words
drop-none zero = refl
drop-none (suc j) = refl

pub at_node : (nodes : List NodeShape) (words : List NodeWords) (places : ℕ) (live : ℕ → Bool) (j : ℕ) → AreNodes (drop j nodes) (drop j words) places live → j < length nodes → AtNode nodes words places live j
at_node [] words places live j are there = absurd (omega arith)
at_node (node ∷ later) [] places live zero are there = absurd are
at_node (node ∷ later) (kept ∷ words) places live zero are there =
    record { node = node; kept = kept; has_node = refl; has_kept = refl; small = are.0; is_node = are.1; below = are.2; last = are.3 }
at_node (node ∷ later) [] places live (suc j) are there =
    let r = at_node later [] places live j (subst (λ w. AreNodes (drop j later) w places live) (sym (drop-none j)) are) (omega arith) in
    absurd (none_there j r.kept r.has_kept)
  where
    none_there : (j : ℕ) (kept : NodeWords) → slice_get no_words j ≡ Some kept → ⊥
    none_there j kept e = (cc)
at_node (node ∷ later) (kept ∷ words) places live (suc j) are there =
    let r = at_node later words places live j are (omega arith) in
    record { node = r.node; kept = r.kept; has_node = r.has_node; has_kept = r.has_kept; small = r.small; is_node = r.is_node; below = r.below; last = r.last }
