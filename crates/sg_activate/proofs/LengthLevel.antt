-- A dynamic node whose lengths were raced for: they can be settled, they open the node, or it is the first that is too full.
use Rattle.std.proofs.Common.{◌≡◌, ℕ, zero, suc, ◌+◌, ◌-◌, ◌<◌, ◌≤◌, ◌⊎◌, inl, inr, max, Bool, true, false, cond, List, [], ◌∷◌, ◌++◌, refl, sym, ap, ◌∙◌, subst, arith}
use Rattle.std.specs.Prelude.{◌==◌, ◌&&◌, Option, Some, None, Err, slice_index, slice_get}
use Rattle.std.specs.List.{Contains}
use Rattle.std.proofs.lemmas.Bool.{cases_lt, cases_eq}
use Rattle.std.proofs.lemmas.Bool.Decides.{nat_tests}
use Rattle.std.proofs.lemmas.Option.{none-some, same_Some}
use Rattle.sg_words.specs.declared.race.Worker.{Worker}
use Rattle.sg_words.specs.Counts.{one, pairs}
use Rattle.sg_words.specs.RaceMachine.{newcomer, after_join, after_raise}
use Rattle.sg_words.proofs.Uses.{pair_cases}
use Rattle.sg_coord.specs.declared.coord.Coord.{Coord}
use Rattle.sg_layout.specs.declared.shape.Kind.{Kind}
use Rattle.sg_layout.specs.declared.shape.Kind.TheVariants.{Dense, Bitmasked, Pointer, Hash, Dynamic}
use Rattle.sg_layout.specs.declared.shape.NodeShape.{NodeShape}
use Rattle.sg_layout.specs.Axes.{count_of, size_of, sizes_of}
use Rattle.sg_layout.specs.Need.{first_full}
use Rattle.sg_layout.specs.NeedLaws.{IsNumberedNode}
use Rattle.sg_dynamic.specs.declared.chunks.ChunkFull.{ChunkFull}
use Rattle.sg_dynamic.specs.Chunks.{fit}
use Rattle.sg_dynamic.specs.Raising.{reach, AreRaised}
use Rattle.sg_store.specs.declared.node.NodeWords.{NodeWords}
use Rattle.sg_store.specs.StoreWords.{StoreWords}
use Rattle.sg_store.specs.Walks.{place_in}
use Rattle.sg_store.specs.WellFormed.{IsWellFormed, IsDynamicNode, AreNodes, is_root}
use Rattle.sg_store.specs.WellFormed.{IsNode as IsKindNode}
use Rattle.sg_store.specs.Reaching.{IsOpenThrough}
use Rattle.sg_store.specs.Opening.{lengths_of, lengths_or_none, offset_in, CanSettleLengths, WantedAreBelow, NewLengthsAreWanted}
use Rattle.sg_store.specs.OpeningLaws.{LengthsFillFirst}
use Rattle.sg_activate.specs.declared.fault.ActFault.TheVariants.{PoolFull}
use Rattle.sg_activate.specs.Activating.{unless_full}
use Rattle.sg_activate.specs.steps.Lengths.{HasRaised, HasRaisedFor, AreShortInLive}
use Rattle.sg_activate.proofs.LinkSteps.{pairs-append, pair_at_end}

-- ---- raises and joins
pub raised_here : (store : StoreWords) (node : ℕ) (at : Coord) (parent index : ℕ) (v w : Worker) → place_in store node at ≡ Some parent → index ≡ offset_in store node at
    → w ≡ after_raise parent index v → HasRaised store node at w
raised_here store node at parent index v w is offset e other here =
    let same : parent ≡ other = (cc) in
    subst (λ (x : Worker). 0 < pairs other (offset_in store node at) x.raised) (sym e)
    (subst (λ q. 0 < pairs q (offset_in store node at) (v.raised ++ (parent, index) ∷ [])) same
    (subst (λ i. 0 < pairs parent i (v.raised ++ (parent, index) ∷ [])) offset (pair_at_end parent index v.raised)))

pub raised_stays : (parent index a b : ℕ) (v w : Worker) → w ≡ after_raise parent index v → 0 < pairs a b v.raised → 0 < pairs a b w.raised
raised_stays parent index a b v w e some =
    let count = pairs-append a b v.raised ((parent, index) ∷ []) in
    subst (λ (x : Worker). 0 < pairs a b x.raised) (sym e) (let h : 0 < pairs a b (v.raised ++ (parent, index) ∷ []) = omega arith in h)

-- what holds of each pair that was raised
pub raises_hold : (Holds : ℕ → ℕ → Type 0) (parent index : ℕ) (v w : Worker) → w ≡ after_raise parent index v → Holds parent index
    → ((a b : ℕ) → 0 < pairs a b v.raised → Holds a b) → (a b : ℕ) → 0 < pairs a b w.raised → Holds a b
raises_hold Holds parent index v w e here before a b some =
    let after : 0 < pairs a b (v.raised ++ (parent, index) ∷ []) = subst (λ (x : Worker). 0 < pairs a b x.raised) e some in
    let count = pairs-append a b v.raised ((parent, index) ∷ []) in
    elim (cases_eq parent a) [
      | inl same ↦ elim (cases_eq index b) [
        | inl same' ↦ subst (λ (q : ℕ). Holds q b) same (subst (Holds parent) same' here)
        | inr other ↦ let none : one ((parent == a) && (index == b)) ≡ 0 = pair_cases (λ n. n ≡ 0) parent index a b (λ _ s. absurd (other s)) (λ _. refl) in before a b (omega arith)
      ]
      | inr other ↦ let none : one ((parent == a) && (index == b)) ≡ 0 = pair_cases (λ n. n ≡ 0) parent index a b (λ s _. absurd (other s)) (λ _. refl) in before a b (omega arith)
    ]

pub raised_left : (v w : Worker) (a b : ℕ) → 0 < pairs a b v.raised → 0 < pairs a b (after_join v w).raised
raised_left v w a b some = let e = pairs-append a b v.raised w.raised in omega arith

pub raised_right : (v w : Worker) (a b : ℕ) → 0 < pairs a b w.raised → 0 < pairs a b (after_join v w).raised
raised_right v w a b some = let e = pairs-append a b v.raised w.raised in omega arith

pub raises_joined : (Holds : ℕ → ℕ → Type 0) (v w : Worker) → ((a b : ℕ) → 0 < pairs a b v.raised → Holds a b)
    → ((a b : ℕ) → 0 < pairs a b w.raised → Holds a b) → (a b : ℕ) → 0 < pairs a b (after_join v w).raised → Holds a b
raises_joined Holds v w mine theirs a b some = elim (cases_lt 0 (pairs a b v.raised)) [
  | inl here ↦ mine a b here
  | inr none ↦ let e = pairs-append a b v.raised w.raised in theirs a b (omega arith)
]

pub none_raised : (Holds : ℕ → ℕ → Type 0) (v : Worker) (told : List ℕ) (share : ℕ) → v ≡ newcomer told share → (a b : ℕ) → 0 < pairs a b v.raised → Holds a b
none_raised Holds v told share is a b some = absurd (let h : 0 < pairs a b (newcomer told share).raised = subst (λ (w : Worker). 0 < pairs a b w.raised) is some in omega arith)

-- ---- how far a length was raised

reach_cases : (q : ℕ) (x : ℕ × ℕ) → ((x.0 ≡ q) × (cond (x.0 == q) (x.1 + 1) 0 ≡ x.1 + 1)) ⊎ (cond (x.0 == q) (x.1 + 1) 0 ≡ 0)
reach_cases q x = elim (cases_eq x.0 q) [
  | inl same ↦ let h : (x.0 == q) ≡ true = grind (arith, nat_tests) in inl (same, ap (λ b. cond b (x.1 + 1) 0) h)
  | inr other ↦ let h : (x.0 == q) ≡ false = grind (arith, nat_tests) in inr (ap (λ b. cond b (x.1 + 1) 0) h)
]

-- a length reaches past each index to which it was raised
pub reach_least : (q i : ℕ) (raised : List (ℕ × ℕ)) → 0 < pairs q i raised → i + 1 ≤ reach q raised
reach_least q i [] some = absurd (omega arith)
reach_least q i (x ∷ xs) some = elim (cases_lt 0 (pairs q i xs)) [
  | inl later ↦ let r = reach_least q i xs later in omega arith
  | inr none ↦ let here : 0 < one ((x.0 == q) && (x.1 == i)) = omega arith in
      let is = pair_here here in
      elim (reach_cases q x) [
        | inl (same, e) ↦ omega arith
        | inr e ↦ let h : cond (x.0 == q) (x.1 + 1) 0 ≡ x.1 + 1 = hit is.0 in omega arith
      ]
]
  where
    pair_here : 0 < one ((x.0 == q) && (x.1 == i)) → (x.0 ≡ q) × (x.1 ≡ i)
    pair_here some = elim (cases_eq x.0 q) [
      | inl same ↦ elim (cases_eq x.1 i) [
        | inl same' ↦ (same, same')
        | inr other ↦ absurd (let h : one ((x.0 == q) && (x.1 == i)) ≡ 0 = pair_cases (λ n. n ≡ 0) x.0 x.1 q i (λ _ s. absurd (other s)) (λ _. refl) in omega arith)
      ]
      | inr other ↦ absurd (let h : one ((x.0 == q) && (x.1 == i)) ≡ 0 = pair_cases (λ n. n ≡ 0) x.0 x.1 q i (λ s _. absurd (other s)) (λ _. refl) in omega arith)
    ]

    hit : x.0 ≡ q → cond (x.0 == q) (x.1 + 1) 0 ≡ x.1 + 1
    hit same = let h : (x.0 == q) ≡ true = grind (arith, nat_tests) in ap (λ b. cond b (x.1 + 1) 0) h

-- and it reaches just past one of them
pub reach_pair : (q : ℕ) (raised : List (ℕ × ℕ)) → 0 < reach q raised → (i : ℕ) × (0 < pairs q i raised) × (reach q raised ≡ i + 1)
reach_pair q [] some = absurd (omega arith)
reach_pair q (x ∷ xs) some = elim (cases_lt (reach q xs) (cond (x.0 == q) (x.1 + 1) 0)) [
  | inl greater ↦ elim (reach_cases q x) [
    | inl (same, e) ↦
        let here : 0 < one ((x.0 == q) && (x.1 == x.1)) = pair_cases (λ n. 0 < n) x.0 x.1 q x.1 (λ _ _. omega arith) (λ other. absurd (other same refl)) in
        (x.1, omega arith, omega arith)
    | inr e ↦ absurd (omega arith)
  ]
  | inr less ↦ let r = reach_pair q xs (omega arith) in (r.0, omega (arith, r.1), omega (arith, r.2))
]

-- ---- what the store's own lengths keep
is_dynamic : (kind : Kind) (node : NodeShape) (kept : NodeWords) (slots : ℕ) (live : ℕ → Bool) → kind ≡ Dynamic → IsKindNode kind node kept slots live → IsDynamicNode node kept slots live
is_dynamic Dense node kept slots live is n = absurd (cc)
is_dynamic Bitmasked node kept slots live is n = absurd (cc)
is_dynamic Pointer node kept slots live is n = absurd (cc)
is_dynamic Hash node kept slots live is n = absurd (cc)
is_dynamic Dynamic node kept slots live is n = n

old_short : (nodes : List NodeShape) (words : List NodeWords) (places : ℕ) (live : ℕ → Bool) (i : ℕ) (node : NodeShape) (kept : NodeWords) → AreNodes nodes words places live
    → slice_get nodes i ≡ Some node → slice_get words i ≡ Some kept → node.kind ≡ Dynamic → (parent : ℕ) → slice_index kept.lengths parent ≤ size_of node.sizes
old_short [] words places live i node kept are is here dynamic parent = absurd (none-some node is)
old_short (n ∷ later) [] places live i node kept are is here dynamic parent = absurd are
old_short (n ∷ later) (k ∷ ks) places live zero node kept are is here dynamic parent =
    let same : n ≡ node = same_Some n node is in
    let same' : k ≡ kept = same_Some k kept here in
    let short : slice_index k.lengths parent ≤ size_of n.sizes = (is_dynamic n.kind n k _ _ (ap (λ (m : NodeShape). m.kind) same ∙ dynamic) are.1).short parent in
    subst (λ (w : NodeWords). slice_index w.lengths parent ≤ size_of node.sizes) same' (subst (λ (m : NodeShape). slice_index k.lengths parent ≤ size_of m.sizes) same short)
old_short (n ∷ later) (k ∷ ks) places live (suc i) node kept are is here dynamic parent = old_short later ks _ _ i node kept are.2 is here dynamic parent

size_at : (nodes : List NodeShape) (i : ℕ) (node : NodeShape) → slice_get nodes i ≡ Some node → slice_index (sizes_of nodes) i ≡ size_of node.sizes
size_at [] i node is = absurd (none-some node is)
size_at (n ∷ later) zero node is = ap (λ (m : NodeShape). size_of m.sizes) (same_Some n node is)
size_at (n ∷ later) (suc i) node is = size_at later i node is

short_before : (store : StoreWords) (number : ℕ) (node : NodeShape) → IsWellFormed store → slice_get store.shape.nodes (number - 1) ≡ Some node → node.kind ≡ Dynamic
    → (parent : ℕ) → slice_index (lengths_of store number) parent ≤ slice_index (sizes_of store.shape.nodes) (number - 1)
short_before store number node well is dynamic parent = go (slice_get store.nodes (number - 1)) refl
  where
    go : (o : Option NodeWords) → slice_get store.nodes (number - 1) ≡ o → slice_index (lengths_of store number) parent ≤ slice_index (sizes_of store.shape.nodes) (number - 1)
    go None e = let none : slice_index (lengths_of store number) parent ≡ 0 = ap (λ o. slice_index (lengths_or_none o) parent) e in omega arith
    go (Some kept) e =
        let same : slice_index (lengths_of store number) parent ≡ slice_index kept.lengths parent = ap (λ o. slice_index (lengths_or_none o) parent) e in
        let short = old_short store.shape.nodes store.nodes 1 is_root (number - 1) node kept well.nodes_fit is e dynamic parent in
        let size = size_at store.shape.nodes (number - 1) node is in
        omega arith

-- ---- settling
pub raised_here_are : (old given lengths new : List ℕ) (raised : List (ℕ × ℕ)) → given ≡ lengths → lengths ≡ old → AreRaised given raised new → AreRaised old raised new
raised_here_are old given lengths new raised is is' are = subst (λ l. AreRaised l raised new) (is ∙ is') are

module _ (store : StoreWords) (number : ℕ) (v : Worker) (new : List ℕ) (are : AreRaised (lengths_of store number) v.raised new) where
  -- a length that is new was raised so far
  new_is_raised : (parent : ℕ) → slice_index (lengths_of store number) parent < slice_index new parent → (i : ℕ) × (0 < pairs parent i v.raised) × (slice_index new parent ≡ i + 1)
  new_is_raised parent rises =
      let e : slice_index new parent ≡ max (slice_index (lengths_of store number) parent) (reach parent v.raised) = are.lengths parent in
      let r = reach_pair parent v.raised (omega arith) in
      (r.0, r.1, omega (arith, r.2))

  pub can_settle_lengths : (node : NodeShape) → IsWellFormed store → slice_get store.shape.nodes (number - 1) ≡ Some node → node.kind ≡ Dynamic
      → AreShortInLive store number v → CanSettleLengths store number new
  can_settle_lengths node well is dynamic live = record {
    as_many = are.long;
    rise = λ parent. let e : slice_index new parent ≡ max (slice_index (lengths_of store number) parent) (reach parent v.raised) = are.lengths parent in omega arith;
    short = λ parent. elim (cases_lt (slice_index (lengths_of store number) parent) (slice_index new parent)) [
      | inl rises ↦ let r = new_is_raised parent rises in let below = (live parent r.0 r.1).below in omega (arith, r.2)
      | inr stays ↦ let short = short_before store number node well is dynamic parent in omega arith
    ];
    in_live = λ parent rises. let r = new_is_raised parent rises in (live parent r.0 r.1).in_live;
  }

  pub wanted_are_below : (wanted : List Coord) → ((at : Coord) → Contains wanted at → HasRaised store number at v) → WantedAreBelow store number new wanted
  wanted_are_below wanted met at is parent place =
      let reached = reach_least parent (offset_in store number at) v.raised (met at is parent place) in
      let e : slice_index new parent ≡ max (slice_index (lengths_of store number) parent) (reach parent v.raised) = are.lengths parent in
      omega arith

  pub new_lengths_are_wanted : (wanted : List Coord) → HasRaisedFor store number wanted v → NewLengthsAreWanted store number new wanted
  new_lengths_are_wanted wanted made parent rises =
      let r = new_is_raised parent rises in
      let index = made parent r.0 r.1 in
      record { at = index.at; is_of = index.is_of; has_place = index.has_place; reaches = (let o : r.0 ≡ offset_in store number index.at = index.has_offset in omega (arith, r.2)) }

  pub lengths_are_full : LengthsFillFirst store → IsWellFormed store → (node : NodeShape) → IsNumberedNode store.shape number node → node.kind ≡ Dynamic → (cap : ℕ) → cap ≡ count_of node.cap
      → AreShortInLive store number v → (wanted : List Coord) → ((at : Coord) → Contains wanted at → HasRaised store number at v) → HasRaisedFor store number wanted v
      → (full : ChunkFull) → fit (count_of node.chunk) new (count_of node.cap) ≡ Err full
      → (old : List Coord) → IsOpenThrough store old (old ++ wanted) (number - 1) → unless_full (first_full store.shape (old ++ wanted)) ≡ Err (PoolFull number cap)
  lengths_are_full law well node there dynamic cap is live wanted met made full past old open_before =
      ap unless_full (law well old wanted number node there dynamic open_before new (can_settle_lengths node well there.there dynamic live) (wanted_are_below wanted met) (new_lengths_are_wanted wanted made) full past)
      ∙ ap (λ c. Err (PoolFull number c)) (sym is)
