-- Lengths of the dynamic node, given from outside.
use Rattle.std.proofs.Common.{◌≡◌, ℕ, zero, suc, ◌+◌, ◌-◌, ◌/◌, ◌%◌, ◌<◌, ◌≤◌, ◌^◌, Bool, true, false, ◌&&◌, ◌||◌, List, [], ◌∷◌, ◌++◌, length, take, get_or, refl, sym, ap, ◌∙◌, subst, arith, inl, inr}
use Rattle.std.specs.Prelude.{Option, Some, None, Err, ◌==◌, nat_le, slice_index, slice_get}
use Rattle.std.specs.Option.{option_map}
use Rattle.std.specs.List.{Contains, list_any}
use Rattle.std.proofs.lemmas.Bool.{false≢true, cases_Bool, cases_lt, eqb-true, eq-eqb, leb-true, le-leb, ltb-true, lt-ltb, and_parts}
use Rattle.std.proofs.lemmas.List.{get_or_default}
use Rattle.std.proofs.lemmas.List.Folds.{Any-from_list_any, list_any-from_Any}
use Rattle.std.proofs.lemmas.Option.{none-some, same_Some}
use Rattle.sg_coord.specs.declared.coord.Coord.{Coord}
use Rattle.sg_layout.specs.declared.shape.Kind.TheVariants.{Dynamic}
use Rattle.sg_layout.specs.declared.shape.NodeShape.{NodeShape}
use Rattle.sg_layout.specs.Axes.{count_of, size_of, sizes_of}
use Rattle.sg_layout.specs.Path.{offsets, path}
use Rattle.sg_layout.specs.Live.{kind_at}
use Rattle.sg_layout.specs.Need.{FullNode, need_of, first_full}
use Rattle.sg_layout.specs.NeedLaws as layouts
use Rattle.sg_layout.specs.PathLaws.{PathIsSlot}
use Rattle.sg_layout.specs.RuleLaws.{AcceptedKeepsRules}
use Rattle.sg_layout.specs.Slots.{IsSlot}
use Rattle.sg_dynamic.specs.declared.chunks.ChunkFull.{ChunkFull}
use Rattle.sg_dynamic.specs.Chunks.{fit}
use Rattle.sg_pool.specs.Numbers.{place_count}
use Rattle.sg_store.specs.declared.node.NodeWords.{NodeWords}
use Rattle.sg_store.specs.StoreWords.{StoreWords}
use Rattle.sg_store.specs.Slots.{word_number, below_length}
use Rattle.sg_store.specs.Walks.{slot_number_in, place_in}
use Rattle.sg_store.specs.WellFormed.{IsNode, IsDynamicNode, IsWellFormed, is_root}
use Rattle.sg_store.specs.Changes.{IsRefitted, ChangesNode}
use Rattle.sg_store.specs.Reaching.{KeepsCells, IsOpenThrough}
use Rattle.sg_store.specs.Opening.{lengths_of, IsInLive, CanSettleLengths, offset_in, WantedAreBelow, NewLengthsAreWanted, OpensNode}
use Rattle.sg_store.specs.steps.AtNode.{OfNode, AtNodeOf}
use Rattle.sg_store.specs.steps.Settling.{NodeGrows}
use Rattle.sg_store.specs.steps.Raising.{keeps_too, RiseByMany, CanLengthen, AnswersFit}
use Rattle.sg_store.proofs.Leading.{InLive}
use Rattle.sg_store.proofs.Stepping.{size_at}
use Rattle.sg_store.proofs.PathWalks.{path_more, path_long}
use Rattle.sg_store.proofs.Under.{DynamicAt, place_of_number}
use Rattle.sg_store.proofs.Opened.{keeps_cells}
use Rattle.sg_store.proofs.SlotPaths.{same_bool}
use Rattle.sg_store.proofs.Counting.{Both, both_at, at_node_from}
use Rattle.sg_store.proofs.AtNumber.{IsAt, at_number, fact_at, back_to, lengths_are, within_nodes, says_with, word_is, parent_in_live, EachSlot, each_slot}
use Rattle.sg_store.proofs.OpenedBy.{numbers_for, or_left, or_right, or_rest}
use Rattle.sg_store.proofs.DynamicLevel.{DynamicOpening, ByParents, by_parents, few_slots, lengths_grow_at, dynamic_opened}
use Rattle.sg_store.proofs.DynamicFull.{dynamic_full}
use Rattle.sg_store.proofs.Reached.{ReachLaws, full_some, open_fits}

-- ── Slots that share a parent ──

-- some slot of the same parent is in a live container
abbrev pub SharesParent : ℕ → OfNode
SharesParent q node kept slots live = (x : ℕ) × (x / size_of node.sizes ≡ q / size_of node.sizes) × InLive x node kept slots live

-- a slot comes below its parent's length
abbrev pub ComesBelow : List ℕ → List ℕ → ℕ → ℕ → Type 0
ComesBelow before lengths size q = (below_length before size q ≡ false) × (below_length lengths size q ≡ true)

comes_higher : (before lengths : List ℕ) (size q : ℕ) → ComesBelow before lengths size q → slice_index before (q / size) < slice_index lengths (q / size)
comes_higher before lengths size q comes =
    let low : q % size < slice_index lengths (q / size) = ltb-true (q % size) (slice_index lengths (q / size)) comes.1 in
    elim (cases_lt (q % size) (slice_index before (q / size))) [
      | inl was ↦ absurd (false≢true (sym comes.0 ∙ lt-ltb (q % size) (slice_index before (q / size)) was))
      | inr past ↦ omega (arith, low, past)
    ]

shares_parent : (store : StoreWords) (number i : ℕ) (node : NodeShape) (kept : NodeWords) (lengths : List ℕ) → IsAt store number i node kept → node.kind ≡ Dynamic → CanSettleLengths store number lengths → (q : ℕ) → ComesBelow kept.lengths lengths (size_of node.sizes) q → AtNodeOf (SharesParent q) store i
shares_parent store number i node kept lengths is kind can q comes =
    let size : ℕ = size_of node.sizes in
    let before : slice_index (lengths_of store number) (q / size) ≡ slice_index kept.lengths (q / size) = ap (λ l. slice_index l (q / size)) (lengths_are store number i node kept is) in
    let led : IsInLive store number (q / size) = can.in_live (q / size) (omega (arith, before, comes_higher kept.lengths lengths size q comes)) in
    let found = parent_in_live store number i node kept (q / size) is kind led in
    at_node_from (InLive found.0) (SharesParent q) store.shape.nodes store.nodes 1 is_root i
    (λ own mine slots live at has one.
    let same : node ≡ own = same_Some node own (sym is.at ∙ at) in
    (found.0, subst (λ (n : NodeShape). found.0 / size_of n.sizes ≡ q / size_of n.sizes) same found.1, one))
    found.2

-- ── The node that is given lengths ──

size_here : (store : StoreWords) (number i : ℕ) (node : NodeShape) (kept : NodeWords) → IsAt store number i node kept → slice_index (sizes_of store.shape.nodes) (number - 1) ≡ size_of node.sizes
size_here store number i node kept is =
    ap (slice_index (sizes_of store.shape.nodes)) (back_to number i is.next) ∙ size_at store.shape.nodes i node is.at

small : (store : StoreWords) (number i : ℕ) (node : NodeShape) (kept : NodeWords) → IsAt store number i node kept → AcceptedKeepsRules store.shape → node.kind ≡ Dynamic → size_of node.sizes ≤ 2 ^ 15
small store number i node kept is rules kind =
    let keeps = (rules.0 is.well.accepted.keeps_rules).0 i node is.at in
    few_slots store.shape.axes node kind keeps.extents keeps.names

pub can_lengthen : (store : StoreWords) (number i : ℕ) (node : NodeShape) (kept : NodeWords) (lengths : List ℕ) → IsAt store number i node kept → AcceptedKeepsRules store.shape → node.kind ≡ Dynamic → CanSettleLengths store number lengths → AtNodeOf (CanLengthen lengths (count_of node.chunk)) store i
can_lengthen store number i node kept lengths is rules kind can =
    let size : ℕ = size_of node.sizes in
    let same = lengths_are store number i node kept is in
    let word : (p : ℕ) → slice_index (lengths_of store number) p ≡ slice_index kept.lengths p = λ p. ap (λ l. slice_index l p) same in
    let Comes : ℕ → Type 0 = ComesBelow kept.lengths lengths size in
    says_with (Both (EachSlot Comes SharesParent) ByParents) (CanLengthen lengths (count_of node.chunk)) store number i node kept is
    (both_at (EachSlot Comes SharesParent) ByParents store.shape.nodes store.nodes 1 is_root i
    (each_slot Comes SharesParent store number i node kept is (shares_parent store number i node kept lengths is kind can))
    (by_parents store.shape.nodes store.nodes 1 is_root i is.well.nodes_fit (within_nodes store number i node kept is)))
    (λ slots live mine both.
    let own : IsDynamicNode node kept slots live = subst (λ k. IsNode k node kept slots live) kind mine in
    record {
      is_dynamic = kind;
      chunk_is = refl;
      few = small store number i node kept is rules kind;
      as_many = can.as_many ∙ ap length same;
      rise = λ p. omega (arith, can.rise p, word p);
      short = λ p. omega (arith, can.short p, size_here store number i node kept is);
      in_live = λ q on. elim (cases_Bool (below_length kept.lengths size q)) [
        | inl was ↦ own.in_live q was
        | inr off ↦ let shares = both.0 q (off, on) in both.1 q shares.0 (sym shares.1) ∙ shares.2.is_live
      ];
    })

pub lengths_grow : (store now : StoreWords) (number i : ℕ) (node : NodeShape) (kept : NodeWords) (lengths : List ℕ) → IsAt store number i node kept → AcceptedKeepsRules store.shape → node.kind ≡ Dynamic → CanSettleLengths store number lengths → (changed : ChangesNode (IsRefitted lengths (count_of node.chunk)) store now i) → AtNodeOf (NodeGrows changed.after) store i
lengths_grow store now number i node kept lengths is rules kind can changed =
    lengths_grow_at store i lengths (count_of node.chunk) changed.kept changed.after is.well (can_lengthen store number i node kept lengths is rules kind can) changed.was changed.change

pub lengths_keep : (store now : StoreWords) (number i : ℕ) (node : NodeShape) (kept : NodeWords) (lengths : List ℕ) → IsAt store number i node kept → AcceptedKeepsRules store.shape → node.kind ≡ Dynamic → CanSettleLengths store number lengths → ChangesNode (IsRefitted lengths (count_of node.chunk)) store now i → KeepsCells store now
lengths_keep store now number i node kept lengths is rules kind can changed =
    subst (λ s. KeepsCells store s) (sym changed.now_is)
    (keeps_cells store i changed.after (lengths_grow store now number i node kept lengths is rules kind can changed))

-- as many chunks as its cap
pub places_are : (store : StoreWords) (number i : ℕ) (node : NodeShape) (kept : NodeWords) → IsAt store number i node kept → node.kind ≡ Dynamic → place_count kept.pool ≡ count_of node.cap
places_are store number i node kept is kind =
    fact_at (place_count kept.pool ≡ count_of node.cap) store number i node kept is
    (λ slots live mine. let own : IsDynamicNode node kept slots live = subst (λ k. IsNode k node kept slots live) kind mine in own.places)

-- ── Wanted indices ──

pub opening_for : (store : StoreWords) (number i : ℕ) (node : NodeShape) (kept : NodeWords) (wanted : List Coord) → IsAt store number i node kept → PathIsSlot store.shape → AcceptedKeepsRules store.shape → node.kind ≡ Dynamic → DynamicOpening store i (count_of node.cap) (count_of node.chunk) wanted (numbers_for store i wanted).0
opening_for store number i node kept wanted is paths rules kind = record {
  well = is.well;
  node = node;
  kept = kept;
  is = record {
    within = omega (arith, within_nodes store number i node kept is);
    are_nodes = is.well.nodes_fit;
    at = is.at;
    has = is.has;
    dynamic = kind;
    paths = λ c n. paths is.well.accepted c n;
  };
  cap_is = refl;
  chunk_is = refl;
  few = small store number i node kept is rules kind;
  numbers = (numbers_for store i wanted).1;
}

last_low : (nodes : List NodeShape) (i : ℕ) (s : List ℕ) (o : ℕ) (node : NodeShape) → length s ≡ i → IsSlot (take (suc i) nodes) (s ++ o ∷ []) → slice_get nodes i ≡ Some node → o < size_of node.sizes
last_low [] i s o node long is at = absurd (none-some node at)
last_low (first ∷ later) zero [] o node long is at = subst (λ (n : NodeShape). o < size_of n.sizes) (same_Some first node at) is.0
last_low (first ∷ later) zero (v ∷ s) o node long is at = absurd (omega (arith, long))
last_low (first ∷ later) (suc i) [] o node long is at = absurd (omega (arith, long))
last_low (first ∷ later) (suc i) (v ∷ s) o node long is at = last_low later i s o node (omega (arith, long)) is.1 at

-- the parts of the number of a coordinate's slot: its parent and its offset
pub record HasParts (store : StoreWords) (number : ℕ) (node : NodeShape) (at : Coord) (q : ℕ) : Type 0 where
  pub parent : place_in store number at ≡ Some (q / size_of node.sizes)
  pub offset : q % size_of node.sizes ≡ offset_in store number at

parts_of : (store : StoreWords) (number i : ℕ) (node : NodeShape) (kept : NodeWords) (at : Coord) (q : ℕ) → IsAt store number i node kept → PathIsSlot store.shape → node.kind ≡ Dynamic → slot_number_in store.shape.nodes store.nodes 0 (path store.shape at (suc i)) ≡ Some q → HasParts store number node at q
parts_of store number i node kept at q is paths kind e =
    let nodes : List NodeShape = store.shape.nodes in
    let within : i < length nodes = within_nodes store number i node kept is in
    let o : ℕ = slice_index (offsets nodes at) i in
    let long : length (path store.shape at i) ≡ i = path_long store.shape at i (omega (arith, within)) in
    let whole : path store.shape at (suc i) ≡ path store.shape at i ++ o ∷ [] = path_more store.shape at i within in
    let low : o < size_of node.sizes = last_low nodes i (path store.shape at i) o node long (subst (λ s. IsSlot (take (suc i) nodes) s) whole (paths is.well.accepted at (suc i))) is.at in
    let d : DynamicAt store i node kept = record {
      within = omega (arith, within);
      are_nodes = is.well.nodes_fit;
      at = is.at;
      has = is.has;
      dynamic = kind;
      paths = λ c n. paths is.well.accepted c n;
    } in
    let place = place_of_number store i node kept d (path store.shape at i) o q long low (ap (slot_number_in nodes store.nodes 0) (sym whole) ∙ e) in
    let there : slot_number_in nodes store.nodes 0 (path store.shape at number) ≡ Some q = ap (λ n. slot_number_in nodes store.nodes 0 (path store.shape at n)) is.next ∙ e in
    record {
      parent = word_is store number i node kept (path store.shape at number) is
          ∙ ap (option_map (word_number node.kind node)) there
          ∙ ap (λ k. Some (word_number k node q)) kind;
      offset = place.rest ∙ ap (slice_index (offsets nodes at)) (sym (back_to number i is.next));
    }

-- the number of a coordinate's slot, where its parent is known
number_of : (store : StoreWords) (number i : ℕ) (node : NodeShape) (kept : NodeWords) (at : Coord) (parent : ℕ) → IsAt store number i node kept → place_in store number at ≡ Some parent → (q : ℕ) × (slot_number_in store.shape.nodes store.nodes 0 (path store.shape at (suc i)) ≡ Some q)
number_of store number i node kept at parent is e =
    let found = of_map (slot_number_in store.shape.nodes store.nodes 0 (path store.shape at number))
    (sym (word_is store number i node kept (path store.shape at number) is) ∙ e) in
    (found.0, ap (λ n. slot_number_in store.shape.nodes store.nodes 0 (path store.shape at n)) (sym is.next) ∙ found.1)
  where
    of_map : (o : Option ℕ) → option_map (word_number node.kind node) o ≡ Some parent → (q : ℕ) × (o ≡ Some q)
    of_map None e = absurd (none-some parent e)
    of_map (Some q) e = (q, refl)

pub raised_by : (store : StoreWords) (number i : ℕ) (node : NodeShape) (kept : NodeWords) (lengths : List ℕ) (wanted : List Coord) → IsAt store number i node kept → PathIsSlot store.shape → node.kind ≡ Dynamic → CanSettleLengths store number lengths → WantedAreBelow store number lengths wanted → NewLengthsAreWanted store number lengths wanted → RiseByMany kept.lengths lengths (size_of node.sizes) (numbers_for store i wanted).0
raised_by store number i node kept lengths wanted is paths kind can below new =
    let size : ℕ = size_of node.sizes in
    let numbers = numbers_for store i wanted in
    let same = lengths_are store number i node kept is in
    let word : (p : ℕ) → slice_index (lengths_of store number) p ≡ slice_index kept.lengths p = λ p. ap (λ l. slice_index l p) same in
    let rise : (p : ℕ) → slice_index kept.lengths p ≤ slice_index lengths p = λ p. omega (arith, can.rise p, word p) in
    record {
      as_many = can.as_many ∙ ap length same;
      rise = rise;
      short = λ p was. omega (arith, can.short p, size_here store number i node kept is);
      below = λ q. same_bool (below_length lengths size q) (below_length kept.lengths size q || list_any (λ x. keeps_too size x q) numbers.0)
          (λ on. elim (cases_Bool (below_length kept.lengths size q)) [
            | inl was ↦ or_left _ (list_any (λ x. keeps_too size x q) numbers.0) was
            | inr off ↦
                let p : ℕ = q / size in
                let wants = new p (omega (arith, word p, comes_higher kept.lengths lengths size q (off, on))) in
                let x = number_of store number i node kept wants.at p is wants.has_place in
                let parts = parts_of store number i node kept wants.at x.0 is paths kind x.1 in
                let parent : x.0 / size ≡ p = same_Some _ _ (sym parts.parent ∙ wants.has_place) in
                let low : q % size < slice_index lengths p = ltb-true (q % size) (slice_index lengths p) on in
                let reach : q % size ≤ x.0 % size = omega (arith, low, wants.reaches, parts.offset) in
                or_right (below_length kept.lengths size q) _
                (list_any-from_Any (λ y. keeps_too size y q) numbers.0 (any_of numbers.0 x.0 q (numbers.1.all wants.at wants.is_of x.0 x.1)
                (both_true (q / size == x.0 / size) (nat_le (q % size) (x.0 % size)) (eq-eqb p (x.0 / size) (sym parent)) (le-leb (q % size) (x.0 % size) reach))))
          ])
          (λ either. elim (cases_Bool (below_length kept.lengths size q)) [
            | inl was ↦
                let low : q % size < slice_index kept.lengths (q / size) = ltb-true (q % size) (slice_index kept.lengths (q / size)) was in
                lt-ltb (q % size) (slice_index lengths (q / size)) (omega (arith, low, rise (q / size)))
            | inr off ↦
                let found = Any-from_list_any (λ x. keeps_too size x q) numbers.0 (or_rest _ _ off either) in
                let x : ℕ = found.1 in
                let has : Contains numbers.0 x = (found.0, found.2, get_or_default numbers.0 found.0 x x found.2 ∙ found.3) in
                let wants = numbers.1.of_wanted x has in
                let parts = parts_of store number i node kept wants.at x is paths kind wants.has_number in
                let keeps = and_parts (q / size == x / size) (nat_le (q % size) (x % size)) found.4 in
                let parent : q / size ≡ x / size = eqb-true (q / size) (x / size) keeps.0 in
                let low : q % size ≤ x % size = leb-true (q % size) (x % size) keeps.1 in
                let reach : offset_in store number wants.at < slice_index lengths (x / size) = below wants.at wants.is_wanted (x / size) parts.parent in
                let there : slice_index lengths (x / size) ≡ slice_index lengths (q / size) = ap (slice_index lengths) (sym parent) in
                lt-ltb (q % size) (slice_index lengths (q / size)) (omega (arith, low, reach, there, parts.offset))
          ]);
    }
  where
    both_true : (a b : Bool) → a ≡ true → b ≡ true → (a && b) ≡ true
    both_true true true x y = refl
    both_true true false x y = absurd (false≢true y)
    both_true false b x y = absurd (false≢true x)

    any_of : (slots : List ℕ) (x q : ℕ) → Contains slots x → keeps_too (size_of node.sizes) x q ≡ true → (k : ℕ) × (y : ℕ) × (k < length slots) × (get_or slots k y ≡ y) × (keeps_too (size_of node.sizes) y q ≡ true)
    any_of slots x q has keeps = (has.0, x, has.1, has.2, keeps)

pub lengths_open : (store now : StoreWords) (number i : ℕ) (node : NodeShape) (kept : NodeWords) (lengths : List ℕ) (wanted : List Coord) → IsAt store number i node kept → PathIsSlot store.shape → AcceptedKeepsRules store.shape → node.kind ≡ Dynamic → CanSettleLengths store number lengths → ChangesNode (IsRefitted lengths (count_of node.chunk)) store now i → WantedAreBelow store number lengths wanted → NewLengthsAreWanted store number lengths wanted → OpensNode store now number wanted
unfolding opening_for
lengths_open store now number i node kept lengths wanted is paths rules kind can changed below new old was_open =
    let o = opening_for store number i node kept wanted is paths rules kind in
    let opens = (dynamic_opened store now i (count_of node.cap) (count_of node.chunk) wanted (numbers_for store i wanted).0 lengths (size_of node.sizes) o refl
    (raised_by store number i node kept lengths wanted is paths kind can below new) changed).0 in
    subst (λ n. IsOpenThrough now old (old ++ wanted) n) (sym is.next)
    (opens old (subst (λ n. IsOpenThrough store old (old ++ wanted) n) (back_to number i is.next) was_open))

-- ── Lengths that need more chunks than the cap ──

pub lengths_full : (store : StoreWords) (number i : ℕ) (node : NodeShape) (kept : NodeWords) (old wanted : List Coord) (lengths : List ℕ) (full : ChunkFull) → ReachLaws store.shape → IsAt store number i node kept → AcceptedKeepsRules store.shape → node.kind ≡ Dynamic → IsOpenThrough store old (old ++ wanted) i → CanSettleLengths store number lengths → WantedAreBelow store number lengths wanted → NewLengthsAreWanted store number lengths wanted → fit (count_of node.chunk) lengths (count_of node.cap) ≡ Err full → first_full store.shape (old ++ wanted) ≡ Some (record { node = number; cap = count_of node.cap })
unfolding opening_for
lengths_full store number i node kept old wanted lengths full laws is rules kind was_open can below new refused =
    let all : List Coord = old ++ wanted in
    let one : 1 + i ≡ suc i = omega arith in
    let o = opening_for store number i node kept wanted is laws.paths rules kind in
    let answer : AnswersFit lengths (count_of node.chunk) store.nodes i (Err full) = λ mine has.
    sym refused ∙ ap (fit (count_of node.chunk) lengths) (sym (places_are store number i node kept is kind)) ∙ ap (λ (k : NodeWords). fit (count_of node.chunk) lengths (place_count k.pool)) (same_Some kept mine (sym is.has ∙ has)) in
    let told = dynamic_full store i (count_of node.cap) (count_of node.chunk) wanted (numbers_for store i wanted).0 lengths (size_of node.sizes) full o refl
    (raised_by store number i node kept lengths wanted is laws.paths kind can below new) (record { parents = laws.parents; up_to = laws.up_to; once = laws.once }) answer (suc i) refl in
    let same : told.node ≡ node = same_Some told.node node (sym told.there ∙ is.at) in
    let past : count_of node.cap < need_of store.shape all (suc i) told.node = told.past old was_open in
    let needs : count_of node.cap < need_of store.shape all (1 + i) node =
    subst (λ n. count_of node.cap < need_of store.shape all n node) (sym one) (subst (λ (n : NodeShape). count_of node.cap < need_of store.shape all (suc i) n) same past) in
    full_some store.shape all 1 store.shape.nodes i node is.at
    (λ j before low at. open_fits store i old all laws is.well was_open j before low at) needs
    ∙ ap (λ n. Some (full_node n (count_of node.cap))) (one ∙ sym is.next)
  where
    full_node : ℕ → ℕ → FullNode
    full_node n m = record { node = n; cap = m }

-- ── As the code reads the last node ──

pub at_last : (store : StoreWords) → IsWellFormed store → (many : ℕ) → many ≡ length store.shape.nodes → 1 ≤ many → kind_at store.shape.nodes (length store.shape.nodes) ≡ Dynamic → (node : NodeShape) × (kept : NodeWords) × IsAt store (length store.shape.nodes) (many - 1) node kept × (node.kind ≡ Dynamic)
at_last store well many same some dynamic =
    let at = at_number store well (length store.shape.nodes) (omega (arith, same, some)) (λ dense. cc (sym dynamic ∙ dense)) in
    (at.0, at.1, subst (λ n. IsAt store (length store.shape.nodes) (n - 1) at.0 at.1) (sym same) at.2, sym at.3 ∙ dynamic)

pub node_same : (store : StoreWords) (number i : ℕ) (node shape : NodeShape) (kept : NodeWords) → IsAt store number i node kept → layouts.IsNumberedNode store.shape number shape → node ≡ shape
node_same store number i node shape kept is here =
    same_Some node shape (sym is.at ∙ ap (slice_get store.shape.nodes) (sym (back_to number i is.next)) ∙ here.there)
