-- A store of fresh words and rows of zeros is well-formed, and stands for the layout in which nothing is written.
use Rattle.std.proofs.Common.{◌≡◌, ◌≢◌, ℕ, zero, suc, ◌+◌, ◌*◌, ◌<◌, ◌≤◌, ◌^◌, Bool, true, false, not, ◌&&◌, ◌==◌, List, [], ◌∷◌, length, drop, map, get_or, refl, sym, ap, ◌∙◌, subst, arith, cond}
use Rattle.std.specs.Prelude.{nat_lt, nat_le, Option, Some, None, slice_get}
use Rattle.std.specs.Option.{option_map}
use Rattle.std.specs.List.{All, list_all, filter, range_with_len}
use Rattle.std.proofs.lemmas.Bool.{false≢true, and_parts, eqb-true}
use Rattle.std.proofs.lemmas.Bool.Decides.{nat_tests}
use Rattle.std.proofs.lemmas.List.{length-map, append-nil}
use Rattle.std.proofs.lemmas.List.Elements.{All-map}
use Rattle.std.proofs.lemmas.Option.{slice_get-map, slice_get-get_or}
use Rattle.sg_coord.specs.declared.coord.Coord.{Coord}
use Rattle.sg_coord.specs.Bounds.{Bounds, IsBounds, volume}
use Rattle.sg_coord.specs.Coord.{is_inside}
use Rattle.sg_layout.specs.declared.shape.Kind.{Kind}
use Rattle.sg_layout.specs.declared.shape.Kind.TheVariants.{Dense, Bitmasked, Pointer, Hash, Dynamic}
use Rattle.sg_layout.specs.declared.shape.NodeShape.{NodeShape}
use Rattle.sg_layout.specs.declared.shape.Shape.{Shape}
use Rattle.sg_layout.specs.Axes.{count_of, size_of, slots_of, bounds_of_shape}
use Rattle.sg_layout.specs.Accepted.{IsAccepted}
use Rattle.sg_layout.specs.Rules.{is_field, is_cap, has_good_caps, has_good_order}
use Rattle.sg_layout.specs.RuleLaws.{AcceptedKeepsRules}
use Rattle.sg_layout.specs.Closure.{closure}
use Rattle.sg_layout.specs.ClosureLaws.{ClosureIsClosed}
use Rattle.sg_layout.specs.Live.{kind_at, is_live}
use Rattle.sg_layout.specs.LiveLaws.{LiveAbsorbs}
use Rattle.sg_layout.specs.PathLaws.{SlotsFillVolume}
use Rattle.sg_layout.specs.StorageWords.{words_of_shape, most_words}
use Rattle.sg_flat.specs.Words.{word_at}
use Rattle.sg_flat.specs.State.{IsFlatField, IsFlatLayout, value_in, words_or_none, value_at, opening_layout}
use Rattle.sg_store.specs.declared.node.NodeWords.{NodeWords}
use Rattle.sg_store.specs.StoreWords.{StoreWords}
use Rattle.sg_store.specs.WellFormed.{places_below, cell_count, is_root, IsWellFormed}
use Rattle.sg_store.specs.StandsFor.{IsSlotOf, StandsFor}
use Rattle.sg_store.specs.steps.Fresh.{AreFresh, IsCapped, KeysFit, EndWithDynamic, IsRoomy, IsZeroRow}
use Rattle.sg_store.proofs.Walking.{own_kind, own_kind_is}
use Rattle.sg_store.proofs.Opened.{slot_long}
use Rattle.sg_store.proofs.Opening.{fresh_fit, fresh_within, fresh_parted, fresh_off}
use Rattle.sg_store.proofs.Roomy.{AreLater, AreOrdered, few_cells, few_chains, some_parts, at_least}

-- ── Accepted shapes are roomy ──

above_zero : (n : ℕ) → nat_lt 0 n ≡ true → 1 ≤ n
above_zero n some = grind (arith, nat_tests)

within : (n most : ℕ) → nat_le n most ≡ true → n ≤ most
within n most few = grind (arith, nat_tests)

some_fields : (shape : Shape) → IsAccepted shape → 1 ≤ length shape.fields
some_fields shape accepted =
    let axes : Bool = nat_lt 0 shape.axes && nat_le shape.axes 3 in
    let nodes : Bool = nat_lt 0 (length shape.nodes) && nat_le (length shape.nodes) 6 in
    let fields : Bool = nat_lt 0 (length shape.fields) && nat_le (length shape.fields) 16 in
    let typed : Bool = list_all is_field shape.fields in
    let after = (and_parts axes (nodes && (fields && typed)) accepted.declared).1 in
    let those = (and_parts fields typed (and_parts nodes (fields && typed) after).1).0 in
    above_zero (length shape.fields) (and_parts (nat_lt 0 (length shape.fields)) (nat_le (length shape.fields) 16) those).0

cap_is : (node : NodeShape) → is_cap node.cap ≡ true → (1 ≤ count_of node.cap) × (count_of node.cap ≤ 2 ^ 16)
cap_is node good =
    let parts = and_parts (nat_lt 0 (count_of node.cap)) (nat_le (count_of node.cap) (2 ^ 16)) good in
    (above_zero (count_of node.cap) parts.0, within (count_of node.cap) (2 ^ 16) parts.1)

pub capped : (kind : Kind) (node : NodeShape) → has_good_caps kind node ≡ true → IsCapped kind node
capped Dense node good = tt
capped Bitmasked node good = tt
capped Pointer node good = cap_is node good
capped Hash node good = cap_is node good
capped Dynamic node good =
    let some : Bool = nat_lt 0 (count_of node.chunk) in
    let few : Bool = nat_le (count_of node.chunk) (size_of node.sizes) in
    let parts = and_parts (is_cap node.cap) (some && few) good in
    let chunks = and_parts some few parts.1 in
    let cap = cap_is node parts.0 in
    (cap.0, cap.1, above_zero (count_of node.chunk) chunks.0, within (count_of node.chunk) (size_of node.sizes) chunks.1)

pub caps_of : (shape : Shape) → AcceptedKeepsRules shape → IsAccepted shape → All (λ node. IsCapped node.kind node) shape.nodes
caps_of shape rules accepted k d below =
    let keeps = (rules.0 accepted.keeps_rules).0 in
    capped (get_or shape.nodes k d).kind (get_or shape.nodes k d) (keeps k (get_or shape.nodes k d) (slice_get-get_or shape.nodes k d below)).caps

-- the laws of layouts and coordinates that tell it
pub record RoomLaws (shape : Shape) : Type 0 where
  pub rules : AcceptedKeepsRules shape
  pub fill : SlotsFillVolume shape
  pub bounds : IsBounds (bounds_of_shape shape)

some_product : (x y : ℕ) → 1 ≤ x → 1 ≤ y → 1 ≤ x * y
some_product zero y one two = absurd (omega (arith, one))
some_product (suc x) zero one two = absurd (omega (arith, two))
some_product (suc x) (suc y) one two = omega arith

-- a hash node is the first
hash_first : (kind : Kind) (number : ℕ) (later : List NodeShape) → has_good_order kind number later ≡ true → kind ≡ Hash → number ≡ 1
hash_first kind number later good is = eqb-true number 1 (sym (ap (λ k. has_good_order k number later) is) ∙ good)

-- and a dynamic node the last
dynamic_last : (number : ℕ) (later : List NodeShape) → has_good_order Dynamic number later ≡ true → later ≡ []
dynamic_last number [] good = refl
dynamic_last number (node ∷ later) good = absurd (false≢true good)

last_where : (kind : Kind) (number : ℕ) (later : List NodeShape) → has_good_order kind number later ≡ true → kind ≡ Dynamic → later ≡ []
last_where kind number later good is = dynamic_last number later (sym (ap (λ k. has_good_order k number later) is) ∙ good)

-- each of the nodes, numbered from the given number on, keeps the rule of order
abbrev pub InOrder : ℕ → List NodeShape → Type 0
InOrder number [] = Unit {0}
InOrder number (node ∷ later) = (has_good_order node.kind number later ≡ true) × InOrder (suc number) later

later_from : (number : ℕ) (nodes : List NodeShape) → 2 ≤ number → InOrder number nodes → AreLater nodes
later_from number [] far order = tt
later_from number (node ∷ later) far order = (
  λ hash. let first : number ≡ 1 = hash_first node.kind number later order.0 hash in absurd (omega (arith, far, first)),
  λ dynamic. last_where node.kind number later order.0 dynamic,
  later_from (suc number) later (omega (arith, far)) order.1,
)

in_order : (number : ℕ) (nodes : List NodeShape) → ((k : ℕ) (node : NodeShape) → slice_get nodes k ≡ Some node → has_good_order node.kind (number + k) (drop (suc k) nodes) ≡ true) → InOrder number nodes
in_order number [] each = tt
in_order number (node ∷ later) each =
    let zeroth : number + 0 ≡ number = omega arith in (
      subst (λ n. has_good_order node.kind n later ≡ true) zeroth (each 0 node refl),
      in_order (suc number) later (λ k n at. let next : number + suc k ≡ suc number + k = omega arith in subst (λ m. has_good_order n.kind m (drop (suc k) later) ≡ true) next (each (suc k) n at)),
    )

pub ordered : (shape : Shape) → AcceptedKeepsRules shape → IsAccepted shape → AreOrdered shape.nodes
ordered shape rules accepted =
    follow shape.nodes (in_order 1 shape.nodes (λ k node at. let next : suc k ≡ 1 + k = omega arith in
    subst (λ m. has_good_order node.kind m (drop (suc k) shape.nodes) ≡ true) next ((rules.0 accepted.keeps_rules).0 k node at).order))
  where
    follow : (nodes : List NodeShape) → InOrder 1 nodes → AreOrdered nodes
    follow [] order = tt
    follow (node ∷ later) order = (λ dynamic. last_where node.kind 1 later order.0 dynamic, later_from 2 later (omega arith) order.1)

later_end : (nodes : List NodeShape) → AreLater nodes → EndWithDynamic nodes
later_end [] are = tt
later_end (node ∷ later) are = (are.1, later_end later are.2)

ordered_end : (nodes : List NodeShape) → AreOrdered nodes → EndWithDynamic nodes
ordered_end [] are = tt
ordered_end (node ∷ later) are = (are.0, later_end later are.1)

-- the slots of a hash node, which is the first, have numbers that are keys
no_keys : (nodes : List NodeShape) (places : ℕ) → AreLater nodes → KeysFit nodes places
no_keys [] places are = tt
no_keys (node ∷ others) places are =
    (λ hash. absurd (are.0 hash), no_keys others (places_below node.kind node (places * size_of node.sizes)) are.2)

first_keys : (nodes : List NodeShape) → AreOrdered nodes → 1 ≤ slots_of nodes → slots_of nodes ≤ 2 ^ 30 → KeysFit nodes 1
first_keys [] are some few = tt
first_keys (node ∷ others) are some few =
    let rest : 1 ≤ slots_of others = (some_parts (size_of node.sizes) (slots_of others) some).1 in
    let grown : size_of node.sizes ≤ size_of node.sizes * slots_of others = at_least (size_of node.sizes) (slots_of others) rest in
    (λ hash. omega (arith, few), no_keys others (places_below node.kind node (1 * size_of node.sizes)) are.1)

pub roomy_start : (shape : Shape) → RoomLaws shape → IsAccepted shape → words_of_shape shape ≤ most_words → IsRoomy shape.nodes 1
roomy_start shape laws accepted few =
    let many : slots_of shape.nodes ≡ volume (bounds_of_shape shape) = laws.fill accepted in
    let bounds : Bounds = bounds_of_shape shape in
    record {
      room = omega (arith, many, laws.bounds.volume_most);
      few = omega (arith, many, laws.bounds.volume_most);
      some = subst (λ n. 1 ≤ n) (sym many) (some_product (bounds.a * bounds.b) bounds.c (some_product bounds.a bounds.b laws.bounds.a_some laws.bounds.b_some) laws.bounds.c_some);
      caps = caps_of shape laws.rules accepted;
      keys_fit = first_keys shape.nodes (ordered shape laws.rules accepted)
          (subst (λ n. 1 ≤ n) (sym many) (some_product (bounds.a * bounds.b) bounds.c (some_product bounds.a bounds.b laws.bounds.a_some laws.bounds.b_some) laws.bounds.c_some))
          (omega (arith, many, laws.bounds.volume_most));
      few_chains = omega (arith, few_chains shape (ordered shape laws.rules accepted), few);
      last = ordered_end shape.nodes (ordered shape laws.rules accepted);
    }

-- ── A fresh store ──

-- fresh words and rows of zeros for a shape whose storage words are few enough
pub record IsFreshStore (store : StoreWords) : Type 0 where
  pub accepted : IsAccepted store.shape
  pub order : AreOrdered store.shape.nodes
  pub few_words : words_of_shape store.shape ≤ most_words
  pub words : AreFresh store.shape.nodes store.nodes 1
  pub field_count : length store.fields ≡ length store.shape.fields
  pub zeros : All (IsZeroRow (cell_count store.shape)) store.fields

pub fresh_well_formed : (store : StoreWords) → IsFreshStore store → IsWellFormed store
fresh_well_formed store fresh = record {
  accepted = fresh.accepted;
  nodes_fit = fresh_fit store.shape.nodes store.nodes 1 is_root fresh.words;
  within_caps = fresh_within store.shape.nodes store.nodes 1 fresh.words;
  numbers_parted = fresh_parted store.shape.nodes store.nodes 1 fresh.words;
  few_words = fresh.few_words;
  few_cells = omega (arith, few_cells store.shape fresh.order (some_fields store.shape fresh.accepted), fresh.few_words);
  field_count = fresh.field_count;
  rows_fit = λ k d below.
      let row : IsZeroRow (cell_count store.shape) (get_or store.fields k d) = fresh.zeros k d below in
      record { cells = row.long; only_reached = λ cell some. absurd (some (row.zero cell)) };
}

-- ── What it stands for ──

-- the laws of layouts that tell it
pub record OpeningLaws (shape : Shape) : Type 0 where
  pub closed : ClosureIsClosed shape
  pub absorbs : LiveAbsorbs shape

none_kept : (rows : List ℕ) → filter (λ (entry : ℕ × ℕ). not (entry.1 == 0)) (map {B = ℕ × ℕ} (λ row. (row, word_at [] row)) rows) ≡ []
none_kept [] = refl
none_kept (row ∷ rows) = none_kept rows

empty_field : (shape : Shape) (active : List Coord) → IsFlatField shape active []
empty_field shape active = record {
  canonical = sym (none_kept (range_with_len 0 (volume (bounds_of_shape shape))));
  in_range = refl;
  active_rows = λ k d below. absurd (omega (arith, below));
}

pub opening_is_flat : (shape : Shape) → OpeningLaws shape → IsFlatLayout shape (opening_layout shape)
opening_is_flat shape laws = record {
  closed = sym (laws.closed []);
  field_count = length-map shape.fields (λ _. []);
  fields_fit = All-map (IsFlatField shape (closure shape [])) (λ _. let none : List (ℕ × ℕ) = [] in none) shape.fields (λ k d below. empty_field shape (closure shape []));
}

pub nothing_live : (shape : Shape) (number : ℕ) (slot : List ℕ) → OpeningLaws shape → IsSlotOf shape number slot → is_live shape (closure shape []) number slot ≡ false
nothing_live shape number slot laws is =
    ap (λ list. is_live shape list number slot) (sym (append-nil (closure shape [])))
    ∙ laws.absorbs [] [] (λ at has. absurd (omega (arith, has.1))) number (record { first = is.first; within = is.within; sparse = is.has_activity }) slot

sparse_kind : (shape : Shape) (number : ℕ) (slot : List ℕ) → IsSlotOf shape number slot → own_kind shape.nodes slot ≢ Dense
sparse_kind shape number slot is = follow slot (slot_long shape.nodes number slot is.within is.is_slot)
  where
    follow : (s : List ℕ) → length s ≡ number → own_kind shape.nodes s ≢ Dense
    follow [] long = absurd (omega (arith, long, is.first))
    follow (o ∷ s) long = λ e. is.has_activity (ap (kind_at shape.nodes) (sym long) ∙ sym (own_kind_is shape.nodes o s) ∙ e)

no_words : {A : Type 0} (o : Option A) → words_or_none (option_map (λ (_ : A). let none : List (ℕ × ℕ) = [] in none) o) ≡ []
no_words None = refl
no_words (Some x) = refl

zero_in : (b : Bool) → let zeros : ℕ = cond b 0 0 in zeros ≡ 0
zero_in true = refl
zero_in false = refl

pub opening_value : (shape : Shape) (place : ℕ) (at : Coord) → value_at shape (opening_layout shape) place at ≡ 0
opening_value shape place at =
    let none : List (ℕ × ℕ) = [] in
    let words : words_or_none (slice_get (opening_layout shape).fields place) ≡ none =
    ap words_or_none (slice_get-map (λ _. none) shape.fields place) ∙ no_words (slice_get shape.fields place) in
    ap (λ ws. value_in (bounds_of_shape shape) ws at) words ∙ zero_in (is_inside (bounds_of_shape shape) at)

pub fresh_stands : (store : StoreWords) → IsFreshStore store → OpeningLaws store.shape → StandsFor store (opening_layout store.shape)
fresh_stands store fresh laws = record {
  is_flat = opening_is_flat store.shape laws;
  live_slots = λ number slot is.
      fresh_off store.shape.nodes store.nodes 1 fresh.words 0 slot (sparse_kind store.shape number slot is)
      ∙ sym (nothing_live store.shape number slot laws is);
  values = λ at cell leads place there.
      let in_fields : place < length store.fields = omega (arith, fresh.field_count) in
      (fresh.zeros place [] in_fields).zero cell ∙ sym (opening_value store.shape place at);
}

-- one that was made for a shape
pub fresh_made : (shape copy : Shape) (words : List NodeWords) (rows : List (List ℕ)) (fields cells : ℕ) → copy ≡ shape → AcceptedKeepsRules shape → IsAccepted shape → words_of_shape shape ≤ most_words → AreFresh shape.nodes words 1 → length rows ≡ fields → fields ≡ length shape.fields → cells ≡ cell_count shape → All (IsZeroRow cells) rows → IsFreshStore (record { shape = copy; nodes = words; fields = rows })
fresh_made shape copy words rows fields cells same rules accepted few fresh many as_many counted zeros =
    let made : Shape → StoreWords = λ s. record { shape = s; nodes = words; fields = rows } in
    let here : IsFreshStore (made shape) = record {
      accepted = accepted;
      order = ordered shape rules accepted;
      few_words = few;
      words = fresh;
      field_count = many ∙ as_many;
      zeros = subst (λ n. All (IsZeroRow n) rows) counted zeros;
    } in
    subst (λ s. IsFreshStore (made s)) (sym same) here
