-- A node of any kind whose words have grown by the slots of wanted coordinates: the store is open one node further.
use Rattle.std.proofs.Common.{◌≡◌, ◌≢◌, ℕ, zero, suc, ◌-◌, Bool, true, false, ◌||◌, List, [], ◌∷◌, ◌++◌, refl, sym, ap, ◌∙◌, subst, arith, inl, inr}
use Rattle.std.specs.Prelude.{Option, Some, None, slice_get, slice_set, ◌==◌}
use Rattle.std.specs.List.{Contains, list_any}
use Rattle.std.proofs.lemmas.Bool.{false≢true, cases_Bool, eqb-true, eq-eqb}
use Rattle.std.proofs.lemmas.List.{get_or_default}
use Rattle.std.proofs.lemmas.List.Folds.{Any-from_list_any, list_any-from_Any}
use Rattle.std.proofs.lemmas.Option.{none-some, same_Some}
use Rattle.sg_coord.specs.declared.coord.Coord.{Coord}
use Rattle.sg_layout.specs.declared.shape.Kind.TheVariants.{Dynamic}
use Rattle.sg_layout.specs.declared.shape.NodeShape.{NodeShape}
use Rattle.sg_layout.specs.Path.{path}
use Rattle.sg_layout.specs.Live.{kind_or, kind_at}
use Rattle.sg_layout.specs.PathLaws.{PathIsSlot}
use Rattle.sg_store.specs.declared.node.NodeWords.{NodeWords}
use Rattle.sg_store.specs.StoreWords.{StoreWords}
use Rattle.sg_store.specs.Slots.{is_set}
use Rattle.sg_store.specs.Walks.{slot_number_in, place_in}
use Rattle.sg_store.specs.WellFormed.{is_root}
use Rattle.sg_store.specs.Reaching.{IsOpenThrough}
use Rattle.sg_store.specs.Opening.{IsPlaceOf, OpensNode}
use Rattle.sg_store.specs.steps.AtNode.{AtNodeOf, IsNumberOf, AreNumbers}
use Rattle.sg_store.specs.steps.Settling.{NodeGrows}
use Rattle.sg_store.proofs.Opened.{with_node, AddsSlots, opens_next, same_bool}
use Rattle.sg_store.proofs.Wanted.{Wants, numbers_none}
use Rattle.sg_store.proofs.Counting.{node_of}
use Rattle.sg_store.proofs.AtNumber.{IsAt, back_to, within_nodes, slot_word}

-- ── The numbers of wanted slots, as a list ──

contains_rest : {A : Type 0} → (x : A) (xs : List A) (y : A) → Contains xs y → Contains (x ∷ xs) y
contains_rest x xs y has = (suc has.0, omega (arith, has.1), has.2)

numbers_front : (store : StoreWords) (i : ℕ) (at : Coord) (coords : List Coord) (slots : List ℕ) → AreNumbers store i coords slots → (number : Option ℕ) → slot_number_in store.shape.nodes store.nodes 0 (path store.shape at (suc i)) ≡ number → (more : List ℕ) × AreNumbers store i (at ∷ coords) more
numbers_front store i at coords slots are None none = (
  slots,
  record {
    of_wanted = λ number has.
        let found = are.of_wanted number has in
        record { at = found.at; is_wanted = contains_rest at coords found.at found.is_wanted; has_number = found.has_number };
    all = all;
  },
)
  where
    all : (c : Coord) → Contains (at ∷ coords) c → (number : ℕ) → slot_number_in store.shape.nodes store.nodes 0 (path store.shape c (suc i)) ≡ Some number → Contains slots number
    all c (zero, below, same) number e =
        absurd (none-some number (sym none ∙ ap (λ c. slot_number_in store.shape.nodes store.nodes 0 (path store.shape c (suc i))) same ∙ e))
    all c (suc k, below, same) number e = are.all c (k, omega (arith, below), same) number e
numbers_front store i at coords slots are (Some q) some = (q ∷ slots, record { of_wanted = of_wanted; all = all })
  where
    of_wanted : (number : ℕ) → Contains (q ∷ slots) number → IsNumberOf store i (at ∷ coords) number
    of_wanted number (zero, below, same) = record { at = at; is_wanted = (zero, omega arith, refl); has_number = some ∙ ap Some same }
    of_wanted number (suc k, below, same) =
        let found = are.of_wanted number (k, omega (arith, below), same) in
        record { at = found.at; is_wanted = contains_rest at coords found.at found.is_wanted; has_number = found.has_number }

    all : (c : Coord) → Contains (at ∷ coords) c → (number : ℕ) → slot_number_in store.shape.nodes store.nodes 0 (path store.shape c (suc i)) ≡ Some number → Contains (q ∷ slots) number
    all c (zero, below, same) number e =
        (zero, omega arith, same_Some q number (sym some ∙ ap (λ c. slot_number_in store.shape.nodes store.nodes 0 (path store.shape c (suc i))) same ∙ e))
    all c (suc k, below, same) number e = contains_rest q slots number (are.all c (k, omega (arith, below), same) number e)

pub numbers_for : (store : StoreWords) (i : ℕ) (wanted : List Coord) → (slots : List ℕ) × AreNumbers store i wanted slots
numbers_for store i [] = ([], numbers_none store i)
numbers_for store i (at ∷ coords) =
    let rest = numbers_for store i coords in
    numbers_front store i at coords rest.0 rest.1 (slot_number_in store.shape.nodes store.nodes 0 (path store.shape at (suc i))) refl

kind_there : (nodes : List NodeShape) (i : ℕ) (node : NodeShape) → slice_get nodes i ≡ Some node → kind_at nodes (suc i) ≡ node.kind
kind_there nodes i node at =
    let back : suc i - 1 ≡ i = omega arith in
    ap (λ k. kind_or (slice_get nodes k)) back ∙ ap kind_or at

-- wanted coordinates with these numbers
pub wants_at : (store : StoreWords) (number i : ℕ) (node : NodeShape) (kept : NodeWords) (wanted : List Coord) → IsAt store number i node kept → PathIsSlot store.shape → node.kind ≢ Dynamic → Wants store i wanted (numbers_for store i wanted).0
wants_at store number i node kept wanted is paths other = record {
  paths = λ at n. paths is.well.accepted at n;
  within = omega (arith, within_nodes store number i node kept is);
  are_nodes = is.well.nodes_fit;
  numbers = (numbers_for store i wanted).1;
  one_slot = λ dynamic. other (sym (kind_there store.shape.nodes i node is.at) ∙ dynamic);
}

-- ── One node further ──

-- what was set is set still
grown_set : (store : StoreWords) (number i : ℕ) (node : NodeShape) (kept after : NodeWords) → IsAt store number i node kept → AtNodeOf (NodeGrows after) store i → (q : ℕ) → is_set node.kind node kept q ≡ true → is_set node.kind node after q ≡ true
grown_set store number i node kept after is grown q =
    let found = node_of (NodeGrows after) store.shape.nodes store.nodes 1 is_root i grown in
    let a : found.node ≡ node = same_Some found.node node (sym found.at ∙ is.at) in
    let b : found.kept ≡ kept = same_Some found.kept kept (sym found.has ∙ is.has) in
    let stays : is_set found.node.kind found.node found.kept q ≡ true → is_set found.node.kind found.node after q ≡ true = found.says.set_stays q in
    subst (λ (n : NodeShape). is_set n.kind n kept q ≡ true → is_set n.kind n after q ≡ true) a
    (subst (λ (k : NodeWords). is_set found.node.kind found.node k q ≡ true → is_set found.node.kind found.node after q ≡ true) b stays)

set_there : (words : List NodeWords) (i : ℕ) (kept after : NodeWords) → slice_get words i ≡ Some kept → slice_get (slice_set words i after) i ≡ Some after
set_there [] i kept after has = absurd (none-some kept has)
set_there (own ∷ words) zero kept after has = refl
set_there (own ∷ words) (suc i) kept after has = set_there words i kept after has

pub or_left : (a b : Bool) → a ≡ true → (a || b) ≡ true
or_left true b e = refl
or_left false b e = absurd (false≢true e)

pub or_right : (a b : Bool) → b ≡ true → (a || b) ≡ true
or_right true b e = refl
or_right false b e = e

pub or_rest : (a b : Bool) → a ≡ false → (a || b) ≡ true → b ≡ true
or_rest true b off e = absurd (false≢true (sym off))
or_rest false b off e = e

pub found_number : (slots : List ℕ) (q : ℕ) → list_any (λ x. x == q) slots ≡ true → Contains slots q
found_number slots q any =
    let found = Any-from_list_any (λ x. x == q) slots any in
    let same : found.1 ≡ q = eqb-true found.1 q found.4 in
    (found.0, found.2, get_or_default slots found.0 q found.1 found.2 ∙ found.3 ∙ same)

pub number_found : (slots : List ℕ) (q : ℕ) → Contains slots q → list_any (λ x. x == q) slots ≡ true
number_found slots q has = list_any-from_Any (λ x. x == q) slots (has.0, q, has.1, has.2, eq-eqb q q refl)

-- a node that keeps the wanted slots besides the old ones
pub opened_by : (store : StoreWords) (number i : ℕ) (node : NodeShape) (kept after : NodeWords) (wanted : List Coord) → IsAt store number i node kept → PathIsSlot store.shape → node.kind ≢ Dynamic → AtNodeOf (NodeGrows after) store i → ((q : ℕ) → is_set node.kind node kept q ≡ false → is_set node.kind node after q ≡ true → IsPlaceOf store number wanted q) → ((at : Coord) → Contains wanted at → (q : ℕ) → place_in store number at ≡ Some q → is_set node.kind node after q ≡ true) → OpensNode store (with_node store i after) number wanted
opened_by store number i node kept after wanted is paths other grown added filled old was_open =
    let numbers = numbers_for store i wanted in
    let slots : List ℕ = numbers.0 in
    let adds : AddsSlots after slots node kept = λ q. same_bool _ _
    (λ on. elim (cases_Bool (is_set node.kind node kept q)) [
      | inl was ↦ or_left _ (list_any (λ x. x == q) slots) was
      | inr off ↦
          let place = added q off on in
          let here : slot_number_in store.shape.nodes store.nodes 0 (path store.shape place.at (suc i)) ≡ Some q =
          ap (λ n. slot_number_in store.shape.nodes store.nodes 0 (path store.shape place.at n)) (sym is.next)
          ∙ sym (slot_word store number i node kept (path store.shape place.at number) is other) ∙ place.has_place in
          or_right (is_set node.kind node kept q) _ (number_found slots q (numbers.1.all place.at place.is_of q here))
    ])
    (λ either. elim (cases_Bool (is_set node.kind node kept q)) [
      | inl was ↦ grown_set store number i node kept after is grown q was
      | inr off ↦
          let found = numbers.1.of_wanted q (found_number slots q (or_rest _ _ off either)) in
          let here : place_in store number found.at ≡ Some q =
          slot_word store number i node kept (path store.shape found.at number) is other
          ∙ ap (λ n. slot_number_in store.shape.nodes store.nodes 0 (path store.shape found.at n)) is.next ∙ found.has_number in
          filled found.at found.is_wanted q here
    ]) in
    let opened : IsOpenThrough (with_node store i after) old (old ++ wanted) (suc i) =
    opens_next store i after wanted slots node kept (wants_at store number i node kept wanted is paths other) grown is.at is.has
    (set_there store.nodes i kept after is.has) adds old (subst (λ n. IsOpenThrough store old (old ++ wanted) n) (back_to number i is.next) was_open) in
    subst (λ n. IsOpenThrough (with_node store i after) old (old ++ wanted) n) (sym is.next) opened
