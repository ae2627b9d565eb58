-- Coordinates that are wanted at a node: their slots there, and the numbers of these.
use Rattle.std.proofs.Common.{◌≡◌, ◌≢◌, ℕ, zero, suc, ◌+◌, ◌-◌, ◌<◌, ◌≤◌, Bool, true, false, not, ◌&&◌, List, [], ◌∷◌, ◌++◌, length, take, get_or, refl, sym, ap, ◌∙◌, subst, arith, cond, inl, inr}
use Rattle.std.specs.Prelude.{Option, Some, None, is_some, option_and_then, unwrap_or, slice_get, slice_index, ◌==◌}
use Rattle.std.specs.Option.{option_map}
use Rattle.std.specs.List.{list_any}
use Rattle.std.specs.Cmp.Lexicographic.{bytes_decides}
use Rattle.std.proofs.lemmas.Bool.{false≢true, le-leb, eqb-true, eq-eqb}
use Rattle.std.proofs.lemmas.List.Folds.{Any-from_list_any, list_any-from_Any}
use Rattle.std.proofs.lemmas.List.{get_or_default, take_more}
use Rattle.std.proofs.lemmas.List.Elements.{Contains-push_cases, Contains-push, Contains-append_left}
use Rattle.std.proofs.lemmas.Option.{none-some, same_Some}
use Rattle.sg_coord.specs.declared.coord.Coord.{Coord}
use Rattle.sg_layout.specs.declared.shape.Kind.{Kind}
use Rattle.sg_layout.specs.declared.shape.Kind.TheVariants.{Dense, Bitmasked, Pointer, Hash, Dynamic}
use Rattle.sg_layout.specs.declared.shape.NodeShape.{NodeShape}
use Rattle.sg_layout.specs.declared.shape.Shape.{Shape}
use Rattle.sg_layout.specs.Path.{path}
use Rattle.sg_layout.specs.Live.{kind_or, kind_at, makes_live, is_live}
use Rattle.sg_layout.specs.Slots.{IsSlot}
use Rattle.sg_hash.specs.Tables.{beside}
use Rattle.sg_store.specs.declared.node.NodeWords.{NodeWords}
use Rattle.sg_store.specs.StoreWords.{StoreWords}
use Rattle.sg_store.specs.Slots.{is_set, place_below}
use Rattle.sg_store.specs.Walks.{slot_number_in, is_on}
use Rattle.sg_store.specs.WellFormed.{IsNode, AreNodes, is_root}
use Rattle.sg_store.specs.Reaching.{IsOpenThrough}
use Rattle.sg_store.specs.steps.AtNode.{AtNodeOf, AreNumbers, HaveSame}
use Rattle.std.specs.List.{Contains}
use Rattle.sg_layout.specs.Path.{offsets}
use Rattle.sg_layout.specs.Live.{is_at_or_below}
use Rattle.sg_store.specs.Slots.{linked, slot_under}
use Rattle.sg_store.specs.Walks.{place_after}
use Rattle.sg_store.proofs.Chains.{below_leads}
use Rattle.sg_store.proofs.Walking.{node_is, links_are_one, numbers_apart}
use Rattle.sg_store.proofs.Leading.{InLive, number_live}
use Rattle.sg_store.proofs.Stepping.{step_more, answer_more, words_many}
use Rattle.sg_store.proofs.PathWalks.{there, path_long, path_more}
use Rattle.sg_store.proofs.SlotPaths.{slot_offsets, slot_long, live_from_path, path_from_live, same_bool, not_true}

-- wanted coordinates, and the numbers that their slots at a node have
pub record Wants (store : StoreWords) (i : ℕ) (wanted : List Coord) (slots : List ℕ) : Type 0 where
  pub paths : (at : Coord) (n : ℕ) → IsSlot (take n store.shape.nodes) (path store.shape at n)
  pub within : suc i ≤ length store.shape.nodes
  pub are_nodes : AreNodes store.shape.nodes store.nodes 1 is_root
  pub numbers : AreNumbers store i wanted slots
  pub one_slot : kind_at store.shape.nodes (suc i) ≢ Dynamic

-- each number is that of a slot in a live container
pub wanted_live : (store : StoreWords) (i : ℕ) (wanted : List Coord) (slots : List ℕ) → Wants store i wanted slots → (q : ℕ) → Contains slots q → AtNodeOf (InLive q) store i
wanted_live store i wanted slots wants q has =
    let found = wants.numbers.of_wanted q has in
    let is_slot = wants.paths found.at (suc i) in
    number_live store.shape.nodes store.nodes 1 is_root wants.are_nodes 0 (omega arith) refl (path store.shape found.at (suc i)) (slot_offsets store.shape.nodes (suc i) _ is_slot) i
    (slot_long store.shape.nodes (suc i) _ wants.within is_slot) q found.has_number

contains_at : {A : Type 0} → (xs : List A) (x : A) → (k : ℕ) (d : A) → k < length xs → get_or xs k d ≡ x → Contains xs x
contains_at xs x k d below same = (k, below, get_or_default xs k x d below ∙ same)

-- a slot is wanted exactly when its number is one of those
pub wanted_some : (store : StoreWords) (i : ℕ) (wanted : List Coord) (slots : List ℕ) → Wants store i wanted slots → (slot : List ℕ) → IsSlot (take (suc i) store.shape.nodes) slot → (q : ℕ) → slot_number_in store.shape.nodes store.nodes 0 slot ≡ Some q → list_any (λ x. x == q) slots ≡ is_live store.shape wanted (suc i) slot
wanted_some store i wanted slots wants slot is q some =
    same_bool _ _
    (λ has.
    let seen = Any-from_list_any (λ x. x == q) slots has in
    let same : seen.1 ≡ q = eqb-true seen.1 q seen.4 in
    let found = wants.numbers.of_wanted q (contains_at slots q seen.0 seen.1 seen.2 (seen.3 ∙ same)) in
    let at : Coord = found.at in
    let is_slot = wants.paths at (suc i) in
    let apart = numbers_apart store.shape.nodes store.nodes (links_are_one store.shape.nodes store.nodes 1 is_root wants.are_nodes) 0 0 (path store.shape at (suc i)) slot q
    (slot_offsets store.shape.nodes (suc i) _ is_slot) (slot_offsets store.shape.nodes (suc i) slot is)
    (slot_long store.shape.nodes (suc i) _ wants.within is_slot ∙ sym (slot_long store.shape.nodes (suc i) slot wants.within is)) found.has_number some in
    live_from_path store.shape wanted (suc i) slot wants.one_slot found.is_wanted.0 at found.is_wanted.1 (ap (λ c. path store.shape c (suc i)) found.is_wanted.2 ∙ apart.1))
    (λ live.
    let found = path_from_live store.shape wanted (suc i) slot wants.one_slot live in
    let at : Coord = get_or wanted found.0 found.1 in
    let has : Contains wanted at = (found.0, found.2, get_or_default wanted found.0 at found.1 found.2) in
    let number : slot_number_in store.shape.nodes store.nodes 0 (path store.shape at (suc i)) ≡ Some q = ap (slot_number_in store.shape.nodes store.nodes 0) found.3 ∙ some in
    let here : Contains slots q = wants.numbers.all at has q number in
    list_any-from_Any (λ x. x == q) slots (here.0, q, here.1, here.2, eq-eqb q q refl))

-- ── Where the store is open, links lead to what is wanted ──

set_leads : (kind : Kind) (node : NodeShape) (kept : NodeWords) (slots : ℕ) (live : ℕ → Bool) → IsNode kind node kept slots live → (q : ℕ) → is_set kind node kept q ≡ true → (n : ℕ) × (place_below kind node kept q ≡ Some n)
set_leads Dense node kept slots live is q on = (q, refl)
set_leads Bitmasked node kept slots live is q on = (q, refl)
set_leads Pointer node kept slots live is q on = leads (slice_index kept.links q) on
  where
    leads : (word : ℕ) → not (word == 0) ≡ true → (n : ℕ) × (linked word ≡ Some n)
    leads zero e = absurd (false≢true e)
    leads (suc n) e = (n, refl)
set_leads Hash node kept slots live is q on = some_is (beside kept.keys kept.links q) on
  where
    some_is : (o : Option ℕ) → is_some o ≡ true → (n : ℕ) × (o ≡ Some n)
    some_is None e = absurd (false≢true e)
    some_is (Some n) e = (n, refl)
set_leads Dynamic node kept slots live is q on = below_leads node kept slots live is q on

dense_or : (kind : Kind) (node : NodeShape) (kept : NodeWords) (q : ℕ) → (kind ≢ Dense → is_set kind node kept q ≡ true) → is_set kind node kept q ≡ true
dense_or Dense node kept q h = refl
dense_or Bitmasked node kept q h = h (λ e. cc)
dense_or Pointer node kept q h = h (λ e. cc)
dense_or Hash node kept q h = h (λ e. cc)
dense_or Dynamic node kept q h = h (λ e. cc)

live_itself : (kind : Kind) (x : List ℕ) → makes_live kind x x ≡ true
live_itself Dense x = (bytes_decides x x).1 refl
live_itself Bitmasked x = (bytes_decides x x).1 refl
live_itself Pointer x = (bytes_decides x x).1 refl
live_itself Hash x = (bytes_decides x x).1 refl
live_itself Dynamic x = below_itself x
  where
    below_itself : (x : List ℕ) → is_at_or_below x x ≡ true
    below_itself [] = refl
    below_itself (a ∷ []) = le-leb a a (omega arith)
    below_itself (a ∷ b ∷ x) = ap (λ c. c && is_at_or_below (b ∷ x) (b ∷ x)) (eq-eqb a a refl) ∙ below_itself (b ∷ x)

-- its own path is live for a list
pub own_path_live : (shape : Shape) (coords : List Coord) (number : ℕ) (at : Coord) → Contains coords at → is_live shape coords number (path shape at number) ≡ true
own_path_live shape coords number at has =
    list_any-from_Any _ coords (has.0, at, has.1, has.2, live_itself (kind_at shape.nodes number) (path shape at number))

pub kind_there : (nodes : List NodeShape) (i : ℕ) (node : NodeShape) → slice_get nodes i ≡ Some node → kind_at nodes (suc i) ≡ node.kind
kind_there nodes i node at =
    let back : suc i - 1 ≡ i = omega arith in
    ap (λ k. kind_or (slice_get nodes k)) back ∙ ap kind_or at

-- coordinates for which a store is open
pub record OpenFor (store : StoreWords) (i : ℕ) (coords : List Coord) : Type 0 where
  pub paths : (at : Coord) (n : ℕ) → IsSlot (take n store.shape.nodes) (path store.shape at n)
  pub are_nodes : AreNodes store.shape.nodes store.nodes 1 is_root
  pub on : (n : ℕ) → n < i → (at : Coord) → Contains coords at → kind_at store.shape.nodes (suc n) ≢ Dense → is_on store.shape.nodes store.nodes 0 (path store.shape at (suc n)) ≡ true

pub leads_through : (store : StoreWords) (i : ℕ) (coords : List Coord) → OpenFor store i coords → (at : Coord) → Contains coords at → (n : ℕ) → n ≤ i → n ≤ length store.shape.nodes → (place : ℕ) × (place_after place_below store.shape.nodes store.nodes 0 (path store.shape at n) ≡ Some place)
leads_through store i coords is at has zero below within = (0, refl)
leads_through store i coords is at has (suc n) below within =
    let nodes : List NodeShape = store.shape.nodes in
    let above = leads_through store i coords is at has n (omega (arith, below)) (omega (arith, within)) in
    let node = there nodes n (omega (arith, within)) in
    let kept = there store.nodes n (omega (arith, within, words_many nodes store.nodes 1 is_root is.are_nodes)) in
    let o : ℕ = slice_index (offsets nodes at) n in
    let q : ℕ = slot_under node.0 above.0 o in
    let long = path_long store.shape at n (omega (arith, within)) in
    let next : path store.shape at (suc n) ≡ path store.shape at n ++ o ∷ [] = path_more store.shape at n (omega (arith, within)) in
    let set : is_set node.0.kind node.0 kept.0 q ≡ true = dense_or node.0.kind node.0 kept.0 q (λ other.
    sym (ap (λ p. unwrap_or (option_map (λ x. is_set node.0.kind node.0 kept.0 (slot_under node.0 x o)) p) false) above.1)
    ∙ sym (ap (λ a. unwrap_or a false) (answer_more is_set nodes store.nodes n node.0 kept.0 node.1 kept.1 0 (path store.shape at n) o long))
    ∙ sym (ap (is_on nodes store.nodes 0) next)
    ∙ is.on n (omega (arith, below)) at has (λ dense. other (sym (kind_there nodes n node.0 node.1) ∙ dense))) in
    let own = node_is nodes store.nodes 1 is_root is.are_nodes n node.0 kept.0 node.1 kept.1 in
    let on = set_leads node.0.kind node.0 kept.0 own.0 own.1 own.2 q set in (
      on.0,
      ap (place_after place_below nodes store.nodes 0) next
          ∙ step_more place_below nodes store.nodes n node.0 kept.0 node.1 kept.1 0 (path store.shape at n) o long
          ∙ ap (option_and_then (λ x. place_below node.0.kind node.0 kept.0 (slot_under node.0 x o))) above.1 ∙ on.1,
    )

-- so its slot at the next node has a number
pub number_there : (store : StoreWords) (i : ℕ) (coords : List Coord) → OpenFor store i coords → i < length store.shape.nodes → (at : Coord) → Contains coords at → (q : ℕ) × (slot_number_in store.shape.nodes store.nodes 0 (path store.shape at (suc i)) ≡ Some q)
number_there store i coords is within at has =
    let nodes : List NodeShape = store.shape.nodes in
    let above = leads_through store i coords is at has i (omega arith) (omega (arith, within)) in
    let node = there nodes i within in
    let kept = there store.nodes i (omega (arith, within, words_many nodes store.nodes 1 is_root is.are_nodes)) in
    let o : ℕ = slice_index (offsets nodes at) i in (
      slot_under node.0 above.0 o,
      ap (slot_number_in nodes store.nodes 0) (path_more store.shape at i within)
          ∙ answer_more (λ _ _ _ number. number) nodes store.nodes i node.0 kept.0 node.1 kept.1 0 (path store.shape at i) o (path_long store.shape at i (omega (arith, within)))
          ∙ ap (option_map (λ x. slot_under node.0 x o)) above.1,
    )

-- a slot without a number isn't wanted
pub wanted_none : (store : StoreWords) (i : ℕ) (wanted : List Coord) (slots : List ℕ) → Wants store i wanted slots → ((at : Coord) → Contains wanted at → (q : ℕ) × (slot_number_in store.shape.nodes store.nodes 0 (path store.shape at (suc i)) ≡ Some q)) → (slot : List ℕ) → slot_number_in store.shape.nodes store.nodes 0 slot ≡ None → is_live store.shape wanted (suc i) slot ≡ false
wanted_none store i wanted slots wants numbered slot none = not_true _ (λ live.
    let found = path_from_live store.shape wanted (suc i) slot wants.one_slot live in
    let at : Coord = get_or wanted found.0 found.1 in
    let number = numbered at (found.0, found.2, get_or_default wanted found.0 at found.1 found.2) in
    none-some number.0 (sym none ∙ ap (slot_number_in store.shape.nodes store.nodes 0) (sym found.3) ∙ number.1))

-- a store that is open through the nodes before this one is so for its list
pub open_for : (store : StoreWords) (old wanted : List Coord) (i : ℕ) → ((at : Coord) (n : ℕ) → IsSlot (take n store.shape.nodes) (path store.shape at n)) → AreNodes store.shape.nodes store.nodes 1 is_root → i ≤ length store.shape.nodes → IsOpenThrough store old (old ++ wanted) i → OpenFor store i (old ++ wanted)
open_for store old wanted i paths are within is_open = record {
  paths = paths;
  are_nodes = are;
  on = λ n below at has other.
      is_open (suc n) (path store.shape at (suc n)) (record { first = omega arith; within = omega (arith, below, within); has_activity = other; is_slot = paths at (suc n) })
      ∙ ap (λ b. is_live store.shape (cond b (old ++ wanted) old) (suc n) (path store.shape at (suc n))) (le-leb (suc n) i (omega (arith, below)))
      ∙ own_path_live store.shape (old ++ wanted) (suc n) at has;
}

-- ── Numbers, one coordinate after the other ──

pub numbers_none : (store : StoreWords) (i : ℕ) → AreNumbers store i [] []
numbers_none store i = record {
  of_wanted = λ number has. absurd (omega (arith, has.1));
  all = λ at has number e. absurd (omega (arith, has.1));
}

pub numbers_skip : (store : StoreWords) (i : ℕ) (coords : List Coord) (slots : List ℕ) (at : Coord) → AreNumbers store i coords slots → slot_number_in store.shape.nodes store.nodes 0 (path store.shape at (suc i)) ≡ None → AreNumbers store i (coords ++ at ∷ []) slots
numbers_skip store i coords slots at is none = record {
  of_wanted = λ number has. let found = is.of_wanted number has in record { at = found.at; is_wanted = Contains-append_left coords (at ∷ []) found.at found.is_wanted; has_number = found.has_number };
  all = λ c has number e. elim (Contains-push_cases coords at c has) [
    | inl old ↦ is.all c old number e
    | inr same ↦ absurd (none-some number (sym none ∙ ap (λ c. slot_number_in store.shape.nodes store.nodes 0 (path store.shape c (suc i))) same ∙ e))
  ];
}

pub numbers_push : (store : StoreWords) (i : ℕ) (coords : List Coord) (slots : List ℕ) (at : Coord) (q : ℕ) → AreNumbers store i coords slots → slot_number_in store.shape.nodes store.nodes 0 (path store.shape at (suc i)) ≡ Some q → AreNumbers store i (coords ++ at ∷ []) (slots ++ q ∷ [])
numbers_push store i coords slots at q is some = record {
  of_wanted = λ number has. elim (Contains-push_cases slots q number has) [
    | inl old ↦
        let found = is.of_wanted number old in
        record { at = found.at; is_wanted = Contains-append_left coords (at ∷ []) found.at found.is_wanted; has_number = found.has_number }
    | inr same ↦ record { at = at; is_wanted = Contains-push coords at; has_number = some ∙ ap Some same }
  ];
  all = λ c has number e. elim (Contains-push_cases coords at c has) [
    | inl old ↦ Contains-append_left slots (q ∷ []) number (is.all c old number e)
    | inr same ↦
        let number_is : q ≡ number = same_Some q number (sym some ∙ ap (λ c. slot_number_in store.shape.nodes store.nodes 0 (path store.shape c (suc i))) same ∙ e) in
        subst (λ n. Contains (slots ++ q ∷ []) n) number_is (Contains-push slots q)
  ];
}

-- a list has the same in it after one more of what it has
pub has_again : (slots : List ℕ) (k slot d : ℕ) → k < length slots → get_or slots k slot ≡ slot → HaveSame slots (slots ++ slot ∷ [])
has_again slots k slot d below is number = (
  λ has. Contains-append_left slots (slot ∷ []) number has,
  λ has. elim (Contains-push_cases slots slot number has) [
    | inl old ↦ old
    | inr same ↦ subst (λ n. Contains slots n) same (k, below, is)
  ],
)

-- they are the numbers of a list that has the same in it
numbers_same : (store : StoreWords) (i : ℕ) (coords : List Coord) (slots now : List ℕ) → AreNumbers store i coords slots → HaveSame now slots → AreNumbers store i coords now
numbers_same store i coords slots now is same = record {
  of_wanted = λ number has. is.of_wanted number ((same number).0 has);
  all = λ at has number e. (same number).1 (is.all at has number e);
}

-- the same, where the coordinate is the next of a list
pub numbers_next : (store : StoreWords) (i k : ℕ) (wanted : List Coord) (slots now : List ℕ) (d : Coord) (result : Option ℕ) → k < length wanted → result ≡ slot_number_in store.shape.nodes store.nodes 0 (path store.shape (get_or wanted k d) (suc i)) → AreNumbers store i (take k wanted) slots → ((q : ℕ) → result ≡ Some q → HaveSame now (slots ++ q ∷ [])) → (result ≡ None → now ≡ slots) → AreNumbers store i (take (k + 1) wanted) now
numbers_next store i k wanted slots now d None below is so_far some none =
    subst (λ l. AreNumbers store i l now) (sym (take_more wanted k d below)) (subst (λ l. AreNumbers store i (take k wanted ++ get_or wanted k d ∷ []) l) (sym (none refl)) (numbers_skip store i (take k wanted) slots (get_or wanted k d) so_far (sym is)))
numbers_next store i k wanted slots now d (Some q) below is so_far some none =
    subst (λ l. AreNumbers store i l now) (sym (take_more wanted k d below)) (numbers_same store i (take k wanted ++ get_or wanted k d ∷ []) (slots ++ q ∷ []) now (numbers_push store i (take k wanted) slots (get_or wanted k d) q so_far (sym is)) (some q refl))
