-- The plans of a store's nodes, from the cells that are kept up to the root, and nodes that are trimmed by them.
use Rattle.std.proofs.Common.{◌≡◌, ◌≢◌, ℕ, zero, suc, ◌+◌, ◌-◌, ◌*◌, ◌^◌, ◌<◌, ◌≤◌, Bool, List, [], ◌∷◌, ◌++◌, length, take, drop, get_or, Some, refl, sym, ap, ◌∙◌, subst, arith, inl, inr}
use Rattle.std.specs.Prelude.{slice_get, slice_index}
use Rattle.std.specs.List.{All}
use Rattle.std.proofs.lemmas.Bool.{cases_eq}
use Rattle.std.proofs.lemmas.List.{length-append}
use Rattle.std.proofs.lemmas.List.Elements.{All-drop, All-get_or}
use Rattle.std.proofs.lemmas.Nat.{mul-le}
use Rattle.std.proofs.lemmas.Option.{none-some, same_Some, slice_get_within, slice_get-get_or, slice_get_read}
use Rattle.sg_layout.specs.declared.shape.Kind.TheVariants.{Hash}
use Rattle.sg_layout.specs.declared.shape.NodeShape.{NodeShape}
use Rattle.sg_layout.specs.declared.shape.Shape.{Shape}
use Rattle.sg_layout.specs.Axes.{count_of, size_of, sizes_of}
use Rattle.sg_layout.specs.RuleLaws.{AcceptedKeepsRules}
use Rattle.sg_pool.specs.Numbers.{IsParted}
use Rattle.sg_store.specs.declared.node.NodeWords.{NodeWords}
use Rattle.sg_store.specs.declared.node_plan.NodePlan.{NodePlan}
use Rattle.sg_store.specs.StoreWords.{StoreWords}
use Rattle.sg_store.specs.WellFormed.{AreNodes, IsWellFormed, is_root, cells_below}
use Rattle.sg_store.specs.steps.Marks.{marked_below, marked_from}
use Rattle.sg_store.specs.steps.Trimming.{place_kept, kept_above}
use Rattle.sg_store.specs.steps.KeptWords.{in_row, LeadsWithin}
use Rattle.sg_store.specs.steps.Planning.{IsPlannable, IsPlanFor}
use Rattle.sg_store.specs.steps.StorePlans.{places_above, marked_above, kept_at, IsRowAt, IsSomeRow, IsPlanAt, ArePlansFrom}
use Rattle.sg_store.specs.steps.Fresh.{IsCapped}
use Rattle.sg_store.proofs.Beginning.{caps_of}
use Rattle.sg_store.proofs.Roomy.{AreLater, AreOrdered}
use Rattle.sg_store.proofs.TablePlaces.{table_large}
use Rattle.sg_store.proofs.DynamicLevel.{few_slots}
use Rattle.sg_store.proofs.PointerLevel.{cap_at}
use Rattle.sg_store.proofs.Stepping.{size_at}
use Rattle.sg_store.proofs.TrimmedWalks.{AreSized}
use Rattle.sg_store.proofs.RowTests.{same_test}
use Rattle.sg_store.proofs.MarkedKept.{leads_marked_within, marked_cut, marked_on, marked_above_few, bound_from, root_below}

-- ── The nodes from an index on ──

drop_here : {A : Type 0} (xs : List A) (i : ℕ) (x : A) → slice_get xs i ≡ Some x → drop i xs ≡ x ∷ drop (suc i) xs
drop_here [] i x is = absurd (none-some x is)
drop_here {A = A} (first ∷ later) zero x is = ap (λ (h : A). h ∷ later) (same_Some first x is)
drop_here (first ∷ later) (suc i) x is = drop_here later i x is

nodes_from : (nodes : List NodeShape) (words : List NodeWords) (places : ℕ) (live : ℕ → Bool) (i : ℕ) → AreNodes nodes words places live → (own : ℕ → Bool) × AreNodes (drop i nodes) (drop i words) (cells_below (take i nodes) places) own
nodes_from nodes words places live zero are = (live, are)
nodes_from [] [] places live (suc i) are = (live, are)
nodes_from [] (kept ∷ words) places live (suc i) are = absurd are
nodes_from (node ∷ later) [] places live (suc i) are = absurd are
nodes_from (node ∷ later) (kept ∷ words) places live (suc i) are = nodes_from later words _ _ i are.2

-- the nodes from one on, among those of a store
pub record IsNodeAt (nodes : List NodeShape) (words : List NodeWords) (i : ℕ) (node : NodeShape) (kept : NodeWords) : Type 0 where
  pub at : slice_get nodes i ≡ Some node
  pub has : slice_get words i ≡ Some kept

pub nodes_here : (nodes : List NodeShape) (words : List NodeWords) (i : ℕ) (node : NodeShape) (kept : NodeWords) → IsNodeAt nodes words i node kept → AreNodes nodes words 1 is_root → (own : ℕ → Bool) × AreNodes (node ∷ drop (suc i) nodes) (kept ∷ drop (suc i) words) (places_above nodes i) own
nodes_here nodes words i node kept is are =
    let found = nodes_from nodes words 1 is_root i are in (
      found.0,
      subst (λ (ns : List NodeShape). AreNodes ns (kept ∷ drop (suc i) words) (places_above nodes i) found.0) (drop_here nodes i node is.at)
          (subst (λ (ws : List NodeWords). AreNodes (drop i nodes) ws (places_above nodes i) found.0) (drop_here words i kept is.has) found.1),
    )

words_long : (nodes : List NodeShape) (words : List NodeWords) (places : ℕ) (live : ℕ → Bool) → AreNodes nodes words places live → length words ≡ length nodes
words_long [] [] places live are = refl
words_long [] (kept ∷ words) places live are = absurd are
words_long (node ∷ later) [] places live are = absurd are
words_long (node ∷ later) (kept ∷ words) places live are = ap suc (words_long later words _ _ are.2)

pub store_long : (store : StoreWords) → IsWellFormed store → length store.nodes ≡ length store.shape.nodes
store_long store well = words_long store.shape.nodes store.nodes 1 is_root well.nodes_fit

-- a node that is read from the lists of a store, whose value is `store`
pub node_read : (inside store : StoreWords) (nodes : List NodeShape) (words : List NodeWords) (i : ℕ) (node : NodeShape) (kept : NodeWords) → inside ≡ store → IsWellFormed inside → nodes ≡ inside.shape.nodes → words ≡ inside.nodes → i < length store.shape.nodes → node ≡ get_or nodes i node → kept ≡ get_or words i kept → IsNodeAt store.shape.nodes store.nodes i node kept
node_read inside store nodes words i node kept view well same_nodes same_words within node_is kept_is =
    subst (λ (s : StoreWords). IsNodeAt s.shape.nodes s.nodes i node kept) view
    (let below : i < length inside.shape.nodes = subst (λ (s : StoreWords). i < length s.shape.nodes) (sym view) within in
    record {
      at = ap (λ (ns : List NodeShape). slice_get ns i) (sym same_nodes)
          ∙ slice_get_read nodes (length nodes) i node refl (subst (λ (ns : List NodeShape). i < length ns) (sym same_nodes) below) node_is;
      has = ap (λ (ws : List NodeWords). slice_get ws i) (sym same_words)
          ∙ slice_get_read words (length words) i kept refl (subst (λ (ws : List NodeWords). i < length ws) (sym same_words) (omega (arith, below, store_long inside well))) kept_is;
    })

-- and that the words have as many
pub words_there : (store : StoreWords) (words : List NodeWords) (i : ℕ) → IsWellFormed store → words ≡ store.nodes → i < length store.shape.nodes → i < length words
words_there store words i well same within = subst (λ (ws : List NodeWords). i < length ws) (sym same) (omega (arith, within, store_long store well))

-- a node that isn't the first is no hash node
pub not_hash : (nodes : List NodeShape) (i : ℕ) (node : NodeShape) → AreOrdered nodes → 1 ≤ i → slice_get nodes i ≡ Some node → node.kind ≢ Hash
not_hash [] i node are later at = absurd (none-some node at)
not_hash (first ∷ others) zero node are later at = absurd (omega (arith, later))
not_hash (first ∷ others) (suc i) node are later at = of_later others i are.1 at
  where
    of_later : (rest : List NodeShape) (j : ℕ) → AreLater rest → slice_get rest j ≡ Some node → node.kind ≢ Hash
    of_later [] j kinds here = absurd (none-some node here)
    of_later (next ∷ rest) zero kinds here = subst (λ (n : NodeShape). n.kind ≢ Hash) (same_Some next node here) kinds.0
    of_later (next ∷ rest) (suc j) kinds here = of_later rest j kinds.2 here

pub item_there : {A : Type 0} (xs : List A) (k : ℕ) → k < length xs → (x : A) × (slice_get xs k ≡ Some x)
item_there [] k below = absurd (omega (arith, below))
item_there (x ∷ xs) zero below = (x, refl)
item_there (x ∷ xs) (suc k) below = item_there xs k (omega (arith, below))

-- so many places above a node, and slots at it, are few
pub slots_few : (store : StoreWords) (i : ℕ) (node : NodeShape) (places size : ℕ) → IsWellFormed store → slice_get store.shape.nodes i ≡ Some node → places ≡ places_above store.shape.nodes i → size ≡ size_of node.sizes → places * size ≤ 2 ^ 47
slots_few store i node places size well at above sized =
    let within : i < length store.nodes = omega (arith, slice_get_within store.shape.nodes i node at, store_long store well) in
    let found = item_there store.nodes i within in
    let few : places_above store.shape.nodes i * size_of node.sizes ≤ 2 ^ 47 = (nodes_here store.shape.nodes store.nodes i node found.0 (record { at = at; has = found.1 }) well.nodes_fit).1.0 in
    subst (λ p. p * size ≤ 2 ^ 47) (sym above) (subst (λ n. places_above store.shape.nodes i * n ≤ 2 ^ 47) (sym sized) few)

-- fewer may be live
pub marked_few : (store : StoreWords) (i : ℕ) (node : NodeShape) (places size : ℕ) → IsWellFormed store → slice_get store.shape.nodes i ≡ Some node → places ≡ marked_above store i → size ≡ size_of node.sizes → places * size ≤ 2 ^ 47
marked_few store i node places size well at above sized =
    let some : marked_above store i ≤ places_above store.shape.nodes i = marked_above_few store.shape.nodes store.nodes 1 1 is_root i well.nodes_fit well.numbers_parted (omega arith) in
    let all : places_above store.shape.nodes i * size ≤ 2 ^ 47 = slots_few store i node (places_above store.shape.nodes i) size well at refl sized in
    let low : places * size ≤ places_above store.shape.nodes i * size = mul-le places size (places_above store.shape.nodes i) size (omega (arith, above, some)) (omega arith) in
    omega (arith, low, all)

pub marked_more : (store : StoreWords) (i : ℕ) (node : NodeShape) (kept : NodeWords) (places size next : ℕ) → IsNodeAt store.shape.nodes store.nodes i node kept → places ≡ marked_above store i → size ≡ size_of node.sizes → next ≡ marked_below node.kind node kept (places * size) → next ≡ marked_above store (i + 1)
marked_more store i node kept places size next is above sized made =
    let after : suc i ≡ i + 1 = omega arith in
    made ∙ ap (λ p. marked_below node.kind node kept (p * size)) above
    ∙ ap (λ n. marked_below node.kind node kept (marked_above store i * n)) sized
    ∙ sym (marked_on store.shape.nodes store.nodes 1 i node kept is.at is.has)
    ∙ ap (marked_above store) after

-- the size of a node, read from the layout of a store
pub size_read : (store : StoreWords) (layout : Shape) (i : ℕ) (node : NodeShape) (size : ℕ) → layout ≡ store.shape → slice_get store.shape.nodes i ≡ Some node → size ≡ slice_index (sizes_of layout.nodes) i → size ≡ size_of node.sizes
size_read store layout i node size same at is =
    is ∙ ap (λ (s : Shape). slice_index (sizes_of s.nodes) i) same ∙ size_at store.shape.nodes i node at

pub capped_at : (store : StoreWords) (i : ℕ) (node : NodeShape) → AcceptedKeepsRules store.shape → IsWellFormed store → slice_get store.shape.nodes i ≡ Some node → IsCapped node.kind node
capped_at store i node rules well at =
    let within : i < length store.shape.nodes = slice_get_within store.shape.nodes i node at in
    let same : get_or store.shape.nodes i node ≡ node = same_Some (get_or store.shape.nodes i node) node (sym (slice_get-get_or store.shape.nodes i node within) ∙ at) in
    subst (λ (n : NodeShape). IsCapped n.kind n) same (All-get_or (λ (n : NodeShape). IsCapped n.kind n) store.shape.nodes i node within (caps_of store.shape rules well.accepted))

sized_at : (nodes : List NodeShape) (i : ℕ) (node : NodeShape) → slice_get nodes i ≡ Some node → AreSized nodes → 1 ≤ size_of node.sizes
sized_at nodes i node at sized =
    let within : i < length nodes = slice_get_within nodes i node at in
    subst (λ (n : NodeShape). 1 ≤ size_of n.sizes) (same_Some (get_or nodes i node) node (sym (slice_get-get_or nodes i node within) ∙ at))
    (All-get_or (λ (n : NodeShape). 1 ≤ size_of n.sizes) nodes i node within sized)

-- each node of a store is one of which it can be planned what stays
pub plannable : (store : StoreWords) (i : ℕ) (node : NodeShape) (kept : NodeWords) → IsWellFormed store → AcceptedKeepsRules store.shape → AreSized store.shape.nodes → IsNodeAt store.shape.nodes store.nodes i node kept → IsPlannable node kept
plannable store i node kept well rules sized is =
    let here = nodes_here store.shape.nodes store.nodes i node kept is well.nodes_fit in
    record {
      slots = places_above store.shape.nodes i * size_of node.sizes;
      live = _;
      is_node = here.1.1;
      within_cap = cap_at store.shape.nodes store.nodes i node kept well.within_caps is.at is.has;
      some = sized_at store.shape.nodes i node is.at sized;
      few = here.1.0;
      short = λ dynamic. let keeps = (rules.0 well.accepted.keeps_rules).0 i node is.at in few_slots store.shape.axes node dynamic keeps.extents keeps.names;
      large = λ hash.
          let own : IsCapped Hash node = subst (λ k. IsCapped k node) hash (capped_at store i node rules well is.at) in
          table_large (count_of node.cap) own.0 own.1;
    }

-- ── Rows ──

-- what is kept above a node is told by what is kept below it
kept_here : (nodes : List NodeShape) (words : List NodeWords) (cells : ℕ → Bool) (i : ℕ) (node : NodeShape) (kept : NodeWords) → IsNodeAt nodes words i node kept → (place : ℕ) → kept_at nodes words cells i place ≡ place_kept (kept_at nodes words cells (suc i)) node kept place
kept_here nodes words cells i node kept is place =
    ap (λ (ns : List NodeShape). kept_above ns (drop i words) cells place) (drop_here nodes i node is.at)
    ∙ ap (λ (ws : List NodeWords). kept_above (node ∷ drop (suc i) nodes) ws cells place) (drop_here words i kept is.has)

pub row_next : (nodes : List NodeShape) (words : List NodeWords) (cells : ℕ → Bool) (i : ℕ) (node : NodeShape) (kept : NodeWords) (row above : List Bool) → IsNodeAt nodes words i node kept → IsRowAt nodes words cells (suc i) row → ((place : ℕ) → in_row above place ≡ place_kept (in_row row) node kept place) → IsRowAt nodes words cells i above
row_next nodes words cells i node kept row above is below made place =
    made place
    ∙ ap (λ (f : ℕ → Bool). place_kept f node kept place) (same_test (in_row row) (kept_at nodes words cells (suc i)) below)
    ∙ sym (kept_here nodes words cells i node kept is place)

-- the slots that lead to what a row keeps are among those of the node that may be live
pub row_within : (store : StoreWords) (i : ℕ) (node : NodeShape) (kept : NodeWords) (row : List Bool) → IsWellFormed store → AreSized store.shape.nodes → IsNodeAt store.shape.nodes store.nodes i node kept → IsSomeRow store (suc i) row → LeadsWithin (in_row row) node kept (marked_above store i * size_of node.sizes)
row_within store i node kept row well sized is some =
    let nodes : List NodeShape = store.shape.nodes in
    let words : List NodeWords = store.nodes in
    let bound = bound_from nodes words 1 1 is_root i sized well.nodes_fit well.numbers_parted root_below in
    let are : AreNodes (node ∷ drop (suc i) nodes) (kept ∷ drop (suc i) words) (places_above nodes i) bound.live =
    subst (λ (ns : List NodeShape). AreNodes ns (kept ∷ drop (suc i) words) (places_above nodes i) bound.live) (drop_here nodes i node is.at)
    (subst (λ (ws : List NodeWords). AreNodes (drop i nodes) ws (places_above nodes i) bound.live) (drop_here words i kept is.has) bound.are) in
    let count : marked_from (node ∷ drop (suc i) nodes) (kept ∷ drop (suc i) words) (marked_above store i) ≡ marked_from nodes words 1 =
    ap (λ (ns : List NodeShape). marked_from ns (kept ∷ drop (suc i) words) (marked_above store i)) (sym (drop_here nodes i node is.at))
    ∙ ap (λ (ws : List NodeWords). marked_from (drop i nodes) ws (marked_above store i)) (sym (drop_here words i kept is.has)) ∙ marked_cut nodes words 1 i in
    let sized_from : AreSized (node ∷ drop (suc i) nodes) =
    subst AreSized (drop_here nodes i node is.at) (All-drop (λ (n : NodeShape). 1 ≤ size_of n.sizes) i nodes sized) in
    let parted : All (λ (k : NodeWords). IsParted k.pool) (kept ∷ drop (suc i) words) =
    subst (All (λ (k : NodeWords). IsParted k.pool)) (drop_here words i kept is.has) (All-drop (λ (k : NodeWords). IsParted k.pool) i words well.numbers_parted) in
    subst (λ (f : ℕ → Bool). LeadsWithin f node kept (marked_above store i * size_of node.sizes))
    (sym (same_test (in_row row) (kept_at nodes words some.cells (suc i)) some.is))
    (leads_marked_within node (drop (suc i) nodes) kept (drop (suc i) words) (places_above nodes i) (marked_above store i) bound.live some.cells sized_from are parted bound.below
    (λ cell on. subst (λ n. cell < n) (sym count) (some.within cell on)))

pub leads_to : (store : StoreWords) (i : ℕ) (node : NodeShape) (kept : NodeWords) (row own : List Bool) (places size : ℕ) → IsWellFormed store → AreSized store.shape.nodes → IsNodeAt store.shape.nodes store.nodes i node kept → IsSomeRow store (suc i) row → own ≡ row → places ≡ marked_above store i → size ≡ size_of node.sizes → LeadsWithin (in_row own) node kept (places * size)
leads_to store i node kept row own places size well sized is some same above sized_is =
    subst (λ (r : List Bool). LeadsWithin (in_row r) node kept (places * size)) (sym same)
    (subst (λ p. LeadsWithin (in_row row) node kept (p * size)) (sym above)
    (subst (λ n. LeadsWithin (in_row row) node kept (marked_above store i * n)) (sym sized_is) (row_within store i node kept row well sized is some)))

-- ── Plans ──

get_front : {A : Type 0} (xs : List A) (y : A) (k : ℕ) → k < length xs → slice_get (xs ++ y ∷ []) k ≡ slice_get xs k
get_front [] y k below = absurd (omega (arith, below))
get_front (x ∷ xs) y zero below = refl
get_front (x ∷ xs) y (suc k) below = get_front xs y k (omega (arith, below))

get_last : {A : Type 0} (xs : List A) (y : A) (k : ℕ) → k ≡ length xs → slice_get (xs ++ y ∷ []) k ≡ Some y
get_last [] y zero is = refl
get_last [] y (suc k) is = absurd (omega (arith, is))
get_last (x ∷ xs) y zero is = absurd (omega (arith, is))
get_last (x ∷ xs) y (suc k) is = get_last xs y k (omega (arith, is))

one_more : (nodes : List NodeShape) (words : List NodeWords) (cells : ℕ → Bool) (i : ℕ) (node : NodeShape) (kept : NodeWords) (plans : List NodePlan) (plan : NodePlan) → IsNodeAt nodes words i node kept → ArePlansFrom nodes words cells (suc i) plans → IsPlanAt (kept_at nodes words cells (suc i)) node kept plan → ArePlansFrom nodes words cells i (plans ++ plan ∷ [])
one_more nodes words cells i node kept plans plan is are own =
    let within : i < length nodes = slice_get_within nodes i node is.at in
    record {
      many = omega (arith, within, length-append plans (plan ∷ []), are.many);
      each = λ j from other at words_at has p p_at. elim (cases_eq j i) [
        | inl same ↦
            let own_node : node ≡ other = same_Some node other (sym is.at ∙ sym (ap (slice_get nodes) same) ∙ at) in
            let own_words : kept ≡ words_at = same_Some kept words_at (sym is.has ∙ sym (ap (slice_get words) same) ∙ has) in
            let last : length nodes - suc j ≡ length plans = omega (arith, same, are.many) in
            let own_plan : plan ≡ p = same_Some plan p (sym (get_last plans plan (length nodes - suc j) last) ∙ p_at) in
            subst (λ (x : NodePlan). IsPlanAt (kept_at nodes words cells (suc j)) other words_at x) own_plan
            (subst (λ (k : NodeWords). IsPlanAt (kept_at nodes words cells (suc j)) other k plan) own_words
            (subst (λ (n : NodeShape). IsPlanAt (kept_at nodes words cells (suc j)) n kept plan) own_node
            (subst (λ k. IsPlanAt (kept_at nodes words cells (suc k)) node kept plan) (sym same) own)))
        | inr apart ↦
            let low : j < length nodes = slice_get_within nodes j other at in
            let front : length nodes - suc j < length plans = omega (arith, from, apart, low, are.many) in
            are.each j (omega (arith, from, apart)) other at words_at has p (sym (get_front plans plan (length nodes - suc j) front) ∙ p_at)
      ];
    }

pub plans_more : (nodes : List NodeShape) (words : List NodeWords) (cells : ℕ → Bool) (i : ℕ) (node : NodeShape) (kept : NodeWords) (plans next : List NodePlan) (plan : NodePlan) → IsNodeAt nodes words i node kept → next ≡ plans ++ plan ∷ [] → ArePlansFrom nodes words cells (suc i) plans → IsPlanAt (kept_at nodes words cells (suc i)) node kept plan → ArePlansFrom nodes words cells i next
plans_more nodes words cells i node kept plans next plan is pushed are own =
    subst (ArePlansFrom nodes words cells i) (sym pushed) (one_more nodes words cells i node kept plans plan is are own)

pub same_row : (row own : List Bool) (keeps : ℕ → Bool) → own ≡ row → ((place : ℕ) → in_row row place ≡ keeps place) → (place : ℕ) → in_row own place ≡ keeps place
same_row row own keeps same is place = ap (λ (r : List Bool). in_row r place) same ∙ is place

-- what planning a node adds
pub plan_added : (nodes : List NodeShape) (words : List NodeWords) (cells : ℕ → Bool) (i : ℕ) (node : NodeShape) (kept : NodeWords) (row above : List Bool) (plans next : List NodePlan) (plan : NodePlan) → IsNodeAt nodes words i node kept → IsRowAt nodes words cells (suc i) row → ArePlansFrom nodes words cells (suc i) plans → plan.row ≡ row → IsPlanFor node.kind node kept plan → ((place : ℕ) → in_row above place ≡ place_kept (in_row plan.row) node kept place) → next ≡ plans ++ plan ∷ [] → IsRowAt nodes words cells i above × ArePlansFrom nodes words cells i next
plan_added nodes words cells i node kept row above plans next plan is below are same fits made pushed =
    let own : IsRowAt nodes words cells (suc i) plan.row = same_row row plan.row (kept_at nodes words cells (suc i)) same below in (
      row_next nodes words cells i node kept plan.row above is own made,
      plans_more nodes words cells i node kept plans next plan is pushed are (record { row = own; fits = fits }),
    )

-- before any there are none
pub no_plans : (nodes : List NodeShape) (words : List NodeWords) (cells : ℕ → Bool) (plans : List NodePlan) → plans ≡ [] → ArePlansFrom nodes words cells (length nodes) plans
no_plans nodes words cells plans none = record {
  many = ap length none ∙ (let zeros : 0 ≡ length nodes - length nodes = omega arith in zeros);
  each = λ j from other at. absurd (let low : j < length nodes = slice_get_within nodes j other at in omega (arith, from, low));
}
