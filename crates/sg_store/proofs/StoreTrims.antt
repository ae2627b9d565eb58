-- A store whose nodes are trimmed by their plans.
use Rattle.std.proofs.Common.{◌≡◌, ◌≢◌, ℕ, zero, suc, ◌+◌, ◌-◌, ◌<◌, Bool, List, [], ◌∷◌, length, drop, get_or, Some, refl, sym, ap, ◌∙◌, subst, arith, inl, inr}
use Rattle.std.specs.Prelude.{slice_get, slice_set}
use Rattle.std.specs.List.{All, AllZip}
use Rattle.std.proofs.lemmas.Bool.{cases_eq}
use Rattle.std.proofs.lemmas.List.{length-set}
use Rattle.std.proofs.lemmas.Option.{same_Some, slice_get_within, slice_get-get_or, slice_get_read}
use Rattle.sg_layout.specs.declared.shape.NodeShape.{NodeShape}
use Rattle.sg_layout.specs.RuleLaws.{AcceptedKeepsRules}
use Rattle.sg_pool.specs.Numbers.{IsParted}
use Rattle.sg_store.specs.declared.node.NodeWords.{NodeWords}
use Rattle.sg_store.specs.declared.node_plan.NodePlan.{NodePlan}
use Rattle.sg_store.specs.StoreWords.{StoreWords}
use Rattle.sg_store.specs.WellFormed.{IsWithinCap, IsWellFormed}
use Rattle.sg_store.specs.Reaching.{leads_from}
use Rattle.sg_store.specs.Links.{GrowsLinks}
use Rattle.sg_store.specs.steps.Settling.{ChangesAt}
use Rattle.sg_store.specs.steps.Trimming.{kept_above, IsTrimmed, AreTrimmed}
use Rattle.sg_store.specs.steps.KeptWords.{in_row}
use Rattle.sg_store.specs.steps.StorePlans.{kept_at, ArePlans, ArePlanned, IsTrimmedBy, AreTrimmedTo}
use Rattle.sg_store.proofs.LinksKept.{links_grow}
use Rattle.sg_store.proofs.RowTests.{same_test}
use Rattle.sg_store.proofs.TrimmedWalks.{AreSized}
use Rattle.sg_store.proofs.TrimmedStore.{with_words}
use Rattle.sg_store.proofs.StorePlans.{item_there, store_long, plannable}

-- nodes that are trimmed one by one
trimmed_from : (nodes : List NodeShape) (words afters : List NodeWords) (cells : ℕ → Bool) → length words ≡ length nodes → length afters ≡ length nodes → ((i : ℕ) (node : NodeShape) (kept after : NodeWords) → slice_get nodes i ≡ Some node → slice_get words i ≡ Some kept → slice_get afters i ≡ Some after → IsTrimmed (kept_above (drop (suc i) nodes) (drop (suc i) words) cells) node kept after) → AreTrimmed nodes words afters cells
trimmed_from [] [] [] cells many as_many each = tt
trimmed_from [] [] (after ∷ afters) cells many as_many each = absurd (omega (arith, as_many))
trimmed_from [] (kept ∷ words) afters cells many as_many each = absurd (omega (arith, many))
trimmed_from (node ∷ later) [] afters cells many as_many each = absurd (omega (arith, many))
trimmed_from (node ∷ later) (kept ∷ words) [] cells many as_many each = absurd (omega (arith, as_many))
trimmed_from (node ∷ later) (kept ∷ words) (after ∷ afters) cells many as_many each = (
  each 0 node kept after refl refl refl,
  trimmed_from later words afters cells (omega (arith, many)) (omega (arith, as_many)) (λ i. each (suc i)),
)

-- the plans fit the nodes
pub planned : (store : StoreWords) (cells : ℕ → Bool) (plans : List NodePlan) → IsWellFormed store → AcceptedKeepsRules store.shape → AreSized store.shape.nodes → ArePlans store cells plans → ArePlanned store.shape.nodes store.nodes plans
planned store cells plans well rules sized are = record {
  many = omega (arith, are.many);
  each = λ i node at kept has plan p_at.
      (plannable store i node kept well rules sized (record { at = at; has = has }), (are.each i (omega arith) node at kept has plan p_at).fits);
}

-- the plan of a node is read from the end of the list
pub plan_read : (plans : List NodePlan) (n i : ℕ) (plan : NodePlan) → length plans ≡ n → i < n → plan ≡ get_or plans (n - 1 - i) plan → slice_get plans (n - suc i) ≡ Some plan
plan_read plans n i plan many below is =
    let same : n - 1 - i ≡ n - suc i = omega arith in
    let low : n - 1 - i < length plans = omega (arith, below, many) in
    ap (slice_get plans) (sym same) ∙ slice_get_read plans (length plans) (n - 1 - i) plan refl low is

-- ── One node after the other ──

pub none_trimmed : (nodes : List NodeShape) (words : List NodeWords) (plans : List NodePlan) → AreTrimmedTo nodes words words plans 0
none_trimmed nodes words plans = record {
  many = refl;
  done = λ i below. absurd (omega (arith, below));
  later = λ i from. refl;
}

get_set_same : {A : Type 0} (xs : List A) (i : ℕ) (x : A) → i < length xs → slice_get (slice_set xs i x) i ≡ Some x
get_set_same [] i x below = absurd (omega (arith, below))
get_set_same (first ∷ later) zero x below = refl
get_set_same (first ∷ later) (suc i) x below = get_set_same later i x (omega (arith, below))

get_set_other : {A : Type 0} (xs : List A) (i j : ℕ) (x : A) → j ≢ i → slice_get (slice_set xs i x) j ≡ slice_get xs j
get_set_other [] i j x apart = refl
get_set_other (first ∷ later) zero zero x apart = absurd (apart refl)
get_set_other (first ∷ later) zero (suc j) x apart = refl
get_set_other (first ∷ later) (suc i) zero x apart = refl
get_set_other (first ∷ later) (suc i) (suc j) x apart = get_set_other later i j x (λ same. apart (ap suc same))

pub one_trimmed : (nodes : List NodeShape) (words afters next : List NodeWords) (plans : List NodePlan) (i : ℕ) (node : NodeShape) (plan : NodePlan) → AreTrimmedTo nodes words afters plans i → slice_get nodes i ≡ Some node → slice_get plans (length nodes - suc i) ≡ Some plan → ChangesAt (IsTrimmedBy node plan) afters next i → AreTrimmedTo nodes words next plans (i + 1)
one_trimmed nodes words afters next plans i node plan are at p_at change =
    let within : i < length afters = slice_get_within afters i change.kept change.was in
    let here : slice_get next i ≡ Some change.after = ap (λ (ws : List NodeWords). slice_get ws i) change.now_is ∙ get_set_same afters i change.after within in
    let elsewhere : (j : ℕ) → j ≢ i → slice_get next j ≡ slice_get afters j =
    λ j apart. ap (λ (ws : List NodeWords). slice_get ws j) change.now_is ∙ get_set_other afters i j change.after apart in
    record {
      many = ap length change.now_is ∙ length-set afters i change.after ∙ are.many;
      done = λ j below other o_at kept k_at after a_at p x_at. elim (cases_eq j i) [
        | inl same ↦
            let own_node : node ≡ other = same_Some node other (sym at ∙ sym (ap (slice_get nodes) same) ∙ o_at) in
            let own_plan : plan ≡ p = same_Some plan p (sym p_at ∙ sym (ap (λ k. slice_get plans (length nodes - suc k)) same) ∙ x_at) in
            let own_kept : change.kept ≡ kept = same_Some change.kept kept (sym change.was ∙ are.later i (omega arith) ∙ sym (ap (slice_get words) same) ∙ k_at) in
            let own_after : change.after ≡ after = same_Some change.after after (sym here ∙ sym (ap (slice_get next) same) ∙ a_at) in
            subst (λ (n : NodeShape). IsTrimmedBy n p kept after) own_node
            (subst (λ (q : NodePlan). IsTrimmedBy node q kept after) own_plan
            (subst (λ (k : NodeWords). IsTrimmedBy node plan k after) own_kept
            (subst (λ (k : NodeWords). IsTrimmedBy node plan change.kept k) own_after change.change)))
        | inr apart ↦ are.done j (omega (arith, below, apart)) other o_at kept k_at after (sym (elsewhere j apart) ∙ a_at) p x_at
      ];
      later = λ j from. elsewhere j (omega (arith, from)) ∙ are.later j (omega (arith, from));
    }

-- ── All nodes ──

pub all_trimmed : (store : StoreWords) (cells : ℕ → Bool) (plans : List NodePlan) (afters : List NodeWords) → IsWellFormed store → ArePlans store cells plans → AreTrimmedTo store.shape.nodes store.nodes afters plans (length store.shape.nodes) → AreTrimmed store.shape.nodes store.nodes afters cells
all_trimmed store cells plans afters well are trimmed =
    trimmed_from store.shape.nodes store.nodes afters cells (store_long store well) (trimmed.many ∙ store_long store well)
    (λ i node kept after at has now.
    let within : i < length store.shape.nodes = slice_get_within store.shape.nodes i node at in
    let p = item_there plans (length store.shape.nodes - suc i) (omega (arith, within, are.many)) in
    let plan = are.each i (omega arith) node at kept has p.0 p.1 in
    subst (λ (f : ℕ → Bool). IsTrimmed f node kept after) (same_test (in_row p.0.row) (kept_at store.shape.nodes store.nodes cells (suc i)) plan.row)
    (trimmed.done i within node at kept has after now p.0 p.1).trimmed)

-- what a node that is trimmed keeps, whatever its plan
trimmed_by : (store : StoreWords) (cells : ℕ → Bool) (plans : List NodePlan) (afters : List NodeWords) → IsWellFormed store → ArePlans store cells plans → AreTrimmedTo store.shape.nodes store.nodes afters plans (length store.shape.nodes) → (i : ℕ) (node : NodeShape) (after : NodeWords) → slice_get store.shape.nodes i ≡ Some node → slice_get afters i ≡ Some after → IsWithinCap node.kind node after × IsParted after.pool
trimmed_by store cells plans afters well are trimmed i node after at now =
    let within : i < length store.shape.nodes = slice_get_within store.shape.nodes i node at in
    let p = item_there plans (length store.shape.nodes - suc i) (omega (arith, within, are.many)) in
    let low : i < length store.nodes = omega (arith, within, store_long store well) in
    let by = trimmed.done i within node at (get_or store.nodes i after) (slice_get-get_or store.nodes i after low) after now p.0 p.1 in
    (by.capped, by.parted)

zip_from : (nodes : List NodeShape) (afters : List NodeWords) → length afters ≡ length nodes → ((i : ℕ) (node : NodeShape) (after : NodeWords) → slice_get nodes i ≡ Some node → slice_get afters i ≡ Some after → IsWithinCap node.kind node after) → AllZip (λ (node : NodeShape) (kept : NodeWords). IsWithinCap node.kind node kept) nodes afters
zip_from [] [] many each = tt
zip_from [] (after ∷ afters) many each = absurd (omega (arith, many))
zip_from (node ∷ later) [] many each = absurd (omega (arith, many))
zip_from (node ∷ later) (after ∷ afters) many each = (each 0 node after refl refl, zip_from later afters (omega (arith, many)) (λ i. each (suc i)))

pub all_capped : (store : StoreWords) (cells : ℕ → Bool) (plans : List NodePlan) (afters : List NodeWords) → IsWellFormed store → ArePlans store cells plans → AreTrimmedTo store.shape.nodes store.nodes afters plans (length store.shape.nodes) → AllZip (λ (node : NodeShape) (kept : NodeWords). IsWithinCap node.kind node kept) store.shape.nodes afters
all_capped store cells plans afters well are trimmed =
    zip_from store.shape.nodes afters (trimmed.many ∙ store_long store well)
    (λ i node after at now. (trimmed_by store cells plans afters well are trimmed i node after at now).0)

pub all_parted : (store : StoreWords) (cells : ℕ → Bool) (plans : List NodePlan) (afters : List NodeWords) → IsWellFormed store → ArePlans store cells plans → AreTrimmedTo store.shape.nodes store.nodes afters plans (length store.shape.nodes) → All (λ (kept : NodeWords). IsParted kept.pool) afters
all_parted store cells plans afters well are trimmed i d below =
    let many : length afters ≡ length store.shape.nodes = trimmed.many ∙ store_long store well in
    let found = item_there store.shape.nodes i (omega (arith, below, many)) in
    (trimmed_by store cells plans afters well are trimmed i found.0 (get_or afters i d) found.1 (slice_get-get_or afters i d below)).1

-- ── Links only go ──

less_from : (nodes : List NodeShape) (words afters : List NodeWords) (cells : ℕ → Bool) → AreTrimmed nodes words afters cells → (index slot place : ℕ) → leads_from (slice_get nodes index) (slice_get afters index) slot ≡ Some place → leads_from (slice_get nodes index) (slice_get words index) slot ≡ Some place
less_from [] [] [] cells trimmed index slot place leads = leads
less_from [] [] (after ∷ afters) cells trimmed index slot place leads = absurd trimmed
less_from [] (kept ∷ words) afters cells trimmed index slot place leads = absurd trimmed
less_from (node ∷ later) [] afters cells trimmed index slot place leads = absurd trimmed
less_from (node ∷ later) (kept ∷ words) [] cells trimmed index slot place leads = absurd trimmed
less_from (node ∷ later) (kept ∷ words) (after ∷ afters) cells trimmed zero slot place leads = trimmed.0.trims.less slot place leads
less_from (node ∷ later) (kept ∷ words) (after ∷ afters) cells trimmed (suc index) slot place leads = less_from later words afters cells trimmed.1 index slot place leads

pub links_shrink : (store : StoreWords) (afters : List NodeWords) (fields : List (List ℕ)) (cells : ℕ → Bool) → IsWellFormed store → AreTrimmed store.shape.nodes store.nodes afters cells → IsWellFormed (with_words store afters fields) → GrowsLinks (with_words store afters fields) store
links_shrink store afters fields cells well trimmed now =
    links_grow (with_words store afters fields) store now well refl
    (λ index slot place leads. less_from store.shape.nodes store.nodes afters cells trimmed index slot place leads)

pub links_same : (store : StoreWords) → GrowsLinks store store
links_same store index link is = is
