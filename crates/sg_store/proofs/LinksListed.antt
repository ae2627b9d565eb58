-- The links of a node, listed by rising number.
use Rattle.std.proofs.Common.{◌≡◌, ℕ, suc, ◌+◌, ◌<◌, Bool, true, false, cond, List, [], ◌∷◌, ◌++◌, get_or, refl, sym, ap, ◌∙◌, subst, arith, inl, inr}
use Rattle.std.specs.Prelude.{Option, Some, is_some, slice_get}
use Rattle.std.specs.List.{Contains}
use Rattle.std.proofs.lemmas.Bool.{cases_lt, false≢true}
use Rattle.std.proofs.lemmas.List.{get_or_default}
use Rattle.std.proofs.lemmas.List.Elements.{Contains-push, Contains-push_cases, Contains-append_left}
use Rattle.std.proofs.lemmas.List.Quantifiers.{all_pairs_push}
use Rattle.std.proofs.lemmas.Option.{same_Some}
use Rattle.sg_layout.specs.declared.shape.NodeShape.{NodeShape}
use Rattle.sg_pool.specs.Numbers.{is_live_number, IsParted}
use Rattle.sg_store.specs.declared.node.NodeWords.{NodeWords}
use Rattle.sg_store.specs.declared.links.LinkAt.{LinkAt}
use Rattle.sg_store.specs.StoreWords.{StoreWords}
use Rattle.sg_layout.specs.Live.{kind_or}
use Rattle.sg_layout.specs.StorageWords.{ends_segment}
use Rattle.sg_store.specs.Links.{IsLink, AreLinks, node_above}
use Rattle.sg_store.specs.LinkLaws.{AreSound, IsLiveAt}
use Rattle.sg_store.specs.steps.Noting.{LinksBelow}
use Rattle.sg_store.proofs.Marked.{live_is_marked}

pub below_none : (store : StoreWords) (index : ℕ) → LinksBelow store index 0 []
below_none store index = record {
  members = λ link. (λ has. absurd (omega (arith, has.1)), λ is. absurd (omega (arith, is.1)));
  rising = λ i j d less low. absurd (omega (arith, low));
}

-- a number that isn't live has no link
pub below_skipped : (store : StoreWords) (index number : ℕ) (kept : NodeWords) (links : List LinkAt) → AreSound store index → slice_get store.nodes index ≡ Some kept → is_live_number kept.pool number ≡ false → LinksBelow store index number links → LinksBelow store index (number + 1) links
below_skipped store index number kept links sound has dead so_far = record {
  members = λ link. (
    λ there. let is = (so_far.members link).0 there in (is.0, omega (arith, is.1)),
    λ is. (so_far.members link).1 (is.0, apart link is.0 (omega (arith, is.1))),
  );
  rising = so_far.rising;
}
  where
    apart : (link : LinkAt) → IsLink store index link → link.number < number + 1 → link.number < number
    apart link is below = elim (cases_lt link.number number) [
      | inl low ↦ low
      | inr high ↦
          let on : IsLiveAt store index link.number = (sound.live link.number).1 (link, is, refl) in
          let same : on.kept ≡ kept = same_Some on.kept kept (sym on.there ∙ has) in
          let number_is : link.number ≡ number = omega (arith, below, high) in
          let live : is_live_number kept.pool number ≡ true =
          ap (λ (k : NodeWords). is_live_number k.pool number) (sym same) ∙ ap (λ n. is_live_number on.kept.pool n) (sym number_is) ∙ on.live in
          absurd (false≢true (sym dead ∙ live))
    ]

-- the link of the next number
pub below_more : (store : StoreWords) (index number : ℕ) (links : List LinkAt) (link : LinkAt) → AreSound store index → IsLink store index link → link.number ≡ number → LinksBelow store index number links → LinksBelow store index (number + 1) (links ++ link ∷ [])
below_more store index number links link sound is number_is so_far = record {
  members = λ other. (
    λ there. elim (Contains-push_cases links link other there) [
      | inl old ↦ let was = (so_far.members other).0 old in (was.0, omega (arith, was.1))
      | inr new ↦ (subst (IsLink store index) new is, omega (arith, number_is, ap (λ (l : LinkAt). l.number) new))
    ],
    λ other_is. elim (cases_lt other.number number) [
      | inl low ↦ Contains-append_left links (link ∷ []) other ((so_far.members other).1 (other_is.0, low))
      | inr high ↦
          let same : other ≡ link = sound.numbers other link other_is.0 is (omega (arith, other_is.1, high, number_is)) in
          subst (Contains (links ++ link ∷ [])) (sym same) (Contains-push links link)
    ],
  );
  rising = all_pairs_push (λ (x y : LinkAt). x.number < y.number) links link so_far.rising
      (λ k d below. let was = (so_far.members (get_or links k d)).0 (k, below, get_or_default links k (get_or links k d) d below) in omega (arith, was.1, number_is));
}

-- the links of the numbers below the mark are all: none past it is live
pub below_marked : (store : StoreWords) (index : ℕ) (kept : NodeWords) (links : List LinkAt) (count : ℕ) → AreSound store index → slice_get store.nodes index ≡ Some kept → IsParted kept.pool → count ≡ kept.pool.mark → LinksBelow store index count links → AreLinks store index links
below_marked store index kept links count sound has parted count_is all = record {
  members = λ link. (
    λ there. ((all.members link).0 there).0,
    λ is.
        let at : IsLiveAt store index link.number = (sound.live link.number).1 (link, is, refl) in
        let same : at.kept ≡ kept = same_Some at.kept kept (sym at.there ∙ has) in
        let live : is_live_number kept.pool link.number ≡ true = subst (λ (k : NodeWords). is_live_number k.pool link.number ≡ true) same at.live in
        (all.members link).1 (is, omega (arith, live_is_marked kept.pool link.number parted live, count_is)),
  );
  rising = all.rising;
}

-- ── The nodes above ──

pub above_next : (nodes : List NodeShape) (i : ℕ) (node : NodeShape) (found : Bool) → slice_get nodes i ≡ Some node → found ≡ is_some (node_above nodes i) → cond (ends_segment node.kind) true found ≡ is_some (node_above nodes (i + 1))
above_next nodes i node found at was =
    let one : suc i ≡ i + 1 = omega arith in
    split (ends_segment node.kind) ∙ ap (λ (o : Option NodeShape). is_some (cond (ends_segment (kind_or o)) (Some i) (node_above nodes i))) (sym at)
    ∙ ap (λ n. is_some (node_above nodes n)) one
  where
    split : (b : Bool) → cond b true found ≡ is_some (cond b (Some i) (node_above nodes i))
    split true = refl
    split false = was
