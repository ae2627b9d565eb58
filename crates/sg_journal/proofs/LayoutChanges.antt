-- The changes of one layout: what is freed and what is taken, as lists of links.
use Rattle.std.proofs.Common.{◌≡◌, ◌⊎◌, inl, inr, ℕ, zero, suc, ◌<◌, ◌==◌, Bool, true, false, not, ◌&&◌, ◌||◌, List, [], ◌∷◌, ◌++◌, length, map, refl, sym, ap, ◌∙◌, subst, arith}
use Rattle.std.specs.Prelude.{Contains}
use Rattle.std.specs.List.{list_any}
use Rattle.std.proofs.lemmas.Bool.{both_ways, and_parts, and_from, eqb-true, eq-eqb, not-true, false_from_ne_true, cases_lt}
use Rattle.std.proofs.lemmas.List.{get_or_past, map-append}
use Rattle.std.proofs.lemmas.List.Elements.{Contains-append_left, Contains-append_right, Contains-append_cases}
use Rattle.sg_words.proofs.Uses.{contains_none, contains_head, contains_rest, contains_cases, into_map, from_map, from_filter, into_filter}
use Rattle.sg_store.specs.declared.links.LinkAt.{LinkAt}
use Rattle.sg_journal.specs.declared.lines.Link.{Link}
use Rattle.sg_journal.specs.declared.lines.Line.{Line}
use Rattle.sg_journal.specs.declared.lines.Line.TheVariants.{Take, Free}
use Rattle.sg_journal.specs.Placing.{LayoutLinks, links_in}
use Rattle.sg_journal.specs.Changes.{same_link, lacking, link_of, take_line, free_line, frees_upto, takes_upto}
use Rattle.sg_journal.specs.PlacingLaws.{place_of}
use Rattle.sg_journal.specs.steps.Soundness.{free_of}

-- what is freed at so many nodes, and what is taken
abbrev pub frees_of : ℕ → LayoutLinks → LayoutLinks → ℕ → List Link
frees_of layout old new zero = []
frees_of layout old new (suc index) = map (link_of layout (suc index)) (lacking (links_in new index) (links_in old index)) ++ frees_of layout old new index

abbrev pub takes_of : ℕ → LayoutLinks → LayoutLinks → ℕ → List Link
takes_of layout old new zero = []
takes_of layout old new (suc index) = takes_of layout old new index ++ map (link_of layout (suc index)) (lacking (links_in old index) (links_in new index))

-- ---- as lines

map_free : (layout node : ℕ) (links : List LinkAt) → map free_of (map (link_of layout node) links) ≡ map (free_line layout node) links
map_free layout node [] = refl
map_free layout node (x ∷ xs) = ap (λ (l : List Line). Free layout node x.number ∷ l) (map_free layout node xs)

map_take : (layout node : ℕ) (links : List LinkAt) → map Take (map (link_of layout node) links) ≡ map (take_line layout node) links
map_take layout node [] = refl
map_take layout node (x ∷ xs) = ap (λ (l : List Line). Take (link_of layout node x) ∷ l) (map_take layout node xs)

pub frees_are : (layout : ℕ) (old new : LayoutLinks) (n : ℕ) → map free_of (frees_of layout old new n) ≡ frees_upto layout old new n
frees_are layout old new zero = refl
frees_are layout old new (suc index) =
    map-append free_of (map (link_of layout (suc index)) (lacking (links_in new index) (links_in old index))) (frees_of layout old new index)
    ∙ ap (λ (l : List Line). l ++ map free_of (frees_of layout old new index)) (map_free layout (suc index) (lacking (links_in new index) (links_in old index)))
    ∙ ap (λ (l : List Line). map (free_line layout (suc index)) (lacking (links_in new index) (links_in old index)) ++ l) (frees_are layout old new index)

pub takes_are : (layout : ℕ) (old new : LayoutLinks) (n : ℕ) → map Take (takes_of layout old new n) ≡ takes_upto layout old new n
takes_are layout old new zero = refl
takes_are layout old new (suc index) =
    map-append Take (takes_of layout old new index) (map (link_of layout (suc index)) (lacking (links_in old index) (links_in new index)))
    ∙ ap (λ (l : List Line). l ++ map Take (map (link_of layout (suc index)) (lacking (links_in old index) (links_in new index)))) (takes_are layout old new index)
    ∙ ap (λ (l : List Line). takes_upto layout old new index ++ l) (map_take layout (suc index) (lacking (links_in old index) (links_in new index)))

-- ---- what is lacked

pub same_is : (x y : LinkAt) → same_link x y ≡ true → x ≡ y
same_is x y e =
    let one = and_parts (x.number == y.number) ((x.parent == y.parent) && (x.slot == y.slot)) e in
    let two = and_parts (x.parent == y.parent) (x.slot == y.slot) one.1 in
    let make : ℕ → ℕ → ℕ → LinkAt = λ n p s. record { number = n; parent = p; slot = s } in
    ap (λ n. make n x.parent x.slot) (eqb-true x.number y.number one.0) ∙ ap (λ p. make y.number p x.slot) (eqb-true x.parent y.parent two.0) ∙ ap (λ s. make y.number y.parent s) (eqb-true x.slot y.slot two.1)

same_self : (x : LinkAt) → same_link x x ≡ true
same_self x = and_from (x.number == x.number) ((x.parent == x.parent) && (x.slot == x.slot)) (eq-eqb x.number x.number refl) (and_from (x.parent == x.parent) (x.slot == x.slot) (eq-eqb x.parent x.parent refl) (eq-eqb x.slot x.slot refl))

any_same : (x : LinkAt) (xs : List LinkAt) → list_any (same_link x) xs ≡ true → Contains xs x
any_same x [] e = absurd (both_ways false refl e)
any_same x (y ∷ ys) e = by_case (same_link x y) refl e (any_same x ys) where
  by_case : (b : Bool) → same_link x y ≡ b → (b || list_any (same_link x) ys) ≡ true → (list_any (same_link x) ys ≡ true → Contains ys x) → Contains (y ∷ ys) x
  by_case true is e rest = contains_head x y ys (sym (same_is x y is))
  by_case false is e rest = contains_rest x y ys (rest e)

same_any : (x : LinkAt) (xs : List LinkAt) → Contains xs x → list_any (same_link x) xs ≡ true
same_any x [] has = absurd (contains_none x has)
same_any x (y ∷ ys) has = elim (contains_cases x y ys has) [
  | inl same ↦ ap (λ b. b || list_any (same_link x) ys) (ap (same_link x) same ∙ same_self x)
  | inr later ↦ ap (λ b. same_link x y || b) (same_any x ys later) ∙ or_true (same_link x y)
]
  where
    or_true : (b : Bool) → (b || true) ≡ true
    or_true true = refl
    or_true false = refl

pub from_lacking : (others links : List LinkAt) (x : LinkAt) → Contains (lacking others links) x → Contains links x × (Contains others x → ⊥)
from_lacking others links x has =
    let parts = from_filter (λ (l : LinkAt). not (list_any (same_link l) others)) links x has in
    (parts.0, λ there. both_ways (list_any (same_link x) others) (not-true _ parts.1) (same_any x others there))

pub into_lacking : (others links : List LinkAt) (x : LinkAt) → Contains links x → (Contains others x → ⊥) → Contains (lacking others links) x
into_lacking others links x has apart =
    into_filter (λ (l : LinkAt). not (list_any (same_link l) others)) links x has (ap not (false_from_ne_true (list_any (same_link x) others) (λ e. apart (any_same x others e))))

-- whether a link is among others
pub among : (others : List LinkAt) (x : LinkAt) → Contains others x ⊎ (Contains others x → ⊥)
among others x = by_case (list_any (same_link x) others) refl where
  by_case : (b : Bool) → list_any (same_link x) others ≡ b → Contains others x ⊎ (Contains others x → ⊥)
  by_case true is = inl (any_same x others is)
  by_case false is = inr (λ there. both_ways (list_any (same_link x) others) is (same_any x others there))

-- ---- members

-- a link of a layout that others lack, at a node with an index below a number
pub record IsLacking (layout : ℕ) (others links : LayoutLinks) (n : ℕ) (x : Link) : Type 0 where
  pub index : ℕ
  pub below : index < n
  pub layout_is : x.layout ≡ layout
  pub node_is : x.node ≡ suc index
  pub has : Contains (links_in links index) (place_of x)
  pub lacks : Contains (links_in others index) (place_of x) → ⊥

from_block : (layout index n : ℕ) (others links : LayoutLinks) (x : Link) → index < n → Contains (map (link_of layout (suc index)) (lacking (links_in others index) (links_in links index))) x → IsLacking layout others links n x
from_block layout index n others links x below has =
    let found = from_map (link_of layout (suc index)) (lacking (links_in others index) (links_in links index)) x has in
    let parts = from_lacking (links_in others index) (links_in links index) found.0 found.1 in
    let place : found.0 ≡ place_of x = ap place_of found.2 in
    record {
      index = index;
      below = below;
      layout_is = sym (ap (λ (l : Link). l.layout) found.2);
      node_is = sym (ap (λ (l : Link). l.node) found.2);
      has = subst (λ (l : LinkAt). Contains (links_in links index) l) place parts.0;
      lacks = subst (λ (l : LinkAt). Contains (links_in others index) l → ⊥) place parts.1;
    }

into_block : (layout : ℕ) (others links : LayoutLinks) (n : ℕ) (x : Link) (is : IsLacking layout others links n x) → Contains (map (link_of layout (suc is.index)) (lacking (links_in others is.index) (links_in links is.index))) x
into_block layout others links n x is =
    let there = into_map (link_of layout (suc is.index)) (lacking (links_in others is.index) (links_in links is.index)) (place_of x) (into_lacking (links_in others is.index) (links_in links is.index) (place_of x) is.has is.lacks) in
    let same : link_of layout (suc is.index) (place_of x) ≡ x =
    ap (λ l. link_of l (suc is.index) (place_of x)) (sym is.layout_is) ∙ ap (λ n. link_of x.layout n (place_of x)) (sym is.node_is) in
    subst (λ (l : Link). Contains (map (link_of layout (suc is.index)) (lacking (links_in others is.index) (links_in links is.index))) l) same there

wider : (layout : ℕ) (others links : LayoutLinks) (n : ℕ) (x : Link) → IsLacking layout others links n x → IsLacking layout others links (suc n) x
wider layout others links n x is = record { index = is.index; below = omega (arith, is.below); layout_is = is.layout_is; node_is = is.node_is; has = is.has; lacks = is.lacks }

pub from_frees : (layout : ℕ) (old new : LayoutLinks) (n : ℕ) (x : Link) → Contains (frees_of layout old new n) x → IsLacking layout new old n x
from_frees layout old new zero x has = absurd (contains_none x has)
from_frees layout old new (suc index) x has = elim (Contains-append_cases (map (link_of layout (suc index)) (lacking (links_in new index) (links_in old index))) (frees_of layout old new index) x has) [
  | inl here ↦ from_block layout index (suc index) new old x (omega arith) here
  | inr later ↦ wider layout new old index x (from_frees layout old new index x later)
]

pub into_frees : (layout : ℕ) (old new : LayoutLinks) (n : ℕ) (x : Link) → IsLacking layout new old n x → Contains (frees_of layout old new n) x
into_frees layout old new zero x is = absurd (omega (arith, is.below))
into_frees layout old new (suc index) x is = elim (cases_lt is.index index) [
  | inl before ↦ Contains-append_right (map (link_of layout (suc index)) (lacking (links_in new index) (links_in old index))) (frees_of layout old new index) x
      (into_frees layout old new index x (record { index = is.index; below = before; layout_is = is.layout_is; node_is = is.node_is; has = is.has; lacks = is.lacks }))
  | inr past ↦
      let same : is.index ≡ index = omega (arith, is.below, past) in
      Contains-append_left (map (link_of layout (suc index)) (lacking (links_in new index) (links_in old index))) (frees_of layout old new index) x
      (subst (λ i. Contains (map (link_of layout (suc i)) (lacking (links_in new i) (links_in old i))) x) same (into_block layout new old (suc index) x is))
]

pub from_takes : (layout : ℕ) (old new : LayoutLinks) (n : ℕ) (x : Link) → Contains (takes_of layout old new n) x → IsLacking layout old new n x
from_takes layout old new zero x has = absurd (contains_none x has)
from_takes layout old new (suc index) x has = elim (Contains-append_cases (takes_of layout old new index) (map (link_of layout (suc index)) (lacking (links_in old index) (links_in new index))) x has) [
  | inl before ↦ wider layout old new index x (from_takes layout old new index x before)
  | inr here ↦ from_block layout index (suc index) old new x (omega arith) here
]

pub into_takes : (layout : ℕ) (old new : LayoutLinks) (n : ℕ) (x : Link) → IsLacking layout old new n x → Contains (takes_of layout old new n) x
into_takes layout old new zero x is = absurd (omega (arith, is.below))
into_takes layout old new (suc index) x is = elim (cases_lt is.index index) [
  | inl before ↦ Contains-append_left (takes_of layout old new index) (map (link_of layout (suc index)) (lacking (links_in old index) (links_in new index))) x
      (into_takes layout old new index x (record { index = is.index; below = before; layout_is = is.layout_is; node_is = is.node_is; has = is.has; lacks = is.lacks }))
  | inr past ↦
      let same : is.index ≡ index = omega (arith, is.below, past) in
      Contains-append_right (takes_of layout old new index) (map (link_of layout (suc index)) (lacking (links_in old index) (links_in new index))) x
      (subst (λ i. Contains (map (link_of layout (suc i)) (lacking (links_in old i) (links_in new i))) x) same (into_block layout old new (suc index) x is))
]

-- what stands at an index is of a node that is there
pub index_below : (nodes : LayoutLinks) (index : ℕ) (x : LinkAt) → Contains (links_in nodes index) x → index < length nodes
index_below nodes index x has = elim (cases_lt index (length nodes)) [
  | inl below ↦ below
  | inr past ↦ absurd (contains_none x (subst (λ (l : List LinkAt). Contains l x) (get_or_past nodes index [] past) has))
]
