-- Stores have one placing, and where nothing is placed nothing is held.
use Rattle.std.proofs.Common.{◌≡◌, ℕ, zero, suc, ◌≤◌, List, [], ◌∷◌, length, map, refl, sym, ap, ◌∙◌, subst, arith, inl, inr}
use Rattle.std.specs.Prelude.{Contains}
use Rattle.std.proofs.lemmas.List.{ext_get_or}
use Rattle.sg_words.proofs.Uses.{contains_none, contains_head, contains_rest, contains_cases}
use Rattle.sg_layout.specs.declared.shape.NodeShape.{NodeShape}
use Rattle.sg_layout.specs.declared.shape.Shape.{Shape}
use Rattle.sg_store.specs.declared.links.LinkAt.{LinkAt}
use Rattle.sg_store.specs.StoreWords.{StoreWords}
use Rattle.sg_journal.specs.Placing.{LayoutLinks, Placing, links_in, links_at, ArePlacedIn, AreRising, nothing_placed}
use Rattle.sg_journal.specs.PlacingLaws.{ArePlacedOnce, NothingIsSound, NothingIsHeld}
use Rattle.sg_journal.proofs.Lacks.{AreAtLeast, rising_rest, rising_above}

-- ---- rising links of the same members are the same

pub least_of : (number : ℕ) (xs : List LinkAt) (x : LinkAt) → AreAtLeast number xs → Contains xs x → number ≤ x.number
least_of number [] x all has = absurd (contains_none x has)
least_of number (y ∷ ys) x all has = elim (contains_cases x y ys has) [
  | inl same ↦ subst (λ (z : LinkAt). number ≤ z.number) same all.0
  | inr later ↦ least_of number ys x all.1 later
]

-- the first of rising links is that of others with the same members
first_same : (x y : LinkAt) (xs ys : List LinkAt) → AreRising (x ∷ xs) → AreRising (y ∷ ys) → Contains (y ∷ ys) x → Contains (x ∷ xs) y → x ≡ y
first_same x y xs ys one two in_ys in_xs = elim (contains_cases x y ys in_ys) [
  | inl same ↦ sym same
  | inr later ↦ elim (contains_cases y x xs in_xs) [
    | inl same ↦ same
    | inr behind ↦ absurd (omega (arith, least_of (suc y.number) ys x (rising_above y ys two) later, least_of (suc x.number) xs y (rising_above x xs one) behind))
  ]
]

-- a member of the rest isn't the first
rest_member : (x z : LinkAt) (xs ys : List LinkAt) → AreRising (x ∷ xs) → Contains xs z → Contains (x ∷ ys) z → Contains ys z
rest_member x z xs ys rising has there = elim (contains_cases z x ys there) [
  | inl same ↦ absurd (let above : suc x.number ≤ z.number = least_of (suc x.number) xs z (rising_above x xs rising) has in omega (arith, above, ap (λ (l : LinkAt). l.number) same))
  | inr later ↦ later
]

same_links : (xs ys : List LinkAt) → AreRising xs → AreRising ys → ((z : LinkAt) → Contains xs z → Contains ys z) → ((z : LinkAt) → Contains ys z → Contains xs z) → xs ≡ ys
same_links [] [] one two there back = refl
same_links [] (y ∷ ys) one two there back = absurd (contains_none y (back y (contains_head y y ys refl)))
same_links (x ∷ xs) [] one two there back = absurd (contains_none x (there x (contains_head x x xs refl)))
same_links (x ∷ xs) (y ∷ ys) one two there back =
    let same : x ≡ y = first_same x y xs ys one two (there x (contains_head x x xs refl)) (back y (contains_head y y ys refl)) in
    let on : (z : LinkAt) → Contains xs z → Contains ys z = λ z has. rest_member x z xs ys one has (subst (λ (w : LinkAt). Contains (w ∷ ys) z) (sym same) (there z (contains_rest z x xs has))) in
    let off : (z : LinkAt) → Contains ys z → Contains xs z = λ z has. rest_member y z ys xs two has (subst (λ (w : LinkAt). Contains (w ∷ xs) z) same (back z (contains_rest z y ys has))) in
    ap (λ (l : LinkAt). l ∷ xs) same ∙ ap (λ (l : List LinkAt). y ∷ l) (same_links xs ys (rising_rest x xs one) (rising_rest y ys two) on off)

same_nodes : (store : StoreWords) (one other : LayoutLinks) → ArePlacedIn store one → ArePlacedIn store other → one ≡ other
same_nodes store one other first second =
    ext_get_or [] one other (first.as_many ∙ sym second.as_many) (λ i below.
    same_links (links_in one i) (links_in other i) (first.links i).rising (second.links i).rising
    (λ z has. ((second.links i).members z).1 (((first.links i).members z).0 has))
    (λ z has. ((first.links i).members z).1 (((second.links i).members z).0 has)))

pub are_placed_once : ArePlacedOnce
are_placed_once [] [] [] first second = refl
are_placed_once [] [] (o ∷ other) first second = absurd second
are_placed_once [] (o ∷ one) other first second = absurd first
are_placed_once (store ∷ stores) [] other first second = absurd first
are_placed_once (store ∷ stores) (o ∷ one) [] first second = absurd second
are_placed_once (store ∷ stores) (o ∷ one) (p ∷ other) first second =
    ap (λ (l : LayoutLinks). l ∷ one) (same_nodes store o p first.0 second.0) ∙ ap (λ (l : Placing). p ∷ l) (are_placed_once stores one other first.1 second.1)

-- ---- nothing placed

none_in : (nodes : List NodeShape) (index : ℕ) → links_in (map (λ (n : NodeShape). let out : List LinkAt = [] in out) nodes) index ≡ []
none_in [] index = refl
none_in (node ∷ nodes) zero = refl
none_in (node ∷ nodes) (suc index) = none_in nodes index

pub nothing_at : (shapes : List Shape) (layout node : ℕ) → links_at (nothing_placed shapes) layout node ≡ []
nothing_at shapes layout zero = refl
nothing_at [] layout (suc index) = refl
nothing_at (shape ∷ shapes) zero (suc index) = none_in shape.nodes index
nothing_at (shape ∷ shapes) (suc layout) (suc index) = nothing_at shapes layout (suc index)

no_member : (x : LinkAt) (links : List LinkAt) → links ≡ [] → Contains links x → ⊥
no_member x links none has = contains_none x (subst (λ (l : List LinkAt). Contains l x) none has)

pub nothing_is_sound : NothingIsSound
nothing_is_sound shapes = record {
  numbers = λ layout node. subst AreRising (sym (nothing_at shapes layout node)) (λ i j d before below. absurd (omega (arith, below)));
  slots = λ layout node x y one two parents same. absurd (no_member x _ (nothing_at shapes layout node) one);
  fit = λ layout node link has. absurd (no_member link _ (nothing_at shapes layout node) has);
  few = λ layout node room is. omega (arith, ap length (nothing_at shapes layout node));
}

pub nothing_is_held : NothingIsHeld
nothing_is_held shapes = record {
  once = tt;
  members = λ x. ((λ has. absurd (contains_none x has)), (λ has. absurd (no_member _ _ (nothing_at shapes x.layout x.node) has)));
}
