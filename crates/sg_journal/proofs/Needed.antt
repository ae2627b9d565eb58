-- As many numbers stand in well-formed stores as their state needs.
use Rattle.std.proofs.Common.{◌≡◌, inl, inr, ℕ, zero, suc, ◌+◌, ◌-◌, ◌≤◌, Bool, true, false, cond, List, [], ◌∷◌, length, Some, refl, sym, ap, ◌∙◌, subst, arith}
use Rattle.std.specs.Prelude.{Contains, slice_get, slice_index_or, count_by}
use Rattle.std.specs.List.{AllZip}
use Rattle.std.proofs.lemmas.Bool.{cases_eq}
use Rattle.std.proofs.lemmas.Option.{none-some, same_Some}
use Rattle.std.proofs.lemmas.List.Sums.{sum_by-cons}
use Rattle.sg_words.proofs.Uses.{contains_none, contains_cases}
use Rattle.sg_layout.specs.declared.shape.NodeShape.{NodeShape}
use Rattle.sg_layout.specs.declared.shape.Shape.{Shape}
use Rattle.sg_layout.specs.Need.{need_of}
use Rattle.sg_flat.specs.declared.state.FlatLayout.{FlatLayout}
use Rattle.sg_pool.specs.Numbers.{live_count}
use Rattle.sg_store.specs.declared.links.LinkAt.{LinkAt}
use Rattle.sg_store.specs.declared.node.NodeWords.{NodeWords}
use Rattle.sg_store.specs.StoreWords.{StoreWords}
use Rattle.sg_store.specs.StandsFor.{StandsFor}
use Rattle.sg_store.specs.StoreLaws.{LiveIsNeed}
use Rattle.sg_store.specs.WellFormed.{IsWellFormed, kind_has_cap}
use Rattle.sg_store.specs.Links.{AreLinks}
use Rattle.sg_store.specs.LinkLaws.{LinksAreSound, AreSound}
use Rattle.sg_store.specs.Standing.{shapes_of}
use Rattle.sg_journal.specs.Rooms.{rooms_of}
use Rattle.sg_journal.specs.Placing.{Placing, links_at, ArePlaced, AreRising}
use Rattle.sg_journal.specs.Needs.{PlacedAreNeeded}
use Rattle.sg_journal.proofs.Lacks.{AreAtLeast, at_least_more, rising_rest, rising_above}
use Rattle.sg_journal.proofs.StoresPlaced.{few_live, live_of, from_zero, well_at, stores_are_sound}
use Rattle.sg_journal.proofs.PlacingChanges.{held_counts}

-- ---- each live number has a link

-- each live number from a number on, the live ones being listed from there, is that of a link
abbrev HasLinks : List Bool → ℕ → List LinkAt → Type 0
HasLinks live start xs = (n : ℕ) → slice_index_or live n false ≡ true → (x : LinkAt) × Contains xs x × (x.number ≡ start + n)

counted_true : (live : List Bool) → count_by (λ (c : Bool). c) (true ∷ live) ≡ suc (count_by (λ (c : Bool). c) live)
counted_true live = let on : count_by (λ (c : Bool). c) (true ∷ live) ≡ 1 + count_by (λ (c : Bool). c) live = sum_by-cons (λ (c : Bool). cond c 1 0) true live in omega (arith, on)

counted_false : (live : List Bool) → count_by (λ (c : Bool). c) (false ∷ live) ≡ count_by (λ (c : Bool). c) live
counted_false live = let on : count_by (λ (c : Bool). c) (false ∷ live) ≡ 0 + count_by (λ (c : Bool). c) live = sum_by-cons (λ (c : Bool). cond c 1 0) false live in omega (arith, on)

-- and that of one behind the first, where it is greater
later_links : (b : Bool) (live : List Bool) (start : ℕ) (x : LinkAt) (xs : List LinkAt) → x.number ≤ start → HasLinks (b ∷ live) start (x ∷ xs) → HasLinks live (suc start) xs
later_links b live start x xs most has n on =
    let found = has (suc n) on in
    elim (contains_cases found.0 x xs found.1) [
      | inl same ↦ absurd (omega (arith, most, found.2, ap (λ (l : LinkAt). l.number) same))
      | inr rest ↦ (found.0, rest, omega (arith, found.2))
    ]

next_links : (b : Bool) (live : List Bool) (start : ℕ) (xs : List LinkAt) → HasLinks (b ∷ live) start xs → HasLinks live (suc start) xs
next_links b live start xs has n on = let found = has (suc n) on in (found.0, found.1, omega (arith, found.2))

pub all_live : (live : List Bool) (start : ℕ) (xs : List LinkAt) → AreRising xs → AreAtLeast start xs → HasLinks live start xs → count_by (λ (b : Bool). b) live ≤ length xs
all_live [] start xs rising least has = omega arith
all_live (false ∷ live) start [] rising least has = omega (arith, counted_false live, all_live live (suc start) [] rising tt (next_links false live start [] has))
all_live (false ∷ live) start (y ∷ ys) rising least has = elim (cases_eq y.number start) [
  | inl same ↦
      let rest : count_by (λ (b : Bool). b) live ≤ length ys =
      all_live live (suc start) ys (rising_rest y ys rising) (subst (λ (n : ℕ). AreAtLeast (suc n) ys) same (rising_above y ys rising)) (later_links false live start y ys (omega (arith, same)) has) in
      omega (arith, counted_false live, rest)
  | inr apart ↦
      let rest : count_by (λ (b : Bool). b) live ≤ length (y ∷ ys) =
      all_live live (suc start) (y ∷ ys) rising (omega (arith, least.0, apart), at_least_more (suc start) (suc y.number) ys (omega (arith, least.0)) (rising_above y ys rising)) (next_links false live start (y ∷ ys) has) in
      omega (arith, counted_false live, rest)
]
all_live (true ∷ live) start [] rising least has = absurd (contains_none (has 0 refl).0 (has 0 refl).1)
all_live (true ∷ live) start (x ∷ xs) rising least has =
    let found = has 0 refl in
    let first : x.number ≤ start = elim (contains_cases found.0 x xs found.1) [
      | inl same ↦ omega (arith, found.2, ap (λ (l : LinkAt). l.number) same)
      | inr rest ↦ omega (arith, found.2, above xs found.0 (rising_above x xs rising) rest)
    ] in
    let same : x.number ≡ start = omega (arith, first, least.0) in
    let rest : count_by (λ (b : Bool). b) live ≤ length xs =
    all_live live (suc start) xs (rising_rest x xs rising) (subst (λ (n : ℕ). AreAtLeast (suc n) xs) same (rising_above x xs rising)) (later_links true live start x xs first has) in
    omega (arith, counted_true live, rest)
  where
    above : (ys : List LinkAt) (y : LinkAt) → AreAtLeast (suc x.number) ys → Contains ys y → suc x.number ≤ y.number
    above [] y all in_them = absurd (contains_none y in_them)
    above (z ∷ ys) y all in_them = elim (contains_cases y z ys in_them) [
      | inl e ↦ omega (arith, all.0, ap (λ (l : LinkAt). l.number) e)
      | inr later ↦ above ys y all.1 later
    ]

-- ---- in a store

as_many : ((store : StoreWords) → LinksAreSound store) → (store : StoreWords) (index : ℕ) → IsWellFormed store → (links : List LinkAt) → AreLinks store index links → (node : NodeShape) → slice_get store.shape.nodes index ≡ Some node
    → kind_has_cap node.kind ≡ true → (kept : NodeWords) → slice_get store.nodes index ≡ Some kept → length links ≡ live_count kept.pool
as_many laws store index well links are node at capped kept there =
    let sound : AreSound store index = laws store well index node at capped in
    let few : length links ≤ live_count kept.pool =
    few_live kept.pool.live 0 links are.rising (from_zero links) (live_of store index kept there links (λ y has. (sound.live y.number).1 (y, (are.members y).0 has, refl))) in
    let all : live_count kept.pool ≤ length links =
    all_live kept.pool.live 0 links are.rising (from_zero links)
    (λ n on. let found = (sound.live n).0 (record { kept = kept; there = there; live = on }) in (found.0, (are.members found.0).1 found.1, omega (arith, found.2))) in
    omega (arith, few, all)

-- the store of a layout, with its flat layout
record StoreAt (shapes : List Shape) (stores : List StoreWords) (flats : List FlatLayout) (placing : Placing) (layout : ℕ) (shape : Shape) (flat : FlatLayout) : Type 0 where
  store : StoreWords
  at : slice_get stores layout ≡ Some store
  shape_is : store.shape ≡ shape
  stands : StandsFor store flat
  links : (index : ℕ) → AreLinks store index (links_at placing layout (suc index))

found_at : (stores : List StoreWords) (flats : List FlatLayout) (placing : Placing) → AllZip StandsFor stores flats → ArePlaced stores placing → (layout : ℕ) (shape : Shape) (flat : FlatLayout)
    → slice_get (shapes_of stores) layout ≡ Some shape → slice_get flats layout ≡ Some flat → StoreAt (shapes_of stores) stores flats placing layout shape flat
found_at [] flats placing stand placed layout shape flat at own = absurd (none-some shape at)
found_at (store ∷ stores) [] placing stand placed layout shape flat at own = absurd stand
found_at (store ∷ stores) (first ∷ flats) [] stand placed layout shape flat at own = absurd placed
found_at (store ∷ stores) (first ∷ flats) (nodes ∷ placing) stand placed zero shape flat at own = record {
  store = store;
  at = refl;
  shape_is = same_Some store.shape shape at;
  stands = subst (StandsFor store) (same_Some first flat own) stand.0;
  links = placed.0.links;
}
found_at (store ∷ stores) (first ∷ flats) (nodes ∷ placing) stand placed (suc layout) shape flat at own =
    let found = found_at stores flats placing stand.1 placed.1 layout shape flat at own in
    record { store = found.store; at = found.at; shape_is = found.shape_is; stands = found.stands; links = found.links }

-- the words of a node
words_there : (R : NodeShape → NodeWords → Type 0) (nodes : List NodeShape) (words : List NodeWords) (index : ℕ) (node : NodeShape) → AllZip R nodes words → slice_get nodes index ≡ Some node
    → (kept : NodeWords) × (slice_get words index ≡ Some kept)
words_there R [] words index node all at = absurd (none-some node at)
words_there R (first ∷ nodes) [] index node all at = absurd all
words_there R (first ∷ nodes) (kept ∷ words) zero node all at = (kept, refl)
words_there R (first ∷ nodes) (kept ∷ words) (suc index) node all at = words_there R nodes words index node all.1 at

-- ---- the law

pub placed_are_needed : ((store : StoreWords) → LinksAreSound store) → ((store : StoreWords) → LiveIsNeed store) → PlacedAreNeeded
placed_are_needed laws needs shapes stores state placing held wells stand placed holds layout zero shape flat own at there is capped = absurd (omega (arith, is.first))
placed_are_needed laws needs shapes stores state placing held wells stand placed holds layout (suc index) shape flat own at there is capped =
    let found = found_at stores state.layouts placing stand.stand placed layout shape flat (ap (λ (ls : List Shape). slice_get ls layout) stand.shapes_are ∙ at) there in
    let store : StoreWords = found.store in
    let well : IsWellFormed store = well_at stores layout store wells found.at in
    let here : index ≡ suc index - 1 = omega arith in
    let before : suc index - 1 ≡ index = omega arith in
    let node_at : slice_get store.shape.nodes index ≡ Some own =
    subst (λ (s : Shape). slice_get s.nodes index ≡ Some own) (sym found.shape_is) (ap (slice_get shape.nodes) here ∙ is.there) in
    let kept = words_there _ store.shape.nodes store.nodes index own well.within_caps node_at in
    let need : live_count kept.0.pool ≡ need_of store.shape flat.active (suc index) own =
    needs store well flat found.stands (suc index) own (record { first = is.first; there = ap (slice_get store.shape.nodes) before ∙ node_at }) capped kept.0 (ap (slice_get store.nodes) before ∙ kept.1) in
    held_counts held placing layout (suc index) (rooms_of (shapes_of stores)) (stores_are_sound laws stores placing wells placed) holds
    ∙ as_many laws store index well _ (found.links index) own node_at capped kept.0 kept.1
    ∙ need
    ∙ ap (λ (s : Shape). need_of s flat.active (suc index) own) found.shape_is
