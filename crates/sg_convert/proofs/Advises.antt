-- What the counts of layouts say, and that one is least.
use Rattle.std.proofs.Common.{◌≡◌, inl, inr, ℕ, zero, suc, ◌+◌, ◌-◌, ◌≤◌, Bool, true, false, cond, ltb, List, [], ◌∷◌, ◌++◌, length, map, Option, Some, None, Ok, Err, refl, sym, ap, ◌∙◌, subst, arith}
use Rattle.std.specs.Prelude.{IfSome, option_map, slice_get}
use Rattle.std.specs.List.{All, AllZip, Contains}
use Rattle.std.proofs.lemmas.Bool.{cases_Bool, cond-true, cond-false, ltb-true, lt-ltb}
use Rattle.std.proofs.lemmas.List.{append-nil}
use Rattle.std.proofs.lemmas.Option.{same_Some, slice_get_within, slice_get-map}
use Rattle.std.proofs.lemmas.List.Elements.{All-nil, All-cons, All-head, All-tail}
use Rattle.sg_words.proofs.Uses.{from_filter}
use Rattle.sg_coord.specs.declared.coord.Coord.{Coord}
use Rattle.sg_layout.specs.declared.shape.NodeShape.{NodeShape}
use Rattle.sg_layout.specs.declared.shape.Shape.{Shape}
use Rattle.sg_layout.specs.Axes.{count_of}
use Rattle.sg_layout.specs.Accepted.{IsAccepted}
use Rattle.sg_layout.specs.Closure.{closure}
use Rattle.sg_layout.specs.ClosureLaws.{ClosureAbsorbs}
use Rattle.sg_layout.specs.Need.{FullNode, need_of, first_full, first_full_from}
use Rattle.sg_layout.specs.NeedLaws.{AllInside, NeedGrows, NeedAbsorbs, IsNumberedNode}
use Rattle.sg_layout.specs.StorageWords.{words_of_shape, most_words}
use Rattle.sg_layout.proofs.Uses.{no_fault}
use Rattle.sg_flat.specs.declared.state.FlatLayout.{FlatLayout}
use Rattle.sg_store.specs.StoreWords.{StoreWords}
use Rattle.sg_store.specs.WellFormed.{IsWellFormed}
use Rattle.sg_store.specs.StandsFor.{StandsFor}
use Rattle.sg_store.specs.StoreLaws.{LiveIsNeed, StandsHasRoom}
use Rattle.sg_store.specs.Standing.{shapes_of}
use Rattle.sg_store.specs.Reaching.{unless_full}
use Rattle.sg_store.specs.declared.reach.Full.{Full}
use Rattle.sg_store.specs.Pruning.{has_value, valued_coordinates}
use Rattle.sg_convert.specs.Alike.{AreAlike, IsAlikeTo, are_alike}
use Rattle.sg_convert.specs.Used.{used_words}
use Rattle.sg_convert.specs.Advising.{Counted, used_unless, words_for, counts_from, by_words, best_of}
use Rattle.sg_convert.specs.declared.advising.Advice.{Advice}
use Rattle.sg_convert.specs.Advised as advised
use Rattle.sg_convert.specs.Advised.{counts_by, counts_of, IsAdvice}
use Rattle.sg_convert.specs.steps.Counting.{live_in, counted}
use Rattle.sg_convert.proofs.AlikeTests.{alike_itself, alike_tells}
use Rattle.sg_convert.proofs.Counted.{counted_is, counted_same}
use Rattle.sg_convert.proofs.Lives.{live_is_needed}

-- ── The layouts of stores ──

pub all_few : (stores : List StoreWords) → All IsWellFormed stores → All (λ (shape : Shape). words_of_shape shape ≤ most_words) (shapes_of stores)
all_few [] all = All-nil (λ (shape : Shape). words_of_shape shape ≤ most_words)
all_few (store ∷ stores) all =
    All-cons (λ (shape : Shape). words_of_shape shape ≤ most_words) store.shape (shapes_of stores) (All-head IsWellFormed store stores all).few_words
    (all_few stores (All-tail IsWellFormed store stores all))

-- the layout with a number, where its store stands
pub record IsAt (shapes : List Shape) (flats : List FlatLayout) (number : ℕ) (store : StoreWords) : Type 0 where
  pub flat : FlatLayout
  pub shape_at : slice_get shapes number ≡ Some store.shape
  pub flat_at : slice_get flats number ≡ Some flat
  pub stands : StandsFor store flat

pub is_at : (stores : List StoreWords) (flats : List FlatLayout) (number : ℕ) (store : StoreWords) → AllZip StandsFor stores flats → slice_get stores number ≡ Some store → IsAt (shapes_of stores) flats number store
is_at [] flats number store all at = absurd (cc)
is_at (own ∷ stores) [] number store all at = absurd (all)
is_at (own ∷ stores) (flat ∷ flats) zero store all at =
    let same : own ≡ store = cc in
    subst (λ (s : StoreWords). IsAt (shapes_of (own ∷ stores)) (flat ∷ flats) 0 s) same (record { flat = flat; shape_at = refl; flat_at = refl; stands = all.0 })
is_at (own ∷ stores) (flat ∷ flats) (suc number) store all at =
    let rest = is_at stores flats number store all.1 at in
    record { flat = rest.flat; shape_at = rest.shape_at; flat_at = rest.flat_at; stands = rest.stands }

-- ── Counts ──

pub counts_more : (shape : Shape) (kept : List Coord) (number : ℕ) (other : Shape) (others : List Shape) → counts_from shape kept number (other ∷ others) ≡ counts_from shape kept number (other ∷ []) ++ counts_from shape kept (suc number) others
counts_more shape kept number other others = by_test (are_alike shape other) where
  count : Counted
  count = record { layout = number; words = words_for kept other }

  by_test : (b : Bool) → cond b (count ∷ counts_from shape kept (suc number) others) (counts_from shape kept (suc number) others) ≡ cond b (count ∷ []) [] ++ counts_from shape kept (suc number) others
  by_test true = refl
  by_test false = refl

-- ── The words ──

pub fits : (shape : Shape) (kept : List Coord) (full : Option FullNode) → unless_full full ≡ Ok tt → full ≡ None
fits shape kept None ok = refl
fits shape kept (Some full) ok = absurd (cc)

pub is_too_full : (shape : Shape) (kept : List Coord) (full : Option FullNode) (fault : Full) → unless_full full ≡ Err fault → used_unless shape kept full ≡ None
is_too_full shape kept None fault err = absurd (cc)
is_too_full shape kept (Some full) fault err = refl

-- closing the coordinates changes no need
need_of_closure : (shape : Shape) → NeedAbsorbs shape → (kept : List Coord) → AllInside shape kept → (number : ℕ) (node : NodeShape) → IsNumberedNode shape number node → need_of shape (closure shape kept) number node ≡ need_of shape kept number node
need_of_closure shape absorbs kept inside number node numbered =
    ap (λ (coords : List Coord). need_of shape coords number node) (sym (append-nil (closure shape kept)))
    ∙ absorbs kept [] inside number node numbered
    ∙ ap (λ (coords : List Coord). need_of shape coords number node) (append-nil kept)

-- what is counted in a store that was opened for coordinates are the words that they use
pub used_is : (shape : Shape) → IsAccepted shape → ClosureAbsorbs shape → NeedAbsorbs shape → (kept : List Coord) → AllInside shape kept → (store : StoreWords) → LiveIsNeed store → IsWellFormed store → (flat : FlatLayout) → store.shape ≡ shape
    → flat.active ≡ closure shape (closure shape [] ++ kept) → StandsFor store flat
    → counted (live_in store) (length store.shape.fields) 1 1 1 store.shape.nodes ≡ used_words shape kept
used_is shape accepted closes absorbs kept inside store law well flat is active stands =
    let closed : flat.active ≡ closure shape kept = active ∙ closes [] kept in
    let needs : (j : ℕ) (node : NodeShape) → slice_get shape.nodes j ≡ Some node → live_in store (1 + j) node ≡ need_of shape kept (1 + j) node =
    λ j node at.
    let back : j ≡ 1 + j - 1 = omega arith in
    live_is_needed store law well flat stands j node (ap (λ (s : Shape). slice_get s.nodes j) is ∙ at)
    ∙ ap (λ (s : Shape). need_of s flat.active (1 + j) node) is
    ∙ ap (λ (coords : List Coord). need_of shape coords (1 + j) node) closed
    ∙ need_of_closure shape absorbs kept inside (1 + j) node (record { first = omega arith; there = ap (slice_get shape.nodes) (sym back) ∙ at }) in
    ap (λ (s : Shape). counted (live_in store) (length s.fields) 1 1 1 s.nodes) is
    ∙ counted_same (live_in store) (need_of shape kept) (length shape.fields) 1 1 1 shape.nodes needs
    ∙ sym (counted_is shape kept (no_fault shape accepted))

-- ── A best one exists ──

past_first : (b : Bool) (full : FullNode) (rest : Option FullNode) → cond b (Some full) rest ≡ None → rest ≡ None
past_first true full rest none = absurd (cc)
past_first false full rest none = none

-- fewer coordinates fit where more do
fewer_fit : (shape : Shape) → NeedGrows shape → (few more : List Coord) → ((at : Coord) → Contains few at → Contains more at) → (number : ℕ) (nodes : List NodeShape) → first_full_from shape more number nodes ≡ None → first_full_from shape few number nodes ≡ None
fewer_fit shape grows few more within number [] none = refl
fewer_fit shape grows few more within number (node ∷ later) none =
    let cap : ℕ = count_of node.cap in
    let full : FullNode = record { node = number; cap = cap } in
    let wanted : ℕ = need_of shape few number node in
    let least : wanted ≤ need_of shape more number node = grows few more within number node in
    let rest = fewer_fit shape grows few more within (suc number) later (past_first (ltb cap (need_of shape more number node)) full (first_full_from shape more (suc number) later) none) in
    elim (cases_Bool (ltb cap wanted)) [
      | inl over ↦
          let past = ltb-true cap wanted over in
          let too : ltb cap (need_of shape more number node) ≡ true = lt-ltb cap (need_of shape more number node) (omega (arith, least, past)) in
          let never : Some full ≡ None = sym (cond-true (ltb cap (need_of shape more number node)) (Some full) (first_full_from shape more (suc number) later) too) ∙ none in
          absurd (cc (never))
      | inr fit ↦ cond-false (ltb cap wanted) (Some full) (first_full_from shape few (suc number) later) fit ∙ rest
    ]

-- what a store keeps fits its layout
pub kept_fits : (store : StoreWords) → NeedGrows store.shape → StandsHasRoom store → IsWellFormed store → (flat : FlatLayout) → StandsFor store flat → first_full store.shape (valued_coordinates store.shape flat) ≡ None
kept_fits store grows room well flat stands =
    fewer_fit store.shape grows (valued_coordinates store.shape flat) flat.active (λ at has. (from_filter (has_value store.shape flat) flat.active at has).0) 1 store.shape.nodes (room well flat stands)

-- a best count stays one, whatever is counted after it
after_test : (b : Bool) (one other : ℕ × ℕ) (counts : List Counted) → ((best : ℕ × ℕ) → best_of (Some best) counts ≡ None → ⊥) → best_of (cond b (Some one) (Some other)) counts ≡ None → ⊥
after_test true one other counts rest none = rest one none
after_test false one other counts rest none = rest other none

after_count : (best : ℕ × ℕ) (words : Option ℕ) (layout : ℕ) (counts : List Counted) → ((best : ℕ × ℕ) → best_of (Some best) counts ≡ None → ⊥) → best_of (by_words (Some best) words layout) counts ≡ None → ⊥
after_count best None layout counts rest none = rest best none
after_count best (Some words) layout counts rest none = after_test (ltb words best.1) (layout, words) best counts rest none

some_stays : (best : ℕ × ℕ) (counts : List Counted) → best_of (Some best) counts ≡ None → ⊥
some_stays best [] none = absurd (cc)
some_stays best (count ∷ counts) none = after_count best count.words count.layout counts (λ b. some_stays b counts) none

counted_stays : (best : Option (ℕ × ℕ)) (words layout : ℕ) (counts : List Counted) → best_of (by_words best (Some words) layout) counts ≡ None → ⊥
counted_stays None words layout counts none = some_stays (layout, words) counts none
counted_stays (Some best) words layout counts none = after_test (ltb words best.1) (layout, words) best counts (λ b. some_stays b counts) none

after_alike : (b : Bool) (best : Option (ℕ × ℕ)) (count : Counted) (rest : List Counted) → ((start : Option (ℕ × ℕ)) → best_of start rest ≡ None → ⊥) → best_of best (cond b (count ∷ rest) rest) ≡ None → ⊥
after_alike true best count rest later none = later (by_words best count.words count.layout) none
after_alike false best count rest later none = later best none

-- where the layout itself is among these, and fits, some count is least
pub best_exists : (shape : Shape) (kept : List Coord) → first_full shape kept ≡ None → (best : Option (ℕ × ℕ)) (number j : ℕ) (others : List Shape) → slice_get others j ≡ Some shape → best_of best (counts_from shape kept number others) ≡ None → ⊥
best_exists shape kept fit best number j [] at none = absurd (cc)
best_exists shape kept fit best number zero (other ∷ others) at none =
    let same : other ≡ shape = cc in
    let alike : are_alike shape other ≡ true = ap (are_alike shape) same ∙ alike_itself shape in
    let words : words_for kept other ≡ Some (used_words shape kept) = ap (words_for kept) same ∙ ap (used_unless shape kept) fit in
    let rest : List Counted = counts_from shape kept (suc number) others in
    counted_stays best (used_words shape kept) number rest
    (ap (λ (w : Option ℕ). best_of (by_words best w number) rest) (sym words)
    ∙ ap (best_of best) (sym (cond-true (are_alike shape other) (record { layout = number; words = words_for kept other } ∷ rest) rest alike)) ∙ none)
best_exists shape kept fit best number (suc j) (other ∷ others) at none =
    after_alike (are_alike shape other) best (record { layout = number; words = words_for kept other }) (counts_from shape kept (suc number) others)
    (λ start. best_exists shape kept fit start (suc number) j others at) none

-- ── The best one is alike ──

-- what holds of a best so far, and of a layout that is counted with its words, holds of the best of the two
better_has : (P : ℕ → ℕ → Type 0) (best : Option (ℕ × ℕ)) (words : Option ℕ) (layout : ℕ) → IfSome best (λ b. P b.0 b.1) → ((count : ℕ) → words ≡ Some count → P layout count)
    → IfSome (by_words best words layout) (λ b. P b.0 b.1)
better_has P best None layout before here = before
better_has P None (Some words) layout before here = here words refl
better_has P (Some best) (Some words) layout before here = by_test (ltb words best.1) where
  by_test : (b : Bool) → IfSome (cond b (Some (layout, words)) (Some best)) (λ b. P b.0 b.1)
  by_test true = here words refl
  by_test false = before

-- and so for the layout that comes next, if it is alike, where it goes on so from any best so far
best_next : (P : ℕ → ℕ → Type 0) (shape : Shape) (kept : List Coord) (best : Option (ℕ × ℕ)) (number : ℕ) (other : Shape) (others : List Shape)
    → ((start : Option (ℕ × ℕ)) → IfSome start (λ b. P b.0 b.1) → IfSome (best_of start (counts_from shape kept (suc number) others)) (λ b. P b.0 b.1))
    → IfSome best (λ b. P b.0 b.1) → (are_alike shape other ≡ true → (count : ℕ) → words_for kept other ≡ Some count → P number count)
    → (b : Bool) → are_alike shape other ≡ b
    → IfSome (best_of best (cond b (record { layout = number; words = words_for kept other } ∷ counts_from shape kept (suc number) others) (counts_from shape kept (suc number) others))) (λ b. P b.0 b.1)
best_next P shape kept best number other others goes before here true same = goes (by_words best (words_for kept other) number) (better_has P best (words_for kept other) number before (here same))
best_next P shape kept best number other others goes before here false same = goes best before

-- what holds of the layouts that are alike, with their words, holds of the best of them
pub best_has : (P : ℕ → ℕ → Type 0) (shape : Shape) (kept : List Coord) (best : Option (ℕ × ℕ)) (number : ℕ) (others : List Shape) → IfSome best (λ b. P b.0 b.1)
    → ((j : ℕ) (other : Shape) → slice_get others j ≡ Some other → are_alike shape other ≡ true → (count : ℕ) → words_for kept other ≡ Some count → P (number + j) count)
    → IfSome (best_of best (counts_from shape kept number others)) (λ b. P b.0 b.1)
best_has P shape kept best number [] before each = before
best_has P shape kept best number (other ∷ others) before each =
    let later : (j : ℕ) (one : Shape) → slice_get others j ≡ Some one → are_alike shape one ≡ true → (count : ℕ) → words_for kept one ≡ Some count → P (suc number + j) count =
    λ j one at same count words. subst (λ (l : ℕ). P l count) (omega arith) (each (suc j) one at same count words) in
    best_next P shape kept best number other others (λ start has. best_has P shape kept start (suc number) others has later) before
    (λ same count words. subst (λ (l : ℕ). P l count) (omega arith) (each 0 other refl same count words)) (are_alike shape other) refl

-- a number of these layouts at which one that is alike stands
pub alike_at : (shapes : List Shape) (number : ℕ) (shape : Shape) → slice_get shapes number ≡ Some shape → (other : ℕ) (two : Shape) → slice_get shapes other ≡ Some two → are_alike shape two ≡ true → IsAlikeTo shapes number other
alike_at shapes number shape at other two found same = record {
  there = slice_get_within shapes other two found;
  alike = λ one own_two own there.
      subst (λ (s : Shape). AreAlike s own_two) (same_Some shape one (sym at ∙ own))
      (subst (λ (s : Shape). AreAlike shape s) (same_Some two own_two (sym found ∙ there)) ((alike_tells shape two).0 same));
}

pub best_is_alike : (shapes : List Shape) (number : ℕ) (shape : Shape) → slice_get shapes number ≡ Some shape → (kept : List Coord) (best : ℕ × ℕ) → best_of None (counts_from shape kept 0 shapes) ≡ Some best → IsAlikeTo shapes number best.0
best_is_alike shapes number shape at kept best is =
    subst (λ (o : Option (ℕ × ℕ)). IfSome o (λ b. IsAlikeTo shapes number b.0)) is
    (best_has (λ layout count. IsAlikeTo shapes number layout) shape kept None 0 shapes tt (λ j other found same count words. subst (IsAlikeTo shapes number) (omega arith) (alike_at shapes number shape at j other found same)))

-- words are counted only where there is room
has_room : (shape : Shape) (kept : List Coord) (full : Option FullNode) (count : ℕ) → used_unless shape kept full ≡ Some count → full ≡ None
has_room shape kept None count is = refl
has_room shape kept (Some full) count is = absurd (cc)

-- what is kept fits the best layout
pub best_has_room : (shapes : List Shape) (shape : Shape) (kept : List Coord) (best : ℕ × ℕ) → best_of None (counts_from shape kept 0 shapes) ≡ Some best
    → (to : Shape) → slice_get shapes best.0 ≡ Some to → first_full to kept ≡ None
best_has_room shapes shape kept best is =
    subst (λ (o : Option (ℕ × ℕ)). IfSome o (λ b. (to : Shape) → slice_get shapes b.0 ≡ Some to → first_full to kept ≡ None)) is
    (best_has (λ layout count. (to : Shape) → slice_get shapes layout ≡ Some to → first_full to kept ≡ None) shape kept None 0 shapes tt
    (λ j other found same count words. λ to there.
    let on : j ≡ 0 + j = omega arith in
    subst (λ (s : Shape). first_full s kept ≡ None) (same_Some other to (sym found ∙ ap (slice_get shapes) on ∙ there)) (has_room other kept (first_full other kept) count words)))

-- the layout of a store
pub shape_is_at : (stores : List StoreWords) (shapes : List Shape) → shapes_of stores ≡ shapes → (number : ℕ) (store : StoreWords) → slice_get stores number ≡ Some store → slice_get shapes number ≡ Some store.shape
shape_is_at stores shapes are number store at =
    ap (λ (list : List Shape). slice_get list number) (sym are) ∙ slice_get-map (λ (s : StoreWords). s.shape) stores number ∙ ap (option_map (λ (s : StoreWords). s.shape)) at

-- the counts of a layout's number are those by the coordinates that it keeps
pub counts_are : (shapes : List Shape) (flats : List FlatLayout) (number : ℕ) (store : StoreWords) (at : IsAt shapes flats number store) (kept : List Coord) → kept ≡ valued_coordinates store.shape at.flat
    → counts_from store.shape kept 0 shapes ≡ counts_of shapes flats number
counts_are shapes flats number store at kept is =
    ap (λ (coords : List Coord). counts_from store.shape coords 0 shapes) is
    ∙ ap (λ (f : Option FlatLayout). counts_by shapes (Some store.shape) f) (sym at.flat_at)
    ∙ ap (λ (s : Option Shape). counts_by shapes s (slice_get flats number)) (sym at.shape_at)

-- ── Advice ──

pub advice_is : (shapes : List Shape) (flats : List FlatLayout) (number : ℕ) (store : StoreWords) (at : IsAt shapes flats number store) (kept : List Coord) → kept ≡ valued_coordinates store.shape at.flat
    → (advice : Advice) → map advised.counted advice.counts ≡ counts_from store.shape kept 0 shapes → best_of None (map advised.counted advice.counts) ≡ Some (advice.best, advice.words) → IsAdvice shapes flats number advice
advice_is shapes flats number store at kept is advice counts best =
    let all = counts ∙ counts_are shapes flats number store at kept is in
    record { counts = all; best = ap (best_of None) (sym all) ∙ best }

pub none_is_never : (shapes : List Shape) (flats : List FlatLayout) (number : ℕ) (store : StoreWords) → IsAt shapes flats number store → NeedGrows store.shape → StandsHasRoom store → IsWellFormed store → (flat : FlatLayout) → StandsFor store flat
    → (kept : List Coord) → kept ≡ valued_coordinates store.shape flat → (counts : List Counted) → counts ≡ counts_from store.shape kept 0 shapes → best_of None counts ≡ None → ⊥
none_is_never shapes flats number store at grows room well flat stands kept is counts are none =
    best_exists store.shape kept (ap (first_full store.shape) is ∙ kept_fits store grows room well flat stands) None 0 number shapes at.shape_at (ap (best_of None) (sym are) ∙ none)

-- by advice, what a store keeps fits the best layout
pub advice_has_room : (shapes : List Shape) (flats : List FlatLayout) (number : ℕ) (store : StoreWords) (at : IsAt shapes flats number store) (advice : Advice) → IsAdvice shapes flats number advice
    → (to : Shape) → slice_get shapes advice.best ≡ Some to → first_full to (valued_coordinates store.shape at.flat) ≡ None
advice_has_room shapes flats number store at advice is =
    best_has_room shapes store.shape (valued_coordinates store.shape at.flat) (advice.best, advice.words)
    (ap (best_of None) (counts_are shapes flats number store at (valued_coordinates store.shape at.flat) refl) ∙ is.best)
