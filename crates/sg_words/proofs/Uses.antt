-- What other crates use: tests and faults of which none holds, an answer taken apart, and what lists, maps and filters contain.
use Rattle.std.proofs.Common.{◌≡◌, zero, suc, Bool, true, false, cond, ◌||◌, ◌⊎◌, inl, inr, Option, Some, None, Result, Ok, List, [], ◌∷◌, map, refl, sym, ap, ◌∙◌, subst, arith}
use Rattle.std.specs.Option.{option_or}
use Rattle.std.specs.List.{Contains, All, filter}
use Rattle.std.proofs.lemmas.Bool.Decides.{same_from_decides}
use Rattle.std.proofs.lemmas.List.{get_or-map, length-map}
use Rattle.std.proofs.lemmas.List.Elements.{All-head, All-tail, All-filter, All-contains, All-contains_itself, filter_passes, Contains-append_right}
use Rattle.sg_words.specs.Results.{fault_or}
-- ---- contributions can be exchanged, and joined to each other first
pub use Rattle.sg_words.proofs.WordLemmas.{folded_exchanged, folded_grouped}
-- ---- races, for passes: sums over workers, each event, and what follows from the invariant
pub use Rattle.sg_words.proofs.RaceTotals.{total-set, total-same, total-more, total-append, total-snoc, total-le, total-add, le-total, part-of, set_other_at, at_or, pair_cases, first_cases, pairs-snoc, firsts-snoc, pairs-le-firsts, pairs-two, firsts-pair}
pub use Rattle.sg_words.proofs.RaceParts.{stands}
pub use Rattle.sg_words.proofs.RaceSteps.{kept-first, kept-enrol, kept-draw, kept-see, kept-miss, kept-link, kept-found, kept-put, kept-mark, kept-raise, kept-add, kept-join}
pub use Rattle.sg_words.proofs.RaceFound.{found_case, kept-look, kept-try, alone}
pub use Rattle.sg_words.proofs.RaceRuns.{starts_kept, event_keeps, key_case}
pub use Rattle.sg_words.proofs.RacePools.{few_workers, count_is_small, made-held, made-ticket, new_links_differ, spares_never_fill, total-each, sum_below, sum-same, sum-add, sum-range, spread}
-- ---- ranges of a table; slots that get numbers of a stock: what an event leaves of a view, words copied from a table, the last seat's
pub use Rattle.sg_words.proofs.RangeLemmas.{range-get, range-long, range-in, range-before, range-behind, take-all, rest-is_range, word-there, written}
pub use Rattle.sg_words.proofs.SlotViews.{drawn-past, drawn-spare, tried-link, tried-see, look-dry, provided-dry, asked-dry, dry-join, spare-stands}
pub use Rattle.sg_words.proofs.LinkLoops.{copied}
pub use Rattle.sg_words.proofs.SlotEvents.{look_happens, draw_happens, try_happens}
pub use Rattle.sg_words.proofs.SlotEnds.{same_race, kept_as, last-word, slot-small, settled, are_spares}

-- of two faults that may be there neither is
pub neither : {A : Type 0} (first second : Option A) → option_or first second ≡ None → (first ≡ None) × (second ≡ None)
neither None second none = (refl, none)
neither (Some x) second none = absurd (cc)

-- of two tests neither holds
pub neither_holds : (a b : Bool) → (a || b) ≡ false → (a ≡ false) × (b ≡ false)
neither_holds true b h = absurd (cc)
neither_holds false b h = (refl, h)

-- an answer after a fault that isn't there
pub fault_or-ok : {A E : Type 0} (fault : Option E) (answer : Result A E) (x : A) → fault_or fault answer ≡ Ok x → (fault ≡ None) × (answer ≡ Ok x)
fault_or-ok None answer x ok = (refl, ok)
fault_or-ok (Some e) answer x ok = absurd (cc)

-- two tests that imply each other are one
pub same_tests : (a b : Bool) → (a ≡ true → b ≡ true) → (b ≡ true → a ≡ true) → a ≡ b
same_tests a b there back = same_from_decides a b (there, back) ((λ e. e), (λ e. e))

-- ---- what lists contain
pub contains_none : {X : Type 0} (x : X) → Contains [] x → ⊥
contains_none x h = omega (arith, h.1)

-- an element at the head, or in the rest
pub contains_head : {X : Type 0} (x y : X) (xs : List X) → y ≡ x → Contains (y ∷ xs) x
contains_head x y xs e = (zero, omega arith, e)

pub contains_rest : {X : Type 0} (x y : X) (xs : List X) → Contains xs x → Contains (y ∷ xs) x
contains_rest x y xs h = Contains-append_right (y ∷ []) xs x h

pub contains_cases : {X : Type 0} (x y : X) (xs : List X) → Contains (y ∷ xs) x → (y ≡ x) ⊎ Contains xs x
contains_cases x y xs (zero, below, same) = inl same
contains_cases x y xs (suc k, below, same) = inr (k, omega arith, same)

-- ---- maps
pub into_map : {X Y : Type 0} (f : X → Y) (xs : List X) (x : X) → Contains xs x → Contains (map f xs) (f x)
into_map f xs x (k, below, same) = (k, omega (arith, length-map xs f), get_or-map f xs k x (f x) below ∙ ap f same)

pub from_map : {X Y : Type 0} (f : X → Y) (xs : List X) (y : Y) → Contains (map f xs) y → (x : X) × Contains xs x × (f x ≡ y)
from_map f [] y has = absurd (contains_none y has)
from_map f (x ∷ xs) y (zero, below, same) = (x, contains_head x x xs refl, same)
from_map f (x ∷ xs) y (suc k, below, same) =
    let found = from_map f xs y (k, omega arith, same) in
    (found.0, contains_rest found.0 x xs found.1, found.2)

-- ---- filters
-- what a filter contains was in the list, and passes
pub from_filter : {X : Type 0} (p : X → Bool) (xs : List X) (x : X) → Contains (filter p xs) x → Contains xs x × (p x ≡ true)
from_filter {X} p xs x h = (
  All-contains (Contains xs) (filter p xs) x (All-filter p (Contains xs) xs (All-contains_itself xs)) h,
  All-contains (λ (y : X). p y ≡ true) (filter p xs) x (filter_passes p xs) h,
)

head_kept : {X : Type 0} (p : X → Bool) (x y : X) (xs : List X) → y ≡ x → p x ≡ true → Contains (filter p (y ∷ xs)) x
head_kept {X} p x y xs e passes =
    let kept : p y ≡ true = ap p e ∙ passes in
    subst (λ b. Contains (cond b (y ∷ filter p xs) (filter p xs)) x) (sym kept) (contains_head x y (filter p xs) e)

rest_kept : {X : Type 0} (p : X → Bool) (x y : X) (xs : List X) → Contains (filter p xs) x → Contains (filter p (y ∷ xs)) x
rest_kept p x y xs h =
    elim (p y) as (λ b. Contains (cond b (y ∷ filter p xs) (filter p xs)) x) [
      | true ↦ contains_rest x y (filter p xs) h
      | false ↦ h
    ]

-- an element that passes is kept
pub into_filter : {X : Type 0} (p : X → Bool) (xs : List X) (x : X) → Contains xs x → p x ≡ true → Contains (filter p xs) x
into_filter p [] x h passes = absurd (contains_none x h)
into_filter p (y ∷ ys) x (zero, below, same) passes = head_kept p x y ys same passes
into_filter p (y ∷ ys) x (suc k, below, same) passes =
    rest_kept p x y ys (into_filter p ys x (k, omega arith, same) passes)

-- if all pass, all are kept
pub filter_all : {X : Type 0} (p : X → Bool) (xs : List X) → All (λ (x : X). p x ≡ true) xs → filter p xs ≡ xs
filter_all p [] all = refl
filter_all {X} p (x ∷ xs) all =
    let P : X → Type 0 = λ y. p y ≡ true in
    let rest : filter p xs ≡ xs = filter_all p xs (All-tail P x xs all) in
    let first : p x ≡ true = All-head P x xs all in
    subst (λ b. cond b (x ∷ filter p xs) (filter p xs) ≡ x ∷ xs) (sym first) (ap (λ ys. x ∷ ys) rest)
