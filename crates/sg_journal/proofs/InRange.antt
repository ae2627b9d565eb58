-- The numbers of the lines of changes are in range.
use Rattle.std.proofs.Common.{◌≡◌, ◌⊎◌, inl, inr, ℕ, zero, suc, ◌+◌, ◌-◌, ◌<◌, ◌≤◌, min, Bool, true, false, List, [], ◌∷◌, ◌++◌, length, map, take, drop, get_or, sym, ap, ◌∙◌, subst, arith}
use Rattle.std.specs.Prelude.{All, not, cond}
use Rattle.std.specs.List.{list_any}
use Rattle.std.proofs.lemmas.Bool.{cases_eq}
use Rattle.std.proofs.lemmas.List.{take_more, take_all, drop_more}
use Rattle.std.proofs.lemmas.List.Elements.{All-nil, All-cons, All-head, All-tail, All-append}
use Rattle.sg_store.specs.declared.links.LinkAt.{LinkAt}
use Rattle.sg_journal.specs.declared.lines.Line.{Line}
use Rattle.sg_journal.specs.Lines.{IsInRange}
use Rattle.sg_journal.specs.Placing.{LayoutLinks, Placing, links_in}
use Rattle.sg_journal.specs.Changes.{lacking, same_link, free_line, take_line, frees_upto, takes_upto, layout_changes, changes_from, changes}
use Rattle.sg_journal.proofs.PlacingLoops.{no_more}

-- the lines of one more link
pub one_more_line : (f : LinkAt → Line) (links : List LinkAt) (i : ℕ) (d : LinkAt) (line : Line) → i < length links → line ≡ f (get_or links i d) → IsInRange line
    → All IsInRange (map f (take i links)) → All IsInRange (map f (take (i + 1) links))
one_more_line f links i d line below line_is fits all =
    subst (λ (l : List LinkAt). All IsInRange (map f l)) (sym (take_more links i d below)) (pushed (take i links) all)
  where
    link : LinkAt
    link = get_or links i d

    pushed : (xs : List LinkAt) → All IsInRange (map f xs) → All IsInRange (map f (xs ++ link ∷ []))
    pushed [] each = All-cons IsInRange (f link) [] (subst IsInRange line_is fits) (All-nil IsInRange)
    pushed (x ∷ xs) each = All-cons IsInRange (f x) (map f (xs ++ link ∷ [])) (All-head IsInRange (f x) (map f xs) each) (pushed xs (All-tail IsInRange (f x) (map f xs) each))

-- and those of some of them
pub some_lines : (f : LinkAt → Line) (others links : List LinkAt) → All IsInRange (map f links) → All IsInRange (map f (lacking others links))
some_lines f others [] all = All-nil IsInRange
some_lines f others (x ∷ xs) all = by_case (not (list_any (same_link x) others)) (some_lines f others xs (All-tail IsInRange (f x) (map f xs) all)) where
  by_case : (b : Bool) → All IsInRange (map f (lacking others xs)) → All IsInRange (map f (cond b (x ∷ lacking others xs) (lacking others xs)))
  by_case true rest = All-cons IsInRange (f x) (map f (lacking others xs)) (All-head IsInRange (f x) (map f xs) all) rest
  by_case false rest = rest

pub all_lines : (f : LinkAt → Line) (others links : List LinkAt) (i : ℕ) → length links ≤ i → All IsInRange (map f (take i links)) → All IsInRange (map f (lacking others links))
all_lines f others links i past all = some_lines f others links (subst (λ (l : List LinkAt). All IsInRange (map f l)) (take_all i links past) all)

-- ---- the nodes of a layout

abbrev pub AreFreesInRange : ℕ → LayoutLinks → LayoutLinks → ℕ → Type 0
AreFreesInRange layout old new index = All IsInRange (map (free_line layout (suc index)) (lacking (links_in new index) (links_in old index)))

abbrev pub AreTakesInRange : ℕ → LayoutLinks → LayoutLinks → ℕ → Type 0
AreTakesInRange layout old new index = All IsInRange (map (take_line layout (suc index)) (lacking (links_in old index) (links_in new index)))

-- from a node on to so many
pub frees_more : (layout : ℕ) (old new : LayoutLinks) (count done index : ℕ) → done < count → index ≡ count - 1 - done → AreFreesInRange layout old new index
    → ((k : ℕ) → count - done ≤ k → k < count → AreFreesInRange layout old new k) → (k : ℕ) → count - (done + 1) ≤ k → k < count → AreFreesInRange layout old new k
frees_more layout old new count done index below is own later k least most = elim (cases_eq k index) [
  | inl same ↦ subst (AreFreesInRange layout old new) (sym same) own
  | inr apart ↦ later k (omega (arith, below, is, least, apart)) most
]

pub frees_all : (layout : ℕ) (old new : LayoutLinks) (count : ℕ) → ((k : ℕ) → k < count → AreFreesInRange layout old new k) → All IsInRange (frees_upto layout old new count)
frees_all layout old new zero each = All-nil IsInRange
frees_all layout old new (suc index) each =
    All-append IsInRange (map (free_line layout (suc index)) (lacking (links_in new index) (links_in old index))) (frees_upto layout old new index) (each index (omega arith))
    (frees_all layout old new index (λ k below. each k (omega (arith, below))))

-- up to a node
pub takes_more : (layout : ℕ) (old new : LayoutLinks) (index : ℕ) → AreTakesInRange layout old new index → All IsInRange (takes_upto layout old new index) → All IsInRange (takes_upto layout old new (index + 1))
takes_more layout old new index own all =
    let next : suc index ≡ index + 1 = omega arith in
    subst (λ n. All IsInRange (takes_upto layout old new n)) next
    (All-append IsInRange (takes_upto layout old new index) (map (take_line layout (suc index)) (lacking (links_in old index) (links_in new index))) all own)

-- what is below the smaller of two is below both
pub both_below : (a b n : ℕ) → n < min a b → (n < a) × (n < b)
both_below a b n below = (omega (arith, below), omega (arith, below))

-- ---- the layouts

-- from a layout on, where those before it are
abbrev pub AreChangesInRange : Placing → Placing → ℕ → Type 0
AreChangesInRange olds news end = All IsInRange (changes_from end (drop end olds) (drop end news)) → All IsInRange (changes olds news)

pub changes_more : (olds news : Placing) (layout : ℕ) (old new : LayoutLinks) → layout < length olds → layout < length news → old ≡ get_or olds layout old → new ≡ get_or news layout new
    → All IsInRange (frees_upto layout old new (length old)) → All IsInRange (takes_upto layout old new (length new)) → AreChangesInRange olds news layout → AreChangesInRange olds news (layout + 1)
changes_more olds news layout old new in_olds in_news old_is new_is frees takes before rest =
    let next : layout + 1 ≡ suc layout = omega arith in
    let olds_are : drop layout olds ≡ old ∷ drop (layout + 1) olds = drop_more olds layout old in_olds ∙ ap (λ (l : LayoutLinks). l ∷ drop (layout + 1) olds) (sym old_is) in
    let news_are : drop layout news ≡ new ∷ drop (layout + 1) news = drop_more news layout new in_news ∙ ap (λ (l : LayoutLinks). l ∷ drop (layout + 1) news) (sym new_is) in
    before
    (subst (λ (l : Placing). All IsInRange (changes_from layout l (drop layout news))) (sym olds_are)
    (subst (λ (l : Placing). All IsInRange (changes_from layout (old ∷ drop (layout + 1) olds) l)) (sym news_are)
    (All-append IsInRange (layout_changes layout old new) (changes_from (suc layout) (drop (layout + 1) olds) (drop (layout + 1) news))
    (All-append IsInRange (frees_upto layout old new (length old)) (takes_upto layout old new (length new)) frees takes)
    (subst (λ n. All IsInRange (changes_from n (drop (layout + 1) olds) (drop (layout + 1) news))) next rest))))

pub changes_all : (olds news : Placing) (end : ℕ) → (length olds ≤ end) ⊎ (length news ≤ end) → AreChangesInRange olds news end → All IsInRange (changes olds news)
changes_all olds news end over before = before (subst (All IsInRange) (sym (no_more olds news end over)) (All-nil IsInRange))
