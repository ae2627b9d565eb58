-- What others lack of links, found in one pass over both.
use Rattle.std.proofs.Common.{◌≡◌, ℕ, zero, suc, ◌+◌, ◌<◌, ◌≤◌, ◌==◌, Bool, true, false, not, cond, ◌&&◌, ◌||◌, nat_lt, List, [], ◌∷◌, ◌++◌, length, map, drop, get_or, refl, sym, ap, ◌∙◌, subst, arith, append_assoc}
use Rattle.std.specs.List.{list_any, prefix_len}
use Rattle.std.proofs.lemmas.Bool.{ne_eqb, ltb-true, ltb-false}
use Rattle.std.proofs.lemmas.List.{append-nil, drop_all, drop_more, get_or_default}
use Rattle.sg_store.specs.declared.links.LinkAt.{LinkAt}
use Rattle.sg_journal.specs.declared.lines.Line.{Line}
use Rattle.sg_journal.specs.Lines.{line_text, lines_text}
use Rattle.sg_journal.specs.Changes.{same_link, lacking}
use Rattle.sg_journal.specs.Placing.{AreRising}
use Rattle.sg_journal.specs.steps.Lacking.{drop_below, begins_with, text_if}

-- ---- rising links

pub rising_rest : (x : LinkAt) (xs : List LinkAt) → AreRising (x ∷ xs) → AreRising xs
rising_rest x xs rising i j d before below = rising (suc i) (suc j) d (omega arith) (omega arith)

-- all of them have at least this number
abbrev pub AreAtLeast : ℕ → List LinkAt → Type 0
AreAtLeast number [] = Unit {0}
AreAtLeast number (x ∷ xs) = (number ≤ x.number) × AreAtLeast number xs

pub at_least_more : (number more : ℕ) (xs : List LinkAt) → number ≤ more → AreAtLeast more xs → AreAtLeast number xs
at_least_more number more [] le all = tt
at_least_more number more (x ∷ xs) le all = (omega (arith, le, all.0), at_least_more number more xs le all.1)

-- those behind the first have greater numbers
pub rising_above : (x : LinkAt) (xs : List LinkAt) → AreRising (x ∷ xs) → AreAtLeast (suc x.number) xs
rising_above x [] rising = tt
rising_above x (y ∷ ys) rising =
    let first : x.number < y.number = rising 0 1 x (omega arith) (omega arith) in
    (omega (arith, first), at_least_more (suc x.number) (suc y.number) ys (omega (arith, first)) (rising_above y ys (rising_rest x (y ∷ ys) rising)))

pub rising_least : (x : LinkAt) (xs : List LinkAt) → AreRising (x ∷ xs) → AreAtLeast x.number (x ∷ xs)
rising_least x xs rising = (omega arith, at_least_more x.number (suc x.number) xs (omega arith) (rising_above x xs rising))

pub drop_rises : (i : ℕ) (xs : List LinkAt) → AreRising xs → AreRising (drop i xs)
drop_rises zero xs rising = rising
drop_rises (suc i) [] rising = rising
drop_rises (suc i) (x ∷ xs) rising = drop_rises i xs (rising_rest x xs rising)

-- ---- what is dropped

pub drop_rising : (number : ℕ) (xs : List LinkAt) → AreRising xs → AreRising (drop_below number xs)
drop_rising number [] rising = rising
drop_rising number (x ∷ xs) rising = by_case (nat_lt x.number number) (drop_rising number xs (rising_rest x xs rising)) where
  by_case : (b : Bool) → AreRising (drop_below number xs) → AreRising (cond b (drop_below number xs) (x ∷ xs))
  by_case true rest = rest
  by_case false rest = rising

pub drop_least : (number : ℕ) (xs : List LinkAt) → AreRising xs → AreAtLeast number (drop_below number xs)
drop_least number [] rising = tt
drop_least number (x ∷ xs) rising = by_case (nat_lt x.number number) refl (drop_least number xs (rising_rest x xs rising)) where
  by_case : (b : Bool) → nat_lt x.number number ≡ b → AreAtLeast number (drop_below number xs) → AreAtLeast number (cond b (drop_below number xs) (x ∷ xs))
  by_case true is rest = rest
  by_case false is rest =
      let le : number ≤ x.number = ltb-false x.number number is in
      at_least_more number x.number (x ∷ xs) le (rising_least x xs rising)

apart_numbers : (one other : LinkAt) → other.number < one.number → same_link one other ≡ false
apart_numbers one other less = ap (λ b. b && ((one.parent == other.parent) && (one.slot == other.slot))) (ne_eqb one.number other.number (λ e. omega (arith, e, less)))

-- a link is among the others exactly if it is among those of at least its number, or of less
any_dropped : (number : ℕ) (xs : List LinkAt) (link : LinkAt) → number ≤ link.number → list_any (same_link link) xs ≡ list_any (same_link link) (drop_below number xs)
any_dropped number [] link le = refl
any_dropped number (x ∷ xs) link le = by_case (nat_lt x.number number) refl (any_dropped number xs link le) where
  by_case : (b : Bool) → nat_lt x.number number ≡ b → list_any (same_link link) xs ≡ list_any (same_link link) (drop_below number xs)
      → list_any (same_link link) (x ∷ xs) ≡ list_any (same_link link) (cond b (drop_below number xs) (x ∷ xs))
  by_case true is rest = ap (λ b. b || list_any (same_link link) xs) (apart_numbers link x (omega (arith, ltb-true x.number number is, le))) ∙ rest
  by_case false is rest = refl

pub lacking_dropped : (number : ℕ) (others links : List LinkAt) → AreAtLeast number links → lacking others links ≡ lacking (drop_below number others) links
lacking_dropped number others [] all = refl
lacking_dropped number others (x ∷ xs) all =
    ap (λ b. cond (not b) (x ∷ lacking others xs) (lacking others xs)) (any_dropped number others x all.0)
    ∙ ap (λ (l : List LinkAt). cond (not (list_any (same_link x) (drop_below number others))) (x ∷ l) l) (lacking_dropped number others xs all.1)

-- of links of at least its number a link can only be the first
none_above : (link : LinkAt) (xs : List LinkAt) → AreAtLeast (suc link.number) xs → list_any (same_link link) xs ≡ false
none_above link [] all = refl
none_above link (x ∷ xs) all =
    ap (λ b. (b && ((link.parent == x.parent) && (link.slot == x.slot))) || list_any (same_link link) xs) (ne_eqb link.number x.number (λ e. omega (arith, e, all.0)))
    ∙ none_above link xs all.1

pub begins_is : (link : LinkAt) (xs : List LinkAt) → AreRising xs → AreAtLeast link.number xs → list_any (same_link link) xs ≡ begins_with xs link
begins_is link [] rising all = refl
begins_is link (x ∷ xs) rising all =
    ap (λ b. same_link link x || b) (none_above link xs (at_least_more (suc link.number) (suc x.number) xs (omega (arith, all.0)) (rising_above x xs rising)))
    ∙ or_false (same_link link x)
  where
    or_false : (b : Bool) → (b || false) ≡ b
    or_false true = refl
    or_false false = refl

-- ---- one link more

-- the lines of what others lack of links
abbrev pub lacking_text : (LinkAt → Line) → List LinkAt → List LinkAt → List ℕ
lacking_text line others links = lines_text (map line (lacking others links))

pub lacking_more : (line : LinkAt → Line) (left : List LinkAt) (link : LinkAt) (links : List LinkAt) → AreRising left → AreRising (link ∷ links)
    → lacking_text line left (link ∷ links) ≡ text_if (begins_with (drop_below link.number left) link) (line_text (line link)) ++ lacking_text line (drop_below link.number left) links
lacking_more line left link links left_rises rises =
    ap (λ (l : List LinkAt). lines_text (map line l)) (lacking_dropped link.number left (link ∷ links) (rising_least link links rises))
    ∙ ap (λ b. lines_text (map line (cond (not b) (link ∷ lacking next links) (lacking next links)))) (begins_is link next (drop_rising link.number left left_rises) (drop_least link.number left left_rises))
    ∙ by_case (begins_with next link)
  where
    next : List LinkAt
    next = drop_below link.number left

    by_case : (b : Bool) → lines_text (map line (cond (not b) (link ∷ lacking next links) (lacking next links))) ≡ text_if b (line_text (line link)) ++ lacking_text line next links
    by_case true = refl
    by_case false = refl

-- ---- how the code drops

pub dropped_is : (number : ℕ) (xs : List LinkAt) → drop (prefix_len (λ (x : LinkAt). nat_lt x.number number) xs) xs ≡ drop_below number xs
dropped_is number [] = refl
dropped_is number (x ∷ xs) = by_case (nat_lt x.number number) (dropped_is number xs) where
  by_case : (b : Bool) → drop (prefix_len (λ (x : LinkAt). nat_lt x.number number) xs) xs ≡ drop_below number xs
      → drop (cond b (1 + prefix_len (λ (x : LinkAt). nat_lt x.number number) xs) 0) (x ∷ xs) ≡ cond b (drop_below number xs) (x ∷ xs)
  by_case true rest = let next : 1 + prefix_len (λ (x : LinkAt). nat_lt x.number number) xs ≡ suc (prefix_len (λ (x : LinkAt). nat_lt x.number number) xs) = omega arith in ap (λ n. drop n (x ∷ xs)) next ∙ rest
  by_case false rest = refl

-- ---- the loop over links

pub lacking_step : (line : LinkAt → Line) (left next links : List LinkAt) (i : ℕ) (link : LinkAt) (before after whole : List ℕ) → AreRising left → AreRising links → i < length links → link ≡ get_or links i link → next ≡ drop_below link.number left
    → after ≡ before ++ text_if (begins_with next link) (line_text (line link)) → before ++ lacking_text line left (drop i links) ≡ whole
    → AreRising next × (after ++ lacking_text line next (drop (i + 1) links) ≡ whole)
lacking_step line left next links i link before after whole left_rises rises below is next_is after_is invariant =
    let rest : drop i links ≡ link ∷ drop (i + 1) links = drop_more links i link below ∙ ap (λ (l : LinkAt). l ∷ drop (i + 1) links) (sym is) in
    let rest_rises : AreRising (link ∷ drop (i + 1) links) = subst AreRising rest (drop_rises i links rises) in (
      subst AreRising (sym next_is) (drop_rising link.number left left_rises),
      ap (λ (t : List ℕ). t ++ lacking_text line next (drop (i + 1) links)) after_is
          ∙ append_assoc before (text_if (begins_with next link) (line_text (line link))) (lacking_text line next (drop (i + 1) links))
          ∙ ap (λ (t : List ℕ). before ++ t) (ap (λ (n : List LinkAt). text_if (begins_with n link) (line_text (line link)) ++ lacking_text line n (drop (i + 1) links)) next_is ∙ sym (lacking_more line left link (drop (i + 1) links) left_rises rest_rises))
          ∙ ap (λ (l : List LinkAt). before ++ lacking_text line left l) (sym rest)
          ∙ invariant,
    )

-- the same, as the code has its item and its line
pub lacking_next : (line : LinkAt → Line) (left next links : List LinkAt) (i : ℕ) (d : LinkAt) (unwanted : Bool) (own : Line) (before after whole : List ℕ) → AreRising left → AreRising links → i < length links → next ≡ drop_below (get_or links i d).number left
    → after ≡ before ++ text_if unwanted (line_text own) → unwanted ≡ begins_with next (get_or links i d) → own ≡ line (get_or links i d) → before ++ lacking_text line left (drop i links) ≡ whole
    → AreRising next × (after ++ lacking_text line next (drop (i + 1) links) ≡ whole)
lacking_next line left next links i d unwanted own before after whole left_rises rises below next_is after_is unwanted_is own_is invariant =
    lacking_step line left next links i (get_or links i d) before after whole left_rises rises below (get_or_default links i d (get_or links i d) below) next_is
    (after_is ∙ ap (λ (b : Bool). before ++ text_if b (line_text own)) unwanted_is ∙ ap (λ (l : Line). before ++ text_if (begins_with next (get_or links i d)) (line_text l)) own_is)
    invariant

-- and at its end
pub lacking_end : (line : LinkAt → Line) (left links : List LinkAt) (i : ℕ) (text whole : List ℕ) → length links ≤ i → text ++ lacking_text line left (drop i links) ≡ whole → text ≡ whole
lacking_end line left links i text whole over invariant =
    sym (append-nil text) ∙ ap (λ (l : List LinkAt). text ++ lacking_text line left l) (sym (drop_all i links over)) ∙ invariant
