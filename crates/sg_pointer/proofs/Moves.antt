-- Each move of a seat keeps the rule: it is one event of the race machine.
use Rattle.std.proofs.Common.{◌≡◌, ℕ, ◌+◌, ◌-◌, ◌%◌, ◌^◌, ◌<◌, ◌≤◌, inl, false, ◌==◌, List, [], ◌∷◌, length, set, take, drop, refl, sym, ap, ◌∙◌, subst, arith}
use Rattle.std.specs.Prelude.{slice_index}
use Rattle.std.proofs.lemmas.List.{length-set, set-get_or, get_or-take, get_or-drop, take-set-le, drop-set-lt, length-take, length-drop}
use Rattle.std.proofs.lemmas.Bool.Decides.{nat_tests}
use mathlib.Core.Option.{some, none}
use prog.Atomic.{either}
use lib.ListN.{get_elem?}
use Rattle.atomic_table.specs.Table.{State, Me, step, keeps, Allows, Splits, Joins}
use Rattle.sg_words.specs.declared.race.Worker.{Worker}
use Rattle.sg_words.specs.Counts.{pairs, firsts}
use Rattle.sg_words.specs.RaceMachine.{nobody, after_split, other_half, after_join, after_draw}
use Rattle.sg_words.specs.RaceInvariant.{MeetsRaceInvariant, has_seen}
use Rattle.sg_words.specs.steps.RaceSteps.{after_look, after_try}
use Rattle.sg_words.proofs.Uses.{kept-enrol, kept-join, stands, le-total, set_other_at, count_is_small, pair_cases, rest-is_range, slot-small, kept_as}
use Rattle.sg_pointer.specs.declared.rule.Start.{Start}
use Rattle.sg_pointer.specs.PointerRace.{setting_of, race_of, Racing, looks, draws, tries}
use Rattle.sg_words.specs.Stocks.{AreLinks, is_dry}
use Rattle.sg_words.specs.Ranges.{range_at, IsAtWork}
use Rattle.sg_pointer.proofs.RangeSteps.{look_keeps, try_keeps, draw_keeps}

abbrev pub Holds : Start → State (Unit {0}) Worker → Type 0
Holds start s = Racing start s.words s.views

pub looks-allowed : (start : Start) (slots id : ℕ) (me : Me (Unit {0}) Worker) (i : ℕ) → 0 < me.0.share → i < length start.links → AreLinks start.links
    → ((t : ℕ) → slice_index start.stock t < 2 ^ 32) → Allows (Holds start) slots id me i (λ n. n) (looks (step slots i 0 0 none) me)
looks-allowed start slots id me i live inside links numbers s r _ at _ =
    let word = slice_index s.words i in
    let n = length start.links in
    let wide = r.wide in
    let long : length (take n s.words) ≡ n = (let e = length-take n s.words in omega arith) in
    let front : 0 + i ≡ i = omega arith in
    let here : slice_index (take n s.words) i ≡ word = get_or-take n s.words i 0 inside in
    let w = after_look i word me.0 in
    let work : IsAtWork (setting_of start) (race_of start s.words s.views) id me.0 = record { kept = r.kept; stands = at; share = live } in
    let kept : MeetsRaceInvariant (setting_of start) (race_of start s.words (set s.views id w)) =
    subst (λ j. MeetsRaceInvariant (setting_of start) (race_of start s.words (set s.views id (after_look i (slice_index s.words j) me.0)))) front (look_keeps (setting_of start) (race_of start s.words s.views) id me.0 s.words 0 i work (ap (λ k. take k s.words) (sym long)) (omega arith)) in
    let small = slot-small start.links [] start.stock (length start.stock ∷ []) (race_of start s.words s.views) i links numbers r.kept in (
      w,
      keeps,
      tt,
      subst (λ l. Racing start l (set s.views id w)) (sym (set-get_or s.words i 0)) (record { wide = r.wide; kept = kept }),
      (refl, omega arith, λ c has. (let le = le-total (has_seen i c) s.views id me.0 at in let is = r.kept.seen i c (omega arith) in omega arith)),
    )

pub draws-allowed : (start : Start) (slots id : ℕ) (me : Me (Unit {0}) Worker) → 0 < me.0.share → me.0.told ≡ length start.stock ∷ [] → me.0.spare ≡ [] → is_dry me.0 ≡ false
    → length start.stock < 2 ^ 63 → Allows (Holds start) slots id me (length start.links) (λ n. (n + 1) % 2 ^ 64) (draws (step slots (length start.links) 1 0 none) me)
draws-allowed start slots id me live told none' wet room s r _ at _ =
    let n = length start.links in
    let v = me.0 in
    let count = slice_index s.words n in
    let wide = r.wide in
    let plus : n + 0 ≡ n = omega arith in
    let long : length (drop n s.words) ≡ 1 = (let e = length-drop n s.words in omega arith) in
    let is : drop n s.words ≡ range_at n (length (drop n s.words)) s.words = rest-is_range n (length (drop n s.words)) s.words (omega arith) in
    let few = count_is_small (setting_of start) (race_of start s.words s.views) 0 r.kept in
    let here : slice_index (drop n s.words) 0 ≡ count = get_or-drop n s.words 0 0 ∙ ap (λ i. slice_index s.words i) plus in
    let next : count + 1 ≡ (count + 1) % 2 ^ 64 = omega arith in
    let limit : slice_index v.told 0 ≡ length start.stock = ap (λ l. slice_index l 0) told in
    let w = after_draw 0 (slice_index v.told 0) count v in
    let no_spare : firsts 0 v.spare ≡ 0 = ap (λ l. firsts 0 l) none' in
    let no_past : firsts 0 v.past ≡ 0 = grind (arith, nat_tests) in
    let work : IsAtWork (setting_of start) (race_of start s.words s.views) id v = record { kept = r.kept; stands = at; share = live } in
    let kept = draw_keeps (setting_of start) (race_of start s.words s.views) id v s.words n 0 work is (omega arith) no_spare no_past in
    let kept' : MeetsRaceInvariant (setting_of start) (record { slots = take n s.words; keys = []; masks = []; lengths = []; cells = []; counts = range_at n (length (drop n s.words)) (set s.words n (count + 1)); workers = set s.views id w }) =
    subst (λ l. MeetsRaceInvariant (setting_of start) (record { slots = take n s.words; keys = []; masks = []; lengths = []; cells = []; counts = range_at n (length (drop n s.words)) (set s.words n (count + 1)); workers = set s.views id (after_draw 0 l count v) })) (sym limit)
    (subst (λ i. MeetsRaceInvariant (setting_of start) (record { slots = take n s.words; keys = []; masks = []; lengths = []; cells = []; counts = range_at n (length (drop n s.words)) (set s.words i (slice_index s.words i + 1)); workers = set s.views id (after_draw 0 (length start.stock) (slice_index s.words i) v) })) plus kept) in
    let put : Racing start (set s.words n (count + 1)) (set s.views id w) = record {
      wide = length-set s.words n (count + 1) ∙ r.wide;
      kept = kept_as (setting_of start) (take n s.words) (take n (set s.words n (count + 1))) [] [] (range_at n (length (drop n s.words)) (set s.words n (count + 1))) (drop n (set s.words n (count + 1))) (set s.views id w)
          (sym (take-set-le n s.words n (count + 1) (omega arith))) refl (sym (rest-is_range n (length (drop n s.words)) (set s.words n (count + 1)) (let e = length-set s.words n (count + 1) in omega arith))) kept';
    } in
    (w, keeps, tt, subst (λ x. Racing start (set s.words n x) (set s.views id w)) next put, refl)

tries-at : (start : Start) (slots id : ℕ) (me : Me (Unit {0}) Worker) (i t : ℕ) → 0 < me.0.share → i < length start.links → AreLinks start.links
    → ((t : ℕ) → slice_index start.stock t < 2 ^ 32) → me.0.spare ≡ (0, t) ∷ []
    → Allows (Holds start) slots id me i (λ n. either (n == 0) (slice_index start.stock t + 1) n) (tries (step slots i 0 (slice_index start.stock t + 1) none) me)
tries-at start slots id me i t live inside links numbers spare s r _ at _ =
    let n = length start.links in
    let v = me.0 in
    let word = slice_index s.words i in
    let num = slice_index start.stock t in
    let here : slice_index (take n s.words) i ≡ word = get_or-take n s.words i 0 inside in
    let wide = r.wide in
    let long : length (take n s.words) ≡ n = (let e = length-take n s.words in omega arith) in
    let has : 0 < pairs 0 t v.spare = subst (λ l. 0 < pairs 0 t l) (sym spare) (pair_cases (λ x. 0 < x + 0) 0 t 0 t (λ _ _. omega arith) (λ miss. absurd (miss refl refl))) in
    let back : num + 1 - 1 ≡ num = omega arith in
    let front : 0 + i ≡ i = omega arith in
    let w = after_try 0 i t (num + 1 - 1) word v in
    let new = either (word == 0) (num + 1) word in
    let work : IsAtWork (setting_of start) (race_of start s.words s.views) id v = record { kept = r.kept; stands = at; share = live } in
    let kept = subst (λ j. MeetsRaceInvariant (setting_of start) (record { slots = take (length (take n s.words)) (set s.words j (either (slice_index s.words j == 0) (num + 1) (slice_index s.words j))); keys = []; masks = []; lengths = []; cells = []; counts = drop n s.words; workers = set s.views id (after_try 0 i t num (slice_index s.words j) v) })) front
    (try_keeps (setting_of start) (race_of start s.words s.views) id v s.words 0 i t work (ap (λ k. take k s.words) (sym long)) (omega arith) has (inl refl)) in
    let kept' : MeetsRaceInvariant (setting_of start) (record { slots = take n (set s.words i new); keys = []; masks = []; lengths = []; cells = []; counts = drop n s.words; workers = set s.views id w }) =
    subst (λ x. MeetsRaceInvariant (setting_of start) (record { slots = take n (set s.words i new); keys = []; masks = []; lengths = []; cells = []; counts = drop n s.words; workers = set s.views id (after_try 0 i t x word v) })) (sym back)
    (subst (λ k. MeetsRaceInvariant (setting_of start) (record { slots = take k (set s.words i new); keys = []; masks = []; lengths = []; cells = []; counts = drop n s.words; workers = set s.views id (after_try 0 i t num word v) })) long kept) in
    let small = slot-small start.links [] start.stock (length start.stock ∷ []) (race_of start s.words s.views) i links numbers r.kept in (
      w,
      keeps,
      tt,
      record {
        wide = length-set s.words i new ∙ r.wide;
        kept = kept_as (setting_of start) (take n (set s.words i new)) (take n (set s.words i new)) [] [] (drop n s.words) (drop n (set s.words i new)) (set s.views id w) refl refl (sym (drop-set-lt n s.words i new inside)) kept';
      },
      ((λ u is. let same : t ≡ u = one_pair t u (sym spare ∙ is) in ap (λ u. (after_try 0 i u (num + 1 - 1) word v, me.1)) same), omega arith),
    )
  where
    one_pair : (t u : ℕ) → ◌≡◌ {A = List (ℕ × ℕ)} ((0, t) ∷ []) ((0, u) ∷ []) → t ≡ u
    one_pair t u e = ap (λ (l : List (ℕ × ℕ)). (head_of l).1) e
      where
        head_of : List (ℕ × ℕ) → ℕ × ℕ
        head_of [] = (0, 0)
        head_of (x ∷ xs) = x

pub tries-allowed : (start : Start) (slots id : ℕ) (me : Me (Unit {0}) Worker) (i t new : ℕ) → 0 < me.0.share → i < length start.links → AreLinks start.links
    → ((t : ℕ) → slice_index start.stock t < 2 ^ 32) → me.0.spare ≡ (0, t) ∷ [] → new ≡ slice_index start.stock t + 1
    → Allows (Holds start) slots id me i (λ n. either (n == 0) new n) (tries (step slots i 0 new none) me)
tries-allowed start slots id me i t new live inside links numbers spare e =
    subst (λ x. Allows (Holds start) slots id me i (λ n. either (n == 0) x n) (tries (step slots i 0 x none) me)) (sym e) (tries-at start slots id me i t live inside links numbers spare)

pub splits-allowed : (start : Start) (id : ℕ) (v : Worker) → 2 ≤ v.share → Splits (Holds start) id v (after_split v) (other_half v)
splits-allowed start id v share s r at =
    record { wide = r.wide; kept = kept-enrol (setting_of start) (race_of start s.words s.views) id v at (stands s.views id v r.kept.team at (omega arith)) share r.kept }

pub joins-allowed : (start : Start) (id : ℕ) (v : Worker) (other : ℕ) (w : Worker) → 0 < v.share → 0 < w.share → Joins (Holds start) id v other w (after_join v w) nobody
joins-allowed start id v other w live live' s r at ne at' =
    let there : get_elem? s.views other ≡ some w = sym (set_other_at s.views id other (after_join v w) ne) ∙ at' in
    record { wide = r.wide; kept = kept-join (setting_of start) (race_of start s.words s.views) id other v w ne at there (stands s.views id v r.kept.team at live) (stands s.views other w r.kept.team there live') (λ a x y. refl) r.kept }
