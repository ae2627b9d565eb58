-- Each move of a seat keeps the rule: it is one event of the race machine.
use Rattle.std.proofs.Common.{◌≡◌, ℕ, zero, suc, ◌+◌, ◌-◌, ◌%◌, ◌^◌, ◌<◌, ◌≤◌, ◌≢◌, inl, Bool, true, false, cond, ◌==◌, List, [], ◌∷◌, length, set, take, drop, refl, sym, ap, ◌∙◌, subst, arith}
use Rattle.std.specs.Prelude.{slice_index}
use Rattle.std.proofs.lemmas.List.{length-set, set-get_or, get_or-set_same, get_or-take, get_or-drop, take-set-le, drop-set-lt, drop-set-add, length-take, length-drop}
use Rattle.std.proofs.lemmas.Bool.Decides.{nat_tests}
use Rattle.std.proofs.Math.Seq.{take-set-lt}
use mathlib.Core.Option.{some, none, some-ne-none}
use prog.Atomic.{either}
use lib.ListN.{get_elem?}
use Rattle.atomic_table.proofs.Lists.{set_again}
use Rattle.atomic_table.specs.Table.{State, Me, step, keeps, Allows, Splits, Joins}
use Rattle.sg_words.specs.declared.race.Worker.{Worker}
use Rattle.sg_words.specs.Counts.{pairs, firsts}
use Rattle.sg_words.specs.RaceMachine.{Race, MayPut, nobody, after_split, other_half, after_join, after_draw, after_key, after_key_put, after_key_word, key_word}
use Rattle.sg_words.specs.RaceInvariant.{MeetsRaceInvariant, has_seen, has_key}
use Rattle.sg_words.specs.steps.RaceSteps.{after_look, after_try}
use Rattle.sg_words.specs.SlotRaces.{slot_race}
use Rattle.sg_words.proofs.Uses.{kept-look, kept-try, kept-draw, kept-enrol, kept-found, kept-put, found_case, kept-join, stands, le-total, set_other_at, count_is_small, pair_cases, slot-small, kept_as}
use Rattle.sg_hash.specs.declared.rule.Start.{Start}
use Rattle.sg_hash.specs.HashRace.{setting_of, race_of, Racing, looks, draws, tries, looks_key, tries_key}
use Rattle.sg_hash.specs.KeySteps.{after_look_key, TellKeys}
use Rattle.sg_hash.specs.Tables.{IsTable}
use Rattle.sg_hash.proofs.Uses.{stands_once}
use Rattle.sg_words.specs.Stocks.{AreLinks, is_dry}

abbrev pub Holds : Start → State (Unit {0}) Worker → Type 0
Holds start s = Racing start s.words s.views

-- a state with other words, as lists of slots, keys and counts
pub as_words : (start : Start) (words : List ℕ) (views : List Worker) (slots keys counts : List ℕ) → take (length start.links) words ≡ slots → take (length start.links) (drop (length start.links) words) ≡ keys
    → drop (length start.links) (drop (length start.links) words) ≡ counts → MeetsRaceInvariant (setting_of start) (slot_race slots keys counts views) → MeetsRaceInvariant (setting_of start) (race_of start words views)
as_words start words views slots keys counts e e' e'' =
    let n = length start.links in
    kept_as (setting_of start) slots (take n words) keys (take n (drop n words)) counts (drop n (drop n words)) views (sym e) (sym e') (sym e'')

pub looks-allowed : (start : Start) (slots id : ℕ) (me : Me (Unit {0}) Worker) (i : ℕ) → 0 < me.0.share → i < length start.links → AreLinks start.links
    → ((t : ℕ) → slice_index start.stock t < 2 ^ 32) → Allows (Holds start) slots id me i (λ n. n) (looks (step slots i 0 0 none) me)
looks-allowed start slots id me i live inside links numbers s r _ at _ =
    let word = slice_index s.words i in
    let here : slice_index (take (length start.links) s.words) i ≡ word = get_or-take (length start.links) s.words i 0 inside in
    let st = stands s.views id me.0 r.kept.team at live in
    let w = after_look i word me.0 in
    let kept : MeetsRaceInvariant (setting_of start) (race_of start s.words (set s.views id w)) =
    subst (λ x. MeetsRaceInvariant (setting_of start) (race_of start s.words (set s.views id (after_look i x me.0)))) here (kept-look (setting_of start) (race_of start s.words s.views) id me.0 i at st r.kept) in
    let small = slot-small start.links start.keys start.stock (length start.stock ∷ length start.links ∷ []) (race_of start s.words s.views) i links numbers r.kept in (
      w,
      keeps,
      tt,
      subst (λ l. Racing start l (set s.views id w)) (sym (set-get_or s.words i 0)) (record { wide = r.wide; kept = kept }),
      (refl, omega arith, λ c has. (let le = le-total (has_seen i c) s.views id me.0 at in let is = r.kept.seen i c (omega arith) in omega arith)),
    )

pub draws-allowed : (start : Start) (slots id : ℕ) (me : Me (Unit {0}) Worker) → 0 < me.0.share → me.0.told ≡ length start.stock ∷ length start.links ∷ [] → me.0.spare ≡ [] → is_dry me.0 ≡ false
    → length start.stock < 2 ^ 63 → Allows (Holds start) slots id me (length start.links + length start.links) (λ n. (n + 1) % 2 ^ 64) (draws (step slots (length start.links + length start.links) 1 0 none) me)
draws-allowed start slots id me live told none' wet room s r _ at _ =
    let n = length start.links in
    let v = me.0 in
    let count = slice_index s.words (n + n) in
    let plus : n + 0 ≡ n = omega arith in
    let here : slice_index (drop n (drop n s.words)) 0 ≡ count = get_or-drop n (drop n s.words) 0 0 ∙ ap (λ i. slice_index (drop n s.words) i) plus ∙ get_or-drop n s.words n 0 in
    let st = stands s.views id v r.kept.team at live in
    let few = count_is_small (setting_of start) (race_of start s.words s.views) 0 r.kept in
    let next : count + 1 ≡ (count + 1) % 2 ^ 64 = omega arith in
    let limit : slice_index v.told 0 ≡ length start.stock = ap (λ l. slice_index l 0) told in
    let w = after_draw 0 (slice_index v.told 0) count v in
    let no_spare : firsts 0 v.spare ≡ 0 = ap (λ l. firsts 0 l) none' in
    let no_past : firsts 0 v.past ≡ 0 = grind (arith, nat_tests) in
    let wide = r.wide in
    let one_count : 0 < length (drop n (drop n s.words)) = (let e = length-drop n s.words in let e' = length-drop n (drop n s.words) in omega arith) in
    let kept = kept-draw (setting_of start) (race_of start s.words s.views) id v 0 at st no_spare no_past one_count r.kept in
    let kept' : MeetsRaceInvariant (setting_of start) (record { slots = take n s.words; keys = take n (drop n s.words); masks = []; lengths = []; cells = []; counts = set (drop n (drop n s.words)) 0 (count + 1); workers = set s.views id w }) =
    subst (λ l. MeetsRaceInvariant (setting_of start) (record { slots = take n s.words; keys = take n (drop n s.words); masks = []; lengths = []; cells = []; counts = set (drop n (drop n s.words)) 0 (count + 1); workers = set s.views id (after_draw 0 l count v) })) (sym limit)
    (subst (λ x. MeetsRaceInvariant (setting_of start) (record { slots = take n s.words; keys = take n (drop n s.words); masks = []; lengths = []; cells = []; counts = set (drop n (drop n s.words)) 0 (x + 1); workers = set s.views id (after_draw 0 (length start.stock) x v) })) here kept) in
    let put : Racing start (set s.words (n + n) (count + 1)) (set s.views id w) = record {
      wide = length-set s.words (n + n) (count + 1) ∙ r.wide;
      kept = as_words start (set s.words (n + n) (count + 1)) (set s.views id w) (take n s.words) (take n (drop n s.words)) (set (drop n (drop n s.words)) 0 (count + 1))
          (take-set-le n s.words (n + n) (count + 1) (omega arith))
          (ap (take n) (drop-set-add n s.words n (count + 1)) ∙ take-set-le n (drop n s.words) n (count + 1) (omega arith))
          (ap (drop n) (drop-set-add n s.words n (count + 1)) ∙ ap (λ i. drop n (set (drop n s.words) i (count + 1))) (sym plus) ∙ drop-set-add n (drop n s.words) 0 (count + 1)) kept';
    } in
    (w, keeps, tt, subst (λ x. Racing start (set s.words (n + n) x) (set s.views id w)) next put, refl)

tries-at : (start : Start) (slots id : ℕ) (me : Me (Unit {0}) Worker) (i t : ℕ) → 0 < me.0.share → i < length start.links → AreLinks start.links
    → ((t : ℕ) → slice_index start.stock t < 2 ^ 32) → me.0.spare ≡ (0, t) ∷ []
    → Allows (Holds start) slots id me i (λ n. either (n == 0) (slice_index start.stock t + 1) n) (tries (step slots i 0 (slice_index start.stock t + 1) none) me)
tries-at start slots id me i t live inside links numbers spare s r _ at _ =
    let n = length start.links in
    let v = me.0 in
    let word = slice_index s.words i in
    let num = slice_index start.stock t in
    let here : slice_index (take n s.words) i ≡ word = get_or-take n s.words i 0 inside in
    let st = stands s.views id v r.kept.team at live in
    let wide = r.wide in
    let within : i < length (take n s.words) = (let e = length-take n s.words in omega arith) in
    let has : 0 < pairs 0 t v.spare = subst (λ l. 0 < pairs 0 t l) (sym spare) (pair_cases (λ x. 0 < x + 0) 0 t 0 t (λ _ _. omega arith) (λ miss. absurd (miss refl refl))) in
    let back : num + 1 - 1 ≡ num = omega arith in
    let w = after_try 0 i t (num + 1 - 1) word v in
    let new = either (word == 0) (num + 1) word in
    let kept = kept-try (setting_of start) (race_of start s.words s.views) id v i t at st within has (inl refl) r.kept in
    let kept' : MeetsRaceInvariant (setting_of start) (record { slots = set (take n s.words) i new; keys = take n (drop n s.words); masks = []; lengths = []; cells = []; counts = drop n (drop n s.words); workers = set s.views id w }) =
    subst (λ x. MeetsRaceInvariant (setting_of start) (record { slots = set (take n s.words) i new; keys = take n (drop n s.words); masks = []; lengths = []; cells = []; counts = drop n (drop n s.words); workers = set s.views id (after_try 0 i t x word v) })) (sym back)
    (subst (λ x. MeetsRaceInvariant (setting_of start) (record { slots = set (take n s.words) i (either (x == 0) (num + 1) x); keys = take n (drop n s.words); masks = []; lengths = []; cells = []; counts = drop n (drop n s.words); workers = set s.views id (after_try 0 i t num x v) })) here kept) in
    let small = slot-small start.links start.keys start.stock (length start.stock ∷ length start.links ∷ []) (race_of start s.words s.views) i links numbers r.kept in (
      w,
      keeps,
      tt,
      record {
        wide = length-set s.words i new ∙ r.wide;
        kept = as_words start (set s.words i new) (set s.views id w) (set (take n s.words) i new) (take n (drop n s.words)) (drop n (drop n s.words)) (take-set-lt n s.words i new inside) (ap (take n) (drop-set-lt n s.words i new inside)) (ap (drop n) (drop-set-lt n s.words i new inside)) kept';
      },
      ((λ u is. let same : t ≡ u = one_pair t u (sym spare ∙ is) in ap (λ u. (after_try 0 i u (num + 1 - 1) word v, me.1)) same), omega arith),
    )
  where
    one_pair : (t u : ℕ) → ◌≡◌ {A = List (ℕ × ℕ)} ((0, t) ∷ []) ((0, u) ∷ []) → t ≡ u
    one_pair t u e = ap (λ (l : List (ℕ × ℕ)). (head_of l).1) e
      where
        head_of : List (ℕ × ℕ) → ℕ × ℕ
        head_of [] = (0, 0)
        head_of (x ∷ xs) = x

pub tries-allowed : (start : Start) (slots id : ℕ) (me : Me (Unit {0}) Worker) (i t new : ℕ) → 0 < me.0.share → i < length start.links → AreLinks start.links
    → ((t : ℕ) → slice_index start.stock t < 2 ^ 32) → me.0.spare ≡ (0, t) ∷ [] → new ≡ slice_index start.stock t + 1
    → Allows (Holds start) slots id me i (λ n. either (n == 0) new n) (tries (step slots i 0 new none) me)
tries-allowed start slots id me i t new live inside links numbers spare e =
    subst (λ x. Allows (Holds start) slots id me i (λ n. either (n == 0) x n) (tries (step slots i 0 x none) me)) (sym e) (tries-at start slots id me i t live inside links numbers spare)

pub splits-allowed : (start : Start) (id : ℕ) (v : Worker) → 2 ≤ v.share → Splits (Holds start) id v (after_split v) (other_half v)
splits-allowed start id v share s r at =
    record { wide = r.wide; kept = kept-enrol (setting_of start) (race_of start s.words s.views) id v at (stands s.views id v r.kept.team at (omega arith)) share r.kept }

pub joins-allowed : (start : Start) (id : ℕ) (v : Worker) (other : ℕ) (w : Worker) → 0 < v.share → 0 < w.share → Joins (Holds start) id v other w (after_join v w) nobody
joins-allowed start id v other w live live' s r at ne at' =
    let there : get_elem? s.views other ≡ some w = sym (set_other_at s.views id other (after_join v w) ne) ∙ at' in
    record { wide = r.wide; kept = kept-join (setting_of start) (race_of start s.words s.views) id other v w ne at there (stands s.views id v r.kept.team at live) (stands s.views other w r.kept.team there live') (λ a x y. refl) r.kept }

-- ---- keys
-- past its end a list is read as 0
within : (xs : List ℕ) (q k : ℕ) → slice_index xs q ≡ k + 1 → q < length xs
within [] q k e = absurd (omega arith)
within (x ∷ xs) zero k e = omega arith
within (x ∷ xs) (suc q) k e = let r = within xs q k e in omega arith

-- what the invariant tells of the keys that a worker found
tells : (start : Start) (s : Race) (id : ℕ) (v : Worker) (n p word : ℕ) → get_elem? s.workers id ≡ some v → length s.keys ≡ n → slice_index s.keys p ≡ word → p < n → MeetsRaceInvariant (setting_of start) s → TellKeys n p word v
tells start s id v n p word at long is below k =
    let there : (q a : ℕ) → 0 < pairs q a v.keys → slice_index s.keys q ≡ a + 1 = λ q a has. (let le = le-total (has_key q a) s.workers id v at in k.seen_keys q a (omega arith)) in
    let table : IsTable s.keys = λ key turn under holds j before. k.keys.probed key turn j under holds before in
    record {
      inside = λ q a has. (let w = within s.keys q a (there q a has) in omega arith);
      agree = λ q a b has has'. (let e = there q a has in let e' = there q b has' in omega arith);
      once = λ q a holds has. (let w = within s.keys q a (there q a has) in stands_once s.keys table a q p w (omega arith) (there q a has) (is ∙ holds));
    }

told-n : (start : Start) (v : Worker) → v.told ≡ length start.stock ∷ length start.links ∷ [] → slice_index v.told 1 ≡ length start.links
told-n start v told = ap (λ l. slice_index l 1) told

put_at : (l : List Worker) (i : ℕ) (a b : Worker) → get_elem? l i ≡ some b → get_elem? (set l i a) i ≡ some a
put_at [] i a b e = absurd (some-ne-none b (sym e))
put_at (x ∷ xs) zero a b e = refl
put_at (x ∷ xs) (suc i) a b e = put_at xs i a b e

pub looks_key-allowed : (start : Start) (slots id : ℕ) (me : Me (Unit {0}) Worker) (p : ℕ) → 0 < me.0.share → me.0.told ≡ length start.stock ∷ length start.links ∷ [] → length start.keys ≡ length start.links → p < length start.links
    → Allows (Holds start) slots id me (length start.links + p) (λ n. n) (looks_key (step slots (length start.links + p) 0 0 none) me)
looks_key-allowed start slots id me p live told many inside s r _ at _ =
    let n = length start.links in
    let v = me.0 in
    let word = slice_index s.words (n + p) in
    let K = take n (drop n s.words) in
    let here : slice_index K p ≡ word = get_or-take n (drop n s.words) p 0 inside ∙ get_or-drop n s.words p 0 in
    let st = stands s.views id v r.kept.team at live in
    let w = after_look_key p word v in
    let long : length K ≡ n = r.kept.keys_stay.0 ∙ many in
    let G : Worker → Type 0 = λ u. MeetsRaceInvariant (setting_of start) (race_of start s.words (set s.views id u)) in
    let kept : G w =
    found_case G word v (after_key p (word - 1) v)
    (λ _. subst (λ l. MeetsRaceInvariant (setting_of start) (race_of start s.words l)) (sym (set_again s.views id v at)) r.kept)
    (λ full. subst (λ x. G (after_key p (x - 1) v)) here (kept-found (setting_of start) (race_of start s.words s.views) id v p at st (λ z. full (sym here ∙ z)) r.kept)) in
    let limit = told-n start v told in (
      w,
      keeps,
      tt,
      subst (λ l. Racing start l (set s.views id w)) (sym (set-get_or s.words (n + p) 0)) (record { wide = r.wide; kept = kept }),
      λ q is. (let same : p ≡ q = omega arith in
          let tell : TellKeys n p word w = tells start (race_of start s.words (set s.views id w)) id w n p word (put_at s.views id w v at) long here inside kept in
          subst (λ m. (◌≡◌ {A = Me (Unit {0}) Worker} (w, me.1) (after_look_key q word v, me.1)) × TellKeys m q word w) (sym limit)
          (ap (λ (q : ℕ). (after_look_key q word v, me.1)) same, subst (λ q. TellKeys n q word w) same tell)),
    )

tries_key-at : (start : Start) (slots id : ℕ) (me : Me (Unit {0}) Worker) (p key : ℕ) → 0 < me.0.share → me.0.told ≡ length start.stock ∷ length start.links ∷ [] → length start.keys ≡ length start.links → p < length start.links
    → MayPut (length start.links) p key me.0
    → Allows (Holds start) slots id me (length start.links + p) (λ n. either (n == 0) (key + 1) n) (tries_key (step slots (length start.links + p) 0 (key + 1) none) me)
tries_key-at start slots id me p key live told many inside may s r _ at _ =
    let n = length start.links in
    let v = me.0 in
    let word = slice_index s.words (n + p) in
    let K = take n (drop n s.words) in
    let here : slice_index K p ≡ word = get_or-take n (drop n s.words) p 0 inside ∙ get_or-drop n s.words p 0 in
    let st = stands s.views id v r.kept.team at live in
    let w = after_key_word p key word v in
    let new = either (word == 0) (key + 1) word in
    let long : length K ≡ n = r.kept.keys_stay.0 ∙ many in
    let g = setting_of start in
    let S : ℕ → Worker → Race = λ x u. record { slots = take n s.words; keys = set K p x; masks = []; lengths = []; cells = []; counts = drop n (drop n s.words); workers = set s.views id u } in
    let kept' : MeetsRaceInvariant g (S new w) = put_case (λ x u. MeetsRaceInvariant g (S x u)) p key word v
    (λ empty. kept-put g (race_of start s.words s.views) id v p key at st (here ∙ empty) (subst (λ m. MayPut m p key v) (sym long) may) (omega arith) r.kept)
    (λ full. subst (λ x. MeetsRaceInvariant g (S x (after_key p (x - 1) v))) here
    (subst (λ l. MeetsRaceInvariant g (record { slots = take n s.words; keys = l; masks = []; lengths = []; cells = []; counts = drop n (drop n s.words); workers = set s.views id (after_key p (slice_index K p - 1) v) })) (sym (set-get_or K p 0))
    (kept-found g (race_of start s.words s.views) id v p at st (λ z. full (sym here ∙ z)) r.kept))) in
    let limit = told-n start v told in
    let now : slice_index (set K p new) p ≡ new = get_or-set_same K p new 0 (omega arith) in
    let tell : TellKeys n p new w = tells start (S new w) id w n p new (put_at s.views id w v at) (length-set K p new ∙ long) now inside kept' in (
      w,
      keeps,
      tt,
      record {
        wide = length-set s.words (n + p) new ∙ r.wide;
        kept = as_words start (set s.words (n + p) new) (set s.views id w) (take n s.words) (set K p new) (drop n (drop n s.words))
            (take-set-le n s.words (n + p) new (omega arith)) (ap (take n) (drop-set-add n s.words p new) ∙ take-set-lt n (drop n s.words) p new inside)
            (ap (drop n) (drop-set-add n s.words p new) ∙ drop-set-lt n (drop n s.words) p new inside) kept';
      },
      λ q k is is'. (let same : p ≡ q = omega arith in let same' : key ≡ k = omega arith in
          subst (λ k. (◌≡◌ {A = Me (Unit {0}) Worker} (w, me.1) (after_key_word q k word v, me.1)) × TellKeys (slice_index v.told 1) q (key_word k word) w) same'
          (subst (λ m. (◌≡◌ {A = Me (Unit {0}) Worker} (w, me.1) (after_key_word q key word v, me.1)) × TellKeys m q (key_word key word) w) (sym limit)
          (ap (λ (q : ℕ). (after_key_word q key word v, me.1)) same, subst (λ q. TellKeys n q (key_word key word) w) same tell))),
    )
  where
    put_case : (P : ℕ → Worker → Type 0) (p key word : ℕ) (v : Worker) → (word ≡ 0 → P (key + 1) (after_key_put p key v)) → (word ≢ 0 → P word (after_key p (word - 1) v)) → P (either (word == 0) (key + 1) word) (after_key_word p key word v)
    put_case P p key word v hit miss = go (word == 0) refl
      where
        go : (b : Bool) → (word == 0) ≡ b → P (either b (key + 1) word) (cond b (after_key_put p key v) (after_key p (word - 1) v))
        go true e = hit (grind (arith, nat_tests))
        go false e = miss (λ z. grind (arith, nat_tests))

pub tries_key-allowed : (start : Start) (slots id : ℕ) (me : Me (Unit {0}) Worker) (p key new : ℕ) → 0 < me.0.share → me.0.told ≡ length start.stock ∷ length start.links ∷ [] → length start.keys ≡ length start.links → p < length start.links
    → MayPut (length start.links) p key me.0 → new ≡ key + 1
    → Allows (Holds start) slots id me (length start.links + p) (λ n. either (n == 0) new n) (tries_key (step slots (length start.links + p) 0 new none) me)
tries_key-allowed start slots id me p key new live told many inside may e =
    subst (λ x. Allows (Holds start) slots id me (length start.links + p) (λ n. either (n == 0) x n) (tries_key (step slots (length start.links + p) 0 x none) me)) (sym e) (tries_key-at start slots id me p key live told many inside may)
