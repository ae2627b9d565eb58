-- Each move of a seat keeps the rule: it is one event of the race machine.
use Rattle.std.proofs.Common.{◌≡◌, ℕ, ◌+◌, ◌-◌, ◌/◌, ◌%◌, ◌^◌, ◌<◌, ◌≤◌, ◌==◌, List, [], ◌∷◌, ◌++◌, length, set, take, drop, refl, sym, ap, ◌∙◌, subst, arith}
use Rattle.std.specs.Prelude.{slice_index, bit_or}
use Rattle.std.specs.Int.{bit_at}
use Rattle.std.proofs.lemmas.List.{length-set, set-get_or, get_or_append_left, length-take, length-map, length-drop, drop-set-lt}
use Rattle.std.proofs.lemmas.Nat.Bits.{bit_at-pow_same, bit_at-pow_other}
use mathlib.Core.Option.{some, none}
use mathlib.Core.Logic.{dite}
use native.Mathlib.Decide.{ℕ_discrete}
use prog.Atomic.{either}
use lib.ListN.{get_elem?}
use Rattle.atomic_table.specs.Table.{State, Me, step, keeps, Allows, Splits, Joins}
use Rattle.sg_words.specs.declared.race.Worker.{Worker}
use Rattle.sg_words.specs.Counts.{pairs, firsts}
use Rattle.sg_words.specs.RaceMachine.{nobody, KnowsContainer, after_split, other_half, after_join, after_draw, after_mark}
use Rattle.sg_words.specs.RaceInvariant.{MeetsRaceInvariant, has_seen}
use Rattle.sg_words.specs.steps.RaceSteps.{after_look, after_try}
use Rattle.sg_words.proofs.Uses.{kept-enrol, kept-join, stands, le-total, set_other_at, made-ticket, count_is_small, pairs-two, range-get, range-long, range-before, range-behind, rest-is_range}
use Rattle.sg_activate.specs.declared.descent.rule.Start.{Start}
use Rattle.sg_words.specs.Ranges.{range_at, IsAtWork}
use Rattle.sg_activate.specs.TableParts.{first_of, part_of}
use Rattle.sg_activate.proofs.DescentParts.{part-fits}
use Rattle.sg_activate.specs.DescentRace.{slots_each, places_each, limits_of, stock_at, over_slot_at, over_bit_at, told_at, told_limit, told_slots, told_places, told_bound, setting_of, race_of, Racing, looks, draws, tries, marks}
use Rattle.sg_activate.specs.steps.DescentParts.{IsLaidOut}
use Rattle.sg_pointer.proofs.Uses.{look_keeps, try_keeps, draw_keeps}
use Rattle.sg_mask.proofs.Uses.{mark_keeps}

abbrev pub Holds : Start → State (Unit {0}) Worker → Type 0
Holds start s = Racing start s.words s.views

-- a state with other words, as lists of slots, masks and counts
as_words : (start : Start) (words : List ℕ) (views : List Worker) (slots masks counts : List ℕ) → range_at 0 (length start.links) words ≡ slots
    → range_at (length start.links) (length start.masks) words ≡ masks → drop (length start.links + length start.masks) words ≡ counts
    → MeetsRaceInvariant (setting_of start) (record { slots = slots; keys = []; masks = masks; lengths = []; cells = []; counts = counts; workers = views })
    → MeetsRaceInvariant (setting_of start) (race_of start words views)
as_words start words views slots masks counts e e' e'' k =
    let n = length start.links in
    let m = length start.masks in
    subst (λ l. MeetsRaceInvariant (setting_of start) (record { slots = l; keys = []; masks = range_at n m words; lengths = []; cells = []; counts = drop (n + m) words; workers = views })) (sym e)
    (subst (λ l. MeetsRaceInvariant (setting_of start) (record { slots = slots; keys = []; masks = l; lengths = []; cells = []; counts = drop (n + m) words; workers = views })) (sym e')
    (subst (λ l. MeetsRaceInvariant (setting_of start) (record { slots = slots; keys = []; masks = masks; lengths = []; cells = []; counts = l; workers = views })) (sym e'') k))

module _ (start : Start) (laid : IsLaidOut start) where
  -- a slot word is 0 or one more than the number of a container of its node
  slot-small : (words : List ℕ) (views : List Worker) (i : ℕ) → MeetsRaceInvariant (setting_of start) (race_of start words views)
      → slice_index (range_at 0 (length start.links) words) i ≤ slice_index (places_each start) (part_of (slots_each start) i)
  slot-small words views i k =
      let slots = range_at 0 (length start.links) words in
      dite (ℕ_discrete (slice_index slots i) 0) (λ e. omega arith) (λ full. dite (ℕ_discrete (slice_index start.links i) 0)
      (λ new.
      let m = made-ticket (setting_of start) (race_of start words views) i k new (omega arith) in
      let word = m.2 in
      let n = laid.numbers (part_of (slots_each start) i) m.0 m.3 in omega arith)
      (λ old. let stay = k.slots_stay.1 i (omega arith) in let n = laid.links i in omega arith))

  -- what a worker was told
  many-limits : length (limits_of start) ≡ length start.slot_parts
  many-limits = length-map start.slot_parts (λ part. part.limit)

  many-slots : length (slots_each start) ≡ length start.slot_parts
  many-slots = length-map start.slot_parts (λ part. part.slots)

  drop-front : (xs ys : List ℕ) → drop (length xs) (xs ++ ys) ≡ ys
  drop-front [] ys = refl
  drop-front (x ∷ xs) ys = drop-front xs ys

  take-front : (xs ys : List ℕ) → take (length xs) (xs ++ ys) ≡ xs
  take-front [] ys = refl
  take-front (x ∷ xs) ys = ap (λ l. x ∷ l) (take-front xs ys)

  behind-limits : drop (length start.slot_parts) (limits_of start ++ (slots_each start ++ places_each start)) ≡ slots_each start ++ places_each start
  behind-limits = ap (λ n. drop n (limits_of start ++ (slots_each start ++ places_each start))) (sym many-limits) ∙ drop-front (limits_of start) (slots_each start ++ places_each start)

  pub slots-told : (told : List ℕ) → told ≡ told_at start → told_slots told ≡ slots_each start
  slots-told told is =
      ap told_slots is ∙ ap (take (length start.slot_parts)) behind-limits
      ∙ ap (λ n. take n (slots_each start ++ places_each start)) (sym many-slots) ∙ take-front (slots_each start) (places_each start)

  pub bound-told : (told : List ℕ) (i : ℕ) → told ≡ told_at start → told_bound told i ≡ slice_index (places_each start) (part_of (slots_each start) i)
  bound-told told i is =
      ap (λ p. slice_index (told_places told) (part_of p i)) (slots-told told is)
      ∙ ap (λ t. slice_index (told_places t) (part_of (slots_each start) i)) is
      ∙ ap (λ l. slice_index l (part_of (slots_each start) i)) (ap (drop (length start.slot_parts)) behind-limits
      ∙ ap (λ n. drop n (slots_each start ++ places_each start)) (sym many-slots) ∙ drop-front (slots_each start) (places_each start))

  -- ---- a load
  pub looks-allowed : (slots id : ℕ) (me : Me (Unit {0}) Worker) (i : ℕ) → 0 < me.0.share → me.0.told ≡ told_at start → i < length start.links
      → Allows (Holds start) slots id me i (λ n. n) (looks (step slots i 0 0 none) me)
  looks-allowed slots id me i live told inside s r _ at _ =
      let word = slice_index s.words i in
      let n = length start.links in
      let wide = r.wide in
      let long : length (range_at 0 n s.words) ≡ n = range-long 0 n s.words (omega arith) in
      let front : 0 + i ≡ i = omega arith in
      let here : slice_index (range_at 0 n s.words) i ≡ word = range-get 0 n s.words i inside ∙ ap (λ j. slice_index s.words j) front in
      let w = after_look i word me.0 in
      let work : IsAtWork (setting_of start) (race_of start s.words s.views) id me.0 = record { kept = r.kept; stands = at; share = live } in
      let kept : MeetsRaceInvariant (setting_of start) (race_of start s.words (set s.views id w)) =
      subst (λ j. MeetsRaceInvariant (setting_of start) (race_of start s.words (set s.views id (after_look i (slice_index s.words j) me.0)))) front (look_keeps (setting_of start) (race_of start s.words s.views) id me.0 s.words 0 i work (ap (λ k. range_at 0 k s.words) (sym long)) (omega arith)) in
      let small = slot-small s.words s.views i r.kept in
      let bound = bound-told me.0.told i told in (
        w,
        keeps,
        tt,
        subst (λ l. Racing start l (set s.views id w)) (sym (set-get_or s.words i 0)) (record { wide = r.wide; kept = kept }),
        (refl, omega arith, λ c has. (let le = le-total (has_seen i c) s.views id me.0 at in let is = r.kept.seen i c (omega arith) in omega arith)),
      )

  -- ---- a draw
  pub limit-is : (told : List ℕ) (l : ℕ) → told ≡ told_at start → l < length start.slot_parts → told_limit told l ≡ length (stock_at start l)
  limit-is told l is below =
      let many = many-limits in
      let behind = slots_each start ++ places_each start in
      let first : told_limit told l ≡ slice_index (limits_of start ++ behind) l = ap (λ t. told_limit t l) is in
      let mine : slice_index (limits_of start ++ behind) l ≡ slice_index (limits_of start) l = get_or_append_left (limits_of start) behind 0 l (omega arith) in
      let fits = part-fits (limits_of start) l (omega arith) in
      let stocks = laid.stocks in
      first ∙ mine ∙ sym (range-long (first_of (limits_of start) l) (slice_index (limits_of start) l) start.stock (omega arith))

  pub draws-allowed : (slots id : ℕ) (me : Me (Unit {0}) Worker) (l : ℕ) → 0 < me.0.share → me.0.told ≡ told_at start → l < length start.slot_parts
      → firsts l me.0.spare ≡ 0 → firsts l me.0.past ≡ 0
      → Allows (Holds start) slots id me (length start.links + length start.masks + l) (λ n. (n + 1) % 2 ^ 64) (draws (step slots (length start.links + length start.masks + l) 1 0 none) me)
  draws-allowed slots id me l live told there no_spare no_past s r _ at _ =
      let n = length start.links in
      let m = length start.masks in
      let p = length start.slot_parts in
      let v = me.0 in
      let wide = r.wide in
      let i = n + m + l in
      let count = slice_index s.words i in
      let long : length (drop (n + m) s.words) ≡ p = (let d = length-drop (n + m) s.words in omega arith) in
      let is : drop (n + m) s.words ≡ range_at (n + m) (length (drop (n + m) s.words)) s.words = rest-is_range (n + m) (length (drop (n + m) s.words)) s.words (omega arith) in
      let work : IsAtWork (setting_of start) (race_of start s.words s.views) id v = record { kept = r.kept; stands = at; share = live } in
      let few = count_is_small (setting_of start) (race_of start s.words s.views) l r.kept in
      let limit : told_limit v.told l ≡ length (stock_at start l) = limit-is v.told l told there in
      let stocks = laid.stocks in
      let room = laid.room in
      let fewer : length (stock_at start l) ≤ length start.stock = (let a = length-take (slice_index (limits_of start) l) (drop (first_of (limits_of start) l) start.stock) in let b = length-drop (first_of (limits_of start) l) start.stock in omega arith) in
      let here : slice_index (drop (n + m) s.words) l ≡ count = ap (λ c. slice_index c l) is ∙ range-get (n + m) (length (drop (n + m) s.words)) s.words l (omega arith) in
      let next : count + 1 ≡ (count + 1) % 2 ^ 64 = omega arith in
      let w = after_draw l (told_limit v.told l) count v in
      let kept = draw_keeps (setting_of start) (race_of start s.words s.views) id v s.words (n + m) l work is (omega arith) no_spare no_past in
      let kept' = subst (λ k. MeetsRaceInvariant (setting_of start) (record { slots = range_at 0 n s.words; keys = []; masks = range_at n m s.words; lengths = []; cells = []; counts = range_at (n + m) (length (drop (n + m) s.words)) (set s.words i (count + 1)); workers = set s.views id (after_draw l k count v) })) (sym limit) kept in
      let put : Racing start (set s.words i (count + 1)) (set s.views id w) = record {
        wide = length-set s.words i (count + 1) ∙ r.wide;
        kept = as_words start (set s.words i (count + 1)) (set s.views id w) (range_at 0 n s.words) (range_at n m s.words) (range_at (n + m) (length (drop (n + m) s.words)) (set s.words i (count + 1)))
            (range-behind 0 n s.words i (count + 1) (omega arith)) (range-behind n m s.words i (count + 1) (omega arith))
            (rest-is_range (n + m) (length (drop (n + m) s.words)) (set s.words i (count + 1)) (let e = length-set s.words i (count + 1) in omega arith)) kept';
      } in
      let base : slice_index v.told 0 + slice_index v.told 1 ≡ n + m = ap (λ t. slice_index t 0 + slice_index t 1) told in (
        w,
        keeps,
        tt,
        subst (λ x. Racing start (set s.words i x) (set s.views id w)) next put,
        λ k word. (let same : l ≡ k = omega arith in ap (λ k. (after_draw k (told_limit v.told k) count v, me.1)) same),
      )

  -- ---- an exchange
  tries-at : (slots id : ℕ) (me : Me (Unit {0}) Worker) (i t : ℕ) → 0 < me.0.share → me.0.told ≡ told_at start → i < length start.links
      → 0 < pairs (part_of (slots_each start) i) t me.0.spare → KnowsContainer (setting_of start) me.0 (over_slot_at start i)
      → Allows (Holds start) slots id me i (λ n. either (n == 0) (slice_index (stock_at start (part_of (slots_each start) i)) t + 1) n)
      (tries (step slots i 0 (slice_index (stock_at start (part_of (slots_each start) i)) t + 1) none) me)
  tries-at slots id me i t live told inside has known s r _ at _ =
      let n = length start.links in
      let m = length start.masks in
      let v = me.0 in
      let l = part_of (slots_each start) i in
      let wide = r.wide in
      let word = slice_index s.words i in
      let num = slice_index (stock_at start l) t in
      let st = stands s.views id v r.kept.team at live in
      let long : length (range_at 0 n s.words) ≡ n = range-long 0 n s.words (omega arith) in
      let work : IsAtWork (setting_of start) (race_of start s.words s.views) id v = record { kept = r.kept; stands = at; share = live } in
      let new = either (word == 0) (num + 1) word in
      let back : num + 1 - 1 ≡ num = omega arith in
      let w = after_try l i t (num + 1 - 1) word v in
      let front : 0 + i ≡ i = omega arith in
      let kept = subst (λ j. MeetsRaceInvariant (setting_of start) (record { slots = range_at 0 (length (range_at 0 n s.words)) (set s.words j (either (slice_index s.words j == 0) (num + 1) (slice_index s.words j))); keys = []; masks = range_at n m s.words; lengths = []; cells = []; counts = drop (n + m) s.words; workers = set s.views id (after_try l i t num (slice_index s.words j) v) })) front
      (try_keeps (setting_of start) (race_of start s.words s.views) id v s.words 0 i t work (ap (λ k. range_at 0 k s.words) (sym long)) (omega arith) has known) in
      let kept' : MeetsRaceInvariant (setting_of start) (record { slots = range_at 0 n (set s.words i new); keys = []; masks = range_at n m s.words; lengths = []; cells = []; counts = drop (n + m) s.words; workers = set s.views id w }) =
      subst (λ x. MeetsRaceInvariant (setting_of start) (record { slots = range_at 0 n (set s.words i new); keys = []; masks = range_at n m s.words; lengths = []; cells = []; counts = drop (n + m) s.words; workers = set s.views id (after_try l i t x word v) })) (sym back)
      (subst (λ k. MeetsRaceInvariant (setting_of start) (record { slots = range_at 0 k (set s.words i new); keys = []; masks = range_at n m s.words; lengths = []; cells = []; counts = drop (n + m) s.words; workers = set s.views id (after_try l i t num word v) })) long kept) in
      let small = slot-small s.words s.views i r.kept in
      let here : slice_index (range_at 0 n s.words) i ≡ word = range-get 0 n s.words i inside ∙ ap (λ j. slice_index s.words j) front in
      let bound = bound-told v.told i told in
      let parts : part_of (told_slots v.told) i ≡ l = ap (λ p. part_of p i) (slots-told v.told told) in (
        w,
        keeps,
        tt,
        record {
          wide = length-set s.words i new ∙ r.wide;
          kept = as_words start (set s.words i new) (set s.views id w) (range_at 0 n (set s.words i new)) (range_at n m s.words) (drop (n + m) s.words)
              refl (range-before n m s.words i new inside) (drop-set-lt (n + m) s.words i new (omega arith)) kept';
        },
        (
          λ u is.
              let is' : 0 < pairs l u v.spare = subst (λ k. 0 < pairs k u v.spare) parts is in
              let same : t ≡ u = dite (ℕ_discrete t u) (λ e. e) (λ ne. absurd (let two = pairs-two l t u v.spare ne in let one' = st.spare l in omega arith)) in
              ap (λ u. (after_try l i u (num + 1 - 1) word v, me.1)) same ∙ ap (λ k. (after_try k i u (num + 1 - 1) word v, me.1)) (sym parts),
          omega arith,
        ),
      )

  pub tries-allowed : (slots id : ℕ) (me : Me (Unit {0}) Worker) (i l t new : ℕ) → 0 < me.0.share → me.0.told ≡ told_at start → i < length start.links → part_of (slots_each start) i ≡ l
      → 0 < pairs l t me.0.spare → KnowsContainer (setting_of start) me.0 (over_slot_at start i) → new ≡ slice_index (stock_at start l) t + 1
      → Allows (Holds start) slots id me i (λ n. either (n == 0) new n) (tries (step slots i 0 new none) me)
  tries-allowed slots id me i l t new live told inside is has known e =
      subst (λ x. Allows (Holds start) slots id me i (λ n. either (n == 0) x n) (tries (step slots i 0 x none) me)) (ap (λ k. slice_index (stock_at start k) t + 1) is ∙ sym e)
      (tries-at slots id me i t live told inside (subst (λ k. 0 < pairs k t me.0.spare) (sym is) has) known)

  -- ---- an or
  one_power : (i j : ℕ) → 2 ^ i ≡ 2 ^ j → i ≡ j
  one_power i j e = dite (ℕ_discrete i j) (λ h. h) (λ ne. absurd
      (let a = bit_at-pow_same i in
      let b = bit_at-pow_other j i ne in
      let c : bit_at (2 ^ i) i ≡ bit_at (2 ^ j) i = ap (λ n. bit_at n i) e in omega arith))

  pub marks-allowed : (slots id : ℕ) (me : Me (Unit {0}) Worker) (b : ℕ) → 0 < me.0.share → me.0.told ≡ told_at start → b / 64 < length start.masks
      → KnowsContainer (setting_of start) me.0 (over_bit_at start b)
      → Allows (Holds start) slots id me (length start.links + b / 64) (λ n. bit_or n (2 ^ (b % 64))) (marks (step slots (length start.links + b / 64) (2 ^ (b % 64)) 0 none) me)
  marks-allowed slots id me b live told inside known s r _ at _ =
      let n = length start.links in
      let m = length start.masks in
      let v = me.0 in
      let wide = r.wide in
      let i = n + b / 64 in
      let x = bit_or (slice_index s.words i) (2 ^ (b % 64)) in
      let long : length (range_at n m s.words) ≡ m = range-long n m s.words (omega arith) in
      let work : IsAtWork (setting_of start) (race_of start s.words s.views) id v = record { kept = r.kept; stands = at; share = live } in
      let w = after_mark b v in
      let kept = mark_keeps (setting_of start) (race_of start s.words s.views) id v s.words n b work (ap (λ k. range_at n k s.words) (sym long)) (omega arith) known in
      let kept' : MeetsRaceInvariant (setting_of start) (record { slots = range_at 0 n s.words; keys = []; masks = range_at n m (set s.words i x); lengths = []; cells = []; counts = drop (n + m) s.words; workers = set s.views id w }) =
      subst (λ k. MeetsRaceInvariant (setting_of start) (record { slots = range_at 0 n s.words; keys = []; masks = range_at n k (set s.words i x); lengths = []; cells = []; counts = drop (n + m) s.words; workers = set s.views id w })) long kept in
      let base : slice_index v.told 0 ≡ n = ap (λ t. slice_index t 0) told in (
        w,
        keeps,
        tt,
        record {
          wide = length-set s.words i x ∙ r.wide;
          kept = as_words start (set s.words i x) (set s.views id w) (range_at 0 n s.words) (range_at n m (set s.words i x)) (drop (n + m) s.words)
              (range-behind 0 n s.words i x (omega arith)) refl (drop-set-lt (n + m) s.words i x (omega arith)) kept';
        },
        λ c word power. (let same : b ≡ c = (let rest = one_power (b % 64) (c % 64) power in omega arith) in ap (λ c. (after_mark c v, me.1)) same),
      )

  -- ---- splits and joins
  pub splits-allowed : (id : ℕ) (v : Worker) → 2 ≤ v.share → Splits (Holds start) id v (after_split v) (other_half v)
  splits-allowed id v share s r at =
      record { wide = r.wide; kept = kept-enrol (setting_of start) (race_of start s.words s.views) id v at (stands s.views id v r.kept.team at (omega arith)) share r.kept }

  pub joins-allowed : (id : ℕ) (v : Worker) (other : ℕ) (w : Worker) → 0 < v.share → 0 < w.share → Joins (Holds start) id v other w (after_join v w) nobody
  joins-allowed id v other w live live' s r at ne at' =
      let there : get_elem? s.views other ≡ some w = sym (set_other_at s.views id other (after_join v w) ne) ∙ at' in
      record { wide = r.wide; kept = kept-join (setting_of start) (race_of start s.words s.views) id other v w ne at there (stands s.views id v r.kept.team at live) (stands s.views other w r.kept.team there live') (λ a x y. refl) r.kept }
