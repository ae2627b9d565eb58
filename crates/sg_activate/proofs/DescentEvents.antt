-- Each step of a seat is one event.
use Rattle.std.proofs.Common.{◌≡◌, ℕ, suc, ◌+◌, ◌-◌, ◌/◌, ◌%◌, ◌^◌, ◌<◌, ◌≢◌, Bool, true, false, cond, ◌==◌, List, [], ◌∷◌, ◌++◌, length, replicate, set, take, drop, refl, sym, ap, ◌∙◌, arith}
use Rattle.std.specs.Prelude.{slice_index, bit_or}
use Rattle.std.proofs.lemmas.List.{set-get_or, get_or-drop, drop-set-lt, drop-set-add, length-drop}
use Rattle.std.proofs.lemmas.Bool.Decides.{nat_tests}
use Rattle.sg_words.specs.declared.race.Worker.{Worker}
use Rattle.sg_words.specs.RaceMachine.{Race, link, see, miss, after_see, after_miss, after_link, after_draw, after_mark}
use Rattle.sg_words.specs.Ranges.{range_at}
use Rattle.sg_words.proofs.Uses.{range-get, range-long, range-in, range-before, range-behind}
use Rattle.sg_activate.specs.declared.descent.rule.Start.{Start}
use Rattle.sg_activate.specs.TableParts.{part_of}
use Rattle.sg_activate.specs.DescentRace.{slots_each, stock_at, race_of}
use Rattle.sg_activate.specs.DescentLaws.{IsEvent, at, first_words, StartIsEvent, LookIsEvent, DrawIsEvent, TryIsEvent, MarkIsEvent, SplitIsEvent, JoinIsEvent}

take-front : (xs ys : List ℕ) → take (length xs) (xs ++ ys) ≡ xs
take-front [] ys = refl
take-front (x ∷ xs) ys = ap (λ l. x ∷ l) (take-front xs ys)

drop-front : (xs ys : List ℕ) → drop (length xs) (xs ++ ys) ≡ ys
drop-front [] ys = refl
drop-front (x ∷ xs) ys = drop-front xs ys

drop-both : (xs ys zs : List ℕ) → drop (length xs + length ys) (xs ++ (ys ++ zs)) ≡ zs
drop-both [] ys zs = let e : 0 + length ys ≡ length ys = omega arith in ap (λ n. drop n (ys ++ zs)) e ∙ drop-front ys zs
drop-both (x ∷ xs) ys zs = let e : suc (length xs) + length ys ≡ suc (length xs + length ys) = omega arith in ap (λ n. drop n (x ∷ (xs ++ (ys ++ zs)))) e ∙ drop-both xs ys zs

-- a state of the slots, the masks and the counts
race : List ℕ → List ℕ → List ℕ → List Worker → Race
race slots masks counts views = record { slots = slots; keys = []; masks = masks; lengths = []; cells = []; counts = counts; workers = views }

-- two states with the same words
same-race : (slots slots' masks masks' counts counts' : List ℕ) (views views' : List Worker) → slots ≡ slots' → masks ≡ masks' → counts ≡ counts' → views ≡ views'
    → race slots masks counts views ≡ race slots' masks' counts' views'
same-race slots slots' masks masks' counts counts' views views' a b c d =
    ap (λ l. race l masks counts views) a ∙ ap (λ l. race slots' l counts views) b ∙ ap (λ l. race slots' masks' l views) c ∙ ap (race slots' masks' counts') d

pub start_is_event : (start : Start) → StartIsEvent start
unfolding race
start_is_event start =
    let n = length start.links in
    let m = length start.masks in
    let zeros = replicate (length start.slot_parts) 0 in
    let words = first_words start in (
      same-race (range_at 0 n words) start.links (range_at n m words) start.masks (drop (n + m) words) zeros [] []
          (take-front start.links (start.masks ++ zeros)) (ap (take m) (drop-front start.links (start.masks ++ zeros)) ∙ take-front start.masks zeros) (drop-both start.links start.masks zeros) refl,
      (refl, refl),
    )

module _ (start : Start) (words : List ℕ) (views : List Worker) where
  front-there : (i : ℕ) → i < length start.links → slice_index (range_at 0 (length start.links) words) i ≡ slice_index words i
  front-there i inside = let front : 0 + i ≡ i = omega arith in range-get 0 (length start.links) words i inside ∙ ap (slice_index words) front

  front-set : (i x : ℕ) → i < length start.links → set (range_at 0 (length start.links) words) i x ≡ range_at 0 (length start.links) (set words i x)
  front-set i x inside = let front : 0 + i ≡ i = omega arith in sym (range-in 0 (length start.links) words i x inside) ∙ ap (λ j. range_at 0 (length start.links) (set words j x)) front

  pub look_is_event : (id i : ℕ) → LookIsEvent start words views id i
  look_is_event id i wide live inside = go (slice_index words i == 0) refl
    where
      here : slice_index (range_at 0 (length start.links) words) i ≡ slice_index words i
      here = front-there i inside

      within : i < length (range_at 0 (length start.links) words)
      within = let e = range-long 0 (length start.links) words (omega arith) in omega arith

      go : (b : Bool) → (slice_index words i == 0) ≡ b → IsEvent start words views (cond b (miss id i) (see id i)) words (set views id (cond b (after_miss i (at views id)) (after_see i (slice_index words i - 1) (at views id))))
      go true e = let empty : slice_index words i ≡ 0 = grind (arith, nat_tests) in ((live, within, here ∙ empty), refl)
      go false e =
          let full : slice_index words i ≢ 0 = (λ z. grind (arith, nat_tests)) in
          ((live, λ z. full (sym here ∙ z)), ap (λ x. race_of start words (set views id (after_see i (x - 1) (at views id)))) here)

  pub draw_is_event : (id l : ℕ) → DrawIsEvent start words views id l
  unfolding race
  draw_is_event id l wide live there spare past =
      let n = length start.links in
      let m = length start.masks in
      let k = n + m + l in
      let count = slice_index words k in
      let here : slice_index (drop (n + m) words) l ≡ count = get_or-drop (n + m) words l 0 in
      let within : l < length (drop (n + m) words) = (let e = length-drop (n + m) words in omega arith) in
      let counts : drop (n + m) (set words k (count + 1)) ≡ set (drop (n + m) words) l (count + 1) = drop-set-add (n + m) words l (count + 1) in (
        (live, within, spare, past),
        same-race (range_at 0 n words) (range_at 0 n (set words k (count + 1))) (range_at n m words) (range_at n m (set words k (count + 1)))
            (set (drop (n + m) words) l (slice_index (drop (n + m) words) l + 1)) (drop (n + m) (set words k (count + 1)))
            (set views id (after_draw l (length (stock_at start l)) (slice_index (drop (n + m) words) l) (at views id))) (set views id (after_draw l (length (stock_at start l)) count (at views id)))
            (sym (range-behind 0 n words k (count + 1) (omega arith))) (sym (range-behind n m words k (count + 1) (omega arith)))
            (ap (λ x. set (drop (n + m) words) l (x + 1)) here ∙ sym counts) (ap (λ x. set views id (after_draw l (length (stock_at start l)) x (at views id))) here),
      )

  pub try_is_event : (id i t : ℕ) → TryIsEvent start words views id i t
  unfolding race
  try_is_event id i t wide live inside has known = go (slice_index words i == 0) refl
    where
      here : slice_index (range_at 0 (length start.links) words) i ≡ slice_index words i
      here = front-there i inside

      within : i < length (range_at 0 (length start.links) words)
      within = let e = range-long 0 (length start.links) words (omega arith) in omega arith

      go : (b : Bool) → (slice_index words i == 0) ≡ b → IsEvent start words views (cond b (link id i t) (see id i))
          (set words i (cond b (slice_index (stock_at start (part_of (slots_each start) i)) t + 1) (slice_index words i)))
          (set views id (cond b (after_link (part_of (slots_each start) i) i t (slice_index (stock_at start (part_of (slots_each start) i)) t) (at views id)) (after_see i (slice_index words i - 1) (at views id))))
      go true e =
          let empty : slice_index words i ≡ 0 = grind (arith, nat_tests) in
          let n = length start.links in
          let m = length start.masks in
          let l = part_of (slots_each start) i in
          let new = slice_index (stock_at start l) t + 1 in
          let after = set views id (after_link l i t (slice_index (stock_at start l) t) (at views id)) in (
            (live, within, here ∙ empty, has, known),
            same-race (set (range_at 0 n words) i new) (range_at 0 n (set words i new)) (range_at n m words) (range_at n m (set words i new)) (drop (n + m) words) (drop (n + m) (set words i new)) after after
                (front-set i new inside) (sym (range-before n m words i new inside)) (sym (drop-set-lt (n + m) words i new (omega arith))) refl,
          )
      go false e =
          let full : slice_index words i ≢ 0 = (λ z. grind (arith, nat_tests)) in (
            (live, λ z. full (sym here ∙ z)),
            ap (λ x. race_of start words (set views id (after_see i (x - 1) (at views id)))) here
                ∙ ap (λ l. race_of start l (set views id (after_see i (slice_index words i - 1) (at views id)))) (sym (set-get_or words i 0)),
          )

  pub mark_is_event : (id b : ℕ) → MarkIsEvent start words views id b
  unfolding race
  mark_is_event id b wide live inside known =
      let n = length start.links in
      let m = length start.masks in
      let k = n + b / 64 in
      let power = 2 ^ (b % 64) in
      let word = slice_index words k in
      let here : slice_index (range_at n m words) (b / 64) ≡ word = range-get n m words (b / 64) inside in
      let within : b / 64 < length (range_at n m words) = (let e = range-long n m words (omega arith) in omega arith) in
      let x = bit_or word power in
      let after = set views id (after_mark b (at views id)) in (
        (live, within, known),
        same-race (range_at 0 n words) (range_at 0 n (set words k x)) (set (range_at n m words) (b / 64) (bit_or (slice_index (range_at n m words) (b / 64)) power)) (range_at n m (set words k x))
            (drop (n + m) words) (drop (n + m) (set words k x)) after after
            (sym (range-behind 0 n words k x (omega arith))) (ap (λ w. set (range_at n m words) (b / 64) (bit_or w power)) here ∙ sym (range-in n m words (b / 64) x inside))
            (sym (drop-set-lt (n + m) words k x (omega arith))) refl,
      )

  pub split_is_event : (id : ℕ) → SplitIsEvent start words views id
  split_is_event id share = (share, refl)

  pub join_is_event : (id other : ℕ) → JoinIsEvent start words views id other
  join_is_event id other live live' ne = ((live, live', ne), refl)
