-- What the closed table gives the last seat: its slots are those of the one node of a race, all words from 0 on.
use Rattle.std.proofs.Common.{◌≡◌, ℕ, zero, suc, ◌+◌, ◌<◌, Bool, true, nat_lt, List, [], ◌∷◌, length, take, drop, refl, sym, ap, ◌∙◌, subst, arith}
use Rattle.std.specs.Prelude.{slice_index}
use Rattle.std.proofs.lemmas.List.{length-take}
use Rattle.std.proofs.lemmas.Bool.Decides.{nat_tests}
use mathlib.Core.Option.{some}
use mathlib.Core.Logic.{dite}
use native.Mathlib.Decide.{ℕ_discrete}
use lib.ListN.{get_elem?}
use Rattle.sg_words.specs.declared.race.Worker.{Worker}
use Rattle.sg_words.specs.Counts.{pairs, firsts}
use Rattle.sg_words.specs.RaceInvariant.{handed_share, has_seen, has_made}
use Rattle.sg_words.specs.RaceLaws.{IsFreshSetting}
use Rattle.sg_words.specs.Stocks.{IsFreshStock, is_dry, Settled}
use Rattle.sg_words.specs.SlotRaces.{slot_race}
use Rattle.sg_words.specs.Ranges.{range_at}
use Rattle.sg_words.specs.steps.SlotSteps.{Ended}
use Rattle.sg_words.proofs.Uses.{last-word, kept_as, le-total, take-all}
use Rattle.sg_pointer.specs.declared.rule.Start.{Start}
use Rattle.sg_pointer.specs.PointerRace.{setting_of, Racing}
use Rattle.sg_pointer.specs.RangeSettled.{IsRangeOf, IsLast, IsSettledNode}
use Rattle.sg_pointer.proofs.RangeEnds.{ends_settled}

pub ended : (key start : Start) (words : List ℕ) (views : List Worker) (id : ℕ) (v : Worker) (links : List ℕ) (n count : ℕ) → key ≡ start → Racing key words views → get_elem? views id ≡ some v
    → links ≡ take n words → n ≡ length start.links → get_elem? words (length links) ≡ some count → Ended (setting_of start) v links [] count
ended key start words views id v links n count is racing at front size last =
    let r : Racing start words views = subst (λ k. Racing k words views) is racing in
    let wide = r.wide in
    let long : length links ≡ length start.links = ap length front ∙ (let e = length-take n words in omega arith) in
    let front' : take (length start.links) words ≡ links = ap (λ k. take k words) (sym size) ∙ sym front in
    let last' : drop (length start.links) words ≡ count ∷ [] = last-word words (length start.links) count r.wide (subst (λ k. get_elem? words k ≡ some count) long last) in
    (views, id, kept_as (setting_of start) (take (length start.links) words) links [] [] (drop (length start.links) words) (count ∷ []) views front' refl last' r.kept, at)

-- ---- the slots of a pass are the range of its one node
-- an item that isn't 0 stands before the end
before_end : (words : List ℕ) (i : ℕ) → 0 < slice_index words i → i < length words
before_end [] i some' = absurd (omega arith)
before_end (w ∷ ws) zero some' = omega arith
before_end (w ∷ ws) (suc i) some' = let r = before_end ws i some' in omega arith

-- a range from 0 on that is a whole list, if nothing was seen or made behind its end
whole_range : (old stock : List ℕ) (v : Worker) (new : List ℕ) (dry : Bool) → IsSettledNode old stock 0 0 v new → ((i n : ℕ) → 0 < pairs i n v.seen → i < length old)
    → ((i t : ℕ) → 0 < pairs i t v.made → i < length old) → dry ≡ is_dry v → Settled old stock v new dry
whole_range old stock v new dry r seen-inside made-inside is =
    let front : (i : ℕ) → 0 + i ≡ i = (λ i. omega arith) in
    let inside : (i : ℕ) → 0 < slice_index new i → i < length old = (λ i full. let e = before_end new i full in let l = r.long in omega arith) in
    record {
      long = r.long;
      stay = λ i full. r.stay i (before_end old i full) full;
      seen = λ i n has. r.seen i n (seen-inside i n has) (subst (λ j. 0 < pairs j n v.seen) (sym (front i)) has);
      made = λ i t has. r.made i t (made-inside i t has) (subst (λ j. 0 < pairs j t v.made) (sym (front i)) has);
      bare = λ i empty none. dite (ℕ_discrete (slice_index new i) 0) (λ e. e)
          (λ full. r.bare i (inside i (omega arith)) empty (ap (λ j. firsts j v.made) (front i) ∙ none));
      of_stock = λ i empty full. r.of_stock i (inside i full) empty full;
      once = λ i j empty full same. r.once i j (inside i full) (inside j (omega arith)) empty full same;
      ran_dry = is;
      filled = λ c room ran. (let past : 0 < firsts 0 v.past = (let h : nat_lt 0 (firsts 0 v.past) ≡ true = sym is ∙ ran in grind (arith, nat_tests)) in r.filled c room past);
    }

pub settled : (start : Start) (v : Worker) (links : List ℕ) (count : ℕ) (dry : Bool) → IsFreshStock start.links start.stock → handed_share v ≡ 16 → length links ≡ length start.links
    → Ended (setting_of start) v links [] count → dry ≡ is_dry v → Settled start.links start.stock v links dry
settled start v links count dry fresh all long end is =
    let g = setting_of start in
    let s = slot_race links [] (count ∷ []) end.0 in
    let n = length start.links in
    let last : IsLast g s v = record { kept = end.2; id = end.1; stands = end.3; all = all } in
    let range : IsRangeOf g 0 0 n = record { inside = λ i _. refl; alone = λ i below _. (omega arith, omega arith) } in
    let fresh' : IsFreshSetting g 0 = record { distinct = fresh.distinct; unlinked = λ t i below _. fresh.unlinked t i below } in
    let r = ends_settled g s v 0 0 n last range fresh' (omega arith) in
    let node : IsSettledNode start.links start.stock 0 0 v links =
    subst (λ l. IsSettledNode start.links start.stock 0 0 v l) (take-all links n (omega arith)) (subst (λ l. IsSettledNode l start.stock 0 0 v (range_at 0 n links)) (take-all start.links n (omega arith)) r) in
    whole_range start.links start.stock v links dry node
    (λ i m has. (let le = le-total (has_seen i m) end.0 end.1 v end.3 in let there = end.2.seen i m (omega arith) in let e = before_end links i (omega arith) in omega arith))
    (λ i t has. (let le = le-total (has_made i t) end.0 end.1 v end.3 in let there = end.2.links.made i t (omega arith) in let e = there.1 in omega arith)) is
