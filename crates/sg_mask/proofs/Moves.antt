-- Each move of a seat keeps the rule: it is one event of the race machine.
use Rattle.std.proofs.Common.{◌≡◌, ℕ, ◌+◌, ◌/◌, ◌%◌, ◌^◌, ◌<◌, ◌≤◌, inl, List, length, set, take, refl, sym, ap, ◌∙◌, subst, arith}
use Rattle.std.specs.Prelude.{slice_index, bit_or}
use Rattle.std.specs.Int.{bit_at}
use Rattle.std.proofs.lemmas.List.{length-set}
use Rattle.std.proofs.lemmas.Nat.Bits.{bit_at-pow_same, bit_at-pow_other}
use mathlib.Core.Option.{some, none}
use mathlib.Core.Logic.{dite}
use native.Mathlib.Decide.{ℕ_discrete}
use lib.ListN.{get_elem?}
use Rattle.atomic_table.specs.Table.{State, Me, step, keeps, Allows, Splits, Joins}
use Rattle.sg_words.specs.declared.race.Worker.{Worker}
use Rattle.sg_words.specs.RaceMachine.{nobody, after_split, other_half, after_join, after_mark}
use Rattle.sg_words.specs.RaceInvariant.{MeetsRaceInvariant, handed_share, has_marked}
use Rattle.sg_words.proofs.Uses.{kept-enrol, kept-join, stands, set_other_at, alone, take-all}
use Rattle.sg_mask.specs.MaskRace.{setting_of, race_of, Racing, marks}
use Rattle.sg_mask.specs.Marking.{AreMarked}
use Rattle.sg_words.specs.Ranges.{IsAtWork}
use Rattle.sg_mask.proofs.RangeSteps.{mark_keeps}

abbrev pub Holds : List ℕ → State (Unit {0}) Worker → Type 0
Holds start s = Racing start s.words s.views

-- two equal powers of two have one exponent
one_power : (i j : ℕ) → 2 ^ i ≡ 2 ^ j → i ≡ j
one_power i j e = dite (ℕ_discrete i j) (λ h. h) (λ ne. absurd
    (let a = bit_at-pow_same i in
    let b = bit_at-pow_other j i ne in
    let c : bit_at (2 ^ i) i ≡ bit_at (2 ^ j) i = ap (λ n. bit_at n i) e in omega arith))

marks-at : (start : List ℕ) (slots id : ℕ) (me : Me (Unit {0}) Worker) (b : ℕ) → 0 < me.0.share → b / 64 < length start
    → Allows (Holds start) slots id me (b / 64) (λ n. bit_or n (2 ^ (b % 64))) (marks (step slots (b / 64) (2 ^ (b % 64)) 0 none) me)
marks-at start slots id me b live inside s r _ at _ =
    let n = length s.words in
    let within : b / 64 < n = subst (λ n. b / 64 < n) (sym r.kept.bits.0) inside in
    let front : 0 + b / 64 ≡ b / 64 = omega arith in
    let x = bit_or (slice_index s.words (b / 64)) (2 ^ (b % 64)) in
    let work : IsAtWork (setting_of start) (race_of s.words s.views) id me.0 = record { kept = r.kept; stands = at; share = live } in
    let kept = subst (λ j. MeetsRaceInvariant (setting_of start) (race_of (take n (set s.words j (bit_or (slice_index s.words j) (2 ^ (b % 64))))) (set s.views id (after_mark b me.0)))) front
    (mark_keeps (setting_of start) (race_of s.words s.views) id me.0 s.words 0 b work (sym (take-all s.words n (omega arith))) within (inl refl)) in (
      after_mark b me.0,
      keeps,
      tt,
      record { kept = subst (λ l. MeetsRaceInvariant (setting_of start) (race_of l (set s.views id (after_mark b me.0)))) (take-all (set s.words (b / 64) x) n (let e = length-set s.words (b / 64) x in omega arith)) kept },
      λ c word power. (let same : b ≡ c = (let rest = one_power (b % 64) (c % 64) power in omega arith) in ap (λ c. (after_mark c me.0, me.1)) same),
    )

pub mark-allowed : (start : List ℕ) (key : List ℕ) (slots id : ℕ) (me : Me (Unit {0}) Worker) (b i power : ℕ) → key ≡ start → 0 < me.0.share → b / 64 < length start → i ≡ b / 64 → power ≡ 2 ^ (b % 64)
    → Allows (Holds key) slots id me i (λ n. bit_or n power) (marks (step slots i power 0 none) me)
mark-allowed start key slots id me b i power told live inside e e' =
    subst (λ k. Allows (Holds k) slots id me i (λ n. bit_or n power) (marks (step slots i power 0 none) me)) (sym told)
    (subst (λ i. Allows (Holds start) slots id me i (λ n. bit_or n power) (marks (step slots i power 0 none) me)) (sym e)
    (subst (λ p. Allows (Holds start) slots id me (b / 64) (λ n. bit_or n p) (marks (step slots (b / 64) p 0 none) me)) (sym e') (marks-at start slots id me b live inside)))

pub split-allowed : (start : List ℕ) (id : ℕ) (v : Worker) → 2 ≤ v.share → Splits (Holds start) id v (after_split v) (other_half v)
split-allowed start id v share s r at =
    record { kept = kept-enrol (setting_of start) (race_of s.words s.views) id v at (stands s.views id v r.kept.team at (omega arith)) share r.kept }

pub join-allowed : (start : List ℕ) (id : ℕ) (v : Worker) (other : ℕ) (w : Worker) → 0 < v.share → 0 < w.share → Joins (Holds start) id v other w (after_join v w) nobody
join-allowed start id v other w live live' s r at ne at' =
    let there : get_elem? s.views other ≡ some w = sym (set_other_at s.views id other (after_join v w) ne) ∙ at' in
    record { kept = kept-join (setting_of start) (race_of s.words s.views) id other v w ne at there (stands s.views id v r.kept.team at live) (stands s.views other w r.kept.team there live') (λ a x y. refl) r.kept }

-- ---- the closed table
pub copied-all : (words from : List ℕ) (n : ℕ) → take n words ≡ take n from → length words ≡ n → length from ≡ n → words ≡ from
copied-all words from n e a b = sym (take-all words n (omega arith)) ∙ e ∙ take-all from n (omega arith)

pub are_marked : (key start : List ℕ) (words : List ℕ) (views : List Worker) (id : ℕ) (v : Worker) (masks : List ℕ) → key ≡ start → Racing key words views → get_elem? views id ≡ some v
    → handed_share v ≡ 16 → masks ≡ words → AreMarked start v.marked masks
are_marked key start words views id v masks told racing at all is =
    let r : Racing start words views = subst (λ k. Racing k words views) told racing in
    subst (λ l. AreMarked start v.marked l) (sym is) (record {
      long = r.kept.bits.0;
      bits = λ b. (let mine = alone (has_marked b) views id v at r.kept.team all refl in let old = r.kept.bits.1 b in omega arith);
    })
