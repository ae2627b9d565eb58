-- Each move of a seat of a pass over lengths keeps the rule: it is one event of the race machine.
use Rattle.std.proofs.Common.{◌≡◌, ℕ, zero, suc, ◌+◌, ◌<◌, ◌≤◌, inl, max, List, [], ◌∷◌, length, set, take, refl, sym, ap, ◌∙◌, subst, arith}
use mathlib.Core.Option.{some, none, some-injective, some-ne-none}
use lib.ListN.{get_elem?}
use Rattle.atomic_table.specs.Table.{State, Me, step, keeps, Allows, Splits, Joins}
use Rattle.sg_words.specs.declared.race.Worker.{Worker}
use Rattle.sg_words.specs.Counts.{total, greatest}
use Rattle.sg_words.specs.RaceMachine.{nobody, after_split, other_half, after_join, after_raise}
use Rattle.sg_words.specs.RaceInvariant.{handed_share, raised_to}
use Rattle.sg_words.proofs.Uses.{kept-raise, kept-enrol, kept-join, stands, set_other_at, alone}
use Rattle.sg_dynamic.specs.LengthRace.{setting_of, race_of, Racing, raises}
use Rattle.sg_dynamic.specs.Raising.{AreRaised}

abbrev pub Holds : List ℕ → State (Unit {0}) Worker → Type 0
Holds start s = Racing start s.words s.views

raises-at : (start : List ℕ) (slots id : ℕ) (me : Me (Unit {0}) Worker) (q i : ℕ) → 0 < me.0.share → q < length start
    → Allows (Holds start) slots id me q (λ n. max n (i + 1)) (raises (step slots q (i + 1) 0 none) me)
raises-at start slots id me q i live inside s r _ at _ =
    let st = stands s.views id me.0 r.kept.team at live in
    let within : q < length s.words = subst (λ n. q < n) (sym r.kept.lengths.0) inside in (
      after_raise q i me.0,
      keeps,
      tt,
      record { kept = kept-raise (setting_of start) (race_of s.words s.views) id me.0 q i at st within (inl refl) r.kept },
      λ j long. (let same : i ≡ j = omega arith in ap (λ j. (after_raise q j me.0, me.1)) same),
    )

pub raise-allowed : (start : List ℕ) (key : List ℕ) (slots id : ℕ) (me : Me (Unit {0}) Worker) (q i long : ℕ) → key ≡ start → 0 < me.0.share → q < length start → long ≡ i + 1
    → Allows (Holds key) slots id me q (λ n. max n long) (raises (step slots q long 0 none) me)
raise-allowed start key slots id me q i long told live inside e =
    subst (λ k. Allows (Holds k) slots id me q (λ n. max n long) (raises (step slots q long 0 none) me)) (sym told)
    (subst (λ k. Allows (Holds start) slots id me q (λ n. max n k) (raises (step slots q k 0 none) me)) (sym e) (raises-at start slots id me q i live inside))

pub split-allowed : (start : List ℕ) (id : ℕ) (v : Worker) → 2 ≤ v.share → Splits (Holds start) id v (after_split v) (other_half v)
split-allowed start id v share s r at =
    record { kept = kept-enrol (setting_of start) (race_of s.words s.views) id v at (stands s.views id v r.kept.team at (omega arith)) share r.kept }

pub join-allowed : (start : List ℕ) (id : ℕ) (v : Worker) (other : ℕ) (w : Worker) → 0 < v.share → 0 < w.share → Joins (Holds start) id v other w (after_join v w) nobody
join-allowed start id v other w live live' s r at ne at' =
    let there : get_elem? s.views other ≡ some w = sym (set_other_at s.views id other (after_join v w) ne) ∙ at' in
    record { kept = kept-join (setting_of start) (race_of s.words s.views) id other v w ne at there (stands s.views id v r.kept.team at live) (stands s.views other w r.kept.team there live') (λ a x y. refl) r.kept }

-- ---- the closed table
copied-suc : (words from : List ℕ) (i x : ℕ) → i < length words → take i words ≡ take i from → get_elem? from i ≡ some x → take (suc i) (set words i x) ≡ take (suc i) from
copied-suc [] from i x below e at = absurd (omega arith)
copied-suc (y ∷ ys) [] i x below e at = absurd (some-ne-none x (sym at))
copied-suc (y ∷ ys) (w ∷ ws) zero x below e at = ap (λ (a : ℕ). a ∷ []) (sym (some-injective w x at))
copied-suc (y ∷ ys) (w ∷ ws) (suc i) x below e at =
    let head : y ≡ w = (cc) in
    let tail : take i ys ≡ take i ws = (cc) in
    ap (λ (a : ℕ). a ∷ take (suc i) (set ys i x)) head ∙ ap (λ l. w ∷ l) (copied-suc ys ws i x (omega arith) tail at)

pub copied : (words from : List ℕ) (i x : ℕ) → i < length words → take i words ≡ take i from → get_elem? from i ≡ some x → take (i + 1) (set words i x) ≡ take (i + 1) from
copied words from i x below e at =
    let next : suc i ≡ i + 1 = omega arith in
    subst (λ n. take n (set words i x) ≡ take n from) next (copied-suc words from i x below e at)

take-whole : (xs : List ℕ) (n : ℕ) → length xs ≡ n → take n xs ≡ xs
take-whole [] zero e = refl
take-whole [] (suc n) e = refl
take-whole (x ∷ xs) zero e = absurd (omega arith)
take-whole (x ∷ xs) (suc n) e = ap (λ l. x ∷ l) (take-whole xs n (omega arith))

pub copied-all : (words from : List ℕ) (n : ℕ) → take n words ≡ take n from → length words ≡ n → length from ≡ n → words ≡ from
copied-all words from n e a b = sym (take-whole words n a) ∙ e ∙ take-whole from n b

-- ---- the greatest over workers, of whom one alone has anything
greatest-le : (f : Worker → ℕ) (ws : List Worker) → greatest f ws ≤ total f ws
greatest-le f [] = omega arith
greatest-le f (x ∷ xs) = let r = greatest-le f xs in omega arith

le-greatest : (f : Worker → ℕ) (ws : List Worker) (id : ℕ) (v : Worker) → get_elem? ws id ≡ some v → f v ≤ greatest f ws
le-greatest f [] id v at = absurd (some-ne-none v (sym at))
le-greatest f (x ∷ xs) zero v at = let is : f x ≡ f v = ap f (some-injective x v at) in omega arith
le-greatest f (x ∷ xs) (suc id) v at = let r = le-greatest f xs id v at in omega arith

pub are_raised : (key start : List ℕ) (words : List ℕ) (views : List Worker) (id : ℕ) (v : Worker) (lengths : List ℕ) → key ≡ start → Racing key words views → get_elem? views id ≡ some v
    → handed_share v ≡ 16 → lengths ≡ words → AreRaised start v.raised lengths
are_raised key start words views id v lengths told racing at all is =
    let r : Racing start words views = subst (λ k. Racing k words views) told racing in
    subst (λ l. AreRaised start v.raised l) (sym is) (record {
      long = r.kept.lengths.0;
      lengths = λ q.
          (let mine = alone (raised_to q) views id v at r.kept.team all refl in
          let low = le-greatest (raised_to q) views id v at in
          let high = greatest-le (raised_to q) views in
          let old = r.kept.lengths.1 q in omega arith);
    })
