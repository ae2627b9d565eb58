-- Atomic steps as events: a load of a slot, an exchange on it; and what the last worker knows when all others were joined.
use Rattle.std.proofs.Common.{◌≡◌, ℕ, zero, suc, ◌+◌, ◌-◌, ◌<◌, ◌≤◌, ◌≢◌, ⊎_elim, Bool, true, false, cond, ◌==◌, List, [], ◌∷◌, length, set, refl, sym, ap, ◌∙◌, subst, arith}
use Rattle.std.specs.Prelude.{slice_index}
use Rattle.std.proofs.lemmas.List.{set-get_or}
use Rattle.std.proofs.lemmas.Bool.Decides.{nat_tests}
use mathlib.Core.Option.{some, some-injective, some-ne-none}
use prog.Atomic.{either}
use lib.ListN.{get_elem?}
use Rattle.sg_words.specs.declared.race.Worker.{Worker}
use Rattle.sg_words.specs.Counts.{total, pairs}
use Rattle.sg_words.specs.RaceMachine.{Setting, Race, nobody, ticket_number, KnowsContainer, after_see, after_miss, after_link}
use Rattle.sg_words.specs.RaceInvariant.{Standing, Team, handed_share, MeetsRaceInvariant}
use Rattle.sg_words.specs.steps.RaceSteps.{after_look, after_try}
use Rattle.sg_words.proofs.RaceTotals.{total-two}
use Rattle.sg_words.proofs.RaceSteps.{kept-see, kept-miss, kept-link}

-- a word that was found: empty or full
pub found_case : {A : Type 0} (P : A → Type 0) (word : ℕ) (empty full : A) → (word ≡ 0 → P empty) → (word ≢ 0 → P full) → P (cond (word == 0) empty full)
found_case {A} P word empty full e f = go (word == 0) refl
  where
    go : (b : Bool) → (word == 0) ≡ b → P (cond b empty full)
    go true h = e (grind (arith, nat_tests))
    go false h = f (λ z. grind (arith, nat_tests))

pub kept-look : (g : Setting) (s : Race) (id : ℕ) (v : Worker) (i : ℕ) → get_elem? s.workers id ≡ some v → Standing v → MeetsRaceInvariant g s
    → MeetsRaceInvariant g (record s { workers = set s.workers id (after_look i (slice_index s.slots i) v) })
kept-look g s id v i at st k = found_case (λ w. MeetsRaceInvariant g (record s { workers = set s.workers id w })) (slice_index s.slots i) (after_miss i v) (after_see i (slice_index s.slots i - 1) v)
    (λ _. kept-miss g s id v i at st k) (λ full. kept-see g s id v i at st full k)

pub kept-try : (g : Setting) (s : Race) (id : ℕ) (v : Worker) (i t : ℕ) → get_elem? s.workers id ≡ some v → Standing v → i < length s.slots
    → 0 < pairs (g.node i) t v.spare → KnowsContainer g v (g.over_slot i) → MeetsRaceInvariant g s
    → MeetsRaceInvariant g (record s {
      slots = set s.slots i (either (slice_index s.slots i == 0) (ticket_number g (g.node i) t + 1) (slice_index s.slots i));
      workers = set s.workers id (after_try (g.node i) i t (ticket_number g (g.node i) t) (slice_index s.slots i) v);
    })
kept-try g s id v i t at st below has known k = go (slice_index s.slots i == 0) refl
  where
    go : (b : Bool) → (slice_index s.slots i == 0) ≡ b
        → MeetsRaceInvariant g (record s {
          slots = set s.slots i (either b (ticket_number g (g.node i) t + 1) (slice_index s.slots i));
          workers = set s.workers id (cond b (after_link (g.node i) i t (ticket_number g (g.node i) t) v) (after_see i (slice_index s.slots i - 1) v));
        })
    go true e = let empty : slice_index s.slots i ≡ 0 = grind (arith, nat_tests) in kept-link g s id v i t at st below empty has known k
    go false e =
        let full : slice_index s.slots i ≢ 0 = (λ z. grind (arith, nat_tests)) in
        subst (λ l. MeetsRaceInvariant g (record s { slots = l; workers = set s.workers id (after_see i (slice_index s.slots i - 1) v) })) (sym (set-get_or s.slots i 0))
        (kept-see g s id v i at st full k)

-- ---- the last worker
-- where one worker has all shares, every other was joined, so each sum is its own number
weigh-nothing : (ws : List Worker) (id : ℕ) (v : Worker) → get_elem? ws id ≡ some v → Team ws → handed_share v ≡ 16 → (w : ℕ) (u : Worker) → w ≢ id → get_elem? ws w ≡ some u → u ≡ nobody
weigh-nothing ws id v at k all w u ne at' = ⊎_elim (λ e. e) (λ st. absurd
    (let two = total-two handed_share ws w id u v ne at' at in let some' = st.share in let shares = k.shares in let few = sixteen ws in omega arith)) (k.each w u at')
  where
    sixteen : (ws : List Worker) → Rattle.sg_words.specs.RaceInvariant.all_shares ws ≤ 16
    sixteen [] = omega arith
    sixteen (v ∷ vs) = omega arith

total-none : (f : Worker → ℕ) (ws : List Worker) → ((w : ℕ) (u : Worker) → get_elem? ws w ≡ some u → f u ≡ 0) → total f ws ≡ 0
total-none f [] none = refl
total-none f (x ∷ xs) none = let a = none zero x refl in let b = total-none f xs (λ w u e. none (suc w) u e) in omega arith

total-alone : (f : Worker → ℕ) (ws : List Worker) (id : ℕ) (v : Worker) → get_elem? ws id ≡ some v → ((w : ℕ) (u : Worker) → w ≢ id → get_elem? ws w ≡ some u → f u ≡ 0) → total f ws ≡ f v
total-alone f [] id v at none = absurd (some-ne-none v (sym at))
total-alone f (x ∷ xs) zero v at none =
    let is : f x ≡ f v = ap f (some-injective x v at) in
    let rest = total-none f xs (λ w u e. none (suc w) u (λ h. omega arith) e) in omega arith
total-alone f (x ∷ xs) (suc id) v at none =
    let a = none zero x (λ h. omega arith) refl in
    let rest = total-alone f xs id v at (λ w u ne e. none (suc w) u (λ h. ne (omega arith)) e) in omega arith

pub alone : (f : Worker → ℕ) (ws : List Worker) (id : ℕ) (v : Worker) → get_elem? ws id ≡ some v → Team ws → handed_share v ≡ 16 → f nobody ≡ 0 → total f ws ≡ f v
alone f ws id v at k all none = total-alone f ws id v at (λ w u ne at'. ap f (weigh-nothing ws id v at k all w u ne at') ∙ none)
