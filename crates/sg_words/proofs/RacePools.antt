-- What follows from the race invariant: few workers, few tickets past a stock, links that differ, and spares that never fill a pool.
use Rattle.std.proofs.Common.{◌≡◌, ℕ, zero, suc, ◌+◌, ◌-◌, ◌<◌, ◌≤◌, ◌≢◌, ⊎_elim, Bool, true, false, ◌&&◌, ◌==◌, List, [], ◌∷◌, length, refl, sym, ap, ◌∙◌, subst, arith}
use Rattle.std.specs.Prelude.{slice_index}
use mathlib.Core.Option.{some}
use mathlib.Core.Logic.{dite}
use native.Mathlib.Decide.{ℕ_discrete, dec_le}
use lib.ListN.{get_elem?}
use Rattle.sg_words.specs.declared.race.Worker.{Worker}
use Rattle.sg_words.specs.Counts.{one, once_below, total, Each, pairs, firsts}
use Rattle.sg_words.specs.RaceMachine.{Setting, Race, nobody, worker, ticket_number}
use Rattle.sg_words.specs.RaceInvariant.{made_at, holds_ticket, held_past, has_made, has_linked, Standing, handed_share, all_shares, Team, links_made, MeetsRaceInvariant}
use Rattle.sg_words.specs.RaceLaws.{FewWorkers, CountIsSmall, TicketStandsOnce, KeyStandsOnce, NewLinksDiffer, SparesNeverFill}
use Rattle.sg_words.proofs.RaceTotals.{total-le, total-add, total-two, le-total, part-of, pair_cases, first_cases, firsts-pair, at_or, at_where}

-- a number of each worker is at most one that each standing worker bounds
pub total-each : (f h : Worker → ℕ) (ws : List Worker) → Each (λ v. f v ≤ h v) ws → total f ws ≤ total h ws
total-each f h [] le = omega arith
total-each f h (v ∷ vs) le = let a = le zero v refl in let b = total-each f h vs (λ id x e. le (suc id) x e) in omega arith

each-stands : (F : Worker → Type 0) (ws : List Worker) → Team ws → F nobody → ((v : Worker) → Standing v → F v) → Each F ws
each-stands F ws k none one id v at = ⊎_elim (λ e. subst F (sym e) none) (λ st. one v st) (k.each id v at)

shares-few : (ws : List Worker) → all_shares ws ≤ 16
shares-few [] = omega arith
shares-few (v ∷ vs) = omega arith

pub sizes-few : (ws : List Worker) → Team ws → total (λ v. v.size) ws ≤ 16
sizes-few ws k =
    let le = total-each (λ v. v.size) handed_share ws (each-stands (λ v. v.size ≤ handed_share v) ws k (omega arith) (λ v st. let a = st.share in let b = st.size in omega arith)) in
    let few = shares-few ws in let all = k.shares in omega arith

pub few_workers : (g : Setting) (s : Race) → FewWorkers g s
few_workers g s k = let a = sizes-few s.workers k.team in let b = k.team.sizes in omega arith

pub past-few : (ws : List Worker) (l : ℕ) → Team ws → total (λ v. firsts l v.past) ws ≤ 16
past-few ws l k =
    let le = total-each (λ v. firsts l v.past) (λ v. v.size) ws (each-stands (λ v. firsts l v.past ≤ v.size) ws k (omega arith) (λ v st. st.past l)) in
    let few = sizes-few ws k in omega arith

-- ---- counting tickets one by one
unfoldable pub sum_below : (ℕ → ℕ) → ℕ → ℕ
sum_below f zero = 0
sum_below f (suc n) = sum_below f n + f n

pub sum-same : (f h : ℕ → ℕ) (n : ℕ) → ((t : ℕ) → t < n → f t ≡ h t) → sum_below f n ≡ sum_below h n
unfolding sum_below
sum-same f h zero e = refl
sum-same f h (suc n) e = let r = sum-same f h n (λ t b. e t (omega arith)) in let s = e n (omega arith) in omega arith

pub sum-add : (f h : ℕ → ℕ) (n : ℕ) → sum_below (λ t. f t + h t) n ≡ sum_below f n + sum_below h n
unfolding sum_below
sum-add f h zero = refl
sum-add f h (suc n) = let r = sum-add f h n in omega arith

pub sum-zero : (n : ℕ) → sum_below (λ t. 0) n ≡ 0
unfolding sum_below
sum-zero zero = refl
sum-zero (suc n) = let r = sum-zero n in omega arith

-- a number that stands at one place alone counts at most once
sum-never : (x n : ℕ) → n ≤ x → sum_below (λ t. one (true && (x == t))) n ≡ 0
unfolding sum_below
sum-never x zero h = refl
sum-never x (suc n) h = let r = sum-never x n (omega arith) in first_cases (λ k. sum_below (λ t. one (true && (x == t))) n + k ≡ 0) x n (λ e. absurd (omega arith)) (λ _. omega arith)

sum-once : (x n : ℕ) → sum_below (λ t. one (true && (x == t))) n ≤ 1
unfolding sum_below
sum-once x zero = omega arith
sum-once x (suc n) = let r = sum-once x n in first_cases (λ k. sum_below (λ t. one (true && (x == t))) n + k ≤ 1) x n (λ e. let z = sum-never x n (omega arith) in omega arith) (λ _. omega arith)

sum-one : (x n : ℕ) (b : Bool) → sum_below (λ t. one (b && (x == t))) n ≤ one b
unfolding sum_below
sum-one x n true = sum-once x n
sum-one x n false = let z = sum-zero n in omega arith

-- the tickets that stand in a list are at most its pairs that begin so
pub spread : (p : ℕ × ℕ → Bool) (xs : List (ℕ × ℕ)) (n : ℕ) → sum_below (λ t. total (λ x. one (p x && (x.1 == t))) xs) n ≤ total (λ x. one (p x)) xs
unfolding sum_below
spread p [] n = let z = sum-zero n in omega arith
spread p (x ∷ xs) n =
    let a = sum-add (λ t. one (p x && (x.1 == t))) (λ t. total (λ x. one (p x && (x.1 == t))) xs) n in
    let b = spread p xs n in let c = sum-one x.1 n (p x) in omega arith

pub sum-total : (f : ℕ → Worker → ℕ) (ws : List Worker) (n : ℕ) → sum_below (λ t. total (f t) ws) n ≡ total (λ v. sum_below (λ t. f t v) n) ws
unfolding sum_below
sum-total f [] n = sum-zero n
sum-total f (v ∷ vs) n = let a = sum-add (λ t. f t v) (λ t. total (f t) vs) n in let b = sum-total f vs n in omega arith

-- numbers from a to below b, of those below n
pub sum-range : (a b n : ℕ) → b ≤ n → sum_below (λ t. once_below t b - once_below t a) n ≡ b - a
unfolding sum_below
sum-range a b zero h = omega arith
sum-range a b (suc n) h = dite (dec_le b n)
    (λ le. let r = sum-range a b n le in omega arith)
    (λ gt. let e : b ≡ suc n = omega arith in
    let r = sum-range a n n (omega arith) in
    let s : sum_below (λ t. once_below t b - once_below t a) n ≡ sum_below (λ t. once_below t n - once_below t a) n = sum-same (λ t. once_below t b - once_below t a) (λ t. once_below t n - once_below t a) n (λ t under. omega arith) in
    omega arith)

pub count_is_small : (g : Setting) (s : Race) (l : ℕ) → CountIsSmall g s l
unfolding sum_below
count_is_small g s l k =
    let count = slice_index s.counts l in
    let limit = length (g.stock l) in
    let a = sum-range limit count count (omega arith) in
    let b = sum-same (λ t. total (held_past l t) s.workers) (λ t. once_below t count - once_below t limit) count (λ t _. k.tickets.beyond l t) in
    let c = sum-total (held_past l) s.workers count in
    let d = total-le (λ v. sum_below (λ t. held_past l t v) count) (λ (v : Worker). firsts l v.past) s.workers (λ v. spread (λ x. x.0 == l) v.past count) in
    let e = past-few s.workers l k.team in omega arith

-- ---- one ticket, one worker
pub ticket_stands_once : (g : Setting) (s : Race) (l t : ℕ) → TicketStandsOnce g s l t
ticket_stands_once g s l t k below =
    let f = holds_ticket g.node l t in
    let one' : total f s.workers ≡ 1 = (let w = k.tickets.within l t in omega arith) in
    let p = part-of f s.workers (omega arith) in
    let is : worker s p.0 ≡ p.1 = at_or s.workers p.0 nobody p.1 p.2 in
    let le = le-total f s.workers p.0 p.1 p.2 in
    let has = p.3 in
    (p.0, ap f is ∙ omega arith, λ w ne. other f s w p.0 p.1 ne p.2 refl (omega arith) one' has)
  where
    other : (f : Worker → ℕ) (s : Race) (w id : ℕ) (v : Worker) → w ≢ id → get_elem? s.workers id ≡ some v → f nobody ≡ 0 → f v ≡ 1 → total f s.workers ≡ 1 → 0 < f v → f (worker s w) ≡ 0
    other f s w id v ne at none one' all has = dite (ℕ_discrete (f (worker s w)) 0) (λ e. e)
        (λ full.
        let at' = at_where (λ (u : Worker). 0 < f u) s.workers w nobody (λ h. omega arith) (omega arith) in
        let two = total-two f s.workers w id (worker s w) v ne at' at in absurd (omega arith))

pub key_stands_once : (g : Setting) (s : Race) (k' i j : ℕ) → KeyStandsOnce g s k' i j
key_stands_once g s k' i j k a b is is' = dite (ℕ_discrete i j) (λ e. e) (λ ne. dite (dec_le i j)
    (λ le. let none = (k.keys.probed k' j i b is' (omega arith)).1 in absurd (none is))
    (λ gt. let none = (k.keys.probed k' i j a is (omega arith)).1 in absurd (none is')))

-- ---- links
-- a ticket with which a link was made is held
pub made-held : (g : Setting) (i t : ℕ) (ws : List Worker) → total (has_made i t) ws ≤ total (holds_ticket g.node (g.node i) t) ws
made-held g i t ws = total-le (has_made i t) (holds_ticket g.node (g.node i) t) ws (λ v.
    let le = total-le (λ (x : ℕ × ℕ). one ((x.0 == i) && (x.1 == t))) (λ (x : ℕ × ℕ). one ((g.node x.0 == g.node i) && (x.1 == t))) v.made
    (λ x. pair_cases (λ n. n ≤ one ((g.node x.0 == g.node i) && (x.1 == t))) x.0 x.1 i t
    (λ e e'. pair_cases (λ n. 1 ≤ n) (g.node x.0) x.1 (g.node i) t (λ _ _. omega arith) (λ miss. absurd (miss (ap g.node e) e'))) (λ _. omega arith)) in omega arith)

-- a new link was made by a worker with a ticket of the stock
pub made-ticket : (g : Setting) (s : Race) (i : ℕ) → MeetsRaceInvariant g s → slice_index g.slots i ≡ 0 → 0 < slice_index s.slots i
    → (t : ℕ) × (0 < total (has_made i t) s.workers) × (slice_index s.slots i ≡ ticket_number g (g.node i) t + 1) × (t < length (g.stock (g.node i)))
made-ticket g s i k start full =
    let linked : 0 < total (has_linked i) s.workers = dite (ℕ_discrete (total (has_linked i) s.workers) 0) (λ e. absurd (let z = k.links.bare i start e in omega arith)) (λ ne. omega arith) in
    let p = part-of (has_linked i) s.workers linked in
    let q = firsts-pair i p.1.made p.3 in
    let le = le-total (has_made i q.0) s.workers p.0 p.1 p.2 in
    let has = q.1 in
    let more : 0 < total (has_made i q.0) s.workers = omega arith in
    let m = k.links.made i q.0 more in
    let w = k.tickets.within (g.node i) q.0 in
    let held = made-held g i q.0 s.workers in
    (q.0, more, m.2, omega arith)

-- two slots of a node aren't linked by one ticket
made-apart : (g : Setting) (s : Race) (i j t : ℕ) → MeetsRaceInvariant g s → i ≢ j → g.node i ≡ g.node j → 0 < total (has_made i t) s.workers → 0 < total (has_made j t) s.workers → ⊥
made-apart g s i j t k ne same a b =
    let l = g.node i in
    let w = k.tickets.within l t in
    let sum = total-add (has_made i t) (has_made j t) s.workers in
    let le = total-le (λ v. has_made i t v + has_made j t v) (holds_ticket g.node l t) s.workers (λ v. both v.made v) in omega arith
  where
    both : (xs : List (ℕ × ℕ)) (v : Worker) → has_made i t v + has_made j t v ≤ holds_ticket g.node (g.node i) t v
    both xs v =
        let sum = total-add (λ (x : ℕ × ℕ). one ((x.0 == i) && (x.1 == t))) (λ (x : ℕ × ℕ). one ((x.0 == j) && (x.1 == t))) v.made in
        let le = total-le (λ (x : ℕ × ℕ). one ((x.0 == i) && (x.1 == t)) + one ((x.0 == j) && (x.1 == t))) (λ (x : ℕ × ℕ). one ((g.node x.0 == g.node i) && (x.1 == t))) v.made
        (λ x. pair_cases (λ n. n + one ((x.0 == j) && (x.1 == t)) ≤ one ((g.node x.0 == g.node i) && (x.1 == t))) x.0 x.1 i t
        (λ e e'. pair_cases (λ n. 1 + n ≤ one ((g.node x.0 == g.node i) && (x.1 == t))) x.0 x.1 j t (λ e'' _. absurd (ne (sym e ∙ e'')))
        (λ _. pair_cases (λ n. 1 + 0 ≤ n) (g.node x.0) x.1 (g.node i) t (λ _ _. omega arith) (λ miss. absurd (miss (ap g.node e) e'))))
        (λ _. pair_cases (λ n. 0 + n ≤ one ((g.node x.0 == g.node i) && (x.1 == t))) x.0 x.1 j t
        (λ e e'. pair_cases (λ n. 0 + 1 ≤ n) (g.node x.0) x.1 (g.node i) t (λ _ _. omega arith) (λ miss. absurd (miss (ap g.node e ∙ sym same) e')))
        (λ _. omega arith))) in omega arith

pub new_links_differ : (g : Setting) (s : Race) (i j : ℕ) → NewLinksDiffer g s i j
new_links_differ g s i j k fresh start full same is =
    let a = made-ticket g s i k start full in
    dite (ℕ_discrete (slice_index g.slots j) 0)
    (λ start'.
    let b = made-ticket g s j k start' (omega arith) in
    let below' : b.0 < length (g.stock (g.node i)) = subst (λ l. b.0 < length (g.stock l)) (sym same) b.3 in
    let word' : slice_index s.slots j ≡ ticket_number g (g.node i) b.0 + 1 = subst (λ l. slice_index s.slots j ≡ ticket_number g l b.0 + 1) (sym same) b.2 in
    let word = a.2 in
    let one' : a.0 ≡ b.0 = fresh.distinct a.0 b.0 a.3 below' (omega arith) in
    dite (ℕ_discrete i j) (λ e. e) (λ ne. absurd (made-apart g s i j a.0 k ne same a.1 (subst (λ t. 0 < total (has_made j t) s.workers) (sym one') b.1))))
    (λ old. absurd (let stay = k.slots_stay.1 j (omega arith) in let word = a.2 in let not' = fresh.unlinked a.0 j a.3 (sym same) in not' (sym stay ∙ sym is ∙ word)))

-- ---- spares never fill a pool
held-le : (g : Setting) (l n : ℕ) (v : Worker) → sum_below (λ t. holds_ticket g.node l t v) n ≤ links_made g.node l v + (firsts l v.spare + firsts l v.left)
unfolding sum_below
held-le g l n v =
    let a = sum-add (λ t. made_at g.node l t v.made) (λ t. pairs l t v.spare + pairs l t v.left) n in
    let b = sum-add (λ t. pairs l t v.spare) (λ t. pairs l t v.left) n in
    let c = spread (λ x. g.node x.0 == l) v.made n in
    let d = spread (λ x. x.0 == l) v.spare n in
    let e = spread (λ x. x.0 == l) v.left n in omega arith

pub spares_never_fill : (g : Setting) (s : Race) (l c : ℕ) → SparesNeverFill g s l c
unfolding sum_below
spares_never_fill g s l c k room past =
    let count = slice_index s.counts l in
    let limit = length (g.stock l) in
    let p = part-of (λ (v : Worker). firsts l v.past) s.workers past in
    let q = firsts-pair l p.1.past p.3 in
    let at = le-total (held_past l q.0) s.workers p.0 p.1 p.2 in
    let has = q.1 in
    let drawn = k.tickets.beyond l q.0 in
    let over : limit < count = omega arith in
    let a = sum-range 0 limit limit (omega arith) in
    let b = sum-same (λ t. total (holds_ticket g.node l t) s.workers) (λ t. once_below t limit - once_below t 0) limit (λ t under. let w = k.tickets.within l t in omega arith) in
    let d = sum-total (holds_ticket g.node l) s.workers limit in
    let e = total-le (λ v. sum_below (λ t. holds_ticket g.node l t v) limit) (λ v. links_made g.node l v + (firsts l v.spare + firsts l v.left)) s.workers (held-le g l limit) in
    let f = total-add (links_made g.node l) (λ (v : Worker). firsts l v.spare + firsts l v.left) s.workers in
    let h = total-each (λ (v : Worker). firsts l v.spare + firsts l v.left) (λ v. v.size) s.workers
    (each-stands (λ v. firsts l v.spare + firsts l v.left ≤ v.size) s.workers k.team (omega arith) (λ v st. let x = st.spare l in let y = st.left l in omega arith)) in
    let few = sizes-few s.workers k.team in
    let tally = k.tally l in omega arith
