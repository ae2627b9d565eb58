-- The invariant holds at the start and after every run, and words only grow.
use Rattle.std.proofs.Common.{◌≡◌, ℕ, zero, suc, ◌+◌, ◌-◌, ◌/◌, ◌%◌, ◌<◌, ◌≤◌, ◌≢◌, ⊎_elim, max, Bool, true, false, cond, ◌==◌, List, [], ◌∷◌, length, set, replicate, refl, sym, ap, ◌∙◌, subst, arith}
use Rattle.std.specs.Prelude.{slice_index}
use Rattle.std.proofs.lemmas.List.{set-get_or}
use Rattle.std.proofs.lemmas.Bool.Decides.{nat_tests}
use Rattle.std.proofs.lemmas.Nat.Bits.{bit_at-lt}
use mathlib.Core.Option.{some, some-ne-none}
use lib.ListN.{get_elem?}
use Rattle.sg_words.specs.declared.race.Worker.{Worker}
use Rattle.sg_words.specs.Counts.{bit_in}
use Rattle.sg_words.specs.RaceMachine.{Setting, Race, Event, first, enrol, draw, see, miss, link, key, mark, raise, add, join, state_after, state_after_all, nobody, worker, ticket_number, MayPut, key_word, after_key_word, after_key, after_key_put}
use Rattle.sg_words.specs.RaceInvariant.{MeetsRaceInvariant}
use Rattle.sg_words.specs.RaceLaws.{StaysLinked, Grows, StartsKept, EventKeeps, RunKeeps}
use Rattle.sg_words.proofs.RaceTotals.{at_where}
use Rattle.sg_words.proofs.RaceParts.{stands}
use Rattle.sg_words.proofs.RaceLinks.{written}
use Rattle.sg_words.proofs.RaceKeys.{bit-mark}
use Rattle.sg_words.proofs.RaceSteps.{kept-first, kept-enrol, kept-draw, kept-see, kept-miss, kept-link, kept-found, kept-put, kept-mark, kept-raise, kept-add, kept-join}

zeros-at : (n i : ℕ) → slice_index (replicate n 0) i ≡ 0
zeros-at zero i = refl
zeros-at (suc n) zero = refl
zeros-at (suc n) (suc i) = zeros-at n i

pub starts_kept : (g : Setting) → StartsKept g
starts_kept g sound = record {
  slots_stay = (refl, λ i h. refl);
  keys_stay = (refl, λ i h. refl);
  tickets = record {
    within = λ l t. (let z = zeros-at g.nodes l in omega arith);
    beyond = λ l t. (let z = zeros-at g.nodes l in omega arith);
  };
  links = record { made = λ i t h. absurd (omega arith); bare = λ i e _. e };
  seen = λ i n h. absurd (omega arith);
  seen_keys = λ i n h. absurd (omega arith);
  team = record { each = λ id v e. absurd (some-ne-none v (sym e)); sizes = refl; shares = refl };
  keys = record { probed = sound.probed; put = λ p k e e'. absurd (omega arith) };
  bits = (refl, λ b. (let s : bit_in g.masks b < 2 = bit_at-lt (slice_index g.masks (b / 64)) (b % 64) in omega arith));
  lengths = (refl, λ q. omega arith);
  cells = (refl, λ c h. refl);
  hanging = sound.hanging;
  tally = λ l. omega arith;
}

-- ---- words that only grow
stays-same : (words : List ℕ) → StaysLinked words words
stays-same words i h = refl

stays-set : (words : List ℕ) (i n : ℕ) → i < length words → slice_index words i ≡ 0 → StaysLinked words (set words i n)
stays-set words i n below empty j full = written words i j n (λ m. m ≡ slice_index words j) below
    (λ e. absurd (let z : slice_index words j ≡ 0 = ap (λ k. slice_index words k) (sym e) ∙ empty in omega arith)) (λ _. refl)

grows-same : (s : Race) (counts cells : List ℕ) (ws : List Worker) → Grows s (record s { counts = counts; cells = cells; workers = ws })
grows-same s counts cells ws = record { slots = λ i h. refl; keys = λ i h. refl; masks = λ b h. refl; lengths = λ q. omega arith }

-- a key word that was found, full or empty
pub key_case : (P : ℕ → Worker → Type 0) (p k word : ℕ) (v : Worker) → (word ≢ 0 → P word (after_key p (word - 1) v)) → (word ≡ 0 → P (k + 1) (after_key_put p k v))
    → P (key_word k word) (after_key_word p k word v)
key_case P p k word v full empty = go (word == 0) refl
  where
    go : (b : Bool) → (word == 0) ≡ b → P (cond b (k + 1) word) (cond b (after_key_put p k v) (after_key p (word - 1) v))
    go true e = empty (grind (arith, nat_tests))
    go false e = full (λ z. grind (arith, nat_tests))

-- a worker with a share stands if it is looked up
found : (s : Race) (v : ℕ) → 0 < (worker s v).share → get_elem? s.workers v ≡ some (worker s v)
found s v h = at_where (λ (w : Worker). 0 < w.share) s.workers v nobody (λ z. omega arith) h

within_full : (words : List ℕ) (p : ℕ) → slice_index words p ≢ 0 → p < length words
within_full [] p h = absurd (h refl)
within_full (x ∷ xs) zero h = omega arith
within_full (x ∷ xs) (suc p) h = let r = within_full xs p h in omega arith

place-below : (n p k : ℕ) (v : Worker) → MayPut n p k v → p < n
place-below n p k v may = let e = may.2 in let below = may.1 in let r : (k + may.0) % n < n = omega arith in omega arith

pub event_keeps : (g : Setting) (s : Race) (e : Event) → EventKeeps g s e
event_keeps g s first sound k needs = (kept-first g s needs k, grows-same s s.counts s.cells _)
event_keeps g s (enrol v) sound k needs =
    let at = found s v (omega arith) in
    (kept-enrol g s v (worker s v) at (stands s.workers v (worker s v) k.team at (omega arith)) needs k, grows-same s s.counts s.cells _)
event_keeps g s (draw v l) sound k needs =
    let at = found s v needs.0 in
    (kept-draw g s v (worker s v) l at (stands s.workers v (worker s v) k.team at needs.0) needs.2 needs.3 needs.1 k, grows-same s _ s.cells _)
event_keeps g s (see v i) sound k needs =
    let at = found s v needs.0 in
    (kept-see g s v (worker s v) i at (stands s.workers v (worker s v) k.team at needs.0) needs.1 k, grows-same s s.counts s.cells _)
event_keeps g s (miss v i) sound k needs =
    let at = found s v needs.0 in
    (kept-miss g s v (worker s v) i at (stands s.workers v (worker s v) k.team at needs.0) k, grows-same s s.counts s.cells _)
event_keeps g s (link v i t) sound k needs =
    let at = found s v needs.0 in (
      kept-link g s v (worker s v) i t at (stands s.workers v (worker s v) k.team at needs.0) needs.1 needs.2 needs.3 needs.4 k,
      record { slots = stays-set s.slots i (ticket_number g (g.node i) t + 1) needs.1 needs.2; keys = λ i h. refl; masks = λ b h. refl; lengths = λ q. omega arith },
    )
event_keeps g s (key v p k') sound k needs =
    let at = found s v needs.0 in
    let st = stands s.workers v (worker s v) k.team at needs.0 in
    let P : ℕ → Worker → Type 0 = λ n w. MeetsRaceInvariant g (record s { keys = set s.keys p n; workers = set s.workers v w }) × Grows s (record s { keys = set s.keys p n; workers = set s.workers v w }) in
    key_case P p k' (slice_index s.keys p) (worker s v)
    (λ full. subst (λ l. MeetsRaceInvariant g (record s { keys = l; workers = set s.workers v (after_key p (slice_index s.keys p - 1) (worker s v)) }) × Grows s (record s { keys = l; workers = set s.workers v (after_key p (slice_index s.keys p - 1) (worker s v)) }))
    (sym (set-get_or s.keys p 0))
    (kept-found g s v (worker s v) p at st full k, grows-same s s.counts s.cells _))
    (λ empty. ⊎_elim (λ full. absurd (full empty))
    (λ may. let below = place-below (length s.keys) p k' (worker s v) may.1 in (
      kept-put g s v (worker s v) p k' at st empty may.1 below k,
      record { slots = λ i h. refl; keys = stays-set s.keys p (k' + 1) below empty; masks = λ b h. refl; lengths = λ q. omega arith },
    )) needs.1)
event_keeps g s (mark v b) sound k needs =
    let at = found s v needs.0 in (
      kept-mark g s v (worker s v) b at (stands s.workers v (worker s v) k.team at needs.0) needs.1 needs.2 k,
      record {
        slots = λ i h. refl;
        keys = λ i h. refl;
        lengths = λ q. omega arith;
        masks = λ c h. (let bit = bit-mark s.masks b c needs.1 in let small : bit_in s.masks c < 2 = bit_at-lt (slice_index s.masks (c / 64)) (c % 64) in omega arith);
      },
    )
event_keeps g s (raise v q i) sound k needs =
    let at = found s v needs.0 in (
      kept-raise g s v (worker s v) q i at (stands s.workers v (worker s v) k.team at needs.0) needs.1 needs.2 k,
      record {
        slots = λ i h. refl;
        keys = λ i h. refl;
        masks = λ b h. refl;
        lengths = λ r. written s.lengths q r (max (slice_index s.lengths q) (i + 1)) (λ m. slice_index s.lengths r ≤ m) needs.1
            (λ e. let same : slice_index s.lengths q ≡ slice_index s.lengths r = ap (λ q. slice_index s.lengths q) e in omega arith) (λ _. omega arith);
      },
    )
event_keeps g s (add v c x) sound k needs =
    let at = found s v needs.0 in
    (kept-add g s v (worker s v) c x at (stands s.workers v (worker s v) k.team at needs.0) needs.1 sound.exchanged k, grows-same s s.counts _ _)
event_keeps g s (join v w) sound k needs =
    let at = found s v needs.0 in
    let at' = found s w needs.1 in (
      kept-join g s v w (worker s v) (worker s w) needs.2 at at' (stands s.workers v (worker s v) k.team at needs.0) (stands s.workers w (worker s w) k.team at' needs.1) sound.exchanged k,
      grows-same s s.counts s.cells _,
    )

stays-then : (a b c : List ℕ) → StaysLinked a b → StaysLinked b c → StaysLinked a c
stays-then a b c p q i h = let e = p i h in q i (omega arith) ∙ e

grows-then : (a b c : Race) → Grows a b → Grows b c → Grows a c
grows-then a b c p q = record {
  slots = stays-then a.slots b.slots c.slots p.slots q.slots;
  keys = stays-then a.keys b.keys c.keys p.keys q.keys;
  masks = λ i h. (let e = p.masks i h in q.masks i (omega arith) ∙ e);
  lengths = λ i. (let e = p.lengths i in let f = q.lengths i in omega arith);
}

pub run_keeps : (g : Setting) (s : Race) (es : List Event) → RunKeeps g s es
run_keeps g s [] sound k run = (k, grows-same s s.counts s.cells s.workers)
run_keeps g s (e ∷ es) sound k run =
    let one = event_keeps g s e sound k run.0 in
    let rest = run_keeps g (state_after g e s) es sound one.0 run.1 in
    (rest.0, grows-then s (state_after g e s) (state_after_all g es (state_after g e s)) one.1 rest.1)
