-- Each event keeps the race invariant: a field for each point, of which those that the event touches are work.
use Rattle.std.proofs.Common.{◌≡◌, ℕ, ◌+◌, ◌-◌, ◌/◌, ◌<◌, ◌≤◌, ◌≢◌, ◌⊎◌, inr, max, cond, ◌&&◌, ◌==◌, List, [], ◌∷◌, ◌++◌, length, set, refl, sym, ap, ◌∙◌, subst, arith}
use Rattle.std.specs.Prelude.{slice_index}
use mathlib.Core.Option.{some, some-ne-none}
use lib.ListN.{get_elem?}
use Rattle.sg_words.specs.declared.race.Worker.{Worker}
use Rattle.sg_words.specs.Counts.{one, total, greatest, pairs, firsts}
use Rattle.sg_words.specs.RaceMachine.{Setting, Race, nobody, newcomer, ticket_number, KnowsContainer, MayPut, after_split, other_half, after_join, after_draw, after_see, after_miss, after_link, after_key, after_key_put, after_mark, after_raise, after_add, mark_word}
use Rattle.sg_words.specs.RaceInvariant.{holds_ticket, held_past, has_made, has_linked, has_seen, has_key, Standing, Team, has_put, has_marked, raised_to, fold_all, links_made, MeetsRaceInvariant}
use Rattle.sg_words.proofs.RaceTotals.{total-same, total-snoc, total-join, total-append, each-snoc, greatest-same, greatest-append, greatest-join, first_cases, firsts-snoc, firsts-without, pairs-snoc}
use Rattle.sg_words.proofs.RaceParts.{tickets-as, links-as, seen-as, seen_keys-as, keys-as, bits-as, lengths-as, cells-as, tally-as, team-set, team-split, team-join, standing-newcomer}
use Rattle.sg_words.proofs.RaceLinks.{stay-set, draw_case, tickets-below, tickets-past, holds-link, links-link, seen-more, seen-write, tally-link, full-here}
use Rattle.sg_words.proofs.RaceKeys.{keys-put, bits-mark, lengths-raise, cells-add, all-same, all-join, all-snoc, known-reached, hanging-link, hanging-mark, hanging-raise}

standing-spare : (l t : ℕ) (v : Worker) → firsts l v.spare ≡ 0 → Standing v → Standing (record v { spare = v.spare ++ (l, t) ∷ [] })
standing-spare l t v none st = record {
  share = st.share;
  size = st.size;
  left = st.left;
  past = st.past;
  spare = λ m. let s = firsts-snoc m v.spare (l, t) in let old = st.spare m in
      first_cases (λ x. firsts m (v.spare ++ (l, t) ∷ []) ≡ firsts m v.spare + x → firsts m (v.spare ++ (l, t) ∷ []) ≤ 1) l m
      (λ e h. let z : firsts m v.spare ≡ 0 = subst (λ k. firsts k v.spare ≡ 0) e none in omega arith) (λ _ h. omega arith) s;
}

standing-past : (l t : ℕ) (v : Worker) → firsts l v.past ≡ 0 → Standing v → Standing (record v { past = v.past ++ (l, t) ∷ [] })
standing-past l t v none st = record {
  share = st.share;
  size = st.size;
  spare = st.spare;
  left = st.left;
  past = λ m. let s = firsts-snoc m v.past (l, t) in let old = st.past m in let some' = st.left m in
      first_cases (λ x. firsts m (v.past ++ (l, t) ∷ []) ≡ firsts m v.past + x → firsts m (v.past ++ (l, t) ∷ []) ≤ v.size) l m
      (λ e h. let z : firsts m v.past ≡ 0 = subst (λ k. firsts k v.past ≡ 0) e none in omega arith) (λ _ h. omega arith) s;
}

standing-link : (l i t n : ℕ) (v : Worker) → Standing v → Standing (after_link l i t n v)
standing-link l i t n v st = record {
  share = st.share;
  size = st.size;
  left = st.left;
  past = st.past;
  spare = λ m. let s = firsts-without l m v.spare in let old = st.spare m in omega arith;
}

pub kept-see : (g : Setting) (s : Race) (id : ℕ) (v : Worker) (i : ℕ) → get_elem? s.workers id ≡ some v → Standing v → slice_index s.slots i ≢ 0 → MeetsRaceInvariant g s
    → MeetsRaceInvariant g (record s { workers = set s.workers id (after_see i (slice_index s.slots i - 1) v) })
kept-see g s id v i at st full k =
    let ws = s.workers in
    let w : Worker = (after_see i (slice_index s.slots i - 1) v) in
    let vs = set ws id w in
    record {
      slots_stay = k.slots_stay;
      keys_stay = k.keys_stay;
      tickets = tickets-as ws vs g.node g.stock s.counts (λ l t. total-same (holds_ticket g.node l t) ws id v w at refl) (λ l t. total-same (held_past l t) ws id v w at refl) k.tickets;
      links = links-as ws vs g s.slots (λ j t. total-same (has_made j t) ws id v w at refl) (λ j. total-same (has_linked j) ws id v w at refl) k.links;
      seen = seen-more has_seen s.slots ws id i (slice_index s.slots i - 1) v w at (omega arith) (λ j m. pairs-snoc j m v.seen (i, slice_index s.slots i - 1)) k.seen;
      seen_keys = seen_keys-as ws vs s.keys (λ j n. total-same (has_key j n) ws id v w at refl) k.seen_keys;
      team = team-set ws id v w at refl refl (record { share = st.share; size = st.size; spare = st.spare; left = st.left; past = st.past }) k.team;
      keys = keys-as ws vs g s.keys (λ j. total-same (has_put j) ws id v w at refl) k.keys;
      bits = bits-as ws vs g s.masks (λ b. total-same (has_marked b) ws id v w at refl) k.bits;
      lengths = lengths-as ws vs g s.lengths (λ q. greatest-same (raised_to q) ws id v w at refl) k.lengths;
      cells = cells-as ws vs g s.cells (λ c a. all-same g.into c a ws id v w at refl) k.cells;
      hanging = k.hanging;
      tally = tally-as ws vs g s.slots (λ l. total-same (links_made g.node l) ws id v w at refl) k.tally;
    }

pub kept-miss : (g : Setting) (s : Race) (id : ℕ) (v : Worker) (i : ℕ) → get_elem? s.workers id ≡ some v → Standing v → MeetsRaceInvariant g s
    → MeetsRaceInvariant g (record s { workers = set s.workers id (after_miss i v) })
kept-miss g s id v i at st k =
    let ws = s.workers in
    let w : Worker = (after_miss i v) in
    let vs = set ws id w in
    record {
      slots_stay = k.slots_stay;
      keys_stay = k.keys_stay;
      tickets = tickets-as ws vs g.node g.stock s.counts (λ l t. total-same (holds_ticket g.node l t) ws id v w at refl) (λ l t. total-same (held_past l t) ws id v w at refl) k.tickets;
      links = links-as ws vs g s.slots (λ j t. total-same (has_made j t) ws id v w at refl) (λ j. total-same (has_linked j) ws id v w at refl) k.links;
      seen = seen-as ws vs s.slots (λ j n. total-same (has_seen j n) ws id v w at refl) k.seen;
      seen_keys = seen_keys-as ws vs s.keys (λ j n. total-same (has_key j n) ws id v w at refl) k.seen_keys;
      team = team-set ws id v w at refl refl (record { share = st.share; size = st.size; spare = st.spare; left = st.left; past = st.past }) k.team;
      keys = keys-as ws vs g s.keys (λ j. total-same (has_put j) ws id v w at refl) k.keys;
      bits = bits-as ws vs g s.masks (λ b. total-same (has_marked b) ws id v w at refl) k.bits;
      lengths = lengths-as ws vs g s.lengths (λ q. greatest-same (raised_to q) ws id v w at refl) k.lengths;
      cells = cells-as ws vs g s.cells (λ c a. all-same g.into c a ws id v w at refl) k.cells;
      hanging = k.hanging;
      tally = tally-as ws vs g s.slots (λ l. total-same (links_made g.node l) ws id v w at refl) k.tally;
    }

pub kept-spare : (g : Setting) (s : Race) (id : ℕ) (v : Worker) (l : ℕ) → get_elem? s.workers id ≡ some v → Standing v → firsts l v.spare ≡ 0 → l < length s.counts → slice_index s.counts l < length (g.stock l) → MeetsRaceInvariant g s
    → MeetsRaceInvariant g (record s { counts = set s.counts l (slice_index s.counts l + 1); workers = set s.workers id (record v { spare = v.spare ++ (l, slice_index s.counts l) ∷ [] }) })
kept-spare g s id v l at st none below room k =
    let ws = s.workers in
    let w : Worker = (record v { spare = v.spare ++ (l, slice_index s.counts l) ∷ [] }) in
    let vs = set ws id w in
    record {
      slots_stay = k.slots_stay;
      keys_stay = k.keys_stay;
      tickets = tickets-below g.node g.stock s.counts ws id l v at below room k.tickets;
      links = links-as ws vs g s.slots (λ j t. total-same (has_made j t) ws id v w at refl) (λ j. total-same (has_linked j) ws id v w at refl) k.links;
      seen = seen-as ws vs s.slots (λ j n. total-same (has_seen j n) ws id v w at refl) k.seen;
      seen_keys = seen_keys-as ws vs s.keys (λ j n. total-same (has_key j n) ws id v w at refl) k.seen_keys;
      team = team-set ws id v w at refl refl (standing-spare l (slice_index s.counts l) v none st) k.team;
      keys = keys-as ws vs g s.keys (λ j. total-same (has_put j) ws id v w at refl) k.keys;
      bits = bits-as ws vs g s.masks (λ b. total-same (has_marked b) ws id v w at refl) k.bits;
      lengths = lengths-as ws vs g s.lengths (λ q. greatest-same (raised_to q) ws id v w at refl) k.lengths;
      cells = cells-as ws vs g s.cells (λ c a. all-same g.into c a ws id v w at refl) k.cells;
      hanging = k.hanging;
      tally = tally-as ws vs g s.slots (λ l. total-same (links_made g.node l) ws id v w at refl) k.tally;
    }

pub kept-past : (g : Setting) (s : Race) (id : ℕ) (v : Worker) (l : ℕ) → get_elem? s.workers id ≡ some v → Standing v → firsts l v.past ≡ 0 → l < length s.counts → length (g.stock l) ≤ slice_index s.counts l → MeetsRaceInvariant g s
    → MeetsRaceInvariant g (record s { counts = set s.counts l (slice_index s.counts l + 1); workers = set s.workers id (record v { past = v.past ++ (l, slice_index s.counts l) ∷ [] }) })
kept-past g s id v l at st none below room k =
    let ws = s.workers in
    let w : Worker = (record v { past = v.past ++ (l, slice_index s.counts l) ∷ [] }) in
    let vs = set ws id w in
    record {
      slots_stay = k.slots_stay;
      keys_stay = k.keys_stay;
      tickets = tickets-past g.node g.stock s.counts ws id l v at below room k.tickets;
      links = links-as ws vs g s.slots (λ j t. total-same (has_made j t) ws id v w at refl) (λ j. total-same (has_linked j) ws id v w at refl) k.links;
      seen = seen-as ws vs s.slots (λ j n. total-same (has_seen j n) ws id v w at refl) k.seen;
      seen_keys = seen_keys-as ws vs s.keys (λ j n. total-same (has_key j n) ws id v w at refl) k.seen_keys;
      team = team-set ws id v w at refl refl (standing-past l (slice_index s.counts l) v none st) k.team;
      keys = keys-as ws vs g s.keys (λ j. total-same (has_put j) ws id v w at refl) k.keys;
      bits = bits-as ws vs g s.masks (λ b. total-same (has_marked b) ws id v w at refl) k.bits;
      lengths = lengths-as ws vs g s.lengths (λ q. greatest-same (raised_to q) ws id v w at refl) k.lengths;
      cells = cells-as ws vs g s.cells (λ c a. all-same g.into c a ws id v w at refl) k.cells;
      hanging = k.hanging;
      tally = tally-as ws vs g s.slots (λ l. total-same (links_made g.node l) ws id v w at refl) k.tally;
    }

pub kept-draw : (g : Setting) (s : Race) (id : ℕ) (v : Worker) (l : ℕ) → get_elem? s.workers id ≡ some v → Standing v → firsts l v.spare ≡ 0 → firsts l v.past ≡ 0 → l < length s.counts → MeetsRaceInvariant g s
    → MeetsRaceInvariant g (record s { counts = set s.counts l (slice_index s.counts l + 1); workers = set s.workers id (after_draw l (length (g.stock l)) (slice_index s.counts l) v) })
kept-draw g s id v l at st none past below k =
    draw_case (λ w. MeetsRaceInvariant g (record s { counts = set s.counts l (slice_index s.counts l + 1); workers = set s.workers id w })) l (length (g.stock l)) (slice_index s.counts l) v
    (λ room. kept-spare g s id v l at st none below room k) (λ room. kept-past g s id v l at st past below room k)

pub kept-link : (g : Setting) (s : Race) (id : ℕ) (v : Worker) (i t : ℕ) → get_elem? s.workers id ≡ some v → Standing v → i < length s.slots → slice_index s.slots i ≡ 0 → 0 < pairs (g.node i) t v.spare → KnowsContainer g v (g.over_slot i) → MeetsRaceInvariant g s
    → MeetsRaceInvariant g (record s { slots = set s.slots i ((ticket_number g (g.node i) t) + 1); workers = set s.workers id (after_link (g.node i) i t (ticket_number g (g.node i) t) v) })
kept-link g s id v i t at st below empty has known k =
    let ws = s.workers in
    let w : Worker = (after_link (g.node i) i t (ticket_number g (g.node i) t) v) in
    let vs = set ws id w in
    record {
      slots_stay = stay-set g.slots s.slots i ((ticket_number g (g.node i) t) + 1) below empty k.slots_stay;
      keys_stay = k.keys_stay;
      tickets = tickets-as ws vs g.node g.stock s.counts (λ l u. total-same (holds_ticket g.node l u) ws id v w at (holds-link g.node i t (ticket_number g (g.node i) t) v st.spare has l u)) (λ l t. total-same (held_past l t) ws id v w at refl) k.tickets;
      links = links-link g s.slots ws id i t v at below empty k.slots_stay k.links;
      seen = seen-more has_seen (set s.slots i ((ticket_number g (g.node i) t) + 1)) ws id i (ticket_number g (g.node i) t) v w at (full-here s.slots i ((ticket_number g (g.node i) t) + 1) below) (λ j m. pairs-snoc j m v.seen (i, (ticket_number g (g.node i) t))) (seen-write has_seen s.slots ws i ((ticket_number g (g.node i) t) + 1) below empty k.seen);
      seen_keys = seen_keys-as ws vs s.keys (λ j n. total-same (has_key j n) ws id v w at refl) k.seen_keys;
      team = team-set ws id v w at refl refl (standing-link (g.node i) i t (ticket_number g (g.node i) t) v st) k.team;
      keys = keys-as ws vs g s.keys (λ j. total-same (has_put j) ws id v w at refl) k.keys;
      bits = bits-as ws vs g s.masks (λ b. total-same (has_marked b) ws id v w at refl) k.bits;
      lengths = lengths-as ws vs g s.lengths (λ q. greatest-same (raised_to q) ws id v w at refl) k.lengths;
      cells = cells-as ws vs g s.cells (λ c a. all-same g.into c a ws id v w at refl) k.cells;
      hanging = hanging-link g s.slots s.masks s.lengths i ((ticket_number g (g.node i) t) + 1) below empty (known-reached g s.slots ws id v (g.over_slot i) at k.seen known) k.hanging;
      tally = tally-link g s.slots ws id i t (ticket_number g (g.node i) t) v at below empty k.tally;
    }

pub kept-found : (g : Setting) (s : Race) (id : ℕ) (v : Worker) (p : ℕ) → get_elem? s.workers id ≡ some v → Standing v → slice_index s.keys p ≢ 0 → MeetsRaceInvariant g s
    → MeetsRaceInvariant g (record s { workers = set s.workers id (after_key p (slice_index s.keys p - 1) v) })
kept-found g s id v p at st full k =
    let ws = s.workers in
    let w : Worker = (after_key p (slice_index s.keys p - 1) v) in
    let vs = set ws id w in
    record {
      slots_stay = k.slots_stay;
      keys_stay = k.keys_stay;
      tickets = tickets-as ws vs g.node g.stock s.counts (λ l t. total-same (holds_ticket g.node l t) ws id v w at refl) (λ l t. total-same (held_past l t) ws id v w at refl) k.tickets;
      links = links-as ws vs g s.slots (λ j t. total-same (has_made j t) ws id v w at refl) (λ j. total-same (has_linked j) ws id v w at refl) k.links;
      seen = seen-as ws vs s.slots (λ j n. total-same (has_seen j n) ws id v w at refl) k.seen;
      seen_keys = seen-more has_key s.keys ws id p (slice_index s.keys p - 1) v w at (omega arith) (λ j m. pairs-snoc j m v.keys (p, slice_index s.keys p - 1)) k.seen_keys;
      team = team-set ws id v w at refl refl (record { share = st.share; size = st.size; spare = st.spare; left = st.left; past = st.past }) k.team;
      keys = keys-as ws vs g s.keys (λ j. total-same (has_put j) ws id v w at refl) k.keys;
      bits = bits-as ws vs g s.masks (λ b. total-same (has_marked b) ws id v w at refl) k.bits;
      lengths = lengths-as ws vs g s.lengths (λ q. greatest-same (raised_to q) ws id v w at refl) k.lengths;
      cells = cells-as ws vs g s.cells (λ c a. all-same g.into c a ws id v w at refl) k.cells;
      hanging = k.hanging;
      tally = tally-as ws vs g s.slots (λ l. total-same (links_made g.node l) ws id v w at refl) k.tally;
    }

pub kept-put : (g : Setting) (s : Race) (id : ℕ) (v : Worker) (p key : ℕ) → get_elem? s.workers id ≡ some v → Standing v → slice_index s.keys p ≡ 0 → MayPut (length s.keys) p key v → p < length s.keys → MeetsRaceInvariant g s
    → MeetsRaceInvariant g (record s { keys = set s.keys p (key + 1); workers = set s.workers id (after_key_put p key v) })
kept-put g s id v p key at st empty may below k =
    let ws = s.workers in
    let w : Worker = (after_key_put p key v) in
    let vs = set ws id w in
    record {
      slots_stay = k.slots_stay;
      keys_stay = stay-set g.keys s.keys p (key + 1) below empty k.keys_stay;
      tickets = tickets-as ws vs g.node g.stock s.counts (λ l t. total-same (holds_ticket g.node l t) ws id v w at refl) (λ l t. total-same (held_past l t) ws id v w at refl) k.tickets;
      links = links-as ws vs g s.slots (λ j t. total-same (has_made j t) ws id v w at refl) (λ j. total-same (has_linked j) ws id v w at refl) k.links;
      seen = seen-as ws vs s.slots (λ j n. total-same (has_seen j n) ws id v w at refl) k.seen;
      seen_keys = seen-more has_key (set s.keys p (key + 1)) ws id p key v w at (full-here s.keys p (key + 1) below) (λ j m. pairs-snoc j m v.keys (p, key)) (seen-write has_key s.keys ws p (key + 1) below empty k.seen_keys);
      team = team-set ws id v w at refl refl (record { share = st.share; size = st.size; spare = st.spare; left = st.left; past = st.past }) k.team;
      keys = keys-put g s.keys ws id p key v at empty may k.seen_keys below k.keys;
      bits = bits-as ws vs g s.masks (λ b. total-same (has_marked b) ws id v w at refl) k.bits;
      lengths = lengths-as ws vs g s.lengths (λ q. greatest-same (raised_to q) ws id v w at refl) k.lengths;
      cells = cells-as ws vs g s.cells (λ c a. all-same g.into c a ws id v w at refl) k.cells;
      hanging = k.hanging;
      tally = tally-as ws vs g s.slots (λ l. total-same (links_made g.node l) ws id v w at refl) k.tally;
    }

pub kept-mark : (g : Setting) (s : Race) (id : ℕ) (v : Worker) (b : ℕ) → get_elem? s.workers id ≡ some v → Standing v → b / 64 < length s.masks → KnowsContainer g v (g.over_bit b) → MeetsRaceInvariant g s
    → MeetsRaceInvariant g (record s { masks = (set s.masks (b / 64) (mark_word b (slice_index s.masks (b / 64)))); workers = set s.workers id (after_mark b v) })
kept-mark g s id v b at st below known k =
    let ws = s.workers in
    let w : Worker = (after_mark b v) in
    let vs = set ws id w in
    record {
      slots_stay = k.slots_stay;
      keys_stay = k.keys_stay;
      tickets = tickets-as ws vs g.node g.stock s.counts (λ l t. total-same (holds_ticket g.node l t) ws id v w at refl) (λ l t. total-same (held_past l t) ws id v w at refl) k.tickets;
      links = links-as ws vs g s.slots (λ j t. total-same (has_made j t) ws id v w at refl) (λ j. total-same (has_linked j) ws id v w at refl) k.links;
      seen = seen-as ws vs s.slots (λ j n. total-same (has_seen j n) ws id v w at refl) k.seen;
      seen_keys = seen_keys-as ws vs s.keys (λ j n. total-same (has_key j n) ws id v w at refl) k.seen_keys;
      team = team-set ws id v w at refl refl (record { share = st.share; size = st.size; spare = st.spare; left = st.left; past = st.past }) k.team;
      keys = keys-as ws vs g s.keys (λ j. total-same (has_put j) ws id v w at refl) k.keys;
      bits = bits-mark g s.masks ws id b v at below k.bits;
      lengths = lengths-as ws vs g s.lengths (λ q. greatest-same (raised_to q) ws id v w at refl) k.lengths;
      cells = cells-as ws vs g s.cells (λ c a. all-same g.into c a ws id v w at refl) k.cells;
      hanging = hanging-mark g s.slots s.masks s.lengths b below (known-reached g s.slots ws id v (g.over_bit b) at k.seen known) k.hanging;
      tally = tally-as ws vs g s.slots (λ l. total-same (links_made g.node l) ws id v w at refl) k.tally;
    }

pub kept-raise : (g : Setting) (s : Race) (id : ℕ) (v : Worker) (q i : ℕ) → get_elem? s.workers id ≡ some v → Standing v → q < length s.lengths → KnowsContainer g v (g.over_length q) → MeetsRaceInvariant g s
    → MeetsRaceInvariant g (record s { lengths = set s.lengths q (max (slice_index s.lengths q) (i + 1)); workers = set s.workers id (after_raise q i v) })
kept-raise g s id v q i at st below known k =
    let ws = s.workers in
    let w : Worker = (after_raise q i v) in
    let vs = set ws id w in
    record {
      slots_stay = k.slots_stay;
      keys_stay = k.keys_stay;
      tickets = tickets-as ws vs g.node g.stock s.counts (λ l t. total-same (holds_ticket g.node l t) ws id v w at refl) (λ l t. total-same (held_past l t) ws id v w at refl) k.tickets;
      links = links-as ws vs g s.slots (λ j t. total-same (has_made j t) ws id v w at refl) (λ j. total-same (has_linked j) ws id v w at refl) k.links;
      seen = seen-as ws vs s.slots (λ j n. total-same (has_seen j n) ws id v w at refl) k.seen;
      seen_keys = seen_keys-as ws vs s.keys (λ j n. total-same (has_key j n) ws id v w at refl) k.seen_keys;
      team = team-set ws id v w at refl refl (record { share = st.share; size = st.size; spare = st.spare; left = st.left; past = st.past }) k.team;
      keys = keys-as ws vs g s.keys (λ j. total-same (has_put j) ws id v w at refl) k.keys;
      bits = bits-as ws vs g s.masks (λ b. total-same (has_marked b) ws id v w at refl) k.bits;
      lengths = lengths-raise g s.lengths ws id q i v at below k.lengths;
      cells = cells-as ws vs g s.cells (λ c a. all-same g.into c a ws id v w at refl) k.cells;
      hanging = hanging-raise g s.slots s.masks s.lengths q (max (slice_index s.lengths q) (i + 1)) below (known-reached g s.slots ws id v (g.over_length q) at k.seen known) k.hanging;
      tally = tally-as ws vs g s.slots (λ l. total-same (links_made g.node l) ws id v w at refl) k.tally;
    }

pub kept-add : (g : Setting) (s : Race) (id : ℕ) (v : Worker) (c x : ℕ) → get_elem? s.workers id ≡ some v → Standing v → c < length s.cells → ((a x y : ℕ) → g.into (g.into a x) y ≡ g.into (g.into a y) x) → MeetsRaceInvariant g s
    → MeetsRaceInvariant g (record s { cells = set s.cells c (g.into (slice_index s.cells c) x); workers = set s.workers id (after_add c x v) })
kept-add g s id v c x at st below exchanged k =
    let ws = s.workers in
    let w : Worker = (after_add c x v) in
    let vs = set ws id w in
    record {
      slots_stay = k.slots_stay;
      keys_stay = k.keys_stay;
      tickets = tickets-as ws vs g.node g.stock s.counts (λ l t. total-same (holds_ticket g.node l t) ws id v w at refl) (λ l t. total-same (held_past l t) ws id v w at refl) k.tickets;
      links = links-as ws vs g s.slots (λ j t. total-same (has_made j t) ws id v w at refl) (λ j. total-same (has_linked j) ws id v w at refl) k.links;
      seen = seen-as ws vs s.slots (λ j n. total-same (has_seen j n) ws id v w at refl) k.seen;
      seen_keys = seen_keys-as ws vs s.keys (λ j n. total-same (has_key j n) ws id v w at refl) k.seen_keys;
      team = team-set ws id v w at refl refl (record { share = st.share; size = st.size; spare = st.spare; left = st.left; past = st.past }) k.team;
      keys = keys-as ws vs g s.keys (λ j. total-same (has_put j) ws id v w at refl) k.keys;
      bits = bits-as ws vs g s.masks (λ b. total-same (has_marked b) ws id v w at refl) k.bits;
      lengths = lengths-as ws vs g s.lengths (λ q. greatest-same (raised_to q) ws id v w at refl) k.lengths;
      cells = cells-add g s.cells ws id c x v exchanged at below k.cells;
      hanging = k.hanging;
      tally = tally-as ws vs g s.slots (λ l. total-same (links_made g.node l) ws id v w at refl) k.tally;
    }

-- ---- enrolling and joining: all sums stay
-- the same in every sum that the invariant speaks of
pub record Alike (g : Setting) (ws vs : List Worker) : Type 0 where
  pub holds : (l t : ℕ) → total (holds_ticket g.node l t) vs ≡ total (holds_ticket g.node l t) ws
  pub past : (l t : ℕ) → total (held_past l t) vs ≡ total (held_past l t) ws
  pub made : (i t : ℕ) → total (has_made i t) vs ≡ total (has_made i t) ws
  pub linked : (i : ℕ) → total (has_linked i) vs ≡ total (has_linked i) ws
  pub seen : (i n : ℕ) → total (has_seen i n) vs ≡ total (has_seen i n) ws
  pub keys : (p k : ℕ) → total (has_key p k) vs ≡ total (has_key p k) ws
  pub put : (k : ℕ) → total (has_put k) vs ≡ total (has_put k) ws
  pub marked : (b : ℕ) → total (has_marked b) vs ≡ total (has_marked b) ws
  pub reach : (q : ℕ) → greatest (raised_to q) vs ≡ greatest (raised_to q) ws
  pub fold : (c a : ℕ) → fold_all g.into c a vs ≡ fold_all g.into c a ws
  pub tally : (l : ℕ) → total (links_made g.node l) vs ≡ total (links_made g.node l) ws

pub kept-alike : (g : Setting) (s : Race) (vs : List Worker) → Alike g s.workers vs → Team vs → MeetsRaceInvariant g s → MeetsRaceInvariant g (record s { workers = vs })
kept-alike g s vs a team k = record {
  slots_stay = k.slots_stay;
  keys_stay = k.keys_stay;
  tickets = tickets-as s.workers vs g.node g.stock s.counts a.holds a.past k.tickets;
  links = links-as s.workers vs g s.slots a.made a.linked k.links;
  seen = seen-as s.workers vs s.slots a.seen k.seen;
  seen_keys = seen_keys-as s.workers vs s.keys a.keys k.seen_keys;
  team = team;
  keys = keys-as s.workers vs g s.keys a.put k.keys;
  bits = bits-as s.workers vs g s.masks a.marked k.bits;
  lengths = lengths-as s.workers vs g s.lengths a.reach k.lengths;
  cells = cells-as s.workers vs g s.cells a.fold k.cells;
  hanging = k.hanging;
  tally = tally-as s.workers vs g s.slots a.tally k.tally;
}

total-first : (f : Worker → ℕ) (ws : List Worker) (v : Worker) → ws ≡ [] → f v ≡ 0 → total f (v ∷ []) ≡ total f ws
total-first f ws v e z = (let h : total f (v ∷ []) ≡ 0 = omega arith in h) ∙ ap (total f) (sym e)

pub kept-first : (g : Setting) (s : Race) → s.workers ≡ [] → MeetsRaceInvariant g s → MeetsRaceInvariant g (record s { workers = newcomer g.told 16 ∷ [] })
kept-first g s none k =
    let v = newcomer g.told 16 in
    kept-alike g s (v ∷ [])
    record {
      holds = λ l t. total-first (holds_ticket g.node l t) s.workers v none refl;
      past = λ l t. total-first (held_past l t) s.workers v none refl;
      made = λ i t. total-first (has_made i t) s.workers v none refl;
      linked = λ i. total-first (has_linked i) s.workers v none refl;
      seen = λ i n. total-first (has_seen i n) s.workers v none refl;
      keys = λ p k. total-first (has_key p k) s.workers v none refl;
      put = λ k. total-first (has_put k) s.workers v none refl;
      marked = λ b. total-first (has_marked b) s.workers v none refl;
      tally = λ l. total-first (links_made g.node l) s.workers v none refl;
      reach = λ q. ap (greatest (raised_to q)) (sym none);
      fold = λ c a. ap (fold_all g.into c a) (sym none);
    }
    record {
      each = each-snoc (λ v. (v ≡ nobody) ⊎ Standing v) [] v (λ id x e. absurd (some-ne-none x (sym e))) (inr (standing-newcomer g.told 16 (omega arith)));
      sizes = refl;
      shares = refl;
    }
    k

total-enrol : (f : Worker → ℕ) (ws : List Worker) (id : ℕ) (v left right : Worker) → get_elem? ws id ≡ some v → f left ≡ f v → f right ≡ 0 → total f (set ws id left ++ right ∷ []) ≡ total f ws
total-enrol f ws id v left right at e z = let s = total-snoc f (set ws id left) right in let t = total-same f ws id v left at e in omega arith

pub kept-enrol : (g : Setting) (s : Race) (id : ℕ) (v : Worker) → get_elem? s.workers id ≡ some v → Standing v → 2 ≤ v.share → MeetsRaceInvariant g s
    → MeetsRaceInvariant g (record s { workers = set s.workers id (after_split v) ++ other_half v ∷ [] })
kept-enrol g s id v at st share k =
    let left = after_split v in
    let right = other_half v in
    kept-alike g s (set s.workers id left ++ right ∷ [])
    record {
      holds = λ l t. total-enrol (holds_ticket g.node l t) s.workers id v left right at refl refl;
      past = λ l t. total-enrol (held_past l t) s.workers id v left right at refl refl;
      made = λ i t. total-enrol (has_made i t) s.workers id v left right at refl refl;
      linked = λ i. total-enrol (has_linked i) s.workers id v left right at refl refl;
      seen = λ i n. total-enrol (has_seen i n) s.workers id v left right at refl refl;
      keys = λ p k. total-enrol (has_key p k) s.workers id v left right at refl refl;
      put = λ k. total-enrol (has_put k) s.workers id v left right at refl refl;
      marked = λ b. total-enrol (has_marked b) s.workers id v left right at refl refl;
      tally = λ l. total-enrol (links_made g.node l) s.workers id v left right at refl refl;
      reach = λ q. let a = greatest-append (raised_to q) (set s.workers id left) (right ∷ []) in let t = greatest-same (raised_to q) s.workers id v left at refl in omega arith;
      fold = λ c a. all-snoc g.into c a (set s.workers id left) right refl ∙ all-same g.into c a s.workers id v left at refl;
    }
    (team-split s.workers id v at share st k.team)
    k

holds-join : (node : ℕ → ℕ) (l t : ℕ) (v w : Worker) → holds_ticket node l t (after_join v w) + 0 ≡ holds_ticket node l t v + holds_ticket node l t w
holds-join node l t v w =
    let f : ℕ × ℕ → ℕ = λ x. one ((x.0 == l) && (x.1 == t)) in
    let a = total-append (λ (x : ℕ × ℕ). one ((node x.0 == l) && (x.1 == t))) v.made w.made in
    let b = total-append f v.left (w.left ++ w.spare) in
    let c = total-append f w.left w.spare in omega arith

pub kept-join : (g : Setting) (s : Race) (i j : ℕ) (v w : Worker) → j ≢ i → get_elem? s.workers i ≡ some v → get_elem? s.workers j ≡ some w → Standing v → Standing w
    → ((a x y : ℕ) → g.into (g.into a x) y ≡ g.into (g.into a y) x) → MeetsRaceInvariant g s → MeetsRaceInvariant g (record s { workers = set (set s.workers i (after_join v w)) j nobody })
kept-join g s i j v w n at at' st st' exchanged k =
    let both = after_join v w in
    kept-alike g s (set (set s.workers i both) j nobody)
    record {
      holds = λ l t. total-join (holds_ticket g.node l t) s.workers i j v w both nobody n at at' (holds-join g.node l t v w);
      past = λ l t. total-join (held_past l t) s.workers i j v w both nobody n at at' (let a = total-append (λ (x : ℕ × ℕ). one ((x.0 == l) && (x.1 == t))) v.past w.past in omega arith);
      made = λ i' t. total-join (has_made i' t) s.workers i j v w both nobody n at at' (let a = total-append (λ (x : ℕ × ℕ). one ((x.0 == i') && (x.1 == t))) v.made w.made in omega arith);
      linked = λ i'. total-join (has_linked i') s.workers i j v w both nobody n at at' (let a = total-append (λ (x : ℕ × ℕ). one (x.0 == i')) v.made w.made in omega arith);
      seen = λ i' n'. total-join (has_seen i' n') s.workers i j v w both nobody n at at' (let a = total-append (λ (x : ℕ × ℕ). one ((x.0 == i') && (x.1 == n'))) v.seen w.seen in omega arith);
      keys = λ p k'. total-join (has_key p k') s.workers i j v w both nobody n at at' (let a = total-append (λ (x : ℕ × ℕ). one ((x.0 == p) && (x.1 == k'))) v.keys w.keys in omega arith);
      put = λ k'. total-join (has_put k') s.workers i j v w both nobody n at at' (let a = total-append (λ (x : ℕ). one (x == k')) v.put w.put in omega arith);
      marked = λ b. total-join (has_marked b) s.workers i j v w both nobody n at at' (let a = total-append (λ (x : ℕ). one (x == b)) v.marked w.marked in omega arith);
      tally = λ l. total-join (links_made g.node l) s.workers i j v w both nobody n at at' (let a = total-append (λ (x : ℕ × ℕ). one (g.node x.0 == l)) v.made w.made in omega arith);
      reach = λ q. greatest-join (raised_to q) s.workers i j v w both nobody n at at' (greatest-append (λ (x : ℕ × ℕ). cond (x.0 == q) (x.1 + 1) 0) v.raised w.raised) refl;
      fold = λ c a. all-join g.into exchanged c s.workers i j v w both nobody a n at at' refl refl;
    }
    (team-join s.workers i j v w n at at' st st' k.team)
    k
