-- Laws of races: the invariant holds at each point of every run, and what follows from it.
use Rattle.std.specs.Prelude.{◌≡◌, ◌≢◌, ℕ, ◌+◌, ◌<◌, ◌≤◌, min, List, length, slice_index}
use Rattle.sg_words.specs.declared.race.Worker.{Worker}
use Rattle.sg_words.specs.Counts.{total, firsts, bit_in}
use Rattle.sg_words.specs.RaceMachine.{Setting, Race, Event, Needs, IsRun, state_after, state_after_all, opening_race, ticket_number, place_in_order, worker}
use Rattle.sg_words.specs.RaceInvariant.{MeetsRaceInvariant, Sound, holds_ticket, links_from}

-- words that only grow: one that isn't 0 stays
abbrev pub StaysLinked : List ℕ → List ℕ → Type 0
StaysLinked before now = (i : ℕ) → 0 < slice_index before i → slice_index now i ≡ slice_index before i

-- no event changes a slot, key or mask bit that isn't 0, or lowers a length
pub record Grows (before now : Race) : Type 0 where
  pub slots : StaysLinked before.slots now.slots
  pub keys : StaysLinked before.keys now.keys
  pub masks : (b : ℕ) → 0 < bit_in before.masks b → bit_in now.masks b ≡ bit_in before.masks b
  pub lengths : (q : ℕ) → slice_index before.lengths q ≤ slice_index now.lengths q

-- the start of a race meets the invariant
abbrev pub StartsKept : Setting → Type 0
StartsKept g = Sound g → MeetsRaceInvariant g (opening_race g)

-- an event keeps the invariant, and words only grow
abbrev pub EventKeeps : Setting → Race → Event → Type 0
EventKeeps g s e = Sound g → MeetsRaceInvariant g s → Needs g s e → MeetsRaceInvariant g (state_after g e s) × Grows s (state_after g e s)

-- so the invariant holds after every run
abbrev pub RunKeeps : Setting → Race → List Event → Type 0
RunKeeps g s es = Sound g → MeetsRaceInvariant g s → IsRun g s es → MeetsRaceInvariant g (state_after_all g es s) × Grows s (state_after_all g es s)

-- at most 16 workers are ever enrolled
abbrev pub FewWorkers : Setting → Race → Type 0
FewWorkers g s = MeetsRaceInvariant g s → length s.workers ≤ 16

-- at most 16 tickets are drawn past a stock
abbrev pub CountIsSmall : Setting → Race → ℕ → Type 0
CountIsSmall g s l = MeetsRaceInvariant g s → slice_index s.counts l ≤ length (g.stock l) + 16

-- a drawn ticket of a stock stands with one worker, once, and with no other
abbrev pub TicketStandsOnce : Setting → Race → ℕ → ℕ → Type 0
TicketStandsOnce g s l t = MeetsRaceInvariant g s → t < min (slice_index s.counts l) (length (g.stock l))
    → (v : ℕ) × (holds_ticket g.node l t (worker s v) ≡ 1) × ((w : ℕ) → w ≢ v → holds_ticket g.node l t (worker s w) ≡ 0)

-- a key stands in one place of its order
abbrev pub KeyStandsOnce : Setting → Race → ℕ → ℕ → ℕ → Type 0
KeyStandsOnce g s k i j = MeetsRaceInvariant g s → i < length s.keys → j < length s.keys
    → slice_index s.keys (place_in_order (length s.keys) k i) ≡ k + 1 → slice_index s.keys (place_in_order (length s.keys) k j) ≡ k + 1 → i ≡ j

-- a stock has distinct numbers, and none of them is linked at the start
pub record IsFreshSetting (g : Setting) (l : ℕ) : Type 0 where
  pub distinct : (t u : ℕ) → t < length (g.stock l) → u < length (g.stock l) → ticket_number g l t ≡ ticket_number g l u → t ≡ u
  pub unlinked : (t i : ℕ) → t < length (g.stock l) → g.node i ≡ l → slice_index g.slots i ≢ ticket_number g l t + 1

-- with such a stock a new link is the only link of its node that holds its number
abbrev pub NewLinksDiffer : Setting → Race → ℕ → ℕ → Type 0
NewLinksDiffer g s i j = MeetsRaceInvariant g s → IsFreshSetting g (g.node i) → slice_index g.slots i ≡ 0 → 0 < slice_index s.slots i
    → g.node i ≡ g.node j → slice_index s.slots i ≡ slice_index s.slots j → i ≡ j

-- Spares never fill a pool: where the stock has 17 more numbers than the free places of a pool of c, and a ticket past it was drawn, more
-- than c slots of the node are linked
abbrev pub SparesNeverFill : Setting → Race → ℕ → ℕ → Type 0
SparesNeverFill g s l c = MeetsRaceInvariant g s → length (g.stock l) + links_from g.node l 0 g.slots ≡ c + 17
    → 0 < total (λ (v : Worker). firsts l v.past) s.workers → c < links_from g.node l 0 s.slots
