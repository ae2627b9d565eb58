-- The race invariant: what holds at each point of a run. Each point speaks of the few lists that it is about, so that it can be said
-- of a range of words of a larger table.
use Rattle.std.specs.Prelude.{◌≡◌, ◌≢◌, ℕ, ◌+◌, ◌-◌, ◌<◌, ◌≤◌, min, max, true, not, ◌&&◌, ◌==◌, if◌then◌else◌, ◌⊎◌, List, [], ◌∷◌, length, slice_index}
use Rattle.sg_words.specs.declared.race.Worker.{Worker}
use Rattle.sg_words.specs.Counts.{one, once_below, total, greatest, Each, times_in, pairs, firsts, bit_in}
use Rattle.sg_words.specs.RaceMachine.{Setting, Race, nobody, ticket_number, place_in_order}

-- a word that wasn't 0 at the start is as it was
abbrev pub Stay : List ℕ → List ℕ → Type 0
Stay start words = (length words ≡ length start) × ((i : ℕ) → 0 < slice_index start i → slice_index words i ≡ slice_index start i)

-- how often the links that a worker made are of ticket t of node l
abbrev pub made_at : (ℕ → ℕ) → ℕ → ℕ → List (ℕ × ℕ) → ℕ
made_at node l t made = total (λ x. one ((node x.0 == l) && (x.1 == t))) made

-- how often a worker holds a ticket: as a link that it made, as its spare, or left by one that was joined into it
abbrev pub holds_ticket : (ℕ → ℕ) → ℕ → ℕ → Worker → ℕ
holds_ticket node l t v = made_at node l t v.made + (pairs l t v.spare + pairs l t v.left)

-- how often a worker holds a ticket that was drawn past the end of its stock
abbrev pub held_past : ℕ → ℕ → Worker → ℕ
held_past l t v = pairs l t v.past

-- a drawn ticket of the stock stands once among all workers, a drawn ticket past it once among their `past`, and no other stands
pub record TicketsStandOnce (node : ℕ → ℕ) (stock : ℕ → List ℕ) (counts : List ℕ) (workers : List Worker) : Type 0 where
  pub within : (l t : ℕ) → total (holds_ticket node l t) workers ≡ once_below t (min (slice_index counts l) (length (stock l)))
  pub beyond : (l t : ℕ) → total (held_past l t) workers ≡ once_below t (slice_index counts l) - once_below t (length (stock l))

-- how often a worker linked slot i by ticket t
abbrev pub has_made : ℕ → ℕ → Worker → ℕ
has_made i t v = pairs i t v.made

-- how often a worker linked slot i, by any ticket
abbrev pub has_linked : ℕ → Worker → ℕ
has_linked i v = firsts i v.made

-- a slot that was 0 at the start holds the number of the ticket with which it was made, and is 0 if nobody made it
pub record LinksAreMade (g : Setting) (slots : List ℕ) (workers : List Worker) : Type 0 where
  pub made : (i t : ℕ) → 0 < total (has_made i t) workers → (slice_index g.slots i ≡ 0) × (i < length slots) × (slice_index slots i ≡ ticket_number g (g.node i) t + 1)
  pub bare : (i : ℕ) → slice_index g.slots i ≡ 0 → total (has_linked i) workers ≡ 0 → slice_index slots i ≡ 0

-- how often a worker saw slot i link container n
abbrev pub has_seen : ℕ → ℕ → Worker → ℕ
has_seen i n v = pairs i n v.seen

-- how often a worker found key k at place p
abbrev pub has_key : ℕ → ℕ → Worker → ℕ
has_key p k v = pairs p k v.keys

-- what a worker saw in a slot stands there still
abbrev pub SeenIsThere : List ℕ → List Worker → Type 0
SeenIsThere slots workers = (i n : ℕ) → 0 < total (has_seen i n) workers → slice_index slots i ≡ n + 1

-- a key that a worker found at a place stands there still
abbrev pub SeenKeysAreThere : List ℕ → List Worker → Type 0
SeenKeysAreThere keys workers = (p k : ℕ) → 0 < total (has_key p k) workers → slice_index keys p ≡ k + 1

-- a worker that stands: at each node it has at most one spare, its `left` is shorter than its size and its `past` is not longer
pub record Standing (v : Worker) : Type 0 where
  pub share : 1 ≤ v.share
  pub size : v.size ≤ v.back + 1
  pub spare : (l : ℕ) → firsts l v.spare ≤ 1
  pub left : (l : ℕ) → firsts l v.left < v.size
  pub past : (l : ℕ) → firsts l v.past ≤ v.size

-- the share that a worker has, with the shares of those that were joined into it
abbrev pub handed_share : Worker → ℕ
handed_share v = v.share + v.back

-- what all shares and what came back add up to: nothing before the first worker, then 16
abbrev pub all_shares : List Worker → ℕ
all_shares [] = 0
all_shares (v ∷ vs) = 16

-- each worker stands or was joined; the sizes add up to the number of workers that were enrolled; the shares and what came back to 16
pub record Team (workers : List Worker) : Type 0 where
  pub each : Each (λ v. (v ≡ nobody) ⊎ Standing v) workers
  pub sizes : total (λ v. v.size) workers ≡ length workers
  pub shares : total handed_share workers ≡ all_shares workers

-- if key k stands at place number j of its order, each earlier place of the order holds another key
abbrev pub Probed : List ℕ → Type 0
Probed keys = (k j i : ℕ) → j < length keys → slice_index keys (place_in_order (length keys) k j) ≡ k + 1 → i < j
    → (slice_index keys (place_in_order (length keys) k i) ≢ 0) × (slice_index keys (place_in_order (length keys) k i) ≢ k + 1)

-- how often a worker put key k into a place that was empty
abbrev pub has_put : ℕ → Worker → ℕ
has_put k v = times_in k v.put

-- a key that wasn't there at the start was put by a worker
pub record KeysArePut (g : Setting) (keys : List ℕ) (workers : List Worker) : Type 0 where
  pub probed : Probed keys
  pub put : (p k : ℕ) → slice_index g.keys p ≡ 0 → slice_index keys p ≡ k + 1 → 0 < total (has_put k) workers

-- how often a worker marked bit b
abbrev pub has_marked : ℕ → Worker → ℕ
has_marked b v = times_in b v.marked

-- the bits are those of the start and the marked ones
abbrev pub BitsAreMarked : Setting → List ℕ → List Worker → Type 0
BitsAreMarked g masks workers = (length masks ≡ length g.masks) × ((b : ℕ) → bit_in masks b ≡ min 1 (bit_in g.masks b + total (has_marked b) workers))

-- one more than the greatest index to which a length was raised
abbrev pub raised_to : ℕ → Worker → ℕ
raised_to q v = greatest (λ x. if x.0 == q then x.1 + 1 else 0) v.raised

-- each length is the greatest of its start and the raised indices plus one
abbrev pub LengthsAreRaised : Setting → List ℕ → List Worker → Type 0
LengthsAreRaised g lengths workers = (length lengths ≡ length g.lengths) × ((q : ℕ) → slice_index lengths q ≡ max (slice_index g.lengths q) (greatest (raised_to q) workers))

-- the word of cell c with one contribution, or as it was if that is to another cell
abbrev pub with_one : (ℕ → ℕ → ℕ) → ℕ → ℕ → ℕ × ℕ → ℕ
with_one into c a x = if x.0 == c then into a x.1 else a

-- the word of cell c after a list of contributions, in their order; those to other cells leave it
abbrev pub fold_in : (ℕ → ℕ → ℕ) → ℕ → ℕ → List (ℕ × ℕ) → ℕ
fold_in into c a [] = a
fold_in into c a (x ∷ xs) = fold_in into c (with_one into c a x) xs

-- the word of cell c after the contributions of all workers, one worker after the other
abbrev pub fold_all : (ℕ → ℕ → ℕ) → ℕ → ℕ → List Worker → ℕ
fold_all into c a [] = a
fold_all into c a (v ∷ vs) = fold_all into c (fold_in into c a v.given) vs

-- each cell is the fold of its start and all that was given
abbrev pub CellsAreFolded : Setting → List ℕ → List Worker → Type 0
CellsAreFolded g cells workers = (length cells ≡ length g.cells) × ((c : ℕ) → c < length cells → slice_index cells c ≡ fold_all g.into c (slice_index g.cells c) workers)

-- a container was live at the start, or a slot word links it
abbrev pub IsReachedContainer : Setting → List ℕ → ℕ × ℕ → Type 0
IsReachedContainer g slots c = (g.live c ≡ true) ⊎ ((i : ℕ) × (g.node i ≡ c.0) × (slice_index slots i ≡ c.1 + 1))

-- each linked slot, set bit and length other than 0 stands in such a container
pub record Hanging (g : Setting) (slots masks lengths : List ℕ) : Type 0 where
  pub by_slot : (i : ℕ) → 0 < slice_index slots i → IsReachedContainer g slots (g.over_slot i)
  pub by_bit : (b : ℕ) → 0 < bit_in masks b → IsReachedContainer g slots (g.over_bit b)
  pub by_length : (q : ℕ) → 0 < slice_index lengths q → IsReachedContainer g slots (g.over_length q)

-- how many slots of node l are linked, of a list that begins with slot i
abbrev pub links_from : (ℕ → ℕ) → ℕ → ℕ → List ℕ → ℕ
links_from node l i [] = 0
links_from node l i (w ∷ ws) = one ((node i == l) && not (w == 0)) + links_from node l (i + 1) ws

-- how many links of node l a worker made
abbrev pub links_made : (ℕ → ℕ) → ℕ → Worker → ℕ
links_made node l v = total (λ x. one (node x.0 == l)) v.made

-- each link that was made is one more linked slot
abbrev pub Tally : Setting → List ℕ → List Worker → Type 0
Tally g slots workers = (l : ℕ) → links_from g.node l 0 slots ≡ links_from g.node l 0 g.slots + total (links_made g.node l) workers

-- a state of the race machine meets the race invariant: all of its points hold
pub record MeetsRaceInvariant (g : Setting) (s : Race) : Type 0 where
  pub slots_stay : Stay g.slots s.slots
  pub keys_stay : Stay g.keys s.keys
  pub tickets : TicketsStandOnce g.node g.stock s.counts s.workers
  pub links : LinksAreMade g s.slots s.workers
  pub seen : SeenIsThere s.slots s.workers
  pub seen_keys : SeenKeysAreThere s.keys s.workers
  pub team : Team s.workers
  pub keys : KeysArePut g s.keys s.workers
  pub bits : BitsAreMarked g s.masks s.workers
  pub lengths : LengthsAreRaised g s.lengths s.workers
  pub cells : CellsAreFolded g s.cells s.workers
  pub hanging : Hanging g s.slots s.masks s.lengths
  pub tally : Tally g s.slots s.workers

-- what a setting has to be: a hash table whose keys stand in their order, nothing but in live containers, and contributions that exchange
pub record Sound (g : Setting) : Type 0 where
  pub probed : Probed g.keys
  pub hanging : Hanging g g.slots g.masks g.lengths
  pub exchanged : (a x y : ℕ) → g.into (g.into a x) y ≡ g.into (g.into a y) x
