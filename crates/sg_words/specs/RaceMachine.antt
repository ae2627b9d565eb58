-- The race machine: numbered workers race for slots, keys, bits, lengths and cells, an event at a time. A run is any list of events
-- whose needs are met. It knows no threads: that a pass over shared words is such a run is what the crates of passes prove.
use Rattle.std.specs.Prelude.{◌≡◌, ◌≢◌, ℕ, ◌+◌, ◌-◌, ◌*◌, ◌/◌, ◌%◌, ◌^◌, ◌<◌, ◌≤◌, max, Bool, true, nat_lt, ◌==◌, if◌then◌else◌, ◌⊎◌, List, [], ◌∷◌, ◌++◌, length, replicate, slice_index, slice_index_or, slice_set, bit_or}
use Rattle.sg_words.specs.declared.race.Worker.{Worker}
use Rattle.sg_words.specs.Counts.{pairs, firsts, without}

-- What doesn't change in a race: the words at the start; how many nodes have racing links, each with a stock of numbers; the node of a
-- slot; the container, a node and a number, in which a slot, bit or length stands, and which containers are live at the start; how a
-- contribution goes into a cell; and numbers that every worker is told. A slot or key word is 0, or one more than its number or key
pub record Setting : Type 0 where
  pub slots : List ℕ
  pub keys : List ℕ
  pub masks : List ℕ
  pub lengths : List ℕ
  pub cells : List ℕ
  pub nodes : ℕ
  pub stock : ℕ → List ℕ
  pub node : ℕ → ℕ
  pub over_slot : ℕ → ℕ × ℕ
  pub over_bit : ℕ → ℕ × ℕ
  pub over_length : ℕ → ℕ × ℕ
  pub live : ℕ × ℕ → Bool
  pub into : ℕ → ℕ → ℕ
  pub told : List ℕ

-- the words, the count of drawn tickets for each node, and the workers; a worker that was joined into another keeps its place as nobody
pub record Race : Type 0 where
  pub slots : List ℕ
  pub keys : List ℕ
  pub masks : List ℕ
  pub lengths : List ℕ
  pub cells : List ℕ
  pub counts : List ℕ
  pub workers : List Worker

-- a worker that has done nothing yet: it knows what it was told, and has a share
abbrev pub newcomer : List ℕ → ℕ → Worker
newcomer told share = record { told = told; size = 1; share = share; back = 0; spare = []; left = []; past = []; seen = []; missed = []; made = []; keys = []; put = []; marked = []; raised = []; given = [] }

-- what stands in the place of a worker that was joined into another, and of one that was never enrolled
abbrev pub nobody : Worker
nobody = record { told = []; size = 0; share = 0; back = 0; spare = []; left = []; past = []; seen = []; missed = []; made = []; keys = []; put = []; marked = []; raised = []; given = [] }

-- the state before the first worker is enrolled
abbrev pub opening_race : Setting → Race
opening_race g = record { slots = g.slots; keys = g.keys; masks = g.masks; lengths = g.lengths; cells = g.cells; counts = replicate g.nodes 0; workers = [] }

-- the worker with a number, or nobody
abbrev pub worker : Race → ℕ → Worker
worker s id = slice_index_or s.workers id nobody

-- the number that a ticket of a node stands for
abbrev pub ticket_number : Setting → ℕ → ℕ → ℕ
ticket_number g l t = slice_index (g.stock l) t

-- ---- a worker after an event of its own
-- a split: the other half, rounded down, goes to a new worker
abbrev pub after_split : Worker → Worker
after_split v = record v { share = v.share - v.share / 2 }

-- the worker that a split makes: it was told the same, and has half the share, rounded down
abbrev pub other_half : Worker → Worker
other_half v = newcomer v.told (v.share / 2)

-- a join: the other's lists follow, its spares are left, its share and what came back to it come back
abbrev pub after_join : Worker → Worker → Worker
after_join v w = record {
  told = v.told;
  size = v.size + w.size;
  share = v.share;
  back = v.back + (w.share + w.back);
  spare = v.spare;
  left = v.left ++ (w.left ++ w.spare);
  past = v.past ++ w.past;
  seen = v.seen ++ w.seen;
  missed = v.missed ++ w.missed;
  made = v.made ++ w.made;
  keys = v.keys ++ w.keys;
  put = v.put ++ w.put;
  marked = v.marked ++ w.marked;
  raised = v.raised ++ w.raised;
  given = v.given ++ w.given;
}

-- a ticket t of node l was drawn, whose stock has `limit` numbers: it is a spare, or past the stock
abbrev pub after_draw : ℕ → ℕ → ℕ → Worker → Worker
after_draw l limit t v = if nat_lt t limit then record v { spare = v.spare ++ (l, t) ∷ [] } else record v { past = v.past ++ (l, t) ∷ [] }

-- slot i was seen to hold the number n
abbrev pub after_see : ℕ → ℕ → Worker → Worker
after_see i n v = record v { seen = v.seen ++ (i, n) ∷ [] }

-- slot i was seen to be empty
abbrev pub after_miss : ℕ → Worker → Worker
after_miss i v = record v { missed = v.missed ++ i ∷ [] }

-- the spare t of node l became the link n of slot i
abbrev pub after_link : ℕ → ℕ → ℕ → ℕ → Worker → Worker
after_link l i t n v = record v { spare = without l v.spare; made = v.made ++ (i, t) ∷ []; seen = v.seen ++ (i, n) ∷ [] }

-- at place p the key k was found
abbrev pub after_key : ℕ → ℕ → Worker → Worker
after_key p k v = record v { keys = v.keys ++ (p, k) ∷ [] }

-- at place p, which was empty, the key k was put
abbrev pub after_key_put : ℕ → ℕ → Worker → Worker
after_key_put p k v = record v { keys = v.keys ++ (p, k) ∷ []; put = v.put ++ k ∷ [] }

-- bit b was marked
abbrev pub after_mark : ℕ → Worker → Worker
after_mark b v = record v { marked = v.marked ++ b ∷ [] }

-- length q was raised to hold index i
abbrev pub after_raise : ℕ → ℕ → Worker → Worker
after_raise q i v = record v { raised = v.raised ++ (q, i) ∷ [] }

-- the word x was given to cell c
abbrev pub after_add : ℕ → ℕ → Worker → Worker
after_add c x v = record v { given = v.given ++ (c, x) ∷ [] }

-- ---- what an event needs
-- the first place of key k among n: the high part of a product, so that keys at equal distances go to places far apart
unfoldable pub home : ℕ → ℕ → ℕ
home n k = ((k * 2654435769) % 2 ^ 32) * n / 2 ^ 32

-- place number j in the order of key k among n places: each next one follows, and the last is followed by the first
abbrev pub place_in_order : ℕ → ℕ → ℕ → ℕ
place_in_order n k j = (home n k + j) % n

-- a worker knows a container that was live at the start, or that it has seen in a slot
abbrev pub KnowsContainer : Setting → Worker → ℕ × ℕ → Type 0
KnowsContainer g v c = (g.live c ≡ true) ⊎ ((slot : ℕ) × (g.node slot ≡ c.0) × (0 < pairs slot c.1 v.seen))

-- a worker has found another key in each place before place number j of key k's order
abbrev pub HasOthersBefore : ℕ → ℕ → ℕ → Worker → Type 0
HasOthersBefore n k j v = (i : ℕ) → i < j → (other : ℕ) × (other ≢ k) × (0 < pairs (place_in_order n k i) other v.keys)

-- a worker may put key k at place p: it is a place of its order, and the worker has found another key in each place before
abbrev pub MayPut : ℕ → ℕ → ℕ → Worker → Type 0
MayPut n p k v = (j : ℕ) × (j < n) × (p ≡ place_in_order n k j) × HasOthersBefore n k j v

-- The first worker comes; worker v is split, draws a ticket of node l, sees or misses slot i, links slot i by its ticket t, finds or puts
-- key k at place p, marks bit b, raises length q to index i, adds x to cell c, is joined by worker w
pub data Event : Type 0 where
  first : Event
  enrol : ℕ → Event
  draw : ℕ → ℕ → Event
  see : ℕ → ℕ → Event
  miss : ℕ → ℕ → Event
  link : ℕ → ℕ → ℕ → Event
  key : ℕ → ℕ → ℕ → Event
  mark : ℕ → ℕ → Event
  raise : ℕ → ℕ → ℕ → Event
  add : ℕ → ℕ → ℕ → Event
  join : ℕ → ℕ → Event

-- What must hold before an event: the worker has a share and what it takes is there. A link, a mark and a raise stand in a container
-- that the worker knows; a link takes a spare ticket of its own and an empty slot; a draw comes if it holds no ticket of the node.
abbrev pub Needs : Setting → Race → Event → Type 0
Needs g s first = s.workers ≡ []
Needs g s (enrol v) = 2 ≤ (worker s v).share
Needs g s (draw v l) = (0 < (worker s v).share) × (l < length s.counts) × (firsts l (worker s v).spare ≡ 0) × (firsts l (worker s v).past ≡ 0)
Needs g s (see v i) = (0 < (worker s v).share) × (slice_index s.slots i ≢ 0)
Needs g s (miss v i) = (0 < (worker s v).share) × (i < length s.slots) × (slice_index s.slots i ≡ 0)
Needs g s (link v i t) = (0 < (worker s v).share) × (i < length s.slots) × (slice_index s.slots i ≡ 0)
    × (0 < pairs (g.node i) t (worker s v).spare) × KnowsContainer g (worker s v) (g.over_slot i)
Needs g s (key v p k) = (0 < (worker s v).share)
    × ((slice_index s.keys p ≢ 0) ⊎ ((slice_index s.keys p ≡ 0) × MayPut (length s.keys) p k (worker s v)))
Needs g s (mark v b) = (0 < (worker s v).share) × (b / 64 < length s.masks) × KnowsContainer g (worker s v) (g.over_bit b)
Needs g s (raise v q i) = (0 < (worker s v).share) × (q < length s.lengths) × KnowsContainer g (worker s v) (g.over_length q)
Needs g s (add v c x) = (0 < (worker s v).share) × (c < length s.cells)
Needs g s (join v w) = (0 < (worker s v).share) × (0 < (worker s w).share) × (w ≢ v)

-- ---- what an event does
-- the race with another worker in the place of worker v
abbrev pub with_worker : ℕ → Worker → Race → Race
with_worker v w s = record s { workers = slice_set s.workers v w }

-- a key word that was found: 0 becomes one more than the key, and any other stays
abbrev pub key_word : ℕ → ℕ → ℕ
key_word k word = if word == 0 then k + 1 else word

-- a worker after its step on a key word: where the word was 0 it has put its key, else it has found the key that stands there
abbrev pub after_key_word : ℕ → ℕ → ℕ → Worker → Worker
after_key_word p k word v = if word == 0 then after_key_put p k v else after_key p (word - 1) v

-- the word of a mask with bit b set, whose place in the word is what is left of b over 64
abbrev pub mark_word : ℕ → ℕ → ℕ
mark_word b word = bit_or word (2 ^ (b % 64))

-- the words and the workers after one event: it changes the word that it names and its own workers, and nothing else
abbrev pub state_after : Setting → Event → Race → Race
state_after g first s = record s { workers = newcomer g.told 16 ∷ [] }
state_after g (enrol v) s = record s { workers = slice_set s.workers v (after_split (worker s v)) ++ other_half (worker s v) ∷ [] }
state_after g (draw v l) s = record s {
  counts = slice_set s.counts l (slice_index s.counts l + 1);
  workers = slice_set s.workers v (after_draw l (length (g.stock l)) (slice_index s.counts l) (worker s v));
}
state_after g (see v i) s = with_worker v (after_see i (slice_index s.slots i - 1) (worker s v)) s
state_after g (miss v i) s = with_worker v (after_miss i (worker s v)) s
state_after g (link v i t) s = record s {
  slots = slice_set s.slots i (ticket_number g (g.node i) t + 1);
  workers = slice_set s.workers v (after_link (g.node i) i t (ticket_number g (g.node i) t) (worker s v));
}
state_after g (key v p k) s = record s {
  keys = slice_set s.keys p (key_word k (slice_index s.keys p));
  workers = slice_set s.workers v (after_key_word p k (slice_index s.keys p) (worker s v));
}
state_after g (mark v b) s = record s {
  masks = slice_set s.masks (b / 64) (mark_word b (slice_index s.masks (b / 64)));
  workers = slice_set s.workers v (after_mark b (worker s v));
}
state_after g (raise v q i) s = record s {
  lengths = slice_set s.lengths q (max (slice_index s.lengths q) (i + 1));
  workers = slice_set s.workers v (after_raise q i (worker s v));
}
state_after g (add v c x) s = record s {
  cells = slice_set s.cells c (g.into (slice_index s.cells c) x);
  workers = slice_set s.workers v (after_add c x (worker s v));
}
state_after g (join v w) s = record s { workers = slice_set (slice_set s.workers v (after_join (worker s v) (worker s w))) w nobody }

-- a run: each event's needs are met where it comes
abbrev pub IsRun : Setting → Race → List Event → Type 0
IsRun g s [] = Unit {0}
IsRun g s (e ∷ es) = Needs g s e × IsRun g (state_after g e s) es

-- the words and the workers after a list of events, in their order
abbrev pub state_after_all : Setting → List Event → Race → Race
state_after_all g [] s = s
state_after_all g (e ∷ es) s = state_after_all g es (state_after g e s)
