-- The laws of stores that are opened node by node.
use Rattle.std.specs.Prelude.{◌≡◌, ◌≢◌, ℕ, ◌+◌, ◌-◌, ◌<◌, ◌≤◌, List, ◌++◌, length, Some, None, Err, slice_index}
use Rattle.sg_coord.specs.declared.coord.Coord.{Coord}
use Rattle.sg_layout.specs.declared.shape.Kind.TheVariants.{Dense, Pointer, Hash, Dynamic}
use Rattle.sg_layout.specs.declared.shape.NodeShape.{NodeShape}
use Rattle.sg_layout.specs.Axes.{count_of}
use Rattle.sg_layout.specs.Live.{kind_at}
use Rattle.sg_layout.specs.Closure.{closure}
use Rattle.sg_layout.specs.Need.{first_full}
use Rattle.sg_layout.specs.NeedLaws.{IsNumberedNode, AllInside}
use Rattle.sg_flat.specs.declared.state.FlatLayout.{FlatLayout}
use Rattle.sg_hash.specs.Tables.{IsTable}
use Rattle.sg_dynamic.specs.declared.chunks.ChunkFull.{ChunkFull}
use Rattle.sg_dynamic.specs.Chunks.{fit}
use Rattle.sg_pool.specs.Numbers.{live_count}
use Rattle.sg_store.specs.StoreWords.{StoreWords}
use Rattle.sg_store.specs.WellFormed.{IsWellFormed}
use Rattle.sg_store.specs.StandsFor.{StandsFor}
use Rattle.sg_store.specs.Reaching.{KeepsCells, IsOpenThrough}
use Rattle.sg_store.specs.Opening.{keys_of, pool_of, filled_count, CanSettleSlots, CanSettleLengths, NewLinksAreWanted, NewKeysAreWanted, WantedAreBelow, NewLengthsAreWanted}

-- a store that stands for a flat layout is open through no node, whatever is wanted
abbrev pub StandsOpen : StoreWords → Type 0
StandsOpen store =
    (flat : FlatLayout) → StandsFor store flat → (wanted : List Coord) →
    IsOpenThrough store flat.active (flat.active ++ wanted) 0

-- a dense node opens by itself
abbrev pub DenseOpens : StoreWords → Type 0
DenseOpens store =
    (old all : List Coord) (number : ℕ) → 1 ≤ number → kind_at store.shape.nodes number ≡ Dense →
    IsOpenThrough store old all (number - 1) → IsOpenThrough store old all number

-- if the nodes before a pointer node are open, and more links for wanted coordinates are there than its cap, it is
-- the first node whose need passes its cap
abbrev pub FullIsFirst : StoreWords → Type 0
FullIsFirst store =
    IsWellFormed store → (old wanted : List Coord) (number : ℕ) (node : NodeShape) → IsNumberedNode store.shape number node →
    node.kind ≡ Pointer → IsOpenThrough store old (old ++ wanted) (number - 1) → (links taken : List ℕ) →
    CanSettleSlots store number links taken → NewLinksAreWanted store number links wanted →
    count_of node.cap < live_count (pool_of store number) + length taken →
    first_full store.shape (old ++ wanted) ≡ Some (record { node = number; cap = count_of node.cap })

-- if the nodes before a hash node are open, and each key that stands in a table is an old one or that of a wanted
-- coordinate, and more of its places have words in any list of words that stand beside keys alone than the cap, it is the
-- first node whose need passes its cap
abbrev pub KeysFillFirst : StoreWords → Type 0
KeysFillFirst store =
    IsWellFormed store → (old wanted : List Coord) (node : NodeShape) → IsNumberedNode store.shape 1 node → node.kind ≡ Hash →
    IsOpenThrough store old (old ++ wanted) 0 → (keys words : List ℕ) → IsTable keys →
    ((place : ℕ) → slice_index (keys_of store 1) place ≢ 0 → slice_index keys place ≡ slice_index (keys_of store 1) place) →
    NewKeysAreWanted store keys wanted → ((place : ℕ) → slice_index words place ≢ 0 → slice_index keys place ≢ 0) →
    count_of node.cap < filled_count words →
    first_full store.shape (old ++ wanted) ≡ Some (record { node = 1; cap = count_of node.cap })

-- if the nodes before a dynamic node are open, and lengths for the wanted coordinates need more chunks than its cap, it
-- is the first node whose need passes its cap
abbrev pub LengthsFillFirst : StoreWords → Type 0
LengthsFillFirst store =
    IsWellFormed store → (old wanted : List Coord) (number : ℕ) (node : NodeShape) → IsNumberedNode store.shape number node →
    node.kind ≡ Dynamic → IsOpenThrough store old (old ++ wanted) (number - 1) → (lengths : List ℕ) →
    CanSettleLengths store number lengths → WantedAreBelow store number lengths wanted →
    NewLengthsAreWanted store number lengths wanted → (full : ChunkFull) →
    fit (count_of node.chunk) lengths (count_of node.cap) ≡ Err full →
    first_full store.shape (old ++ wanted) ≡ Some (record { node = number; cap = count_of node.cap })

-- a hash node is the first, and a dynamic one the last
abbrev pub HashIsFirst : StoreWords → Type 0
HashIsFirst store =
    IsWellFormed store → (number : ℕ) → 1 ≤ number → kind_at store.shape.nodes number ≡ Hash → number ≡ 1

-- no node stands below a dynamic one: its number, from 1, is that of the last node
abbrev pub DynamicIsLast : StoreWords → Type 0
DynamicIsLast store =
    IsWellFormed store → (number : ℕ) → 1 ≤ number → kind_at store.shape.nodes number ≡ Dynamic →
    number ≡ length store.shape.nodes

-- where all nodes are open no need passes a cap
abbrev pub OpenHasRoom : StoreWords → Type 0
OpenHasRoom store =
    IsWellFormed store → (old all : List Coord) → IsOpenThrough store old all (length store.shape.nodes) →
    first_full store.shape all ≡ None

-- if all nodes have been opened, and cells and values were kept, the store has come to stand for the closure
abbrev pub OpenStands : StoreWords → StoreWords → Type 0
OpenStands store now =
    IsWellFormed store → IsWellFormed now → KeepsCells store now → (flat : FlatLayout) → StandsFor store flat →
    (wanted : List Coord) → AllInside store.shape wanted →
    IsOpenThrough now flat.active (flat.active ++ wanted) (length store.shape.nodes) →
    StandsFor now (record flat { active = closure store.shape (flat.active ++ wanted) })
