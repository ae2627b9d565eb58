-- What is planned of a node before it is trimmed, and what trimming makes of its words.
use Rattle.std.specs.Prelude.{◌≡◌, ℕ, ◌*◌, ◌<◌, ◌≤◌, ◌^◌, Bool, List, length}
use Rattle.sg_layout.specs.declared.shape.Kind.{Kind}
use Rattle.sg_layout.specs.declared.shape.Kind.TheVariants.{Dense, Bitmasked, Pointer, Hash, Dynamic}
use Rattle.sg_layout.specs.declared.shape.NodeShape.{NodeShape}
use Rattle.sg_layout.specs.Axes.{count_of, size_of}
use Rattle.sg_layout.specs.StorageWords.{power_for}
use Rattle.sg_dynamic.specs.Chunks.{IsExact}
use Rattle.sg_pool.specs.Numbers.{PoolNumbers, place_count, live_count}
use Rattle.sg_store.specs.declared.node.NodeWords.{NodeWords}
use Rattle.sg_store.specs.declared.kept_table.KeptTable.{KeptTable}
use Rattle.sg_store.specs.declared.node_plan.NodePlan.{NodePlan}
use Rattle.sg_store.specs.declared.node_plan.StayingWords.{StayingWords}
use Rattle.sg_store.specs.declared.node_plan.StayingWords.TheVariants as stay
use Rattle.sg_store.specs.WellFormed.{IsNode, IsWithinCap}
use Rattle.sg_store.specs.steps.KeptWords.{AreKeptBits, AreKeptLinks, AreKeptLengths}
use Rattle.sg_store.specs.steps.KeptTables.{IsKeptTable}
use Rattle.sg_store.specs.steps.Cuts.{HasLinks, CutSoFar}

-- the words of a node of its kind, within its cap and the bounds of an accepted layout
pub record IsPlannable (node : NodeShape) (kept : NodeWords) : Type 0 where
  pub slots : ℕ
  pub live : ℕ → Bool
  pub is_node : IsNode node.kind node kept slots live
  pub within_cap : IsWithinCap node.kind node kept
  pub some : 1 ≤ size_of node.sizes
  pub few : slots ≤ 2 ^ 47
  pub short : node.kind ≡ Dynamic → size_of node.sizes ≤ 2 ^ 15
  pub large : node.kind ≡ Hash → count_of node.cap < power_for (2 * count_of node.cap)

-- the words that stay of a node of a kind, where a row keeps places below it
abbrev pub AreStaying : StayingWords → Kind → NodeShape → NodeWords → List Bool → Type 0
AreStaying stay.Whole kind node kept row = kind ≡ Dense
AreStaying (stay.Masks masks) kind node kept row = (kind ≡ Bitmasked) × AreKeptBits kept.masks masks row (length row)
AreStaying (stay.Linked links) kind node kept row = (kind ≡ Pointer) × AreKeptLinks kept.links links row (length kept.links)
AreStaying (stay.Table links table) kind node kept row =
    (kind ≡ Hash) × AreKeptLinks kept.links links row (length kept.links) × IsKeptTable kept.keys kept.links row table.keys table.links
AreStaying (stay.Lengths lengths) kind node kept row =
    (kind ≡ Dynamic) × AreKeptLengths kept (count_of node.chunk) row lengths (length kept.lengths)

-- the plan has the words that stay of a node where its row keeps places below
abbrev pub IsPlanFor : Kind → NodeShape → NodeWords → NodePlan → Type 0
IsPlanFor kind node kept plan = AreStaying plan.words kind node kept plan.row

-- the numbers of these links alone are live, and no more than before
pub record IsCutPool (links : List ℕ) (old new : PoolNumbers) : Type 0 where
  pub linked : HasLinks new links
  pub places : place_count new ≡ place_count old
  pub fewer : live_count new ≤ live_count old

-- a pointer node's words with other links
pub record HasCutLinks (links : List ℕ) (kept after : NodeWords) : Type 0 where
  pub links_now : after.links ≡ links
  pub pool : IsCutPool links kept.pool after.pool

-- a hash node's words with another table, and the numbers of these links
pub record HasCutTable (links : List ℕ) (table : KeptTable) (kept after : NodeWords) : Type 0 where
  pub keys_now : after.keys ≡ table.keys
  pub links_now : after.links ≡ table.links
  pub pool : IsCutPool links kept.pool after.pool

-- a dynamic node's words with other lengths, and chains that are cut to them
pub record HasCutLengths (lengths : List ℕ) (chunk : ℕ) (kept after : NodeWords) : Type 0 where
  pub lengths_now : after.lengths ≡ lengths
  pub cut : CutSoFar kept.chains after.chains lengths chunk (length lengths)
  pub exact : IsExact after.chains after.pool
  pub fewer : live_count after.pool ≤ live_count kept.pool
