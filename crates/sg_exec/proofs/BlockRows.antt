-- The block that begins with a row of a run.
use Rattle.std.proofs.Common.{◌≡◌, ℕ, zero, suc, ◌+◌, ◌-◌, ◌%◌, ◌<◌, ◌≤◌, ◌^◌, true, List, [], ◌∷◌, ◌++◌, length, get_or, Some, refl, sym, ap, ◌∙◌, subst, arith}
use Rattle.std.specs.Prelude.{slice_get, slice_index}
use Rattle.std.specs.List.{list_all}
use Rattle.std.proofs.lemmas.Bool.{and_parts}
use Rattle.std.proofs.lemmas.Nat.{mod_below}
use Rattle.std.proofs.lemmas.Option.{same_Some, slice_get_read}
use Rattle.std.proofs.lemmas.List.{length-take-le, take_more, take_all}
use Rattle.sg_coord.specs.declared.coord.Coord.{Coord}
use Rattle.sg_coord.specs.Bounds.{Bounds}
use Rattle.sg_coord.specs.Coord.{Inside}
use Rattle.sg_layout.specs.declared.shape.NodeShape.{NodeShape}
use Rattle.sg_layout.specs.declared.shape.Shape.{Shape}
use Rattle.sg_layout.specs.Accepted.{IsAccepted}
use Rattle.sg_layout.specs.Axes.{bounds_of_shape}
use Rattle.sg_layout.specs.Path.{offsets, path}
use Rattle.sg_layout.specs.PathLaws.{CoordinateOfPath}
use Rattle.sg_layout.specs.Rules.{has_good_extents}
use Rattle.sg_layout.specs.Slots.{coordinate_of}
use Rattle.sg_layout.proofs.Uses.{all_good}
use Rattle.sg_store.specs.declared.spot.Spot.{Spot}
use Rattle.sg_store.specs.StoreWords.{StoreWords}
use Rattle.sg_store.specs.Spots.{LeadsAlong}
use Rattle.sg_exec.specs.declared.loads.blocks.Block.{Block}
use Rattle.sg_exec.specs.declared.loads.row_run.RowRun.{RowRun}
use Rattle.sg_exec.specs.Runs.{along}
use Rattle.sg_exec.specs.steps.Blocks.{IsSpan, MayBeBlock, HasRow}
use Rattle.sg_exec.proofs.Sides.{along_on, further_path}

-- ---- the last node

good_at : (nodes : List NodeShape) (i : ℕ) (d : NodeShape) → list_all has_good_extents nodes ≡ true → i < length nodes → has_good_extents (get_or nodes i d) ≡ true
good_at [] i d good low = absurd (omega (arith, low))
good_at (node ∷ nodes) zero d good low = (and_parts (has_good_extents node) (list_all has_good_extents nodes) good).0
good_at (node ∷ nodes) (suc i) d good low = good_at nodes i d (and_parts (has_good_extents node) (list_all has_good_extents nodes) good).1 (omega (arith, low))

-- its extents are extents
pub last_good : (shape given : Shape) (nodes : List NodeShape) (i : ℕ) (node : NodeShape) → IsAccepted shape → given ≡ shape → nodes ≡ given.nodes → i < length shape.nodes
    → node ≡ get_or nodes i node → has_good_extents node ≡ true
last_good shape given nodes i node accepted is_shape is_nodes low read =
    let all : nodes ≡ shape.nodes = is_nodes ∙ ap (λ (s : Shape). s.nodes) is_shape in
    subst (λ (n : NodeShape). has_good_extents n ≡ true) (sym read)
    (subst (λ (ns : List NodeShape). has_good_extents (get_or ns i node) ≡ true) (sym all) (good_at shape.nodes i node (all_good shape accepted) low))

-- and its span is that of the node with this number
pub last_spans : (shape given : Shape) (nodes : List NodeShape) (i : ℕ) (found : NodeShape) (span : ℕ) → given ≡ shape → nodes ≡ given.nodes → i ≡ length shape.nodes - 1 → i < length shape.nodes
    → found ≡ get_or nodes i found → IsSpan found given.axes span → (node : NodeShape) → slice_get shape.nodes (length shape.nodes - 1) ≡ Some node → IsSpan node shape.axes span
last_spans shape given nodes i found span is_shape is_nodes is_i low read spans node there =
    let all : nodes ≡ shape.nodes = is_nodes ∙ ap (λ (s : Shape). s.nodes) is_shape in
    let below : i < length nodes = omega (arith, low, ap length all) in
    let is : slice_get nodes i ≡ Some found = slice_get_read nodes (length nodes) i found refl below read in
    let same : found ≡ node = same_Some _ _ (sym is ∙ ap (λ (ns : List NodeShape). slice_get ns i) all ∙ ap (slice_get shape.nodes) is_i ∙ there) in
    subst (λ (n : NodeShape). IsSpan n shape.axes span) same (subst (λ (s : Shape). IsSpan found s.axes span) is_shape spans)

-- ---- the path of a coordinate

offsets_long : (nodes : List NodeShape) (at : Coord) → length (offsets nodes at) ≡ length nodes
offsets_long [] at = refl
offsets_long (node ∷ nodes) at = ap suc (offsets_long nodes at)

pub path_long : (shape : Shape) (at : Coord) (through : ℕ) → through ≤ length shape.nodes → length (path shape at through) ≡ through
path_long shape at through within = length-take-le through (offsets shape.nodes at) (omega (arith, within, offsets_long shape.nodes at))

-- one node further
path_more : (shape : Shape) (at : Coord) (i offset : ℕ) → i < length shape.nodes → offset ≡ slice_index (offsets shape.nodes at) i → path shape at i ++ offset ∷ [] ≡ path shape at (i + 1)
path_more shape at i offset low is =
    ap (λ (o : ℕ). path shape at i ++ o ∷ []) is ∙ sym (take_more (offsets shape.nodes at) i 0 (omega (arith, low, offsets_long shape.nodes at)))

pub leads_more : (store : StoreWords) (given : Shape) (spot : Spot) (at : Coord) (i offset : ℕ) → given ≡ store.shape → i < length store.shape.nodes
    → offset ≡ slice_index (offsets given.nodes at) i → LeadsAlong store spot (path store.shape at i ++ offset ∷ []) → LeadsAlong store spot (path store.shape at (i + 1))
leads_more store given spot at i offset is_shape low is leads =
    subst (λ (p : List ℕ). LeadsAlong store spot p) (path_more store.shape at i offset low (is ∙ ap (λ (s : Shape). slice_index (offsets s.nodes at) i) is_shape)) leads

-- ---- the block

node_there : (nodes : List NodeShape) (i : ℕ) → i < length nodes → (node : NodeShape) × (slice_get nodes i ≡ Some node)
node_there [] i low = absurd (omega (arith, low))
node_there (node ∷ nodes) zero low = (node, refl)
node_there (node ∷ nodes) (suc i) low = node_there nodes i (omega (arith, low))

pub new_block : (store : StoreWords) (run : RowRun) (k : ℕ) (at : Coord) (front : Spot) (last offset span : ℕ) → CoordinateOfPath store.shape → Inside (bounds_of_shape store.shape) at → at ≡ along k run.at
    → LeadsAlong store front (path store.shape at last) → last + 1 ≡ length store.shape.nodes → offset ≡ slice_index (offsets store.shape.nodes at) last → offset < 2 ^ 30 → 1 ≤ span → span ≤ 2 ^ 15
    → ((node : NodeShape) → slice_get store.shape.nodes (length store.shape.nodes - 1) ≡ Some node → IsSpan node store.shape.axes span)
    → HasRow store run k (record { front = front; offset = offset; from = k; room = span - offset % span })
new_block store run k at front last offset span coordinate inside is_at leads is_last is_offset small some few spans =
    let shape = store.shape in
    let first = path shape at last in
    let long : length first ≡ last = path_long shape at last (omega (arith, is_last)) in
    let many : length shape.nodes ≡ suc (length first) = omega (arith, is_last, long) in
    let node = node_there shape.nodes (length first) (omega (arith, many)) in
    let is_node : slice_get shape.nodes (length shape.nodes - 1) ≡ Some node.0 =
    ap (slice_get shape.nodes) (let same : length shape.nodes - 1 ≡ length first = omega (arith, many) in same) ∙ node.1 in
    let whole : first ++ offset ∷ [] ≡ offsets shape.nodes at =
    path_more shape at last offset (omega (arith, is_last)) is_offset ∙ take_all (last + 1) (offsets shape.nodes at) (omega (arith, is_last, offsets_long shape.nodes at)) in
    let here : coordinate_of shape (first ++ offset ∷ []) ≡ along k run.at = ap (coordinate_of shape) whole ∙ coordinate at inside ∙ is_at in
    let rest : offset % span < span = mod_below offset span (omega (arith, some)) in
    record {
      is = record {
        path = first;
        leads = leads;
        last = many;
        few = omega (arith, small, few);
        rows = λ j low.
            further_path shape first node.0 span offset j node.1 many (spans node.0 is_node) (omega (arith, low, rest))
            ∙ ap (along j) here ∙ along_on k j run.at;
      };
      from = omega arith;
      to = omega (arith, rest);
    }

-- the same, as the code finds it in a layout of this shape
pub new_block_of : (store : StoreWords) (given : Shape) (run : RowRun) (k : ℕ) (at : Coord) (front : Spot) (bounds : Bounds) (many last offset span : ℕ) → given ≡ store.shape → CoordinateOfPath store.shape
    → bounds ≡ bounds_of_shape given → Inside bounds at → at ≡ along k run.at → LeadsAlong store front (path store.shape at last) → many ≡ length given.nodes → last + 1 ≡ many
    → offset ≡ slice_index (offsets given.nodes at) last → offset < 2 ^ 30 → 1 ≤ span → span ≤ 2 ^ 15
    → ((node : NodeShape) → slice_get given.nodes (length given.nodes - 1) ≡ Some node → IsSpan node given.axes span)
    → HasRow store run k (record { front = front; offset = offset; from = k; room = span - offset % span })
new_block_of store given run k at front bounds many last offset span is_shape coordinate is_bounds inside is_at leads is_many is_last is_offset small some few spans =
    new_block store run k at front last offset span coordinate
    (subst (λ (b : Bounds). Inside b at) (is_bounds ∙ ap bounds_of_shape is_shape) inside) is_at leads
    (is_last ∙ is_many ∙ ap (λ (s : Shape). length s.nodes) is_shape) (is_offset ∙ ap (λ (s : Shape). slice_index (offsets s.nodes at) last) is_shape) small some few
    (subst (λ (s : Shape). (node : NodeShape) → slice_get s.nodes (length s.nodes - 1) ≡ Some node → IsSpan node s.axes span) is_shape spans)

-- the last block, if it has the row
pub kept_block : (store : StoreWords) (run : RowRun) (k : ℕ) (block : Block) → MayBeBlock store run block → block.from ≤ k → k - block.from < block.room → HasRow store run k block
kept_block store run k block may from low = record { is = may (omega (arith, low)); from = from; to = omega (arith, from, low) }
