-- What the rule on caps says of each kind of node.
use Rattle.std.proofs.Common.{◌≡◌, ◌≤◌, true, ltb, leb, ◌&&◌, ℤ, arith}
use Rattle.std.proofs.lemmas.Bool.{and_parts, ltb-true, leb-true}
use Rattle.sg_layout.specs.declared.shape.Kind.TheVariants.{Dynamic}
use Rattle.sg_layout.specs.declared.shape.NodeShape.{NodeShape}
use Rattle.sg_layout.specs.Axes.{count_of, size_of}
use Rattle.sg_layout.specs.Rules.{is_cap, has_good_caps}

pub cap_range : (cap : ℤ) → is_cap cap ≡ true → (1 ≤ count_of cap) × (count_of cap ≤ 65536)
cap_range cap good =
    let parts = and_parts (ltb 0 (count_of cap)) (leb (count_of cap) 65536) good in
    let low = ltb-true 0 (count_of cap) parts.0 in
    (omega arith, leb-true (count_of cap) 65536 parts.1)

pub dynamic_cap : (node : NodeShape) → has_good_caps Dynamic node ≡ true → count_of node.cap ≤ 65536
dynamic_cap node good =
    let parts = and_parts (is_cap node.cap) (ltb 0 (count_of node.chunk) && leb (count_of node.chunk) (size_of node.sizes)) good in
    (cap_range node.cap parts.0).1

pub dynamic_chunk : (node : NodeShape) → has_good_caps Dynamic node ≡ true → (1 ≤ count_of node.chunk) × (count_of node.chunk ≤ size_of node.sizes)
dynamic_chunk node good =
    let parts = and_parts (is_cap node.cap) (ltb 0 (count_of node.chunk) && leb (count_of node.chunk) (size_of node.sizes)) good in
    let chunk = and_parts (ltb 0 (count_of node.chunk)) (leb (count_of node.chunk) (size_of node.sizes)) parts.1 in
    let low = ltb-true 0 (count_of node.chunk) chunk.0 in
    (omega arith, leb-true (count_of node.chunk) (size_of node.sizes) chunk.1)
