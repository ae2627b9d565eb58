-- What instructions need, as links between nodes: registers, places, variables and blocks have a node each.
use Rattle.std.specs.Prelude.{ℕ, zero, suc, ◌+◌, ◌*◌, ◌/◌, ◌%◌, Bool, true, false, not, ◌&&◌, List, [], ◌∷◌, ◌++◌, map, get_or}
use Rattle.sg_ir.specs.Blocks.{Block, End, Word, Spot, Cell, Do, Branch, Loop, Act, SetVar, WriteOwn, Contribute, Wish}
use Rattle.sg_ir.specs.InScope.{op_regs, op_places, step_regs, step_places}
use Rattle.sg_words.specs.declared.spreads.Link.{Link}
use Rattle.sg_simplify.specs.Kept.{Keep, is_end, kept_part, op_vars}

-- the nodes of registers, places, variables and blocks
abbrev pub reg_node : ℕ → ℕ
reg_node r = 4 * r

abbrev pub place_node : ℕ → ℕ
place_node p = 4 * p + 1

abbrev pub var_node : ℕ → ℕ
var_node v = 4 * v + 2

abbrev pub block_node : ℕ → ℕ
block_node b = 4 * b + 3

-- the outermost block, which is needed anyway
abbrev pub outermost : ℕ
outermost = 3

-- links from one node to each of these
abbrev pub link_all : ℕ → List ℕ → List Link
link_all from nodes = map (λ to. record { from = from; to = to }) nodes

-- how many blocks stand in a block
abbrev pub blocks_in : Block → ℕ
blocks_in End = 0
blocks_in (Word to how rest) = blocks_in rest
blocks_in (Spot to how rest) = blocks_in rest
blocks_in (Cell to place sight index rest) = blocks_in rest
blocks_in (Do what rest) = blocks_in rest
blocks_in (Branch cond block otherwise rest) = suc (blocks_in block + (blocks_in otherwise + blocks_in rest))
blocks_in (Loop var lo hi body rest) = suc (blocks_in body + blocks_in rest)

-- what an act needs, which stands in the block with this node; a variable that is set needs its setters
abbrev pub act_needs : ℕ → Act → List Link
act_needs here (SetVar var from) = link_all (var_node var) (reg_node from ∷ here ∷ [])
act_needs here (WriteOwn layout field from stmt) = link_all outermost (reg_node from ∷ here ∷ [])
act_needs here (Contribute how layout field place from index stmt) = link_all outermost (reg_node from ∷ place_node place ∷ here ∷ []) ++ link_all outermost (map reg_node index)
act_needs here (Wish layout index stmt) = link_all outermost (here ∷ []) ++ link_all outermost (map reg_node index)

-- What a block needs that has this node, where the first block in it has this number: a register what it is made of; each node the block
-- that it stands in; an `if` its condition, and a loop its variable.
abbrev pub needs_of : ℕ → ℕ → Block → List Link
needs_of here next End = []
needs_of here next (Word to how rest) = link_all (reg_node to) (map reg_node (op_regs how) ++ (map place_node (op_places how) ++ (map var_node (op_vars how) ++ here ∷ []))) ++ needs_of here next rest
needs_of here next (Spot to how rest) = link_all (place_node to) (map reg_node (step_regs how) ++ (map place_node (step_places how) ++ here ∷ [])) ++ needs_of here next rest
needs_of here next (Cell to place sight index rest) = link_all (reg_node to) (place_node place ∷ here ∷ []) ++ (link_all (reg_node to) (map reg_node index) ++ needs_of here next rest)
needs_of here next (Do what rest) = act_needs here what ++ needs_of here next rest
needs_of here next (Branch cond block otherwise rest) =
    link_all (block_node next) (reg_node cond ∷ here ∷ [])
    ++ (needs_of (block_node next) (suc next) block
    ++ (needs_of (block_node next) (suc (next + blocks_in block)) otherwise ++ needs_of here (suc (next + blocks_in block + blocks_in otherwise)) rest))
needs_of here next (Loop var lo hi body rest) =
    link_all (block_node next) (var_node var ∷ here ∷ [])
    ++ (link_all (var_node var) (here ∷ []) ++ (needs_of (block_node next) (suc next) body ++ needs_of here (suc (next + blocks_in body)) rest))

-- what is kept where these nodes are marked
abbrev pub kept_by : (ℕ → Bool) → Keep
kept_by marked = record { regs = λ r. marked (reg_node r); places = λ p. marked (place_node p); vars = λ v. marked (var_node v) }

-- of each block in a block, in order, whether anything is left in it
abbrev pub left_in : Keep → Block → List Bool
left_in keep End = []
left_in keep (Word to how rest) = left_in keep rest
left_in keep (Spot to how rest) = left_in keep rest
left_in keep (Cell to place sight index rest) = left_in keep rest
left_in keep (Do what rest) = left_in keep rest
left_in keep (Branch cond block otherwise rest) = not (is_end (kept_part keep block) && is_end (kept_part keep otherwise)) ∷ (left_in keep block ++ (left_in keep otherwise ++ left_in keep rest))
left_in keep (Loop var lo hi body rest) = not (is_end (kept_part keep body)) ∷ (left_in keep body ++ left_in keep rest)

-- a node by its kind and its number, where the outermost block is marked and the others, from 1 on, as a list says
abbrev pub marked_by : Keep → List Bool → ℕ → ℕ → Bool
marked_by keep left zero n = keep.regs n
marked_by keep left (suc zero) n = keep.places n
marked_by keep left (suc (suc zero)) n = keep.vars n
marked_by keep left (suc (suc (suc more))) zero = true
marked_by keep left (suc (suc (suc more))) (suc n) = get_or left n false

-- the nodes of what is kept
abbrev pub nodes_of : Keep → List Bool → ℕ → Bool
nodes_of keep left node = marked_by keep left (node % 4) (node / 4)
