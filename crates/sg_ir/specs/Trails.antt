-- Instructions one after the other: which layouts they ask, and the ways to places after them.
use Rattle.std.specs.Prelude.{◌≡◌, refl, ℕ, List, [], ◌∷◌, ◌++◌, map, None}
use Rattle.sg_ir.specs.declared.op.Step.TheVariants as step
use Rattle.sg_ir.specs.declared.op.Descent.TheVariants as by
use Rattle.sg_ir.specs.declared.code.Inst.{Inst, fold-Inst}
use Rattle.sg_ir.specs.declared.code.Inst.TheOpen as i
use Rattle.sg_ir.specs.declared.code.Inst.TheOpen.{Inst-F}
use Rattle.sg_ir.specs.Trimmed.{Ways, way_of, way_behind, listed}

-- from the ways to places, the layouts that are asked, in order of the text, and the ways afterwards
abbrev pub Trail : Type 0
Trail = Ways → List ℕ × Ways

-- one after the other
abbrev pub in_a_row : List Trail → Trail
in_a_row [] ways = ([], ways)
in_a_row (first ∷ more) ways = ((first ways).0 ++ (in_a_row more (first ways).1).0, (in_a_row more (first ways).1).1)

-- one layer of an instruction; a place that is set in a block inside is none of those after it
abbrev pub trail_step : Inst-F Trail → Trail
trail_step (i.Const to word) ways = ([], ways)
trail_step (i.Var to var) ways = ([], ways)
trail_step (i.Set var from) ways = ([], ways)
trail_step (i.Bin to op given a b) ways = ([], ways)
trail_step (i.Un to op given a) ways = ([], ways)
trail_step (i.Mulq to a b s) ways = ([], ways)
trail_step (i.Root to layout) ways = ([], (to, way_behind ways to (step.Root layout)) ∷ ways)
trail_step (i.Check to place axis extent index) ways = ([], (to, way_behind ways to (step.Check place axis extent index)) ∷ ways)
trail_step (i.Extract to div size from) ways = ([], ways)
trail_step (i.Offset to high size low) ways = ([], ways)
trail_step (i.Child to place node offset) ways = ([], (to, way_behind ways to (step.Down by.Child place node offset)) ∷ ways)
trail_step (i.HashChild to place node offset) ways = ([], (to, way_behind ways to (step.Down by.HashChild place node offset)) ∷ ways)
trail_step (i.MaskBit to place node offset) ways = ([], (to, way_behind ways to (step.Down by.MaskBit place node offset)) ∷ ways)
trail_step (i.DynCell to place node offset) ways = ([], (to, way_behind ways to (step.Down by.DynCell place node offset)) ∷ ways)
trail_step (i.ReadCell to place layout field index) ways = ([], ways)
trail_step (i.IsActive to place index) ways = (listed (way_of ways place).root, ways)
trail_step (i.OwnRead to layout field) ways = ([], ways)
trail_step (i.OwnWrite layout field from stmt) ways = ([], ways)
trail_step (i.Acc op layout field place from index stmt) ways = ([], ways)
trail_step (i.Want layout index stmt) ways = ([], ways)
trail_step (i.If cond block otherwise) ways = ((in_a_row block ways).0 ++ (in_a_row otherwise ways).0, ways)
trail_step (i.For var lo hi body) ways = ((in_a_row body ways).0, ways)

-- what an instruction asks, and the ways after it
abbrev pub trail : Inst → Trail
trail = fold-Inst Trail trail_step

-- the layouts that instructions ask after these ways
abbrev pub asked_by : List Inst → Ways → List ℕ
asked_by insts ways = (in_a_row (map trail insts) ways).0

-- the ways to places after instructions
abbrev pub ways_after : List Inst → Ways → Ways
ways_after insts ways = (in_a_row (map trail insts) ways).1

-- worked equations: a question below a root, and the way after a block in which a place is set
asks_below : (in_a_row (trail_step (i.Root 3 1) ∷ trail_step (i.Check 4 3 0 16 2) ∷ trail_step (i.IsActive 5 4 (2 ∷ [])) ∷ []) []).0 ≡ 1 ∷ []
asks_below = refl

inside_is_not_behind : (way_of (in_a_row (trail_step (i.If 0 (trail_step (i.Root 3 1) ∷ []) []) ∷ []) []).1 3) ≡ record { root = None; checks = [] }
inside_is_not_behind = refl
