-- The meaning of access code over a flat state: what a run of a block makes of registers, places and variables, and what it tells.
use Rattle.std.specs.Prelude.{ℕ, zero, suc, ◌+◌, ◌*◌, ◌/◌, ◌%◌, ◌^◌, Bool, true, false, ◌&&◌, ◌==◌, nat_lt, if◌then◌else◌, List, [], ◌∷◌, ◌++◌, map, length, reverse, find, fold, get_or, take, slice_get, Option, Some, None, option_and_then, option_map}
use Rattle.sg_words.specs.declared.operators.Ty.TheVariants as ty
use Rattle.sg_words.specs.Words.{number, flag, word_of, applied, applied_un, mulq_of}
use Rattle.sg_coord.specs.declared.coord.Coord.{Coord}
use Rattle.sg_coord.specs.Coord.{is_on_axis}
use Rattle.sg_layout.specs.declared.shape.NodeShape.{NodeShape}
use Rattle.sg_layout.specs.declared.shape.Shape.{Shape}
use Rattle.sg_layout.specs.Axes.{size_of}
use Rattle.sg_layout.specs.Slots.{coordinate_of}
use Rattle.sg_flat.specs.declared.effects.Way.{Way}
use Rattle.sg_flat.specs.declared.effects.Way.TheVariants.{Own, Acc}
use Rattle.sg_flat.specs.declared.state.FlatState.{FlatState}
use Rattle.sg_flat.specs.State as flat
use Rattle.sg_flat.specs.Domain.{numbers, is_active}
use Rattle.sg_ir.specs.declared.code.Inst.{Inst, fold-Inst}
use Rattle.sg_ir.specs.declared.code.Inst.TheOpen as i
use Rattle.sg_ir.specs.declared.code.Inst.TheOpen.{Inst-F}

-- what an iteration sees: the layouts, the state at the start of the run, and the iteration's coordinate
pub record Seen : Type 0 where
  pub shapes : List Shape
  pub state : FlatState
  pub at : Coord

-- a place in a layout's tree: the offsets from the root on. What stands for "a place or none" is an `Option Place`
pub record Place : Type 0 where
  pub layout : ℕ
  pub path : List ℕ

-- a write that code makes: an own write at the iteration's coordinate, or a contribution at its place's coordinate or at none
pub record CodeWrite : Type 0 where
  pub layout : ℕ
  pub field : ℕ
  pub stmt : ℕ
  pub at : Option Coord
  pub way : Way
  pub value : ℕ

-- a coordinate that code wants to be active
pub record CodeWant : Type 0 where
  pub layout : ℕ
  pub stmt : ℕ
  pub at : Coord

-- a read, a contribution or a question that was executed: whether it asked only if its place is active, its layout, its place, and the
-- coordinate that its index registers named
pub record Access : Type 0 where
  pub asks : Bool
  pub layout : ℕ
  pub place : Option Place
  pub at : Coord

-- How far a run has come: the word of each register and of each variable, each place, the layout from whose root each place comes (which
-- it keeps when it is none), and what was told so far, in order. A register that isn't set yet has 0 and a place none; in a loop they have
-- what the turn before left.
pub record Moved : Type 0 where
  pub regs : ℕ → ℕ
  pub places : ℕ → Option Place
  pub roots : ℕ → ℕ
  pub vars : ℕ → ℕ
  pub writes : List CodeWrite
  pub wants : List CodeWant
  pub accesses : List Access

-- a function that gives one number something new
abbrev pub put : {A : Type 0} → ℕ → A → (ℕ → A) → ℕ → A
put to new old other = if other == to then new else old other

-- how far a run has come once this register holds this word; all else is as it was
abbrev pub set_reg : ℕ → ℕ → Moved → Moved
set_reg to word now = record { regs = put to word now.regs; places = now.places; roots = now.roots; vars = now.vars; writes = now.writes; wants = now.wants; accesses = now.accesses }

-- how far a run has come once this place is that one, or none, below the root of this layout; all else is as it was
abbrev pub set_place : ℕ → ℕ → Option Place → Moved → Moved
set_place to root place now = record { regs = now.regs; places = put to place now.places; roots = put to root now.roots; vars = now.vars; writes = now.writes; wants = now.wants; accesses = now.accesses }

-- how far a run has come once this variable has this word; all else is as it was
abbrev pub set_var_word : ℕ → ℕ → Moved → Moved
set_var_word var word now = record { regs = now.regs; places = now.places; roots = now.roots; vars = put var word now.vars; writes = now.writes; wants = now.wants; accesses = now.accesses }

-- how far a run has come once it has told this write too, after those so far; all else is as it was
abbrev pub add_code_write : CodeWrite → Moved → Moved
add_code_write write now = record { regs = now.regs; places = now.places; roots = now.roots; vars = now.vars; writes = now.writes ++ write ∷ []; wants = now.wants; accesses = now.accesses }

-- how far a run has come once it has told this want too, after those so far; all else is as it was
abbrev pub add_want : CodeWant → Moved → Moved
add_want want now = record { regs = now.regs; places = now.places; roots = now.roots; vars = now.vars; writes = now.writes; wants = now.wants ++ want ∷ []; accesses = now.accesses }

-- how far a run has come once it has told this access too, after those so far; all else is as it was
abbrev pub add_access : Access → Moved → Moved
add_access access now = record { regs = now.regs; places = now.places; roots = now.roots; vars = now.vars; writes = now.writes; wants = now.wants; accesses = now.accesses ++ access ∷ [] }

-- the coordinate of index words, each read as I32; the parts that it doesn't use are 0
abbrev pub coord_of : List ℕ → Coord
coord_of words = record {
  n = length words;
  a = number ty.I32 (get_or words 0 0);
  b = number ty.I32 (get_or words 1 0);
  c = number ty.I32 (get_or words 2 0);
}

-- the coordinate that index registers name
abbrev pub named_by : List ℕ → Moved → Coord
named_by index now = coord_of (map now.regs index)

-- the place where an index word, as I32, is from 0 to below the extent, else none
abbrev pub check : ℕ → ℕ → Option Place → Option Place
check extent word place = if is_on_axis extent (number ty.I32 word) then place else None

-- the node with this number, from 1
abbrev pub node_in : List NodeShape → ℕ → Option NodeShape
node_in nodes zero = None
node_in nodes (suc before) = slice_get nodes before

-- the node with this number, from 1, of the layout with that number, counted from 0; none if either isn't there
abbrev pub node_of : List Shape → ℕ → ℕ → Option NodeShape
node_of shapes layout number = option_and_then (λ (shape : Shape). node_in shape.nodes number) (slice_get shapes layout)

-- one step down at a node that may be there: none if it isn't, and where the offset isn't below the node's size
abbrev pub add_offset : ℕ → Place → Option NodeShape → Option Place
add_offset offset place None = None
add_offset offset place (Some node) =
    if nat_lt offset (size_of node.sizes) then Some (record { layout = place.layout; path = place.path ++ offset ∷ [] }) else None

-- one step down at the node with this number of the place's layout; none stays none. What is live has no part in it
abbrev pub down : List Shape → ℕ → ℕ → Option Place → Option Place
down shapes node offset place = option_and_then (λ (there : Place). add_offset offset there (node_of shapes there.layout node)) place

-- the coordinate of a whole path; none has none
abbrev pub at_of : List Shape → Option Place → Option Coord
at_of shapes place = option_and_then (λ (there : Place). option_map (λ shape. coordinate_of shape there.path) (slice_get shapes there.layout)) place

-- the value of a field at a coordinate that may be there; 0 if it isn't
abbrev pub cell_value : Seen → ℕ → ℕ → Option Coord → ℕ
cell_value seen layout field None = 0
cell_value seen layout field (Some at) = flat.value_of seen.shapes seen.state layout field at

-- the coordinate of a place is active in its layout at the start of the run; none isn't
abbrev pub is_active_place : Seen → Option Coord → Option Place → Bool
is_active_place seen None there = false
is_active_place seen (Some at) None = false
is_active_place seen (Some at) (Some there) = is_active seen.state there.layout at

-- a write that is no contribution
abbrev pub is_own : Way → Bool
is_own Own = true
is_own (Acc op) = false

-- the last own write to a field among the writes so far
abbrev pub own_write : ℕ → ℕ → List CodeWrite → Option CodeWrite
own_write layout field writes = find (λ write. is_own write.way && ((write.layout == layout) && (write.field == field))) (reverse writes)

-- the value of an own write, or the given value if there is no such write
abbrev pub value_or_own : Option CodeWrite → ℕ → ℕ
value_or_own None value = value
value_or_own (Some write) value = write.value

-- the iteration's own cell: the last own value where this run has own-written the field, else the state's value
abbrev pub own_value : Seen → ℕ → ℕ → Moved → ℕ
own_value seen layout field now = value_or_own (own_write layout field now.writes) (flat.value_of seen.shapes seen.state layout field seen.at)

-- what an instruction makes of how far a run has come
abbrev pub InstAction : Type 0
InstAction = Moved → Moved

-- one after the other
abbrev pub actions_in_turn : List InstAction → InstAction
actions_in_turn actions now = fold (λ reached action. action reached) now actions

-- One layer of an instruction, where it is given what the instructions in it do.
abbrev pub inst_step : Seen → Inst-F InstAction → InstAction
inst_step seen (i.Const to word) now = set_reg to word now
inst_step seen (i.Var to var) now = set_reg to (now.vars var) now
inst_step seen (i.Set var from) now = set_var_word var (now.regs from) now
inst_step seen (i.Bin to op given a b) now = set_reg to (applied op given (now.regs a) (now.regs b)) now
inst_step seen (i.Un to op given a) now = set_reg to (applied_un op (now.regs a)) now
inst_step seen (i.Mulq to a b s) now = set_reg to (mulq_of (now.regs a) (now.regs b) (now.regs s)) now
inst_step seen (i.Root to layout) now = set_place to layout (Some (record { layout = layout; path = [] })) now
inst_step seen (i.Check to place axis extent index) now = set_place to (now.roots place) (check extent (now.regs index) (now.places place)) now
inst_step seen (i.Extract to div size from) now = set_reg to (now.regs from / div % size) now
inst_step seen (i.Offset to high size low) now = set_reg to ((now.regs high * size + now.regs low) % 2 ^ 32) now
inst_step seen (i.Child to place node offset) now = set_place to (now.roots place) (down seen.shapes node (now.regs offset) (now.places place)) now
inst_step seen (i.HashChild to place node offset) now = set_place to (now.roots place) (down seen.shapes node (now.regs offset) (now.places place)) now
inst_step seen (i.MaskBit to place node offset) now = set_place to (now.roots place) (down seen.shapes node (now.regs offset) (now.places place)) now
inst_step seen (i.DynCell to place node offset) now = set_place to (now.roots place) (down seen.shapes node (now.regs offset) (now.places place)) now
inst_step seen (i.ReadCell to place layout field index) now =
    set_reg to (cell_value seen layout field (at_of seen.shapes (now.places place)))
    (add_access (record { asks = false; layout = layout; place = now.places place; at = named_by index now }) now)
inst_step seen (i.IsActive to place index) now =
    set_reg to (flag (is_active_place seen (at_of seen.shapes (now.places place)) (now.places place)))
    (add_access (record { asks = true; layout = now.roots place; place = now.places place; at = named_by index now }) now)
inst_step seen (i.OwnRead to layout field) now = set_reg to (own_value seen layout field now) now
inst_step seen (i.OwnWrite layout field from stmt) now =
    add_code_write (record { layout = layout; field = field; stmt = stmt; at = Some seen.at; way = Own; value = now.regs from }) now
inst_step seen (i.Acc op layout field place from index stmt) now =
    add_code_write (record { layout = layout; field = field; stmt = stmt; at = at_of seen.shapes (now.places place); way = Acc op; value = now.regs from })
    (add_access (record { asks = false; layout = layout; place = now.places place; at = named_by index now }) now)
inst_step seen (i.Want layout index stmt) now = add_want (record { layout = layout; stmt = stmt; at = named_by index now }) now
inst_step seen (i.If cond block otherwise) now = actions_in_turn (if now.regs cond == 0 then otherwise else block) now
inst_step seen (i.For var lo hi body) now = fold (λ reached turn. actions_in_turn body (set_var_word var (word_of turn) reached)) now (numbers lo hi)

-- what an instruction does
abbrev pub does : Seen → Inst → InstAction
does seen = fold-Inst InstAction (inst_step seen)

-- a run of a block
abbrev pub runs : Seen → List Inst → InstAction
runs seen block now = actions_in_turn (map (does seen) block) now

-- the words of a coordinate's parts
abbrev pub part_words : Coord → List ℕ
part_words at = take at.n (word_of at.a ∷ word_of at.b ∷ word_of at.c ∷ [])

-- the start of an iteration: the loop's variables have the coordinate's parts, and all else is 0 or none
abbrev pub iteration_start : Seen → Moved
iteration_start seen = record {
  regs = λ reg. 0;
  places = λ place. None;
  roots = λ place. 0;
  vars = λ var. get_or (part_words seen.at) var 0;
  writes = [];
  wants = [];
  accesses = [];
}

-- a run from the start of an iteration
abbrev pub iteration : Seen → List Inst → Moved
iteration seen block = runs seen block (iteration_start seen)
