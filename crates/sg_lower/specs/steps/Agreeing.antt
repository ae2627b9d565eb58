-- What a run of code agrees on with a moment of its iteration.
use Rattle.std.specs.Prelude.{◌≡◌, ℕ, ◌<◌, false, if◌then◌else◌, List, [], map, length, get_or, slice_get, Option, Some, None, All}
use Rattle.sg_words.specs.declared.operators.Ty.{Ty}
use Rattle.sg_words.specs.declared.operators.BinOp.{BinOp}
use Rattle.sg_words.specs.declared.operators.UnOp.{UnOp}
use Rattle.sg_words.specs.WordLaws.{IsWord, AppliedIsWord, AppliedUnIsWord, MulqIsWord}
use Rattle.sg_coord.specs.declared.coord.Coord.{Coord}
use Rattle.sg_layout.specs.declared.shape.Shape.{Shape}
use Rattle.sg_flat.specs.declared.effects.Write.{Write}
use Rattle.sg_flat.specs.State as flat
use Rattle.sg_flat.specs.Kernel.{is_inside_of}
use Rattle.sg_types.specs.declared.typed.TypedExpr.{TypedExpr}
use Rattle.sg_types.specs.Values.{World, Moment, coord_of, own_write, expr_word}
use Rattle.sg_types.specs.declared.typed.TypedStmt.{TypedStmt}
use Rattle.sg_types.specs.Iterations.{part_words, first_moment, run_all, action_of}
use Rattle.sg_ir.specs.declared.code.Inst.{Inst}
use Rattle.sg_ir.specs.declared.names.Names.{Names}
use Rattle.sg_ir.specs.Runs.{Seen, CodeWrite, CodeWant, Moved, at_of, runs, iteration}
use Rattle.sg_ir.specs.Places.{place_at}
use Rattle.sg_ir.specs.Named.{AreNamed}
use Rattle.sg_ir.specs.Emits.{Extends}
use Rattle.sg_lower.specs.Lowered.{code_write, want_of}
use Rattle.sg_flat.specs.Domain.{is_active}
use Rattle.sg_lower.specs.steps.Basis.{Basis, is_owned}

-- what code tells of the writes so far: in a slice wants, else writes
abbrev pub told_writes : Basis → List Write → List CodeWrite
told_writes basis writes = if basis.slicing then [] else map (code_write basis.shapes) writes

-- the wants that code tells for the writes so far; none if no slice is lowered
abbrev pub told_wants : Basis → List Write → List CodeWant
told_wants basis writes = if basis.slicing then map want_of writes else []

-- a coordinate's place has this coordinate, if it is inside
abbrev pub inside_or_none : List Shape → ℕ → Coord → Option Coord
inside_or_none shapes layout at = if is_inside_of (slice_get shapes layout) at then Some at else None

-- a world over these layouts in which values are words and nothing outside is active, and what holds of every world: operators give
-- words, and a coordinate inside is that of its place
pub record IsWorld (shapes : List Shape) (world : World) : Type 0 where
  pub shapes_are : world.shapes ≡ shapes
  pub applied : (op : BinOp) (given : Ty) (a b : ℕ) → AppliedIsWord op given a b
  pub applied_un : (op : UnOp) (a : ℕ) → AppliedUnIsWord op a
  pub mulq : (a b s : ℕ) → MulqIsWord a b s
  pub small : (layout place : ℕ) (at : Coord) → IsWord (flat.value_of world.shapes world.state layout place at)
  pub reached : (layout : ℕ) (at : Coord) → at_of world.shapes (place_at world.shapes layout at) ≡ inside_or_none world.shapes layout at
  pub inside : (layout : ℕ) (at : Coord) → is_inside_of (slice_get world.shapes layout) at ≡ false → is_active world.state layout at ≡ false

-- a coordinate with so many parts, all of them numbers of words
pub record IsPoint (vars : ℕ) (at : Coord) : Type 0 where
  pub parts : length (part_words at) ≡ vars
  pub whole : coord_of (part_words at) ≡ at
  pub small : (var : ℕ) → IsWord (get_or (part_words at) var 0)

-- what the iteration at this coordinate sees of a world
abbrev pub seen_of : World → Coord → Seen
seen_of world at = record { shapes = world.shapes; state = world.state; at = at }

-- how far a run of code has come is how far its iteration has
pub record AgreesWithIteration (basis : Basis) (at : Coord) (now : Moment) (moved : Moved) : Type 0 where
  pub vars : (var : ℕ) → moved.vars var ≡ now.words var
  pub writes : moved.writes ≡ told_writes basis now.writes
  pub wants : moved.wants ≡ told_wants basis now.writes
  pub named : AreNamed basis.shapes moved.accesses
  pub loop : (var : ℕ) → var < basis.vars → now.words var ≡ get_or (part_words at) var 0
  pub others : (layout place : ℕ) → is_owned basis.owned layout place ≡ false → own_write layout place now.writes ≡ None
  pub small_vars : (var : ℕ) → IsWord (now.words var)
  pub small_writes : basis.slicing ≡ false → All (λ write. IsWord write.value) now.writes

-- a run agrees, and a register holds a word
pub record Shows (basis : Basis) (at : Coord) (now : Moment) (moved : Moved) (to word : ℕ) : Type 0 where
  pub agrees : AgreesWithIteration basis at now moved
  pub holds : moved.regs to ≡ word
  pub small : IsWord word

-- a run agrees, and registers hold words
pub record ShowsAll (basis : Basis) (at : Coord) (now : Moment) (moved : Moved) (regs words : List ℕ) : Type 0 where
  pub agrees : AgreesWithIteration basis at now moved
  pub hold : map moved.regs regs ≡ words
  pub small : All IsWord words

-- the block after has a register with the word of the expression
pub record Values (basis : Basis) (expr : TypedExpr) (to : ℕ) (old new : Names) (before after : List Inst) : Type 0 where
  pub extends : Extends basis.shapes old new before after
  pub named : to < length new.regs
  pub value : (world : World) → IsWorld basis.shapes world → (at : Coord) → IsPoint basis.vars at → (now : Moment) (start : Moved)
      → AgreesWithIteration basis at now (runs (seen_of world at) before start)
      → Shows basis at now (runs (seen_of world at) after start) to (expr_word world now expr)

-- a register for each expression
pub record AllValues (basis : Basis) (exprs : List TypedExpr) (regs : List ℕ) (old new : Names) (before after : List Inst) : Type 0 where
  pub extends : Extends basis.shapes old new before after
  pub named : All (λ r. r < length new.regs) regs
  pub values : (world : World) → IsWorld basis.shapes world → (at : Coord) → IsPoint basis.vars at → (now : Moment) (start : Moved)
      → AgreesWithIteration basis at now (runs (seen_of world at) before start)
      → ShowsAll basis at now (runs (seen_of world at) after start) regs (map (expr_word world now) exprs)

-- the block after does what an action does
abbrev pub Steps : Basis → (World → Moment → Moment) → List Inst → List Inst → Type 0
Steps basis action before after = (world : World) → IsWorld basis.shapes world → (at : Coord) → IsPoint basis.vars at → (now : Moment) (start : Moved)
    → AgreesWithIteration basis at now (runs (seen_of world at) before start) → AgreesWithIteration basis at (action world now) (runs (seen_of world at) after start)

-- from the start of an iteration the code agrees with what the statements do
abbrev pub Tells : Basis → List TypedStmt → List Inst → Type 0
Tells basis stmts block = (world : World) → IsWorld basis.shapes world → (at : Coord) → IsPoint basis.vars at
    → AgreesWithIteration basis at (run_all (map (action_of world) stmts) (first_moment at)) (iteration (seen_of world at) block)
