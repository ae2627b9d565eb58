-- What an iteration writes, and the effects of all iterations of a kernel.
use Rattle.std.specs.Prelude.{ℕ, ◌==◌, if◌then◌else◌, List, [], ◌∷◌, ◌++◌, map, fold, get_or, take, ℤ}
use Rattle.sg_words.specs.declared.operators.Ty.TheVariants as ty
use Rattle.sg_words.specs.Words.{number, word_of}
use Rattle.sg_coord.specs.declared.coord.Coord.{Coord}
use Rattle.sg_flat.specs.declared.effects.Domain.{Domain}
use Rattle.sg_flat.specs.declared.effects.Domain.TheVariants.{Walk, Range}
use Rattle.sg_flat.specs.declared.effects.Write.{Write}
use Rattle.sg_flat.specs.declared.effects.Effects.{Effects}
use Rattle.sg_flat.specs.Domain.{numbers, domain_points}
use Rattle.sg_types.specs.declared.typed.TypedRange.{TypedRange}
use Rattle.sg_types.specs.declared.typed.TypedKind.TheOpen as k
use Rattle.sg_types.specs.declared.typed.TypedKind.TheOpen.{TypedKind-F, TypedStmt-F}
use Rattle.sg_types.specs.declared.typed.TypedStmt.{TypedStmt, fold-TypedStmt}
use Rattle.sg_types.specs.declared.typed.TypedDomain.{TypedDomain}
use Rattle.sg_types.specs.declared.typed.TypedDomain.TheVariants as domain
use Rattle.sg_types.specs.declared.typed.TypedKernel.{TypedKernel}
use Rattle.sg_types.specs.Values.{World, Moment, coord_of, expr_word}

-- a variable gets a word
abbrev pub set_var : ℕ → ℕ → Moment → Moment
set_var var word now = record { words = λ other. if other == var then word else now.words other; writes = now.writes }

-- a write is made
abbrev pub add_write : Write → Moment → Moment
add_write write now = record { words = now.words; writes = now.writes ++ write ∷ [] }

-- what a statement makes of a moment
abbrev pub StmtAction : Type 0
StmtAction = Moment → Moment

-- statements one after the other
abbrev pub run_all : List StmtAction → StmtAction
run_all actions now = fold (λ reached action. action reached) now actions

-- the numbers of a range, whose bounds are evaluated at the moment
abbrev pub range_numbers : World → Moment → TypedRange → List ℤ
range_numbers world now range = numbers (number ty.I32 (expr_word world now range.lo)) (number ty.I32 (expr_word world now range.hi))

-- One layer of a statement, where its number and what the statements in it do are given. The bounds of an inner loop are
-- evaluated once, before its first turn.
abbrev pub kind_step : World → TypedKind-F (ℕ → StmtAction) StmtAction → ℕ → StmtAction
kind_step world (k.Let var value) stmt now = set_var var (expr_word world now value) now
kind_step world (k.Assign var value) stmt now = set_var var (expr_word world now value) now
kind_step world (k.Write layout place index way value) stmt now =
    add_write (record {
      layout = layout;
      place = place;
      stmt = stmt;
      at = coord_of (map (expr_word world now) index);
      way = way;
      value = expr_word world now value;
    }) now
kind_step world (k.If condition block otherwise has_else) stmt now =
    run_all (if expr_word world now condition == 0 then otherwise else block) now
kind_step world (k.For var range body) stmt now =
    fold (λ reached turn. run_all body (set_var var (word_of turn) reached)) now (range_numbers world now range)

-- what a statement does
abbrev pub action_of : World → TypedStmt → StmtAction
action_of world = fold-TypedStmt (ℕ → StmtAction) StmtAction (kind_step world) (λ stmt. stmt.kind stmt.number)

-- the words of a coordinate's parts
abbrev pub part_words : Coord → List ℕ
part_words at = take at.n (word_of at.a ∷ word_of at.b ∷ word_of at.c ∷ [])

-- the start of the iteration at a coordinate: the loop's variables have its parts, and all else is 0
abbrev pub first_moment : Coord → Moment
first_moment at = record { words = λ var. get_or (part_words at) var 0; writes = [] }

-- the writes of the iteration at a coordinate, in order of execution
abbrev pub writes_at : World → TypedKernel → Coord → List Write
writes_at world kernel at = (run_all (map (action_of world) kernel.body) (first_moment at)).writes

-- a moment before any iteration, at which the bounds of the kernel's loop are evaluated
abbrev pub before_all : Moment
before_all = record { words = λ var. 0; writes = [] }

-- the points that the loop visits: those of the walked layout, or the box of the bounds' values
abbrev pub domain_of : World → TypedDomain → Domain
domain_of world (domain.Walk layout) = Walk layout
domain_of world (domain.Ranges ranges) =
    Range (coord_of (map (λ range. expr_word world before_all range.lo) ranges)) (coord_of (map (λ range. expr_word world before_all range.hi) ranges))

-- the effects of all iterations, each at the state at the start, in row order of their coordinates
abbrev pub kernel_effects : World → TypedKernel → Effects
kernel_effects world kernel = record {
  turns = map (λ at. record { at = at; writes = writes_at world kernel at }) (domain_points world.state (domain_of world kernel.domain));
}
