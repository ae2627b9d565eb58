-- Worked iterations.
use Rattle.std.specs.Prelude.{◌≡◌, ℕ, true, pos, negsuc, List, [], ◌∷◌, map}
use Rattle.sg_words.specs.declared.operators.Ty.TheVariants as ty
use Rattle.sg_words.specs.declared.operators.BinOp.{BinOp}
use Rattle.sg_words.specs.declared.operators.BinOp.TheVariants as b
use Rattle.sg_words.specs.declared.operators.AccOp.TheVariants as acc
use Rattle.sg_coord.specs.declared.coord.Coord.{Coord}
use Rattle.sg_layout.specs.Examples.{at1, line_of_four}
use Rattle.sg_flat.specs.Examples.{state1}
use Rattle.sg_flat.specs.declared.effects.Way.{Way}
use Rattle.sg_flat.specs.declared.effects.Way.TheVariants.{Own, Acc}
use Rattle.sg_flat.specs.declared.effects.Write.{Write}
use Rattle.sg_types.specs.declared.typed.TypedExpr.{TypedExpr}
use Rattle.sg_types.specs.declared.typed.Form.TheVariants as form
use Rattle.sg_types.specs.declared.typed.TypedKind.TheVariants as kind
use Rattle.sg_types.specs.declared.typed.TypedStmt.{TypedStmt}
use Rattle.sg_types.specs.declared.typed.TypedDomain.TheVariants as domain
use Rattle.sg_types.specs.declared.typed.TypedKernel.{TypedKernel}
use Rattle.std.proofs.Common.{refl, sym, ap, ◌∙◌}
use Rattle.sg_flat.specs.declared.effects.Effects.{Effects}
use Rattle.sg_types.specs.Values.{World, Moment}
use Rattle.sg_types.specs.Iterations.{run_all, action_of, first_moment, writes_at, kernel_effects}
use Rattle.sg_types.proofs.FormWords.{value-Literal, value-Var, value-Read, value-Bin, action-Let, action-Assign, action-Write, action-If, action-For}

-- one layout of four points with one field, whose value is 7 at the point 1
abbrev world : World
world = record { shapes = line_of_four ∷ []; state = state1 (map at1 (0 ∷ 1 ∷ 2 ∷ 3 ∷ [])) ((1, 7) ∷ []) }

abbrev literal : ℕ → TypedExpr
literal word = record { ty = ty.I32; form = form.Literal word }

abbrev var : ℕ → TypedExpr
var n = record { ty = ty.I32; form = form.Var n }

abbrev bin : BinOp → TypedExpr → TypedExpr → TypedExpr
bin op left right = record { ty = ty.I32; form = form.Bin op left right }

abbrev read : TypedExpr → TypedExpr
read at = record { ty = ty.I32; form = form.Read 0 0 (at ∷ []) }

abbrev write : Way → TypedExpr → TypedExpr → ℕ → TypedStmt
write way at value n = record { number = n; kind = kind.Write 0 0 (at ∷ []) way value }

abbrev written : ℕ → Coord → Way → ℕ → Write
written n at way value = record { layout = 0; place = 0; stmt = n; at = at; way = way; value = value }

-- a kernel over the points from 0 up to below 2
abbrev kernel : List TypedStmt → TypedKernel
kernel body = record {
  vars = 1;
  domain = domain.Ranges (record { lo = literal 0; hi = literal 2 } ∷ []);
  types = ty.I32 ∷ ty.I32 ∷ ty.I32 ∷ [];
  body = body;
}

-- the writes of a moment, as a word that stays
seen : Moment → List Write
seen now = now.writes

seen-at : (now : Moment) → seen now ≡ now.writes
unfolding seen
seen-at now = refl

abbrev reach : List TypedStmt → Coord → Moment
reach body at = run_all (map (action_of world) body) (first_moment at)

shown : (body : List TypedStmt) (at : Coord) (writes : List Write) → seen (reach body at) ≡ writes → writes_at world (kernel body) at ≡ writes
shown body at writes h = sym (seen-at (reach body at)) ∙ h

-- `F[i] = i * i; F[i] = F[i] + 1;`: the second statement sees the first
abbrev own_value_is_seen_body : List TypedStmt
own_value_is_seen_body = write Own (var 0) (bin b.Mul (var 0) (var 0)) 1 ∷ write Own (var 0) (bin b.Add (read (var 0)) (literal 1)) 2 ∷ []

own_value_is_seen : writes_at world (kernel own_value_is_seen_body) (at1 3) ≡ written 1 (at1 3) Own 9 ∷ written 2 (at1 3) Own 10 ∷ []
own_value_is_seen = shown own_value_is_seen_body (at1 3) (written 1 (at1 3) Own 9 ∷ written 2 (at1 3) Own 10 ∷ []) (simp (value-Literal world, value-Var world, value-Read world, value-Bin world, action-Let world, action-Assign world, action-Write world, action-If world, action-For world) (seen-at _))

-- `F[i + 1] += F[1]; F[i] = F[i] + 1;`: both reads see the state, also after a contribution
abbrev state_is_seen_body : List TypedStmt
state_is_seen_body = write (Acc acc.Add) (bin b.Add (var 0) (literal 1)) (read (literal 1)) 1 ∷ write Own (var 0) (bin b.Add (read (var 0)) (literal 1)) 2 ∷ []

state_is_seen : writes_at world (kernel state_is_seen_body) (at1 1) ≡ written 1 (at1 2) (Acc acc.Add) 7 ∷ written 2 (at1 1) Own 8 ∷ []
state_is_seen = shown state_is_seen_body (at1 1) (written 1 (at1 2) (Acc acc.Add) 7 ∷ written 2 (at1 1) Own 8 ∷ []) (simp (value-Literal world, value-Var world, value-Read world, value-Bin world, action-Let world, action-Assign world, action-Write world, action-If world, action-For world) (seen-at _))

-- a read outside gives 0, and a write outside stands among the writes
abbrev outside_body : List TypedStmt
outside_body = write Own (bin b.Sub (var 0) (literal 1)) (read (bin b.Sub (var 0) (literal 1))) 1 ∷ []

outside : writes_at world (kernel outside_body) (at1 0) ≡ written 1 (record { n = 1; a = negsuc 0; b = pos 0; c = pos 0 }) Own 0 ∷ []
outside = shown outside_body (at1 0) (written 1 (record { n = 1; a = negsuc 0; b = pos 0; c = pos 0 }) Own 0 ∷ []) (simp (value-Literal world, value-Var world, value-Read world, value-Bin world, action-Let world, action-Assign world, action-Write world, action-If world, action-For world) (seen-at _))

-- `if i == 1 { F[0] += 5; } else { F[0] += 6; }`
abbrev branch : List TypedStmt
branch = record { number = 1; kind = kind.If (bin b.Eq (var 0) (literal 1)) (write (Acc acc.Add) (literal 0) (literal 5) 2 ∷ []) (write (Acc acc.Add) (literal 0) (literal 6) 3 ∷ []) true } ∷ []

first_branch : writes_at world (kernel branch) (at1 1) ≡ written 2 (at1 0) (Acc acc.Add) 5 ∷ []
first_branch = shown branch (at1 1) (written 2 (at1 0) (Acc acc.Add) 5 ∷ []) (simp (value-Literal world, value-Var world, value-Read world, value-Bin world, action-Let world, action-Assign world, action-Write world, action-If world, action-For world) (seen-at _))

second_branch : writes_at world (kernel branch) (at1 0) ≡ written 3 (at1 0) (Acc acc.Add) 6 ∷ []
second_branch = shown branch (at1 0) (written 3 (at1 0) (Acc acc.Add) 6 ∷ []) (simp (value-Literal world, value-Var world, value-Read world, value-Bin world, action-Let world, action-Assign world, action-Write world, action-If world, action-For world) (seen-at _))

-- `let s = 0; for k in 0..4 { s = s + k; } F[i] = s;`
abbrev summed_body : List TypedStmt
summed_body =
    record { number = 1; kind = kind.Let 1 (literal 0) }
    ∷ record { number = 2; kind = kind.For 2 (record { lo = literal 0; hi = literal 4 }) (record { number = 3; kind = kind.Assign 1 (bin b.Add (var 1) (var 2)) } ∷ []) }
    ∷ write Own (var 0) (var 1) 4 ∷ []

summed : writes_at world (kernel summed_body) (at1 2) ≡ written 4 (at1 2) Own 6 ∷ []
summed = shown summed_body (at1 2) (written 4 (at1 2) Own 6 ∷ []) (simp (value-Literal world, value-Var world, value-Read world, value-Bin world, action-Let world, action-Assign world, action-Write world, action-If world, action-For world) (seen-at _))

-- all iterations of `F[i] = i + 1;`, in row order
abbrev more : List TypedStmt
more = write Own (var 0) (bin b.Add (var 0) (literal 1)) 1 ∷ []

more_at_0 : writes_at world (kernel more) (at1 0) ≡ written 1 (at1 0) Own 1 ∷ []
more_at_0 = shown more (at1 0) (written 1 (at1 0) Own 1 ∷ []) (simp (value-Literal world, value-Var world, value-Read world, value-Bin world, action-Let world, action-Assign world, action-Write world, action-If world, action-For world) (seen-at _))

more_at_1 : writes_at world (kernel more) (at1 1) ≡ written 1 (at1 1) Own 2 ∷ []
more_at_1 = shown more (at1 1) (written 1 (at1 1) Own 2 ∷ []) (simp (value-Literal world, value-Var world, value-Read world, value-Bin world, action-Let world, action-Assign world, action-Write world, action-If world, action-For world) (seen-at _))

two_turns : List Write → List Write → Effects
two_turns first second = record { turns = record { at = at1 0; writes = first } ∷ record { at = at1 1; writes = second } ∷ [] }

turns : kernel_effects world (kernel more) ≡ two_turns (writes_at world (kernel more) (at1 0)) (writes_at world (kernel more) (at1 1))
unfolding two_turns
turns = simp (value-Literal world)

both_points : kernel_effects world (kernel more) ≡ two_turns (written 1 (at1 0) Own 1 ∷ []) (written 1 (at1 1) Own 2 ∷ [])
both_points = turns ∙ (ap (λ (writes : List Write). two_turns writes (writes_at world (kernel more) (at1 1))) more_at_0 ∙ ap (two_turns (written 1 (at1 0) Own 1 ∷ [])) more_at_1)
