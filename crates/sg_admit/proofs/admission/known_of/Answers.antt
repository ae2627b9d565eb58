use Rattle.std.proofs.Common.{ℕ, List, ◌++◌, ap, subst, ◌∙◌, refl}
use Rattle.sg_types.specs.declared.typed.TypedStmt.{TypedStmt}
use Rattle.sg_admit.specs.declared.ways.FieldWay.{FieldWay}
use Rattle.sg_admit.specs.Lines.{nothing_round, block_lines}
use Rattle.sg_admit.specs.Rules.{ways_in}
use Rattle.sg_admit.specs.steps.Noting.{AreAlike, IsNoted, loops_in}
use Rattle.sg_admit.specs.steps.Hanging.{IsLeastGiven}
use Rattle.sg_admit.proofs.Admitting.{facts_are}
use Rattle.sg_admit.proofs.admission.known_of.Goals as goal

pub returns : goal.returns
returns c =
    let kernel = c.args.kernel.now in
    let text = c.block.new.self in
    let noted = subst (λ (stmts : List TypedStmt). IsNoted (block_lines stmts nothing_round) (record { writes = c.new.result; loops = c.new-2.result; ifs = 1 }) text) c.as_slice.ensures (c.in_ok-block.ensures nothing_round) in
    let alike = subst (λ (front : List FieldWay). AreAlike text.writes (front ++ ways_in (block_lines kernel.body nothing_round))) c.new.ensures noted.writes in
    let least = subst (λ (stmts : List TypedStmt). IsLeastGiven text.writes (block_lines stmts nothing_round) c.in_ok-dirty.dirty) c.as_slice-2.ensures c.in_ok-dirty.ensures in (
      facts_are kernel (record { ways = text.writes; dirty = c.in_ok-dirty.dirty; vars = kernel.vars; walked = c.walked_by.result }) alike refl c.walked_by.ensures (record { given = least.given; least = least.least }),
      noted.loops ∙ ap (λ (front : List ℕ). front ++ loops_in (block_lines kernel.body nothing_round)) c.new-2.ensures,
    )
