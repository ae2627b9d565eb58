use Rattle.std.proofs.Common.{refl, arith}
use Rattle.sg_exec.proofs.BoxPoints.{in_line, next_line, next_plane}
use Rattle.sg_exec.proofs.workers.region.Region.next.Goals as goal

pub returns-then-along-self : goal.returns-then-along-self
returns-then-along-self c = λ k far. in_line c.args.self k c.args.along _ far refl refl refl (omega arith)

pub returns-then-along-self-2 : goal.returns-then-along-self-2
returns-then-along-self-2 c = λ k far. next_line c.args.self k c.args.along _ far refl refl refl (omega (arith, c.requires.cell_low)) (omega arith)

pub returns : goal.returns
returns c = λ k far. next_plane c.args.self k c.args.along _ far refl refl refl (omega (arith, c.requires.cell_low)) (omega (arith, c.requires.line_low))
