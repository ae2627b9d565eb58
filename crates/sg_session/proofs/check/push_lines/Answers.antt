use Rattle.sg_session.proofs.KernelLines.{lines_next}
use Rattle.sg_session.proofs.check.push_lines.Goals as goal

pub loop-number-preserved : goal.loop-number-preserved
loop-number-preserved c = record {
  lines = lines_next c.args.names.now.kernels c.args.neutral.now c.loop-number.number c.kernel_name.result.now _ c.loop-number.bytes.items c.push_line.new.bytes.items _
      c.kernel_name.ensures c.loop-number-test.true c.in_ok-push_line.ensures c.loop-number.invariant.lines;
  many = c.loop-number.invariant.many;
}
