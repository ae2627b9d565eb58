use Rattle.sg_session.proofs.KernelLines.{codes_next}
use Rattle.sg_session.proofs.lowered.push_codes.Goals as goal

pub loop-number-preserved : goal.loop-number-preserved
loop-number-preserved c = record {
  lines = codes_next c.args.names.now.kernels c.args.kernels.now c.loop-number.number c.kernel_name-name.result.now c.index-kernels-number.result c.loop-number.bytes.items c.push_code.new.bytes.items _
      c.kernel_name-name.ensures c.loop-number-test.true c.index-kernels-number.is c.in_ok-push_code.ensures c.loop-number.invariant.lines;
  many = c.loop-number.invariant.many;
}
