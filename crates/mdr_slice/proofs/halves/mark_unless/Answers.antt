use Rattle.mdr_slice.proofs.HalvesLaws.{adds_skipped}
use Rattle.mdr_slice.proofs.halves.mark_unless.Goals as goal

pub returns-then-kernel : goal.returns-then-kernel
returns-then-kernel c = adds_skipped c.args.marks.now.items c.args.nodes.now c.args.kernel c.if-kernel.true
