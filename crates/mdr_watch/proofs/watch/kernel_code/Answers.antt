use Rattle.std.proofs.Common.{true, ap, ◌∙◌}
use Rattle.mdr_exec.specs.declared.frame.Side.TheVariants as which
use Rattle.mdr_exec.specs.Halves.{side_in}
use Rattle.mdr_runs.specs.Following.{code_by}
use Rattle.mdr_watch.proofs.Sides.{kernel_is}
use Rattle.mdr_watch.proofs.watch.kernel_code.Goals as goal

pub returns-clause-code : goal.returns-clause-code
returns-clause-code c =
    ap (λ hs. code_by c.args.watch.program.now true (side_in which.Kernel hs c.args.watch.program.now)) c.as_slice.ensures
    ∙ ap (code_by c.args.watch.program.now true) (kernel_is c.args.watch.program.now c.args.watch.plan.now c.requires)
