use Rattle.std.proofs.Common.{arith, drop, subst, sym}
use Rattle.mdr_split.specs.Kernel.{split_commands}
use Rattle.mdr_watch.specs.Watching.{driver_in}
use Rattle.mdr_turns.specs.Coming.{ComesTo}
use Rattle.mdr_turns.specs.States.{kernel_at}
use Rattle.mdr_turns.proofs.Stepping.{ends_so}
use Rattle.mdr_turns.proofs.script.do_commands.Goals as goal

pub returns-clause-comes : goal.returns-clause-comes
returns-clause-comes c =
    subst (λ x. ComesTo (driver_in c.args.watch) x c.args.script.now (split_commands (driver_in c.args.watch) (drop c.args.from c.args.script.now) (kernel_at c.args.between))) (sym c.over.ensures)
    (ends_so (driver_in c.args.watch) c.args.script.now c.loop-i.i c.loop-i.between _ (omega (arith, c.loop-i-test.false)) c.loop-i.invariant.same)
