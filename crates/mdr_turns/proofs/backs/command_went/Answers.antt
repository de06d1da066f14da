use Rattle.std.proofs.Common.{drop, subst, sym}
use Rattle.mdr_split.specs.Kernel.{went}
use Rattle.mdr_split.specs.State.{Commanded}
use Rattle.mdr_watch.specs.Watching.{driver_in}
use Rattle.mdr_whole.specs.declared.paused.Went.{Went}
use Rattle.mdr_turns.specs.Coming.{ComesTo, came}
use Rattle.mdr_turns.specs.States.{kernel_with}
use Rattle.mdr_turns.proofs.backs.command_went.Goals as goal

pub returns-in-Ok-clause-comes : goal.returns-in-Ok-clause-comes
returns-in-Ok-clause-comes c = λ script before go.
    subst (λ (g : Went). ComesTo (driver_in c.args.watch) c.in-Ok.pending script (went (driver_in c.args.watch) Commanded (came (driver_in c.args.watch) g c.args.between.world.world) (kernel_with c.args.between.ledger before) go (drop c.args.begun script)))
    (sym c.in-Calls.is) (c.in-Ok.ensures.comes script before go)
