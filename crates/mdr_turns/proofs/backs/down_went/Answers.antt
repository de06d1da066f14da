use Rattle.std.proofs.Common.{IfOk, subst, sym}
use Rattle.mdr_watch.specs.Watching.{driver_in}
use Rattle.mdr_whole.specs.declared.paused.Went.{Went}
use Rattle.mdr_turns.specs.Coming.{DownGoes, came}
use Rattle.mdr_turns.proofs.backs.down_went.Goals as goal

pub returns-in-Calls-clause-comes : goal.returns-in-Calls-clause-comes
returns-in-Calls-clause-comes c =
    subst (λ (g : Went). IfOk c.down_calls-pending.result (λ p. DownGoes (driver_in c.args.watch) p c.args.active c.args.crossing (came (driver_in c.args.watch) g c.args.active.guarded.world)))
    (sym c.in-Calls.is) c.down_calls-pending.ensures.comes
