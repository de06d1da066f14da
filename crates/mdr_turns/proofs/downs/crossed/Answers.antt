use Rattle.std.proofs.Common.{subst}
use Rattle.std.proofs.lemmas.Result.{IfOk-weaker}
use Rattle.mdr_watch.specs.Watching.{driver_in}
use Rattle.mdr_turns.specs.Coming.{DownGoes}
use Rattle.mdr_turns.proofs.Behind.{behind_stays}
use Rattle.mdr_turns.proofs.downs.crossed.Goals as goal

pub down_went-requires-clause-active : goal.down_went-requires-clause-active
down_went-requires-clause-active c = record {
  same = c.in-Ok.ensures.kept;
  passes = c.requires.active.passes;
  behind = behind_stays c.args.watch.program.now c.args.active.guarded.world c.enter_below.new.guarded.world c.args.active.behind c.in-Ok.ensures.stays c.requires.active.behind;
}

pub returns-in-Ok-clause-comes : goal.returns-in-Ok-clause-comes
returns-in-Ok-clause-comes c =
    IfOk-weaker c.down_went.result _ _
    (λ p h. subst (λ x. DownGoes (driver_in c.args.watch) p c.args.active c.args.crossing x) c.in-Ok.ensures.went h)
    c.down_went.ensures.comes
