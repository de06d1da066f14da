use Rattle.std.proofs.Common.{◌∙◌, subst}
use Rattle.mdr_split.specs.Kernel.{then_split}
use Rattle.mdr_watch.specs.Watching.{driver_in}
use Rattle.mdr_watch.proofs.Alone.{none_returned}
use Rattle.mdr_whole.specs.Going.{driver_code}
use Rattle.mdr_turns.specs.Coming.{CommandedTo}
use Rattle.mdr_turns.specs.States.{kernel_with}
use Rattle.mdr_turns.proofs.Taking.{gave_is}
use Rattle.mdr_turns.proofs.backs.command_gave.Goals as goal

pub returns-in-Ok-clause-comes : goal.returns-in-Ok-clause-comes
returns-in-Ok-clause-comes c = λ script before go.
    subst (λ x. CommandedTo (driver_in c.args.watch) c.behind.result script go (then_split x (kernel_with c.args.between.ledger before) go))
    (gave_is (driver_in c.args.watch) (driver_code c.kernel_code.result) c.kernel_code.ensures.code c.args.gave c.in-Ok.worked c.args.between.world.world c.returned.new.world.world c.in-Ok.ensures.worked)
    (c.behind.ensures.comes (driver_in c.args.watch) script before go)

pub returns-in-Ok-clause-kept : goal.returns-in-Ok-clause-kept
returns-in-Ok-clause-kept c = c.behind.ensures.kept c.args.watch (record {
  same = c.in-Ok.ensures.kept ∙ c.kernel_code.ensures.program;
  passes = c.requires.between.passes;
  alone = none_returned (driver_in c.args.watch) (driver_code c.kernel_code.result) c.args.gave c.in-Ok.worked c.args.between.world.world c.returned.new.world.world c.kernel_code.ensures.code c.requires.between.alone c.in-Ok.ensures.worked;
})
