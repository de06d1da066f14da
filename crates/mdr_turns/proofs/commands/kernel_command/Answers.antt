use Rattle.std.proofs.Common.{◌∙◌}
use Rattle.mdr_whole.specs.Going.{driver_code}
use Rattle.mdr_watch.specs.Watching.{driver_in}
use Rattle.mdr_watch.proofs.Alone.{none_done}
use Rattle.mdr_turns.proofs.Calling.{kernel_commanded}
use Rattle.mdr_turns.proofs.commands.kernel_command.Goals as goal

pub returns-in-Ok-clause-comes : goal.returns-in-Ok-clause-comes
returns-in-Ok-clause-comes c = λ left script go.
    kernel_commanded (driver_in c.args.watch) (driver_code c.kernel_code.result) c.args.command.now c.in-Ok.worked c.args.between.ledger c.args.between.world.world c.do_command.new.world.world script left go c.behind.result
    c.kernel_code.ensures.code c.requires.none c.in-Ok.ensures.worked (c.behind.ensures.comes (driver_in c.args.watch) script c.args.between.world.world go)

pub returns-in-Ok-clause-kept : goal.returns-in-Ok-clause-kept
returns-in-Ok-clause-kept c = c.behind.ensures.kept c.args.watch (record {
  same = c.in-Ok.ensures.kept ∙ c.kernel_code.ensures.program;
  passes = c.requires.between.passes;
  alone = none_done (driver_in c.args.watch) (driver_code c.kernel_code.result) c.args.command.now c.in-Ok.worked c.args.between.world.world c.do_command.new.world.world c.kernel_code.ensures.code c.requires.between.alone c.in-Ok.ensures.worked;
})
