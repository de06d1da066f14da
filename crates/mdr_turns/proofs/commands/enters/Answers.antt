use Rattle.std.proofs.Common.{◌∙◌, subst}
use Rattle.std.proofs.lemmas.Result.{IfOk-weaker}
use Rattle.mdr_core.specs.declared.program.Program.{Program}
use Rattle.mdr_events.specs.Values.{wires_of}
use Rattle.mdr_split.specs.Kernel.{kernel_tree}
use Rattle.mdr_whole.specs.Pausing.{IsWaiting}
use Rattle.mdr_watch.specs.Watching.{driver_in}
use Rattle.mdr_watch.proofs.Alone.{none_went}
use Rattle.mdr_turns.specs.Coming.{LeadsBack}
use Rattle.mdr_turns.proofs.Resuming.{entered_is}
use Rattle.mdr_turns.proofs.commands.enters.Goals as goal

pub command_went-requires-clause-between : goal.command_went-requires-clause-between
command_went-requires-clause-between c = record {
  same = c.in-Ok.ensures.kept ∙ c.kernel_code-code.ensures.program;
  passes = c.requires.between.passes;
  alone = none_went (driver_in c.args.watch) (kernel_tree (driver_in c.args.watch) c.args.func (wires_of c.args.args.now) 0 c.args.between.world.world) c.in-Ok.went c.args.between.world.world c.enter.new.world.world c.requires.between.alone
      (entered_is (driver_in c.args.watch) c.kernel_code-code.result c.kernel_code-code.ensures.code c.in-Ok.went c.args.between.world.world c.enter.new.world.world c.args.func (wires_of c.args.args.now) c.in-Ok.ensures.went);
}

pub command_went-requires-clause-waiting : goal.command_went-requires-clause-waiting
command_went-requires-clause-waiting c = subst (λ (p : Program). IsWaiting p c.in-Ok.went) c.kernel_code-code.ensures.program c.in-Ok.ensures.waiting

pub returns-in-Ok-clause-comes : goal.returns-in-Ok-clause-comes
returns-in-Ok-clause-comes c =
    IfOk-weaker c.command_went.result _ _
    (λ r h.
    subst (λ x. LeadsBack (driver_in c.args.watch) r c.args.between.ledger c.args.begun x)
    (entered_is (driver_in c.args.watch) c.kernel_code-code.result c.kernel_code-code.ensures.code c.in-Ok.went c.args.between.world.world c.enter.new.world.world c.args.func (wires_of c.args.args.now) c.in-Ok.ensures.went) h)
    c.command_went.ensures.comes
