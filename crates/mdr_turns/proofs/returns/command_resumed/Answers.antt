use Rattle.std.proofs.Common.{◌∙◌, subst, sym}
use Rattle.std.proofs.lemmas.Result.{IfOk-weaker}
use Rattle.mdr_core.specs.declared.program.Program.{Program}
use Rattle.mdr_meaning.specs.Values.{wire_of}
use Rattle.mdr_whole.specs.Pausing.{IsPaused, IsWaiting}
use Rattle.mdr_watch.specs.Watching.{driver_in}
use Rattle.mdr_watch.proofs.Alone.{none_went}
use Rattle.mdr_turns.specs.Coming.{LeadsBack}
use Rattle.mdr_turns.specs.States.{next_of}
use Rattle.mdr_turns.proofs.Resuming.{resumed_is}
use Rattle.mdr_turns.proofs.returns.command_resumed.Goals as goal

pub go_on-requires-clause-waits : goal.go_on-requires-clause-waits
go_on-requires-clause-waits c = subst (λ (p : Program). IsPaused p c.args.wait.paused) (sym c.kernel_code-code.ensures.program) c.requires.paused

pub command_went-requires-clause-between : goal.command_went-requires-clause-between
command_went-requires-clause-between c = record {
  same = c.in-Ok.ensures.kept ∙ c.kernel_code-code.ensures.program;
  passes = c.requires.between.passes;
  alone = none_went (driver_in c.args.watch) (next_of (driver_in c.args.watch) c.args.wait c.args.wire) c.in-Ok.went c.args.between.world.world c.go_on.new.world.world c.requires.between.alone
      (resumed_is (driver_in c.args.watch) c.kernel_code-code.result c.kernel_code-code.ensures.code c.in-Ok.went c.args.between.world.world c.go_on.new.world.world c.args.wait (wire_of c.value_of-value.result) c.args.wire c.value_of-value.ensures c.requires.spent c.in-Ok.ensures.went);
}

pub command_went-requires-clause-waiting : goal.command_went-requires-clause-waiting
command_went-requires-clause-waiting c = subst (λ (p : Program). IsWaiting p c.in-Ok.went) c.kernel_code-code.ensures.program c.in-Ok.ensures.waiting

pub returns-in-Ok-clause-comes : goal.returns-in-Ok-clause-comes
returns-in-Ok-clause-comes c =
    IfOk-weaker c.command_went.result _ _
    (λ r h.
    subst (λ x. LeadsBack (driver_in c.args.watch) r c.args.between.ledger c.args.begun x)
    (resumed_is (driver_in c.args.watch) c.kernel_code-code.result c.kernel_code-code.ensures.code c.in-Ok.went c.args.between.world.world c.go_on.new.world.world c.args.wait (wire_of c.value_of-value.result) c.args.wire c.value_of-value.ensures c.requires.spent c.in-Ok.ensures.went) h)
    c.command_went.ensures.comes
