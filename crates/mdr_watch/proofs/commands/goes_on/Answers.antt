use Rattle.std.proofs.Common.{subst, sym}
use Rattle.mdr_core.specs.declared.program.Program.{Program}
use Rattle.mdr_meaning.specs.Values.{wire_of}
use Rattle.mdr_whole.specs.Pausing.{IsPaused, IsWaiting}
use Rattle.mdr_watch.proofs.Scripted.{none_below, went_below}
use Rattle.mdr_watch.proofs.commands.goes_on.Goals as goal

pub go_on-requires-clause-waits : goal.go_on-requires-clause-waits
go_on-requires-clause-waits c = subst (λ (p : Program). IsPaused p c.args.paused) (sym c.kernel_code-code.ensures.program) c.requires.waits

pub returns-in-Ok-clause-went : goal.returns-in-Ok-clause-went
returns-in-Ok-clause-went c =
    went_below c.args.watch c.kernel_code-code.result c.kernel_code-code.ensures.code c.in-Ok.went c.args.world.world c.go_on.new.world.world c.args.paused (wire_of c.args.value) c.in-Ok.ensures.went

pub returns-in-Ok-clause-alone : goal.returns-in-Ok-clause-alone
returns-in-Ok-clause-alone c =
    none_below c.args.watch c.kernel_code-code.result c.kernel_code-code.ensures.code c.in-Ok.went c.args.world.world c.go_on.new.world.world c.args.paused (wire_of c.args.value) c.in-Ok.ensures.went c.requires.alone

pub returns-in-Ok-clause-waiting : goal.returns-in-Ok-clause-waiting
returns-in-Ok-clause-waiting c = subst (λ (p : Program). IsWaiting p c.in-Ok.went) c.kernel_code-code.ensures.program c.in-Ok.ensures.waiting
