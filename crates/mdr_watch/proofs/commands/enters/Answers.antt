use Rattle.std.proofs.Common.{subst}
use Rattle.mdr_core.specs.declared.program.Program.{Program}
use Rattle.mdr_events.specs.Values.{wires_of}
use Rattle.mdr_whole.specs.Pausing.{IsWaiting}
use Rattle.mdr_watch.proofs.Scripted.{entered_finishes, none_entered}
use Rattle.mdr_watch.proofs.commands.enters.Goals as goal

pub returns-in-Ok-clause-went : goal.returns-in-Ok-clause-went
returns-in-Ok-clause-went c =
    entered_finishes c.args.watch c.kernel_code-code.result c.kernel_code-code.ensures.code c.in-Ok.went c.args.world.world c.enter.new.world.world c.args.func (wires_of c.args.args.now) c.in-Ok.ensures.went

pub returns-in-Ok-clause-alone : goal.returns-in-Ok-clause-alone
returns-in-Ok-clause-alone c =
    none_entered c.args.watch c.kernel_code-code.result c.kernel_code-code.ensures.code c.in-Ok.went c.args.world.world c.enter.new.world.world c.args.func (wires_of c.args.args.now) c.in-Ok.ensures.went c.requires.alone

pub returns-in-Ok-clause-waiting : goal.returns-in-Ok-clause-waiting
returns-in-Ok-clause-waiting c = subst (λ (p : Program). IsWaiting p c.in-Ok.went) c.kernel_code-code.ensures.program c.in-Ok.ensures.waiting
