use Rattle.std.proofs.Common.{◌∙◌, sym}
use Rattle.mdr_exec.specs.Holding.{flow_as, held_of}
use Rattle.mdr_exec.proofs.LeavingLaws.{leaves_plainly, leaves_turn, leaves_step}
use Rattle.mdr_exec.proofs.leave.leave_list.Goals as goal

pub returns-in_ok-leave_plain-in-Plain : goal.returns-in_ok-leave_plain-in-Plain
returns-in_ok-leave_plain-in-Plain c =
    leaves_plainly c.args.program.now c.args.machine.now (flow_as c.args.flow) c.args.p (held_of c.args.program.now c.leave_plain.new.machine)
    (sym c.requires.ending ∙ c.in-Plain.is) c.requires.none (c.in_ok-leave_plain-in-Plain.ensures c.args.program.now)

pub returns-in_ok-leave_turn-in-Turn : goal.returns-in_ok-leave_turn-in-Turn
returns-in_ok-leave_turn-in-Turn c =
    leaves_turn c.args.program.now c.args.machine.now (flow_as c.args.flow) c.args.p (held_of c.args.program.now c.leave_turn.new.machine)
    (sym c.requires.ending ∙ c.in-Turn.is) c.requires.none (c.in_ok-leave_turn-in-Turn.ensures c.args.program.now)

pub returns-in-Stepped : goal.returns-in-Stepped
returns-in-Stepped c =
    leaves_step c.args.program.now c.args.machine.now (flow_as c.args.flow) c.args.p (held_of c.args.program.now c.leave_step.new.machine)
    (sym c.requires.ending ∙ c.in-Stepped.is) (c.leave_step.ensures c.args.program.now)
