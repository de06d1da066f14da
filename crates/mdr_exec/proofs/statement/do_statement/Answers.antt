use Rattle.std.proofs.Common.{Some, ◌∙◌, ap, refl, sym}
use Rattle.mdr_core.specs.declared.code.Step.TheVariants as step
use Rattle.mdr_core.specs.Code.{Code, Codes, Goal, Way}
use Rattle.mdr_core.specs.Folds.{codes_of, goal_of}
use Rattle.mdr_core.proofs.Coded.{assign_is, block_is, break_is, call_is, code_is, continue_is, declare_is, empty_is, for_is, if_is, return_call_is, return_is, text_is, while_is}
use Rattle.mdr_exec.specs.Halves.{side_in}
use Rattle.mdr_exec.specs.Holding.{held_of, here_of}
use Rattle.mdr_events.specs.Running.{is_block}
use Rattle.mdr_exec.proofs.KeepingLaws.{stop_told}
use Rattle.mdr_exec.proofs.ParamLaws.{not_both}
use Rattle.mdr_exec.proofs.statement.do_statement.Goals as goal

pub returns-in_ok-event-in-Declare : goal.returns-in_ok-event-in-Declare
returns-in_ok-event-in-Declare g c =
    c.in_ok-event-in-Declare.ensures (side_in c.args.machine.now.side c.args.halves.now c.args.program.now) c.args.statement.now.number refl (sym c.asks_on-asks.ensures) (c.requires.stands ∙ ap Some (code_is c.args.statement.now (step.Declare c.in-Declare.i) c.in-Declare.is ∙ declare_is c.args.statement.now.number c.in-Declare.i))

pub returns-in-Text : goal.returns-in-Text
returns-in-Text g c =
    stop_told g.C.Memory.accesses (side_in c.args.machine.now.side c.args.halves.now c.args.program.now) c.args.program.now c.args.machine.now (held_of c.args.program.now c.args.machine.now) (held_of c.args.program.now c.begin_text-came.new.machine) c.args.memory.now c.begin_text-came.new.memory c.args.statement.now.number
    c.begin_text-came.result c.stopped.result c.stopped.ensures
    (c.begin_text-came.ensures (side_in c.args.machine.now.side c.args.halves.now c.args.program.now) c.args.statement.now.number (c.requires.stands ∙ ap Some (code_is c.args.statement.now (step.Text c.in-Text.i c.in-Text.text) c.in-Text.is ∙ text_is c.args.statement.now.number c.in-Text.i c.in-Text.text) ∙ ap (λ b. Some (Code.Text c.args.statement.now.number c.in-Text.i b)) (sym c.as_slice.ensures)))

pub returns-in-Assign : goal.returns-in-Assign
returns-in-Assign g c =
    stop_told g.C.Memory.accesses (side_in c.args.machine.now.side c.args.halves.now c.args.program.now) c.args.program.now c.args.machine.now (held_of c.args.program.now c.args.machine.now) (held_of c.args.program.now c.begin_assign-came.new.machine) c.args.memory.now c.begin_assign-came.new.memory c.args.statement.now.number
    c.begin_assign-came.result c.stopped-in-Assign.result c.stopped-in-Assign.ensures
    (c.begin_assign-came.ensures (side_in c.args.machine.now.side c.args.halves.now c.args.program.now) c.args.statement.now.number refl (c.requires.stands ∙ ap Some (code_is c.args.statement.now (step.Assign c.in-Assign.p c.in-Assign.e) c.in-Assign.is ∙ assign_is c.args.statement.now.number c.in-Assign.p c.in-Assign.e)))

pub returns-in_ok-event-in-Call : goal.returns-in_ok-event-in-Call
returns-in_ok-event-in-Call g c =
    c.in_ok-event-in-Call.ensures (goal_of c.in-Call.field-0) (c.requires.stands ∙ ap Some (code_is c.args.statement.now (step.Call c.in-Call.field-0 c.in-Call.form) c.in-Call.is ∙ call_is c.args.statement.now.number c.in-Call.field-0 c.in-Call.form))

pub returns-in_ok-event-in-ReturnCall : goal.returns-in_ok-event-in-ReturnCall
returns-in_ok-event-in-ReturnCall g c =
    c.in_ok-event-in-ReturnCall.ensures Goal.Back (c.requires.stands ∙ ap Some (code_is c.args.statement.now (step.ReturnCall c.in-ReturnCall.form) c.in-ReturnCall.is ∙ return_call_is c.args.statement.now.number c.in-ReturnCall.form))

pub returns-in_ok-came-in-If : goal.returns-in_ok-came-in-If
returns-in_ok-came-in-If g c =
    stop_told g.C.Memory.accesses (side_in c.args.machine.now.side c.args.halves.now c.args.program.now) c.args.program.now c.args.machine.now (held_of c.args.program.now c.args.machine.now) (held_of c.args.program.now c.begin_if.new.machine) c.args.memory.now c.args.memory.now c.args.statement.now.number
    c.in_ok-came-in-If.came c.stopped-in-If.result c.stopped-in-If.ensures
    (c.in_ok-came-in-If.ensures (side_in c.args.machine.now.side c.args.halves.now c.args.program.now) c.args.statement.now.number (codes_of c.in-If.field-1) (codes_of c.in-If.field-2) refl (c.requires.stands ∙ ap Some (code_is c.args.statement.now (step.If c.in-If.test c.in-If.field-1 c.in-If.field-2) c.in-If.is ∙ if_is c.args.statement.now.number c.in-If.test c.in-If.field-1 c.in-If.field-2)))

pub returns-in_ok-came-in-While : goal.returns-in_ok-came-in-While
returns-in_ok-came-in-While g c =
    stop_told g.C.Memory.accesses (side_in c.args.machine.now.side c.args.halves.now c.args.program.now) c.args.program.now c.args.machine.now (held_of c.args.program.now c.args.machine.now) (held_of c.args.program.now c.begin_loop.new.machine) c.args.memory.now c.args.memory.now c.args.statement.now.number
    c.in_ok-came-in-While.came c.stopped-in-While.result c.stopped-in-While.ensures
    (c.in_ok-came-in-While.ensures (side_in c.args.machine.now.side c.args.halves.now c.args.program.now) c.args.statement.now.number Codes.End (codes_of c.in-While.field-1) refl (c.requires.stands ∙ ap Some (code_is c.args.statement.now (step.While c.in-While.test c.in-While.field-1) c.in-While.is ∙ while_is c.args.statement.now.number c.in-While.test c.in-While.field-1)))

pub returns-in-Return : goal.returns-in-Return
unfolding here_of
returns-in-Return g c =
    c.do_return-event.ensures (side_in c.args.machine.now.side c.args.halves.now c.args.program.now) c.args.statement.now.number refl refl (c.requires.stands ∙ ap Some (code_is c.args.statement.now (step.Return c.in-Return.e) c.in-Return.is ∙ return_is c.args.statement.now.number c.in-Return.e))

pub returns-in-Break : goal.returns-in-Break
returns-in-Break g c =
    c.begin_jump.ensures c.args.program.now Way.Breaks refl (side_in c.args.machine.now.side c.args.halves.now c.args.program.now) c.args.statement.now.number (c.requires.stands ∙ ap Some (code_is c.args.statement.now step.Break c.in-Break.is ∙ break_is c.args.statement.now.number))

pub returns-in-Continue : goal.returns-in-Continue
returns-in-Continue g c =
    c.begin_jump-in-Continue.ensures c.args.program.now Way.Continues refl (side_in c.args.machine.now.side c.args.halves.now c.args.program.now) c.args.statement.now.number (c.requires.stands ∙ ap Some (code_is c.args.statement.now step.Continue c.in-Continue.is ∙ continue_is c.args.statement.now.number))

pub returns-in-Empty : goal.returns-in-Empty
returns-in-Empty g c =
    c.begin_jump-in-Empty.ensures c.args.program.now Way.Ends refl (side_in c.args.machine.now.side c.args.halves.now c.args.program.now) c.args.statement.now.number (c.requires.stands ∙ ap Some (code_is c.args.statement.now step.Empty c.in-Empty.is ∙ empty_is c.args.statement.now.number))

pub unreachable-requires : goal.unreachable-requires
unreachable-requires g c =
    not_both (ap is_block (code_is c.args.statement.now (step.Block c.in-Block.field-0) c.in-Block.is ∙ block_is c.args.statement.now.number c.in-Block.field-0)) c.requires.ticks

pub unreachable-requires-in-For : goal.unreachable-requires-in-For
unreachable-requires-in-For g c =
    not_both
    (ap is_block (code_is c.args.statement.now (step.For c.in-For.field-0 c.in-For.field-1 c.in-For.field-2 c.in-For.field-3) c.in-For.is ∙ for_is c.args.statement.now.number c.in-For.field-0 c.in-For.field-1 c.in-For.field-2 c.in-For.field-3))
    c.requires.ticks
