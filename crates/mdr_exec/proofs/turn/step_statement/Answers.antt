use Rattle.mdr_exec.specs.Halves.{side_in}
use Rattle.mdr_exec.specs.Holding.{held_of}
use Rattle.std.proofs.Common.{◌-◌, ◌∙◌, refl, sym}
use Rattle.mdr_core.specs.Folds.{code_of}
use Rattle.mdr_events.specs.Running.{RunsTo}
use Rattle.mdr_events.specs.Steps.{Goes}
use Rattle.mdr_exec.proofs.DoneLaws.{at_next}
use Rattle.mdr_exec.proofs.TurnLaws.{block_steps, same_runs, tick_told, tick_wanted}
use Rattle.mdr_exec.proofs.turn.step_statement.Goals as goal

pub returns-then-is_block : goal.returns-then-is_block
returns-then-is_block g c =
    block_steps (code_of c.args.statement.now) (at_next c.args.program.now c.args.machine.now)
    (RunsTo g.C.Memory.accesses (side_in c.args.machine.now.side c.args.halves.now c.args.program.now) (held_of c.args.program.now c.args.machine.now) c.args.memory.now c.args.left Goes (held_of c.args.program.now c.begin_block.new.machine) c.args.memory.now c.args.left) (sym c.is_block.ensures ∙ c.if-is_block.true) c.requires.stands
    (λ body is. same_runs g.C.Memory.accesses (side_in c.args.machine.now.side c.args.halves.now c.args.program.now) (held_of c.args.program.now c.args.machine.now) (held_of c.args.program.now c.begin_block.new.machine) c.args.memory.now c.args.memory.now c.args.left
    (c.in_ok-begin_block.ensures c.args.program.now (side_in c.args.machine.now.side c.args.halves.now c.args.program.now) body is))

pub returns-then-left-eq0 : goal.returns-then-left-eq0
returns-then-left-eq0 g c =
    tick_wanted g.C.Memory.accesses (side_in c.args.machine.now.side c.args.halves.now c.args.program.now) c.args.program.now c.args.machine.now c.args.memory.now (code_of c.args.statement.now) c.number_in.result c.args.left
    c.requires.runs c.requires.stands (sym c.is_block.ensures ∙ c.if-is_block.false) c.if-left-eq0.true c.number_in.ensures

pub returns : goal.returns
returns g c =
    tick_told g.C.Memory.accesses (side_in c.args.machine.now.side c.args.halves.now c.args.program.now) (held_of c.args.program.now c.args.machine.now) (held_of c.args.program.now c.do_statement.new.machine) c.args.memory.now c.do_statement.new.memory c.args.left (c.args.left - 1) c.in_ok-event.event c.with_event.result c.with_event.ensures c.if-left-eq0.false refl
    c.in_ok-event.ensures
