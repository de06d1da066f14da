use Rattle.mdr_exec.specs.Holding.{held_of}
use Rattle.std.proofs.Common.{◌-◌, refl}
use Rattle.mdr_exec.specs.Found.{turn_code}
use Rattle.mdr_exec.proofs.TurnLaws.{tick_told, tick_wanted}
use Rattle.mdr_exec.proofs.turn.step_turn.Goals as goal

pub returns-then-left-eq0 : goal.returns-then-left-eq0
returns-then-left-eq0 g c = λ side known.
    tick_wanted g.C.Memory.accesses side c.args.program.now c.args.machine.now c.args.memory.now (turn_code c.args.turn) c.args.turn.number c.args.left
    c.requires.runs c.requires.stands refl c.if-left-eq0.true refl

pub returns : goal.returns
returns g c = λ side known.
    tick_told g.C.Memory.accesses side (held_of c.args.program.now c.args.machine.now) (held_of c.args.program.now c.do_turn.new.machine) c.args.memory.now c.args.memory.now c.args.left (c.args.left - 1) c.in_ok-event.event c.with_event.result c.with_event.ensures c.if-left-eq0.false refl (c.in_ok-event.ensures side known)
