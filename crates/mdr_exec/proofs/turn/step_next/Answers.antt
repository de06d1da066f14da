use Rattle.mdr_exec.specs.Halves.{side_in}
use Rattle.mdr_exec.specs.Holding.{held_of}
use Rattle.std.proofs.Common.{◌∙◌, ap, sym}
use Rattle.std.specs.Option.{option_map}
use Rattle.mdr_exec.specs.Found.{code_in}
use Rattle.mdr_exec.proofs.TurnLaws.{same_runs}
use Rattle.mdr_exec.proofs.turn.step_next.Goals as goal

pub returns-in-None : goal.returns-in-None
returns-in-None g c =
    same_runs g.C.Memory.accesses (side_in c.args.machine.now.side c.args.halves.now c.args.program.now) (held_of c.args.program.now c.args.machine.now) (held_of c.args.program.now c.run_out.new.machine) c.args.memory.now c.args.memory.now c.args.left
    (c.run_out.ensures c.args.program.now (side_in c.args.machine.now.side c.args.halves.now c.args.program.now) (sym c.stands_next.ensures.code ∙ ap (option_map code_in) c.in-None.is))
