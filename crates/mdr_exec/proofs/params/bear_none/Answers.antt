use Rattle.mdr_exec.proofs.ParamLaws.{none_born}
use Rattle.mdr_exec.proofs.params.bear_none.Goals as goal

pub returns : goal.returns
returns g c = λ program side is. none_born program c.args.machine.now g.C.Memory.accesses c.args.memory.now side c.requires c.new.result c.new.ensures is
