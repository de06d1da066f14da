use Rattle.mdr_exec.proofs.ParamLaws.{params_born}
use Rattle.mdr_exec.proofs.params.bear_params.Goals as goal

pub returns : goal.returns
returns g c = λ program side asks is some.
    params_born program c.args.machine.now g.C.Memory.accesses c.args.memory.now side c.requires c.args.shapes.now c.in_ok-pointers.pointers c.birth.new.self c.in_ok-pointers.ensures.pointers c.in_ok-pointers.ensures.memory asks is some
