use Rattle.mdr_meaning.specs.Bodies.{known_of}
use Rattle.mdr_exec.specs.Declaring.{slot_as}
use Rattle.mdr_exec.proofs.ParamLaws.{no_shape, shape_pushed}
use Rattle.mdr_exec.proofs.params.add_shape.Goals as goal

pub returns-in_ok-push : goal.returns-in_ok-push
returns-in_ok-push c =
    shape_pushed (known_of c.args.program.now) c.args.param.now (slot_as c.of_param.result) c.shape_of-shape.result c.args.shapes.now c.push.new.self c.if-param.true c.of_param.ensures c.shape_of-shape.ensures c.in_ok-push.ensures.ok

pub returns-else-param : goal.returns-else-param
returns-else-param c = no_shape (known_of c.args.program.now) c.args.param.now c.args.shapes.now c.if-param.false
