use Rattle.std.proofs.Common.{[], ◌∷◌, refl}
use Rattle.mdr_meaning.specs.Bodies.{known_of}
use Rattle.mdr_exec.proofs.ParamLaws.{gathered, gathers, shapes_in, shapes_step}
use Rattle.mdr_exec.proofs.params.shapes_of.Goals as goal

pub loop-param-preserved : goal.loop-param-preserved
loop-param-preserved c =
    gathers (shapes_in (known_of c.args.program.now)) (λ p. shapes_in (known_of c.args.program.now) (p ∷ [])) (shapes_step (known_of c.args.program.now)) c.args.params.now c.loop-param.param-index c.param-item.result _
    c.loop-param.shapes c.add_shape.new.shapes c.loop-param-test.true c.param-item.is c.in_ok-add_shape.ensures c.loop-param.invariant

pub returns : goal.returns
returns c = gathered (shapes_in (known_of c.args.program.now)) refl c.args.params.now c.loop-param.param-index c.loop-param.shapes c.loop-param-test.false c.loop-param.invariant
