use Rattle.mdr_sound.proofs.Assigned.{step_known}
use Rattle.mdr_sound.proofs.Expressions.{typed_known}
use Rattle.mdr_sound.proofs.expression_laws.steps_are_known.Goals as goal

-- src/expression_laws.rt:17:1
pub returns : goal.returns
returns c = λ program slots scope names p op a made knows locals na sa e.
    step_known program slots names scope p a op _ made (λ x q. typed_known program slots scope names knows locals a x na sa q) e
