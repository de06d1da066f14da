use Rattle.mdr_sound.proofs.Assigned.{assignment_known}
use Rattle.mdr_sound.proofs.Expressions.{typed_known}
use Rattle.mdr_sound.proofs.expression_laws.assignments_are_known.Goals as goal

-- src/expression_laws.rt:12:1
pub returns : goal.returns
returns c = λ program slots scope names p op a b made knows locals na sa nb sb e.
    assignment_known program slots names scope p a b op _ _ made (λ x q. typed_known program slots scope names knows locals a x na sa q) (λ y q. typed_known program slots scope names knows locals b y nb sb q) e
