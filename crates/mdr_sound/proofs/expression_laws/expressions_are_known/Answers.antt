use Rattle.mdr_sound.proofs.expression_laws.expressions_are_known.Goals as goal
use Rattle.mdr_sound.proofs.Expressions.{typed_known}

-- src/expression_laws.rt:7:1
pub returns : goal.returns
returns c = λ program slots scope names w x knows locals numbers slotless e. typed_known program slots scope names knows locals w x numbers slotless e
