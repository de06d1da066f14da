use Rattle.mdr_fits.proofs.ParameterLaws.{no_pointer, pointer_at}
use Rattle.mdr_fits.proofs.parameters.parameter.Goals as goal

pub returns-then-i-given : goal.returns-then-i-given
returns-then-i-given c = λ args e. pointer_at c.args.arguments args c.args.given c.args.i c.in-Objects.is e c.if-i-given.true

pub returns-else-i-given : goal.returns-else-i-given
returns-else-i-given c = λ args e. no_pointer c.args.arguments args c.args.given c.args.i c.in-Objects.is e c.if-i-given.false
