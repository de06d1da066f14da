use Rattle.mdr_sound.proofs.Expressions.{call_at_known}
use Rattle.mdr_sound.proofs.expression_laws.calls_are_known.Goals as goal

-- src/expression_laws.rt:22:1
pub returns : goal.returns
returns c = λ program slots scope names p f args call knows locals nf sf na sa e. (call_at_known program slots scope names knows locals p f args call nf sf na sa e).gives
