use Rattle.mdr_plain.proofs.RunLaws.{interrupts_are_gated}
use Rattle.mdr_plain.proofs.laws.interrupts_are_gated.Goals as goal

pub returns : goal.returns
returns c = interrupts_are_gated
