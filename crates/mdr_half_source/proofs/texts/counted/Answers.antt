use Rattle.mdr_half_source.proofs.Steps.{no_half, small_half}
use Rattle.mdr_half_source.proofs.texts.counted.Goals as goal

pub returns-in-Some : goal.returns-in-Some
returns-in-Some c = λ user plan f. small_half user plan c.args.found c.in-Some.program c.counted_program.result c.in-Some.is f c.counted_program.ensures

pub returns-in-None : goal.returns-in-None
returns-in-None c = λ user plan f. no_half user plan c.args.found c.in-None.is f
