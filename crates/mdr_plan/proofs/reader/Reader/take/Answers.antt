use Rattle.std.proofs.Common.{subst}
use Rattle.mdr_plan.specs.declared.line.Line.{Line}
use Rattle.mdr_plan.specs.Lines.{IsNext}
use Rattle.mdr_plan.proofs.Passing.{up_inside}
use Rattle.mdr_plan.proofs.reader.Reader.take.Goals as goal

pub take_up-requires : goal.take_up-requires
take_up-requires c = up_inside c.args.self.now c.in-Up.k (subst (λ (l : Line). IsNext c.args.self.now l) c.in-Up.is c.requires)
