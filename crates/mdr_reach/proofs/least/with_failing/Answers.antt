use Rattle.std.proofs.Common.{subst}
use Rattle.mdr_reach.specs.Marks.{IsLeastOf}
use Rattle.mdr_reach.proofs.WorkLaws.{least_first, least_more}
use Rattle.mdr_reach.proofs.least.with_failing.Goals as goal

pub returns-in-Some : goal.returns-in-Some
returns-in-Some c g cs had fails =
    least_more g cs c.in-Some.first c.args.name c.first_of.result c.first_of.ensures.one c.first_of.ensures.a c.first_of.ensures.b (subst (IsLeastOf g cs) c.in-Some.is had) fails

pub returns-in-None : goal.returns-in-None
returns-in-None c g cs had fails = least_first g cs c.args.name (subst (IsLeastOf g cs) c.in-None.is had) fails
