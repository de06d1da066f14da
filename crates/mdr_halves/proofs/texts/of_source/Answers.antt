use Rattle.std.proofs.Common.{Some, None, refl, subst}
use Rattle.mdr_halves.specs.Stages.{IsCompared}
use Rattle.mdr_halves.proofs.Steps.{compared, refused_so}
use Rattle.mdr_halves.proofs.texts.of_source.Goals as goal

pub returns-in-Ok-None-clause-come : goal.returns-in-Ok-None-clause-come
returns-in-Ok-None-clause-come c = λ text j comes.
    compared c.args.texts.now text c.args.source None j comes (subst (IsCompared c.args.texts.now c.args.source) c.in-Ok-None.field-0-is c.in-Ok-None.ensures)

pub returns-in-Ok-Some-clause-come : goal.returns-in-Ok-Some-clause-come
returns-in-Ok-Some-clause-come c = λ text j comes.
    refused_so c.args.texts.now c.in-Ok-Some.mismatch c.in-Ok-Some.mismatch c.refused.result (compared c.args.texts.now text c.args.source (Some c.in-Ok-Some.mismatch) j comes (subst (IsCompared c.args.texts.now c.args.source) c.in-Ok-Some.field-0-is c.in-Ok-Some.ensures))
    refl c.refused.ensures
