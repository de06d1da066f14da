use Rattle.std.proofs.Common.{sym, subst}
use Rattle.mdr_reader.specs.Gives.{Gives}
use Rattle.mdr_parse.proofs.OuterForms.{critical_stars}
use Rattle.mdr_parse.proofs.outside.critical.Goals as goal

pub returns-clause-reads : goal.returns-clause-reads
returns-clause-reads c = subst (λ o. Gives (λ x. x.0) (λ x. x.1.now) c.critical_starred.result o) (sym (critical_stars c.args.reader.halves c.args.place c.args.base.now c.args.tokens.now c.stars-count.ensures.reads)) c.critical_starred.ensures.reads
