use Rattle.std.proofs.Common.{sym, subst}
use Rattle.mdr_reader.specs.Gives.{Gives}
use Rattle.mdr_declaration.proofs.Starred.{declarator_stars}
use Rattle.mdr_declaration.proofs.declarators.declarator.Goals as goal

pub returns-clause-reads : goal.returns-clause-reads
returns-clause-reads c = subst (λ o. Gives (λ x. x.0) (λ x. x.1.now) c.behind_stars.result o) (sym (declarator_stars c.args.reader.halves c.args.depth c.args.base.now c.args.tokens.now c.stars-count.ensures.reads)) c.behind_stars.ensures.reads
