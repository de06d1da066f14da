use Rattle.std.proofs.Common.{sym, subst}
use Rattle.mdr_grammar.specs.Forms.Nonterminal.{assignment}
use Rattle.mdr_reader.specs.Gives.{Gives}
use Rattle.mdr_reader.proofs.Going.{first_from}
use Rattle.mdr_simple.proofs.simple.assignment.Goals as goal

pub returns-clause-reads : goal.returns-clause-reads
returns-clause-reads c = subst (λ o. Gives (λ x. x.0) (λ x. x.1.now) c.assignment_by.result o) (sym (first_from c.args.reader.halves (assignment c.args.place c.args.level c.args.depth c.args.left c.args.is_alone) c.args.tokens.now)) c.assignment_by.ensures.reads
