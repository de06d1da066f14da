use Rattle.mdr_grammar.specs.Statements.{global_with, more_globals}
use Rattle.mdr_parse.proofs.OuterForms.{bound}
use Rattle.mdr_parse.proofs.named.other_globals.Goals as goal

pub returns-clause-reads : goal.returns-clause-reads
returns-clause-reads c = bound c.args.reader.halves (global_with c.args.place c.args.decl) (λ g. more_globals c.args.place c.args.base.now g) (λ x. x.0) (λ x. x.1.now) c.declared_globals.result c.args.tokens.now c.declared_globals.ensures.reads
