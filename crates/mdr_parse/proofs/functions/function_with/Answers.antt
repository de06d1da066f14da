use Rattle.mdr_grammar.specs.Statements.{function_body}
use Rattle.mdr_parse.specs.Outside.{function_item}
use Rattle.mdr_parse.proofs.OuterForms.{bound}
use Rattle.mdr_parse.proofs.functions.function_with.Goals as goal

pub returns-clause-reads : goal.returns-clause-reads
returns-clause-reads c = bound c.args.reader.halves function_body (λ ns. function_item c.args.place c.args.head c.args.is_critical ns) (λ x. x.0) (λ x. x.1.now) c.body_behind.result c.args.tokens.now c.body_behind.ensures.reads
