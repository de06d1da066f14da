use Rattle.mdr_grammar.specs.Statements.{items_in}
use Rattle.mdr_parse.specs.Outside.{body_end}
use Rattle.mdr_parse.proofs.OuterForms.{bound}
use Rattle.mdr_parse.proofs.functions.function_body.Goals as goal

pub returns-clause-reads : goal.returns-clause-reads
returns-clause-reads c = bound c.args.reader.halves (items_in 0) (λ ns. body_end ns) (λ x. x.0) (λ x. x.1.now) c.closed_items.result c.args.tokens.now c.closed_items.ensures.reads
