use Rattle.mdr_expression.proofs.Expressing.{further, no_further}
use Rattle.mdr_expression.proofs.tails.past_comma.Goals as goal

pub returns-in-Some-clause-found : goal.returns-in-Some-clause-found
returns-in-Some-clause-found c = further c.args.halves c.args.tokens.now c.in-Some.rest.now c.in-Some.field-0-0.now c.in-Some.ensures.found

pub returns-in-None-clause-found : goal.returns-in-None-clause-found
returns-in-None-clause-found c = no_further c.args.halves c.args.tokens.now c.in-None.ensures.found
