use Rattle.std.proofs.Common.{refl, ap}
use Rattle.mdr_grammar.specs.declared.sort.Sort.{Sort}
use Rattle.mdr_grammar.specs.Forms.Nonterminal.{otherwise}
use Rattle.mdr_grammar.specs.Statements.{other_branch}
use Rattle.mdr_reader.proofs.Arms.{past, not_past}
use Rattle.mdr_simple.proofs.Stated.{other_forbidden, no_else}
use Rattle.mdr_simple.proofs.leaving.past_else.Goals as goal

pub returns-else-is_closed-clause-found : goal.returns-else-is_closed-clause-found
returns-else-is_closed-clause-found c = λ l. other_forbidden c.args.halves c.args.is_closed l c.args.tokens.now c.if-is_closed.false

pub returns-then-is_closed-clause-found : goal.returns-then-is_closed-clause-found
returns-then-is_closed-clause-found c = λ l. past c.args.halves (otherwise l c.args.is_closed) Sort.Else c.args.tokens.now c.in-Some.ensures.found refl (ap (λ b. other_branch b l) c.if-is_closed.true)

pub returns-in-None-clause-found : goal.returns-in-None-clause-found
returns-in-None-clause-found c = λ l. not_past c.args.halves (otherwise l c.args.is_closed) Sort.Else c.args.tokens.now c.in-None.ensures.found (no_else l c.args.is_closed)
