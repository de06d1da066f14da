use Rattle.std.proofs.Common.{sym, ap, ◌∙◌}
use Rattle.mdr_grammar.specs.Sorts.{is_level}
use Rattle.mdr_expression.proofs.Wording.{more_levels, no_level, other_name}
use Rattle.mdr_expression.proofs.words.past_level.Goals as goal

pub returns-then-is_level-clause-found : goal.returns-then-is_level-clause-found
returns-then-is_level-clause-found c = more_levels c.args.halves c.args.tokens.now c.in-Some.rest.now c.in-Some.token.now c.in-Some.ensures.found (ap is_level (sym c.text_of.ensures) ∙ sym c.is_level.ensures ∙ c.if-is_level.true)

pub returns-else-is_level-clause-found : goal.returns-else-is_level-clause-found
returns-else-is_level-clause-found c = other_name c.args.halves c.args.tokens.now c.in-Some.rest.now c.in-Some.token.now c.in-Some.ensures.found (ap is_level (sym c.text_of.ensures) ∙ sym c.is_level.ensures ∙ c.if-is_level.false)

pub returns-in-None-clause-found : goal.returns-in-None-clause-found
returns-in-None-clause-found c = no_level c.args.halves c.args.tokens.now c.in-None.ensures.found
