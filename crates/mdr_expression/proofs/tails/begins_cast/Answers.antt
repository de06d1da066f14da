use Rattle.std.proofs.Common.{ap, ◌∙◌}
use Rattle.mdr_grammar.specs.Front.{front}
use Rattle.mdr_expression.specs.Tails.{behind_parenthesis}
use Rattle.mdr_expression.proofs.Casting.{opens_with, opens_nothing}
use Rattle.mdr_expression.proofs.tails.begins_cast.Goals as goal

pub returns-then-casts : goal.returns-then-casts
returns-then-casts c = λ l d first. ap (λ b. front c.args.halves (behind_parenthesis b l d first) c.args.tokens.now) c.if-casts.true ∙ opens_with c.args.halves l d first c.begins_type.result c.in-Some.ensures.found (c.begins_type.ensures c.in-Some.field-0-1.now)

pub returns-in-None : goal.returns-in-None
returns-in-None c = λ l d first. opens_nothing c.args.halves l d first c.args.casts c.in-None.ensures.found
