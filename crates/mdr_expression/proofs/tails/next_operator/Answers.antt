use Rattle.std.proofs.Common.{◌-◌, ◌<◌, ◌≤◌, ◌⊎◌, inl, inr, ℕ, arith}
use Rattle.mdr_expression.proofs.Operating.{ended, outside}
use Rattle.mdr_expression.proofs.tails.next_operator.Goals as goal

not_within : (above q most : ℕ) → ((above < q) × (most < q)) ⊎ (q ≤ above) → above < q → q ≤ most → ⊥
not_within above q most (inl h) low high = omega (arith, h.1)
not_within above q most (inr h) low high = omega (arith, h)

pub returns-in_default-clause-found : goal.returns-in_default-clause-found
returns-in_default-clause-found c = λ l d f. ended c.args.halves (c.args.most - c.args.above) _ l d f c.args.tokens.now c.in_default.ensures.found

pub returns-else-above-precedence-clause-found : goal.returns-else-above-precedence-clause-found
returns-else-above-precedence-clause-found c = λ l d f. outside c.args.halves c.args.above c.args.most l d f c.precedence_of-precedence.result c.in-Some.ensures.found c.precedence_of-precedence.ensures (λ low high. not_within _ _ _ c.else-above-precedence.either low high)
