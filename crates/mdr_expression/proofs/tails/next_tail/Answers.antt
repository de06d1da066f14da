use Rattle.std.proofs.Common.{sym, ap, ◌∙◌, ◌+◌, suc, ◌&&◌}
use Rattle.mdr_grammar.specs.Expressions.{is_level_free}
use Rattle.mdr_expression.specs.Tails.{tail_fits}
use Rattle.mdr_expression.proofs.Extending.{alone_at_end, alone_at_other, alone_at_bound}
use Rattle.mdr_expression.proofs.tails.next_tail.Goals as goal

pub returns-in_default-clause-found : goal.returns-in_default-clause-found
returns-in_default-clause-found c = λ first f a h. alone_at_end c.args.halves c.args.level c.args.depth first f a c.in_default.ensures.found

pub returns-in_default-tail_of-clause-found : goal.returns-in_default-tail_of-clause-found
returns-in_default-tail_of-clause-found c = λ first f a h. alone_at_other c.args.halves c.args.level c.args.depth first f a c.in-Some.ensures.found (sym c.tail_of.ensures ∙ c.in_default-tail_of.is)

pub returns-else-is_allowed-clause-found : goal.returns-else-is_allowed-clause-found
returns-else-is_allowed-clause-found c = λ first f a h. alone_at_bound c.args.halves c.args.level c.args.depth first f a c.in-Some-tail_of.tail c.in-Some.ensures.found (sym c.tail_of.ensures ∙ c.in-Some-tail_of.is) (ap (λ n. is_level_free (c.args.level + suc n) && tail_fits c.in-Some-tail_of.tail c.args.depth) (sym h) ∙ sym c.is_allowed.ensures ∙ c.if-is_allowed.false)
