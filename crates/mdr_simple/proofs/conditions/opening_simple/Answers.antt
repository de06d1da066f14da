use Rattle.std.proofs.Common.{sym, ◌∙◌, refl, ◌+◌, [], ◌∷◌}
use Rattle.mdr_grammar.specs.Forms.{and_then}
use Rattle.mdr_grammar.specs.Forms.Right.{gives}
use Rattle.mdr_grammar.specs.Expressions.{is_level_free}
use Rattle.mdr_grammar.specs.Statements.{opening_simple_rule, simple_rule}
use Rattle.mdr_simple.proofs.Stated.{forbidden_by}
use Rattle.mdr_simple.proofs.Deeper.{by_simple}
use Rattle.mdr_simple.proofs.conditions.opening_simple.Goals as goal

pub returns-then-is_level_free-clause-reads : goal.returns-then-is_level_free-clause-reads
returns-then-is_level_free-clause-reads c = by_simple c.args.reader.halves c.args.level c.args.depth (λ x. x.0) (λ x. x.1.now) c.one_simple.result c.args.tokens.now (sym c.is_level_free.ensures ∙ c.if-is_level_free.true) c.one_simple.ensures.reads

pub returns-else-is_level_free-clause-reads : goal.returns-else-is_level_free-clause-reads
returns-else-is_level_free-clause-reads c = forbidden_by c.args.reader.halves (is_level_free (c.args.level + 1)) (opening_simple_rule c.args.level c.args.depth) (λ s t. and_then (simple_rule c.args.level c.args.depth s t) (λ n. gives (n ∷ []))) c.args.tokens.now (sym c.is_level_free.ensures ∙ c.if-is_level_free.false) (λ s t. refl)
