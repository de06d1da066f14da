use Rattle.std.proofs.Common.{sym, ◌∙◌, ◌+◌}
use Rattle.mdr_grammar.specs.Forms.Part.{right}
use Rattle.mdr_simple.proofs.Stated.{option_allowed, option_forbidden}
use Rattle.mdr_simple.proofs.locals.right_option.Goals as goal

pub returns-then-is_level_free-clause-reads : goal.returns-then-is_level_free-clause-reads
returns-then-is_level_free-clause-reads c = option_allowed c.args.reader.halves _ (right (c.args.level + 1) c.args.depth) (λ x. x.0) (λ x. x.1.now) c.right_or_none.result c.args.tokens.now (sym c.is_level_free.ensures ∙ c.if-is_level_free.true) c.right_or_none.ensures.reads

pub returns-else-is_level_free-clause-reads : goal.returns-else-is_level_free-clause-reads
returns-else-is_level_free-clause-reads c = option_forbidden c.args.reader.halves _ (right (c.args.level + 1) c.args.depth) c.args.tokens.now (sym c.is_level_free.ensures ∙ c.if-is_level_free.false)
