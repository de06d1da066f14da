use Rattle.std.proofs.Common.{sym, ◌∙◌, ◌+◌}
use Rattle.mdr_grammar.specs.Forms.Part.{expression}
use Rattle.mdr_simple.proofs.Stated.{option_allowed, option_forbidden}
use Rattle.mdr_simple.proofs.leaving.value_option.Goals as goal

pub returns-then-is_level_free-clause-reads : goal.returns-then-is_level_free-clause-reads
returns-then-is_level_free-clause-reads c = option_allowed c.args.reader.halves _ (expression (c.args.level + 1) 0) (λ x. x.0) (λ x. x.1.now) c.form_option.result c.args.tokens.now (sym c.is_level_free.ensures ∙ c.if-is_level_free.true) c.form_option.ensures.reads

pub returns-else-is_level_free-clause-reads : goal.returns-else-is_level_free-clause-reads
returns-else-is_level_free-clause-reads c = option_forbidden c.args.reader.halves _ (expression (c.args.level + 1) 0) c.args.tokens.now (sym c.is_level_free.ensures ∙ c.if-is_level_free.false)
