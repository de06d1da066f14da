use Rattle.std.proofs.Common.{sym, ◌∙◌}
use Rattle.mdr_grammar.specs.Forms.Part.{simple}
use Rattle.mdr_reader.proofs.Turns.{optional}
use Rattle.mdr_simple.proofs.Stated.{option_allowed, option_forbidden}
use Rattle.mdr_simple.proofs.simple.simple_option.Goals as goal

pub returns-then-is_level_free-clause-reads : goal.returns-then-is_level_free-clause-reads
returns-then-is_level_free-clause-reads c = option_allowed c.args.reader.halves _ (simple c.args.level c.args.depth) (λ x. x.0) (λ x. x.1.now) c.perhaps.result c.args.tokens.now (sym c.is_level_free.ensures ∙ c.if-is_level_free.true) (optional c.args.reader.halves (simple c.args.level c.args.depth) (λ x. x.0) (λ x. x.1.now) c.perhaps.result c.args.tokens.now (c.perhaps.ensures.reads _ c.simple.ensures.reads))

pub returns-else-is_level_free-clause-reads : goal.returns-else-is_level_free-clause-reads
returns-else-is_level_free-clause-reads c = option_forbidden c.args.reader.halves _ (simple c.args.level c.args.depth) c.args.tokens.now (sym c.is_level_free.ensures ∙ c.if-is_level_free.false)
