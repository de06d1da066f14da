use Rattle.std.proofs.Common.{sym, ◌∙◌}
use Rattle.mdr_expression.proofs.Expressing.{gives_same}
use Rattle.mdr_simple.proofs.Stated.{opening_is}
use Rattle.mdr_reader.proofs.Turns.{fails_by, or_ok, or_other, or_fails}
use Rattle.mdr_simple.proofs.conditions.opening.Goals as goal

pub returns-in-Ok-clause-reads : goal.returns-in-Ok-clause-reads
returns-in-Ok-clause-reads c = opening_is c.args.reader.halves c.args.level c.args.depth c.args.tokens.now ∙ or_ok (λ x. x.0) (λ x. x.1.now) c.in-Ok.x _ _ c.args.tokens.now c.in-Ok.ensures.reads

pub returns-then-is_at-clause-reads : goal.returns-then-is_at-clause-reads
returns-then-is_at-clause-reads c = gives_same (λ x. x.0) (λ x. x.1.now) c.opening_simple.result (opening_is c.args.reader.halves c.args.level c.args.depth c.args.tokens.now) (or_other (λ x. x.0) (λ x. x.1.now) c.opening_simple.result c.in-Err.e _ _ c.args.tokens.now c.in-Err.ensures.reads (sym c.is_at.ensures ∙ c.if-is_at.true) c.opening_simple.ensures.reads)

pub returns-else-is_at-clause-reads : goal.returns-else-is_at-clause-reads
returns-else-is_at-clause-reads c = fails_by c.in-Err.e _ _ (sym (opening_is c.args.reader.halves c.args.level c.args.depth c.args.tokens.now)) (or_fails c.in-Err.e _ _ c.args.tokens.now c.in-Err.ensures.reads (sym c.is_at.ensures ∙ c.if-is_at.false))
