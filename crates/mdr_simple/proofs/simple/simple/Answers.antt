use Rattle.std.proofs.Common.{refl, ◌+◌, false}
use Rattle.mdr_grammar.specs.Forms.{form}
use Rattle.mdr_grammar.specs.Forms.Part.{simple, operand}
use Rattle.mdr_grammar.specs.Forms.Nonterminal.{part, assignment}
use Rattle.mdr_reader.proofs.Arms.{at_end}
use Rattle.mdr_reader.proofs.Going.{through}
use Rattle.mdr_simple.proofs.simple.simple.Goals as goal

pub returns-in_default-clause-reads : goal.returns-in_default-clause-reads
returns-in_default-clause-reads c = at_end c.args.reader.halves (part (simple c.args.level c.args.depth)) c.in_default.ensures.found

pub returns-clause-reads : goal.returns-clause-reads
returns-clause-reads c = through c.args.reader.halves (simple c.args.level c.args.depth) (operand false (c.args.level + 1) c.args.depth) (λ x. form (assignment c.in-Some.token.now.place c.args.level c.args.depth x.form x.alone)) (λ x. x.0) (λ x. x.1.now) c.simple_at.result c.in-Some.ensures.found refl c.simple_at.ensures.reads
