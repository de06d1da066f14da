use Rattle.std.proofs.Common.{refl}
use Rattle.mdr_grammar.specs.Forms.Part.{specifiers}
use Rattle.mdr_grammar.specs.Statements.{locals_rule, locals_of}
use Rattle.mdr_reader.proofs.Going.{through_by}
use Rattle.mdr_simple.proofs.locals.locals.Goals as goal

pub returns-clause-reads : goal.returns-clause-reads
returns-clause-reads c = through_by c.args.reader.halves (locals_rule c.args.level c.args.depth) specifiers (λ b. locals_of c.in-Some.token.now.place b c.args.level c.args.depth) (λ x. x.0) (λ x. x.1.now) c.locals_at.result c.in-Some.ensures.found refl c.locals_at.ensures.reads
