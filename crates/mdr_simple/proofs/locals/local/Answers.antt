use Rattle.std.proofs.Common.{refl}
use Rattle.mdr_grammar.specs.Forms.Part.{local, declarator}
use Rattle.mdr_grammar.specs.Statements.{local_of}
use Rattle.mdr_reader.proofs.Going.{through_all}
use Rattle.mdr_simple.proofs.locals.local.Goals as goal

pub returns-clause-reads : goal.returns-clause-reads
returns-clause-reads c = through_all c.args.reader.halves (local c.args.place c.args.base.now c.args.level c.args.depth) (declarator c.args.depth c.args.base.now 0) (λ x. local_of c.args.place c.args.level c.args.depth x) (λ x. x.0) (λ x. x.1.now) c.declared_local.result c.args.tokens.now (λ s t. refl) c.declared_local.ensures.reads
