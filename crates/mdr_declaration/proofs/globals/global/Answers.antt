use Rattle.std.proofs.Common.{refl}
use Rattle.mdr_grammar.specs.Forms.Part.{global, declarator}
use Rattle.mdr_grammar.specs.Statements.{global_with}
use Rattle.mdr_reader.proofs.Going.{through_all}
use Rattle.mdr_declaration.proofs.globals.global.Goals as goal

pub returns-clause-reads : goal.returns-clause-reads
returns-clause-reads c = through_all c.args.reader.halves (global c.args.place c.args.base.now) (declarator 0 c.args.base.now 0) (λ x. global_with c.args.place x) (λ x. x.0) (λ x. x.1.now) c.declared_global.result c.args.tokens.now (λ s t. refl) c.declared_global.ensures.reads
