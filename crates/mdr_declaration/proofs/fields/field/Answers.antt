use Rattle.std.proofs.Common.{refl}
use Rattle.mdr_grammar.specs.Forms.Part.{field, declarator}
use Rattle.mdr_grammar.specs.Declarations.{annotated_parameter}
use Rattle.mdr_reader.proofs.Going.{through_all}
use Rattle.mdr_declaration.proofs.fields.field.Goals as goal

pub returns-clause-reads : goal.returns-clause-reads
returns-clause-reads c = through_all c.args.reader.halves (field c.args.base.now) (declarator 0 c.args.base.now 0) (λ x. annotated_parameter 0 x) (λ x. x.0) (λ x. x.1.now) c.annotated_field.result c.args.tokens.now (λ s t. refl) c.annotated_field.ensures.reads
