use Rattle.std.proofs.Common.{refl}
use Rattle.mdr_grammar.specs.Forms.Part.{field_group, specifiers}
use Rattle.mdr_grammar.specs.Declarations.{fields_in}
use Rattle.mdr_reader.proofs.Going.{through_all}
use Rattle.mdr_declaration.proofs.fields.field_group.Goals as goal

pub returns-clause-reads : goal.returns-clause-reads
returns-clause-reads c = through_all c.args.reader.halves field_group specifiers (λ b. fields_in b) (λ x. x.0) (λ x. x.1.now) c.typed_fields.result c.args.tokens.now (λ s t. refl) c.typed_fields.ensures.reads
