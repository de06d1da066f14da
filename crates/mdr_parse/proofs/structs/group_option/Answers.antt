use Rattle.mdr_grammar.specs.Forms.Part.{field_group}
use Rattle.mdr_reader.proofs.Turns.{optional}
use Rattle.mdr_parse.proofs.structs.group_option.Goals as goal

pub returns-clause-reads : goal.returns-clause-reads
returns-clause-reads c = optional c.args.reader.halves field_group (λ x. x.0) (λ x. x.1.now) c.perhaps.result c.args.tokens.now (c.perhaps.ensures.reads _ c.field_group.ensures.reads)
