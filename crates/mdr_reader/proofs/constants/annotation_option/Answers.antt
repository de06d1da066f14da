use Rattle.mdr_grammar.specs.Forms.Part.{annotation}
use Rattle.mdr_reader.proofs.Turns.{optional}
use Rattle.mdr_reader.proofs.constants.annotation_option.Goals as goal

pub returns-clause-reads : goal.returns-clause-reads
returns-clause-reads c = optional c.args.reader.halves (annotation c.args.depth) (λ x. x.0) (λ x. x.1.now) c.perhaps.result c.args.tokens.now (c.perhaps.ensures.reads _ c.annotation.ensures.reads)
