use Rattle.mdr_grammar.specs.Forms.Part.{expression}
use Rattle.mdr_reader.proofs.Turns.{optional}
use Rattle.mdr_simple.proofs.simple.form_option.Goals as goal

pub returns-clause-reads : goal.returns-clause-reads
returns-clause-reads c = optional c.args.reader.halves (expression c.args.level c.args.depth) (λ x. x.0) (λ x. x.1.now) c.perhaps.result c.args.tokens.now (c.perhaps.ensures.reads _ c.form.ensures.reads)
