use Rattle.mdr_grammar.specs.Forms.Part.{item}
use Rattle.mdr_reader.proofs.Turns.{optional}
use Rattle.mdr_parse.proofs.toplevel.item_option.Goals as goal

pub returns-clause-reads : goal.returns-clause-reads
returns-clause-reads c = optional c.args.reader.halves item (λ x. x.0) (λ x. x.1.now) c.perhaps.result c.args.tokens.now (c.perhaps.ensures.reads _ c.item.ensures.reads)
