use Rattle.mdr_parse.specs.Outside.{item_lists, source_end}
use Rattle.mdr_parse.proofs.OuterForms.{bound}
use Rattle.mdr_parse.proofs.toplevel.source_items.Goals as goal

pub returns : goal.returns
returns c = bound c.args.reader.halves item_lists (λ xs. source_end xs) (λ x. x.0) (λ x. x.1.now) c.ended_items.result c.args.tokens.now c.ended_items.ensures
