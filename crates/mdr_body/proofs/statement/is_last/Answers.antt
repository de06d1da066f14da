use Rattle.std.proofs.Math.Path.{◌∙◌}
use Rattle.mdr_body.proofs.Switching.{none_behind}
use Rattle.mdr_body.proofs.statement.is_last.Goals as goal

pub returns : goal.returns
returns c = c.is_empty.ensures ∙ none_behind c.args.behind.now
