use Rattle.std.proofs.Common.{ap, ◌∙◌}
use Rattle.std.specs.Prelude.{is_some}
use Rattle.mdr_shown.proofs.MetLaws.{among_is}
use Rattle.mdr_shown.proofs.met.is_met.Goals as goal

pub returns : goal.returns
returns c = c.contains_key.ensures ∙ ap is_some (c.requires.numbered c.args.serial) ∙ among_is c.args.met.now.serials.items c.args.serial
