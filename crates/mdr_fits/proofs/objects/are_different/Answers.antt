use Rattle.std.proofs.Common.{◌∙◌}
use Rattle.mdr_fits.proofs.ObjectTests.{once_different}
use Rattle.mdr_fits.proofs.objects.are_different.Goals as goal

pub returns : goal.returns
returns c = c.are_once.ensures ∙ once_different c.args.values.now
