use Rattle.mdr_plain.proofs.ObjectLaws.{objects_are_least}
use Rattle.mdr_plain.proofs.laws.objects_are_least.Goals as goal

pub returns : goal.returns
returns c = objects_are_least
