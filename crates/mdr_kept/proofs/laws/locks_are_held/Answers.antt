use Rattle.mdr_kept.proofs.ShownLaws.{locks_are_held}
use Rattle.mdr_kept.proofs.laws.locks_are_held.Goals as goal

pub returns : goal.returns
returns c = locks_are_held
