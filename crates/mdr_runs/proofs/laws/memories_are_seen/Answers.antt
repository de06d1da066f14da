use Rattle.mdr_runs.proofs.Seeing.{memories_are_seen}
use Rattle.mdr_runs.proofs.laws.memories_are_seen.Goals as goal

pub returns : goal.returns
returns g c = memories_are_seen _
