use Rattle.mdr_runs.proofs.Stand.{runs_stand}
use Rattle.mdr_runs.proofs.laws.each_run_stands.Goals as goal

pub returns : goal.returns
returns g c = λ a world_in program_in seen. runs_stand a world_in program_in seen
