use Rattle.mdr_runs.proofs.Stand.{ticks_stand}
use Rattle.mdr_runs.proofs.laws.each_tick_stands.Goals as goal

pub returns : goal.returns
returns g c = λ a world_in program_in seen. ticks_stand a world_in program_in seen
