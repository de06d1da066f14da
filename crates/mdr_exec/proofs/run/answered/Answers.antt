use Rattle.mdr_exec.proofs.MachineLaws.{params_come}
use Rattle.mdr_exec.proofs.run.answered.Goals as goal

pub returns-in-WaitsParams : goal.returns-in-WaitsParams
returns-in-WaitsParams c = params_come c.args.front c.in-WaitsParams.room c.filled.result c.args.results.now c.in-WaitsParams.is c.filled.ensures
