use Rattle.mdr_exec.proofs.UnwindingLaws.{work_goes_on}
use Rattle.mdr_exec.proofs.laws.held_work_goes_on.Goals as goal

pub returns : goal.returns
returns g c = λ a side here l ahead items m. work_goes_on a side here l ahead items m
