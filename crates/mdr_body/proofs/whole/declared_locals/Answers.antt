use Rattle.std.proofs.Common.{ap, List, Result}
use Rattle.std.proofs.Math.Path.{◌∙◌}
use Rattle.mdr_core.specs.declared.program.Local.{Local}
use Rattle.mdr_faults.specs.declared.fault.Fault.{Fault}
use Rattle.mdr_faults.specs.Faults.{extended}
use Rattle.mdr_body.proofs.Closing.{one_local}
use Rattle.mdr_body.proofs.whole.declared_locals.Goals as goal

pub loop-d-preserved : goal.loop-d-preserved
loop-d-preserved c = c.in_ok-all.ensures ∙ ap (λ (r : Result (List Local) Fault). extended r c.in-Some.d.means) c.loop-d.invariant ∙ one_local c.loop-d.yielded c.in-Some.d
