use Rattle.std.proofs.Common.{sym, subst}
use Rattle.mdr_faults.specs.Naming.{Leads}
use Rattle.mdr_faults.proofs.Places.{leads_nowhere}
use Rattle.mdr_faults.proofs.names.Names.new.Goals as goal

pub invariant_of-result : goal.invariant_of-result
invariant_of-result g c = subst (λ xs. Leads g.T.HasName.name xs c.new-2.result) (sym c.new.ensures.items) (leads_nowhere g.T.HasName.name c.new-2.result c.new-2.ensures.empty)
