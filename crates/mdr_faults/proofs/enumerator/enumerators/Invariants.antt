use Rattle.std.proofs.Common.{◌≡◌, drop}
use Rattle.mdr_faults.specs.Faults.{told, followed}
use Rattle.mdr_faults.specs.Enums.{enumerators, behind_enumerators}
use Rattle.mdr_faults.proofs.enumerator.enumerators.Given as goal

abbrev pub invariant-loop-e : goal.invariant-loop-e
invariant-loop-e l = (followed l.all (told (enumerators l.scope l.before (drop l.e-index l.es))) ≡ told (enumerators l.fn.scope l.fn.first l.es)) × (behind_enumerators l.scope l.before (drop l.e-index l.es) ≡ behind_enumerators l.fn.scope l.fn.first l.es)
