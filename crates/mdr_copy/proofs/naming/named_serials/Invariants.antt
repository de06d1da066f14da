use Rattle.std.proofs.Common.{◌≡◌, ◌++◌, drop}
use Rattle.mdr_copy.specs.Namings.{named_serials}
use Rattle.mdr_copy.proofs.naming.named_serials.Given as goal

abbrev pub invariant-loop-value : goal.invariant-loop-value
invariant-loop-value l = l.out.items ++ named_serials (drop l.value-index l.values) ≡ named_serials l.values
