use Rattle.std.proofs.Common.{◌≡◌, length, drop}
use Rattle.mdr_faults.specs.Alike.{are_alike}
use Rattle.mdr_faults.proofs.alike.+alike.Given as goal

abbrev pub invariant-are_alike-loop-i : goal.invariant-are_alike-loop-i
invariant-are_alike-loop-i l = (length l.ts ≡ length l.us) × (are_alike (drop l.i l.ts) (drop l.i l.us) ≡ are_alike l.ts l.us)
