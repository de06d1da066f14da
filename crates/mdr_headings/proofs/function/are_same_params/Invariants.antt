use Rattle.std.proofs.Common.{◌≡◌, length, drop}
use Rattle.mdr_headings.specs.Functions.{are_same_params}
use Rattle.mdr_headings.proofs.function.are_same_params.Given as goal

abbrev pub invariant-loop-i : goal.invariant-loop-i
invariant-loop-i l = (length l.ps ≡ length l.qs) × (are_same_params (drop l.i l.ps) (drop l.i l.qs) ≡ are_same_params l.ps l.qs)
