-- The invariant of `same_types`.
use Rattle.std.proofs.Common.{◌≡◌, length, take}
use Rattle.mdr_core.proofs.same.+same.Given as goal

abbrev pub invariant-same_types-loop-i : goal.invariant-same_types-loop-i
invariant-same_types-loop-i l = (length l.ts ≡ length l.us) × (take l.i l.ts ≡ take l.i l.us)
