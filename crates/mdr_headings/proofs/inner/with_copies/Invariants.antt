use Rattle.std.proofs.Common.{◌≡◌, drop, ◌++◌}
use Rattle.mdr_headings.proofs.inner.with_copies.Given as goal

abbrev pub invariant-loop-c : goal.invariant-loop-c
invariant-loop-c l = l.all ++ drop l.c-index l.cs ≡ l.initial.all ++ l.cs
