use Rattle.std.proofs.Common.{◌≡◌, ◌++◌, drop}
use Rattle.mdr_half.specs.Plans.{callees_text}
use Rattle.mdr_half.proofs.calls.put_callees.Given as goal

abbrev pub invariant-loop-f : goal.invariant-loop-f
invariant-loop-f l = l.out.items ++ callees_text l.program (drop l.f-index l.callees) ≡ l.initial.out.items ++ callees_text l.program l.callees
