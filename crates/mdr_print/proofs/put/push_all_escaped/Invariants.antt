use Rattle.std.proofs.Common.{◌≡◌, ◌++◌, drop}
use Rattle.mdr_print.specs.Marks.{all_escaped}
use Rattle.mdr_print.proofs.put.push_all_escaped.Given as goal

abbrev pub invariant-loop-byte : goal.invariant-loop-byte
invariant-loop-byte l = l.out.items ++ all_escaped (drop l.byte-index l.bytes) ≡ l.initial.out.items ++ all_escaped l.bytes
