use Rattle.std.proofs.Common.{◌≡◌, ◌++◌, drop}
use Rattle.mdr_plain.specs.Report.{hex}
use Rattle.mdr_report.proofs.bytes.put_hex.Given as goal

abbrev pub invariant-loop-byte : goal.invariant-loop-byte
invariant-loop-byte l = l.out.items ++ hex (drop l.byte-index l.bytes) ≡ l.initial.out.items ++ hex l.bytes
