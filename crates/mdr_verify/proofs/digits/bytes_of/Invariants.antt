use Rattle.std.proofs.Common.{◌≡◌, ◌++◌, length}
use Rattle.mdr_verify.specs.Digits.{bytes_of}
use Rattle.mdr_verify.proofs.digits.bytes_of.Given as goal

abbrev pub invariant-loop-byte : goal.invariant-loop-byte
invariant-loop-byte l = l.bytes.items ++ bytes_of l.rest ≡ bytes_of l.digits

abbrev pub decreases-loop-byte : goal.decreases-loop-byte
decreases-loop-byte l = length l.rest
