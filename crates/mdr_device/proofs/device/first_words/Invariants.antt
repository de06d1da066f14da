use Rattle.std.proofs.Common.{◌≡◌, drop}
use Rattle.mdr_device.specs.Machines.{with_words, zeros}
use Rattle.mdr_device.proofs.device.first_words.Given as goal

abbrev pub invariant-loop-reg : goal.invariant-loop-reg
invariant-loop-reg l = with_words (drop l.reg-index l.words) l.registers ≡ with_words l.words (zeros 4096)
