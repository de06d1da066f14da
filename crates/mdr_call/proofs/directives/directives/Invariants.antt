use Rattle.std.proofs.Common.{◌≡◌, drop}
use Rattle.mdr_core.specs.Services.{Reading as CoreReading, directives}
use Rattle.mdr_call.specs.Turns.{core_reading}
use Rattle.mdr_call.proofs.TextTurns.{behind}
use Rattle.mdr_call.proofs.directives.directives.Given as goal

abbrev pub invariant-loop-byte : goal.invariant-loop-byte
invariant-loop-byte l = behind l.kinds (directives (core_reading l.reading) (drop l.byte-index l.text)) ≡ directives CoreReading.Plain l.text
