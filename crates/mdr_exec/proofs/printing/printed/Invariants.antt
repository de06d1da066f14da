use Rattle.std.proofs.Common.{◌≡◌, ◌++◌, drop}
use Rattle.mdr_core.specs.Services.{Plain}
use Rattle.mdr_meaning.specs.Printed.{printed}
use Rattle.mdr_events.specs.Values.{wires_of}
use Rattle.mdr_exec.specs.Printing.{reading_as}
use Rattle.mdr_exec.proofs.printing.printed.Given as goal

abbrev pub invariant-loop-byte : goal.invariant-loop-byte
invariant-loop-byte l = l.out.items ++ printed (reading_as l.reading) (drop l.byte-index l.format) (wires_of l.left) ≡ printed Plain l.format (wires_of l.args)
