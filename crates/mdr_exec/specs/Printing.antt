-- protocol
-- Where a text is read, as the code has it.
use Rattle.std.specs.Prelude.{ℕ, List}
use Rattle.mdr_core.specs.declared.value.Value.{Value}
use Rattle.mdr_core.specs.Services as services
use Rattle.mdr_meaning.specs.Printed.{printed}
use Rattle.mdr_events.specs.Values.{wires_of}
use Rattle.mdr_exec.specs.declared.printing.Reading.{Reading}
use Rattle.mdr_exec.specs.declared.printing.Reading.TheVariants as reading

abbrev pub reading_as : Reading → services.Reading
reading_as reading.Plain = services.Plain
reading_as reading.Percent = services.Percent
reading_as reading.Long = services.Long

-- what is printed of these bytes and arguments
abbrev pub printed_as : Reading → List ℕ → List Value → List ℕ
printed_as reading bytes args = printed (reading_as reading) bytes (wires_of args)
