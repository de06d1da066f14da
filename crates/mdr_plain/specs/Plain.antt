-- believed
-- The plain meaning of a driver and a script: every body is entered, on one memory.
use Rattle.std.specs.Prelude.{ℕ, false, List}
use Rattle.mdr_core.specs.declared.program.Program.{Program}
use Rattle.mdr_meaning.specs.declared.wire.Wire.{Wire}
use Rattle.mdr_meaning.specs.declared.wire.Wire.TheVariants as wire
use Rattle.mdr_meaning.specs.Bodies.{whole_side}
use Rattle.mdr_meaning.specs.Sides.{Side}
use Rattle.mdr_model.specs.declared.command.Command.{Command}
use Rattle.mdr_bound.specs.declared.bound.Bound.{Bound}
use Rattle.mdr_plain.specs.Running.{Crossing, KernelCode, call, in_kernel, interrupts}
use Rattle.mdr_plain.specs.Scripts.{Finish, begin, commands, first_world, in_place}
use Rattle.mdr_plain.specs.World.{World, Ran, Ended, Work}

-- no function is of another half
abbrev pub never : Crossing
never at f args d w = Ended wire.NoValue w

-- the whole driver is code that interrupts are taken in
abbrev pub whole : Program → Side → KernelCode
whole program side = record { program = program; side = side; setting = in_kernel program never }

abbrev pub entered : KernelCode → (func : ℕ) (args : List Wire) → World → Ran Wire
entered kernel f args w = call kernel (interrupts kernel) f args 0 w

abbrev pub does : KernelCode → Command → World → Work
does kernel c w = in_place kernel (entered kernel) (entered kernel) (begin kernel (λ f. false) c w)

-- the run of a script under a budget of ticks, where a side's bodies are all that there are
unfoldable pub plain_of : Program → Side → Bound → (budget : ℕ) → Finish
plain_of program side script budget = commands (does (whole program side)) script.commands (first_world side.known script budget)

abbrev pub plain : Program → Bound → (budget : ℕ) → Finish
plain program script budget = plain_of program (whole_side program) script budget
