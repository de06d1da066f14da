-- protocol
-- What follows an event of running code, where code runs on one memory: all of a driver's, or one half's.
use Rattle.std.specs.Prelude.{ℕ, Bool, true, false, List, Some}
use Rattle.mdr_core.specs.declared.program.Program.{Program}
use Rattle.mdr_core.specs.declared.stop.StopKind.TheVariants as stop
use Rattle.mdr_events.specs.declared.event.Event.{Event}
use Rattle.mdr_events.specs.Held.{Held}
use Rattle.mdr_meaning.specs.declared.wire.Wire.{Wire}
use Rattle.mdr_meaning.specs.Sides.{Side}
use Rattle.mdr_meaning.specs.Tree.{Tree}
use Rattle.mdr_plain.specs.Plain.{never}
use Rattle.mdr_plain.specs.Running.{Before, Crossing, KernelCode, Setting, in_kernel, interrupts, nothing, run}
use Rattle.mdr_plain.specs.World.{World, Ran, Stopped}
use Rattle.mdr_runs.specs.Around.{StandsIn, answered_in, follows_in, goes_on_in}

-- a call of a function that isn't among the code that runs: it is of the other half and may not be made, where one half runs, and gives nothing, where all code does
abbrev pub crossing_by : (half : Bool) → Crossing
crossing_by true = λ at f args depth w. Stopped stop.Atomic (Some at) w
crossing_by false = never

-- what stands around the code that runs
abbrev pub setting_by : Program → (half : Bool) → Setting
setting_by program half = in_kernel program (crossing_by half)

abbrev pub code_by : Program → (half : Bool) → Side → KernelCode
code_by program half side = record { program = program; side = side; setting = setting_by program half }

-- what is tried before a tick of a driver's code: the interrupt rule, or nothing
abbrev pub tried_by : (tries : Bool) → Program → (half : Bool) → Side → Before
tried_by true program half side = interrupts (code_by program half side)
tried_by false program half side = nothing

-- how a driver's code runs
abbrev pub runs : Program → (half : Bool) → Before → Tree → World → Ran Wire
runs program half before t w = run (setting_by program half) before t w

-- what held work does in a world, with fuel for so many ticks
abbrev pub goes_on : Program → (half : Bool) → Side → Before → (fuel : ℕ) → Held → World → Ran Wire
goes_on program half side before f h w = goes_on_in (setting_by program half) side before f h w

-- what follows the answers of the question that held work waits for
abbrev pub answered : Program → (half : Bool) → Side → Before → (fuel : ℕ) → Held → List Wire → World → Ran Wire
answered program half side before f h results w = answered_in (setting_by program half) side before f h results w

-- what follows an event, where this work is held
abbrev pub follows : Program → (half : Bool) → Side → Before → (fuel : ℕ) → Held → Event → World → Ran Wire
follows program half side before f h e w = follows_in (setting_by program half) side before f h e w

-- running code that came to an event: what follows is what all of it does, and there is fuel for the ticks that are left
abbrev pub Stands : Program → (half : Bool) → Side → Before → (fuel : ℕ) → (all : Ran Wire) → Held → Event → World → Type 0
Stands program half side before fuel all h e w = StandsIn (setting_by program half) side before fuel all h e w
