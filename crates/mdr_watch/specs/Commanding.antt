-- protocol
-- Code of the kernel half that a command calls, and that may call back.
use Rattle.std.specs.Prelude.{◌≡◌, ℕ, List}
use Rattle.mdr_events.specs.declared.event.Crossing.{Crossing}
use Rattle.mdr_events.specs.Values.{wires_of}
use Rattle.mdr_meaning.specs.declared.wire.Wire.{Wire}
use Rattle.mdr_plain.specs.Running.{call, in_kernel, interrupts}
use Rattle.mdr_plain.specs.World.{World, Ran}
use Rattle.mdr_runs.specs.Pausing.{finishes}
use Rattle.mdr_watched.specs.Watched.{backs, held, kernel_of, kernel_with}
use Rattle.mdr_whole.specs.declared.ending.Gave.{Gave}
use Rattle.mdr_whole.specs.declared.paused.Paused.{Paused}
use Rattle.mdr_whole.specs.declared.paused.Went.{Went}
use Rattle.mdr_whole.specs.declared.paused.Went.TheVariants as went
use Rattle.mdr_watch.specs.declared.watch.Watch.{Watch}
use Rattle.mdr_watch.specs.Leaving.{GaveFor}
use Rattle.mdr_watch.specs.Watching.{came_below, driver_in}

-- a function is called
abbrev pub calls_in : Watch → (func : ℕ) (args : List Wire) → World → Ran Wire
calls_in watch f args w = call (kernel_with (driver_in watch) (backs (driver_in watch) (held (driver_in watch)))) (interrupts (kernel_of (driver_in watch))) f args 0 w

-- what it is given where it calls back
abbrev pub gives_back : Watch → Crossing → World → Ran Wire
gives_back watch c w = backs (driver_in watch) (held (driver_in watch)) c.at c.func (wires_of c.args) c.depth w

-- what all of it comes to, where it came so far
abbrev pub finishes_in : Watch → Went → World → Ran Wire
finishes_in watch g w = finishes (in_kernel watch.program.now (backs (driver_in watch) (held (driver_in watch)))) (interrupts (kernel_of (driver_in watch))) (came_below watch g w)

-- it came so far, and comes to this. Where it stopped a set may be left
abbrev pub WentFor : Watch → Went → World → Ran Wire → Type 0
WentFor watch (went.Gave g) w all = GaveFor g w all
WentFor watch (went.Calls c p) w all = finishes_in watch (went.Calls c p) w ≡ all

-- a call back gave so much, and code that waited for it came so far
abbrev pub ComesOn : Watch → Paused → Gave → World → Went → World → Type 0
ComesOn watch p gave w g w1 = (c : Crossing) (before : World) → GaveFor gave w (gives_back watch c before) → WentFor watch g w1 (finishes_in watch (went.Calls c p) before)
