-- protocol
-- Code that runs up to its next call of the other half, and waits there.
use Rattle.std.specs.Prelude.{◌≡◌, ◌≤◌, ℕ, suc, Bool, List, [], ◌∷◌}
use Rattle.mdr_core.specs.declared.program.Program.{Program}
use Rattle.mdr_events.specs.Held.{tree}
use Rattle.mdr_events.specs.Ready.{IsOpen, takes_value}
use Rattle.mdr_events.specs.Steps.{child}
use Rattle.mdr_events.specs.Values.{wires_of}
use Rattle.mdr_exec.specs.declared.frame.Machine.{Machine}
use Rattle.mdr_exec.specs.Holding.{held_of}
use Rattle.mdr_meaning.specs.declared.wire.Wire.{Wire}
use Rattle.mdr_meaning.specs.Bodies.{started}
use Rattle.mdr_meaning.specs.Sides.{Side}
use Rattle.mdr_meaning.specs.Tree.{Tree}
use Rattle.mdr_plain.specs.Running.{Went as AnyWent, Gave, Calls, all_cells, goes}
use Rattle.mdr_plain.specs.Services.{served}
use Rattle.mdr_plain.specs.Storage.{accesses}
use Rattle.mdr_plain.specs.World.{World}
use Rattle.mdr_whole.specs.declared.code.Code.{Code}
use Rattle.mdr_whole.specs.declared.paused.Paused.{Paused}
use Rattle.mdr_whole.specs.declared.paused.Paused.TheVariants as paused
use Rattle.mdr_whole.specs.declared.paused.Went.{Went}
use Rattle.mdr_whole.specs.declared.paused.Went.TheVariants as went
use Rattle.mdr_whole.specs.Ending.{gave_as}
use Rattle.mdr_whole.specs.Going.{goes_in as machine_goes_in, side_of, tried_in}

-- what follows the value for which code waits, up to so many ticks
abbrev pub awaited : Program → Side → Paused → (rest : ℕ) → Wire → Tree
awaited program side (paused.Waits machine) rest v = child (tree side rest (held_of program machine) rest) (v ∷ [])
awaited program side paused.Passes rest v = Tree.Done v Tree.Idle

-- it waits for a value
abbrev pub IsPaused : Program → Paused → Type 0
IsPaused program (paused.Waits machine) = IsOpen takes_value (held_of program machine)
IsPaused program paused.Passes = Unit {0}

abbrev pub IsWaiting : Program → Went → Type 0
IsWaiting program (went.Gave g) = Unit {0}
IsWaiting program (went.Calls c p) = IsPaused program p

-- what code came to, in the world that it left
abbrev pub went_as : Program → Side → Went → World → AnyWent
went_as program side (went.Gave g) w = Gave (gave_as g w)
went_as program side (went.Calls c p) w = Calls c.at c.func (wires_of c.args) c.depth (awaited program side p w.clock.rest) w

-- by the code that runs
abbrev pub went_in : Code → Went → World → AnyWent
went_in c g w = went_as c.program.now (side_of c) g w

-- what a tree does up to its next call of the other half, with what is tried before its ticks
abbrev pub goes_in : (tries : Bool) → Code → Tree → World → AnyWent
goes_in tries c t w = goes (accesses c.program.now all_cells) (served c.program.now) (tried_in tries c) t w

-- a function that is called, and code that waits and goes on with a value
abbrev pub enters_in : (tries : Bool) → Code → (func : ℕ) (args : List Wire) (depth : ℕ) → World → AnyWent
enters_in tries c func args depth w = goes_in tries c (started (side_of c) (suc w.clock.rest) func args depth Tree.Idle) w

abbrev pub goes_on_in : (tries : Bool) → Code → Paused → (rest : ℕ) → Wire → World → AnyWent
goes_on_in tries c p rest v w = goes_in tries c (awaited c.program.now (side_of c) p rest v) w

-- a function that isn't among the code that runs, or that has no body, is called at once, and what it gives is passed on
abbrev pub calls_elsewhere : (func : ℕ) (args : List Wire) (depth : ℕ) → World → AnyWent
calls_elsewhere func args depth w = Calls (record { func = func; stmt = 0 }) func args depth (λ v. Tree.Done v Tree.Idle) w

-- a machine went so far, with fuel for the ticks that were left or for more
abbrev pub MachineWent : (tries : Bool) → Code → Machine → World → Went → World → Type 0
MachineWent tries c machine w g w' = (fuel : ℕ) → w.clock.rest ≤ fuel → went_in c g w' ≡ machine_goes_in tries c fuel machine w

-- so did code that waited, with a value, up to the ticks that were left or to more
abbrev pub WentOn : (tries : Bool) → Code → Paused → Wire → World → Went → World → Type 0
WentOn tries c p v w g w' = (rest : ℕ) → w.clock.rest ≤ rest → went_in c g w' ≡ goes_on_in tries c p rest v w
