-- protocol
-- The driver that is watched.
use Rattle.std.specs.Prelude.{◌≡◌, ◌≤◌, true, length, reverse, ℕ, suc, List, [], Some, Result, is_some, slice_get}
use Rattle.mdr_core.specs.declared.plan.Key.{Key}
use Rattle.mdr_core.specs.declared.program.Func.{Func}
use Rattle.mdr_core.specs.declared.program.Program.{Program}
use Rattle.mdr_events.specs.declared.event.Asked.{Asked as Question}
use Rattle.mdr_events.specs.declared.event.Crossing.{Crossing}
use Rattle.mdr_events.specs.Events.{asked_as}
use Rattle.mdr_events.specs.Values.{wires_of}
use Rattle.mdr_extents.specs.Reaching.{Failing, visible}
use Rattle.mdr_meaning.specs.declared.wire.Wire.{Wire}
use Rattle.mdr_meaning.specs.Sides.{Side}
use Rattle.mdr_model.specs.declared.command.Command.{Command}
use Rattle.mdr_model.specs.declared.command.Command.TheVariants as command
use Rattle.mdr_model.specs.declared.memory.Cell.{Cell}
use Rattle.mdr_meaning.specs.Bodies.{started}
use Rattle.mdr_meaning.specs.Tree.{Tree}
use Rattle.mdr_plain.specs.Running.{Crossing as AnyCrossing, Setting, Went as AnyWent, interrupts}
use Rattle.mdr_plain.specs.World.{World, Ran}
use Rattle.mdr_viewed.specs.Laws.{kernel_goes, returns}
use Rattle.mdr_watched.specs.Driver.{Driver, driver_of, entry_roots, touched_by}
use Rattle.mdr_watched.specs.Watched.{calls_back, downcall, held, in_user, kernel_of, returns_to, serves}
use Rattle.mdr_whole.specs.declared.paused.Paused.{Paused}
use Rattle.mdr_whole.specs.declared.paused.Went.{Went}
use Rattle.mdr_whole.specs.Pausing.{awaited, went_as}
use Rattle.mdr_watch.specs.declared.sets.Sets.{Sets}
use Rattle.mdr_watch.specs.declared.watch.Activation.{Activation}
use Rattle.mdr_watch.specs.declared.watch.Upcall.{Upcall}
use Rattle.mdr_watch.specs.declared.watch.Watch.{Watch}

abbrev pub driver_in : Watch → Driver
driver_in w = driver_of w.program.now w.plan.now

-- each function has a half
abbrev pub IsFit : Watch → Type 0
IsFit w = length w.plan.now.halves ≡ length w.program.now.funcs

-- each function has a body
abbrev pub HaveBodies : Program → Type 0
HaveBodies program = (f : ℕ) (func : Func) → slice_get program.funcs f ≡ Some func → is_some func.body ≡ true

-- a command in which no function is called
abbrev pub IsNoCall : Command → Type 0
IsNoCall (command.Call f args) = ⊥
IsNoCall (command.Idle n) = Unit {0}
IsNoCall (command.Show g) = Unit {0}
IsNoCall (command.Poke serial index n) = Unit {0}
IsNoCall (command.Say text) = Unit {0}

-- how code of the kernel half calls back below a function of the user half that runs
abbrev pub backs_in : Activation → AnyCrossing
backs_in a = calls_back (driver_in a.upcall.watch) (held (driver_in a.upcall.watch)) a.room

-- the bodies of the user half, and what stands around them in an upcall
abbrev pub user_side : Upcall → Side
user_side u = (driver_in u.watch).user

-- what the user half may touch in it
abbrev pub touched_in : Upcall → List Key
touched_in u = touched_by u.watch.plan.now u.func

-- what its services, its downcalls and their returns do in a world
abbrev pub serves_in : Upcall → Question → World → Ran (List Wire)
serves_in u asked w = serves (driver_in u.watch) (held (driver_in u.watch)) u.func (asked_as asked) w

abbrev pub downcalls_in : Activation → Crossing → World → Ran Wire
downcalls_in a c w = downcall (driver_in a.upcall.watch) (held (driver_in a.upcall.watch)) a.upcall.func (backs_in a) c.at c.func (wires_of c.args) c.depth w

abbrev pub returns_in : Upcall → Sets → Crossing → (sent : List Wire) → Wire → World → Ran Wire
returns_in u s c sent v w = returns (driver_in u.watch) u.func s.inner (reverse s.outer) c.at c.func sent v w

-- its call with these arguments gave a result
abbrev pub comes_back : Upcall → Crossing → Wire → World → Ran Wire
comes_back u c v w = returns_to (driver_in u.watch) (held (driver_in u.watch)) u.func c.at c.func (wires_of c.args) v w

-- what code of the kernel half came to, how far its tree goes, and how far it goes where it is called and where it goes on with a value
abbrev pub came_below : Watch → Went → World → AnyWent
came_below watch g w = went_as watch.program.now (driver_in watch).kernel g w

abbrev pub kernel_went : Watch → Tree → World → AnyWent
kernel_went watch t w = kernel_goes (driver_in watch) (interrupts (kernel_of (driver_in watch))) t w

abbrev pub enters_below : Watch → Crossing → World → AnyWent
enters_below watch c w = kernel_went watch (started (driver_in watch).kernel (suc w.clock.rest) c.func (wires_of c.args) c.depth Tree.Idle) w

-- up to the ticks that were left, or to more
abbrev pub WentBelow : Watch → Paused → Wire → (old : World) → Went → (new : World) → Type 0
WentBelow watch p v w g w' = (rest : ℕ) → w.clock.rest ≤ rest → came_below watch g w' ≡ kernel_went watch (awaited watch.program.now (driver_in watch).kernel p rest v) w

-- the set with which it begins
abbrev pub begins_with : Upcall → (args : List Wire) → World → Result (List Cell) Failing
begins_with u args w = visible u.watch.program.now (touched_in u) w.memory [] (entry_roots u.watch.program.now u.func args)

abbrev pub around_user : Activation → Setting
around_user a = in_user (driver_in a.upcall.watch) (held (driver_in a.upcall.watch)) a.upcall.func (backs_in a)
