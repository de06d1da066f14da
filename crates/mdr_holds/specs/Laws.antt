-- believed
-- Laws: what code of a sound program, services and commands leave of a run's state.
use Rattle.std.specs.Prelude.{◌≡◌, ℕ, ◌≤◌, true, false, Bool, List, [], ◌∷◌, map, Some, None, Ok, slice_get, is_some}
use Rattle.mdr_callees.specs.Callees.{uses_by}
use Rattle.mdr_core.specs.declared.place.At.{At}
use Rattle.mdr_core.specs.declared.plan.Plan.{Plan}
use Rattle.mdr_core.specs.declared.program.Func.{Func}
use Rattle.mdr_core.specs.declared.program.GlobalDef.{GlobalDef}
use Rattle.mdr_core.specs.declared.program.Param.{Param}
use Rattle.mdr_core.specs.declared.program.Program.{Program}
use Rattle.mdr_core.specs.declared.types.Ty.{Ty, out-Ty}
use Rattle.mdr_core.specs.declared.types.Ty.TheOpen.{Ty-F}
use Rattle.mdr_core.specs.declared.types.Ty.TheVariants as type
use Rattle.mdr_core.specs.declared.value.Value.TheVariants as value
use Rattle.mdr_core.specs.Layout.{Leaf}
use Rattle.mdr_core.specs.Services.{Service, service_numbered}
use Rattle.mdr_core.specs.Sound.{IsSound}
use Rattle.mdr_meaning.specs.declared.wire.Wire.{Wire}
use Rattle.mdr_meaning.specs.declared.wire.Wire.TheVariants as wire
use Rattle.mdr_meaning.specs.declared.wire.WireView.{WireView}
use Rattle.mdr_meaning.specs.Bodies.{body_of, known_of}
use Rattle.mdr_meaning.specs.Fair.{AllFit, FairTo, IsAsk, IsCall, IsPlace, IsServed, after, Leaves}
use Rattle.mdr_meaning.specs.FairTrees.{IsSideOf}
use Rattle.mdr_meaning.specs.Fit.{Fits, Grows, IsKnownView, Knowledge, KnowsGlobals}
use Rattle.mdr_meaning.specs.Sides.{Body, Side}
use Rattle.mdr_meaning.specs.Tree.{Asked, Tree}
use Rattle.mdr_meaning.specs.Values.{wire_of}
use Rattle.mdr_meaning.specs.Within.{IsWithin, Uses}
use Rattle.mdr_model.specs.declared.command.Command.{Command}
use Rattle.mdr_model.specs.declared.command.Command.TheVariants as command
use Rattle.mdr_model.specs.declared.memory.Cell.{Cell}
use Rattle.mdr_model.specs.declared.message.New.{New}
use Rattle.mdr_model.specs.Agreement.{AreBlocks}
use Rattle.mdr_model.specs.Memory.{Memory, born_at, everywhere, leaf_at, normal, reached}
use Rattle.mdr_plain.specs.declared.outcome.Happened.TheVariants as happened
use Rattle.mdr_plain.specs.Plain.{never, plain_of}
use Rattle.mdr_plain.specs.Running.{Before, Crossing, KernelCode, call, in_kernel, interrupts, nothing, run}
use Rattle.mdr_plain.specs.Scripts.{Beginning, Did, Enters, Opens, begin, begun, commands, first_world, returned, showed}
use Rattle.mdr_plain.specs.Services.{served}
use Rattle.mdr_plain.specs.Storage.{accesses, next_serial}
use Rattle.mdr_plain.specs.World.{World, Ran, left, noted}
use Rattle.mdr_bound.specs.declared.bound.Bound.{Bound}
use Rattle.mdr_slice.specs.declared.halves.Halves.{Halves}
use Rattle.mdr_paths.specs.Numbers.{numbers}
use Rattle.mdr_paths.specs.Paths.{is_in}
use Rattle.mdr_slice.specs.Calls.{handlers_of}
use Rattle.mdr_slice.specs.Graph.{AreCallees}
use Rattle.mdr_slice.specs.Halves.{AreHalves}
use Rattle.mdr_watched.specs.Driver.{Driver, driver_of, is_user}
use Rattle.mdr_watched.specs.Order.{IsInOrder}
use Rattle.mdr_watched.specs.Watched.{calls_back, does, does_with, downcall, held, kernel_of, kernel_with, may_not, serves, upcall, watched_of}
use Rattle.mdr_holds.specs.Holding.{Holds, IsHandler, IsWord, PutWords, first_knowledge, shape_of}
use Rattle.mdr_holds.specs.Leaving.{AreObjects, IsAsBefore, Later, Leads, Returns, ViewsStay}

-- ---- states

-- the cell is a lock
pub record IsLockCell (program : Program) (m : Memory) (c : Cell) : Type 0 where
  pub block : New
  pub leaf : Leaf
  pub born : born_at m c.serial ≡ Some block
  pub there : leaf_at program block c.index ≡ Some leaf
  pub lock : out-Ty leaf.type ≡ Ty-F.Lock

-- what follows for a state that holds
pub record StatesHold : Type 0 where
  pub order : (program : Program) (K : Knowledge) (w : World) → Holds program K w → IsInOrder w
  pub blocks : (program : Program) (K : Knowledge) (w : World) → Holds program K w → AreBlocks program w.memory
  pub globals : (program : Program) (K : Knowledge) (w : World) → Holds program K w → KnowsGlobals program K
  -- a pointer that is known names a block of the shape that is known
  pub pointers : (program : Program) (K : Knowledge) (w : World) (p : WireView) (b : New) → Holds program K w → (v : IsKnownView program K p) → born_at w.memory p.serial ≡ Some b → shape_of b ≡ v.shape
  -- a global's block has its type
  pub typed : (program : Program) → IsSound program → (K : Knowledge) (w : World) → Holds program K w → (serial : ℕ) (b : New) (g : GlobalDef) → born_at w.memory serial ≡ Some b → slice_get program.globals serial ≡ Some g
      → slice_get program.types b.ty ≡ Some g.ty
  -- a pointer to locks reaches none but a lock
  pub locks : (program : Program) → IsSound program → (K : Knowledge) (w : World) → Holds program K w → (v : Wire) → Fits program K (type.Ptr type.Lock) v → (c : Cell) → reached everywhere w.memory v ≡ Ok c → IsLockCell program w.memory c
  -- a value is passed as it is now, and fits what it fitted
  pub passed : (program : Program) (K : Knowledge) (w : World) (args : List Wire) (types : List Ty) → AllFit program K args types → AllFit program K (map (normal w.memory) args) types
  -- a value that fits, and names a block that is known by less, fits by less
  pub narrows : (program : Program) (K K' : Knowledge) (ty : Ty) (v : Wire) → Grows K K' → ((p : WireView) → v ≡ wire.Ptr p → is_some (K.blocks p.serial) ≡ true) → Fits program K' ty v → Fits program K ty v

-- ---- services

-- a service that was asked for gave what it gives
pub record GivesServed (program : Program) (a : Asked) (s : Service) (from : ℕ) (remains : List Wire) (w : World) (K' : Knowledge) (rs : List Wire) (w' : World) : Type 0 where
  pub served : IsServed program K' a s rs
  pub objects : AreObjects w'.memory from (after s remains rs)
  pub handling : IsAsBefore w w'

-- services are asked as a fair tree asks them, with these objects of locals alive
abbrev pub Serve : Program → Uses → (Asked → World → Ran (List Wire)) → Type 0
Serve program uses serves =
    (K : Knowledge) (w : World) → K.uses ≡ uses → Holds program K w → (from : ℕ) (live remains : List Wire) (a : Asked) (s : Service) → from ≤ next_serial w → AreObjects w.memory from live
    → service_numbered a.service ≡ Some s → IsAsk program K a s → Leaves s a live remains
    → Leads (Later program from K w) (GivesServed program a s from remains w) (serves a w)

pub record ServicesLeave : Type 0 where
  pub serve : (program : Program) → IsSound program → (uses : Uses) → Serve program uses (served program)
  pub views : (program : Program) (a : Asked) (w : World) → IsInOrder w → ViewsStay w (left (served program a w))
  -- none takes a tick
  pub rest : (program : Program) (a : Asked) (w : World) → (left (served program a w)).clock.rest ≡ w.clock.rest

-- ---- code

-- calls of the other half, as a fair tree makes them
abbrev pub Cross : Program → Uses → Crossing → Type 0
Cross program uses crosses =
    (K : Knowledge) (w : World) → K.uses ≡ uses → Holds program K w → (at : At) (f : ℕ) (args : List Wire) (depth : ℕ) (func : Func) → IsCall program K func at.func f args depth
    → Returns program (next_serial w) func.result K w (crosses at f args depth w)

-- what is tried before a tick
abbrev pub Try : Program → Uses → Before → Type 0
Try program uses before =
    (K : Knowledge) (w : World) → K.uses ≡ uses → Holds program K w → (depth : ℕ) → Leads (Later program (next_serial w) K w) (λ K' x w'. IsAsBefore w w') (before depth w)

-- what stands around code leaves states that hold
pub record IsAround (program : Program) (uses : Uses) (serves : Asked → World → Ran (List Wire)) (crosses : Crossing) (before : Before) : Type 0 where
  pub serve : Serve program uses serves
  pub cross : Cross program uses crosses
  pub tries : Try program uses before

-- so does code itself, whatever cells it may touch
abbrev pub CodeLeaves : Type 0
CodeLeaves =
    (program : Program) → IsSound program → (uses : Uses) (serves : Asked → World → Ran (List Wire)) (crosses : Crossing) (before : Before) → IsAround program uses serves crosses before → (allowed : World → Cell → Bool)
    → (most : ℕ) (side : Side) (result : Ty) (K : Knowledge) (w : World) (from : ℕ) (live : List Wire) (t : Tree) → K.uses ≡ uses → Holds program K w → from ≤ next_serial w → AreObjects w.memory from live → FairTo most program side result K live t
    → Returns program from result K w (run (record { accesses = accesses program allowed; serves = serves; crosses = crosses }) before t w)

-- what stands around code does the same as something else, wherever a fair tree of the side asks, calls or ticks in a state that holds
pub record AgreeAround (program : Program) (uses : Uses) (side : Side) (serves : Asked → World → Ran (List Wire)) (crosses : Crossing) (before : Before) (serves' : Asked → World → Ran (List Wire)) (crosses' : Crossing) (before' : Before) : Type 0 where
  pub serve : (K : Knowledge) (w : World) → K.uses ≡ uses → Holds program K w → (from : ℕ) (live remains : List Wire) (a : Asked) (s : Service) → from ≤ next_serial w → AreObjects w.memory from live
      → service_numbered a.service ≡ Some s → IsAsk program K a s → Leaves s a live remains → serves a w ≡ serves' a w
  pub cross : (K : Knowledge) (w : World) → K.uses ≡ uses → Holds program K w → (at : At) (f : ℕ) (args : List Wire) (depth : ℕ) (func : Func) → IsPlace side at → side.own f ≡ None → IsCall program K func at.func f args depth
      → crosses at f args depth w ≡ crosses' at f args depth w
  pub tries : (K : Knowledge) (w : World) → K.uses ≡ uses → Holds program K w → (depth : ℕ) → before depth w ≡ before' depth w

-- then code runs alike
abbrev pub CodeAgrees : Type 0
CodeAgrees =
    (program : Program) → IsSound program → (uses : Uses) (serves : Asked → World → Ran (List Wire)) (crosses : Crossing) (before : Before) → IsAround program uses serves crosses before → (allowed : World → Cell → Bool)
    → (most : ℕ) (side : Side) (result : Ty) (K : Knowledge) (w : World) (from : ℕ) (live : List Wire) (t : Tree) → K.uses ≡ uses → Holds program K w → from ≤ next_serial w → AreObjects w.memory from live → FairTo most program side result K live t
    → (serves' : Asked → World → Ran (List Wire)) (crosses' : Crossing) (before' : Before) → AgreeAround program uses side serves crosses before serves' crosses' before'
    → run (record { accesses = accesses program allowed; serves = serves; crosses = crosses }) before t w ≡ run (record { accesses = accesses program allowed; serves = serves'; crosses = crosses' }) before' t w

-- the side's code calls no function that it has no body of
abbrev pub CallsItself : Uses → Side → Type 0
CallsItself uses side = (f g : ℕ) (body : Body) → side.own f ≡ Some body → uses.calls f g ≡ true → side.own g ≡ None → ⊥

-- so it is no matter to it what calls of the other half do
abbrev pub CodeStays : Type 0
CodeStays =
    (program : Program) → IsSound program → (uses : Uses) (serves : Asked → World → Ran (List Wire)) (crosses : Crossing) (before : Before) → IsAround program uses serves crosses before → (allowed : World → Cell → Bool)
    → (most : ℕ) (side : Side) → CallsItself uses side → (result : Ty) (K : Knowledge) (w : World) (from : ℕ) (live : List Wire) (t : Tree) → K.uses ≡ uses → Holds program K w → from ≤ next_serial w → AreObjects w.memory from live → FairTo most program side result K live t
    → (other : Crossing) → run (record { accesses = accesses program allowed; serves = serves; crosses = crosses }) before t w ≡ run (record { accesses = accesses program allowed; serves = serves; crosses = other }) before t w

-- the code of a side, in so far as it uses functions
pub record IsCode (program : Program) (uses : Uses) (side : Side) : Type 0 where
  pub bodies : IsSideOf program side
  pub within : IsWithin program side uses

-- a function is called with arguments that fit
pub record IsCalled (program : Program) (K : Knowledge) (f : ℕ) (func : Func) (args : List Wire) : Type 0 where
  pub names : slice_get program.funcs f ≡ Some func
  pub fit : AllFit program K args (map (λ (p : Param). p.ty) func.params)

-- each call of a function of the other half with arguments that fit, whoever makes it
abbrev pub CallsAcross : Program → Uses → Crossing → Type 0
CallsAcross program uses crosses =
    (K : Knowledge) (w : World) → K.uses ≡ uses → Holds program K w → (at : At) (f : ℕ) (args : List Wire) (depth : ℕ) (func : Func) → IsCalled program K f func args
    → Returns program (next_serial w) func.result K w (crosses at f args depth w)

-- ---- code of the kernel half, and of a whole driver

-- code of a side, which calls the other half so
abbrev pub code_with : Program → Side → Crossing → KernelCode
code_with program side crosses = record { program = program; side = side; setting = in_kernel program crosses }

pub record KernelCodeLeaves : Type 0 where
  -- calls that give nothing, and those that may not be made
  pub never : (program : Program) (uses : Uses) → CallsAcross program uses never
  pub may_not : (program : Program) (uses : Uses) → CallsAcross program uses may_not
  pub alone : (program : Program) → IsSound program → (uses : Uses) (crosses : Crossing) → CallsAcross program uses crosses → IsAround program uses (served program) crosses nothing
  -- handlers call the other half so, and other code so
  pub interrupted : (program : Program) → IsSound program → (uses : Uses) (side : Side) → IsCode program uses side → (handlers crosses : Crossing) → CallsAcross program uses handlers → CallsAcross program uses crosses
      → IsAround program uses (served program) crosses (interrupts (code_with program side handlers))
  -- with any number of functions active
  pub called : (program : Program) → IsSound program → (uses : Uses) (side : Side) → IsCode program uses side → (crosses : Crossing) → CallsAcross program uses crosses → (before : Before) → Try program uses before
      → (K : Knowledge) (w : World) → K.uses ≡ uses → Holds program K w → (f : ℕ) (func : Func) (args : List Wire) (depth : ℕ) → IsCalled program K f func args
      → Returns program (next_serial w) func.result K w (call (code_with program side crosses) before f args depth w)
  pub views : (d : Driver) (f : ℕ) (args : List Wire) (depth : ℕ) (w : World) → IsInOrder w → ViewsStay w (left (call (kernel_of d) (interrupts (kernel_of d)) f args depth w))

-- ---- code of the user half

pub record IsDriver (d : Driver) (uses : Uses) : Type 0 where
  pub sound : IsSound d.program
  pub kernel : IsCode d.program uses d.kernel
  pub user : IsCode d.program uses d.user

-- while it is held to its cells, whatever the kernel half does with its calls back
pub record UserCodeLeaves : Type 0 where
  pub around : (d : Driver) (uses : Uses) → IsDriver d uses → (crosses : Crossing) → CallsAcross d.program uses crosses → (t : ℕ) → IsAround d.program uses (serves d (held d) t) (downcall d (held d) t crosses) nothing
  pub called : (d : Driver) (uses : Uses) → IsDriver d uses → (crosses : Crossing) → CallsAcross d.program uses crosses → (K : Knowledge) (w : World) → K.uses ≡ uses → Holds d.program K w
      → (f : ℕ) (func : Func) (args : List Wire) (depth : ℕ) → IsCalled d.program K f func args → Returns d.program (next_serial w) func.result K w (upcall d (held d) crosses f args depth w)
  -- and so is it where kernel code calls it back, whatever room there is
  pub back : (d : Driver) (uses : Uses) → IsDriver d uses → (room : ℕ) → CallsAcross d.program uses (calls_back d (held d) room)

-- ---- scripts

-- the arguments of a call fit whatever else is known besides the globals
abbrev pub IsCommand : Program → Command → Type 0
IsCommand program (command.Call f args) = (func : Func) × (slice_get program.funcs f ≡ Some func) × ((K : Knowledge) → KnowsGlobals program K → AllFit program K (map wire_of args) (map (λ (p : Param). p.ty) func.params))
IsCommand program (command.Idle n) = Unit {0}
IsCommand program (command.Show g) = (def : GlobalDef) × (slice_get program.globals g ≡ Some def)
IsCommand program (command.Poke serial index n) = Unit {0}
IsCommand program (command.Say text) = Unit {0}

abbrev pub AreCommands : Program → List Command → Type 0
AreCommands program [] = Unit {0}
AreCommands program (c ∷ cs) = IsCommand program c × AreCommands program cs

-- a script for the program, whose numbers for the device have 32 bits
pub record IsScript (program : Program) (script : Bound) : Type 0 where
  pub commands : AreCommands program script.commands
  pub words : (i : ℕ) (word : ℕ × ℕ) → slice_get script.words i ≡ Some word → IsWord word.1
  pub rules : PutWords script.rules

-- the address of each function that a first value of a global names is taken
abbrev pub TakesFirst : Program → Uses → Type 0
TakesFirst program uses = (g i f : ℕ) (def : GlobalDef) → slice_get program.globals g ≡ Some def → slice_get def.init i ≡ Some (value.Fn f) → uses.taken f ≡ true

-- the state in which a command begins, which is noted
abbrev pub noted_command : Program → Command → World → World
noted_command program (command.Call f args) w = begun program f args w
noted_command program (command.Idle n) w = noted (happened.Idle n) w
noted_command program (command.Show g) w = showed program g w
noted_command program (command.Poke serial index n) w = w
noted_command program (command.Say text) w = noted (happened.Say text) w

-- a command was done, or a function of either half is called, with arguments that fit
abbrev pub BeginsRight : Program → Knowledge → World → Beginning → Type 0
BeginsRight program K w (Did work) = Leads (Later program (next_serial w) K w) (λ K' x w'. IsAsBefore w w') work
BeginsRight program K w (Enters f args w') = (func : Func) × IsCalled program K f func args × (w' ≡ w)
BeginsRight program K w (Opens f args w') = (func : Func) × IsCalled program K f func args × (w' ≡ w)

pub record CommandsLeave : Type 0 where
  pub first : (program : Program) → IsSound program → (uses : Uses) → TakesFirst program uses → (script : Bound) → IsScript program script → (budget : ℕ) → Holds program (first_knowledge program uses) (first_world (known_of program) script budget)
  pub noted : (program : Program) (K : Knowledge) (w : World) (c : Command) → Holds program K w → Holds program K (noted_command program c w)
  pub begins : (d : Driver) (uses : Uses) → IsDriver d uses → (K : Knowledge) (w : World) → K.uses ≡ uses → Holds d.program K w → (c : Command) → IsCommand d.program c
      → BeginsRight d.program K (noted_command d.program c w) (begin (kernel_of d) (is_user d.plan) c w)
  -- a function of the kernel half that a command calls, whatever it calls back
  pub entered : (d : Driver) (uses : Uses) → IsDriver d uses → (crosses : Crossing) → CallsAcross d.program uses crosses → (K : Knowledge) (w : World) → K.uses ≡ uses → Holds d.program K w
      → (f : ℕ) (func : Func) (args : List Wire) → IsCalled d.program K f func args
      → Leads (Later d.program (next_serial w) K w) (λ K' x w'. IsAsBefore w w') (returned (interrupts (kernel_of d)) (call (kernel_with d crosses) (interrupts (kernel_of d)) f args 0 w))
  pub done : (d : Driver) (uses : Uses) → IsDriver d uses → (K : Knowledge) (w : World) → K.uses ≡ uses → Holds d.program K w → (c : Command) → IsCommand d.program c
      → Leads (Later d.program (next_serial (noted_command d.program c w)) K (noted_command d.program c w)) (λ K' x w'. IsAsBefore (noted_command d.program c w) w') (does d (held d) c w)

-- a run leaves a state that holds
pub record RunsHold : Type 0 where
  pub watched : (d : Driver) (uses : Uses) → IsDriver d uses → TakesFirst d.program uses → (script : Bound) → IsScript d.program script → (budget : ℕ) → (K : Knowledge) × Holds d.program K (watched_of d script budget).world
  pub plain : (program : Program) → IsSound program → (uses : Uses) (side : Side) → IsCode program uses side → TakesFirst program uses → (script : Bound) → IsScript program script → (budget : ℕ) → (K : Knowledge) × Holds program K (plain_of program side script budget).world

-- ---- where kernel code calls nothing back

-- each function that user code calls across has its body in the kernel half, and each has one in the half that a command looks for it in
pub record HaveHalves (d : Driver) : Type 0 where
  pub across : (f : ℕ) (func : Func) → slice_get d.program.funcs f ≡ Some func → d.user.own f ≡ None → (body : Body) × (d.kernel.own f ≡ Some body)
  pub kernel : (f : ℕ) (func : Func) → slice_get d.program.funcs f ≡ Some func → is_user d.plan f ≡ false → (body : Body) × (d.kernel.own f ≡ Some body)
  pub user : (f : ℕ) (func : Func) → slice_get d.program.funcs f ≡ Some func → is_user d.plan f ≡ true → (body : Body) × (d.user.own f ≡ Some body)

-- there it is no matter what calls back do: of kernel code, of upcalls, of commands, and of a whole run
pub record CallsBackAreNone : Type 0 where
  pub called : (d : Driver) (uses : Uses) → IsDriver d uses → CallsItself uses d.kernel → (crosses other : Crossing) → CallsAcross d.program uses crosses → (K : Knowledge) (w : World) → K.uses ≡ uses → Holds d.program K w
      → (f : ℕ) (func : Func) (args : List Wire) (depth : ℕ) → IsCalled d.program K f func args → (body : Body) → d.kernel.own f ≡ Some body
      → call (kernel_with d crosses) (interrupts (kernel_of d)) f args depth w ≡ call (kernel_with d other) (interrupts (kernel_of d)) f args depth w
  pub upcall : (d : Driver) (uses : Uses) → IsDriver d uses → CallsItself uses d.kernel → HaveHalves d → (crosses other : Crossing) → CallsAcross d.program uses crosses → (K : Knowledge) (w : World) → K.uses ≡ uses → Holds d.program K w
      → (f : ℕ) (func : Func) (args : List Wire) (depth : ℕ) → IsCalled d.program K f func args → (body : Body) → d.user.own f ≡ Some body
      → upcall d (held d) crosses f args depth w ≡ upcall d (held d) other f args depth w
  pub does : (d : Driver) (uses : Uses) → IsDriver d uses → CallsItself uses d.kernel → HaveHalves d → (crosses other : Crossing) → CallsAcross d.program uses crosses → (K : Knowledge) (w : World) → K.uses ≡ uses → Holds d.program K w
      → (c : Command) → IsCommand d.program c → does_with d (held d) crosses c w ≡ does_with d (held d) other c w
  pub watched : (d : Driver) (uses : Uses) → IsDriver d uses → CallsItself uses d.kernel → HaveHalves d → TakesFirst d.program uses → (script : Bound) → IsScript d.program script → (budget : ℕ)
      → watched_of d script budget ≡ commands (does_with d (held d) may_not) script.commands (first_world d.kernel.known script budget)

-- ---- what meets these conditions

-- each function has a body
abbrev pub HaveBodies : Program → Type 0
HaveBodies program = (f : ℕ) (func : Func) → slice_get program.funcs f ≡ Some func → (body : Body) × (body_of program f ≡ Some body)

-- each plan, with what the slicer says of calls, those back through the kernel among them
pub record ProgramsAreDrivers : Type 0 where
  pub driver : (program : Program) → IsSound program → (plan : Plan) (callees : List (List ℕ)) → AreCallees program true callees → IsDriver (driver_of program plan) (uses_by program callees)
  pub first : (program : Program) (callees : List (List ℕ)) → TakesFirst program (uses_by program callees)
  -- each function has its body in one of the halves, where each has one
  pub halves : (program : Program) → HaveBodies program → (plan : Plan) → HaveHalves (driver_of program plan)
  -- where the plan has the halves, and each function has a body, code of the kernel half calls no other function, calls back aside
  pub kernel : (program : Program) (plan : Plan) (roots : List ℕ) (halves : Halves) → AreHalves program roots halves → plan.halves ≡ halves.halves → HaveBodies program → (callees : List (List ℕ)) → AreCallees program false callees
      → CallsItself (uses_by program callees) (driver_of program plan).kernel
  -- and where all that handle interrupts are roots, each has its body in the kernel half
  pub handlers : (program : Program) (plan : Plan) (roots : List ℕ) (halves : Halves) → AreHalves program roots halves → plan.halves ≡ halves.halves → HaveBodies program → (callees : List (List ℕ))
      → ((f : ℕ) → is_in numbers (handlers_of program) f ≡ true → is_in numbers roots f ≡ true) → (f : ℕ) → IsHandler program (uses_by program callees) f → (body : Body) × ((driver_of program plan).kernel.own f ≡ Some body)
