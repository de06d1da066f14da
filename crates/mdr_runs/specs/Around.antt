-- protocol
-- What follows an event of running code, whatever stands around it.
use Rattle.std.specs.Prelude.{◌≡◌, ◌≤◌, ℕ, List, [], ◌∷◌, Some, Result, Ok, Err}
use Rattle.mdr_core.specs.declared.place.At.{At}
use Rattle.mdr_core.specs.declared.program.Program.{Program}
use Rattle.mdr_core.specs.declared.stop.StopKind.{StopKind}
use Rattle.mdr_events.specs.declared.event.Event.{Event}
use Rattle.mdr_events.specs.declared.event.Event.TheVariants as event
use Rattle.mdr_events.specs.Events.{asked_as}
use Rattle.mdr_events.specs.Held.{Held, tree}
use Rattle.mdr_events.specs.Running.{WantsTick}
use Rattle.mdr_events.specs.Steps as came
use Rattle.mdr_events.specs.Steps.{Came, child}
use Rattle.mdr_events.specs.Values.{wires_of}
use Rattle.mdr_meaning.specs.declared.shape.Shape64.{Shape64}
use Rattle.mdr_meaning.specs.declared.wire.Wire.{Wire}
use Rattle.mdr_meaning.specs.Sides.{Side}
use Rattle.mdr_meaning.specs.Tree.{Asked, Tree}
use Rattle.mdr_meaning.specs.Values.{wire_of}
use Rattle.mdr_meaning.specs.Walk.{Accesses, Born, walk, walked}
use Rattle.mdr_model.specs.Memory.{normal}
use Rattle.mdr_plain.specs.Running.{Before, Setting, run}
use Rattle.mdr_plain.specs.World.{World, Ran, Ended, Stopped, after, left}

-- ---- what stands around code

-- accesses, services and calls across give no tick back
pub record KeepsTicks (s : Setting) : Type 0 where
  pub store : (p v : Wire) (w w' : World) → s.accesses.store w p v ≡ Ok w' → w'.clock.rest ≤ w.clock.rest
  pub birth : (shapes : List Shape64) (w : World) → (s.accesses.birth w shapes).memory.clock.rest ≤ w.clock.rest
  pub death : (ps : List Wire) (w : World) → (s.accesses.death w ps).clock.rest ≤ w.clock.rest
  pub serves : (asked : Asked) (w : World) → (left (s.serves asked w)).clock.rest ≤ w.clock.rest
  pub crosses : (at : At) (func : ℕ) (args : List Wire) (depth : ℕ) (w : World) → (left (s.crosses at func args depth w)).clock.rest ≤ w.clock.rest

-- ---- what held work does

-- with fuel for so many ticks
abbrev pub goes_on_in : Setting → Side → Before → (fuel : ℕ) → Held → World → Ran Wire
goes_on_in s side before f h w = run s before (tree side f h f) w

-- what follows the answers of the question that it waits for
abbrev pub answered_in : Setting → Side → Before → (fuel : ℕ) → Held → List Wire → World → Ran Wire
answered_in s side before f h results w = run s before (child (tree side f h f) results) w

-- what follows an event, where this work is held
abbrev pub follows_in : Setting → Side → Before → (fuel : ℕ) → Held → Event → World → Ran Wire
follows_in s side before f h (event.Done v) w = Ended (normal w.memory (wire_of v)) w
follows_in s side before f h (event.Stop kind at) w = Stopped kind (Some at) w
follows_in s side before f h (event.Service q) w = after (s.serves (asked_as q) w) (answered_in s side before f h)
follows_in s side before f h (event.Cross c) w = after (s.crosses c.at c.func (wires_of c.args) c.depth w) (λ v w'. answered_in s side before f h (v ∷ []) w')
follows_in s side before f h (event.TicksOut at) w = goes_on_in s side before f h w

-- an event that wants a tick is at the statement that comes next
abbrev pub Wants : Side → Held → Event → Type 0
Wants side h (event.TicksOut at) = WantsTick side h at h.frame.here.depth
Wants side h e = Unit {0}

-- what a walk comes to at an event
abbrev pub came_to : Event → Came
came_to (event.Done v) = came.Ended (wire_of v)
came_to (event.Cross c) = came.Crosses c.at c.func (wires_of c.args) c.depth
came_to (event.Service q) = came.Asks (asked_as q)
came_to (event.Stop kind at) = came.Stopped kind at
came_to (event.TicksOut at) = came.Goes

-- running code that came to an event: what follows is what all of it does, and there is fuel for the ticks that are left
pub record StandsIn (s : Setting) (side : Side) (before : Before) (fuel : ℕ) (all : Ran Wire) (h : Held) (e : Event) (w : World) : Type 0 where
  pub is : follows_in s side before fuel h e w ≡ all
  pub enough : w.clock.rest ≤ fuel
  pub wants : Wants side h e

-- a question is answered
pub record AnsweredIn (s : Setting) (side : Side) (before : Before) (fuel : ℕ) (all : Ran Wire) (h : Held) (w : World) : Type 0 where
  pub is : goes_on_in s side before fuel h w ≡ all
  pub enough : w.clock.rest ≤ fuel

-- ---- the memory that code runs on, seen as a world

-- where the memory has this program, what a walk does to it is what it does to the world in it, and the program stays
pub record IsSeenBy {M : Type 0} (around : Accesses World) (a : Accesses M) (world_in : M → World) (program_in : M → Program) (program : Program) : Type 0 where
  pub walks : (n : ℕ) (t : Tree) (m : M) → program_in m ≡ program → walk around n t (world_in m) ≡ walked (walk a n t m).reached (world_in (walk a n t m).memory) (walk a n t m).left
  pub stays : (n : ℕ) (t : Tree) (m : M) → program_in m ≡ program → program_in (walk a n t m).memory ≡ program

abbrev pub world_if : {M : Type 0} → (M → World) → Result M StopKind → Result World StopKind
world_if world_in (Ok m) = Ok (world_in m)
world_if world_in (Err kind) = Err kind

abbrev pub born_world : {M : Type 0} → (M → World) → Born M → Born World
born_world world_in b = record { pointers = b.pointers; memory = world_in b.memory }

-- each access to it is an access to the world in it
pub record AreSeenBy {M : Type 0} (around : Accesses World) (a : Accesses M) (world_in : M → World) (program_in : M → Program) (program : Program) : Type 0 where
  pub load : (m : M) (p : Wire) → program_in m ≡ program → a.load m p ≡ around.load (world_in m) p
  pub store : (m : M) (p v : Wire) → program_in m ≡ program → world_if world_in (a.store m p v) ≡ around.store (world_in m) p v
  pub read : (m : M) (p : Wire) (n : ℕ) → program_in m ≡ program → a.read m p n ≡ around.read (world_in m) p n
  pub fresh : (m : M) (v : Wire) → program_in m ≡ program → a.fresh m v ≡ around.fresh (world_in m) v
  pub birth : (m : M) (shapes : List Shape64) → program_in m ≡ program → born_world world_in (a.birth m shapes) ≡ around.birth (world_in m) shapes
  pub death : (m : M) (ps : List Wire) → program_in m ≡ program → world_in (a.death m ps) ≡ around.death (world_in m) ps
  pub stored : (m m' : M) (p v : Wire) → program_in m ≡ program → a.store m p v ≡ Ok m' → program_in m' ≡ program
  pub born : (m : M) (shapes : List Shape64) → program_in m ≡ program → program_in (a.birth m shapes).memory ≡ program
  pub died : (m : M) (ps : List Wire) → program_in m ≡ program → program_in (a.death m ps) ≡ program

-- held work that ran up to an event on such a memory
pub record WentIn {M : Type 0} (world_in : M → World) (program_in : M → Program) (program : Program) (s : Setting) (side : Side) (before : Before) (fuel : ℕ) (all : Ran Wire) (h : Held) (e : Event) (m : M) : Type 0 where
  pub stands : StandsIn s side before fuel all h e (world_in m)
  pub same : program_in m ≡ program
