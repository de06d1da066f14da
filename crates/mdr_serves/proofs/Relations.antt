-- What is asked of a driver, and how a whole run and a split one are related: while the kernel half has control, and while the user half has. The relations of memories alone are those of every memory and set; here stand what is known of blocks, objects of locals and the run's clock beside them.
use Rattle.std.proofs.Common.{◌≡◌, ℕ, ◌+◌, ◌-◌, ◌*◌, ◌<◌, ◌≤◌, true, false, List, [], ◌∷◌, map, Option, Some, None, length, refl, ap}
use Rattle.std.specs.Prelude.{is_some, slice_get, ◌==◌}
use Rattle.std.specs.Option.{option_map}
use Rattle.mdr_core.specs.declared.place.At.{At}
use Rattle.mdr_core.specs.declared.program.Func.{Func}
use Rattle.mdr_core.specs.declared.program.Param.{Param}
use Rattle.mdr_core.specs.declared.stop.StopKind.{StopKind}
use Rattle.mdr_core.specs.declared.stop.StopKind.TheVariants as stop
use Rattle.mdr_core.specs.declared.types.Shape.{Shape}
use Rattle.mdr_core.specs.Sound.{IsSound}
use Rattle.mdr_core.specs.Suited.{IsSuited}
use Rattle.mdr_extents.specs.Extent.{is_touched}
use Rattle.mdr_holds.specs.Holding.{Holds, shape_of}
use Rattle.mdr_holds.specs.Laws.{CallsItself, IsDriver, TakesFirst}
use Rattle.mdr_holds.specs.Leaving.{AreObjects}
use Rattle.mdr_meaning.specs.declared.shape.Shape64.{Shape64}
use Rattle.mdr_meaning.specs.declared.wire.Wire.{Wire}
use Rattle.mdr_meaning.specs.Bodies.{started}
use Rattle.mdr_meaning.specs.Fair.{AllFit, is_code_stop}
use Rattle.mdr_meaning.specs.Fit.{Grows, Knowledge, KnowsGlobals}
use Rattle.mdr_meaning.specs.Sides.{Body}
use Rattle.mdr_meaning.specs.Tree.{Tree}
use Rattle.mdr_meaning.specs.Within.{Uses}
use Rattle.mdr_model.specs.declared.message.BirthKind.TheVariants.{Auto}
use Rattle.mdr_model.specs.declared.message.New.{New}
use Rattle.mdr_model.specs.declared.message.Run.{Run}
use Rattle.mdr_model.specs.declared.message.Told.{Told}
use Rattle.mdr_model.specs.Agreement.{IsAgreed, IsShared, Serials, news_at}
use Rattle.mdr_model.specs.Copies.{agreed_after, changes, put_runs, tells}
use Rattle.mdr_model.specs.Memory.{Memory, born_at}
use Rattle.mdr_model.specs.ReplyFaults.{stop_number, user_stop}
use Rattle.mdr_model.specs.Sets.{is_in}
use Rattle.mdr_paths.specs.Numbers.{numbers}
use Rattle.mdr_paths.specs.Paths.{is_in as is_among}
use Rattle.mdr_plain.specs.Storage.{next_serial, pointer_to}
use Rattle.mdr_plain.specs.World.{World, Ran, Ended, Stopped, advanced}
use Rattle.mdr_shows.specs.Cells.{IsSetOf}
use Rattle.mdr_slice.specs.Calls.{names_of}
use Rattle.mdr_split.specs.Law.{HaveBodies}
use Rattle.mdr_split.specs.Legal.{has_down_stub, is_kernel_half}
use Rattle.mdr_split.specs.Services.{serials_of}
use Rattle.mdr_split.specs.State.{Kernel, Open}
use Rattle.mdr_watched.specs.Driver.{Driver, is_user, touched_by}
use Rattle.mdr_watched.specs.Views.{top}
use Rattle.mdr_serves.proofs.Strict.{Birth, Strict}

-- ---- the driver

-- code of function t may touch the first cell of an object of a local of this shape, wherever it is born
abbrev pub Opens : Driver → (t : ℕ) → Shape64 → Type 0
Opens d t s =
    (serial : ℕ) → length d.program.globals ≤ serial → is_touched d.program (touched_by d.plan t) (record { serial = serial; kind = Auto; ty = s.ty; count = s.count }) 0 ≡ true

-- what is used of a sound program with its plan, where code uses functions so
pub record IsRight (d : Driver) (uses : Uses) : Type 0 where
  pub driver : IsDriver d uses
  pub first : TakesFirst d.program uses
  pub suited : IsSuited d.plan d.program
  pub bodies : HaveBodies d.program
  -- an address that is taken is one that the kernel half may be given
  pub taken : (f : ℕ) → uses.taken f ≡ true → is_among numbers (names_of d.program) f ≡ true
  -- a handler is of the kernel half
  pub handlers : (f : ℕ) (func : Func) → slice_get d.program.funcs f ≡ Some func → uses.handles f ≡ true → is_kernel_half d f ≡ true
  -- a function that user code calls across has a stub
  pub stubs : (f g : ℕ) (body : Body) (func : Func) → d.user.own f ≡ Some body → d.user.own g ≡ None → slice_get d.program.funcs g ≡ Some func → uses.calls f g ≡ true → has_down_stub d g ≡ true
  -- the user half has the bodies of its functions
  pub own : (f : ℕ) (func : Func) → slice_get d.program.funcs f ≡ Some func → is_user d.plan f ≡ true → (body : Body) × (d.user.own f ≡ Some body)
  -- its trees are strict, with more fuel than ticks
  pub strict : (r n f depth : ℕ) → r < n → depth ≤ 255 → (func : Func) (K : Knowledge) (args : List Wire) → K.uses ≡ uses → KnowsGlobals d.program K → slice_get d.program.funcs f ≡ Some func → is_user d.plan f ≡ true
      → AllFit d.program K args (map (λ (p : Param). p.ty) func.params)
      → Strict (Opens d f) d.program d.user r K [] (started d.user n f args depth Tree.Idle)

-- ---- what the user half was told

-- the serials of known blocks
unfoldable pub known_by : Knowledge → Serials
known_by K serial = is_some (K.blocks serial)

abbrev pub or_new : Option Shape → Option New → Option Shape
or_new (Some shape) n = Some shape
or_new None n = option_map shape_of n

-- and the blocks that it is told now
abbrev pub learns : Knowledge → List New → Knowledge
learns K news = record { blocks = λ serial. or_new (K.blocks serial) (news_at news serial); uses = K.uses }

-- what was known stays known
pub learns_grows : (K : Knowledge) (news : List New) → Grows K (learns K news)
learns_grows K news = record { stays = λ serial shape e. ap (λ (o : Option Shape). or_new o (news_at news serial)) e; same = refl }

pub grows_same : (K : Knowledge) → Grows K K
grows_same K = record { stays = λ serial shape e. e; same = refl }

pub known_grows : (K K' : Knowledge) → Grows K K' → (serial : ℕ) → known_by K serial ≡ true → known_by K' serial ≡ true
unfolding known_by
known_grows K K' grows serial known = of (K.blocks serial) refl known
  where
    of : (o : Option Shape) → K.blocks serial ≡ o → is_some o ≡ true → is_some (K'.blocks serial) ≡ true
    of (Some shape) e h = ap (λ (x : Option Shape). is_some x) (grows.stays serial shape e)
    of None e h = absurd (Prim.cc)

-- ---- the relations

-- an upcall of function t with so many functions active before it, in which these objects live
abbrev pub open_of : (t depth : ℕ) → (live : List Wire) → Open
open_of t depth live = record { func = t; depth = depth; entered = serials_of live }

-- the kernel half has control: both halves agree on this copy. All that was born is known to `K`, what the user half was told to `KU`
pub record Agree (d : Driver) (uses : Uses) (budget : ℕ) (K KU : Knowledge) (copy : Memory) (w : World) : Type 0 where
  pub grows : Grows KU K
  pub uses_are : KU.uses ≡ uses
  pub globals : KnowsGlobals d.program KU
  pub holds : Holds d.program K w
  pub memories : IsAgreed d.program (known_by KU) (next_serial w) copy w.memory
  pub total : w.clock.ticks + w.clock.rest ≡ budget

-- the ticks that the user half has counted, and not yet told
abbrev pub used : Kernel → World → ℕ
used k w = k.world.clock.rest - w.clock.rest

-- the user half has control, in an upcall of function t, with these objects of its locals in all upcalls that are open: the kernel half waits in state k, the whole run has come to w, and the user half's memory is um
pub record Rel (d : Driver) (uses : Uses) (budget t : ℕ) (K KU : Knowledge) (objects : List Wire) (k : Kernel) (w : World) (um : Memory) : Type 0 where
  pub sound : IsSound d.program
  pub grows : Grows KU K
  pub uses_are : KU.uses ≡ uses
  pub globals : KnowsGlobals d.program KU
  pub holds : Holds d.program K w
  pub memories : IsShared d.program (known_by KU) (next_serial w) (top w.views) k.agreed k.world.memory w.memory um
  pub set : IsSetOf d.program (touched_by d.plan t) w.memory (top w.views)
  pub objects_are : AreObjects w.memory 0 objects
  pub same_lives : k.world.lives ≡ w.lives
  pub same_views : k.world.views ≡ w.views
  pub same_kept : k.world.kept ≡ w.kept
  pub clock : w.clock ≡ advanced (used k w) k.world.clock
  pub total : w.clock.ticks + w.clock.rest ≡ budget

-- ---- messages and replies

-- the runs that a reply tells
abbrev pub told_runs : Kernel → World → Memory → List Run
told_runs k w um = changes (top w.views) k.agreed um

-- the copy behind it
abbrev pub replied_copy : Kernel → World → Memory → Memory
replied_copy k w um = put_runs (told_runs k w um) k.agreed

-- the kernel half behind it
abbrev pub resumed : Kernel → World → Memory → Kernel
resumed k w um = record { world = w; agreed = replied_copy k w um; exchanges = k.exchanges }

-- what a message tells that shows the set
abbrev pub telling : Driver → List Wire → Memory → World → Told
telling d values copy w = tells d.program (top w.views) values copy w.memory

-- the kernel half when it has told this, behind so many messages
abbrev pub waiting : Driver → Told → Memory → World → ℕ → Kernel
waiting d told copy w e = record { world = w; agreed = agreed_after d.program told copy; exchanges = e }

-- messages are counted twice, and each upcall that is open has two more, with what user code may still ask in them
abbrev pub owing : (exchanges upcalls questions : ℕ) → ℕ
owing e u q = 2 * e + 2 * u + 2 * q

-- so much is paid, with six for each tick and each command; where kernel code calls nothing back, with four for each tick
pub record IsPaid (d : Driver) (uses : Uses) (owed : ℕ) (w : World) : Type 0 where
  pub six : owed ≤ 6 * w.clock.ticks + 6 * w.kept.calls
  pub four : CallsItself uses d.kernel → owed ≤ 4 * w.clock.ticks + 6 * w.kept.calls

-- while the user half works so many questions more are paid: but for the innermost upcall, whose answer is awaited
pub record IsWithin (d : Driver) (uses : Uses) (k : Kernel) (w : World) (questions : ℕ) : Type 0 where
  pub six : owing k.exchanges (length w.views) questions ≤ 6 * w.clock.ticks + 6 * w.kept.calls + 2
  pub four : CallsItself uses d.kernel → owing k.exchanges (length w.views) questions ≤ 4 * w.clock.ticks + 6 * w.kept.calls + 2
  pub some : 1 ≤ length w.views

-- a stop that user code may come to, and tell, before its ticks are used
pub record IsUserStop (kind : StopKind) : Type 0 where
  pub told : user_stop (stop_number kind) ≡ Some kind
  pub no_ticks : (stop_number kind == 16) ≡ false

-- code's own stops are, but for that of a used budget
pub user_stop_of : (kind : StopKind) → is_code_stop kind ≡ true → (kind ≡ stop.Ticks → ⊥) → IsUserStop kind
unfolding user_stop
user_stop_of stop.Null own no_ticks = record { told = refl; no_ticks = refl }
user_stop_of stop.Dead own no_ticks = record { told = refl; no_ticks = refl }
user_stop_of stop.Bounds own no_ticks = record { told = refl; no_ticks = refl }
user_stop_of stop.Overflow own no_ticks = record { told = refl; no_ticks = refl }
user_stop_of stop.DivZero own no_ticks = record { told = refl; no_ticks = refl }
user_stop_of stop.Shift own no_ticks = record { told = refl; no_ticks = refl }
user_stop_of stop.Compare own no_ticks = record { told = refl; no_ticks = refl }
user_stop_of stop.BadCast own no_ticks = record { told = refl; no_ticks = refl }
user_stop_of stop.BadCall own no_ticks = absurd (Prim.cc)
user_stop_of stop.NoValue own no_ticks = record { told = refl; no_ticks = refl }
user_stop_of stop.LockHeld own no_ticks = absurd (Prim.cc)
user_stop_of stop.LockFree own no_ticks = absurd (Prim.cc)
user_stop_of stop.Depth own no_ticks = record { told = refl; no_ticks = refl }
user_stop_of stop.Bug own no_ticks = absurd (Prim.cc)
user_stop_of stop.Annotation own no_ticks = absurd (Prim.cc)
user_stop_of stop.Ticks own no_ticks = elim (no_ticks refl) [ ]
user_stop_of stop.Atomic own no_ticks = absurd (Prim.cc)

-- ---- work of the kernel half

-- ticks passed, and no command began
pub record GoneOn (w w' : World) : Type 0 where
  pub later : w.clock.ticks ≤ w'.clock.ticks
  pub calls : w'.kept.calls ≡ w.kept.calls

-- a piece of work comes to a result, of which this holds, or to a stop
pub data Comes {A : Type 0} (w : World) (Gives : A → World → Type 0) : Ran A → Type 0 where
  ended : (x : A) (w' : World) → GoneOn w w' → Gives x w' → Comes w Gives (Ended x w')
  stopped : (kind : StopKind) (at : Option At) (w' : World) → GoneOn w w' → Comes w Gives (Stopped kind at w')

-- ---- objects that were just born

-- the object lives, and its first cell is in the set where code may touch it
pub record IsOpened (d : Driver) (t : ℕ) (w : World) (b : Birth) : Type 0 where
  pub block : New
  pub is : b.pointer ≡ pointer_to block
  pub live : born_at w.memory block.serial ≡ Some block
  pub some : 1 ≤ block.count
  pub visible : Opens d t b.shape → is_in (top w.views) (record { serial = block.serial; index = 0 }) ≡ true

abbrev pub AreOpened : Driver → (t : ℕ) → World → List Birth → Type 0
AreOpened d t w [] = Unit {0}
AreOpened d t w (b ∷ fresh) = IsOpened d t w b × AreOpened d t w fresh
