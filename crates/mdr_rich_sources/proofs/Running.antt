-- The watched run of a driver is that over what its sides' functions are started as.
use Rattle.std.proofs.Common.{◌≡◌, ℕ, zero, suc, Bool, true, false, List, [], map, Option, Some, None, refl, ap, ◌∙◌}
use Rattle.mdr_core.specs.declared.plan.Plan.{Plan}
use Rattle.mdr_core.specs.declared.program.Program.{Program}
use Rattle.mdr_core.specs.declared.stop.StopKind.TheVariants as stop
use Rattle.mdr_core.specs.Layout.{chosen}
use Rattle.mdr_bound.specs.declared.bound.Bound.{Bound}
use Rattle.mdr_extents.specs.Reaching.{visible}
use Rattle.mdr_meaning.specs.declared.wire.Wire.{Wire}
use Rattle.mdr_meaning.specs.Bodies.{known_of, started}
use Rattle.mdr_meaning.specs.Bodies as plain
use Rattle.mdr_meaning.specs.Tree.{Tree}
use Rattle.mdr_meaning.specs.Values.{wire_of}
use Rattle.mdr_model.specs.declared.command.Command.{Command}
use Rattle.mdr_model.specs.declared.command.Command.TheVariants as command
use Rattle.mdr_model.specs.Memory.{normal}
use Rattle.mdr_plain.specs.Atomic.{is_atomic}
use Rattle.mdr_plain.specs.Gate.{due}
use Rattle.mdr_plain.specs.Running as running
use Rattle.mdr_plain.specs.Running.{Before, Crossing, KernelCode, Setting, nothing, run}
use Rattle.mdr_plain.specs.Scripts as scripts
use Rattle.mdr_plain.specs.Scripts.{Beginning, Did, Enters, Finish, Opens, begun, commands, first_world, idled, returned}
use Rattle.mdr_plain.specs.World.{World, Ran, Stopped, after}
use Rattle.mdr_rich_sources.specs.Bodies.{Bodies}
use Rattle.mdr_rich_sources.specs.Runs.{Meant, MeantCode, begins, called_by, calls, calls_back, does_with, downcall, handles, in_place, in_user, interrupts, kernel_of, kernel_with, meant_by, returns_to, upcall, watched_by, written_run}
use Rattle.mdr_watched.specs.Driver.{Driver, driver_of, entry_roots, is_user, touched_by}
use Rattle.mdr_watched.specs.Views.{opened, taken}
use Rattle.mdr_watched.specs.Watched as whole
use Rattle.mdr_watched.specs.Watched.{closing, held, watched, watched_of}

-- ---- code of the kernel half

-- the same code, by what its side's functions are started as
abbrev meant_code : KernelCode → MeantCode
meant_code kernel = record { program = kernel.program; starts = started kernel.side; setting = kernel.setting }

handles_are : (kernel : KernelCode) (d : ℕ) (o : Option ℕ) (w : World) → running.handled kernel d o w ≡ handles (meant_code kernel) d o w
unfolding running.call
handles_are kernel d None w = refl
handles_are kernel d (Some f) w = refl

interrupts_are : (kernel : KernelCode) → running.interrupts kernel ≡ interrupts (meant_code kernel)
unfolding running.interrupts interrupts
interrupts_are kernel = λ i d w. handles_are kernel d (due w) w i

begun_are : (b : Bool) (kernel : KernelCode) (f : ℕ) (args : List Wire) (w : World) → scripts.called_by b kernel f args w ≡ called_by b f args w
begun_are true kernel f args w = refl
begun_are false kernel f args w = refl

begins_are : (kernel : KernelCode) (is_user : ℕ → Bool) (c : Command) (w : World) → scripts.begin kernel is_user c w ≡ begins (meant_code kernel) is_user c w
unfolding scripts.begin begins
begins_are kernel is_user (command.Call f args) w = begun_are (is_user f) kernel f (map wire_of args) (begun kernel.program f args w)
begins_are kernel is_user (command.Idle n) w = ap (λ (b : Before). Did (idled b n w)) (interrupts_are kernel)
begins_are kernel is_user (command.Show g) w = refl
begins_are kernel is_user (command.Poke serial index n) w = refl
begins_are kernel is_user (command.Say text) w = refl

abbrev Calls : Type 0
Calls = (func : ℕ) (args : List Wire) → World → Ran Wire

places_are : (kernel : KernelCode) (e d u v : Calls) → e ≡ d → u ≡ v → (b : Beginning) → scripts.in_place kernel e u b ≡ in_place (meant_code kernel) d v b
places_are kernel e d u v p q (Did work) = refl
places_are kernel e d u v p q (Enters f args w) = λ i. returned (interrupts_are kernel i) (p i f args w)
places_are kernel e d u v p q (Opens f args w) = λ i. returned (interrupts_are kernel i) (q i f args w)

-- ---- a driver

module _ (d : Driver) where
  abbrev M : Meant
  M = record { program = d.program; plan = d.plan; kernel = started d.kernel; user = started d.user }

  abbrev before_are : (held d).kernel ≡ interrupts (kernel_of M)
  before_are = interrupts_are (whole.kernel_of d)

  downcalls_are : (t : ℕ) (crosses : Crossing) → whole.downcall d (held d) t crosses ≡ downcall M t crosses
  unfolding running.call
  downcalls_are t crosses = λ i at f args depth w.
      after (calls (kernel_with M crosses) (before_are i) f (map (normal w.memory) args) depth w) (λ v w'. returns_to M t at f (map (normal w.memory) args) v w')

  settings_are : (t : ℕ) (crosses : Crossing) → whole.in_user d (held d) t crosses ≡ in_user M t crosses
  settings_are t crosses = λ i. record { accesses = (in_user M t crosses).accesses; serves = (in_user M t crosses).serves; crosses = downcalls_are t crosses i }

  upcalls_are : (crosses : Crossing) → whole.upcall d (held d) crosses ≡ upcall M crosses
  unfolding whole.upcall upcall
  upcalls_are crosses = λ i f args depth w.
      taken (visible d.program (touched_by d.plan f) w.memory [] (entry_roots d.program f args)) (record { func = f; stmt = 0 }) w
      (λ set. closing (run (settings_are f crosses i) nothing (started d.user (suc w.clock.rest) f args depth Tree.Idle) (opened set w)))

  backs_are : (room : ℕ) → whole.calls_back d (held d) room ≡ calls_back M room
  unfolding whole.calls_back calls_back
  backs_are zero = refl
  backs_are (suc room) = λ i at f args depth w.
      chosen (is_atomic w) (Stopped stop.Atomic (Some at) w) (((upcalls_are (whole.calls_back d (held d) room) ∙ ap (upcall M) (backs_are room)) i) f (map (normal w.memory) args) depth w)

  abbrev entries : Crossing → Calls
  entries crosses f args w = running.call (whole.kernel_with d crosses) (held d).kernel f args 0 w

  entries_are : (crosses : Crossing) → entries crosses ≡ (λ f args w. calls (kernel_with M crosses) (interrupts (kernel_of M)) f args 0 w)
  unfolding running.call
  entries_are crosses = λ i f args w. calls (kernel_with M crosses) (before_are i) f args 0 w

  does_are : (crosses : Crossing) (c : Command) (w : World) → whole.does_with d (held d) crosses c w ≡ does_with M crosses c w
  does_are crosses c w =
      places_are (whole.kernel_of d) (entries crosses) (λ f args w'. calls (kernel_with M crosses) (interrupts (kernel_of M)) f args 0 w') (λ f args w'. whole.upcall d (held d) crosses f args 0 w') (λ f args w'. upcall M crosses f args 0 w')
      (entries_are crosses) (λ i f args w'. upcalls_are crosses i f args 0 w')
      (scripts.begin (whole.kernel_of d) (is_user d.plan) c w)
      ∙ ap (in_place (kernel_of M) (λ f args w'. calls (kernel_with M crosses) (interrupts (kernel_of M)) f args 0 w') (λ f args w'. upcall M crosses f args 0 w')) (begins_are (whole.kernel_of d) (is_user d.plan) c w)

  all_are : (λ (c : Command) (w : World). whole.does d (held d) c w) ≡ does_with M (calls_back M 256)
  all_are = (λ i c w. does_are (whole.backs d (held d)) c w i) ∙ ap (does_with M) (backs_are 256)

pub runs_are : (program : Program) (plan : Plan) (script : Bound) (budget : ℕ) → watched program plan script budget ≡ watched_by (M (driver_of program plan)) script budget
unfolding watched_of watched_by plain.kernel_side
runs_are program plan script budget = ap (λ does. commands does script.commands (first_world (known_of program) script budget)) (all_are (driver_of program plan))

-- so it is that by the bodies as they were written, where these are started as the same
pub runs_same : (program : Program) (plan : Plan) (bs : Bodies) (script : Bound) (budget : ℕ)
    → started (driver_of program plan).kernel ≡ (meant_by program plan bs).kernel → started (driver_of program plan).user ≡ (meant_by program plan bs).user
    → watched program plan script budget ≡ written_run program plan bs script budget
runs_same program plan bs script budget p q =
    runs_are program plan script budget ∙ (λ i. watched_by (record { program = program; plan = plan; kernel = p i; user = q i }) script budget)
