-- Runs of both halves to their end, and what it is to say of a piece of one that it comes to the whole run's end: of the user half's work in an upcall, of code of the kernel half, and of what follows them.
use Rattle.std.proofs.Common.{◌≡◌, ℕ, zero, suc, ◌+◌, ◌*◌, ◌<◌, ◌≤◌, true, List, [], length, map, Option, Some, Ok, refl, sym, ◌∙◌, ap, subst, arith}
use Rattle.std.specs.Prelude.{slice_get}
use Rattle.mdr_core.specs.declared.place.At.{At}
use Rattle.mdr_core.specs.declared.program.Func.{Func}
use Rattle.mdr_core.specs.declared.program.Param.{Param}
use Rattle.mdr_core.specs.declared.stop.StopKind.{StopKind}
use Rattle.mdr_core.specs.declared.types.Ty.{Ty}
use Rattle.mdr_holds.specs.Laws.{IsCalled}
use Rattle.mdr_holds.specs.Leaving.{AreObjects}
use Rattle.mdr_meaning.specs.declared.wire.Wire.{Wire}
use Rattle.mdr_meaning.specs.Bodies.{started}
use Rattle.mdr_meaning.specs.Fair.{AllFit}
use Rattle.mdr_meaning.specs.Fit.{Grows, IsResult, Knowledge, KnowsGlobals}
use Rattle.mdr_meaning.specs.Sides.{Body}
use Rattle.mdr_meaning.specs.Tree.{Tree}
use Rattle.mdr_meaning.specs.Walk.{Walked, walk}
use Rattle.mdr_meaning.specs.Within.{Uses}
use Rattle.mdr_model.specs.declared.command.Command.{Command}
use Rattle.mdr_model.specs.declared.message.Message.{Message}
use Rattle.mdr_model.specs.declared.outcome.End.{End}
use Rattle.mdr_model.specs.declared.outcome.End.TheVariants as ends
use Rattle.mdr_model.specs.Memory.{Memory, normal}
use Rattle.mdr_model.specs.User.{granted}
use Rattle.mdr_plain.specs.Running.{call, interrupts, nothing, run}
use Rattle.mdr_plain.specs.Scripts.{Finish, finish}
use Rattle.mdr_plain.specs.World.{World, Ran, Ended, Stopped}
use Rattle.mdr_split.specs.Kernel.{continued, gave, kernel_tree, next, runs_kernel, split_commands, went}
use Rattle.mdr_split.specs.Services.{serials_of}
use Rattle.mdr_split.specs.State.{Kernel, Open, Base, Rest, Pending, Over, Waits}
use Rattle.mdr_split.specs.User.{Delivered, Down as Below, User, deliver, guarded, is_deeper, replied_to, resting}
use Rattle.mdr_watched.specs.Driver.{Driver, is_user}
use Rattle.mdr_watched.specs.Views.{closed, top}
use Rattle.mdr_watched.specs.Watched.{calls_back, closing, held, in_user, kernel_of, kernel_with}
use Rattle.mdr_serves.proofs.KernelWork.{grows_on}
use Rattle.mdr_serves.proofs.Relations.{Agree, IsPaid, IsWithin, Rel, open_of, owing}

-- ---- runs to the end

-- so many exchanges of the two halves
abbrev pub meet : Driver → (fuel n : ℕ) → Pending → User → Pending
meet d fuel zero p u = p
meet d fuel (suc n) (Over end k) u = Over end k
meet d fuel (suc n) (Waits m k upcall rest script) u =
    let x : Delivered = deliver d fuel u (Ok m) in meet d fuel n (next d (Ok x.reply) k upcall rest script) x.user

-- none of so many messages grants more ticks than this
abbrev pub AreGranted : Driver → (fuel most n : ℕ) → Pending → User → Type 0
AreGranted d fuel most zero p u = Unit {0}
AreGranted d fuel most (suc n) (Over end k) u = Unit {0}
AreGranted d fuel most (suc n) (Waits m k upcall rest script) u =
    let x : Delivered = deliver d fuel u (Ok m) in (granted (Ok m) ≤ most) × AreGranted d fuel most n (next d (Ok x.reply) k upcall rest script) x.user

-- the exchanges, behind so many, come to the end that the whole run has, and all messages are paid
pub record Finishes (d : Driver) (uses : Uses) (fuel budget sent : ℕ) (p : Pending) (u : User) (f : Finish) : Type 0 where
  pub turns : ℕ
  pub kernel : Kernel
  pub meets : meet d fuel turns p u ≡ Over f.end kernel
  pub world : kernel.world ≡ f.world
  pub bound : IsPaid d uses (2 * kernel.exchanges) kernel.world
  pub few : turns + sent ≤ kernel.exchanges
  pub grants : (n : ℕ) → AreGranted d fuel budget n p u

-- a message more
pub one_more : {d : Driver} {uses : Uses} {fuel budget sent : ℕ} (m : Message) (k : Kernel) (upcall : Open) (rest : Rest) (script : List Command) (u : User) (x : Delivered) (f : Finish) → deliver d fuel u (Ok m) ≡ x → granted (Ok m) ≤ budget
    → Finishes d uses fuel budget (suc sent) (next d (Ok x.reply) k upcall rest script) x.user f → Finishes d uses fuel budget sent (Waits m k upcall rest script) u f
one_more {d} {uses} {fuel} {budget} {sent} m k upcall rest script u x f e most h = record {
  turns = suc h.turns;
  kernel = h.kernel;
  meets = ap (λ (x' : Delivered). meet d fuel h.turns (next d (Ok x'.reply) k upcall rest script) x'.user) e ∙ h.meets;
  world = h.world;
  bound = h.bound;
  few = omega (arith, h.few);
  grants = grants;
}
  where
    grants : (n : ℕ) → AreGranted d fuel budget n (Waits m k upcall rest script) u
    grants zero = tt
    grants (suc n) = (most, subst (λ (x' : Delivered). AreGranted d fuel budget n (next d (Ok x'.reply) k upcall rest script) x'.user) (sym e) (h.grants n))

-- the run is over
pub is_over : {d : Driver} {uses : Uses} {fuel budget : ℕ} (end : End) (k : Kernel) (u : User) → IsPaid d uses (2 * k.exchanges) k.world → Finishes d uses fuel budget k.exchanges (Over end k) u (finish end k.world)
is_over {d} {uses} {fuel} {budget} end k u bound = record { turns = 0; kernel = k; meets = refl; world = refl; bound = bound; few = omega arith; grants = grants }
  where
    grants : (n : ℕ) → AreGranted d fuel budget n (Over end k) u
    grants zero = tt
    grants (suc n) = tt

-- ---- what is paid

-- what is owed less is paid too
pub paid_less : {d : Driver} {uses : Uses} {w : World} {owed : ℕ} (less : ℕ) → less ≤ owed → IsPaid d uses owed w → IsPaid d uses less w
paid_less less le paid = record { six = omega (arith, le, paid.six); four = λ itself. let h = paid.four itself in omega (arith, le, h) }

-- messages so far are, while the user half works
pub paid_within : {d : Driver} {uses : Uses} {k : Kernel} {w : World} {q : ℕ} → IsWithin d uses k w q → IsPaid d uses (2 * k.exchanges) w
paid_within within =
    let some = within.some in record { six = omega (arith, within.six, some); four = λ itself. let h = within.four itself in omega (arith, h, some) }

-- ---- the user half

-- between messages, while these objects of locals live in the upcalls that are open, and these downcalls wait in them
abbrev pub user_at : Memory → (objects : List Wire) → List Below → User
user_at copy objects below = record { agreed = copy; entered = serials_of objects; work = resting below }

-- while nothing is open
abbrev pub idle_user : Memory → User
idle_user copy = user_at copy [] []

-- what it replies when its walk came to this
abbrev pub walked_reply : (t : ℕ) → (objects : List Wire) → Kernel → World → List Below → Walked Memory → Delivered
walked_reply t objects k w below walked = replied_to t (serials_of objects) (top w.views) k.world.clock.rest k.agreed below walked

-- when it has walked n ticks of a tree
abbrev pub reply_of : (t : ℕ) → (objects : List Wire) → Kernel → World → List Below → Memory → ℕ → Tree → Delivered
reply_of t objects k w below um n tree = walked_reply t objects k w below (walk (guarded (top w.views)) n tree um)

-- ---- pieces of a run

-- what follows an upcall: from each state in which it may have returned the rest of the run comes to the whole run's end, where `all` is what the upcall comes to on one memory, and `later` what follows that there. The objects of the upcalls below live on, and what their code may still ask is paid
pub record GoesOn (d : Driver) (uses : Uses) (fuel budget : ℕ) (script : List Command) (K0 KU0 : Knowledge) (result : Ty) (outer : List Wire) (rest : Rest) (below : List Below) (reserve : ℕ) (all : Ran Wire) (later : Ran Wire → Finish) : Type 0 where
  pub by : (K KU : Knowledge) → Grows K0 K → Grows KU0 KU → (k : Kernel) (v : Wire) → IsResult d.program KU result v → all ≡ Ended v (closed k.world) → Agree d uses budget K KU k.agreed (closed k.world)
      → IsPaid d uses (owing k.exchanges (length (closed k.world).views) reserve) k.world
      → Finishes d uses fuel budget k.exchanges (continued d v k rest script) (user_at k.agreed outer below) (later all)
  pub stops : (kind : StopKind) (at : Option At) (w : World) → later (Stopped kind at w) ≡ finish (ends.Stop kind at) w

-- where more is known
pub goes_on_grown : (d : Driver) (uses : Uses) (fuel budget : ℕ) (script : List Command) (K0 KU0 K1 KU1 : Knowledge) (result : Ty) (outer : List Wire) (rest : Rest) (below : List Below) (reserve : ℕ) (all : Ran Wire) (later : Ran Wire → Finish) → Grows K0 K1 → Grows KU0 KU1
    → GoesOn d uses fuel budget script K0 KU0 result outer rest below reserve all later → GoesOn d uses fuel budget script K1 KU1 result outer rest below reserve all later
goes_on_grown d uses fuel budget script K0 KU0 K1 KU1 result outer rest below reserve all later more grows on =
    record { by = λ K KU up grows' k v fits is agree paid. on.by K KU (grows_on K0 K1 K more up) (grows_on KU0 KU1 KU grows grows') k v fits is agree paid; stops = on.stops }

-- what follows code of the kernel half, where `all` is what it comes to
pub record EndsOn (d : Driver) (uses : Uses) (fuel budget : ℕ) (script : List Command) (K0 KU0 : Knowledge) (result : Ty) (outer : List Wire) (base : Base) (below : List Below) (reserve : ℕ) (all : Ran Wire) (later : Ran Wire → Finish) : Type 0 where
  pub by : (K KU : Knowledge) → Grows K0 K → Grows KU0 KU → (k : Kernel) (v : Wire) (w : World) → IsResult d.program K result v → all ≡ Ended v w → normal w.memory v ≡ v → Agree d uses budget K KU k.agreed w
      → IsPaid d uses (owing k.exchanges (length w.views) reserve) w
      → Finishes d uses fuel budget k.exchanges (gave d base (Ended v w) k (λ k'. split_commands d script k') script) (user_at k.agreed outer below) (later all)
  pub stops : (kind : StopKind) (at : Option At) (w : World) → later (Stopped kind at w) ≡ finish (ends.Stop kind at) w

module _ (d : Driver) (uses : Uses) (fuel budget : ℕ) where
  -- a function of the user half is served, once its call is accepted, with so much room for calls back below it
  abbrev pub AreServed : (n : ℕ) → Type 0
  AreServed n =
      (f : ℕ) (func : Func) (args : List Wire) (depth : ℕ) → depth ≤ 255 → 256 ≤ n + depth → slice_get d.program.funcs f ≡ Some func → is_user d.plan f ≡ true
      → (K KU : Knowledge) → KU.uses ≡ uses → KnowsGlobals d.program KU → AllFit d.program KU args (map (λ (p : Param). p.ty) func.params)
      → (script : List Command) (outer : List Wire) (rest : Rest) (below : List Below) (reserve : ℕ) (all : Ran Wire) (later : Ran Wire → Finish) → GoesOn d uses fuel budget script K KU func.result outer rest below reserve all later
      → (k : Kernel) (w : World) (um : Memory) → w.clock.rest < fuel → Rel d uses budget f K KU outer k w um → IsWithin d uses k w (2 + reserve)
      → closing (run (in_user d (held d) f (calls_back d (held d) n)) nothing (started d.user fuel f args depth Tree.Idle) w) ≡ all
      → Finishes d uses fuel budget k.exchanges (next d (Ok (reply_of f outer k w below um w.clock.rest (started d.user fuel f args depth Tree.Idle)).reply) k (open_of f depth []) rest script)
      (reply_of f outer k w below um w.clock.rest (started d.user fuel f args depth Tree.Idle)).user (later all)

  -- a function of the kernel half is run, with so much room for its own calls back
  abbrev pub AreRun : (n : ℕ) → Type 0
  AreRun n =
      (f : ℕ) (func : Func) (args : List Wire) (depth : ℕ) → depth ≤ 255 → 256 ≤ n + depth → (body : Body) → d.kernel.own f ≡ Some body → (K KU : Knowledge) → IsCalled d.program K f func args
      → (script : List Command) (outer : List Wire) (base : Base) (below : List Below) (reserve : ℕ) (all : Ran Wire) (later : Ran Wire → Finish) → EndsOn d uses fuel budget script K KU func.result outer base below reserve all later
      → ((deeper : ℕ) → depth < deeper → is_deeper below deeper ≡ true)
      → (k : Kernel) (w : World) → Agree d uses budget K KU k.agreed w → AreObjects w.memory 0 outer → IsPaid d uses (owing k.exchanges (length w.views) reserve) w
      → call (kernel_with d (calls_back d (held d) n)) (interrupts (kernel_of d)) f args depth w ≡ all
      → Finishes d uses fuel budget k.exchanges (went d base (runs_kernel d (kernel_tree d f args depth w) w) k (λ k'. split_commands d script k') script) (user_at k.agreed outer below) (later all)

  -- what kernel code may ask of user code: with no room there is nothing to ask
  abbrev pub Inside : (n : ℕ) → Type 0
  Inside zero = Unit {0}
  Inside (suc n) = AreServed n
