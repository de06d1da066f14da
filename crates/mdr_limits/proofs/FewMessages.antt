-- Wherever any answers lead, the messages are paid for by ticks and by commands that called a function.
use Rattle.std.proofs.Common.{◌≡◌, ℕ, zero, suc, ◌+◌, ◌*◌, ◌≤◌, min, Bool, true, false, List, [], ◌∷◌, length, map, Option, Some, None, Result, Ok, Err, refl, sym, ◌∙◌, ap, subst, slice_get, arith, leb-true}
use Rattle.std.specs.Prelude.{is_some}
use Rattle.mdr_callees.specs.Spaced.{Spaced}
use Rattle.mdr_callees.proofs.SpacedLaws.{crossings_are_spaced}
use Rattle.mdr_core.specs.declared.place.At.{At}
use Rattle.mdr_core.specs.declared.refusal.RefuseKind.TheVariants as refusal
use Rattle.mdr_core.specs.declared.stop.StopKind.{StopKind}
use Rattle.mdr_core.specs.declared.stop.StopKind.TheVariants as stop
use Rattle.mdr_core.specs.declared.types.Ty.TheVariants.{Void}
use Rattle.mdr_core.specs.Layout.{chosen}
use Rattle.mdr_extents.specs.Reaching.{Failing, visible}
use Rattle.mdr_meaning.specs.declared.wire.Wire.{Wire}
use Rattle.mdr_meaning.specs.declared.wire.Wire.TheVariants as wire
use Rattle.mdr_meaning.specs.Bodies.{means, started}
use Rattle.mdr_meaning.specs.Calls.{goes_to}
use Rattle.mdr_meaning.specs.Cut.{cut}
use Rattle.mdr_meaning.specs.Sides.{Body}
use Rattle.mdr_meaning.specs.Tree.{Asked, Tree}
use Rattle.mdr_meaning.specs.Values.{wire_of}
use Rattle.mdr_model.specs.declared.command.Command.{Command}
use Rattle.mdr_model.specs.declared.command.Command.TheVariants as command
use Rattle.mdr_model.specs.declared.memory.Cell.{Cell}
use Rattle.mdr_model.specs.declared.message.BirthKind.TheVariants.{Auto}
use Rattle.mdr_model.specs.declared.message.Fault.{Fault}
use Rattle.mdr_model.specs.declared.message.Run.{Run}
use Rattle.mdr_model.specs.declared.outcome.End.TheVariants as ends
use Rattle.mdr_model.specs.declared.reply.Reply.{Reply}
use Rattle.mdr_model.specs.declared.reply.Reply.TheVariants as replies
use Rattle.mdr_model.specs.KernelState.{Reading}
use Rattle.mdr_model.specs.Memory.{Memory, loaded, normal, stored}
use Rattle.mdr_model.specs.ReplyFaults.{reply_of}
use Rattle.mdr_model.proofs.Accepted.{unless_passes}
use Rattle.mdr_model.proofs.Tests.{and_right}
use Rattle.mdr_plain.specs.declared.outcome.Happened.TheVariants as happened
use Rattle.mdr_plain.specs.Atomic.{is_atomic}
use Rattle.mdr_plain.specs.Running.{Went, all_cells, gave_after, gave_counted, gave_given, goes, interrupts}
use Rattle.mdr_plain.specs.Scripts.{begin, begun, called_by, first_world, idled, poked, returned, showed}
use Rattle.mdr_plain.specs.Services.{served}
use Rattle.mdr_plain.specs.Storage.{births, deaths, fresh, read, remembers, with_memory}
use Rattle.mdr_plain.specs.World.{World, Ran, Ended, Stopped, Work, advanced, done, noted}
use Rattle.mdr_bound.specs.declared.bound.Bound.{Bound}
use Rattle.mdr_split.specs.AnyAnswers.{MessagesAreFew, kernel_in}
use Rattle.mdr_split.specs.Kernel.{answered, answers, applied, called, calls, comes_back, continued, downcalled, ended, first_kernel, gave, judged, kernel_tree, next, over, run_from_pending, runs_kernel, serviced, split_by, split_commands, split_run, taken, then_split, went}
use Rattle.mdr_split.specs.Legal.{fault_of, has_down_stub, is_awaited, is_true}
use Rattle.mdr_split.specs.Services.{asked_of}
use Rattle.mdr_split.specs.State.{Kernel, Open, Base, Commanded, Down, Rest, Noted, Resumes, Pending, Over, Waits}
use Rattle.mdr_watched.specs.Driver.{Driver, entry_roots, is_user, touched_by}
use Rattle.mdr_watched.specs.Views.{below, closed, opened, taken as with_set}
use Rattle.mdr_watched.specs.Watched.{held, kernel_of, returns_to, serves}
use Rattle.mdr_limits.proofs.Faultless.{faultless}
use Rattle.mdr_limits.proofs.FewSteps.{IsLater, Leads, asks_lead, births_later, deaths_later, idled_leads, interrupts_lead, itself, returned_leads, returns_lead, served_leads}
use Rattle.mdr_limits.proofs.SpacedTrees.{spaced_cut, spaced_less}

-- ---- how many upcalls are open, by what goes on behind them

abbrev mutual
  -- behind the innermost upcall
  opens : Rest → ℕ
  opens Noted = 1
  opens (Resumes next' base) = suc (under base)

  -- behind code of the kernel half
  under : Base → ℕ
  under Commanded = 0
  under (Down at f args upcall rest) = opens rest

abbrev mutual
  -- what goes on there calls back with a tick before each call
  RestSpaced : Rest → Type 0
  RestSpaced Noted = Unit {0}
  RestSpaced (Resumes next' base) = ((v : Wire) → Spaced 0 false (next' v)) × BaseSpaced base

  BaseSpaced : Base → Type 0
  BaseSpaced Commanded = Unit {0}
  BaseSpaced (Down at f args upcall rest) = RestSpaced rest

opens_some : (rest : Rest) → 1 ≤ opens rest
opens_some Noted = omega arith
opens_some (Resumes next' base) = omega arith

-- ---- what is paid for

abbrev bound : World → ℕ
bound w = 8 * w.clock.ticks + 6 * w.kept.calls

-- where the run waits: two messages for each that was sent, and two for each upcall that is open but the innermost, whose answer is awaited
record WaitsGood (k : Kernel) (rest : Rest) : Type 0 where
  spaced : RestSpaced rest
  open_is : length k.world.views ≡ opens rest
  few : 2 * k.exchanges + 2 * length k.world.views ≤ bound k.world + 2

abbrev Good : Pending → Type 0
Good (Over end k) = 2 * k.exchanges ≤ bound k.world
Good (Waits m k upcall rest script) = WaitsGood k rest

-- where code of the kernel half runs: two for each that is open; and where it is free to call back, what a call takes
record KernelGood (e : ℕ) (base : Base) (free : Bool) (w : World) : Type 0 where
  spaced : BaseSpaced base
  open_is : length w.views ≡ under base
  few : 2 * e + 2 * length w.views ≤ bound w
  spare : free ≡ true → 2 * e + 2 * length w.views + 2 ≤ bound w

-- what follows a command
record Onward (e : ℕ) (go : Kernel → Pending) : Type 0 where
  by : (k : Kernel) → k.exchanges ≡ e → length k.world.views ≡ 0 → 2 * k.exchanges ≤ bound k.world → Good (go k)

-- a run that waits has paid for its messages
waits_paid : (k : Kernel) (rest : Rest) → WaitsGood k rest → 2 * k.exchanges ≤ bound k.world
waits_paid k rest h = omega (arith, h.few, h.open_is, opens_some rest)

not_free : {A : Type 0} → false ≡ true → A
not_free claim = absurd (Prim.cc)

tail_length : (sets : List (List Cell)) (n : ℕ) → length sets ≡ suc n → length (below sets) ≡ n
tail_length [] n e = absurd (omega (arith, e))
tail_length (set ∷ sets) n e = omega (arith, e)

-- a later world pays for as much
good_later : (e : ℕ) (base : Base) (free : Bool) (w w' : World) → IsLater w w' → KernelGood e base free w → KernelGood e base free w'
good_later e base free w w' l h = record {
  spaced = h.spaced;
  open_is = l.2 ∙ h.open_is;
  few = omega (arith, h.few, l.0, l.1, l.2);
  spare = λ yes. omega (arith, h.spare yes, l.0, l.1, l.2);
}

-- a tick pays for a call
good_ticked : (e : ℕ) (base : Base) (free : Bool) (w : World) → KernelGood e base free w → KernelGood e base true (record w { clock = advanced 1 w.clock })
good_ticked e base free w h = record { spaced = h.spaced; open_is = h.open_is; few = omega (arith, h.few); spare = λ yes. omega (arith, h.few) }

module _ (d : Driver) where
  -- ---- messages

  calls_good : (f : ℕ) (args : List Wire) (depth : ℕ) (w : World) (k : Kernel) (rest : Rest) (script : List Command) → RestSpaced rest → suc (length w.views) ≡ opens rest → 2 * k.exchanges + 2 * length w.views + 2 ≤ bound w
      → Good (calls d f depth args w k rest script)
  unfolding calls
  calls_good f args depth w k rest script spaced open_is few = of (visible d.program (touched_by d.plan f) w.memory [] (entry_roots d.program f args))
    where
      of : (r : Result (List Cell) Failing) → Good (called d f depth args (with_set r (record { func = f; stmt = 0 }) w (λ set. done (opened set w))) k rest script)
      of (Ok set) = record { spaced = spaced; open_is = open_is; few = omega (arith, few) }
      of (Err failing) = omega (arith, few)

  -- a downcall came back, or stopped
  down_good : (first : World) (ran : Ran Wire) (k : Kernel) (upcall : Open) (rest : Rest) (script : List Command) → RestSpaced rest → length first.views ≡ opens rest → 2 * k.exchanges + 2 * length first.views ≤ bound first → Leads first ran
      → Good (downcalled d ran k upcall rest script)
  unfolding comes_back
  down_good first (Ended v w) k upcall rest script spaced open_is few leads =
      record { spaced = spaced; open_is = leads.at_end.2 ∙ open_is; few = omega (arith, few, leads.at_end.0, leads.at_end.1, leads.at_end.2) }
  down_good first (Stopped kind at w) k upcall rest script spaced open_is few leads = omega (arith, few, leads.at_end.0, leads.at_end.1)

  service_good : (first : World) (asked : Asked) (ran : Ran (List Wire)) (k : Kernel) (upcall : Open) (rest : Rest) (script : List Command) → RestSpaced rest → length first.views ≡ opens rest → 2 * k.exchanges + 2 * length first.views ≤ bound first → Leads first ran
      → Good (serviced d asked ran k upcall rest script)
  unfolding answers
  service_good first asked (Ended results w) k upcall rest script spaced open_is few leads =
      record { spaced = spaced; open_is = leads.at_end.2 ∙ open_is; few = omega (arith, few, leads.at_end.0, leads.at_end.1, leads.at_end.2) }
  service_good first asked (Stopped kind at w) k upcall rest script spaced open_is few leads = omega (arith, few, leads.at_end.0, leads.at_end.1)

  -- ---- code of the kernel half

  -- what follows work outside any upcall
  then_good : (first : World) (work : Work) (k : Kernel) (go : Kernel → Pending) → length first.views ≡ 0 → 2 * k.exchanges ≤ bound first → Leads first work → Onward k.exchanges go → Good (then_split work k go)
  then_good first (Ended x w) k go none few leads on = on.by (record k { world = w }) refl (leads.at_end.2 ∙ none) (omega (arith, few, leads.at_end.0, leads.at_end.1))
  then_good first (Stopped kind at w) k go none few leads on = omega (arith, few, leads.at_end.0, leads.at_end.1)

  stop_good : (base : Base) (kind : StopKind) (at : Option At) (w : World) (k : Kernel) (go : Kernel → Pending) (script : List Command) → 2 * k.exchanges ≤ bound w → Good (gave d base (Stopped kind at w) k go script)
  stop_good Commanded kind at w k go script h = h
  stop_good (Down at' f args upcall rest) kind at w k go script h = h

  done_good : (base : Base) (free : Bool) (v : Wire) (w : World) (k : Kernel) (go : Kernel → Pending) (script : List Command) → KernelGood k.exchanges base free w → Onward k.exchanges go → Good (gave d base (Ended v w) k go script)
  done_good Commanded free v w k go script h on =
      then_good w (returned (interrupts (kernel_of d)) (Ended v w)) k go h.open_is (omega (arith, h.few)) (returned_leads w d (Ended v w) (record { at_end = itself w })) on
  done_good (Down at f args upcall rest) free v w k go script h on =
      let some : 1 ≤ length w.views = omega (arith, h.open_is, opens_some rest) in
      down_good w (returns_to d (held d) upcall.func at f args v w) k upcall rest script h.spaced h.open_is h.few (returns_lead w d upcall.func at f args v w some (itself w))

  -- it calls back, free to: what follows the result has no call before its next tick
  back_good : (at : At) (f : ℕ) (args : List Wire) (depth : ℕ) (next' : Wire → Tree) (base : Base) (k : Kernel) (w : World) (go : Kernel → Pending) (script : List Command) → ((v : Wire) → Spaced 0 false (next' v)) → KernelGood k.exchanges base true w
      → Good (went d base (runs_kernel d (Tree.Cross at f args depth next') w) k go script)
  unfolding goes
  back_good at f args depth next' base k w go script spaced h = of (is_atomic w)
    where
      of : (b : Bool) → Good (chosen b (over (ends.Stop stop.Atomic (Some at)) w k) (calls d f depth (map (normal w.memory) args) w k (Resumes (λ v. cut w.clock.rest (next' v)) base) script))
      of true = omega (arith, h.few)
      of false =
          calls_good f (map (normal w.memory) args) depth w k (Resumes (λ v. cut w.clock.rest (next' v)) base) script (λ v. spaced_cut w.clock.rest 0 false (next' v) (spaced v), h.spaced)
          (ap suc h.open_is) (h.spare refl)

  -- what comes after an access, after work, after a tick
  given_good : {A : Type 0} (x : Result A StopKind) (at : At) (w : World) (go' : A → Went) (base : Base) (k : Kernel) (go : Kernel → Pending) (script : List Command) → 2 * k.exchanges ≤ bound w → ((a : A) → Good (went d base (go' a) k go script))
      → Good (went d base (gave_given x at w go') k go script)
  given_good (Ok x) at w go' base k go script few each = each x
  given_good (Err kind) at w go' base k go script few each = stop_good base kind (Some at) w k go script few

  stored_good : (r : Result Memory StopKind) (at : At) (w : World) (go' : World → Went) (base : Base) (k : Kernel) (go : Kernel → Pending) (script : List Command) → 2 * k.exchanges ≤ bound w → ((m : Memory) → Good (went d base (go' (with_memory w m)) k go script))
      → Good (went d base (gave_given (remembers w r) at w go') k go script)
  stored_good (Ok m) at w go' base k go script few each = each m
  stored_good (Err kind) at w go' base k go script few each = stop_good base kind (Some at) w k go script few

  after_good : {A : Type 0} (r : Ran A) (w : World) (go' : A → World → Went) (base : Base) (k : Kernel) (go : Kernel → Pending) (script : List Command) → 2 * k.exchanges ≤ bound w → Leads w r
      → ((x : A) (w' : World) → IsLater w w' → Good (went d base (go' x w') k go script)) → Good (went d base (gave_after r go') k go script)
  after_good (Ended x w') w go' base k go script few leads each = each x w' leads.at_end
  after_good (Stopped kind at w') w go' base k go script few leads each = stop_good base kind at w' k go script (omega (arith, few, leads.at_end.0, leads.at_end.1))

  counted_good : (n : ℕ) (at : At) (free : Bool) (w : World) (go' : World → Went) (base : Base) (k : Kernel) (go : Kernel → Pending) (script : List Command) → KernelGood k.exchanges base free w
      → ((w' : World) → KernelGood k.exchanges base true w' → Good (went d base (go' w') k go script)) → Good (went d base (gave_counted n at w go') k go script)
  counted_good zero at free w go' base k go script h each = stop_good base stop.Ticks (Some at) w k go script (omega (arith, h.few))
  counted_good (suc n) at free w go' base k go script h each = each (record w { clock = advanced 1 w.clock }) (good_ticked k.exchanges base free w h)

  went_good : (tree : Tree) (free : Bool) (base : Base) (k : Kernel) (w : World) (go : Kernel → Pending) (script : List Command) → Spaced 0 free tree → KernelGood k.exchanges base free w → Onward k.exchanges go
      → Good (went d base (runs_kernel d tree w) k go script)
  unfolding goes
  went_good Tree.Idle free base k w go script s h on = done_good base free wire.NoValue w k go script h on
  went_good (Tree.Waits k') free base k w go script s h on = done_good base free wire.NoValue w k go script h on
  went_good (Tree.Done v t) free base k w go script s h on = done_good base free (normal w.memory v) w k go script h on
  went_good (Tree.Stop kind at) free base k w go script s h on = stop_good base kind (Some at) w k go script (omega (arith, h.few))
  went_good (Tree.Tick at n t) free base k w go script s h on =
      after_good (interrupts (kernel_of d) n w) w (λ x w'. gave_counted w'.clock.rest at w' (λ w''. runs_kernel d t w'')) base k go script (omega (arith, h.few)) (interrupts_lead w d n w (itself w))
      (λ x w' l. counted_good w'.clock.rest at free w' (λ w''. runs_kernel d t w'') base k go script (good_later k.exchanges base free w w' l h) (λ w'' h'. went_good t true base k w'' go script s h' on))
  went_good (Tree.Load at p k') free base k w go script s h on =
      given_good (loaded (all_cells w) w.memory p) at w (λ v. runs_kernel d (k' v) w) base k go script (omega (arith, h.few)) (λ v. went_good (k' v) free base k w go script (s v) h on)
  went_good (Tree.Store at p v t) free base k w go script s h on =
      stored_good (stored (all_cells w) w.memory p v) at w (λ w'. runs_kernel d t w') base k go script (omega (arith, h.few))
      (λ m. went_good t free base k (with_memory w m) go script s (good_later k.exchanges base free w (with_memory w m) (itself w) h) on)
  went_good (Tree.Read at p n k') free base k w go script s h on =
      given_good (read (all_cells w) w.memory p n) at w (λ bytes. runs_kernel d (k' bytes) w) base k go script (omega (arith, h.few)) (λ bytes. went_good (k' bytes) free base k w go script (s bytes) h on)
  went_good (Tree.Fresh at v k') free base k w go script s h on =
      given_good (fresh w.memory v) at w (λ x. runs_kernel d (k' x) w) base k go script (omega (arith, h.few)) (λ x. went_good (k' x) free base k w go script (s x) h on)
  went_good (Tree.Birth at shapes k') free base k w go script s h on =
      went_good (k' (births d.program Auto shapes w).pointers) free base k (births d.program Auto shapes w).memory go script (s (births d.program Auto shapes w).pointers)
      (good_later k.exchanges base free w (births d.program Auto shapes w).memory (births_later w d.program Auto shapes w (itself w)) h) on
  went_good (Tree.Death at ps t) free base k w go script s h on = went_good t free base k (deaths ps w) go script s (good_later k.exchanges base free w (deaths ps w) (deaths_later w ps w (itself w)) h) on
  went_good (Tree.Ask asked k') free base k w go script s h on =
      after_good (served d.program asked w) w (λ results w'. runs_kernel d (k' results) w') base k go script (omega (arith, h.few)) (served_leads w d.program asked w (itself w))
      (λ results w' l. went_good (k' results) free base k w' go script (s results) (good_later k.exchanges base free w w' l h) on)
  went_good (Tree.Cross at f args depth k') free base k w go script s h on =
      back_good at f args depth k' base k w go script s.3 (record { spaced = h.spaced; open_is = h.open_is; few = h.few; spare = λ yes. h.spare s.0 })

  -- ---- commands

  -- a function without a body is at once one of the other half
  bodiless : (f : ℕ) (args : List Wire) (depth : ℕ) (w : World) → d.kernel.own f ≡ None → kernel_tree d f args depth w ≡ Tree.Cross (record { func = f; stmt = 0 }) f args depth (λ v. Tree.Done v Tree.Idle)
  unfolding started
  bodiless f args depth w own =
      ap (λ (o : Option Body). goes_to d.kernel (means d.kernel (suc w.clock.rest)) (record { func = f; depth = depth; slots = []; result = Void }) (record { func = f; stmt = 0 }) f args o (λ v. Tree.Done v Tree.Idle)) own

  -- a command that calls a function pays for a call back before any tick
  enters_good : (f : ℕ) (args : List Wire) (w : World) (k : Kernel) (go : Kernel → Pending) (script : List Command) → length w.views ≡ 0 → 2 * k.exchanges + 6 ≤ bound w → Onward k.exchanges go
      → Good (went d Commanded (runs_kernel d (kernel_tree d f args 0 w) w) k go script)
  enters_good f args w k go script none few on = of (d.kernel.own f) refl
    where
      here : (free : Bool) → KernelGood k.exchanges Commanded free w
      here free = record { spaced = tt; open_is = none; few = omega (arith, few, none); spare = λ yes. omega (arith, few, none) }

      of : (o : Option Body) → d.kernel.own f ≡ o → Good (went d Commanded (runs_kernel d (kernel_tree d f args 0 w) w) k go script)
      of (Some body) own = went_good (kernel_tree d f args 0 w) false Commanded k w go script (crossings_are_spaced d.kernel (suc w.clock.rest) f args 0 body own Tree.Idle) (here false) on
      of None own =
          subst (λ (t : Tree). Good (went d Commanded (runs_kernel d t w) k go script)) (sym (bodiless f args 0 w own))
          (back_good (record { func = f; stmt = 0 }) f args 0 (λ v. Tree.Done v Tree.Idle) Commanded k w go script (λ v. tt) (here true))

  call_good : (user : Bool) (f : ℕ) (args : List Wire) (w : World) (script : List Command) (k : Kernel) (go : Kernel → Pending) → length w.views ≡ 0 → 2 * k.exchanges + 6 ≤ bound w → Onward k.exchanges go
      → Good (split_by (called_by user (kernel_of d) f args w) d script k go)
  call_good true f args w script k go none few on = calls_good f args 0 w k Noted script tt (ap suc none) (omega (arith, few, none))
  call_good false f args w script k go none few on = enters_good f args w k go script none few on

  command_good : (c : Command) (script : List Command) (k : Kernel) (go : Kernel → Pending) → length k.world.views ≡ 0 → 2 * k.exchanges ≤ bound k.world → Onward k.exchanges go
      → Good (split_by (begin (kernel_of d) (is_user d.plan) c k.world) d script k go)
  unfolding begin
  command_good (command.Call f args) script k go none few on = call_good (is_user d.plan f) f (map wire_of args) (begun d.program f args k.world) script k go none (omega (arith, few)) on
  command_good (command.Idle n) script k go none few on = then_good k.world (idled (interrupts (kernel_of d)) n k.world) k go none few (idled_leads k.world d n k.world (itself k.world)) on
  command_good (command.Show g) script k go none few on = then_good k.world (done (showed d.program g k.world)) k go none few (record { at_end = itself k.world }) on
  command_good (command.Poke serial index n) script k go none few on = then_good k.world (done (poked serial index n k.world)) k go none few (record { at_end = itself k.world }) on
  command_good (command.Say text) script k go none few on = then_good k.world (done (noted (happened.Say text) k.world)) k go none few (record { at_end = itself k.world }) on

  commands_good : (script : List Command) (k : Kernel) → length k.world.views ≡ 0 → 2 * k.exchanges ≤ bound k.world → Good (split_commands d script k)
  unfolding split_commands
  commands_good [] k none few = few
  commands_good (c ∷ cs) k none few = command_good c cs k (λ k'. split_commands d cs k') none few (record { by = λ k' e none' few'. commands_good cs k' none' few' })

  onward : (script : List Command) (e : ℕ) → Onward e (λ k'. split_commands d script k')
  onward script e = record { by = λ k' same none few. commands_good script k' none few }

  -- ---- replies

  -- the innermost upcall ended
  continued_good : (v : Wire) (k : Kernel) (rest : Rest) (script : List Command) → WaitsGood k rest → Good (continued d v k rest script)
  continued_good v k Noted script h =
      let none : length (closed k.world).views ≡ 0 = tail_length k.world.views 0 h.open_is in
      then_good (closed k.world) (ended d v k.world) k (λ k'. split_commands d script k') none (omega (arith, h.few, h.open_is))
      (returned_leads (closed k.world) d (Ended v (closed k.world)) (record { at_end = itself (closed k.world) })) (onward script k.exchanges)
  continued_good v k (Resumes next' base) script h =
      let left : length (closed k.world).views ≡ under base = tail_length k.world.views (under base) h.open_is in
      went_good (next' v) false base k (closed k.world) (λ k'. split_commands d script k') script (h.spaced.0 v)
      (record { spaced = h.spaced.1; open_is = left; few = omega (arith, h.few, h.open_is, left); spare = λ no. not_free no }) (onward script k.exchanges)

  -- user code calls a function that has a body
  downed_good : (upcall : Open) (rest : Rest) (at : At) (f : ℕ) (args : List Wire) (depth : ℕ) (k : Kernel) (script : List Command) → is_some (d.kernel.own f) ≡ true → RestSpaced rest → length k.world.views ≡ opens rest
      → 2 * k.exchanges + 2 * length k.world.views ≤ bound k.world → Good (went d (Down at f args upcall rest) (runs_kernel d (kernel_tree d f args depth k.world) k.world) k (λ k'. split_commands d script k') script)
  downed_good upcall rest at f args depth k script there spaced open_is few = of (d.kernel.own f) refl there
    where
      of : (o : Option Body) → d.kernel.own f ≡ o → is_some o ≡ true → Good (went d (Down at f args upcall rest) (runs_kernel d (kernel_tree d f args depth k.world) k.world) k (λ k'. split_commands d script k') script)
      of (Some body) own is =
          went_good (kernel_tree d f args depth k.world) false (Down at f args upcall rest) k k.world (λ k'. split_commands d script k') script
          (spaced_less 0 depth false (kernel_tree d f args depth k.world) (omega arith) (crossings_are_spaced d.kernel (suc k.world.clock.rest) f args depth body own Tree.Idle))
          (record { spaced = spaced; open_is = open_is; few = few; spare = λ no. not_free no }) (onward script k.exchanges)
      of None own is = not_free is

  -- the first of the tests of a reply that asks for something was passed, so the upcalls that are open are paid for once its ticks are spent
  asked_pays : (k : Kernel) (ticks : ℕ) (runs : List Run) → is_awaited k ticks ≡ true → 2 * k.exchanges + 2 * length k.world.views ≤ bound (applied ticks runs k).world
  unfolding is_awaited applied
  asked_pays k ticks runs passed =
      let within : 2 * k.exchanges + 2 * length k.world.views ≤ 8 * (k.world.clock.ticks + min ticks k.world.clock.rest) + 6 * k.world.kept.calls = leb-true _ _ passed in
      omega (arith, within)

  taken_good : (reply : Reply) (k : Kernel) (upcall : Open) (rest : Rest) (script : List Command) → fault_of d k upcall rest reply ≡ None → WaitsGood k rest → Good (taken d reply k upcall rest script)
  unfolding taken applied
  taken_good (replies.Return return) k upcall rest script e h =
      continued_good return.result (applied return.ticks return.runs k) rest script (record { spaced = h.spaced; open_is = h.open_is; few = omega (arith, h.few) })
  taken_good (replies.Down down) k upcall rest script e h =
      let passes = faultless d k upcall rest (replies.Down down) e in
      let k' : Kernel = applied down.ticks down.runs k in
      let stub : has_down_stub d down.func ≡ true = unless_passes (has_down_stub d down.func) refusal.NoStub 0 passes.1.1.1.1.0 in
      let paid : 2 * k.exchanges + 2 * length k.world.views ≤ bound k'.world = asked_pays k down.ticks down.runs (unless_passes (is_awaited k down.ticks) refusal.NotAwaited 0 passes.0) in
      downed_good upcall rest down.at down.func (map (normal k'.world.memory) down.args) down.depth k' script (and_right (is_true (slice_get d.plan.down down.func)) _ stub) h.spaced h.open_is paid
  taken_good (replies.Ask ask) k upcall rest script e h =
      let passes = faultless d k upcall rest (replies.Ask ask) e in
      let asked : Asked = asked_of ask in
      let k' : Kernel = applied ask.ticks ask.runs k in
      let paid : 2 * k.exchanges + 2 * length k.world.views ≤ bound k'.world = asked_pays k ask.ticks ask.runs (unless_passes (is_awaited k ask.ticks) refusal.NotAwaited 0 passes.0) in
      let some : 1 ≤ length k.world.views = omega (arith, h.open_is, opens_some rest) in
      service_good k'.world asked (serves d (held d) upcall.func asked k'.world) k' upcall rest script h.spaced h.open_is paid (asks_lead k'.world d upcall.func asked k'.world some (itself k'.world))
  taken_good (replies.Stop said) k upcall rest script e h = let paid = waits_paid k rest h in omega (arith, paid)

  judged_good : (reply : Reply) (k : Kernel) (upcall : Open) (rest : Rest) (script : List Command) → WaitsGood k rest → Good (judged d (fault_of d k upcall rest reply) reply k upcall rest script)
  judged_good reply k upcall rest script h = of (fault_of d k upcall rest reply) refl
    where
      of : (o : Option Fault) → fault_of d k upcall rest reply ≡ o → Good (judged d o reply k upcall rest script)
      of None e = taken_good reply k upcall rest script e h
      of (Some f) e = waits_paid k rest h

  answered_good : (o : Option Reply) (k : Kernel) (upcall : Open) (rest : Rest) (script : List Command) → WaitsGood k rest → Good (answered d o k upcall rest script)
  answered_good None k upcall rest script h = waits_paid k rest h
  answered_good (Some reply) k upcall rest script h = judged_good reply k upcall rest script h

  next_good : (a : Reading) (k : Kernel) (upcall : Open) (rest : Rest) (script : List Command) → WaitsGood k rest → Good (next d a k upcall rest script)
  unfolding next
  next_good (Err f) k upcall rest script h = waits_paid k rest h
  next_good (Ok m) k upcall rest script h = answered_good (reply_of m) k upcall rest script h

  -- ---- the run

  from_pending : (readings : List Reading) (p : Pending) → Good p → Good (run_from_pending d readings p).pending
  unfolding run_from_pending
  from_pending [] (Over end k) h = h
  from_pending [] (Waits m k upcall rest script) h = h
  from_pending (a ∷ readings) (Over end k) h = h
  from_pending (a ∷ readings) (Waits m k upcall rest script) h = from_pending readings (next d a k upcall rest script) (next_good a k upcall rest script h)

  run_good : (script : Bound) (budget : ℕ) (readings : List Reading) → Good (split_run d script budget readings).pending
  unfolding split_run first_kernel first_world
  run_good script budget readings =
      from_pending readings (split_commands d script.commands (first_kernel d script budget)) (commands_good script.commands (first_kernel d script budget) refl (omega arith))

good_paid : (p : Pending) → Good p → 2 * (kernel_in p).exchanges ≤ bound (kernel_in p).world
good_paid (Over end k) h = h
good_paid (Waits m k upcall rest script) h = waits_paid k rest h

pub few_everywhere : MessagesAreFew
few_everywhere d script budget readings = good_paid (split_run d script budget readings).pending (run_good d script budget readings)
