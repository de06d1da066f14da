-- An upcall opens, its function runs, and it is over; and where code of the kernel half calls back one opens in the others.
use Rattle.std.proofs.Common.{◌≡◌, ℕ, zero, suc, ◌-◌, true, false, List, [], ◌∷◌, length, Option, None, Some, Result, Ok, Err, refl, sym, ◌∙◌, ap, subst, arith}
use Rattle.std.specs.Prelude.{map, not}
use Rattle.mdr_core.specs.declared.place.At.{At}
use Rattle.mdr_core.specs.declared.program.Program.{Program}
use Rattle.mdr_core.specs.declared.stop.StopKind.{StopKind}
use Rattle.mdr_core.specs.declared.stop.StopKind.TheVariants as stop
use Rattle.mdr_core.specs.declared.types.Ty.TheVariants.{Void}
use Rattle.mdr_core.specs.declared.value.Value.{Value}
use Rattle.mdr_core.specs.Layout.{chosen}
use Rattle.mdr_events.specs.declared.event.Crossing.{Crossing as Call}
use Rattle.mdr_events.specs.Values.{wires_of}
use Rattle.mdr_exec.specs.declared.frame.Machine.{Machine}
use Rattle.mdr_extents.specs.Reaching as reaching
use Rattle.mdr_extents.specs.Reaching.{visible}
use Rattle.mdr_meaning.specs.declared.wire.Wire.{Wire}
use Rattle.mdr_meaning.specs.Bodies.{body_of, means, started, user_side as side_of_user}
use Rattle.mdr_meaning.specs.Calls.{goes_to}
use Rattle.mdr_meaning.specs.Tree.{Tree}
use Rattle.mdr_meaning.specs.Values.{wire_of}
use Rattle.mdr_model.specs.declared.memory.Cell.{Cell}
use Rattle.mdr_model.specs.Memory.{Memory, normal}
use Rattle.mdr_plain.specs.Atomic.{is_atomic}
use Rattle.mdr_plain.specs.Running.{nothing, run}
use Rattle.mdr_plain.specs.World.{World, Ran, Ended, Stopped}
use Rattle.mdr_reach.specs.declared.failing.Failing.{Failing}
use Rattle.mdr_reach.specs.Answers.{answered}
use Rattle.mdr_runs.proofs.Standing.{call_is_started}
use Rattle.mdr_watched.specs.Driver.{Driver, entry_roots, is_user}
use Rattle.mdr_watched.specs.Views.{below, closed, opened, taken}
use Rattle.mdr_watched.specs.Watched.{calls_back, closing, downcall, held, upcall}
use Rattle.mdr_watched.proofs.CloseLaws.{upcalls_close}
use Rattle.mdr_whole.specs.declared.ending.Gave.{Gave}
use Rattle.mdr_whole.specs.declared.ending.Gave.TheVariants as gave
use Rattle.mdr_whole.specs.Ending.{gave_as}
use Rattle.mdr_world.specs.Driven.{Driven, driver}
use Rattle.mdr_watch.specs.declared.watch.Activation.{Activation}
use Rattle.mdr_watch.specs.declared.watch.Upcall.{Upcall}
use Rattle.mdr_watch.specs.Going.{IsStarted, held_in, program_in, user_does}
use Rattle.mdr_watch.specs.Leaving.{GaveFor, IsOnly, IsWithin, with_views}
use Rattle.mdr_watch.specs.Nesting.{IsElsewhere, IsSent, calls_back_in, entered_in, passes_on, runs_in, upcalls_in}
use Rattle.mdr_watch.specs.Watching.{around_user, backs_in, begins_with, downcalls_in, driver_in, touched_in, user_side}
use Rattle.mdr_watch.proofs.Through.{nothing_gives}
use Rattle.mdr_watch.proofs.Turns.{keeps}

-- ---- code of the kernel half calls back

module _ (d : Driver) (at : At) (f : ℕ) (args : List Wire) (depth : ℕ) (w : World) where
  -- where there is no room
  pub no_room : (n : ℕ) → n ≡ 0 → ◌≡◌ {A = Ran Wire} (Stopped stop.Depth (Some at) w) (calls_back d (held d) n at f args depth w)
  unfolding calls_back
  no_room n e = sym (ap (λ k. calls_back d (held d) k at f args depth w) e)

  -- and where there is
  with_room : (n : ℕ) → (n ≡ 0 → ⊥) → chosen (is_atomic w) (Stopped stop.Atomic (Some at) w) (upcall d (held d) (calls_back d (held d) (n - 1)) f (map (normal w.memory) args) depth w) ≡ calls_back d (held d) n at f args depth w
  unfolding calls_back
  with_room zero some = absurd (some refl)
  with_room (suc n) some =
      let same : suc n - 1 ≡ n = omega arith in
      ap (λ k. chosen (is_atomic w) (Stopped stop.Atomic (Some at) w) (upcall d (held d) (calls_back d (held d) k) f (map (normal w.memory) args) depth w)) same

  -- it may not wait
  pub stops_atomic : (n : ℕ) → (n ≡ 0 → ⊥) → is_atomic w ≡ true → ◌≡◌ {A = Ran Wire} (Stopped stop.Atomic (Some at) w) (calls_back d (held d) n at f args depth w)
  stops_atomic n some e =
      sym (ap (λ b. chosen b (Stopped stop.Atomic (Some at) w) (upcall d (held d) (calls_back d (held d) (n - 1)) f (map (normal w.memory) args) depth w)) e) ∙ with_room n some

  -- it may
  pub goes_back : (n : ℕ) → (n ≡ 0 → ⊥) → is_atomic w ≡ false → upcall d (held d) (calls_back d (held d) (n - 1)) f (map (normal w.memory) args) depth w ≡ calls_back d (held d) n at f args depth w
  goes_back n some e =
      sym (ap (λ b. chosen b (Stopped stop.Atomic (Some at) w) (upcall d (held d) (calls_back d (held d) (n - 1)) f (map (normal w.memory) args) depth w)) e) ∙ with_room n some

-- with the arguments that were sent
pub back_called : (a : Activation) (c c1 : Call) (w : World) (sent : List Value) (r : Ran Wire) → (a.room ≡ 0 → ⊥) → is_atomic w ≡ false → IsSent c w c1 → sent ≡ c1.args
    → r ≡ upcall (driver_in a.upcall.watch) (held (driver_in a.upcall.watch)) (calls_back (driver_in a.upcall.watch) (held (driver_in a.upcall.watch)) (a.room - 1)) c.func (wires_of sent) c.depth w
    → r ≡ calls_back_in a c w
back_called a c c1 w sent r some may s are is =
    is
    ∙ ap (λ args. upcall (driver_in a.upcall.watch) (held (driver_in a.upcall.watch)) (calls_back (driver_in a.upcall.watch) (held (driver_in a.upcall.watch)) (a.room - 1)) c.func args c.depth w) (ap wires_of are ∙ s.args)
    ∙ goes_back (driver_in a.upcall.watch) c.at c.func (wires_of c.args) c.depth w a.room some may

-- ---- the set of an upcall

-- in a memory
abbrev pub taken_from : Upcall → List Wire → Memory → Result (List Cell) reaching.Failing
taken_from u args m = visible u.watch.program.now (touched_in u) m [] (entry_roots u.watch.program.now u.func args)

module _ (a : Activation) (args : List Wire) (w : World) where
  pub set_taken : (set : List Cell) → Ok set ≡ begins_with a.upcall args w → entered_in a args set w ≡ upcalls_in a args w
  unfolding upcall
  set_taken set e = ap (λ r. taken r (record { func = a.upcall.func; stmt = 0 }) w (λ x. entered_in a args x w)) e

  -- a pointer fails
  pub set_fails : (x : Failing) (g : Gave) → answered (Err x) ≡ begins_with a.upcall args w → g ≡ gave.Stopped stop.Annotation (Some (record { func = a.upcall.func; stmt = 0 })) → gave_as g w ≡ upcalls_in a args w
  unfolding upcall
  set_fails x g e is = ap (λ y. gave_as y w) is ∙ ap (λ r. taken r (record { func = a.upcall.func; stmt = 0 }) w (λ x. entered_in a args x w)) e

  pub fails_for : (x : Failing) (g : Gave) → answered (Err x) ≡ begins_with a.upcall args w → g ≡ gave.Stopped stop.Annotation (Some (record { func = a.upcall.func; stmt = 0 })) → GaveFor g w (upcalls_in a args w)
  fails_for x g e is =
      subst (λ y. GaveFor y w (upcalls_in a args w)) (sym is)
      (w.views, sym (ap (λ y. gave_as y w) is) ∙ set_fails x g e is)

  -- ---- its function runs

  -- in a machine
  pub machine_runs : (m : Machine) (g : Gave) (w1 : World) → IsStarted a args m → gave_as g w1 ≡ user_does a w.clock.rest m w → gave_as g w1 ≡ runs_in a args w
  machine_runs m g w1 s so = so ∙ call_is_started (around_user a) nothing (keeps a) nothing_gives (user_side a.upcall) a.upcall.func args a.depth (held_in a.upcall m) w s.by

  -- or in the other half
  none_own : is_user a.upcall.watch.plan.now a.upcall.func ≡ false → (user_side a.upcall).own a.upcall.func ≡ None
  unfolding side_of_user
  none_own e = ap (λ u. chosen (not u) None (body_of (program_in a.upcall) a.upcall.func)) e

  crosses_at_once : is_user a.upcall.watch.plan.now a.upcall.func ≡ false
      → passes_on (downcall (driver_in a.upcall.watch) (held (driver_in a.upcall.watch)) a.upcall.func (backs_in a) (record { func = a.upcall.func; stmt = 0 }) a.upcall.func args a.depth w) ≡ runs_in a args w
  unfolding started run
  crosses_at_once e =
      sym (ap (λ o. run (around_user a) nothing (goes_to (user_side a.upcall) (means (user_side a.upcall) (suc w.clock.rest)) (record { func = a.upcall.func; depth = a.depth; slots = []; result = Void }) (record { func = a.upcall.func; stmt = 0 }) a.upcall.func args o (λ v. Tree.Done v Tree.Idle)) w) (none_own e))

  pub elsewhere_runs : (c : Call) (g g1 : Gave) (w1 : World) → is_user a.upcall.watch.plan.now a.upcall.func ≡ false → IsElsewhere a args c → gave_as g w1 ≡ downcalls_in a c w → gave_as g1 w1 ≡ passes_on (gave_as g w1) → gave_as g1 w1 ≡ runs_in a args w
  elsewhere_runs c g g1 w1 e x so passed =
      passed
      ∙ ap passes_on so
      ∙ (λ i. passes_on (downcall (driver_in a.upcall.watch) (held (driver_in a.upcall.watch)) a.upcall.func (backs_in a) (x.at i) (x.func i) (x.args i) (x.depth i) w))
      ∙ crosses_at_once e

  -- ---- it is over

  -- where its function gave a value as many are open behind it as before it
  pub over_left : (set : List Cell) (g : Gave) (v : Value) (w1 : World) → Ok set ≡ begins_with a.upcall args w → g ≡ gave.Value v → gave_as g w1 ≡ runs_in a args (opened set w) → length (below w1.views) ≡ length w.views
  over_left set g v w1 begins is ran =
      upcalls_close (driver_in a.upcall.watch) a.room a.upcall.func args a.depth w (wire_of v) (closed w1)
      (sym (set_taken set begins) ∙ ap closing (sym ran) ∙ ap (λ x. closing (gave_as x w1)) is)

  pub within_left : (set : List Cell) (g : Gave) (w1 : World) (n : ℕ) → Ok set ≡ begins_with a.upcall args w → gave_as g w1 ≡ runs_in a args (opened set w) → suc n ≡ length w.views → IsWithin g w1
  within_left set (gave.Value v) w1 n begins ran some = (n, over_left set (gave.Value v) v w1 begins refl ran ∙ sym some)
  within_left set (gave.Stopped kind at) w1 n begins ran some = tt

  pub only_left : (set : List Cell) (g : Gave) (w1 : World) → Ok set ≡ begins_with a.upcall args w → gave_as g w1 ≡ runs_in a args (opened set w) → w.views ≡ [] → IsOnly g w1
  only_left set (gave.Value v) w1 begins ran none = over_left set (gave.Value v) v w1 begins refl ran ∙ ap length none
  only_left set (gave.Stopped kind at) w1 begins ran none = tt

-- its function ran where it had opened
pub ran_within : (a : Activation) (args : List Wire) (set : List Cell) (program : Program) (g : Gave) (w : World) (gd1 gd2 : Driven) → gd1 ≡ driver program (opened set w) → gave_as g gd2.world ≡ runs_in a args gd1.world → gave_as g gd2.world ≡ runs_in a args (opened set w)
ran_within a args set program g w gd1 gd2 is ran = ran ∙ ap (λ (d : Driven). runs_in a args d.world) is

-- ---- while no other one is open

one_and_none : (views : List (List Cell)) (n : ℕ) → suc n ≡ length views → length (below views) ≡ 0 → length views ≡ 1
one_and_none [] n some none = absurd (omega (arith, some))
one_and_none (set ∷ sets) n some none = let h : length sets ≡ 0 = none in omega (arith, h)

-- it is the only one
pub only_here : (g : Gave) (v : Value) (w : World) (n : ℕ) → g ≡ gave.Value v → suc n ≡ length w.views → IsOnly g w → length w.views ≡ 1
only_here g v w n is some only = one_and_none w.views n some (subst (λ x. IsOnly x w) is only)

-- it is over, with the result of its function
pub closed_value : (g : Gave) (v : Value) (gd w1 : Driven) → g ≡ gave.Value v → w1 ≡ driver gd.program (closed gd.world) → GaveFor (gave.Value v) w1.world (closing (gave_as g gd.world))
closed_value g v gd w1 is gone = ap (λ (d : Driven). Ended (wire_of v) d.world) gone ∙ sym (ap (λ x. closing (gave_as x gd.world)) is)

-- or where it stopped
pub closed_stopped : (g : Gave) (kind : StopKind) (at : Option At) (gd w1 : Driven) → g ≡ gave.Stopped kind at → w1 ≡ driver gd.program (with_views [] gd.world) → GaveFor (gave.Stopped kind at) w1.world (closing (gave_as g gd.world))
closed_stopped g kind at gd w1 is gone = (gd.world.views, ap (λ (d : Driven). Stopped kind at (with_views gd.world.views d.world)) gone ∙ sym (ap (λ x. closing (gave_as x gd.world)) is))

-- its function ran with its set
pub ran_entered : (a : Activation) (args : List Wire) (set : List Cell) (g g1 : Gave) (w w1 w2 : World) → gave_as g w1 ≡ runs_in a args (opened set w) → GaveFor g1 w2 (closing (gave_as g w1)) → GaveFor g1 w2 (entered_in a args set w)
ran_entered a args set g g1 w w1 w2 ran h = subst (λ r. GaveFor g1 w2 (closing r)) ran h
