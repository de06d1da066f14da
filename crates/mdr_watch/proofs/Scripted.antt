-- The commands of a script, where code of the kernel half may call back.
use Rattle.std.proofs.Common.{◌≡◌, ℕ, suc, false, true, List, [], ◌≤◌, length, drop, Option, refl, sym, ◌∙◌, ap, le_refl, subst}
use Rattle.std.specs.Prelude.{map}
use Rattle.std.proofs.lemmas.List.{at_drop_all}
use Rattle.mdr_bound.specs.declared.bound.Bound.{Bound}
use Rattle.mdr_core.specs.declared.place.At.{At}
use Rattle.mdr_core.specs.declared.plan.Plan.{Plan}
use Rattle.mdr_core.specs.declared.program.Program.{Program}
use Rattle.mdr_core.specs.declared.stop.StopKind.{StopKind}
use Rattle.mdr_core.specs.declared.stop.StopKind.TheVariants as stop
use Rattle.mdr_core.specs.declared.value.Value.{Value}
use Rattle.mdr_events.specs.declared.event.Crossing.{Crossing as Call}
use Rattle.mdr_events.specs.Values.{wires_of}
use Rattle.mdr_meaning.specs.declared.wire.Wire.{Wire}
use Rattle.mdr_meaning.specs.Bodies.{kernel_side, known_of, started}
use Rattle.mdr_meaning.specs.Tree.{Tree}
use Rattle.mdr_meaning.specs.Values.{wire_of}
use Rattle.mdr_model.specs.declared.command.Command.{Command}
use Rattle.mdr_model.specs.declared.command.Command.TheVariants as command
use Rattle.mdr_model.specs.declared.memory.Cell.{Cell}
use Rattle.mdr_model.specs.Memory.{normal}
use Rattle.mdr_plain.specs.declared.outcome.Outcome.{Outcome}
use Rattle.mdr_plain.specs.Atomic.{is_atomic}
use Rattle.mdr_plain.specs.Laws.{GivesNoTicks}
use Rattle.mdr_plain.specs.Outcome.{outcome_of}
use Rattle.mdr_plain.specs.Plain.{does as plainly_does}
use Rattle.mdr_plain.specs.Running.{Before, KernelCode, Setting, all_cells, call, goes, in_kernel, interrupts, run}
use Rattle.mdr_plain.specs.Scripts.{Finish, begin, begun, commands, finish, first_world, returned}
use Rattle.mdr_plain.specs.Services.{served}
use Rattle.mdr_plain.specs.Storage.{accesses}
use Rattle.mdr_plain.specs.World.{World, Ran, Ended, Stopped, Work, after, left}
use Rattle.mdr_runs.specs.Around.{KeepsTicks}
use Rattle.mdr_runs.specs.Pausing.{finishes}
use Rattle.mdr_runs.proofs.Around.{accesses_keep_ticks, served_at_most}
use Rattle.mdr_runs.proofs.Pausing.{goes_finishes}
use Rattle.mdr_runs.proofs.Tries.{tries_give_none}
use Rattle.mdr_viewed.proofs.Ticks.{user_code_keeps_ticks}
use Rattle.mdr_watched.specs.Driver.{Driver, driver_of, is_user}
use Rattle.mdr_watched.specs.Watched.{backs, calls_back, does, held, kernel_of, kernel_with, upcall, watched, watched_of}
use Rattle.mdr_whole.specs.declared.code.Code.{Code}
use Rattle.mdr_whole.specs.declared.ending.Gave.{Gave}
use Rattle.mdr_whole.specs.declared.ending.Gave.TheVariants as gave
use Rattle.mdr_whole.specs.declared.ending.Worked.{Worked}
use Rattle.mdr_whole.specs.declared.ending.Worked.TheVariants as worked
use Rattle.mdr_whole.specs.declared.paused.Paused.{Paused}
use Rattle.mdr_whole.specs.declared.paused.Went.{Went}
use Rattle.mdr_whole.specs.declared.paused.Went.TheVariants as went
use Rattle.mdr_whole.specs.Ending.{end_of, gave_as, worked_as}
use Rattle.mdr_whole.specs.Going.{driver_code}
use Rattle.mdr_whole.specs.Pausing.{IsWaiting, WentOn, awaited, enters_in, went_as, went_in}
use Rattle.mdr_world.specs.Driven.{Driven, driver}
use Rattle.mdr_watch.specs.declared.watch.Watch.{Watch}
use Rattle.mdr_watch.specs.Commanding.{ComesOn, WentFor, calls_in, finishes_in, gives_back}
use Rattle.mdr_watch.specs.Leaving.{EndsFor, GaveFor, WorkedFor, with_views}
use Rattle.mdr_watch.specs.Watching.{IsNoCall, WentBelow, came_below, driver_in, kernel_went}
use Rattle.mdr_watch.proofs.Alone.{none_went}

-- ---- what a call gave is noted

worked_for : (e : Worked) (w : World) (work : Work) → worked_as e w ≡ work → WorkedFor e w work
worked_for worked.Done w work is = is
worked_for (worked.Stopped kind at) w work is = (w.views, is)

-- or the run stopped in it
returned_for : (kernel : KernelCode) (g : Gave) (e : Worked) (w w1 : World) (ran : Ran Wire) → GaveFor g w ran → worked_as e w1 ≡ returned (interrupts kernel) (gave_as g w) → WorkedFor e w1 (returned (interrupts kernel) ran)
returned_for kernel (gave.Value v) e w w1 ran is so = worked_for e w1 _ (so ∙ ap (returned (interrupts kernel)) is)
returned_for kernel (gave.Stopped kind at) worked.Done w w1 ran is so = absurd (cc so)
returned_for kernel (gave.Stopped kind at) (worked.Stopped kind' at') w w1 ran is so =
    let same : ◌≡◌ {A = Work} (Stopped kind' at' w1) (Stopped kind at w) = so in
    (is.0, ap (λ (x : Work). with_views_of is.0 x) same ∙ ap (returned (interrupts kernel)) is.1)
  where
    with_views_of : List (List Cell) → Work → Work
    with_views_of views (Ended x w) = Ended x w
    with_views_of views (Stopped kind at w) = Stopped kind at (with_views views w)

-- ---- commands

module _ (d : Driver) (w : World) where
  user_call_does : (f : ℕ) (args : List Value) → is_user d.plan f ≡ true → does d (held d) (command.Call f args) w ≡ returned (interrupts (kernel_of d)) (upcall d (held d) (backs d (held d)) f (map wire_of args) 0 (begun d.program f args w))
  unfolding begin
  user_call_does f args e = rw e refl

  kernel_call_does : (f : ℕ) (args : List Value) → is_user d.plan f ≡ false
      → does d (held d) (command.Call f args) w ≡ returned (interrupts (kernel_of d)) (call (kernel_with d (backs d (held d))) (interrupts (kernel_of d)) f (map wire_of args) 0 (begun d.program f args w))
  unfolding begin
  kernel_call_does f args e = rw e refl

  no_call_does : (c : Command) → IsNoCall c → plainly_does (kernel_of d) c w ≡ does d (held d) c w
  unfolding begin
  no_call_does (command.Call f args) e = absurd e
  no_call_does (command.Idle n) e = refl
  no_call_does (command.Show g) e = refl
  no_call_does (command.Poke serial index n) e = refl
  no_call_does (command.Say text) e = refl

-- no function is called
pub no_call_for : (d : Driver) (code : KernelCode) (c : Command) (e : Worked) (w w1 : World) → code ≡ kernel_of d → IsNoCall c → worked_as e w1 ≡ plainly_does code c w → WorkedFor e w1 (does d (held d) c w)
no_call_for d code c e w w1 is none so = worked_for e w1 _ (so ∙ ap (λ x. plainly_does x c w) is ∙ no_call_does d w c none)

-- one is, which was noted
module _ (d : Driver) (f : ℕ) (args : List Value) (w w1 : Driven) (same : w.program ≡ d.program) (noted : w1 ≡ driver w.program (begun w.program f args w.world)) where
  begun_is : w1.world ≡ begun d.program f args w.world
  begun_is = ap (λ (x : Driven). x.world) noted ∙ ap (λ p. begun p f args w.world) same

  called_for : (all : World → Ran Wire) (g : Gave) (e : Worked) (w2 w3 : World) → does d (held d) (command.Call f args) w.world ≡ returned (interrupts (kernel_of d)) (all (begun d.program f args w.world))
      → GaveFor g w2 (all w1.world) → worked_as e w3 ≡ returned (interrupts (kernel_of d)) (gave_as g w2) → WorkedFor e w3 (does d (held d) (command.Call f args) w.world)
  called_for all g e w2 w3 is gave so =
      subst (λ work. WorkedFor e w3 work) (sym is)
      (returned_for (kernel_of d) g e w2 w3 (all (begun d.program f args w.world)) (subst (λ x. GaveFor g w2 (all x)) begun_is gave) so)

  -- of the user half
  pub user_worked : (g : Gave) (e : Worked) (w2 w3 : World) → is_user d.plan f ≡ true → GaveFor g w2 (upcall d (held d) (backs d (held d)) f (map wire_of args) 0 w1.world)
      → worked_as e w3 ≡ returned (interrupts (kernel_of d)) (gave_as g w2) → WorkedFor e w3 (does d (held d) (command.Call f args) w.world)
  user_worked g e w2 w3 user = called_for (λ x. upcall d (held d) (backs d (held d)) f (map wire_of args) 0 x) g e w2 w3 (user_call_does d w.world f args user)

  -- of the kernel half
  pub kernel_worked : (g : Gave) (e : Worked) (w2 w3 : World) (ran : Ran Wire) → is_user d.plan f ≡ false → GaveFor g w2 ran → ran ≡ call (kernel_with d (backs d (held d))) (interrupts (kernel_of d)) f (map wire_of args) 0 w1.world
      → worked_as e w3 ≡ returned (interrupts (kernel_of d)) (gave_as g w2) → WorkedFor e w3 (does d (held d) (command.Call f args) w.world)
  kernel_worked g e w2 w3 ran kernel gave is =
      called_for (λ x. call (kernel_with d (backs d (held d))) (interrupts (kernel_of d)) f (map wire_of args) 0 x) g e w2 w3 (kernel_call_does d w.world f args kernel)
      (subst (λ x. GaveFor g w2 x) is gave)

-- ---- code of the kernel half

module _ (watch : Watch) where
  abbrev d : Driver
  d = driver_in watch

  abbrev rule : Before
  rule = interrupts (kernel_of d)

  abbrev around : Setting
  around = in_kernel d.program (backs d (held d))

  -- no tick comes back
  around_keeps : KeepsTicks around
  around_keeps = accesses_keep_ticks d.program all_cells (served d.program) (backs d (held d)) (λ a w. served_at_most d.program w.clock.rest a w (le_refl w.clock.rest)) (user_code_keeps_ticks.back d 256)

  rule_keeps : GivesNoTicks rule
  rule_keeps = tries_give_none true d.program true d.kernel

  run_finishes : (t : Tree) (w : World) → run around rule t w ≡ finishes around rule (kernel_went watch t w)
  run_finishes t w = goes_finishes around rule around_keeps rule_keeps t w

  -- ---- it was called, or went on

  module _ (code : Code) (is : driver_code code ≡ kernel_of d) (g : Went) (w w1 : World) where
    came_so : went_in code g w1 ≡ came_below watch g w1
    came_so = λ i. went_as (is i).program (is i).side g w1

    module _ (f : ℕ) (args : List Wire) (so : went_in code g w1 ≡ enters_in true code f args 0 w) where
      entered_so : came_below watch g w1 ≡ kernel_went watch (started d.kernel (suc w.clock.rest) f args 0 Tree.Idle) w
      entered_so =
          sym came_so ∙ so
          ∙ (λ i. goes (accesses (is i).program all_cells) (served (is i).program) (interrupts (is i)) (started (is i).side (suc w.clock.rest) f args 0 Tree.Idle) w)

      pub entered_finishes : finishes_in watch g w1 ≡ calls_in watch f args w
      unfolding call
      entered_finishes = ap (finishes around rule) entered_so ∙ sym (run_finishes (started d.kernel (suc w.clock.rest) f args 0 Tree.Idle) w)

      pub none_entered : w.views ≡ [] → w1.views ≡ []
      none_entered alone = none_went d (started d.kernel (suc w.clock.rest) f args 0 Tree.Idle) g w w1 alone entered_so

    module _ (p : Paused) (v : Wire) (so : WentOn true code p v w g w1) where
      pub went_below : WentBelow watch p v w g w1
      went_below = λ rest enough.
          sym came_so ∙ so rest enough
          ∙ (λ i. goes (accesses (is i).program all_cells) (served (is i).program) (interrupts (is i)) (awaited (is i).program (is i).side p rest v) w)

      pub none_below : w.views ≡ [] → w1.views ≡ []
      none_below alone = none_went d (awaited d.program d.kernel p w.clock.rest v) g w w1 alone (went_below w.clock.rest (le_refl w.clock.rest))

  -- ---- it calls back

  module _ (c : Call) (w : World) where
    -- it may not wait
    pub atomic_gave : is_atomic w ≡ true → GaveFor (gave.Stopped stop.Atomic (Option.Some c.at)) w (gives_back watch c w)
    unfolding calls_back
    atomic_gave e = (w.views, rw e refl)

    -- it may
    pub passed_gave : (g : Gave) (args : List Wire) (w1 : World) → is_atomic w ≡ false → args ≡ map (normal w.memory) (wires_of c.args) → GaveFor g w1 (upcall d (held d) (calls_back d (held d) 255) c.func args c.depth w) → GaveFor g w1 (gives_back watch c w)
    unfolding calls_back
    passed_gave g args w1 e are given = rw e (subst (λ xs. GaveFor g w1 (upcall d (held d) (calls_back d (held d) 255) c.func xs c.depth w)) are given)

  -- ---- what that gave

  went_for : (g : Went) (w : World) (all : Ran Wire) → finishes_in watch g w ≡ all → WentFor watch g w all
  went_for (went.Gave (gave.Value v)) w all is = is
  went_for (went.Gave (gave.Stopped kind at)) w all is = (w.views, is)
  went_for (went.Calls c p) w all is = is

  -- what follows it
  abbrev follows : Paused → (rest : ℕ) → Ran Wire → Ran Wire
  follows p rest ran = after ran (λ v w. run around rule (awaited d.program d.kernel p rest v) w)

  back_spends : (c : Call) (v : Wire) (w before : World) → Ended v w ≡ gives_back watch c before → w.clock.rest ≤ before.clock.rest
  back_spends c v w before is = subst (λ (r : Ran Wire). (left r).clock.rest ≤ before.clock.rest) (sym is) (user_code_keeps_ticks.back d 256 c.at c.func (wires_of c.args) c.depth before)

  pub goes_on_for : (p : Paused) (g : Gave) (v : Value) (w : World) (far : Went) (w1 : World) → g ≡ gave.Value v → WentBelow watch p (wire_of v) w far w1 → ComesOn watch p g w far w1
  goes_on_for p g v w far w1 value so = subst (λ x. ComesOn watch p x w far w1) (sym value) (λ c before is.
      went_for far w1 (finishes_in watch (went.Calls c p) before)
      (ap (finishes around rule) (so before.clock.rest (back_spends c (wire_of v) w before is))
      ∙ sym (run_finishes (awaited d.program d.kernel p before.clock.rest (wire_of v)) w)
      ∙ ap (follows p before.clock.rest) is))

  pub stops_for : (p : Paused) (g : Gave) (kind : StopKind) (at : Option At) (w : World) → g ≡ gave.Stopped kind at → ComesOn watch p g w (went.Gave (gave.Stopped kind at)) w
  stops_for p g kind at w stopped = subst (λ x. ComesOn watch p x w (went.Gave (gave.Stopped kind at)) w) (sym stopped) (λ c before is. (is.0, ap (follows p before.clock.rest) is.1))

-- ---- it runs to its end

-- it is on its way to what all of it comes to
pub record OnItsWay (watch : Watch) (all : Ran Wire) (g : Went) (d : Driven) : Type 0 where
  pub so_far : WentFor watch g d.world all
  pub same : d.program ≡ watch.program.now
  pub alone : d.world.views ≡ []
  pub waits : IsWaiting watch.program.now g

module _ (watch : Watch) where
  pub way_begins : (g : Went) (d : Driven) → d.program ≡ watch.program.now → d.world.views ≡ [] → IsWaiting watch.program.now g → OnItsWay watch (finishes_in watch g d.world) g d
  way_begins g d same alone waits = record { so_far = went_for watch g d.world (finishes_in watch g d.world) refl; same = same; alone = alone; waits = waits }

  module _ (all : Ran Wire) (g : Went) (d : Driven) (o : OnItsWay watch all g d) where
    pub way_goes : (c : Call) (p : Paused) (g1 : Went) (d1 : Driven) → g ≡ went.Calls c p → WentFor watch g1 d1.world (finishes_in watch (went.Calls c p) d.world) → d1.program ≡ watch.program.now → d1.world.views ≡ [] → IsWaiting watch.program.now g1
        → OnItsWay watch all g1 d1
    way_goes c p g1 d1 is so same alone waits = record {
      so_far = subst (λ x. WentFor watch g1 d1.world x) (subst (λ x. WentFor watch x d.world all) is o.so_far) so;
      same = same;
      alone = alone;
      waits = waits;
    }

    pub way_ends : (x : Gave) → g ≡ went.Gave x → GaveFor x d.world all
    way_ends x is = subst (λ y. WentFor watch y d.world all) is o.so_far

-- ---- scripts

module _ (d : Driver) where
  ends_for : (w : World) → EndsFor worked.Done w (commands (does d (held d)) [] w)
  unfolding commands
  ends_for w = record { end = refl; views = w.views; world = refl }

  -- all commands were done
  pub ends_at : (script : List Command) (i : ℕ) (w w0 : World) → length script ≤ i → commands (does d (held d)) (drop i script) w ≡ commands (does d (held d)) script w0 → EndsFor worked.Done w (commands (does d (held d)) script w0)
  ends_at script i w w0 past rest = subst (λ f. EndsFor worked.Done w f) (sym (at_drop_all (λ cs. commands (does d (held d)) cs w) script i past) ∙ rest) (ends_for w)

-- nothing is shown of the sets
shown_so : (program : Program) (e : Worked) (w : World) (f : Finish) → EndsFor e w f → outcome_of program (record { end = end_of e; world = w }) ≡ outcome_of program f
unfolding outcome_of
shown_so program e w f h = λ i. outcome_of program (record { end = h.end i; world = h.world i })

-- the commands were done from the first state on
pub ran_watched : (program : Program) (plan : Plan) (script : Bound) (ticks : ℕ) (d d' : Driven) (cs : List Command) (e : Worked) (o : Outcome)
    → d ≡ driver program (first_world (known_of program) script ticks) → cs ≡ script.commands → d'.program ≡ program
    → EndsFor e d'.world (commands (does (driver_of program plan) (held (driver_of program plan))) cs d.world)
    → o ≡ outcome_of d'.program (finish (end_of e) d'.world) → o ≡ outcome_of program (watched program plan script ticks)
unfolding watched_of kernel_side
ran_watched program plan script ticks d d' cs e o first are kept ran shown =
    shown
    ∙ ap (λ p. outcome_of p (finish (end_of e) d'.world)) kept
    ∙ shown_so program e d'.world _ ran
    ∙ ap (outcome_of program) (ap (λ x. commands (does (driver_of program plan) (held (driver_of program plan))) x d.world) are ∙ ap (λ (x : Driven). commands (does (driver_of program plan) (held (driver_of program plan))) script.commands x.world) first)
