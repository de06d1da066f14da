-- Code of the kernel half that user code calls, up to where it calls back and on.
use Rattle.std.proofs.Common.{◌≡◌, ◌≤◌, true, Option, sym, ◌∙◌, ap, subst, suc}
use Rattle.mdr_core.specs.declared.place.At.{At}
use Rattle.mdr_core.specs.declared.stop.StopKind.{StopKind}
use Rattle.mdr_core.specs.declared.value.Value.{Value}
use Rattle.mdr_events.specs.declared.event.Crossing.{Crossing as Call}
use Rattle.mdr_events.specs.Values.{wires_of}
use Rattle.mdr_meaning.specs.declared.wire.Wire.{Wire}
use Rattle.mdr_meaning.specs.Bodies.{started}
use Rattle.mdr_meaning.specs.Tree.{Tree}
use Rattle.mdr_meaning.specs.Values.{wire_of}
use Rattle.mdr_plain.specs.Laws.{GivesNoTicks}
use Rattle.mdr_plain.specs.Running.{all_cells, call, run}
use Rattle.mdr_plain.specs.Services.{served}
use Rattle.mdr_plain.specs.World.{World, Ran, Ended, Stopped, after, left}
use Rattle.mdr_runs.specs.Around.{KeepsTicks}
use Rattle.mdr_runs.specs.Pausing.{finishes}
use Rattle.mdr_runs.proofs.Around.{accesses_keep_ticks, kernel_keeps_ticks}
use Rattle.mdr_runs.proofs.Pausing.{goes_finishes}
use Rattle.mdr_runs.proofs.Tries.{tries_give_none}
use Rattle.mdr_viewed.proofs.Ticks.{user_code_keeps_ticks}
use Rattle.mdr_watched.specs.Driver.{Driver}
use Rattle.mdr_watched.specs.Watched.{held, kernel_with, returns_to}
use Rattle.mdr_whole.specs.declared.ending.Gave.{Gave}
use Rattle.mdr_whole.specs.declared.ending.Gave.TheVariants as gave
use Rattle.mdr_whole.specs.declared.paused.Paused.{Paused}
use Rattle.mdr_whole.specs.declared.paused.Went.{Went as Far}
use Rattle.mdr_whole.specs.declared.paused.Went.TheVariants as far
use Rattle.mdr_whole.specs.Ending.{gave_as}
use Rattle.mdr_whole.specs.Pausing.{IsWaiting, awaited}
use Rattle.mdr_world.specs.Driven.{Driven}
use Rattle.mdr_watch.specs.declared.watch.Activation.{Activation}
use Rattle.mdr_watch.specs.Nesting.{IsSent, around_kernel, called_in, calls_back_in, ends_below, tried_below}
use Rattle.mdr_watch.specs.Watching.{WentBelow, backs_in, came_below, comes_back, downcalls_in, driver_in, enters_below, kernel_went}

-- on its way to its end: what follows how far it went is what all of it does
pub record OnItsWay (a : Activation) (all : Ran Wire) (g : Far) (d : Driven) : Type 0 where
  pub rest : ends_below a g d.world ≡ all
  pub same : d.program ≡ a.upcall.watch.program.now
  pub waits : IsWaiting a.upcall.watch.program.now g

module _ (a : Activation) where
  abbrev d : Driver
  d = driver_in a.upcall.watch

  keeps : KeepsTicks (around_kernel a)
  keeps = accesses_keep_ticks d.program all_cells (served d.program) (backs_in a) (λ q w. (kernel_keeps_ticks d.program true).serves q w) (user_code_keeps_ticks.back d a.room)

  gives : GivesNoTicks (tried_below a)
  gives = tries_give_none true d.program true d.kernel

  goes_on : (t : Tree) (w : World) → run (around_kernel a) (tried_below a) t w ≡ finishes (around_kernel a) (tried_below a) (kernel_went a.upcall.watch t w)
  goes_on t w = goes_finishes (around_kernel a) (tried_below a) keeps gives t w

  -- ---- it is called

  pub call_begins : (c : Call) (g : Far) (w w1 : World) → came_below a.upcall.watch g w1 ≡ enters_below a.upcall.watch c w → ends_below a g w1 ≡ called_in a c w
  unfolding call
  call_begins c g w w1 e = ap (finishes (around_kernel a) (tried_below a)) e ∙ sym (goes_on (started d.kernel (suc w.clock.rest) c.func (wires_of c.args) c.depth Tree.Idle) w)

  pub way_begins : (c : Call) (g : Far) (gd gd1 : Driven) → came_below a.upcall.watch g gd1.world ≡ enters_below a.upcall.watch c gd.world → gd1.program ≡ a.upcall.watch.program.now → IsWaiting a.upcall.watch.program.now g
      → OnItsWay a (called_in a c gd.world) g gd1
  way_begins c g gd gd1 e same waits = record { rest = call_begins c g gd.world gd1.world e; same = same; waits = waits }

  pub way_gives : (all : Ran Wire) (g : Far) (x : Gave) (gd : Driven) → g ≡ far.Gave x → OnItsWay a all g gd → gave_as x gd.world ≡ all
  way_gives all g x gd is o = sym (ap (λ y. ends_below a y gd.world) is) ∙ o.rest

  pub way_waits : (all : Ran Wire) (g : Far) (c : Call) (p : Paused) (gd : Driven) → g ≡ far.Calls c p → OnItsWay a all g gd → IsWaiting a.upcall.watch.program.now (far.Calls c p)
  way_waits all g c p gd is o = subst (λ y. IsWaiting a.upcall.watch.program.now y) is o.waits

  pub way_goes : (all : Ran Wire) (g g1 : Far) (c : Call) (p : Paused) (gd gd1 : Driven) → g ≡ far.Calls c p → OnItsWay a all g gd → ends_below a g1 gd1.world ≡ ends_below a (far.Calls c p) gd.world
      → gd1.program ≡ a.upcall.watch.program.now → IsWaiting a.upcall.watch.program.now g1 → OnItsWay a all g1 gd1
  way_goes all g g1 c p gd gd1 is o went same waits = record { rest = went ∙ sym (ap (λ y. ends_below a y gd.world) is) ∙ o.rest; same = same; waits = waits }

  -- ---- it calls back

  module _ (c : Call) (p : Paused) (w w1 : World) (g : Gave) (so : gave_as g w1 ≡ calls_back_in a c w) where
    -- it goes on with the value, and no more ticks are left
    pub back_on : (v : Value) (g1 : Far) (w2 : World) → g ≡ gave.Value v → WentBelow a.upcall.watch p (wire_of v) w1 g1 w2 → ends_below a g1 w2 ≡ ends_below a (far.Calls c p) w
    back_on v g1 w2 is went =
        let ended : Ended (wire_of v) w1 ≡ calls_back_in a c w = sym (ap (λ x. gave_as x w1) is) ∙ so in
        let few : w1.clock.rest ≤ w.clock.rest = subst (λ (r : Ran Wire). (left r).clock.rest ≤ w.clock.rest) (sym ended) (user_code_keeps_ticks.back d a.room c.at c.func (wires_of c.args) c.depth w) in
        ap (finishes (around_kernel a) (tried_below a)) (went w.clock.rest few)
        ∙ sym (goes_on (awaited a.upcall.watch.program.now d.kernel p w.clock.rest (wire_of v)) w1)
        ∙ ap (λ r. after r (λ x w'. run (around_kernel a) (tried_below a) (awaited a.upcall.watch.program.now d.kernel p w.clock.rest x) w')) ended

    pub back_out : (kind : StopKind) (at : Option At) → g ≡ gave.Stopped kind at → ends_below a (far.Gave (gave.Stopped kind at)) w1 ≡ ends_below a (far.Calls c p) w
    back_out kind at is =
        let stopped : ◌≡◌ {A = Ran Wire} (Stopped kind at w1) (calls_back_in a c w) = sym (ap (λ x. gave_as x w1) is) ∙ so in
        ap (λ r. after r (λ x w'. run (around_kernel a) (tried_below a) (awaited a.upcall.watch.program.now d.kernel p w.clock.rest x) w')) stopped

  -- ---- user code called it, with its arguments as they are now

  module _ (c c1 : Call) (w w1 : World) (s : IsSent c w c1) (g : Gave) (so : gave_as g w1 ≡ called_in a c1 w) where
    sent_is : after (called_in a c1 w) (λ v w'. comes_back a.upcall c1 v w') ≡ downcalls_in a c w
    sent_is = λ i. after (call (kernel_with d (backs_in a)) (tried_below a) (s.func i) (s.args i) (s.depth i) w) (λ v w'. returns_to d (held d) a.upcall.func (s.at i) (s.func i) (s.args i) v w')

    pub down_on : (v : Value) (r : Ran Wire) → g ≡ gave.Value v → r ≡ comes_back a.upcall c1 (wire_of v) w1 → r ≡ downcalls_in a c w
    down_on v r is back =
        let ended : Ended (wire_of v) w1 ≡ called_in a c1 w = sym (ap (λ x. gave_as x w1) is) ∙ so in
        back ∙ ap (λ x. after x (λ v w'. comes_back a.upcall c1 v w')) ended ∙ sent_is

    pub down_out : (kind : StopKind) (at : Option At) → g ≡ gave.Stopped kind at → ◌≡◌ {A = Ran Wire} (Stopped kind at w1) (downcalls_in a c w)
    down_out kind at is =
        let stopped : ◌≡◌ {A = Ran Wire} (Stopped kind at w1) (called_in a c1 w) = sym (ap (λ x. gave_as x w1) is) ∙ so in
        ap (λ x. after x (λ v w'. comes_back a.upcall c1 v w')) stopped ∙ sent_is
