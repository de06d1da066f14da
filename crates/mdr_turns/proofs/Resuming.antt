-- Code of the kernel half is called, calls back, and goes on.
use Rattle.std.proofs.Common.{◌≡◌, ◌≤◌, ℕ, true, false, List, [], sym, ◌∙◌, ap, subst}
use Rattle.std.specs.Prelude.{Some, drop, map, suc}
use Rattle.mdr_core.specs.declared.program.Program.{Program}
use Rattle.mdr_core.specs.declared.stop.StopKind.TheVariants as stop
use Rattle.mdr_events.specs.declared.event.Crossing.{Crossing}
use Rattle.mdr_events.specs.Values.{wires_of}
use Rattle.mdr_meaning.specs.declared.wire.Wire.{Wire}
use Rattle.mdr_meaning.specs.Bodies.{started}
use Rattle.mdr_meaning.specs.Tree.{Tree}
use Rattle.mdr_model.specs.declared.command.Command.{Command}
use Rattle.mdr_model.specs.declared.outcome.End.{End}
use Rattle.mdr_model.specs.declared.outcome.End.TheVariants as ends
use Rattle.mdr_model.specs.Memory.{normal}
use Rattle.mdr_plain.specs.Atomic.{is_atomic}
use Rattle.mdr_plain.specs.Running.{all_cells, goes, interrupts}
use Rattle.mdr_plain.specs.Services.{served}
use Rattle.mdr_plain.specs.Storage.{accesses}
use Rattle.mdr_plain.specs.World.{World, Ran, Ended}
use Rattle.mdr_split.specs.Kernel.{calls, downcalled, went}
use Rattle.mdr_split.specs.State.{Kernel, Base, Over, Pending, Resumes}
use Rattle.mdr_turns.specs.declared.state.Active.{Active}
use Rattle.mdr_turns.specs.declared.state.Base.{Base as CodeBase}
use Rattle.mdr_turns.specs.declared.state.Base.TheVariants as began
use Rattle.mdr_turns.specs.declared.state.Behind.{Behind}
use Rattle.mdr_turns.specs.declared.state.Frame.{Frame}
use Rattle.mdr_turns.specs.declared.state.Ledger.{Ledger}
use Rattle.mdr_turns.specs.declared.state.Open.{Open}
use Rattle.mdr_turns.specs.declared.state.Pending.{Pending as CodePending}
use Rattle.mdr_turns.specs.declared.state.Wait.{Wait}
use Rattle.mdr_turns.specs.Coming.{ComesTo, DownGave, IsOver, PassesOn, came, enters, resumes}
use Rattle.mdr_turns.specs.States.{IsBehind, base_of, kernel_with, rest_of, upcall_of, waits_over}
use Rattle.mdr_turns.proofs.Behind.{command_behind, down_behind}
use Rattle.mdr_turns.proofs.Calling.{calls_so, stops_atomic}
use Rattle.mdr_turns.proofs.Ends.{left_same}
use Rattle.mdr_watched.specs.Driver.{Driver}
use Rattle.mdr_watched.specs.Views.{opened}
use Rattle.mdr_watched.specs.Watched.{held, kernel_of, returns_to}
use Rattle.mdr_whole.specs.declared.code.Code.{Code}
use Rattle.mdr_whole.specs.declared.paused.Paused.{Paused}
use Rattle.mdr_whole.specs.declared.paused.Went.{Went}
use Rattle.mdr_whole.specs.declared.paused.Went.TheVariants as code
use Rattle.mdr_whole.specs.Going.{driver_code}
use Rattle.mdr_whole.specs.Pausing.{IsPaused, WentOn, awaited, enters_in, went_as, went_in}

-- ---- code that a command called

module _ (d : Driver) (c : Code) (is : driver_code c ≡ kernel_of d) (g : Went) (w w1 : World) where
  came_so : went_in c g w1 ≡ came d g w1
  came_so = λ i. went_as (is i).program (is i).side g w1

  -- it was called
  pub entered_is : (f : ℕ) (args : List Wire) → went_in c g w1 ≡ enters_in true c f args 0 w → came d g w1 ≡ enters d f args w
  entered_is f args so =
      sym came_so ∙ so
      ∙ (λ i. goes (accesses (is i).program all_cells) (served (is i).program) (interrupts (is i)) (started (is i).side (suc w.clock.rest) f args 0 Tree.Idle) w)

  -- it went on
  pub resumed_is : (x : Wait) (v v' : Wire) → v ≡ v' → w.clock.rest ≤ x.rest → WentOn true c x.paused v w g w1 → came d g w1 ≡ resumes d x v' w
  resumed_is x v v' same enough so =
      sym came_so ∙ so x.rest enough
      ∙ (λ i. goes (accesses (is i).program all_cells) (served (is i).program) (interrupts (is i)) (awaited (is i).program (is i).side x.paused x.rest (same i)) w)

-- ---- it calls back

-- with arguments as they are now
pub passes_so : (d : Driver) (p : CodePending) (c : Crossing) (w : World) (l : Ledger) (b : Behind) (vs : List Wire) → vs ≡ map (normal w.memory) (wires_of c.args)
    → ((script : List Command) (before : World) → ComesTo d p script (calls d c.func c.depth vs w (kernel_with l before) (rest_of d b.frames) (drop b.done script))) → PassesOn d p c w l b
passes_so d p c w l b vs are h = λ script before. subst (λ x. ComesTo d p script (calls d c.func c.depth x w (kernel_with l before) (rest_of d b.frames) (drop b.done script))) are (h script before)

module _ (d : Driver) (c : Crossing) (q : Paused) (w : World) where
  -- it may not wait
  pub atomic_over : (base : Base) (k : Kernel) (go : Kernel → Pending) (left : List Command) (end : End) → end ≡ ends.Stop stop.Atomic (Some c.at) → is_atomic w ≡ true
      → IsOver end w (went d base (came d (code.Calls c q) w) k go left)
  atomic_over base k go left end is e =
      subst (λ (x : Pending). IsOver end w x) (sym (stops_atomic d base c q w k go left e))
      (record { kernel = record k { world = w }; is = ap (λ (x : End). Over x (record k { world = w })) (sym is); world = left_same w })

  pub atomic_comes : (p : CodePending) (base : Base) (go : Kernel → Pending) (script left : List Command) (l : Ledger) (before : World) (end : End) → end ≡ ends.Stop stop.Atomic (Some c.at) → is_atomic w ≡ true
      → ComesTo d p script (Over end (kernel_with l w)) → ComesTo d p script (went d base (came d (code.Calls c q) w) (kernel_with l before) go left)
  atomic_comes p base go script left l before end is e h =
      subst (λ (x : Pending). ComesTo d p script x) (sym (stops_atomic d base c q w (kernel_with l before) go left e))
      (subst (λ (x : End). ComesTo d p script (Over x (kernel_with l w))) is h)

  -- it waits over the code that waited so far
  pub backs_so : (p : CodePending) (s : CodeBase) (fs : List Frame) (n r : ℕ) (l : Ledger) (b : Behind) → is_atomic w ≡ false → r ≡ w.clock.rest
      → b ≡ waits_over (record { wait = record { paused = q; rest = r }; base = s }) (record { frames = fs; done = n }) → PassesOn d p c w l b
      → (script : List Command) (before : World) (go : Kernel → Pending) → ComesTo d p script (went d (base_of s (rest_of d fs)) (came d (code.Calls c q) w) (kernel_with l before) go (drop n script))
  backs_so p s fs n r l b e left is h = λ script before go.
      subst (λ (x : Pending). ComesTo d p script x)
      ((λ i. calls d c.func c.depth (map (normal w.memory) (wires_of c.args)) w (kernel_with l before) (rest_of d (is i).frames) (drop (is i).done script))
      ∙ (λ i. calls d c.func c.depth (map (normal w.memory) (wires_of c.args)) w (kernel_with l before) (Resumes (awaited d.program d.kernel q (left i)) (base_of s (rest_of d fs))) (drop n script))
      ∙ sym (calls_so d (base_of s (rest_of d fs)) c q w (kernel_with l before) go (drop n script) e))
      (h script before)

module _ (p : Program) where
  -- as a command's
  pub command_waits : (w : World) (n : ℕ) (q : Paused) (r : ℕ) (fs : List Frame) (b : Behind) → w.views ≡ [] → IsPaused p q → r ≡ w.clock.rest → fs ≡ []
      → b ≡ waits_over (record { wait = record { paused = q; rest = r }; base = began.Commanded }) (record { frames = fs; done = n }) → IsBehind p (opened [] w) b
  command_waits w n q r fs b none waits left first is =
      subst (λ (x : Behind). IsBehind p (opened [] w) x)
      (sym (is ∙ (λ i. waits_over (record { wait = record { paused = q; rest = left i }; base = began.Commanded }) (record { frames = first i; done = n }))))
      (command_behind p w n q none waits)

  -- as user code's
  pub down_waits : (w : World) (b b' : Behind) (q : Paused) (r : ℕ) (c : Crossing) (o : Open) → IsPaused p q → r ≡ w.clock.rest → IsBehind p w b
      → b' ≡ waits_over (record { wait = record { paused = q; rest = r }; base = began.Down c o }) b → IsBehind p (opened [] w) b'
  down_waits w b b' q r c o waits left h is =
      subst (λ (x : Behind). IsBehind p (opened [] w) x)
      (sym (is ∙ (λ i. waits_over (record { wait = record { paused = q; rest = left i }; base = began.Down c o }) b)))
      (down_behind p w b q c o waits h)

  -- where it began
  pub base_is : (w : World) (b : Behind) (x : Wait) (s s' : CodeBase) → s ≡ s' → IsBehind p w (waits_over (record { wait = x; base = s }) b) → IsBehind p w (waits_over (record { wait = x; base = s' }) b)
  base_is w b x s s' e h = subst (λ (y : CodeBase). IsBehind p w (waits_over (record { wait = x; base = y }) b)) e h

-- ---- code that user code called

-- its result is told, or a failing pointer in it
pub down_told : (d : Driver) (p : CodePending) (a : Active) (c : Crossing) (v : Wire) (r : Ran Wire) → r ≡ returns_to d (held d) a.open.func c.at c.func (wires_of c.args) v a.guarded.world
    → ((script : List Command) (before : World) → ComesTo d p script (downcalled d r (kernel_with a.ledger before) (upcall_of a.open) (rest_of d a.behind.frames) (drop a.behind.done script)))
    → DownGave d p a c (Ended v a.guarded.world)
down_told d p a c v r is h = λ script before.
    subst (λ (x : Ran Wire). ComesTo d p script (downcalled d x (kernel_with a.ledger before) (upcall_of a.open) (rest_of d a.behind.frames) (drop a.behind.done script))) is (h script before)
