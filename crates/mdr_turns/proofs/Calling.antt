-- An upcall begins, and a command.
use Rattle.std.proofs.Common.{◌≡◌, ℕ, true, List, [], Ok, Err, refl, sym, ◌∙◌, ap, subst}
use Rattle.std.specs.Prelude.{drop, false, map, Some}
use Rattle.mdr_core.specs.declared.value.Value.{Value}
use Rattle.mdr_core.specs.declared.stop.StopKind.TheVariants as stop
use Rattle.mdr_events.specs.declared.event.Crossing.{Crossing}
use Rattle.mdr_events.specs.Values.{wires_of}
use Rattle.mdr_model.specs.declared.outcome.End.{End}
use Rattle.mdr_model.specs.declared.outcome.End.TheVariants as ends
use Rattle.mdr_model.specs.Memory.{normal}
use Rattle.mdr_plain.specs.Atomic.{is_atomic}
use Rattle.mdr_whole.specs.declared.paused.Paused.{Paused}
use Rattle.mdr_whole.specs.declared.paused.Went.TheVariants as code
use Rattle.mdr_whole.specs.Pausing.{awaited}
use Rattle.mdr_extents.specs.Reaching.{Failing, visible}
use Rattle.mdr_meaning.specs.declared.wire.Wire.{Wire}
use Rattle.mdr_meaning.specs.Values.{wire_of}
use Rattle.mdr_model.specs.declared.command.Command.{Command}
use Rattle.mdr_model.specs.declared.command.Command.TheVariants as command
use Rattle.mdr_model.specs.declared.memory.Cell.{Cell}
use Rattle.mdr_plain.specs.Plain.{does as plainly_does}
use Rattle.mdr_plain.specs.Scripts.{begin, begun}
use Rattle.mdr_plain.specs.Running.{KernelCode}
use Rattle.mdr_plain.specs.World.{World, done}
use Rattle.mdr_split.specs.Kernel.{called, calls, over, split_by, then_split, went}
use Rattle.mdr_split.specs.State.{Kernel, Rest, Noted, Resumes, Base, Commanded, Over, Pending}
use Rattle.mdr_turns.specs.declared.state.Commanded.{Commanded as CodeCommanded}
use Rattle.mdr_turns.specs.declared.state.Frame.{Frame}
use Rattle.mdr_turns.specs.declared.state.Ledger.{Ledger}
use Rattle.mdr_turns.specs.declared.state.Pending.{Pending as CodePending}
use Rattle.mdr_turns.specs.Coming.{ComesTo, CommandedTo, IsOver, came, enters}
use Rattle.mdr_turns.specs.States.{kernel_with, rest_of}
use Rattle.mdr_turns.proofs.Ends.{left_same}
use Rattle.mdr_watch.specs.Watching.{IsNoCall}
use Rattle.mdr_watched.specs.Driver.{Driver, entry_roots, is_user, touched_by}
use Rattle.mdr_watched.specs.Views.{opened, taken}
use Rattle.mdr_watched.specs.Watched.{kernel_of}
use Rattle.mdr_whole.specs.declared.ending.Worked.{Worked}
use Rattle.mdr_whole.specs.Ending.{worked_as}
use Rattle.mdr_world.specs.Driven.{Driven, driver}

-- ---- a set that was taken

module _ (d : Driver) (f depth : ℕ) (args : List Wire) (w : World) (k : Kernel) (rest : Rest) (script : List Command) where
  -- an upcall has its set
  pub calls_on : (set : List Cell) → Ok set ≡ visible d.program (touched_by d.plan f) w.memory [] (entry_roots d.program f args) → calls d f depth args w k rest script ≡ called d f depth args (done (opened set w)) k rest script
  unfolding calls
  calls_on set e = ap (λ r. called d f depth args (taken r (record { func = f; stmt = 0 }) w (λ set. done (opened set w))) k rest script) (sym e)

  -- and one with a pointer that fails has none
  calls_out : (x : Failing) → Err x ≡ visible d.program (touched_by d.plan f) w.memory [] (entry_roots d.program f args) → calls d f depth args w k rest script ≡ over (ends.Stop stop.Annotation (Some (record { func = f; stmt = 0 }))) w k
  unfolding calls
  calls_out x e = ap (λ r. called d f depth args (taken r (record { func = f; stmt = 0 }) w (λ set. done (opened set w))) k rest script) (sym e)

-- so the run is over
module _ (d : Driver) (f depth : ℕ) (args : List Wire) (w before : World) (l : Ledger) (rest : Rest) (left : List Command) (end : End) (x : Failing) (is : end ≡ ends.Stop stop.Annotation (Some (record { func = f; stmt = 0 }))) where
  pub fails_over : Err x ≡ visible d.program (touched_by d.plan f) w.memory [] (entry_roots d.program f args) → IsOver end w (calls d f depth args w (kernel_with l before) rest left)
  fails_over e =
      subst (λ (y : Pending). IsOver end w y) (sym (calls_out d f depth args w (kernel_with l before) rest left x e))
      (record { kernel = kernel_with l w; is = ap (λ (y : End). Over y (kernel_with l w)) (sym is); world = left_same w })

  pub fails_comes : (p : CodePending) (script : List Command) → Err x ≡ visible d.program (touched_by d.plan f) w.memory [] (entry_roots d.program f args) → ComesTo d p script (Over end (kernel_with l w))
      → ComesTo d p script (calls d f depth args w (kernel_with l before) rest left)
  fails_comes p script e h =
      subst (λ (y : Pending). ComesTo d p script y) (sym (calls_out d f depth args w (kernel_with l before) rest left x e))
      (subst (λ (y : End). ComesTo d p script (Over y (kernel_with l w))) is h)

-- ---- a command

module _ (d : Driver) (w : World) (k : Kernel) (script : List Command) (go : Kernel → Pending) where
  -- of the user half
  pub user_begins : (f : ℕ) (args : List Value) → is_user d.plan f ≡ true → split_by (begin (kernel_of d) (is_user d.plan) (command.Call f args) w) d script k go ≡ calls d f 0 (map wire_of args) (begun d.program f args w) k Noted script
  unfolding begin
  user_begins f args e = rw e refl

  -- of the kernel half
  pub kernel_enters : (f : ℕ) (args : List Value) → is_user d.plan f ≡ false → split_by (begin (kernel_of d) (is_user d.plan) (command.Call f args) w) d script k go ≡ went d Commanded (enters d f (map wire_of args) (begun d.program f args w)) k go script
  unfolding begin
  kernel_enters f args e = rw e refl

  -- and one in which no function is called
  pub kernel_begins : (c : Command) → IsNoCall c → split_by (begin (kernel_of d) (is_user d.plan) c w) d script k go ≡ then_split (plainly_does (kernel_of d) c w) k go
  unfolding begin
  kernel_begins (command.Call f args) e = absurd e
  kernel_begins (command.Idle n) e = refl
  kernel_begins (command.Show g) e = refl
  kernel_begins (command.Poke serial index n) e = refl
  kernel_begins (command.Say text) e = refl

-- a call was noted
noted_at : (d : Driver) (f : ℕ) (args : List Value) (w w1 : Driven) → w.program ≡ d.program → w1 ≡ driver w.program (begun w.program f args w.world) → w1.world ≡ begun d.program f args w.world
noted_at d f args w w1 same noted = ap (λ (x : Driven). x.world) noted ∙ ap (λ x. begun x f args w.world) same

-- a command of the user half was done
pub user_commanded : (d : Driver) (f : ℕ) (args : List Value) (begun_at : ℕ) (l : Ledger) (w w1 : Driven) (fs : List Frame) (script : List Command) (go : Kernel → Pending) (p : CodePending) → is_user d.plan f ≡ true → w.program ≡ d.program → w1 ≡ driver w.program (begun w.program f args w.world)
    → fs ≡ [] → ComesTo d p script (calls d f 0 (map wire_of args) w1.world (kernel_with l w.world) (rest_of d fs) (drop begun_at script))
    → ComesTo d p script (split_by (begin (kernel_of d) (is_user d.plan) (command.Call f args) w.world) d (drop begun_at script) (kernel_with l w.world) go)
user_commanded d f args begun_at l w w1 fs script go p user same noted none there =
    subst (λ x. ComesTo d p script x)
    ((λ i. calls d f 0 (map wire_of args) (noted_at d f args w w1 same noted i) (kernel_with l w.world) (rest_of d (none i)) (drop begun_at script))
    ∙ sym (user_begins d w.world (kernel_with l w.world) (drop begun_at script) go f args user)) there

-- one of the kernel half, up to its end or to where it calls back
pub kernel_called : (d : Driver) (f : ℕ) (args : List Value) (begun_at : ℕ) (l : Ledger) (w w1 : Driven) (script : List Command) (go : Kernel → Pending) (r : CodeCommanded) → is_user d.plan f ≡ false → w.program ≡ d.program → w1 ≡ driver w.program (begun w.program f args w.world)
    → CommandedTo d r script go (went d Commanded (enters d f (map wire_of args) w1.world) (kernel_with l w.world) go (drop begun_at script))
    → CommandedTo d r script go (split_by (begin (kernel_of d) (is_user d.plan) (command.Call f args) w.world) d (drop begun_at script) (kernel_with l w.world) go)
kernel_called d f args begun_at l w w1 script go r kernel same noted there =
    subst (λ x. CommandedTo d r script go x)
    (ap (λ x. went d Commanded (enters d f (map wire_of args) x) (kernel_with l w.world) go (drop begun_at script)) (noted_at d f args w w1 same noted) ∙ sym (kernel_enters d w.world (kernel_with l w.world) (drop begun_at script) go f args kernel)) there

-- and one in which no function is called
pub kernel_commanded : (d : Driver) (kernel : KernelCode) (c : Command) (e : Worked) (l : Ledger) (w w1 : World) (script left : List Command) (go : Kernel → Pending) (r : CodeCommanded) → kernel ≡ kernel_of d → IsNoCall c → worked_as e w1 ≡ plainly_does kernel c w
    → CommandedTo d r script go (then_split (worked_as e w1) (kernel_with l w) go) → CommandedTo d r script go (split_by (begin (kernel_of d) (is_user d.plan) c w) d left (kernel_with l w) go)
kernel_commanded d kernel c e l w w1 script left go r is k so there =
    subst (λ x. CommandedTo d r script go x) (ap (λ x. then_split x (kernel_with l w) go) (so ∙ ap (λ x. plainly_does x c w) is) ∙ sym (kernel_begins d w (kernel_with l w) left go c k)) there

-- ---- code that calls back

module _ (d : Driver) (base : Base) (c : Crossing) (q : Paused) (w : World) (k : Kernel) (go : Kernel → Pending) (script : List Command) where
  abbrev calling : Pending
  calling = went d base (came d (code.Calls c q) w) k go script

  -- it may not wait
  pub stops_atomic : is_atomic w ≡ true → calling ≡ over (ends.Stop stop.Atomic (Some c.at)) w k
  stops_atomic e = rw e refl

  -- it may, and an upcall begins
  pub calls_so : is_atomic w ≡ false → calling ≡ calls d c.func c.depth (map (normal w.memory) (wires_of c.args)) w k (Resumes (awaited d.program d.kernel q w.clock.rest) base) script
  calls_so e = rw e refl
