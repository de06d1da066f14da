-- What a legal reply does.
use Rattle.std.proofs.Common.{◌≡◌, ℕ, List, [], drop, sym, ◌∙◌, ap, subst}
use Rattle.mdr_core.specs.declared.value.Value.{Value}
use Rattle.mdr_events.specs.declared.event.Asked.{Asked as Question}
use Rattle.mdr_events.specs.declared.event.Crossing.{Crossing}
use Rattle.mdr_events.specs.Events.{asked_as}
use Rattle.mdr_events.specs.Values.{wires_of}
use Rattle.mdr_meaning.specs.declared.wire.Wire.{Wire}
use Rattle.mdr_meaning.specs.Lives.{asked_for}
use Rattle.mdr_model.specs.declared.command.Command.{Command}
use Rattle.mdr_plain.specs.Running.{KernelCode, interrupts}
use Rattle.mdr_plain.specs.Scripts.{returned}
use Rattle.mdr_plain.specs.World.{World, Ran}
use Rattle.mdr_services.specs.declared.answer.Served.{Served}
use Rattle.mdr_services.specs.declared.answer.Served.TheVariants as served
use Rattle.mdr_services.specs.Serving.{served_as}
use Rattle.mdr_split.specs.Kernel.{answers, continued, serviced, split_commands, then_split, went}
use Rattle.mdr_split.specs.Services.{counted}
use Rattle.mdr_split.specs.State.{Open as AnyOpen, Commanded as ByCommand, Rest}
use Rattle.mdr_turns.specs.declared.state.Active.{Active}
use Rattle.mdr_turns.specs.declared.state.Base.TheVariants as began
use Rattle.mdr_turns.specs.declared.state.Behind.{Behind}
use Rattle.mdr_turns.specs.declared.state.Between.{Between}
use Rattle.mdr_turns.specs.declared.state.Commanded.{Commanded}
use Rattle.mdr_turns.specs.declared.state.Commanded.TheVariants as commanded
use Rattle.mdr_turns.specs.declared.state.Frame.{Frame}
use Rattle.mdr_turns.specs.declared.state.Ledger.{Ledger}
use Rattle.mdr_turns.specs.declared.state.Open.{Open}
use Rattle.mdr_turns.specs.declared.state.Pending.{Pending as CodePending}
use Rattle.mdr_turns.specs.declared.state.Wait.{Wait}
use Rattle.mdr_turns.specs.Coming.{CommandedTo, ComesTo, DownGoes, LeadsBack, LeadsOn, NotesIn, ResumesIn, ReturnsTo, ScriptGoesOn, down_goes, gives, resumes}
use Rattle.mdr_turns.specs.States.{kernel_at, kernel_with, rest_of, upcall_of, waits_over}
use Rattle.mdr_watched.specs.Driver.{Driver}
use Rattle.mdr_watched.specs.Views.{closed}
use Rattle.mdr_watched.specs.Watched.{kernel_of}
use Rattle.mdr_whole.specs.declared.ending.Gave.{Gave}
use Rattle.mdr_whole.specs.declared.ending.Worked.{Worked}
use Rattle.mdr_whole.specs.Ending.{gave_as, worked_as}
use Rattle.mdr_world.specs.Driven.{Driven, driver}

-- work of the kernel half's own code
module _ (d : Driver) (code : KernelCode) (is : code ≡ kernel_of d) where
  -- what it gave is noted, and then the interrupt rule is tried
  pub gave_is : (g : Gave) (e : Worked) (w w1 : World) → worked_as e w1 ≡ returned (interrupts code) (gave_as g w) → worked_as e w1 ≡ returned (interrupts (kernel_of d)) (gave_as g w)
  gave_is g e w w1 so = so ∙ ap (λ c. returned (interrupts c) (gave_as g w)) is

-- a command's upcall gave this
pub given_so : (d : Driver) (c : Commanded) (l : Ledger) (v v' : Wire) (w : World) → v ≡ v' → LeadsOn d c l (gives d v w) → LeadsOn d c l (gives d v' w)
given_so d c l v v' w is h = subst (λ x. LeadsOn d c l (gives d x w)) is h

-- the script goes on, or the run rests
module _ (d : Driver) (begun : ℕ) (script : List Command) (c : Commanded) (r : CodePending) where
  pub goes_so : (b : Between) → c ≡ commanded.Goes b → ComesTo d r script (split_commands d (drop begun script) (kernel_at b)) → ScriptGoesOn d r c begun script
  goes_so b is h = λ p so.
      let at : p ≡ split_commands d (drop begun script) (kernel_at b) = subst (λ x. CommandedTo d x script (λ k. split_commands d (drop begun script) k) p) is so in
      subst (λ x. ComesTo d r script x) (sym at) h

  pub rests_so : c ≡ commanded.Rests r → ScriptGoesOn d r c begun script
  rests_so is = λ p so. subst (λ x. CommandedTo d x script (λ k. split_commands d (drop begun script) k) p) is so

  -- behind a command's upcall
  pub noted_so : (l : Ledger) (v : Wire) (w : World) → LeadsOn d c l (gives d v w) → ScriptGoesOn d r c begun script → NotesIn d r v w l begun script
  noted_so l v w leads goes = λ before. goes _ (leads script before (λ k. split_commands d (drop begun script) k))

  -- and behind code that a command called
  pub command_so : (l : Ledger) (x : Wait) (v : Wire) (w : World) → LeadsBack d c l begun (resumes d x v w) → ScriptGoesOn d r c begun script → ResumesIn d r x v w l begun script
  command_so l x v w leads goes = λ before. goes _ (leads script before (λ k. split_commands d (drop begun script) k))

-- ---- what called an upcall goes on

module _ (d : Driver) (p : CodePending) (v : Wire) (l : Ledger) (b : Behind) (script : List Command) where
  -- a command
  pub returns_noted : (w w1 : Driven) → b.frames ≡ [] → w1 ≡ driver w.program (closed w.world) → NotesIn d p v w1.world l b.done script → ReturnsTo d p v (kernel_with l w.world) b script
  returns_noted w w1 none is h =
      subst (λ (fs : List Frame). ComesTo d p script (continued d v (kernel_with l w.world) (rest_of d fs) (drop b.done script))) (sym none)
      (subst (λ (x : World). ComesTo d p script (then_split (gives d v x) (kernel_with l w.world) (λ k. split_commands d (drop b.done script) k))) (ap (λ (x : Driven). x.world) is) (h w.world))

  -- code that a command called
  pub returns_command : (w w1 : Driven) (x : Wait) → w1 ≡ driver w.program (closed w.world) → ResumesIn d p x v w1.world l b.done script
      → ReturnsTo d p v (kernel_with l w.world) (waits_over (record { wait = x; base = began.Commanded }) b) script
  returns_command w w1 x is h =
      subst (λ (y : World). ComesTo d p script (went d ByCommand (resumes d x v y) (kernel_with l w.world) (λ k. split_commands d (drop b.done script) k) (drop b.done script))) (ap (λ (y : Driven). y.world) is) (h w.world)

  -- code that user code called
  pub returns_down : (w w1 : Driven) (x : Wait) (c : Crossing) (o : Open) (a : Active) → w1 ≡ driver w.program (closed w.world) → a ≡ record { guarded = w1; ledger = l; «open» = o; behind = b } → DownGoes d p a c (resumes d x v a.guarded.world)
      → ReturnsTo d p v (kernel_with l w.world) (waits_over (record { wait = x; base = began.Down c o }) b) script
  returns_down w w1 x c o a is made h =
      subst (λ (y : World). ComesTo d p script (down_goes d c.at c.func (wires_of c.args) (resumes d x v y) (kernel_with l w.world) (upcall_of o) (rest_of d b.frames) (drop b.done script))) (ap (λ (y : Driven). y.world) is)
      (subst (λ (y : Active). DownGoes d p y c (resumes d x v y.guarded.world)) made h script w.world)

-- a service gave results, and they are told
pub service_told : (d : Driver) (l : Ledger) (w w1 : World) (upcall : AnyOpen) (rest : Rest) (s script : List Command) (q : Question) (args : List Wire) (rs rs' : List Value) (g : Served) (r : Ran (List Wire)) (p : CodePending) → wires_of q.args ≡ args → rs' ≡ rs → g ≡ served.Done rs
    → served_as g q.at w1 ≡ r → ComesTo d p script (answers d (wires_of rs') w1 (kernel_with l w) (counted (asked_for q.service q.at args q.shapes q.bytes) (wires_of rs') upcall) rest s) → ComesTo d p script (serviced d (asked_as q) r (kernel_with l w) upcall rest s)
service_told d l w w1 upcall rest s script q args rs rs' g r p are same done is there =
    subst (λ x. ComesTo d p script (serviced d (asked_as q) x (kernel_with l w) upcall rest s)) (sym (ap (λ x. served_as x q.at w1) done) ∙ is)
    (subst (λ x. ComesTo d p script (answers d (wires_of x) w1 (kernel_with l w) (counted (asked_as q) (wires_of x) upcall) rest s)) same
    (subst (λ x. ComesTo d p script (answers d (wires_of rs') w1 (kernel_with l w) (counted (asked_for q.service q.at x q.shapes q.bytes) (wires_of rs') upcall) rest s)) (sym are) there))
