-- An answer ends a run refused exactly where it isn't legal, and leaves the whole state.
use Rattle.std.proofs.Common.{◌≡◌, ℕ, Bool, true, false, List, [], ◌∷◌, ◌++◌, map, Option, Some, None, Ok, Err, refl, sym, ◌∙◌, ap, subst}
use Rattle.std.proofs.lemmas.List.{append-nil}
use Rattle.mdr_core.specs.declared.refusal.RefuseKind.{RefuseKind}
use Rattle.mdr_core.specs.declared.refusal.RefuseKind.TheVariants as refusal
use Rattle.mdr_core.specs.declared.stop.StopKind.TheVariants as stop
use Rattle.mdr_core.specs.Layout.{chosen}
use Rattle.mdr_meaning.specs.declared.wire.Wire.{Wire}
use Rattle.mdr_meaning.specs.Tree.{Asked}
use Rattle.mdr_model.specs.declared.command.Command.{Command}
use Rattle.mdr_model.specs.declared.message.Fault.{Fault}
use Rattle.mdr_model.specs.declared.message.Message.{Message}
use Rattle.mdr_model.specs.declared.outcome.End.TheVariants as ends
use Rattle.mdr_model.specs.declared.reply.Down.{Down as Downcall}
use Rattle.mdr_model.specs.declared.reply.Reply.{Reply}
use Rattle.mdr_model.specs.declared.reply.Reply.TheVariants as replies
use Rattle.mdr_model.specs.Faults.{fault}
use Rattle.mdr_model.specs.KernelState.{Reading}
use Rattle.mdr_model.specs.Law.{IsOwn}
use Rattle.mdr_model.specs.Memory.{normal}
use Rattle.mdr_model.specs.ReplyFaults.{reply_of}
use Rattle.mdr_plain.specs.Atomic.{is_atomic}
use Rattle.mdr_plain.specs.Running.{Went, Gave, Calls, interrupts}
use Rattle.mdr_plain.specs.Scripts.{Beginning, Did, Enters, Opens, begin, returned}
use Rattle.mdr_plain.specs.World.{World, Ran, Ended, Stopped, Work, after}
use Rattle.mdr_bound.specs.declared.bound.Bound.{Bound}
use Rattle.mdr_split.specs.AnyAnswers.{EndsUnchanged, answer_fault, message_fault}
use Rattle.mdr_split.specs.Kernel.{SplitRun, answered, answers, applied, begins, called, calls, comes_back, continued, downcalled, ended, first_kernel, gave, goes_down, judged, kernel_tree, next, over, refused, run_from_pending, runs_kernel, serviced, split_by, split_commands, split_run, taken, then_split, went}
use Rattle.mdr_split.specs.Services.{asked_of}
use Rattle.mdr_split.specs.State.{Kernel, Open, Base, Commanded, Down, Rest, Noted, Resumes, Pending, Over, Waits}
use Rattle.mdr_watched.specs.Driver.{Driver, is_user}
use Rattle.mdr_watched.specs.Views.{closed}
use Rattle.mdr_watched.specs.Watched.{held, kernel_of, returns_to, serves}

-- ---- one answer more

abbrev alone : Driver → Pending → SplitRun
alone d p = run_from_pending d [] p

pending_alone : (d : Driver) (p : Pending) → (alone d p).pending ≡ p
unfolding run_from_pending
pending_alone d (Over end k) = refl
pending_alone d (Waits m k upcall rest script) = refl

-- a run that waits goes on from there, and what it sent stays
one_more : (d : Driver) (xs : List Reading) (a : Reading) (p : Pending) (m : Message) (k : Kernel) (upcall : Open) (rest : Rest) (script : List Command) → (run_from_pending d xs p).pending ≡ Waits m k upcall rest script
    → run_from_pending d (xs ++ a ∷ []) p ≡ record { sent = (run_from_pending d xs p).sent ++ (alone d (next d a k upcall rest script)).sent; pending = next d a k upcall rest script }
unfolding run_from_pending
one_more d [] a (Over end k') m k upcall rest script e = absurd (Prim.cc)
one_more d (x ∷ xs) a (Over end k') m k upcall rest script e = absurd (Prim.cc)
one_more d [] a (Waits m' k' upcall' rest' script') m k upcall rest script e =
    let same_kernel : k' ≡ k = Prim.cc in
    let same_upcall : upcall' ≡ upcall = Prim.cc in
    let same_rest : rest' ≡ rest = Prim.cc in
    let same_script : script' ≡ script = Prim.cc in
    let leads : next d a k' upcall' rest' script' ≡ next d a k upcall rest script = λ i. next d a (same_kernel i) (same_upcall i) (same_rest i) (same_script i) in
    λ i. record { sent = m' ∷ (alone d (leads i)).sent; pending = (pending_alone d (next d a k' upcall' rest' script') ∙ leads) i }
one_more d (x ∷ xs) a (Waits m' k' upcall' rest' script') m k upcall rest script e =
    ap (λ (r : SplitRun). record { sent = m' ∷ r.sent; pending = r.pending }) (one_more d xs a (next d x k' upcall' rest' script') m k upcall rest script e)

-- ---- which ends are refusals

-- the run goes on, or it ends by itself
abbrev pub EndsItself : Pending → Type 0
EndsItself (Over end k) = IsOwn end
EndsItself (Waits m k upcall rest script) = Unit {0}

module _ (d : Driver) where
  then_ends : (work : Work) (k : Kernel) (go : Kernel → Pending) → ((k : Kernel) → EndsItself (go k)) → EndsItself (then_split work k go)
  then_ends (Ended x w) k go later = later _
  then_ends (Stopped kind at w) k go later = tt

  called_ends : (f : ℕ) (args : List Wire) (depth : ℕ) (work : Work) (k : Kernel) (rest : Rest) (script : List Command) → EndsItself (called d f depth args work k rest script)
  called_ends f args depth (Ended x w) k rest script = tt
  called_ends f args depth (Stopped kind at w) k rest script = tt

  calls_end : (f : ℕ) (args : List Wire) (depth : ℕ) (w : World) (k : Kernel) (rest : Rest) (script : List Command) → EndsItself (calls d f depth args w k rest script)
  unfolding calls
  calls_end f args depth w k rest script = called_ends f args depth (begins d f args w) k rest script

  back_ends : (v : Wire) (w : World) (k : Kernel) (upcall : Open) (rest : Rest) (script : List Command) → EndsItself (comes_back d v w k upcall rest script)
  unfolding comes_back
  back_ends v w k upcall rest script = tt

  down_ends : (ran : Ran Wire) (k : Kernel) (upcall : Open) (rest : Rest) (script : List Command) → EndsItself (downcalled d ran k upcall rest script)
  down_ends (Ended v w) k upcall rest script = back_ends v w k upcall rest script
  down_ends (Stopped kind at w) k upcall rest script = tt

  -- ---- code of the kernel half

  gave_ends : (base : Base) (ran : Ran Wire) (k : Kernel) (go : Kernel → Pending) (script : List Command) → ((k : Kernel) → EndsItself (go k)) → EndsItself (gave d base ran k go script)
  gave_ends Commanded ran k go script later = then_ends (returned (interrupts (kernel_of d)) ran) k go later
  gave_ends (Down at f args upcall rest) ran k go script later = down_ends (after ran (λ v w. returns_to d (held d) upcall.func at f args v w)) k upcall rest script

  went_ends : (base : Base) (g : Went) (k : Kernel) (go : Kernel → Pending) (script : List Command) → ((k : Kernel) → EndsItself (go k)) → EndsItself (went d base g k go script)
  went_ends base (Gave ran) k go script later = gave_ends base ran k go script later
  went_ends base (Calls at f args depth next' w) k go script later = of (is_atomic w)
    where
      of : (b : Bool) → EndsItself (chosen b (over (ends.Stop stop.Atomic (Some at)) w k) (calls d f depth (map (normal w.memory) args) w k (Resumes next' base) script))
      of true = tt
      of false = calls_end f (map (normal w.memory) args) depth w k (Resumes next' base) script

  -- ---- commands

  begun_ends : (b : Beginning) (script : List Command) (k : Kernel) (go : Kernel → Pending) → ((k : Kernel) → EndsItself (go k)) → EndsItself (split_by b d script k go)
  begun_ends (Did work) script k go later = then_ends work k go later
  begun_ends (Enters f args w) script k go later = went_ends Commanded (runs_kernel d (kernel_tree d f args 0 w) w) k go script later
  begun_ends (Opens f args w) script k go later = calls_end f args 0 w k Noted script

  pub commands_end : (script : List Command) (k : Kernel) → EndsItself (split_commands d script k)
  unfolding split_commands
  commands_end [] k = tt
  commands_end (c ∷ cs) k = begun_ends (begin (kernel_of d) (is_user d.plan) c k.world) cs k (λ k'. split_commands d cs k') (λ k'. commands_end cs k')

  -- ---- answers

  answer_ends : (results : List Wire) (w : World) (k : Kernel) (upcall : Open) (rest : Rest) (script : List Command) → EndsItself (answers d results w k upcall rest script)
  unfolding answers
  answer_ends results w k upcall rest script = tt

  service_ends : (asked : Asked) (ran : Ran (List Wire)) (k : Kernel) (upcall : Open) (rest : Rest) (script : List Command) → EndsItself (serviced d asked ran k upcall rest script)
  service_ends asked (Ended results w) k upcall rest script = answer_ends results w k _ rest script
  service_ends asked (Stopped kind at w) k upcall rest script = tt

  continued_ends : (v : Wire) (k : Kernel) (rest : Rest) (script : List Command) → EndsItself (continued d v k rest script)
  continued_ends v k Noted script = then_ends (ended d v k.world) k (λ k'. split_commands d script k') (λ k'. commands_end script k')
  continued_ends v k (Resumes next' base) script = went_ends base (runs_kernel d (next' v) (closed k.world)) k (λ k'. split_commands d script k') script (λ k'. commands_end script k')

  goes_ends : (down : Downcall) (k : Kernel) (upcall : Open) (rest : Rest) (script : List Command) → EndsItself (goes_down d down k upcall rest script)
  goes_ends down k upcall rest script =
      let passed : List Wire = map (normal k.world.memory) down.args in
      went_ends (Down down.at down.func passed upcall rest) (runs_kernel d (kernel_tree d down.func passed down.depth k.world) k.world) k (λ k'. split_commands d script k') script (λ k'. commands_end script k')

  taken_ends : (reply : Reply) (k : Kernel) (upcall : Open) (rest : Rest) (script : List Command) → EndsItself (taken d reply k upcall rest script)
  unfolding taken
  taken_ends (replies.Return return) k upcall rest script = continued_ends return.result (applied return.ticks return.runs k) rest script
  taken_ends (replies.Down down) k upcall rest script = goes_ends down (applied down.ticks down.runs k) upcall rest script
  taken_ends (replies.Ask ask) k upcall rest script =
      let k' : Kernel = applied ask.ticks ask.runs k in
      service_ends (asked_of ask) (serves d (held d) upcall.func (asked_of ask) k'.world) k' upcall rest script
  taken_ends (replies.Stop said) k upcall rest script = tt

  answered_refuses : (o : Option Reply) (k : Kernel) (upcall : Open) (rest : Rest) (script : List Command) (f : Fault) → message_fault d k upcall rest o ≡ Some f → answered d o k upcall rest script ≡ refused f k
  answered_refuses None k upcall rest script f e = let same : fault refusal.NotAwaited 0 ≡ f = Prim.cc in ap (λ (x : Fault). refused x k) same
  answered_refuses (Some reply) k upcall rest script f e = ap (λ (o : Option Fault). judged d o reply k upcall rest script) e

  answered_ends : (o : Option Reply) (k : Kernel) (upcall : Open) (rest : Rest) (script : List Command) → message_fault d k upcall rest o ≡ None → EndsItself (answered d o k upcall rest script)
  answered_ends None k upcall rest script e = absurd (Prim.cc)
  answered_ends (Some reply) k upcall rest script e = subst (λ (o : Option Fault). EndsItself (judged d o reply k upcall rest script)) (sym e) (taken_ends reply k upcall rest script)

  -- a fault ends the run where it stands
  pub next_refuses : (a : Reading) (k : Kernel) (upcall : Open) (rest : Rest) (script : List Command) (f : Fault) → answer_fault d k upcall rest a ≡ Some f → next d a k upcall rest script ≡ refused f k
  unfolding next
  next_refuses (Err g) k upcall rest script f e = let same : g ≡ f = Prim.cc in ap (λ (x : Fault). refused x k) same
  next_refuses (Ok m) k upcall rest script f e = answered_refuses (reply_of m) k upcall rest script f e

  -- without one it doesn't end refused
  pub next_ends : (a : Reading) (k : Kernel) (upcall : Open) (rest : Rest) (script : List Command) → answer_fault d k upcall rest a ≡ None → EndsItself (next d a k upcall rest script)
  unfolding next
  next_ends (Err g) k upcall rest script e = absurd (Prim.cc)
  next_ends (Ok m) k upcall rest script e = answered_ends (reply_of m) k upcall rest script e

  -- so a refusal tells the fault
  pub next_only : (a : Reading) (k k' : Kernel) (upcall : Open) (rest : Rest) (script : List Command) (exchange : ℕ) (cause : RefuseKind) (number : ℕ) → next d a k upcall rest script ≡ Over (ends.Refused exchange cause number) k'
      → (answer_fault d k upcall rest a ≡ Some (fault cause number)) × (exchange ≡ k.exchanges) × (k' ≡ k)
  next_only a k k' upcall rest script exchange cause number e = of (answer_fault d k upcall rest a) refl
    where
      tells : (f : Fault) → answer_fault d k upcall rest a ≡ Some f → refused f k ≡ Over (ends.Refused exchange cause number) k' → (answer_fault d k upcall rest a ≡ Some (fault cause number)) × (exchange ≡ k.exchanges) × (k' ≡ k)
      tells f is same =
          let kind : f.kind ≡ cause = Prim.cc in
          let place : f.number ≡ number = Prim.cc in
          let counted : exchange ≡ k.exchanges = Prim.cc in
          let left : k' ≡ k = Prim.cc in
          let told : f ≡ fault cause number = λ i. record { kind = kind i; number = place i } in
          (is ∙ ap (λ (x : Fault). Some x) told, counted, left)

      of : (o : Option Fault) → answer_fault d k upcall rest a ≡ o → (answer_fault d k upcall rest a ≡ Some (fault cause number)) × (exchange ≡ k.exchanges) × (k' ≡ k)
      of (Some f) is = tells f is (sym (next_refuses a k upcall rest script f is) ∙ e)
      of None is = absurd (subst EndsItself e (next_ends a k upcall rest script is))

-- ---- the law

nothing_sent : (d : Driver) (f : Fault) (k : Kernel) → (alone d (refused f k)).sent ≡ []
unfolding run_from_pending
nothing_sent d f k = refl

pub refused_changes_nothing : (d : Driver) (script : Bound) (budget : ℕ) (xs : List Reading) (a : Reading) (m : Message) (k : Kernel) (upcall : Open) (rest : Rest) (left : List Command)
    → (split_run d script budget xs).pending ≡ Waits m k upcall rest left → EndsUnchanged d script budget xs a k upcall rest
unfolding split_run
refused_changes_nothing d script budget xs a m k upcall rest left e =
    let first : Pending = split_commands d script.commands (first_kernel d script budget) in
    let more : run_from_pending d (xs ++ a ∷ []) first ≡ record { sent = (run_from_pending d xs first).sent ++ (alone d (next d a k upcall rest left)).sent; pending = next d a k upcall rest left } =
    one_more d xs a first m k upcall rest left e in
    record {
      refuses = λ f is.
          let stopped : next d a k upcall rest left ≡ refused f k = next_refuses d a k upcall rest left f is in
          more
          ∙ ap (λ (p : Pending). record { sent = (run_from_pending d xs first).sent ++ (alone d p).sent; pending = p }) stopped
          ∙ ap (λ (ms : List Message). record { sent = (run_from_pending d xs first).sent ++ ms; pending = refused f k }) (nothing_sent d f k)
          ∙ ap (λ (ms : List Message). record { sent = ms; pending = refused f k }) (append-nil (run_from_pending d xs first).sent);
      only = λ exchange cause number k' over. next_only d a k k' upcall rest left exchange cause number (sym (ap (λ (r : SplitRun). r.pending) more) ∙ over);
    }
