-- A run counts the messages that it sends.
use Rattle.std.proofs.Common.{◌≡◌, ℕ, suc, ◌+◌, Bool, true, false, List, [], ◌∷◌, length, map, Option, Some, None, Ok, Err, refl, ap, arith}
use Rattle.mdr_core.specs.declared.stop.StopKind.TheVariants as stop
use Rattle.mdr_core.specs.Layout.{chosen}
use Rattle.mdr_meaning.specs.declared.wire.Wire.{Wire}
use Rattle.mdr_meaning.specs.Tree.{Asked}
use Rattle.mdr_model.specs.declared.command.Command.{Command}
use Rattle.mdr_model.specs.declared.message.Fault.{Fault}
use Rattle.mdr_model.specs.declared.outcome.End.TheVariants as ends
use Rattle.mdr_model.specs.declared.reply.Down.{Down as Downcall}
use Rattle.mdr_model.specs.declared.reply.Reply.{Reply}
use Rattle.mdr_model.specs.declared.reply.Reply.TheVariants as replies
use Rattle.mdr_model.specs.Bytes.{readings}
use Rattle.mdr_model.specs.KernelState.{Reading}
use Rattle.mdr_model.specs.Memory.{normal}
use Rattle.mdr_model.specs.ReplyFaults.{reply_of}
use Rattle.mdr_over_bytes.specs.OverBytes.{split_run_over_bytes}
use Rattle.mdr_plain.specs.Atomic.{is_atomic}
use Rattle.mdr_plain.specs.Running.{Went, Gave, Calls, interrupts}
use Rattle.mdr_plain.specs.Scripts.{Beginning, Did, Enters, Opens, begin, returned}
use Rattle.mdr_plain.specs.World.{World, Ran, Ended, Stopped, Work, after}
use Rattle.mdr_bound.specs.declared.bound.Bound.{Bound}
use Rattle.mdr_split.specs.AnyAnswers.{kernel_in}
use Rattle.mdr_split.specs.Kernel.{answered, answers, applied, begins, called, calls, comes_back, continued, downcalled, ended, first_kernel, gave, goes_down, judged, kernel_tree, next, over, run_from_pending, runs_kernel, serviced, split_by, split_commands, split_run, taken, then_split, went}
use Rattle.mdr_split.specs.Legal.{fault_of}
use Rattle.mdr_split.specs.Services.{asked_of}
use Rattle.mdr_split.specs.State.{Kernel, Open, Base, Commanded, Down, Rest, Noted, Resumes, Pending, Over, Waits}
use Rattle.mdr_watched.specs.Driver.{Driver, is_user}
use Rattle.mdr_watched.specs.Views.{closed}
use Rattle.mdr_watched.specs.Watched.{held, kernel_of, returns_to, serves}

-- so many messages were sent before, and one more where the run waits
abbrev Counts : ℕ → Pending → Type 0
Counts n (Over end k) = k.exchanges ≡ n
Counts n (Waits m k upcall rest cs) = k.exchanges ≡ suc n

module _ (d : Driver) where
  then_counts : (work : Work) (k : Kernel) (go : Kernel → Pending) (n : ℕ) → k.exchanges ≡ n → ((k' : Kernel) → k'.exchanges ≡ n → Counts n (go k')) → Counts n (then_split work k go)
  then_counts (Ended x w) k go n e later = later _ e
  then_counts (Stopped kind at w) k go n e later = e

  called_counts : (f : ℕ) (args : List Wire) (depth : ℕ) (work : Work) (k : Kernel) (rest : Rest) (cs : List Command) (n : ℕ) → k.exchanges ≡ n → Counts n (called d f depth args work k rest cs)
  called_counts f args depth (Ended x w) k rest cs n e = ap suc e
  called_counts f args depth (Stopped kind at w) k rest cs n e = e

  calls_count : (f : ℕ) (args : List Wire) (depth : ℕ) (w : World) (k : Kernel) (rest : Rest) (cs : List Command) (n : ℕ) → k.exchanges ≡ n → Counts n (calls d f depth args w k rest cs)
  unfolding calls
  calls_count f args depth w k rest cs n e = called_counts f args depth (begins d f args w) k rest cs n e

  back_counts : (v : Wire) (w : World) (k : Kernel) (upcall : Open) (rest : Rest) (cs : List Command) (n : ℕ) → k.exchanges ≡ n → Counts n (comes_back d v w k upcall rest cs)
  unfolding comes_back
  back_counts v w k upcall rest cs n e = ap suc e

  down_counts : (ran : Ran Wire) (k : Kernel) (upcall : Open) (rest : Rest) (cs : List Command) (n : ℕ) → k.exchanges ≡ n → Counts n (downcalled d ran k upcall rest cs)
  down_counts (Ended v w) k upcall rest cs n e = back_counts v w k upcall rest cs n e
  down_counts (Stopped kind at w) k upcall rest cs n e = e

  -- code of the kernel half ended, or it calls back
  gave_counts : (base : Base) (ran : Ran Wire) (k : Kernel) (go : Kernel → Pending) (cs : List Command) (n : ℕ) → k.exchanges ≡ n → ((k' : Kernel) → k'.exchanges ≡ n → Counts n (go k')) → Counts n (gave d base ran k go cs)
  gave_counts Commanded ran k go cs n e later = then_counts (returned (interrupts (kernel_of d)) ran) k go n e later
  gave_counts (Down at f args upcall rest) ran k go cs n e later = down_counts (after ran (λ v w. returns_to d (held d) upcall.func at f args v w)) k upcall rest cs n e

  went_counts : (base : Base) (g : Went) (k : Kernel) (go : Kernel → Pending) (cs : List Command) (n : ℕ) → k.exchanges ≡ n → ((k' : Kernel) → k'.exchanges ≡ n → Counts n (go k')) → Counts n (went d base g k go cs)
  went_counts base (Gave ran) k go cs n e later = gave_counts base ran k go cs n e later
  went_counts base (Calls at f args depth next' w) k go cs n e later = of (is_atomic w)
    where
      of : (b : Bool) → Counts n (chosen b (over (ends.Stop stop.Atomic (Some at)) w k) (calls d f depth (map (normal w.memory) args) w k (Resumes next' base) cs))
      of true = e
      of false = calls_count f (map (normal w.memory) args) depth w k (Resumes next' base) cs n e

  begun_counts : (b : Beginning) (cs : List Command) (k : Kernel) (go : Kernel → Pending) (n : ℕ) → k.exchanges ≡ n → ((k' : Kernel) → k'.exchanges ≡ n → Counts n (go k')) → Counts n (split_by b d cs k go)
  begun_counts (Did work) cs k go n e later = then_counts work k go n e later
  begun_counts (Enters f args w) cs k go n e later = went_counts Commanded (runs_kernel d (kernel_tree d f args 0 w) w) k go cs n e later
  begun_counts (Opens f args w) cs k go n e later = calls_count f args 0 w k Noted cs n e

  commands_count : (cs : List Command) (k : Kernel) (n : ℕ) → k.exchanges ≡ n → Counts n (split_commands d cs k)
  unfolding split_commands
  commands_count [] k n e = e
  commands_count (c ∷ cs) k n e = begun_counts (begin (kernel_of d) (is_user d.plan) c k.world) cs k (λ k'. split_commands d cs k') n e (λ k' e'. commands_count cs k' n e')

  answer_counts : (results : List Wire) (w : World) (k : Kernel) (upcall : Open) (rest : Rest) (cs : List Command) (n : ℕ) → k.exchanges ≡ n → Counts n (answers d results w k upcall rest cs)
  unfolding answers
  answer_counts results w k upcall rest cs n e = ap suc e

  service_counts : (asked : Asked) (ran : Ran (List Wire)) (k : Kernel) (upcall : Open) (rest : Rest) (cs : List Command) (n : ℕ) → k.exchanges ≡ n → Counts n (serviced d asked ran k upcall rest cs)
  service_counts asked (Ended results w) k upcall rest cs n e = answer_counts results w k _ rest cs n e
  service_counts asked (Stopped kind at w) k upcall rest cs n e = e

  continued_counts : (v : Wire) (k : Kernel) (rest : Rest) (cs : List Command) (n : ℕ) → k.exchanges ≡ n → Counts n (continued d v k rest cs)
  continued_counts v k Noted cs n e = then_counts (ended d v k.world) k (λ k'. split_commands d cs k') n e (λ k' e'. commands_count cs k' n e')
  continued_counts v k (Resumes next' base) cs n e = went_counts base (runs_kernel d (next' v) (closed k.world)) k (λ k'. split_commands d cs k') cs n e (λ k' e'. commands_count cs k' n e')

  goes_counts : (down : Downcall) (k : Kernel) (upcall : Open) (rest : Rest) (cs : List Command) (n : ℕ) → k.exchanges ≡ n → Counts n (goes_down d down k upcall rest cs)
  goes_counts down k upcall rest cs n e =
      let passed : List Wire = map (normal k.world.memory) down.args in
      went_counts (Down down.at down.func passed upcall rest) (runs_kernel d (kernel_tree d down.func passed down.depth k.world) k.world) k (λ k'. split_commands d cs k') cs n e (λ k' e'. commands_count cs k' n e')

  taken_counts : (reply : Reply) (k : Kernel) (upcall : Open) (rest : Rest) (cs : List Command) (n : ℕ) → k.exchanges ≡ n → Counts n (taken d reply k upcall rest cs)
  unfolding taken applied
  taken_counts (replies.Return return) k upcall rest cs n e = continued_counts return.result (applied return.ticks return.runs k) rest cs n e
  taken_counts (replies.Down down) k upcall rest cs n e = goes_counts down (applied down.ticks down.runs k) upcall rest cs n e
  taken_counts (replies.Ask ask) k upcall rest cs n e =
      let k' : Kernel = applied ask.ticks ask.runs k in
      service_counts (asked_of ask) (serves d (held d) upcall.func (asked_of ask) k'.world) k' upcall rest cs n e
  taken_counts (replies.Stop said) k upcall rest cs n e = e

  judged_counts : (o : Option Fault) (reply : Reply) (k : Kernel) (upcall : Open) (rest : Rest) (cs : List Command) (n : ℕ) → k.exchanges ≡ n → Counts n (judged d o reply k upcall rest cs)
  judged_counts (Some f) reply k upcall rest cs n e = e
  judged_counts None reply k upcall rest cs n e = taken_counts reply k upcall rest cs n e

  answered_counts : (o : Option Reply) (k : Kernel) (upcall : Open) (rest : Rest) (cs : List Command) (n : ℕ) → k.exchanges ≡ n → Counts n (answered d o k upcall rest cs)
  answered_counts None k upcall rest cs n e = e
  answered_counts (Some reply) k upcall rest cs n e = judged_counts (fault_of d k upcall rest reply) reply k upcall rest cs n e

  next_counts : (a : Reading) (k : Kernel) (upcall : Open) (rest : Rest) (cs : List Command) (n : ℕ) → k.exchanges ≡ n → Counts n (next d a k upcall rest cs)
  unfolding next
  next_counts (Err f) k upcall rest cs n e = e
  next_counts (Ok m) k upcall rest cs n e = answered_counts (reply_of m) k upcall rest cs n e

  run_counts : (heard : List Reading) (n : ℕ) (p : Pending) → Counts n p → (kernel_in (run_from_pending d heard p).pending).exchanges ≡ length (run_from_pending d heard p).sent + n
  unfolding run_from_pending
  run_counts heard n (Over end k) e = omega (arith, e)
  run_counts [] n (Waits m k upcall rest cs) e = omega (arith, e)
  run_counts (a ∷ heard) n (Waits m k upcall rest cs) e =
      let later = run_counts heard (suc n) (next d a k upcall rest cs) (next_counts a k upcall rest cs (suc n) e) in
      omega (arith, later)

  -- the kernel half's count is that of the messages
  pub total_of : (script : Bound) (budget : ℕ) (bytes : List (List ℕ)) → (kernel_in (split_run_over_bytes d script budget bytes).pending).exchanges ≡ length (split_run_over_bytes d script budget bytes).sent + 0
  unfolding split_run_over_bytes split_run first_kernel
  total_of script budget bytes = run_counts (readings bytes) 0 (split_commands d script.commands (first_kernel d script budget)) (commands_count script.commands (first_kernel d script budget) 0 refl)
