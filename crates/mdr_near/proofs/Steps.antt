-- From where a run stands over exchanges to where it stands after one more.
use Rattle.std.proofs.Common.{◌≡◌, ℕ, ◌+◌, ◌++◌, List, [], drop, length, Option, Some, None, refl, sym, ap, ◌∙◌, subst}
use Rattle.std.proofs.lemmas.List.{append-nil}
use Rattle.mdr_core.specs.declared.plan.Plan.{Plan}
use Rattle.mdr_core.specs.declared.program.Program.{Program}
use Rattle.mdr_exchanges.proofs.Endings.{as_before}
use Rattle.mdr_exchanges.proofs.Stops.{calls_more, counts_answered, counts_unanswered, place_after, place_unanswered, stops_here, stops_in}
use Rattle.mdr_exchanges.proofs.Turns.{SoFar, begins_so, fails_so, first_of, goes_so, over_so, run_is}
use Rattle.mdr_exchanges.specs.Calls.{Broke, IsPlace, IsStopped, sends}
use Rattle.mdr_exchanges.specs.Ends.{HasFailed, HasWaited}
use Rattle.mdr_exchanges.specs.Runs.{HasEnded, IsFarFault, answers_of, run_over, sent_of}
use Rattle.mdr_meaning.specs.Bodies.{kernel_side, known_of}
use Rattle.mdr_model.specs.declared.command.Command.{Command}
use Rattle.mdr_model.specs.declared.message.Message.{Message}
use Rattle.mdr_model.specs.declared.outcome.End.{End}
use Rattle.mdr_model.specs.declared.outcome.End.TheVariants as ends
use Rattle.mdr_model.specs.Bytes.{readings}
use Rattle.mdr_model.specs.Memory.{Memory}
use Rattle.mdr_model.specs.Reading.{reading_of}
use Rattle.mdr_model.specs.KernelState.{Reading}
use Rattle.mdr_model.specs.Text.{text}
use Rattle.mdr_msg.specs.WellFormed.{IsMessage}
use Rattle.mdr_near.specs.declared.turn.Turn.{Turn}
use Rattle.mdr_near.specs.declared.turn.Turn.TheVariants as turn
use Rattle.mdr_near.specs.Endings.{EndsIn}
use Rattle.mdr_near.specs.Turns.{Answered, IsHeld, Turned, had, messages_of}
use Rattle.mdr_outside.specs.Calls.{FarCall, Sends, and_then}
use Rattle.mdr_outside.specs.declared.far.Exchange.{Exchange}
use Rattle.mdr_outside.specs.Far.{exchange}
use Rattle.mdr_plain.specs.Scripts.{first_world}
use Rattle.mdr_bound.specs.declared.bound.Bound.{Bound}
use Rattle.mdr_split.specs.Kernel.{SplitRun, beginning, first_kernel, next, run_from_pending, split_commands}
use Rattle.mdr_split.specs.State.{Kernel, Pending, Over, Waits}
use Rattle.mdr_turns.specs.declared.state.Pending.{Pending as CodePending}
use Rattle.mdr_turns.specs.declared.state.Pending.TheVariants as pending
use Rattle.mdr_turns.specs.declared.state.Waiting.{Waiting}
use Rattle.mdr_turns.specs.Coming.{ComesTo, KeptFor}
use Rattle.mdr_turns.specs.States.{StandsFor, begun_of, kernel_of, open_of, rest_of}
use Rattle.mdr_watch.specs.declared.watch.Watch.{Watch}
use Rattle.mdr_watched.specs.Driver.{Driver, driver_of}
use Rattle.mdr_world.specs.Driven.{Driven, driver}

-- ---- the code's states

-- the script begins in the first world
pub first_comes : (program : Program) (plan : Plan) (script : Bound) (ticks : ℕ) (cs : List Command) (w : Driven) (p : CodePending) → cs ≡ script.commands → w ≡ driver program (first_world (known_of program) script ticks)
    → ComesTo (driver_of program plan) p cs (split_commands (driver_of program plan) cs (beginning w.world)) → ComesTo (driver_of program plan) p script.commands (split_commands (driver_of program plan) script.commands (first_kernel (driver_of program plan) script ticks))
unfolding first_kernel kernel_side
first_comes program plan script ticks cs w p are is c =
    subst (λ (xs : List Command). ComesTo (driver_of program plan) p xs (split_commands (driver_of program plan) xs (beginning (first_world (known_of program) script ticks)))) are
    (subst (λ (x : Driven). ComesTo (driver_of program plan) p cs (split_commands (driver_of program plan) cs (beginning x.world))) is c)

module _ (d : Driver) where
  -- the next state, for the commands of the script
  pub later_comes : (script cs : List Command) (w : Waiting) (reading : Reading) (p : CodePending) → cs ≡ script → ComesTo d p cs (next d reading (kernel_of w) (open_of w) (rest_of d w.behind.frames) (drop (begun_of w) cs))
      → ComesTo d p script (next d reading (kernel_of w) (open_of w) (rest_of d w.behind.frames) (drop (begun_of w) script))
  later_comes script cs w reading p are c = subst (λ (xs : List Command). ComesTo d p xs (next d reading (kernel_of w) (open_of w) (rest_of d w.behind.frames) (drop (begun_of w) xs))) are c

-- the answer was read, and not taken
pub broke_unread : (m : Message) (calls calls' : List FarCall) (es es' : List Exchange) (n n' : ℕ) (answer : Option Reading) (reading : Reading) → answer ≡ Some reading → Answered m es es' answer → calls' ≡ and_then calls (Sends (text m))
    → n' ≡ n + had answer → Broke m calls calls' es es' n n'
broke_unread m calls calls' es es' n n' answer reading is answered called count =
    let one : Answered m es es' (Some reading) = subst (Answered m es es') is answered in
    Broke.untaken one.0 called one.1 (count ∙ ap (λ (a : Option Reading). n + had a) is)

-- ---- a run

-- the code's state stands for where the exchanges led the run
pub record Stands (d : Driver) (script : Bound) (budget : ℕ) (es : List Exchange) (p : CodePending) : Type 0 where
  pub state : Pending
  pub comes : ComesTo d p script.commands state
  pub so_far : SoFar d (first_of d script budget) state es

module _ (d : Driver) (script : Bound) (budget : ℕ) where
  abbrev waits_as : Message → Waiting → Pending
  waits_as m w = Waits m (kernel_of w) (open_of w) (rest_of d w.behind.frames) (drop (begun_of w) script.commands)

  abbrev RunsTo : List Exchange → Pending → Type 0
  RunsTo es p = SoFar d (first_of d script budget) p es

  pub first_stands : (es : List Exchange) (p : CodePending) → es ≡ [] → ComesTo d p script.commands (split_commands d script.commands (first_kernel d script budget)) → Stands d script budget es p
  first_stands es p none c = record { state = first_of d script budget; comes = c; so_far = begins_so d (first_of d script budget) es none }

  waits_so : (es : List Exchange) (m : Message) (w : Waiting) → Stands d script budget es (pending.Waits m w) → RunsTo es (waits_as m w)
  waits_so es m w s = subst (RunsTo es) s.comes s.so_far

  waits_at : (es : List Exchange) (now : CodePending) (m : Message) (w : Waiting) → now ≡ pending.Waits m w → Stands d script budget es now → RunsTo es (waits_as m w)
  waits_at es now m w is s = waits_so es m w (subst (Stands d script budget es) is s)

  module _ (es es' : List Exchange) (now : CodePending) (m : Message) (w : Waiting) (t : Turn) where
    abbrev TurnedSo : Turn → Type 0
    TurnedSo x = Turned d script.commands m w es es' x

    -- it stands where its answer led it
    pub next_stands : (p : CodePending) → now ≡ pending.Waits m w → t ≡ turn.Next p → IsMessage m → TurnedSo t → Stands d script budget es now → Stands d script budget es' p
    next_stands p is goes one turned s =
        let x : TurnedSo (turn.Next p) = subst TurnedSo goes turned in
        record {
          state = next d (reading_of x.0) (kernel_of w) (open_of w) (rest_of d w.behind.frames) (drop (begun_of w) script.commands);
          comes = x.2;
          so_far = goes_so d (first_of d script budget) m (kernel_of w) (open_of w) (rest_of d w.behind.frames) (drop (begun_of w) script.commands) es es' x.0 _ (waits_at es now m w is s) one x.1 refl;
        }

    -- there was no answer
    pub unanswered_ends : (number : ℕ) (w' : Driven) → now ≡ pending.Waits m w → t ≡ turn.Unanswered number w' → IsMessage m → TurnedSo t → Stands d script budget es now → EndsIn d script budget es' (ends.FarFault number) w'.world
    unanswered_ends number w' is goes one turned s =
        let x : TurnedSo (turn.Unanswered number w') = subst TurnedSo goes turned in
        record {
          kernel = kernel_of w;
          ended = subst (λ (n : ℕ). HasEnded d script budget es' (ends.FarFault n) (kernel_of w)) (sym x.1) (fails_so d script budget es es' m (kernel_of w) (kernel_of w) (open_of w) (rest_of d w.behind.frames) (drop (begun_of w) script.commands) (waits_at es now m w is s) one x.0 refl);
          left = x.2;
        }

  pub over_ends : (es : List Exchange) (now : CodePending) (end : End) (w : Driven) → now ≡ pending.Over end w → Stands d script budget es now → EndsIn d script budget es end w.world
  over_ends es now end w is s =
      let x : Stands d script budget es (pending.Over end w) = subst (Stands d script budget es) is s in
      record {
        kernel = x.comes.kernel;
        ended = over_so d script budget es end x.comes.kernel (subst (RunsTo es) x.comes.is x.so_far);
        left = x.comes.world;
      }

  -- where it is over it waits no more, so that no answer was wanted that didn't come
  abbrev IsWaiting : Pending → Type 0
  IsWaiting (Over end k) = ⊥
  IsWaiting (Waits m k upcall rest cs) = Unit {0}

  over_there : (es : List Exchange) (end : End) (k : Kernel) → RunsTo es (Over end k) → (run_over d script budget es).pending ≡ Over end k
  unfolding run_from_pending
  over_there es end k so = ap (λ (r : SplitRun). r.pending)
      (run_is d script budget es ∙ ap (λ (xs : List (List ℕ)). run_from_pending d (readings xs) (first_of d script budget)) (sym (append-nil (answers_of es))) ∙ so.runs [])

  own_end : (es : List Exchange) (end : End) (k : Kernel) → RunsTo es (Over end k) → IsFarFault end → ⊥
  own_end es ends.Ok k so far = far
  own_end es (ends.Stop kind at) k so far = far
  own_end es (ends.Refused exchange cause number) k so far = far
  own_end es (ends.FarFault exchange) k so far =
      let failed : HasFailed d script budget es exchange k.world.memory = as_before d script budget es (ends.FarFault exchange) k (over_so d script budget es (ends.FarFault exchange) k so) in
      let waited : HasWaited d script budget (answers_of es) k.world.memory = failed.waited in
      subst IsWaiting (sym waited.waits ∙ over_there es (ends.FarFault exchange) k so) tt

  pub over_by_itself : (es : List Exchange) (now : CodePending) (end : End) (w : Driven) → now ≡ pending.Over end w → Stands d script budget es now → IsFarFault end → ⊥
  over_by_itself es now end w is s far =
      let x : Stands d script budget es (pending.Over end w) = subst (Stands d script budget es) is s in
      own_end es end x.comes.kernel (subst (RunsTo es) x.comes.is x.so_far) far

  -- ---- what was sent, how much, and the memory of the place

  pub called_after : (old calls calls' : List FarCall) (es es' : List Exchange) (m : Message) (w : Waiting) (t : Turn) → Turned d script.commands m w es es' t → calls ≡ old ++ sends (sent_of es) → calls' ≡ and_then calls (Sends (text m))
      → calls' ≡ old ++ sends (sent_of es')
  called_after old calls calls' es es' m w (turn.Next p) turned so more = calls_more old calls calls' es es' (text m) (Some turned.0) so more turned.1
  called_after old calls calls' es es' m w (turn.Unanswered number w') turned so more = calls_more old calls calls' es es' (text m) None so more turned.0

  pub counted_after : (es es' : List Exchange) (now : CodePending) (m : Message) (w : Waiting) (t : Turn) (n n' : ℕ) → Stands d script budget es now → Turned d script.commands m w es es' t → n ≡ length es + length (answers_of es) → n' ≡ n + messages_of t
      → n' ≡ length es' + length (answers_of es')
  counted_after es es' now m w (turn.Next p) n n' s turned so more = counts_answered es es' (text m) turned.0 n n' s.so_far.all so more turned.1
  counted_after es es' now m w (turn.Unanswered number w') n n' s turned so more = counts_unanswered es es' (text m) n n' s.so_far.all so more turned.0

  -- the memory that is held where it waits
  held_there : (watch : Watch) (now : CodePending) (m : Message) (w : Waiting) (old memory : Memory) → now ≡ pending.Waits m w → KeptFor watch now → IsHeld now old memory → memory ≡ (kernel_of w).world.memory
  held_there watch now m w old memory is kept held =
      let stands : StandsFor watch w = subst (KeptFor watch) is kept in
      subst (λ (x : CodePending). IsHeld x old memory) is held stands.seen

  pub placed_after : (watch : Watch) (es es' : List Exchange) (now : CodePending) (m : Message) (w : Waiting) (t : Turn) (old memory : Memory) → now ≡ pending.Waits m w → KeptFor watch now → IsHeld now old memory → Stands d script budget es now → Turned d script.commands m w es es' t
      → IsPlace d script budget (answers_of es') memory
  placed_after watch es es' now m w (turn.Next p) old memory is kept held s turned =
      place_after d script budget m (kernel_of w) (open_of w) (rest_of d w.behind.frames) (drop (begun_of w) script.commands) es es' turned.0 memory (waits_at es now m w is s) (held_there watch now m w old memory is kept held) turned.1
  placed_after watch es es' now m w (turn.Unanswered number w') old memory is kept held s turned =
      place_unanswered d script budget m (kernel_of w) (open_of w) (rest_of d w.behind.frames) (drop (begun_of w) script.commands) es es' memory (waits_at es now m w is s) (held_there watch now m w old memory is kept held) turned.0

  pub placed_over : (es : List Exchange) (now : CodePending) (end : End) (w : Driven) (old memory : Memory) → now ≡ pending.Over end w → IsHeld now old memory → IsPlace d script budget (answers_of es) old → IsPlace d script budget (answers_of es) memory
  placed_over es now end w old memory is held place =
      let same : memory ≡ old = subst (λ (x : CodePending). IsHeld x old memory) is held in
      subst (IsPlace d script budget (answers_of es)) (sym same) place

  pub placed_same : (es : List Exchange) (old memory : Memory) → memory ≡ old → IsPlace d script budget (answers_of es) old → IsPlace d script budget (answers_of es) memory
  placed_same es old memory same place = subst (IsPlace d script budget (answers_of es)) (sym same) place

  -- ---- want of memory

  pub stopped_turning : (watch : Watch) (old calls calls' : List FarCall) (es es' : List Exchange) (now : CodePending) (m : Message) (w : Waiting) (before memory : Memory) (n n' : ℕ) → now ≡ pending.Waits m w → KeptFor watch now → IsHeld now before memory → Stands d script budget es now
      → calls ≡ old ++ sends (sent_of es) → n ≡ length es + length (answers_of es) → Broke m calls calls' es es' n n' → IsStopped d script budget old calls' es' memory n'
  stopped_turning watch old calls calls' es es' now m w before memory n n' is kept held s called count broke =
      stops_in d script budget m (kernel_of w) (open_of w) (rest_of d w.behind.frames) (drop (begun_of w) script.commands) old calls calls' es es' memory n n' (waits_at es now m w is s) called count (held_there watch now m w before memory is kept held) broke

  pub stopped_standing : (old calls : List FarCall) (es : List Exchange) (now : CodePending) (memory : Memory) (n : ℕ) → Stands d script budget es now → calls ≡ old ++ sends (sent_of es) → n ≡ length es + length (answers_of es)
      → IsPlace d script budget (answers_of es) memory → IsStopped d script budget old calls es memory n
  stopped_standing old calls es now memory n s called count place = stops_here d script budget s.state old calls es memory n s.so_far called count place
