-- believed
-- The kernel half as a machine over answers: it waits at each message that it sends, also in the middle of its own code where that calls back, judges the answer, and goes on.
use Rattle.std.specs.Prelude.{ℕ, suc, List, [], ◌∷◌, map, Option, Some, None, Ok, Err, unwrap_or}
use Rattle.mdr_core.specs.declared.refusal.RefuseKind.TheVariants as refusal
use Rattle.mdr_core.specs.declared.stop.StopKind.TheVariants as stop
use Rattle.mdr_core.specs.Layout.{chosen}
use Rattle.mdr_extents.specs.Reaching.{visible}
use Rattle.mdr_meaning.specs.declared.wire.Wire.{Wire}
use Rattle.mdr_meaning.specs.Bodies.{started}
use Rattle.mdr_meaning.specs.Tree.{Asked, Tree}
use Rattle.mdr_model.specs.declared.command.Command.{Command}
use Rattle.mdr_model.specs.declared.message.Fault.{Fault}
use Rattle.mdr_model.specs.declared.message.Message.{Message}
use Rattle.mdr_model.specs.declared.message.Message.TheVariants as message
use Rattle.mdr_model.specs.declared.message.Run.{Run}
use Rattle.mdr_model.specs.declared.message.Told.{Told}
use Rattle.mdr_model.specs.declared.outcome.End.{End}
use Rattle.mdr_model.specs.declared.outcome.End.TheVariants as ends
use Rattle.mdr_model.specs.declared.reply.Down.{Down as Downcall}
use Rattle.mdr_model.specs.declared.reply.Reply.{Reply}
use Rattle.mdr_model.specs.declared.reply.Reply.TheVariants as replies
use Rattle.mdr_model.specs.Copies.{agreed_after, put_runs, tells}
use Rattle.mdr_model.specs.Faults.{fault}
use Rattle.mdr_model.specs.KernelState.{Reading}
use Rattle.mdr_model.specs.Memory.{normal}
use Rattle.mdr_model.specs.ReplyFaults.{reply_of, user_stop}
use Rattle.mdr_plain.specs.Atomic.{is_atomic}
use Rattle.mdr_plain.specs.Running.{Went, Gave, Calls, all_cells, goes, interrupts}
use Rattle.mdr_plain.specs.Scripts.{Beginning, Did, Enters, Opens, begin, first_world, returned}
use Rattle.mdr_plain.specs.Services.{served}
use Rattle.mdr_plain.specs.Storage.{accesses}
use Rattle.mdr_plain.specs.World.{World, Ran, Ended, Stopped, Work, advanced, after, done}
use Rattle.mdr_bound.specs.declared.bound.Bound.{Bound}
use Rattle.mdr_split.specs.Legal.{fault_of}
use Rattle.mdr_split.specs.Services.{asked_of, counted}
use Rattle.mdr_split.specs.State.{Kernel, Open, Base, Commanded, Down, Rest, Noted, Resumes, Pending, Over, Waits}
use Rattle.mdr_watched.specs.Driver.{Driver, entry_roots, is_user, touched_by}
use Rattle.mdr_watched.specs.Views.{closed, opened, taken as with_set, top}
use Rattle.mdr_watched.specs.Watched.{held, kernel_of, returns_to, serves}

-- ---- sending

abbrev pub values_of_result : Wire → List Wire
values_of_result v = v ∷ []

abbrev pub sent : Driver → World → Told → Kernel → Kernel
sent d w told k = record { world = w; agreed = agreed_after d.program told k.agreed; exchanges = suc k.exchanges }

abbrev pub over : End → World → Kernel → Pending
over end w k = Over end (record k { world = w })

-- an upcall begins: its set is taken from its arguments and the globals. A failing pointer is told of the function as a whole
abbrev pub begins : Driver → (func : ℕ) → (args : List Wire) → World → Work
begins d f args w = with_set (visible d.program (touched_by d.plan f) w.memory [] (entry_roots d.program f args)) (record { func = f; stmt = 0 }) w (λ set. done (opened set w))

-- and the call is told, with the number of functions that were active before it
abbrev pub called : Driver → (func : ℕ) → (depth : ℕ) → (args : List Wire) → Work → Kernel → Rest → List Command → Pending
called d f depth args (Ended x w) k rest script =
    let told : Told = tells d.program (top w.views) args k.agreed w.memory in
    Waits (message.Call (record { func = f; depth = depth; rest = w.clock.rest; args = args; told = told })) (sent d w told k) (record { func = f; depth = depth; entered = [] }) rest script
called d f depth args (Stopped kind at w) k rest script = over (ends.Stop kind at) w k

unfoldable pub calls : Driver → (func : ℕ) → (depth : ℕ) → (args : List Wire) → World → Kernel → Rest → List Command → Pending
calls d f depth args w k rest script = called d f depth args (begins d f args w) k rest script

-- a downcall came back, and its set was taken anew: the result is told
unfoldable pub comes_back : Driver → Wire → World → Kernel → Open → Rest → List Command → Pending
comes_back d v w k upcall rest script =
    let told : Told = tells d.program (top w.views) (values_of_result v) k.agreed w.memory in
    Waits (message.Back (record { rest = w.clock.rest; result = v; told = told })) (sent d w told k) upcall rest script

-- a service was done, and its results are told, and no cells
unfoldable pub answers : Driver → List Wire → World → Kernel → Open → Rest → List Command → Pending
answers d results w k upcall rest script =
    let told : Told = tells d.program [] results k.agreed w.memory in
    Waits (message.Answer (record { results = results; deaths = told.deaths; news = told.news })) (sent d w told k) upcall rest script

-- ---- code of the kernel half

-- a function of the kernel half, with so many active before it
abbrev pub kernel_tree : Driver → (func : ℕ) → (args : List Wire) → (depth : ℕ) → World → Tree
kernel_tree d f args depth w = started d.kernel (suc w.clock.rest) f args depth Tree.Idle

-- its code runs, up to where it calls back
abbrev pub runs_kernel : Driver → Tree → World → Went
runs_kernel d t w = goes (accesses d.program all_cells) (served d.program) (interrupts (kernel_of d)) t w

-- what follows work that has no result to tell
abbrev pub then_split : Work → Kernel → (Kernel → Pending) → Pending
then_split (Ended x w) k go = go (record k { world = w })
then_split (Stopped kind at w) k go = over (ends.Stop kind at) w k

abbrev pub downcalled : Driver → Ran Wire → Kernel → Open → Rest → List Command → Pending
downcalled d (Ended v w) k upcall rest script = comes_back d v w k upcall rest script
downcalled d (Stopped kind at w) k upcall rest script = over (ends.Stop kind at) w k

-- it ended or stopped: its result is noted, where a command called it; or the set of the upcall is taken anew, and the result is told to the user code that called it
abbrev pub gave : Driver → Base → Ran Wire → Kernel → (Kernel → Pending) → List Command → Pending
gave d Commanded ran k go script = then_split (returned (interrupts (kernel_of d)) ran) k go
gave d (Down at f args upcall rest) ran k go script =
    downcalled d (after ran (λ v w. returns_to d (held d) upcall.func at f args v w)) k upcall rest script

-- or it calls back, where it may wait: an upcall, with its arguments as they are now. What it does with the result comes when that upcall has returned
abbrev pub went : Driver → Base → Went → Kernel → (Kernel → Pending) → List Command → Pending
went d base (Gave ran) k go script = gave d base ran k go script
went d base (Calls at f args depth next w) k go script =
    chosen (is_atomic w) (over (ends.Stop stop.Atomic (Some at)) w k) (calls d f depth (map (normal w.memory) args) w k (Resumes next base) script)

-- ---- the run

abbrev pub split_by : Beginning → Driver → List Command → Kernel → (Kernel → Pending) → Pending
split_by (Did work) d script k go = then_split work k go
split_by (Enters f args w) d script k go = went d Commanded (runs_kernel d (kernel_tree d f args 0 w) w) k go script
split_by (Opens f args w) d script k go = calls d f 0 args w k Noted script

-- the commands of a script up to the first message
unfoldable pub split_commands : Driver → List Command → Kernel → Pending
split_commands d [] k = Over ends.Ok k
split_commands d (c ∷ cs) k = split_by (begin (kernel_of d) (is_user d.plan) c k.world) d cs k (λ k'. split_commands d cs k')

-- a legal reply is applied: its ticks are spent, and its runs are stored in the memory and in the agreed copy
abbrev pub spent : ℕ → List Run → World → World
spent ticks runs w = record w { memory = put_runs runs w.memory; clock = advanced ticks w.clock }

unfoldable pub applied : ℕ → List Run → Kernel → Kernel
applied ticks runs k = record k { world = spent ticks runs k.world; agreed = put_runs runs k.agreed }

-- a command's upcall ended: its result is noted, and then the interrupt rule is tried
abbrev pub ended : Driver → Wire → World → Work
ended d v w = returned (interrupts (kernel_of d)) (Ended v (closed w))

-- the innermost upcall ended, and its set is gone: the commands go on, or the code that called it
abbrev pub continued : Driver → Wire → Kernel → Rest → List Command → Pending
continued d v k Noted script = then_split (ended d v k.world) k (λ k'. split_commands d script k')
continued d v k (Resumes next base) script = went d base (runs_kernel d (next v) (closed k.world)) k (λ k'. split_commands d script k') script

-- the objects that were born and those that died are counted
abbrev pub serviced : Driver → Asked → Ran (List Wire) → Kernel → Open → Rest → List Command → Pending
serviced d asked (Ended results w) k upcall rest script = answers d results w k (counted asked results upcall) rest script
serviced d asked (Stopped kind at w) k upcall rest script = over (ends.Stop kind at) w k

-- a reply with a fault ends the run, and nothing of it is applied
abbrev pub refused : Fault → Kernel → Pending
refused f k = Over (ends.Refused k.exchanges f.kind f.number) k

-- a function of the kernel half runs, with its arguments as they are now
abbrev pub goes_down : Driver → Downcall → Kernel → Open → Rest → List Command → Pending
goes_down d down k upcall rest script =
    let passed : List Wire = map (normal k.world.memory) down.args in
    went d (Down down.at down.func passed upcall rest) (runs_kernel d (kernel_tree d down.func passed down.depth k.world) k.world) k (λ k'. split_commands d script k') script

-- a service is done, as where there is one memory
abbrev pub asks : Driver → Asked → Kernel → Open → Rest → List Command → Pending
asks d asked k upcall rest script = serviced d asked (serves d (held d) upcall.func asked k.world) k upcall rest script

-- what a legal reply does
unfoldable pub taken : Driver → Reply → Kernel → Open → Rest → List Command → Pending
taken d (replies.Return return) k upcall rest script = continued d return.result (applied return.ticks return.runs k) rest script
taken d (replies.Down down) k upcall rest script = goes_down d down (applied down.ticks down.runs k) upcall rest script
taken d (replies.Ask ask) k upcall rest script = asks d (asked_of ask) (applied ask.ticks ask.runs k) upcall rest script
taken d (replies.Stop said) k upcall rest script =
    Over (ends.Stop (unwrap_or (user_stop said.stop) stop.Bug) (Some said.at)) (applied said.ticks said.runs k)

abbrev pub judged : Driver → Option Fault → Reply → Kernel → Open → Rest → List Command → Pending
judged d (Some f) reply k upcall rest script = refused f k
judged d None reply k upcall rest script = taken d reply k upcall rest script

-- a message that is no reply isn't awaited
abbrev pub answered : Driver → Option Reply → Kernel → Open → Rest → List Command → Pending
answered d None k upcall rest script = refused (fault refusal.NotAwaited 0) k
answered d (Some reply) k upcall rest script = judged d (fault_of d k upcall rest reply) reply k upcall rest script

-- the next state after an answer
unfoldable pub next : Driver → Reading → Kernel → Open → Rest → List Command → Pending
next d (Err f) k upcall rest script = refused f k
next d (Ok m) k upcall rest script = answered d (reply_of m) k upcall rest script

-- the globals are agreed as they are born
abbrev pub beginning : World → Kernel
beginning w = record { world = w; agreed = w.memory; exchanges = 0 }

unfoldable pub first_kernel : Driver → Bound → (budget : ℕ) → Kernel
first_kernel d script budget = beginning (first_world d.kernel.known script budget)

-- the messages sent, and where the run stands after the answers
pub record SplitRun : Type 0 where
  pub sent : List Message
  pub pending : Pending

unfoldable pub run_from_pending : Driver → List Reading → Pending → SplitRun
run_from_pending d readings (Over end k) = record { sent = []; pending = Over end k }
run_from_pending d [] (Waits m k upcall rest script) = record { sent = m ∷ []; pending = Waits m k upcall rest script }
run_from_pending d (a ∷ readings) (Waits m k upcall rest script) =
    let later : SplitRun = run_from_pending d readings (next d a k upcall rest script) in
    record { sent = m ∷ later.sent; pending = later.pending }

-- the split run of a script under a budget of ticks, over the answers in turn
unfoldable pub split_run : Driver → Bound → (budget : ℕ) → List Reading → SplitRun
split_run d script budget readings = run_from_pending d readings (split_commands d script.commands (first_kernel d script budget))
