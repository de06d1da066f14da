-- believed
-- Which replies are legal: the first fault of a reply, where the kernel half waits in a state.
use Rattle.std.specs.Prelude.{ℕ, suc, ◌+◌, ◌*◌, min, Bool, true, false, cond, ◌&&◌, ◌||◌, ◌==◌, nat_lt, nat_le, List, [], ◌∷◌, length, map, Option, Some, None, is_some, slice_get}
use Rattle.std.specs.List.{list_all}
use Rattle.mdr_core.specs.declared.place.At.{At}
use Rattle.mdr_core.specs.declared.program.Func.{Func}
use Rattle.mdr_core.specs.declared.program.Param.{Param}
use Rattle.mdr_core.specs.declared.refusal.RefuseKind.TheVariants as refusal
use Rattle.mdr_core.specs.declared.types.Ty.{Ty}
use Rattle.mdr_core.specs.declared.types.Ty.TheVariants as type
use Rattle.mdr_core.specs.Layout.{Leaf}
use Rattle.mdr_core.specs.Services.{Service, RequestIrq, service_numbered}
use Rattle.mdr_meaning.specs.declared.wire.Wire.{Wire}
use Rattle.mdr_meaning.specs.declared.wire.Wire.TheVariants as wire
use Rattle.mdr_meaning.specs.Fair.{stands}
use Rattle.mdr_meaning.specs.Sides.{Body}
use Rattle.mdr_meaning.specs.Tree.{Asked}
use Rattle.mdr_model.specs.declared.memory.Cell.{Cell}
use Rattle.mdr_model.specs.declared.message.Fault.{Fault}
use Rattle.mdr_model.specs.declared.message.New.{New}
use Rattle.mdr_model.specs.declared.message.Run.{Run}
use Rattle.mdr_model.specs.declared.message.SetRun.{SetRun}
use Rattle.mdr_model.specs.declared.reply.Reply.{Reply}
use Rattle.mdr_model.specs.declared.reply.Reply.TheVariants as replies
use Rattle.mdr_model.specs.Copies.{CellValue, numbered}
use Rattle.mdr_model.specs.Faults.{fault, first_fault, is_known, or_else, set_run_of, unless}
use Rattle.mdr_model.specs.Memory.{born_at, leaf_at}
use Rattle.mdr_model.specs.ReplyFaults.{is_stop}
use Rattle.mdr_model.specs.Sets.{follows_maybe, is_in}
use Rattle.mdr_paths.specs.Numbers.{numbers}
use Rattle.mdr_paths.specs.Paths.{is_in as is_among}
use Rattle.mdr_slice.specs.Calls.{names_of}
use Rattle.mdr_split.specs.Fits.{Places, fits, fits_result, is_view}
use Rattle.mdr_split.specs.Services.{Terms, asked_of, may_die, shapes_fit, terms_of, types_of}
use Rattle.mdr_split.specs.State.{Kernel, Open, Rest}
use Rattle.mdr_watched.specs.Driver.{Driver}
use Rattle.mdr_watched.specs.Views.{top}

-- ---- arguments

abbrev pub params_of : Option Func → List Ty
params_of None = []
params_of (Some f) = map (λ (p : Param). p.ty) f.params

-- the position of the first argument that doesn't fit, else the smaller number where there are too few or too many
unfoldable pub args_fault : (fits : Ty → Wire → Bool) → ℕ → List Ty → List Wire → Option Fault
args_fault fits i [] [] = None
args_fault fits i [] (v ∷ vs) = Some (fault refusal.BadArgs i)
args_fault fits i (t ∷ ts) [] = Some (fault refusal.BadArgs i)
args_fault fits i (t ∷ ts) (v ∷ vs) = cond (fits t v) (args_fault fits (suc i) ts vs) (Some (fault refusal.BadArgs i))

-- ---- runs of values

abbrev pub fits_leaf : (fits : Ty → Wire → Bool) → Option Leaf → Wire → Bool
fits_leaf fits None v = false
fits_leaf fits (Some leaf) v = fits leaf.type v

abbrev pub fits_block : Places → Option New → (index : ℕ) → Wire → Bool
fits_block p None index v = false
fits_block p (Some block) index v = fits_leaf (fits p) (leaf_at p.program block index) v

-- a value fits its cell
unfoldable pub fits_cell : Places → CellValue → Bool
fits_cell p x = fits_block p (born_at p.memory x.cell.serial) x.cell.index x.value

-- the faults of one run in their order, where it stands behind another
unfoldable pub run_fault : Places → List Cell → Option SetRun → ℕ → Run → Option Fault
run_fault p view before i r =
    let cells : List CellValue = numbered r.serial r.first r.values in
    first_fault (
    unless (follows_maybe before (set_run_of r)) refusal.RunOrder i
    ∷ unless (list_all (λ (x : CellValue). is_in view x.cell) cells) refusal.OutsideSet i
    ∷ unless (list_all (is_known p.paired) r.values) refusal.UnknownSerial i
    ∷ unless (list_all (is_view p.program p.memory) r.values) refusal.BadView i
    ∷ unless (list_all (fits_cell p) cells) refusal.BadValue i
    ∷ [])

-- the first fault of runs: they rise without overlap, lie in the set, and their values fit
unfoldable pub runs_fault : Places → List Cell → Option SetRun → ℕ → List Run → Option Fault
runs_fault p view before i [] = None
runs_fault p view before i (r ∷ rs) = or_else (run_fault p view before i r) (runs_fault p view (Some (set_run_of r)) (suc i) rs)

-- ---- where a reply may come from, and what it may ask for

abbrev pub has_statement : Option Body → ℕ → Bool
has_statement None n = false
has_statement (Some body) n = stands n body.code

-- a place is a statement of a function of the user half
unfoldable pub is_user_place : Driver → At → Bool
is_user_place d at = has_statement (d.user.own at.func) at.stmt

abbrev pub is_object_service : ℕ → Bool
is_object_service n = n == 13 || n == 14

-- objects of locals are born and die at statement 0 of their function too
unfoldable pub is_ask_place : Driver → (service : ℕ) → At → Bool
is_ask_place d service at = is_user_place d at || (is_object_service service && (at.stmt == 0 && is_some (d.user.own at.func)))

abbrev pub is_true : Option Bool → Bool
is_true None = false
is_true (Some b) = b

-- the kernel half has the function's body
abbrev pub is_kernel_half : Driver → ℕ → Bool
is_kernel_half d f = is_some (d.kernel.own f)

-- user code may call the function: it has a stub for that, and a body that the kernel half can run
abbrev pub has_down_stub : Driver → ℕ → Bool
has_down_stub d f = is_true (slice_get d.plan.down f) && is_kernel_half d f

-- a reply that asks for something is awaited as long as the run keeps to 8 messages for each tick and 6 for each command, with two more for each upcall that is open: a callback takes its Call and what ends it. An honest run never comes to the end of that
unfoldable pub is_awaited : Kernel → (ticks : ℕ) → Bool
is_awaited k ticks =
    nat_le (2 * k.exchanges + 2 * length k.world.views) (8 * (k.world.clock.ticks + min ticks k.world.clock.rest) + 6 * k.world.kept.calls)

-- ---- values

-- the kernel half knows all code, and so whose addresses are taken
abbrev pub kernel_places : Driver → Kernel → Places
kernel_places d k = record { program = d.program; passes = is_among numbers (names_of d.program); paired = k.agreed; memory = k.world.memory }

abbrev pub result_of : Option Func → Ty
result_of None = type.Void
result_of (Some f) = f.result

-- a function that handles interrupts is of the kernel half
abbrev pub names_kernel : Driver → Wire → Bool
names_kernel d (wire.Fn f) = is_kernel_half d f
names_kernel d _ = false

abbrev pub may_be_given : Driver → Option Service → Wire → Bool
may_be_given d (Some RequestIrq) v = names_kernel d v
may_be_given d _ v = true

-- an argument of a service
unfoldable pub fits_service : Driver → Kernel → Option Service → Ty → Wire → Bool
fits_service d k service ty v = fits (kernel_places d k) ty v && may_be_given d service v

-- what a service is asked with besides arguments that fit
abbrev pub is_asked_so : Driver → Open → Terms → Asked → Bool
is_asked_so d upcall terms asked =
    shapes_fit d.program terms.shapes asked.shapes && (nat_le (length asked.bytes) terms.bytes && may_die terms.arguments upcall.entered asked.args)

-- the fault of a question with these terms
abbrev pub terms_fault : Driver → Kernel → Open → Option Service → Terms → Asked → Option Fault
terms_fault d k upcall service terms asked =
    or_else (unless (is_asked_so d upcall terms asked) refusal.BadService 0)
    (args_fault (fits_service d k service) 0 (types_of terms.arguments asked.args) asked.args)

abbrev pub service_faults : Driver → Kernel → Open → Option Service → Asked → Option Fault
service_faults d k upcall None asked = Some (fault refusal.BadService 0)
service_faults d k upcall (Some service) asked = terms_fault d k upcall (Some service) (terms_of service) asked

-- the fault of a question: of the service, and then of its arguments
unfoldable pub service_fault : Driver → Kernel → Open → Asked → Option Fault
service_fault d k upcall asked = service_faults d k upcall (service_numbered asked.service) asked

-- ---- replies

abbrev pub ticks_fault : Kernel → ℕ → Option Fault
ticks_fault k ticks = unless (nat_le ticks k.world.clock.rest) refusal.TooManyTicks 0

abbrev pub reply_runs_fault : Driver → Kernel → List Run → Option Fault
reply_runs_fault d k runs = runs_fault (kernel_places d k) (top k.world.views) None 0 runs

abbrev pub has_none : List ℕ → Bool
has_none [] = true
has_none (n ∷ ns) = false

-- the faults that are looked for in a reply, in the order of the refusals
abbrev pub faults_of : Driver → Kernel → Open → Reply → List (Option Fault)
faults_of d k upcall (replies.Return return) =
    ticks_fault k return.ticks
    ∷ unless (fits_result (kernel_places d k) (result_of (slice_get d.program.funcs upcall.func)) return.result) refusal.BadResult 0
    ∷ unless (has_none upcall.entered) refusal.StillEntered 0
    ∷ reply_runs_fault d k return.runs
    ∷ []
faults_of d k upcall (replies.Down down) =
    unless (is_awaited k down.ticks) refusal.NotAwaited 0
    ∷ ticks_fault k down.ticks
    ∷ unless (is_user_place d down.at) refusal.BadPlace 0
    ∷ unless (nat_lt upcall.depth down.depth && nat_le down.depth 255) refusal.BadDepth 0
    ∷ unless (has_down_stub d down.func) refusal.NoStub 0
    ∷ args_fault (fits (kernel_places d k)) 0 (params_of (slice_get d.program.funcs down.func)) down.args
    ∷ reply_runs_fault d k down.runs
    ∷ []
faults_of d k upcall (replies.Ask ask) =
    unless (is_awaited k ask.ticks) refusal.NotAwaited 0
    ∷ ticks_fault k ask.ticks
    ∷ unless (is_ask_place d ask.service ask.at) refusal.BadPlace 0
    ∷ service_fault d k upcall (asked_of ask)
    ∷ reply_runs_fault d k ask.runs
    ∷ []
faults_of d k upcall (replies.Stop stop) =
    ticks_fault k stop.ticks
    ∷ unless (is_user_place d stop.at) refusal.BadPlace 0
    ∷ unless (is_stop stop.stop stop.ticks k.world.clock.rest) refusal.BadStop 0
    ∷ reply_runs_fault d k stop.runs
    ∷ []

-- the first fault of a reply
unfoldable pub fault_of : Driver → Kernel → Open → Rest → Reply → Option Fault
fault_of d k upcall rest reply = first_fault (faults_of d k upcall reply)
