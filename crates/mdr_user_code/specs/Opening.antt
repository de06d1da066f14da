-- protocol
-- What a message opens, as the code has it.
use Rattle.std.specs.Prelude.{ℕ, suc, Bool, true, false, ◌&&◌, List, [], ◌∷◌, is_none, nat_le, nat_lt, Option, Some, None, slice_get}
use Rattle.mdr_core.specs.declared.plan.Plan.{Plan}
use Rattle.mdr_core.specs.declared.program.Program.{Program}
use Rattle.mdr_core.specs.Layout.{chosen}
use Rattle.mdr_events.specs.Held.{bare}
use Rattle.mdr_events.specs.Steps.{child}
use Rattle.mdr_meaning.specs.declared.wire.Wire.{Wire}
use Rattle.mdr_meaning.specs.Bodies.{started}
use Rattle.mdr_meaning.specs.Tree.{Tree}
use Rattle.mdr_model.specs.declared.message.Answer.{Answer}
use Rattle.mdr_model.specs.declared.message.Back.{Back}
use Rattle.mdr_model.specs.declared.message.Call.{Call}
use Rattle.mdr_model.specs.declared.message.Message.{Message}
use Rattle.mdr_model.specs.declared.message.Message.TheVariants as message
use Rattle.mdr_model.specs.declared.message.New.{New}
use Rattle.mdr_model.specs.declared.message.Told.{Told}
use Rattle.mdr_model.specs.Copies.{put_runs}
use Rattle.mdr_model.specs.Memory.{Memory}
use Rattle.mdr_model.specs.Sets.{cells_of_runs}
use Rattle.mdr_model.specs.User.{lives_fit, renewed_copy}
use Rattle.mdr_split.specs.Fits.{Places, fits, fits_result}
use Rattle.mdr_split.specs.Legal.{args_fault, params_of, result_of}
use Rattle.mdr_split.specs.Services.{leaving, results_fit}
use Rattle.mdr_split.specs.User as split
use Rattle.mdr_split.specs.User.{cells_fit, entered_behind, grown, objects_fit}
use Rattle.mdr_watched.specs.Driver.{Driver, is_user}
use Rattle.mdr_user_code.specs.declared.opening.Opening.{Opening}
use Rattle.mdr_user_code.specs.declared.opening.Opening.TheVariants as opening
use Rattle.mdr_user_code.specs.declared.opening.Turn.{Turn}
use Rattle.mdr_user_code.specs.declared.sight.Sight.{Sight}
use Rattle.mdr_user_code.specs.declared.state.Awaits.{Awaits}
use Rattle.mdr_user_code.specs.declared.state.Awaits.TheVariants as awaits
use Rattle.mdr_user_code.specs.declared.state.Downcall.{Downcall}
use Rattle.mdr_user_code.specs.declared.state.Question.{Question}
use Rattle.mdr_user_code.specs.declared.state.State.{State}
use Rattle.mdr_user_code.specs.declared.state.Suspended.{Suspended}
use Rattle.mdr_user_code.specs.Standing.{asked_of, held_in}

abbrev pub only_if : {A : Type 0} → Bool → A → Option A
only_if true x = Some x
only_if false x = None

abbrev pub where_so : {A : Type 0} → Bool → Option A → Option A
where_so true o = o
where_so false o = None

abbrev pub and_then : {A B : Type 0} → Option A → (A → Option B) → Option B
and_then None go = None
and_then (Some x) go = go x

-- ---- tests

abbrev pub places_in : Program → (copy : Memory) → Places
places_in program copy = record { program = program; passes = λ f. true; paired = copy; memory = copy }

abbrev pub may_enter : Plan → (func depth : ℕ) → Bool
may_enter plan func depth = is_user plan func && nat_le depth 255

abbrev pub args_fit : Program → Memory → (func : ℕ) → List Wire → Bool
args_fit program copy func args = is_none (args_fault (fits (places_in program copy)) 0 (params_of (slice_get program.funcs func)) args)

abbrev pub result_fits : Program → Memory → (func : ℕ) → Wire → Bool
result_fits program copy func v = fits_result (places_in program copy) (result_of (slice_get program.funcs func)) v

abbrev pub is_answered : Question → (entered : List ℕ) → Answer → Bool
is_answered q entered answer =
    objects_fit (leaving q.service q.args) answer.deaths entered && results_fit (asked_of q) answer.news answer.results

-- ---- what is seen

abbrev pub renewed : Program → Memory → List ℕ → List New → Option Memory
renewed program copy deaths news = only_if (lives_fit program copy deaths news) (renewed_copy program deaths news copy)

abbrev pub shown : Driver → (stub : ℕ) → Memory → Told → Option Sight
shown d stub copy told = only_if (cells_fit d stub copy told.view told.runs) (record { view = cells_of_runs told.view; copy = put_runs told.runs copy })

abbrev pub called : Driver → Memory → Call → Option Sight
called d copy call = where_so (args_fit d.program copy call.func call.args) (shown d call.func copy call.told)

unfoldable pub call_sight : Driver → Memory → (entered : List ℕ) → Call → Option Sight
call_sight d copy entered call =
    where_so (may_enter d.plan call.func call.depth)
    (where_so (objects_fit [] call.told.deaths entered)
    (and_then (renewed d.program copy call.told.deaths call.told.news) (λ left. called d left call)))

abbrev pub returned : Driver → Memory → (stub func : ℕ) → Back → Option Sight
returned d copy stub func back = where_so (result_fits d.program copy func back.result) (shown d stub copy back.told)

unfoldable pub back_sight : Driver → Memory → (stub : ℕ) → (entered : List ℕ) → (func : ℕ) → Back → Option Sight
back_sight d copy stub entered func back =
    where_so (objects_fit [] back.told.deaths entered)
    (and_then (renewed d.program copy back.told.deaths back.told.news) (λ left. returned d left stub func back))

unfoldable pub grown_sight : Driver → State → List New → Memory → Sight
grown_sight d s news copy = record { view = grown d s.func copy news s.view; copy = copy }

-- ---- what is opened

abbrev pub opening_of : (rest : ℕ) → (entered : List ℕ) → Option Sight → Opening
opening_of rest entered None = opening.Refuses 3
opening_of rest entered (Some sight) = opening.Goes (record { rest = rest; entered = entered; sight = sight })

abbrev pub downcall : Awaits → Option Downcall
downcall awaits.Nothing = None
downcall (awaits.Back down) = Some down
downcall (awaits.Answer question left) = None

-- an upcall is awaited where nothing is open, or a downcall
abbrev pub takes_call : Awaits → Bool
takes_call awaits.Nothing = true
takes_call (awaits.Back down) = true
takes_call (awaits.Answer question left) = false

-- a callback has more functions active than the downcall that it comes in
abbrev pub calls_deeper : Option Downcall → (depth : ℕ) → Bool
calls_deeper None depth = true
calls_deeper (Some down) depth = nat_lt down.depth depth

abbrev pub call_opening : Driver → State → Call → Opening
call_opening d s call =
    chosen (takes_call s.awaits)
    (chosen (calls_deeper (downcall s.awaits) call.depth) (opening_of call.rest s.entered (call_sight d s.memory.agreed s.entered call)) (opening.Refuses 3))
    (opening.Refuses 2)

abbrev pub back_by : Driver → State → Option Downcall → Back → Opening
back_by d s None back = opening.Refuses 2
back_by d s (Some down) back = opening_of back.rest s.entered (back_sight d s.memory.agreed s.func s.entered down.func back)

abbrev pub back_opening : Driver → State → Back → Opening
back_opening d s back = back_by d s (downcall s.awaits) back

unfoldable pub answer_copy : Driver → State → Question → Answer → Option Memory
answer_copy d s q answer = where_so (is_answered q s.entered answer) (renewed d.program s.memory.agreed answer.deaths answer.news)

abbrev pub answer_turn : Driver → State → Question → (left : ℕ) → Answer → Memory → Turn
answer_turn d s q left answer copy = record {
  rest = left;
  entered = entered_behind q.service answer.deaths answer.news s.entered;
  sight = grown_sight d s answer.news copy;
}

abbrev pub answered_by : Driver → State → Question → (left : ℕ) → Answer → Option Memory → Opening
answered_by d s q left answer None = opening.Refuses 3
answered_by d s q left answer (Some copy) = opening.Goes (answer_turn d s q left answer copy)

abbrev pub answered : Driver → State → Question → (left : ℕ) → Answer → Opening
answered d s q left answer = answered_by d s q left answer (answer_copy d s q answer)

abbrev pub answer_by : Driver → State → Awaits → Answer → Opening
answer_by d s awaits.Nothing answer = opening.Refuses 2
answer_by d s (awaits.Back down) answer = opening.Refuses 2
answer_by d s (awaits.Answer q left) answer = answered d s q left answer

abbrev pub answer_opening : Driver → State → Answer → Opening
answer_opening d s answer = answer_by d s s.awaits answer

unfoldable pub opening_for : Driver → State → Message → Opening
opening_for d s (message.Call call) = call_opening d s call
opening_for d s (message.Back back) = back_opening d s back
opening_for d s (message.Answer answer) = answer_opening d s answer
opening_for d s _ = opening.Refuses 2

-- ---- what runs then

-- the tree that an accepted message runs, and the function of its upcall
abbrev pub tree_for : Driver → (fuel : ℕ) → State → Message → Tree
tree_for d fuel s (message.Call call) = started d.user (suc fuel) call.func call.args call.depth Tree.Idle
tree_for d fuel s (message.Back back) = child (bare d.user fuel (held_in d s)) (back.result ∷ [])
tree_for d fuel s (message.Answer answer) = child (bare d.user fuel (held_in d s)) answer.results
tree_for d fuel s _ = Tree.Idle

abbrev pub func_for : State → Message → ℕ
func_for s (message.Call call) = call.func
func_for s _ = s.func

-- user code that waits for a downcall, below the upcall that begins
abbrev pub suspended_by : Option Downcall → State → List Suspended
suspended_by None s = []
suspended_by (Some down) s = record { machine = s.machine; func = s.func; down = down } ∷ s.below

-- the upcalls below the one that an accepted message runs in
abbrev pub below_for : State → Message → List Suspended
below_for s (message.Call call) = suspended_by (downcall s.awaits) s
below_for s _ = s.below

abbrev pub opens_as : Tree → (func : ℕ) → List split.Down → Opening → split.Opened
opens_as tree func below (opening.Refuses reason) = split.Refuses reason
opens_as tree func below (opening.Goes turn) = split.Runs tree turn.rest func turn.entered turn.sight.view turn.sight.copy below
