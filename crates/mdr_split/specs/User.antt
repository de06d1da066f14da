-- believed
-- The user half's reply to the messages so far. It knows its own half's text, the plan and the messages alone.
use Rattle.std.specs.Prelude.{ℕ, suc, ◌-◌, Bool, true, false, not, ◌&&◌, List, [], ◌∷◌, ◌++◌, map, filter, Option, Some, None, slice_get, Ok, Err, nat_lt, nat_le, is_none}
use Rattle.std.specs.List.{list_all}
use Rattle.mdr_core.specs.declared.place.At.{At}
use Rattle.mdr_core.specs.declared.plan.Key.{Key}
use Rattle.mdr_core.specs.declared.program.Program.{Program}
use Rattle.mdr_core.specs.declared.stop.StopKind.TheVariants as stop
use Rattle.mdr_core.specs.Services.{Service, Enter, service_numbered}
use Rattle.mdr_extents.specs.Reaching.{counts, own_cells}
use Rattle.mdr_meaning.specs.declared.wire.Wire.{Wire}
use Rattle.mdr_meaning.specs.declared.wire.Wire.TheVariants as wire
use Rattle.mdr_meaning.specs.Bodies.{started}
use Rattle.mdr_meaning.specs.Tree.{Asked, Tree}
use Rattle.mdr_meaning.specs.Walk.{Accesses, Reached, Walked, walk}
use Rattle.mdr_model.specs.declared.memory.Cell.{Cell}
use Rattle.mdr_model.specs.declared.message.Answer.{Answer}
use Rattle.mdr_model.specs.declared.message.Back.{Back}
use Rattle.mdr_model.specs.declared.message.Call.{Call}
use Rattle.mdr_model.specs.declared.message.Message.{Message}
use Rattle.mdr_model.specs.declared.message.Message.TheVariants as message
use Rattle.mdr_model.specs.declared.message.New.{New}
use Rattle.mdr_model.specs.declared.message.Run.{Run}
use Rattle.mdr_model.specs.declared.message.SetRun.{SetRun}
use Rattle.mdr_model.specs.declared.reply.Reply.TheVariants as replies
use Rattle.mdr_model.specs.Agreement.{has}
use Rattle.mdr_model.specs.Copies.{agreed_after, changes, put_runs}
use Rattle.mdr_model.specs.KernelState.{Reading}
use Rattle.mdr_model.specs.Memory.{Memory, loaded, normal, stored, zero_block}
use Rattle.mdr_model.specs.ReplyFaults.{stop_number}
use Rattle.mdr_model.specs.Sets.{cells_of_run, cells_of_runs, is_in, rises_after}
use Rattle.mdr_model.specs.User.{allowance, lives_fit, renewed_copy, still_live}
use Rattle.mdr_plain.specs.Storage.{first_memory, fresh, read}
use Rattle.mdr_split.specs.Fits.{Places, fits, fits_result}
use Rattle.mdr_split.specs.Legal.{args_fault, params_of, result_of, runs_fault}
use Rattle.mdr_split.specs.Services.{ask_of, asked_now, leaving, less, results_fit}
use Rattle.mdr_watched.specs.Driver.{Driver, is_user, touched_by}

-- ---- states

-- a downcall that waits for what it gives back, in the upcall whose Call named `stub`: the function that it calls, how many functions are active before that one, and what its result leads to
pub record Down : Type 0 where
  pub stub : ℕ
  pub func : ℕ
  pub depth : ℕ
  pub goes : Wire → Tree

-- what is open between messages: nothing; a downcall; or a service, in the upcall whose Call named `stub`, with the visible
-- cells, the ticks left and what its results lead to. Below are the downcalls in which the kernel half called back, the
-- innermost first
pub data Work : Type 0 where
  Nothing : Work
  AwaitsBack : (down : Down) (below : List Down) → Work
  AwaitsAnswer : (stub : ℕ) (asked : Asked) (view : List Cell) (left : ℕ) (goes : List Wire → Tree) (below : List Down) → Work

-- where an upcall ended, the downcall below it waits again
abbrev pub resting : List Down → Work
resting [] = Nothing
resting (down ∷ below) = AwaitsBack down below

-- the agreed copy, which between messages is also what the user half holds: each reply tells all that user code changed;
-- and the serials of the blocks that came in an answer to an `enter` and live, whatever upcall they came in
pub record User : Type 0 where
  pub agreed : Memory
  pub entered : List ℕ
  pub work : Work

-- ---- which messages are accepted

-- the user half doesn't see whose addresses kernel code takes
abbrev pub user_places : Driver → (copy : Memory) → Places
user_places d copy = record { program = d.program; passes = λ f. true; paired = copy; memory = copy }

-- there are cells, and each is one of a known block that the called function may touch
abbrev pub may_show : Program → (touched : List Key) → Memory → SetRun → Bool
may_show program touched copy r = nat_lt 0 r.len && list_all (counts program touched copy) (cells_of_run r)

unfoldable pub view_fits : Program → (touched : List Key) → Memory → List SetRun → Bool
view_fits program touched copy view = rises_after None view && list_all (may_show program touched copy) view

unfoldable pub runs_fit : Driver → Memory → List Cell → List Run → Bool
runs_fit d copy view runs = is_none (runs_fault (user_places d copy) view None 0 runs)

-- the cells of a message and their values fit
abbrev pub cells_fit : Driver → (stub : ℕ) → Memory → List SetRun → List Run → Bool
cells_fit d stub copy view runs = view_fits d.program (touched_by d.plan stub) copy view && runs_fit d copy (cells_of_runs view) runs

abbrev pub agrees : Bool → Bool → Bool
agrees true b = b
agrees false b = not b

-- of the blocks that came in an answer to an `enter` those die that are left now, and no others
unfoldable pub objects_fit : (leaving deaths entered : List ℕ) → Bool
objects_fit leaving deaths entered = list_all (λ n. agrees (has leaving n) (has deaths n)) entered

-- a callback has more functions active than the downcall that it came in
abbrev pub is_deeper : List Down → (depth : ℕ) → Bool
is_deeper [] depth = true
is_deeper (down ∷ below) depth = nat_lt down.depth depth

unfoldable pub call_fits : Driver → Memory → (entered : List ℕ) → List Down → Call → Bool
call_fits d copy entered below call =
    let copy' : Memory = renewed_copy d.program call.told.deaths call.told.news copy in
    is_deeper below call.depth
    && (is_user d.plan call.func
    && (nat_le call.depth 255
    && (lives_fit d.program copy call.told.deaths call.told.news
    && (objects_fit [] call.told.deaths entered
    && (is_none (args_fault (fits (user_places d copy')) 0 (params_of (slice_get d.program.funcs call.func)) call.args)
    && cells_fit d call.func copy' call.told.view call.told.runs)))))

unfoldable pub back_fits : Driver → Memory → (entered : List ℕ) → (stub func : ℕ) → Back → Bool
back_fits d copy entered stub func back =
    let copy' : Memory = renewed_copy d.program back.told.deaths back.told.news copy in
    lives_fit d.program copy back.told.deaths back.told.news
    && (objects_fit [] back.told.deaths entered
    && (fits_result (user_places d copy') (result_of (slice_get d.program.funcs func)) back.result
    && cells_fit d stub copy' back.told.view back.told.runs))

unfoldable pub answer_fits : Driver → Memory → (entered : List ℕ) → Asked → Answer → Bool
answer_fits d copy entered asked answer =
    lives_fit d.program copy answer.deaths answer.news
    && (objects_fit (leaving asked.service asked.args) answer.deaths entered && results_fit asked answer.news answer.results)

-- ---- what a message opens

-- the cells of new blocks that the called function may touch
unfoldable pub cells_of_news : Program → (touched : List Key) → List New → List Cell
cells_of_news program touched [] = []
cells_of_news program touched (n ∷ news) = own_cells program touched (zero_block program n) ++ cells_of_news program touched news

-- the visible cells behind an answer: those that are left, and those of the new blocks
abbrev pub grown : Driver → (stub : ℕ) → (copy : Memory) → List New → List Cell → List Cell
grown d stub copy news seen = filter (still_live copy) seen ++ cells_of_news d.program (touched_by d.plan stub) news

-- the serials of new blocks, where they come in the answer to an `enter`: of all of them, whether or not a result names them
abbrev pub coming_by : Option Service → List New → List ℕ
coming_by (Some Enter) news = map (λ (n : New). n.serial) news
coming_by _ news = []

-- the blocks that came in an answer to an `enter` and live behind this one
unfoldable pub entered_behind : (service : ℕ) → (deaths : List ℕ) → List New → (entered : List ℕ) → List ℕ
entered_behind service deaths news entered = less deaths entered ++ coming_by (service_numbered service) news

-- a message is refused, 2 where its kind isn't awaited, 3 where its content doesn't fit; or a tree runs, with so many ticks,
-- in the upcall of a function, while these entered blocks live, over these visible cells and this copy, with these downcalls
-- below
pub data Opened : Type 0 where
  Refuses : (reason : ℕ) → Opened
  Runs : (tree : Tree) (rest stub : ℕ) (entered : List ℕ) (view : List Cell) (copy : Memory) (below : List Down) → Opened

abbrev pub when_fits : Bool → Opened → Opened
when_fits true opened = opened
when_fits false opened = Refuses 3

-- an upcall begins, below it what is open
abbrev pub begun : Driver → ℕ → Memory → (entered : List ℕ) → List Down → Call → Opened
begun d fuel copy entered below call =
    when_fits (call_fits d copy entered below call)
    (Runs (started d.user fuel call.func call.args call.depth Tree.Idle) call.rest call.func entered (cells_of_runs call.told.view) (agreed_after d.program call.told copy) below)

-- a downcall gives back
abbrev pub resumed : Driver → Memory → (entered : List ℕ) → Down → List Down → Back → Opened
resumed d copy entered down below back =
    when_fits (back_fits d copy entered down.stub down.func back)
    (Runs (down.goes back.result) back.rest down.stub entered (cells_of_runs back.told.view) (agreed_after d.program back.told copy) below)

unfoldable pub opened : Driver → ℕ → Memory → (entered : List ℕ) → Work → Message → Opened
opened d fuel copy entered Nothing (message.Call call) = begun d fuel copy entered [] call
opened d fuel copy entered (AwaitsBack down below) (message.Call call) = begun d fuel copy entered (down ∷ below) call
opened d fuel copy entered (AwaitsBack down below) (message.Back back) = resumed d copy entered down below back
opened d fuel copy entered (AwaitsAnswer stub asked seen left goes below) (message.Answer answer) =
    when_fits (answer_fits d copy entered asked answer)
    (let copy' : Memory = renewed_copy d.program answer.deaths answer.news copy in
    let entered' : List ℕ = entered_behind asked.service answer.deaths answer.news entered in
    Runs (goes answer.results) left stub entered' (grown d stub copy' answer.news seen) copy' below)
opened d fuel copy entered work m = Refuses 2

-- ---- the code of the user half

-- what it does to its memory, where it may touch these cells. Objects of locals are born and die by services, so no birth and no death comes here
abbrev pub guarded : List Cell → Accesses Memory
guarded view = record {
  load = λ m p. loaded (is_in view) m p;
  store = λ m p v. stored (is_in view) m p v;
  read = λ m p n. read (is_in view) m p n;
  fresh = λ m v. fresh m v;
  birth = λ m shapes. record { pointers = []; memory = m };
  death = λ m ps. m;
}

-- ---- the reply

pub record Delivered : Type 0 where
  pub reply : Message
  pub user : User

abbrev pub settled : Message → (entered : List ℕ) → Memory → Work → Delivered
settled reply entered copy work = record { reply = reply; user = record { agreed = copy; entered = entered; work = work } }

-- an upcall ends
abbrev pub gives_back : (ticks : ℕ) → Wire → List Run → (entered : List ℕ) → (copy : Memory) → List Down → Delivered
gives_back ticks v runs entered copy below = settled (message.Reply (replies.Return (record { ticks = ticks; result = v; runs = runs }))) entered (put_runs runs copy) (resting below)

-- a stop ends all upcalls
abbrev pub gives_up : (ticks stop : ℕ) → At → List Run → (entered : List ℕ) → (copy : Memory) → Delivered
gives_up ticks stop at runs entered copy = settled (message.Reply (replies.Stop (record { ticks = ticks; stop = stop; at = at; runs = runs }))) entered (put_runs runs copy) Nothing

-- what a walk of the user half tells: the ticks since the message, the event, and the visible cells that changed
unfoldable pub replied : (stub : ℕ) → (entered : List ℕ) → List Cell → (rest : ℕ) → (copy m : Memory) → List Down → (left : ℕ) → Reached → Delivered
replied stub entered view rest copy m below left (Reached.Ended v t) = gives_back (rest - left) (normal m v) (changes view copy m) entered copy below
replied stub entered view rest copy m below left (Reached.Stopped kind at) = gives_up (rest - left) (stop_number kind) at (changes view copy m) entered copy
replied stub entered view rest copy m below left (Reached.Needs at d t) = gives_up (rest - left) (stop_number stop.Ticks) at (changes view copy m) entered copy
replied stub entered view rest copy m below left Reached.Idles = gives_back (rest - left) wire.NoValue (changes view copy m) entered copy below
replied stub entered view rest copy m below left (Reached.Opens goes) = gives_back (rest - left) wire.NoValue (changes view copy m) entered copy below
replied stub entered view rest copy m below left (Reached.Asks asked goes) =
    let runs : List Run = changes view copy m in
    settled (message.Reply (replies.Ask (ask_of (rest - left) (asked_now m asked) runs))) entered (put_runs runs copy)
    (AwaitsAnswer stub asked view left goes below)
replied stub entered view rest copy m below left (Reached.Crosses at func args depth goes) =
    let runs : List Run = changes view copy m in
    settled (message.Reply (replies.Down (record { ticks = rest - left; at = at; depth = depth; func = func; args = map (normal m) args; runs = runs }))) entered (put_runs runs copy)
    (AwaitsBack (record { stub = stub; func = func; depth = depth; goes = goes }) below)

abbrev pub replied_to : (stub : ℕ) → (entered : List ℕ) → List Cell → ℕ → Memory → List Down → Walked Memory → Delivered
replied_to stub entered view rest copy below w = replied stub entered view rest copy w.memory below w.left w.reached

-- a refused message changes nothing
abbrev pub done : User → Opened → Delivered
done u (Refuses reason) = record { reply = message.Refuse reason; user = u }
done u (Runs tree rest stub entered view copy below) = replied_to stub entered view rest copy below (walk (guarded view) rest tree copy)

-- one message
unfoldable pub deliver : Driver → ℕ → User → Reading → Delivered
deliver d fuel u (Ok m) = done u (opened d fuel u.agreed u.entered u.work m)
deliver d fuel u (Err f) = done u (Refuses 1)

unfoldable pub first_user : Driver → User
first_user d = record { agreed = first_memory d.user.known; entered = []; work = Nothing }

-- the state after messages
unfoldable pub user_after : Driver → ℕ → User → List Reading → User
user_after d fuel u [] = u
user_after d fuel u (m ∷ ms) = user_after d fuel (deliver d fuel u m).user ms

-- the reply to the last of some messages: all are delivered from the beginning, with fuel for all the ticks that they grant
unfoldable pub user_reply : Driver → (before : List Reading) (last : Reading) → Message
user_reply d before last =
    let fuel : ℕ = suc (allowance (before ++ last ∷ [])) in
    (deliver d fuel (user_after d fuel (first_user d) before) last).reply
