-- believed
-- What bytes are as a message: the message that they spell, or why they are none, with the offset.
use Rattle.std.specs.Prelude.{ℕ, cond, List, [], ◌∷◌, length, Option, Some, None, Result, Ok, Err, ◌==◌, slice_get}
use Rattle.mdr_core.specs.declared.kind.Kind.{Kind}
use Rattle.mdr_core.specs.declared.kind.Kind.TheVariants.{U8, U16, U32, U64, S8, S16, S32, S64}
use Rattle.mdr_core.specs.declared.refusal.RefuseKind.TheVariants as refusal
use Rattle.mdr_core.specs.declared.place.At.{At}
use Rattle.mdr_meaning.specs.declared.wire.Wire.{Wire}
use Rattle.mdr_meaning.specs.declared.wire.Wire.TheVariants as wire
use Rattle.mdr_meaning.specs.declared.wire.WireView.{WireView}
use Rattle.mdr_model.specs.declared.message.Answer.{Answer}
use Rattle.mdr_model.specs.declared.message.Back.{Back}
use Rattle.mdr_model.specs.declared.message.BirthKind.{BirthKind}
use Rattle.mdr_model.specs.declared.message.BirthKind.TheVariants.{Static, Heap, Auto}
use Rattle.mdr_model.specs.declared.message.Call.{Call}
use Rattle.mdr_model.specs.declared.message.New.{New}
use Rattle.mdr_model.specs.declared.message.Run.{Run}
use Rattle.mdr_model.specs.declared.message.SetRun.{SetRun}
use Rattle.mdr_model.specs.declared.message.Told.{Told}
use Rattle.mdr_meaning.specs.declared.shape.Shape64.{Shape64}
use Rattle.mdr_model.specs.declared.message.Fault.{Fault}
use Rattle.mdr_model.specs.declared.message.Message.{Message}
use Rattle.mdr_model.specs.declared.message.Message.TheVariants as message
use Rattle.mdr_model.specs.declared.reply.Ask.{Ask}
use Rattle.mdr_model.specs.declared.reply.Down.{Down}
use Rattle.mdr_model.specs.declared.reply.Reply.TheVariants as replies
use Rattle.mdr_model.specs.declared.reply.Return.{Return}
use Rattle.mdr_model.specs.declared.reply.Stop.{Stop}
use Rattle.mdr_model.specs.Faults.{fault}
use Rattle.mdr_model.specs.Xdr.{Input, Read, ◌>>=◌, four_at, eight_at, item_at, opaque_at, list_at}

-- ---- parts

abbrev pub kinds : List Kind
kinds = U8 ∷ U16 ∷ U32 ∷ U64 ∷ S8 ∷ S16 ∷ S32 ∷ S64 ∷ []

unfoldable pub view_at : Input → Read WireView
view_at i = do
  serial ← eight_at i
  first ← four_at serial.1
  type ← four_at first.1
  count ← four_at type.1
  index ← four_at count.1
  Ok (record { serial = serial.0; first = first.0; ty = type.0; count = count.0; index = index.0 }, index.1)

abbrev pub number_value_at : Option Kind → ℕ → Input → Read Wire
number_value_at (Some k) tag_at i = do
  n ← item_at k i
  Ok (wire.Int k n.0, n.1)
number_value_at None tag_at i = Err (fault refusal.Kind tag_at)

abbrev pub pointer_at : Input → Read Wire
pointer_at i = do
  p ← view_at i
  Ok (wire.Ptr p.0, p.1)

abbrev pub function_at : Input → Read Wire
function_at i = do
  f ← four_at i
  Ok (wire.Fn f.0, f.1)

-- behind a tag, which stands at the given offset
unfoldable pub tagged_at : ℕ → ℕ → Input → Read Wire
tagged_at tag tag_at i =
    cond (tag == 8) (Ok (wire.Null, i))
    (cond (tag == 9) (pointer_at i)
    (cond (tag == 10) (Ok (wire.Dead, i))
    (cond (tag == 11) (function_at i)
    (cond (tag == 12) (Ok (wire.NoValue, i)) (number_value_at (slice_get kinds tag) tag_at i)))))

unfoldable pub value_at : Input → Read Wire
value_at i = do
  tag ← four_at i
  tagged_at tag.0 i.at tag.1

abbrev pub births_by_number : List BirthKind
births_by_number = Static ∷ Heap ∷ Auto ∷ []

abbrev pub birth_or : Option BirthKind → ℕ → Input → Read BirthKind
birth_or (Some kind) at i = Ok (kind, i)
birth_or None at i = Err (fault refusal.Range at)

unfoldable pub birth_at : Input → Read BirthKind
birth_at i = do
  n ← four_at i
  birth_or (slice_get births_by_number n.0) i.at n.1

unfoldable pub new_at : Input → Read New
new_at i = do
  serial ← eight_at i
  birth ← birth_at serial.1
  type ← four_at birth.1
  count ← four_at type.1
  Ok (record { serial = serial.0; kind = birth.0; ty = type.0; count = count.0 }, count.1)

unfoldable pub run_at : Input → Read Run
run_at i = do
  serial ← eight_at i
  first ← four_at serial.1
  values ← list_at value_at first.1
  Ok (record { serial = serial.0; first = first.0; values = values.0 }, values.1)

unfoldable pub set_run_at : Input → Read SetRun
set_run_at i = do
  serial ← eight_at i
  first ← four_at serial.1
  len ← four_at first.1
  Ok (record { serial = serial.0; first = first.0; len = len.0 }, len.1)

unfoldable pub shape_at : Input → Read Shape64
shape_at i = do
  type ← four_at i
  count ← eight_at type.1
  Ok (record { ty = type.0; count = count.0 }, count.1)

unfoldable pub place_at : Input → Read At
place_at i = do
  func ← four_at i
  stmt ← four_at func.1
  Ok (record { func = func.0; stmt = stmt.0 }, stmt.1)

unfoldable pub told_at : Input → Read Told
told_at i = do
  deaths ← list_at eight_at i
  news ← list_at new_at deaths.1
  view ← list_at set_run_at news.1
  runs ← list_at run_at view.1
  Ok (record { deaths = deaths.0; news = news.0; view = view.0; runs = runs.0 }, runs.1)

-- ---- messages, behind their kind

unfoldable pub call_at : Input → Read Call
call_at i = do
  func ← four_at i
  depth ← four_at func.1
  rest ← eight_at depth.1
  args ← list_at value_at rest.1
  told ← told_at args.1
  Ok (record { func = func.0; depth = depth.0; rest = rest.0; args = args.0; told = told.0 }, told.1)

unfoldable pub return_at : Input → Read Return
return_at i = do
  ticks ← eight_at i
  result ← value_at ticks.1
  runs ← list_at run_at result.1
  Ok (record { ticks = ticks.0; result = result.0; runs = runs.0 }, runs.1)

unfoldable pub down_at : Input → Read Down
down_at i = do
  ticks ← eight_at i
  at ← place_at ticks.1
  depth ← four_at at.1
  func ← four_at depth.1
  args ← list_at value_at func.1
  runs ← list_at run_at args.1
  Ok (record { ticks = ticks.0; at = at.0; depth = depth.0; func = func.0; args = args.0; runs = runs.0 }, runs.1)

unfoldable pub back_at : Input → Read Back
back_at i = do
  rest ← eight_at i
  result ← value_at rest.1
  told ← told_at result.1
  Ok (record { rest = rest.0; result = result.0; told = told.0 }, told.1)

unfoldable pub ask_at : Input → Read Ask
ask_at i = do
  ticks ← eight_at i
  at ← place_at ticks.1
  service ← four_at at.1
  args ← list_at value_at service.1
  shapes ← list_at shape_at args.1
  bytes ← opaque_at shapes.1
  runs ← list_at run_at bytes.1
  Ok (record { ticks = ticks.0; at = at.0; service = service.0; args = args.0; shapes = shapes.0; bytes = bytes.0; runs = runs.0 }, runs.1)

unfoldable pub answer_at : Input → Read Answer
answer_at i = do
  results ← list_at value_at i
  deaths ← list_at eight_at results.1
  news ← list_at new_at deaths.1
  Ok (record { results = results.0; deaths = deaths.0; news = news.0 }, news.1)

unfoldable pub stop_at : Input → Read Stop
stop_at i = do
  ticks ← eight_at i
  stop ← four_at ticks.1
  at ← place_at stop.1
  runs ← list_at run_at at.1
  Ok (record { ticks = ticks.0; stop = stop.0; at = at.0; runs = runs.0 }, runs.1)

-- what a reader reads, as the message that it is
abbrev pub made : {A : Type 0} → (A → Message) → (Input → Read A) → Input → Read Message
made make read i = do
  payload ← read i
  Ok (make payload.0, payload.1)

unfoldable pub message_by : ℕ → ℕ → Input → Read Message
message_by kind kind_at i =
    cond (kind == 1) (made (λ call. message.Call call) call_at i)
    (cond (kind == 2) (made (λ return. message.Reply (replies.Return return)) return_at i)
    (cond (kind == 3) (made (λ down. message.Reply (replies.Down down)) down_at i)
    (cond (kind == 4) (made (λ back. message.Back back) back_at i)
    (cond (kind == 5) (made (λ ask. message.Reply (replies.Ask ask)) ask_at i)
    (cond (kind == 6) (made (λ answer. message.Answer answer) answer_at i)
    (cond (kind == 7) (made (λ stop. message.Reply (replies.Stop stop)) stop_at i)
    (cond (kind == 8) (made (λ reason. message.Refuse reason) four_at i) (Err (fault refusal.Kind kind_at)))))))))

unfoldable pub message_at : Input → Read Message
message_at i = do
  kind ← four_at i
  message_by kind.0 i.at kind.1

-- nothing is left over
abbrev pub all_of : Message → Input → Result Message Fault
all_of m i = cond (length i.bytes == 0) (Ok m) (Err (fault refusal.Trailing i.at))

-- what bytes are: a message, all of them, or the first fault from the left
unfoldable pub reading_of : List ℕ → Result Message Fault
reading_of bytes = do
  m ← message_at (record { at = 0; bytes = bytes })
  all_of m.0 m.1
