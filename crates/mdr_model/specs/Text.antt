-- believed
-- The one spelling of each message.
use Rattle.std.specs.Prelude.{ℕ, List, [], ◌++◌}
use Rattle.mdr_core.specs.declared.place.At.{At}
use Rattle.mdr_core.specs.Kinds.{kind_number}
use Rattle.mdr_meaning.specs.declared.wire.Wire.{Wire}
use Rattle.mdr_meaning.specs.declared.wire.Wire.TheVariants as wire
use Rattle.mdr_meaning.specs.declared.wire.WireView.{WireView}
use Rattle.mdr_model.specs.declared.message.Answer.{Answer}
use Rattle.mdr_model.specs.declared.message.Back.{Back}
use Rattle.mdr_model.specs.declared.message.BirthKind.{BirthKind}
use Rattle.mdr_model.specs.declared.message.BirthKind.TheVariants.{Static, Heap, Auto}
use Rattle.mdr_model.specs.declared.message.Call.{Call}
use Rattle.mdr_model.specs.declared.message.New.{New}
use Rattle.mdr_model.specs.declared.message.Run.{Run}
use Rattle.mdr_model.specs.declared.message.SetRun.{SetRun}
use Rattle.mdr_model.specs.declared.message.Told.{Told}
use Rattle.mdr_meaning.specs.declared.shape.Shape64.{Shape64}
use Rattle.mdr_model.specs.declared.message.Message.{Message}
use Rattle.mdr_model.specs.declared.message.Message.TheVariants as message
use Rattle.mdr_model.specs.declared.reply.Ask.{Ask}
use Rattle.mdr_model.specs.declared.reply.Down.{Down}
use Rattle.mdr_model.specs.declared.reply.Reply.{Reply}
use Rattle.mdr_model.specs.declared.reply.Reply.TheVariants as replies
use Rattle.mdr_model.specs.declared.reply.Return.{Return}
use Rattle.mdr_model.specs.declared.reply.Stop.{Stop}
use Rattle.mdr_model.specs.Xdr.{four, eight, item, opaque, listed}

-- ---- parts

-- a pointer: serial, first cell, type, count, index
abbrev pub view_text : WireView → List ℕ
view_text p = eight p.serial ++ (four p.first ++ (four p.ty ++ (four p.count ++ four p.index)))

-- a value: its tag, and what the tag asks for. The tags 0 to 7 are the integer kinds. The state of a lock is never told
unfoldable pub value_text : Wire → List ℕ
value_text (wire.Int k n) = four (kind_number k) ++ item k n
value_text wire.Null = four 8
value_text (wire.Ptr p) = four 9 ++ view_text p
value_text wire.Dead = four 10
value_text (wire.Fn f) = four 11 ++ four f
value_text wire.NoValue = four 12
value_text (wire.Lock s) = []

abbrev pub birth_number : BirthKind → ℕ
birth_number Static = 0
birth_number Heap = 1
birth_number Auto = 2

unfoldable pub new_text : New → List ℕ
new_text n = eight n.serial ++ (four (birth_number n.kind) ++ (four n.ty ++ four n.count))

unfoldable pub run_text : Run → List ℕ
run_text r = eight r.serial ++ (four r.first ++ listed value_text r.values)

unfoldable pub set_run_text : SetRun → List ℕ
set_run_text r = eight r.serial ++ (four r.first ++ four r.len)

unfoldable pub shape_text : Shape64 → List ℕ
shape_text s = four s.ty ++ eight s.count

abbrev pub at_text : At → List ℕ
at_text at = four at.func ++ four at.stmt

abbrev pub values_text : List Wire → List ℕ
values_text vs = listed value_text vs

abbrev pub serials_text : List ℕ → List ℕ
serials_text serials = listed eight serials

abbrev pub news_text : List New → List ℕ
news_text news = listed new_text news

abbrev pub set_text : List SetRun → List ℕ
set_text view = listed set_run_text view

abbrev pub runs_text : List Run → List ℕ
runs_text runs = listed run_text runs

unfoldable pub told_text : Told → List ℕ
told_text told = serials_text told.deaths ++ (news_text told.news ++ (set_text told.view ++ runs_text told.runs))

abbrev pub shapes_text : List Shape64 → List ℕ
shapes_text shapes = listed shape_text shapes

-- ---- messages

-- the fields behind the kind, in their order
unfoldable pub call_text : Call → List ℕ
call_text call = four call.func ++ (four call.depth ++ (eight call.rest ++ (values_text call.args ++ told_text call.told)))

unfoldable pub return_text : Return → List ℕ
return_text return = eight return.ticks ++ (value_text return.result ++ runs_text return.runs)

unfoldable pub down_text : Down → List ℕ
down_text down = eight down.ticks ++ (at_text down.at ++ (four down.depth ++ (four down.func ++ (values_text down.args ++ runs_text down.runs))))

unfoldable pub back_text : Back → List ℕ
back_text back = eight back.rest ++ (value_text back.result ++ told_text back.told)

-- what a service is asked with, and what changed
abbrev pub asked_text : Ask → List ℕ
asked_text ask = values_text ask.args ++ (shapes_text ask.shapes ++ (opaque ask.bytes ++ runs_text ask.runs))

unfoldable pub ask_text : Ask → List ℕ
ask_text ask = eight ask.ticks ++ (at_text ask.at ++ (four ask.service ++ asked_text ask))

unfoldable pub answer_text : Answer → List ℕ
answer_text answer = values_text answer.results ++ (serials_text answer.deaths ++ news_text answer.news)

unfoldable pub stop_text : Stop → List ℕ
stop_text stop = eight stop.ticks ++ (four stop.stop ++ (at_text stop.at ++ runs_text stop.runs))

-- the kind, and the fields
unfoldable pub reply_text : Reply → List ℕ
reply_text (replies.Return return) = four 2 ++ return_text return
reply_text (replies.Down down) = four 3 ++ down_text down
reply_text (replies.Ask ask) = four 5 ++ ask_text ask
reply_text (replies.Stop stop) = four 7 ++ stop_text stop

unfoldable pub text : Message → List ℕ
text (message.Call call) = four 1 ++ call_text call
text (message.Back back) = four 4 ++ back_text back
text (message.Answer answer) = four 6 ++ answer_text answer
text (message.Reply reply) = reply_text reply
text (message.Refuse reason) = four 8 ++ four reason
