-- protocol
-- Which messages are written.
use Rattle.std.specs.Prelude.{◌<◌, ◌^◌, List, length, IsTrue}
use Rattle.std.specs.List.{AllByRecursion}
use Rattle.mdr_core.specs.Kinds.{is_in_range}
use Rattle.mdr_meaning.specs.declared.wire.Wire.{Wire}
use Rattle.mdr_meaning.specs.declared.wire.Wire.TheVariants as wire
use Rattle.mdr_model.specs.declared.message.Answer.{Answer}
use Rattle.mdr_model.specs.declared.message.Back.{Back}
use Rattle.mdr_model.specs.declared.message.Call.{Call}
use Rattle.mdr_model.specs.declared.message.Run.{Run}
use Rattle.mdr_model.specs.declared.message.Told.{Told}
use Rattle.mdr_model.specs.declared.message.Message.{Message}
use Rattle.mdr_model.specs.declared.message.Message.TheVariants as message
use Rattle.mdr_model.specs.declared.reply.Ask.{Ask}
use Rattle.mdr_model.specs.declared.reply.Down.{Down}
use Rattle.mdr_model.specs.declared.reply.Reply.{Reply}
use Rattle.mdr_model.specs.declared.reply.Reply.TheVariants as replies
use Rattle.mdr_model.specs.declared.reply.Return.{Return}
use Rattle.mdr_model.specs.declared.reply.Stop.{Stop}

-- an integer lies in its kind's range, and no message carries the state of a lock
abbrev pub CanPutValue : Wire → Type 0
CanPutValue (wire.Int k n) = IsTrue (is_in_range k n)
CanPutValue wire.Null = Unit {0}
CanPutValue (wire.Ptr p) = Unit {0}
CanPutValue wire.Dead = Unit {0}
CanPutValue (wire.Fn f) = Unit {0}
CanPutValue (wire.Lock s) = ⊥
CanPutValue wire.NoValue = Unit {0}

-- a list of fewer than 2^31 items
abbrev pub IsShort : {A : Type 0} → List A → Type 0
IsShort xs = length xs < 2 ^ 31

abbrev pub CanPutList : {A : Type 0} → (A → Type 0) → List A → Type 0
CanPutList CanPut xs = IsShort xs × AllByRecursion CanPut xs

abbrev pub CanPutValues : List Wire → Type 0
CanPutValues vs = CanPutList CanPutValue vs

abbrev pub CanPutRun : Run → Type 0
CanPutRun r = CanPutValues r.values

abbrev pub CanPutRuns : List Run → Type 0
CanPutRuns runs = CanPutList CanPutRun runs

abbrev pub CanPutTold : Told → Type 0
CanPutTold t = IsShort t.deaths × IsShort t.news × IsShort t.view × CanPutRuns t.runs

-- ---- messages

abbrev pub CanPutCall : Call → Type 0
CanPutCall call = CanPutValues call.args × CanPutTold call.told

abbrev pub CanPutReturn : Return → Type 0
CanPutReturn return = CanPutValue return.result × CanPutRuns return.runs

abbrev pub CanPutDown : Down → Type 0
CanPutDown down = CanPutValues down.args × CanPutRuns down.runs

abbrev pub CanPutBack : Back → Type 0
CanPutBack back = CanPutValue back.result × CanPutTold back.told

abbrev pub CanPutAsk : Ask → Type 0
CanPutAsk ask = CanPutValues ask.args × IsShort ask.shapes × IsShort ask.bytes × CanPutRuns ask.runs

abbrev pub CanPutAnswer : Answer → Type 0
CanPutAnswer answer = CanPutValues answer.results × IsShort answer.deaths × IsShort answer.news

abbrev pub CanPutStop : Stop → Type 0
CanPutStop stop = CanPutRuns stop.runs

abbrev pub CanPutReply : Reply → Type 0
CanPutReply (replies.Return return) = CanPutReturn return
CanPutReply (replies.Down down) = CanPutDown down
CanPutReply (replies.Ask ask) = CanPutAsk ask
CanPutReply (replies.Stop stop) = CanPutStop stop

-- each list has fewer than 2^31 items, each integer is in its kind's range, and no value is a lock
abbrev pub CanEncode : Message → Type 0
CanEncode (message.Call call) = CanPutCall call
CanEncode (message.Back back) = CanPutBack back
CanEncode (message.Answer answer) = CanPutAnswer answer
CanEncode (message.Reply reply) = CanPutReply reply
CanEncode (message.Refuse reason) = Unit {0}
