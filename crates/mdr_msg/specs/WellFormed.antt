-- believed
-- Which messages have a spelling: each number fits its bytes, and no value is a lock.
use Rattle.std.specs.Prelude.{◌<◌, ◌^◌, ℕ, List, length, IsTrue}
use Rattle.std.specs.List.{AllByRecursion}
use Rattle.mdr_core.specs.declared.place.At.{At}
use Rattle.mdr_core.specs.Kinds.{is_in_range}
use Rattle.mdr_meaning.specs.declared.wire.Wire.{Wire}
use Rattle.mdr_meaning.specs.declared.wire.Wire.TheVariants as wire
use Rattle.mdr_meaning.specs.declared.wire.WireView.{WireView}
use Rattle.mdr_model.specs.declared.message.Answer.{Answer}
use Rattle.mdr_model.specs.declared.message.Back.{Back}
use Rattle.mdr_model.specs.declared.message.Call.{Call}
use Rattle.mdr_model.specs.declared.message.New.{New}
use Rattle.mdr_model.specs.declared.message.Run.{Run}
use Rattle.mdr_model.specs.declared.message.SetRun.{SetRun}
use Rattle.mdr_meaning.specs.declared.shape.Shape64.{Shape64}
use Rattle.mdr_model.specs.declared.message.Told.{Told}
use Rattle.mdr_model.specs.declared.message.Message.{Message}
use Rattle.mdr_model.specs.declared.message.Message.TheVariants as message
use Rattle.mdr_model.specs.declared.reply.Ask.{Ask}
use Rattle.mdr_model.specs.declared.reply.Down.{Down}
use Rattle.mdr_model.specs.declared.reply.Reply.{Reply}
use Rattle.mdr_model.specs.declared.reply.Reply.TheVariants as replies
use Rattle.mdr_model.specs.declared.reply.Return.{Return}
use Rattle.mdr_model.specs.declared.reply.Stop.{Stop}

-- a number of four bytes, and of eight
abbrev pub IsFour : ℕ → Type 0
IsFour n = n < 2 ^ 32

abbrev pub IsEight : ℕ → Type 0
IsEight n = n < 2 ^ 64

-- a list's length takes four bytes
abbrev pub IsListOf : {A : Type 0} → (A → Type 0) → List A → Type 0
IsListOf Is xs = (length xs < 2 ^ 32) × AllByRecursion Is xs

abbrev pub IsOpaque : List ℕ → Type 0
IsOpaque bytes = length bytes < 2 ^ 32

pub record IsView (p : WireView) : Type 0 where
  pub serial : IsEight p.serial
  pub first : IsFour p.first
  pub ty : IsFour p.ty
  pub count : IsFour p.count
  pub index : IsFour p.index

abbrev pub IsValue : Wire → Type 0
IsValue (wire.Int k n) = IsTrue (is_in_range k n)
IsValue wire.Null = Unit {0}
IsValue (wire.Ptr p) = IsView p
IsValue wire.Dead = Unit {0}
IsValue (wire.Fn f) = IsFour f
IsValue (wire.Lock s) = ⊥
IsValue wire.NoValue = Unit {0}

pub record IsNew (n : New) : Type 0 where
  pub serial : IsEight n.serial
  pub ty : IsFour n.ty
  pub count : IsFour n.count

pub record IsRun (r : Run) : Type 0 where
  pub serial : IsEight r.serial
  pub first : IsFour r.first
  pub values : IsListOf IsValue r.values

pub record IsSetRun (r : SetRun) : Type 0 where
  pub serial : IsEight r.serial
  pub first : IsFour r.first
  pub len : IsFour r.len

pub record IsTold (t : Told) : Type 0 where
  pub deaths : IsListOf IsEight t.deaths
  pub news : IsListOf IsNew t.news
  pub view : IsListOf IsSetRun t.view
  pub runs : IsListOf IsRun t.runs

pub record IsShape (s : Shape64) : Type 0 where
  pub ty : IsFour s.ty
  pub count : IsEight s.count

pub record IsPlace (at : At) : Type 0 where
  pub func : IsFour at.func
  pub stmt : IsFour at.stmt

-- ---- messages

pub record IsCall (call : Call) : Type 0 where
  pub func : IsFour call.func
  pub depth : IsFour call.depth
  pub rest : IsEight call.rest
  pub args : IsListOf IsValue call.args
  pub told : IsTold call.told

pub record IsReturn (return : Return) : Type 0 where
  pub ticks : IsEight return.ticks
  pub result : IsValue return.result
  pub runs : IsListOf IsRun return.runs

pub record IsDown (down : Down) : Type 0 where
  pub ticks : IsEight down.ticks
  pub at : IsPlace down.at
  pub depth : IsFour down.depth
  pub func : IsFour down.func
  pub args : IsListOf IsValue down.args
  pub runs : IsListOf IsRun down.runs

pub record IsBack (back : Back) : Type 0 where
  pub rest : IsEight back.rest
  pub result : IsValue back.result
  pub told : IsTold back.told

-- what a service is asked with, and what changed
pub record IsAskedWith (ask : Ask) : Type 0 where
  pub args : IsListOf IsValue ask.args
  pub shapes : IsListOf IsShape ask.shapes
  pub bytes : IsOpaque ask.bytes
  pub runs : IsListOf IsRun ask.runs

pub record IsAsk (ask : Ask) : Type 0 where
  pub ticks : IsEight ask.ticks
  pub at : IsPlace ask.at
  pub service : IsFour ask.service
  pub asked : IsAskedWith ask

pub record IsAnswer (answer : Answer) : Type 0 where
  pub results : IsListOf IsValue answer.results
  pub deaths : IsListOf IsEight answer.deaths
  pub news : IsListOf IsNew answer.news

pub record IsStop (stop : Stop) : Type 0 where
  pub ticks : IsEight stop.ticks
  pub number : IsFour stop.stop
  pub at : IsPlace stop.at
  pub runs : IsListOf IsRun stop.runs

abbrev pub IsReply : Reply → Type 0
IsReply (replies.Return return) = IsReturn return
IsReply (replies.Down down) = IsDown down
IsReply (replies.Ask ask) = IsAsk ask
IsReply (replies.Stop stop) = IsStop stop

abbrev pub IsMessage : Message → Type 0
IsMessage (message.Call call) = IsCall call
IsMessage (message.Back back) = IsBack back
IsMessage (message.Answer answer) = IsAnswer answer
IsMessage (message.Reply reply) = IsReply reply
IsMessage (message.Refuse reason) = IsFour reason
