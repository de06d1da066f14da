-- protocol
-- A sink in memory: its bytes, its limits, the calls that fail, its count, and its calls.
use Rattle.std.specs.Prelude.{ℕ, ◌-◌, ◌==◌, ◌&&◌, ◌||◌, not, min, List, [], ◌++◌, length, take, if◌then◌else◌}
use Rattle.mdr_outside.specs.Calls.{and_then}
use Rattle.mdr_outside.specs.Count.{raised, is_failing}
use Rattle.mdr_outside.specs.declared.sink.SinkAnswer.{SinkAnswer}
use Rattle.mdr_outside.specs.declared.sink.SinkAnswer.TheVariants as sinks
use Rattle.mdr_outside.specs.declared.sink.SinkCall.{SinkCall}
use Rattle.mdr_outside.specs.Sink.{wrote}

-- it holds `room` bytes at most, and takes `most` of a piece at most
pub record SinkState : Type 0 where
  pub bytes : List ℕ
  pub room : ℕ
  pub most : ℕ
  pub fails : List ℕ
  pub calls : ℕ
  pub faults : ℕ
  pub history : List SinkCall

abbrev pub new_sink : ℕ → ℕ → List ℕ → SinkState
new_sink room most fails =
    record { bytes = []; room = room; most = most; fails = fails; calls = 0; faults = 0; history = [] }

-- how many bytes of a piece there is room for
abbrev pub room_for : SinkState → List ℕ → ℕ
room_for s piece = min (min (length piece) s.most) (s.room - length s.bytes)

-- what a write answers
abbrev pub sink_answer : SinkState → List ℕ → SinkAnswer
sink_answer s piece =
    if is_failing s.fails (raised s.calls) || (room_for s piece == 0 && not (length piece == 0))
    then sinks.Failed else sinks.Ok (room_for s piece)

-- the call is counted, and its answer
abbrev pub count_write : SinkState → List ℕ → SinkAnswer → SinkState
count_write s piece (sinks.Ok n) = record s { bytes = s.bytes ++ take n piece; calls = raised s.calls }
count_write s piece sinks.Failed = record s { calls = raised s.calls; faults = raised s.faults }

-- the sink after a write
abbrev pub after_write : SinkState → List ℕ → SinkAnswer → SinkState
after_write s piece answer = record (count_write s piece answer) { history = and_then s.history (wrote piece answer) }
