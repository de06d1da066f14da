-- protocol
-- The fields of a sink in memory, as its state.
use Rattle.std.specs.Prelude.{◌≤◌, ◌<◌, length}
use Rattle.std.specs.Vec.{vec_capacity}
use Rattle.mdr_outside.specs.VecSink.{SinkState}
use Rattle.mdr_outside.specs.declared.vec_sink.VecSink.TheInside.{Inside}

abbrev pub sink_state : Inside → SinkState
sink_state s = record {
  bytes = s.bytes.items;
  room = s.room;
  most = s.most;
  fails = s.calls.fails;
  calls = s.calls.made;
  faults = s.faults;
  history = s.history;
}

-- the memory for all bytes is there
pub record HasRoom (s : Inside) : Type 0 where
  pub some : 0 < s.most
  pub within : length s.bytes.items ≤ s.room
  pub taken : s.room ≤ vec_capacity s.bytes
