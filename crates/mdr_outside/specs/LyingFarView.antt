-- protocol
-- The fields of a lying far side, as its state.
use Rattle.mdr_outside.specs.LyingFar.{FarState}
use Rattle.mdr_outside.specs.declared.lying_far.LyingFar.TheInside.{Inside}

abbrev pub far_state : Inside → FarState
far_state s = record {
  load = s.load;
  replies = s.replies;
  given = s.given;
  loaded = s.loaded;
  exchanges = s.exchanges;
  faults = s.faults;
  calls = s.calls;
}
