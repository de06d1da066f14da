-- protocol
-- The fields of the user half, as what callers see, and what holds of them.
use Rattle.std.specs.Prelude.{◌≡◌, true, false, [], IfSome, is_some, option_map}
use Rattle.mdr_core.specs.Sound.{IsSound}
use Rattle.mdr_exchanges.specs.Runs.{sent_of}
use Rattle.mdr_exchanges.specs.Meanings.{Honest}
use Rattle.mdr_model.specs.Bytes.{readings}
use Rattle.mdr_user_code.specs.Standing.{Follows, IsFit}
use Rattle.mdr_watched.specs.Driver.{driver_of}
use Rattle.mdr_far.specs.declared.half.UserHalf.TheInside.{Inside}
use Rattle.mdr_far.specs.Halves.{HalfState}

abbrev pub half_state : Inside → HalfState
half_state s = record { program = s.program; plan = s.plan; exchanges = s.exchanges; memory = option_map (λ state. state.memory) s.state }

pub record IsKeptHalf (s : Inside) : Type 0 where
  pub sound : IsSound s.program
  pub fit : IsFit s.plan s.program
  pub honest : Honest (driver_of s.program s.plan) [] s.exchanges
  -- where no state is kept memory was wanting
  pub wanting : is_some s.state ≡ false → is_some s.wanted ≡ true
  pub follows : IfSome s.state (λ state. Follows (driver_of s.program s.plan) (readings (sent_of s.exchanges)) state)
