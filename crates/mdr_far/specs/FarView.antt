-- protocol
-- The fields of a far side in the same process, as what it holds, and what holds of them.
use Rattle.mdr_far.specs.declared.local_far.LocalFar.TheInside.{Inside}
use Rattle.mdr_honest.specs.Honest.{IsHonest}
use Rattle.mdr_far.specs.Fars.{Held, exchanges_of, Serves}

abbrev pub held : Inside → Held
held s = record { loaded = s.loaded; exchanges = exchanges_of s.half; calls = s.calls }

pub record IsKeptFar (s : Inside) : Type 0 where
  pub honest : IsHonest s.loaded (exchanges_of s.half)
  pub serves : Serves s.loaded s.half
