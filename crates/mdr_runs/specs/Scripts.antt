-- protocol
-- One tick in which no code runs.
use Rattle.std.specs.Prelude.{None}
use Rattle.mdr_plain.specs.Running.{Before}
use Rattle.mdr_plain.specs.World.{World, Work, done, then, ticked}

-- what is tried before it, and the tick
abbrev pub idle_tick : Before → World → Work
idle_tick before w = then (before 0 w) (λ w'. ticked None w' done)
