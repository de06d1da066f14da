-- protocol
-- How the code's run ends.
use Rattle.std.specs.Prelude.{ℕ, List}
use Rattle.mdr_exchanges.specs.Runs.{HasEnded}
use Rattle.mdr_model.specs.declared.outcome.End.{End}
use Rattle.mdr_outside.specs.declared.far.Exchange.{Exchange}
use Rattle.mdr_plain.specs.World.{World}
use Rattle.mdr_bound.specs.declared.bound.Bound.{Bound}
use Rattle.mdr_split.specs.State.{Kernel}
use Rattle.mdr_turns.specs.Coming.{IsLeft}
use Rattle.mdr_watched.specs.Driver.{Driver}

-- the run over these exchanges ended so, in this world but for the sets of an open upcall, of which nothing is shown
pub record EndsIn (d : Driver) (script : Bound) (budget : ℕ) (es : List Exchange) (end : End) (w : World) : Type 0 where
  pub kernel : Kernel
  pub ended : HasEnded d script budget es end kernel
  pub left : IsLeft kernel.world w
