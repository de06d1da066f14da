-- for proofs
-- Code that is run up to its next call of the other half, and then on.
use Rattle.std.specs.Prelude.{◌≡◌, ℕ, ◌≤◌}
use Rattle.mdr_meaning.specs.declared.wire.Wire.{Wire}
use Rattle.mdr_meaning.specs.Cut.{cut}
use Rattle.mdr_meaning.specs.Tree.{Tree}
use Rattle.mdr_plain.specs.Laws.{GivesNoTicks}
use Rattle.mdr_plain.specs.Running.{Before, Setting, Went, Gave, Calls, goes, run}
use Rattle.mdr_plain.specs.World.{World, Ran, after}
use Rattle.mdr_runs.specs.Around.{KeepsTicks}

-- what all of it comes to, with this around it
abbrev pub finishes : Setting → Before → Went → Ran Wire
finishes s before (Gave ran) = ran
finishes s before (Calls at f args d next w) = after (s.crosses at f args d w) (λ v w'. run s before (next v) w')

module _ (s : Setting) (before : Before) where
  -- code runs so
  abbrev pub GoesFinishes : Type 0
  GoesFinishes = (t : Tree) (w : World) → run s before t w ≡ finishes s before (goes s.accesses s.serves before t w)

  -- and of a tree no more counts than the ticks that are left
  abbrev pub GoesMayBeCut : Type 0
  GoesMayBeCut = (r : ℕ) (t : Tree) (w : World) → w.clock.rest ≤ r → goes s.accesses s.serves before (cut r t) w ≡ goes s.accesses s.serves before t w

-- where nothing gives a tick back
pub record EachSettingPauses : Type 0 where
  pub finishes : (s : Setting) (before : Before) → KeepsTicks s → GivesNoTicks before → GoesFinishes s before
  pub cut : (s : Setting) (before : Before) → KeepsTicks s → GivesNoTicks before → GoesMayBeCut s before
