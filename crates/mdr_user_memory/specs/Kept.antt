-- protocol
-- The fields of the user half's memory, as callers see them, and what holds of them.
use Rattle.mdr_model.specs.Agreement.{SerialsRise}
use Rattle.mdr_model.specs.Memory.{Memory}
use Rattle.mdr_region.specs.RowsView.{Reserved}
use Rattle.mdr_track.specs.Tracked.{Tracked, pairs_of}
use Rattle.mdr_user_memory.specs.Copied.{Past, past_of}
use Rattle.mdr_user_memory.specs.Lived.{HasLived, Lived}
use Rattle.mdr_user_memory.specs.Paired.{IsTwin, Paired}

-- between messages: the copy that both halves agree on, and a memory of one's own that goes with it through the pairs
pub record Kept : Type 0 where
  pub agreed : Memory
  pub region : Reserved
  pub pairs : Tracked

-- where it was begun
abbrev pub kept : Memory → Reserved → Tracked → Kept
kept agreed region pairs = record { agreed = agreed; region = region; pairs = pairs }

pub record IsKept (agreed : Memory) (region : Reserved) (pairs : Tracked) : Type 0 where
  pub paired : Paired agreed region.contents (pairs_of pairs)
  pub rises : SerialsRise agreed

-- what user code leaves as it is
abbrev pub past_in : Kept → Past
past_in k = past_of k.region k.pairs

-- these are its memory's births and deaths
abbrev pub IsLived : Lived → Kept → Type 0
IsLived l k = HasLived l k.region.contents.lives (pairs_of k.pairs)

-- whatever they were, they are then what is made of them
abbrev pub LivesTo : (Lived → Lived) → Kept → Kept → Type 0
LivesTo f k k' = (l : Lived) → IsLived l k → IsLived (f l) k'

-- while user code runs
pub record IsSeen (agreed : Memory) (region : Reserved) (pairs : Tracked) : Type 0 where
  pub twin : IsTwin agreed region.contents (pairs_of pairs)
  pub rises : SerialsRise agreed
