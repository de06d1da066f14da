-- protocol
-- What is told of the user half's own memory, which goes with the definition's by the kernel's serials.
use Rattle.std.specs.Prelude.{Option, Some, None}
use Rattle.mdr_exchanges.specs.Runs.{sent_of}
use Rattle.mdr_mem.specs.Contents.{Contents}
use Rattle.mdr_model.specs.Bytes.{readings}
use Rattle.mdr_model.specs.Memory.{Memory}
use Rattle.mdr_track.specs.Pairs.{Pairs}
use Rattle.mdr_track.specs.Tracked.{pairs_of}
use Rattle.mdr_user_code.specs.Standing.{lived_after, user_memory}
use Rattle.mdr_user_memory.specs.Kept.{IsLived, Kept}
use Rattle.mdr_user_memory.specs.Lived.{Lived}
use Rattle.mdr_user_memory.specs.Paired.{Paired}
use Rattle.mdr_far.specs.Halves.{HalfState, driver_in}

-- the memory of the definition's user half after all messages since the load, by the kernel's serials
abbrev pub memory_of : HalfState → Memory
memory_of h = user_memory (driver_in h) (readings (sent_of h.exchanges))

-- a half's own memory is there, and goes with this one through its pairs
abbrev pub GoesWith : Memory → Option Kept → Type 0
GoesWith m None = ⊥
GoesWith m (Some u) = Paired m u.region.contents (pairs_of u.pairs)

-- the half holds the definition's memory: the paired serials are those of its live blocks, each is live in the half's own memory with its kind and shape, no other block is, and each cell has its value, with pointers taken through the pairs
abbrev pub HoldsMemory : HalfState → Type 0
HoldsMemory h = GoesWith (memory_of h) h.memory

-- a memory goes with this one through these pairs
pub record ArePairsOf (m : Memory) (pairs : Pairs) : Type 0 where
  pub contents : Contents
  pub paired : Paired m contents pairs

-- the births and deaths that messages tell the half: of the globals, and then of each message that wasn't refused, its deaths before its births
abbrev pub lived_in : HalfState → Lived
lived_in h = lived_after (driver_in h) (readings (sent_of h.exchanges))

abbrev pub AreIts : Lived → Option Kept → Type 0
AreIts l None = ⊥
AreIts l (Some u) = IsLived l u

-- they are those of its own memory, in their order
abbrev pub HasLived : HalfState → Type 0
HasLived h = AreIts (lived_in h) h.memory
