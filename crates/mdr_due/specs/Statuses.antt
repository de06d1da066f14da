-- protocol
-- The numbers of statuses, and what their causes are.
use Rattle.std.specs.Prelude.{ℕ}
use Rattle.mdr_outside.specs.Count.{Rose}
use Rattle.mdr_outside.specs.Sides.{ShelfSide}
use Rattle.mdr_due.specs.declared.status.Status.{Status}
use Rattle.mdr_due.specs.declared.status.Status.TheVariants as status

abbrev pub number_of : Status → ℕ
number_of status.Done = 0
number_of status.Usage = 1
number_of status.SourceRefused = 2
number_of status.ScriptRefused = 3
number_of status.ReadFault = 4
number_of status.WriteFault = 5
number_of status.FarFault = 6
number_of status.Marshal = 7
number_of status.Stopped = 8
number_of status.OutOfMemory = 9
number_of status.Missing = 10
number_of status.TooLarge = 11
number_of status.HalvesRefused = 12
number_of status.NotVerified = 13

-- the shelf's counts of reads that failed, that missed and that were too long, before and after
pub record Counts : Type 0 where
  pub faults : ℕ
  pub absent : ℕ
  pub long : ℕ

-- a status that tells of a file comes only where its count rose
abbrev pub HasReadCause : (before after : Counts) → Status → Type 0
HasReadCause before after status.ReadFault = Rose before.faults after.faults
HasReadCause before after status.Missing = Rose before.absent after.absent
HasReadCause before after status.TooLarge = Rose before.long after.long
HasReadCause before after status.Done = Unit {0}
HasReadCause before after status.Usage = Unit {0}
HasReadCause before after status.SourceRefused = Unit {0}
HasReadCause before after status.ScriptRefused = Unit {0}
HasReadCause before after status.WriteFault = Unit {0}
HasReadCause before after status.FarFault = Unit {0}
HasReadCause before after status.Marshal = Unit {0}
HasReadCause before after status.Stopped = Unit {0}
HasReadCause before after status.OutOfMemory = Unit {0}
HasReadCause before after status.HalvesRefused = Unit {0}
HasReadCause before after status.NotVerified = Unit {0}

-- what a shelf has counted so far, and the same of its answers between two moments
abbrev pub counts_in : ShelfSide → Counts
counts_in s = record { faults = s.faults; absent = s.absent; long = s.long }

abbrev pub ReadCause : (before after : ShelfSide) → Status → Type 0
ReadCause before after s = HasReadCause (counts_in before) (counts_in after) s
