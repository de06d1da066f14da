-- protocol
-- The statuses that a run over two halves ends with.
use Rattle.mdr_due.specs.declared.status.Status.{Status}
use Rattle.mdr_due.specs.declared.status.Status.TheVariants as status

-- once its source and its script are accepted
abbrev pub IsOfRun : Status → Type 0
IsOfRun status.Done = Unit {0}
IsOfRun status.Usage = ⊥
IsOfRun status.SourceRefused = ⊥
IsOfRun status.ScriptRefused = ⊥
IsOfRun status.ReadFault = ⊥
IsOfRun status.WriteFault = ⊥
IsOfRun status.FarFault = Unit {0}
IsOfRun status.Marshal = Unit {0}
IsOfRun status.Stopped = Unit {0}
IsOfRun status.OutOfMemory = ⊥
IsOfRun status.Missing = ⊥
IsOfRun status.TooLarge = ⊥
IsOfRun status.HalvesRefused = ⊥
IsOfRun status.NotVerified = ⊥
