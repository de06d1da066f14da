-- Which statuses tell of no run.
use Rattle.std.proofs.Common.{◌≡◌, ◌⊎◌, inl, inr, subst}
use Rattle.mdr_due.specs.declared.status.Status.{Status}
use Rattle.mdr_due.specs.declared.status.Status.TheVariants as status
use Rattle.mdr_top.proofs.Statuses.{HoldsSourceless}

-- a status that tells of no run
abbrev pub IsEarly : Status → Type 0
IsEarly status.Done = ⊥
IsEarly status.Usage = Unit {0}
IsEarly status.SourceRefused = Unit {0}
IsEarly status.ScriptRefused = Unit {0}
IsEarly status.ReadFault = Unit {0}
IsEarly status.WriteFault = Unit {0}
IsEarly status.FarFault = ⊥
IsEarly status.Marshal = ⊥
IsEarly status.Stopped = ⊥
IsEarly status.OutOfMemory = Unit {0}
IsEarly status.Missing = Unit {0}
IsEarly status.TooLarge = Unit {0}
IsEarly status.HalvesRefused = Unit {0}
IsEarly status.NotVerified = Unit {0}

-- so is each with which there is no source
pub early_sourceless : HoldsSourceless IsEarly
early_sourceless = record { missing = tt; long = tt; failed = tt; refused = tt }

pub not_early : (s : Status) → IsEarly s → (s ≡ status.Done) ⊎ (s ≡ status.Stopped) → ⊥
not_early s early (inl e) = subst IsEarly e early
not_early s early (inr e) = subst IsEarly e early
