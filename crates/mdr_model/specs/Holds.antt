-- believed
-- Which values a lock's cell may hold.
use Rattle.mdr_meaning.specs.declared.wire.Wire.{Wire}
use Rattle.mdr_meaning.specs.declared.wire.Wire.TheVariants as wire

abbrev pub IsLockState : Wire → Type 0
IsLockState (wire.Lock s) = Unit {0}
IsLockState _ = ⊥
