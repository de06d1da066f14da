-- Where something is loaded, the pointer is neither null nor dead.
use Rattle.std.proofs.Common.{◌≡◌, Bool, Ok}
use Rattle.mdr_core.specs.declared.program.Program.{Program}
use Rattle.mdr_core.specs.declared.types.Ty.{Ty}
use Rattle.mdr_meaning.specs.declared.wire.Wire.{Wire}
use Rattle.mdr_meaning.specs.declared.wire.Wire.TheVariants as wire
use Rattle.mdr_meaning.specs.Fit.{Knowledge, PointsTo}
use Rattle.mdr_model.specs.declared.memory.Cell.{Cell}
use Rattle.mdr_model.specs.Memory.{Memory, loaded, reached}
use Rattle.mdr_serves.proofs.Strict.{IsLoaded}

pub is_loaded : (program : Program) (K : Knowledge) (ty : Ty) (allowed : Cell → Bool) (m : Memory) (p v : Wire) → PointsTo program K ty p → loaded allowed m p ≡ Ok v → IsLoaded program K ty p
unfolding loaded reached
is_loaded program K ty allowed m (wire.Ptr p) v points e = points
is_loaded program K ty allowed m (wire.Int k n) v points e = elim points [ ]
is_loaded program K ty allowed m wire.Null v points e = absurd (Prim.cc)
is_loaded program K ty allowed m wire.Dead v points e = absurd (Prim.cc)
is_loaded program K ty allowed m (wire.Fn f) v points e = elim points [ ]
is_loaded program K ty allowed m (wire.Lock s) v points e = elim points [ ]
is_loaded program K ty allowed m wire.NoValue v points e = elim points [ ]
