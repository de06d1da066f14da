-- protocol
-- What writing one file says.
use Rattle.std.specs.Prelude.{List}
use Rattle.mdr_outside.specs.Calls.{ShelfCall}
use Rattle.mdr_outside.specs.declared.shelf.WriteAnswer.TheVariants as writes
use Rattle.mdr_due.specs.declared.due.Stage.{Stage}
use Rattle.mdr_due.specs.Reads.{Files}
use Rattle.mdr_due.specs.Stages.{StageIs}
use Rattle.mdr_slicer.specs.Outputs.{NamedBytes}
use Rattle.mdr_slicer.specs.Writes.{IsPut, IsUnput}

-- it is written, or this is due for it
abbrev pub StagePuts : (files files' : Files) (file : NamedBytes) (old new : List ShelfCall) → Stage (Unit {0}) → Type 0
StagePuts files files' file old new s = StageIs (λ _. IsPut files files' file old new writes.Ok) (IsUnput files files' file old new) s
