-- believed
-- What a law over split runs says of messages and of ends.
use Rattle.std.specs.Prelude.{List, [], ◌∷◌, Ok}
use Rattle.mdr_model.specs.declared.message.Message.{Message}
use Rattle.mdr_model.specs.declared.outcome.End.{End}
use Rattle.mdr_model.specs.declared.outcome.End.TheVariants as ends
use Rattle.mdr_model.specs.KernelState.{Reading}

-- messages that were read
abbrev pub read : List Message → List Reading
read [] = []
read (m ∷ ms) = Ok m ∷ read ms

-- no reply was refused, and the far side didn't fail
abbrev pub IsOwn : End → Type 0
IsOwn ends.Ok = Unit {0}
IsOwn (ends.Stop kind at) = Unit {0}
IsOwn (ends.Refused exchange cause number) = ⊥
IsOwn (ends.FarFault exchange) = ⊥
