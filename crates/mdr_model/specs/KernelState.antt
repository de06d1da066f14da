-- believed
-- What the kernel half gets for an answer.
use Rattle.std.specs.Prelude.{Result}
use Rattle.mdr_model.specs.declared.message.Fault.{Fault}
use Rattle.mdr_model.specs.declared.message.Message.{Message}

-- an answer as it was read: the message that its bytes are, or why they are none
abbrev pub Reading : Type 0
Reading = Result Message Fault
