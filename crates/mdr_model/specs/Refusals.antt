-- for proofs
-- Replies that tell of a refused message.
use Rattle.std.specs.Prelude.{Bool, true, false}
use Rattle.mdr_model.specs.declared.message.Message.{Message}
use Rattle.mdr_model.specs.declared.message.Message.TheVariants as message

abbrev pub is_refusal : Message → Bool
is_refusal (message.Refuse reason) = true
is_refusal _ = false
