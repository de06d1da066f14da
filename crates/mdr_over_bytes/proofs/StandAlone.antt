-- A legal reply with its end cut off is no legal reply, nor is one with bytes added.
use Rattle.std.proofs.Common.{◌≡◌, ℕ, List, ◌++◌, Ok, Err, refl}
use Rattle.mdr_model.specs.declared.message.Message.{Message}
use Rattle.mdr_model.specs.KernelState.{Reading}
use Rattle.mdr_msg.proofs.Prefixes.{stands_alone}
use Rattle.mdr_msg.specs.Alone.{IsRead}
use Rattle.mdr_split.specs.AnyAnswers.{IsLegal}
use Rattle.mdr_split.specs.State.{Kernel, Open, Rest}
use Rattle.mdr_watched.specs.Driver.{Driver}
use Rattle.mdr_over_bytes.specs.Alone.{IsLegalSomewhere, LegalRepliesStandAlone}

-- what is legal was read as a message
message_in : (d : Driver) (k : Kernel) (upcall : Open) (rest : Rest) (a : Reading) → IsLegal d k upcall rest a → (m : Message) × (a ≡ Ok m)
message_in d k upcall rest (Err f) legal = absurd (Prim.cc)
message_in d k upcall rest (Ok m) legal = (m, refl)

is_read : (bytes : List ℕ) → IsLegalSomewhere bytes → IsRead bytes
is_read bytes l = message_in l.driver l.kernel l.upcall l.rest _ l.legal

pub stand_alone : LegalRepliesStandAlone
stand_alone front back are short long = (stands_alone (front ++ back) are (is_read (front ++ back) long)).cut front back refl (is_read front short)
