-- for proofs
-- No message's bytes begin another's: with their end cut off, or with bytes added, they are no message.
use Rattle.std.specs.Prelude.{◌≡◌, ℕ, List, [], ◌++◌, Ok}
use Rattle.mdr_model.specs.declared.message.Message.{Message}
use Rattle.mdr_model.specs.Reading.{reading_of}
use Rattle.mdr_xdr.specs.Bytes.{IsBytes}

-- the bytes read as a message, as those of each legal reply do
abbrev pub IsRead : List ℕ → Type 0
IsRead bytes = (m : Message) × (reading_of bytes ≡ Ok m)

-- beside these bytes:
pub record StandsAlone (bytes : List ℕ) : Type 0 where
  -- a message at their front is all of them
  pub cut : (front back : List ℕ) → bytes ≡ front ++ back → IsRead front → back ≡ []
  -- a message that begins with them is no longer
  pub added : (more : List ℕ) → IsBytes more → IsRead (bytes ++ more) → more ≡ []

-- each message stands alone
abbrev pub MessagesStandAlone : Type 0
MessagesStandAlone = (bytes : List ℕ) → IsBytes bytes → IsRead bytes → StandsAlone bytes
