-- protocol
-- What the user half's state makes of a message that comes as bytes.
use Rattle.std.specs.Prelude.{ℕ, List, [], ◌∷◌, ◌++◌}
use Rattle.mdr_model.specs.Bytes.{readings}
use Rattle.mdr_over_bytes.specs.OverBytes.{IsHonestReply}
use Rattle.mdr_user_code.specs.declared.state.State.{State}
use Rattle.mdr_user_code.specs.Standing.{Follows}
use Rattle.mdr_watched.specs.Driver.{Driver}

-- the reply is an honest one, whatever messages came before
abbrev pub IsRepliedTo : Driver → State → (bytes reply : List ℕ) → Type 0
IsRepliedTo d s bytes reply = (before : List (List ℕ)) → Follows d (readings before) s → IsHonestReply d before bytes reply

-- and what is open behind it follows that message too
abbrev pub GoesOnBehind : Driver → State → (bytes : List ℕ) → State → Type 0
GoesOnBehind d s bytes s' = (before : List (List ℕ)) → Follows d (readings before) s → Follows d (readings (before ++ bytes ∷ [])) s'
