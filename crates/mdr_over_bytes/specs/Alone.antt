-- for proofs
-- No legal reply's bytes begin another's.
use Rattle.std.specs.Prelude.{◌≡◌, ℕ, List, [], ◌++◌}
use Rattle.mdr_model.specs.Reading.{reading_of}
use Rattle.mdr_split.specs.AnyAnswers.{IsLegal}
use Rattle.mdr_split.specs.State.{Kernel, Open, Rest}
use Rattle.mdr_watched.specs.Driver.{Driver}
use Rattle.mdr_xdr.specs.Bytes.{IsBytes}

-- these bytes are a legal reply somewhere: where some driver's kernel half waits in some state
pub record IsLegalSomewhere (bytes : List ℕ) : Type 0 where
  pub driver : Driver
  pub kernel : Kernel
  pub upcall : Open
  pub rest : Rest
  pub legal : IsLegal driver kernel upcall rest (reading_of bytes)

-- a legal reply with its end cut off is legal nowhere, nor is one with bytes added
abbrev pub LegalRepliesStandAlone : Type 0
LegalRepliesStandAlone = (front back : List ℕ) → IsBytes (front ++ back) → IsLegalSomewhere front → IsLegalSomewhere (front ++ back) → back ≡ []
