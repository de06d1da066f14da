-- for proofs
-- Messages that the user half refuses: the reply to some messages is the reply to them without those.
use Rattle.std.specs.Prelude.{◌≡◌, ℕ, true, cond, List, [], ◌∷◌, ◌++◌}
use Rattle.mdr_model.specs.KernelState.{Reading}
use Rattle.mdr_model.specs.Refusals.{is_refusal}
use Rattle.mdr_split.specs.User.{User, deliver, user_reply}
use Rattle.mdr_watched.specs.Driver.{Driver}

-- a refused message leaves what the user half holds
abbrev pub RefusedLeavesUser : Type 0
RefusedLeavesUser = (d : Driver) (fuel : ℕ) (u : User) (m : Reading) → is_refusal (deliver d fuel u m).reply ≡ true → (deliver d fuel u m).user ≡ u

-- those of some messages that are accepted, where others came before
unfoldable pub accepted : Driver → (before messages : List Reading) → List Reading
accepted d before [] = []
accepted d before (m ∷ messages) =
    let later : List Reading = accepted d (before ++ m ∷ []) messages in
    cond (is_refusal (user_reply d before m)) later (m ∷ later)

-- refused messages can be left out, for every driver and whatever came
abbrev pub RefusedAreLeftOut : Type 0
RefusedAreLeftOut = (d : Driver) (before : List Reading) (last : Reading) → user_reply d before last ≡ user_reply d (accepted d [] before) last
