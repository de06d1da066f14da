-- believed
-- What the far side holds after its answers.
use Rattle.std.specs.Prelude.{ℕ, ◌≡◌, ◌⊎◌, List, [], ◌∷◌, ◌++◌, Option, None, Some, IsSomeAnd}
use Rattle.mdr_outside.specs.declared.far.LoadAnswer.{LoadAnswer}
use Rattle.mdr_outside.specs.declared.far.LoadAnswer.TheVariants as loads
use Rattle.mdr_outside.specs.declared.far.DeliverAnswer.{DeliverAnswer}
use Rattle.mdr_outside.specs.declared.far.DeliverAnswer.TheVariants as delivers
use Rattle.mdr_outside.specs.declared.far.Loaded.{Loaded}
use Rattle.mdr_outside.specs.declared.far.Exchange.{Exchange}

abbrev pub loaded_with : List ℕ → List ℕ → LoadAnswer → Loaded
loaded_with user plan answer = record { user = user; plan = plan; answer = answer }

abbrev pub exchange : List ℕ → Option (List ℕ) → Exchange
exchange sent got = record { sent = sent; got = got }

-- the two texts and the answer are held, but where memory was wanting nothing is
abbrev pub LoadsAs : List ℕ → List ℕ → LoadAnswer → Option Loaded → Type 0
LoadsAs user plan loads.Ok held = held ≡ Some (loaded_with user plan loads.Ok)
LoadsAs user plan (loads.Refused cause) held = held ≡ Some (loaded_with user plan (loads.Refused cause))
LoadsAs user plan loads.Failed held = held ≡ Some (loaded_with user plan loads.Failed)
LoadsAs user plan loads.OutOfMemory held = held ≡ None

-- the last load was answered Ok
abbrev pub IsLoaded : Option Loaded → Type 0
IsLoaded held = IsSomeAnd held (λ load. load.answer ≡ loads.Ok)

-- a message adds one exchange, without a reply where there was none. Where memory was wanting it may add none
abbrev pub Exchanges : List Exchange → List Exchange → List ℕ → DeliverAnswer → Type 0
Exchanges old new sent (delivers.Ok got) = new ≡ old ++ exchange sent (Some got) ∷ []
Exchanges old new sent delivers.Failed = new ≡ old ++ exchange sent None ∷ []
Exchanges old new sent delivers.OutOfMemory = (new ≡ old) ⊎ (new ≡ old ++ exchange sent None ∷ [])
