-- protocol
-- A far side that gives the answers that it was told to give.
use Rattle.std.specs.Prelude.{ℕ, ◌≡◌, ◌⊎◌, List, [], ◌∷◌, ◌++◌, Option, None, Some, unwrap_or, slice_get}
use Rattle.mdr_outside.specs.Calls.{FarCall, Sends, and_then}
use Rattle.mdr_outside.specs.Count.{raised}
use Rattle.mdr_outside.specs.Far.{exchange}
use Rattle.mdr_outside.specs.declared.far.LoadAnswer.{LoadAnswer}
use Rattle.mdr_outside.specs.declared.far.LoadAnswer.TheVariants as loads
use Rattle.mdr_outside.specs.declared.far.DeliverAnswer.{DeliverAnswer}
use Rattle.mdr_outside.specs.declared.far.DeliverAnswer.TheVariants as delivers
use Rattle.mdr_outside.specs.declared.far.Loaded.{Loaded}
use Rattle.mdr_outside.specs.declared.far.Exchange.{Exchange}

-- the answer to each load, the replies and how many were given, and what a far side holds
pub record FarState : Type 0 where
  pub load : LoadAnswer
  pub replies : List DeliverAnswer
  pub given : ℕ
  pub loaded : Option Loaded
  pub exchanges : List Exchange
  pub faults : ℕ
  pub calls : List FarCall

abbrev pub new_far : LoadAnswer → List DeliverAnswer → FarState
new_far load replies =
    record { load = load; replies = replies; given = 0; loaded = None; exchanges = []; faults = 0; calls = [] }

-- the reply at that place, and Failed past the last
abbrev pub reply_at : List DeliverAnswer → ℕ → DeliverAnswer
reply_at replies place = unwrap_or (slice_get replies place) delivers.Failed

-- the exchange that an answer adds, if it adds one
abbrev pub added : List ℕ → DeliverAnswer → List Exchange
added sent (delivers.Ok got) = exchange sent (Some got) ∷ []
added sent delivers.Failed = exchange sent None ∷ []
added sent delivers.OutOfMemory = []

-- the count of faults after a load
abbrev pub faults_after_load : ℕ → LoadAnswer → ℕ
faults_after_load faults loads.Ok = faults
faults_after_load faults (loads.Refused cause) = faults
faults_after_load faults loads.Failed = raised faults
faults_after_load faults loads.OutOfMemory = faults

-- the far side after a load which it holds so
abbrev pub after_load : FarState → Option Loaded → FarCall → LoadAnswer → FarState
after_load s loaded load answer =
    record s { loaded = loaded; exchanges = []; faults = faults_after_load s.faults answer; calls = and_then s.calls load }

-- the count of faults after a reply
abbrev pub faults_after : ℕ → DeliverAnswer → ℕ
faults_after faults (delivers.Ok got) = faults
faults_after faults delivers.Failed = raised faults
faults_after faults delivers.OutOfMemory = faults

-- the far side after it gave the next reply
abbrev pub after_reply : FarState → List ℕ → DeliverAnswer → FarState
after_reply s sent reply =
    record s { given = raised s.given; exchanges = s.exchanges ++ added sent reply; faults = faults_after s.faults reply; calls = and_then s.calls (Sends sent) }

-- memory was wanting and but for the call all is as before, or the next reply was given
abbrev pub Gives : FarState → FarState → List ℕ → DeliverAnswer → Type 0
Gives old new sent answer =
    ((answer ≡ delivers.OutOfMemory) × (new ≡ record old { calls = and_then old.calls (Sends sent) }))
    ⊎ ((answer ≡ reply_at old.replies old.given) × (new ≡ after_reply old sent answer))
