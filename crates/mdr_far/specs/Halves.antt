-- protocol
-- The user half, as callers see it.
use Rattle.std.specs.Prelude.{◌≡◌, ℕ, List, [], ◌∷◌, ◌++◌, Option, Some, None, Result, Ok, Err}
use Rattle.mdr_core.specs.declared.plan.Plan.{Plan}
use Rattle.mdr_core.specs.declared.program.Program.{Program}
use Rattle.mdr_exchanges.specs.Runs.{sent_of}
use Rattle.mdr_half_source.specs.declared.outcome.HalfSource.{HalfSource}
use Rattle.mdr_half_source.specs.Loads.{AreRefused, Loads}
use Rattle.mdr_outside.specs.Far.{exchange}
use Rattle.mdr_outside.specs.declared.far.Exchange.{Exchange}
use Rattle.mdr_over_bytes.specs.OverBytes.{user_reply_to_bytes}
use Rattle.mdr_user_memory.specs.Kept.{Kept}
use Rattle.mdr_watched.specs.Driver.{Driver, driver_of}
use Rattle.mdr_far.specs.declared.load_error.LoadError.TheVariants as reasons
use Rattle.mdr_far.specs.declared.load_error.LoadError.{LoadError}

-- the program and the plan, the messages since the load with their replies, and the half's own memory with its pairs, unless memory was wanting once
pub record HalfState : Type 0 where
  pub program : Program
  pub plan : Plan
  pub exchanges : List Exchange
  pub memory : Option Kept

abbrev pub driver_in : HalfState → Driver
driver_in h = driver_of h.program h.plan

abbrev pub new_half : Program → Plan → Option Kept → HalfState
new_half program plan memory = record { program = program; plan = plan; exchanges = []; memory = memory }

-- after a message that was replied to, with this memory, and after one for which memory was wanting
abbrev pub after_reply : HalfState → List ℕ → List ℕ → Option Kept → HalfState
after_reply h sent reply memory = record h { exchanges = h.exchanges ++ exchange sent (Some reply) ∷ []; memory = memory }

abbrev pub lost : HalfState → HalfState
lost h = record h { memory = None }

-- whatever messages come, one half replies to them as the other
abbrev pub ReplyAlike : HalfState → HalfState → Type 0
ReplyAlike h h' =
    (more : List (List ℕ)) (last : List ℕ)
    → user_reply_to_bytes (driver_in h) (sent_of h.exchanges ++ more) last ≡ user_reply_to_bytes (driver_in h') (sent_of h'.exchanges ++ more) last

-- a half is the one that the texts load
pub record IsLoadedFrom (user text : List ℕ) (h : HalfState) : Type 0 where
  pub loads : Loads user text h.program h.plan
  pub begins : h.exchanges ≡ []

-- the texts are refused for one of two causes. Want of memory says nothing
abbrev pub FailToLoad : List ℕ → List ℕ → LoadError → Type 0
FailToLoad user text reasons.Plan = AreRefused user text 1
FailToLoad user text reasons.Source = AreRefused user text 2
FailToLoad user text reasons.OutOfMemory = Unit {0}

-- the texts are refused exactly where they load no half, unless memory was wanting
abbrev pub Load : List ℕ → List ℕ → Result HalfState LoadError → Type 0
Load user text (Ok h) = IsLoadedFrom user text h
Load user text (Err e) = FailToLoad user text e

-- the same before the half begins
abbrev pub ReadAs : List ℕ → List ℕ → Result HalfSource LoadError → Type 0
ReadAs user text (Ok h) = Loads user text h.program h.plan
ReadAs user text (Err e) = FailToLoad user text e
