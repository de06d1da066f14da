-- protocol
-- A far side in the same process.
use Rattle.std.specs.Prelude.{◌≡◌, ℕ, List, [], Option, Some, None}
use Rattle.mdr_half_source.specs.Loads.{AreRefused, Loads}
use Rattle.mdr_outside.specs.Calls.{FarCall}
use Rattle.mdr_outside.specs.declared.far.Loaded.{Loaded}
use Rattle.mdr_outside.specs.declared.far.Exchange.{Exchange}
use Rattle.mdr_outside.specs.declared.far.LoadAnswer.{LoadAnswer}
use Rattle.mdr_outside.specs.declared.far.LoadAnswer.TheVariants as answers
use Rattle.mdr_outside.specs.Far.{loaded_with}
use Rattle.mdr_far.specs.Halves.{HalfState, IsLoadedFrom}

-- what a far side holds
pub record Held : Type 0 where
  pub loaded : Option Loaded
  pub exchanges : List Exchange
  pub calls : List FarCall

abbrev pub exchanges_of : Option HalfState → List Exchange
exchanges_of None = []
exchanges_of (Some h) = h.exchanges

-- a half is there that the texts load
pub record IsHalfOf (l : Loaded) (h : HalfState) : Type 0 where
  pub loads : Loads l.user l.plan h.program h.plan
  pub answered : l.answer ≡ answers.Ok

-- a half is there where the load was answered Ok, and else none
abbrev pub Serves : Option Loaded → Option HalfState → Type 0
Serves None None = Unit {0}
Serves None (Some h) = ⊥
Serves (Some l) None = l.answer ≡ answers.Ok → ⊥
Serves (Some l) (Some h) = IsHalfOf l h

-- two texts are answered by the half that they load, or by why they load none
abbrev pub Answered : (user text : List ℕ) → Option HalfState → LoadAnswer → Type 0
Answered user text None answers.Ok = ⊥
Answered user text (Some h) answers.Ok = IsLoadedFrom user text h
Answered user text None (answers.Refused cause) = AreRefused user text cause
Answered user text (Some h) (answers.Refused cause) = ⊥
Answered user text half answers.Failed = ⊥
Answered user text half answers.OutOfMemory = ⊥

-- a load of two texts, with the half that is there behind it
pub record IsOpened (user text : List ℕ) (half : Option HalfState) (l : Loaded) : Type 0 where
  pub answered : Answered user text half l.answer
  pub load : l ≡ loaded_with user text l.answer
