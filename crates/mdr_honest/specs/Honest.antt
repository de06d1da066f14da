-- believed
-- A far side that answers as the user half.
use Rattle.std.specs.Prelude.{◌≡◌, ℕ, List, [], Option, Some, None}
use Rattle.mdr_core.specs.declared.plan.Plan.{Plan}
use Rattle.mdr_core.specs.declared.program.Program.{Program}
use Rattle.mdr_half_source.specs.Loads.{AreLoadable, AreRefused, Loads}
use Rattle.mdr_exchanges.specs.Meanings.{Honest}
use Rattle.mdr_outside.specs.declared.far.Exchange.{Exchange}
use Rattle.mdr_outside.specs.declared.far.LoadAnswer.{LoadAnswer}
use Rattle.mdr_outside.specs.declared.far.LoadAnswer.TheVariants as loads
use Rattle.mdr_outside.specs.declared.far.Loaded.{Loaded}
use Rattle.mdr_watched.specs.Driver.{driver_of}

-- ---- loads

-- a load is answered by what the texts are. One that failed says nothing, and one that wanted memory isn't held
abbrev pub IsHonestLoad : (user plan_text : List ℕ) → LoadAnswer → Type 0
IsHonestLoad user plan_text loads.Ok = AreLoadable user plan_text
IsHonestLoad user plan_text (loads.Refused cause) = AreRefused user plan_text cause
IsHonestLoad user plan_text loads.Failed = Unit {0}
IsHonestLoad user plan_text loads.OutOfMemory = ⊥

-- ---- a far side

-- the load is honest, and the replies since then are those of the user half that it loads
pub record IsHonestSince (l : Loaded) (es : List Exchange) : Type 0 where
  pub load : IsHonestLoad l.user l.plan l.answer
  pub served : (program : Program) (plan : Plan) → Loads l.user l.plan program plan → Honest (driver_of program plan) [] es

-- what a far side holds is what an honest one would: without a load there is no exchange
abbrev pub IsHonest : Option Loaded → List Exchange → Type 0
IsHonest None es = es ≡ []
IsHonest (Some l) es = IsHonestSince l es
